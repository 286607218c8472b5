use Rattle.std.proofs.Common.{◌≡◌, sym, subst, Option, Some}
use Rattle.std.specs.Prelude.{Result}
use Rattle.comp_graph.specs.declared.graph.FuncRef.{FuncRef}
use Rattle.link_spec.specs.declared.fault.LinkWhy.{LinkWhy}
use Rattle.link_spec.specs.declared.fault.LinkWhy.TheVariants as why
use Rattle.link_spec.specs.Computed.{destructor_at}
use Rattle.link_parts.specs.Told.{IsTold}
use Rattle.link_parts.proofs.Told.{told_why}
use Rattle.link_state.specs.State.{world_of}
use Rattle.comp_link.proofs.ResourceParts.{no_item, at_item}
use Rattle.comp_link.proofs.resources.core_destructor.Goals as goal

abbrev IsCore : Option FuncRef → Option FuncRef → Type 0
IsCore core of_item = core ≡ of_item

pub returns-in_default : goal.returns-in_default
returns-in_default c = λ bases l s at.
    let k = c.args.linker.now in
    told_why IsCore why.Index (destructor_at s (Some c.args.index)) (no_item s c.args.index (sym (c.in_default.ensures k.types (world_of bases k) s (c.scope.ensures bases l s at))))

pub returns : goal.returns
returns c = λ bases l s at.
    let k = c.args.linker.now in
    subst (λ (r : Result (Option FuncRef) LinkWhy). IsTold IsCore c.destructor_of.result r) (sym (at_item s c.args.index c.in-Some.item (sym (c.in-Some.ensures k.types (world_of bases k) s (c.scope.ensures bases l s at))))) c.destructor_of.ensures

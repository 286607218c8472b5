use Rattle.std.proofs.Common.{◌≡◌, ◌∙◌, sym, ap, refl, true, false, Option}
use Rattle.syntax_trees.specs.declared.module_types.FuncType.{FuncType}
use Rattle.comp_graph.specs.Needs.{destructor_type}
use Rattle.comp_graph.specs.declared.graph.FuncRef.{FuncRef}
use Rattle.link_spec.specs.declared.fault.LinkWhy.TheVariants as why
use Rattle.link_spec.specs.Canons.{is_of_core_type}
use Rattle.link_spec.specs.Computed.{destructor_of}
use Rattle.link_parts.proofs.Told.{told_why, told_value}
use Rattle.link_items.proofs.ResourceParts.{not_destructor, no_core, is_destructor}
use Rattle.link_items.proofs.resources.destructor_of.Goals as goal

abbrev IsCore : Option FuncRef → Option FuncRef → Type 0
IsCore core of_item = core ≡ of_item

pub returns-then-not-is_of_type : goal.returns-then-not-is_of_type
returns-then-not-is_of_type c =
    let item = c.args.item.now in
    told_why IsCore why.Canon (destructor_of item)
    (not_destructor item (ap (λ (t : FuncType). is_of_core_type t item) (sym c.destructor_type.ensures) ∙ sym c.is_of_type.ensures ∙ c.if-not-is_of_type.true))

pub returns-in_default : goal.returns-in_default
returns-in_default c =
    let item = c.args.item.now in
    told_why IsCore why.Canon (destructor_of item)
    (no_core item (ap (λ (t : FuncType). is_of_core_type t item) (sym c.destructor_type.ensures) ∙ sym c.is_of_type.ensures ∙ c.if-not-is_of_type.false) (sym c.core_func.ensures ∙ c.in_default.is))

pub returns : goal.returns
returns c =
    let item = c.args.item.now in
    told_value IsCore _ _ (destructor_of item)
    (is_destructor item c.in-Some.core (ap (λ (t : FuncType). is_of_core_type t item) (sym c.destructor_type.ensures) ∙ sym c.is_of_type.ensures ∙ c.if-not-is_of_type.false) (sym c.core_func.ensures ∙ c.in-Some.is)) refl

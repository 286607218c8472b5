use Rattle.std.proofs.Common.{true, ◌∷◌, ◌∙◌, ap}
use Rattle.std.specs.Prelude.{Result, Ok}
use Rattle.link_spec.specs.declared.fault.LinkWhy.{LinkWhy}
use Rattle.link_spec.specs.Spaces.{levels_at}
use Rattle.link_spec.specs.Items.{type_made}
use Rattle.link_spec.specs.Types.{meaning_of}
use Rattle.link_spec.specs.Computed.{Outcome, type_outcome}
use Rattle.link_parts.proofs.Told.{value_told}
use Rattle.link_state.proofs.Made.{made_told}
use Rattle.comp_link.specs.Ready.{IsTyped}
use Rattle.comp_link.proofs.types.link_closed.Goals as goal

pub returns-clause-made : goal.returns-clause-made
returns-clause-made c = λ bases l s at.
    let n = c.args.n in
    let outcome = type_outcome l n s (meaning_of c.args.def_type.now (levels_at l (n ∷ s.around))) in
    let f = value_told (IsTyped c.type_meant.new.linker.types l n s) c.in_ok-meant.meant outcome (c.in_ok-meant.ensures.made bases l s at) in
    made_told c.add_type.new.self bases outcome (type_made l n s true f.2.0) (f.1 ∙ ap (λ (o : Outcome). (let r : Result Outcome LinkWhy = Ok o in r)) f.2.2)
    (c.in_ok-add_type.ensures.ok bases l s f.2.0 (c.in_ok-meant.ensures.at bases l s at) f.2.1)

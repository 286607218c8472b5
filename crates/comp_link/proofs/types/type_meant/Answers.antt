use Rattle.std.proofs.Common.{◌≡◌, ◌∷◌, true, refl, sym, ap, ◌∙◌, None}
use Rattle.std.specs.Option.{option_map}
use Rattle.link_spec.specs.declared.fault.LinkWhy.TheVariants as why
use Rattle.link_spec.specs.Spaces.{levels_at}
use Rattle.link_spec.specs.Items.{type_made}
use Rattle.link_spec.specs.Types.{meaning_of}
use Rattle.link_spec.specs.Computed.{Makes, type_outcome}
use Rattle.link_types.specs.Table.{IsType}
use Rattle.link_meanings.specs.Meant.{text_of}
use Rattle.link_parts.proofs.Told.{reason_is, told_value}
use Rattle.link_state.proofs.Steps.{some_found}
use Rattle.comp_link.specs.Ready.{IsTyped}
use Rattle.comp_link.proofs.Wanting.{type_told, type_deep}
use Rattle.comp_link.proofs.types.type_meant.Goals as goal

pub returns-then-meant-clause-made : goal.returns-then-meant-clause-made
returns-then-meant-clause-made c = λ bases l s at.
    let k = c.meaning_at.new.linker in
    let n = c.args.n in
    let meaning = meaning_of c.args.def_type.now (levels_at l (n ∷ s.around)) in
    let m = c.in_ok-meant.ensures.means bases l s at in
    let none : meaning.missing ≡ None = sym m.missing ∙ ap (option_map text_of) c.in_default.is in
    let one = some_found (IsType k.types) c.in_ok-meant.meant.means c.in-Some-means.closed meaning.means c.in-Some-means.is m.means in
    reason_is why.Limit (type_outcome l n s meaning)
    (type_deep l n s meaning one.0 (sym m.is_there ∙ c.if-not-meant.false) none one.1 (sym m.deep ∙ c.if-meant.true))

pub returns-clause-made : goal.returns-clause-made
returns-clause-made c = λ bases l s at.
    let k = c.meaning_at.new.linker in
    let n = c.args.n in
    let meaning = meaning_of c.args.def_type.now (levels_at l (n ∷ s.around)) in
    let m = c.in_ok-meant.ensures.means bases l s at in
    let none : meaning.missing ≡ None = sym m.missing ∙ ap (option_map text_of) c.in_default.is in
    let one = some_found (IsType k.types) c.in_ok-meant.meant.means c.in-Some-means.closed meaning.means c.in-Some-means.is m.means in
    told_value (IsTyped k.types l n s) c.in-Some-means.closed (Makes (type_made l n s true one.0)) (type_outcome l n s meaning)
    (type_told l n s meaning one.0 (sym m.is_there ∙ c.if-not-meant.false) none one.1 (sym m.deep ∙ c.if-meant.false) m.has_room)
    (one.0, one.2, refl)

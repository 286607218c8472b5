use Rattle.std.proofs.Common.{◌∙◌, ap, sym, Option, Some}
use Rattle.link_values.specs.declared.refs.TypeRef.{TypeRef}
use Rattle.link_meanings.specs.Levels.{enclosed_types}
use Rattle.link_meanings.proofs.ExternsMeant.{described_absent, described_none, described_some}
use Rattle.link_meanings.proofs.descriptions.described_at.Goals as goal

pub returns-in-None : goal.returns-in-None
returns-in-None c = λ t closed h.
    rw c.absent.ensures (described_absent t (enclosed_types c.args.scope.now) closed c.args.desc c.args.index h c.requires (sym c.type_at.ensures ∙ c.in-None.is))

pub returns-in-Some-None : goal.returns-in-Some-None
returns-in-Some-None c = λ t closed h.
    rw c.there.ensures
    (described_none t (enclosed_types c.args.scope.now) closed c.args.desc c.args.index h c.requires
    (sym c.type_at.ensures ∙ c.in-Some-None.is ∙ ap (λ (o : Option TypeRef). Some o) c.in-Some-None.field-0-is))

pub returns-in-Some-Some : goal.returns-in-Some-Some
returns-in-Some-Some c = λ t closed h.
    rw (c.there-in-Some-Some.ensures, c.extern_of.ensures)
    (described_some t (enclosed_types c.args.scope.now) closed c.args.desc c.args.index c.in-Some-Some.closed h c.requires
    (sym c.type_at.ensures ∙ c.in-Some-Some.is ∙ ap (λ (o : Option TypeRef). Some o) c.in-Some-Some.field-0-is))

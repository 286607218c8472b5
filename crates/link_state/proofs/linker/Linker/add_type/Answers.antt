use Rattle.std.proofs.Common.{true}
use Rattle.canon_types.specs.EndNumbers.{AreEndTypes}
use Rattle.canon_types.proofs.EndsOnce.{type_noted}
use Rattle.link_spec.specs.Definitions.{AType}
use Rattle.link_spec.specs.Ends.{noted_type}
use Rattle.link_spec.specs.Spaces.{with_ends}
use Rattle.link_state.proofs.States.{ends_noted}
use Rattle.link_state.proofs.linker.Linker.add_type.Goals as goal

pub returns-clause-ok : goal.returns-clause-ok
returns-clause-ok c bases l s closed at is =
    let k = c.args.self.now in
    let types = noted_type l.end_types closed in
    let ends : AreEndTypes k.types.values c.note.new.noted types =
    rw (c.in_ok-note.ensures, c.in_ok-number.ensures) (type_noted k.types c.are_distinct.ensures.values k.end_types l.end_types c.args.of closed at.state.ends is) in
    c.in_ok-add.ensures.ok bases (with_ends l types true) s (AType closed) (record { state = ends_noted bases k l c.note.new.noted types ends at.state; there = at.there; live = at.live }) is

use Rattle.link_meanings.specs.Levels.{enclosed_types}
use Rattle.comp_graph.specs.Closed.{value_of}
use Rattle.std.specs.Option.{option_and_then}
use Rattle.std.specs.List.{slice_get}
use Rattle.link_meanings.proofs.Labelled.{value_stands, value_past}
use Rattle.link_meanings.proofs.values.value_at.Goals as goal

pub returns-in_err-number-clause-is : goal.returns-in_err-number-clause-is
returns-in_err-number-clause-is c = λ closed h.
    rw c.from_residual.ensures (rw c.in_err-number.was at (value_stands c.args.types.now (enclosed_types c.args.scope.now) closed c.args.index c.number_at.result h c.number_at.ensures))

pub returns-then-number-value_count-clause-is : goal.returns-then-number-value_count-clause-is
returns-then-number-value_count-clause-is c = λ closed h.
    value_past c.args.types.now c.in_ok-number.number c.value_count.result (option_and_then (option_and_then value_of) (slice_get closed c.args.index))
    (rw c.in_ok-number.was at (value_stands c.args.types.now (enclosed_types c.args.scope.now) closed c.args.index c.number_at.result h c.number_at.ensures)) c.value_count.ensures c.if-number-value_count.true

pub returns-clause-is : goal.returns-clause-is
returns-clause-is c = λ closed h.
    rw c.in_ok-number.was at (value_stands c.args.types.now (enclosed_types c.args.scope.now) closed c.args.index c.number_at.result h c.number_at.ensures)

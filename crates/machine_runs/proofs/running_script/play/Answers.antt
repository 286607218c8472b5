use Rattle.std.proofs.Common.{◌∙◌}
use Rattle.std.proofs.lemmas.Result.{err_from_is_err_and}
use Rattle.ca_io.specs.declared.failed.Failed.{Failed}
use Rattle.trace_show.specs.Tally.{tally_of}
use Rattle.trace_show.specs.Trace.{put_so_far}
use Rattle.machine_runs.specs.Worlds.{point_of}
use Rattle.machine_runs.proofs.Played.{plays_none, none_caused, plays_ok}
use Rattle.machine_runs.proofs.running_script.play.Goals as goal

pub returns-in_err-last-clause-plays : goal.returns-in_err-last-clause-plays
returns-in_err-last-clause-plays g c =
    let taken = g.K.Sink.taken in
    let p = err_from_is_err_and c.from_residual.result c.from_residual.ensures.1 in
    rw (p.1, p.2)
    (plays_none g.V.PassesValues.may_pass c.args.program.now (point_of c.args.world.now) (taken c.args.trace.now.sink.now) c.args.trace.now.kept.now.items (tally_of c.args.trace.now.elements c.args.trace.now.sum c.args.trace.now.last.now.items) (tally_of c.args.trace.now.elements c.args.trace.now.sum c.args.trace.now.last.now.items)
    (point_of c.next.new.world) (point_of c.next.new.world) c.in_err-last.field-0.0 (put_so_far (taken c.args.trace.now.sink.now) c.args.trace.now.kept.now.items) c.in_err-last.ensures)

pub returns-in_err-last-clause-cause : goal.returns-in_err-last-clause-cause
returns-in_err-last-clause-cause g c =
    let p = err_from_is_err_and c.from_residual.result c.from_residual.ensures.1 in
    rw (p.1, p.2)
    (none_caused g.V.PassesValues.may_pass c.args.program.now (point_of c.args.world.now) (g.K.Sink.faults c.args.trace.now.sink.now) (point_of c.next.new.world) c.in_err-last.field-0.0 c.in_err-last.ensures)

pub returns-in-Ok-clause-plays : goal.returns-in-Ok-clause-plays
returns-in-Ok-clause-plays g c =
    let taken = g.K.Sink.taken in
    plays_ok g.V.PassesValues.may_pass c.args.program.now (point_of c.args.world.now) Failed (put_so_far (taken c.args.trace.now.sink.now) c.args.trace.now.kept.now.items) c.as_slice.result.now
    c.in_ok-last.last (point_of c.next.new.world) (point_of c.take_lines-lines.new.self) c.end_of-end.result (tally_of c.args.trace.now.elements c.args.trace.now.sum c.args.trace.now.last.now.items) (tally_of c.tell-told.new.trace.elements c.tell-told.new.trace.sum c.tell-told.new.trace.last.now.items)
    (put_so_far (taken c.tell-told.new.trace.sink.now) c.tell-told.new.trace.kept.now.items)
    (taken c.tell-told.new.trace.sink.now) c.in_ok-last.ensures (c.as_slice.ensures ∙ c.take_lines-lines.ensures.lines) c.in-Ok.ensures.tally c.take_lines-lines.ensures.left c.end_of-end.ensures c.in-Ok.ensures.tells

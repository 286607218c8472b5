use Rattle.std.proofs.lemmas.Result.{err_from_is_err_and}
use Rattle.trace_show.specs.Tally.{tally_of}
use Rattle.trace_show.specs.Trace.{put_so_far}
use Rattle.machine_runs.specs.Worlds.{point_of}
use Rattle.machine_runs.proofs.Played.{no_dump, world_ends}
use Rattle.machine_runs.proofs.running_script.run_world.Goals as goal

pub returns-in_err-end-clause-runs : goal.returns-in_err-end-clause-runs
returns-in_err-end-clause-runs g c =
    let taken = g.K.Sink.taken in
    let p = err_from_is_err_and c.from_residual.result c.from_residual.ensures.1 in
    rw (p.1, p.2)
    (world_ends g.V.PassesValues.may_pass c.args.program.now (point_of c.args.world.now) (put_so_far (taken c.args.trace.now.sink.now) c.args.trace.now.kept.now.items)
    (taken c.play_on.new.trace.sink.now) (tally_of c.args.trace.now.elements c.args.trace.now.sum c.args.trace.now.last.now.items) (tally_of c.play_on.new.trace.elements c.play_on.new.trace.sum c.play_on.new.trace.last.now.items)
    (point_of c.play_on.new.world) c.args.dumps c.in_err-end.field-0.0 c.in_err-end.ensures.plays)

pub returns-in_err-dump-clause-runs : goal.returns-in_err-dump-clause-runs
returns-in_err-dump-clause-runs g c =
    let taken = g.K.Sink.taken in
    let p = err_from_is_err_and c.from_residual-in_err-dump.result c.from_residual-in_err-dump.ensures.1 in
    rw (p.1, p.2)
    (no_dump g.V.PassesValues.may_pass c.args.program.now (point_of c.args.world.now) (put_so_far (taken c.args.trace.now.sink.now) c.args.trace.now.kept.now.items) (taken c.play_on.new.trace.sink.now)
    (tally_of c.args.trace.now.elements c.args.trace.now.sum c.args.trace.now.last.now.items) (tally_of c.play_on.new.trace.elements c.play_on.new.trace.sum c.play_on.new.trace.last.now.items) (point_of c.play_on.new.world) c.in_ok-end.end c.args.dumps c.in_ok-end.ensures.plays)

use Rattle.std.proofs.Common.{◌∙◌, rules}
use Rattle.std.proofs.lemmas.Result.{err_from_is_err_and}
use Rattle.trace_show.specs.Tally.{tally_of}
use Rattle.trace_show.specs.Trace.{put_so_far}
use Rattle.machine_runs.specs.Worlds.{point_of}
use Rattle.machine_runs.proofs.Played.{on_more, on_ends, on_fails, on_out, grew_then}
use Rattle.machine_runs.proofs.running_script.play_on.Goals as goal

pub play-requires-clause-can : goal.play-requires-clause-can
play-requires-clause-can g c = c.requires.sound c.loop-step._step c.loop-step.invariant.at.0 (point_of c.loop-step.world) (search rules) c.loop-step.invariant.at.1

pub returns-in-Some-clause-plays : goal.returns-in-Some-clause-plays
returns-in-Some-clause-plays g c =
    let taken = g.K.Sink.taken in
    on_ends g.V.PassesValues.may_pass c.args.program.now (point_of c.args.world.now) c.loop-step._step (put_so_far (taken c.args.trace.now.sink.now) c.args.trace.now.kept.now.items)
    (put_so_far (taken c.loop-step.trace.sink.now) c.loop-step.trace.kept.now.items) (put_so_far (taken c.play.new.trace.sink.now) c.play.new.trace.kept.now.items) (taken c.play.new.trace.sink.now) (tally_of c.args.trace.now.elements c.args.trace.now.sum c.args.trace.now.last.now.items) (tally_of c.loop-step.trace.elements c.loop-step.trace.sum c.loop-step.trace.last.now.items)
    (tally_of c.play.new.trace.elements c.play.new.trace.sum c.play.new.trace.last.now.items)
    (point_of c.loop-step.world) (point_of c.play.new.world) c.in-Some.end c.in_ok-end.field-0 c.loop-step.invariant.at c.in-Some.is c.in_ok-end.ensures.plays

pub loop-step-preserved : goal.loop-step-preserved
loop-step-preserved g c =
    let taken = g.K.Sink.taken in
    record {
      same_sink = c.in_ok-end.ensures.same_sink ∙ c.loop-step.invariant.same_sink;
      faults = c.in_ok-end.ensures.cause.told ∙ c.loop-step.invariant.faults;
      grows = grew_then (taken c.args.trace.now.sink.now) (taken c.loop-step.trace.sink.now) (taken c.play.new.trace.sink.now) c.loop-step.invariant.grows c.in_ok-end.ensures.grows;
      at = on_more g.V.PassesValues.may_pass c.args.program.now (point_of c.args.world.now) c.loop-step._step (put_so_far (taken c.args.trace.now.sink.now) c.args.trace.now.kept.now.items)
          (put_so_far (taken c.loop-step.trace.sink.now) c.loop-step.trace.kept.now.items) (put_so_far (taken c.play.new.trace.sink.now) c.play.new.trace.kept.now.items)
          (taken c.play.new.trace.sink.now) (tally_of c.args.trace.now.elements c.args.trace.now.sum c.args.trace.now.last.now.items) (tally_of c.loop-step.trace.elements c.loop-step.trace.sum c.loop-step.trace.last.now.items)
          (tally_of c.play.new.trace.elements c.play.new.trace.sum c.play.new.trace.last.now.items)
          (point_of c.loop-step.world) (point_of c.play.new.world) c.in_ok-end.field-0 c.loop-step.invariant.at c.in-None.is c.in_ok-end.ensures.plays;
    }

pub returns-in_err-end-clause-plays : goal.returns-in_err-end-clause-plays
returns-in_err-end-clause-plays g c =
    let taken = g.K.Sink.taken in
    let p = err_from_is_err_and c.from_residual.result c.from_residual.ensures.1 in
    rw (p.1, p.2)
    (on_fails g.V.PassesValues.may_pass c.args.program.now (point_of c.args.world.now) c.loop-step._step (put_so_far (taken c.args.trace.now.sink.now) c.args.trace.now.kept.now.items)
    (put_so_far (taken c.loop-step.trace.sink.now) c.loop-step.trace.kept.now.items) (put_so_far (taken c.play.new.trace.sink.now) c.play.new.trace.kept.now.items) (taken c.play.new.trace.sink.now) (tally_of c.args.trace.now.elements c.args.trace.now.sum c.args.trace.now.last.now.items) (tally_of c.loop-step.trace.elements c.loop-step.trace.sum c.loop-step.trace.last.now.items)
    (tally_of c.play.new.trace.elements c.play.new.trace.sum c.play.new.trace.last.now.items)
    (point_of c.loop-step.world) (point_of c.play.new.world) c.in_err-end.field-0.0 c.loop-step.invariant.at c.in_err-end.ensures.plays)

pub returns-clause-plays : goal.returns-clause-plays
returns-clause-plays g c =
    let taken = g.K.Sink.taken in
    on_out g.V.PassesValues.may_pass c.args.program.now (point_of c.args.world.now) c.loop-step._step (put_so_far (taken c.args.trace.now.sink.now) c.args.trace.now.kept.now.items)
    (taken c.loop-step.trace.sink.now) (tally_of c.args.trace.now.elements c.args.trace.now.sum c.args.trace.now.last.now.items) (tally_of c.loop-step.trace.elements c.loop-step.trace.sum c.loop-step.trace.last.now.items) (tally_of c.loop-step.trace.elements c.loop-step.trace.sum c.loop-step.trace.last.now.items)
    c.loop-step.trace.kept.now.items (point_of c.loop-step.world) c.loop-step.invariant.at (search rules)

pub returns-in_err-end-clause-grows : goal.returns-in_err-end-clause-grows
returns-in_err-end-clause-grows g c =
    let taken = g.K.Sink.taken in
    grew_then (taken c.args.trace.now.sink.now) (taken c.loop-step.trace.sink.now) (taken c.play.new.trace.sink.now) c.loop-step.invariant.grows c.in_err-end.ensures.grows

pub returns-in-Some-clause-grows : goal.returns-in-Some-clause-grows
returns-in-Some-clause-grows g c =
    let taken = g.K.Sink.taken in
    grew_then (taken c.args.trace.now.sink.now) (taken c.loop-step.trace.sink.now) (taken c.play.new.trace.sink.now) c.loop-step.invariant.grows c.in_ok-end.ensures.grows

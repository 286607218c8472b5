use Rattle.std.proofs.Common.{subst}
use Rattle.trace_show.specs.Tally.{tally_of}
use Rattle.trace_show.specs.Trace.{put_so_far}
use Rattle.machine_runs.specs.Worlds.{Point, point_of, first_point}
use Rattle.machine_runs.specs.Playing.{WorldRuns}
use Rattle.machine_runs.proofs.Played.{sound_at, script_runs}
use Rattle.machine_runs.proofs.running_script.run_script.Goals as goal

pub run_world-ran-requires-clause-sound : goal.run_world-ran-requires-clause-sound
run_world-ran-requires-clause-sound g c =
    sound_at g.V.PassesValues.may_pass c.args.program.now (point_of c.in_ok-world.world) (first_point c.args.program.now.graph.now c.args.program.now.script.now) c.in_ok-world.ensures c.requires.sound

pub returns-clause-runs : goal.returns-clause-runs
returns-clause-runs g c =
    let taken = g.K.Sink.taken in
    let start = taken c.args.trace.now.sink.now in
    let kept = c.args.trace.now.kept.now.items in
    let before = (tally_of c.args.trace.now.elements c.args.trace.now.sum c.args.trace.now.last.now.items) in
    let now = (tally_of c.run_world-ran.new.trace.elements c.run_world-ran.new.trace.sum c.run_world-ran.new.trace.last.now.items) in
    let later = taken c.run_world-ran.new.trace.sink.now in
    script_runs g.V.PassesValues.may_pass c.args.program.now (first_point c.args.program.now.graph.now c.args.program.now.script.now) c.args.dumps start later before now kept c.run_world-ran.result
    (subst (λ (a : Point). WorldRuns g.V.PassesValues.may_pass c.args.program.now a c.args.dumps (put_so_far start kept) before c.run_world-ran.result later now) c.in_ok-world.ensures
    c.run_world-ran.ensures.runs) c.run_world-ran.ensures.grows

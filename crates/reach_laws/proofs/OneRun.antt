-- A graph and a script that fit have exactly one run: there is one, since none is stuck and steps that cost nothing come to an end, and what comes
-- next is a function of the world.
use Rattle.abi_machine.specs.sound.RunsEnd.{HasRun}
use Rattle.abi_machine.proofs.sound.RunsEnd.{runs_end_so}
use Rattle.abi_machine.proofs.sound.Unique.{one_run}
use Rattle.reach_laws.specs.Going.{OneRunComes}
use Rattle.reach_laws.proofs.Told.{none_is_stuck}
use Rattle.reach_laws.proofs.free.Ending.{free_steps_end}

pub one_run_comes : OneRunComes
one_run_comes g s run =
    let r : HasRun g s = runs_end_so g s (none_is_stuck g s run) (free_steps_end g s) in
    record { labels = r.labels; last = r.last; end = r.end; runs = r.runs; only = λ others other other_end q. one_run g s others r.labels other r.last other_end r.end q r.runs }

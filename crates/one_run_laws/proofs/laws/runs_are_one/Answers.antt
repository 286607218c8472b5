-- Two runs are one, and what is told so far is a front of it.
use Rattle.value_moves.specs.Passing.{Passes}
use Rattle.one_run_laws.proofs.Passed.{passes_once}
use Rattle.one_run_laws.proofs.Ending.{runs_are_one, so_far_are_fronts}
use Rattle.one_run_laws.proofs.laws.runs_are_one.Goals as goal

pub returns : goal.returns
returns c =
    record {
      one = λ p a end other lines more h k distinct r q. runs_are_one Passes p a end other lines more h k (passes_once p distinct) r q;
      fronts = λ p a end lines so_far h distinct r tells. so_far_are_fronts Passes p a end lines so_far h (passes_once p distinct) r tells;
    }

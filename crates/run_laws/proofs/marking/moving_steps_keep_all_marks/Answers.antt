-- Steps of the acting task keep all marks.
use Rattle.run_laws.proofs.keeping.Followed.{following_all}
use Rattle.run_laws.proofs.keeping.Stepped.{moves_all, runs_all}
use Rattle.run_laws.proofs.marking.moving_steps_keep_all_marks.Goals as goal

pub returns : goal.returns
returns c = record { moves = moves_all; following = following_all; runs = runs_all }

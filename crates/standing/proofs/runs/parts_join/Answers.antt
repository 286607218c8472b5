use Rattle.standing.proofs.Reaching.{goes_then, meets_behind, ends_behind, meets_step, meets_end}
use Rattle.standing.proofs.runs.parts_join.Goals as goal

pub returns : goal.returns
returns c = record { parts = goes_then; meets = meets_behind; ends = ends_behind; step = meets_step; end = meets_end }

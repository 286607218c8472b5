use Rattle.stream_ends.proofs.Telling.{told_once}
use Rattle.stream_ends.proofs.laws.payloads_are_told_once.Goals as goal

pub returns : goal.returns
returns c = told_once

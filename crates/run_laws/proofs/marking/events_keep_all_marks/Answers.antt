-- Calls that come back, and events, keep all marks.
use Rattle.run_laws.proofs.keeping.Back.{back_from_call_marks, delivers_marks, polls_marks, none_marks, cancel_marks}
use Rattle.run_laws.proofs.keeping.Cancels.{cancel_back_marks, control_back_marks}
use Rattle.run_laws.proofs.marking.events_keep_all_marks.Goals as goal

pub returns : goal.returns
returns c = record {
  back = λ g t at callee canon h from gave sound alone new. back_from_call_marks g t at callee canon h from gave sound alone new;
  cancelled = cancel_back_marks;
  control = control_back_marks;
  events = λ g t at r set h own gave asked. (delivers_marks g t at r set h own gave, polls_marks g t at r set h own gave, none_marks g t r h, cancel_marks g t r h asked);
}

use Rattle.std.proofs.Common.{ℕ, List, [], ap, ◌∙◌, rules}
use Rattle.wcm.specs.declared.answer.Answer.{Answer}
use Rattle.wcm.specs.declared.status.Status.TheVariants.{Refused}
use Rattle.wcm.proofs.Requests.{component_row, pipe_refused_row}
use Rattle.wcm.proofs.piped.pipe_answer.Goals as goal

pub returns-in-Ok-clause-answers : goal.returns-in-Ok-clause-answers
returns-in-Ok-clause-answers c =
    component_row c.as_slice-file.result.now c.in-Ok.component c.args.seed c.args.count c.component_answer.result (search rules) c.in-Ok.ensures.ok c.component_answer.ensures.answers

pub returns-clause-answers : goal.returns-clause-answers
returns-clause-answers c =
    pipe_refused_row c.as_slice-file.result.now c.in-Err-Fault.refused c.args.seed c.args.count c.refusal.result (search rules)
    (c.in-Err-Fault.ensures.refused c.in-Err-Fault.refused c.in-Err-Fault.field-0-is)
    (c.refusal.ensures ∙ ap (λ (err : List ℕ). (let a : Answer = record { status = Refused; out = []; err = err } in a)) c.in_ok-line-in-Err-Fault.ensures)

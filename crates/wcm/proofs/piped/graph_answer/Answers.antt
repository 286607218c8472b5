use Rattle.std.proofs.Common.{◌≡◌, ℕ, List, [], ap, subst, ◌∙◌}
use Rattle.faults.specs.Faults.{IfFault}
use Rattle.faults.specs.declared.memory.MemoryOr.{MemoryOr}
use Rattle.faults.specs.declared.memory.MemoryOr.TheVariants.{Fault}
use Rattle.script_reader.specs.Script.{IsScriptRefused}
use Rattle.wcm.specs.declared.answer.Answer.{Answer}
use Rattle.wcm.specs.declared.status.Status.TheVariants.{ScriptRefused}
use Rattle.wcm.proofs.Requests.{script_row, pipe_script_row}
use Rattle.wcm.proofs.piped.graph_answer.Goals as goal

-- what is said of a fault, where this is the error
of_fault : {F : Type 0} (P : F → Type 0) (e : MemoryOr F) (f : F) → e ≡ Fault f → IfFault e P → P f
of_fault P e f is h = subst (λ x. IfFault x P) is h

pub returns-in-Ok-clause-answers : goal.returns-in-Ok-clause-answers
returns-in-Ok-clause-answers c =
    script_row c.args.component.now c.args.graph.now c.exports.result.now c.script_text.result.now c.in-Ok.script c.args.seed c.run_answer.result c.requires.linked c.exports.ensures
    c.script_text.ensures c.in-Ok.ensures.ok c.run_answer.ensures.answers

pub returns-in_ok-line-in-Err-Fault-clause-answers : goal.returns-in_ok-line-in-Err-Fault-clause-answers
returns-in_ok-line-in-Err-Fault-clause-answers c =
    pipe_script_row c.args.component.now c.args.graph.now c.exports.result.now c.script_text.result.now c.in-Err-Fault.fault c.args.seed c.refusal.result c.requires.linked
    c.exports.ensures c.script_text.ensures (of_fault (IsScriptRefused c.exports.result.now c.script_text.result.now) c.in-Err-Fault.field-0 c.in-Err-Fault.fault c.in-Err-Fault.field-0-is c.in-Err-Fault.ensures.refused)
    (c.refusal.ensures ∙ ap (λ (err : List ℕ). (let a : Answer = record { status = ScriptRefused; out = []; err = err } in a)) c.in_ok-line-in-Err-Fault.ensures)

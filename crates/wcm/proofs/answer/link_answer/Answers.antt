use Rattle.std.proofs.Common.{◌≡◌, ℕ, List, [], Some, ap, subst, ◌∙◌}
use Rattle.faults.specs.Faults.{IfFault}
use Rattle.faults.specs.declared.memory.MemoryOr.{MemoryOr}
use Rattle.faults.specs.declared.memory.MemoryOr.TheVariants.{Fault}
use Rattle.link_spec.specs.Linked.{IsLinkRefused}
use Rattle.command_words.specs.Words.{OfFile, said}
use Rattle.wcm.specs.declared.answer.Answer.{Answer}
use Rattle.wcm.specs.declared.status.Status.TheVariants.{LinkRefused}
use Rattle.wcm.proofs.Coming.{comes_whole}
use Rattle.wcm.proofs.Reading.{not_linked_row}
use Rattle.wcm.proofs.answer.link_answer.Goals as goal

-- what is said of a fault, where this is the error
of_fault : {F : Type 0} (P : F → Type 0) (e : MemoryOr F) (f : F) → e ≡ Fault f → IfFault e P → P f
of_fault P e f is h = subst (λ x. IfFault x P) is h

pub returns-in_ok-line-in-Err-Fault-clause-comes : goal.returns-in_ok-line-in-Err-Fault-clause-comes
returns-in_ok-line-in-Err-Fault-clause-comes g c = λ read.
    comes_whole (g.F.Files.held c.args.files.now) (Some (OfFile (said c.args.command))) (g.K.Sink.taken c.args.out.now) c.refusal.result
    (not_linked_row (g.F.Files.held c.args.files.now) (said c.args.command) c.args.component.now c.in-Err-Fault.fault c.refusal.result read
    (of_fault (IsLinkRefused c.args.component.now) c.in-Err-Fault.field-0 c.in-Err-Fault.fault c.in-Err-Fault.field-0-is c.in-Err-Fault.ensures.refused)
    (c.refusal.ensures ∙ ap (λ (err : List ℕ). (let a : Answer = record { status = LinkRefused; out = []; err = err } in a)) c.in_ok-line-in-Err-Fault.ensures))

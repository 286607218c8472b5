use Rattle.std.proofs.Common.{ℕ, List, [], Some, ap, subst, ◌∙◌}
use Rattle.command_words.specs.Words.{OfFile, said}
use Rattle.wcm.specs.declared.answer.Answer.{Answer}
use Rattle.wcm.specs.declared.status.Status.TheVariants.{Refused}
use Rattle.wcm.specs.Files.{IsFileRead, IsFileRefused}
use Rattle.wcm.proofs.Coming.{comes_whole, answered_comes, comes_after}
use Rattle.wcm.proofs.Reading.{of_ok, of_err, refused_row}
use Rattle.wcm.proofs.answer.answer_of.Goals as goal

pub returns-in-Ok-Ok-clause-comes : goal.returns-in-Ok-Ok-clause-comes
returns-in-Ok-Ok-clause-comes g c =
    let held = g.F.Files.held c.args.files.now in
    let name = c.file.result.now in
    let read = of_ok (IsFileRead held name) (IsFileRefused held name) c.in-Ok-Ok.field-0 c.in-Ok-Ok.component c.in-Ok-Ok.field-0-is c.in-Ok-Ok.ensures.file in
    comes_after held (g.F.Files.held c.component_of.new.files) (said c.args.command) c.in-Ok-Ok.component (g.K.Sink.taken c.args.out.now) (g.K.Sink.taken c.link_answer.new.out) c.link_answer.result
    c.component_of.ensures.same (subst (λ (name : List ℕ). IsFileRead held name c.in-Ok-Ok.component) c.file.ensures read) c.link_answer.ensures.comes

pub returns-in-Ok-Ok-clause-status : goal.returns-in-Ok-Ok-clause-status
returns-in-Ok-Ok-clause-status g c =
    answered_comes (g.F.Files.held c.args.files.now) (said c.args.command) (g.K.Sink.taken c.args.out.now) (g.K.Sink.taken c.link_answer.new.out) c.link_answer.result
    (returns-in-Ok-Ok-clause-comes g c)

pub returns-in_ok-line-in-Ok-Err-clause-comes : goal.returns-in_ok-line-in-Ok-Err-clause-comes
returns-in_ok-line-in-Ok-Err-clause-comes g c =
    let held = g.F.Files.held c.args.files.now in
    let name = c.file.result.now in
    let refused = of_err (IsFileRead held name) (IsFileRefused held name) c.in-Ok-Err.field-0 c.in-Ok-Err.refused c.in-Ok-Err.field-0-is c.in-Ok-Err.ensures.file in
    comes_whole held (Some (OfFile (said c.args.command))) (g.K.Sink.taken c.args.out.now) c.refusal.result
    (refused_row held (said c.args.command) c.in-Ok-Err.refused c.refusal.result (subst (λ (name : List ℕ). IsFileRefused held name c.in-Ok-Err.refused) c.file.ensures refused)
    (c.refusal.ensures ∙ ap (λ (err : List ℕ). (let a : Answer = record { status = Refused; out = []; err = err } in a)) c.in_ok-line-in-Ok-Err.ensures))

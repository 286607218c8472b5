use Rattle.std.proofs.Common.{ℕ, List, [], Some, ap, ◌∙◌}
use Rattle.machine_runs.specs.declared.fault.RunFault.TheVariants as fault
use Rattle.command_words.specs.Words.{OfFile, Run}
use Rattle.wcm.specs.declared.answer.Answer.{Answer}
use Rattle.wcm.specs.declared.status.Status.TheVariants.{ScriptRefused}
use Rattle.wcm.specs.Files.{IsScriptFile, IsScriptFileRefused}
use Rattle.wcm.proofs.Coming.{comes_whole, run_came}
use Rattle.wcm.proofs.Reading.{of_err, script_refused_row}
use Rattle.wcm.proofs.Sounds.{said_of}
use Rattle.wcm.proofs.answer.script_answer.Goals as goal

pub run_answer-requires-clause-said : goal.run_answer-requires-clause-said
run_answer-requires-clause-said g c =
    said_of c.args.graph.now c.exports.result.now c.in-Ok-Ok.field-0 c.in-Ok-Ok.script c.exports.ensures c.in-Ok-Ok.field-0-is c.in-Ok-Ok.ensures.said

pub returns-in-Ok-Err-clause-comes : goal.returns-in-Ok-Err-clause-comes
returns-in-Ok-Err-clause-comes g c = λ file linked.
    let held = g.F.Files.held c.args.files.now in
    let name = c.args.script.now in
    let exports = c.exports.result.now in
    comes_whole held (Some (OfFile (Run file name c.args.dump))) (g.K.Sink.taken c.args.out.now) c.refusal.result
    (script_refused_row held file name c.args.dump c.args.graph.now exports c.in-Ok-Err.fault c.refusal.result linked c.exports.ensures
    (of_err (IsScriptFile held name exports) (IsScriptFileRefused held name exports) c.in-Ok-Err.field-0 c.in-Ok-Err.fault c.in-Ok-Err.field-0-is c.in-Ok-Err.ensures.file)
    (c.refusal.ensures ∙ ap (λ (err : List ℕ). (let a : Answer = record { status = ScriptRefused; out = []; err = err } in a)) c.in_ok-line-in-Ok-Err.ensures))

pub returns-in-Err-Write-clause-comes : goal.returns-in-Err-Write-clause-comes
returns-in-Err-Write-clause-comes g c = λ file linked.
    let held = g.F.Files.held c.args.files.now in
    run_came held file c.args.script.now c.args.dump c.args.graph.now c.exports.result.now c.in-Ok-Ok.field-0 c.in-Ok-Ok.script (g.K.Sink.taken c.args.out.now)
    (g.K.Sink.taken c.run_answer.new.out) c.in-Err-Write.field-0 fault.Write c.exports.ensures c.in-Ok-Ok.field-0-is c.in-Ok-Ok.ensures.file c.in-Err-Write.field-0-is linked
    (λ read. c.in-Err-Write.ensures.comes held file c.args.script.now linked read)

pub returns-in-Err-Memory-run_answer-clause-comes : goal.returns-in-Err-Memory-run_answer-clause-comes
returns-in-Err-Memory-run_answer-clause-comes g c = λ file linked.
    let held = g.F.Files.held c.args.files.now in
    run_came held file c.args.script.now c.args.dump c.args.graph.now c.exports.result.now c.in-Ok-Ok.field-0 c.in-Ok-Ok.script (g.K.Sink.taken c.args.out.now)
    (g.K.Sink.taken c.run_answer.new.out) c.in-Err-Memory-run_answer.field-0 fault.Memory c.exports.ensures c.in-Ok-Ok.field-0-is c.in-Ok-Ok.ensures.file c.in-Err-Memory-run_answer.field-0-is linked
    (λ read. c.in-Err-Memory-run_answer.ensures.comes held file c.args.script.now linked read)

pub returns-in-Ok-Ok-clause-comes : goal.returns-in-Ok-Ok-clause-comes
returns-in-Ok-Ok-clause-comes g c = λ file linked.
    let held = g.F.Files.held c.args.files.now in
    run_came held file c.args.script.now c.args.dump c.args.graph.now c.exports.result.now c.in-Ok-Ok.field-0 c.in-Ok-Ok.script (g.K.Sink.taken c.args.out.now)
    (g.K.Sink.taken c.run_answer.new.out) c.in-Err-Beyond.field-0 fault.Beyond c.exports.ensures c.in-Ok-Ok.field-0-is c.in-Ok-Ok.ensures.file c.in-Err-Beyond.field-0-is linked
    (λ read. c.in-Err-Beyond.ensures.comes held file c.args.script.now linked read)

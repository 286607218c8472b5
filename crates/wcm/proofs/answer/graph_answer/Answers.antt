use Rattle.std.proofs.Common.{ap, Some}
use Rattle.command_words.specs.Words.{OfFile, said, component_file}
use Rattle.wcm.proofs.Reading.{linked_file, accepted_row, shown_row}
use Rattle.wcm.proofs.Coming.{comes_whole}
use Rattle.wcm.proofs.answer.graph_answer.Goals as goal

pub returns-in_ok-accepted_answer-in-Check-clause-comes : goal.returns-in_ok-accepted_answer-in-Check-clause-comes
returns-in_ok-accepted_answer-in-Check-clause-comes g c = λ read.
    let held = g.F.Files.held c.args.files.now in
    comes_whole held (Some (OfFile (said c.args.command))) (g.K.Sink.taken c.args.out.now) _
    (accepted_row held (said c.args.command) c.in-Check.file.now c.args.graph.now c.in_ok-accepted_answer-in-Check.field-0 (ap said c.in-Check.is)
    (linked_file held (component_file (said c.args.command)) c.args.component.now c.args.graph.now read c.requires.linked) c.in_ok-accepted_answer-in-Check.ensures)

pub returns-in_ok-shown_answer-in-Show-clause-comes : goal.returns-in_ok-shown_answer-in-Show-clause-comes
returns-in_ok-shown_answer-in-Show-clause-comes g c = λ read.
    let held = g.F.Files.held c.args.files.now in
    comes_whole held (Some (OfFile (said c.args.command))) (g.K.Sink.taken c.args.out.now) _
    (shown_row held (said c.args.command) c.in-Show.file.now c.args.graph.now c.in_ok-shown_answer-in-Show.field-0 (ap said c.in-Show.is)
    (linked_file held (component_file (said c.args.command)) c.args.component.now c.args.graph.now read c.requires.linked) c.in_ok-shown_answer-in-Show.ensures)

use Rattle.wcm.proofs.Reading.{linked_file}
use Rattle.wcm.proofs.answer.linked_answer.Goals as goal

pub returns-clause-comes : goal.returns-clause-comes
returns-clause-comes g c = λ file read.
    c.script_answer.ensures.comes file (linked_file (g.F.Files.held c.args.files.now) file c.args.component.now c.args.graph.now read c.requires.linked)

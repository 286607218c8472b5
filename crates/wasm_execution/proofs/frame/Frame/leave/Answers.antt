use Rattle.std.proofs.Common.{reverse, refl}
use Rattle.syntax_trees.specs.Expr.{left_at}
use Rattle.wasm_execution.specs.Places.{label_of, labels_of}
use Rattle.wasm_execution.proofs.Changing.{is_left}
use Rattle.wasm_execution.proofs.frame.Frame.leave.Goals as goal

pub returns-clause-placed : goal.returns-clause-placed
returns-clause-placed c = (
  c.requires.placed.0,
  (is_left c.args.self.now.code.value c.args.self.now.operands.items c.args.self.now.labels.items c.pop.new.self.items c.in-Some.label (left_at c.args.self.now.at c.args.self.now.code.value) c.requires.placed.1 c.in-Some.ensures.items).around,
)

pub returns-clause-left : goal.returns-clause-left
returns-clause-left c = (
  label_of c.args.self.now.code.value c.args.self.now.operands.items c.in-Some.label,
  labels_of c.args.self.now.code.value c.args.self.now.operands.items (reverse c.pop.new.self.items),
  (is_left c.args.self.now.code.value c.args.self.now.operands.items c.args.self.now.labels.items c.pop.new.self.items c.in-Some.label (left_at c.args.self.now.at c.args.self.now.code.value) c.requires.placed.1 c.in-Some.ensures.items).labels_are,
  refl,
)

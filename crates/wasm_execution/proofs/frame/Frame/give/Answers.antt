use Rattle.std.proofs.Common.{reverse, refl}
use Rattle.syntax_trees.specs.Expr.{left_at}
use Rattle.wasm_execution.proofs.Changing.{more, same_frames}
use Rattle.wasm_execution.proofs.frame.Frame.give.Goals as goal

pub returns-clause-placed : goal.returns-clause-placed
returns-clause-placed c = (
  c.requires.placed.0,
  (more c.args.self.now.code.value c.args.self.now.operands.items c.args.words.now (reverse c.args.self.now.labels.items) (left_at c.args.self.now.at c.args.self.now.code.value) c.extend_from_slice.new.self.items c.requires.placed.1 c.in_ok-extend_from_slice.ensures.items).around,
)

pub returns-clause-frame : goal.returns-clause-frame
returns-clause-frame c =
    let changed =
    more c.args.self.now.code.value c.args.self.now.operands.items c.args.words.now (reverse c.args.self.now.labels.items) (left_at c.args.self.now.at c.args.self.now.code.value) c.extend_from_slice.new.self.items c.requires.placed.1 c.in_ok-extend_from_slice.ensures.items in
    same_frames _ _ refl refl refl changed.are refl changed.labels

use Rattle.std.proofs.Common.{length, reverse, refl}
use Rattle.wasm_execution.proofs.Changing.{is_ahead, same_frames}
use Rattle.wasm_execution.proofs.frame.Frame.advance.Goals as goal

pub overflow_add-self : goal.overflow_add-self
overflow_add-self c =
    (is_ahead c.args.self.now.code.value (length c.args.self.now.operands.items) (reverse c.args.self.now.labels.items) c.args.self.now.at c.requires.plain.0 c.requires.plain.1 c.requires.placed.1 c.requires.plain.2).fits c.requires.placed.0

pub returns-clause-placed : goal.returns-clause-placed
returns-clause-placed c = (
  c.requires.placed.0,
  (is_ahead c.args.self.now.code.value (length c.args.self.now.operands.items) (reverse c.args.self.now.labels.items) c.args.self.now.at c.requires.plain.0 c.requires.plain.1 c.requires.placed.1 c.requires.plain.2).around,
)

pub returns-clause-frame : goal.returns-clause-frame
returns-clause-frame c =
    same_frames _ _ refl refl refl refl
    (is_ahead c.args.self.now.code.value (length c.args.self.now.operands.items) (reverse c.args.self.now.labels.items) c.args.self.now.at c.requires.plain.0 c.requires.plain.1 c.requires.placed.1 c.requires.plain.2).rest refl

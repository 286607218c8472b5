use Rattle.syntax_trees.specs.declared.instr.Op.TheVariants.{OpenBlock, OpenLoop, OpenIf}
use Rattle.wasm_execution.proofs.Seeing.{op_rest}
use Rattle.wasm_execution.proofs.frame.Frame.control.Goals as goal

pub returns-in-OpenBlock : goal.returns-in-OpenBlock
returns-in-OpenBlock c = op_rest c.in-Some.op.now (OpenBlock c.in-OpenBlock.block_type) c.args.self.now.at c.args.self.now.code.value c.deref.result.now c.in-Some.ensures c.in-OpenBlock.is c.deref.ensures

pub returns-in-OpenLoop : goal.returns-in-OpenLoop
returns-in-OpenLoop c = op_rest c.in-Some.op.now (OpenLoop c.in-OpenLoop.block_type) c.args.self.now.at c.args.self.now.code.value c.deref.result.now c.in-Some.ensures c.in-OpenLoop.is c.deref.ensures

pub returns-in-OpenIf : goal.returns-in-OpenIf
returns-in-OpenIf c = op_rest c.in-Some.op.now (OpenIf c.in-OpenIf.block_type) c.args.self.now.at c.args.self.now.code.value c.deref.result.now c.in-Some.ensures c.in-OpenIf.is c.deref.ensures

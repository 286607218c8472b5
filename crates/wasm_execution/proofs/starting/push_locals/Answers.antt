use Rattle.std.proofs.Common.{arith}
use Rattle.syntax_trees.specs.declared.module_types.ValType.TheVariants.{I32}
use Rattle.wasm_execution.proofs.FirstLocals.{group_pushed}
use Rattle.wasm_execution.proofs.starting.push_locals.Goals as goal

pub loop-group-preserved : goal.loop-group-preserved
loop-group-preserved c =
    group_pushed c.args.groups.now c.loop-group.group-index (record { count = 0; val_type = I32 }) c.args.locals.now.items c.loop-group.locals.items c.push_zeros.new.locals.items (omega arith) c.loop-group.invariant c.in_ok-push_zeros.ensures

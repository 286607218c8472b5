use Rattle.wasm_typing.proofs.Deciding.{module_typed}
use Rattle.wasm_typing.proofs.Placing.{fault_placed, error_untyped, error_ill}
use Rattle.wasm_valid.proofs.check.validate.Goals as goal

pub from_typed-requires : goal.from_typed-requires
from_typed-requires c = module_typed c.into_parts-tree.result.tree c.in-Ok.ensures

pub told-found-requires : goal.told-found-requires
told-found-requires c =
    fault_placed c.into_parts-tree.result.tree c.into_parts-tree.result.places (rw c.into_parts-tree.ensures.parts c.into_parts-tree.ensures.fits) c.in-Err-Fault.fault (rw c.in-Err-Fault.field-0-is at c.in-Err-Fault.ensures)

pub returns-in-Err-Fault-clause-fault : goal.returns-in-Err-Fault-clause-fault
returns-in-Err-Fault-clause-fault c =
    error_untyped c.into_parts-tree.result c.args.read c.in-Err-Fault.fault c.told-found.result c.into_parts-tree.ensures.parts (rw c.in-Err-Fault.field-0-is at c.in-Err-Fault.ensures) c.told-found.ensures.fault

pub returns-in-Err-Fault-clause-ill : goal.returns-in-Err-Fault-clause-ill
returns-in-Err-Fault-clause-ill c =
    error_ill c.into_parts-tree.result c.args.read c.in-Err-Fault.fault c.told-found.result c.into_parts-tree.ensures.parts (rw c.in-Err-Fault.field-0-is at c.in-Err-Fault.ensures)

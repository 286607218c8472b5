-- Each opcode is read back.
use Rattle.comp_make.proofs.OpcodeReading.{numeric_read, load_read, store_read}
use Rattle.comp_make.proofs.laws.opcodes_are_read.Goals as goal

pub returns-clause-numeric : goal.returns-clause-numeric
returns-clause-numeric c = numeric_read

pub returns-clause-load : goal.returns-clause-load
returns-clause-load c = load_read

pub returns-clause-store : goal.returns-clause-store
returns-clause-store c = store_read

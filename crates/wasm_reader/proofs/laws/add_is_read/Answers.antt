use Rattle.ca_base.proofs.Laws.{reads_matches, reads_refuses}
use Rattle.wasm_reader.specs.Binary.{the_module, file, file_end}
use Rattle.wasm_reader.specs.Examples.{bytes_with, add_module, no_such_opcode}
use Rattle.wasm_reader.proofs.Rows.{add_read, opcode_refused}
use Rattle.wasm_reader.proofs.laws.add_is_read.Goals as goal

pub returns-clause-module : goal.returns-clause-module
returns-clause-module c = reads_matches the_module (file (bytes_with 0x6A) 0) add_module (file_end (bytes_with 0x6A) 0) add_read

pub returns-clause-refused : goal.returns-clause-refused
returns-clause-refused c = reads_refuses the_module (file (bytes_with 0x06) 0) no_such_opcode opcode_refused

-- The format's definition computes on an example.
use Rattle.std.proofs.Common.{◌≡◌, refl, Ok, Err}
use Rattle.std.specs.Str.{is_utf8, chars}
use Rattle.std.specs.Str.Lossy.{utf8_valid_len}
use Rattle.std.proofs.Math.Utf8.{encode}
use Rattle.ca_base.specs.Grammar.{read}
use Rattle.ca_base.specs.Items.{fixed, marker, last_byte, unsigned, name, placed}
use Rattle.wasm_code_reader.specs.Types.{val_type, func_type}
use Rattle.wasm_code_reader.specs.Opcodes.{numeric, load, store}
use Rattle.wasm_code_reader.specs.Instrs.{numeric_instr, memory_instr, variable_instr, instr}
use Rattle.wasm_code_reader.specs.Bodies.{expr, locals, all_locals, body}
use Rattle.wasm_reader.specs.Items.{declared_func, export_of, export}
use Rattle.wasm_reader.specs.Code.{func_code, code, code_payload}
use Rattle.wasm_reader.specs.Binary.{customs_in, customs, payload, items, declarations, definitions, uses, module_end, ends, contents, the_module, file, file_end}
use Rattle.wasm_reader.specs.Examples.{bytes_with, add_module, no_such_opcode}

pub add_read : read the_module (file (bytes_with 0x6A) 0) ≡ Ok (add_module, file_end (bytes_with 0x6A) 0)
unfolding utf8_valid_len is_utf8 chars encode fixed marker last_byte unsigned name placed val_type func_type numeric load store numeric_instr memory_instr variable_instr instr declared_func export_of export expr locals all_locals body func_code code code_payload customs_in customs payload items declarations definitions uses module_end ends contents the_module bytes_with add_module
add_read = refl

pub opcode_refused : read the_module (file (bytes_with 0x06) 0) ≡ Err no_such_opcode
unfolding utf8_valid_len is_utf8 chars encode fixed marker last_byte unsigned name placed val_type func_type numeric load store numeric_instr memory_instr variable_instr instr declared_func export_of export expr locals all_locals body func_code code code_payload customs_in customs payload items declarations definitions uses module_end ends contents the_module bytes_with no_such_opcode
opcode_refused = refl

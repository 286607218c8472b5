-- A module that exports the sum of two integers, as its bytes and as what is read of them.
use Rattle.std.specs.Prelude.{ℕ, List, [], ◌∷◌, None}
use Rattle.ca_base.specs.declared.refusal.Refusal.{Refusal}
use Rattle.wasm_code_reader.specs.declared.fault.ModuleWhy.{ModuleWhy}
use Rattle.wasm_code_reader.specs.declared.fault.ModuleWhy.TheVariants.{Unsupported}
use Rattle.syntax_trees.specs.declared.module_types.ValType.TheVariants.{I32}
use Rattle.wasm_typing.specs.declared.module_places.ModuleParts.{ModuleParts}
use Rattle.syntax_trees.specs.declared.module.ExportDesc.TheVariants as export_desc
use Rattle.syntax_trees.specs.declared.instr.Instr.TheVariants.{LocalGet, Numeric}
use Rattle.syntax_trees.specs.declared.instr.NumericOp.TheVariants.{Binary}
use Rattle.syntax_trees.specs.declared.instr.Width.TheVariants.{W32}
use Rattle.syntax_trees.specs.declared.instr.BinaryOp.TheVariants.{Add}
use Rattle.syntax_trees.specs.Expr.{End, Plain}

-- the bytes, with this opcode in the place of the addition
unfoldable pub bytes_with : ℕ → List ℕ
bytes_with opcode =
    0x00 ∷ 0x61 ∷ 0x73 ∷ 0x6D ∷ 0x01 ∷ 0x00 ∷ 0x00 ∷ 0x00
    ∷ 0x01 ∷ 0x07 ∷ 0x01 ∷ 0x60 ∷ 0x02 ∷ 0x7F ∷ 0x7F ∷ 0x01 ∷ 0x7F
    ∷ 0x03 ∷ 0x02 ∷ 0x01 ∷ 0x00
    ∷ 0x07 ∷ 0x07 ∷ 0x01 ∷ 0x03 ∷ 0x61 ∷ 0x64 ∷ 0x64 ∷ 0x00 ∷ 0x00
    ∷ 0x0A ∷ 0x09 ∷ 0x01 ∷ 0x07 ∷ 0x00 ∷ 0x20 ∷ 0x00 ∷ 0x20 ∷ 0x01 ∷ opcode ∷ 0x0B ∷ []

unfoldable pub add_module : ModuleParts
add_module = record {
  tree = record {
    types = record { params = I32 ∷ I32 ∷ []; results = I32 ∷ [] } ∷ [];
    imports = [];
    funcs = record { type_index = 0; locals = []; body = Plain (LocalGet 0) (Plain (LocalGet 1) (Plain (Numeric (Binary W32 Add)) End)) } ∷ [];
    tables = [];
    memories = [];
    globals = [];
    exports = record { name = 0x61 ∷ 0x64 ∷ 0x64 ∷ []; desc = export_desc.Func 0 } ∷ [];
    start = None;
    element_segments = [];
    data_segments = [];
  };
  places = record {
    imports = [];
    funcs = record { place = 20; ops = 35 ∷ 37 ∷ 39 ∷ 40 ∷ [] } ∷ [];
    tables = [];
    memories = [];
    globals = [];
    exports = 24 ∷ [];
    start = None;
    element_segments = [];
    data_segments = [];
  };
}

-- where the bytes are refused with the opcode 06, whose place is 39
unfoldable pub no_such_opcode : Refusal ModuleWhy
no_such_opcode = record { place = 39; why = Unsupported 0x06 }

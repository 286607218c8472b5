-- The code section in bytes (Core 2.0, section 5.5.13).
use Rattle.std.specs.Prelude.{◌==◌, List, length}
use Rattle.ca_base.specs.Grammar.{Grammar, Give, Refuse, Here, Choose, ◌>>=◌}
use Rattle.ca_base.specs.Items.{u32, sized, each}
use Rattle.syntax_trees.specs.declared.module.Func.{Func}
use Rattle.wasm_typing.specs.declared.module_places.FuncPlaces.{FuncPlaces}
use Rattle.wasm_code_reader.specs.declared.fault.ModuleWhy.{ModuleWhy}
use Rattle.wasm_code_reader.specs.declared.fault.ModuleWhy.TheVariants.{Count}
use Rattle.wasm_code_reader.specs.Reasons.{numbers, reasons}
use Rattle.wasm_code_reader.specs.Bodies.{all_locals, body}
use Rattle.wasm_reader.specs.declared.declared.DeclaredFunc.{DeclaredFunc}
use Rattle.wasm_reader.specs.declared.parted.Parted.{Parted}

-- what the size of a function's code tells the length of: its locals and its body
unfoldable pub func_code : DeclaredFunc → Grammar ModuleWhy (Parted Func FuncPlaces)
func_code declared = do
  groups ← all_locals
  read ← body
  Give (record {
    part = record { type_index = declared.type_index; locals = groups; body = read.body };
    places = record { place = declared.place; ops = read.ops };
  })

-- the code of a function that is declared so
unfoldable pub code : DeclaredFunc → Grammar ModuleWhy (Parted Func FuncPlaces)
code declared = sized numbers reasons (func_code declared)

-- the payload of the code section: as many codes as functions
unfoldable pub code_payload : List DeclaredFunc → Grammar ModuleWhy (List (Parted Func FuncPlaces))
code_payload declared = do
  place ← Here
  count ← u32 numbers
  Choose (count == length declared) (each code declared) (Refuse place Count)

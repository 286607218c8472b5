-- The reasons for which the bytes of a module are refused, as the items of both formats tell them.
use Rattle.std.specs.Prelude.{ℕ, Bool, if◌then◌else◌}
use Rattle.ca_base.specs.Items.{NumberReasons, Reasons}
use Rattle.wasm_code_reader.specs.declared.fault.ModuleWhy.{ModuleWhy}
use Rattle.wasm_code_reader.specs.declared.fault.ModuleWhy.TheVariants.{Leb, SectionSize, Utf8, Float, Unsupported}

abbrev pub numbers : NumberReasons ModuleWhy
numbers = record { leb = Leb; utf8 = Utf8 }

abbrev pub reasons : Reasons ModuleWhy
reasons = record { unsupported = Unsupported; section_size = SectionSize }

-- A byte at this place is refused: it is a type or an opcode of floats, or has no rule there.
abbrev pub byte_why : Bool → ℕ → ModuleWhy
byte_why of_floats b = if of_floats then Float else Unsupported b

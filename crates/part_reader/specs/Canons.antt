-- Canonical functions in bytes (Component Model, Binary.md, `canonopt`, `canon`).
use Rattle.std.specs.Prelude.{[], ◌∷◌}
use Rattle.ca_base.specs.Grammar.{Grammar, Give, Here, Byte, ◌>>=◌}
use Rattle.ca_base.specs.Items.{marker, u32, vec}
use Rattle.ca_base.specs.Tables.{in_rows, giving}
use Rattle.comp_tree.specs.declared.items.Canon.{Canon}
use Rattle.comp_tree.specs.declared.items.Canon.TheVariants.{Lift, Lower, Builtin}
use Rattle.part_reader.specs.declared.fault.ComponentWhy.{ComponentWhy}
use Rattle.part_reader.specs.Reasons.{numbers, reasons}
use Rattle.part_reader.specs.Options.{canon_option}
use Rattle.part_reader.specs.Builtins.{builtin}

-- the lift of a core function, behind its first byte: 00, the core function, options, and a type
unfoldable pub lift : Grammar ComponentWhy Canon
lift = do
  _ ← marker reasons 0
  index ← u32 numbers
  options ← vec numbers canon_option
  type ← u32 numbers
  Give (Lift index options type)

-- the core function that a function is lowered to, likewise: 00, the function, and options
unfoldable pub lower : Grammar ComponentWhy Canon
lower = do
  _ ← marker reasons 0
  index ← u32 numbers
  options ← vec numbers canon_option
  Give (Lower index options)

-- a canonical function: 00 a lift, 01 a lowered function, and else a built-in
unfoldable pub canon : Grammar ComponentWhy Canon
canon = do
  place ← Here
  b ← Byte
  in_rows ((0x00, lift) ∷ (0x01, lower) ∷ []) b (giving Builtin (builtin place b))

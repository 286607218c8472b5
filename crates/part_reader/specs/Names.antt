-- Names of imports and exports in bytes (Component Model, Binary.md, `importname'`, `exportname'`).
use Rattle.std.specs.Prelude.{ℕ, List, [], ◌∷◌}
use Rattle.ca_base.specs.Grammar.{Grammar}
use Rattle.ca_base.specs.Items.{name}
use Rattle.ca_base.specs.Tables.{by_byte}
use Rattle.part_reader.specs.declared.fault.ComponentWhy.{ComponentWhy}
use Rattle.part_reader.specs.declared.fault.ComponentWhy.TheVariants.{Unsupported}
use Rattle.part_reader.specs.Reasons.{numbers}

-- 00 or 01, and the name
unfoldable pub extern_name : Grammar ComponentWhy (List ℕ)
extern_name = by_byte Unsupported ((0x00, name numbers) ∷ (0x01, name numbers) ∷ [])

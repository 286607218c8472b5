-- Options of canonical functions in bytes, and flags (Component Model, Binary.md, `canonopt`, `canon`).
use Rattle.std.specs.Prelude.{Bool, true, false, [], ◌∷◌}
use Rattle.ca_base.specs.Grammar.{Grammar, Give}
use Rattle.ca_base.specs.Items.{u32}
use Rattle.ca_base.specs.Tables.{by_byte, giving}
use Rattle.comp_tree.specs.declared.items.CanonOption.{CanonOption}
use Rattle.comp_tree.specs.declared.items.CanonOption.TheVariants as option
use Rattle.part_reader.specs.declared.fault.ComponentWhy.{ComponentWhy}
use Rattle.part_reader.specs.declared.fault.ComponentWhy.TheVariants.{Unsupported}
use Rattle.part_reader.specs.Reasons.{numbers}

-- an option of a canonical function: 00 texts in UTF-8, 03 a memory, 04 a function that gives places in it, 05 a function that
-- is called when the result was lifted, 06 asynchronous, 07 a function that is called with each event
unfoldable pub canon_option : Grammar ComponentWhy CanonOption
canon_option =
    by_byte Unsupported (
    (0x00, Give option.Utf8)
    ∷ (0x03, giving option.Memory (u32 numbers))
    ∷ (0x04, giving option.Realloc (u32 numbers))
    ∷ (0x05, giving option.PostReturn (u32 numbers))
    ∷ (0x06, Give option.Async)
    ∷ (0x07, giving option.Callback (u32 numbers))
    ∷ [])

-- a flag: 00 no, 01 yes
unfoldable pub flag : Grammar ComponentWhy Bool
flag = by_byte Unsupported ((0x00, Give false) ∷ (0x01, Give true) ∷ [])

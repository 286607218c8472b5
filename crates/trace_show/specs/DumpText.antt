-- The text of a dump: each instance with its live entries, then each memory with the rows of its bytes. Instances and
-- memories are numbered from 1 on.
use Rattle.std.specs.Prelude.{ℕ, ◌+◌, ◌*◌, ◌/◌, ◌%◌, ◌^◌, ◌==◌, if◌then◌else◌, List, [], ◌∷◌, ◌++◌, length, take, drop, codes}
use Rattle.std.specs.List.{flat_map, list_all, range_with_len}
use Rattle.std.specs.Fmt.{decimal}
use Rattle.std.specs.Int.{w32, to_be_bytes, div_ceil}
use Rattle.hex.specs.Hex.{encode_lower}
use Rattle.trace_labels.specs.declared.dump.LiveEntry.{LiveEntry}
use Rattle.trace_labels.specs.Parts.{instance_text}
use Rattle.trace_show.specs.LabelText.{line}
use Rattle.trace_show.specs.EntryText.{live_entry_text}

-- the texts of items that are numbered, from a number on
abbrev pub numbered : {A : Type 0} → (ℕ → A → List ℕ) → ℕ → List A → List ℕ
numbered text number [] = []
numbered text number (x ∷ xs) = text number x ++ numbered text (number + 1) xs

abbrev pub instance_lines : ℕ → List LiveEntry → List ℕ
instance_lines number entries = line (codes "instance " ++ instance_text number) ++ flat_map live_entry_text entries

-- an address, in eight hexadecimal digits
abbrev pub address_text : ℕ → List ℕ
address_text at = encode_lower (to_be_bytes w32 (at % 2 ^ 32))

-- bytes with the address of the first, in hexadecimal digits; nothing where all are 0
abbrev pub row_text : ℕ → List ℕ → List ℕ
row_text at row =
    if list_all (λ b. b == 0) row then [] else line (address_text at ++ codes " " ++ encode_lower row)

-- the row of this number: 32 bytes
abbrev pub row_of : List ℕ → ℕ → List ℕ
row_of memory row = row_text (32 * row) (take 32 (drop (32 * row) memory))

abbrev pub rows_text : List ℕ → List ℕ
rows_text memory = flat_map (row_of memory) (range_with_len 0 (div_ceil (length memory) 32))

-- A page has 65,536 bytes.
abbrev pub memory_lines : ℕ → List ℕ → List ℕ
memory_lines number memory =
    line (codes "memory M" ++ decimal number ++ codes " " ++ decimal (length memory / 65536)) ++ rows_text memory

abbrev pub dump_text : List (List LiveEntry) → List (List ℕ) → List ℕ
dump_text instances memories = numbered instance_lines 1 instances ++ numbered memory_lines 1 memories

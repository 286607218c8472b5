-- What memories (Core 2.0, section 2.3.8) and tables (section 2.3.9) may have from the start: the limits of this reader, which
-- the standard leaves to it.
use Rattle.std.specs.Prelude.{ℕ}

-- so many pages of 65,536 bytes a memory
abbrev pub starting_pages : ℕ
starting_pages = 1024

-- so many entries a table
abbrev pub starting_entries : ℕ
starting_entries = 65536

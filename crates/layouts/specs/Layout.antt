-- Sizes and alignments of values in memory, apart from their types (Component Model, CanonicalABI.md, "Alignment" and "Element Size").
use Rattle.std.specs.Prelude.{ℕ, ◌+◌, ◌-◌, ◌%◌, nat_le, max, if◌then◌else◌, List, [], ◌∷◌, Option, Some, None}

-- how many bytes a value takes, and the number of which its place is a multiple
pub record Laid : Type 0 where
  pub size : ℕ
  pub align : ℕ

-- the first multiple of an alignment at or behind a place
abbrev pub aligned : ℕ → ℕ → ℕ
aligned place align = place + (align - place % align) % align

-- the end of parts that are laid one after the other, the first at or behind a place
abbrev pub end_of : ℕ → List Laid → ℕ
end_of place [] = place
end_of place (p ∷ parts) = end_of (aligned place p.align + p.size) parts

-- the greatest alignment of parts, 1 where there are none
abbrev pub top_align : List Laid → ℕ
top_align [] = 1
top_align (p ∷ parts) = max p.align (top_align parts)

-- parts one after the other, with padding at the end
abbrev pub record_laid : List Laid → Laid
record_laid parts = record { size = aligned (end_of 0 parts) (top_align parts); align = top_align parts }

-- the greatest size of payloads
abbrev pub top_size : List Laid → ℕ
top_size [] = 0
top_size (p ∷ payloads) = max p.size (top_size payloads)

-- the payloads that are there
abbrev pub there : {A : Type 0} → List (Option A) → List A
there [] = []
there (Some p ∷ cases) = p ∷ there cases
there (None ∷ cases) = there cases

-- how many bytes tell one of so many cases
abbrev pub tag_size : ℕ → ℕ
tag_size count = if nat_le count 256 then 1 else (if nat_le count 65536 then 2 else 4)

-- a number for the case, and behind it room for the greatest payload
abbrev pub tagged : ℕ → List Laid → Laid
tagged count payloads = record {
  size = aligned (aligned (tag_size count) (top_align payloads) + top_size payloads) (max (tag_size count) (top_align payloads));
  align = max (tag_size count) (top_align payloads);
}

-- how many bytes hold so many bits
abbrev pub bits_size : ℕ → ℕ
bits_size count = if nat_le count 8 then 1 else (if nat_le count 16 then 2 else 4)

-- a value of so many bytes at a multiple of them
abbrev pub scalar : ℕ → Laid
scalar bytes = record { size = bytes; align = bytes }

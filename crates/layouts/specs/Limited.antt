-- Layouts as far as memory can reach: where a size is 2^64 or more, 2^64 stands for it.
use Rattle.std.specs.Prelude.{ℕ, ◌+◌, ◌^◌, ◌≤◌, min, max}
use Rattle.layouts.specs.Layout.{Laid, aligned, scalar, tag_size}
use Rattle.layouts.specs.declared.laying.Laying.{Laying}

abbrev pub as_laid : Laying → Laid
as_laid l = record { size = l.size; align = l.align }

-- A size within memory's reach, and an alignment that a type may have.
pub record InReach (l : Laid) : Type 0 where
  pub size : l.size ≤ 2 ^ 64
  pub low : 1 ≤ l.align
  pub high : l.align ≤ 8

abbrev pub limited : Laid → Laid
limited l = record { size = min l.size (2 ^ 64); align = l.align }

abbrev pub nothing : Laid
nothing = record { size = 0; align = 1 }

-- a part at the first place behind others that suits it
abbrev pub followed : Laid → Laid → Laid
followed row p = record { size = min (aligned row.size p.align + p.size) (2 ^ 64); align = max row.align p.align }

-- padding behind
abbrev pub closed : Laid → Laid
closed row = record { size = min (aligned row.size row.align) (2 ^ 64); align = row.align }

-- room for either of two
abbrev pub joined : Laid → Laid → Laid
joined one other = record { size = max one.size other.size; align = max one.align other.align }

-- a number for the case, and room for a payload
abbrev pub tagged : ℕ → Laid → Laid
tagged count payload = closed (followed (scalar (tag_size count)) payload)

-- Why bytes of components are refused, and how a byte that no rule has in its place is.
use Rattle.std.specs.Prelude.{ℕ, if◌then◌else◌, ◌==◌, ◌||◌}
use Rattle.ca_base.specs.Grammar.{Grammar, Refuse}
use Rattle.ca_base.specs.Items.{NumberReasons, Reasons}
use Rattle.part_reader.specs.declared.fault.ComponentWhy.{ComponentWhy}
use Rattle.part_reader.specs.declared.fault.ComponentWhy.TheVariants.{Leb, Utf8, SectionSize, Unsupported, Float}

abbrev pub numbers : NumberReasons ComponentWhy
numbers = record { leb = Leb; utf8 = Utf8 }

abbrev pub reasons : Reasons ComponentWhy
reasons = record { unsupported = Unsupported; section_size = SectionSize }

-- A byte that no rule has in its place.
abbrev pub unsupported : {A : Type 0} → ℕ → ℕ → Grammar ComponentWhy A
unsupported place b = Refuse place (Unsupported b)

-- a byte at this place that is a type of floats, or has no rule there
abbrev pub refused_type : {A : Type 0} → ℕ → ℕ → Grammar ComponentWhy A
refused_type place b = Refuse place (if b == 0x76 || b == 0x75 then Float else Unsupported b)

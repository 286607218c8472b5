-- What holds of the binary format alone.
use Rattle.std.specs.Prelude.{◌≡◌, ◌⊎◌, ℕ, List}
use Rattle.ca_base.specs.declared.refusal.Refusal.{Refusal}
use Rattle.comp_tree.specs.declared.items.Component.{Component}
use Rattle.part_reader.specs.declared.fault.ComponentWhy.{ComponentWhy}
use Rattle.comp_reader.specs.Binary.{IsComponent, IsRefused}

-- Bytes are exactly one component, or are refused at exactly one place for exactly one reason.
abbrev pub OneReading : Type 0
OneReading =
    (bytes : List ℕ)
    → ((c : Component) × IsComponent bytes c × ((other : Component) → IsComponent bytes other → other ≡ c) × ((e : Refusal ComponentWhy) → IsRefused bytes e → ⊥))
    ⊎ ((e : Refusal ComponentWhy) × IsRefused bytes e × ((other : Refusal ComponentWhy) → IsRefused bytes other → other ≡ e) × ((c : Component) → IsComponent bytes c → ⊥))

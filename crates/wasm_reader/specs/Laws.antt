-- What holds of the binary format alone.
use Rattle.std.specs.Prelude.{◌≡◌, ◌⊎◌, ℕ, List}
use Rattle.ca_base.specs.declared.refusal.Refusal.{Refusal}
use Rattle.wasm_code_reader.specs.declared.fault.ModuleWhy.{ModuleWhy}
use Rattle.wasm_typing.specs.declared.module_places.ModuleParts.{ModuleParts}
use Rattle.wasm_reader.specs.Binary.{IsModule, IsRefused}

-- Bytes are exactly one module, or are refused at exactly one place for exactly one reason.
abbrev pub OneReading : Type 0
OneReading =
    (bytes : List ℕ) (base : ℕ)
    → ((m : ModuleParts) × IsModule bytes base m × ((other : ModuleParts) → IsModule bytes base other → other ≡ m) × ((e : Refusal ModuleWhy) → IsRefused bytes base e → ⊥))
    ⊎ ((e : Refusal ModuleWhy) × IsRefused bytes base e × ((other : Refusal ModuleWhy) → IsRefused bytes base other → other ≡ e) × ((m : ModuleParts) → IsModule bytes base m → ⊥))

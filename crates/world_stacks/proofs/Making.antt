-- Imports that are of the types that are asked for pass the test, and no others.
use Rattle.std.proofs.Common.{◌≡◌, Bool, true, false, List, refl, sym}
use Rattle.syntax_trees.specs.declared.module.ModuleTree.{ModuleTree}
use Rattle.wasm_store.specs.Store.{Store}
use Rattle.wasm_store.specs.Instantiation.{External, ImportsMatch}
use Rattle.wasm_store.specs.Matching.{imports_fit}
use Rattle.wasm_store.proofs.Imports.{fits_sound, fits_complete}

decided : (a b : Bool) → (a ≡ true → b ≡ true) → (b ≡ true → a ≡ true) → a ≡ b
decided true b f g = sym (f refl)
decided false true f g = g refl
decided false false f g = refl

pub fits_as_matched : (s : Store) (m : ModuleTree) (es : List External) (r : Bool) → (r ≡ true → ImportsMatch s m es) → (ImportsMatch s m es → r ≡ true) → r ≡ imports_fit s m.types m.imports es
fits_as_matched s m es r sound complete =
    decided r (imports_fit s m.types m.imports es) (λ h. fits_complete s m.types m.imports es (sound h)) (λ h. complete (fits_sound s m.types m.imports es h))

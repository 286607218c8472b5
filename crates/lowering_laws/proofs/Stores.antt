-- Stores that go on, and calls of their functions.
use Rattle.std.proofs.Common.{◌≡◌, ℕ, List, Some, sym, subst}
use Rattle.std.specs.List.{slice_get}
use Rattle.syntax_trees.specs.declared.module_types.FuncType as core
use Rattle.wasm_numbers.specs.Types.{AreWords}
use Rattle.wasm_store.specs.Store.{Function, type_of, Store}
use Rattle.wasm_store.specs.Step.{start}
use Rattle.wasm_store.specs.Typed.{Extends, StoreTyped, StackTyped}
use Rattle.wasm_store.proofs.Moving.{starts_typed}
use Rattle.lowering_laws.specs.StoreBytes.{HasBytesAlone}

-- A store that has the functions and instances of another one, extends it and is typed.
pub record GoesOn (s t : Store) : Type 0 where
  pub extends : Extends s t
  pub typed : StoreTyped t
  pub funcs : t.funcs ≡ s.funcs
  pub instances : t.instances ≡ s.instances
  pub bytes : HasBytesAlone t

-- A call of a function of the store with words of its parameters is typed.
pub typed_start : (s : Store) (address : ℕ) (function : Function) (type : core.FuncType) (words : List ℕ) → StoreTyped s → slice_get s.funcs address ≡ Some function → type_of function ≡ type
    → AreWords type.params words → StackTyped s type.results (start function address words)
typed_start s address function type words typed there e fits =
    subst (λ (type : core.FuncType). StackTyped s type.results (start function address words)) e
    (starts_typed s address function words typed there (subst (λ (type : core.FuncType). AreWords type.params words) (sym e) fits))

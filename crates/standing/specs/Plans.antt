-- Values are lowered by code and by the machine along the same plans (Component Model, CanonicalABI.md, "Storing", "Flat Lowering", `lower_own`,
-- `lower_borrow`, `lower_stream` and `lower_future`).
use Rattle.std.specs.Prelude.{◌≡◌, ℕ, Bool, true, List, [], map, Some}
use Rattle.std.specs.List.{slice_get}
use Rattle.syntax_trees.specs.declared.types.ValType.{ValType}
use Rattle.syntax_trees.specs.declared.value.Value.{Value}
use Rattle.syntax_trees.specs.Fits.{fits}
use Rattle.res_handles.specs.Calls.{is_defined}
use Rattle.value_lower.specs.Tables.{entered}
use Rattle.value_lower.specs.Plan.{Gives}
use Rattle.value_lower.specs.Storing.{elements_from}
use Rattle.value_lower.specs.Entering as lower
use Rattle.abi_machine.specs.LoweringOver as machine
use Rattle.abi_machine.specs.Pausing.{entries_by}
use Rattle.standing.specs.Lowers.{PlanAgrees}

-- These resources are those that an instance defines.
abbrev pub AreOwn : List ℕ → (ℕ → Bool) → Type 0
AreOwn home is_own = (resource : ℕ) → is_defined resource home ≡ is_own resource

-- A value of its type, as core values, at a new place, and at a place.
abbrev pub FlatAgrees : Type 0
FlatAgrees =
    (home : List ℕ) (is_own : ℕ → Bool) (type : ValType) (v : Value) → AreOwn home is_own → fits v type ≡ true
    → PlanAgrees (lower.flat_lowered (entered home) type v) (machine.flat_lowered (entries_by is_own) type v)

abbrev pub PlacedAgrees : Type 0
PlacedAgrees =
    (home : List ℕ) (is_own : ℕ → Bool) (type : ValType) (v : Value) → AreOwn home is_own → fits v type ≡ true
    → PlanAgrees (lower.placed (entered home) type v) (machine.placed (entries_by is_own) type v)

abbrev pub StoredAgrees : Type 0
StoredAgrees =
    (home : List ℕ) (is_own : ℕ → Bool) (type : ValType) (v : Value) (place : ℕ) → AreOwn home is_own → fits v type ≡ true
    → PlanAgrees (lower.stored (entered home) type v place) (machine.stored (entries_by is_own) type v place)

-- Values one after the other from a place on, which was tested for all of them before.
abbrev pub ElementsAgree : Type 0
ElementsAgree =
    (home : List ℕ) (is_own : ℕ → Bool) (type : ValType) (all : List Value) (place : ℕ) → AreOwn home is_own
    → ((n : ℕ) (v : Value) → slice_get all n ≡ Some v → fits v type ≡ true)
    → PlanAgrees (elements_from type place (map (lower.lowered (entered home)) all) (Gives [])) (machine.all_stored (entries_by is_own) type all place)

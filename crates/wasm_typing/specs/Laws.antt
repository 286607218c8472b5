-- What the first fault of a module has to do with its typing (Core 2.0, section 3).
use Rattle.std.specs.Prelude.{◌≡◌, ◌↔◌, ◌⊎◌, Some, None}
use Rattle.syntax_trees.specs.declared.module.ModuleTree.{ModuleTree}
use Rattle.wasm_typing.specs.declared.module_places.ModulePlaces.{ModulePlaces}
use Rattle.wasm_typing.specs.Places.{Fits}
use Rattle.wasm_typing.specs.declared.fault.ValidFault.{ValidFault}
use Rattle.wasm_typing.specs.declared.fault.Fault.{Fault}
use Rattle.wasm_typing.specs.Modules.{Typed}
use Rattle.wasm_typing.specs.Untyped.{StopsAt, Untyped}
use Rattle.wasm_typing.specs.Finding.{first_fault, untyped}

-- a module has no fault exactly where it is typed
abbrev pub FaultFreeWhereTyped : Type 0
FaultFreeWhereTyped = (m : ModuleTree) → (first_fault m ≡ None) ↔ Typed m

-- the fault that is found is the one of the first item that the rules don't get past
abbrev pub FirstWhereStops : Type 0
FirstWhereStops = (m : ModuleTree) (found : Fault) → (first_fault m ≡ Some found) ↔ StopsAt m found

-- the fault that is told is the first one
abbrev pub ToldWhereUntyped : Type 0
ToldWhereUntyped = (m : ModuleTree) (places : ModulePlaces) (told : ValidFault) → (untyped m places ≡ Some told) ↔ Untyped m places told.func told.place told.why

-- where each part has a place, a module of which no fault is told is typed, and a typed one has none
abbrev pub ToldOrTyped : Type 0
ToldOrTyped = (m : ModuleTree) (places : ModulePlaces) → Fits m places → (untyped m places ≡ None) ↔ Typed m

-- Where each part has a place, a module is typed or has exactly one first fault.
abbrev pub OneFault : ModuleTree → ModulePlaces → Type 0
OneFault m places =
    (told : ValidFault) × Untyped m places told.func told.place told.why
    × ((other : ValidFault) → Untyped m places other.func other.place other.why → other ≡ told)

abbrev pub TypedOrOneFault : Type 0
TypedOrOneFault = (m : ModuleTree) (places : ModulePlaces) → Fits m places → (Typed m × (untyped m places ≡ None)) ⊎ (OneFault m places × ¬ Typed m)

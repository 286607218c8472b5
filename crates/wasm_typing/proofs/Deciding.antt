-- The first fault of a module decides whether it is typed.
use Rattle.std.proofs.Common.{◌≡◌, ◌∙◌, sym, Some, None}
use Rattle.syntax_trees.specs.declared.module.ModuleTree.{ModuleTree}
use Rattle.wasm_typing.specs.declared.fault.Fault.{Fault}
use Rattle.wasm_typing.specs.Modules.{Typed}
use Rattle.wasm_typing.specs.Untyped.{items}
use Rattle.wasm_typing.specs.Finding.{first_fault}
use Rattle.wasm_typing.specs.Laws.{FaultFreeWhereTyped, FirstWhereStops}
use Rattle.wasm_typing.proofs.Listed.{first_is, none_all, all_none, first_stops}
use Rattle.wasm_typing.proofs.Sections.{passing_typed, typed_passing}

pub module_typed : (m : ModuleTree) → first_fault m ≡ None → Typed m
module_typed m h = passing_typed m (none_all m (items m) (first_is m ∙ h))

pub typed_module : (m : ModuleTree) → Typed m → first_fault m ≡ None
typed_module m t = sym (first_is m) ∙ all_none m (items m) (typed_passing m t)

pub faulty_untyped : (m : ModuleTree) (found : Fault) → first_fault m ≡ Some found → Typed m → ⊥
faulty_untyped m found h t = let e = typed_module m t in cc

pub fault_free : FaultFreeWhereTyped
fault_free m = (module_typed m, typed_module m)

pub first_where_stops : FirstWhereStops
first_where_stops m found = first_stops m found

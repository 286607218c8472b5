-- What a module brings to a store (Core 2.0, section 4.5.3): its parts, and the store with them; and segments that are written
-- one by one.
use Rattle.std.specs.Prelude.{◌≡◌, ℕ, Bool, true, false, List, ◌∷◌, [], map, length, Option, Some, None, Result, Ok, Err}
use Rattle.syntax_trees.specs.declared.module.ModuleTree.{ModuleTree}
use Rattle.std.specs.List.{slice_get, AllByRecursion}
use Rattle.syntax_trees.specs.declared.module.ElementSegment.{ElementSegment}
use Rattle.wasm_store.specs.Store.{Instance, Store}
use Rattle.wasm_store.specs.Typed.{EntryTyped}
use Rattle.wasm_store.specs.Instantiation.{External as Address, Instantiation, SegmentBounds, InRange, imported_globals, instance_of, new_func, new_table, new_memory, new_global, all_written}
use Rattle.wasm_store.specs.Views as views
use Rattle.wasm_store.specs.declared.parts.Parts.{Parts}
use Rattle.wasm_store.specs.declared.adding.AddFault.{AddFault}
use Rattle.wasm_store.specs.declared.adding.AddFault.TheVariants as fault

-- the parts of a module with these imports
pub record ArePartsOf (m : ModuleTree) (imports : List Address) (s : Store) (p : Parts) : Type 0 where
  pub functions : map views.function_of p.functions.items ≡ map (new_func m (length s.instances)) m.funcs
  pub tables : map views.table_of p.tables.items ≡ map new_table m.tables
  pub memories : p.memories.items ≡ map new_memory m.memories
  pub globals : map views.global_of p.globals.items ≡ map (new_global s (imported_globals imports)) m.globals
  pub instances : map views.instance_of p.instances.items ≡ instance_of m imports s ∷ []

-- Segments were written one after the other: all of them, or those before the first that doesn't fit.
abbrev pub Written : {A E : Type 0} → (Store → A → Option Store) → List A → Store → Result (Unit {0}) E → Store → Type 0
Written f xs s (Ok _) t = (more : Store → Instantiation) → all_written f xs s more ≡ more t
Written f xs s (Err _) t = (more : Store → Instantiation) → all_written f xs s more ≡ SegmentBounds t

-- One was written, or it doesn't fit and nothing changed.
abbrev pub WrittenOne : Option Store → Store → Bool → Store → Type 0
WrittenOne o s true t = o ≡ Some t
WrittenOne o s false t = (o ≡ None) × (t ≡ s)

-- what is left where there is no instance: the store up to the segment that doesn't fit, or the one before
abbrev pub FailsBy : AddFault → Instantiation → Store → Store → Type 0
FailsBy fault.SegmentBounds made s t = made ≡ SegmentBounds t
FailsBy fault.Memory made s t = t ≡ s

-- The fault of segments is that one doesn't fit.
abbrev pub IsBounds : Result (Unit {0}) AddFault → Type 0
IsBounds (Ok _) = Unit {0}
IsBounds (Err why) = why ≡ fault.SegmentBounds

-- The entries that segments write are functions of the store.
abbrev pub ElementsFit : Store → Instance → List ElementSegment → Type 0
ElementsFit s i segments = AllByRecursion (λ segment. AllByRecursion (λ index. EntryTyped s (slice_get i.funcs index)) segment.funcs) segments

-- Unless memory ran out, the module was one whose numbers are in range.
abbrev pub ToldRange : Result ℕ AddFault → ModuleTree → Type 0
ToldRange (Ok address) m = InRange m
ToldRange (Err fault.SegmentBounds) m = InRange m
ToldRange (Err fault.Memory) m = Unit {0}

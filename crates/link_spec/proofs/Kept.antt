-- What stands on core instances, and on core functions that the Canonical ABI makes, stays when others come behind them.
use Rattle.std.proofs.Common.{◌≡◌, ℕ, true, false, List, [], ◌∷◌, ◌++◌, refl, sym, ◌∙◌, ap, subst, append_assoc, append-nil, Option, Some, None}
use Rattle.std.specs.Prelude.{IfSome, IsSome}
use Rattle.std.specs.Option.{option_map, option_and_then}
use Rattle.std.specs.List.{slice_get}
use Rattle.syntax_trees.specs.declared.types.FuncType.{FuncType}
use Rattle.syntax_trees.specs.declared.module_types.FuncType as core
use Rattle.syntax_trees.specs.declared.module.ModuleTree.{ModuleTree}
use Rattle.wasm_typing.specs.Spaces.{type_of_func, global_space}
use Rattle.comp_graph.specs.declared.graph.CoreRef.{CoreRef}
use Rattle.comp_graph.specs.declared.graph.FuncRef.{FuncRef}
use Rattle.comp_graph.specs.declared.graph.FuncRef.TheVariants as func_ref
use Rattle.comp_graph.specs.declared.graph.Lift.{Lift}
use Rattle.comp_graph.specs.declared.graph.CanonFunc.{CanonFunc}
use Rattle.comp_graph.specs.CoreItems.{CoreItem, Func, Table, Memory, Global, table_space, memory_space}
use Rattle.comp_graph.specs.Graph.{CoreMake, canon_type, core_type, IsMemoryThere, IsLiftThere, IsIn, IsItem, HasImports, AreImported}
use Rattle.comp_graph.specs.Needs.{lift_type, realloc_type, post_return_type, callback_type}
use Rattle.link_spec.proofs.Holding.{all_weaker, if_weaker, kept_at}

-- a memory of a module
abbrev pub IsMemoryOf : CoreRef → ModuleTree → Type 0
IsMemoryOf f m = IsSome (slice_get (memory_space m) f.index)

kept_in : (cores more : List CoreMake) (f : CoreRef) (P : ModuleTree → Type 0) → IsIn cores f P → IsIn (cores ++ more) f P
kept_in cores more f P h = record { core = h.core; there = kept_at cores more f.instance h.core h.there; holds = h.holds }

-- what is made of an item of a list, when others come behind
kept_mapped : {A B : Type 0} (f : A → B) (xs ys : List A) (n : ℕ) (y : B) (o : Option A) → slice_get xs n ≡ o → option_map f o ≡ Some y → option_map f (slice_get (xs ++ ys) n) ≡ Some y
kept_mapped f xs ys n y None there e = cc
kept_mapped f xs ys n y (Some x) there e = ap (λ o. option_map f o) (kept_at xs ys n x there) ∙ e

kept_canon_type : (canons others : List CanonFunc) (number : ℕ) (type : core.FuncType) → option_map canon_type (slice_get canons number) ≡ Some type → option_map canon_type (slice_get (canons ++ others) number) ≡ Some type
kept_canon_type canons others number type h = kept_mapped canon_type canons others number type (slice_get canons number) refl h

pub kept_item : (cores more : List CoreMake) (canons others : List CanonFunc) (item : CoreItem) → IsItem cores canons item → IsItem (cores ++ more) (canons ++ others) item
kept_item cores more canons others (Func (func_ref.Instance f) type) h = kept_in cores more f (λ m. type_of_func m f.index ≡ Some type) h
kept_item cores more canons others (Func (func_ref.Canon number) type) h = kept_canon_type canons others number type h
kept_item cores more canons others (Table t limits) h = kept_in cores more t (λ m. slice_get (table_space m) t.index ≡ Some limits) h
kept_item cores more canons others (Memory memory limits) h = kept_in cores more memory (λ m. slice_get (memory_space m) memory.index ≡ Some limits) h
kept_item cores more canons others (Global g type) h = kept_in cores more g (λ m. slice_get (global_space m) g.index ≡ Some type) h

-- the type of a core function that is there
pub type_there : (cores : List CoreMake) (canons : List CanonFunc) (f : FuncRef) (type : core.FuncType) → IsItem cores canons (Func f type) → core_type cores canons f ≡ Some type
type_there cores canons (func_ref.Instance f) type h = ap (λ (o : Option CoreMake). option_and_then (λ (c : CoreMake). type_of_func c.of_module f.index) o) h.there ∙ h.holds
type_there cores canons (func_ref.Canon number) type h = h

core_there : (cores : List CoreMake) (f : CoreRef) (type : core.FuncType) (o : Option CoreMake) → slice_get cores f.instance ≡ o → option_and_then (λ (c : CoreMake). type_of_func c.of_module f.index) o ≡ Some type → IsIn cores f (λ m. type_of_func m f.index ≡ Some type)
core_there cores f type None there e = cc
core_there cores f type (Some core) there e = record { core = core; there = there; holds = e }

func_there : (cores : List CoreMake) (canons : List CanonFunc) (f : FuncRef) (type : core.FuncType) → core_type cores canons f ≡ Some type → IsItem cores canons (Func f type)
func_there cores canons (func_ref.Instance f) type h = core_there cores f type (slice_get cores f.instance) refl h
func_there cores canons (func_ref.Canon number) type h = h

kept_type : (cores more : List CoreMake) (canons others : List CanonFunc) (f : FuncRef) (type : core.FuncType) → core_type cores canons f ≡ Some type → core_type (cores ++ more) (canons ++ others) f ≡ Some type
kept_type cores more canons others f type h = type_there (cores ++ more) (canons ++ others) f type (kept_item cores more canons others (Func f type) (func_there cores canons f type h))

-- what options name
kept_memory : (cores more : List CoreMake) (memory : Option CoreRef) → IsMemoryThere cores memory → IsMemoryThere (cores ++ more) memory
kept_memory cores more memory h = if_weaker (λ f. IsIn cores f (IsMemoryOf f)) (λ f. IsIn (cores ++ more) f (IsMemoryOf f)) (λ f k. kept_in cores more f (IsMemoryOf f) k) memory h

kept_func : (cores more : List CoreMake) (canons others : List CanonFunc) (type : core.FuncType) (f : Option FuncRef) → IfSome f (λ f. core_type cores canons f ≡ Some type) → IfSome f (λ f. core_type (cores ++ more) (canons ++ others) f ≡ Some type)
kept_func cores more canons others type f h =
    if_weaker (λ f. core_type cores canons f ≡ Some type) (λ f. core_type (cores ++ more) (canons ++ others) f ≡ Some type) (λ f k. kept_type cores more canons others f type k) f h

kept_func_and : (cores more : List CoreMake) (canons others : List CanonFunc) (type : core.FuncType) (P : Type 0) (f : Option FuncRef) → IfSome f (λ f. (core_type cores canons f ≡ Some type) × P)
    → IfSome f (λ f. (core_type (cores ++ more) (canons ++ others) f ≡ Some type) × P)
kept_func_and cores more canons others type P f h =
    if_weaker (λ f. (core_type cores canons f ≡ Some type) × P) (λ f. (core_type (cores ++ more) (canons ++ others) f ≡ Some type) × P) (λ f k. (kept_type cores more canons others f type k.0, k.1)) f h

pub kept_lift : (cores more : List CoreMake) (canons others : List CanonFunc) (func_type : FuncType) (lift : Lift) → IsLiftThere cores canons func_type lift → IsLiftThere (cores ++ more) (canons ++ others) func_type lift
kept_lift cores more canons others func_type lift h = record {
  core = kept_type cores more canons others lift.core (lift_type lift.options func_type) h.core;
  memory = kept_memory cores more lift.options.memory h.memory;
  realloc = kept_func cores more canons others realloc_type lift.options.realloc h.realloc;
  post_return = kept_func_and cores more canons others (post_return_type func_type) (lift.options.is_async ≡ false) lift.options.post_return h.post_return;
  callback = kept_func_and cores more canons others callback_type (lift.options.is_async ≡ true) lift.options.callback h.callback;
  memory_given = h.memory_given;
  realloc_given = h.realloc_given;
}

-- One core instance more.
pub imported_behind : (canons : List CanonFunc) (before cores : List CoreMake) (core : CoreMake) → AreImported canons before cores → HasImports (before ++ cores) canons core → AreImported canons before (cores ++ core ∷ [])
imported_behind canons before [] core h k = (subst (λ (cores : List CoreMake). HasImports cores canons core) (append-nil before) k, tt)
imported_behind canons before (first ∷ cores) core h k =
    (h.0, imported_behind canons (before ++ first ∷ []) cores core h.1 (subst (λ (cores : List CoreMake). HasImports cores canons core) (sym (append_assoc before (first ∷ []) cores)) k))

-- One core function more that the Canonical ABI makes. Core instances have the imports that they had.
kept_imports : (before : List CoreMake) (canons others : List CanonFunc) (core : CoreMake) → HasImports before canons core → HasImports before (canons ++ others) core
kept_imports before canons others core h = record {
  items = h.items;
  are = h.are;
  there =
      all_weaker (IsItem before canons) (IsItem before (canons ++ others))
      (λ item k. subst (λ (cores : List CoreMake). IsItem cores (canons ++ others) item) (append-nil before) (kept_item before [] canons others item k)) h.items h.there;
  fit = h.fit;
}

pub kept_imported : (canons others : List CanonFunc) (before cores : List CoreMake) → AreImported canons before cores → AreImported (canons ++ others) before cores
kept_imported canons others before [] h = tt
kept_imported canons others before (core ∷ cores) h = (kept_imports before canons others core h.0, kept_imported canons others (before ++ core ∷ []) cores h.1)

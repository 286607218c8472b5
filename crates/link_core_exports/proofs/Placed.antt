-- The type of a function of a core instance is the one that stands at its place.
use Rattle.std.proofs.Common.{◌≡◌, ◌∙◌, ◌↔◌, ℕ, zero, suc, Bool, true, false, List, [], ◌∷◌, map, refl, ap, sym, subst, Option, Some, None}
use Rattle.std.specs.Prelude.{IsTrue, IfOk, Result, Ok, Err}
use Rattle.std.specs.List.{slice_get, AllZip}
use Rattle.std.specs.Option.{option_map, option_and_then}
use Rattle.std.proofs.lemmas.Option.{slice_get-map, option_and_then_some}
use Rattle.std.proofs.lemmas.Bool.Decides.{same_from_decides}
use Rattle.syntax_trees.specs.declared.module_types.FuncType as core
use Rattle.syntax_trees.specs.declared.module.ImportDesc.{ImportDesc}
use Rattle.syntax_trees.specs.declared.module.ImportDesc.TheVariants as wanted
use Rattle.syntax_trees.specs.declared.module.ModuleTree.{ModuleTree}
use Rattle.wasm_typing.specs.Spaces.{func_space, type_of_func}
use Rattle.comp_graph.specs.declared.graph.CoreRef.{CoreRef}
use Rattle.comp_graph.specs.declared.graph.FuncRef.TheVariants as func_ref
use Rattle.comp_graph.specs.declared.graph.CanonFunc.{CanonFunc}
use Rattle.comp_graph.specs.CoreItems.{CoreItem, Func, Table, Memory, Global}
use Rattle.comp_graph.specs.Graph.{CoreMake, IsIn, IsItem}
use Rattle.link_spec.specs.Tests.{is_core_func, core_fits}
use Rattle.link_spec.proofs.Telling.{core_func_told}
use Rattle.link_core_types.specs.declared.module_type.ModuleType.{ModuleType}
use Rattle.link_core_types.specs.Types.{type_at, AreSame}
use Rattle.link_core_exports.specs.declared.modules.CoreModules.{CoreModules}
use Rattle.link_core_exports.specs.Modules.{AreModulesOf}
use Rattle.link_core_exports.specs.Places.{place_asked, place_in, place_of_type}

some_inj : {A : Type 0} {x y : A} → Some x ≡ Some y → x ≡ y
some_inj h = cc

-- what holds of two items at one place
zipped : {A B : Type 0} (R : A → B → Type 0) (xs : List A) (ys : List B) (n : ℕ) (x : A) (y : B) → AllZip R xs ys → slice_get xs n ≡ Some x → slice_get ys n ≡ Some y → R x y
zipped R [] ys n x y h a b = cc
zipped R (k ∷ xs) [] n x y h a b = cc
zipped R (k ∷ xs) (l ∷ ys) zero x y h a b =
    let p : k ≡ x = cc in
    let q : l ≡ y = cc in
    rw (← p, ← q) h.0
zipped R (k ∷ xs) (l ∷ ys) (suc n) x y h a b = zipped R xs ys n x y h.1 a b

-- The types of a module.
types_there : (modules : List ModuleTree) (number : ℕ) (m : ModuleTree) → slice_get modules number ≡ Some m → slice_get (map (λ (m : ModuleTree). m.types) modules) number ≡ Some m.types
types_there modules number m h = slice_get-map (λ (m : ModuleTree). m.types) modules number ∙ ap (option_map (λ (m : ModuleTree). m.types)) h

type_asked : (modules : List ModuleTree) (number index : ℕ) (m : ModuleTree) → slice_get modules number ≡ Some m
    → type_at (map (λ (m : ModuleTree). m.types) modules) (record { «module» = number; index = index }) ≡ slice_get m.types index
type_asked modules number index m h = ap (option_and_then (λ types. slice_get types index)) (types_there modules number m h)

type_placed : (modules : List ModuleTree) (number func : ℕ) (m : ModuleTree) (o : Option ℕ) (place : ModuleType) (type : core.FuncType) → slice_get modules number ≡ Some m
    → option_map (λ index. (let t : ModuleType = record { «module» = number; index = index } in t)) o ≡ Some place → option_and_then (λ index. slice_get m.types index) o ≡ Some type
    → type_at (map (λ (m : ModuleTree). m.types) modules) place ≡ Some type
type_placed modules number func m None place type there is h = cc
type_placed modules number func m (Some index) place type there is h =
    let P : ModuleType → Type 0 = λ place. type_at (map (λ (m : ModuleTree). m.types) modules) place ≡ Some type in
    let same : (let t : ModuleType = record { «module» = number; index = index } in t) ≡ place = cc in
    subst P same (type_asked modules number index m there ∙ h)

place_told : (modules : List ModuleTree) (made_of : List ℕ) (cores : List CoreMake) (f : CoreRef) (place : ModuleType) (type : core.FuncType) → AllZip (λ (number : ℕ) (core : CoreMake). slice_get modules number ≡ Some core.of_module) made_of cores
    → IsIn cores f (λ m. type_of_func m f.index ≡ Some type) → option_and_then (λ number. option_and_then (place_in number f.index) (slice_get modules number)) (slice_get made_of f.instance) ≡ Some place
    → type_at (map (λ (m : ModuleTree). m.types) modules) place ≡ Some type
place_told modules made_of cores f place type made there is =
    option_and_then_some (λ number. option_and_then (place_in number f.index) (slice_get modules number)) (slice_get made_of f.instance) place is
    (λ number at of.
    let m : ModuleTree = there.core.of_module in
    let of_module : slice_get modules number ≡ Some m = zipped (λ (number : ℕ) (core : CoreMake). slice_get modules number ≡ Some core.of_module) made_of cores f.instance number there.core made at there.there in
    let placed : place_in number f.index m ≡ Some place = ap (option_and_then (place_in number f.index)) (sym of_module) ∙ of in
    type_placed modules number f.index m (slice_get (func_space m) f.index) place type of_module placed there.holds)

-- The comparison of the types at two places is that of what an import asks for with the item.
told : (same : Bool) (asked : Option core.FuncType) (type : core.FuncType) → IsTrue same ↔ AreSame asked (Some type) → same ≡ is_core_func asked type
told true None type h = absurd (h.0 refl)
told false None type h = refl
told same (Some other) type h = same_from_decides same _ h (core_func_told other type)

func_told : (made : CoreModules) (cores : List CoreMake) (canons : List CanonFunc) (number index : ℕ) (m : ModuleTree) (item : CoreItem) (place asked : ModuleType) (same : Bool) → AreModulesOf made cores → slice_get made.modules.items number ≡ Some m
    → IsItem cores canons item → place_asked number (wanted.Func index) ≡ Some asked → place_of_type made.modules.items made.made_of.items item ≡ Some place
    → IsTrue same ↔ AreSame (type_at made.types asked) (type_at made.types place) → same ≡ core_fits m item (wanted.Func index)
func_told made cores canons number index m (Table t limits) place asked same of there here asks placed h = cc
func_told made cores canons number index m (Memory t limits) place asked same of there here asks placed h = cc
func_told made cores canons number index m (Global g type) place asked same of there here asks placed h = cc
func_told made cores canons number index m (Func (func_ref.Canon k) type) place asked same of there here asks placed h = cc
func_told made cores canons number index m (Func (func_ref.Instance f) type) place asked same of there here asks placed h =
    let found = place_told made.modules.items made.made_of.items cores f place type of.made_of_are here placed in
    let it : (let t : ModuleType = record { «module» = number; index = index } in t) ≡ asked = some_inj asks in
    let wants : type_at made.types asked ≡ slice_get m.types index = ap (type_at made.types) (sym it) ∙ ap (λ types. type_at types (record { «module» = number; index = index })) of.types_are ∙ type_asked made.modules.items number index m there in
    let gives : type_at made.types place ≡ Some type = ap (λ types. type_at types place) of.types_are ∙ found in
    told same (slice_get m.types index) type (rw (← wants, ← gives) h)

-- So it is for what an import asks for.
fits_told : (made : CoreModules) (cores : List CoreMake) (canons : List CanonFunc) (number : ℕ) (m : ModuleTree) (item : CoreItem) (d : ImportDesc) (place asked : ModuleType) (same : Bool) → AreModulesOf made cores → slice_get made.modules.items number ≡ Some m
    → IsItem cores canons item → place_asked number d ≡ Some asked → place_of_type made.modules.items made.made_of.items item ≡ Some place
    → IsTrue same ↔ AreSame (type_at made.types asked) (type_at made.types place) → same ≡ core_fits m item d
fits_told made cores canons number m item (wanted.Func index) place asked same of there here asks placed h = func_told made cores canons number index m item place asked same of there here asks placed h
fits_told made cores canons number m item (wanted.Table limits) place asked same of there here asks placed h = cc
fits_told made cores canons number m item (wanted.Memory limits) place asked same of there here asks placed h = cc
fits_told made cores canons number m item (wanted.Global type) place asked same of there here asks placed h = cc

pub fits_answered : {E : Type 0} (made : CoreModules) (cores : List CoreMake) (canons : List CanonFunc) (number : ℕ) (m : ModuleTree) (item : CoreItem) (d : ImportDesc) (place asked : ModuleType) (r : Result Bool E) → AreModulesOf made cores → slice_get made.modules.items number ≡ Some m
    → IsItem cores canons item → place_asked number d ≡ Some asked → place_of_type made.modules.items made.made_of.items item ≡ Some place
    → IfOk r (λ same. IsTrue same ↔ AreSame (type_at made.types asked) (type_at made.types place)) → IfOk r (λ same. same ≡ core_fits m item d)
fits_answered made cores canons number m item d place asked (Ok same) of there here asks placed h = fits_told made cores canons number m item d place asked same of there here asks placed h
fits_answered made cores canons number m item d place asked (Err e) of there here asks placed h = h

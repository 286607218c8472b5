-- The tests say what the relations say.
use Rattle.std.proofs.Common.{◌≡◌, ◌⊎◌, inl, inr, ◌<◌, ◌≤◌, ℕ, Bool, true, false, not, ◌&&◌, cond, nat_lt, nat_le, List, [], ◌∷◌, refl, sym, ap, ap₂, subst, arith, Option, Some, None}
use Rattle.std.specs.Prelude.{is_none}
use Rattle.std.specs.Bool.{Decides}
use Rattle.std.specs.Option.{option_map_or, MatchOption}
use Rattle.std.specs.List.{slice_get, AllByRecursion, AllZip, list_all}
use Rattle.std.proofs.lemmas.Bool.Decides.{nat_tests}
use Rattle.syntax_trees.specs.Names.{AreDistinct, first_twice}
use Rattle.syntax_trees.proofs.Distinct.{distinct_law}
use Rattle.syntax_trees.specs.SameTypes.{same_type, same_types}
use Rattle.syntax_trees.specs.declared.module_types.ValType.{ValType}
use Rattle.syntax_trees.specs.declared.module_types.ValType.TheVariants.{I32, I64}
use Rattle.syntax_trees.specs.declared.module_types.FuncType as core
use Rattle.syntax_trees.specs.declared.module_types.Limits.{Limits}
use Rattle.syntax_trees.specs.declared.module_types.GlobalType.{GlobalType}
use Rattle.syntax_trees.specs.declared.module_types.Mutability.{Mutability}
use Rattle.syntax_trees.specs.declared.module_types.Mutability.TheVariants.{Constant, Variable}
use Rattle.syntax_trees.specs.declared.module.Import.{Import}
use Rattle.syntax_trees.specs.declared.module.ImportDesc.{ImportDesc}
use Rattle.syntax_trees.specs.declared.module.ImportDesc.TheVariants as wanted
use Rattle.syntax_trees.specs.declared.module.ModuleTree.{ModuleTree}
use Rattle.comp_tree.specs.declared.core_instances.CoreArgument.{CoreArgument}
use Rattle.comp_tree.specs.declared.core_instances.CoreSort.{CoreSort}
use Rattle.comp_tree.specs.declared.core_instances.CoreSort.TheVariants as core_sort
use Rattle.comp_tree.specs.declared.instances.Sort.{Sort}
use Rattle.comp_tree.specs.declared.instances.Sort.TheVariants as sorts
use Rattle.comp_tree.specs.declared.externs.ExternDesc.{ExternDesc}
use Rattle.comp_tree.specs.declared.externs.ExternDesc.TheVariants as desc
use Rattle.comp_graph.specs.Closed.{Extern, OfFunc, OfType, OfInstance, Externs, EmptyType, WithExtern, names_resource, AreTypes}
use Rattle.link_spec.specs.Definitions.{CoreItem, Func, Table, Memory, Global, MaxIsWithin, IsWithin, CoreFits, Definition, AFunc, AType, AComponent, AnInstance, AModule, Exports, export_named, Fits, FitAll}
use Rattle.link_spec.specs.Types.{Meaning}
use Rattle.link_spec.specs.Spaces.{Spaces, IsOfCoreSort, IsOfSort}
use Rattle.link_spec.specs.Items.{AnyByRecursion, import_found, FindsOther, FindsItem, IsCoreOf, IsOfTypes, IsRootImport}
use Rattle.link_spec.specs.Tests.{are_distinct, same_core_func, same_mutability, same_global, max_is_within, is_within, is_core_func, core_fits, all_fit, is_of_core_sort, is_core_of, is_of_sort, fits, fit_all, are_types, is_of_types, root_may_import}
use Rattle.link_spec.proofs.Sameness.{func_told, closed_told}
use Rattle.link_spec.proofs.SameValues.{never, both, and}

pub less : (a b : ℕ) → nat_lt a b ≡ true → a < b
less a b h = grind (arith, nat_tests)

pub not_less : (a b : ℕ) → nat_lt a b ≡ false → b ≤ a
not_less a b h = grind (arith, nat_tests)

pub at_most : (a b : ℕ) → Decides (nat_le a b) (a ≤ b)
at_most a b = (to a b, from a b)
  where
    to : (a b : ℕ) → nat_le a b ≡ true → a ≤ b
    to a b h = grind (arith, nat_tests)

    from : (a b : ℕ) → a ≤ b → nat_le a b ≡ true
    from a b h = grind (arith, nat_tests)

both_decide : {P Q : Type 0} (a b : Bool) → Decides a P → Decides b Q → Decides (a && b) (P × Q)
both_decide a b h k = (λ t. (let p = both a b t in (h.0 p.0, k.0 p.1)), λ (p, q). and a b (h.1 p) (k.1 q))

-- what a test that fails excludes
pub fails : {P : Type 0} (b : Bool) → Decides b P → b ≡ false → P → ⊥
fails b h e p = let t : b ≡ true = h.1 p in cc

pub distinct_told : (names : List (List ℕ)) → Decides (are_distinct names) (AreDistinct names)
distinct_told names = (λ h. (distinct_law names).0 (to (first_twice names) h), λ d. from (first_twice names) ((distinct_law names).1 d))
  where
    to : (o : Option ℕ) → is_none o ≡ true → o ≡ None
    to None h = refl
    to (Some n) h = never h

    from : (o : Option ℕ) → o ≡ None → is_none o ≡ true
    from None h = refl
    from (Some n) h = cc

-- Core items.

type_told : (a b : ValType) → Decides (same_type a b) (a ≡ b)
type_told I32 I32 = (λ h. refl, λ e. refl)
type_told I64 I64 = (λ h. refl, λ e. refl)
type_told I32 I64 = (λ h. never h, λ e. cc)
type_told I64 I32 = (λ h. never h, λ e. cc)

cond_both : (a b : Bool) → cond a b false ≡ true → (a ≡ true) × (b ≡ true)
cond_both true b h = (refl, h)
cond_both false b h = never h

types_same : (a b : List ValType) → same_types a b ≡ true → a ≡ b
types_same [] [] h = refl
types_same [] (t ∷ ts) h = never h
types_same (s ∷ ss) [] h = never h
types_same (s ∷ ss) (t ∷ ts) h =
    let p = cond_both (same_type s t) (same_types ss ts) h in
    let first : s ≡ t = (type_told s t).0 p.0 in
    let rest : ss ≡ ts = types_same ss ts p.1 in
    cc (first, rest)

types_self : (a : List ValType) → same_types a a ≡ true
types_self [] = refl
types_self (t ∷ ts) = rw ((type_told t t).1 refl) (types_self ts)

pub core_func_told : (a b : core.FuncType) → Decides (same_core_func a b) (a ≡ b)
core_func_told a b = (same, λ e. subst (λ (b : core.FuncType). same_core_func a b ≡ true) e (and (same_types a.params a.params) (same_types a.results a.results) (types_self a.params) (types_self a.results)))
  where
    same : same_core_func a b ≡ true → a ≡ b
    same h =
        let p = both (same_types a.params b.params) (same_types a.results b.results) h in
        ap₂ (λ params results. (let f : core.FuncType = record { params = params; results = results } in f)) (types_same a.params b.params p.0) (types_same a.results b.results p.1)

mutability_told : (a b : Mutability) → Decides (same_mutability a b) (a ≡ b)
mutability_told Constant Constant = (λ h. refl, λ e. refl)
mutability_told Variable Variable = (λ h. refl, λ e. refl)
mutability_told Constant Variable = (λ h. never h, λ e. cc)
mutability_told Variable Constant = (λ h. never h, λ e. cc)

global_told : (a b : GlobalType) → Decides (same_global a b) (a ≡ b)
global_told a b = (same, λ e. subst (λ (b : GlobalType). same_global a b ≡ true) e (and (same_type a.val_type a.val_type) (same_mutability a.mutability a.mutability) ((type_told a.val_type a.val_type).1 refl) ((mutability_told a.mutability a.mutability).1 refl)))
  where
    same : same_global a b ≡ true → a ≡ b
    same h =
        let p = both (same_type a.val_type b.val_type) (same_mutability a.mutability b.mutability) h in
        ap₂ (λ val_type mutability. (let g : GlobalType = record { val_type = val_type; mutability = mutability } in g)) ((type_told a.val_type b.val_type).0 p.0) ((mutability_told a.mutability b.mutability).0 p.1)

max_told : (max most : Option ℕ) → Decides (max_is_within max most) (MaxIsWithin max most)
max_told max None = (λ h. tt, λ h. refl)
max_told None (Some most) = (λ h. never h, λ h. absurd h)
max_told (Some max) (Some most) = at_most max most

within_told : (limits asked : Limits) → Decides (is_within limits asked) (IsWithin limits asked)
within_told limits asked = both_decide (nat_le asked.min limits.min) (max_is_within limits.max asked.max) (at_most asked.min limits.min) (max_told limits.max asked.max)

is_func_told : (o : Option core.FuncType) (type : core.FuncType) → Decides (is_core_func o type) (o ≡ Some type)
is_func_told None type = (λ h. never h, λ e. cc)
is_func_told (Some other) type = (λ h. ap Some ((core_func_told other type).0 h), λ e. (core_func_told other type).1 (let same : other ≡ type = cc in same))

core_fits_told : (m : ModuleTree) (item : CoreItem) (asked : ImportDesc) → Decides (core_fits m item asked) (CoreFits m item asked)
core_fits_told m (Func f type) (wanted.Func index) = is_func_told (slice_get m.types index) type
core_fits_told m (Table t limits) (wanted.Table asked) = within_told limits asked
core_fits_told m (Memory memory limits) (wanted.Memory asked) = within_told limits asked
core_fits_told m (Global g type) (wanted.Global asked) = global_told type asked
core_fits_told m item other = (λ h. never h, λ k. absurd k)

core_sort_told : (item : CoreItem) (sort : CoreSort) → Decides (is_of_core_sort item sort) (IsOfCoreSort item sort)
core_sort_told (Func f type) core_sort.Func = (λ h. tt, λ k. refl)
core_sort_told (Table t limits) core_sort.Table = (λ h. tt, λ k. refl)
core_sort_told (Memory m limits) core_sort.Memory = (λ h. tt, λ k. refl)
core_sort_told (Global g type) core_sort.Global = (λ h. tt, λ k. refl)
core_sort_told item sort = (λ h. never h, λ k. absurd k)

pub core_of_told : (item : CoreItem) (sort : Sort) → Decides (is_core_of item sort) (IsCoreOf item sort)
core_of_told item (sorts.Core core) = core_sort_told item core
core_of_told item sort = (λ h. never h, λ k. absurd k)

-- Definitions.

pub sort_told : (d : Definition) (sort : Sort) → Decides (is_of_sort d sort) (IsOfSort d sort)
sort_told (AModule m) (sorts.Core core_sort.Module) = (λ h. tt, λ k. refl)
sort_told (AFunc f) sorts.Func = (λ h. tt, λ k. refl)
sort_told (AType type) sorts.Type = (λ h. tt, λ k. refl)
sort_told (AComponent c) sorts.Component = (λ h. tt, λ k. refl)
sort_told (AnInstance exports) sorts.Instance = (λ h. tt, λ k. refl)
sort_told d sort = (λ h. never h, λ k. absurd k)

found_told : {A : Type 0} (test : A → Bool) (P : A → Type 0) (o : Option A) → ((a : A) → Decides (test a) (P a)) → Decides (option_map_or test o false) ((a : A) × (o ≡ Some a) × P a)
found_told test P None told = (λ h. never h, λ (a, e, p). (let no : None ≡ Some a = e in cc))
found_told test P (Some x) told = (λ h. (x, refl, (told x).0 h), λ (a, e, p). (told x).1 (let same : a ≡ x = cc in subst P same p))

mutual
  pub fits_told : (d : Definition) (extern : Extern) → Decides (fits d extern) (Fits d extern)
  fits_told (AFunc f) (OfFunc type) = func_told f.func_type type
  fits_told (AType type) (OfType asked) = closed_told type asked
  fits_told (AnInstance given) (OfInstance asked) = fit_all_told given asked
  fits_told d extern = (λ h. never h, λ k. absurd k)

  fit_all_told : (given : Exports) (asked : Externs) → Decides (fit_all given asked) (FitAll given asked)
  fit_all_told given EmptyType = (λ h. tt, λ k. refl)
  fit_all_told given (WithExtern others name extern) =
      both_decide (fit_all given others) (option_map_or (λ d. fits d extern) (export_named name given) false) (fit_all_told given others)
      (found_told (λ d. fits d extern) (λ d. Fits d extern) (export_named name given) (λ d. fits_told d extern))

not_told : (b : Bool) → Decides (not b) (b ≡ false)
not_told true = (λ h. never h, λ e. cc)
not_told false = (λ h. refl, λ e. refl)

types_only : (externs : Externs) → Decides (are_types externs) (AreTypes externs)
types_only EmptyType = (λ h. tt, λ k. refl)
types_only (WithExtern others name (OfFunc type)) = (λ h. never h, λ k. absurd k)
types_only (WithExtern others name (OfType type)) = both_decide (are_types others) (not (names_resource type)) (types_only others) (not_told (names_resource type))
types_only (WithExtern others name (OfInstance inner)) = (λ h. never h, λ k. absurd k)

pub of_types_told : (extern : Extern) → Decides (is_of_types extern) (IsOfTypes extern)
of_types_told (OfInstance externs) = types_only externs
of_types_told (OfFunc type) = (λ h. never h, λ k. absurd k)
of_types_told (OfType type) = (λ h. never h, λ k. absurd k)

-- What the root may not import.
may_not : (o : Option Extern) → option_map_or is_of_types o true ≡ false → MatchOption o ⊥ (λ extern. IsOfTypes extern → ⊥)
may_not None h = let no : true ≡ false = h in cc
may_not (Some extern) h = fails (is_of_types extern) (of_types_told extern) h

may : (o : Option Extern) → option_map_or is_of_types o true ≡ true → MatchOption o ⊥ (λ extern. IsOfTypes extern → ⊥) → ⊥
may None h k = k
may (Some extern) h k = k ((of_types_told extern).0 h)

pub root_refused : (meaning : Meaning Extern) (asked : ExternDesc) → root_may_import asked meaning.means ≡ false → IsRootImport meaning asked
root_refused meaning (desc.Instance index) h = may_not meaning.means h
root_refused meaning (desc.Func index) h = tt
root_refused meaning (desc.TypeEq index) h = tt
root_refused meaning desc.Resource h = tt

pub root_taken : (meaning : Meaning Extern) (asked : ExternDesc) → root_may_import asked meaning.means ≡ true → IsRootImport meaning asked → ⊥
root_taken meaning (desc.Instance index) h k = may meaning.means h k
root_taken meaning (desc.Func index) h k = never h
root_taken meaning (desc.TypeEq index) h k = never h
root_taken meaning desc.Resource h k = never h

pub root_types : (meaning : Option Extern) (asked : ExternDesc) (extern : Extern) → root_may_import asked meaning ≡ true → meaning ≡ Some extern → IsOfTypes extern
root_types meaning (desc.Instance index) extern h e = (of_types_told extern).0 (subst (λ (o : Option Extern). option_map_or is_of_types o true ≡ true) e h)
root_types meaning (desc.Func index) extern h e = never h
root_types meaning (desc.TypeEq index) extern h e = never h
root_types meaning desc.Resource extern h e = never h

-- Lists.

-- all of some items pass, or one does not
pub all_pass_or : {A : Type 0} (test : A → Bool) (P R : A → Type 0) → ((x : A) → test x ≡ true → P x) → ((x : A) → test x ≡ false → R x) → (xs : List A) → (list_all test xs ≡ true → AllByRecursion P xs) × (list_all test xs ≡ false → AnyByRecursion R xs)
all_pass_or test P R f g [] = (λ h. tt, λ h. (let no : true ≡ false = h in cc))
all_pass_or test P R f g (x ∷ xs) = by (test x) refl (all_pass_or test P R f g xs)
  where
    by : (b : Bool) → test x ≡ b → (list_all test xs ≡ true → AllByRecursion P xs) × (list_all test xs ≡ false → AnyByRecursion R xs)
        → ((b && list_all test xs) ≡ true → P x × AllByRecursion P xs) × ((b && list_all test xs) ≡ false → R x ⊎ AnyByRecursion R xs)
    by true e rest = (λ h. (f x e, rest.0 (both true (list_all test xs) h).1), λ h. inr (rest.1 (let k : list_all test xs ≡ false = h in k)))
    by false e rest = (λ h. never h, λ h. inl (g x e))

-- Items that imports find: all are what is asked for, or one is another.
abbrev pub Found : Spaces → List CoreArgument → Import → CoreItem → Type 0
Found s arguments i item = import_found s arguments i ≡ Some item

another : (s : Spaces) (m : ModuleTree) (arguments : List CoreArgument) (i : Import) (item : CoreItem) → Found s arguments i item → core_fits m item i.desc ≡ false → FindsOther s m arguments i
another s m arguments i item e h = subst (λ (o : Option CoreItem). MatchOption o ⊥ (λ item. CoreFits m item i.desc → ⊥)) (sym e) (fails (core_fits m item i.desc) (core_fits_told m item i.desc) h)

pub all_fit_or : (s : Spaces) (m : ModuleTree) (arguments : List CoreArgument) (imports : List Import) (items : List CoreItem) → AllZip (Found s arguments) imports items
    → (all_fit m imports items ≡ true → AllZip (FindsItem s m arguments) imports items) × (all_fit m imports items ≡ false → AnyByRecursion (FindsOther s m arguments) imports)
all_fit_or s m arguments [] [] found = (λ h. tt, λ h. (let no : true ≡ false = h in cc))
all_fit_or s m arguments [] (item ∷ items) found = absurd found
all_fit_or s m arguments (i ∷ imports) [] found = absurd found
all_fit_or s m arguments (i ∷ imports) (item ∷ items) found = by (core_fits m item i.desc) refl (all_fit_or s m arguments imports items found.1)
  where
    by : (b : Bool) → core_fits m item i.desc ≡ b
        → (all_fit m imports items ≡ true → AllZip (FindsItem s m arguments) imports items) × (all_fit m imports items ≡ false → AnyByRecursion (FindsOther s m arguments) imports)
        → ((b && all_fit m imports items) ≡ true → FindsItem s m arguments i item × AllZip (FindsItem s m arguments) imports items)
        × ((b && all_fit m imports items) ≡ false → FindsOther s m arguments i ⊎ AnyByRecursion (FindsOther s m arguments) imports)
    by true e rest = (λ h. ((found.0, (core_fits_told m item i.desc).0 e), rest.0 (both true (all_fit m imports items) h).1), λ h. inr (rest.1 (let k : all_fit m imports items ≡ false = h in k)))
    by false e rest = (λ h. never h, λ h. inl (another s m arguments i item found.0 e))

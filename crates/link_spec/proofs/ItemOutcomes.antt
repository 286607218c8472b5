-- What is computed of aliases, types, resources, lifts, lowers, imports and exports.
use Rattle.std.proofs.Common.{◌≡◌, ◌⊎◌, inl, inr, ℕ, Bool, true, false, not, nat_lt, List, ◌∷◌, refl, sym, ap, subst, arith, Option, Some, None}
use Rattle.std.specs.Prelude.{Ok}
use Rattle.std.specs.Option.{option_and_then, MatchOption}
use Rattle.std.specs.List.{slice_get, list_all, AllByRecursion}
use Rattle.syntax_trees.specs.Names.{is_among}
use Rattle.syntax_trees.specs.declared.types.FuncType.{FuncType}
use Rattle.syntax_trees.specs.declared.module_types.FuncType as core
use Rattle.comp_graph.specs.CoreItems.{core_func_of, func_part}
use Rattle.comp_graph.specs.Needs.{lift_type, destructor_type}
use Rattle.comp_graph.specs.declared.graph.FuncRef.{FuncRef}
use Rattle.comp_tree.specs.declared.instances.Sort.{Sort}
use Rattle.comp_tree.specs.declared.instances.AliasTarget.{AliasTarget}
use Rattle.comp_tree.specs.declared.instances.AliasTarget.TheVariants as target
use Rattle.comp_tree.specs.declared.externs.ExternDesc.{ExternDesc}
use Rattle.comp_tree.specs.declared.externs.Export as read
use Rattle.comp_tree.specs.declared.items.CanonOption.{CanonOption}
use Rattle.link_spec.specs.Brought.{asked_of}
use Rattle.link_spec.specs.declared.fault.LinkWhy.TheVariants as why
use Rattle.comp_graph.specs.Closed.{Closed, Extern, OfFunc, OfType, OfInstance, func_of}
use Rattle.link_spec.specs.Definitions.{CoreItem, Func, Table, Memory, Global, core_named, Lifted, Definition, AFunc, AnInstance, Exports, export_names, export_named, lacks, seen_as, types_of}
use Rattle.link_spec.specs.Canons.{IsOptionThere, Given, given_by, options_of, IsOfCoreType, CanBeLifted, CanBeLowered, stand_once, is_option_there, is_of_core_type, can_be_lifted, can_be_lowered}
use Rattle.link_spec.specs.Builtins.{BuiltinMeaning}
use Rattle.link_spec.specs.Resources.{with_resource, resource_has, resource_makes}
use Rattle.link_spec.specs.Types.{Meaning}
use Rattle.link_spec.specs.Spaces.{Spaces, Linking, size_of, definition_at, IsOfSort, with_core_item, with_definition, with_spaces, outer_at}
use Rattle.link_spec.specs.Items.{AnyByRecursion, IsCoreOf, alias_has, alias_makes, type_has, type_makes, defined_has, defined_makes, lift_has, lift_makes, lower_has, lower_made, lower_makes, builtin_has, builtin_makes, wanted, IsOfTypes, lacking, DoesNotFit, import_has, with_import, IsImported, import_makes, said, IsSaid, export_has, with_export, IsExported, export_makes}
use Rattle.link_spec.specs.Tests.{is_core_of, is_of_sort, fits, root_may_import}
use Rattle.link_spec.specs.Computed.{after, there_or, Outcome, Makes, core_aliased, alias_outcome, type_outcome, destructor_at, resource_outcome, defined_outcome, lifted_to, lifted_of, lift_outcome, lowered_from, lower_outcome, builtin_outcome, root_given, as_asked, import_outcome, said_is_there, said_lacks, as_said, export_outcome}
use Rattle.link_spec.proofs.Lists.{some_all, match_at, match_some, then_some}
use Rattle.link_spec.proofs.Excluding.{both_of, true_false}
use Rattle.link_spec.proofs.Telling.{less, not_less, fails, all_pass_or, core_of_told, sort_told, fits_told, root_refused, root_taken, root_types}
use Rattle.link_spec.proofs.Lifting.{of_type_told, once_told, option_told, lifted_told, lowered_told}
use Rattle.link_spec.proofs.Sounding.{Clear, First, Sound, clear_root, clear_index, clear_missing, clear_typing, clear_canon, sound_if, sound_there, sound_behind, sound_missing, sound_checked, sound_found, match_in, match_none}
use Rattle.link_spec.proofs.CoreOutcomes.{MakesBy}

-- Aliases.

found_then : {A B : Type 0} (f : A → Option B) (o : Option A) (a : A) (b : B) → o ≡ Some a → f a ≡ Some b → option_and_then f o ≡ Some b
found_then f o a b e h = rw e h

export_alias : (l : Linking) (n : ℕ) (s : Spaces) (sort : Sort) (instance : ℕ) (name : List ℕ)
    → Sound (alias_has l n s sort (target.InstanceExport instance name)) (MakesBy (alias_makes l n s sort (target.InstanceExport instance name))) (alias_outcome l n s sort (target.InstanceExport instance name))
export_alias l n s sort instance name =
    let P = alias_has l n s sort (target.InstanceExport instance name) in
    let Q = MakesBy (alias_makes l n s sort (target.InstanceExport instance name)) in
    let root = clear_root P (λ h. h) in
    sound_there P Q (slice_get s.instances instance) why.Index _ root (λ none. none) (λ exports there.
    (let index = clear_index P root (λ none. both_of (slice_get s.instances instance) exports there none) in
    sound_there P Q (export_named name exports) (why.Missing name) _ index (λ none. (refl, match_in (λ exports. export_named name exports ≡ None) (slice_get s.instances instance) exports there none)) (λ d named.
    (let found = found_then (export_named name) (slice_get s.instances instance) exports d there named in
    let missing = clear_missing P index (λ missing h. both_of (export_named name exports) d named (match_at (λ exports. export_named name exports ≡ None) (slice_get s.instances instance) exports there h.1)) in
    sound_if P Q (is_of_sort d sort) why.Typing _ missing
    (λ other. match_in (λ d. IsOfSort d sort → ⊥) (option_and_then (export_named name) (slice_get s.instances instance)) d found (fails (is_of_sort d sort) (sort_told d sort) other))
    (λ right. (d, found, (sort_told d sort).0 right, refl))))))

core_alias : (l : Linking) (n : ℕ) (s : Spaces) (sort : Sort) (instance : ℕ) (name : List ℕ)
    → Sound (alias_has l n s sort (target.CoreInstanceExport instance name)) (MakesBy (alias_makes l n s sort (target.CoreInstanceExport instance name))) (alias_outcome l n s sort (target.CoreInstanceExport instance name))
core_alias l n s sort instance name =
    let P = alias_has l n s sort (target.CoreInstanceExport instance name) in
    let Q = (λ (item : CoreItem). alias_makes l n s sort (target.CoreInstanceExport instance name) (with_spaces l n (with_core_item s item))) in
    let root = clear_root P (λ h. h) in
    sound_behind P (MakesBy (alias_makes l n s sort (target.CoreInstanceExport instance name))) (core_aliased s.core_instances sort instance name) _ (
    sound_there P Q (slice_get s.core_instances instance) why.Index _ root (λ none. none) (λ exports there.
    (let index = clear_index P root (λ none. both_of (slice_get s.core_instances instance) exports there none) in
    sound_there P Q (core_named name exports) (why.Missing name) _ index (λ none. (refl, match_in (λ exports. core_named name exports ≡ None) (slice_get s.core_instances instance) exports there none)) (λ item named.
    (let found = found_then (core_named name) (slice_get s.core_instances instance) exports item there named in
    let missing = clear_missing P index (λ missing h. both_of (core_named name exports) item named (match_at (λ exports. core_named name exports ≡ None) (slice_get s.core_instances instance) exports there h.1)) in
    sound_if P Q (is_core_of item sort) why.Typing _ missing
    (λ other. match_in (λ item. IsCoreOf item sort → ⊥) (option_and_then (core_named name) (slice_get s.core_instances instance)) item found (fails (is_core_of item sort) (core_of_told item sort) other))
    (λ right. (item, found, (core_of_told item sort).0 right, refl)))))))

pub alias_sound : (l : Linking) (n : ℕ) (s : Spaces) (sort : Sort) (t : AliasTarget) → Sound (alias_has l n s sort t) (MakesBy (alias_makes l n s sort t)) (alias_outcome l n s sort t)
alias_sound l n s sort (target.InstanceExport instance name) = export_alias l n s sort instance name
alias_sound l n s sort (target.CoreInstanceExport instance name) = core_alias l n s sort instance name
alias_sound l n s sort (target.Outer up index) =
    let P = alias_has l n s sort (target.Outer up index) in
    let Q = MakesBy (alias_makes l n s sort (target.Outer up index)) in
    sound_there P Q (outer_at l (n ∷ s.around) sort up index) why.Index _ (clear_root P (λ h. h)) (λ none. none) (λ d there. (d, there, refl))

-- tests that are turned
not_false : (b : Bool) → not b ≡ false → b ≡ true
not_false true h = refl
not_false false h = let no : true ≡ false = h in cc

not_true : (b : Bool) → not b ≡ true → b ≡ false
not_true true h = let no : false ≡ true = h in cc
not_true false h = refl

-- Types.

type_sound : (l : Linking) (n : ℕ) (s : Spaces) (meaning : Meaning Closed) → Sound (type_has meaning) (MakesBy (type_makes l n s meaning)) (type_outcome l n s meaning)
type_sound l n s meaning =
    let P = type_has meaning in
    let Q = MakesBy (type_makes l n s meaning) in
    let root = clear_root P (λ h. h) in
    sound_if P Q meaning.is_there why.Index _ root (λ absent. absent) (λ there.
    (let index = clear_index P root (λ h. true_false meaning.is_there there h) in
    sound_missing P Q meaning.missing _ index (λ name is. is) (λ none.
    (let missing = clear_missing P index (λ name h. both_of meaning.missing name h none) in
    sound_there P Q meaning.means why.Typing _ missing (λ none. none) (λ closed is.
    (let typed = clear_canon P (clear_typing P missing (λ none. both_of meaning.means closed is none)) (λ h. h) in
    sound_if P Q (not meaning.deep) why.Limit _ typed (λ deep. not_false meaning.deep deep)
    (λ shallow. (closed, (is, not_true meaning.deep shallow), refl))))))))

-- a core item of a function type is a function
not_func : (item : CoreItem) (type : core.FuncType) → func_part item ≡ Some type → core_func_of item ≡ None → ⊥
not_func (Func f other) type h e = cc
not_func (Table t limits) type h e = cc
not_func (Memory memory limits) type h e = cc
not_func (Global g of_core) type h e = cc

resource_sound : (l : Linking) (n : ℕ) (s : Spaces) (destructor : Option ℕ) → Sound (resource_has s destructor) (MakesBy (resource_makes l n s destructor)) (resource_outcome l n s destructor)
resource_sound l n s None = refl
resource_sound l n s (Some f) =
    let P = resource_has s (Some f) in
    let Q = (λ (destructor : Option FuncRef). resource_makes l n s (Some f) (with_resource l n s destructor)) in
    let root = clear_root P (λ h. h) in
    sound_behind P (MakesBy (resource_makes l n s (Some f))) (destructor_at s (Some f)) _ (
    sound_there P Q (slice_get s.core_funcs f) why.Index _ root (λ none. none) (λ item there.
    (let index = clear_index P root (λ none. both_of (slice_get s.core_funcs f) item there none) in
    let clear = clear_typing P (clear_missing P index (λ name h. h)) (λ h. h) in
    sound_if P Q (is_of_core_type destructor_type item) why.Canon _ clear
    (λ other. match_in (λ item. IsOfCoreType destructor_type item → ⊥) (slice_get s.core_funcs f) item there (fails (is_of_core_type destructor_type item) (of_type_told destructor_type item) other)) (λ fits.
    sound_there P Q (core_func_of item) why.Canon _ clear (λ none. absurd (not_func item destructor_type ((of_type_told destructor_type item).0 fits) none))
    (λ core of_item. (item, core, there, of_item, (of_type_told destructor_type item).0 fits, refl))))))

pub defined_sound : (l : Linking) (n : ℕ) (s : Spaces) (destructor : Option (Option ℕ)) (meaning : Meaning Closed) → Sound (defined_has s destructor meaning) (MakesBy (defined_makes l n s destructor meaning)) (defined_outcome l n s destructor meaning)
defined_sound l n s (Some destructor) meaning = resource_sound l n s destructor
defined_sound l n s None meaning = type_sound l n s meaning

-- Lifts.

-- what the lift of these indices makes is this function
abbrev LiftMakes : Linking → ℕ → Spaces → ℕ → List CanonOption → ℕ → Lifted → Type 0
LiftMakes l n s f options t lifted = lift_makes l n s f options t (with_spaces l n (with_definition s (AFunc lifted)))

-- a core item that cannot be lifted
abbrev Unfit : Spaces → List CanonOption → FuncType → CoreItem → Type 0
Unfit s options type item = CanBeLifted type item (given_by s options) → ⊥

abbrev UnfitAt : Spaces → ℕ → List CanonOption → FuncType → Type 0
UnfitAt s f options type = MatchOption (slice_get s.core_funcs f) ⊥ (Unfit s options type)

lifted_sound : (l : Linking) (n : ℕ) (s : Spaces) (f : ℕ) (options : List CanonOption) (t : ℕ) (type : FuncType) (item : CoreItem) → slice_get s.core_funcs f ≡ Some item → AllByRecursion (IsOptionThere s) options
    → option_and_then func_of (slice_get s.types t) ≡ Some type → Clear (lift_has s f options t) 4
    → Sound (lift_has s f options t) (LiftMakes l n s f options t) (lifted_to n type item options (given_by s options))
lifted_sound l n s f options t type item there are is clear =
    let P = lift_has s f options t in
    let Q = LiftMakes l n s f options t in
    let given = given_by s options in
    sound_if P Q (stand_once options) why.Canon _ clear (λ twice. inl (fails (stand_once options) (once_told options) twice)) (λ once.
    sound_if P Q (can_be_lifted type item given) why.Canon _ clear
    (λ other. inr (match_in (UnfitAt s f options) (option_and_then func_of (slice_get s.types t)) type is
    (match_in (Unfit s options type) (slice_get s.core_funcs f) item there (fails (can_be_lifted type item given) (lifted_told type item given) other)))) (λ fits.
    sound_there P Q (core_func_of item) why.Canon _ clear (λ none. absurd (not_func item (lift_type (options_of given) type) ((lifted_told type item given).0 fits).core none))
    (λ core of_item. (item, core, type, there, of_item, are, is, (once_told options).0 once, (lifted_told type item given).0 fits, refl))))

-- options that are there, or not
options_told : (s : Spaces) (options : List CanonOption)
    → (list_all (is_option_there s) options ≡ true → AllByRecursion (IsOptionThere s) options) × (list_all (is_option_there s) options ≡ false → AnyByRecursion (λ o. IsOptionThere s o → ⊥) options)
options_told s options =
    all_pass_or (is_option_there s) (IsOptionThere s) (λ o. IsOptionThere s o → ⊥) (λ o h. (option_told s o).0 h) (λ o h. fails (is_option_there s o) (option_told s o) h) options

pub lift_sound : (l : Linking) (n : ℕ) (s : Spaces) (f : ℕ) (options : List CanonOption) (t : ℕ) → Sound (lift_has s f options t) (MakesBy (lift_makes l n s f options t)) (lift_outcome l n s f options t)
lift_sound l n s f options t =
    let P = lift_has s f options t in
    let Q = LiftMakes l n s f options t in
    let root = clear_root P (λ h. h) in
    sound_behind P (MakesBy (lift_makes l n s f options t)) (lifted_of n s f options t) _ (
    sound_there P Q (slice_get s.core_funcs f) why.Index _ root (λ none. inl none) (λ item there.
    sound_if P Q (list_all (is_option_there s) options) why.Index _ root (λ absent. inr (inl ((options_told s options).1 absent))) (λ all.
    (let are = (options_told s options).0 all in
    sound_there P Q (slice_get s.types t) why.Index _ root (λ none. inr (inr none)) (λ type is.
    (let index = clear_index P root (λ h. elim h [
      | inl none ↦ both_of (slice_get s.core_funcs f) item there none
      | inr (inl absent) ↦ some_all (IsOptionThere s) (λ o. IsOptionThere s o → ⊥) (λ o h k. k h) options are absent
      | inr (inr none) ↦ both_of (slice_get s.types t) type is none
    ]) in
    let missing = clear_missing P index (λ name h. h) in
    sound_there P Q (func_of type) why.Typing _ missing (λ none. match_in (λ type. func_of type ≡ None) (slice_get s.types t) type is none) (λ of_func found.
    lifted_sound l n s f options t of_func item there are (found_then func_of (slice_get s.types t) type of_func is found)
    (clear_typing P missing (λ h. both_of (func_of type) of_func found (match_at (λ type. func_of type ≡ None) (slice_get s.types t) type is h))))))))))

-- Lowers.

-- a function that cannot be lowered
abbrev Unlowered : Spaces → List CanonOption → Lifted → Type 0
Unlowered s options func = CanBeLowered func.func_type (given_by s options) → ⊥

-- what the lowering of these indices makes is this
abbrev LowerMakes : Linking → ℕ → Spaces → ℕ → List CanonOption → Lifted → Given → Type 0
LowerMakes l n s f options func given = lower_makes l n s f options (lower_made l n s func given)

lowered_sound : (l : Linking) (n : ℕ) (s : Spaces) (f : ℕ) (options : List CanonOption) (func : Lifted) → slice_get s.funcs f ≡ Some func → AllByRecursion (IsOptionThere s) options → Clear (lower_has s f options) 4
    → Sound (lower_has s f options) (LowerMakes l n s f options func) (lowered_from func.func_type options (given_by s options))
lowered_sound l n s f options func there are clear =
    let P = lower_has s f options in
    let Q = LowerMakes l n s f options func in
    let given = given_by s options in
    let type = func.func_type in
    sound_if P Q (stand_once options) why.Canon _ clear (λ twice. inl (fails (stand_once options) (once_told options) twice)) (λ once.
    sound_if P Q (can_be_lowered type given) why.Canon _ clear
    (λ other. inr (match_in (Unlowered s options) (slice_get s.funcs f) func there (fails (can_be_lowered type given) (lowered_told type given) other)))
    (λ fits. (func, there, are, (once_told options).0 once, (lowered_told type given).0 fits, refl)))

pub lower_sound : (l : Linking) (n : ℕ) (s : Spaces) (f : ℕ) (options : List CanonOption) → Sound (lower_has s f options) (MakesBy (lower_makes l n s f options)) (lower_outcome l n s f options)
lower_sound l n s f options =
    let P = lower_has s f options in
    let Q = MakesBy (lower_makes l n s f options) in
    let root = clear_root P (λ h. h) in
    sound_there P Q (slice_get s.funcs f) why.Index _ root (λ none. inl none) (λ func there.
    sound_if P Q (list_all (is_option_there s) options) why.Index _ root (λ absent. inr ((options_told s options).1 absent)) (λ all.
    (let are = (options_told s options).0 all in
    let index = clear_index P root (λ h. elim h [
      | inl none ↦ both_of (slice_get s.funcs f) func there none
      | inr absent ↦ some_all (IsOptionThere s) (λ o. IsOptionThere s o → ⊥) (λ o h k. k h) options are absent
    ]) in
    let typed = clear_typing P (clear_missing P index (λ name h. h)) (λ h. h) in
    sound_behind P Q (lowered_from func.func_type options (given_by s options)) _ (lowered_sound l n s f options func there are typed))))

-- Built-ins.

pub builtin_sound : (l : Linking) (n : ℕ) (s : Spaces) (meaning : BuiltinMeaning) → Sound (builtin_has meaning) (MakesBy (builtin_makes l n s meaning)) (builtin_outcome l n s meaning)
builtin_sound l n s meaning =
    let P = builtin_has meaning in
    let Q = MakesBy (builtin_makes l n s meaning) in
    let root = clear_root P (λ h. h) in
    sound_if P Q meaning.is_there why.Index _ root (λ absent. absent) (λ there.
    (let index = clear_index P root (λ absent. true_false meaning.is_there there absent) in
    let missing = clear_missing P index (λ name h. h) in
    sound_there P Q meaning.means why.Typing _ missing (λ none. none) (λ kind is.
    sound_if P Q meaning.serves why.Canon _ (clear_typing P missing (λ none. both_of meaning.means kind is none)) (λ other. other) (λ serves. (kind, there, is, serves, refl)))))

-- Imports.

abbrev ImportMakes : Linking → ℕ → Spaces → List ℕ → ExternDesc → Outcome → Type 0
ImportMakes l n s name asked = MakesBy (import_makes l n s name asked)

-- an import of the root
root_end : (l : Linking) (n : ℕ) (s : Spaces) (name : List ℕ) (asked : ExternDesc) (extern : Extern) → s.arguments ≡ None → (wanted s name asked).means ≡ Some extern → is_among name s.imports ≡ false → IsOfTypes extern
    → Sound (import_has s name asked) (ImportMakes l n s name asked) (after (root_given extern) (λ d. Ok (Makes (with_spaces l n (with_import s name d)))))
root_end l n s name asked (OfFunc type) of_root is fresh types = absurd types
root_end l n s name asked (OfType type) of_root is fresh types = absurd types
root_end l n s name asked (OfInstance externs) of_root is fresh types =
    (OfInstance externs, AnInstance (types_of externs), is, fresh, subst (λ (o : Option Exports). IsImported o name (OfInstance externs) (AnInstance (types_of externs))) (sym of_root) (types, refl), refl)

root_sound : (l : Linking) (n : ℕ) (s : Spaces) (name : List ℕ) (asked : ExternDesc) → s.arguments ≡ None → Sound (import_has s name asked) (ImportMakes l n s name asked) (import_outcome l n s name (wanted s name asked) asked None)
root_sound l n s name asked of_root =
    let P = import_has s name asked in
    let Q = ImportMakes l n s name asked in
    let meaning = wanted s name asked in
    sound_if P Q (root_may_import asked meaning.means) why.RootImport _ (λ w low h. absurd (omega arith)) (λ refused. (of_root, root_refused meaning asked refused)) (λ taken.
    (let root = clear_root P (λ h. root_taken meaning asked taken h.1) in
    sound_if P Q meaning.is_there why.Index _ root (λ absent. absent) (λ there.
    (let missing = clear_missing P (clear_index P root (λ h. true_false meaning.is_there there h)) (λ missing h. match_none (λ given. lacking (export_named name given) name meaning.means ≡ Some missing) s.arguments of_root h) in
    sound_if P Q (not (is_among name s.imports)) why.Typing _ missing (λ twice. inl (not_false (is_among name s.imports) twice)) (λ fresh.
    sound_there P Q meaning.means why.Typing _ missing (λ none. inr (inl none)) (λ extern is.
    root_end l n s name asked extern of_root is (not_true (is_among name s.imports) fresh) (root_types meaning.means asked extern taken is)))))))

given_sound : (l : Linking) (n : ℕ) (s : Spaces) (name : List ℕ) (asked : ExternDesc) (given : Exports) → s.arguments ≡ Some given → Sound (import_has s name asked) (ImportMakes l n s name asked) (import_outcome l n s name (wanted s name asked) asked (Some given))
given_sound l n s name asked given of_given =
    let P = import_has s name asked in
    let Q = ImportMakes l n s name asked in
    let meaning = wanted s name asked in
    let root = clear_root P (λ h. both_of s.arguments given of_given h.0) in
    sound_if P Q meaning.is_there why.Index _ root (λ absent. absent) (λ there.
    (let index = clear_index P root (λ h. true_false meaning.is_there there h) in
    sound_missing P Q (lacking (export_named name given) name meaning.means) _ index
    (λ missing lacks. match_in (λ given. lacking (export_named name given) name meaning.means ≡ Some missing) s.arguments given of_given lacks) (λ none.
    (let missing = clear_missing P index (λ missing h. both_of (lacking (export_named name given) name meaning.means) missing (match_at (λ given. lacking (export_named name given) name meaning.means ≡ Some missing) s.arguments given of_given h) none) in
    sound_if P Q (not (is_among name s.imports)) why.Typing _ missing (λ twice. inl (not_false (is_among name s.imports) twice)) (λ fresh.
    sound_there P Q meaning.means why.Typing _ missing (λ none. inr (inl none)) (λ extern is.
    sound_there P Q (export_named name given) (why.Missing name) _ index
    (λ absent. match_in (λ given. lacking (export_named name given) name meaning.means ≡ Some name) s.arguments given of_given (ap (λ (o : Option Definition). lacking o name meaning.means) absent)) (λ x found.
    sound_checked P Q (fits x (asked_of x extern)) why.Typing (seen_as x (asked_of x extern)) _ missing
    (λ other. inr (inr (match_in (λ given. DoesNotFit (export_named name given) meaning.means) s.arguments given of_given
    (subst (λ (o : Option Definition). DoesNotFit o meaning.means) (sym found) (subst (λ (e : Option Extern). DoesNotFit (Some x) e) (sym is) (fails (fits x (asked_of x extern)) (fits_told x (asked_of x extern)) other))))))
    (λ right. (extern, seen_as x (asked_of x extern), is, not_true (is_among name s.imports) fresh, subst (λ (o : Option Exports). IsImported o name extern (seen_as x (asked_of x extern))) (sym of_given) (x, found, (fits_told x (asked_of x extern)).0 right, refl), refl)))))))))

pub import_sound : (l : Linking) (n : ℕ) (s : Spaces) (name : List ℕ) (asked : ExternDesc) → Sound (import_has s name asked) (ImportMakes l n s name asked) (import_outcome l n s name (wanted s name asked) asked s.arguments)
import_sound l n s name asked = by s.arguments refl
  where
    by : (o : Option Exports) → s.arguments ≡ o → Sound (import_has s name asked) (ImportMakes l n s name asked) (import_outcome l n s name (wanted s name asked) asked o)
    by None e = root_sound l n s name asked e
    by (Some given) e = given_sound l n s name asked given e

-- Exports.

abbrev SaysLack : List ℕ → Definition → Option (Meaning Extern) → List ℕ → Type 0
SaysLack name d m missing = IsSaid m (λ meaning. MatchOption meaning.means ⊥ (λ extern. lacks (Some d) name (asked_of d extern) ≡ Some missing))

says_lack : (name : List ℕ) (d : Definition) (m : Option (Meaning Extern)) (missing : List ℕ) → said_lacks name d m ≡ Some missing → SaysLack name d m missing
says_lack name d m missing h =
    let p = then_some (λ extern. lacks (Some d) name (asked_of d extern)) (option_and_then (λ (meaning : Meaning Extern). meaning.means) m) missing h in
    let q = then_some (λ (meaning : Meaning Extern). meaning.means) m p.0 p.1 in
    match_in (λ (meaning : Meaning Extern). MatchOption meaning.means ⊥ (λ extern. lacks (Some d) name (asked_of d extern) ≡ Some missing)) m q.0 q.1
    (match_in (λ extern. lacks (Some d) name (asked_of d extern) ≡ Some missing) q.0.means p.0 q.2 p.2)

lack_said : (name : List ℕ) (d : Definition) (m : Option (Meaning Extern)) (missing : List ℕ) → SaysLack name d m missing → said_lacks name d m ≡ Some missing
lack_said name d None missing h = absurd h
lack_said name d (Some meaning) missing h =
    let q = match_some (λ extern. lacks (Some d) name (asked_of d extern) ≡ Some missing) meaning.means h in
    found_then (λ extern. lacks (Some d) name (asked_of d extern)) meaning.means q.0 missing q.1 q.2

says_absent : (m : Option (Meaning Extern)) → said_is_there m ≡ false → IsSaid m (λ meaning. meaning.is_there ≡ false)
says_absent None h = let no : true ≡ false = h in cc
says_absent (Some meaning) h = h

says_there : (m : Option (Meaning Extern)) → said_is_there m ≡ true → IsSaid m (λ meaning. meaning.is_there ≡ false) → ⊥
says_there None h k = k
says_there (Some meaning) h k = true_false meaning.is_there h k

abbrev ExportMakes : Linking → ℕ → Spaces → read.Export → Outcome → Type 0
ExportMakes l n s e = MakesBy (export_makes l n s e)

export_end : (l : Linking) (n : ℕ) (s : Spaces) (e : read.Export) (d : Definition) → definition_at s e.sort e.index ≡ Some d → is_among e.name (export_names s.exports) ≡ false → Clear (export_has s e) 3
    → (m : Option (Meaning Extern)) → said s e ≡ m → Sound (export_has s e) (ExportMakes l n s e) (after (as_said d m) (λ x. Ok (Makes (with_spaces l n (with_export s e.name x)))))
export_end l n s e d is fresh clear None unsaid = (d, d, is, fresh, subst (λ (m : Option (Meaning Extern)). IsExported m d d) (sym unsaid) refl, refl)
export_end l n s e d is fresh clear (Some meaning) means = by meaning.means refl
  where
    other : (meaning.means ≡ None) ⊎ DoesNotFit (definition_at s e.sort e.index) meaning.means → export_has s e why.Typing
    other h = inr (inr (match_in (λ (meaning : Meaning Extern). (meaning.means ≡ None) ⊎ DoesNotFit (definition_at s e.sort e.index) meaning.means) (said s e) meaning means h))

    by : (o : Option Extern) → meaning.means ≡ o → Sound (export_has s e) (ExportMakes l n s e) (after (after (there_or why.Typing o) (λ extern. as_asked d extern)) (λ x. Ok (Makes (with_spaces l n (with_export s e.name x)))))
    by None none = record { has = other (inl none); clear = clear }
    by (Some extern) some =
        sound_checked (export_has s e) (ExportMakes l n s e) (fits d (asked_of d extern)) why.Typing (seen_as d (asked_of d extern)) _ clear
        (λ wrong. other (inr (subst (λ (o : Option Definition). DoesNotFit o meaning.means) (sym is) (subst (λ (x : Option Extern). DoesNotFit (Some d) x) (sym some) (fails (fits d (asked_of d extern)) (fits_told d (asked_of d extern)) wrong)))))
        (λ right. (d, seen_as d (asked_of d extern), is, fresh, subst (λ (m : Option (Meaning Extern)). IsExported m d (seen_as d (asked_of d extern))) (sym means) (extern, some, (fits_told d (asked_of d extern)).0 right, refl), refl))

pub export_sound : (l : Linking) (n : ℕ) (s : Spaces) (e : read.Export) → Sound (export_has s e) (ExportMakes l n s e) (export_outcome l n s e)
export_sound l n s e =
    let P = export_has s e in
    let Q = ExportMakes l n s e in
    let root = clear_root P (λ h. h) in
    sound_if P Q (nat_lt e.index (size_of s e.sort)) why.Index _ root (λ past. inl (not_less e.index (size_of s e.sort) past)) (λ within.
    sound_if P Q (said_is_there (said s e)) why.Index _ root (λ absent. inr (says_absent (said s e) absent)) (λ there.
    (let index = clear_index P root (λ h. elim h [
      | inl past ↦ (let near = less e.index (size_of s e.sort) within in omega arith)
      | inr absent ↦ says_there (said s e) there absent
    ]) in
    sound_found P Q (definition_at s e.sort e.index) why.Typing _
    (λ none. (let f : First P why.Typing = record { has = inr (inl none); clear = clear_missing P index (λ missing h. match_none (λ d. SaysLack e.name d (said s e) missing) (definition_at s e.sort e.index) none h) } in f)) (λ d is.
    sound_missing P Q (said_lacks e.name d (said s e)) _ index
    (λ missing lacks. match_in (λ d. SaysLack e.name d (said s e) missing) (definition_at s e.sort e.index) d is (says_lack e.name d (said s e) missing lacks)) (λ none.
    (let clear = clear_missing P index (λ missing h. both_of (said_lacks e.name d (said s e)) missing (lack_said e.name d (said s e) missing (match_at (λ d. SaysLack e.name d (said s e) missing) (definition_at s e.sort e.index) d is h)) none) in
    sound_if P Q (not (is_among e.name (export_names s.exports))) why.Typing _ clear (λ twice. inl (not_false (is_among e.name (export_names s.exports)) twice)) (λ fresh.
    export_end l n s e d is (not_true (is_among e.name (export_names s.exports)) fresh) clear (said s e) refl)))))))

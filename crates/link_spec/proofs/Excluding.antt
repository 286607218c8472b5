-- An item that makes something, or begins an instance, has no reason against it.
use Rattle.std.proofs.Common.{◌≡◌, ◌⊎◌, inl, inr, ◌≤◌, ℕ, Bool, true, false, List, [], ◌∷◌, length, map, refl, sym, ◌∙◌, ap, subst, arith, Option, Some, None}
use Rattle.std.specs.Option.{option_map, option_and_then, MatchOption}
use Rattle.std.specs.List.{slice_get}
use Rattle.syntax_trees.specs.Names.{AreDistinct, is_among}
use Rattle.syntax_trees.specs.declared.module.Import.{Import}
use Rattle.syntax_trees.specs.declared.module.ModuleTree.{ModuleTree}
use Rattle.comp_tree.specs.declared.core_instances.CoreSort.{CoreSort}
use Rattle.comp_tree.specs.declared.core_instances.CoreSort.TheVariants as core_sort
use Rattle.comp_tree.specs.declared.core_instances.CoreArgument.{CoreArgument}
use Rattle.comp_tree.specs.declared.core_instances.CoreInlineExport.{CoreInlineExport}
use Rattle.comp_tree.specs.declared.core_instances.CoreInstance.{CoreInstance}
use Rattle.comp_tree.specs.declared.core_instances.CoreInstance.TheVariants as made_core
use Rattle.comp_tree.specs.declared.instances.NamedDefinition.{NamedDefinition}
use Rattle.comp_tree.specs.declared.instances.Instance as made_of
use Rattle.comp_tree.specs.declared.instances.Instance.TheVariants as made
use Rattle.comp_tree.specs.declared.instances.Sort.{Sort}
use Rattle.comp_tree.specs.declared.instances.Sort.TheVariants as sorts
use Rattle.comp_tree.specs.declared.instances.AliasTarget.{AliasTarget}
use Rattle.comp_tree.specs.declared.instances.AliasTarget.TheVariants as target
use Rattle.comp_tree.specs.declared.types.DefType.{out-DefType}
use Rattle.comp_tree.specs.declared.externs.ExternDesc.{ExternDesc}
use Rattle.comp_tree.specs.declared.externs.ExternDesc.TheVariants as desc
use Rattle.comp_tree.specs.declared.externs.Export as read
use Rattle.comp_tree.specs.declared.items.CanonOption.{CanonOption}
use Rattle.comp_tree.specs.declared.items.Canon.TheVariants.{Lift, Lower, Builtin}
use Rattle.comp_tree.specs.declared.items.Item.{Item, out-Item}
use Rattle.comp_tree.specs.declared.items.Item.TheOpen.{Item-F}
use Rattle.comp_tree.specs.declared.items.Component.{Component}
use Rattle.link_spec.specs.Brought.{asked_of}
use Rattle.link_spec.specs.declared.fault.LinkWhy.{LinkWhy}
use Rattle.link_spec.specs.declared.fault.LinkWhy.TheVariants as why
use Rattle.comp_graph.specs.Needs.{destructor_type}
use Rattle.comp_graph.specs.Closed.{Closed, Extern, OfFunc, OfType, OfInstance, func_of}
use Rattle.link_spec.specs.Definitions.{CoreItem, CoreExport, core_named, CoreFits, Closure, Definition, AFunc, AType, AComponent, AnInstance, AModule, Exports, EmptyInstance, WithExport, export_names, export_named, Fits, lacks}
use Rattle.link_spec.specs.Canons.{IsOptionThere, given_by, IsOfCoreType, CanBeLifted, CanBeLowered}
use Rattle.link_spec.specs.Builtins.{BuiltinMeaning, builtin_meaning}
use Rattle.link_spec.specs.Resources.{resource_written, resource_has, resource_makes}
use Rattle.link_spec.specs.Types.{Meaning, found, resource_meant}
use Rattle.link_spec.specs.Spaces.{Spaces, Linking, core_size, size_of, core_item_at, definition_at, IsOfSort, levels_at, outer_at}
use Rattle.link_spec.specs.Items.{AnyByRecursion, first_told, argument_named, import_found, argument_lacking, import_lacks, FindsOther, IsThere, FindsItem, core_instance_has, IsInline, core_instance_makes, AreNamed, named_have, instance_has, instance_makes, IsCoreOf, alias_has, alias_makes, type_has, type_makes, defined_has, defined_makes, type_meaning, lift_has, lift_makes, lower_has, lower_makes, builtin_has, builtin_makes, type_given, meant_of, given_for, wanted, IsOfTypes, IsRootImport, lacking, DoesNotFit, import_has, IsImported, import_makes, said, IsSaid, export_has, IsExported, export_makes, has_case, makes_case}
use Rattle.link_spec.specs.Linked.{Begins}
use Rattle.link_spec.specs.Laws.{MakesExcludesReasons, BeginsExcludesReasons, MakesExcludesBegins}
use Rattle.link_spec.proofs.Lists.{some_all, some_zip, none_told, match_at, map_some, then_some, not_there, mapped_there}
use Rattle.link_spec.proofs.Fitting.{fits_lacks}
use Rattle.link_spec.proofs.Meanings.{IsWhole, whole_given, whole_meaning}

-- an option that has a value and none
pub both_of : {A : Type 0} (o : Option A) (a : A) → o ≡ Some a → o ≡ None → ⊥
both_of o a h k = cc

pub true_false : (b : Bool) → b ≡ true → b ≡ false → ⊥
true_false b h k = cc

-- Core instances.

pub lacks_none : (i : Import) (o : Option (List CoreExport)) (item : CoreItem) → option_and_then (core_named i.name) o ≡ Some item → argument_lacking i o ≡ None
lacks_none i None item e = cc
lacks_none i (Some exports) item e = rw e refl

finds_lacks : (s : Spaces) (m : ModuleTree) (arguments : List CoreArgument) (i : Import) (item : CoreItem) → FindsItem s m arguments i item → import_lacks s arguments i ≡ None
finds_lacks s m arguments i item h = lacks_none i (argument_named s.core_instances i.module arguments) item h.0

finds_another : (s : Spaces) (m : ModuleTree) (arguments : List CoreArgument) (i : Import) (item : CoreItem) → FindsItem s m arguments i item → FindsOther s m arguments i → ⊥
finds_another s m arguments i item h k = match_at (λ item. CoreFits m item i.desc → ⊥) (import_found s arguments i) item h.0 k h.1

pub core_item_there : (s : Spaces) (sort : CoreSort) (index : ℕ) (item : CoreItem) → core_item_at s sort index ≡ Some item → core_size s sort ≤ index → ⊥
core_item_there s core_sort.Func index item e h = not_there s.core_funcs index item e h
core_item_there s core_sort.Table index item e h = not_there s.core_tables index item e h
core_item_there s core_sort.Memory index item e h = not_there s.core_memories index item e h
core_item_there s core_sort.Global index item e h = not_there s.core_globals index item e h
core_item_there s core_sort.Module index item e h = cc
core_item_there s core_sort.Instance index item e h = cc

core_instance_excludes : (l : Linking) (n : ℕ) (s : Spaces) (c : CoreInstance) (new : Linking) (w : LinkWhy) → core_instance_makes l n s c new → core_instance_has l s c w → ⊥
core_instance_excludes l n s (made_core.Instantiate index arguments) new why.Index (m, imports, is, there, found, distinct, few, made) (inl none) = both_of (slice_get s.core_modules index) m is none
core_instance_excludes l n s (made_core.Instantiate index arguments) new why.Index (m, imports, is, there, found, distinct, few, made) (inr past) =
    some_all (IsThere s) (λ (a : CoreArgument). length s.core_instances ≤ a.instance) (λ a h k. omega arith) arguments there past
core_instance_excludes l n s (made_core.Instantiate index arguments) new (why.Missing name) (m, imports, is, there, found, distinct, few, made) h =
    let lacks = match_at (λ m. first_told (import_lacks s arguments) m.imports ≡ Some name) (slice_get s.core_modules index) m is h in
    let none = none_told (FindsItem s m arguments) (import_lacks s arguments) (finds_lacks s m arguments) m.imports imports found in
    both_of (first_told (import_lacks s arguments) m.imports) name lacks none
core_instance_excludes l n s (made_core.Instantiate index arguments) new why.Typing (m, imports, is, there, found, distinct, few, made) (inl twice) = twice distinct
core_instance_excludes l n s (made_core.Instantiate index arguments) new why.Typing (m, imports, is, there, found, distinct, few, made) (inr other) =
    let another = match_at (λ m. AnyByRecursion (FindsOther s m arguments) m.imports) (slice_get s.core_modules index) m is other in
    some_zip (FindsItem s m arguments) (FindsOther s m arguments) (finds_another s m arguments) m.imports imports found another
core_instance_excludes l n s (made_core.Instantiate index arguments) new why.Limit (m, imports, is, there, found, distinct, few, made) h = omega arith
core_instance_excludes l n s (made_core.Instantiate index arguments) new why.RootImport k h = h
core_instance_excludes l n s (made_core.Instantiate index arguments) new why.Canon k h = h
core_instance_excludes l n s (made_core.Inline read) new why.Index (exports, are, distinct, made) h =
    some_zip (IsInline s) (λ (e : CoreInlineExport). core_size s e.sort ≤ e.index) (λ e x h k. core_item_there s e.sort e.index x.item h.1 k) read exports are h
core_instance_excludes l n s (made_core.Inline read) new why.Typing (exports, are, distinct, made) (inl twice) = twice distinct
core_instance_excludes l n s (made_core.Inline read) new why.Typing (exports, are, distinct, made) (inr none) =
    some_zip (IsInline s) (λ (e : CoreInlineExport). core_item_at s e.sort e.index ≡ None) (λ e x h k. both_of (core_item_at s e.sort e.index) x.item h.1 k) read exports are none
core_instance_excludes l n s (made_core.Inline read) new (why.Missing name) k h = h
core_instance_excludes l n s (made_core.Inline read) new why.Limit k h = h
core_instance_excludes l n s (made_core.Inline read) new why.RootImport k h = h
core_instance_excludes l n s (made_core.Inline read) new why.Canon k h = h

-- Instances.

pub definition_there : (s : Spaces) (sort : Sort) (index : ℕ) (d : Definition) → definition_at s sort index ≡ Some d → size_of s sort ≤ index → ⊥
definition_there s sorts.Func index d e h = mapped_there AFunc s.funcs index d e h
definition_there s sorts.Type index d e h = mapped_there AType s.types index d e h
definition_there s sorts.Component index d e h = mapped_there AComponent s.components index d e h
definition_there s sorts.Instance index d e h = mapped_there AnInstance s.instances index d e h
definition_there s (sorts.Core core_sort.Module) index d e h = mapped_there AModule s.core_modules index d e h
definition_there s (sorts.Core core_sort.Func) index d e h = cc
definition_there s (sorts.Core core_sort.Table) index d e h = cc
definition_there s (sorts.Core core_sort.Memory) index d e h = cc
definition_there s (sorts.Core core_sort.Global) index d e h = cc
definition_there s (sorts.Core core_sort.Instance) index d e h = cc

-- definitions that are there
pub named_some : (s : Spaces) (P : NamedDefinition → Type 0) → ((d : NamedDefinition) (x : Definition) → definition_at s d.sort d.index ≡ Some x → P d → ⊥) → (before : Exports) (read : List NamedDefinition) (exports : Exports) → AreNamed s before read exports → AnyByRecursion P read → ⊥
named_some s P f before [] exports h k = k
named_some s P f before (d ∷ read) exports h (inl k) = f d h.0 h.1 k
named_some s P f before (d ∷ read) exports h (inr k) = named_some s P f (WithExport before d.name h.0) read exports h.2 k

pub named_excludes : (s : Spaces) (before : Exports) (read : List NamedDefinition) (exports : Exports) (w : LinkWhy) → AreNamed s before read exports → AreDistinct (map (λ (d : NamedDefinition). d.name) read) → named_have s read w → ⊥
named_excludes s before read exports why.Index h distinct k =
    named_some s (λ (d : NamedDefinition). size_of s d.sort ≤ d.index) (λ d x e k. definition_there s d.sort d.index x e k) before read exports h k
named_excludes s before read exports why.Typing h distinct (inl twice) = twice distinct
named_excludes s before read exports why.Typing h distinct (inr none) =
    named_some s (λ (d : NamedDefinition). definition_at s d.sort d.index ≡ None) (λ d x e k. both_of (definition_at s d.sort d.index) x e k) before read exports h none
named_excludes s before read exports why.RootImport h distinct k = k
named_excludes s before read exports (why.Missing name) h distinct k = k
named_excludes s before read exports why.Canon h distinct k = k
named_excludes s before read exports why.Limit h distinct k = k

instance_excludes : (l : Linking) (n : ℕ) (s : Spaces) (i : made_of.Instance) (new : Linking) (w : LinkWhy) → instance_makes l n s i new → instance_has l s i w → ⊥
instance_excludes l n s (made.Instantiate component arguments) new w k h = k
instance_excludes l n s (made.Inline read) new w (exports, are, distinct, made) h = named_excludes s EmptyInstance read exports w are distinct h

-- Aliases.

alias_excludes : (l : Linking) (n : ℕ) (s : Spaces) (sort : Sort) (t : AliasTarget) (new : Linking) (w : LinkWhy) → alias_makes l n s sort t new → alias_has l n s sort t w → ⊥
alias_excludes l n s sort (target.InstanceExport instance name) new why.Index (d, is, of_sort, made) h =
    let p = then_some (export_named name) (slice_get s.instances instance) d is in both_of (slice_get s.instances instance) p.0 p.1 h
alias_excludes l n s sort (target.InstanceExport instance name) new (why.Missing missing) (d, is, of_sort, made) h =
    let p = then_some (export_named name) (slice_get s.instances instance) d is in
    both_of (export_named name p.0) d p.2 (match_at (λ exports. export_named name exports ≡ None) (slice_get s.instances instance) p.0 p.1 h.1)
alias_excludes l n s sort (target.InstanceExport instance name) new why.Typing (d, is, of_sort, made) h =
    match_at (λ d. IsOfSort d sort → ⊥) (option_and_then (export_named name) (slice_get s.instances instance)) d is h of_sort
alias_excludes l n s sort (target.InstanceExport instance name) new why.RootImport k h = h
alias_excludes l n s sort (target.InstanceExport instance name) new why.Canon k h = h
alias_excludes l n s sort (target.InstanceExport instance name) new why.Limit k h = h
alias_excludes l n s sort (target.CoreInstanceExport instance name) new why.Index (item, is, of_sort, made) h =
    let p = then_some (core_named name) (slice_get s.core_instances instance) item is in both_of (slice_get s.core_instances instance) p.0 p.1 h
alias_excludes l n s sort (target.CoreInstanceExport instance name) new (why.Missing missing) (item, is, of_sort, made) h =
    let p = then_some (core_named name) (slice_get s.core_instances instance) item is in
    both_of (core_named name p.0) item p.2 (match_at (λ exports. core_named name exports ≡ None) (slice_get s.core_instances instance) p.0 p.1 h.1)
alias_excludes l n s sort (target.CoreInstanceExport instance name) new why.Typing (item, is, of_sort, made) h =
    match_at (λ item. IsCoreOf item sort → ⊥) (option_and_then (core_named name) (slice_get s.core_instances instance)) item is h of_sort
alias_excludes l n s sort (target.CoreInstanceExport instance name) new why.RootImport k h = h
alias_excludes l n s sort (target.CoreInstanceExport instance name) new why.Canon k h = h
alias_excludes l n s sort (target.CoreInstanceExport instance name) new why.Limit k h = h
alias_excludes l n s sort (target.Outer up index) new why.Index (d, is, made) h = both_of (outer_at l (n ∷ s.around) sort up index) d is h
alias_excludes l n s sort (target.Outer up index) new why.RootImport k h = h
alias_excludes l n s sort (target.Outer up index) new (why.Missing missing) k h = h
alias_excludes l n s sort (target.Outer up index) new why.Typing k h = h
alias_excludes l n s sort (target.Outer up index) new why.Canon k h = h
alias_excludes l n s sort (target.Outer up index) new why.Limit k h = h

-- Types.

type_excludes : (l : Linking) (n : ℕ) (s : Spaces) (meaning : Meaning Closed) (new : Linking) (w : LinkWhy) → IsWhole meaning → type_makes l n s meaning new → type_has meaning w → ⊥
type_excludes l n s meaning new why.Index whole (closed, is, made) h = true_false meaning.is_there (whole closed is.0).0 h
type_excludes l n s meaning new (why.Missing name) whole (closed, is, made) h = both_of meaning.missing name h (whole closed is.0).1
type_excludes l n s meaning new why.Typing whole (closed, is, made) h = both_of meaning.means closed is.0 h
type_excludes l n s meaning new why.Limit whole (closed, is, made) deep = true_false meaning.deep deep is.1
type_excludes l n s meaning new why.RootImport whole k h = h
type_excludes l n s meaning new why.Canon whole k h = h

resource_excludes : (l : Linking) (n : ℕ) (s : Spaces) (destructor : Option ℕ) (new : Linking) (w : LinkWhy) → resource_makes l n s destructor new → resource_has s destructor w → ⊥
resource_excludes l n s None new w k h = h
resource_excludes l n s (Some f) new why.Index (item, core, is, of_item, of_type, made) h = both_of (slice_get s.core_funcs f) item is h
resource_excludes l n s (Some f) new why.Canon (item, core, is, of_item, of_type, made) h = match_at (λ item. IsOfCoreType destructor_type item → ⊥) (slice_get s.core_funcs f) item is h of_type
resource_excludes l n s (Some f) new why.RootImport k h = h
resource_excludes l n s (Some f) new (why.Missing name) k h = h
resource_excludes l n s (Some f) new why.Typing k h = h
resource_excludes l n s (Some f) new why.Limit k h = h

defined_excludes : (l : Linking) (n : ℕ) (s : Spaces) (destructor : Option (Option ℕ)) (meaning : Meaning Closed) (new : Linking) (w : LinkWhy) → IsWhole meaning → defined_makes l n s destructor meaning new → defined_has s destructor meaning w → ⊥
defined_excludes l n s (Some destructor) meaning new w whole k h = resource_excludes l n s destructor new w k h
defined_excludes l n s None meaning new w whole k h = type_excludes l n s meaning new w whole k h

-- Lifts.

lift_excludes : (l : Linking) (n : ℕ) (s : Spaces) (f : ℕ) (options : List CanonOption) (t : ℕ) (new : Linking) (w : LinkWhy) → lift_makes l n s f options t new → lift_has s f options t w → ⊥
lift_excludes l n s f options t new why.Index (item, core, type, is, of_item, there, of_type, once, fits, made) (inl none) = both_of (slice_get s.core_funcs f) item is none
lift_excludes l n s f options t new why.Index (item, core, type, is, of_item, there, of_type, once, fits, made) (inr (inl absent)) =
    some_all (IsOptionThere s) (λ o. IsOptionThere s o → ⊥) (λ o h k. k h) options there absent
lift_excludes l n s f options t new why.Index (item, core, type, is, of_item, there, of_type, once, fits, made) (inr (inr none)) =
    let p = then_some func_of (slice_get s.types t) type of_type in both_of (slice_get s.types t) p.0 p.1 none
lift_excludes l n s f options t new why.Typing (item, core, type, is, of_item, there, of_type, once, fits, made) h =
    let p = then_some func_of (slice_get s.types t) type of_type in
    both_of (func_of p.0) type p.2 (match_at (λ type. func_of type ≡ None) (slice_get s.types t) p.0 p.1 h)
lift_excludes l n s f options t new why.Canon (item, core, type, is, of_item, there, of_type, once, fits, made) (inl twice) = twice once
lift_excludes l n s f options t new why.Canon (item, core, type, is, of_item, there, of_type, once, fits, made) (inr h) =
    let k = match_at (λ type. MatchOption (slice_get s.core_funcs f) ⊥ (λ item. CanBeLifted type item (given_by s options) → ⊥)) (option_and_then func_of (slice_get s.types t)) type of_type h in
    match_at (λ item. CanBeLifted type item (given_by s options) → ⊥) (slice_get s.core_funcs f) item is k fits
lift_excludes l n s f options t new why.RootImport k h = h
lift_excludes l n s f options t new why.Limit k h = h
lift_excludes l n s f options t new (why.Missing name) k h = h

-- Lowers.

lower_excludes : (l : Linking) (n : ℕ) (s : Spaces) (f : ℕ) (options : List CanonOption) (new : Linking) (w : LinkWhy) → lower_makes l n s f options new → lower_has s f options w → ⊥
lower_excludes l n s f options new why.Index (func, is, there, once, fits, made) (inl none) = both_of (slice_get s.funcs f) func is none
lower_excludes l n s f options new why.Index (func, is, there, once, fits, made) (inr absent) = some_all (IsOptionThere s) (λ o. IsOptionThere s o → ⊥) (λ o h k. k h) options there absent
lower_excludes l n s f options new why.Canon (func, is, there, once, fits, made) (inl twice) = twice once
lower_excludes l n s f options new why.Canon (func, is, there, once, fits, made) (inr h) =
    match_at (λ func. CanBeLowered func.func_type (given_by s options) → ⊥) (slice_get s.funcs f) func is h fits
lower_excludes l n s f options new why.RootImport k h = h
lower_excludes l n s f options new why.Limit k h = h
lower_excludes l n s f options new (why.Missing name) k h = h
lower_excludes l n s f options new why.Typing k h = h

-- Built-ins.

builtin_excludes : (l : Linking) (n : ℕ) (s : Spaces) (meaning : BuiltinMeaning) (new : Linking) (w : LinkWhy) → builtin_makes l n s meaning new → builtin_has meaning w → ⊥
builtin_excludes l n s meaning new why.Index (kind, there, is, serves, made) h = true_false meaning.is_there there h
builtin_excludes l n s meaning new why.Typing (kind, there, is, serves, made) h = both_of meaning.means kind is h
builtin_excludes l n s meaning new why.Canon (kind, there, is, serves, made) h = true_false meaning.serves serves h
builtin_excludes l n s meaning new why.RootImport k h = h
builtin_excludes l n s meaning new why.Limit k h = h
builtin_excludes l n s meaning new (why.Missing name) k h = h

-- Imports.

-- an import of the root of a meaning that may be imported is none that may not
root_excludes : (s : Spaces) (asked : ExternDesc) (name : List ℕ) (extern : Extern) (d : Definition) → s.arguments ≡ None → (wanted s name asked).means ≡ Some extern → IsImported None name extern d → IsRootImport (wanted s name asked) asked → ⊥
root_excludes s (desc.Instance index) name (OfInstance externs) d root is h k = match_at (λ extern. IsOfTypes extern → ⊥) (wanted s name (desc.Instance index)).means (OfInstance externs) is k h.0
root_excludes s (desc.Instance index) name (OfFunc type) d root is h k = h
root_excludes s (desc.Instance index) name (OfType type) d root is h k = h
root_excludes s (desc.Func index) name (OfFunc type) d root is h k = h
root_excludes s (desc.Func index) name (OfType type) d root is h k = h
root_excludes s (desc.Func index) name (OfInstance externs) d root is h k = no_func (slice_get (map Some s.types) index) is
  where
    no_func : (o : Option (Option Closed)) → (found (λ type. option_map OfFunc (func_of type)) o).means ≡ Some (OfInstance externs) → ⊥
    no_func None e = cc
    no_func (Some None) e = cc
    no_func (Some (Some type)) e = let p = map_some OfFunc (func_of type) (OfInstance externs) e in cc
root_excludes s (desc.TypeEq index) name (OfFunc type) d root is h k = h
root_excludes s (desc.TypeEq index) name (OfType type) d root is h k = h
root_excludes s (desc.TypeEq index) name (OfInstance externs) d root is h k = no_type (slice_get (map Some s.types) index) is
  where
    no_type : (o : Option (Option Closed)) → (found (λ type. Some (OfType type)) o).means ≡ Some (OfInstance externs) → ⊥
    no_type None e = cc
    no_type (Some None) e = cc
    no_type (Some (Some type)) e = cc
root_excludes s desc.Resource name extern d root is h k = no_resource s.arguments root is
  where
    no_resource : (o : Option Exports) → o ≡ None → (resource_meant (type_given (option_and_then (export_named name) o))).means ≡ Some extern → ⊥
    no_resource None e f = cc
    no_resource (Some given) e f = cc

-- what is given of what an import takes
given_fits : (given : Exports) (name : List ℕ) (extern : Extern) (meaning : Option Extern) (missing : List ℕ) → meaning ≡ Some extern → (x : Definition) → export_named name given ≡ Some x → Fits x (asked_of x extern) → lacking (export_named name given) name meaning ≡ Some missing → ⊥
given_fits given name extern meaning missing is x there fits h =
    let found : lacking (Some x) name (Some extern) ≡ Some missing = sym (ap (λ (o : Option Definition). lacking o name (Some extern)) there) ∙ (sym (ap (λ (e : Option Extern). lacking (export_named name given) name e) is) ∙ h) in
    both_of (lacks (Some x) name (asked_of x extern)) missing found (fits_lacks x name (asked_of x extern) fits)

pub fits_another : (o : Option Definition) (e : Option Extern) (x : Definition) (extern : Extern) → o ≡ Some x → e ≡ Some extern → Fits x (asked_of x extern) → DoesNotFit o e → ⊥
fits_another o e x extern there is fits h =
    let k : DoesNotFit (Some x) (Some extern) = subst (λ (e : Option Extern). DoesNotFit (Some x) e) is (subst (λ (o : Option Definition). DoesNotFit o e) there h) in
    k fits

import_excludes : (l : Linking) (n : ℕ) (s : Spaces) (name : List ℕ) (asked : ExternDesc) (new : Linking) (w : LinkWhy) → import_makes l n s name asked new → import_has s name asked w → ⊥
import_excludes l n s name asked new why.RootImport (extern, d, is, fresh, imported, made) h =
    root_excludes s asked name extern d h.0 is (subst (λ (o : Option Exports). IsImported o name extern d) h.0 imported) h.1
import_excludes l n s name asked new why.Index (extern, d, is, fresh, imported, made) h = true_false (wanted s name asked).is_there (whole_given (map Some s.types) (type_given (given_for s name)) asked extern is).0 h
import_excludes l n s name asked new (why.Missing missing) (extern, d, is, fresh, imported, made) h = by s.arguments imported h
  where
    by : (o : Option Exports) → IsImported o name extern d → MatchOption o ⊥ (λ given. lacking (export_named name given) name (wanted s name asked).means ≡ Some missing) → ⊥
    by None i h = h
    by (Some given) i h = given_fits given name extern (wanted s name asked).means missing is i.0 i.1 i.2 h
import_excludes l n s name asked new why.Typing (extern, d, is, fresh, imported, made) (inl twice) = true_false (is_among name s.imports) twice fresh
import_excludes l n s name asked new why.Typing (extern, d, is, fresh, imported, made) (inr (inl none)) = both_of (wanted s name asked).means extern is none
import_excludes l n s name asked new why.Typing (extern, d, is, fresh, imported, made) (inr (inr other)) = by s.arguments imported other
  where
    by : (o : Option Exports) → IsImported o name extern d → MatchOption o ⊥ (λ given. DoesNotFit (export_named name given) (wanted s name asked).means) → ⊥
    by None i h = h
    by (Some given) i h = fits_another (export_named name given) (wanted s name asked).means i.0 extern i.1 is i.2 h
import_excludes l n s name asked new why.Canon k h = h
import_excludes l n s name asked new why.Limit k h = h

-- Exports.

-- a meaning that is said, and what it says of what is exported
said_whole : (s : Spaces) (given : Option Definition) (asked : Option ExternDesc) (d x : Definition) → IsExported (option_map (meant_of s given) asked) d x → IsSaid (option_map (meant_of s given) asked) (λ meaning. meaning.is_there ≡ false) → ⊥
said_whole s given None d x h k = k
said_whole s given (Some asked) d x h k = true_false (meant_of s given asked).is_there (whole_given (map Some s.types) (type_given given) asked h.0 h.1).0 k

said_lacks : (name : List ℕ) (meaning : Option (Meaning Extern)) (d x : Definition) (missing : List ℕ) → IsExported meaning d x → IsSaid meaning (λ meaning. MatchOption meaning.means ⊥ (λ extern. lacks (Some d) name (asked_of d extern) ≡ Some missing)) → ⊥
said_lacks name None d x missing h k = k
said_lacks name (Some meaning) d x missing h k =
    both_of (lacks (Some d) name (asked_of d h.0)) missing (match_at (λ extern. lacks (Some d) name (asked_of d extern) ≡ Some missing) meaning.means h.0 h.1 k) (fits_lacks d name (asked_of d h.0) h.2)

said_other : (meaning : Option (Meaning Extern)) (o : Option Definition) (d x : Definition) → o ≡ Some d → IsExported meaning d x → IsSaid meaning (λ meaning. (meaning.means ≡ None) ⊎ DoesNotFit o meaning.means) → ⊥
said_other None o d x there h k = k
said_other (Some meaning) o d x there h (inl none) = both_of meaning.means h.0 h.1 none
said_other (Some meaning) o d x there h (inr other) = fits_another o meaning.means d h.0 there h.1 h.2 other

export_excludes : (l : Linking) (n : ℕ) (s : Spaces) (e : read.Export) (new : Linking) (w : LinkWhy) → export_makes l n s e new → export_has s e w → ⊥
export_excludes l n s e new why.Index (d, x, is, fresh, exported, made) (inl past) = definition_there s e.sort e.index d is past
export_excludes l n s e new why.Index (d, x, is, fresh, exported, made) (inr none) = said_whole s (definition_at s e.sort e.index) e.desc d x exported none
export_excludes l n s e new (why.Missing missing) (d, x, is, fresh, exported, made) h =
    said_lacks e.name (said s e) d x missing exported
    (match_at (λ d. IsSaid (said s e) (λ meaning. MatchOption meaning.means ⊥ (λ extern. lacks (Some d) e.name (asked_of d extern) ≡ Some missing))) (definition_at s e.sort e.index) d is h)
export_excludes l n s e new why.Typing (d, x, is, fresh, exported, made) (inl twice) = true_false (is_among e.name (export_names s.exports)) twice fresh
export_excludes l n s e new why.Typing (d, x, is, fresh, exported, made) (inr (inl none)) = both_of (definition_at s e.sort e.index) d is none
export_excludes l n s e new why.Typing (d, x, is, fresh, exported, made) (inr (inr other)) = said_other (said s e) (definition_at s e.sort e.index) d x is exported other
export_excludes l n s e new why.RootImport k h = h
export_excludes l n s e new why.Canon k h = h
export_excludes l n s e new why.Limit k h = h

-- Items.

case_excludes : (l : Linking) (n : ℕ) (s : Spaces) (shape : Item-F Item Component) (new : Linking) (w : LinkWhy) → makes_case l n s shape new → has_case l n s shape w → ⊥
case_excludes l n s (Item-F.CoreModule m) new w k h = h
case_excludes l n s (Item-F.CoreInstance c) new w k h = core_instance_excludes l n s c new w k h
case_excludes l n s (Item-F.Component c) new w k h = h
case_excludes l n s (Item-F.Instance i) new w k h = instance_excludes l n s i new w k h
case_excludes l n s (Item-F.Alias alias) new w k h = alias_excludes l n s alias.sort alias.target new w k h
case_excludes l n s (Item-F.Type type) new w k h =
    defined_excludes l n s (resource_written (out-DefType type)) (type_meaning l n s type) new w (whole_meaning type (levels_at l (n ∷ s.around))) k h
case_excludes l n s (Item-F.Canon (Lift f options t)) new w k h = lift_excludes l n s f options t new w k h
case_excludes l n s (Item-F.Canon (Lower f options)) new w k h = lower_excludes l n s f options new w k h
case_excludes l n s (Item-F.Canon (Builtin b)) new w k h = builtin_excludes l n s (builtin_meaning l n s b) new w k h
case_excludes l n s (Item-F.Import i) new w k h = import_excludes l n s i.name i.desc new w k h
case_excludes l n s (Item-F.Export e) new w k h = export_excludes l n s e new w k h

pub makes_excludes_reasons : MakesExcludesReasons
makes_excludes_reasons l n s item new w k h = case_excludes l n s (out-Item item) new w k h

begun_excludes : (l : Linking) (n : ℕ) (s : Spaces) (item : Item) (c : Closure) (arguments : Exports) (b : Begins l n s item c arguments) (w : LinkWhy) → instance_has l s (made.Instantiate b.index b.named) w → ⊥
begun_excludes l n s item c arguments b why.Index (inl none) = both_of (slice_get s.components b.index) c b.component none
begun_excludes l n s item c arguments b why.Index (inr h) = named_excludes s EmptyInstance b.named arguments why.Index b.given b.distinct h
begun_excludes l n s item c arguments b why.Typing h = named_excludes s EmptyInstance b.named arguments why.Typing b.given b.distinct h
begun_excludes l n s item c arguments b why.Limit h = let few = b.few in omega arith
begun_excludes l n s item c arguments b why.RootImport h = h
begun_excludes l n s item c arguments b (why.Missing name) h = h
begun_excludes l n s item c arguments b why.Canon h = h

pub begins_excludes_reasons : BeginsExcludesReasons
begins_excludes_reasons l n s item c arguments w b h =
    begun_excludes l n s item c arguments b w (subst (λ (shape : Item-F Item Component). has_case l n s shape w) b.is h)

pub makes_excludes_begins : MakesExcludesBegins
makes_excludes_begins l n s item new c arguments k b = subst (λ (shape : Item-F Item Component). makes_case l n s shape new) b.is k

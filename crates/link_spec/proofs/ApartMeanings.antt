-- What a type means is apart, where all types around it are.
use Rattle.std.proofs.Common.{◌≡◌, ℕ, Bool, true, false, cond, List, [], ◌∷◌, ◌++◌, ◌+◌, map, refl, sym, ap, subst, Option, Some, None}
use Rattle.std.specs.Prelude.{IfSome}
use Rattle.std.specs.Option.{option_map}
use Rattle.std.specs.List.{slice_get, AllByRecursion}
use Rattle.syntax_trees.specs.Names.{is_among}
use Rattle.comp_tree.specs.declared.instances.Sort.{Sort}
use Rattle.comp_tree.specs.declared.instances.Sort.TheVariants as sorts
use Rattle.comp_tree.specs.declared.instances.AliasTarget.{AliasTarget}
use Rattle.comp_tree.specs.declared.instances.AliasTarget.TheVariants as target
use Rattle.comp_tree.specs.declared.externs.ExternDesc.{ExternDesc}
use Rattle.comp_tree.specs.declared.types.DefType.{DefType, roll-DefType}
use Rattle.comp_tree.specs.declared.types.InstanceDecl.{InstanceDecl}
use Rattle.comp_tree.specs.declared.types.DefType.TheViews.{roll-InstanceDecl}
use Rattle.comp_tree.specs.declared.types.DefType.TheOpen.{DefType-F, InstanceDecl-F}
use Rattle.comp_tree.specs.declared.types.DefType.TheFolds.{fold-DefType, fold-InstanceDecl, fold-roll-DefType, fold-roll-InstanceDecl, ind-DefType, map-DefType, map-InstanceDecl}
use Rattle.comp_graph.specs.Closed.{Closed, Instance, Extern, OfFunc, OfType, OfInstance, Externs, extern_names, extern_named}
use Rattle.link_values.specs.Resources.{further_in}
use Rattle.link_spec.specs.Brought.{moved}
use Rattle.link_spec.specs.Definitions.{Closure}
use Rattle.link_spec.specs.Spaces.{Level}
use Rattle.link_spec.specs.Types.{Meaning, absent, Declared, nothing_declared, own_level, type_in, instance_in, with_declared, kept_if, told, of_sort, of_export, from_instance, outer_type, outer_component, with_component, with_type, with_outer, declared_as, with_alias, sort_of, described, brings, extended, under_name, with_export, declared_by, instance_meaning, InLevels, types_around, type_step, decl_step, meaning_of}
use Rattle.link_spec.proofs.Holding.{all_push, all_at, if_weaker, if_mapped}
use Rattle.link_spec.proofs.Apart.{IsApart, IsExternApart, AreApart, IsKnownApart, AreKnownApart, value_meaning_apart, func_meaning_apart, found_apart, type_moved, described_apart, named_apart}

abbrev pub IsLevelApart : Level → Type 0
IsLevelApart level = AllByRecursion IsKnownApart level.types

abbrev pub AreLevelsApart : List Level → Type 0
AreLevelsApart levels = AllByRecursion IsLevelApart levels

-- What is told of an instance type so far, under these names.
abbrev IsToldApart : List (List ℕ) → Option Externs → Type 0
IsToldApart names told = IfSome told (λ (externs : Externs). AreApart externs × (extern_names externs ≡ names))

record IsDeclaredApart (d : Declared) : Type 0 where
  types : AllByRecursion IsKnownApart d.types
  instances : AllByRecursion AreKnownApart d.instances
  so_far : IsToldApart d.names d.so_far.means

kept_apart : {A B : Type 0} (P : A → Type 0) (b : Option B) (a : Option A) → IfSome a P → IfSome (kept_if b a) P
kept_apart P None a h = tt
kept_apart P (Some b) a h = h

told_apart : {B : Type 0} (d : Declared) (now : Meaning B) → IsDeclaredApart d → IsDeclaredApart (told d now)
told_apart d now h = record {
  types = h.types;
  instances = h.instances;
  so_far = kept_apart (λ (externs : Externs). AreApart externs × (extern_names externs ≡ d.names)) now.means d.so_far.means h.so_far;
}

type_in_apart : (e : Option Extern) → IfSome e IsExternApart → IfSome (type_in e) IsApart
type_in_apart (Some (OfType type)) h = h
type_in_apart other h = tt

instance_in_apart : (e : Option Extern) → IfSome e IsExternApart → IfSome (instance_in e) AreApart
instance_in_apart (Some (OfInstance externs)) h = h
instance_in_apart other h = tt

declared_apart : (d : Declared) (sort : Sort) (e : Option Extern) → IsDeclaredApart d → IfSome e IsExternApart → IsDeclaredApart (with_declared d sort e)
declared_apart d sorts.Func e h k = h
declared_apart d sorts.Type e h k = record { types = all_push IsKnownApart d.types (type_in e) h.types (type_in_apart e k); instances = h.instances; so_far = h.so_far }
declared_apart d sorts.Instance e h k = record { types = h.types; instances = all_push AreKnownApart d.instances (instance_in e) h.instances (instance_in_apart e k); so_far = h.so_far }
declared_apart d sorts.Component e h k = record { types = h.types; instances = h.instances; so_far = h.so_far }
declared_apart d (sorts.Core sort) e h k = h

as_apart : (d : Declared) (sort : Sort) (extern : Meaning Extern) → IsDeclaredApart d → IfSome extern.means IsExternApart → IsDeclaredApart (declared_as d sort extern)
as_apart d sort extern h k = told_apart (with_declared d sort extern.means) extern (declared_apart d sort extern.means h k)

type_apart : (d : Declared) (type : Meaning Closed) → IsDeclaredApart d → IfSome type.means IsApart → IsDeclaredApart (with_type d type)
type_apart d type h k =
    told_apart (with_declared d sorts.Type (option_map OfType type.means)) type (declared_apart d sorts.Type (option_map OfType type.means) h (if_mapped OfType IsExternApart type.means k))

component_apart : (d : Declared) (c : Meaning Closure) → IsDeclaredApart d → IsDeclaredApart (with_component d c)
component_apart d c h = told_apart (record d { components = d.components ++ c.means ∷ [] }) c (record { types = h.types; instances = h.instances; so_far = h.so_far })

-- Aliases.
outer_type_apart : (up index : ℕ) (o : Option Level) → IfSome o IsLevelApart → IfSome (outer_type up index o).means IsApart
outer_type_apart up index None h = tt
outer_type_apart up index (Some level) h =
    found_apart (λ type. Some (moved (further_in up) 0 type)) IsApart IsApart (λ type k. type_moved (further_in up) 0 type k) (slice_get level.types index) (all_at IsKnownApart level.types index h)

outer_apart : (d : Declared) (levels : List Level) (sort : Sort) (up index : ℕ) → AreLevelsApart levels → IsDeclaredApart d → IsDeclaredApart (with_outer d levels sort up index)
outer_apart d levels sorts.Component up index k h = component_apart d (outer_component index (slice_get levels up)) h
outer_apart d levels sorts.Func up index k h = as_apart d sorts.Func absent h tt
outer_apart d levels sorts.Type up index k h = type_apart d (outer_type up index (slice_get levels up)) h (outer_type_apart up index (slice_get levels up) (all_at IsLevelApart levels up k))
outer_apart d levels sorts.Instance up index k h = as_apart d sorts.Instance absent h tt
outer_apart d levels (sorts.Core sort) up index k h = as_apart d (sorts.Core sort) absent h tt

of_sort_apart : (sort : Sort) (extern : Extern) → IsExternApart extern → IfSome (of_sort sort extern) IsExternApart
of_sort_apart sorts.Func (OfFunc type) h = h
of_sort_apart sorts.Type (OfType type) h = h
of_sort_apart sorts.Instance (OfInstance externs) h = h
of_sort_apart sort extern h = tt

export_apart : (sort : Sort) (name : List ℕ) (o : Option Extern) → IfSome o IsExternApart → IfSome (of_export sort name o).means IsExternApart
export_apart sort name None h = tt
export_apart sort name (Some extern) h = of_sort_apart sort extern h

from_instance_apart : (sort : Sort) (name : List ℕ) (o : Option (Option Externs)) → IfSome o AreKnownApart → IfSome (from_instance sort name o).means IsExternApart
from_instance_apart sort name None h = tt
from_instance_apart sort name (Some None) h = tt
from_instance_apart sort name (Some (Some all)) h = export_apart sort name (extern_named name all) (named_apart name all h)

alias_apart : (around : List Level) (d : Declared) (sort : Sort) (t : AliasTarget) → AreLevelsApart around → IsDeclaredApart d → IsDeclaredApart (with_alias around d sort t)
alias_apart around d sort (target.InstanceExport instance name) k h =
    as_apart d sort (from_instance sort name (slice_get d.instances instance)) h (from_instance_apart sort name (slice_get d.instances instance) (all_at AreKnownApart d.instances instance h.instances))
alias_apart around d sort (target.CoreInstanceExport instance name) k h = as_apart d sort absent h tt
alias_apart around d sort (target.Outer up index) k h = outer_apart d (own_level d ∷ around) sort up index (h.types, k) h

-- An export under its name.
extended_apart : (names : List (List ℕ)) (name : List ℕ) (extern : Option Extern) (before : Option Externs) (b : Bool) → is_among name names ≡ b → IfSome extern IsExternApart → IsToldApart names before
    → IsToldApart (names ++ name ∷ []) (cond b None (extended name extern before))
extended_apart names name extern before true fresh h k = tt
extended_apart names name None None false fresh h k = tt
extended_apart names name None (Some others) false fresh h k = tt
extended_apart names name (Some extern) None false fresh h k = tt
extended_apart names name (Some extern) (Some others) false fresh h k =
    ((k.0, h, subst (λ (names : List (List ℕ)). is_among name names ≡ false) (sym k.1) fresh), ap (λ (names : List (List ℕ)). names ++ name ∷ []) k.1)

under_apart : (d : Declared) (before : Option Externs) (name : List ℕ) (extern : Option Extern) → IsDeclaredApart d → IsToldApart d.names before → IfSome extern IsExternApart → IsDeclaredApart (under_name d before name extern)
under_apart d before name extern h told k = record {
  types = h.types;
  instances = h.instances;
  so_far = extended_apart d.names name extern before (is_among name d.names) refl k told;
}

brought_apart : (d : Declared) (resources : ℕ) → IsDeclaredApart d → IsDeclaredApart (record d { resources = resources })
brought_apart d resources h = record { types = h.types; instances = h.instances; so_far = h.so_far }

names_kept : (d : Declared) (sort : Sort) (e : Option Extern) → (with_declared d sort e).names ≡ d.names
names_kept d sorts.Func e = refl
names_kept d sorts.Type e = refl
names_kept d sorts.Instance e = refl
names_kept d sorts.Component e = refl
names_kept d (sorts.Core sort) e = refl

with_export_apart : (d : Declared) (name : List ℕ) (asked : ExternDesc) → IsDeclaredApart d → IsDeclaredApart (with_export d name asked)
with_export_apart d name asked h =
    let extern = described d asked in
    let k = described_apart d asked h.types in
    let declared = declared_as d (sort_of asked) extern in
    under_apart (record declared { resources = d.resources + brings d asked }) d.so_far.means name extern.means
    (brought_apart declared (d.resources + brings d asked) (as_apart d (sort_of asked) extern h k))
    (subst (λ (names : List (List ℕ)). IsToldApart names d.so_far.means) (sym (names_kept d (sort_of asked) extern.means)) h.so_far) k

-- By induction on types and declarations.
around_apart : (levels : List Level) → AreLevelsApart levels → AllByRecursion IsKnownApart (types_around levels)
around_apart [] k = tt
around_apart (level ∷ around) k = k.0

abbrev Keeps : (List Level → Declared → Declared) → Type 0
Keeps decl = (around : List Level) (d : Declared) → AreLevelsApart around → IsDeclaredApart d → IsDeclaredApart (decl around d)

abbrev Gives : InLevels → Type 0
Gives f = (levels : List Level) → AreLevelsApart levels → IfSome (f levels).means IsApart

abbrev folded_type : DefType → InLevels
folded_type = fold-DefType InLevels (List Level → Declared → Declared) type_step decl_step

abbrev folded_decl : InstanceDecl → List Level → Declared → Declared
folded_decl = fold-InstanceDecl InLevels (List Level → Declared → Declared) type_step decl_step

abbrev TypeGives : DefType → Type 0
TypeGives type = Gives (folded_type type)

abbrev DeclKeeps : InstanceDecl → Type 0
DeclKeeps decl = Keeps (folded_decl decl)

abbrev TypeAnd : Type 0
TypeAnd = (t : DefType) × TypeGives t

abbrev DeclAnd : Type 0
DeclAnd = (d : InstanceDecl) × DeclKeeps d

decls_apart : (around : List Level) (d : Declared) (decls : List DeclAnd) → AreLevelsApart around → IsDeclaredApart d → IsDeclaredApart (declared_by around d (map folded_decl (map (λ (e : DeclAnd). e.0) decls)))
decls_apart around d [] k h = h
decls_apart around d (decl ∷ decls) k h = decls_apart around (folded_decl decl.0 around d) decls k (decl.1 around d k h)

instance_apart : (d : Declared) → IsDeclaredApart d → IfSome (instance_meaning d).means IsApart
instance_apart d h = if_mapped Instance IsApart d.so_far.means (if_weaker (λ (externs : Externs). AreApart externs × (extern_names externs ≡ d.names)) AreApart (λ externs k. k.0) d.so_far.means h.so_far)

abbrev type_layer : DefType-F TypeAnd DeclAnd → DefType-F DefType InstanceDecl
type_layer y = map-DefType TypeAnd DeclAnd DefType InstanceDecl (λ e. e.0) (λ e. e.0) y

abbrev decl_layer : InstanceDecl-F TypeAnd DeclAnd → InstanceDecl-F DefType InstanceDecl
decl_layer y = map-InstanceDecl TypeAnd DeclAnd DefType InstanceDecl (λ e. e.0) (λ e. e.0) y

type_stepped : (y : DefType-F TypeAnd DeclAnd) → Gives (type_step (map-DefType DefType InstanceDecl InLevels (List Level → Declared → Declared) folded_type folded_decl (type_layer y)))
type_stepped (DefType-F.Value type) levels k = value_meaning_apart (types_around levels) type
type_stepped (DefType-F.Func type) levels k = func_meaning_apart (types_around levels) type (around_apart levels k)
type_stepped (DefType-F.Resource destructor) levels k = tt
type_stepped (DefType-F.Instance decls) levels k =
    instance_apart (declared_by levels nothing_declared (map folded_decl (map (λ (e : DeclAnd). e.0) decls))) (decls_apart levels nothing_declared decls k (record { types = tt; instances = tt; so_far = (tt, refl) }))

decl_stepped : (y : InstanceDecl-F TypeAnd DeclAnd) → Keeps (decl_step (map-InstanceDecl DefType InstanceDecl InLevels (List Level → Declared → Declared) folded_type folded_decl (decl_layer y)))
decl_stepped (InstanceDecl-F.Type type) around d k h = type_apart d (folded_type type.0 (own_level d ∷ around)) h (type.1 (own_level d ∷ around) (h.types, k))
decl_stepped (InstanceDecl-F.Alias alias) around d k h = alias_apart around d alias.sort alias.target k h
decl_stepped (InstanceDecl-F.Export name asked) around d k h = with_export_apart d name asked h

pub meaning_apart : (type : DefType) (levels : List Level) → AreLevelsApart levels → IfSome (meaning_of type levels).means IsApart
meaning_apart =
    ind-DefType TypeGives DeclKeeps
    (λ x y e. subst (λ (z : DefType-F DefType InstanceDecl). TypeGives (roll-DefType z)) e
    (subst Gives (sym (fold-roll-DefType InLevels (List Level → Declared → Declared) type_step decl_step (type_layer y))) (type_stepped y)))
    (λ x y e. subst (λ (z : InstanceDecl-F DefType InstanceDecl). DeclKeeps (roll-InstanceDecl z)) e
    (subst Keeps (sym (fold-roll-InstanceDecl InLevels (List Level → Declared → Declared) type_step decl_step (decl_layer y))) (decl_stepped y)))

-- A type that has a meaning has all its indices, and misses no name.
use Rattle.std.proofs.Common.{◌≡◌, ℕ, Bool, true, false, ◌+◌, ◌&&◌, cond, List, [], ◌∷◌, length, map, refl, sym, subst, Option, Some, None}
use Rattle.std.specs.Prelude.{nat_le}
use Rattle.std.specs.Option.{option_map}
use Rattle.std.specs.List.{slice_get}
use Rattle.syntax_trees.specs.Names.{is_among}
use Rattle.syntax_trees.specs.declared.types.ValType.{ValType}
use Rattle.syntax_trees.specs.declared.types.ValType.TheVariants as leaves
use Rattle.laid_types.specs.Depth.{depth}
use Rattle.comp_tree.specs.declared.instances.Sort.{Sort}
use Rattle.comp_tree.specs.declared.instances.Sort.TheVariants as sorts
use Rattle.comp_tree.specs.declared.instances.AliasTarget.{AliasTarget}
use Rattle.comp_tree.specs.declared.instances.AliasTarget.TheVariants as target
use Rattle.comp_tree.specs.declared.externs.ExternDesc.{ExternDesc}
use Rattle.comp_tree.specs.declared.externs.ExternDesc.TheVariants as desc
use Rattle.comp_tree.specs.declared.types.FuncType as read_func
use Rattle.comp_tree.specs.declared.types.DefValType.{DefValType}
use Rattle.comp_tree.specs.declared.types.DefType.{DefType, roll-DefType}
use Rattle.comp_tree.specs.declared.types.InstanceDecl.{InstanceDecl}
use Rattle.comp_tree.specs.declared.types.DefType.TheViews.{roll-InstanceDecl}
use Rattle.comp_tree.specs.declared.types.DefType.TheOpen.{DefType-F, InstanceDecl-F}
use Rattle.comp_tree.specs.declared.types.DefType.TheFolds.{fold-DefType, fold-InstanceDecl, fold-roll-DefType, fold-roll-InstanceDecl, ind-DefType, map-DefType, map-InstanceDecl}
use Rattle.comp_graph.specs.Closed.{Closed, Value, Func, Resource, Instance, Extern, OfFunc, OfType, OfInstance, Externs, first_of, extern_named, externs_of, func_of}
use Rattle.link_values.specs.Resources.{first_brought, further_in}
use Rattle.link_spec.specs.Brought.{moved}
use Rattle.link_spec.specs.Definitions.{Closure}
use Rattle.link_spec.specs.Spaces.{Level}
use Rattle.link_spec.specs.Meaning.{Meaning, absent, meant, too_deep, found, kept_if, and_told}
use Rattle.link_spec.specs.Shallow.{depth_limit}
use Rattle.link_spec.specs.ValueTypes.{parts_within, close_def, capped, value_meaning}
use Rattle.link_spec.specs.Types.{all_within, close_func, func_meaning, desc_meaning, resource_meant, given_meaning, Declared, nothing_declared, own_level, with_declared, told, of_export, exported, from_instance, outer_type, outer_component, with_component, with_type, with_outer, declared_as, with_alias, sort_of, extended, as_exported, described, with_export, declared_by, instance_meaning, InLevels, types_around, type_step, decl_step, meaning_of}

-- where it has a meaning, all is there and nothing is missing
abbrev pub IsWhole : {A : Type 0} → Meaning A → Type 0
IsWhole {A} m = (a : A) → m.means ≡ Some a → (m.is_there ≡ true) × (m.missing ≡ None)

whole_absent : {A : Type 0} → IsWhole {A = A} absent
whole_absent a e = cc

whole_meant : {A : Type 0} (means : Option A) → IsWhole (meant means)
whole_meant means a e = (refl, refl)

whole_deep : {A : Type 0} (in_place : A) → IsWhole (too_deep in_place)
whole_deep in_place a e = (refl, refl)

whole_found : {A B : Type 0} (f : A → Option B) (o : Option (Option A)) → IsWhole (found f o)
whole_found f None a e = cc
whole_found f (Some o) a e = (refl, refl)

pub whole_desc : (types : List (Option Closed)) (asked : ExternDesc) → IsWhole (desc_meaning types asked)
whole_desc types (desc.Func index) = whole_found (λ type. option_map OfFunc (func_of type)) (slice_get types index)
whole_desc types (desc.TypeEq index) = whole_found (λ type. Some (OfType type)) (slice_get types index)
whole_desc types (desc.Instance index) = whole_found (λ type. option_map OfInstance (externs_of type)) (slice_get types index)
whole_desc types desc.Resource = whole_meant None

whole_resource : (given : Option Closed) → IsWhole (resource_meant given)
whole_resource (Some (Resource number)) = whole_meant (Some (OfType (Resource number)))
whole_resource (Some (Value type)) = whole_meant None
whole_resource (Some (Func type)) = whole_meant None
whole_resource (Some (Instance externs)) = whole_meant None
whole_resource None = whole_meant None

pub whole_given : (types : List (Option Closed)) (given : Option Closed) (asked : ExternDesc) → IsWhole (given_meaning types given asked)
whole_given types given (desc.Func index) = whole_desc types (desc.Func index)
whole_given types given (desc.TypeEq index) = whole_desc types (desc.TypeEq index)
whole_given types given (desc.Instance index) = whole_desc types (desc.Instance index)
whole_given types given desc.Resource = whole_resource given

whole_cond : {A : Type 0} (b : Bool) (x y : Meaning A) → IsWhole x → IsWhole y → IsWhole (cond b x y)
whole_cond true x y h k = h
whole_cond false x y h k = k

whole_func : (types : List (Option Closed)) (type : read_func.FuncType) → IsWhole (func_meaning types type)
whole_func types type =
    whole_cond (all_within (length types) type) (meant (option_map Func (close_func types type))) absent (whole_meant (option_map Func (close_func types type))) whole_absent

whole_capped : (type : Option ValType) → IsWhole (capped type)
whole_capped None = whole_meant None
whole_capped (Some type) =
    whole_cond (nat_le (depth type) depth_limit) (meant (Some (Value type))) (too_deep (Value leaves.Bool)) (whole_meant (Some (Value type))) (whole_deep (Value leaves.Bool))

whole_value : (types : List (Option Closed)) (type : DefValType) → IsWhole (value_meaning types type)
whole_value types type = whole_cond (parts_within (length types) type) (capped (close_def types type)) absent (whole_capped (close_def types type)) whole_absent

-- what is told behind what was told
kept_some : {A B : Type 0} (b : Option B) (a : Option A) (x : A) → kept_if b a ≡ Some x → (y : B) × (b ≡ Some y) × (a ≡ Some x)
kept_some None a x e = cc
kept_some (Some y) a x e = (y, refl, e)

both : (a b : Bool) → a ≡ true → b ≡ true → (a && b) ≡ true
both a b h k = rw (h, k) refl

neither : (a b : Option (List ℕ)) → a ≡ None → b ≡ None → first_of a b ≡ None
neither a b h k = rw (h, k) refl

whole_and : {A B : Type 0} (before : Meaning A) (now : Meaning B) → IsWhole before → IsWhole now → IsWhole (and_told before now)
whole_and before now h k a e =
    let p = kept_some now.means before.means a e in
    let b = h a p.2 in
    let n = k p.0 p.1 in
    (both before.is_there now.is_there b.0 n.0, neither before.missing now.missing b.1 n.1)

so_far_same : (d : Declared) (sort : Sort) (e : Option Extern) → (with_declared d sort e).so_far ≡ d.so_far
so_far_same d sorts.Func e = refl
so_far_same d sorts.Type e = refl
so_far_same d sorts.Instance e = refl
so_far_same d sorts.Component e = refl
so_far_same d (sorts.Core sort) e = refl

whole_told : {B : Type 0} (d : Declared) (now : Meaning B) → IsWhole d.so_far → IsWhole now → IsWhole (told d now).so_far
whole_told d now h k = whole_and d.so_far now h k

whole_declared : {B : Type 0} (d : Declared) (sort : Sort) (e : Option Extern) (now : Meaning B) → IsWhole d.so_far → IsWhole now → IsWhole (told (with_declared d sort e) now).so_far
whole_declared d sort e now h k = whole_told (with_declared d sort e) now (subst (λ (m : Meaning Externs). IsWhole m) (sym (so_far_same d sort e)) h) k

whole_type : (d : Declared) (type : Meaning Closed) → IsWhole d.so_far → IsWhole type → IsWhole (with_type d type).so_far
whole_type d type h k = whole_declared d sorts.Type (option_map OfType type.means) type h k

whole_as : (d : Declared) (sort : Sort) (extern : Meaning Extern) → IsWhole d.so_far → IsWhole extern → IsWhole (declared_as d sort extern).so_far
whole_as d sort extern h k = whole_declared d sort extern.means extern h k

whole_component : (d : Declared) (c : Meaning Closure) → IsWhole d.so_far → IsWhole c → IsWhole (with_component d c).so_far
whole_component d c h k = whole_and d.so_far c h k

whole_outer_type : (up index : ℕ) (o : Option Level) → IsWhole (outer_type up index o)
whole_outer_type up index None = whole_absent
whole_outer_type up index (Some level) = whole_found (λ type. Some (moved (further_in up) 0 type)) (slice_get level.types index)

whole_outer_component : (index : ℕ) (o : Option Level) → IsWhole (outer_component index o)
whole_outer_component index None = whole_absent
whole_outer_component index (Some level) = whole_found (λ c. Some c) (slice_get level.components index)

whole_outer : (d : Declared) (levels : List Level) (sort : Sort) (up index : ℕ) → IsWhole d.so_far → IsWhole (with_outer d levels sort up index).so_far
whole_outer d levels sorts.Component up index h = whole_component d (outer_component index (slice_get levels up)) h (whole_outer_component index (slice_get levels up))
whole_outer d levels sorts.Func up index h = whole_as d sorts.Func absent h whole_absent
whole_outer d levels sorts.Type up index h = whole_type d (outer_type up index (slice_get levels up)) h (whole_outer_type up index (slice_get levels up))
whole_outer d levels sorts.Instance up index h = whole_as d sorts.Instance absent h whole_absent
whole_outer d levels (sorts.Core sort) up index h = whole_as d (sorts.Core sort) absent h whole_absent

whole_export : (sort : Sort) (name : List ℕ) (o : Option Extern) → IsWhole (of_export sort name o)
whole_export sort name None a e = cc
whole_export sort name (Some extern) a e = (refl, refl)

whole_exported : (sort : Sort) (name : List ℕ) (o : Option Externs) → IsWhole (exported sort name o)
whole_exported sort name None = whole_meant None
whole_exported sort name (Some all) = whole_export sort name (extern_named name all)

whole_from : (sort : Sort) (name : List ℕ) (o : Option (Option Externs)) → IsWhole (from_instance sort name o)
whole_from sort name None = whole_absent
whole_from sort name (Some known) = whole_exported sort name known

whole_alias : (around : List Level) (d : Declared) (sort : Sort) (t : AliasTarget) → IsWhole d.so_far → IsWhole (with_alias around d sort t).so_far
whole_alias around d sort (target.InstanceExport instance name) h =
    whole_as d sort (from_instance sort name (slice_get d.instances instance)) h (whole_from sort name (slice_get d.instances instance))
whole_alias around d sort (target.CoreInstanceExport instance name) h = whole_as d sort absent h whole_absent
whole_alias around d sort (target.Outer up index) h = whole_outer d (own_level d ∷ around) sort up index h

extended_some : (name : List ℕ) (extern : Option Extern) (before : Option Externs) (x : Externs) → extended name extern before ≡ Some x → ((e : Extern) × (extern ≡ Some e)) × ((o : Externs) × (before ≡ Some o))
extended_some name None None x h = cc
extended_some name None (Some others) x h = cc
extended_some name (Some extern) None x h = cc
extended_some name (Some extern) (Some others) x h = ((extern, refl), (others, refl))

fresh_some : {A : Type 0} (b : Bool) (o : Option A) (x : A) → cond b None o ≡ Some x → o ≡ Some x
fresh_some true o x h = cc
fresh_some false o x h = h

whole_described : (d : Declared) (asked : ExternDesc) → IsWhole (described d asked)
whole_described d desc.Resource = whole_meant (Some (OfType (Resource (first_brought 0 + d.resources))))
whole_described d (desc.Instance index) = whole_found (as_exported d.resources) (slice_get d.types index)
whole_described d (desc.Func index) = whole_desc d.types (desc.Func index)
whole_described d (desc.TypeEq index) = whole_desc d.types (desc.TypeEq index)

whole_with_export : (d : Declared) (name : List ℕ) (asked : ExternDesc) → IsWhole d.so_far → IsWhole (with_export d name asked).so_far
whole_with_export d name asked h a e =
    let extern = described d asked in
    let declared = declared_as d (sort_of asked) extern in
    let p = extended_some name extern.means d.so_far.means a (fresh_some (is_among name declared.names) (extended name extern.means d.so_far.means) a e) in
    let before = h p.1.0 p.1.1 in
    let now = whole_described d asked p.0.0 p.0.1 in
    let there : (declared.so_far.is_there ≡ true) × (declared.so_far.missing ≡ None) =
    subst (λ (m : Meaning Externs). ((m.is_there && extern.is_there) ≡ true) × (first_of m.missing extern.missing ≡ None)) (sym (so_far_same d (sort_of asked) extern.means))
    (both d.so_far.is_there extern.is_there before.0 now.0, neither d.so_far.missing extern.missing before.1 now.1) in
    there

-- a declaration that keeps what is whole whole
abbrev Keeps : (List Level → Declared → Declared) → Type 0
Keeps decl = (around : List Level) (d : Declared) → IsWhole d.so_far → IsWhole (decl around d).so_far

abbrev folded_type : DefType → InLevels
folded_type = fold-DefType InLevels (List Level → Declared → Declared) type_step decl_step

abbrev folded_decl : InstanceDecl → List Level → Declared → Declared
folded_decl = fold-InstanceDecl InLevels (List Level → Declared → Declared) type_step decl_step

abbrev TypeWhole : DefType → Type 0
TypeWhole type = (levels : List Level) → IsWhole (folded_type type levels)

abbrev DeclWhole : InstanceDecl → Type 0
DeclWhole decl = Keeps (folded_decl decl)

abbrev TypeAnd : Type 0
TypeAnd = (t : DefType) × TypeWhole t

abbrev DeclAnd : Type 0
DeclAnd = (d : InstanceDecl) × DeclWhole d

whole_decls : (around : List Level) (d : Declared) (decls : List DeclAnd) → IsWhole d.so_far → IsWhole (declared_by around d (map folded_decl (map (λ (e : DeclAnd). e.0) decls))).so_far
whole_decls around d [] h = h
whole_decls around d (decl ∷ decls) h = whole_decls around (folded_decl decl.0 around d) decls (decl.1 around d h)

mapped_some : {A B : Type 0} (f : A → B) (o : Option A) (y : B) → option_map f o ≡ Some y → (x : A) × (o ≡ Some x)
mapped_some f None y h = cc
mapped_some f (Some x) y h = (x, refl)

whole_instance : (d : Declared) → IsWhole d.so_far → IsWhole (instance_meaning d)
whole_instance d h a e = let p = mapped_some Instance d.so_far.means a e in h p.0 p.1

abbrev type_layer : DefType-F TypeAnd DeclAnd → DefType-F DefType InstanceDecl
type_layer y = map-DefType TypeAnd DeclAnd DefType InstanceDecl (λ e. e.0) (λ e. e.0) y

abbrev decl_layer : InstanceDecl-F TypeAnd DeclAnd → InstanceDecl-F DefType InstanceDecl
decl_layer y = map-InstanceDecl TypeAnd DeclAnd DefType InstanceDecl (λ e. e.0) (λ e. e.0) y

abbrev step_whole : (y : DefType-F TypeAnd DeclAnd) → Type 0
step_whole y = (levels : List Level) → IsWhole (type_step (map-DefType DefType InstanceDecl InLevels (List Level → Declared → Declared) folded_type folded_decl (type_layer y)) levels)

type_stepped : (y : DefType-F TypeAnd DeclAnd) → step_whole y
type_stepped (DefType-F.Value type) levels = whole_value (types_around levels) type
type_stepped (DefType-F.Func type) levels = whole_func (types_around levels) type
type_stepped (DefType-F.Resource destructor) levels = whole_meant None
type_stepped (DefType-F.Instance decls) levels =
    whole_instance (declared_by levels nothing_declared (map folded_decl (map (λ (e : DeclAnd). e.0) decls))) (whole_decls levels nothing_declared decls (λ a e. (refl, refl)))

decl_stepped : (y : InstanceDecl-F TypeAnd DeclAnd) → Keeps (decl_step (map-InstanceDecl DefType InstanceDecl InLevels (List Level → Declared → Declared) folded_type folded_decl (decl_layer y)))
decl_stepped (InstanceDecl-F.Type type) around d h = whole_type d (folded_type type.0 (own_level d ∷ around)) h (type.1 (own_level d ∷ around))
decl_stepped (InstanceDecl-F.Alias alias) around d h = whole_alias around d alias.sort alias.target h
decl_stepped (InstanceDecl-F.Export name asked) around d h = whole_with_export d name asked h

pub whole_meaning : (type : DefType) (levels : List Level) → IsWhole (meaning_of type levels)
whole_meaning =
    ind-DefType TypeWhole DeclWhole
    (λ x y e. subst (λ (z : DefType-F DefType InstanceDecl). TypeWhole (roll-DefType z)) e
    (subst (λ (f : InLevels). (levels : List Level) → IsWhole (f levels)) (sym (fold-roll-DefType InLevels (List Level → Declared → Declared) type_step decl_step (type_layer y))) (type_stepped y)))
    (λ x y e. subst (λ (z : InstanceDecl-F DefType InstanceDecl). DeclWhole (roll-InstanceDecl z)) e
    (subst Keeps (sym (fold-roll-InstanceDecl InLevels (List Level → Declared → Declared) type_step decl_step (decl_layer y))) (decl_stepped y)))

-- Closed types that are apart: no two labels of a function type and no two names of an instance type are equal, at any depth of a
-- closed type, no value type in it is deeper than it may be, and no borrowed handle is given or passes in a stream or a future.
use Rattle.std.proofs.Common.{◌≡◌, ℕ, suc, Bool, true, false, cond, List, [], ◌∷◌, ◌++◌, length, map, refl, sym, ◌∙◌, ap, ap₂, subst, Option, Some, None}
use Rattle.std.specs.Prelude.{nat_le, is_none, IfSome}
use Rattle.std.specs.Option.{option_map, option_and_then}
use Rattle.std.specs.List.{slice_get, AllByRecursion}
use Rattle.std.specs.Str.{bytes_eq}
use Rattle.syntax_trees.specs.Names.{AreDistinct, first_twice, is_among}
use Rattle.syntax_trees.proofs.Distinct.{distinct_law}
use Rattle.syntax_trees.specs.declared.types.ValType.{ValType}
use Rattle.syntax_trees.specs.declared.types.ValType.TheVariants as leaves
use Rattle.syntax_trees.specs.declared.types.Param.{Param}
use Rattle.syntax_trees.specs.declared.types.FuncType.{FuncType}
use Rattle.laid_types.specs.Depth.{depth}
use Rattle.laid_types.specs.Handles.{held_borrow}
use Rattle.comp_tree.specs.declared.externs.ExternDesc.{ExternDesc}
use Rattle.comp_tree.specs.declared.externs.ExternDesc.TheVariants as desc
use Rattle.comp_tree.specs.declared.types.PrimValType.TheVariants as prim
use Rattle.comp_tree.specs.declared.types.ValTypeRef.{ValTypeRef}
use Rattle.comp_tree.specs.declared.types.ValTypeRef.TheVariants as type_ref
use Rattle.comp_tree.specs.declared.types.DefValType.{DefValType}
use Rattle.comp_tree.specs.declared.types.Param as read_param
use Rattle.comp_tree.specs.declared.types.FuncType as read_func
use Rattle.comp_graph.specs.Closed.{Closed, Value, Func, Resource, Instance, Extern, OfFunc, OfType, OfInstance, Externs, EmptyType, WithExtern, extern_names, extern_named, first_of, externs_of, func_of, value_of}
use Rattle.link_values.specs.Resources.{Change, brought_behind, filled_in, renumbered, renumbered_param, renumbered_func}
use Rattle.link_spec.specs.Brought.{moved, moved_extern, moved_externs, found_for, filled, asked_of}
use Rattle.link_spec.specs.Definitions.{Definition}
use Rattle.link_spec.specs.Distinct.{HasDistinctLabels}
use Rattle.link_spec.specs.Shallow.{depth_limit, IsShallow, HasShallowTypes}
use Rattle.link_spec.specs.Lending.{lends, GivesNoBorrow}
use Rattle.link_spec.specs.Meaning.{absent, meant, too_deep, found}
use Rattle.link_spec.specs.ValueTypes.{close_val, close_held, without_borrow, close_passed, parts_within, close_def, capped, value_meaning}
use Rattle.link_spec.specs.Types.{close_param, close_params, close_func, all_within, func_meaning, desc_meaning, resource_meant, given_meaning, Declared, as_exported, described}
use Rattle.link_spec.proofs.Holding.{all_at, all_mapped, all_weaker, if_weaker, if_mapped, if_found, if_cond}
use Rattle.link_spec.proofs.Depths.{at_most, leaf_shallow}
use Rattle.link_spec.proofs.Lending.{leaf_lends, def_lends}
use Rattle.link_spec.proofs.Unmoved.{held_borrow_same, labels_same, shallow_same, lends_same}

abbrev pub IsFuncApart : FuncType → Type 0
IsFuncApart type = HasDistinctLabels type × HasShallowTypes type × GivesNoBorrow type

abbrev mutual
  pub IsApart : Closed → Type 0
  IsApart (Value type) = IsShallow type × (lends type ≡ false)
  IsApart (Func type) = IsFuncApart type
  IsApart (Resource number) = Unit {0}
  IsApart (Instance externs) = AreApart externs

  pub IsExternApart : Extern → Type 0
  IsExternApart (OfFunc type) = IsFuncApart type
  IsExternApart (OfType type) = IsApart type
  IsExternApart (OfInstance externs) = AreApart externs

  pub AreApart : Externs → Type 0
  AreApart EmptyType = Unit {0}
  AreApart (WithExtern others name extern) = AreApart others × IsExternApart extern × (is_among name (extern_names others) ≡ false)

-- a type that stands for something
abbrev pub IsKnownApart : Option Closed → Type 0
IsKnownApart type = IfSome type IsApart

abbrev pub AreKnownApart : Option Externs → Type 0
AreKnownApart externs = IfSome externs AreApart

-- Value types.
of_value_apart : (type : Closed) → IsApart type → IfSome (value_of type) IsShallow
of_value_apart (Value type) h = h.0
of_value_apart (Func type) h = tt
of_value_apart (Resource number) h = tt
of_value_apart (Instance externs) h = tt

val_shallow : (types : List (Option Closed)) (type : ValTypeRef) → AllByRecursion IsKnownApart types → IfSome (close_val types type) IsShallow
val_shallow types (type_ref.Primitive type) h = leaf_shallow type
val_shallow types (type_ref.Index index) h =
    if_found (option_and_then value_of) IsKnownApart IsShallow (if_found value_of IsApart IsShallow of_value_apart) (slice_get types index) (all_at IsKnownApart types index h)

held_shallow : (types : List (Option Closed)) (type : Option ValTypeRef) → AllByRecursion IsKnownApart types → IfSome (close_held types type) (λ held. IfSome held IsShallow)
held_shallow types None h = tt
held_shallow types (Some type) h = if_mapped (λ t. Some t) (λ held. IfSome held IsShallow) (close_val types type) (val_shallow types type h)

-- what is passed, if anything is: it holds no borrowed handle
abbrev IsPassed : Option ValType → Type 0
IsPassed held = IfSome held IsShallow × (held_borrow held ≡ false)

passed_of_held : (o : Option (Option ValType)) → IfSome o (λ held. IfSome held IsShallow) → IfSome (option_and_then without_borrow o) IsPassed
passed_of_held None h = tt
passed_of_held (Some held) h = by_test (held_borrow held) refl
  where
    by_test : (b : Bool) → held_borrow held ≡ b → IfSome (cond b None (Some held)) IsPassed
    by_test true e = tt
    by_test false e = (h, e)

passed_shallow : (types : List (Option Closed)) (type : Option ValTypeRef) → AllByRecursion IsKnownApart types → IfSome (close_passed types type) IsPassed
passed_shallow types type h = passed_of_held (close_held types type) (held_shallow types type h)

capped_apart : (o : Option ValType) → IfSome o (λ type. lends type ≡ false) → IfSome (capped o).means IsApart
capped_apart None k = tt
capped_apart (Some type) k = by_test (nat_le (depth type) depth_limit) refl
  where
    by_test : (b : Bool) → nat_le (depth type) depth_limit ≡ b → IfSome (cond b (meant (Some (Value type))) (too_deep (Value leaves.Bool))).means IsApart
    by_test true h = (at_most (depth type) depth_limit h, k)
    by_test false h = (leaf_shallow prim.Bool, leaf_lends prim.Bool)

pub value_meaning_apart : (types : List (Option Closed)) (type : DefValType) → IfSome (value_meaning types type).means IsApart
value_meaning_apart types type = by_test (parts_within (length types) type)
  where
    by_test : (b : Bool) → IfSome (cond b (capped (close_def types type)) absent).means IsApart
    by_test true = capped_apart (close_def types type) (def_lends types type)
    by_test false = tt

-- Function types: a parameter that is closed, and all of them.
abbrev IsClosedAs : read_param.Param → Param → Type 0
IsClosedAs p q = (q.label ≡ p.label) × IsShallow q.val_type

param_apart : (types : List (Option Closed)) (p : read_param.Param) → AllByRecursion IsKnownApart types → IfSome (close_param types p) (IsClosedAs p)
param_apart types p h =
    if_mapped (λ type. (let q : Param = record { label = p.label; val_type = type } in q)) (IsClosedAs p) (close_val types p.val_type)
    (if_weaker IsShallow (λ type. (p.label ≡ p.label) × IsShallow type) (λ type k. (refl, k)) (close_val types p.val_type) (val_shallow types p.val_type h))

abbrev AreClosedAs : List read_param.Param → List Param → Type 0
AreClosedAs params closed =
    (map (λ (q : Param). q.label) closed ≡ map (λ (p : read_param.Param). p.label) params) × AllByRecursion (λ (q : Param). IsShallow q.val_type) closed

params_apart : (types : List (Option Closed)) (params : List read_param.Param) → AllByRecursion IsKnownApart types → IfSome (close_params types params) (AreClosedAs params)
params_apart types [] h = (refl, tt)
params_apart types (p ∷ params) h =
    if_found (λ closed. option_map (λ others. closed ∷ others) (close_params types params)) (IsClosedAs p) (AreClosedAs (p ∷ params))
    (λ q e. if_mapped (λ others. q ∷ others) (AreClosedAs (p ∷ params)) (close_params types params)
    (if_weaker (AreClosedAs params) (λ closed. AreClosedAs (p ∷ params) (q ∷ closed)) (λ closed k. (ap₂ (λ label labels. label ∷ labels) e.0 k.0, (e.1, k.1))) (close_params types params) (params_apart types params h)))
    (close_param types p) (param_apart types p h)

distinct_names : (names : List (List ℕ)) (b : Bool) → is_none (first_twice names) ≡ b → b ≡ true → AreDistinct names
distinct_names names b e h = (distinct_law names).0 (is_none_none (first_twice names) (e ∙ h))
  where
    is_none_none : {A : Type 0} (o : Option A) → is_none o ≡ true → o ≡ None
    is_none_none None h = refl
    is_none_none (Some x) h = cc

if_test : {A : Type 0} (P : A → Type 0) (b : Bool) (o : Option A) → (b ≡ true → IfSome o P) → IfSome (cond b o None) P
if_test P true o h = h refl
if_test P false o h = tt

func_apart : (types : List (Option Closed)) (type : read_func.FuncType) → AllByRecursion IsKnownApart types → IfSome (close_func types type) IsFuncApart
func_apart types type h =
    if_test IsFuncApart (is_none (first_twice (map (λ (p : read_param.Param). p.label) type.params))) _ (λ test.
    (let distinct = distinct_names (map (λ (p : read_param.Param). p.label) type.params) (is_none (first_twice (map (λ (p : read_param.Param). p.label) type.params))) refl test in
    if_found (λ params. option_map (λ returned. (let f : FuncType = record { params = params; result = returned } in f)) (close_passed types type.result)) (AreClosedAs type.params) IsFuncApart
    (λ params k. if_mapped (λ returned. (let f : FuncType = record { params = params; result = returned } in f)) IsFuncApart (close_passed types type.result)
    (if_weaker IsPassed (λ returned. IsFuncApart (record { params = params; result = returned })) (λ returned j. (subst AreDistinct (sym k.0) distinct, (k.1, j.0), j.1)) (close_passed types type.result) (passed_shallow types type.result h)))
    (close_params types type.params) (params_apart types type.params h)))

pub func_meaning_apart : (types : List (Option Closed)) (type : read_func.FuncType) → AllByRecursion IsKnownApart types → IfSome (func_meaning types type).means IsApart
func_meaning_apart types type h = by_test (all_within (length types) type)
  where
    by_test : (b : Bool) → IfSome (cond b (meant (option_map Func (close_func types type))) absent).means IsApart
    by_test true = if_mapped Func IsApart (close_func types type) (func_apart types type h)
    by_test false = tt

-- Descriptions of imports and exports.
pub found_apart : {A B : Type 0} (f : A → Option B) (P : A → Type 0) (Q : B → Type 0) → ((x : A) → P x → IfSome (f x) Q) → (o : Option (Option A)) → IfSome o (λ p. IfSome p P) → IfSome (found f o).means Q
found_apart f P Q g None h = tt
found_apart f P Q g (Some o) h = if_found f P Q g o h

pub of_func_apart : (type : Closed) → IsApart type → IfSome (func_of type) IsFuncApart
of_func_apart (Value type) h = tt
of_func_apart (Func type) h = h
of_func_apart (Resource number) h = tt
of_func_apart (Instance externs) h = tt

of_externs_apart : (type : Closed) → IsApart type → IfSome (externs_of type) AreApart
of_externs_apart (Value type) h = tt
of_externs_apart (Func type) h = tt
of_externs_apart (Resource number) h = tt
of_externs_apart (Instance externs) h = h

pub desc_apart : (types : List (Option Closed)) (asked : ExternDesc) → AllByRecursion IsKnownApart types → IfSome (desc_meaning types asked).means IsExternApart
desc_apart types (desc.Func index) h =
    found_apart (λ type. option_map OfFunc (func_of type)) IsApart IsExternApart (λ type k. if_mapped OfFunc IsExternApart (func_of type) (of_func_apart type k)) (slice_get types index) (all_at IsKnownApart types index h)
desc_apart types (desc.TypeEq index) h =
    found_apart (λ type. Some (OfType type)) IsApart IsExternApart (λ type k. k) (slice_get types index) (all_at IsKnownApart types index h)
desc_apart types (desc.Instance index) h =
    found_apart (λ type. option_map OfInstance (externs_of type)) IsApart IsExternApart (λ type k. if_mapped OfInstance IsExternApart (externs_of type) (of_externs_apart type k)) (slice_get types index) (all_at IsKnownApart types index h)
desc_apart types desc.Resource h = tt

resource_apart : (given : Option Closed) → IfSome (resource_meant given).means IsExternApart
resource_apart (Some (Resource number)) = tt
resource_apart (Some (Value type)) = tt
resource_apart (Some (Func type)) = tt
resource_apart (Some (Instance externs)) = tt
resource_apart None = tt

pub meant_apart : (types : List (Option Closed)) (given : Option Closed) (asked : ExternDesc) → AllByRecursion IsKnownApart types → IfSome (given_meaning types given asked).means IsExternApart
meant_apart types given (desc.Func index) h = desc_apart types (desc.Func index) h
meant_apart types given (desc.TypeEq index) h = desc_apart types (desc.TypeEq index) h
meant_apart types given (desc.Instance index) h = desc_apart types (desc.Instance index) h
meant_apart types given desc.Resource h = resource_apart given

-- the export of a name
first_apart : (a b : Option Extern) → IfSome a IsExternApart → IfSome b IsExternApart → IfSome (first_of a b) IsExternApart
first_apart None b h k = k
first_apart (Some a) b h k = h

pub named_apart : (q : List ℕ) (externs : Externs) → AreApart externs → IfSome (extern_named q externs) IsExternApart
named_apart q EmptyType h = tt
named_apart q (WithExtern others name extern) h =
    first_apart (extern_named q others) (cond (bytes_eq name q) (Some extern) None) (named_apart q others h.0) (if_cond IsExternApart (bytes_eq name q) (Some extern) None h.1 tt)

-- Types in which the numbers of resources are changed.
pub func_moved : (f : ℕ → ℕ) (type : FuncType) → IsFuncApart type → IsFuncApart (renumbered_func f type)
func_moved f type h = (
  subst AreDistinct (sym (labels_same f type.params)) h.0,
  (
    all_mapped (renumbered_param f) (λ (p : Param). IsShallow p.val_type) type.params (all_weaker (λ (p : Param). IsShallow p.val_type) (λ (p : Param). IsShallow (renumbered f p.val_type)) (λ p k. shallow_same f p.val_type k) type.params h.1.0),
    if_mapped (renumbered f) IsShallow type.result (if_weaker IsShallow (λ t. IsShallow (renumbered f t)) (shallow_same f) type.result h.1.1),
  ),
  held_borrow_same f type.result ∙ h.2,
)

names_moved : (f : Change) (depth : ℕ) (externs : Externs) → extern_names (moved_externs f depth externs) ≡ extern_names externs
names_moved f depth EmptyType = refl
names_moved f depth (WithExtern others name extern) = ap (λ (names : List (List ℕ)). names ++ name ∷ []) (names_moved f depth others)

mutual
  pub type_moved : (f : Change) (depth : ℕ) (type : Closed) → IsApart type → IsApart (moved f depth type)
  type_moved f depth (Value type) h = (shallow_same (f depth) type h.0, lends_same (f depth) type h.1)
  type_moved f depth (Func type) h = func_moved (f depth) type h
  type_moved f depth (Resource number) h = tt
  type_moved f depth (Instance externs) h = externs_moved f (suc depth) externs h

  pub extern_moved : (f : Change) (depth : ℕ) (extern : Extern) → IsExternApart extern → IsExternApart (moved_extern f depth extern)
  extern_moved f depth (OfFunc type) h = func_moved (f depth) type h
  extern_moved f depth (OfType type) h = type_moved f depth type h
  extern_moved f depth (OfInstance externs) h = externs_moved f depth externs h

  pub externs_moved : (f : Change) (depth : ℕ) (externs : Externs) → AreApart externs → AreApart (moved_externs f depth externs)
  externs_moved f depth EmptyType h = tt
  externs_moved f depth (WithExtern others name extern) h =
      (externs_moved f depth others h.0, extern_moved f depth extern h.1, subst (λ (names : List (List ℕ)). is_among name names ≡ false) (sym (names_moved f depth others)) h.2)

-- what is asked for of a definition
pub asked_apart : (d : Definition) (extern : Extern) → IsExternApart extern → IsExternApart (asked_of d extern)
asked_apart d extern h = by (found_for (Some d) [] extern)
  where
    by : (given : List ℕ) → IsExternApart (filled given extern)
    by [] = h
    by (number ∷ given) = extern_moved (filled_in (number ∷ given)) 0 extern h

-- what an export of an instance type is to be
exported_apart : (resources : ℕ) (type : Closed) → IsApart type → IfSome (as_exported resources type) IsExternApart
exported_apart resources (Value type) h = tt
exported_apart resources (Func type) h = tt
exported_apart resources (Resource number) h = tt
exported_apart resources (Instance externs) h = externs_moved (brought_behind resources) 0 externs h

pub described_apart : (d : Declared) (asked : ExternDesc) → AllByRecursion IsKnownApart d.types → IfSome (described d asked).means IsExternApart
described_apart d (desc.Func index) h = desc_apart d.types (desc.Func index) h
described_apart d (desc.TypeEq index) h = desc_apart d.types (desc.TypeEq index) h
described_apart d (desc.Instance index) h = found_apart (as_exported d.resources) IsApart IsExternApart (exported_apart d.resources) (slice_get d.types index) (all_at IsKnownApart d.types index h)
described_apart d desc.Resource h = tt

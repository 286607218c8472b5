-- What a type means is marked, with ends or without, with labels that are many or counted, where all types around it are, and it is
-- written so.
use Rattle.std.proofs.Common.{◌≡◌, ◌∙◌, ◌^◌, ℕ, suc, Bool, true, false, cond, List, [], ◌∷◌, length, map, refl, ap, Option, Some, None}
use Rattle.std.specs.Prelude.{◌&&◌, ◌||◌, nat_le, nat_lt, is_none, IfSome}
use Rattle.std.specs.Option.{option_map, option_and_then}
use Rattle.std.specs.List.{slice_get, AllByRecursion}
use Rattle.std.specs.Str.{bytes_eq}
use Rattle.std.proofs.lemmas.Bool.{and_parts, and_from}
use Rattle.syntax_trees.specs.Names.{first_twice}
use Rattle.syntax_trees.specs.declared.types.ValType.{ValType, out-ValType}
use Rattle.syntax_trees.specs.declared.types.ValType.TheOpen as F
use Rattle.syntax_trees.specs.declared.types.ValType.TheVariants as leaves
use Rattle.syntax_trees.specs.declared.types.ValType.TheViews as val_type
use Rattle.syntax_trees.specs.declared.types.Field.{Field}
use Rattle.syntax_trees.specs.declared.types.Case.{Case}
use Rattle.syntax_trees.specs.declared.types.Param.{Param}
use Rattle.syntax_trees.specs.declared.types.FuncType.{FuncType}
use Rattle.syntax_trees.proofs.Folds.{held}
use Rattle.laid_types.specs.Depth.{depth}
use Rattle.laid_types.specs.Handles.{held_borrow}
use Rattle.value_lift.proofs.Views as seen
use Rattle.value_reader.specs.Writable.{all_true, true_if_some}
use Rattle.comp_tree.specs.declared.externs.ExternDesc.{ExternDesc}
use Rattle.comp_tree.specs.declared.externs.ExternDesc.TheVariants as desc
use Rattle.comp_tree.specs.declared.types.PrimValType.{PrimValType}
use Rattle.comp_tree.specs.declared.types.PrimValType.TheVariants as prim
use Rattle.comp_tree.specs.declared.types.ValTypeRef.{ValTypeRef}
use Rattle.comp_tree.specs.declared.types.ValTypeRef.TheVariants as type_ref
use Rattle.comp_tree.specs.declared.types.DefValType.{DefValType}
use Rattle.comp_tree.specs.declared.types.DefValType.TheVariants as written
use Rattle.comp_tree.specs.declared.types.Field as read_field
use Rattle.comp_tree.specs.declared.types.Case as read_case
use Rattle.comp_tree.specs.declared.types.Param as read_param
use Rattle.comp_tree.specs.declared.types.FuncType as read_func
use Rattle.comp_graph.specs.Closed.{Closed, Value, Func, Instance, Resource, Extern, OfFunc, OfType, OfInstance, Externs, EmptyType, WithExtern, extern_named, first_of, externs_of, func_of, value_of}
use Rattle.link_spec.specs.Shallow.{depth_limit}
use Rattle.link_spec.specs.Meaning.{absent, meant, too_deep, found}
use Rattle.link_spec.specs.ValueTypes.{primitive, close_val, close_held, without_borrow, close_passed, close_resource, close_all, close_field, close_case, close_parts, is_well_made, are_labels, parts_within, close_def, capped, value_meaning}
use Rattle.link_spec.specs.Types.{close_param, close_params, close_func, all_within, func_meaning, desc_meaning, resource_meant, given_meaning}
use Rattle.link_spec.proofs.Holding.{all_at, if_weaker, if_mapped, if_found, if_cond}
use Rattle.graph_laws.proofs.SpacesApart.{if_always}
use Rattle.graph_laws.proofs.Counting.{length_mapped}
use Rattle.graph_laws.proofs.Marked.{is_marked, HasMarkedTypes, marked_in, marked_is}
use Rattle.graph_laws.proofs.TypesStand as stands

either_way : (a b : Bool) → b ≡ true → (a || b) ≡ true
either_way true b h = refl
either_way false b h = h

module _ (ends many : Bool) where
  abbrev is_counted : ValType → Bool
  is_counted = is_marked ends many

  abbrev HasCountedTypes : FuncType → Type 0
  HasCountedTypes type = HasMarkedTypes ends many type

  abbrev counted_in : F.ValType-F ValType Case Field → Bool
  counted_in y = marked_in ends many y

  abbrev is_few : DefValType → Bool
  is_few type = stands.is_few ends many type

  abbrev pub IsCountedType : ValType → Type 0
  IsCountedType type = is_counted type ≡ true

  abbrev mutual
    pub IsCounted : Closed → Type 0
    IsCounted (Value type) = IsCountedType type
    IsCounted (Func type) = HasCountedTypes type
    IsCounted (Instance externs) = AreCounted externs
    IsCounted (Resource number) = Unit {0}

    pub IsExternCounted : Extern → Type 0
    IsExternCounted (OfFunc type) = HasCountedTypes type
    IsExternCounted (OfType type) = IsCounted type
    IsExternCounted (OfInstance externs) = AreCounted externs

    pub AreCounted : Externs → Type 0
    AreCounted EmptyType = Unit {0}
    AreCounted (WithExtern others name extern) = AreCounted others × IsExternCounted extern

  -- a type that stands for something
  abbrev pub IsKnownCounted : Option Closed → Type 0
  IsKnownCounted type = IfSome type IsCounted

  abbrev pub AreKnownCounted : Option Externs → Type 0
  AreKnownCounted externs = IfSome externs AreCounted

  -- Value types.
  by_out : (t : ValType) (y : F.ValType-F ValType Case Field) → out-ValType t ≡ y → counted_in y ≡ true → IsCountedType t
  by_out t y e h = marked_is ends many t ∙ ap (λ (y : F.ValType-F ValType Case Field). counted_in y) e ∙ h

  leaf_counted : (type : PrimValType) → IsCountedType (primitive type)
  leaf_counted prim.Bool = by_out leaves.Bool F.Bool seen.out_bool refl
  leaf_counted prim.S8 = by_out leaves.S8 F.S8 seen.out_s8 refl
  leaf_counted prim.U8 = by_out leaves.U8 F.U8 seen.out_u8 refl
  leaf_counted prim.S16 = by_out leaves.S16 F.S16 seen.out_s16 refl
  leaf_counted prim.U16 = by_out leaves.U16 F.U16 seen.out_u16 refl
  leaf_counted prim.S32 = by_out leaves.S32 F.S32 seen.out_s32 refl
  leaf_counted prim.U32 = by_out leaves.U32 F.U32 seen.out_u32 refl
  leaf_counted prim.S64 = by_out leaves.S64 F.S64 seen.out_s64 refl
  leaf_counted prim.U64 = by_out leaves.U64 F.U64 seen.out_u64 refl
  leaf_counted prim.Char = by_out leaves.Char F.Char seen.out_char refl
  leaf_counted prim.String = by_out leaves.String F.String seen.out_string refl

  of_value_counted : (type : Closed) → IsCounted type → IfSome (value_of type) IsCountedType
  of_value_counted (Value type) h = h
  of_value_counted (Func type) h = tt
  of_value_counted (Instance externs) h = tt
  of_value_counted (Resource number) h = tt

  val_counted : (types : List (Option Closed)) (type : ValTypeRef) → AllByRecursion IsKnownCounted types → IfSome (close_val types type) IsCountedType
  val_counted types (type_ref.Primitive type) h = leaf_counted type
  val_counted types (type_ref.Index index) h =
      if_found (option_and_then value_of) IsKnownCounted IsCountedType (if_found value_of IsCounted IsCountedType of_value_counted) (slice_get types index) (all_at IsKnownCounted types index h)

  abbrev IsHeldCounted : Option ValType → Type 0
  IsHeldCounted o = true_if_some (held is_counted o) ≡ true

  held_counted : (types : List (Option Closed)) (type : Option ValTypeRef) → AllByRecursion IsKnownCounted types → IfSome (close_held types type) IsHeldCounted
  held_counted types None h = refl
  held_counted types (Some type) h = if_mapped (λ t. Some t) IsHeldCounted (close_val types type) (val_counted types type h)

  passed_of_held : (o : Option (Option ValType)) → IfSome o IsHeldCounted → IfSome (option_and_then without_borrow o) IsHeldCounted
  passed_of_held None h = tt
  passed_of_held (Some held) h = if_cond IsHeldCounted (held_borrow held) None (Some held) tt h

  passed_counted : (types : List (Option Closed)) (type : Option ValTypeRef) → AllByRecursion IsKnownCounted types → IfSome (close_passed types type) IsHeldCounted
  passed_counted types type h = passed_of_held (close_held types type) (held_counted types type h)

  held_is : (o : Option ValType) → IsHeldCounted o → IfSome o IsCountedType
  held_is None h = tt
  held_is (Some t) h = h

  -- All of some, where each one is closed.
  abbrev AllClosed : {A B : Type 0} → (B → Type 0) → List A → List B → Type 0
  AllClosed P xs ys = AllByRecursion P ys × (length ys ≡ length xs)

  all_closed : {A B : Type 0} (P : B → Type 0) (close : A → Option B) (xs : List A) → ((x : A) → IfSome (close x) P) → IfSome (close_all close xs) (AllClosed P xs)
  all_closed P close [] h = (tt, refl)
  all_closed {A} {B} P close (x ∷ xs) h =
      if_found (λ closed. option_map (λ others. closed ∷ others) (close_all close xs)) P (AllClosed P (x ∷ xs))
      (λ y k. if_mapped (λ others. y ∷ others) (AllClosed P (x ∷ xs)) (close_all close xs)
      (if_weaker (AllClosed P xs) (λ (ys : List B). AllClosed P (x ∷ xs) (y ∷ ys)) (λ ys j. ((k, j.0), ap (λ (n : ℕ). suc n) j.1)) (close_all close xs) (all_closed P close xs h)))
      (close x) (h x)

  all_true_of : {A : Type 0} (f : A → Bool) (xs : List A) → AllByRecursion (λ x. f x ≡ true) xs → all_true (map f xs) ≡ true
  all_true_of f [] h = refl
  all_true_of f (x ∷ xs) h = and_from (f x) (all_true (map f xs)) h.0 (all_true_of f xs h.1)

  abbrev IsFieldCounted : Field → Type 0
  IsFieldCounted f = is_counted f.val_type ≡ true

  abbrev IsCaseCounted : Case → Type 0
  IsCaseCounted c = IsHeldCounted c.payload

  field_counted : (types : List (Option Closed)) (f : read_field.Field) → AllByRecursion IsKnownCounted types → IfSome (close_field types f) IsFieldCounted
  field_counted types f h = if_mapped (λ type. (let g : Field = record { label = f.label; val_type = type } in g)) IsFieldCounted (close_val types f.val_type) (val_counted types f.val_type h)

  case_counted : (types : List (Option Closed)) (c : read_case.Case) → AllByRecursion IsKnownCounted types → IfSome (close_case types c) IsCaseCounted
  case_counted types c h = if_mapped (λ payload. (let d : Case = record { label = c.label; payload = payload } in d)) IsCaseCounted (close_held types c.payload) (held_counted types c.payload h)

  record_counted : (fields : List Field) → AllByRecursion IsFieldCounted fields → IsCountedType (val_type.Record fields)
  record_counted fields h = by_out (val_type.Record fields) (F.Record fields) (seen.out_record fields) (all_true_of (λ (f : Field). is_counted f.val_type) fields h)

  variant_counted : (cases : List Case) (n : ℕ) → length cases ≡ n → (many || nat_lt n (2 ^ 32)) ≡ true → AllByRecursion IsCaseCounted cases → IsCountedType (val_type.Variant cases)
  variant_counted cases n count few h =
      by_out (val_type.Variant cases) (F.Variant cases) (seen.out_variant cases)
      (and_from (many || nat_lt (length (map (λ (c : Case). true_if_some (held is_counted c.payload)) cases)) (2 ^ 32)) (all_true (map (λ (c : Case). true_if_some (held is_counted c.payload)) cases))
      (ap (λ (k : ℕ). many || nat_lt k (2 ^ 32)) (length_mapped (λ (c : Case). true_if_some (held is_counted c.payload)) cases ∙ count) ∙ few)
      (all_true_of (λ (c : Case). true_if_some (held is_counted c.payload)) cases h))

  pub tuple_counted : (parts : List ValType) → AllByRecursion IsCountedType parts → IsCountedType (val_type.Tuple parts)
  tuple_counted parts h = by_out (val_type.Tuple parts) (F.Tuple parts) (seen.out_tuple parts) (all_true_of is_counted parts h)

  result_counted : (ok err : Option ValType) → IsHeldCounted ok → IsHeldCounted err → IsCountedType (val_type.Result ok err)
  result_counted None None h k = by_out (val_type.Result None None) (F.Result None None) (seen.out_result None None) refl
  result_counted None (Some e) h k = by_out (val_type.Result None (Some e)) (F.Result None (Some e)) (seen.out_result None (Some e)) k
  result_counted (Some o) None h k = by_out (val_type.Result (Some o) None) (F.Result (Some o) None) (seen.out_result (Some o) None) (and_from (is_counted o) true h refl)
  result_counted (Some o) (Some e) h k = by_out (val_type.Result (Some o) (Some e)) (F.Result (Some o) (Some e)) (seen.out_result (Some o) (Some e)) (and_from (is_counted o) (is_counted e) h k)

  stream_counted : (o : Option ValType) → ends ≡ true → IsHeldCounted o → IsCountedType (val_type.Stream o)
  stream_counted None e k = by_out (val_type.Stream None) (F.Stream None) (seen.out_stream None) (and_from ends true e refl)
  stream_counted (Some t) e k = by_out (val_type.Stream (Some t)) (F.Stream (Some t)) (seen.out_stream (Some t)) (and_from ends (is_counted t) e k)

  future_counted : (o : Option ValType) → ends ≡ true → IsHeldCounted o → IsCountedType (val_type.Future o)
  future_counted None e k = by_out (val_type.Future None) (F.Future None) (seen.out_future None) (and_from ends true e refl)
  future_counted (Some t) e k = by_out (val_type.Future (Some t)) (F.Future (Some t)) (seen.out_future (Some t)) (and_from ends (is_counted t) e k)

  parts_counted : (types : List (Option Closed)) (type : DefValType) → AllByRecursion IsKnownCounted types → is_few type ≡ true → is_well_made type ≡ true → IfSome (close_parts types type) IsCountedType
  parts_counted types (written.Primitive type) h few made = leaf_counted type
  parts_counted types (written.Record fields) h few made =
      if_mapped val_type.Record IsCountedType (close_all (close_field types) fields)
      (if_weaker (AllClosed IsFieldCounted fields) (λ (fs : List Field). IsCountedType (val_type.Record fs)) (λ fs k. record_counted fs k.0) (close_all (close_field types) fields) (all_closed IsFieldCounted (close_field types) fields (λ f. field_counted types f h)))
  parts_counted types (written.Variant cases) h few made =
      if_mapped val_type.Variant IsCountedType (close_all (close_case types) cases)
      (if_weaker (AllClosed IsCaseCounted cases) (λ (cs : List Case). IsCountedType (val_type.Variant cs)) (λ cs k. variant_counted cs (length cases) k.1 few k.0) (close_all (close_case types) cases) (all_closed IsCaseCounted (close_case types) cases (λ c. case_counted types c h)))
  parts_counted types (written.List element) h few made =
      if_mapped val_type.List IsCountedType (close_val types element)
      (if_weaker IsCountedType (λ (t : ValType). IsCountedType (val_type.List t)) (λ t k. by_out (val_type.List t) (F.List t) (seen.out_list t) k) (close_val types element) (val_counted types element h))
  parts_counted types (written.Tuple places) h few made =
      if_mapped val_type.Tuple IsCountedType (close_all (close_val types) places)
      (if_weaker (AllClosed IsCountedType places) (λ (ts : List ValType). IsCountedType (val_type.Tuple ts)) (λ ts k. tuple_counted ts k.0) (close_all (close_val types) places) (all_closed IsCountedType (close_val types) places (λ t. val_counted types t h)))
  parts_counted types (written.Flags labels) h few made =
      by_out (leaves.Flags labels) (F.Flags labels) (seen.out_flags labels) (either_way many (nat_le (length labels) 32) (and_parts (are_labels labels) (nat_le (length labels) 32) made).1)
  parts_counted types (written.Enum labels) h few made = by_out (leaves.Enum labels) (F.Enum labels) (seen.out_enum labels) few
  parts_counted types (written.Option payload) h few made =
      if_mapped val_type.Option IsCountedType (close_val types payload)
      (if_weaker IsCountedType (λ (t : ValType). IsCountedType (val_type.Option t)) (λ t k. by_out (val_type.Option t) (F.Option t) (seen.out_option t) k) (close_val types payload) (val_counted types payload h))
  parts_counted types (written.Result ok err) h few made =
      if_found (λ ok. option_map (λ err. val_type.Result ok err) (close_held types err)) IsHeldCounted IsCountedType
      (λ o k. if_mapped (λ err. val_type.Result o err) IsCountedType (close_held types err)
      (if_weaker IsHeldCounted (λ (e : Option ValType). IsCountedType (val_type.Result o e)) (λ e j. result_counted o e k j) (close_held types err) (held_counted types err h)))
      (close_held types ok) (held_counted types ok h)
  parts_counted types (written.Own resource) h few made =
      if_mapped leaves.Own IsCountedType (close_resource types resource)
      (if_always (λ (n : ℕ). IsCountedType (leaves.Own n)) (close_resource types resource) (λ n. by_out (leaves.Own n) (F.Own n) (seen.out_own n) few))
  parts_counted types (written.Borrow resource) h few made =
      if_mapped leaves.Borrow IsCountedType (close_resource types resource)
      (if_always (λ (n : ℕ). IsCountedType (leaves.Borrow n)) (close_resource types resource) (λ n. by_out (leaves.Borrow n) (F.Borrow n) (seen.out_borrow n) few))
  parts_counted types (written.Stream element) h few made =
      if_mapped val_type.Stream IsCountedType (close_passed types element)
      (if_weaker IsHeldCounted (λ (o : Option ValType). IsCountedType (val_type.Stream o)) (λ o k. stream_counted o few k) (close_passed types element) (passed_counted types element h))
  parts_counted types (written.Future element) h few made =
      if_mapped val_type.Future IsCountedType (close_passed types element)
      (if_weaker IsHeldCounted (λ (o : Option ValType). IsCountedType (val_type.Future o)) (λ o k. future_counted o few k) (close_passed types element) (passed_counted types element h))

  def_counted : (types : List (Option Closed)) (type : DefValType) → AllByRecursion IsKnownCounted types → is_few type ≡ true → IfSome (close_def types type) IsCountedType
  def_counted types type h few = by_test (is_well_made type) refl
    where
      by_test : (b : Bool) → is_well_made type ≡ b → IfSome (cond b (close_parts types type) None) IsCountedType
      by_test true made = parts_counted types type h few made
      by_test false made = tt

  capped_counted : (o : Option ValType) → IfSome o IsCountedType → IfSome (capped o).means IsCounted
  capped_counted None h = tt
  capped_counted (Some type) h = by_test (nat_le (depth type) depth_limit)
    where
      by_test : (b : Bool) → IfSome (cond b (meant (Some (Value type))) (too_deep (Value leaves.Bool))).means IsCounted
      by_test true = h
      by_test false = leaf_counted prim.Bool

  pub value_meaning_counted : (types : List (Option Closed)) (type : DefValType) → AllByRecursion IsKnownCounted types → is_few type ≡ true → IfSome (value_meaning types type).means IsCounted
  value_meaning_counted types type h few = by_test (parts_within (length types) type)
    where
      by_test : (b : Bool) → IfSome (cond b (capped (close_def types type)) absent).means IsCounted
      by_test true = capped_counted (close_def types type) (def_counted types type h few)
      by_test false = tt

  -- Function types.
  abbrev IsParamCounted : Param → Type 0
  IsParamCounted p = is_counted p.val_type ≡ true

  param_counted : (types : List (Option Closed)) (p : read_param.Param) → AllByRecursion IsKnownCounted types → IfSome (close_param types p) IsParamCounted
  param_counted types p h = if_mapped (λ type. (let q : Param = record { label = p.label; val_type = type } in q)) IsParamCounted (close_val types p.val_type) (val_counted types p.val_type h)

  func_counted : (types : List (Option Closed)) (type : read_func.FuncType) → AllByRecursion IsKnownCounted types → IfSome (close_func types type) HasCountedTypes
  func_counted types type h =
      if_cond HasCountedTypes (is_none (first_twice (map (λ (p : read_param.Param). p.label) type.params))) _ None
      (if_found (λ params. option_map (λ returned. (let f : FuncType = record { params = params; result = returned } in f)) (close_passed types type.result)) (AllClosed IsParamCounted type.params) HasCountedTypes
      (λ params k. if_mapped (λ returned. (let f : FuncType = record { params = params; result = returned } in f)) HasCountedTypes (close_passed types type.result)
      (if_weaker IsHeldCounted (λ (returned : Option ValType). HasCountedTypes (record { params = params; result = returned })) (λ returned j. record { params = k.0; returned = held_is returned j }) (close_passed types type.result) (passed_counted types type.result h)))
      (close_params types type.params) (all_closed IsParamCounted (close_param types) type.params (λ p. param_counted types p h))) tt

  pub func_meaning_counted : (types : List (Option Closed)) (type : read_func.FuncType) → AllByRecursion IsKnownCounted types → IfSome (func_meaning types type).means IsCounted
  func_meaning_counted types type h = by_test (all_within (length types) type)
    where
      by_test : (b : Bool) → IfSome (cond b (meant (option_map Func (close_func types type))) absent).means IsCounted
      by_test true = if_mapped Func IsCounted (close_func types type) (func_counted types type h)
      by_test false = tt

  -- Descriptions of imports and exports.
  pub found_counted : {A B : Type 0} (f : A → Option B) (P : A → Type 0) (Q : B → Type 0) → ((x : A) → P x → IfSome (f x) Q) → (o : Option (Option A)) → IfSome o (λ p. IfSome p P) → IfSome (found f o).means Q
  found_counted f P Q g None h = tt
  found_counted f P Q g (Some o) h = if_found f P Q g o h

  pub of_func_counted : (type : Closed) → IsCounted type → IfSome (func_of type) HasCountedTypes
  of_func_counted (Value type) h = tt
  of_func_counted (Func type) h = h
  of_func_counted (Instance externs) h = tt
  of_func_counted (Resource number) h = tt

  of_externs_counted : (type : Closed) → IsCounted type → IfSome (externs_of type) AreCounted
  of_externs_counted (Value type) h = tt
  of_externs_counted (Func type) h = tt
  of_externs_counted (Instance externs) h = h
  of_externs_counted (Resource number) h = tt

  pub desc_counted : (types : List (Option Closed)) (asked : ExternDesc) → AllByRecursion IsKnownCounted types → IfSome (desc_meaning types asked).means IsExternCounted
  desc_counted types (desc.Func index) h =
      found_counted (λ type. option_map OfFunc (func_of type)) IsCounted IsExternCounted (λ type k. if_mapped OfFunc IsExternCounted (func_of type) (of_func_counted type k)) (slice_get types index) (all_at IsKnownCounted types index h)
  desc_counted types (desc.TypeEq index) h =
      found_counted (λ type. Some (OfType type)) IsCounted IsExternCounted (λ type k. k) (slice_get types index) (all_at IsKnownCounted types index h)
  desc_counted types (desc.Instance index) h =
      found_counted (λ type. option_map OfInstance (externs_of type)) IsCounted IsExternCounted (λ type k. if_mapped OfInstance IsExternCounted (externs_of type) (of_externs_counted type k)) (slice_get types index) (all_at IsKnownCounted types index h)
  desc_counted types desc.Resource h = tt

  resource_counted : (given : Option Closed) → IfSome (resource_meant given).means IsExternCounted
  resource_counted (Some (Resource number)) = tt
  resource_counted (Some (Value type)) = tt
  resource_counted (Some (Func type)) = tt
  resource_counted (Some (Instance externs)) = tt
  resource_counted None = tt

  pub meant_counted : (types : List (Option Closed)) (given : Option Closed) (asked : ExternDesc) → AllByRecursion IsKnownCounted types → IfSome (given_meaning types given asked).means IsExternCounted
  meant_counted types given (desc.Func index) h = desc_counted types (desc.Func index) h
  meant_counted types given (desc.TypeEq index) h = desc_counted types (desc.TypeEq index) h
  meant_counted types given (desc.Instance index) h = desc_counted types (desc.Instance index) h
  meant_counted types given desc.Resource h = resource_counted given

  -- the export of a name
  first_counted : (a b : Option Extern) → IfSome a IsExternCounted → IfSome b IsExternCounted → IfSome (first_of a b) IsExternCounted
  first_counted None b h k = k
  first_counted (Some a) b h k = h

  pub named_counted : (q : List ℕ) (externs : Externs) → AreCounted externs → IfSome (extern_named q externs) IsExternCounted
  named_counted q EmptyType h = tt
  named_counted q (WithExtern others name extern) h =
      first_counted (extern_named q others) (cond (bytes_eq name q) (Some extern) None) (named_counted q others h.0) (if_cond IsExternCounted (bytes_eq name q) (Some extern) None h.1 tt)

-- Types that are made, layer by layer.
use Rattle.std.proofs.Common.{◌≡◌, ◌<◌, ◌≤◌, ◌+◌, ◌-◌, ℕ, Bool, List, [], ◌∷◌, ◌++◌, length, drop, take, get_or, ap, sym, ◌∙◌, subst, Some, None, Option, arith}
use Rattle.std.specs.Prelude.{◌||◌, IfSome}
use Rattle.std.specs.Ordering.{nat_cmp}
use Rattle.std.specs.BTreeMap.{BTreeMap, get}
use Rattle.std.specs.List.{slice_get, AllZip}
use Rattle.std.proofs.lemmas.List.{drop_more, take_more}
use Rattle.syntax_trees.specs.declared.types.ValType.{ValType}
use Rattle.syntax_trees.specs.declared.types.Param.{Param}
use Rattle.syntax_trees.specs.declared.types.FuncType.{FuncType}
use Rattle.comp_graph.specs.Closed.{Extern, Externs, WithExtern, names_in_extern}
use Rattle.comp_graph.specs.declared.func_types.NumberedFunc.{NumberedFunc}
use Rattle.link_types.specs.declared.labels.LabelledType.{LabelledType}
use Rattle.link_values.specs.declared.layers.ExternLayer.{ExternLayer}
use Rattle.link_values.specs.declared.layers.Layer.TheVariants as layer
use Rattle.link_types.specs.declared.maker.InstanceTypeMaker.{InstanceTypeMaker}
use Rattle.link_values.specs.declared.refs.ExternRef.{ExternRef}
use Rattle.link_types.specs.Labels.{IsParam, IsFuncOf}
use Rattle.link_types.specs.Layered.{IsParams, IsFuncLayer, IsExternLayer}
use Rattle.link_values.specs.Layering.{extern_layer}
use Rattle.link_types.specs.Begun.{IsBegun}
use Rattle.link_types.specs.Kept.{IsKept}
use Rattle.link_types.specs.Table.{Table, IsName, IsFunc, IsExtern, IsInstanceType, Grows}
use Rattle.link_types.proofs.LayersTold.{func_told}
use Rattle.link_types.proofs.Zips.{all_more}
use Rattle.link_types.proofs.TypesGrow.{grows_trans, name_stays, may_be_stays, params_stay, func_layer_stays, externs_layer_stays, extern_stays, listed_stays}
use Rattle.link_types.proofs.TypesTold.{extern_in_layer}

-- A parameter before others.
pub param_more : (t u v : Table) (p : LabelledType) (label others number : ℕ) → Grows t u → Grows u v → IsName u label p.label.now → slice_get v.layers number ≡ Some (layer.Param label p.val_type others)
    → (first : Param) (all : List Param) → IsParam t.values p first → IsParams t.texts t.values t.layers others all → IsParams v.texts v.values v.layers number (first ∷ all)
param_more t u v p label others number g k name at first all is h =
    let both = grows_trans t u v g k in
    (label, p.val_type, others, at, name_stays u v k label first.label (name ∙ ap (λ (text : List ℕ). Some text) is.0), both.values p.val_type first.val_type is.1, params_stay t v both others all h)

-- The parameters from a place on.
one_before : (s t u : Table) (p : LabelledType) (rest : List LabelledType) (others number : ℕ) → Grows s t
    → ((all : List Param) → AllZip (IsParam s.values) rest all → IsParams t.texts t.values t.layers others all)
    → ((first : Param) (all : List Param) → IsParam t.values p first → IsParams t.texts t.values t.layers others all → IsParams u.texts u.values u.layers number (first ∷ all))
    → (all : List Param) → AllZip (IsParam s.values) (p ∷ rest) all → IsParams u.texts u.values u.layers number all
one_before s t u p rest others number g before more [] h = absurd h
one_before s t u p rest others number g before more (first ∷ all) h = more first all (h.0.0, g.values p.val_type first.val_type h.0.1) (before all h.1)

pub one_from : (s t u : Table) (params : List LabelledType) (at : ℕ) (d : LabelledType) (others number : ℕ) → 0 < at → at ≤ length params → Grows s t
    → ((all : List Param) → AllZip (IsParam s.values) (drop at params) all → IsParams t.texts t.values t.layers others all)
    → ((first : Param) (all : List Param) → IsParam t.values (get_or params (at - 1) d) first → IsParams t.texts t.values t.layers others all → IsParams u.texts u.values u.layers number (first ∷ all))
    → (all : List Param) → AllZip (IsParam s.values) (drop (at - 1) params) all → IsParams u.texts u.values u.layers number all
one_from s t u params at d others number some is g before more all h =
    let p = get_or params (at - 1) d in
    let next : at - 1 + 1 ≡ at = omega arith in
    let dropped : drop (at - 1) params ≡ p ∷ drop at params = drop_more params (at - 1) d (omega arith) ∙ ap (λ (k : ℕ). p ∷ drop k params) next in
    one_before s t u p (drop at params) others number g before more all (subst (λ (ps : List LabelledType). AllZip (IsParam s.values) ps all) dropped h)

-- The parameters up to a place.
pub closed_more : (values : List ValType) (params : List LabelledType) (closed more : List Param) (at : ℕ) (d : LabelledType) (p : Param) → AllZip (IsParam values) (take at params) closed → at < length params
    → IsParam values (get_or params at d) p → more ≡ closed ++ p ∷ [] → AllZip (IsParam values) (take (at + 1) params) more
closed_more values params closed more at d p h within is put = rw (take_more params at d within, put) (all_more (IsParam values) (take at params) closed (get_or params at d) p h is)

-- A function type over its parameters, as its layer, and as it is found there.
pub func_more : (t u v : Table) (params : List LabelledType) (returned : Option ℕ) (others number : ℕ) → Grows t u → Grows u v → ((all : List Param) → AllZip (IsParam t.values) params all → IsParams u.texts u.values u.layers others all)
    → slice_get v.layers number ≡ Some (layer.Func others returned) → (type : FuncType) → IsFuncOf t.values params returned type → IsFuncLayer v.texts v.values v.layers number type
func_more t u v params returned others number g k made at type is =
    (others, returned, at, params_stay u v k others type.params (made type.params is.0), may_be_stays t v (grows_trans t u v g k) returned type.result is.1)

pub func_found : (t : Table) (m : BTreeMap ℕ ℕ) (fs : List NumberedFunc) (layer_number : ℕ) (o : Option ℕ) → IsKept m fs t → o ≡ get nat_cmp m layer_number
    → IfSome o (λ number. (type : FuncType) → IsFuncLayer t.texts t.values t.layers layer_number type → IsFunc t (record { layer = layer_number; number = number }) type)
func_found t m fs layer_number None kept found = tt
func_found t m fs layer_number (Some number) kept found = λ type h.
    let one = kept.funcs layer_number number (sym found) in
    (h, one.1.1 ∙ ap (λ (f : FuncType). Some f) (func_told t.texts t.values t.layers layer_number one.0 type one.1.0 h))

pub func_added : (t u v : Table) (layer_number number : ℕ) (made : FuncType) → Grows t u → v ≡ u → slice_get u.funcs number ≡ Some made → IsFuncLayer t.texts t.values t.layers layer_number made
    → (type : FuncType) → IsFuncLayer t.texts t.values t.layers layer_number type → IsFunc v (record { layer = layer_number; number = number }) type
func_added t u v layer_number number made g same at is type h =
    subst (λ (t : Table). IsFunc t (record { layer = layer_number; number = number }) type) (sym same)
    (func_layer_stays t u g layer_number type h, at ∙ ap (λ (f : FuncType). Some f) (func_told t.texts t.values t.layers layer_number made type is h))

-- An export behind others.
pub extern_more : (t u : Table) (old new : InstanceTypeMaker) (name layer_number : ℕ) (item : ExternRef) (part : ExternLayer) → Grows t u → part ≡ extern_layer item → slice_get u.layers layer_number ≡ Some (layer.Extern old.layer name part) → new.layer ≡ layer_number → new.externs ≡ old.externs ++ (name, item) ∷ []
    → ((extern : Extern) → IsExtern t item extern → new.names_resource ≡ (old.names_resource || names_in_extern extern))
    → (externs : Externs) (text : List ℕ) (extern : Extern) → IsBegun t old externs → IsName t name text → IsExtern t item extern → IsBegun u new (WithExtern externs text extern)
extern_more t u old new name layer_number item part g is at same pushed names externs text extern h label stands =
    let item_in : IsExternLayer u.texts u.values u.layers part extern = rw is (extern_in_layer u item extern (extern_stays t u g item extern stands)) in
    let there : slice_get u.layers new.layer ≡ Some (layer.Extern old.layer name part) = rw same at in (
      (old.layer, name, part, there, externs_layer_stays t u g old.layer externs h.0, name_stays t u g name text label, item_in),
      (old.externs, name, item, pushed, listed_stays t u g old.externs externs h.1, name_stays t u g name text label, extern_stays t u g item extern stands),
      names extern stands ∙ ap (λ (b : Bool). b || names_in_extern extern) h.2,
    )

-- The type of the exports that are begun.
pub finished : (t u : Table) (maker : InstanceTypeMaker) (number : ℕ) → Grows t u → slice_get u.instances number ≡ Some maker.externs → (externs : Externs) → IsBegun t maker externs → IsInstanceType u (record { layer = maker.layer; number = number; names_resource = maker.names_resource }) externs
finished t u maker number g at externs h =
    (externs_layer_stays t u g maker.layer externs h.0, (maker.externs, at, listed_stays t u g maker.externs externs h.1), h.2)

-- What passes in the streams or the futures of a type is the one part of the type.
use Rattle.std.proofs.Common.{◌≡◌, ◌∙◌, ℕ, Bool, List, refl, sym, ap, subst, rules, Option, Some, None}
use Rattle.std.specs.List.{slice_get}
use Rattle.std.specs.Option.{option_and_then}
use Rattle.syntax_trees.specs.declared.types.ValType.{ValType, out-ValType, roll-ValType}
use Rattle.syntax_trees.specs.declared.types.ValType.TheOpen as F
use Rattle.syntax_trees.specs.declared.types.ValType.TheViews as types
use Rattle.syntax_trees.specs.declared.types.ValType.TheViews.{the_lemmas, rolls-Stream, rolls-Future, roll-out-ValType}
use Rattle.syntax_trees.specs.declared.types.Case.{Case}
use Rattle.syntax_trees.specs.declared.types.Field.{Field}
use Rattle.builtin_kinds.specs.declared.EndKind.{EndKind}
use Rattle.builtin_kinds.specs.declared.EndKind.TheVariants as end_kind
use Rattle.laid_types.specs.Parts.{parts_case, part_at}
use Rattle.comp_graph.specs.declared.graph.EndOp.{EndOp}
use Rattle.comp_graph.specs.declared.graph.BuiltinKind.{BuiltinKind}
use Rattle.comp_graph.specs.declared.graph.BuiltinKind.TheVariants as builtin
use Rattle.comp_graph.specs.Graph.{builtin_type, ends_type, numbered_value}
use Rattle.comp_graph.specs.Passed.{MayBeAt}
use Rattle.comp_tree.specs.declared.builtins.CanonEndOp.{CanonEndOp}
use Rattle.comp_tree.specs.declared.items.CanonOption.{CanonOption}
use Rattle.link_spec.specs.Canons.{Given}
use Rattle.link_spec.specs.Builtins.{elements_in, elements_of, end_op_of, end_serves, end_meaning}
use Rattle.canon_types.specs.declared.builtins.Built.{Built}
use Rattle.canon_types.specs.Built.{IsBuiltinMeaning}

abbrev Layer : Type 0
Layer = F.ValType-F ValType Case Field

out_stream : (element : Option ValType) → out-ValType (types.Stream element) ≡ F.Stream element
out_stream element = search (rules, the_lemmas)

out_future : (element : Option ValType) → out-ValType (types.Future element) ≡ F.Future element
out_future element = search (rules, the_lemmas)

first_part : (t : ValType) (y : Layer) (r : Option ValType) → out-ValType t ≡ y → r ≡ part_at t 0 → r ≡ option_and_then (λ part. part) (slice_get (parts_case y) 0)
first_part t y r out k = k ∙ ap (λ (y : Layer). option_and_then (λ part. part) (slice_get (parts_case y) 0)) out

pub stream_read : (t : ValType) (e r : Option ValType) → t ≡ types.Stream e → r ≡ part_at t 0 → Some r ≡ elements_of end_kind.Stream t
stream_read t e r h k =
    let out : out-ValType t ≡ F.Stream e = ap out-ValType h ∙ out_stream e in
    ap (λ (o : Option ValType). Some o) (first_part t (F.Stream e) r out k) ∙ sym (ap (λ (y : Layer). elements_in end_kind.Stream y) out)

pub future_read : (t : ValType) (e r : Option ValType) → t ≡ types.Future e → r ≡ part_at t 0 → Some r ≡ elements_of end_kind.Future t
future_read t e r h k =
    let out : out-ValType t ≡ F.Future e = ap out-ValType h ∙ out_future e in
    ap (λ (o : Option ValType). Some o) (first_part t (F.Future e) r out k) ∙ sym (ap (λ (y : Layer). elements_in end_kind.Future y) out)

pub no_stream : (t : ValType) → ((e : Option ValType) → t ≡ types.Stream e → ⊥) → None ≡ elements_of end_kind.Stream t
no_stream t none = by (out-ValType t) (roll-out-ValType t)
  where
    by : (y : Layer) → roll-ValType y ≡ t → None ≡ elements_in end_kind.Stream y
    by (F.Stream e) h = absurd (none e (sym h ∙ rolls-Stream e))
    by other h = refl

pub no_future : (t : ValType) → ((e : Option ValType) → t ≡ types.Future e → ⊥) → None ≡ elements_of end_kind.Future t
no_future t none = by (out-ValType t) (roll-out-ValType t)
  where
    by : (y : Layer) → roll-ValType y ≡ t → None ≡ elements_in end_kind.Future y
    by (F.Future e) h = absurd (none e (sym h ∙ rolls-Future e))
    by other h = refl

-- A type in which these elements pass.
pub type_is : (kind : EndKind) (t : ValType) (element : Option ValType) → elements_of kind t ≡ Some element → t ≡ ends_type kind element
type_is end_kind.Stream t element h = by (out-ValType t) (roll-out-ValType t) h
  where
    by : (y : Layer) → roll-ValType y ≡ t → elements_in end_kind.Stream y ≡ Some element → t ≡ types.Stream element
    by (F.Stream e) r h = let same : e ≡ element = cc in sym r ∙ rolls-Stream e ∙ ap (λ (o : Option ValType). types.Stream o) same
    by other r h = cc
type_is end_kind.Future t element h = by (out-ValType t) (roll-out-ValType t) h
  where
    by : (y : Layer) → roll-ValType y ≡ t → elements_in end_kind.Future y ≡ Some element → t ≡ types.Future element
    by (F.Future e) r h = let same : e ≡ element = cc in sym r ∙ rolls-Future e ∙ ap (λ (o : Option ValType). types.Future o) same
    by other r h = cc

module _ (values : List ValType) (is_there : Bool) (kind : EndKind) (given : List CanonOption → Given) (op : CanonEndOp) where
  -- One of the ends of a type.
  pub ends_made : (number : ℕ) (t : ValType) (element : Option ValType) (serves : Bool) (made : Built) (done : EndOp) (type : Option ValType)
      → type ≡ Some t → elements_of kind t ≡ Some element → slice_get values number ≡ Some t → serves ≡ end_serves given element op → done ≡ end_op_of given op
      → made.kind ≡ builtin.End kind element done → made.core_type ≡ builtin_type made.kind → made.passed ≡ Some number
      → IsBuiltinMeaning values (record { is_there = is_there; means = Some made; serves = serves }) (end_meaning is_there kind (option_and_then (elements_of kind) type) given op)
  ends_made number t element serves made done type is holds at s d k typed p =
      let found : option_and_then (elements_of kind) type ≡ Some element = ap (option_and_then (elements_of kind)) is ∙ holds in
      let kinds : made.kind ≡ builtin.End kind element (end_op_of given op) = k ∙ ap (λ (x : EndOp). builtin.End kind element x) d in
      let there : slice_get values number ≡ Some (ends_type kind element) = at ∙ ap (λ (x : ValType). Some x) (type_is kind t element holds) in
      let passes : MayBeAt values made.passed (numbered_value made.kind) =
      subst (λ (n : Option ℕ). MayBeAt values n (numbered_value made.kind)) (sym p) (subst (λ (x : BuiltinKind). MayBeAt values (Some number) (numbered_value x)) (sym kinds) there) in
      rw found (record { is_there = refl; means = ap (λ (x : BuiltinKind). Some x) kinds; serves = s; built = record { typed = typed; passes = passes } })

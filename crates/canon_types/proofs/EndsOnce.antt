-- Types of streams and futures, each once, are those of their numbers, each once.
use Rattle.std.proofs.Common.{◌≡◌, ◌∙◌, ℕ, Bool, true, false, cond, not, ◌||◌, ◌&&◌, List, [], ◌∷◌, ◌++◌, refl, sym, ap, subst, Option, Some, None}
use Rattle.std.specs.Prelude.{◌==◌}
use Rattle.std.specs.List.{slice_get}
use Rattle.std.specs.Option.{option_and_then, option_map_or}
use Rattle.std.proofs.lemmas.Bool.Decides.{Decides-eqb}
use Rattle.syntax_trees.specs.declared.types.ValType.{ValType}
use Rattle.syntax_trees.specs.declared.types.ValType.TheViews.{outs-Stream, outs-Future}
use Rattle.builtin_kinds.specs.declared.EndKind.{EndKind}
use Rattle.builtin_kinds.specs.declared.EndKind.TheVariants as end_kind
use Rattle.comp_graph.specs.declared.graph.BuiltinKind.{BuiltinKind}
use Rattle.comp_graph.specs.declared.graph.BuiltinKind.TheVariants as builtin
use Rattle.comp_graph.specs.declared.graph.CanonFunc.{CanonFunc}
use Rattle.comp_graph.specs.declared.graph.CanonFunc.TheVariants as canon_func
use Rattle.comp_graph.specs.Closed.{Closed, Value, Func, Resource, Instance}
use Rattle.comp_graph.specs.Graph.{ends_type, numbered_value}
use Rattle.comp_graph.specs.Passed.{MayBeAt, TypeTable, HasCanonType, types_at}
use Rattle.link_spec.specs.Same.{same_val}
use Rattle.link_spec.specs.Ends.{ends_case, is_of_ends, is_type_among, noted, noted_type, noted_kind, noted_canon}
use Rattle.link_spec.proofs.SameValues.{val_told}
use Rattle.link_values.specs.declared.refs.TypeRef.{TypeRef}
use Rattle.link_values.specs.declared.refs.TypeRef.TheVariants as type_ref
use Rattle.link_types.specs.Table.{Table, IsType}
use Rattle.link_types.specs.Numbering.{AreApart}
use Rattle.canon_types.specs.EndNumbers.{AreEndTypes, is_number_among, number_once, with_number, number_if_ends, type_number, kind_number, canon_number}

same_truth : (a b : Bool) → (a ≡ true → b ≡ true) → (b ≡ true → a ≡ true) → a ≡ b
same_truth true true f g = refl
same_truth true false f g = sym (f refl)
same_truth false true f g = g refl
same_truth false false f g = refl

ends_are : (kind : EndKind) (element : Option ValType) → is_of_ends (ends_type kind element) ≡ true
ends_are end_kind.Stream element = ap ends_case (outs-Stream element)
ends_are end_kind.Future element = ap ends_case (outs-Future element)

module _ (values : List ValType) where
  more : (numbers : List ℕ) (types : List ValType) (n : ℕ) (t : ValType) → AreEndTypes values numbers types → slice_get values n ≡ Some t → AreEndTypes values (numbers ++ n ∷ []) (types ++ t ∷ [])
  more [] [] n t h k = (k, tt)
  more [] (u ∷ types) n t h k = absurd h
  more (m ∷ numbers) [] n t h k = absurd h
  more (m ∷ numbers) (u ∷ types) n t h k = (h.0, more numbers types n t h.1 k)

  -- these types
  pub types_told : (numbers : List ℕ) (types : List ValType) → AreEndTypes values numbers types → types_at values numbers ≡ types
  types_told [] [] h = refl
  types_told [] (t ∷ types) h = absurd h
  types_told (n ∷ numbers) [] h = absurd h
  types_told (n ∷ numbers) (t ∷ types) h =
      ap (λ (o : Option ValType). option_map_or (λ t. t ∷ []) o [] ++ types_at values numbers) h.0 ∙ ap (λ (ts : List ValType). t ∷ ts) (types_told numbers types h.1)

module _ (values : List ValType) (apart : AreApart values) where
  -- types are the same where their numbers are
  same_number : (m n : ℕ) (t u : ValType) → slice_get values m ≡ Some t → slice_get values n ≡ Some u → same_val t u ≡ (m == n)
  same_number m n t u h k =
      same_truth (same_val t u) (m == n)
      (λ e. (let same : t ≡ u = (val_told t u).0 e in (Decides-eqb m n).1 (apart m n u (subst (λ (v : ValType). slice_get values m ≡ Some v) same h) k)))
      (λ e. (let same : m ≡ n = (Decides-eqb m n).0 e in (val_told t u).1 (one_type (slice_get values n) t u (subst (λ (i : ℕ). slice_get values i ≡ Some t) same h) k)))
    where
      one_type : (o : Option ValType) (t u : ValType) → o ≡ Some t → o ≡ Some u → t ≡ u
      one_type o t u h k = cc

  among : (numbers : List ℕ) (types : List ValType) (n : ℕ) (t : ValType) → AreEndTypes values numbers types → slice_get values n ≡ Some t → is_type_among types t ≡ is_number_among numbers n
  among [] [] n t h k = refl
  among [] (u ∷ types) n t h k = absurd h
  among (m ∷ numbers) [] n t h k = absurd h
  among (m ∷ numbers) (u ∷ types) n t h k =
      ap (λ (b : Bool). b || is_type_among types t) (same_number m n u t h.0 k) ∙ ap (λ (b : Bool). (m == n) || b) (among numbers types n t h.1 k)

  -- one type of ends more
  once_more : (numbers : List ℕ) (types : List ValType) (n : ℕ) (t : ValType) → AreEndTypes values numbers types → slice_get values n ≡ Some t → is_of_ends t ≡ true → AreEndTypes values (number_once numbers n) (noted types t)
  once_more numbers types n t h k e =
      subst (λ (ends : Bool). AreEndTypes values (number_once numbers n) (cond (ends && not (is_type_among types t)) (types ++ t ∷ []) types)) (sym e)
      (subst (λ (there : Bool). AreEndTypes values (number_once numbers n) (cond (not there) (types ++ t ∷ []) types)) (sym (among numbers types n t h k)) (by (is_number_among numbers n)))
    where
      by : (there : Bool) → AreEndTypes values (cond there numbers (numbers ++ n ∷ [])) (cond (not there) (types ++ t ∷ []) types)
      by true = h
      by false = more values numbers types n t h k

  -- the type of a number, of ends or not
  value_noted : (numbers : List ℕ) (types : List ValType) (n : ℕ) (t : ValType) → AreEndTypes values numbers types → slice_get values n ≡ Some t
      → AreEndTypes values (with_number numbers (option_and_then (number_if_ends n) (slice_get values n))) (noted types t)
  value_noted numbers types n t h k =
      subst (λ (o : Option ValType). AreEndTypes values (with_number numbers (option_and_then (number_if_ends n) o)) (noted types t)) (sym k) (by (is_of_ends t) refl)
    where
      by : (ends : Bool) → is_of_ends t ≡ ends → AreEndTypes values (with_number numbers (cond ends (Some n) None)) (noted types t)
      by true e = once_more numbers types n t h k e
      by false e = subst (λ (ends : Bool). AreEndTypes values numbers (cond (ends && not (is_type_among types t)) (types ++ t ∷ []) types)) (sym e) h

-- a type that a component defines
pub type_noted : (t : Table) → AreApart t.values → (numbers : List ℕ) (types : List ValType) (ref : TypeRef) (closed : Closed) → AreEndTypes t.values numbers types → IsType t ref closed
    → AreEndTypes t.values (with_number numbers (type_number t.values ref)) (noted_type types closed)
type_noted t apart numbers types (type_ref.Value number) (Value v) h is = value_noted t.values apart numbers types number v h is
type_noted t apart numbers types (type_ref.Func ref) (Func type) h is = h
type_noted t apart numbers types (type_ref.Resource number) (Resource other) h is = h
type_noted t apart numbers types (type_ref.Instance ref) (Instance externs) h is = h
type_noted t apart numbers types ref closed h is = absurd is

-- the type that a core function of the Canonical ABI names
pub canon_noted : (t : TypeTable) → AreApart t.values → (numbers : List ℕ) (types : List ValType) (number : Option ℕ) (f : CanonFunc) → AreEndTypes t.values numbers types → HasCanonType t number f
    → AreEndTypes t.values (with_number numbers (canon_number f number)) (noted_canon types f)
canon_noted t apart numbers types number (canon_func.Lower l) h has = h
canon_noted t apart numbers types number (canon_func.Builtin b) h has = by b.kind number has
  where
    by : (kind : BuiltinKind) (number : Option ℕ) → MayBeAt t.values number (numbered_value kind) → AreEndTypes t.values (with_number numbers (kind_number kind number)) (noted_kind types kind)
    by (builtin.End kind element op) None k = absurd k
    by (builtin.End kind element op) (Some m) k = once_more t.values apart numbers types m (ends_type kind element) h k (ends_are kind element)
    by (builtin.Resource op resource) number k = h
    by (builtin.TaskReturn result options) number k = h
    by (builtin.Plain b) number k = h
    by (builtin.Context op slot) number k = h
    by (builtin.Wait op cancellable memory) number k = h

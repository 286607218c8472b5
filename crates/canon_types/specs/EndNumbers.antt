-- Types of streams and futures by their numbers among types of values, each once (Component Model, Explainer.md, "Type Definitions" and
-- "Canonical Built-ins").
use Rattle.std.specs.Prelude.{◌≡◌, ℕ, Bool, false, ◌||◌, ◌==◌, cond, List, [], ◌∷◌, ◌++◌, Option, Some, None}
use Rattle.std.specs.Option.{option_and_then}
use Rattle.std.specs.List.{slice_get, AllZip}
use Rattle.syntax_trees.specs.declared.types.ValType.{ValType}
use Rattle.comp_graph.specs.declared.graph.BuiltinKind.{BuiltinKind}
use Rattle.comp_graph.specs.declared.graph.BuiltinKind.TheVariants as builtin
use Rattle.comp_graph.specs.declared.graph.CanonFunc.{CanonFunc}
use Rattle.comp_graph.specs.declared.graph.CanonFunc.TheVariants as canon_func
use Rattle.link_spec.specs.Ends.{is_of_ends}
use Rattle.link_values.specs.declared.refs.TypeRef.{TypeRef}
use Rattle.link_values.specs.declared.refs.TypeRef.TheVariants as type_ref

-- These numbers are those of these types, in order.
abbrev pub AreEndTypes : List ValType → List ℕ → List ValType → Type 0
AreEndTypes values numbers types = AllZip (λ (n : ℕ) (t : ValType). slice_get values n ≡ Some t) numbers types

-- whether a list has a number
abbrev pub is_number_among : List ℕ → ℕ → Bool
is_number_among [] q = false
is_number_among (n ∷ numbers) q = (n == q) || is_number_among numbers q

-- one behind others, where it is not there
abbrev pub number_once : List ℕ → ℕ → List ℕ
number_once numbers n = cond (is_number_among numbers n) numbers (numbers ++ n ∷ [])

abbrev pub with_number : List ℕ → Option ℕ → List ℕ
with_number numbers None = numbers
with_number numbers (Some n) = number_once numbers n

-- the number of a type, where it is one of streams or futures
abbrev pub number_if_ends : ℕ → ValType → Option ℕ
number_if_ends number type = cond (is_of_ends type) (Some number) None

abbrev pub type_number : List ValType → TypeRef → Option ℕ
type_number values (type_ref.Value number) = option_and_then (number_if_ends number) (slice_get values number)
type_number values ref = None

-- the number of the type of the ends that a core function is a built-in of, of the number that it has
abbrev pub kind_number : BuiltinKind → Option ℕ → Option ℕ
kind_number (builtin.End kind element op) number = number
kind_number other number = None

abbrev pub canon_number : CanonFunc → Option ℕ → Option ℕ
canon_number (canon_func.Lower l) number = None
canon_number (canon_func.Builtin b) number = kind_number b.kind number

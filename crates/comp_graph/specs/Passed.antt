-- The types of what functions pass (Component Model, CanonicalABI.md, "Lifting and Lowering Values"), by their numbers among types of
-- values: arguments are passed as one tuple, and a result as it is.
use Rattle.std.specs.Prelude.{◌≡◌, ◌<◌, ℕ, List, [], ◌∷◌, length, map, Option, Some, None}
use Rattle.std.specs.List.{slice_get, AllZip, flat_map}
use Rattle.std.specs.Option.{option_map_or}
use Rattle.syntax_trees.specs.declared.types.ValType.{ValType}
use Rattle.syntax_trees.specs.declared.types.ValType.TheViews as val_type
use Rattle.syntax_trees.specs.declared.types.FuncType.{FuncType}
use Rattle.syntax_trees.specs.declared.exports.Export.{Export}
use Rattle.comp_graph.specs.declared.graph.CanonFunc.{CanonFunc}
use Rattle.comp_graph.specs.declared.func_types.NumberedFunc.{NumberedFunc}
use Rattle.comp_graph.specs.declared.func_types.PassedTypes.{PassedTypes}
use Rattle.comp_graph.specs.declared.graph.CanonFunc.TheVariants as canon_func
use Rattle.comp_graph.specs.Graph.{numbered_value}

-- the type of arguments
abbrev pub params_type : FuncType → ValType
params_type f = val_type.Tuple (map (λ p. p.val_type) f.params)

-- The number of a thing that may be absent: it is there exactly where the thing is.
abbrev pub MayBeAt : {A : Type 0} → List A → Option ℕ → Option A → Type 0
MayBeAt xs None None = Unit {0}
MayBeAt xs (Some number) (Some x) = slice_get xs number ≡ Some x
MayBeAt xs number x = ⊥

-- The numbers of a function type are those of the types of its arguments and of its result.
pub record IsNumbered (values : List ValType) (f : NumberedFunc) : Type 0 where
  pub params : slice_get values f.params ≡ Some (params_type f.func_type)
  pub returned : MayBeAt values f.returned f.func_type.result

abbrev pub AreNumbered : List ValType → List NumberedFunc → Type 0
AreNumbered values funcs = (n : ℕ) (f : NumberedFunc) → slice_get funcs n ≡ Some f → IsNumbered values f

-- These are the types of what a function of this type passes.
pub record ArePassed (types : PassedTypes) (f : FuncType) : Type 0 where
  pub params : types.params ≡ params_type f
  pub returned : types.returned ≡ f.result

-- The numbers are those of function types.
abbrev pub HaveNumbers : List FuncType → List ℕ → Type 0
HaveNumbers types numbers = (at n : ℕ) → slice_get numbers at ≡ Some n → n < length types

-- Types by their numbers: of functions, and of values.
pub record TypeTable : Type 0 where
  pub funcs : List FuncType
  pub values : List ValType

-- The number that a core function of the Canonical ABI has: of the type of the function that it calls, or of the result of a built-in,
-- or of the ends that it is of, where it has one.
abbrev pub HasCanonType : TypeTable → Option ℕ → CanonFunc → Type 0
HasCanonType types number (canon_func.Lower l) = MayBeAt types.funcs number (Some l.func_type)
HasCanonType types number (canon_func.Builtin b) = MayBeAt types.values number (numbered_value b.kind)

abbrev pub AreCanonTypes : TypeTable → List (Option ℕ) → List CanonFunc → Type 0
AreCanonTypes types numbers canons = AllZip (HasCanonType types) numbers canons

-- the numbers, among function types, of the types of exports
abbrev pub AreExportTypes : List FuncType → List ℕ → List Export → Type 0
AreExportTypes types numbers exports = AllZip (λ (n : ℕ) (e : Export). slice_get types n ≡ Some e.func_type) numbers exports

-- the types of these numbers
abbrev pub types_at : List ValType → List ℕ → List ValType
types_at values numbers = flat_map (λ n. option_map_or (λ t. t ∷ []) (slice_get values n) []) numbers

-- Types, where it is told apart whether they may hold a handle or the end of a stream or a future, and whether labels may be more than are
-- counted.
use mathlib.Core.Path.{fun_ext}
use Rattle.std.proofs.Common.{◌≡◌, ◌∙◌, ◌^◌, Bool, true, false, length, refl, ap}
use Rattle.std.specs.Prelude.{◌&&◌, ◌||◌, nat_lt, nat_le, IfSome}
use Rattle.std.specs.List.{AllByRecursion}
use Rattle.syntax_trees.specs.declared.types.ValType.{ValType, out-ValType, fold-ValType}
use Rattle.syntax_trees.specs.declared.types.ValType.TheOpen as F
use Rattle.syntax_trees.specs.declared.types.ValType.TheFolds.{map-ValType}
use Rattle.syntax_trees.specs.declared.types.Case.{Case}
use Rattle.syntax_trees.specs.declared.types.Field.{Field}
use Rattle.syntax_trees.specs.declared.types.Param.{Param}
use Rattle.syntax_trees.specs.declared.types.FuncType.{FuncType}
use Rattle.syntax_trees.specs.declared.exports.Export.{Export}
use Rattle.syntax_trees.proofs.Folds.{held, fold_case, fold_field}
use Rattle.comp_graph.specs.declared.graph.CanonFunc.{CanonFunc}
use Rattle.comp_graph.specs.Graph.{Graph}
use Rattle.graph_laws.specs.Counted.{called_type}
use Rattle.value_lift.proofs.Layers.{by_layer}
use Rattle.value_reader.specs.Writable.{all_true, true_if_some}
use Rattle.graph_laws.specs.Counted.{counted_case, counted_field, labelled_step, is_labelled}

abbrev pub Layer : Type 0
Layer = F.ValType-F ValType Case Field

-- A type, where this is known of its parts: with ends or without, with labels that are many or counted.
abbrev pub marked_step : Bool → Bool → F.ValType-F Bool Bool Bool → Bool
marked_step ends many (F.Record fields) = all_true fields
marked_step ends many (F.Variant cases) = (many || nat_lt (length cases) (2 ^ 32)) && all_true cases
marked_step ends many (F.List element) = element
marked_step ends many (F.Tuple parts) = all_true parts
marked_step ends many (F.Flags labels) = many || nat_le (length labels) 32
marked_step ends many (F.Enum labels) = many || nat_lt (length labels) (2 ^ 32)
marked_step ends many (F.Option part) = part
marked_step ends many (F.Result ok err) = true_if_some ok && true_if_some err
marked_step ends many (F.Own resource) = ends
marked_step ends many (F.Borrow resource) = ends
marked_step ends many (F.Stream element) = ends && true_if_some element
marked_step ends many (F.Future element) = ends && true_if_some element
marked_step ends many _ = true

abbrev pub is_marked : Bool → Bool → ValType → Bool
is_marked ends many = fold-ValType Bool Bool Bool (marked_step ends many) counted_case counted_field

-- So are the types of all that a function passes, and those of the functions of a graph.
pub record HasMarkedTypes (ends many : Bool) (type : FuncType) : Type 0 where
  pub params : AllByRecursion (λ (p : Param). is_marked ends many p.val_type ≡ true) type.params
  pub returned : IfSome type.result (λ t. is_marked ends many t ≡ true)

pub record HasMarkedFuncs (ends many : Bool) (g : Graph) : Type 0 where
  pub exports : AllByRecursion (λ (e : Export). HasMarkedTypes ends many e.func_type) g.exports
  pub canons : AllByRecursion (λ (f : CanonFunc). HasMarkedTypes ends many (called_type f)) g.canons

-- The test of a type by its outer layer.
abbrev pub marked_in : Bool → Bool → Layer → Bool
marked_in ends many y =
    marked_step ends many (map-ValType ValType Case Field Bool Bool Bool (is_marked ends many) (λ (c : Case). true_if_some (held (is_marked ends many) c.payload)) (λ (f : Field). is_marked ends many f.val_type) y)

pub marked_is : (ends many : Bool) (t : ValType) → is_marked ends many t ≡ marked_in ends many (out-ValType t)
marked_is ends many t =
    by_layer Bool Bool Bool (marked_step ends many) counted_case counted_field (λ (c : Case). true_if_some (held (is_marked ends many) c.payload)) (λ (f : Field). is_marked ends many f.val_type)
    (fold_case Bool Bool Bool (marked_step ends many) counted_case counted_field) (fold_field Bool Bool Bool (marked_step ends many) counted_case counted_field) t

-- With ends, and with labels that are counted.
labelled_same : (y : F.ValType-F Bool Bool Bool) → marked_step true false y ≡ labelled_step y
labelled_same F.Bool = refl
labelled_same F.S8 = refl
labelled_same F.U8 = refl
labelled_same F.S16 = refl
labelled_same F.U16 = refl
labelled_same F.S32 = refl
labelled_same F.U32 = refl
labelled_same F.S64 = refl
labelled_same F.U64 = refl
labelled_same F.Char = refl
labelled_same F.String = refl
labelled_same (F.Record fields) = refl
labelled_same (F.Variant cases) = refl
labelled_same (F.List element) = refl
labelled_same (F.Tuple parts) = refl
labelled_same (F.Flags labels) = refl
labelled_same (F.Enum labels) = refl
labelled_same (F.Option part) = refl
labelled_same (F.Result ok err) = refl
labelled_same (F.Own resource) = refl
labelled_same (F.Borrow resource) = refl
labelled_same (F.Stream element) = refl
labelled_same (F.Future element) = refl

pub marked_labelled : (t : ValType) → is_marked true false t ≡ is_labelled t
marked_labelled t = ap (λ (step : F.ValType-F Bool Bool Bool → Bool). fold-ValType Bool Bool Bool step counted_case counted_field t) (fun_ext labelled_same)

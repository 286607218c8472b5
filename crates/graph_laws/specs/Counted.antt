-- Types whose values functions pass, as they are read and linked (Component Model, Explainer.md, "Type Definitions"; Binary.md,
-- `defvaltype`): flags have at most 32 labels, and the cases of a variant and the labels of an enum are counted by 32 bits, also in what
-- passes in a stream or a future.
use Rattle.std.specs.Prelude.{◌≡◌, ◌^◌, ◌&&◌, nat_lt, nat_le, Bool, true, [], length, None}
use Rattle.std.specs.List.{AllByRecursion}
use Rattle.std.specs.Option.{IfSome}
use Rattle.syntax_trees.specs.declared.types.ValType.{ValType, fold-ValType}
use Rattle.syntax_trees.specs.declared.types.ValType.TheOpen.{ValType-F, Field-F, Case-F}
use Rattle.syntax_trees.specs.declared.types.Param.{Param}
use Rattle.syntax_trees.specs.declared.types.FuncType.{FuncType}
use Rattle.syntax_trees.specs.declared.exports.Export.{Export}
use Rattle.comp_graph.specs.declared.graph.CanonFunc.{CanonFunc}
use Rattle.comp_graph.specs.declared.graph.CanonFunc.TheVariants as canon_func
use Rattle.comp_graph.specs.Graph.{Graph}
use Rattle.value_reader.specs.Writable.{all_true, true_if_some}

abbrev pub counted_case : Case-F Bool Bool Bool → Bool
counted_case c = true_if_some c.payload

abbrev pub counted_field : Field-F Bool Bool Bool → Bool
counted_field f = f.val_type

-- the type of a function that is lowered; a built-in passes nothing
abbrev pub called_type : CanonFunc → FuncType
called_type (canon_func.Lower l) = l.func_type
called_type (canon_func.Builtin b) = record { params = []; result = None }

-- A type, where this is known of its parts: what passes in a stream or a future is so, too.
abbrev pub labelled_step : ValType-F Bool Bool Bool → Bool
labelled_step (ValType-F.Record fields) = all_true fields
labelled_step (ValType-F.Variant cases) = nat_lt (length cases) (2 ^ 32) && all_true cases
labelled_step (ValType-F.List element) = element
labelled_step (ValType-F.Tuple parts) = all_true parts
labelled_step (ValType-F.Flags labels) = nat_le (length labels) 32
labelled_step (ValType-F.Enum labels) = nat_lt (length labels) (2 ^ 32)
labelled_step (ValType-F.Option part) = part
labelled_step (ValType-F.Result ok err) = true_if_some ok && true_if_some err
labelled_step (ValType-F.Own resource) = true
labelled_step (ValType-F.Borrow resource) = true
labelled_step (ValType-F.Stream element) = true_if_some element
labelled_step (ValType-F.Future element) = true_if_some element
labelled_step _ = true

abbrev pub is_labelled : ValType → Bool
is_labelled = fold-ValType Bool Bool Bool labelled_step counted_case counted_field

pub record HasLabelledTypes (type : FuncType) : Type 0 where
  pub params : AllByRecursion (λ (p : Param). is_labelled p.val_type ≡ true) type.params
  pub returned : IfSome type.result (λ t. is_labelled t ≡ true)

pub record HasLabelledFuncs (g : Graph) : Type 0 where
  pub exports : AllByRecursion (λ (e : Export). HasLabelledTypes e.func_type) g.exports
  pub canons : AllByRecursion (λ (f : CanonFunc). HasLabelledTypes (called_type f)) g.canons

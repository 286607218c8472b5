-- A type of values, as it is written, is none of streams or futures in which borrowed handles pass, and no built-in passes one.
use Rattle.std.proofs.Common.{cond, ◌≡◌, ◌∙◌, Bool, true, false, List, refl, ap, Option, Some, None}
use Rattle.std.specs.Prelude.{IfSome}
use Rattle.std.specs.Option.{option_map, option_and_then}
use Rattle.syntax_trees.specs.declared.types.ValType.{ValType, out-ValType}
use Rattle.syntax_trees.specs.declared.types.ValType.TheOpen.{ValType-F}
use Rattle.syntax_trees.specs.declared.types.ValType.TheVariants as leaves
use Rattle.syntax_trees.specs.declared.types.ValType.TheViews as val_type
use Rattle.syntax_trees.specs.declared.types.ValType.TheViews.{outs-Bool, outs-S8, outs-U8, outs-S16, outs-U16, outs-S32, outs-U32, outs-S64, outs-U64, outs-Char, outs-String, outs-Record, outs-Variant, outs-List, outs-Tuple, outs-Flags, outs-Enum, outs-Option, outs-Result, outs-Own, outs-Borrow, outs-Stream, outs-Future}
use Rattle.syntax_trees.specs.declared.types.Case.{Case}
use Rattle.syntax_trees.specs.declared.types.Field.{Field}
use Rattle.laid_types.specs.Handles.{held_borrow}
use Rattle.builtin_kinds.specs.declared.EndKind.{EndKind}
use Rattle.builtin_kinds.specs.declared.EndKind.TheVariants as end_kind
use Rattle.comp_tree.specs.declared.types.PrimValType.{PrimValType}
use Rattle.comp_tree.specs.declared.types.PrimValType.TheVariants as prim
use Rattle.comp_tree.specs.declared.types.DefValType.{DefValType}
use Rattle.comp_tree.specs.declared.types.DefValType.TheVariants as written
use Rattle.comp_graph.specs.Closed.{Closed}
use Rattle.link_spec.specs.Lending.{lends_case, lends}
use Rattle.link_spec.specs.Builtins.{elements_in, elements_of}
use Rattle.link_spec.specs.ValueTypes.{primitive, close_val, close_held, without_borrow, close_passed, close_resource, close_all, close_field, close_case, is_well_made, close_parts, close_def}
use Rattle.link_spec.proofs.Holding.{if_weaker, if_mapped, if_each, if_cond}

-- What passes holds no borrowed handle.
pub passed_none : (o : Option (Option ValType)) → IfSome (option_and_then without_borrow o) (λ held. held_borrow held ≡ false)
passed_none None = tt
passed_none (Some held) = by_test (held_borrow held) refl
  where
    by_test : (b : Bool) → held_borrow held ≡ b → IfSome (cond b None (Some held)) (λ held. held_borrow held ≡ false)
    by_test true e = tt
    by_test false e = e

-- Types of values.
abbrev LendsNone : ValType → Type 0
LendsNone type = lends type ≡ false

mapped_lends : {A : Type 0} (f : A → ValType) (o : Option A) → ((x : A) → LendsNone (f x)) → IfSome (option_map f o) LendsNone
mapped_lends f None h = tt
mapped_lends f (Some x) h = h x

pub leaf_lends : (type : PrimValType) → LendsNone (primitive type)
leaf_lends prim.Bool = ap lends_case outs-Bool
leaf_lends prim.S8 = ap lends_case outs-S8
leaf_lends prim.U8 = ap lends_case outs-U8
leaf_lends prim.S16 = ap lends_case outs-S16
leaf_lends prim.U16 = ap lends_case outs-U16
leaf_lends prim.S32 = ap lends_case outs-S32
leaf_lends prim.U32 = ap lends_case outs-U32
leaf_lends prim.S64 = ap lends_case outs-S64
leaf_lends prim.U64 = ap lends_case outs-U64
leaf_lends prim.Char = ap lends_case outs-Char
leaf_lends prim.String = ap lends_case outs-String

result_lends : (err : Option (Option ValType)) (ok : Option ValType) → IfSome (option_map (λ err. val_type.Result ok err) err) LendsNone
result_lends err ok = mapped_lends (λ err. val_type.Result ok err) err (λ e. ap lends_case (outs-Result ok e))

parts_lend : (types : List (Option Closed)) (type : DefValType) → IfSome (close_parts types type) LendsNone
parts_lend types (written.Primitive type) = leaf_lends type
parts_lend types (written.Record fields) = mapped_lends val_type.Record (close_all (close_field types) fields) (λ x. ap lends_case (outs-Record x))
parts_lend types (written.Variant cases) = mapped_lends val_type.Variant (close_all (close_case types) cases) (λ x. ap lends_case (outs-Variant x))
parts_lend types (written.List element) = mapped_lends val_type.List (close_val types element) (λ x. ap lends_case (outs-List x))
parts_lend types (written.Tuple places) = mapped_lends val_type.Tuple (close_all (close_val types) places) (λ x. ap lends_case (outs-Tuple x))
parts_lend types (written.Flags labels) = ap lends_case (outs-Flags labels)
parts_lend types (written.Enum labels) = ap lends_case (outs-Enum labels)
parts_lend types (written.Option payload) = mapped_lends val_type.Option (close_val types payload) (λ x. ap lends_case (outs-Option x))
parts_lend types (written.Result ok err) =
    if_each (λ ok. option_map (λ err. val_type.Result ok err) (close_held types err)) LendsNone (λ ok. result_lends (close_held types err) ok) (close_held types ok)
parts_lend types (written.Own resource) = mapped_lends leaves.Own (close_resource types resource) (λ x. ap lends_case (outs-Own x))
parts_lend types (written.Borrow resource) = mapped_lends leaves.Borrow (close_resource types resource) (λ x. ap lends_case (outs-Borrow x))
parts_lend types (written.Stream element) =
    if_mapped val_type.Stream LendsNone (close_passed types element)
    (if_weaker (λ held. held_borrow held ≡ false) (λ held. LendsNone (val_type.Stream held)) (λ held h. ap lends_case (outs-Stream held) ∙ h) (close_passed types element) (passed_none (close_held types element)))
parts_lend types (written.Future element) =
    if_mapped val_type.Future LendsNone (close_passed types element)
    (if_weaker (λ held. held_borrow held ≡ false) (λ held. LendsNone (val_type.Future held)) (λ held h. ap lends_case (outs-Future held) ∙ h) (close_passed types element) (passed_none (close_held types element)))

pub def_lends : (types : List (Option Closed)) (type : DefValType) → IfSome (close_def types type) LendsNone
def_lends types type = if_cond LendsNone (is_well_made type) (close_parts types type) None (parts_lend types type) tt

-- What passes in a type of streams or futures.
shape_lends : (kind : EndKind) (shape : ValType-F ValType Case Field) → lends_case shape ≡ false → IfSome (elements_in kind shape) (λ element. held_borrow element ≡ false)
shape_lends end_kind.Stream (ValType-F.Stream element) h = h
shape_lends end_kind.Future (ValType-F.Future element) h = h
shape_lends kind shape h = tt

pub elements_lend : (kind : EndKind) (type : ValType) → LendsNone type → IfSome (elements_of kind type) (λ element. held_borrow element ≡ false)
elements_lend kind type h = shape_lends kind (out-ValType type) h

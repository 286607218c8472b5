-- References to closed types in which the numbers of resources are changed.
use Rattle.std.proofs.Common.{◌≡◌, ℕ, suc, ◌+◌, ◌*◌, true, false, refl, sym, subst, arith}
use Rattle.std.specs.Prelude.{nat_lt}
use Rattle.std.proofs.lemmas.Bool.Decides.{nat_tests}
use Rattle.syntax_trees.specs.declared.types.ValType.{ValType}
use Rattle.syntax_trees.specs.declared.types.FuncType.{FuncType}
use Rattle.comp_graph.specs.Closed.{Closed, Value, Func, Resource, Instance, Extern, OfFunc, OfType, OfInstance, Externs, names_in_func, names_in_externs, names_resource}
use Rattle.link_values.specs.Resources.{Change, renumbered, renumbered_func}
use Rattle.link_spec.specs.Brought.{moved, moved_extern, moved_externs}
use Rattle.link_spec.proofs.Unnamed.{FixesNone, func_kept, type_kept, externs_kept}
use Rattle.link_types.specs.Changes.{change_of}
use Rattle.link_values.specs.declared.changes.Change as told
use Rattle.link_values.specs.declared.changes.Change.TheVariants.{FurtherIn, BroughtBehind, FilledIn}
use Rattle.link_values.specs.declared.refs.FuncTypeRef.{FuncTypeRef}
use Rattle.link_values.specs.declared.refs.InstanceTypeRef.{InstanceTypeRef}
use Rattle.link_values.specs.declared.refs.TypeRef.{TypeRef}
use Rattle.link_values.specs.declared.refs.TypeRef.TheVariants as type_ref
use Rattle.link_values.specs.declared.refs.ExternRef.TheVariants as extern_ref
use Rattle.link_types.specs.Table.{Table, IsValue, IsFunc, IsType, IsExtern, IsInstanceType}

-- No change is one of 0.
brought_above : (n : ℕ) → nat_lt 0 (2147483648 + n) ≡ true
brought_above n = grind (arith, nat_tests)

pub none_fixed : (change : told.Change) → FixesNone (change_of change)
none_fixed (FurtherIn by) depth = rw (brought_above (depth * 1048576)) refl
none_fixed (BroughtBehind count) depth = rw (brought_above (depth * 1048576)) refl
none_fixed (FilledIn given) depth = rw (brought_above (depth * 1048576)) refl

-- What names no resource is as it was.
pub func_as_it_is : (t : Table) (change : told.Change) (depth : ℕ) (ref : FuncTypeRef) (type : FuncType) → names_in_func type ≡ false → IsFunc t ref type → IsFunc t ref (renumbered_func (change_of change depth) type)
func_as_it_is t change depth ref type h k = subst (IsFunc t ref) (sym (func_kept (change_of change depth) (none_fixed change depth) type h)) k

pub type_as_it_is : (t : Table) (change : told.Change) (depth : ℕ) (ref : TypeRef) (type : Closed) → names_resource type ≡ false → IsType t ref type → IsType t ref (moved (change_of change) depth type)
type_as_it_is t change depth ref type h k = subst (IsType t ref) (sym (type_kept (change_of change) (none_fixed change) depth type h)) k

pub instance_as_it_is : (t : Table) (change : told.Change) (depth : ℕ) (ref : InstanceTypeRef) (externs : Externs) → names_in_externs externs ≡ false → IsInstanceType t ref externs → IsInstanceType t ref (moved_externs (change_of change) depth externs)
instance_as_it_is t change depth ref externs h k = subst (IsInstanceType t ref) (sym (externs_kept (change_of change) (none_fixed change) depth externs h)) k

-- What is made for each form of a type, or of what an export is.
module _ (t u : Table) (f : Change) (depth : ℕ) where
  pub value_moved : (number new : ℕ) → ((type : ValType) → IsValue t number type → IsValue u new (renumbered (f depth) type))
      → (type : Closed) → IsType t (type_ref.Value number) type → IsType u (type_ref.Value new) (moved f depth type)
  value_moved number new h (Value type) k = h type k
  value_moved number new h (Func type) k = absurd k
  value_moved number new h (Resource other) k = absurd k
  value_moved number new h (Instance externs) k = absurd k

  pub func_moved : (ref new : FuncTypeRef) → ((type : FuncType) → IsFunc t ref type → IsFunc u new (renumbered_func (f depth) type))
      → (type : Closed) → IsType t (type_ref.Func ref) type → IsType u (type_ref.Func new) (moved f depth type)
  func_moved ref new h (Value type) k = absurd k
  func_moved ref new h (Func type) k = h type k
  func_moved ref new h (Resource other) k = absurd k
  func_moved ref new h (Instance externs) k = absurd k

  pub resource_moved : (number new : ℕ) → new ≡ f depth number → (type : Closed) → IsType t (type_ref.Resource number) type → IsType u (type_ref.Resource new) (moved f depth type)
  resource_moved number new h (Value type) k = absurd k
  resource_moved number new h (Func type) k = absurd k
  resource_moved number new h (Resource other) k = rw (h, k) refl
  resource_moved number new h (Instance externs) k = absurd k

  pub instance_moved : (ref new : InstanceTypeRef) → ((externs : Externs) → IsInstanceType t ref externs → IsInstanceType u new (moved_externs f (suc depth) externs))
      → (type : Closed) → IsType t (type_ref.Instance ref) type → IsType u (type_ref.Instance new) (moved f depth type)
  instance_moved ref new h (Value type) k = absurd k
  instance_moved ref new h (Func type) k = absurd k
  instance_moved ref new h (Resource other) k = absurd k
  instance_moved ref new h (Instance externs) k = h externs k

  pub func_export_moved : (ref new : FuncTypeRef) → ((type : FuncType) → IsFunc t ref type → IsFunc u new (renumbered_func (f depth) type))
      → (extern : Extern) → IsExtern t (extern_ref.Func ref) extern → IsExtern u (extern_ref.Func new) (moved_extern f depth extern)
  func_export_moved ref new h (OfFunc type) k = h type k
  func_export_moved ref new h (OfType type) k = absurd k
  func_export_moved ref new h (OfInstance externs) k = absurd k

  pub type_export_moved : (ref new : TypeRef) → ((type : Closed) → IsType t ref type → IsType u new (moved f depth type))
      → (extern : Extern) → IsExtern t (extern_ref.Type ref) extern → IsExtern u (extern_ref.Type new) (moved_extern f depth extern)
  type_export_moved ref new h (OfFunc type) k = absurd k
  type_export_moved ref new h (OfType type) k = h type k
  type_export_moved ref new h (OfInstance externs) k = absurd k

  pub instance_export_moved : (ref new : InstanceTypeRef) → ((externs : Externs) → IsInstanceType t ref externs → IsInstanceType u new (moved_externs f depth externs))
      → (extern : Extern) → IsExtern t (extern_ref.Instance ref) extern → IsExtern u (extern_ref.Instance new) (moved_extern f depth extern)
  instance_export_moved ref new h (OfFunc type) k = absurd k
  instance_export_moved ref new h (OfType type) k = absurd k
  instance_export_moved ref new h (OfInstance externs) k = h externs k

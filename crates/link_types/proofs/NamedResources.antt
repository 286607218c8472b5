-- What references tell of the types that they stand for: whether they name a resource.
use Rattle.std.proofs.Common.{◌≡◌, ℕ, Bool, true, nat_lt, refl}
use Rattle.syntax_trees.specs.declared.types.ValType.{ValType}
use Rattle.syntax_trees.specs.declared.types.FuncType.{FuncType}
use Rattle.laid_types.specs.Handles.{top_resource}
use Rattle.comp_graph.specs.Closed.{Closed, Value, Func, Resource, Instance, Extern, OfFunc, OfType, OfInstance, names_in_func, names_resource, names_in_extern}
use Rattle.link_values.specs.declared.refs.FuncTypeRef.{FuncTypeRef}
use Rattle.link_values.specs.declared.refs.InstanceTypeRef.{InstanceTypeRef}
use Rattle.link_values.specs.declared.refs.TypeRef.{TypeRef}
use Rattle.link_values.specs.declared.refs.TypeRef.TheVariants as type_ref
use Rattle.link_values.specs.declared.refs.ExternRef.TheVariants as extern_ref
use Rattle.link_types.specs.Table.{Table, IsValue, IsFunc, IsType, IsExtern}

-- whether a type of values names a resource
abbrev pub names_any : ValType → Bool
names_any type = nat_lt 0 (top_resource type)

-- A type.
pub value_named : (t : Table) (number : ℕ) (b : Bool) → ((type : ValType) → IsValue t number type → b ≡ nat_lt 0 (top_resource type)) → (closed : Closed) → IsType t (type_ref.Value number) closed → b ≡ names_resource closed
value_named t number b h (Value type) k = h type k
value_named t number b h (Func type) k = absurd k
value_named t number b h (Resource other) k = absurd k
value_named t number b h (Instance externs) k = absurd k

pub func_named : (t : Table) (ref : FuncTypeRef) (b : Bool) → ((type : FuncType) → IsFunc t ref type → b ≡ names_in_func type) → (closed : Closed) → IsType t (type_ref.Func ref) closed → b ≡ names_resource closed
func_named t ref b h (Value type) k = absurd k
func_named t ref b h (Func type) k = h type k
func_named t ref b h (Resource other) k = absurd k
func_named t ref b h (Instance externs) k = absurd k

pub resource_named : (t : Table) (number : ℕ) (closed : Closed) → IsType t (type_ref.Resource number) closed → true ≡ names_resource closed
resource_named t number (Value type) k = absurd k
resource_named t number (Func type) k = absurd k
resource_named t number (Resource other) k = refl
resource_named t number (Instance externs) k = absurd k

pub instance_named : (t : Table) (ref : InstanceTypeRef) (closed : Closed) → IsType t (type_ref.Instance ref) closed → ref.names_resource ≡ names_resource closed
instance_named t ref (Value type) k = absurd k
instance_named t ref (Func type) k = absurd k
instance_named t ref (Resource other) k = absurd k
instance_named t ref (Instance externs) k = k.2

-- An export.
pub func_named_in : (t : Table) (ref : FuncTypeRef) (b : Bool) → ((type : FuncType) → IsFunc t ref type → b ≡ names_in_func type) → (extern : Extern) → IsExtern t (extern_ref.Func ref) extern → b ≡ names_in_extern extern
func_named_in t ref b h (OfFunc type) k = h type k
func_named_in t ref b h (OfType type) k = absurd k
func_named_in t ref b h (OfInstance externs) k = absurd k

pub type_named_in : (t : Table) (ref : TypeRef) (b : Bool) → ((type : Closed) → IsType t ref type → b ≡ names_resource type) → (extern : Extern) → IsExtern t (extern_ref.Type ref) extern → b ≡ names_in_extern extern
type_named_in t ref b h (OfFunc type) k = absurd k
type_named_in t ref b h (OfType type) k = h type k
type_named_in t ref b h (OfInstance externs) k = absurd k

pub instance_named_in : (t : Table) (ref : InstanceTypeRef) (extern : Extern) → IsExtern t (extern_ref.Instance ref) extern → ref.names_resource ≡ names_in_extern extern
instance_named_in t ref (OfFunc type) k = absurd k
instance_named_in t ref (OfType type) k = absurd k
instance_named_in t ref (OfInstance externs) k = k.2

-- How many resources are brought, export by export.
use Rattle.std.proofs.Common.{◌≡◌, ◌≤◌, ◌∙◌, ℕ, ◌+◌, false, List, length, drop, ap, Option, Some}
use Rattle.std.specs.List.{slice_get}
use Rattle.comp_graph.specs.Closed.{Closed, Extern, OfFunc, OfType, OfInstance, Externs, names_in_externs}
use Rattle.link_spec.specs.Definitions.{Definition, Exports, export_named}
use Rattle.link_spec.specs.Brought.{exports_given, found_type, found_for, all_found_for}
use Rattle.link_spec.proofs.InOrder.{found_over}
use Rattle.link_spec.proofs.Unnamed.{none_found_for}
use Rattle.link_values.specs.declared.refs.InstanceTypeRef.{InstanceTypeRef}
use Rattle.link_values.specs.declared.refs.TypeRef.{TypeRef}
use Rattle.link_values.specs.declared.refs.ExternRef.TheVariants as extern_ref
use Rattle.link_types.specs.Table.{Table, IsType, IsExtern, IsInstanceType, in_order}
use Rattle.link_instance_types.proofs.AskedFrom.{drop_at, none_left, found_listed}

-- exports that name no resource bring none
pub none_counted : (given : Exports) (found : List ℕ) (externs : Externs) (count : ℕ) → names_in_externs externs ≡ false → length found ≡ count → length (all_found_for given found externs) ≡ count
none_counted given found externs count h k = ap length (none_found_for given found externs h) ∙ k

-- an export that is a type, or an instance
pub type_counted : (t : Table) (ref : TypeRef) (count all : ℕ) → ((t : Table) (given : Option Definition) (found : List ℕ) (type : Closed) → IsType t ref type → length found ≡ count → length (found_type given found type) ≡ all)
    → (given : Option Definition) (found : List ℕ) (extern : Extern) → IsExtern t (extern_ref.Type ref) extern → length found ≡ count → length (found_for given found extern) ≡ all
type_counted t ref count all h given found (OfFunc type) k = absurd k
type_counted t ref count all h given found (OfType type) k = h t given found type k
type_counted t ref count all h given found (OfInstance externs) k = absurd k

pub instance_counted : (t : Table) (ref : InstanceTypeRef) (count all : ℕ) → ((given : Exports) (found : List ℕ) (externs : Externs) → IsInstanceType t ref externs → length found ≡ count → length (all_found_for given found externs) ≡ all)
    → (given : Option Definition) (found : List ℕ) (extern : Extern) → IsExtern t (extern_ref.Instance ref) extern → length found ≡ count → length (found_for given found extern) ≡ all
instance_counted t ref count all h given found (OfFunc type) k = absurd k
instance_counted t ref count all h given found (OfType type) k = absurd k
instance_counted t ref count all h given found (OfInstance externs) k = h (exports_given given) found externs k

-- what is found so far, and what is left
abbrev pub IsCounted : Exports → List ℕ → Externs → ℕ → ℕ → Type 0
IsCounted given found externs at all =
    (now : List ℕ) × (length now ≡ all) × (found_over given found (in_order externs) ≡ found_over given now (drop at (in_order externs)))

-- one export more
pub counted_next : (given : Exports) (found : List ℕ) (externs : Externs) (at count all : ℕ) (e : List ℕ × Extern) → slice_get (in_order externs) at ≡ Some e → IsCounted given found externs at count
    → ((d : Option Definition) (found : List ℕ) → length found ≡ count → length (found_for d found e.1) ≡ all) → IsCounted given found externs (at + 1) all
counted_next given found externs at count all e is (now, long, same) h = (
  found_for (export_named e.0 given) now e.1,
  h (export_named e.0 given) now long,
  same ∙ ap (found_over given now) (drop_at (in_order externs) at e is),
)

-- all
pub all_counted : (given : Exports) (found : List ℕ) (externs : Externs) (count at all : ℕ) → count ≡ length (in_order externs) → count ≤ at → IsCounted given found externs at all → length (all_found_for given found externs) ≡ all
all_counted given found externs count at all is past (now, long, same) =
    ap length (found_listed given found externs ∙ same ∙ ap (found_over given now) (none_left externs count at is past)) ∙ long

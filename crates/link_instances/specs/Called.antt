-- The functions among exports (Component Model, Explainer.md, "Import and Export Definitions"), and what is listed of those of
-- instances.
use Rattle.std.specs.Prelude.{◌≡◌, ℕ, List, [], ◌∷◌, ◌++◌, Option, Some}
use Rattle.std.specs.List.{AllZip, flat_map}
use Rattle.std.specs.Option.{option_map, option_to_list}
use Rattle.std.specs.declared.cmp.Ordering.{Ordering}
use Rattle.std.specs.BTreeMap.{get}
use Rattle.link_spec.specs.Definitions.{Lifted, Definition, AFunc, AType, AComponent, AnInstance, AModule, Exports}
use Rattle.link_spec.specs.Linked.{Callable}
use Rattle.link_types.specs.Table.{Table, IsName}
use Rattle.link_instances.specs.declared.references.LiftedRef.{LiftedRef}
use Rattle.link_instances.specs.declared.references.InstanceRef.{InstanceRef}
use Rattle.link_instances.specs.declared.references.DefinitionRef.{DefinitionRef}
use Rattle.link_instances.specs.declared.instances.Instances.{Instances}
use Rattle.link_instances.specs.contracts.references.InstanceRefOrd.TheImpl as order
use Rattle.link_instances.specs.References.{World, IsInstance, IsLifted, listed, func_ref}
use Rattle.link_instances.specs.Instances.{AreInstances}
use Rattle.link_instances.specs.declared.func_lists.FuncLists.{FuncLists}

-- an export that is a function, under its name
abbrev pub func_of : List ℕ × Definition → List (List ℕ × Lifted)
func_of (name, AFunc f) = (name, f) ∷ []
func_of (name, AType type) = []
func_of (name, AComponent c) = []
func_of (name, AnInstance inner) = []
func_of (name, AModule m) = []

-- the functions among exports, in order
abbrev pub funcs_of : Exports → List (List ℕ × Lifted)
funcs_of exports = flat_map func_of (listed exports)

-- a function behind a front, as it can be called
abbrev pub named_behind : List ℕ → List ℕ × Lifted → List Callable
named_behind front e = record { name = front ++ e.0; func = e.1 } ∷ []

-- references to functions, under the numbers of their names
abbrev pub func_entry : ℕ × DefinitionRef → Option (ℕ × LiftedRef)
func_entry entry = option_map (λ (f : LiftedRef). (entry.0, f)) (func_ref entry.1)

abbrev pub func_entries : List (ℕ × DefinitionRef) → List (ℕ × LiftedRef)
func_entries entries = flat_map (λ (entry : ℕ × DefinitionRef). option_to_list (func_entry entry)) entries

-- They stand for the functions among exports.
abbrev pub IsFuncEntry : Table → ℕ × LiftedRef → List ℕ × Lifted → Type 0
IsFuncEntry t entry e = IsName t entry.0 e.0 × IsLifted t entry.1 e.1

abbrev pub AreFuncs : Table → List (ℕ × LiftedRef) → Exports → Type 0
AreFuncs t entries exports = AllZip (IsFuncEntry t) entries (funcs_of exports)

-- the order of instances, by which they are looked up
abbrev pub instance_cmp : InstanceRef → InstanceRef → Ordering
instance_cmp = (order.ghosts).cmp

-- what is listed for an instance
abbrev pub listed_at : FuncLists → InstanceRef → Option (List (ℕ × LiftedRef))
listed_at lists i = get instance_cmp lists.lists i

-- What is listed for an instance are the functions among its exports.
abbrev pub AreLists : Table → Instances → FuncLists → Type 0
AreLists t instances lists =
    (i : InstanceRef) (entries : List (ℕ × LiftedRef)) → listed_at lists i ≡ Some entries
    → (w : World) (given : Exports) → AreInstances t w instances → IsInstance t w i given → AreFuncs t entries given

-- Types of resources that a component defines (Component Model, Explainer.md, "Type Definitions": `resourcetype`; "Canonical Built-ins").
-- Each instance of the component makes one of its own, which is told from all others. Its destructor is a core function that takes what a
-- handle represents, and gives nothing.
use Rattle.std.specs.Prelude.{◌≡◌, ◌==◌, ℕ, zero, suc, Bool, true, List, [], ◌∷◌, ◌++◌, length, set, Option, Some, None}
use Rattle.std.specs.Option.{MatchOption}
use Rattle.std.specs.List.{slice_get}
use Rattle.builtin_kinds.specs.declared.ResourceOp.{ResourceOp}
use Rattle.builtin_kinds.specs.declared.ResourceOp.TheVariants as resource_op
use Rattle.comp_tree.specs.declared.types.DefType.TheOpen.{DefType-F}
use Rattle.comp_graph.specs.CoreItems.{CoreItem, core_func_of}
use Rattle.comp_graph.specs.Closed.{Resource}
use Rattle.comp_graph.specs.Needs.{destructor_type}
use Rattle.comp_graph.specs.declared.graph.FuncRef.{FuncRef}
use Rattle.comp_graph.specs.declared.graph.Resource as defined
use Rattle.link_spec.specs.declared.fault.LinkWhy.{LinkWhy}
use Rattle.link_spec.specs.declared.fault.LinkWhy.TheVariants as why
use Rattle.link_spec.specs.Definitions.{AType}
use Rattle.link_spec.specs.Canons.{IsOfCoreType}
use Rattle.link_spec.specs.Spaces.{Spaces, Linking, with_definition}

-- The index of the destructor, if there is one, where a type of resources is written.
abbrev pub resource_written : {A B : Type 0} → DefType-F A B → Option (Option ℕ)
resource_written (DefType-F.Resource destructor) = Some destructor
resource_written other = None

-- A destructor's index that is not there, or a core function that is none such.
abbrev pub resource_has : Spaces → Option ℕ → LinkWhy → Type 0
resource_has s (Some f) why.Index = slice_get s.core_funcs f ≡ None
resource_has s (Some f) why.Canon = MatchOption (slice_get s.core_funcs f) ⊥ (λ item. IsOfCoreType destructor_type item → ⊥)
resource_has s destructor why = ⊥

-- One resource more, which the component instance of a number defines.
abbrev pub with_resource : Linking → ℕ → Spaces → Option FuncRef → Linking
with_resource l n s destructor = record {
  scopes = set l.scopes n (with_definition s (AType (Resource (suc (length l.resources)))));
  cores = l.cores;
  canons = l.canons;
  resources = l.resources ++ record { instance = n; destructor = destructor } ∷ [];
  plan = l.plan;
  end_types = l.end_types;
  has_room = l.has_room;
}

abbrev pub resource_makes : Linking → ℕ → Spaces → Option ℕ → Linking → Type 0
resource_makes l n s None new = new ≡ with_resource l n s None
resource_makes l n s (Some f) new =
    (item : CoreItem) × (core : FuncRef) × (slice_get s.core_funcs f ≡ Some item) × (core_func_of item ≡ Some core)
    × IsOfCoreType destructor_type item × (new ≡ with_resource l n s (Some core))

-- the resource of a number, counted from 1
abbrev pub resource_numbered : List defined.Resource → ℕ → Option defined.Resource
resource_numbered resources zero = None
resource_numbered resources (suc place) = slice_get resources place

-- Whether a resource serves a built-in of the component instance of a number. Handles of it are made, and what they represent is told, by
-- the component instance alone that defines it; each one drops them.
abbrev pub resource_serves : ℕ → ResourceOp → defined.Resource → Bool
resource_serves n resource_op.New resource = resource.instance == n
resource_serves n resource_op.Rep resource = resource.instance == n
resource_serves n resource_op.Drop resource = true

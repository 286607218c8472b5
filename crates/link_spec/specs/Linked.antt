-- Linking (Component Model, Explainer.md, "Instance Definitions"). The items of a component are linked in file order, and those
-- of a component that is instantiated where it is instantiated, in an instance of their own. A component has a graph, or a
-- first item that is refused.
use Rattle.std.specs.Prelude.{◌≡◌, ◌<◌, ℕ, true, List, [], ◌∷◌, ◌++◌, length, map, Option, Some, None, codes}
use Rattle.std.specs.List.{slice_get}
use Rattle.syntax_trees.specs.Names.{AreDistinct}
use Rattle.ca_base.specs.declared.placed.Placed.{Placed}
use Rattle.syntax_trees.specs.declared.exports.Export.{Export}
use Rattle.comp_graph.specs.declared.graph.Lift.{Lift}
use Rattle.comp_graph.specs.Graph.{Graph}
use Rattle.comp_tree.specs.declared.instances.NamedDefinition.{NamedDefinition}
use Rattle.comp_tree.specs.declared.instances.Instance.TheVariants.{Instantiate}
use Rattle.comp_tree.specs.declared.items.Item.{Item, out-Item}
use Rattle.comp_tree.specs.declared.items.Item.TheOpen.{Item-F}
use Rattle.comp_tree.specs.declared.items.Component.{Component}
use Rattle.link_spec.specs.declared.fault.LinkWhy.{LinkWhy}
use Rattle.link_spec.specs.declared.fault.LinkWhy.TheVariants as why
use Rattle.link_spec.specs.declared.fault.LinkFault.{LinkFault}
use Rattle.link_spec.specs.Definitions.{Lifted, Closure, Definition, AFunc, AnInstance, Exports, EmptyInstance, WithExport}
use Rattle.link_spec.specs.Spaces.{Spaces, new_spaces, Begin, Linking, with_definition, with_spaces}
use Rattle.link_spec.specs.Items.{instance_limit, AreNamed, item_has, item_makes}

-- The order of the reasons at one item.
abbrev pub rank : LinkWhy → ℕ
rank why.RootImport = 0
rank why.Index = 1
rank (why.Missing name) = 2
rank why.Typing = 3
rank why.Canon = 4
rank why.Limit = 5

-- the first reason that an item has
pub record IsFirst (l : Linking) (n : ℕ) (s : Spaces) (item : Item) (w : LinkWhy) : Type 0 where
  pub has : item_has l n s item w
  pub first : (earlier : LinkWhy) → rank earlier < rank w → item_has l n s item earlier → ⊥

-- An item that instantiates a component with arguments, and has no reason against it.
pub record Begins (l : Linking) (n : ℕ) (s : Spaces) (item : Item) (c : Closure) (arguments : Exports) : Type 0 where
  pub index : ℕ
  pub named : List NamedDefinition
  pub is : out-Item item ≡ Item-F.Instance (Instantiate index named)
  pub component : slice_get s.components index ≡ Some c
  pub given : AreNamed s EmptyInstance named arguments
  pub distinct : AreDistinct (map (λ (d : NamedDefinition). d.name) named)
  pub few : length l.scopes < instance_limit

-- one component instance more, which begins
abbrev pub begun : Linking → Closure → Exports → Linking
begun l c arguments = record {
  scopes = l.scopes ++ new_spaces (Some arguments) c.around ∷ [];
  cores = l.cores;
  canons = l.canons;
  resources = l.resources;
  plan = l.plan ++ Begin (length l.scopes) ∷ [];
  end_types = l.end_types;
  has_room = l.has_room;
}

-- the exports of a component instance
abbrev pub exports_or : Option Spaces → Exports
exports_or None = EmptyInstance
exports_or (Some s) = s.exports

abbrev pub exports_at : Linking → ℕ → Exports
exports_at l n = exports_or (slice_get l.scopes n)

-- the instance of a component is one more of the component instance that makes it
abbrev pub with_instance : Linking → ℕ → Spaces → ℕ → Linking
with_instance l n s instance = with_spaces l n (with_definition s (AnInstance (exports_at l instance)))

mutual
  -- What an item of a component instance leads to. It makes something there; or it instantiates a component, whose items lead to all
  -- that its instance makes, and then the instance stands there.
  pub data Leads : Linking → ℕ → Spaces → Placed Item → Linking → Type 0 where
    leads_by_making : (l next : Linking) (n : ℕ) (s : Spaces) (placed : Placed Item) → item_makes l n s placed.item next → Leads l n s placed next
    leads_by_instance : (l inner : Linking) (n : ℕ) (s : Spaces) (c : Closure) (arguments : Exports) (placed : Placed Item)
        → Begins l n s placed.item c arguments → Links (begun l c arguments) (length l.scopes) c.items inner
        → Leads l n s placed (with_instance inner n s (length l.scopes))

  -- These items have a meaning in a component instance, one behind the other, and lead from one linking to another.
  pub data Links : Linking → ℕ → List (Placed Item) → Linking → Type 0 where
    no_items : (l : Linking) (n : ℕ) → Links l n [] l
    item_links : (l next last : Linking) (n : ℕ) (s : Spaces) (placed : Placed Item) (items : List (Placed Item))
        → slice_get l.scopes n ≡ Some s → Leads l n s placed next → Links next n items last
        → Links l n (placed ∷ items) last

-- The first of these items that has a reason, and its first reason. It is the first of these, or one of the component that the first
-- one instantiates, or one behind it.
pub data IsRefusedAt : Linking → ℕ → List (Placed Item) → LinkFault → Type 0 where
  refused_here : (l : Linking) (n : ℕ) (s : Spaces) (placed : Placed Item) (items : List (Placed Item)) (w : LinkWhy)
      → slice_get l.scopes n ≡ Some s → IsFirst l n s placed.item w
      → IsRefusedAt l n (placed ∷ items) (record { place = placed.place; why = w })
  refused_inside : (l : Linking) (n : ℕ) (s : Spaces) (c : Closure) (arguments : Exports) (placed : Placed Item) (items : List (Placed Item)) (fault : LinkFault)
      → slice_get l.scopes n ≡ Some s → Begins l n s placed.item c arguments
      → IsRefusedAt (begun l c arguments) (length l.scopes) c.items fault
      → IsRefusedAt l n (placed ∷ items) fault
  refused_later : (l next : Linking) (n : ℕ) (s : Spaces) (placed : Placed Item) (items : List (Placed Item)) (fault : LinkFault)
      → slice_get l.scopes n ≡ Some s → Leads l n s placed next → IsRefusedAt next n items fault
      → IsRefusedAt l n (placed ∷ items) fault

-- the root begins
abbrev pub root_begun : Linking
root_begun = record { scopes = new_spaces None [] ∷ []; cores = []; canons = []; resources = []; plan = Begin 0 ∷ []; end_types = []; has_room = true }

-- A function that can be called from outside, under its written name.
pub record Callable : Type 0 where
  pub name : List ℕ
  pub func : Lifted

-- a function under its name, where a definition is one
abbrev pub func_called : List ℕ → Definition → List Callable
func_called name (AFunc f) = record { name = name; func = f } ∷ []
func_called name d = []

-- that of an export of an instance, behind a front
abbrev pub func_behind : List ℕ → List ℕ × Definition → List Callable
func_behind front e = func_called (front ++ e.0) e.1

abbrev pub funcs_behind : List ℕ → Exports → List Callable
funcs_behind front EmptyInstance = []
funcs_behind front (WithExport others name d) = funcs_behind front others ++ func_behind front (name, d)

-- the functions of an export of the root: itself, or those of an instance under its name and a `#`
abbrev pub called : List ℕ × Definition → List Callable
called (name, AnInstance inner) = funcs_behind (name ++ codes "#") inner
called (name, d) = func_called name d

abbrev pub callables : Exports → List Callable
callables EmptyInstance = []
callables (WithExport others name d) = callables others ++ called (name, d)

-- What a component is linked to: what is made, in file order, the functions that can be called, and the types of streams and futures that
-- components define and built-ins name.
abbrev pub export_of : Callable → Export
export_of c = record { name = c.name; func_type = c.func.func_type }

abbrev pub lift_of : Callable → Lift
lift_of c = record { instance = c.func.instance; core = c.func.core; options = c.func.options }

abbrev pub graph_of : Linking → Graph
graph_of l = record {
  plan = l.plan;
  instance_count = length l.scopes;
  cores = l.cores;
  canons = l.canons;
  resources = l.resources;
  exports = map export_of (callables (exports_at l 0));
  lifts = map lift_of (callables (exports_at l 0));
  end_types = l.end_types;
}

-- the component is linked to the graph; it is refused at this place, for this reason
abbrev pub IsLinked : Component → Graph → Type 0
IsLinked c g = (l : Linking) × Links root_begun 0 c.items l × (g ≡ graph_of l)

abbrev pub IsLinkRefused : Component → LinkFault → Type 0
IsLinkRefused c fault = IsRefusedAt root_begun 0 c.items fault

-- There are numbers for all resources that the types of instances bring to which a component leads.
abbrev pub HasRoom : Component → Type 0
HasRoom c = (l : Linking) × Links root_begun 0 c.items l × (l.has_room ≡ true)

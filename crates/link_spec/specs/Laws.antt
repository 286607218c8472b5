-- What holds of all linkings: an item makes one thing or has a reason, and not both; items lead to one linking, or one of them
-- is refused, for one reason; instances stay few; and graphs are sound.
use Rattle.std.specs.Prelude.{◌≡◌, ◌≤◌, ◌↔◌, ◌⊎◌, ℕ, true, List, [], length, Ok, Err}
use Rattle.std.specs.List.{AllByRecursion, AllZip}
use Rattle.syntax_trees.specs.Names.{AreDistinct}
use Rattle.ca_base.specs.declared.placed.Placed.{Placed}
use Rattle.syntax_trees.specs.declared.types.FuncType.{FuncType}
use Rattle.syntax_trees.specs.declared.exports.Export.{Export}
use Rattle.comp_graph.specs.declared.graph.CanonFunc.{CanonFunc}
use Rattle.comp_graph.specs.declared.graph.CanonFunc.TheVariants as canon_func
use Rattle.comp_graph.specs.Graph.{Graph, CoreMake, names, IsLiftThere, AreImported, AreMade}
use Rattle.comp_tree.specs.declared.items.Item.{Item}
use Rattle.comp_tree.specs.declared.items.Component.{Component}
use Rattle.link_spec.specs.declared.fault.LinkWhy.{LinkWhy}
use Rattle.link_spec.specs.declared.fault.LinkWhy.TheVariants.{Missing}
use Rattle.link_spec.specs.declared.fault.LinkFault.{LinkFault}
use Rattle.comp_graph.specs.Closed.{Closed, Extern}
use Rattle.link_spec.specs.Definitions.{Closure, Definition, Exports, export_names, Fits}
use Rattle.link_spec.specs.Spaces.{Spaces, Linking}
use Rattle.link_spec.specs.Items.{instance_limit, item_has, item_makes}
use Rattle.link_spec.specs.Linked.{IsFirst, Begins, exports_at, Links, IsRefusedAt, root_begun, graph_of, IsLinked, IsLinkRefused}
use Rattle.link_spec.specs.Distinct.{HasDistinctLabels, HasNoHash}
use Rattle.link_spec.specs.Shallow.{HasShallowTypes}
use Rattle.link_spec.specs.Lending.{GivesNoBorrow, PassesNoBorrow}
use Rattle.link_spec.specs.Standing.{StandsIn}
use Rattle.link_spec.specs.Same.{same_func, same_closed}
use Rattle.link_spec.specs.Tests.{fits}
use Rattle.link_spec.specs.Computed.{Outcome, Makes, Starts, item_outcome, linked}

-- An item that makes something has no reason against it, and does not begin an instance; nor has one that begins an instance.
abbrev pub MakesExcludesReasons : Type 0
MakesExcludesReasons =
    (l : Linking) (n : ℕ) (s : Spaces) (item : Item) (new : Linking) (w : LinkWhy) → item_makes l n s item new → item_has l n s item w → ⊥

abbrev pub BeginsExcludesReasons : Type 0
BeginsExcludesReasons =
    (l : Linking) (n : ℕ) (s : Spaces) (item : Item) (c : Closure) (arguments : Exports) (w : LinkWhy)
    → Begins l n s item c arguments → item_has l n s item w → ⊥

abbrev pub MakesExcludesBegins : Type 0
MakesExcludesBegins =
    (l : Linking) (n : ℕ) (s : Spaces) (item : Item) (new : Linking) (c : Closure) (arguments : Exports)
    → item_makes l n s item new → Begins l n s item c arguments → ⊥

-- An item makes one thing, or begins one instance with one list of arguments.
abbrev pub MakesOnce : Type 0
MakesOnce =
    (l : Linking) (n : ℕ) (s : Spaces) (item : Item) (a b : Linking) → item_makes l n s item a → item_makes l n s item b → a ≡ b

abbrev pub BeginsOnce : Type 0
BeginsOnce =
    (l : Linking) (n : ℕ) (s : Spaces) (item : Item) (c d : Closure) (given passed : Exports)
    → Begins l n s item c given → Begins l n s item d passed → (c ≡ d) × (given ≡ passed)

-- An item misses one name, and has one first reason.
abbrev pub OneName : Type 0
OneName =
    (l : Linking) (n : ℕ) (s : Spaces) (item : Item) (a b : List ℕ)
    → item_has l n s item (Missing a) → item_has l n s item (Missing b) → a ≡ b

abbrev pub OneFirst : Type 0
OneFirst = (l : Linking) (n : ℕ) (s : Spaces) (item : Item) (v w : LinkWhy) → IsFirst l n s item v → IsFirst l n s item w → v ≡ w

-- Items lead to one linking, or to one fault, and not to both.
abbrev pub OneLinking : Type 0
OneLinking = (l : Linking) (n : ℕ) (items : List (Placed Item)) (a b : Linking) → Links l n items a → Links l n items b → a ≡ b

abbrev pub LinksExcludesFaults : Type 0
LinksExcludesFaults =
    (l : Linking) (n : ℕ) (items : List (Placed Item)) (last : Linking) (fault : LinkFault) → Links l n items last → IsRefusedAt l n items fault → ⊥

abbrev pub OneFault : Type 0
OneFault = (l : Linking) (n : ℕ) (items : List (Placed Item)) (a b : LinkFault) → IsRefusedAt l n items a → IsRefusedAt l n items b → a ≡ b

-- A component has one graph, or one fault, and not both.
abbrev pub OneGraph : Type 0
OneGraph = (c : Component) (g h : Graph) → IsLinked c g → IsLinked c h → g ≡ h

abbrev pub LinkedIsNotRefused : Type 0
LinkedIsNotRefused =
    (c : Component) (g : Graph) (fault : LinkFault) → IsLinked c g → IsLinkRefused c fault → ⊥

abbrev pub OneRefusal : Type 0
OneRefusal = (c : Component) (a b : LinkFault) → IsLinkRefused c a → IsLinkRefused c b → a ≡ b

-- there are at most as many component instances as there may be, and as many core instances
abbrev pub IsFew : Linking → Type 0
IsFew l = (length l.scopes ≤ instance_limit) × (length l.cores ≤ instance_limit)

abbrev pub FewInstances : Type 0
FewInstances = (l : Linking) (n : ℕ) (items : List (Placed Item)) (last : Linking) → IsFew l → Links l n items last → IsFew last

-- the graph of a component
abbrev pub GraphsAreFew : Type 0
GraphsAreFew =
    (c : Component) (g : Graph) → IsLinked c g → (g.instance_count ≤ instance_limit) × (length g.cores ≤ instance_limit)

-- The core instances of a graph have the imports that their modules ask for, of core instances before them and of core functions of
-- the Canonical ABI.
abbrev pub GraphsAreImported : Type 0
GraphsAreImported = (c : Component) (g : Graph) → IsLinked c g → AreImported g.canons [] g.cores

-- The lift of each export is there: its core function, its memory and its other core functions, with the types that it needs.
abbrev pub LiftsAreThere : Type 0
LiftsAreThere =
    (c : Component) (g : Graph) → IsLinked c g → AllZip (λ (e : Export) lift. IsLiftThere g.cores g.canons e.func_type lift) g.exports g.lifts

-- Core instances, core functions of the Canonical ABI and resources are made one behind the other, in some order: each core instance has
-- the imports that its module asks for, what is lowered is there, with the memory and the core functions that the lower uses, and so is
-- what a built-in uses, its resource among it, and the destructor of a resource, of what was made before it.
abbrev pub GraphsAreMade : Type 0
GraphsAreMade = (c : Component) (g : Graph) → IsLinked c g → AreMade g.cores g.canons g.resources

-- No two parameters of an export have one label.
abbrev pub LabelsAreDistinct : Type 0
LabelsAreDistinct =
    (c : Component) (g : Graph) → IsLinked c g → AllByRecursion (λ (e : Export). HasDistinctLabels e.func_type) g.exports

-- The types of parameters and results of an export nest at most 32 types.
abbrev pub TypesAreShallow : Type 0
TypesAreShallow =
    (c : Component) (g : Graph) → IsLinked c g → AllByRecursion (λ (e : Export). HasShallowTypes e.func_type) g.exports

-- So it is for the functions that are lowered.
abbrev pub HasSoundType : CanonFunc → Type 0
HasSoundType (canon_func.Lower l) = HasDistinctLabels l.func_type × HasShallowTypes l.func_type
HasSoundType (canon_func.Builtin b) = Unit {0}

abbrev pub LoweredTypesAreSound : Type 0
LoweredTypesAreSound = (c : Component) (g : Graph) → IsLinked c g → AllByRecursion HasSoundType g.canons

-- A borrowed handle is lent for a call: no export and no function that is lowered gives one, none is returned by `task.return`, and none
-- passes in the streams and the futures of built-ins.
abbrev pub NoBorrowIsPassed : Type 0
NoBorrowIsPassed =
    (c : Component) (g : Graph) → IsLinked c g → AllByRecursion (λ (e : Export). GivesNoBorrow e.func_type) g.exports × AllByRecursion PassesNoBorrow g.canons

-- The names of the root's exports are distinct. The functions that can be called are those among them, and those of instances
-- among them under `name#function`: where no name of the root has a `#`, no two of them have one name. Else they may: the root
-- may export a function `a#b`, and an instance `a` with a function `b`.
abbrev pub RootNamesAreDistinct : Type 0
RootNamesAreDistinct =
    (c : Component) (l : Linking) → Links root_begun 0 c.items l → AreDistinct (export_names (exports_at l 0))

abbrev pub NamesAreDistinct : Type 0
NamesAreDistinct =
    (c : Component) (l : Linking) → Links root_begun 0 c.items l → AllByRecursion HasNoHash (export_names (exports_at l 0))
    → AreDistinct (names (graph_of l).exports)

-- Each core instance is of a module that stands in the component. So it has what all modules of the component have.
abbrev pub ModulesStand : Type 0
ModulesStand =
    (c : Component) (g : Graph) → IsLinked c g → AllByRecursion (λ (core : CoreMake). StandsIn core.of_module c.items) g.cores

-- What is computed of an item is what it makes or begins, or its first reason.
abbrev pub IsOutcome : Linking → ℕ → Spaces → Item → Outcome → Type 0
IsOutcome l n s item (Makes new) = item_makes l n s item new
IsOutcome l n s item (Starts c arguments) = Begins l n s item c arguments

abbrev pub OutcomeComputed : Type 0
OutcomeComputed =
    (l : Linking) (n : ℕ) (s : Spaces) (item : Item) (outcome : Outcome) → (item_outcome l n s item ≡ Ok outcome) ↔ IsOutcome l n s item outcome

abbrev pub ReasonComputed : Type 0
ReasonComputed =
    (l : Linking) (n : ℕ) (s : Spaces) (item : Item) (w : LinkWhy) → (item_outcome l n s item ≡ Err w) ↔ IsFirst l n s item w

-- What is computed of a component is its graph, or its fault. So each component has exactly one graph or exactly one fault.
abbrev pub GraphComputed : Type 0
GraphComputed = (c : Component) (g : Graph) → (linked c ≡ Ok g) ↔ IsLinked c g

abbrev pub FaultComputed : Type 0
FaultComputed = (c : Component) (fault : LinkFault) → (linked c ≡ Err fault) ↔ IsLinkRefused c fault

abbrev pub LinkedOrRefused : Type 0
LinkedOrRefused =
    (c : Component) → ((g : Graph) × IsLinked c g) ⊎ ((fault : LinkFault) × IsLinkRefused c fault)

-- The tests say whether types are the same, and whether a definition is what is asked for.
abbrev pub FuncsCompared : Type 0
FuncsCompared = (type other : FuncType) → (same_func type other ≡ true) ↔ (type ≡ other)

abbrev pub ClosedCompared : Type 0
ClosedCompared = (type other : Closed) → (same_closed type other ≡ true) ↔ (type ≡ other)

abbrev pub FitsTested : Type 0
FitsTested = (d : Definition) (extern : Extern) → (fits d extern ≡ true) ↔ Fits d extern

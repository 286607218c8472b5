-- What index spaces hold (Component Model, Explainer.md, "Index Spaces"): definitions, by their sorts, and the exports of
-- instances. A function is the lift of a core function, and a function that is lowered is a core function again; a component is
-- kept as it stands in the file, with the components that stand around it; what core instances have is told by the core instance
-- that made it, or by the number of what the Canonical ABI made.
use Rattle.std.specs.Prelude.{◌≡◌, ℕ, List, [], ◌∷◌, ◌++◌, cond, Option, Some, None}
use Rattle.std.specs.Option.{option_map}
use Rattle.std.specs.List.{flat_map}
use Rattle.std.specs.Str.{bytes_eq}
use Rattle.ca_base.specs.declared.placed.Placed.{Placed}
use Rattle.syntax_trees.specs.declared.module.Export.{Export}
use Rattle.syntax_trees.specs.declared.module.ModuleTree.{ModuleTree}
pub use Rattle.comp_graph.specs.declared.graph.CoreRef.{CoreRef}
pub use Rattle.comp_graph.specs.declared.graph.FuncRef.{FuncRef}
pub use Rattle.comp_graph.specs.CoreItems.{CoreItem, Func, Table, Memory, Global, extern_of, item_of, MaxIsWithin, IsWithin, CoreFits}
pub use Rattle.comp_graph.specs.Graph.{Lifted}
use Rattle.comp_tree.specs.declared.items.Item.{Item}
use Rattle.comp_graph.specs.Closed.{Closed, Extern, OfFunc, OfType, OfInstance, Externs, EmptyType, WithExtern, first_of}

-- what a core instance exports
pub record CoreExport : Type 0 where
  pub name : List ℕ
  pub item : CoreItem

-- the export of a name: of equal names the first
abbrev pub core_named : List ℕ → List CoreExport → Option CoreItem
core_named q [] = None
core_named q (e ∷ exports) = cond (bytes_eq e.name q) (Some e.item) (core_named q exports)

abbrev pub listed : Option CoreExport → List CoreExport
listed None = []
listed (Some e) = e ∷ []

-- the exports of the core instance of this number, which is made of this module; in a module that is valid all are there
abbrev pub exports_of : ModuleTree → ℕ → List CoreExport
exports_of m number = flat_map (λ (e : Export). listed (option_map (λ item. record { name = e.name; item = item }) (item_of m number e.desc))) m.exports

-- a component: its items, and the component instances whose definitions it sees, from the inside out
pub record Closure : Type 0 where
  pub items : List (Placed Item)
  pub around : List ℕ

mutual
  pub data Definition : Type 0 where
    AFunc : Lifted → Definition
    AType : Closed → Definition
    AComponent : Closure → Definition
    AnInstance : Exports → Definition
    AModule : ModuleTree → Definition

  -- the exports of an instance: none, or one behind others
  pub data Exports : Type 0 where
    EmptyInstance : Exports
    WithExport : Exports → List ℕ → Definition → Exports

-- the names, in order
abbrev pub export_names : Exports → List (List ℕ)
export_names EmptyInstance = []
export_names (WithExport others name d) = export_names others ++ name ∷ []

-- the export of a name: of equal names the first
abbrev pub export_named : List ℕ → Exports → Option Definition
export_named q EmptyInstance = None
export_named q (WithExport others name d) = first_of (export_named q others) (cond (bytes_eq name q) (Some d) None)

-- A definition is what is asked for. Types are to be equal; an instance may have more exports than are asked for.
abbrev mutual
  pub Fits : Definition → Extern → Type 0
  Fits (AFunc f) (OfFunc type) = f.func_type ≡ type
  Fits (AType type) (OfType asked) = type ≡ asked
  Fits (AnInstance given) (OfInstance asked) = FitAll given asked
  Fits d extern = ⊥

  pub FitAll : Exports → Externs → Type 0
  FitAll given EmptyType = Unit {0}
  FitAll given (WithExtern others name extern) =
      FitAll given others × ((d : Definition) × (export_named name given ≡ Some d) × Fits d extern)

-- The first export that is asked for and is not there, in order, those of instances inside included; and the name itself,
-- where nothing is there.
abbrev mutual
  pub lacks : Option Definition → List ℕ → Extern → Option (List ℕ)
  lacks None name extern = Some name
  lacks (Some (AnInstance given)) name (OfInstance asked) = first_lacking given asked
  lacks (Some d) name extern = None

  pub first_lacking : Exports → Externs → Option (List ℕ)
  first_lacking given EmptyType = None
  first_lacking given (WithExtern others name extern) =
      first_of (first_lacking given others) (lacks (export_named name given) name extern)

-- What is seen of a definition that fits: of an instance the exports that are asked for, in their order.
abbrev pub with_seen : Option Definition → List ℕ → Exports → Exports
with_seen None name seen = seen
with_seen (Some d) name seen = WithExport seen name d

abbrev mutual
  pub seen_as : Definition → Extern → Definition
  seen_as (AnInstance given) (OfInstance asked) = AnInstance (seen_exports given asked)
  seen_as d extern = d

  pub seen_exports : Exports → Externs → Exports
  seen_exports given EmptyType = EmptyInstance
  seen_exports given (WithExtern others name extern) =
      with_seen (option_map (λ d. seen_as d extern) (export_named name given)) name (seen_exports given others)

-- The instance of a type whose exports are types: what the root is given.
abbrev pub types_of : Externs → Exports
types_of EmptyType = EmptyInstance
types_of (WithExtern others name (OfType type)) = WithExport (types_of others) name (AType type)
types_of (WithExtern others name extern) = types_of others

-- Items on their way (Component Model, Explainer.md, "Import and Export Definitions"): the definition of an item is there, and no
-- index space has it yet.
use Rattle.std.specs.Prelude.{◌≡◌, ℕ, true, List, Option, Some, None, Result, Ok, Err}
use Rattle.comp_graph.specs.declared.graph.Options.{Options}
use Rattle.comp_graph.specs.Closed.{Closed, Extern, Externs}
use Rattle.link_spec.specs.declared.fault.LinkWhy.{LinkWhy}
use Rattle.link_spec.specs.declared.fault.LinkWhy.TheVariants as why
use Rattle.link_spec.specs.Canons.{Given, options_of}
use Rattle.link_spec.specs.Definitions.{Lifted, Definition, AnInstance, Exports, types_of}
use Rattle.link_spec.specs.Spaces.{Spaces, Linking, with_spaces}
use Rattle.link_spec.specs.Items.{type_made, lower_made, with_import, with_export}
use Rattle.link_spec.specs.Tests.{are_types}
use Rattle.link_spec.specs.Computed.{Outcome, Makes, as_asked}
use Rattle.link_values.specs.declared.refs.InstanceTypeRef.{InstanceTypeRef}
use Rattle.link_values.specs.declared.refs.TypeRef.{TypeRef}
use Rattle.link_types.specs.Table.{Table, IsType, IsInstanceType}
use Rattle.link_instances.specs.declared.references.LiftedRef.{LiftedRef}
use Rattle.link_instances.specs.declared.references.DefinitionRef.{DefinitionRef}
use Rattle.link_instances.specs.References.{World, IsLifted, Stands}
use Rattle.link_state.specs.declared.linker.Linker.{Linker}
use Rattle.link_state.specs.State.{world_of, IsState}

-- The reference stands for the definition of which an item makes this outcome. The linker stands for the linking still.
pub record IsReady (k : Linker) (l : Linking) (make : Definition → Outcome) (ref : DefinitionRef) (outcome : Outcome) : Type 0 where
  pub bases : List Exports
  pub state : IsState bases k l
  pub definition : Definition
  pub stands : Stands k.types (world_of bases k) ref definition
  pub makes : outcome ≡ make definition

-- The reference stands for a type of instances that asks for types alone, which are what the root is given, of which an item
-- makes this outcome.
abbrev pub IsGiven : Table → (Definition → Outcome) → InstanceTypeRef → Outcome → Type 0
IsGiven t make ref outcome =
    (externs : Externs) × IsInstanceType t ref externs × (are_types externs ≡ true) × (outcome ≡ make (AnInstance (types_of externs)))

-- the definition of which it is, where it is one
abbrev pub IsTypesOf : Table → InstanceTypeRef → Definition → Type 0
IsTypesOf t ref d = (externs : Externs) × IsInstanceType t ref externs × (are_types externs ≡ true) × (d ≡ AnInstance (types_of externs))

-- The function and the options stand for those that an item lowers, and of which it makes this outcome.
pub record IsLowering (t : Table) (l : Linking) (n : ℕ) (s : Spaces) (ref : LiftedRef × Options) (outcome : Outcome) : Type 0 where
  pub lifted : Lifted
  pub given : Given
  pub stands : IsLifted t ref.0 lifted
  pub used : ref.1 ≡ options_of given
  pub makes : outcome ≡ Makes (lower_made l n s lifted given)

-- The reference stands for the type of which an item makes this outcome, with numbers for all that it brings.
abbrev pub IsTyped : Table → Linking → ℕ → Spaces → TypeRef → Outcome → Type 0
IsTyped t l n s ref outcome = (closed : Closed) × IsType t ref closed × (outcome ≡ Makes (type_made l n s true closed))

-- what an import and an export make of a definition
abbrev pub imported : Linking → ℕ → Spaces → List ℕ → Definition → Outcome
imported l n s name d = Makes (with_spaces l n (with_import s name d))

abbrev pub exported : Linking → ℕ → Spaces → List ℕ → Definition → Outcome
exported l n s name d = Makes (with_spaces l n (with_export s name d))

-- a definition, as it is asked for; no reason but of typing is left where nothing is missing
abbrev pub as_wanted : Definition → Option Extern → Result Definition LinkWhy
as_wanted d None = Err why.Typing
as_wanted d (Some extern) = as_asked d extern

-- A reference stands for the definition, or there is none, for a reason of typing.
abbrev pub IsSeen : Table → World → Option DefinitionRef → Result Definition LinkWhy → Type 0
IsSeen t w (Some ref) (Ok d) = Stands t w ref d
IsSeen t w None (Err reason) = reason ≡ why.Typing
IsSeen t w ref answer = ⊥

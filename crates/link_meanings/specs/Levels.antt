-- Levels (Component Model, Explainer.md, "Alias Definitions"): what outer aliases see, as references into a table of types, and as
-- numbers of components.
use Rattle.std.specs.Prelude.{◌≡◌, ℕ, List, [], ◌∷◌, map, Option, Some}
use Rattle.std.specs.List.{slice_get, AllZip}
use Rattle.comp_graph.specs.Closed.{Closed}
use Rattle.link_spec.specs.Definitions.{Closure}
use Rattle.link_spec.specs.Spaces as spaces
use Rattle.link_values.specs.declared.refs.TypeRef.{TypeRef}
use Rattle.link_types.specs.Table.{Table, IsType}
use Rattle.link_meanings.specs.declared.levels.Level.{Level}
use Rattle.link_meanings.specs.declared.levels.Enclosing.{Enclosing}
use Rattle.link_meanings.specs.declared.levels.Enclosing.TheVariants as enclosing
use Rattle.link_meanings.specs.Meant.{IsFoundAs}

-- A component, by its number.
abbrev pub IsClosure : List Closure → ℕ → Closure → Type 0
IsClosure closures number c = slice_get closures number ≡ Some c

-- References stand for these types, each of which may have no meaning.
abbrev pub AreTypes : Table → List (Option TypeRef) → List (Option Closed) → Type 0
AreTypes t refs types = AllZip (IsFoundAs (IsType t)) refs types

-- References and numbers stand for what is seen of a level.
pub record IsSeenAs (t : Table) (closures : List Closure) (refs : List (Option TypeRef)) (numbers : List (Option ℕ)) (l : spaces.Level) : Type 0 where
  pub types : AreTypes t refs l.types
  pub components : AllZip (IsFoundAs (IsClosure closures)) numbers l.components

-- the types and the components of a component instance, each of which has a meaning
abbrev pub level_types : Level → List (Option TypeRef)
level_types level = map Some level.types.now

abbrev pub level_components : Level → List (Option ℕ)
level_components level = map Some level.components.now

-- Component instances, from the inside out.
abbrev pub IsLevel : Table → List Closure → Level → spaces.Level → Type 0
IsLevel t closures level l = IsSeenAs t closures (level_types level) (level_components level) l

abbrev pub AreLevels : Table → List Closure → List Level → List spaces.Level → Type 0
AreLevels t closures levels around = AllZip (IsLevel t closures) levels around

-- the types and the components of a component instance or of an instance type
abbrev pub enclosed_types : Enclosing → List (Option TypeRef)
enclosed_types (enclosing.Component level) = level_types level
enclosed_types (enclosing.Instance types components) = types.now

abbrev pub enclosed_components : Enclosing → List (Option ℕ)
enclosed_components (enclosing.Component level) = level_components level
enclosed_components (enclosing.Instance types components) = components.now

-- the types of the innermost level
abbrev pub types_in : List Enclosing → List (Option TypeRef)
types_in [] = []
types_in (level ∷ around) = enclosed_types level

-- What stands around a type.
abbrev pub IsEnclosing : Table → List Closure → Enclosing → spaces.Level → Type 0
IsEnclosing t closures level l = IsSeenAs t closures (enclosed_types level) (enclosed_components level) l

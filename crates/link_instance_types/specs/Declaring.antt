-- An instance type whose declarations are read (Component Model, Explainer.md, "Type Definitions"), beside its definition: the index
-- spaces so far, the names of its exports so far, and what its declarations tell.
use Rattle.std.specs.Prelude.{◌≡◌, ℕ, true, ◌&&◌, ◌||◌, List}
use Rattle.std.specs.Option.{option_map}
use Rattle.std.specs.List.{AllZip}
use Rattle.syntax_trees.specs.Names.{has, is_among}
use Rattle.comp_tree.specs.declared.types.InstanceDecl.{InstanceDecl}
use Rattle.comp_tree.specs.declared.types.DefType.TheFolds.{fold-InstanceDecl}
use Rattle.comp_graph.specs.Closed.{Closed, Instance, Externs, first_of}
use Rattle.link_spec.specs.Definitions.{Closure}
use Rattle.link_spec.specs.Spaces as spaces
use Rattle.link_spec.specs.Types as types_read
use Rattle.link_spec.specs.Types.{Meaning, kept_if, InLevels, type_step, decl_step}
use Rattle.link_types.specs.Table.{Table, IsInstanceType}
use Rattle.link_types.specs.Begun.{IsBegun}
use Rattle.link_values.specs.declared.meant.Meant.{Meant}
use Rattle.link_instance_types.specs.declared.so_far.SoFar.{SoFar}
use Rattle.link_instance_types.specs.declared.declaring.Declared.{Declared}
use Rattle.link_meanings.specs.Meant.{IsFoundAs, text_of}
use Rattle.link_meanings.specs.Levels.{IsClosure, AreTypes}

-- What is told so far.
pub record IsSoFar (t : Table) (s : SoFar) (meaning : Meaning Externs) : Type 0 where
  pub is_there : s.is_there ≡ meaning.is_there
  pub missing : option_map text_of s.missing ≡ meaning.missing
  pub deep : s.deep ≡ meaning.deep
  pub has_room : meaning.has_room ≡ true
  pub means : IsFoundAs (IsBegun t) s.means meaning.means

-- what one more declaration tells behind it, which has this meaning
abbrev pub told_more : {B : Type 0} → SoFar → Meant B → SoFar
told_more s meant = record {
  is_there = s.is_there && meant.is_there;
  missing = first_of s.missing meant.missing;
  deep = s.deep || meant.deep;
  means = kept_if meant.means s.means;
}

-- what an instance type means whose declarations have told this
abbrev pub as_instance : Meaning Externs → Meaning Closed
as_instance m = record { is_there = m.is_there; missing = m.missing; deep = m.deep; has_room = m.has_room; means = option_map Instance m.means }

-- The instance type so far.
pub record IsDeclared (t : Table) (closures : List Closure) (d : Declared) (defined : types_read.Declared) : Type 0 where
  pub types : AreTypes t d.types.items defined.types
  pub components : AllZip (IsFoundAs (IsClosure closures)) d.components.items defined.components
  pub instances : AllZip (IsFoundAs (IsInstanceType t)) d.instances.items defined.instances
  pub names : (q : List ℕ) → has d.names q ≡ is_among q defined.names
  pub resources : d.resources ≡ defined.resources
  pub so_far : IsSoFar t d.so_far defined.so_far

-- what a declaration makes of an instance type, in these levels
abbrev pub decl_makes : InstanceDecl → List spaces.Level → types_read.Declared → types_read.Declared
decl_makes = fold-InstanceDecl InLevels (List spaces.Level → types_read.Declared → types_read.Declared) type_step decl_step

-- Types of instances that bring resources (Component Model, Explainer.md, "Type Definitions" and "Import and Export Definitions"): an
-- export that may be any type of resources brings one. Whatever is given for it stands in its place wherever the type names it, and it
-- stays the same resource. Where an instance is exported, what its type brings belongs to the type around it.
use Rattle.std.specs.Prelude.{◌==◌, ◌+◌, ℕ, suc, cond, List, [], ◌∷◌, ◌++◌, length, Option, Some}
use Rattle.comp_graph.specs.Closed.{Closed, Value, Func, Resource, Instance, Extern, OfFunc, OfType, OfInstance, Externs, EmptyType, WithExtern}
use Rattle.link_values.specs.Resources.{first_brought, Change, filled_in, renumbered, renumbered_func}
use Rattle.link_spec.specs.Definitions.{Definition, AType, AnInstance, Exports, EmptyInstance, export_named}

-- Closed types in which numbers of resources are changed. A type of instances that is a type stands between; one that an instance has
-- does not.
abbrev mutual
  pub moved : Change → ℕ → Closed → Closed
  moved f depth (Value type) = Value (renumbered (f depth) type)
  moved f depth (Func type) = Func (renumbered_func (f depth) type)
  moved f depth (Resource number) = Resource (f depth number)
  moved f depth (Instance externs) = Instance (moved_externs f (suc depth) externs)

  pub moved_extern : Change → ℕ → Extern → Extern
  moved_extern f depth (OfFunc type) = OfFunc (renumbered_func (f depth) type)
  moved_extern f depth (OfType type) = OfType (moved f depth type)
  moved_extern f depth (OfInstance externs) = OfInstance (moved_externs f depth externs)

  pub moved_externs : Change → ℕ → Externs → Externs
  moved_externs f depth EmptyType = EmptyType
  moved_externs f depth (WithExtern others name extern) = WithExtern (moved_externs f depth others) name (moved_extern f depth extern)

-- What is given for a type of resources: its number, or 0, which is that of none.
abbrev pub resource_given : Option Definition → ℕ
resource_given (Some (AType (Resource number))) = number
resource_given given = 0

-- What is given for the resources that exports bring, in order, behind what is given for those before them. An export brings the next
-- resource where it is a type of resources of the next number.
abbrev pub found_type : Option Definition → List ℕ → Closed → List ℕ
found_type given found (Resource number) = cond (number == first_brought 0 + length found) (found ++ resource_given given ∷ []) found
found_type given found type = found

abbrev pub exports_given : Option Definition → Exports
exports_given (Some (AnInstance exports)) = exports
exports_given given = EmptyInstance

abbrev mutual
  pub found_for : Option Definition → List ℕ → Extern → List ℕ
  found_for given found (OfFunc type) = found
  found_for given found (OfType type) = found_type given found type
  found_for given found (OfInstance externs) = all_found_for (exports_given given) found externs

  pub all_found_for : Exports → List ℕ → Externs → List ℕ
  all_found_for given found EmptyType = found
  all_found_for given found (WithExtern others name extern) = found_for (export_named name given) (all_found_for given found others) extern

-- how many resources exports bring
abbrev pub brought : Externs → ℕ
brought externs = length (all_found_for EmptyInstance [] externs)

-- what is asked for of a definition, where that stands for what it brings; as it is, where it brings none
abbrev pub filled : List ℕ → Extern → Extern
filled [] extern = extern
filled (number ∷ given) extern = moved_extern (filled_in (number ∷ given)) 0 extern

abbrev pub asked_of : Definition → Extern → Extern
asked_of d extern = filled (found_for (Some d) [] extern) extern

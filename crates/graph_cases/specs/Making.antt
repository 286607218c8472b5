-- A graph that is being made (Component Model, Explainer.md, "Canonical Definitions"): the types of what is passed, the core functions that
-- the Canonical ABI makes, and the functions that can be called, each with the number of its type.
use Rattle.std.specs.Prelude.{◌≡◌, ℕ, List, length, Option}
use Rattle.syntax_trees.specs.declared.exports.Export.{Export}
use Rattle.comp_graph.specs.declared.graph.CanonFunc.{CanonFunc}
use Rattle.comp_graph.specs.declared.graph.Lift.{Lift}
use Rattle.comp_graph.specs.Passed.{TypeTable, AreCanonTypes, AreExportTypes}

pub record Making : Type 0 where
  pub types : TypeTable
  pub canon_numbers : List (Option ℕ)
  pub canons : List CanonFunc
  pub export_numbers : List ℕ
  pub exports : List Export
  pub lifts : List Lift

-- The numbers are those of the types, and each function that can be called lifts a core function.
pub record IsTyped (m : Making) : Type 0 where
  pub canons : AreCanonTypes m.types m.canon_numbers m.canons
  pub exports : AreExportTypes m.types.funcs m.export_numbers m.exports
  pub lifts : length m.lifts ≡ length m.exports

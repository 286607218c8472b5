-- A graph that is being made stays typed where it grows.
use Rattle.std.proofs.Common.{◌≡◌, ℕ, List, [], ◌∷◌, ◌++◌, refl, Option, Some}
use Rattle.std.specs.List.{slice_get}
use Rattle.syntax_trees.specs.declared.exports.Export.{Export}
use Rattle.comp_graph.specs.declared.graph.CanonFunc.{CanonFunc}
use Rattle.comp_graph.specs.declared.graph.Lift.{Lift}
use Rattle.comp_graph.specs.Passed.{TypeTable, HasCanonType}
use Rattle.graph_cases.specs.Making.{Making, IsTyped}
use Rattle.graph_cases.proofs.Zips.{canons_more, exports_more, as_many}

pub nothing_typed : (types : TypeTable) → IsTyped (record { types = types; canon_numbers = []; canons = []; export_numbers = []; exports = []; lifts = [] })
nothing_typed types = record { canons = tt; exports = tt; lifts = refl }

pub canon_typed : (m : Making) (n : Option ℕ) (f : CanonFunc) (numbers : List (Option ℕ)) (canons : List CanonFunc) → IsTyped m → HasCanonType m.types n f
    → numbers ≡ m.canon_numbers ++ n ∷ [] → canons ≡ m.canons ++ f ∷ [] → IsTyped (record m { canon_numbers = numbers; canons = canons })
canon_typed m n f numbers canons h is put pushed = record {
  canons = canons_more m.types m.canon_numbers m.canons n f numbers canons h.canons is put pushed;
  exports = h.exports;
  lifts = h.lifts;
}

pub export_typed : (m : Making) (n : ℕ) (e : Export) (l : Lift) (numbers : List ℕ) (exports : List Export) (lifts : List Lift) → IsTyped m → slice_get m.types.funcs n ≡ Some e.func_type
    → numbers ≡ m.export_numbers ++ n ∷ [] → exports ≡ m.exports ++ e ∷ [] → lifts ≡ m.lifts ++ l ∷ []
    → IsTyped (record m { export_numbers = numbers; exports = exports; lifts = lifts })
export_typed m n e l numbers exports lifts h is put pushed lifted = record {
  canons = h.canons;
  exports = exports_more m.types.funcs m.export_numbers m.exports n e numbers exports h.exports is put pushed;
  lifts = as_many m.lifts m.exports l e lifts exports h.lifts lifted pushed;
}

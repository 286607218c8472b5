-- What is left of the plan leads from the state now to what the whole plan leads to.
use Rattle.std.proofs.Common.{ℕ, List, map, drop}
use Rattle.laid_types.specs.Parts.{parts_of}
use Rattle.value_lower.specs.Plan.{Plan}
use Rattle.value_lower.specs.Following.{rooms_of, Leads}
use Rattle.value_lower.specs.Storing.{field_words}
use Rattle.value_lower.specs.Entering.{lowered}
use Rattle.value_lower.proofs.words.+wording.Given as goal

abbrev pub invariant-push_fields-loop-index : goal.invariant-push_fields-loop-index
invariant-push_fields-loop-index g l =
    (k : List ℕ → Plan)
    → Leads (rooms_of g.B.Beside.memory g.B.Beside.answers g.B.Beside.wrote (g.B.Beside.adds l.home.task l.t.types))
    (field_words (parts_of l.t.val_type) (map (lowered (g.B.Beside.entering l.home.resources.now)) l.values) l.fn.words k) (g.B.Beside.state l.fn.room l.fn.beside)
    (field_words (drop l.index (parts_of l.t.val_type)) (map (lowered (g.B.Beside.entering l.home.resources.now)) (drop l.index l.values)) l.words k) (g.B.Beside.state l.room l.beside)

-- What is left of the plan leads from the state now to what the whole plan leads to.
use Rattle.std.proofs.Common.{◌*◌, ◌≤◌, length, map, drop}
use Rattle.laid_types.specs.Layout.{laid}
use Rattle.laid_types.specs.Parts.{parts_of}
use Rattle.value_lower.specs.Plan.{Plan}
use Rattle.value_lower.specs.Following.{rooms_of, Leads}
use Rattle.value_lower.specs.Storing.{elements_from, fields_from}
use Rattle.value_lower.specs.Entering.{lowered}
use Rattle.value_lower.specs.Fitting.{HasBytes, end_behind}
use Rattle.value_lower.proofs.storing.+storing.Given as goal

abbrev pub invariant-store_elements-loop-value : goal.invariant-store_elements-loop-value
invariant-store_elements-loop-value g l = record {
  leads :
      (k : Plan)
      → Leads (rooms_of g.B.Beside.memory g.B.Beside.answers g.B.Beside.wrote (g.B.Beside.adds l.home.task l.t.types))
      (elements_from l.t.val_type l.fn.place (map (lowered (g.B.Beside.entering l.home.resources.now)) l.values) k) (g.B.Beside.state l.fn.room l.fn.beside)
      (elements_from l.t.val_type l.at (map (lowered (g.B.Beside.entering l.home.resources.now)) (drop l.value-index l.values)) k) (g.B.Beside.state l.room l.beside);
  bytes : HasBytes l.at (length (drop l.value-index l.values) * (laid l.t.val_type).size) (length (g.B.Beside.memory (g.B.Beside.state l.room l.beside)));
  grows : length (g.B.Beside.memory (g.B.Beside.state l.fn.room l.fn.beside)) ≤ length (g.B.Beside.memory (g.B.Beside.state l.room l.beside));
}

abbrev pub invariant-store_fields-loop-index : goal.invariant-store_fields-loop-index
invariant-store_fields-loop-index g l = record {
  leads :
      (k : Plan)
      → Leads (rooms_of g.B.Beside.memory g.B.Beside.answers g.B.Beside.wrote (g.B.Beside.adds l.home.task l.t.types))
      (fields_from l.place 0 (parts_of l.t.val_type) (map (lowered (g.B.Beside.entering l.home.resources.now)) l.values) k) (g.B.Beside.state l.fn.room l.fn.beside)
      (fields_from l.place l.end (drop l.index (parts_of l.t.val_type)) (map (lowered (g.B.Beside.entering l.home.resources.now)) (drop l.index l.values)) k) (g.B.Beside.state l.room l.beside);
  bytes : HasBytes l.place (end_behind l.end (drop l.index (parts_of l.t.val_type))) (length (g.B.Beside.memory (g.B.Beside.state l.room l.beside)));
  grows : length (g.B.Beside.memory (g.B.Beside.state l.fn.room l.fn.beside)) ≤ length (g.B.Beside.memory (g.B.Beside.state l.room l.beside));
}

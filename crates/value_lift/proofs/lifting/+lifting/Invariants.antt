-- Types get less deep from call to call; what was lifted and what is left to be lifted are the whole.
use Rattle.std.proofs.Common.{◌≡◌, ◌≤◌, ◌+◌, ◌-◌, ◌*◌, [], drop, length}
use Rattle.laid_types.specs.Layout.{laid}
use Rattle.laid_types.specs.Parts.{parts_of}
use Rattle.value_lift.specs.Over.{part, parts, elements_from, fields_from}
use Rattle.value_lift.specs.Room.{end_behind}
use Rattle.value_lift.proofs.Depth.{depth}
use Rattle.value_lift.proofs.lifting.+lifting.Given as goal

abbrev pub decreases-elements_from : goal.decreases-elements_from
decreases-elements_from g l = depth l.element.now.val_type * 8 + 7

abbrev pub decreases-elements_of : goal.decreases-elements_of
decreases-elements_of g l = depth l.element.now.val_type * 8 + 8

abbrev pub decreases-fields_at : goal.decreases-fields_at
decreases-fields_at g l = depth l.t.now.val_type * 8 + 4

abbrev pub decreases-case_at : goal.decreases-case_at
decreases-case_at g l = depth l.t.now.val_type * 8 + 4

abbrev pub decreases-list_of : goal.decreases-list_of
decreases-list_of g l = depth l.t.now.val_type * 8 + 4

abbrev pub decreases-counted_at : goal.decreases-counted_at
decreases-counted_at g l = depth l.t.now.val_type * 8 + 5

abbrev pub decreases-value_at : goal.decreases-value_at
decreases-value_at g l = depth l.t.now.val_type * 8 + 6

abbrev pub invariant-elements_from-loop-index : goal.invariant-elements_from-loop-index
invariant-elements_from-loop-index g l = record {
  same :
      elements_from (g.L.Ledger.ledger l.element.types) (part (g.L.Ledger.ledger l.element.types) l.element.val_type) l.memory [] l.count l.start (g.L.Ledger.kept l.fn.ledger)
      ≡ elements_from (g.L.Ledger.ledger l.element.types) (part (g.L.Ledger.ledger l.element.types) l.element.val_type) l.memory l.values (l.count - l._index) l.at (g.L.Ledger.kept l.ledger);
  room : l.at + (l.count - l._index) * (laid l.element.val_type).size ≤ length l.memory;
}

abbrev pub invariant-fields_at-loop-at : goal.invariant-fields_at-loop-at
invariant-fields_at-loop-at g l = record {
  same :
      fields_from (g.L.Ledger.ledger l.t.types) l.memory l.place [] 0 (parts (g.L.Ledger.ledger l.t.types) (parts_of l.t.val_type)) (g.L.Ledger.kept l.fn.ledger)
      ≡ fields_from (g.L.Ledger.ledger l.t.types) l.memory l.place l.values l.end (parts (g.L.Ledger.ledger l.t.types) (drop l.at (parts_of l.t.val_type))) (g.L.Ledger.kept l.ledger);
  room : l.place + end_behind l.end (drop l.at (parts_of l.t.val_type)) ≤ length l.memory;
}

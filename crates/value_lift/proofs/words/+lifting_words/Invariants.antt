-- Types get less deep from call to call; what was lifted and what is left to be lifted are the whole.
use Rattle.std.proofs.Common.{◌≡◌, ◌≤◌, ◌+◌, ◌*◌, [], drop, length}
use Rattle.laid_types.specs.Parts.{parts_of}
use Rattle.value_lift.specs.Over.{parts, word_fields_from}
use Rattle.value_lift.specs.Room.{words_behind}
use Rattle.value_lift.proofs.Depth.{depth}
use Rattle.value_lift.proofs.words.+lifting_words.Given as goal

abbrev pub decreases-word_fields_at : goal.decreases-word_fields_at
decreases-word_fields_at g l = depth l.t.now.val_type * 8 + 4

abbrev pub decreases-word_case_at : goal.decreases-word_case_at
decreases-word_case_at g l = depth l.t.now.val_type * 8 + 4

abbrev pub decreases-counted_word_at : goal.decreases-counted_word_at
decreases-counted_word_at g l = depth l.t.now.val_type * 8 + 5

abbrev pub decreases-word_value_at : goal.decreases-word_value_at
decreases-word_value_at g l = depth l.t.now.val_type * 8 + 6

abbrev pub invariant-word_fields_at-loop-index : goal.invariant-word_fields_at-loop-index
invariant-word_fields_at-loop-index g l = record {
  same :
      word_fields_from (g.L.Ledger.ledger l.t.types) l.memory l.words [] l.at (parts (g.L.Ledger.ledger l.t.types) (parts_of l.t.val_type)) (g.L.Ledger.kept l.fn.ledger)
      ≡ word_fields_from (g.L.Ledger.ledger l.t.types) l.memory l.words l.values l.next (parts (g.L.Ledger.ledger l.t.types) (drop l.index (parts_of l.t.val_type))) (g.L.Ledger.kept l.ledger);
  room : words_behind l.next (drop l.index (parts_of l.t.val_type)) ≤ length l.words;
}

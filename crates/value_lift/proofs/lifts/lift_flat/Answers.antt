-- How often handles are lent then, and what is added to a run of calls and to a history.
use Rattle.std.proofs.Common.{◌∙◌, ℕ, ap}
use Rattle.value_lift.specs.Over.{lift_flat_by}
use Rattle.value_lift.specs.Lifting.{most}
use Rattle.value_lift.specs.Tables.{by_table, at_first}
use Rattle.value_lift.specs.Settled.{listing, none_listed, uses_in}
use Rattle.value_lift.proofs.Settling.{words_end}
use Rattle.value_lift.proofs.Clauses.{lends_so, run_so, history_so}
use Rattle.value_lift.proofs.lifts.lift_flat.Goals as goal

pub returns-clause-lends : goal.returns-clause-lends
returns-clause-lends g c =
    lends_so g.E.Entry.view g.E.Entry.made g.met.E.Entry.made_is_seen g.E.Entry.end_type c.args.t.now.types (at_first (most c.args.what) c.args.handles.now.slots c.args.moved.now) c.begun-ledger.result
    (c.begun-ledger.ensures ∙ ap (λ (n : ℕ). at_first n c.args.handles.now.slots c.args.moved.now) c.most.ensures)
    (uses_in (lift_flat_by listing c.args.t.now.val_type c.args.memory.now c.args.words.now (none_listed (most c.args.what))))
    (λ k. lift_flat_by (by_table g.E.Entry.view g.E.Entry.made g.E.Entry.end_type c.args.t.now.types) c.args.t.now.val_type c.args.memory.now c.args.words.now k)
    (words_end g.E.Entry.view g.E.Entry.made g.E.Entry.end_type c.args.t.now.types (at_first (most c.args.what) c.args.handles.now.slots c.args.moved.now) g.met.E.Entry.made_is_seen c.args.t.now.val_type c.args.memory.now c.args.words.now)
    c.word_value_at-lifted.new.ledger c.ended.new.handles.slots c.word_value_at-lifted.result c.ended.ensures.slots c.word_value_at-lifted.ensures

pub returns-clause-run : goal.returns-clause-run
returns-clause-run g c =
    run_so g.E.Entry.view g.E.Entry.made g.met.E.Entry.made_is_seen g.E.Entry.end_type c.args.t.now.types (at_first (most c.args.what) c.args.handles.now.slots c.args.moved.now) c.begun-ledger.result
    (c.begun-ledger.ensures ∙ ap (λ (n : ℕ). at_first n c.args.handles.now.slots c.args.moved.now) c.most.ensures)
    (uses_in (lift_flat_by listing c.args.t.now.val_type c.args.memory.now c.args.words.now (none_listed (most c.args.what))))
    (λ k. lift_flat_by (by_table g.E.Entry.view g.E.Entry.made g.E.Entry.end_type c.args.t.now.types) c.args.t.now.val_type c.args.memory.now c.args.words.now k)
    (words_end g.E.Entry.view g.E.Entry.made g.E.Entry.end_type c.args.t.now.types (at_first (most c.args.what) c.args.handles.now.slots c.args.moved.now) g.met.E.Entry.made_is_seen c.args.t.now.val_type c.args.memory.now c.args.words.now)
    c.word_value_at-lifted.new.ledger c.ended.new.handles.slots c.word_value_at-lifted.result c.ended.ensures.slots c.word_value_at-lifted.ensures

pub returns-clause-stands : goal.returns-clause-stands
returns-clause-stands g c =
    history_so g.E.Entry.view g.E.Entry.made g.met.E.Entry.made_is_seen g.E.Entry.end_type c.args.t.now.types (at_first (most c.args.what) c.args.handles.now.slots c.args.moved.now) c.begun-ledger.result
    (c.begun-ledger.ensures ∙ ap (λ (n : ℕ). at_first n c.args.handles.now.slots c.args.moved.now) c.most.ensures)
    (uses_in (lift_flat_by listing c.args.t.now.val_type c.args.memory.now c.args.words.now (none_listed (most c.args.what))))
    (λ k. lift_flat_by (by_table g.E.Entry.view g.E.Entry.made g.E.Entry.end_type c.args.t.now.types) c.args.t.now.val_type c.args.memory.now c.args.words.now k)
    (words_end g.E.Entry.view g.E.Entry.made g.E.Entry.end_type c.args.t.now.types (at_first (most c.args.what) c.args.handles.now.slots c.args.moved.now) g.met.E.Entry.made_is_seen c.args.t.now.val_type c.args.memory.now c.args.words.now)
    c.word_value_at-lifted.new.ledger c.ended.new.handles.slots c.word_value_at-lifted.result c.ended.ensures.slots c.word_value_at-lifted.ensures

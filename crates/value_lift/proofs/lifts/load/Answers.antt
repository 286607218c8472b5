-- How often handles are lent then, and what is added to a run of calls and to a history.
use Rattle.std.proofs.Common.{◌∙◌, ℕ, ap}
use Rattle.value_lift.specs.Over.{load_by}
use Rattle.value_lift.specs.Lifting.{most}
use Rattle.value_lift.specs.Tables.{by_table, at_first}
use Rattle.value_lift.specs.Settled.{listing, none_listed, uses_in}
use Rattle.value_lift.proofs.Settling.{load_ends}
use Rattle.value_lift.proofs.Clauses.{lends_so, run_so, history_so}
use Rattle.value_lift.proofs.lifts.load.Goals as goal

pub returns-clause-lends : goal.returns-clause-lends
returns-clause-lends g c =
    lends_so g.E.Entry.view g.E.Entry.made g.met.E.Entry.made_is_seen g.E.Entry.end_type c.args.t.now.types (at_first (most c.args.what) c.args.handles.now.slots c.args.moved.now) c.begun-ledger.result
    (c.begun-ledger.ensures ∙ ap (λ (n : ℕ). at_first n c.args.handles.now.slots c.args.moved.now) c.most.ensures)
    (uses_in (load_by listing c.args.t.now.val_type c.args.memory.now c.args.place (none_listed (most c.args.what))))
    (λ k. load_by (by_table g.E.Entry.view g.E.Entry.made g.E.Entry.end_type c.args.t.now.types) c.args.t.now.val_type c.args.memory.now c.args.place k)
    (load_ends g.E.Entry.view g.E.Entry.made g.E.Entry.end_type c.args.t.now.types (at_first (most c.args.what) c.args.handles.now.slots c.args.moved.now) g.met.E.Entry.made_is_seen c.args.t.now.val_type c.args.memory.now c.args.place)
    c.load_by-loaded.new.ledger c.ended.new.handles.slots c.load_by-loaded.result c.ended.ensures.slots c.load_by-loaded.ensures

pub returns-clause-run : goal.returns-clause-run
returns-clause-run g c =
    run_so g.E.Entry.view g.E.Entry.made g.met.E.Entry.made_is_seen g.E.Entry.end_type c.args.t.now.types (at_first (most c.args.what) c.args.handles.now.slots c.args.moved.now) c.begun-ledger.result
    (c.begun-ledger.ensures ∙ ap (λ (n : ℕ). at_first n c.args.handles.now.slots c.args.moved.now) c.most.ensures)
    (uses_in (load_by listing c.args.t.now.val_type c.args.memory.now c.args.place (none_listed (most c.args.what))))
    (λ k. load_by (by_table g.E.Entry.view g.E.Entry.made g.E.Entry.end_type c.args.t.now.types) c.args.t.now.val_type c.args.memory.now c.args.place k)
    (load_ends g.E.Entry.view g.E.Entry.made g.E.Entry.end_type c.args.t.now.types (at_first (most c.args.what) c.args.handles.now.slots c.args.moved.now) g.met.E.Entry.made_is_seen c.args.t.now.val_type c.args.memory.now c.args.place)
    c.load_by-loaded.new.ledger c.ended.new.handles.slots c.load_by-loaded.result c.ended.ensures.slots c.load_by-loaded.ensures

pub returns-clause-stands : goal.returns-clause-stands
returns-clause-stands g c =
    history_so g.E.Entry.view g.E.Entry.made g.met.E.Entry.made_is_seen g.E.Entry.end_type c.args.t.now.types (at_first (most c.args.what) c.args.handles.now.slots c.args.moved.now) c.begun-ledger.result
    (c.begun-ledger.ensures ∙ ap (λ (n : ℕ). at_first n c.args.handles.now.slots c.args.moved.now) c.most.ensures)
    (uses_in (load_by listing c.args.t.now.val_type c.args.memory.now c.args.place (none_listed (most c.args.what))))
    (λ k. load_by (by_table g.E.Entry.view g.E.Entry.made g.E.Entry.end_type c.args.t.now.types) c.args.t.now.val_type c.args.memory.now c.args.place k)
    (load_ends g.E.Entry.view g.E.Entry.made g.E.Entry.end_type c.args.t.now.types (at_first (most c.args.what) c.args.handles.now.slots c.args.moved.now) g.met.E.Entry.made_is_seen c.args.t.now.val_type c.args.memory.now c.args.place)
    c.load_by-loaded.new.ledger c.ended.new.handles.slots c.load_by-loaded.result c.ended.ensures.slots c.load_by-loaded.ensures

-- A value is counted, which pays for a loan; then its index is used.
use Rattle.std.proofs.Common.{◌≡◌, ◌+◌, ap, arith}
use Rattle.value_lift.specs.declared.named.Named.{Named}
use Rattle.value_lift.specs.Ledger.{What, AnOwn, ABorrow, AnEnd}
use Rattle.value_lift.specs.Named.{what_named}
use Rattle.value_lift.specs.Tables.{at_first}
use Rattle.value_lift.proofs.Lends.{few_less}
use Rattle.value_lift.proofs.Given.{takes_named, an_end}
use Rattle.value_lift.proofs.by_table.ByTableLedger.take.Goals as goal

pub invariant_of-self-in-Own : goal.invariant_of-self-in-Own
invariant_of-self-in-Own g c =
    c.own_at.ensures.lends c.count.new.left (few_less g.E.Entry.view c.self.inside.handles.slots c.self.inside.left (c.count.new.left + 1) (omega (arith, c.in_ok-count.ensures.exact)) c.self.invariant)

pub invariant_of-self-in-Borrow : goal.invariant_of-self-in-Borrow
invariant_of-self-in-Borrow g c =
    c.borrow_at.ensures.lends c.count.new.left (few_less g.E.Entry.view c.self.inside.handles.slots c.self.inside.left (c.count.new.left + 1) (omega (arith, c.in_ok-count.ensures.exact)) c.self.invariant)

pub invariant_of-self-in-Stream : goal.invariant_of-self-in-Stream
invariant_of-self-in-Stream g c =
    c.end_at.ensures.lends c.count.new.left (few_less g.E.Entry.view c.self.inside.handles.slots c.self.inside.left (c.count.new.left + 1) (omega (arith, c.in_ok-count.ensures.exact)) c.self.invariant)

pub returns-in-Own : goal.returns-in-Own
returns-in-Own g c =
    let what : What = AnOwn c.in-Own.resource in
    let told : what_named c.args.named c.args.t.now.val_type ≡ what = ap (λ (n : Named). what_named n c.args.t.now.val_type) c.in-Own.is in
    takes_named g.E.Entry.view g.E.Entry.made g.E.Entry.end_type c.args.t.now.types (what_named c.args.named c.args.t.now.val_type) what c.args.index c.args.place c.args.self.now c.self.inside.left c.count.new.left
    c.self.inside.handles.slots c.self.inside.moved (at_first c.count.new.left c.own_at.new.handles.slots c.self.inside.moved) c.own_at.result told c.self.view_is c.in_ok-count.ensures.exact (c.own_at.ensures.moves c.count.new.left c.self.inside.moved)

pub returns-in-Borrow : goal.returns-in-Borrow
returns-in-Borrow g c =
    let what : What = ABorrow c.in-Borrow.resource in
    let told : what_named c.args.named c.args.t.now.val_type ≡ what = ap (λ (n : Named). what_named n c.args.t.now.val_type) c.in-Borrow.is in
    takes_named g.E.Entry.view g.E.Entry.made g.E.Entry.end_type c.args.t.now.types (what_named c.args.named c.args.t.now.val_type) what c.args.index c.args.place c.args.self.now c.self.inside.left c.count.new.left
    c.self.inside.handles.slots c.self.inside.moved (at_first c.count.new.left c.borrow_at.new.handles.slots c.borrow_at.new.moved) c.borrow_at.result told c.self.view_is c.in_ok-count.ensures.exact (c.borrow_at.ensures.moves c.count.new.left)

pub returns-in-Stream : goal.returns-in-Stream
returns-in-Stream g c =
    let what : What = AnEnd c.args.t.now.val_type in
    let told : what_named c.args.named c.args.t.now.val_type ≡ what = an_end c.args.named c.args.t.now.val_type c.in-Stream.is in
    takes_named g.E.Entry.view g.E.Entry.made g.E.Entry.end_type c.args.t.now.types (what_named c.args.named c.args.t.now.val_type) what c.args.index c.args.place c.args.self.now c.self.inside.left c.count.new.left
    c.self.inside.handles.slots c.self.inside.moved (at_first c.count.new.left c.end_at.new.handles.slots c.end_at.new.moved) c.end_at.result told c.self.view_is c.in_ok-count.ensures.exact (c.end_at.ensures.moves c.count.new.left)

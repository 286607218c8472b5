use Rattle.std.proofs.Common.{refl, ap, ℕ, ◌∙◌, Option, Some, None}
use Rattle.wasm_store.specs.Views.{instance_of, table_of, function_of}
use Rattle.wasm_store.specs.Store.{type_of}
use Rattle.wasm_execution.specs.Places.{frame_of}
use Rattle.syntax_trees.specs.declared.instr.Instr.TheVariants as instr
use Rattle.wasm_execution.proofs.Popping.{popped_behind}
use Rattle.wasm_execution.proofs.Calls.{through_ready, no_entry, null_entry, other_entry, entry_there, table_within, entry_seen, function_within, type_within, signature_seen}
use Rattle.wasm_execution.proofs.calling.call_indirect.Goals as goal

pub pop-number-requires-clause-over : goal.pop-number-requires-clause-over
pop-number-requires-clause-over c =
    let i = instance_of c.instance-instance.result.now in
    let f = frame_of c.args.frame.now in
    let k = through_ready c.args.store.now c.requires.typed.0 f i c.args.index c.args.table c.requires.next.0 c.requires.store c.requires.typed.1 c.instance-instance.ensures c.requires.next.1 in
    k.one

pub table-requires : goal.table-requires
table-requires c =
    let i = instance_of c.instance-instance.result.now in
    let f = frame_of c.args.frame.now in
    let k = through_ready c.args.store.now c.requires.typed.0 f i c.args.index c.args.table c.requires.next.0 c.requires.store c.requires.typed.1 c.instance-instance.ensures c.requires.next.1 in
    table_within c.args.store.now f i c.args.index c.args.table k c.as_slice.result.now c.as_slice.ensures

pub returns-in_default-clause-gives : goal.returns-in_default-clause-gives
returns-in_default-clause-gives c =
    let i = instance_of c.instance-instance.result.now in
    let f = frame_of c.args.frame.now in
    let k = through_ready c.args.store.now c.requires.typed.0 f i c.args.index c.args.table c.requires.next.0 c.requires.store c.requires.typed.1 c.instance-instance.ensures c.requires.next.1 in
    (refl, no_entry c.args.store.now f i c.args.index c.args.table c.pop-number.result (frame_of c.pop-number.new.self).values c.requires.next.0 k c.instance-instance.ensures c.requires.next.1 c.pop-number.ensures.value (entry_seen c.args.store.now f i c.args.index c.args.table k c.as_slice.result.now (table_of c.table.result.now) c.deref.result.now c.pop-number.result c.entry_at.result None c.as_slice.ensures c.table.ensures c.deref.ensures.value c.entry_at.ensures c.in_default.is))

pub returns-in_default-entry-clause-gives : goal.returns-in_default-entry-clause-gives
returns-in_default-entry-clause-gives c =
    let i = instance_of c.instance-instance.result.now in
    let f = frame_of c.args.frame.now in
    let k = through_ready c.args.store.now c.requires.typed.0 f i c.args.index c.args.table c.requires.next.0 c.requires.store c.requires.typed.1 c.instance-instance.ensures c.requires.next.1 in
    (refl, null_entry c.args.store.now f i c.args.index c.args.table c.pop-number.result (frame_of c.pop-number.new.self).values c.requires.next.0 k c.instance-instance.ensures c.requires.next.1 c.pop-number.ensures.value (entry_seen c.args.store.now f i c.args.index c.args.table k c.as_slice.result.now (table_of c.table.result.now) c.deref.result.now c.pop-number.result c.entry_at.result (Some None) c.as_slice.ensures c.table.ensures c.deref.ensures.value c.entry_at.ensures (c.in-Some.is ∙ ap (λ (o : Option ℕ). let p : Option (Option ℕ) = Some o in p) c.in_default-entry.is)))

pub function-requires : goal.function-requires
function-requires c =
    let i = instance_of c.instance-instance.result.now in
    let f = frame_of c.args.frame.now in
    let k = through_ready c.args.store.now c.requires.typed.0 f i c.args.index c.args.table c.requires.next.0 c.requires.store c.requires.typed.1 c.instance-instance.ensures c.requires.next.1 in
    let some = entry_seen c.args.store.now f i c.args.index c.args.table k c.as_slice.result.now (table_of c.table.result.now) c.deref.result.now c.pop-number.result c.entry_at.result (Some (Some c.in-Some-entry.address)) c.as_slice.ensures c.table.ensures c.deref.ensures.value c.entry_at.ensures (c.in-Some.is ∙ ap (λ (o : Option ℕ). let p : Option (Option ℕ) = Some o in p) c.in-Some-entry.is) in
    function_within c.args.store.now f i c.args.index c.args.table c.pop-number.result c.in-Some-entry.address k some

pub has_type-requires : goal.has_type-requires
has_type-requires c =
    let i = instance_of c.instance-instance.result.now in
    let f = frame_of c.args.frame.now in
    let k = through_ready c.args.store.now c.requires.typed.0 f i c.args.index c.args.table c.requires.next.0 c.requires.store c.requires.typed.1 c.instance-instance.ensures c.requires.next.1 in
    type_within c.args.store.now f i c.args.index c.args.table k c.as_slice-2.result.now (c.as_slice-2.ensures ∙ c.deref-2.ensures)

pub returns-then-not-has_type-clause-gives : goal.returns-then-not-has_type-clause-gives
returns-then-not-has_type-clause-gives c =
    let i = instance_of c.instance-instance.result.now in
    let f = frame_of c.args.frame.now in
    let k = through_ready c.args.store.now c.requires.typed.0 f i c.args.index c.args.table c.requires.next.0 c.requires.store c.requires.typed.1 c.instance-instance.ensures c.requires.next.1 in
    let some = entry_seen c.args.store.now f i c.args.index c.args.table k c.as_slice.result.now (table_of c.table.result.now) c.deref.result.now c.pop-number.result c.entry_at.result (Some (Some c.in-Some-entry.address)) c.as_slice.ensures c.table.ensures c.deref.ensures.value c.entry_at.ensures (c.in-Some.is ∙ ap (λ (o : Option ℕ). let p : Option (Option ℕ) = Some o in p) c.in-Some-entry.is) in
    let e = c.has_type.ensures in
    let same = signature_seen c.args.store.now f i c.args.index c.args.table k c.as_slice-2.result.now e.0 (type_of (function_of c.function.result.now)) c.has_type.result _ (c.as_slice-2.ensures ∙ c.deref-2.ensures) e.1 e.2 c.if-not-has_type.true in
    (refl, other_entry c.args.store.now f i c.args.index c.args.table c.pop-number.result c.in-Some-entry.address (frame_of c.pop-number.new.self).values c.requires.next.0 (function_of c.function.result.now) k c.instance-instance.ensures c.requires.next.1 c.pop-number.ensures.value some c.function.ensures same)

pub returns-clause-gives : goal.returns-clause-gives
returns-clause-gives c =
    let i = instance_of c.instance-instance.result.now in
    let f = frame_of c.args.frame.now in
    let k = through_ready c.args.store.now c.requires.typed.0 f i c.args.index c.args.table c.requires.next.0 c.requires.store c.requires.typed.1 c.instance-instance.ensures c.requires.next.1 in
    let some = entry_seen c.args.store.now f i c.args.index c.args.table k c.as_slice.result.now (table_of c.table.result.now) c.deref.result.now c.pop-number.result c.entry_at.result (Some (Some c.in-Some-entry.address)) c.as_slice.ensures c.table.ensures c.deref.ensures.value c.entry_at.ensures (c.in-Some.is ∙ ap (λ (o : Option ℕ). let p : Option (Option ℕ) = Some o in p) c.in-Some-entry.is) in
    let e = c.has_type.ensures in
    let same = signature_seen c.args.store.now f i c.args.index c.args.table k c.as_slice-2.result.now e.0 (type_of (function_of c.function.result.now)) c.has_type.result _ (c.as_slice-2.ensures ∙ c.deref-2.ensures) e.1 e.2 c.if-not-has_type.false in
    let new = popped_behind f (frame_of c.pop-number.new.self) (frame_of c.advance.new.self) c.pop-number.result (instr.CallIndirect c.args.index c.args.table) c.requires.next.0 (record { value = c.pop-number.ensures.value; frame = c.pop-number.ensures.frame }) c.requires.next.1 c.advance.ensures.frame in
    (refl, entry_there c.args.store.now f (frame_of c.advance.new.self) i c.args.index c.args.table c.pop-number.result c.in-Some-entry.address (frame_of c.pop-number.new.self).values c.requires.next.0 (function_of c.function.result.now) k c.instance-instance.ensures c.requires.next.1 c.pop-number.ensures.value some c.function.ensures same new)

-- Built-ins that answer, and calls of functions, keep the store typed, and no handle is lent more often.
use Rattle.std.proofs.Common.{◌≡◌, refl}
use Rattle.std.specs.Prelude.{ℕ, Bool, false, List, Option, Some, None}
use Rattle.std.specs.List.{slice_get}
use Rattle.builtin_kinds.specs.declared.ResourceOp.{ResourceOp}
use Rattle.builtin_kinds.specs.declared.ResourceOp.TheVariants as resource_op
use Rattle.builtin_kinds.specs.declared.ContextOp.{ContextOp}
use Rattle.builtin_kinds.specs.declared.ContextOp.TheVariants as context_op
use Rattle.builtin_kinds.specs.declared.PlainBuiltin.{PlainBuiltin}
use Rattle.builtin_kinds.specs.declared.PlainBuiltin.TheVariants as plain
use Rattle.task_table.specs.declared.errand.Callee.TheVariants as callee
use Rattle.task_table.specs.declared.slot.TaskSlot.{TaskSlot}
use Rattle.task_table.specs.Slots.{has_exited}
use Rattle.comp_graph.specs.declared.graph.BuiltinKind.{BuiltinKind}
use Rattle.comp_graph.specs.declared.graph.BuiltinKind.TheVariants as kind
use Rattle.comp_graph.specs.declared.graph.Lift.{Lift}
use Rattle.comp_graph.specs.Graph.{Graph}
use Rattle.comp_graph.specs.declared.graph.CanonFunc.{CanonFunc}
use Rattle.comp_graph.specs.declared.graph.CanonFunc.TheVariants as canon
use Rattle.graph_views.specs.Names.{builtin_of}
use Rattle.graph_views.specs.Callees.{kind_of}
use Rattle.trace_labels.specs.declared.label.Label.TheVariants as line
use Rattle.world_parts.specs.declared.parts.Flow.{Flow}
use Rattle.world_parts.specs.Held.{Held, Done, Stuck}
use Rattle.world_parts.specs.Feed.{told}
use Rattle.world_parts.specs.Calls.{call_begun}
use Rattle.world_parts.specs.Handles.{resource_new, resource_rep, resource_drop}
use Rattle.world_parts.specs.Plain.{context_get, context_put, backpressure_set, backpressure_inc, backpressure_dec, task_cancel, task_yield, return_asked}
use Rattle.world_parts.specs.Subtasks.{subtask_cancel, subtask_drop}
use Rattle.world_parts.specs.Waits.{set_new, set_drop, waitable_join}
use Rattle.replies.specs.Seen.{seen}
use Rattle.replies.specs.Replies.{answered, begun, builtin_reply, context_reply, lowered, may_leave, plain_reply, resource_reply, slot_has_exited}
use Rattle.value_parts.proofs.fit.Keeps.{KeepsBy, keeps_after, keeps_given, keeps_if, keeps_same, keeps_all, keeps_from}
use Rattle.value_parts.proofs.fit.Calls.{call_begun_keeps}
use Rattle.value_parts.proofs.fit.Feed.{told_keeps}
use Rattle.value_parts.proofs.fit.Handles.{resource_drop_keeps, resource_new_keeps, resource_rep_keeps}
use Rattle.value_parts.proofs.fit.Plain.{backpressure_dec_keeps, backpressure_inc_keeps, backpressure_set_keeps, context_get_keeps, context_put_keeps, return_asked_keeps, task_cancel_keeps, task_yield_keeps}
use Rattle.value_parts.proofs.fit.Subtasks.{subtask_cancel_keeps, subtask_drop_keeps}
use Rattle.value_parts.proofs.fit.Waits.{set_drop_keeps, set_new_keeps, waitable_join_keeps}

pub begun_keeps : (t : ℕ) (c : CanonFunc) (words : List ℕ) (h : Held) → KeepsBy h (begun t c words h)
begun_keeps t c words h =
    told_keeps (line.Do t (builtin_of c) words) h

pub lowered_keeps : (t : ℕ) (canon : ℕ) (lift : Lift) (words : List ℕ) (h : Held) → KeepsBy h (lowered t canon lift words h)
lowered_keeps t canon lift words h =
    call_begun_keeps t canon (callee.Lowered canon) lift.instance (kind_of lift.options) words h

pub resource_reply_keeps : (g : Graph) (t : ℕ) (at : ℕ) (canon : ℕ) (x : ResourceOp) (resource : ℕ) (words : List ℕ) (h : Held) → KeepsBy h (resource_reply g t at canon x resource words h)
resource_reply_keeps g t at canon resource_op.New resource words h =
    resource_new_keeps t at resource words h
resource_reply_keeps g t at canon resource_op.Drop resource words h =
    resource_drop_keeps (seen g) t at canon resource words h
resource_reply_keeps g t at canon resource_op.Rep resource words h =
    resource_rep_keeps t at resource words h

pub context_reply_keeps : (t : ℕ) (x : ContextOp) (number : ℕ) (words : List ℕ) (h : Held) → KeepsBy h (context_reply t x number words h)
context_reply_keeps t context_op.Get number words h =
    context_get_keeps t number h
context_reply_keeps t context_op.Set number words h =
    context_put_keeps t number words h

pub plain_reply_keeps : (g : Graph) (t : ℕ) (at : ℕ) (canon : ℕ) (x : PlainBuiltin) (words : List ℕ) (h : Held) → KeepsBy h (plain_reply g t at canon x words h)
plain_reply_keeps g t at canon plain.TaskCancel words h =
    task_cancel_keeps t h
plain_reply_keeps g t at canon plain.BackpressureSet words h =
    backpressure_set_keeps t at words h
plain_reply_keeps g t at canon plain.BackpressureInc words h =
    backpressure_inc_keeps t at h
plain_reply_keeps g t at canon plain.BackpressureDec words h =
    backpressure_dec_keeps t at h
plain_reply_keeps g t at canon (plain.SubtaskCancel is_async) words h =
    subtask_cancel_keeps t at canon words h
plain_reply_keeps g t at canon plain.SubtaskDrop words h =
    subtask_drop_keeps t at words h
plain_reply_keeps g t at canon (plain.Yield cancellable) words h =
    task_yield_keeps (seen g) t canon h
plain_reply_keeps g t at canon plain.WaitableSetNew words h =
    set_new_keeps t at h
plain_reply_keeps g t at canon plain.WaitableSetDrop words h =
    set_drop_keeps t at words h
plain_reply_keeps g t at canon plain.WaitableJoin words h =
    waitable_join_keeps t at words h

pub builtin_reply_keeps : (g : Graph) (t : ℕ) (at : ℕ) (canon : ℕ) (x : BuiltinKind) (words : List ℕ) (h : Held) → KeepsBy h (builtin_reply g t at canon x words h)
builtin_reply_keeps g t at canon (kind.Resource op resource) words h =
    resource_reply_keeps g t at canon op resource words h
builtin_reply_keeps g t at canon (kind.TaskReturn result options) words h =
    return_asked_keeps t h
builtin_reply_keeps g t at canon (kind.Plain op) words h =
    plain_reply_keeps g t at canon op words h
builtin_reply_keeps g t at canon (kind.Context op slot) words h =
    context_reply_keeps t op slot words h
builtin_reply_keeps g t at canon (kind.Wait op cancellable memory) words h =
    tt
builtin_reply_keeps g t at canon (kind.End of_what element op) words h =
    tt

pub answered_keeps : (g : Graph) (t : ℕ) (number : ℕ) (x : CanonFunc) (words : List ℕ) (h : Held) → KeepsBy h (answered g t number x words h)
answered_keeps g t number (canon.Lower l) words h =
    lowered_keeps t number l.lift words h
answered_keeps g t number (canon.Builtin b) words h =
    builtin_reply_keeps g t b.instance number b.kind words h

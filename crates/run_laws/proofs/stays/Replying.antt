-- Built-ins that answer, and calls of functions: the chain and the number of tasks stay, but where a part rests.
use Rattle.std.specs.Prelude.{ℕ, List}
use Rattle.builtin_kinds.specs.declared.ResourceOp.{ResourceOp}
use Rattle.builtin_kinds.specs.declared.ResourceOp.TheVariants as resource_op
use Rattle.builtin_kinds.specs.declared.ContextOp.{ContextOp}
use Rattle.builtin_kinds.specs.declared.ContextOp.TheVariants as context_op
use Rattle.builtin_kinds.specs.declared.PlainBuiltin.{PlainBuiltin}
use Rattle.builtin_kinds.specs.declared.PlainBuiltin.TheVariants as plain
use Rattle.task_table.specs.declared.errand.Callee.TheVariants as callee
use Rattle.comp_graph.specs.declared.graph.BuiltinKind.{BuiltinKind}
use Rattle.comp_graph.specs.declared.graph.BuiltinKind.TheVariants as kind
use Rattle.comp_graph.specs.declared.graph.Lift.{Lift}
use Rattle.comp_graph.specs.Graph.{Graph}
use Rattle.comp_graph.specs.declared.graph.CanonFunc.{CanonFunc}
use Rattle.comp_graph.specs.declared.graph.CanonFunc.TheVariants as canon
use Rattle.graph_views.specs.Names.{builtin_of}
use Rattle.graph_views.specs.Callees.{kind_of}
use Rattle.trace_labels.specs.declared.label.Label.TheVariants as line
use Rattle.world_parts.specs.Held.{Held}
use Rattle.replies.specs.Seen.{seen}
use Rattle.replies.specs.Replies.{answered, begun, builtin_reply, context_reply, lowered, plain_reply, resource_reply}
use Rattle.run_laws.proofs.stays.Calls.{call_begun_stays}
use Rattle.run_laws.proofs.stays.Feed.{told_stays}
use Rattle.run_laws.proofs.stays.Handles.{resource_drop_stays, resource_new_stays, resource_rep_stays}
use Rattle.run_laws.proofs.stays.Plain.{backpressure_dec_stays, backpressure_inc_stays, backpressure_set_stays, context_get_stays, context_put_stays, return_asked_stays, task_cancel_stays, task_yield_stays}
use Rattle.run_laws.proofs.stays.Subtasks.{subtask_cancel_stays, subtask_drop_stays}
use Rattle.run_laws.proofs.stays.Waits.{set_drop_stays, set_new_stays, waitable_join_stays}
use Rattle.run_laws.proofs.stays.Same.{StaysBy, FlowsBy}

pub begun_stays : (t : ℕ) (c : CanonFunc) (words : List ℕ) (h : Held) → StaysBy h (begun t c words h)
begun_stays t c words h =
    told_stays (line.Do t (builtin_of c) words) h

pub lowered_stays : (t : ℕ) (canon : ℕ) (lift : Lift) (words : List ℕ) (h : Held) → FlowsBy h (lowered t canon lift words h)
lowered_stays t canon lift words h =
    call_begun_stays t canon (callee.Lowered canon) lift.instance (kind_of lift.options) words h

pub resource_reply_stays : (g : Graph) (t : ℕ) (at : ℕ) (canon : ℕ) (x : ResourceOp) (resource : ℕ) (words : List ℕ) (h : Held) → FlowsBy h (resource_reply g t at canon x resource words h)
resource_reply_stays g t at canon resource_op.New resource words h =
    resource_new_stays t at resource words h
resource_reply_stays g t at canon resource_op.Drop resource words h =
    resource_drop_stays (seen g) t at canon resource words h
resource_reply_stays g t at canon resource_op.Rep resource words h =
    resource_rep_stays t at resource words h

pub context_reply_stays : (t : ℕ) (x : ContextOp) (number : ℕ) (words : List ℕ) (h : Held) → FlowsBy h (context_reply t x number words h)
context_reply_stays t context_op.Get number words h =
    context_get_stays t number h
context_reply_stays t context_op.Set number words h =
    context_put_stays t number words h

pub plain_reply_stays : (g : Graph) (t : ℕ) (at : ℕ) (canon : ℕ) (x : PlainBuiltin) (words : List ℕ) (h : Held) → FlowsBy h (plain_reply g t at canon x words h)
plain_reply_stays g t at canon plain.TaskCancel words h =
    task_cancel_stays t h
plain_reply_stays g t at canon plain.BackpressureSet words h =
    backpressure_set_stays t at words h
plain_reply_stays g t at canon plain.BackpressureInc words h =
    backpressure_inc_stays t at h
plain_reply_stays g t at canon plain.BackpressureDec words h =
    backpressure_dec_stays t at h
plain_reply_stays g t at canon (plain.SubtaskCancel is_async) words h =
    subtask_cancel_stays t at canon words h
plain_reply_stays g t at canon plain.SubtaskDrop words h =
    subtask_drop_stays t at words h
plain_reply_stays g t at canon (plain.Yield cancellable) words h =
    task_yield_stays (seen g) t canon h
plain_reply_stays g t at canon plain.WaitableSetNew words h =
    set_new_stays t at h
plain_reply_stays g t at canon plain.WaitableSetDrop words h =
    set_drop_stays t at words h
plain_reply_stays g t at canon plain.WaitableJoin words h =
    waitable_join_stays t at words h

pub builtin_reply_stays : (g : Graph) (t : ℕ) (at : ℕ) (canon : ℕ) (x : BuiltinKind) (words : List ℕ) (h : Held) → FlowsBy h (builtin_reply g t at canon x words h)
builtin_reply_stays g t at canon (kind.Resource op resource) words h =
    resource_reply_stays g t at canon op resource words h
builtin_reply_stays g t at canon (kind.TaskReturn result options) words h =
    return_asked_stays t h
builtin_reply_stays g t at canon (kind.Plain op) words h =
    plain_reply_stays g t at canon op words h
builtin_reply_stays g t at canon (kind.Context op slot) words h =
    context_reply_stays t op slot words h
builtin_reply_stays g t at canon (kind.Wait op cancellable memory) words h =
    tt
builtin_reply_stays g t at canon (kind.End of_what element op) words h =
    tt

pub answered_stays : (g : Graph) (t : ℕ) (number : ℕ) (x : CanonFunc) (words : List ℕ) (h : Held) → FlowsBy h (answered g t number x words h)
answered_stays g t number (canon.Lower l) words h =
    lowered_stays t number l.lift words h
answered_stays g t number (canon.Builtin b) words h =
    builtin_reply_stays g t b.instance number b.kind words h

-- Built-ins that answer, and calls of functions, keep memories, core instances and ends as they are kept.
use Rattle.std.specs.Prelude.{ℕ, List}
use Rattle.builtin_kinds.specs.declared.ResourceOp.{ResourceOp}
use Rattle.builtin_kinds.specs.declared.ResourceOp.TheVariants as resource_op
use Rattle.builtin_kinds.specs.declared.ContextOp.{ContextOp}
use Rattle.builtin_kinds.specs.declared.ContextOp.TheVariants as context_op
use Rattle.builtin_kinds.specs.declared.PlainBuiltin.{PlainBuiltin}
use Rattle.builtin_kinds.specs.declared.PlainBuiltin.TheVariants as plain
use Rattle.task_table.specs.declared.errand.Callee.TheVariants as callee
use Rattle.comp_graph.specs.declared.graph.BuiltinKind.{BuiltinKind}
use Rattle.comp_graph.specs.declared.graph.BuiltinKind.TheVariants as kind
use Rattle.comp_graph.specs.declared.graph.Lift.{Lift}
use Rattle.comp_graph.specs.Graph.{Graph}
use Rattle.comp_graph.specs.declared.graph.CanonFunc.{CanonFunc}
use Rattle.comp_graph.specs.declared.graph.CanonFunc.TheVariants as canon
use Rattle.graph_views.specs.Names.{builtin_of}
use Rattle.graph_views.specs.Callees.{kind_of}
use Rattle.trace_labels.specs.declared.label.Label.TheVariants as line
use Rattle.world_parts.specs.Held.{Held}
use Rattle.replies.specs.Seen.{seen}
use Rattle.replies.specs.Replies.{answered, begun, builtin_reply, context_reply, lowered, plain_reply, resource_reply}
use Rattle.run_laws.proofs.keeping.still.Still.{Kinds, StillBy}
use Rattle.run_laws.proofs.keeping.still.Calls.{call_begun_still}
use Rattle.run_laws.proofs.keeping.still.Feed.{told_still}
use Rattle.run_laws.proofs.keeping.still.Handles.{resource_drop_still, resource_new_still, resource_rep_still}
use Rattle.run_laws.proofs.keeping.still.Plain.{backpressure_dec_still, backpressure_inc_still, backpressure_set_still, context_get_still, context_put_still, return_asked_still, task_cancel_still, task_yield_still}
use Rattle.run_laws.proofs.keeping.still.Subtasks.{subtask_cancel_still, subtask_drop_still}
use Rattle.run_laws.proofs.keeping.still.Waits.{set_drop_still, set_new_still, waitable_join_still}

pub begun_still : (W : Kinds) → (t : ℕ) (c : CanonFunc) (words : List ℕ) (h : Held) → StillBy W h (begun t c words h)
begun_still W t c words h =
    told_still W (line.Do t (builtin_of c) words) h

pub lowered_still : (W : Kinds) → (t : ℕ) (canon : ℕ) (lift : Lift) (words : List ℕ) (h : Held) → StillBy W h (lowered t canon lift words h)
lowered_still W t canon lift words h =
    call_begun_still W t canon (callee.Lowered canon) lift.instance (kind_of lift.options) words h

pub resource_reply_still : (W : Kinds) → (g : Graph) (t : ℕ) (at : ℕ) (canon : ℕ) (x : ResourceOp) (resource : ℕ) (words : List ℕ) (h : Held) → StillBy W h (resource_reply g t at canon x resource words h)
resource_reply_still W g t at canon resource_op.New resource words h =
    resource_new_still W t at resource words h
resource_reply_still W g t at canon resource_op.Drop resource words h =
    resource_drop_still W (seen g) t at canon resource words h
resource_reply_still W g t at canon resource_op.Rep resource words h =
    resource_rep_still W t at resource words h

pub context_reply_still : (W : Kinds) → (t : ℕ) (x : ContextOp) (number : ℕ) (words : List ℕ) (h : Held) → StillBy W h (context_reply t x number words h)
context_reply_still W t context_op.Get number words h =
    context_get_still W t number h
context_reply_still W t context_op.Set number words h =
    context_put_still W t number words h

pub plain_reply_still : (W : Kinds) → (g : Graph) (t : ℕ) (at : ℕ) (canon : ℕ) (x : PlainBuiltin) (words : List ℕ) (h : Held) → StillBy W h (plain_reply g t at canon x words h)
plain_reply_still W g t at canon plain.TaskCancel words h =
    task_cancel_still W t h
plain_reply_still W g t at canon plain.BackpressureSet words h =
    backpressure_set_still W t at words h
plain_reply_still W g t at canon plain.BackpressureInc words h =
    backpressure_inc_still W t at h
plain_reply_still W g t at canon plain.BackpressureDec words h =
    backpressure_dec_still W t at h
plain_reply_still W g t at canon (plain.SubtaskCancel is_async) words h =
    subtask_cancel_still W t at canon words h
plain_reply_still W g t at canon plain.SubtaskDrop words h =
    subtask_drop_still W t at words h
plain_reply_still W g t at canon (plain.Yield cancellable) words h =
    task_yield_still W (seen g) t canon h
plain_reply_still W g t at canon plain.WaitableSetNew words h =
    set_new_still W t at h
plain_reply_still W g t at canon plain.WaitableSetDrop words h =
    set_drop_still W t at words h
plain_reply_still W g t at canon plain.WaitableJoin words h =
    waitable_join_still W t at words h

pub builtin_reply_still : (W : Kinds) → (g : Graph) (t : ℕ) (at : ℕ) (canon : ℕ) (x : BuiltinKind) (words : List ℕ) (h : Held) → StillBy W h (builtin_reply g t at canon x words h)
builtin_reply_still W g t at canon (kind.Resource op resource) words h =
    resource_reply_still W g t at canon op resource words h
builtin_reply_still W g t at canon (kind.TaskReturn result options) words h =
    return_asked_still W t h
builtin_reply_still W g t at canon (kind.Plain op) words h =
    plain_reply_still W g t at canon op words h
builtin_reply_still W g t at canon (kind.Context op slot) words h =
    context_reply_still W t op slot words h
builtin_reply_still W g t at canon (kind.Wait op cancellable memory) words h =
    tt
builtin_reply_still W g t at canon (kind.End of_what element op) words h =
    tt

pub answered_still : (W : Kinds) → (g : Graph) (t : ℕ) (number : ℕ) (x : CanonFunc) (words : List ℕ) (h : Held) → StillBy W h (answered g t number x words h)
answered_still W g t number (canon.Lower l) words h =
    lowered_still W t number l.lift words h
answered_still W g t number (canon.Builtin b) words h =
    builtin_reply_still W g t b.instance number b.kind words h

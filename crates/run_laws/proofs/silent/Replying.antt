-- Built-ins that answer, and calls of functions: no event is to come next.
use Rattle.std.specs.Prelude.{ℕ, List}
use Rattle.builtin_kinds.specs.declared.ResourceOp.{ResourceOp}
use Rattle.builtin_kinds.specs.declared.ResourceOp.TheVariants as resource_op
use Rattle.builtin_kinds.specs.declared.ContextOp.{ContextOp}
use Rattle.builtin_kinds.specs.declared.ContextOp.TheVariants as context_op
use Rattle.builtin_kinds.specs.declared.PlainBuiltin.{PlainBuiltin}
use Rattle.builtin_kinds.specs.declared.PlainBuiltin.TheVariants as plain
use Rattle.task_table.specs.declared.errand.Callee.TheVariants as callee
use Rattle.comp_graph.specs.declared.graph.BuiltinKind.{BuiltinKind}
use Rattle.comp_graph.specs.declared.graph.BuiltinKind.TheVariants as kind
use Rattle.comp_graph.specs.declared.graph.Lift.{Lift}
use Rattle.comp_graph.specs.Graph.{Graph}
use Rattle.comp_graph.specs.declared.graph.CanonFunc.{CanonFunc}
use Rattle.comp_graph.specs.declared.graph.CanonFunc.TheVariants as canon
use Rattle.graph_views.specs.Callees.{kind_of}
use Rattle.world_parts.specs.Held.{Held}
use Rattle.replies.specs.Seen.{seen}
use Rattle.replies.specs.Replies.{answered, builtin_reply, context_reply, lowered, plain_reply, resource_reply}
use Rattle.run_laws.proofs.silent.Calls.{call_begun_silent}
use Rattle.run_laws.proofs.silent.Handles.{resource_drop_silent, resource_new_silent, resource_rep_silent}
use Rattle.run_laws.proofs.silent.Plain.{backpressure_dec_silent, backpressure_inc_silent, backpressure_set_silent, context_get_silent, context_put_silent, return_asked_silent, task_cancel_silent, task_yield_silent}
use Rattle.run_laws.proofs.silent.Subtasks.{subtask_cancel_silent, subtask_drop_silent}
use Rattle.run_laws.proofs.silent.Waits.{set_drop_silent, set_new_silent, waitable_join_silent}
use Rattle.run_laws.proofs.silent.Silent.{SilentBy}

pub lowered_silent : (t : ℕ) (canon : ℕ) (lift : Lift) (words : List ℕ) (h : Held) → SilentBy (lowered t canon lift words h)
lowered_silent t canon lift words h =
    call_begun_silent t canon (callee.Lowered canon) lift.instance (kind_of lift.options) words h

pub resource_reply_silent : (g : Graph) (t : ℕ) (at : ℕ) (canon : ℕ) (x : ResourceOp) (resource : ℕ) (words : List ℕ) (h : Held) → SilentBy (resource_reply g t at canon x resource words h)
resource_reply_silent g t at canon resource_op.New resource words h =
    resource_new_silent t at resource words h
resource_reply_silent g t at canon resource_op.Drop resource words h =
    resource_drop_silent (seen g) t at canon resource words h
resource_reply_silent g t at canon resource_op.Rep resource words h =
    resource_rep_silent t at resource words h

pub context_reply_silent : (t : ℕ) (x : ContextOp) (number : ℕ) (words : List ℕ) (h : Held) → SilentBy (context_reply t x number words h)
context_reply_silent t context_op.Get number words h =
    context_get_silent t number h
context_reply_silent t context_op.Set number words h =
    context_put_silent t number words h

pub plain_reply_silent : (g : Graph) (t : ℕ) (at : ℕ) (canon : ℕ) (x : PlainBuiltin) (words : List ℕ) (h : Held) → SilentBy (plain_reply g t at canon x words h)
plain_reply_silent g t at canon plain.TaskCancel words h =
    task_cancel_silent t h
plain_reply_silent g t at canon plain.BackpressureSet words h =
    backpressure_set_silent t at words h
plain_reply_silent g t at canon plain.BackpressureInc words h =
    backpressure_inc_silent t at h
plain_reply_silent g t at canon plain.BackpressureDec words h =
    backpressure_dec_silent t at h
plain_reply_silent g t at canon (plain.SubtaskCancel is_async) words h =
    subtask_cancel_silent t at canon words h
plain_reply_silent g t at canon plain.SubtaskDrop words h =
    subtask_drop_silent t at words h
plain_reply_silent g t at canon (plain.Yield cancellable) words h =
    task_yield_silent (seen g) t canon h
plain_reply_silent g t at canon plain.WaitableSetNew words h =
    set_new_silent t at h
plain_reply_silent g t at canon plain.WaitableSetDrop words h =
    set_drop_silent t at words h
plain_reply_silent g t at canon plain.WaitableJoin words h =
    waitable_join_silent t at words h

pub builtin_reply_silent : (g : Graph) (t : ℕ) (at : ℕ) (canon : ℕ) (x : BuiltinKind) (words : List ℕ) (h : Held) → SilentBy (builtin_reply g t at canon x words h)
builtin_reply_silent g t at canon (kind.Resource op resource) words h =
    resource_reply_silent g t at canon op resource words h
builtin_reply_silent g t at canon (kind.TaskReturn result options) words h =
    return_asked_silent t h
builtin_reply_silent g t at canon (kind.Plain op) words h =
    plain_reply_silent g t at canon op words h
builtin_reply_silent g t at canon (kind.Context op slot) words h =
    context_reply_silent t op slot words h
builtin_reply_silent g t at canon (kind.Wait op cancellable memory) words h =
    tt
builtin_reply_silent g t at canon (kind.End of_what element op) words h =
    tt

pub answered_silent : (g : Graph) (t : ℕ) (number : ℕ) (x : CanonFunc) (words : List ℕ) (h : Held) → SilentBy (answered g t number x words h)
answered_silent g t number (canon.Lower l) words h =
    lowered_silent t number l.lift words h
answered_silent g t number (canon.Builtin b) words h =
    builtin_reply_silent g t b.instance number b.kind words h

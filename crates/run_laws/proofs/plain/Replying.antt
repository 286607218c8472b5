-- Built-ins that answer, and calls of functions: what is given is words, a rest, or a core function that starts.
use Rattle.std.specs.Prelude.{ℕ, List}
use Rattle.builtin_kinds.specs.declared.ResourceOp.{ResourceOp}
use Rattle.builtin_kinds.specs.declared.ResourceOp.TheVariants as resource_op
use Rattle.builtin_kinds.specs.declared.ContextOp.{ContextOp}
use Rattle.builtin_kinds.specs.declared.ContextOp.TheVariants as context_op
use Rattle.builtin_kinds.specs.declared.PlainBuiltin.{PlainBuiltin}
use Rattle.builtin_kinds.specs.declared.PlainBuiltin.TheVariants as plain
use Rattle.task_table.specs.declared.errand.Callee.TheVariants as callee
use Rattle.comp_graph.specs.declared.graph.Lift.{Lift}
use Rattle.comp_graph.specs.Graph.{Graph}
use Rattle.graph_views.specs.Callees.{kind_of}
use Rattle.world_parts.specs.Held.{Held}
use Rattle.replies.specs.Seen.{seen}
use Rattle.replies.specs.Replies.{context_reply, lowered, plain_reply, resource_reply}
use Rattle.run_laws.proofs.plain.Calls.{call_begun_plain}
use Rattle.run_laws.proofs.plain.Handles.{resource_drop_plain, resource_new_plain, resource_rep_plain}
use Rattle.run_laws.proofs.plain.Plain.{backpressure_dec_plain, backpressure_inc_plain, backpressure_set_plain, context_get_plain, context_put_plain, task_cancel_plain, task_yield_plain}
use Rattle.run_laws.proofs.plain.Subtasks.{subtask_cancel_plain, subtask_drop_plain}
use Rattle.run_laws.proofs.plain.Waits.{set_drop_plain, set_new_plain, waitable_join_plain}
use Rattle.run_laws.proofs.plain.Only.{PlainBy}

pub lowered_plain : (t : ℕ) (canon : ℕ) (lift : Lift) (words : List ℕ) (h : Held) → PlainBy (lowered t canon lift words h)
lowered_plain t canon lift words h =
    call_begun_plain t canon (callee.Lowered canon) lift.instance (kind_of lift.options) words h

pub resource_reply_plain : (g : Graph) (t : ℕ) (at : ℕ) (canon : ℕ) (x : ResourceOp) (resource : ℕ) (words : List ℕ) (h : Held) → PlainBy (resource_reply g t at canon x resource words h)
resource_reply_plain g t at canon resource_op.New resource words h =
    resource_new_plain t at resource words h
resource_reply_plain g t at canon resource_op.Drop resource words h =
    resource_drop_plain (seen g) t at canon resource words h
resource_reply_plain g t at canon resource_op.Rep resource words h =
    resource_rep_plain t at resource words h

pub context_reply_plain : (t : ℕ) (x : ContextOp) (number : ℕ) (words : List ℕ) (h : Held) → PlainBy (context_reply t x number words h)
context_reply_plain t context_op.Get number words h =
    context_get_plain t number h
context_reply_plain t context_op.Set number words h =
    context_put_plain t number words h

pub plain_reply_plain : (g : Graph) (t : ℕ) (at : ℕ) (canon : ℕ) (x : PlainBuiltin) (words : List ℕ) (h : Held) → PlainBy (plain_reply g t at canon x words h)
plain_reply_plain g t at canon plain.TaskCancel words h =
    task_cancel_plain t h
plain_reply_plain g t at canon plain.BackpressureSet words h =
    backpressure_set_plain t at words h
plain_reply_plain g t at canon plain.BackpressureInc words h =
    backpressure_inc_plain t at h
plain_reply_plain g t at canon plain.BackpressureDec words h =
    backpressure_dec_plain t at h
plain_reply_plain g t at canon (plain.SubtaskCancel is_async) words h =
    subtask_cancel_plain t at canon words h
plain_reply_plain g t at canon plain.SubtaskDrop words h =
    subtask_drop_plain t at words h
plain_reply_plain g t at canon (plain.Yield cancellable) words h =
    task_yield_plain (seen g) t canon h
plain_reply_plain g t at canon plain.WaitableSetNew words h =
    set_new_plain t at h
plain_reply_plain g t at canon plain.WaitableSetDrop words h =
    set_drop_plain t at words h
plain_reply_plain g t at canon plain.WaitableJoin words h =
    waitable_join_plain t at words h

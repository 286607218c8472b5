-- Answers of canonical functions keep all marks.
use Rattle.std.proofs.Common.{◌≡◌, sym, ◌∙◌, subst}
use Rattle.std.specs.Prelude.{ℕ, List, Option, Some}
use Rattle.builtin_kinds.specs.declared.ResourceOp.{ResourceOp}
use Rattle.builtin_kinds.specs.declared.ResourceOp.TheVariants as resource_op
use Rattle.builtin_kinds.specs.declared.ContextOp.{ContextOp}
use Rattle.builtin_kinds.specs.declared.ContextOp.TheVariants as context_op
use Rattle.builtin_kinds.specs.declared.PlainBuiltin.{PlainBuiltin}
use Rattle.builtin_kinds.specs.declared.PlainBuiltin.TheVariants as plain
use Rattle.task_table.specs.declared.errand.Callee.TheVariants as callee
use Rattle.comp_graph.specs.declared.graph.BuiltinKind.{BuiltinKind}
use Rattle.comp_graph.specs.declared.graph.BuiltinKind.TheVariants as kind
use Rattle.comp_graph.specs.declared.graph.CanonFunc.{CanonFunc}
use Rattle.comp_graph.specs.declared.graph.CanonFunc.TheVariants as canon
use Rattle.comp_graph.specs.Graph.{Graph}
use Rattle.graph_views.specs.Callees.{kind_of}
use Rattle.graph_views.specs.Canons.{canon_at}
use Rattle.world_parts.specs.Held.{Held}
use Rattle.world_parts.specs.Calls.{call_begun}
use Rattle.world_parts.specs.Handles.{resource_new, resource_rep, resource_drop}
use Rattle.world_parts.specs.Plain.{context_get, context_put, backpressure_inc, backpressure_dec, backpressure_set, return_asked, task_cancel, task_yield}
use Rattle.world_parts.specs.Subtasks.{subtask_cancel, subtask_drop}
use Rattle.world_parts.specs.Waits.{set_new, set_drop, waitable_join, set_wait}
use Rattle.replies.specs.Seen.{seen}
use Rattle.replies.specs.Replies.{answered, builtin_reply, context_reply, plain_reply, resource_reply}
use Rattle.copy_replies.specs.Replies.{end_reply}
use Rattle.machine_runs.specs.Calling.{kind_answered}
use Rattle.abi_machine.proofs.sound.Found.{some_same}
use Rattle.standing.proofs.marks.Calls.{call_begun_stays}
use Rattle.standing.proofs.marks.EndReplies.{end_reply_stays}
use Rattle.standing.proofs.marks.Handles.{resource_drop_stays, resource_new_stays, resource_rep_stays}
use Rattle.standing.proofs.marks.Plain.{backpressure_dec_stays, backpressure_inc_stays, backpressure_set_stays, context_get_stays, context_put_stays, return_asked_stays, task_cancel_stays, task_yield_stays}
use Rattle.standing.proofs.marks.Subtasks.{subtask_cancel_stays, subtask_drop_stays}
use Rattle.standing.proofs.marks.Waits.{set_drop_stays, set_new_stays, waitable_join_stays, set_wait_stays}
use Rattle.run_laws.specs.keeping.Answers.{CallsWell, AnswersKeepAll}
use Rattle.run_laws.specs.keeping.Kept.{KeepsMarks}
use Rattle.run_laws.proofs.keeping.Every.{all_by}
use Rattle.run_laws.proofs.keeping.parts.Calls.{call_begun_keeps}
use Rattle.run_laws.proofs.keeping.parts.EndReplies.{MadeWell, end_reply_keeps}
use Rattle.run_laws.proofs.keeping.parts.Handles.{resource_drop_keeps, resource_new_keeps, resource_rep_keeps}
use Rattle.run_laws.proofs.keeping.parts.Plain.{backpressure_dec_keeps, backpressure_inc_keeps, backpressure_set_keeps, context_get_keeps, context_put_keeps, return_asked_keeps, task_cancel_keeps, task_yield_keeps}
use Rattle.run_laws.proofs.keeping.parts.Subtasks.{subtask_cancel_keeps, subtask_drop_keeps}
use Rattle.run_laws.proofs.keeping.parts.Waits.{set_drop_keeps, set_new_keeps, waitable_join_keeps, set_wait_keeps}

resource_marks : (g : Graph) (t at canon : ℕ) (op : ResourceOp) (resource : ℕ) (words : List ℕ) (h : Held) → CallsWell h t at → KeepsMarks h (resource_reply g t at canon op resource words h)
resource_marks g t at canon resource_op.New resource words h own =
    all_by h (resource_new t at resource words h) (resource_new_stays t at resource words h) (resource_new_keeps t at resource words h own.sound own.unlent)
resource_marks g t at canon resource_op.Drop resource words h own =
    all_by h (resource_drop (seen g) t at canon resource words h) (resource_drop_stays (seen g) t at canon resource words h) (resource_drop_keeps (seen g) t at canon resource words h own.numbers)
resource_marks g t at canon resource_op.Rep resource words h own =
    all_by h (resource_rep t at resource words h) (resource_rep_stays t at resource words h) (resource_rep_keeps t at resource words h)

context_marks : (t : ℕ) (op : ContextOp) (number : ℕ) (words : List ℕ) (h : Held) → KeepsMarks h (context_reply t op number words h)
context_marks t context_op.Get number words h = all_by h (context_get t number h) (context_get_stays t number h) (context_get_keeps t number h)
context_marks t context_op.Set number words h = all_by h (context_put t number words h) (context_put_stays t number words h) (context_put_keeps t number words h)

plain_marks : (g : Graph) (t at canon : ℕ) (op : PlainBuiltin) (words : List ℕ) (h : Held) → CallsWell h t at → KeepsMarks h (plain_reply g t at canon op words h)
plain_marks g t at canon plain.TaskCancel words h own = all_by h (task_cancel t h) (task_cancel_stays t h) (task_cancel_keeps t h)
plain_marks g t at canon plain.BackpressureSet words h own =
    all_by h (backpressure_set t at words h) (backpressure_set_stays t at words h) (backpressure_set_keeps t at words h)
plain_marks g t at canon plain.BackpressureInc words h own = all_by h (backpressure_inc t at h) (backpressure_inc_stays t at h) (backpressure_inc_keeps t at h)
plain_marks g t at canon plain.BackpressureDec words h own = all_by h (backpressure_dec t at h) (backpressure_dec_stays t at h) (backpressure_dec_keeps t at h)
plain_marks g t at canon (plain.SubtaskCancel is_async) words h own =
    all_by h (subtask_cancel t at canon words h) (subtask_cancel_stays t at canon words h own.calls) (subtask_cancel_keeps t at canon words h)
plain_marks g t at canon plain.SubtaskDrop words h own = all_by h (subtask_drop t at words h) (subtask_drop_stays t at words h) (subtask_drop_keeps t at words h)
plain_marks g t at canon (plain.Yield cancellable) words h own = all_by h (task_yield (seen g) t canon h) (task_yield_stays (seen g) t canon h) (task_yield_keeps (seen g) t canon h own.asked)
plain_marks g t at canon plain.WaitableSetNew words h own = all_by h (set_new t at h) (set_new_stays t at h own.calls.next) (set_new_keeps t at h own.sound)
plain_marks g t at canon plain.WaitableSetDrop words h own = all_by h (set_drop t at words h) (set_drop_stays t at words h) (set_drop_keeps t at words h)
plain_marks g t at canon plain.WaitableJoin words h own = all_by h (waitable_join t at words h) (waitable_join_stays t at words h) (waitable_join_keeps t at words h)

builtin_marks : (g : Graph) (t at canon : ℕ) (k : BuiltinKind) (words : List ℕ) (h : Held) → CallsWell h t at → KeepsMarks h (builtin_reply g t at canon k words h)
builtin_marks g t at canon (kind.Resource op resource) words h own = resource_marks g t at canon op resource words h own
builtin_marks g t at canon (kind.TaskReturn result options) words h own = all_by h (return_asked t h) (return_asked_stays t h) (return_asked_keeps t h)
builtin_marks g t at canon (kind.Plain op) words h own = plain_marks g t at canon op words h own
builtin_marks g t at canon (kind.Context op slot) words h own = context_marks t op slot words h
builtin_marks g t at canon (kind.Wait op cancellable memory) words h own = tt
builtin_marks g t at canon (kind.End of_what element op) words h own = tt

-- The canonical function of the number is this one.
made_well : (g : Graph) (t number : ℕ) (c : CanonFunc) (h : Held) → canon_at g number ≡ Some c → MadeWell h t c → (d : CanonFunc) → canon_at g number ≡ Some d → MadeWell h t d
made_well g t number c h is well d e = subst (λ (x : CanonFunc). MadeWell h t x) (some_same (sym is ∙ e)) well

kind_marks : (g : Graph) (types : List (Option ℕ)) (t number : ℕ) (c : CanonFunc) (at : ℕ) (k : BuiltinKind) (words : List ℕ) (h : Held) → canon_at g number ≡ Some c → MadeWell h t c
    → KeepsMarks h (answered g t number c words h) → CallsWell h t at → KeepsMarks h (kind_answered g types t number c at k words h)
kind_marks g types t number c at (kind.Resource op resource) words h is well reply own = reply
kind_marks g types t number c at (kind.TaskReturn result options) words h is well reply own = reply
kind_marks g types t number c at (kind.Plain op) words h is well reply own = reply
kind_marks g types t number c at (kind.Context op slot) words h is well reply own = reply
kind_marks g types t number c at (kind.Wait op cancellable memory) words h is well reply own =
    all_by h (set_wait (seen g) t at number op words h) (set_wait_stays (seen g) t at number op words h own.calls)
    (set_wait_keeps (seen g) t at number op words h own.own own.gave own.asked)
kind_marks g types t number c at (kind.End of_what element op) words h is well reply own =
    all_by h (end_reply g types t number words h) (end_reply_stays g types t number words h) (end_reply_keeps g types t number words h (made_well g t number c h is well))

pub answers_keep_all : AnswersKeepAll
answers_keep_all g types t number (canon.Lower l) words h is numbers =
    all_by h (call_begun t number (callee.Lowered number) l.lift.instance (kind_of l.lift.options) words h)
    (call_begun_stays t number (callee.Lowered number) l.lift.instance (kind_of l.lift.options) words h)
    (call_begun_keeps t number (callee.Lowered number) l.lift.instance (kind_of l.lift.options) words h numbers)
answers_keep_all g types t number (canon.Builtin b) words h is own =
    kind_marks g types t number (canon.Builtin b) b.instance b.kind words h is (own.sound, own.calls.caller) (builtin_marks g t b.instance number b.kind words h own) own

-- Built-ins keep the marks of gates and of sets.
use Rattle.standing.specs.MarksKept.{SetsKeepMarks, SubtasksKeepMarks, CallsKeepMarks, HandlesKeepMarks, ContextKeepsMarks, PressureKeepsMarks, TasksKeepMarks, EndsKeepMarks}
use Rattle.standing.proofs.marks.Calls.{call_begun_stays}
use Rattle.standing.proofs.marks.Copies.{channel_new_stays, copy_cancel_stays, end_drop_stays}
use Rattle.standing.proofs.marks.Handles.{resource_new_stays, resource_rep_stays, resource_drop_stays}
use Rattle.standing.proofs.marks.Plain.{context_get_stays, context_put_stays, backpressure_inc_stays, backpressure_dec_stays, backpressure_set_stays, return_asked_stays, task_cancel_stays, task_yield_stays}
use Rattle.standing.proofs.marks.Reads.{copy_asked_stays}
use Rattle.standing.proofs.marks.Subtasks.{subtask_cancel_stays, subtask_drop_stays}
use Rattle.standing.proofs.marks.Waits.{set_new_stays, set_drop_stays, waitable_join_stays, set_wait_stays}

pub sets_keep_marks : SetsKeepMarks
sets_keep_marks g t at canon op words h own =
    (set_new_stays t at h own.next, set_drop_stays t at words h, waitable_join_stays t at words h, set_wait_stays g t at canon op words h own)

pub subtasks_keep_marks : SubtasksKeepMarks
subtasks_keep_marks t at canon words h own = (subtask_cancel_stays t at canon words h own, subtask_drop_stays t at words h)

pub calls_keep_marks : CallsKeepMarks
calls_keep_marks t canon instance callee kind words h = call_begun_stays t canon callee instance kind words h

pub handles_keep_marks : HandlesKeepMarks
handles_keep_marks g t at canon resource words h =
    (resource_new_stays t at resource words h, resource_rep_stays t at resource words h, resource_drop_stays g t at canon resource words h)

pub context_keeps_marks : ContextKeepsMarks
context_keeps_marks t number words h = (context_get_stays t number h, context_put_stays t number words h)

pub pressure_keeps_marks : PressureKeepsMarks
pressure_keeps_marks t at words h = (backpressure_inc_stays t at h, backpressure_dec_stays t at h, backpressure_set_stays t at words h)

pub tasks_keep_marks : TasksKeepMarks
tasks_keep_marks g t canon h = (return_asked_stays t h, task_cancel_stays t h, task_yield_stays g t canon h)

pub ends_keep_marks : EndsKeepMarks
ends_keep_marks g element t at canon kind side type words h =
    (channel_new_stays t at kind type h, copy_asked_stays g element t at canon kind side type words h, copy_cancel_stays g t at kind side type words h, end_drop_stays t at kind side type words h)

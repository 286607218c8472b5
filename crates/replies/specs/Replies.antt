-- Calls of canonical functions (Component Model, CanonicalABI.md, "Canonical Definitions"; "Component Instance State": `may_leave`): the line
-- comes first. Whether one may be called is told by `may_leave`, and asked by who calls it. Built-ins that ask
-- for an event of a set, and those of the ends of streams and futures, are answered elsewhere.
use Rattle.std.specs.Prelude.{ℕ, Bool, false, List, Option, Some, None}
use Rattle.std.specs.List.{slice_get}
use Rattle.builtin_kinds.specs.declared.ResourceOp.{ResourceOp}
use Rattle.builtin_kinds.specs.declared.ResourceOp.TheVariants as resource_op
use Rattle.builtin_kinds.specs.declared.ContextOp.{ContextOp}
use Rattle.builtin_kinds.specs.declared.ContextOp.TheVariants as context_op
use Rattle.builtin_kinds.specs.declared.PlainBuiltin.{PlainBuiltin}
use Rattle.builtin_kinds.specs.declared.PlainBuiltin.TheVariants as plain
use Rattle.task_table.specs.declared.errand.Callee.TheVariants as callee
use Rattle.task_table.specs.declared.slot.TaskSlot.{TaskSlot}
use Rattle.task_table.specs.Slots.{has_exited}
use Rattle.comp_graph.specs.declared.graph.BuiltinKind.{BuiltinKind}
use Rattle.comp_graph.specs.declared.graph.BuiltinKind.TheVariants as kind
use Rattle.comp_graph.specs.declared.graph.Lift.{Lift}
use Rattle.comp_graph.specs.Graph.{Graph}
use Rattle.comp_graph.specs.declared.graph.CanonFunc.{CanonFunc}
use Rattle.comp_graph.specs.declared.graph.CanonFunc.TheVariants as canon
use Rattle.graph_views.specs.Names.{builtin_of}
use Rattle.graph_views.specs.Callees.{kind_of}
use Rattle.trace_labels.specs.declared.label.Label.TheVariants as line
use Rattle.world_parts.specs.declared.parts.Flow.{Flow}
use Rattle.world_parts.specs.Held.{Held, Done, Stuck}
use Rattle.world_parts.specs.Feed.{told}
use Rattle.world_parts.specs.Calls.{call_begun}
use Rattle.world_parts.specs.Handles.{resource_new, resource_rep, resource_drop}
use Rattle.world_parts.specs.Plain.{context_get, context_put, backpressure_set, backpressure_inc, backpressure_dec, task_cancel, task_yield, return_asked}
use Rattle.world_parts.specs.Subtasks.{subtask_cancel, subtask_drop}
use Rattle.world_parts.specs.Waits.{set_new, set_drop, waitable_join}
use Rattle.replies.specs.Seen.{seen}

-- all is instantiated
abbrev pub slot_has_exited : Option TaskSlot → Bool
slot_has_exited None = false
slot_has_exited (Some slot) = has_exited slot.task.phase

abbrev pub may_leave : Held → Bool
may_leave h = slot_has_exited (slice_get h.tasks 0)

-- the line of a call, with its words
abbrev pub begun : ℕ → CanonFunc → List ℕ → Held → Done (Unit {0})
begun t c words h = told (line.Do t (builtin_of c) words) h

-- A task calls the function that a canonical function lowers.
abbrev pub lowered : ℕ → ℕ → Lift → List ℕ → Held → Done Flow
lowered t canon lift words h = call_begun t canon (callee.Lowered canon) lift.instance (kind_of lift.options) words h

-- those of a resource
abbrev pub resource_reply : Graph → ℕ → ℕ → ℕ → ResourceOp → ℕ → List ℕ → Held → Done Flow
resource_reply g t at canon resource_op.New resource words h = resource_new t at resource words h
resource_reply g t at canon resource_op.Drop resource words h = resource_drop (seen g) t at canon resource words h
resource_reply g t at canon resource_op.Rep resource words h = resource_rep t at resource words h

abbrev pub context_reply : ℕ → ContextOp → ℕ → List ℕ → Held → Done Flow
context_reply t context_op.Get number words h = context_get t number h
context_reply t context_op.Set number words h = context_put t number words h

-- those that name nothing
abbrev pub plain_reply : Graph → ℕ → ℕ → ℕ → PlainBuiltin → List ℕ → Held → Done Flow
plain_reply g t at canon plain.TaskCancel words h = task_cancel t h
plain_reply g t at canon plain.BackpressureSet words h = backpressure_set t at words h
plain_reply g t at canon plain.BackpressureInc words h = backpressure_inc t at h
plain_reply g t at canon plain.BackpressureDec words h = backpressure_dec t at h
plain_reply g t at canon (plain.SubtaskCancel is_async) words h = subtask_cancel t at canon words h
plain_reply g t at canon plain.SubtaskDrop words h = subtask_drop t at words h
plain_reply g t at canon (plain.Yield cancellable) words h = task_yield (seen g) t canon h
plain_reply g t at canon plain.WaitableSetNew words h = set_new t at h
plain_reply g t at canon plain.WaitableSetDrop words h = set_drop t at words h
plain_reply g t at canon plain.WaitableJoin words h = waitable_join t at words h

-- all of them but those that ask for an event and those of ends
abbrev pub builtin_reply : Graph → ℕ → ℕ → ℕ → BuiltinKind → List ℕ → Held → Done Flow
builtin_reply g t at canon (kind.Resource op resource) words h = resource_reply g t at canon op resource words h
builtin_reply g t at canon (kind.TaskReturn result options) words h = return_asked t h
builtin_reply g t at canon (kind.Plain op) words h = plain_reply g t at canon op words h
builtin_reply g t at canon (kind.Context op slot) words h = context_reply t op slot words h
builtin_reply g t at canon (kind.Wait op cancellable memory) words h = Stuck
builtin_reply g t at canon (kind.End of_what element op) words h = Stuck

-- the canonical function of a number, which is called with words
abbrev pub answered : Graph → ℕ → ℕ → CanonFunc → List ℕ → Held → Done Flow
answered g t number (canon.Lower l) words h = lowered t number l.lift words h
answered g t number (canon.Builtin b) words h = builtin_reply g t b.instance number b.kind words h

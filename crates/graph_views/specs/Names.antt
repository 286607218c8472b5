-- The names of built-ins, and of a lowered import (Component Model, Explainer.md, "Canonical Built-ins").
use Rattle.builtin_kinds.specs.declared.ResourceOp.{ResourceOp}
use Rattle.builtin_kinds.specs.declared.ResourceOp.TheVariants as resource_op
use Rattle.builtin_kinds.specs.declared.PlainBuiltin.{PlainBuiltin}
use Rattle.builtin_kinds.specs.declared.PlainBuiltin.TheVariants as plain
use Rattle.builtin_kinds.specs.declared.ContextOp.{ContextOp}
use Rattle.builtin_kinds.specs.declared.ContextOp.TheVariants as context_op
use Rattle.builtin_kinds.specs.declared.WaitOp.{WaitOp}
use Rattle.builtin_kinds.specs.declared.WaitOp.TheVariants as wait_op
use Rattle.builtin_kinds.specs.declared.EndKind.{EndKind}
use Rattle.builtin_kinds.specs.declared.EndKind.TheVariants as end_kind
use Rattle.builtin_kinds.specs.declared.EndSide.{EndSide}
use Rattle.builtin_kinds.specs.declared.EndSide.TheVariants as end_side
use Rattle.comp_graph.specs.declared.graph.EndOp.{EndOp}
use Rattle.comp_graph.specs.declared.graph.EndOp.TheVariants as end_op
use Rattle.comp_graph.specs.declared.graph.BuiltinKind.{BuiltinKind}
use Rattle.comp_graph.specs.declared.graph.BuiltinKind.TheVariants as kind
use Rattle.comp_graph.specs.declared.graph.CanonFunc.{CanonFunc}
use Rattle.comp_graph.specs.declared.graph.CanonFunc.TheVariants as canon
use Rattle.trace_labels.specs.declared.builtin.Builtin.{Builtin}
use Rattle.trace_labels.specs.declared.builtin.Builtin.TheVariants as builtin

abbrev pub resource_name : ResourceOp → Builtin
resource_name resource_op.New = builtin.ResourceNew
resource_name resource_op.Drop = builtin.ResourceDrop
resource_name resource_op.Rep = builtin.ResourceRep

abbrev pub plain_name : PlainBuiltin → Builtin
plain_name plain.TaskCancel = builtin.TaskCancel
plain_name plain.BackpressureSet = builtin.BackpressureSet
plain_name plain.BackpressureInc = builtin.BackpressureInc
plain_name plain.BackpressureDec = builtin.BackpressureDec
plain_name (plain.SubtaskCancel is_async) = builtin.SubtaskCancel
plain_name plain.SubtaskDrop = builtin.SubtaskDrop
plain_name (plain.Yield cancellable) = builtin.Yield
plain_name plain.WaitableSetNew = builtin.WaitableSetNew
plain_name plain.WaitableSetDrop = builtin.WaitableSetDrop
plain_name plain.WaitableJoin = builtin.WaitableJoin

abbrev pub context_name : ContextOp → Builtin
context_name context_op.Get = builtin.ContextGet
context_name context_op.Set = builtin.ContextSet

abbrev pub wait_name : WaitOp → Builtin
wait_name wait_op.Wait = builtin.WaitableSetWait
wait_name wait_op.Poll = builtin.WaitableSetPoll

abbrev pub stream_name : EndOp → Builtin
stream_name end_op.New = builtin.StreamNew
stream_name (end_op.Copy end_side.Readable options) = builtin.StreamRead
stream_name (end_op.Copy end_side.Writable options) = builtin.StreamWrite
stream_name (end_op.Cancel end_side.Readable is_async) = builtin.StreamCancelRead
stream_name (end_op.Cancel end_side.Writable is_async) = builtin.StreamCancelWrite
stream_name (end_op.Drop end_side.Readable) = builtin.StreamDropReadable
stream_name (end_op.Drop end_side.Writable) = builtin.StreamDropWritable

abbrev pub future_name : EndOp → Builtin
future_name end_op.New = builtin.FutureNew
future_name (end_op.Copy end_side.Readable options) = builtin.FutureRead
future_name (end_op.Copy end_side.Writable options) = builtin.FutureWrite
future_name (end_op.Cancel end_side.Readable is_async) = builtin.FutureCancelRead
future_name (end_op.Cancel end_side.Writable is_async) = builtin.FutureCancelWrite
future_name (end_op.Drop end_side.Readable) = builtin.FutureDropReadable
future_name (end_op.Drop end_side.Writable) = builtin.FutureDropWritable

abbrev pub end_name : EndKind → EndOp → Builtin
end_name end_kind.Stream op = stream_name op
end_name end_kind.Future op = future_name op

abbrev pub kind_name : BuiltinKind → Builtin
kind_name (kind.Resource op resource) = resource_name op
kind_name (kind.TaskReturn result options) = builtin.TaskReturn
kind_name (kind.Plain op) = plain_name op
kind_name (kind.Context op slot) = context_name op
kind_name (kind.Wait op cancellable memory) = wait_name op
kind_name (kind.End of_what element op) = end_name of_what op

abbrev pub builtin_of : CanonFunc → Builtin
builtin_of (canon.Lower l) = builtin.Lower
builtin_of (canon.Builtin b) = kind_name b.kind

-- What is told of canonical functions, and whether all is instantiated.
use Rattle.std.proofs.Common.{◌≡◌, ℕ, Bool, List, [], ◌∷◌, refl, ap, ◌∙◌, Option, Some, None}
use Rattle.std.specs.List.{slice_get}
use Rattle.builtin_kinds.specs.declared.ResourceOp.TheVariants as resource_op
use Rattle.builtin_kinds.specs.declared.PlainBuiltin.{PlainBuiltin}
use Rattle.builtin_kinds.specs.declared.PlainBuiltin.TheVariants as plain
use Rattle.builtin_kinds.specs.declared.ContextOp.TheVariants as context_op
use Rattle.builtin_kinds.specs.declared.WaitOp.TheVariants as wait_op
use Rattle.builtin_kinds.specs.declared.EndKind.{EndKind}
use Rattle.builtin_kinds.specs.declared.EndKind.TheVariants as end_kind
use Rattle.builtin_kinds.specs.declared.EndSide.TheVariants as end_side
use Rattle.comp_graph.specs.declared.graph.EndOp.{EndOp}
use Rattle.comp_graph.specs.declared.graph.EndOp.TheVariants as end_op
use Rattle.comp_graph.specs.declared.graph.BuiltinKind.{BuiltinKind}
use Rattle.comp_graph.specs.declared.graph.BuiltinKind.TheVariants as kind
use Rattle.comp_graph.specs.declared.graph.CanonFunc.{CanonFunc}
use Rattle.comp_graph.specs.declared.graph.CanonFunc.TheVariants as canon
use Rattle.comp_graph.specs.Graph.{Graph}
use Rattle.script_reader.specs.Script.{Script}
use Rattle.task_table.specs.declared.slot.TaskSlot.{TaskSlot}
use Rattle.task_table.specs.Slots as slots
use Rattle.graph_views.specs.Canons as seen
use Rattle.graph_views.specs.Names as names
use Rattle.replies.specs.Replies.{slot_has_exited}
use Rattle.abi_machine.specs.World.{TaskState, New, Acting, AfterCall, AfterCancel, Begins, WaitsToEnter, InLoop, InBuiltin, Exited, Task}
use Rattle.abi_machine.specs.Canons as machine
use Rattle.abi_machine.specs.Canons.{flag_at}
use Rattle.abi_machine.specs.Counting.{phase_of}
use Rattle.abi_machine.specs.Reading.{has_exited, is_instantiated}
use Rattle.standing.specs.Tasks.{TaskStands}
use Rattle.standing.proofs.Lists.{BothAt, at_both}
use Rattle.run_laws.specs.Dispatch.{NamesAreAlike, FlagsAreAlike, OptionsAreAlike, LeaveIsAlike}

plain_names : (op : PlainBuiltin) → names.plain_name op ≡ machine.plain_name op
plain_names plain.TaskCancel = refl
plain_names plain.BackpressureSet = refl
plain_names plain.BackpressureInc = refl
plain_names plain.BackpressureDec = refl
plain_names (plain.SubtaskCancel is_async) = refl
plain_names plain.SubtaskDrop = refl
plain_names (plain.Yield cancellable) = refl
plain_names plain.WaitableSetNew = refl
plain_names plain.WaitableSetDrop = refl
plain_names plain.WaitableJoin = refl

end_names : (of_what : EndKind) (op : EndOp) → names.end_name of_what op ≡ machine.end_name of_what op
end_names end_kind.Stream end_op.New = refl
end_names end_kind.Stream (end_op.Copy end_side.Readable options) = refl
end_names end_kind.Stream (end_op.Copy end_side.Writable options) = refl
end_names end_kind.Stream (end_op.Cancel end_side.Readable is_async) = refl
end_names end_kind.Stream (end_op.Cancel end_side.Writable is_async) = refl
end_names end_kind.Stream (end_op.Drop end_side.Readable) = refl
end_names end_kind.Stream (end_op.Drop end_side.Writable) = refl
end_names end_kind.Future end_op.New = refl
end_names end_kind.Future (end_op.Copy end_side.Readable options) = refl
end_names end_kind.Future (end_op.Copy end_side.Writable options) = refl
end_names end_kind.Future (end_op.Cancel end_side.Readable is_async) = refl
end_names end_kind.Future (end_op.Cancel end_side.Writable is_async) = refl
end_names end_kind.Future (end_op.Drop end_side.Readable) = refl
end_names end_kind.Future (end_op.Drop end_side.Writable) = refl

kind_names : (k : BuiltinKind) → names.kind_name k ≡ machine.kind_name k
kind_names (kind.Resource resource_op.New resource) = refl
kind_names (kind.Resource resource_op.Drop resource) = refl
kind_names (kind.Resource resource_op.Rep resource) = refl
kind_names (kind.TaskReturn result options) = refl
kind_names (kind.Plain op) = plain_names op
kind_names (kind.Context context_op.Get slot) = refl
kind_names (kind.Context context_op.Set slot) = refl
kind_names (kind.Wait wait_op.Wait cancellable memory) = refl
kind_names (kind.Wait wait_op.Poll cancellable memory) = refl
kind_names (kind.End of_what element op) = end_names of_what op

pub names_are_alike : NamesAreAlike
names_are_alike (canon.Lower l) = refl
names_are_alike (canon.Builtin b) = kind_names b.kind

plain_flags : (op : PlainBuiltin) → seen.flag_of_plain op ≡ machine.flag_of_plain op
plain_flags plain.TaskCancel = refl
plain_flags plain.BackpressureSet = refl
plain_flags plain.BackpressureInc = refl
plain_flags plain.BackpressureDec = refl
plain_flags (plain.SubtaskCancel is_async) = refl
plain_flags plain.SubtaskDrop = refl
plain_flags (plain.Yield cancellable) = refl
plain_flags plain.WaitableSetNew = refl
plain_flags plain.WaitableSetDrop = refl
plain_flags plain.WaitableJoin = refl

kind_flags : (k : BuiltinKind) → seen.flag_of_kind k ≡ machine.flag_of_kind k
kind_flags (kind.Resource op resource) = refl
kind_flags (kind.TaskReturn result options) = refl
kind_flags (kind.Plain op) = plain_flags op
kind_flags (kind.Context op slot) = refl
kind_flags (kind.Wait op cancellable memory) = refl
kind_flags (kind.End of_what element op) = refl

flags_in : (o : Option CanonFunc) → seen.flag_in o ≡ machine.flag_in o
flags_in None = refl
flags_in (Some (canon.Lower l)) = refl
flags_in (Some (canon.Builtin b)) = kind_flags b.kind

pub flags_are_alike : FlagsAreAlike
flags_are_alike g number = flags_in (slice_get g.canons number)

end_options : (op : EndOp) → seen.options_of_end op ≡ machine.options_of_end op
end_options end_op.New = refl
end_options (end_op.Copy side options) = refl
end_options (end_op.Cancel side is_async) = refl
end_options (end_op.Drop side) = refl

kind_options : (k : BuiltinKind) → seen.options_of_kind k ≡ machine.options_of_kind k
kind_options (kind.Resource op resource) = refl
kind_options (kind.TaskReturn result options) = refl
kind_options (kind.Plain op) = refl
kind_options (kind.Context op slot) = refl
kind_options (kind.Wait op cancellable memory) = refl
kind_options (kind.End of_what element op) = end_options op

options_in : (o : Option CanonFunc) → seen.options_in o ≡ machine.options_in o
options_in None = refl
options_in (Some (canon.Lower l)) = refl
options_in (Some (canon.Builtin b)) = kind_options b.kind

pub options_same : (c : CanonFunc) → seen.options_of c ≡ machine.options_of_canon c
options_same c = options_in (Some c)

pub options_are_alike : OptionsAreAlike
options_are_alike g number = options_in (slice_get g.canons number)

-- Whether task 0 has exited.
exited_so : (flag : ℕ → Bool) (state : TaskState) → slots.has_exited (phase_of flag state) ≡ has_exited state
exited_so flag New = refl
exited_so flag Acting = refl
exited_so flag (AfterCall callee number words) = refl
exited_so flag (AfterCancel callee number words) = refl
exited_so flag (Begins n) = refl
exited_so flag WaitsToEnter = refl
exited_so flag (InLoop word) = refl
exited_so flag (InBuiltin number words wait) = refl
exited_so flag Exited = refl

leave_by : (g : Graph) (s : Script) (xs : List TaskSlot) (ys : List Task) → BothAt (TaskStands g s) (slice_get xs 0) (slice_get ys 0) → slot_has_exited (slice_get xs 0) ≡ is_instantiated ys
leave_by g s [] [] b = refl
leave_by g s [] (y ∷ ys) b = absurd b
leave_by g s (x ∷ xs) [] b = absurd b
leave_by g s (x ∷ xs) (y ∷ ys) b = ap slots.has_exited b.far ∙ exited_so (flag_at g) y.state

pub leave_is_alike : LeaveIsAlike
leave_is_alike g values s h stacks w st = leave_by g s h.tasks w.tasks (at_both (TaskStands g s) h.tasks w.tasks 0 st.are_tasks)

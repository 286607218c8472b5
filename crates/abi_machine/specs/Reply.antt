-- Calls of canonical functions (Component Model, CanonicalABI.md, "Canonical Definitions"; "Component Instance
-- State": `may_leave`): the line comes first. But for words of context and representations none may be called before all is instantiated.
use Rattle.std.specs.Prelude.{ℕ, slice_index, if◌then◌else◌, List, [], ◌∷◌, Option, Some, None, Result, Ok, Err}
use Rattle.syntax_trees.specs.declared.types.ValType.{ValType}
use Rattle.stream_ends.specs.declared.side.Side.{Side}
use Rattle.stream_ends.specs.declared.side.Side.TheVariants.{Reader, Writer}
use Rattle.builtin_kinds.specs.declared.ResourceOp.{ResourceOp}
use Rattle.builtin_kinds.specs.declared.ResourceOp.TheVariants as resource_op
use Rattle.builtin_kinds.specs.declared.PlainBuiltin.{PlainBuiltin}
use Rattle.builtin_kinds.specs.declared.PlainBuiltin.TheVariants as plain
use Rattle.builtin_kinds.specs.declared.EndKind.{EndKind}
use Rattle.builtin_kinds.specs.declared.EndKind.TheVariants as end_kind
use Rattle.builtin_kinds.specs.declared.EndSide.{EndSide}
use Rattle.builtin_kinds.specs.declared.EndSide.TheVariants as end_side
use Rattle.comp_graph.specs.declared.graph.EndOp.{EndOp}
use Rattle.comp_graph.specs.declared.graph.EndOp.TheVariants as end_op
use Rattle.comp_graph.specs.declared.graph.BuiltinKind.{BuiltinKind}
use Rattle.comp_graph.specs.declared.graph.BuiltinKind.TheVariants as kind
use Rattle.comp_graph.specs.declared.graph.CanonFunc.{CanonFunc}
use Rattle.comp_graph.specs.declared.graph.CanonFunc.TheVariants as canon
use Rattle.comp_graph.specs.Graph.{Graph}
use Rattle.trace_labels.specs.declared.label.Label.TheVariants as line
use Rattle.trace_labels.specs.declared.trap.TrapName.{TrapName}
use Rattle.trace_labels.specs.declared.trap.TrapName.TheVariants as trap
use Rattle.abi_machine.specs.World.{Func, Task, World}
use Rattle.abi_machine.specs.Canons.{builtin_of, canon_at, lifted_of}
use Rattle.abi_machine.specs.Reading.{acting, may_leave}
use Rattle.abi_machine.specs.Turn.{Turn, Stuck, doomed, behind, given, replied}
use Rattle.abi_machine.specs.Calling.{call_begun}
use Rattle.abi_machine.specs.replies.Context.{Exempt, Answers, exempt_of}
use Rattle.abi_machine.specs.replies.Resources.{resource_new_turn, resource_drop_turn}
use Rattle.abi_machine.specs.replies.Tasks.{return_turn, task_cancel_turn, yield_turn}
use Rattle.abi_machine.specs.replies.Subtasks.{subtask_cancel_turn, subtask_drop_turn}
use Rattle.abi_machine.specs.replies.Pressure.{pressure_set_turn, pressure_inc_turn, pressure_dec_turn}
use Rattle.abi_machine.specs.replies.Waiting.{set_new_turn, wait_turn, set_drop_turn, join_turn}
use Rattle.abi_machine.specs.replies.Streams.{channel_new_turn, copy_turn, copy_cancel_turn, end_drop_turn}

-- How built-ins of a resource answer a task of an instance. The representation is answered also where the instance may not be left, and not
-- here.
unfoldable pub resource_turn : Graph → ℕ → ℕ → ℕ → ResourceOp → ℕ → List ℕ → World → Turn
resource_turn g t i number resource_op.New resource words w = resource_new_turn t i resource (slice_index words 0) w
resource_turn g t i number resource_op.Drop resource words w = resource_drop_turn g t i number resource words w
resource_turn g t i number resource_op.Rep resource words w = Stuck

-- those that name nothing
unfoldable pub plain_turn : Graph → ℕ → Task → ℕ → ℕ → PlainBuiltin → List ℕ → World → Turn
plain_turn g t task i number plain.TaskCancel words w = task_cancel_turn g t task w
plain_turn g t task i number plain.BackpressureSet words w = pressure_set_turn t i (slice_index words 0) w
plain_turn g t task i number plain.BackpressureInc words w = pressure_inc_turn t i w
plain_turn g t task i number plain.BackpressureDec words w = pressure_dec_turn t i w
plain_turn g t task i number (plain.SubtaskCancel is_async) words w = subtask_cancel_turn g t i number words w
plain_turn g t task i number plain.SubtaskDrop words w = subtask_drop_turn t i (slice_index words 0) w
plain_turn g t task i number (plain.Yield cancellable) words w = yield_turn t task number cancellable words w
plain_turn g t task i number plain.WaitableSetNew words w = set_new_turn t i w
plain_turn g t task i number plain.WaitableSetDrop words w = set_drop_turn t i (slice_index words 0) w
plain_turn g t task i number plain.WaitableJoin words w = join_turn t i (slice_index words 0) (slice_index words 1) w

-- those of ends: a read or write is of as many elements as the third word says, of a future of one value
abbrev pub side_of : EndSide → Side
side_of end_side.Readable = Reader
side_of end_side.Writable = Writer

abbrev pub copy_size : EndKind → List ℕ → ℕ
copy_size end_kind.Stream words = slice_index words 2
copy_size end_kind.Future words = 1

unfoldable pub end_turn : Graph → ℕ → ℕ → ℕ → EndKind → Option ValType → EndOp → List ℕ → World → Turn
end_turn g t i number kind element end_op.New words w = channel_new_turn t i kind element w
end_turn g t i number kind element (end_op.Copy side options) words w =
    copy_turn g t i number kind (side_of side) element options words (copy_size kind words) w
end_turn g t i number kind element (end_op.Cancel side is_async) words w = copy_cancel_turn g t i kind (side_of side) element (slice_index words 0) w
end_turn g t i number kind element (end_op.Drop side) words w = end_drop_turn t i kind (side_of side) element (slice_index words 0) w

-- all of them, of a task, in the instance that made one; the words of a task are answered also where the instance may not be left, and not
-- here
unfoldable pub builtin_turn : Graph → ℕ → Task → ℕ → ℕ → BuiltinKind → List ℕ → World → Turn
builtin_turn g t task i number (kind.Resource op resource) words w = resource_turn g t i number op resource words w
builtin_turn g t task i number (kind.TaskReturn result options) words w = return_turn g t task i result options words w
builtin_turn g t task i number (kind.Plain op) words w = plain_turn g t task i number op words w
builtin_turn g t task i number (kind.Context op slot) words w = Stuck
builtin_turn g t task i number (kind.Wait op cancellable memory) words w = wait_turn g t task i op number words w
builtin_turn g t task i number (kind.End of_what element op) words w = end_turn g t i number of_what element op words w

unfoldable pub reply : Graph → ℕ → Task → ℕ → CanonFunc → List ℕ → World → Turn
reply g t task number (canon.Lower l) words w = call_begun t number words (Func (lifted_of l)) (lifted_of l) words w
reply g t task number (canon.Builtin b) words w = builtin_turn g t task b.instance number b.kind words w

unfoldable pub exempt_turn : ℕ → Result Answers TrapName → World → Turn
exempt_turn t (Err why) w = doomed t why w
exempt_turn t (Ok answer) w = replied t answer.words answer.world

unfoldable pub allowed : Graph → ℕ → Task → ℕ → CanonFunc → List ℕ → Option Exempt → World → Turn
allowed g t task number c words (Some exempt) w = exempt_turn t (exempt w) w
allowed g t task number c words None w = if may_leave w then reply g t task number c words w else doomed t trap.CannotLeave w

unfoldable pub calling_turn : Graph → ℕ → List ℕ → World → Turn
calling_turn g number words w =
    given (acting w) (λ a. given (canon_at g number) (λ c.
    behind (line.Do a.0 (builtin_of c) words ∷ []) (allowed g a.0 a.1 number c words (exempt_of a.0 words c) w)))

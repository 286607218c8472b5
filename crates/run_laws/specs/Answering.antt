-- What canonical functions answer (Component Model, CanonicalABI.md, "Canonical Definitions"): each of them, a built-in or a function that is lowered, does
-- what the machine does, where it is called by the acting task with words that it can read, in a world of which what is
-- asked here holds (laws of reached worlds give some of it), and where what is kept beside that world is right.
use Rattle.std.specs.Prelude.{◌≡◌, ◌<◌, ℕ, true, List, Option, Some, IsSome}
use Rattle.std.specs.List.{slice_get}
use Rattle.syntax_trees.specs.declared.types.FuncType.{FuncType}
use Rattle.syntax_trees.specs.declared.types.ValType.{ValType}
use Rattle.laid_types.specs.SameTypes.{AreDistinct}
use Rattle.wasm_store.specs.Stack.{Stack}
use Rattle.builtin_kinds.specs.declared.ContextOp.{ContextOp}
use Rattle.builtin_kinds.specs.declared.ContextOp.TheVariants as context_op
use Rattle.builtin_kinds.specs.declared.EndKind.{EndKind}
use Rattle.builtin_kinds.specs.declared.EndKind.TheVariants as end_kind
use Rattle.builtin_kinds.specs.declared.PlainBuiltin.{PlainBuiltin}
use Rattle.builtin_kinds.specs.declared.PlainBuiltin.TheVariants as plain
use Rattle.comp_graph.specs.declared.graph.BuiltinKind.{BuiltinKind}
use Rattle.comp_graph.specs.declared.graph.BuiltinKind.TheVariants as kind
use Rattle.comp_graph.specs.declared.graph.CanonFunc.{CanonFunc}
use Rattle.comp_graph.specs.declared.graph.CanonFunc.TheVariants as canon
use Rattle.comp_graph.specs.declared.graph.EndOp.{EndOp}
use Rattle.comp_graph.specs.declared.graph.EndOp.TheVariants as end_op
use Rattle.comp_graph.specs.Graph.{Graph, Lifted}
use Rattle.comp_graph.specs.Passed.{AreCanonTypes}
use Rattle.script_reader.specs.Script.{Script}
use Rattle.instances.specs.Instances.{InstanceView}
use Rattle.world_parts.specs.declared.parts.Rest.TheVariants as rest
use Rattle.world_parts.specs.Held.{Held}
use Rattle.world_parts.specs.Slots.{word_in}
use Rattle.machine_runs.specs.Calling.{calls}
use Rattle.abi_machine.specs.World.{OfSubtask, Acting, Inst, Task, World}
use Rattle.abi_machine.specs.Canons.{canon_at, inst_of_canon, options_at}
use Rattle.abi_machine.specs.Reading.{entry_at, func_of, may_leave}
use Rattle.abi_machine.specs.Reply.{calling_turn}
use Rattle.standing.specs.Stands.{Stands}
use Rattle.standing.specs.Callings.{CallersRun}
use Rattle.standing.specs.Channels.{HasMarkedEnds}
use Rattle.standing.specs.Ends.{HasMemory, HasLiveEnds}
use Rattle.standing.specs.HandleDrops.{KeepsHandle}
use Rattle.standing.specs.Marks.{StatesMarked}
use Rattle.standing.specs.Moves.{Acts, KeepsGate}
use Rattle.standing.specs.News.{KeepsWho, CopiesWait}
use Rattle.standing.specs.Replies.{HasItsSets, CountsWaiters}
use Rattle.standing.specs.Resolutions.{KeepsBorrows}
use Rattle.standing.specs.Waits.{KeepsCalls}
use Rattle.run_laws.specs.Dispatch.{AgreesSo, Answers, CanonRow, KeepsWords}

-- How many words of its call a canonical function reads one by one: indices, representations, places and counts.
abbrev pub words_of_plain : PlainBuiltin → ℕ
words_of_plain plain.TaskCancel = 0
words_of_plain plain.BackpressureSet = 1
words_of_plain plain.BackpressureInc = 0
words_of_plain plain.BackpressureDec = 0
words_of_plain (plain.SubtaskCancel is_async) = 1
words_of_plain plain.SubtaskDrop = 1
words_of_plain (plain.Yield cancellable) = 0
words_of_plain plain.WaitableSetNew = 0
words_of_plain plain.WaitableSetDrop = 1
words_of_plain plain.WaitableJoin = 2

abbrev pub words_of_context : ContextOp → ℕ
words_of_context context_op.Get = 0
words_of_context context_op.Set = 1

abbrev pub words_of_copy : EndKind → ℕ
words_of_copy end_kind.Stream = 3
words_of_copy end_kind.Future = 2

abbrev pub words_of_end : EndKind → EndOp → ℕ
words_of_end of_what end_op.New = 0
words_of_end of_what (end_op.Copy side options) = words_of_copy of_what
words_of_end of_what (end_op.Cancel side is_async) = 1
words_of_end of_what (end_op.Drop side) = 1

abbrev pub words_of_kind : BuiltinKind → ℕ
words_of_kind (kind.Resource op resource) = 1
words_of_kind (kind.TaskReturn result options) = 0
words_of_kind (kind.Plain op) = words_of_plain op
words_of_kind (kind.Context op slot) = words_of_context op
words_of_kind (kind.Wait op cancellable memory) = 2
words_of_kind (kind.End of_what element op) = words_of_end of_what op

abbrev pub words_read : CanonFunc → ℕ
words_read (canon.Lower l) = 0
words_read (canon.Builtin b) = words_of_kind b.kind

-- The call has these words, each a 32-bit one.
abbrev pub HasWordsFor : CanonFunc → List ℕ → Type 0
HasWordsFor c words = (n : ℕ) → n < words_read c → IsSome (word_in words n)

-- The acting task calls a canonical function, which the component instance made whose function it runs; that instance is there.
pub record CallsOwn (w : World) (t : ℕ) (task : Task) (f : Lifted) (c : CanonFunc) : Type 0 where
  pub acts : Acts w t task f
  pub state : task.state ≡ Acting
  pub own : inst_of_canon c ≡ f.instance

-- A subtask is another task, which runs a function of a component instance that is there.
abbrev pub RunsThere : World → Task → Type 0
RunsThere w task = (f : Lifted) × (func_of task.callee ≡ Some f) × IsSome (slice_get w.insts f.instance)

pub record IsOther (w : World) (t callee : ℕ) : Type 0 where
  pub apart : callee ≡ t → ⊥
  pub runs : (task : Task) → slice_get w.tasks callee ≡ Some task → RunsThere w task

-- What laws of reached worlds have to supply of a component instance whose canonical function is called by the task of a number: each task that called
-- another one runs a function; each set in the table was made, no end there is dropped, and each subtask there is another task; and a copy that is to be
-- told is waited for directly exactly where its call waits.
pub record IsSoundAt (g : Graph) (w : World) (t at : ℕ) : Type 0 where
  pub callers : CallersRun w
  pub sets : (inst : Inst) → slice_get w.insts at ≡ Some inst → HasItsSets inst
  pub ends : HasLiveEnds w at
  pub subtasks : (index callee : ℕ) → entry_at w at index ≡ Some (OfSubtask callee) → IsOther w t callee
  pub copies : CopiesWait g w at

-- What is kept beside the world is what the machine computes of it: who holds and waits for entry, how many tasks wait on sets, how often handles are lent,
-- the borrows of the task and of borrow handles, the states of subtasks and who waits for them, ends, and which memories options name.
pub record IsBeside (g : Graph) (h : Held) (w : World) (t at : ℕ) : Type 0 where
  pub gates : (i : ℕ) → KeepsGate h w i
  pub waiters : (i : InstanceView) → slice_get h.instances at ≡ Some i → CountsWaiters w at i
  pub handles : (index : ℕ) → KeepsHandle h w at index
  pub borrows : KeepsBorrows h w t
  pub states : StatesMarked h.tasks
  pub calls : KeepsCalls h at
  pub who : KeepsWho h w at
  pub ends : HasMarkedEnds h
  pub memories : (number : ℕ) → HasMemory h w (options_at g number)

-- The types by whose numbers ends are kept are those of the graph.
pub record HasTypes (g : Graph) (values : List ValType) (funcs : List FuncType) (types : List (Option ℕ)) : Type 0 where
  pub distinct : AreDistinct values
  pub canons : AreCanonTypes (record { funcs = funcs; values = values }) types g.canons

-- The row of the dispatch of calls for each canonical function, where the instance may be left.
abbrev pub AllAnswer : Type 0
AllAnswer =
    (g : Graph) (values : List ValType) (s : Script) (funcs : List FuncType) (types : List (Option ℕ)) (h : Held) (stacks : List (List Stack)) (w : World) (t : ℕ) (task : Task) (f : Lifted)
    (number : ℕ) (c : CanonFunc) (words : List ℕ)
    → HasTypes g values funcs types → canon_at g number ≡ Some c → h.rest ≡ rest.Calls number → KeepsWords h t words → HasWordsFor c words
    → (may_leave w ≡ true → CallsOwn w t task f c) → IsSome (slice_get w.insts (inst_of_canon c)) → IsSoundAt g w t (inst_of_canon c) → IsBeside g h w t (inst_of_canon c)
    → Stands g values s h stacks w
    → CanonRow (may_leave w ≡ true → Answers g values s types h stacks w t task number c words) w c words

-- So the whole call, with its line, does what the machine does.
abbrev pub CallIsAnswered : Type 0
CallIsAnswered =
    (g : Graph) (values : List ValType) (s : Script) (funcs : List FuncType) (types : List (Option ℕ)) (h : Held) (stacks : List (List Stack)) (w : World) (t : ℕ) (task : Task) (f : Lifted)
    (number : ℕ) (c : CanonFunc) (words : List ℕ)
    → HasTypes g values funcs types → canon_at g number ≡ Some c → h.rest ≡ rest.Calls number → KeepsWords h t words → HasWordsFor c words
    → slice_get w.chain 0 ≡ Some t → slice_get w.tasks t ≡ Some task → (may_leave w ≡ true → CallsOwn w t task f c)
    → IsSome (slice_get w.insts (inst_of_canon c)) → IsSoundAt g w t (inst_of_canon c) → IsBeside g h w t (inst_of_canon c) → Stands g values s h stacks w
    → AgreesSo g values s t h.labels stacks (calls g types number h) (calling_turn g number words w)

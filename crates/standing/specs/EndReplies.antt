-- Calls of the built-ins of streams and futures (Component Model, CanonicalABI.md, "Canonical Definitions"): of each canonical function the number
-- of the type of its ends is that which the graph has for it, and the words of a call are those of its core type.
use Rattle.std.specs.Prelude.{◌≡◌, ℕ, true, List, Option, Some, IsSome}
use Rattle.std.specs.List.{slice_get}
use Rattle.syntax_trees.specs.declared.types.FuncType.{FuncType}
use Rattle.syntax_trees.specs.declared.types.ValType.{ValType}
use Rattle.laid_types.specs.SameTypes.{AreDistinct}
use Rattle.wasm_store.specs.Stack.{Stack}
use Rattle.builtin_kinds.specs.declared.EndKind.{EndKind}
use Rattle.stream_ends.specs.Ends.{is_copying}
use Rattle.comp_graph.specs.declared.graph.Builtin.{Builtin}
use Rattle.comp_graph.specs.declared.graph.BuiltinKind.TheVariants as kind
use Rattle.comp_graph.specs.declared.graph.CanonFunc.TheVariants as canon
use Rattle.comp_graph.specs.declared.graph.EndOp.{EndOp}
use Rattle.comp_graph.specs.declared.graph.EndOp.TheVariants as end_op
use Rattle.comp_graph.specs.Graph.{Graph, Lifted}
use Rattle.comp_graph.specs.Passed.{AreCanonTypes}
use Rattle.script_reader.specs.Script.{Script}
use Rattle.instances.specs.declared.entry.EndEntry.{EndEntry}
use Rattle.instances.specs.declared.entry.WorldEntry.TheVariants as entry
use Rattle.world_parts.specs.Held.{Held}
use Rattle.world_parts.specs.Going.{resumes}
use Rattle.world_parts.specs.Slots.{word_in}
use Rattle.copy_replies.specs.Reads.{length_in}
use Rattle.copy_replies.specs.Replies.{end_reply}
use Rattle.abi_machine.specs.Control.{EndRef}
use Rattle.abi_machine.specs.World.{OfEnd, ForCopy, Acting, InBuiltin, Task, World}
use Rattle.abi_machine.specs.Canons.{options_at, canon_at}
use Rattle.abi_machine.specs.Reading.{entry_at}
use Rattle.abi_machine.specs.Counting.{end_of}
use Rattle.abi_machine.specs.Delivering.{resuming_turn}
use Rattle.abi_machine.specs.Reply.{builtin_turn}
use Rattle.standing.specs.Stands.{Stands}
use Rattle.standing.specs.Channels.{HasMarkedEnds}
use Rattle.standing.specs.Moves.{Acts, StandsAt}
use Rattle.standing.specs.Ends.{HasMemory, HasLiveEnds}
use Rattle.standing.specs.Agreeing.{Agrees}

-- The words of a call: none, an index, or an index, a place and of a stream how many elements.
abbrev pub HasWords : EndKind → EndOp → List ℕ → Type 0
HasWords of_what end_op.New words = Unit {0}
HasWords of_what (end_op.Copy side options) words = IsSome (word_in words 0) × IsSome (word_in words 1) × IsSome (length_in of_what words)
HasWords of_what (end_op.Cancel side is_async) words = IsSome (word_in words 0)
HasWords of_what (end_op.Drop side) words = IsSome (word_in words 0)

-- The acting task calls one of them.
abbrev pub EndIsAnswered : Type 0
EndIsAnswered =
    (g : Graph) (values : List ValType) (s : Script) (h : Held) (stacks : List (List Stack)) (w : World) (t number : ℕ) (task : Task) (b : Builtin) (of_what : EndKind)
    (element : Option ValType) (op : EndOp) (funcs : List FuncType) (types : List (Option ℕ)) (words : List ℕ)
    → AreDistinct values → AreCanonTypes (record { funcs = funcs; values = values }) types g.canons → canon_at g number ≡ Some (canon.Builtin b) → b.kind ≡ kind.End of_what element op
    → HasWords of_what op words → HasMemory h w (options_at g number) → HasMarkedEnds h → HasLiveEnds w b.instance → IsSome (slice_get w.insts b.instance)
    → slice_get w.chain 0 ≡ Some t → slice_get w.tasks t ≡ Some task → task.state ≡ Acting → Stands g values s h stacks w
    → Agrees g values s t h.labels stacks (end_reply g types t number words h) (builtin_turn g t task b.instance number b.kind words w)

-- The copy of the end at an index is open.
abbrev pub HasOpenCopy : World → ℕ → ℕ → Type 0
HasOpenCopy w at index = (e : EndRef) → entry_at w at index ≡ Some (OfEnd e) → is_copying (end_of w e) ≡ true

-- A task that waited for its copy goes on.
abbrev pub CopyResumes : Type 0
CopyResumes =
    (g : Graph) (values : List ValType) (s : Script) (h : Held) (stacks : List (List Stack)) (w : World) (t : ℕ) (task : Task) (f : Lifted) (number index : ℕ)
    (words : List ℕ) (e : EndEntry)
    → Acts w t task f → task.state ≡ InBuiltin number words (ForCopy index) → StandsAt h f.instance index (entry.End e) → HasOpenCopy w f.instance index → HasMarkedEnds h
    → Stands g values s h stacks w
    → Agrees g values s t h.labels stacks (resumes h) (resuming_turn g w)

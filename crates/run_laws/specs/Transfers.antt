-- A copy as a whole (Component Model, CanonicalABI.md, `canon stream.{read,write}`, `canon future.{read,write}`): where the machine has come to elements
-- that go over, what is kept finds the same ones and comes to what the machine comes to.
use Rattle.std.specs.Prelude.{◌≡◌, ℕ, false, List, Some, IsSome}
use Rattle.std.specs.List.{slice_get}
use Rattle.wasm_store.specs.Stack.{Stack}
use Rattle.syntax_trees.specs.declared.types.ValType.{ValType}
use Rattle.laid_types.specs.Handles.{held_borrow}
use Rattle.copy_engine.specs.Nested.{bytes_in}
use Rattle.builtin_kinds.specs.declared.EndKind.{EndKind}
use Rattle.comp_graph.specs.declared.graph.CanonFunc.{CanonFunc}
use Rattle.comp_graph.specs.Passed.{MayBeAt}
use Rattle.graph_views.specs.Canons.{canon_at, instance_of}
use Rattle.instances.specs.declared.entry.EndEntry.{EndEntry}
use Rattle.instances.specs.declared.entry.WorldEntry.TheVariants as entry
use Rattle.instances.specs.Instances.{InstanceView, entry_of}
use Rattle.programs.specs.declared.program.Program.{Program}
use Rattle.programs.specs.Program.{value_of, resources_of}
use Rattle.copy_replies.specs.declared.moving.Moving.{Moving}
use Rattle.copy_replies.specs.Moves.{element_at, moving}
use Rattle.script_reader.specs.Script.{Script}
use Rattle.world_parts.specs.declared.parts.Copying.{Copying}
use Rattle.world_parts.specs.declared.parts.Flow.{Flow}
use Rattle.world_parts.specs.Held.{Held, Done, Gives}
use Rattle.value_moves.specs.Transferring.{reader_of, Transfers}
use Rattle.abi_machine.specs.Canons.{options_at, defines}
use Rattle.abi_machine.specs.World.{World}
use Rattle.standing.specs.Channels.{IsEndsType}
use Rattle.standing.specs.Ends.{HasMemory}
use Rattle.standing.specs.Agreeing.{copies}
use Rattle.standing.specs.Plans.{AreOwn}
use Rattle.run_laws.specs.Taking.{StandsMarked}
use Rattle.run_laws.specs.Copied.{TurnLeads, IsPlacedWell}

-- The end at the index of the call is of the type of the built-in.
abbrev pub HasEndOf : Program → List ValType → Held → Copying → Type 0
HasEndOf p values h x =
    (c : CanonFunc) (i : InstanceView) (e : EndEntry) → canon_at p.graph.now x.canon ≡ Some c → slice_get h.instances (instance_of c) ≡ Some i
    → entry_of i x.index ≡ Some (entry.End e) → (kind : EndKind) × IsEndsType values kind (element_at p.graph.now x.canon) e.end_type

-- The place at the reader was tested when the copy was asked.
abbrev pub HasTestedPlace : Program → Held → ℕ → Copying → Type 0
HasTestedPlace p h t x =
    (m : Moving) (type : ValType) → moving p.graph.now t x h ≡ Gives m h → element_at p.graph.now x.canon ≡ Some type
    → IsPlacedWell type m.count m.reader.place (bytes_in (reader_of m h).options.memory h.store)

-- The acting task called a built-in whose elements have the type of a number and hold no borrow, and the program is of its graph.
pub record MayTransfer (p : Program) (values : List ValType) (h : Held) (w : World) (t : ℕ) (x : Copying) : Type 0 where
  pub types : p.types.now ≡ values
  pub first : slice_get w.chain 0 ≡ Some t
  pub acts : IsSome (slice_get w.tasks t)
  pub typed : MayBeAt values (value_of p x.canon) (element_at p.graph.now x.canon)
  pub no_borrow : held_borrow (element_at p.graph.now x.canon) ≡ false
  pub end : HasEndOf p values h x
  pub place : HasTestedPlace p h t x
  pub memories : (number : ℕ) → HasMemory h w (options_at p.graph.now number)
  pub own : (at : ℕ) (resources : List ℕ) → resources_of p at ≡ Some resources → AreOwn resources (defines p.graph.now at)

abbrev pub CopiesTransfer : Type 0
CopiesTransfer =
    (p : Program) (values : List ValType) (s : Script) (h : Held) (stacks : List (List Stack)) (w : World) (t : ℕ) (x : Copying) (d : Done Flow)
    → MayTransfer p values h w t x → StandsMarked p.graph.now values s h stacks w → Transfers p t x h d
    → TurnLeads p.graph.now values s t h.labels stacks d (copies p.graph.now t x w)

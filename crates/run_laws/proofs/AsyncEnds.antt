-- Functions that are lifted with `async`, and that end.
use Rattle.std.proofs.Common.{◌≡◌, ℕ, ◌+◌, Bool, true, false, nat_lt, if◌then◌else◌, List, [], ◌∷◌, length, refl, sym, ap, ◌∙◌, subst, Option, Some, None, Result, Ok, Err}
use Rattle.std.specs.List.{slice_get}
use Rattle.wasm_store.specs.Stack.{Stack}
use Rattle.syntax_trees.specs.declared.types.ValType.{ValType}
use Rattle.handle_table.specs.History.{live}
use Rattle.waitables.specs.Sets as waitable
use Rattle.entry_gate.specs.Callbacks.{callback_of}
use Rattle.entry_gate.specs.Gates.{GateView, is_holder, given_up}
use Rattle.entry_gate.specs.declared.callback.BadCode.{BadCode}
use Rattle.entry_gate.specs.declared.callback.Next.{Next}
use Rattle.entry_gate.specs.declared.callback.Next.TheVariants as next
use Rattle.entry_gate.specs.declared.kind.Kind.TheVariants.{Sync, Callback, Stackful}
use Rattle.tasks.specs.declared.event.BlockedAt.TheVariants as blocked_at
use Rattle.tasks.specs.Tasks.{is_acting}
use Rattle.comp_graph.specs.Graph.{Graph, Lifted}
use Rattle.script_reader.specs.Script.{Script}
use Rattle.trace_labels.specs.declared.label.BlockReason.{BlockReason}
use Rattle.trace_labels.specs.declared.label.BlockReason.TheVariants as reason
use Rattle.trace_labels.specs.declared.label.Label.{Label}
use Rattle.trace_labels.specs.declared.trap.TrapName.{TrapName}
use Rattle.trace_labels.specs.declared.trap.TrapName.TheVariants as trap
use Rattle.instances.specs.Entries as entries
use Rattle.instances.specs.Instances.{InstanceView, entry_of, with_gate, with_sets}
use Rattle.world_parts.specs.declared.parts.Flow.{Flow}
use Rattle.world_parts.specs.Held as kept
use Rattle.world_parts.specs.Held.{Held, Done, Gives, after, given}
use Rattle.world_parts.specs.Entries.{with_instance, named, set_waited_on}
use Rattle.world_parts.specs.Going.{looped, looped_at_set, loops_by, loops}
use Rattle.world_parts.specs.Slots.{word_in}
use Rattle.value_moves.specs.Passing.{async_ended}
use Rattle.abi_machine.specs.World.{InLoop, Inst, Task, World}
use Rattle.abi_machine.specs.Canons.{flag_at}
use Rattle.abi_machine.specs.CoreSteps.{func_ended}
use Rattle.abi_machine.specs.Counting.{phase_of}
use Rattle.abi_machine.specs.Finding as found
use Rattle.abi_machine.specs.Looping.{next_turn, looping_turn}
use Rattle.abi_machine.specs.Reading.{table_in}
use Rattle.abi_machine.specs.Traps.{renamed, refusal_name}
use Rattle.abi_machine.specs.Turn as turns
use Rattle.abi_machine.specs.Turn.{unless_refused}
use Rattle.standing.specs.Tasks.{errand_of}
use Rattle.standing.specs.Stands.{Stands}
use Rattle.standing.specs.Agreeing.{Agrees}
use Rattle.standing.proofs.Agreeing.{on_trap, on_named}
use Rattle.standing.proofs.Arriving.{on_wait}
use Rattle.standing.proofs.Changes.{instances_stay}
use Rattle.standing.proofs.Found.{set_alike}
use Rattle.standing.proofs.Going.{done_as, task_ends}
use Rattle.standing.proofs.Joining.{few_sets}
use Rattle.standing.proofs.Steps as steps
use Rattle.standing.proofs.Steps.{via, both_as, IsKept, is_kept, instance_is}
use Rattle.standing.proofs.Tables.{entries_are_alike, entry_is_not_said, waiters_are_not_said}
use Rattle.run_laws.specs.AsyncEnds.{EndsAsync, AsyncFunctionEnds}

-- What a gate gives up, and what a set counts.
up_pressure : (b : Bool) (gate : GateView) → (if b then record gate { holder = None } else gate).pressure ≡ gate.pressure
up_pressure true gate = refl
up_pressure false gate = refl

waited_on_is : (at set : ℕ) (x : InstanceView) (h : Held) → slice_get h.instances at ≡ Some x → nat_lt set (length x.sets) ≡ true
    → set_waited_on at set h ≡ Gives tt (with_instance at (with_sets (waitable.waited_on set x.sets) x) h)
waited_on_is at set x h is few =
    ap (λ (o : Option InstanceView). given o (λ i. if nat_lt set (length i.sets) then Gives tt (with_instance at (with_sets (waitable.waited_on set i.sets) i) h) else kept.Stuck)) is
    ∙ ap (λ (b : Bool). if b then Gives tt (with_instance at (with_sets (waitable.waited_on set x.sets) x) h) else kept.Stuck) few

module _ (g : Graph) (values : List ValType) (s : Script) (stacks : List (List Stack)) (w : World) (t : ℕ) (task : Task) (f : Lifted) (words : List ℕ) (e : EndsAsync w t task f words) where
  -- It blocks in its loop, and gives up exclusive entry.
  blocks : (h : Held) (before : List Label) (word : ℕ) (why : BlockReason) → h.labels ≡ before → Stands g values s h stacks w
      → Agrees g values s t before stacks (looped t f.instance word why h) (turns.blocked t (InLoop word) why w)
  unfolding looped
  blocks h before word why same st =
      let k : IsKept g values s h w t task f = is_kept g values s h stacks w t task f e.acts st in
      let up : InstanceView = with_gate (given_up t k.inst.gate) k.inst in
      done_as g values s t before stacks _ _ _
      (via _ _ _ _ (steps.found (slice_get h.instances f.instance) k.inst (λ i. Gives tt (with_instance f.instance (with_gate (given_up t i.gate) i) h)) k.here))
      (on_wait g values s before (with_instance f.instance up h) stacks w t k.slot (blocked_at.Loop word) false why (InLoop word) k.is
      (ap is_acting (k.alike.far ∙ ap (λ state. phase_of (flag_at g) state) e.state)) refl (sym (k.alike.at ∙ ap errand_of e.state)) tt e.acts.first same
      (instances_stay g values s h stacks w f.instance k.inst up k.here
      (λ a now. entry_is_not_said values k.inst a (given_up t k.inst.gate) (up_pressure (is_holder t k.inst.gate.holder) k.inst.gate) now) st))

  module _ (h : Held) (st : Stands g values s h stacks w) where
    abbrev k : IsKept g values s h w t task f
    k = is_kept g values s h stacks w t task f e.acts st

    -- It waits on the set at an index, which counts it.
    on_set : (word index : ℕ) (why : BlockReason)
        → Agrees g values s t h.labels stacks (looped_at_set t f.instance word index why h)
        (unless_refused t (found.set_at w f.instance index) w (λ number. turns.blocked t (InLoop word) why w))
    unfolding looped_at_set
    on_set word index why =
        let x : InstanceView = k.inst in
        let y : Inst = k.machine_inst in
        let more : ℕ → Held → Done Flow = λ set l. after (set_waited_on f.instance set l) (λ done m. looped t f.instance word why m) in
        both_as g values s t h.labels stacks _ (after (named (entries.set_in (entry_of x index)) h) more) _
        (unless_refused t (renamed refusal_name (entries.set_in (entry_of x index))) w (λ number. turns.blocked t (InLoop word) why w))
        (ap (λ (o : Option InstanceView). after (given o (λ i. named (entries.set_in (entry_of i index)) h)) more) k.here)
        (ap (λ (o : Option Inst). unless_refused t (found.set_in (live (table_in o) index)) w (λ number. turns.blocked t (InLoop word) why w)) k.machine_here
        ∙ ap (λ (r : Result ℕ TrapName). unless_refused t r w (λ number. turns.blocked t (InLoop word) why w))
        (set_alike values (entry_of x index) (live y.table index) (entries_are_alike values x y index k.insts)))
        (on_named g values s t h.labels stacks h w (entries.set_in (entry_of x index)) more (λ number. turns.blocked t (InLoop word) why w) refl st
        (λ set is.
        (let few : nat_lt set (length x.sets) ≡ true = few_sets values x y index set k.insts (e.sets y k.machine_here) is in
        let waits : InstanceView = with_sets (waitable.waited_on set x.sets) x in
        done_as g values s t h.labels stacks _ (looped t f.instance word why (with_instance f.instance waits h)) _ (via _ _ _ _ (waited_on_is f.instance set x h k.here few))
        (blocks (with_instance f.instance waits h) h.labels word why refl
        (instances_stay g values s h stacks w f.instance x waits k.here (λ a now. waiters_are_not_said values x a set ((waitable.set_at x.sets set).waiters + 1) now) st)))))

    -- By what the word tells.
    by_next : (word : ℕ) (r : Result Next BadCode) → Agrees g values s t h.labels stacks (loops_by t f.instance word r h) (next_turn t task f.instance word r w)
    unfolding next_turn
    by_next word (Err why) = on_trap g values s t h.labels stacks h w trap.BadCode refl st
    by_next word (Ok next.Exit) = task_ends g values s h stacks w t task e.acts.there st
    by_next word (Ok next.Yield) = blocks h h.labels word reason.Yield refl st
    by_next word (Ok (next.Wait index)) = on_set word index (reason.Wait index)
    by_next word (Ok (next.Poll index)) = on_set word index (reason.Poll index)

    loops_so : (word : ℕ) → Agrees g values s t h.labels stacks (loops t word h) (next_turn t task f.instance word (callback_of word) w)
    unfolding loops
    loops_so word =
        done_as g values s t h.labels stacks _ (loops_by t f.instance word (callback_of word) h) _ (via _ _ _ _ (instance_is t f.instance h k.slot k.is k.at)) (by_next word (callback_of word))

    by_words : (all : List ℕ) → all ≡ words → Agrees g values s t h.labels stacks (async_ended t Callback all h) (looping_turn t task f.instance all w)
    unfolding looping_turn
    by_words [] same = refl
    by_words (word ∷ more) same =
        done_as g values s t h.labels stacks _ (loops t word h) _
        (steps.found (word_in (word ∷ more) 0) word (λ n. loops t n h) (subst (λ (all : List ℕ). word_in all 0 ≡ Some word) (sym same) (e.gives word (ap (λ (all : List ℕ). slice_get all 0) (sym same)))))
        (loops_so word)

pub async_function_ends : AsyncFunctionEnds
unfolding func_ended
async_function_ends g values s h stacks w t task f Sync words asks e st = absurd asks
async_function_ends g values s h stacks w t task f Callback words asks e st = by_words g values s stacks w t task f words e h st words refl
async_function_ends g values s h stacks w t task f Stackful words asks e st = task_ends g values s h stacks w t task e.acts.there st

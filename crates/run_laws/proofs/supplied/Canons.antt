-- What is asked of a call of a canonical function is so where what is kept stands for a world that a run reaches, and its marks are right.
use Rattle.std.proofs.Common.{◌≡◌, ℕ, Bool, true, false, List, refl, sym, ap, ◌∙◌, subst, Option, Some, None}
use Rattle.std.specs.Prelude.{IsSome}
use Rattle.std.specs.List.{slice_get}
use Rattle.std.specs.Option.{option_and_then}
use Rattle.syntax_trees.specs.declared.types.ValType.{ValType}
use Rattle.wasm_store.specs.Stack.{Stack}
use Rattle.comp_graph.specs.declared.graph.CanonFunc.{CanonFunc}
use Rattle.comp_graph.specs.declared.graph.FuncRef.TheVariants as func_ref
use Rattle.comp_graph.specs.Graph.{Graph, Lifted}
use Rattle.script_reader.specs.Script.{Script}
use Rattle.instances.specs.declared.entry.WorldEntry.TheVariants as entry
use Rattle.programs.specs.declared.program.Program.{Program}
use Rattle.world_parts.specs.declared.parts.Rest.TheVariants as rest
use Rattle.world_parts.specs.Held.{Held}
use Rattle.abi_machine.specs.Control.{Calls}
use Rattle.abi_machine.specs.World.{Entry, OfSubtask, Nobody, Caller, Task, TaskState, World}
use Rattle.abi_machine.specs.World as world
use Rattle.abi_machine.specs.Canons.{canon_at, inst_of_canon, destructor_of}
use Rattle.abi_machine.specs.Reading.{entry_at, subtask_of, may_leave, has_exited}
use Rattle.abi_machine.specs.sound.Acting.{IsRunning}
use Rattle.abi_machine.specs.sound.Changes.{IsGuest}
use Rattle.abi_machine.specs.sound.Initial.{InitRunsAlone, IsInitial}
use Rattle.abi_machine.proofs.sound.Found.{some_same}
use Rattle.standing.specs.Agreeing.{acting_words, words_in}
use Rattle.standing.specs.Waits.{KeepsCalls}
use Rattle.standing.specs.Stands.{Stands}
use Rattle.standing.specs.Tasks.{CallerStands}
use Rattle.standing.proofs.Changes.{acting_is_alike}
use Rattle.run_laws.specs.Answering.{CallsOwn}
use Rattle.run_laws.specs.Dispatch.{KeepsWords}
use Rattle.run_laws.specs.Supplied.{RestsReached, SubtasksAreCalledOut, CallsSupplied}
use Rattle.run_laws.proofs.Beside.{marks_supply}
use Rattle.run_laws.proofs.Reached.{instantiated_is, calls_are_own, worlds_are_sound}
use Rattle.run_laws.proofs.supplied.Calls.{call_kept, guest_is}
use Rattle.run_laws.proofs.supplied.Found.{slot_of, entry_shown, called_back}
use Rattle.run_laws.proofs.supplied.Kept.{guest_at, numbers_are_there}
use Rattle.run_laws.proofs.supplied.Known.{Known, known}
use Rattle.run_laws.proofs.supplied.Moves.{ActingTask, acting_task, rests, acts_by, from_here, other_task}
use Rattle.run_laws.proofs.supplied.Words.{has_words}

-- The calls of the subtasks in the table of an instance are kept.
pub calls_kept : (p : Program) (values : List ValType) (s : Script) (h : Held) (stacks : List (List Stack)) (w : World) (at : ℕ) → RestsReached p values s h stacks w → SubtasksAreCalledOut w
    → KeepsCalls h at
calls_kept p values s h stacks w at r out index callee i here stood =
    let g : Graph = p.graph.now in
    let st : Stands g values s h stacks w = r.there.stands in
    let k : Known g s w = known g values s h stacks w r.there in
    let e = entry_shown g values s h stacks w st at index i (entry.Subtask callee) here stood in
    let stands : entry_at w at index ≡ Some (OfSubtask callee) = e.1 ∙ ap (λ (y : Entry). Some y) e.2 in
    let guest : IsGuest w.tasks callee = guest_at w at (slice_get w.insts at) refl k.standing.numbered.entries index callee stands in
    let subtask = some_of (subtask_of guest.0.caller) guest.2 in
    let x = slot_of g values s h stacks w st callee guest.0 guest.1 in
    let c = called_back s x.0.caller subtask.0 (subst (CallerStands s x.0.caller) (guest_is guest.0.caller subtask.0 subtask.1) x.2.called) in
    (x.0, c.0, call_kept g values s h stacks w at callee x.0 c.0 r.there r.marks x.1 c.1 (from_here g values s h stacks w at callee st (out at index callee stands)))
  where
    some_of : {A : Type 0} (o : Option A) → IsSome o → (x : A) × (o ≡ Some x)
    some_of None h = absurd (cc)
    some_of (Some x) h = (x, refl)

-- Until all is instantiated task 0 acts, which nobody called.
alone_first : (state : TaskState) (chain : List ℕ) (t : ℕ) → has_exited state ≡ false → IsInitial state chain → slice_get chain 0 ≡ Some t → t ≡ 0
alone_first world.Acting chain t yet h first = some_same (sym first ∙ ap (λ (c : List ℕ). slice_get c 0) h)
alone_first (world.Begins n) chain t yet h first = some_same (sym first ∙ ap (λ (c : List ℕ). slice_get c 0) h)
alone_first world.Exited chain t yet h first = absurd (cc)
alone_first world.New chain t yet h first = absurd h
alone_first (world.AfterCall callee number words) chain t yet h first = absurd h
alone_first (world.AfterCancel callee number words) chain t yet h first = absurd h
alone_first world.WaitsToEnter chain t yet h first = absurd h
alone_first (world.InLoop word) chain t yet h first = absurd h
alone_first (world.InBuiltin number words wait) chain t yet h first = absurd h

none_called : (o : Caller) → o ≡ Nobody → IsSome (subtask_of o) → ⊥
none_called o is some = (let none : IsSome (subtask_of Nobody) = subst (λ (x : Caller). IsSome (subtask_of x)) is some in let wrong : ⊥ = cc in wrong)

no_first : (g : Graph) (s : Script) (w : World) (t at index : ℕ) → Known g s w → may_leave w ≡ false → slice_get w.chain 0 ≡ Some t → entry_at w at index ≡ Some (OfSubtask t) → ⊥
no_first g s w t at index k yet first stood =
    let init : InitRunsAlone w.tasks w.chain = k.standing.alone.0 in
    let zero_is : t ≡ 0 = alone_first init.init.state w.chain t (sym (instantiated_is w.tasks init.init init.there) ∙ yet) init.alone first in
    let guest : IsGuest w.tasks 0 =
    guest_at w at (slice_get w.insts at) refl k.standing.numbered.entries index 0 (stood ∙ ap (λ (n : ℕ). Some (OfSubtask n)) zero_is) in
    none_called guest.0.caller (k.standing.numbered.called 0 guest.0 guest.1).1 guest.2

-- The words of the call are those that the acting task keeps.
words_kept : (g : Graph) (values : List ValType) (s : Script) (h : Held) (stacks : List (List Stack)) (w : World) (t : ℕ) → Stands g values s h stacks w → slice_get w.chain 0 ≡ Some t
    → KeepsWords h t (acting_words h)
words_kept g values s h stacks w t st first slot there =
    sym (ap (λ (o : Option ℕ). words_in (option_and_then (λ (n : ℕ). slice_get h.tasks n) o)) (acting_is_alike g values s h stacks w st ∙ first) ∙ ap words_in there)

-- A function that is asked for where none is.
any_func : Lifted
any_func = destructor_of 0 (func_ref.Canon 0)

-- which function the acting task runs, where it may leave its instance
own_call : (p : Program) (values : List ValType) (s : Script) (h : Held) (stacks : List (List Stack)) (w : World) (t number : ℕ) (words : List ℕ) (task : Task) (c : CanonFunc)
    → RestsReached p values s h stacks w → w.control ≡ Calls number words → canon_at p.graph.now number ≡ Some c → slice_get w.chain 0 ≡ Some t → slice_get w.tasks t ≡ Some task
    → IsSome (slice_get w.insts (inst_of_canon c)) → (b : Bool) → may_leave w ≡ b → (f : Lifted) × (may_leave w ≡ true → CallsOwn w t task f c)
own_call p values s h stacks w t number words task c r control made first there inside true free =
    let own = calls_are_own p.graph.now s r.there.steps w number words c t task r.there.apart r.there.reached
    (record { control = control; made = made; first = first; there = there; inside = inside }) free in
    (own.0, λ may. own.1)
own_call p values s h stacks w t number words task c r control made first there inside false yet = (any_func, λ may. (let none : true ≡ false = sym may ∙ yet in absurd (cc)))

apart_call : (p : Program) (values : List ValType) (s : Script) (h : Held) (stacks : List (List Stack)) (w : World) (t : ℕ) (task : Task) (f : Lifted) (c : CanonFunc)
    → RestsReached p values s h stacks w → SubtasksAreCalledOut w → slice_get w.chain 0 ≡ Some t → slice_get w.tasks t ≡ Some task → (may_leave w ≡ true → CallsOwn w t task f c)
    → (b : Bool) → may_leave w ≡ b → (index : ℕ) → entry_at w (inst_of_canon c) index ≡ Some (OfSubtask t) → ⊥
apart_call p values s h stacks w t task f c r out first there own true free index stood =
    let calls : CallsOwn w t task f c = own free in
    other_task w (inst_of_canon c) t t task f (out (inst_of_canon c) index t stood) there calls.acts.runs (sym calls.own) refl
apart_call p values s h stacks w t task f c r out first there own false yet index stood =
    no_first p.graph.now s w t (inst_of_canon c) index (known p.graph.now values s h stacks w r.there) yet first stood

pub calls_supplied : CallsSupplied
calls_supplied p values s h stacks w number funcs r insts out asked typed is =
    let g : Graph = p.graph.now in
    let st : Stands g values s h stacks w = r.there.stands in
    let k : Known g s w = known g values s h stacks w r.there in
    let words : List ℕ = acting_words h in
    let control : w.control ≡ Calls number words = rests p values s h stacks w (rest.Calls number) r is in
    let a : ActingTask w IsRunning = acting_task IsRunning w (acts_by g s w (Calls number words) k control) in
    let c : CanonFunc = asked.made in
    let own = own_call p values s h stacks w a.number number words a.task c r control asked.there a.first a.there asked.inside (may_leave w) refl in
    record {
      number = a.number;
      task = a.task;
      first = a.first;
      there = a.there;
      well = record {
        funcs = funcs;
        typed = typed;
        made = c;
        there = asked.there;
        words = words;
        keeps = words_kept g values s h stacks w a.number st a.first;
        has = has_words c words (asked.passed words control c asked.there);
        func = own.0;
        own = own.1;
        inside = asked.inside;
        sound = worlds_are_sound g s r.there.steps w a.number (inst_of_canon c) r.there.apart r.there.reached
            (record {
              instances = insts;
              apart = apart_call p values s h stacks w a.number a.task own.0 c r out a.first a.there own.1 (may_leave w) refl;
              ends = asked.ends;
              copies = asked.copies;
            });
        beside = marks_supply g values s h stacks w a.number (inst_of_canon c) st r.marks
            (record {
              borrowers = λ index task i x here there owned. (numbers_are_there g values s h stacks w r.there).borrowers (inst_of_canon c) index task i x here there owned;
              calls = calls_kept p values s h stacks w (inst_of_canon c) r out;
              ends = r.ends;
              memories = asked.memories;
            });
      };
    }

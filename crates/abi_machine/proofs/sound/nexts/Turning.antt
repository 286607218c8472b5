-- A step or an end comes next in each world of which holds what is kept, where what the rule of its control looks up is there.
use Rattle.std.proofs.Common.{◌≡◌, ℕ, zero, suc, Bool, true, false, List, [], ◌∷◌, length, refl, subst, Option, Some, None, if◌then◌else◌}
use Rattle.std.specs.Prelude.{IsSome}
use Rattle.std.specs.List.{slice_get, find, AllByRecursion}
use Rattle.std.specs.Option.{option_map}
use Rattle.wasm_store.proofs.Lists.{all_at}
use Rattle.tasks.specs.Tasks.{may_cancel}
use Rattle.comp_graph.specs.declared.graph.CanonFunc.{CanonFunc}
use Rattle.comp_graph.specs.Graph.{Graph, Lifted, func_named}
use Rattle.script_reader.specs.declared.script.Item.{Item}
use Rattle.script_reader.specs.declared.script.Item.TheVariants as item
use Rattle.script_reader.specs.Script.{Script}
use Rattle.trace_labels.specs.declared.label.Label.TheVariants as line
use Rattle.abi_machine.specs.Control.{Control, Free, Chosen, Instantiates, Runs, Arrives, Lowers, Quiet, Back, Goes as GoesOn, Resumes, Delivers, Leaves, Doomed}
use Rattle.abi_machine.specs.Control as control
use Rattle.abi_machine.specs.World.{Caller, Nobody, Task, World}
use Rattle.abi_machine.specs.Edits.{with_control, item_taken, chained}
use Rattle.abi_machine.specs.Canons.{canon_at, inst_of_canon}
use Rattle.abi_machine.specs.Reading.{func_of, with_numbers}
use Rattle.abi_machine.specs.Counting.{task_view}
use Rattle.abi_machine.specs.Cancelling.{cancelled_turn}
use Rattle.abi_machine.specs.Scheduling.{Alternative, Takes, GoesOn as GoesOnTask, alternatives, is_call_of, task_of_call, call_taken, cancel_taken, item_turn, gone, going_turn, alternative_turn, one_of, free_turn, chosen_turn}
use Rattle.abi_machine.specs.Turn.{silent}
use Rattle.abi_machine.specs.Next.{next_by}
use Rattle.abi_machine.specs.sound.Agreeing.{Tells}
use Rattle.abi_machine.specs.sound.Numbers.{IsCalledAs, Each}
use Rattle.abi_machine.specs.sound.Callers.{IsByCanon}
use Rattle.abi_machine.specs.sound.Acting.{Outline, outlines_of, IsActing, WasBlocked, OneActs, stacked_then, stacked_receiver, ActsBy}
use Rattle.abi_machine.specs.sound.Owners.{CallsOwn, IsControlOwn}
use Rattle.abi_machine.specs.sound.Picked.{IsPicked}
use Rattle.abi_machine.specs.sound.Taken.{CallsHaveTasks}
use Rattle.abi_machine.specs.sound.Events.{EventComes}
use Rattle.abi_machine.specs.sound.GoingOn.{HasNext, IsItemThere, IsNextThere, IsFed, WorldsGoOn}
use Rattle.abi_machine.proofs.sound.Found.{some_same, call_is}
use Rattle.abi_machine.proofs.sound.Taking.{call_found}
use Rattle.abi_machine.proofs.sound.Alternatives.{IsAlternative, all_alternatives}
use Rattle.abi_machine.proofs.sound.nexts.Parts.{given_next, behind_next, either_next, charged_next, chosen_next, acting_next, HasCaller, has_caller}
use Rattle.abi_machine.proofs.sound.nexts.Waking.{arriving_next, back_next, delivering_next, resumable, resuming_next}
use Rattle.abi_machine.proofs.sound.nexts.Moving.{leaving_next, running_next, lowers_next, nested_next, instantiating_next}
use Rattle.abi_machine.proofs.sound.nexts.Answering.{cancelled_next, calling_next}

-- Items of the script.

find_passes : {A : Type 0} (test : A → Bool) (xs : List A) (x : A) → find test xs ≡ Some x → test x ≡ true
find_passes test [] x e = cc
find_passes {A} test (y ∷ xs) x e = by (test y) refl e (λ k. find_passes test xs x k)
  where
    by : (b : Bool) → test y ≡ b → (if b then Some y else find test xs) ≡ Some x → (find test xs ≡ Some x → test x ≡ true) → test x ≡ true
    by true is k others = subst (λ (z : A). test z ≡ true) (some_same k) is
    by false is k others = others k

-- A task that the script called runs a function.
hosted_runs : (n call : ℕ) (task : Task) → IsCalledAs n task → is_call_of call task.caller ≡ true → IsSome (func_of task.callee)
hosted_runs zero call task called e = (let none : is_call_of call Nobody ≡ true = subst (λ (c : Caller). is_call_of call c ≡ true) called.1 e in cc)
hosted_runs (suc n) call task called e = called.0

-- what is known of calls: which tasks were called how, and that each call of the script made one
abbrev AreCalls : Script → World → Type 0
AreCalls s w = Each IsCalledAs w.tasks × CallsHaveTasks s w

item_next : (g : Graph) (s : Script) (i : Item) (w : World) → AreCalls s w → IsItemThere g s i w → HasNext (item_turn g s i w)
unfolding item_turn call_taken cancel_taken
item_next g s (item.Call call) w called there = given_next (func_named g call.name) _ there (λ f e. tt)
item_next g s (item.Cancel call) w called there =
    given_next (task_of_call call w) _ (call_found call w (called.1 call there.0 there.1)) (λ found e.
    behind_next (line.Cancel call ∷ []) _
    (either_next (may_cancel (task_view g (item_taken w) found.0 found.1)) (cancelled_turn g found.0 found.1 Free (item_taken w)) (silent Free (item_taken w))
    (λ k.
    cancelled_next g found.0 found.1 Free (item_taken w)
    (hosted_runs found.0 call found.1 (called.0 found.0 found.1 (call_is call w found e)) (find_passes (λ (x : ℕ × Task). is_call_of call x.1.caller) (with_numbers 0 w.tasks) found e)))
    (λ k. tt)))

item_later : (g : Graph) (s : Script) (i : Item) (w : World) (units : ℕ) → IsItemThere g s i w → IsItemThere g s i (record w { units = units })
item_later g s (item.Call call) w units h = h
item_later g s (item.Cancel call) w units h = h

-- Turns of the scheduler.

alternative_next : (g : Graph) (s : Script) (a : Alternative) (w : World) → AreCalls s w → IsNextThere g s w → IsAlternative s w a → HasNext (alternative_turn g s a w)
unfolding alternative_turn gone
alternative_next g s (Takes i) w called there is = charged_next true s w (λ v. item_turn g s i v) (λ units. item_next g s i (record w { units = units }) called (item_later g s i w units (there i is)))
alternative_next g s (GoesOnTask t) w called there is = charged_next true s w (λ v. gone t (chained t v)) (λ units. tt)

one_next : (g : Graph) (s : Script) (all : List Alternative) (w : World) → AreCalls s w → IsNextThere g s w → AllByRecursion (IsAlternative s w) all → HasNext (one_of g s all w)
unfolding one_of
one_next g s [] w called there are = tt
one_next g s (a ∷ []) w called there are = alternative_next g s a w called there are.0
one_next g s (a ∷ other ∷ others) w called there are = chosen_next s (length (a ∷ other ∷ others)) Chosen w

free_next : (g : Graph) (s : Script) (w : World) → AreCalls s w → IsNextThere g s w → HasNext (free_turn g s w)
unfolding free_turn
free_next g s w called there = one_next g s (alternatives g s w) w called there (all_alternatives g s w)

chosen_turn_next : (g : Graph) (s : Script) (k : ℕ) (w : World) → AreCalls s w → IsNextThere g s w → IsSome (slice_get (alternatives g s w) k) → HasNext (chosen_turn g s k w)
unfolding chosen_turn
chosen_turn_next g s k w called there picked =
    given_next (slice_get (alternatives g s w) k) _ picked (λ a e. alternative_next g s a w called there (all_at (IsAlternative s w) (alternatives g s w) k a (all_alternatives g s w) e))

going_next : (s : Script) (P : Outline → Type 0) (w : World) → OneActs P (outlines_of w.tasks) w.chain → HasNext (going_turn s w)
unfolding going_turn gone
going_next s P w acts = acting_next P w _ acts (λ t task first at p. charged_next true s w (λ v. gone t v) (λ units. tt))

-- The canonical function that a task calls: of its component instance, where it runs a function.
owned_there : (o : Option CanonFunc) (i : ℕ) → option_map inst_of_canon o ≡ Some i → IsSome o
owned_there None i e = cc
owned_there (Some c) i e = refl

canon_made : (g : Graph) (number : ℕ) (o : Option Lifted) → CallsOwn g o number → (o ≡ None → IsSome (canon_at g number)) → IsSome (canon_at g number)
canon_made g number None own made = made refl
canon_made g number (Some f) own made = owned_there (canon_at g number) f.instance own

-- The machine.

pub worlds_go_on : WorldsGoOn
worlds_go_on g s w h fed = by w.control h.ordered.2 h.alone.2 h.control_own h.picked h.events fed
  where
    v : World
    v = with_control Free w

    caller : (t : ℕ) (task : Task) → slice_get w.tasks t ≡ Some task → IsSome (func_of task.callee) → HasCaller g task.caller
    caller t task at runs = has_caller g t task (h.numbered.called t task at) runs (all_at (λ (x : Task). IsByCanon g x.caller) w.tasks t task h.by_canons at)

    by : (c : Control) → ActsBy c (outlines_of w.tasks) w.chain → Tells c w.tasks w.chain w.streams w.futures w.insts → IsControlOwn g c w → IsPicked g s c w → EventComes g c v → IsFed g s c v → HasNext (next_by g s v c)
    by Free acts tells own picked comes fed = free_next g s v (h.numbered.called, h.taken) fed
    by (Chosen k) acts tells own picked comes fed = chosen_turn_next g s k v (h.numbered.called, h.taken) fed picked
    by (Instantiates n) acts tells own picked comes fed = instantiating_next g n v fed
    by Runs acts tells own picked comes fed = running_next g s v acts caller fed.0 fed.1
    by (control.Calls number words) acts tells own picked comes fed =
        calling_next g number words v acts h.alone.0 (λ t task first at. canon_made g number (func_of task.callee) (own t task first at) (λ none. fed.made t task first at none)) fed.names
        (record { named = h.numbered.entries; called = h.numbered.called; held = h.copies }) caller
    by Arrives acts tells own picked comes fed = arriving_next g v h.ordered.1 acts caller
    by (Lowers l plan) acts tells own picked comes fed = lowers_next g l plan (stacked_then l.next) v acts.0 own tells.1 fed.0 fed.1
    by (Quiet n b) acts tells own picked comes fed = nested_next g s n b v own.0 fed
    by Back acts tells own picked comes fed = back_next g v h.ordered.1 acts h.called h.waits
    by GoesOn acts tells own picked comes fed = going_next s WasBlocked v acts
    by Resumes acts tells own picked comes fed =
        resuming_next g v h.ordered.1 acts caller h.numbered.entries
        (λ t task f first at runs.
        resumable g v t task f at runs (h.called t task at) (h.waits t task at) (h.loops t task at) (λ index waits. h.sets t index task f at runs waits) (h.cancels.stands t task at) (fed t task f at runs) (comes t task f first at runs))
    by (Delivers set receiver pick) acts tells own picked comes fed = delivering_next g s set receiver pick (IsActing (stacked_receiver receiver)) v acts (λ o p. p.0) h.numbered.entries comes fed
    by Leaves acts tells own picked comes fed = leaving_next (IsActing false) v acts
    by (Doomed t why) acts tells own picked comes fed = tt

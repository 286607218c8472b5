-- A deadlock names those that have not exited, by rising number, and each waits in vain.
use Rattle.std.proofs.Common.{◌≡◌, ◌≤◌, ◌+◌, inl, inr, ◌&&◌, ℕ, zero, suc, Bool, true, false, not, List, [], ◌∷◌, map, refl, sym, ap, ◌∙◌, subst, arith, Option, Some, if◌then◌else◌}
use Rattle.std.specs.Prelude.{filter, drop}
use Rattle.std.specs.List.{slice_get}
use Rattle.wasm_store.proofs.Lists.{all_at}
use Rattle.entry_gate.specs.Stays.{is_inside}
use Rattle.entry_gate.specs.Callbacks.{callback_of}
use Rattle.tasks.specs.Tasks.{is_asked, is_sync}
use Rattle.comp_graph.specs.Graph.{Graph, Lifted}
use Rattle.script_reader.specs.Script.{Script}
use Rattle.abi_machine.specs.declared.run_end.RunEnd.TheVariants.{Done, Deadlock}
use Rattle.abi_machine.specs.Control.{Control, Free}
use Rattle.abi_machine.specs.Edits.{with_control}
use Rattle.abi_machine.specs.World.{Wait, ForYield, ForSet, ForCall, ForCopy, ForCancel, TaskState, New, Acting, AfterCall, AfterCancel, Begins, WaitsToEnter, InLoop, InBuiltin, Exited, Task, World, first_world}
use Rattle.abi_machine.specs.Canons.{flag_at}
use Rattle.abi_machine.specs.Reading.{func_of, kind_of, has_exited, with_numbers, numbers_of}
use Rattle.abi_machine.specs.Gate.{place_of}
use Rattle.abi_machine.specs.Scheduling.{is_some_ready, wait_is_over, is_able_in, is_able, Alternative, end_by, one_of, free_turn}
use Rattle.abi_machine.specs.Counting.{passes}
use Rattle.abi_machine.specs.Turn.{Ends}
use Rattle.abi_machine.specs.Next.{next, next_by}
use Rattle.abi_machine.specs.Run.{Reaches}
use Rattle.abi_machine.specs.sound.Chain.{IsThere}
use Rattle.abi_machine.specs.sound.Initial.{IsInitial, RunsAlone}
use Rattle.abi_machine.specs.sound.Called.{HasCalled}
use Rattle.abi_machine.specs.sound.Loops.{LoopsIn, LoopsSo}
use Rattle.abi_machine.specs.sound.CopyWaits.{AwaitCopies}
use Rattle.abi_machine.specs.sound.GoingOn.{IsStanding}
use Rattle.abi_machine.specs.sound.Deadlocks as held_up
use Rattle.abi_machine.proofs.sound.Found.{some_same}
use Rattle.abi_machine.proofs.sound.Deadlocked.{reached_deadlocks_are_real}
use Rattle.abi_machine.proofs.sound.Ending.{ends_come_where}
use Rattle.abi_machine.proofs.sound.Idle.{none_is_able}
use Rattle.abi_machine.proofs.sound.Reached.{reached_stand}
use Rattle.abi_machine.proofs.sound.CopiesReached.{reached_await}
use Rattle.waiting_laws.specs.Offers.{HasOpenOffers}
use Rattle.waiting_laws.specs.Missing.{IsNamed, IsMissing, WaitsInVain}
use Rattle.waiting_laws.specs.Deadlocks.{RiseFrom, IsUnfinished, IsStuck, DeadlocksAreInVain}
use Rattle.waiting_laws.proofs.Offers.{reached_offers_are_open}
use Rattle.waiting_laws.proofs.Holding.{held_by_another}
use Rattle.waiting_laws.proofs.Vain.{or_false, and_false, kept_out, no_event, loop_misses, not_returned, not_ended, meets_none}

-- Numbers of tasks rise.
rise_later : (n : ℕ) (numbers : List ℕ) → RiseFrom (n + 1) numbers → RiseFrom n numbers
rise_later n [] h = tt
rise_later n (t ∷ later) h = (let low : n + 1 ≤ t = h.0 in omega (arith, low), h.1)

rise_if : (b : Bool) (n : ℕ) (x : Task) (others : List (ℕ × Task)) → RiseFrom (n + 1) (map (λ (y : ℕ × Task). y.0) others) → RiseFrom n (map (λ (y : ℕ × Task). y.0) (if b then (n, x) ∷ others else others))
rise_if true n x others h = (omega arith, h)
rise_if false n x others h = rise_later n (map (λ (y : ℕ × Task). y.0) others) h

numbers_rise : (test : Task → Bool) (n : ℕ) (tasks : List Task) → RiseFrom n (numbers_of test (with_numbers n tasks))
numbers_rise test n [] = tt
numbers_rise test n (x ∷ tasks) = rise_if (test x) n x (filter (λ (y : ℕ × Task). test y.1) (with_numbers (n + 1) tasks)) (numbers_rise test (n + 1) tasks)

abbrev is_left : Task → Bool
is_left task = not (has_exited task.state)

left_rise : (tasks : List Task) → RiseFrom 0 (numbers_of is_left (drop 1 (with_numbers 0 tasks)))
left_rise [] = tt
left_rise (x ∷ tasks) = rise_later 0 (numbers_of is_left (with_numbers (0 + 1) tasks)) (numbers_rise is_left (0 + 1) tasks)

-- Who is named has not exited; and who has not is named, since task 0 has.
unexited : (w : World) (i : ℕ) (named : List ℕ) (task : Task) (state : TaskState) → held_up.IsHeldUp w i named task state → has_exited state ≡ false
unexited w i named task Exited h = absurd h
unexited w i named task New h = refl
unexited w i named task Acting h = refl
unexited w i named task (AfterCall callee number words) h = refl
unexited w i named task (AfterCancel callee number words) h = refl
unexited w i named task (Begins n) h = refl
unexited w i named task WaitsToEnter h = refl
unexited w i named task (InLoop said) h = refl
unexited w i named task (InBuiltin number words wait) h = refl

is_there : (state : TaskState) → has_exited state ≡ false → IsThere state
is_there Exited e = cc
is_there New e = tt
is_there Acting e = tt
is_there (AfterCall callee number words) e = tt
is_there (AfterCancel callee number words) e = tt
is_there (Begins n) e = tt
is_there WaitsToEnter e = tt
is_there (InLoop said) e = tt
is_there (InBuiltin number words wait) e = tt

init_over : (state : TaskState) (chain : List ℕ) → chain ≡ [] → IsInitial state chain → has_exited state ≡ false → ⊥
init_over Exited chain idle h e = cc
init_over Acting chain idle h e = (let clash : (let none : List ℕ = [] in none) ≡ 0 ∷ [] = sym idle ∙ h in cc)
init_over (Begins n) chain idle h e = (let clash : (let none : List ℕ = [] in none) ≡ 0 ∷ [] = sym idle ∙ h in cc)
init_over New chain idle h e = h
init_over (AfterCall callee number words) chain idle h e = h
init_over (AfterCancel callee number words) chain idle h e = h
init_over WaitsToEnter chain idle h e = h
init_over (InLoop said) chain idle h e = h
init_over (InBuiltin number words wait) chain idle h e = h

all_named : (s : Script) (w : World) (named : List ℕ) → RunsAlone w → held_up.IsDeadlocked s w named → (t : ℕ) → IsUnfinished w t → IsNamed t named
all_named s w named alone h zero u =
    let same : alone.0.init ≡ u.0 = some_same (sym alone.0.there ∙ u.1) in
    absurd (init_over alone.0.init.state w.chain h.idle alone.0.alone (ap (λ (x : Task). has_exited x.state) same ∙ u.2))
all_named s w named alone h (suc n) u = h.all_named (suc n) u.0 (omega arith) u.1 (is_there u.0.state u.2)

-- Where all have exited the run is done.
ends_apart : (named : List ℕ) → Ends Done ≡ Ends (Deadlock named) → ⊥
ends_apart named e = cc

same_world : (w : World) → w.control ≡ Free → with_control Free w ≡ w
same_world w e = ap (λ (c : Control). with_control c w) (sym e)

some_named : (g : Graph) (s : Script) (w : World) (named : List ℕ) → next g s w ≡ Ends (Deadlock named) → named ≡ [] → ⊥
unfolding free_turn one_of
some_named g s w named e none =
    let found = ends_come_where g s w (Deadlock named) e in
    let turn : free_turn g s (with_control Free w) ≡ Ends (Deadlock named) = ap (next_by g s (with_control Free w)) (sym found.0) ∙ e in
    let own : free_turn g s w ≡ Ends (Deadlock named) = sym (ap (free_turn g s) (same_world w found.0)) ∙ turn in
    let idle : one_of g s [] w ≡ Ends (Deadlock named) = ap (λ (all : List Alternative). one_of g s all w) (sym found.1) ∙ own in
    ends_apart named (sym (ap (λ (l : List ℕ). Ends (end_by l)) (found.2 ∙ none)) ∙ idle)

-- What is known where a run ends in deadlock.
record IsKnown (g : Graph) (s : Script) (w : World) (named : List ℕ) : Type 0 where
  stands : IsStanding g s w
  awaits : AwaitCopies g w
  offers : HasOpenOffers w
  real : held_up.IsDeadlocked s w named
  unable : (t : ℕ) (task : Task) → slice_get w.tasks t ≡ Some task → is_able g w task ≡ false

wait_misses : (g : Graph) (s : Script) (w : World) (named : List ℕ) (t number : ℕ) (words : List ℕ) (task : Task) (f : Lifted) (wait : Wait) → IsKnown g s w named → slice_get w.tasks t ≡ Some task
    → func_of task.callee ≡ Some f → task.state ≡ InBuiltin number words wait → wait_is_over g w f.instance task number wait ≡ false → held_up.IsMissing w f.instance named wait
    → IsMissing g w named f.instance t task number wait
wait_misses g s w named t number words task f ForYield k there runs is unable m = m
wait_misses g s w named t number words task f (ForSet index) k there runs is unable m = (
  no_event g s w f.instance index k.stands (k.stands.sets t index task f there runs (number, words, is)) m,
  λ asked. and_false (is_asked task.cancellation) (flag_at g number && not (is_sync (kind_of task))) (or_false (is_some_ready w f.instance index) _ unable).1 asked,
)
wait_misses g s w named t number words task f (ForCall callee) k there runs is unable m =
    not_returned g s w named t number callee k.stands (subst (HasCalled w.tasks t) is (k.stands.called t task there)) m
wait_misses g s w named t number words task f (ForCopy index) k there runs is unable m = meets_none g w f.instance t number index k.offers (k.awaits t number index task f there runs (words, is)) m
wait_misses g s w named t number words task f (ForCancel index) k there runs is unable m = not_ended g s w named t number index words task f k.stands k.real.idle there runs is m

in_vain : (g : Graph) (s : Script) (w : World) (named : List ℕ) (t : ℕ) (task : Task) (f : Lifted) (state : TaskState) → IsKnown g s w named → slice_get w.tasks t ≡ Some task → func_of task.callee ≡ Some f
    → task.state ≡ state → is_able_in g w f.instance task state ≡ false → held_up.IsHeldUp w f.instance named task state → WaitsInVain g w named f.instance t task state
in_vain g s w named t task f WaitsToEnter k there runs is unable h = kept_out w named f.instance t task there is unable h
in_vain g s w named t task f (InLoop said) k there runs is unable h = elim h [
  | inl held ↦ inl (held_by_another w named f.instance t task there (ap (λ (state : TaskState). is_inside (place_of state)) is) held)
  | inr misses ↦ inr (loop_misses g s w f.instance task (callback_of said) k.stands loops misses)
]
  where
    loops : LoopsIn w.insts (Some f) said
    loops =
        subst (λ (o : Option Lifted). LoopsIn w.insts o said) runs (subst (λ (x : TaskState). LoopsSo w.insts task.callee x) is (k.stands.loops t task there))
in_vain g s w named t task f (InBuiltin number words wait) k there runs is unable h = wait_misses g s w named t number words task f wait k there runs is unable h
in_vain g s w named t task f New k there runs is unable h = absurd h
in_vain g s w named t task f Acting k there runs is unable h = absurd h
in_vain g s w named t task f (AfterCall callee number words) k there runs is unable h = absurd h
in_vain g s w named t task f (AfterCancel callee number words) k there runs is unable h = absurd h
in_vain g s w named t task f (Begins n) k there runs is unable h = absurd h
in_vain g s w named t task f Exited k there runs is unable h = absurd h

is_stuck : (g : Graph) (s : Script) (w : World) (named : List ℕ) (t : ℕ) → IsKnown g s w named → held_up.StandsStill w named t → IsStuck g w named t
is_stuck g s w named t k h =
    let task : Task = h.0 in
    let f : Lifted = h.1 in
    let there : slice_get w.tasks t ≡ Some task = h.2 in
    let runs : func_of task.callee ≡ Some f = h.3 in
    let unable : is_able_in g w f.instance task task.state ≡ false =
    sym (ap (λ (o : Option Lifted). passes (λ (x : Lifted). is_able_in g w x.instance task task.state) o) runs) ∙ k.unable t task there in
    record { task = task; there = there; func = f; runs = runs; in_vain = in_vain g s w named t task f task.state k there runs refl unable h.4 }

pub deadlocks_are_in_vain : DeadlocksAreInVain
deadlocks_are_in_vain g s labels last named apart clean r =
    let reaches : Reaches g s (first_world g) r.0 last = r.1 in
    let ends : next g s last ≡ Ends (Deadlock named) = r.2 in
    let k : IsKnown g s last named = record {
      stands = reached_stand g s r.0 last apart reaches;
      awaits = (reached_await g s r.0 last apart clean reaches).0;
      offers = reached_offers_are_open g s r.0 last reaches;
      real = reached_deadlocks_are_real g s r.0 last named reaches ends;
      unable = λ t task there. none_is_able g s last named t task ends there;
    } in
    record {
      idle = k.real.idle;
      no_item = k.real.no_item;
      some = some_named g s last named ends;
      rises = subst (RiseFrom 0) (sym k.real.are) (left_rise last.tasks);
      unfinished = λ t in_it.
          (let h : held_up.StandsStill last named t = all_at (held_up.StandsStill last named) named in_it.0 t k.real.each in_it.1 in
          (h.0, h.2, unexited last h.1.instance named h.0 h.0.state h.4));
      all = all_named s last named k.stands.alone k.real;
      unable = k.unable;
      each = λ t in_it. is_stuck g s last named t k (all_at (held_up.StandsStill last named) named in_it.0 t k.real.each in_it.1);
    }

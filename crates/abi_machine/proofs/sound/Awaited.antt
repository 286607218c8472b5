-- Subtasks of tables, and those for which a caller waits, stay as they are told apart.
use Rattle.std.proofs.Common.{◌≡◌, ◌<◌, ◌⊎◌, inl, inr, ℕ, zero, suc, true, List, [], ◌∷◌, ◌++◌, length, refl, sym, ap, ◌∙◌, subst, arith, Option, Some, None}
use Rattle.std.specs.Prelude.{IsSome}
use Rattle.std.specs.List.{slice_get}
use Rattle.wasm_store.proofs.Lists.{all_at}
use Rattle.handle_table.specs.History.{live}
use Rattle.tasks.specs.Subtasks.{delivered, with_lend}
use Rattle.tasks.specs.declared.phase.Resolution.TheVariants.{Cancelled}
use Rattle.comp_graph.specs.Graph.{Graph}
use Rattle.script_reader.specs.Script.{Script}
use Rattle.abi_machine.specs.World.{OfSubtask, OfSet, Inst, Init, Subtask, Caller, Nobody, Host, Guest, Wait, ForYield, ForSet, ForCall, ForCopy, ForCancel, TaskState, New, Acting, AfterCall, AfterCancel, WaitsToEnter, InLoop, InBuiltin, Exited, Task, World, new_task}
use Rattle.abi_machine.specs.World as world
use Rattle.abi_machine.specs.Edits.{changed_at, caller_changed, by_view}
use Rattle.abi_machine.specs.Canons.{options_at}
use Rattle.abi_machine.specs.Reading.{table_in, subtask_of}
use Rattle.abi_machine.specs.sound.Changes.{Change, GoesTo, HasStore, SpendsUnit, UsesPicks, TakesItem, BeginsInstance, AddsEntry, MakesSet, RemovesEntry, RemovesWaitable, LeavesSet, JoinsSet, HasBackpressure, IsCalled, Calls, ComesBack, Acts, Begins, Cancels, Blocks, Exits, IsRemoved, Resolves, IsCancelled, HasWord, HasNewStack, HasStack, LosesStack, IsAnswered, IsTold, IsLent, HasResult, MakesChannel, Offers, Transfers, Concludes, DropsEnd, after, IsGuest, IsBlocked, MayCome}
use Rattle.abi_machine.specs.sound.Numbers.{NamesWhatIsThere, IsNumbered}
use Rattle.abi_machine.specs.sound.Called.{CalledBy}
use Rattle.abi_machine.specs.sound.Subtasks.{StandsNowhere, CallIs, IsAsync, IsUntold, IsUnawaited, WaitsSync, CancelsApart, AreSubtasks, HasSubtasks, FirstHasSubtasks, SubtasksStay}
use Rattle.abi_machine.proofs.sound.Lists.{more_either, get_front, within, length_changed, there_front}
use Rattle.abi_machine.proofs.sound.Found.{some_same, changed_kept, there_changed}
use Rattle.abi_machine.proofs.sound.Aside.{channel_kept, made_kept}
use Rattle.abi_machine.proofs.sound.Chained.{no_first, changed_here, other_there, last_there}
use Rattle.abi_machine.proofs.sound.Numbered.{numbered}
use Rattle.abi_machine.proofs.sound.Ordered.{in_order}
use Rattle.abi_machine.proofs.sound.known.Unawaited.{in_this_state}
use Rattle.abi_machine.proofs.sound.known.Keeping.{BlocksAs, Besides}
use Rattle.abi_machine.proofs.sound.known.Beside.{beside}
use Rattle.abi_machine.proofs.sound.known.Turning.{step_known}
use Rattle.abi_machine.proofs.sound.AwaitedTables.{both_no_more, begun_no_more, fewer, other_no_more, removed_no_more, same_no_more, entry_added}

-- Tasks.

-- what a change of a task leaves of the caller's side of its call
abbrev pub KeepsCall : (Subtask → Type 0) → (Task → Task) → Type 0
KeepsCall P f = (x : Task) (subtask : Subtask) → subtask_of x.caller ≡ Some subtask → P subtask → (later : Subtask) × (subtask_of (f x).caller ≡ Some later) × P later

pub same_call : (P : Subtask → Type 0) (f : Task → Task) → ((x : Task) → (f x).caller ≡ x.caller) → KeepsCall P f
same_call P f same x subtask e p = (subtask, ap subtask_of (same x) ∙ e, p)

caller_some : (f : Subtask → Subtask) (c : Caller) (subtask : Subtask) → subtask_of c ≡ Some subtask → subtask_of (caller_changed f c) ≡ Some (f subtask)
caller_some f Nobody subtask e = cc
caller_some f (Host call values) subtask e = cc
caller_some f (Guest other) subtask e = ap (λ (x : Subtask). Some (f x)) (some_same e)

pub by_call : (P : Subtask → Type 0) (f : Subtask → Subtask) → ((x : Subtask) → P x → P (f x)) → KeepsCall P (λ x. record x { caller = caller_changed f x.caller })
by_call P f keeps x subtask e p = (f subtask, caller_some f x.caller subtask e, keeps subtask p)

pub call_changed : (tasks : List Task) (u : ℕ) (f : Task → Task) (P : Subtask → Type 0) (callee : ℕ) → KeepsCall P f → CallIs tasks callee P → CallIs (changed_at u f tasks) callee P
call_changed tasks u f P callee keeps h = elim (changed_kept u f tasks callee h.0 h.1) [
  | inl e ↦ (h.0, e, h.2)
  | inr e ↦ (f h.0, e, keeps h.0 h.2.0 h.2.1 h.2.2)
]

pub call_more : (tasks : List Task) (new : Task) (P : Subtask → Type 0) (callee : ℕ) → CallIs tasks callee P → CallIs (tasks ++ new ∷ []) callee P
call_more tasks new P callee h = (h.0, get_front tasks new callee h.0 h.1, h.2)

-- what holds of the one that a task cancels, of other tasks
cancels_as : (tasks others : List Task) (state : TaskState)
    → ((callee : ℕ) → IsSome (slice_get tasks callee) → IsUnawaited tasks callee → IsSome (slice_get others callee) × IsUnawaited others callee) → CancelsApart tasks state → CancelsApart others state
cancels_as tasks others New keeps h = tt
cancels_as tasks others Acting keeps h = tt
cancels_as tasks others (AfterCall callee number words) keeps h = tt
cancels_as tasks others (AfterCancel callee number words) keeps h = keeps callee h.0 h.1
cancels_as tasks others (world.Begins n) keeps h = tt
cancels_as tasks others WaitsToEnter keeps h = tt
cancels_as tasks others (InLoop word) keeps h = tt
cancels_as tasks others (InBuiltin number words wait) keeps h = tt
cancels_as tasks others Exited keeps h = tt

-- A change that leaves states alone.
old_state : (tasks : List Task) (u : ℕ) (f : Task → Task) → ((x : Task) → (f x).state ≡ x.state) → (t : ℕ) (task : Task) → slice_get (changed_at u f tasks) t ≡ Some task
    → (x : Task) × (slice_get tasks t ≡ Some x) × (task.state ≡ x.state)
old_state tasks u f same t task e = elim (changed_here u f tasks t task e) [
  | inl o ↦ (o.1.0, subst (λ (n : ℕ). slice_get tasks n ≡ Some o.1.0) (sym o.0) o.1.1, ap (λ (x : Task). x.state) o.1.2 ∙ same o.1.0)
  | inr old ↦ (task, old, refl)
]

unawaited_same : (tasks : List Task) (u : ℕ) (f : Task → Task) → ((x : Task) → (f x).state ≡ x.state) → (callee : ℕ) → IsUnawaited tasks callee → IsUnawaited (changed_at u f tasks) callee
unawaited_same tasks u f same callee h t number task e c =
    (let o = old_state tasks u f same t task e in h t number o.0 o.1 (subst (λ (state : TaskState). CalledBy state callee number) o.2 c))

beside_states : (g : Graph) (tasks : List Task) (insts : List Inst) (u : ℕ) (f : Task → Task) → KeepsCall (IsAsync g) f → IsUnawaited tasks u ⊎ KeepsCall IsUntold f
    → ((x : Task) → (f x).state ≡ x.state) → AreSubtasks g tasks insts → AreSubtasks g (changed_at u f tasks) insts
beside_states g tasks insts u f async untold same h = record {
  async = λ i index callee stands. call_changed tasks u f (IsAsync g) callee async (h.async i index callee stands);
  once = h.once;
  awaited = λ t callee number task e c. (
      let o = old_state tasks u f same t task e in
      let waits : CalledBy o.0.state callee number = subst (λ (state : TaskState). CalledBy state callee number) o.2 c in
      let k = h.awaited t callee number o.0 o.1 waits in (by callee t number o.0 o.1 waits untold k.0, k.1)
      );
  sync = λ t task e. (let o = old_state tasks u f same t task e in subst (WaitsSync g) (sym o.2) (h.sync t o.0 o.1));
  cancelled = λ t task e. (
      let o = old_state tasks u f same t task e in
      subst (CancelsApart (changed_at u f tasks)) (sym o.2)
      (cancels_as tasks (changed_at u f tasks) o.0.state (λ callee some alone. (there_changed tasks u callee f some, unawaited_same tasks u f same callee alone)) (h.cancelled t o.0 o.1))
      );
}
  where
    by : (callee t number : ℕ) (x : Task) → slice_get tasks t ≡ Some x → CalledBy x.state callee number → IsUnawaited tasks u ⊎ KeepsCall IsUntold f → CallIs tasks callee IsUntold → CallIs (changed_at u f tasks) callee IsUntold
    by callee t number x there waits (inr keeps) k = call_changed tasks u f IsUntold callee keeps k
    by callee t number x there waits (inl alone) k = (
      k.0,
      other_there u callee f tasks (λ at. alone t number x there (subst (λ (n : ℕ). CalledBy x.state n number) (sym at) waits)) ∙ k.1,
      k.2,
    )

-- callers and states that stay
untouched : (g : Graph) (tasks : List Task) (insts : List Inst) (u : ℕ) (f : Task → Task) → ((x : Task) → (f x).caller ≡ x.caller) → ((x : Task) → (f x).state ≡ x.state) → AreSubtasks g tasks insts → AreSubtasks g (changed_at u f tasks) insts
untouched g tasks insts u f callers states h =
    beside_states g tasks insts u f (same_call (IsAsync g) f callers) (inr (same_call IsUntold f callers)) states h

-- The acting task gets another state.
abbrev sets_state : TaskState → Task → Task
sets_state state task = record task { state = state }

state_changed : (g : Graph) (tasks : List Task) (insts : List Inst) (u : ℕ) (state : TaskState)
    → ((callee number : ℕ) → CalledBy state callee number → CallIs tasks callee IsUntold × StandsNowhere insts callee) → WaitsSync g state → CancelsApart tasks state
    → ((callee number : ℕ) → IsUnawaited tasks callee → CalledBy state callee number → ⊥) → AreSubtasks g tasks insts → AreSubtasks g (changed_at u (sets_state state) tasks) insts
state_changed g tasks insts u state awaits sync cancels alone h =
    let others : List Task = changed_at u (sets_state state) tasks in
    let apart : (callee : ℕ) → IsUnawaited tasks callee → IsUnawaited others callee = λ callee k t number task e c. elim (changed_here u (sets_state state) tasks t task e) [
      | inl o ↦ alone callee number k (subst (λ (x : Task). CalledBy x.state callee number) o.1.2 c)
      | inr old ↦ k t number task old c
    ] in
    let stay : (x : TaskState) → CancelsApart tasks x → CancelsApart others x = λ x k.
    cancels_as tasks others x (λ callee some none. (there_changed tasks u callee (sets_state state) some, apart callee none)) k in
    record {
      async = λ i index callee stands. call_changed tasks u (sets_state state) (IsAsync g) callee (same_call (IsAsync g) (sets_state state) (λ x. refl)) (h.async i index callee stands);
      once = h.once;
      awaited = λ t callee number task e c. elim (changed_here u (sets_state state) tasks t task e) [
        | inl o ↦ (
            let k = awaits callee number (subst (λ (x : Task). CalledBy x.state callee number) o.1.2 c) in
            (call_changed tasks u (sets_state state) IsUntold callee (same_call IsUntold (sets_state state) (λ x. refl)) k.0, k.1)
            )
        | inr old ↦ (
            let k = h.awaited t callee number task old c in (call_changed tasks u (sets_state state) IsUntold callee (same_call IsUntold (sets_state state) (λ x. refl)) k.0, k.1)
            )
      ];
      sync = λ t task e. elim (changed_here u (sets_state state) tasks t task e) [
        | inl o ↦ subst (λ (x : Task). WaitsSync g x.state) (sym o.1.2) sync
        | inr old ↦ h.sync t task old
      ];
      cancelled = λ t task e. elim (changed_here u (sets_state state) tasks t task e) [
        | inl o ↦ subst (λ (x : Task). CancelsApart others x.state) (sym o.1.2) (stay state cancels)
        | inr old ↦ stay task.state (h.cancelled t task old)
      ];
    }

-- A state in which a task waits for no other and cancels none.
abbrev IsIdle : TaskState → Type 0
IsIdle (AfterCall callee number words) = ⊥
IsIdle (AfterCancel callee number words) = ⊥
IsIdle (InBuiltin number words wait) = ⊥
IsIdle state = Unit {0}

idle_calls : (state : TaskState) (callee number : ℕ) → IsIdle state → CalledBy state callee number → ⊥
idle_calls New callee number is c = c
idle_calls Acting callee number is c = c
idle_calls (AfterCall other canon words) callee number is c = is
idle_calls (AfterCancel other canon words) callee number is c = c
idle_calls (world.Begins n) callee number is c = c
idle_calls WaitsToEnter callee number is c = c
idle_calls (InLoop word) callee number is c = c
idle_calls (InBuiltin canon words wait) callee number is c = is
idle_calls Exited callee number is c = c

idle_sync : (g : Graph) (state : TaskState) → IsIdle state → WaitsSync g state
idle_sync g New is = tt
idle_sync g Acting is = tt
idle_sync g (AfterCall other canon words) is = tt
idle_sync g (AfterCancel other canon words) is = tt
idle_sync g (world.Begins n) is = tt
idle_sync g WaitsToEnter is = tt
idle_sync g (InLoop word) is = tt
idle_sync g (InBuiltin canon words wait) is = absurd is
idle_sync g Exited is = tt

idle_cancels : (tasks : List Task) (state : TaskState) → IsIdle state → CancelsApart tasks state
idle_cancels tasks New is = tt
idle_cancels tasks Acting is = tt
idle_cancels tasks (AfterCall other canon words) is = tt
idle_cancels tasks (AfterCancel other canon words) is = absurd is
idle_cancels tasks (world.Begins n) is = tt
idle_cancels tasks WaitsToEnter is = tt
idle_cancels tasks (InLoop word) is = tt
idle_cancels tasks (InBuiltin canon words wait) is = tt
idle_cancels tasks Exited is = tt

idle_changed : (g : Graph) (tasks : List Task) (insts : List Inst) (u : ℕ) (state : TaskState) → IsIdle state → AreSubtasks g tasks insts → AreSubtasks g (changed_at u (sets_state state) tasks) insts
idle_changed g tasks insts u state is h =
    state_changed g tasks insts u state (λ callee number c. absurd (idle_calls state callee number is c)) (idle_sync g state is) (idle_cancels tasks state is) (λ callee number k c. idle_calls state callee number is c) h

-- A task waits for others in a canonical function.
waits_changed : (g : Graph) (w : World) (t number : ℕ) (words : List ℕ) (wait : Wait) → BlocksAs g t (InBuiltin number words wait) w → HasSubtasks g w
    → AreSubtasks g (changed_at t (sets_state (InBuiltin number words wait)) w.tasks) w.insts
waits_changed g w t number words ForYield b h =
    state_changed g w.tasks w.insts t (InBuiltin number words ForYield) (λ callee canon c. absurd c) tt tt (λ callee canon k c. c) h
waits_changed g w t number words (ForSet index) b h =
    state_changed g w.tasks w.insts t (InBuiltin number words (ForSet index)) (λ callee canon c. absurd c) tt tt (λ callee canon k c. c) h
waits_changed g w t number words (ForCall callee) b h =
    let x = in_this_state w t (AfterCall callee number words) b.0 in
    let waits : CalledBy x.0.state callee number = subst (λ (state : TaskState). CalledBy state callee number) (sym x.2) (refl, refl) in
    state_changed g w.tasks w.insts t (InBuiltin number words (ForCall callee))
    (λ other canon c. subst (λ (n : ℕ). CallIs w.tasks n IsUntold × StandsNowhere w.insts n) c.0 (h.awaited t callee number x.0 x.1 waits)) b.1 tt
    (λ other canon k c. k t number x.0 x.1 (subst (λ (n : ℕ). CalledBy x.0.state n number) c.0 waits)) h
waits_changed g w t number words (ForCopy index) b h =
    state_changed g w.tasks w.insts t (InBuiltin number words (ForCopy index)) (λ callee canon c. absurd c) tt tt (λ callee canon k c. c) h
waits_changed g w t number words (ForCancel index) b h =
    state_changed g w.tasks w.insts t (InBuiltin number words (ForCancel index)) (λ callee canon c. absurd c) tt tt (λ callee canon k c. c) h

blocks_changed : (g : Graph) (w : World) (t : ℕ) (state : TaskState) → IsBlocked state → BlocksAs g t state w → HasSubtasks g w → AreSubtasks g (changed_at t (sets_state state) w.tasks) w.insts
blocks_changed g w t New is b h = absurd is
blocks_changed g w t Acting is b h = absurd is
blocks_changed g w t (AfterCall callee number words) is b h = absurd is
blocks_changed g w t (AfterCancel callee number words) is b h = absurd is
blocks_changed g w t (world.Begins n) is b h = absurd is
blocks_changed g w t WaitsToEnter is b h = idle_changed g w.tasks w.insts t WaitsToEnter tt h
blocks_changed g w t (InLoop word) is b h = idle_changed g w.tasks w.insts t (InLoop word) tt h
blocks_changed g w t (InBuiltin number words wait) is b h = waits_changed g w t number words wait b h
blocks_changed g w t Exited is b h = absurd is

-- One more task, which is new.
no_call : (new : Task) → new.state ≡ New → (task : Task) → task ≡ new → (callee number : ℕ) → CalledBy task.state callee number → ⊥
no_call new is task same callee number c = subst (λ (state : TaskState). CalledBy state callee number) (ap (λ (x : Task). x.state) same ∙ is) c

task_more : (g : Graph) (tasks : List Task) (insts : List Inst) (new : Task) → new.state ≡ New → AreSubtasks g tasks insts → AreSubtasks g (tasks ++ new ∷ []) insts
task_more g tasks insts new is h =
    let others : List Task = tasks ++ new ∷ [] in
    let apart : (callee : ℕ) → IsUnawaited tasks callee → IsUnawaited others callee = λ callee k t number task e c. elim (more_either tasks new t task e) [
      | inl old ↦ k t number task old c
      | inr last ↦ no_call new is task last.1 callee number c
    ] in
    record {
      async = λ i index callee stands. call_more tasks new (IsAsync g) callee (h.async i index callee stands);
      once = h.once;
      awaited = λ t callee number task e c. elim (more_either tasks new t task e) [
        | inl old ↦ (let k = h.awaited t callee number task old c in (call_more tasks new IsUntold callee k.0, k.1))
        | inr last ↦ absurd (no_call new is task last.1 callee number c)
      ];
      sync = λ t task e. elim (more_either tasks new t task e) [
        | inl old ↦ h.sync t task old
        | inr last ↦ subst (WaitsSync g) (sym (ap (λ (x : Task). x.state) last.1 ∙ is)) tt
      ];
      cancelled = λ t task e. elim (more_either tasks new t task e) [
        | inl old ↦ cancels_as tasks others task.state (λ callee some none. (there_front tasks new callee some, apart callee none)) (h.cancelled t task old)
        | inr last ↦ subst (CancelsApart others) (sym (ap (λ (x : Task). x.state) last.1 ∙ is)) tt
      ];
    }

-- The acting task calls one, which is the last, and waits for it.
module _ (g : Graph) (w : World) (by number : ℕ) (words : List ℕ) (new : Task) (subtask : Subtask) (there : IsSome (slice_get w.tasks by)) (is : new.state ≡ New) (called : subtask_of new.caller ≡ Some subtask) (untold : IsUntold subtask) (numbers : IsNumbered w) (h : HasSubtasks g w) where
  abbrev waiting : TaskState
  waiting = AfterCall (length w.tasks) number words

  abbrev asked : List Task
  asked = changed_at by (sets_state waiting) w.tasks

  abbrev all_tasks : List Task
  all_tasks = asked ++ new ∷ []

  last_is : slice_get all_tasks (length w.tasks) ≡ Some new
  last_is = subst (λ (n : ℕ). slice_get all_tasks n ≡ Some new) (length_changed by (sets_state waiting) w.tasks) (last_there asked new)

  -- the last one stands in no table
  no_guest : IsGuest w.tasks (length w.tasks) → ⊥
  no_guest guest =
      let some : IsSome (slice_get w.tasks (length w.tasks)) = subst (λ (o : Option Task). IsSome o) (sym guest.1) refl in
      let few : length w.tasks < length w.tasks = within w.tasks (length w.tasks) some in omega (arith, few)

  last_nowhere : StandsNowhere w.insts (length w.tasks)
  last_nowhere i index stands = by_inst (slice_get w.insts i) refl stands
    where
      by_inst : (o : Option Inst) → slice_get w.insts i ≡ o → live (table_in o) index ≡ Some (OfSubtask (length w.tasks)) → ⊥
      by_inst None e k = cc
      by_inst (Some x) e k = no_guest (all_at (NamesWhatIsThere w.tasks) w.insts i x numbers.entries e index (OfSubtask (length w.tasks)) k)

  -- what each task of the new ones is
  abbrev WasTask : ℕ → Task → Type 0
  WasTask t task = (slice_get w.tasks t ≡ Some task) ⊎ ((task.state ≡ waiting) ⊎ (task.state ≡ New))

  was_task : (t : ℕ) (task : Task) → slice_get all_tasks t ≡ Some task → WasTask t task
  was_task t task e = elim (more_either asked new t task e) [
    | inl old ↦ elim (changed_here by (sets_state waiting) w.tasks t task old) [
      | inl o ↦ inr (inl (ap (λ (x : Task). x.state) o.1.2))
      | inr before ↦ inl before
    ]
    | inr last ↦ inr (inr (ap (λ (x : Task). x.state) last.1 ∙ is))
  ]

  call_so : (P : Subtask → Type 0) (callee : ℕ) → CallIs w.tasks callee P → CallIs all_tasks callee P
  call_so P callee k = call_more asked new P callee (call_changed w.tasks by (sets_state waiting) P callee (same_call P (sets_state waiting) (λ x. refl)) k)

  still_apart : (callee : ℕ) → IsSome (slice_get w.tasks callee) → IsUnawaited w.tasks callee → IsUnawaited all_tasks callee
  still_apart callee some k t canon task e c = elim (was_task t task e) [
    | inl old ↦ k t canon task old c
    | inr new_one ↦ elim new_one [
      | inl waits ↦ (
          let at : CalledBy waiting callee canon = subst (λ (state : TaskState). CalledBy state callee canon) waits c in
          let last : length w.tasks ≡ callee = at.0 in
          let few : callee < length w.tasks = within w.tasks callee some in omega (arith, last, few)
          )
      | inr fresh ↦ subst (λ (state : TaskState). CalledBy state callee canon) fresh c
    ]
  ]

  stay_apart : (state : TaskState) → CancelsApart w.tasks state → CancelsApart all_tasks state
  stay_apart state k =
      cancels_as w.tasks all_tasks state
      (λ callee some none. (there_front asked new callee (there_changed w.tasks by callee (sets_state waiting) some), still_apart callee some none)) k

  calls_subtask : AreSubtasks g all_tasks w.insts
  calls_subtask = record {
    async = λ i index callee stands. call_so (IsAsync g) callee (h.async i index callee stands);
    once = h.once;
    awaited = λ t callee canon task e c. elim (was_task t task e) [
      | inl old ↦ (let k = h.awaited t callee canon task old c in (call_so IsUntold callee k.0, k.1))
      | inr new_one ↦ elim new_one [
        | inl waits ↦ (
            let at : CalledBy waiting callee canon = subst (λ (state : TaskState). CalledBy state callee canon) waits c in
            subst (λ (n : ℕ). CallIs all_tasks n IsUntold × StandsNowhere w.insts n) at.0 ((new, last_is, (subtask, called, untold)), last_nowhere)
            )
        | inr fresh ↦ absurd (subst (λ (state : TaskState). CalledBy state callee canon) fresh c)
      ]
    ];
    sync = λ t task e. elim (was_task t task e) [
      | inl old ↦ h.sync t task old
      | inr new_one ↦ elim new_one [
        | inl waits ↦ subst (WaitsSync g) (sym waits) tt
        | inr fresh ↦ subst (WaitsSync g) (sym fresh) tt
      ]
    ];
    cancelled = λ t task e. elim (was_task t task e) [
      | inl old ↦ stay_apart task.state (h.cancelled t task old)
      | inr new_one ↦ elim new_one [
        | inl waits ↦ subst (CancelsApart all_tasks) (sym waits) tt
        | inr fresh ↦ subst (CancelsApart all_tasks) (sym fresh) tt
      ]
    ];
  }

-- A caller is told, of a subtask for which none waits; a handle is lent, and a result is kept.
told_changed : (g : Graph) (w : World) (u : ℕ) (f : Subtask → Subtask) → ((x : Subtask) → (f x).canon ≡ x.canon) → IsUnawaited w.tasks u → HasSubtasks g w
    → AreSubtasks g (changed_at u (λ task. record task { caller = caller_changed f task.caller }) w.tasks) w.insts
told_changed g w u f same alone h =
    beside_states g w.tasks w.insts u (λ task. record task { caller = caller_changed f task.caller })
    (by_call (IsAsync g) f (λ x p. subst (λ (n : ℕ). (options_at g n).is_async ≡ true) (sym (same x)) p)) (inl alone) (λ x. refl) h

lent_changed : (g : Graph) (w : World) (u : ℕ) (f : Subtask → Subtask) → ((x : Subtask) → (f x).canon ≡ x.canon) → ((x : Subtask) → (f x).told ≡ x.told) → HasSubtasks g w
    → AreSubtasks g (changed_at u (λ task. record task { caller = caller_changed f task.caller }) w.tasks) w.insts
lent_changed g w u f same told h =
    beside_states g w.tasks w.insts u (λ task. record task { caller = caller_changed f task.caller })
    (by_call (IsAsync g) f (λ x p. subst (λ (n : ℕ). (options_at g n).is_async ≡ true) (sym (same x)) p)) (inr (by_call IsUntold f (λ x p. told x ∙ p))) (λ x. refl) h

abbrev Kept : Graph → World → Type 0
Kept g w = IsNumbered w × HasSubtasks g w

subtasks_kept : (g : Graph) (s : Script) (c : Change) (w : World) → MayCome g s c w → Besides (Unit {0}) ⊥ ⊥ ⊥ g c w → Kept g w → HasSubtasks g (after c w)
subtasks_kept g s BeginsInstance w may b h = fewer g w.tasks w.insts _ (begun_no_more w.insts) h.1
subtasks_kept g s (AddsEntry i entry) w may b h = entry_added g w i entry (b tt) h.1
subtasks_kept g s (MakesSet i set) w may b h =
    fewer g w.tasks w.insts _ (both_no_more w.insts (after (AddsEntry i (OfSet set)) w).insts _ (other_no_more w.insts i (OfSet set) tt) (same_no_more (after (AddsEntry i (OfSet set)) w).insts i _ (λ x. refl))) h.1
subtasks_kept g s (RemovesEntry i index) w may b h = fewer g w.tasks w.insts _ (removed_no_more w.insts i index) h.1
subtasks_kept g s (RemovesWaitable i index) w may b h =
    fewer g w.tasks w.insts _ (both_no_more w.insts (after (RemovesEntry i index) w).insts _ (removed_no_more w.insts i index) (same_no_more (after (RemovesEntry i index) w).insts i _ (λ x. refl))) h.1
subtasks_kept g s (LeavesSet i index) w may b h = fewer g w.tasks w.insts _ (same_no_more w.insts i _ (λ x. refl)) h.1
subtasks_kept g s (JoinsSet i index set) w may b h = fewer g w.tasks w.insts _ (same_no_more w.insts i _ (λ x. refl)) h.1
subtasks_kept g s (HasBackpressure i backpressure) w may b h = fewer g w.tasks w.insts _ (same_no_more w.insts i _ (λ x. refl)) h.1
subtasks_kept g s (IsCalled callee call values) w may b h = task_more g w.tasks w.insts (new_task callee (Host call values) New) refl h.1
subtasks_kept g s (Calls number callee subtask words) w may b h =
    calls_subtask g w subtask.by number words (new_task callee (Guest subtask) New) subtask may.1 refl refl b.3 h.0 h.1
subtasks_kept g s (ComesBack t) w may b h = absurd b
subtasks_kept g s (Acts t) w may b h = idle_changed g w.tasks w.insts t Acting tt h.1
subtasks_kept g s (Begins n) w may b h = idle_changed g w.tasks w.insts 0 (world.Begins n) tt h.1
subtasks_kept g s (Cancels t callee number words) w may b h =
    state_changed g w.tasks w.insts t (AfterCancel callee number words) (λ other canon c. absurd c) tt (b.1, b.2 tt) (λ other canon k c. c) h.1
subtasks_kept g s (Blocks t state) w may b h = blocks_changed g w t state may.1 b.0 h.1
subtasks_kept g s (Exits t) w may b h = idle_changed g w.tasks w.insts t Exited tt h.1
subtasks_kept g s (IsRemoved t) w may b h = absurd b
subtasks_kept g s (Resolves t resolution) w may b h = untouched g w.tasks w.insts t _ (λ x. refl) (λ x. refl) h.1
subtasks_kept g s (IsCancelled t cancellation) w may b h = untouched g w.tasks w.insts t _ (λ x. refl) (λ x. refl) h.1
subtasks_kept g s (HasWord t slot word) w may b h = untouched g w.tasks w.insts t _ (λ x. refl) (λ x. refl) h.1
subtasks_kept g s (HasNewStack t k) w may b h = untouched g w.tasks w.insts t _ (λ x. refl) (λ x. refl) h.1
subtasks_kept g s (HasStack t k) w may b h = untouched g w.tasks w.insts t _ (λ x. refl) (λ x. refl) h.1
subtasks_kept g s (LosesStack t) w may b h = untouched g w.tasks w.insts t _ (λ x. refl) (λ x. refl) h.1
subtasks_kept g s (IsAnswered t words) w may b h = untouched g w.tasks w.insts t _ (λ x. refl) (λ x. refl) h.1
subtasks_kept g s (IsTold t state) w may b h = told_changed g w t (by_view delivered t state) (λ x. refl) (b.0 tt) h.1
subtasks_kept g s (IsLent t handle) w may b h = lent_changed g w t (λ subtask. by_view (with_lend handle) t subtask.told subtask) (λ x. refl) (λ x. refl) h.1
subtasks_kept g s (HasResult t words) w may b h = lent_changed g w t (λ subtask. record subtask { result = words }) (λ x. refl) (λ x. refl) h.1
subtasks_kept g s (MakesChannel kind element) w may b h = made_kept (HasSubtasks g) (λ v x k. k) (λ v x k. k) kind element w h.1
subtasks_kept g s (Offers e call) w may b h = channel_kept (HasSubtasks g) (λ v x k. k) (λ v x k. k) e.kind e.number _ w h.1
subtasks_kept g s (Transfers e size values) w may b h =
    channel_kept (HasSubtasks g) (λ v x k. k) (λ v x k. k) e.kind e.number _ _ (channel_kept (HasSubtasks g) (λ v x k. k) (λ v x k. k) e.kind e.number _ w h.1)
subtasks_kept g s (Concludes e) w may b h = channel_kept (HasSubtasks g) (λ v x k. k) (λ v x k. k) e.kind e.number _ w h.1
subtasks_kept g s (DropsEnd e) w may b h = channel_kept (HasSubtasks g) (λ v x k. k) (λ v x k. k) e.kind e.number _ w h.1
subtasks_kept g s (GoesTo control) w may b h = h.1
subtasks_kept g s (HasStore store) w may b h = h.1
subtasks_kept g s SpendsUnit w may b h = h.1
subtasks_kept g s (UsesPicks picks) w may b h = h.1
subtasks_kept g s TakesItem w may b h = h.1

removed_subtasks : (g : Graph) (t : ℕ) (w : World) → HasSubtasks g w → HasSubtasks g (after (IsRemoved t) w)
removed_subtasks g t w h =
    idle_changed g _ w.insts t Exited tt (untouched g w.tasks w.insts t (λ x. record x { resolution = Some Cancelled }) (λ x. refl) (λ x. refl) h)

pub first_has_subtasks : FirstHasSubtasks
first_has_subtasks g = record {
  async = λ i index callee stands. cc;
  once = λ i index j other callee one two. cc;
  awaited = λ t callee number task e c. absurd (none_first t task e callee number c);
  sync = λ t task e. sync_first t task e;
  cancelled = λ t task e. cancels_first t task e;
}
  where
    none_first : (t : ℕ) (task : Task) → slice_get (new_task Init Nobody Acting ∷ []) t ≡ Some task → (callee number : ℕ) → CalledBy task.state callee number → ⊥
    none_first zero task e callee number c = subst (λ (x : Task). CalledBy x.state callee number) (sym (some_same e)) c
    none_first (suc n) task e callee number c = no_first n task e

    sync_first : (t : ℕ) (task : Task) → slice_get (new_task Init Nobody Acting ∷ []) t ≡ Some task → WaitsSync g task.state
    sync_first zero task e = subst (λ (x : Task). WaitsSync g x.state) (some_same e) tt
    sync_first (suc n) task e = absurd (no_first n task e)

    cancels_first : (t : ℕ) (task : Task) → slice_get (new_task Init Nobody Acting ∷ []) t ≡ Some task → CancelsApart (new_task Init Nobody Acting ∷ []) task.state
    cancels_first zero task e = subst (λ (x : Task). CancelsApart (new_task Init Nobody Acting ∷ []) x.state) (some_same e) tt
    cancels_first (suc n) task e = absurd (no_first n task e)

pub subtasks_stay : SubtasksStay
unfolding beside in_order
subtasks_stay g s w v labels alone o numbers called h e =
    (step_known
    (beside g s (in_order g s) (Unit {0}) ⊥ ⊥ ⊥ (Kept g) (λ apart. absurd apart) (λ event. event) (λ apart u k. absurd apart) (λ c u may b belongs k. (numbered g s c u may k.0, subtasks_kept g s c u may b k))
    (λ t u may k. (numbered g s (ComesBack t) u may k.0, k.1)) (λ t u may k. (numbered g s (IsRemoved t) u may k.0, removed_subtasks g t u k.1)))
    w v labels (λ given. record { called = called; subtasks = h }) (λ asks. absurd asks) (λ copies. absurd copies) (λ apart. absurd apart) (λ event. absurd event) alone.1 o.2 ((alone.0, o.0, o.1), (numbers, h)) e).0.1.1

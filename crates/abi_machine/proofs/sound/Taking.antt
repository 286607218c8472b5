-- Each call that was taken has a task, and so it stays in every step.
use Rattle.std.proofs.Common.{◌≡◌, ◌≤◌, ℕ, zero, suc, ◌+◌, Bool, true, false, List, [], ◌∷◌, ◌++◌, length, take, refl, sym, ap, ◌∙◌, subst, arith, Option, Some, None, nat_le, if◌then◌else◌}
use Rattle.std.proofs.lemmas.Bool.Decides.{nat_tests}
use Rattle.std.proofs.lemmas.List.Sums.{sum_by-cons}
use Rattle.std.specs.Prelude.{IsSome}
use Rattle.std.specs.List.{slice_get, count_by, find}
use Rattle.tasks.specs.declared.phase.Resolution.TheVariants.{Cancelled}
use Rattle.comp_graph.specs.Graph.{Graph}
use Rattle.script_reader.specs.declared.script.Item.{Item}
use Rattle.script_reader.specs.Script.{Script}
use Rattle.abi_machine.specs.World.{Subtask, Caller, Nobody, Host, Guest, New, AfterCall, Task, World, new_task}
use Rattle.abi_machine.specs.Edits.{changed_at, caller_changed}
use Rattle.abi_machine.specs.Reading.{with_numbers}
use Rattle.abi_machine.specs.Scheduling.{is_call, is_call_of, task_of_call, calls_taken}
use Rattle.abi_machine.specs.sound.Changes.{Change, GoesTo, HasStore, SpendsUnit, UsesPicks, TakesItem, BeginsInstance, AddsEntry, MakesSet, RemovesEntry, RemovesWaitable, LeavesSet, JoinsSet, HasBackpressure, IsCalled, Calls, ComesBack, Acts, Begins, Cancels, Blocks, Exits, IsRemoved, Resolves, IsCancelled, HasWord, HasNewStack, HasStack, LosesStack, IsAnswered, IsTold, IsLent, HasResult, MakesChannel, Offers, Transfers, Concludes, DropsEnd, after}
use Rattle.abi_machine.specs.sound.Premises.{IsTakeable, Comes}
use Rattle.abi_machine.specs.sound.Taken.{IsOfCall, MadeTask, CallsHaveTasks, FirstCallsHaveTasks, CallsKeepTasks}
use Rattle.abi_machine.proofs.sound.Lists.{get_front}
use Rattle.abi_machine.proofs.sound.Found.{some_same}
use Rattle.abi_machine.proofs.sound.Acted.{still_is}
use Rattle.abi_machine.proofs.sound.Aside.{channel_kept, made_kept}
use Rattle.abi_machine.proofs.sound.Alone.{kept_so}

-- The number of calls among the items that are taken.
call_counts : (i : Item) → count_by is_call (i ∷ []) ≡ (if is_call i then 1 else 0)
call_counts i = sum_by-cons (λ (x : Item). if is_call x then 1 else 0) i [] ∙ (let none : (if is_call i then 1 else 0) + 0 ≡ (if is_call i then 1 else 0) = omega arith in none)

count_next : (items : List Item) (n : ℕ) (i : Item) → slice_get items n ≡ Some i → count_by is_call (take (suc n) items) ≡ count_by is_call (take n items) + (if is_call i then 1 else 0)
count_next [] n i there = cc
count_next (x ∷ items) zero i there =
    let same : x ≡ i = some_same there in
    let one : count_by is_call (x ∷ []) ≡ (if is_call x then 1 else 0) = call_counts x in
    subst (λ (y : Item). count_by is_call (x ∷ []) ≡ 0 + (if is_call y then 1 else 0)) same (omega (arith, one))
count_next (x ∷ items) (suc n) i there =
    let before : count_by is_call (x ∷ take (suc n) items) ≡ (if is_call x then 1 else 0) + count_by is_call (take (suc n) items) = sum_by-cons (λ (y : Item). if is_call y then 1 else 0) x (take (suc n) items) in
    let behind : count_by is_call (x ∷ take n items) ≡ (if is_call x then 1 else 0) + count_by is_call (take n items) = sum_by-cons (λ (y : Item). if is_call y then 1 else 0) x (take n items) in
    let more : count_by is_call (take (suc n) items) ≡ count_by is_call (take n items) + (if is_call i then 1 else 0) = count_next items n i there in
    let both : count_by is_call (x ∷ take (suc n) items) ≡ count_by is_call (x ∷ take n items) + (if is_call i then 1 else 0) = omega (arith, before, behind, more) in
    both

-- Tasks are changed, and one more is made.
still_made : (tasks : List Task) (n call : ℕ) (f : Task → Task) → ((x : Task) → IsOfCall call x → IsOfCall call (f x)) → MadeTask tasks call → MadeTask (changed_at n f tasks) call
still_made tasks n call f keeps h = (h.0, still_is tasks n h.0 f (IsOfCall call) keeps h.1)

more_made : (tasks : List Task) (call : ℕ) (new : Task) → MadeTask tasks call → MadeTask (tasks ++ new ∷ []) call
more_made tasks call new h = (h.0, (h.1.0, get_front tasks new h.0 h.1.0 h.1.1, h.1.2))

edited : (s : Script) (w : World) (n : ℕ) (f : Task → Task) → ((call : ℕ) (x : Task) → IsOfCall call x → IsOfCall call (f x)) → CallsHaveTasks s w → CallsHaveTasks s (record w { tasks = changed_at n f w.tasks })
edited s w n f keeps h call least most = still_made w.tasks n call f (keeps call) (h call least most)

of_caller : (f : Subtask → Subtask) (call : ℕ) (c : Caller) → is_call_of call c ≡ true → is_call_of call (caller_changed f c) ≡ true
of_caller f call Nobody h = h
of_caller f call (Host number values) h = h
of_caller f call (Guest subtask) h = h

-- the caller's side of the call of a task
called_edited : (s : Script) (w : World) (n : ℕ) (f : Subtask → Subtask) → CallsHaveTasks s w → CallsHaveTasks s (record w { tasks = changed_at n (λ task. record task { caller = caller_changed f task.caller }) w.tasks })
called_edited s w n f h = edited s w n (λ task. record task { caller = caller_changed f task.caller }) (λ call x p. of_caller f call x.caller p) h

-- what holds of each number up to one, and of the next
up_to : (P : ℕ → Type 0) (n call : ℕ) → call ≤ n + 1 → (call ≤ n → P call) → P (n + 1) → P call
up_to P n call most before last = by (nat_le call n) refl
  where
    by : (b : Bool) → nat_le call n ≡ b → P call
    by true few = let less : call ≤ n = grind (arith, nat_tests) in before less
    by false few = let same : n + 1 ≡ call = grind (arith, nat_tests) in subst P same last

-- An item is taken: a call has its task.
taken_by : (s : Script) (w : World) (i : Item) → slice_get s.items w.taken ≡ Some i → (is_call i ≡ true → MadeTask w.tasks (calls_taken s w + 1)) → CallsHaveTasks s w → CallsHaveTasks s (after TakesItem w)
taken_by s w i there made h call least most = by (is_call i) refl (subst (λ (n : ℕ). call ≤ n) count most)
  where
    count : count_by is_call (take (w.taken + 1) s.items) ≡ calls_taken s w + (if is_call i then 1 else 0)
    count = (let one : w.taken + 1 ≡ suc w.taken = omega arith in ap (λ (n : ℕ). count_by is_call (take n s.items)) one ∙ count_next s.items w.taken i there)

    by : (b : Bool) → is_call i ≡ b → call ≤ calls_taken s w + (if b then 1 else 0) → MadeTask w.tasks call
    by false is few = h call least (omega (arith, few))
    by true is few = up_to (MadeTask w.tasks) (calls_taken s w) call few (λ less. h call least less) (made is)

taken_has : (s : Script) (w : World) → IsTakeable s w → CallsHaveTasks s w → CallsHaveTasks s (after TakesItem w)
taken_has s w may h = by (slice_get s.items w.taken) refl may.0
  where
    by : (o : Option Item) → slice_get s.items w.taken ≡ o → IsSome o → CallsHaveTasks s (after TakesItem w)
    by None e some = cc
    by (Some i) e some = taken_by s w i e (λ is. may.1 i e is) h

abbrev Has : Script → World → Type 0
Has s w = CallsHaveTasks s w

calls_kept : (g : Graph) (s : Script) (c : Change) (w : World) → Comes g s c w → Has s w → Has s (after c w)
calls_kept g s TakesItem w may h = taken_has s w may h
calls_kept g s (IsCalled callee call values) w may h = λ number least most. more_made w.tasks number (new_task callee (Host call values) New) (h number least most)
calls_kept g s (Calls number callee subtask words) w may h =
    λ call least most.
    more_made _ call (new_task callee (Guest subtask) New) (still_made w.tasks subtask.by call (λ x. record x { state = AfterCall (length w.tasks) number words }) (λ x p. p) (h call least most))
calls_kept g s (Acts t) w may h = edited s w t _ (λ call x p. p) h
calls_kept g s (Begins n) w may h = edited s w 0 _ (λ call x p. p) h
calls_kept g s (Cancels t callee number words) w may h = edited s w t _ (λ call x p. p) h
calls_kept g s (Blocks t state) w may h = edited s w t _ (λ call x p. p) h
calls_kept g s (Exits t) w may h = edited s w t _ (λ call x p. p) h
calls_kept g s (IsRemoved t) w may h =
    λ call least most. still_made _ t call _ (λ x p. p) (still_made w.tasks t call (λ x. record x { resolution = Some Cancelled }) (λ x p. p) (h call least most))
calls_kept g s (Resolves t resolution) w may h = edited s w t _ (λ call x p. p) h
calls_kept g s (IsCancelled t cancellation) w may h = edited s w t _ (λ call x p. p) h
calls_kept g s (HasWord t slot word) w may h = edited s w t _ (λ call x p. p) h
calls_kept g s (HasNewStack t k) w may h = edited s w t _ (λ call x p. p) h
calls_kept g s (HasStack t k) w may h = edited s w t _ (λ call x p. p) h
calls_kept g s (LosesStack t) w may h = edited s w t _ (λ call x p. p) h
calls_kept g s (IsAnswered t words) w may h = edited s w t _ (λ call x p. p) h
calls_kept g s (IsTold t state) w may h = called_edited s w t _ h
calls_kept g s (IsLent t handle) w may h = called_edited s w t _ h
calls_kept g s (HasResult t words) w may h = called_edited s w t _ h
calls_kept g s (MakesChannel kind element) w may h = made_kept (Has s) (λ v x k. k) (λ v x k. k) kind element w h
calls_kept g s (Offers e call) w may h = channel_kept (Has s) (λ v x k. k) (λ v x k. k) e.kind e.number _ w h
calls_kept g s (Transfers e size values) w may h = channel_kept (Has s) (λ v x k. k) (λ v x k. k) e.kind e.number _ _ (channel_kept (Has s) (λ v x k. k) (λ v x k. k) e.kind e.number _ w h)
calls_kept g s (Concludes e) w may h = channel_kept (Has s) (λ v x k. k) (λ v x k. k) e.kind e.number _ w h
calls_kept g s (DropsEnd e) w may h = channel_kept (Has s) (λ v x k. k) (λ v x k. k) e.kind e.number _ w h
calls_kept g s (GoesTo control) w may h = h
calls_kept g s (HasStore store) w may h = h
calls_kept g s SpendsUnit w may h = h
calls_kept g s (UsesPicks picks) w may h = h
calls_kept g s BeginsInstance w may h = h
calls_kept g s (AddsEntry i entry) w may h = h
calls_kept g s (MakesSet i set) w may h = h
calls_kept g s (RemovesEntry i index) w may h = h
calls_kept g s (RemovesWaitable i index) w may h = h
calls_kept g s (LeavesSet i index) w may h = h
calls_kept g s (JoinsSet i index set) w may h = h
calls_kept g s (HasBackpressure i backpressure) w may h = h
calls_kept g s (ComesBack t) w may h = h

pub first_calls_have_tasks : FirstCallsHaveTasks
first_calls_have_tasks g s call least most = absurd (let none : call ≤ 0 = most in omega (arith, least, none))

pub calls_keep_tasks : CallsKeepTasks
calls_keep_tasks g s w v labels alone h e = kept_so g s (Has s) (calls_kept g s) w v labels alone h e

-- So the task of a call is found.
found_from : (call n : ℕ) (tasks : List Task) (t : ℕ) (task : Task) → slice_get tasks t ≡ Some task → IsOfCall call task → IsSome (find (λ (x : ℕ × Task). is_call_of call x.1.caller) (with_numbers n tasks))
found_from call n [] t task there of_call = cc
found_from call n (x ∷ tasks) t task there of_call = by t (is_call_of call x.caller) refl there (λ u at. found_from call (n + 1) tasks u task at of_call)
  where
    by : (u : ℕ) (b : Bool) → is_call_of call x.caller ≡ b → slice_get (x ∷ tasks) u ≡ Some task
        → ((m : ℕ) → slice_get tasks m ≡ Some task → IsSome (find (λ (y : ℕ × Task). is_call_of call y.1.caller) (with_numbers (n + 1) tasks)))
        → IsSome (if b then Some (n, x) else find (λ (y : ℕ × Task). is_call_of call y.1.caller) (with_numbers (n + 1) tasks))
    by u true is at others = refl
    by zero false is at others = (let clash : true ≡ false = sym of_call ∙ (ap (λ (y : Task). is_call_of call y.caller) (sym (some_same at)) ∙ is) in cc)
    by (suc u) false is at others = others u at

pub call_found : (call : ℕ) (w : World) → MadeTask w.tasks call → IsSome (task_of_call call w)
call_found call w h = found_from call 0 w.tasks h.0 h.1.0 h.1.1 h.1.2

-- A cancellation of the script is taken as the machine takes it.
use Rattle.std.proofs.Common.{◌≡◌, inl, ℕ, zero, suc, ◌+◌, ◌-◌, Bool, true, false, is_none, is_some, ◌&&◌, if◌then◌else◌, List, [], ◌∷◌, ◌++◌, find, refl, sym, ap, ◌∙◌, subst, append_assoc, arith, Option, Some, None}
use Rattle.std.specs.Prelude.{IsSome}
use Rattle.std.specs.List.{slice_get}
use Rattle.std.specs.Option.{option_and_then}
use Rattle.std.proofs.lemmas.Bool.{eq-eqb, eqb-true, false_from_ne_true}
use Rattle.syntax_trees.specs.declared.types.ValType.{ValType}
use Rattle.wasm_store.specs.Stack.{Stack}
use Rattle.tasks.specs.declared.event.Asked.{Asked}
use Rattle.tasks.specs.declared.event.Asked.TheVariants as asking
use Rattle.tasks.specs.declared.phase.Cancellation.{Cancellation}
use Rattle.tasks.specs.declared.phase.Resolution.{Resolution}
use Rattle.tasks.specs.declared.subtask_state.SubtaskState.TheVariants as state
use Rattle.tasks.specs.Tasks.{is_unasked, may_cancel}
use Rattle.comp_graph.specs.Graph.{Graph, Lifted}
use Rattle.script_reader.specs.declared.script.Item.TheVariants as item
use Rattle.script_reader.specs.Script.{Script}
use Rattle.trace_labels.specs.declared.label.Label.{Label}
use Rattle.trace_labels.specs.declared.label.Label.TheVariants as line
use Rattle.task_table.specs.declared.caller.Caller as kept_caller
use Rattle.task_table.specs.declared.caller.Caller.TheVariants as by
use Rattle.task_table.specs.declared.slot.TaskSlot.{TaskSlot}
use Rattle.world_parts.specs.declared.parts.Flow.{Flow}
use Rattle.world_parts.specs.declared.parts.Flow.TheVariants as flow
use Rattle.world_parts.specs.declared.parts.Rest.{Rest}
use Rattle.world_parts.specs.declared.parts.Rest.TheVariants as rest
use Rattle.world_parts.specs.Held as kept
use Rattle.world_parts.specs.Held.{Held, Done, Gives, Traps, Spent, after, given}
use Rattle.world_parts.specs.Channels.{numbered}
use Rattle.world_parts.specs.Feed.{told, at_rest, spent, item_taken}
use Rattle.world_parts.specs.Gates.{gate_unwaited}
use Rattle.world_parts.specs.Slots.{instance_of, cancellable, cancel_asked, raised, closed}
use Rattle.world_parts.specs.Subtasks.{removed, cancelled_by, cancelled}
use Rattle.world_parts.specs.Turning.{call_cancelled}
use Rattle.abi_machine.specs.Control.{Free}
use Rattle.abi_machine.specs.World.{Caller, Nobody, Host, Guest, Task, World}
use Rattle.abi_machine.specs.Edits as world
use Rattle.abi_machine.specs.Edits.{with_control, picked, unit_spent}
use Rattle.abi_machine.specs.Counting.{task_view}
use Rattle.abi_machine.specs.Reading.{func_of, with_numbers}
use Rattle.abi_machine.specs.Cancelling.{cancelled_turn}
use Rattle.abi_machine.specs.Scheduling.{Takes, is_call_of, task_of_call, cancel_taken, item_turn, alternative_turn}
use Rattle.abi_machine.specs.Turn as turns
use Rattle.abi_machine.specs.Turn.{Turn, silent, behind}
use Rattle.abi_machine.specs.sound.Numbers.{IsCalledAs, IsNumbered}
use Rattle.abi_machine.proofs.sound.Found.{some_same}
use Rattle.standing.specs.Tasks.{CallerStands, TaskStands}
use Rattle.standing.specs.Stands.{Stands}
use Rattle.standing.specs.Agreeing.{Agrees}
use Rattle.standing.specs.KeptMarks.{HasMarks}
use Rattle.standing.specs.Rows.{resting}
use Rattle.standing.proofs.Asked.{end_is_asked}
use Rattle.standing.proofs.Changes.{items_are_taken}
use Rattle.standing.proofs.Going.{done_as, on_spent}
use Rattle.standing.proofs.KeptMarks.{gates_are_kept}
use Rattle.standing.proofs.Lists.{IsFound, found_both, found_left}
use Rattle.standing.proofs.Steps.{via, found, turn_found, both_as}
use Rattle.run_laws.specs.TaskLists.{call_of, CallsMarked, CancelsAgree, TurnsMayCome}
use Rattle.run_laws.specs.Points.{stacks_at}
use Rattle.run_laws.proofs.AbleLists.{past_reached, turns_are_kept}
use Rattle.run_laws.proofs.AskedTasks.{wait_is_counted}

-- A part that leaves nothing to be done in its step.
abbrev RestsOnly : Done Flow → Type 0
RestsOnly (Gives f k) = f ≡ flow.Rests
RestsOnly (Traps why k) = Unit {0}
RestsOnly (Spent k) = Unit {0}
RestsOnly kept.Stuck = Unit {0}

rests_after : {A : Type 0} (d : Done A) (f : A → Held → Done Flow) → ((x : A) (k : Held) → RestsOnly (f x k)) → RestsOnly (after d f)
rests_after (Gives x k) f h = h x k
rests_after (Traps why k) f h = tt
rests_after (Spent k) f h = tt
rests_after kept.Stuck f h = tt

rests_given : {A : Type 0} (o : Option A) (f : A → Done Flow) → ((x : A) → RestsOnly (f x)) → RestsOnly (given o f)
rests_given None f h = tt
rests_given (Some x) f h = h x

rests_if : (b : Bool) (d e : Done Flow) → RestsOnly d → RestsOnly e → RestsOnly (if b then d else e)
rests_if true d e p q = p
rests_if false d e p q = q

rests_is : (d : Done Flow) → RestsOnly d → resting d ≡ d
rests_is (Gives f k) h = ap (λ (x : Flow). Gives x k) (sym h)
rests_is (Traps why k) h = refl
rests_is (Spent k) h = refl
rests_is kept.Stuck h = refl

removed_rests : (t : ℕ) (behind : Rest) (h : Held) → RestsOnly (removed t behind h)
unfolding removed
removed_rests t behind h =
    rests_after (instance_of t h)
    (λ at k. after (gate_unwaited at k) (λ done l. after (raised t state.CancelledBeforeStarted l) (λ done m. after (closed t m) (λ done n.
    after (told (line.Cancelled t) n) (λ done o. after (told (line.Exit t) o) (λ done p. Gives flow.Rests (at_rest behind p)))))))
    (λ at k.
    rests_after (gate_unwaited at k)
    (λ done l. after (raised t state.CancelledBeforeStarted l) (λ done m. after (closed t m) (λ done n.
    after (told (line.Cancelled t) n) (λ done o. after (told (line.Exit t) o) (λ done p. Gives flow.Rests (at_rest behind p))))))
    (λ done l.
    rests_after (raised t state.CancelledBeforeStarted l)
    (λ done m. after (closed t m) (λ done n. after (told (line.Cancelled t) n) (λ done o. after (told (line.Exit t) o) (λ done p. Gives flow.Rests (at_rest behind p)))))
    (λ done m. refl)))

case_rests : (case : Asked) (t : ℕ) (behind : Rest) (h : Held) → RestsOnly (cancelled_by case t behind h)
case_rests asking.Removed t behind h = removed_rests t behind h
case_rests asking.ResumeNow t behind h = refl
case_rests asking.Pending t behind h = refl

cancelled_rests : (t : ℕ) (behind : Rest) (h : Held) → RestsOnly (cancelled t behind h)
unfolding cancelled
cancelled_rests t behind h = rests_after (cancel_asked t h) (λ case k. cancelled_by case t behind k) (λ case k. case_rests case t behind k)

-- What it agrees with, behind lines.
agrees_behind : (g : Graph) (values : List ValType) (s : Script) (t : ℕ) (before lines : List Label) (stacks : List (List Stack)) (d : Done Flow) (u : Turn) → RestsOnly d
    → Agrees g values s t (before ++ lines) stacks d u → Agrees g values s t before stacks d (behind lines u)
agrees_behind g values s t before lines stacks (Gives f k) u rests a =
    let b : Agrees g values s t (before ++ lines) stacks (Gives flow.Rests k) u = subst (λ (x : Flow). Agrees g values s t (before ++ lines) stacks (Gives x k) u) rests a in
    subst (λ (x : Flow). Agrees g values s t before stacks (Gives x k) (behind lines u)) (sym rests)
    (record {
      lines = lines ++ b.lines;
      world = b.world;
      stands = b.stands;
      told = b.told ∙ append_assoc before lines b.lines;
      ends = ap (behind lines) b.ends;
    })
agrees_behind g values s t before lines stacks (Traps why k) u rests a = record {
  lines = lines ++ a.lines;
  world = a.world;
  stands = a.stands;
  told = a.told ∙ append_assoc before lines a.lines;
  ends = ap (behind lines) a.ends;
}
agrees_behind g values s t before lines stacks (Spent k) u rests a = ap (behind lines) a
agrees_behind g values s t before lines stacks kept.Stuck u rests a = ap (behind lines) a

-- The task of a call: the one that stands at its number.
caller_kept : (s : Script) (call : ℕ) (c : kept_caller.Caller) (d : Caller) → CallerStands s c d → is_call_of call d ≡ true → c ≡ by.Host call
caller_kept s call by.Nobody Nobody st e = absurd (cc)
caller_kept s call by.Nobody (Host n values) st e = absurd st
caller_kept s call by.Nobody (Guest subtask) st e = absurd st
caller_kept s call (by.Host number) Nobody st e = absurd st
caller_kept s call (by.Host number) (Host n values) st e = ap by.Host (st.0 ∙ eqb-true n call e)
caller_kept s call (by.Host number) (Guest subtask) st e = absurd st
caller_kept s call (by.Guest called) Nobody st e = absurd st
caller_kept s call (by.Guest called) (Host n values) st e = absurd st
caller_kept s call (by.Guest called) (Guest subtask) st e = absurd (cc)

host_there : (s : Script) (call : ℕ) (d : Caller) → CallerStands s (by.Host call) d → is_call_of call d ≡ true
host_there s call Nobody st = absurd st
host_there s call (Host n values) st = eq-eqb n call (sym st.0)
host_there s call (Guest subtask) st = absurd st

find_none : (call number : ℕ) (tasks : List Task) → ((n : ℕ) (task : Task) → slice_get tasks n ≡ Some task → is_call_of call task.caller ≡ false)
    → find (λ (x : ℕ × Task). is_call_of call x.1.caller) (with_numbers number tasks) ≡ None
find_none call number [] none = refl
find_none call number (a ∷ tasks) none =
    ap (λ (b : Bool). if b then Some (number, a) else find (λ (x : ℕ × Task). is_call_of call x.1.caller) (with_numbers (number + 1) tasks)) (none 0 a refl)
    ∙ find_none call (number + 1) tasks (λ n task e. none (suc n) task e)

find_one : (call number n : ℕ) (tasks : List Task) (task : Task) → slice_get tasks n ≡ Some task → is_call_of call task.caller ≡ true
    → ((m : ℕ) (other : Task) → slice_get tasks m ≡ Some other → is_call_of call other.caller ≡ true → m ≡ n)
    → find (λ (x : ℕ × Task). is_call_of call x.1.caller) (with_numbers number tasks) ≡ Some (number + n, task)
find_one call number n [] task e is once = absurd (cc)
find_one call number zero (a ∷ tasks) task e is once =
    let same : a ≡ task = some_same e in
    let none : number ≡ number + 0 = omega arith in
    ap (λ (b : Bool). if b then Some (number, a) else find (λ (x : ℕ × Task). is_call_of call x.1.caller) (with_numbers (number + 1) tasks))
    (ap (λ (x : Task). is_call_of call x.caller) same ∙ is)
    ∙ ap (λ (m : ℕ). Some (m, a)) none ∙ ap (λ (x : Task). Some (number + 0, x)) same
find_one call number (suc n) (a ∷ tasks) task e is once =
    let next : number + 1 + n ≡ number + suc n = omega arith in
    ap (λ (b : Bool). if b then Some (number, a) else find (λ (x : ℕ × Task). is_call_of call x.1.caller) (with_numbers (number + 1) tasks))
    (false_from_ne_true (is_call_of call a.caller) (λ first. let same : 0 ≡ suc n = once 0 a refl first in omega (arith, same)))
    ∙ find_one call (number + 1) n tasks task e is (λ m other there so. let same : suc m ≡ suc n = once (suc m) other there so in omega (arith, same))
    ∙ ap (λ (m : ℕ). Some (m, task)) next

-- The number of a task is that of its call.
call_number : (g : Graph) (values : List ValType) (s : Script) (h : Held) (stacks : List (List Stack)) (w : World) (call n : ℕ) (task : Task) → Stands g values s h stacks w
    → CallsMarked h.calls h.tasks → slice_get w.tasks n ≡ Some task → is_call_of call task.caller ≡ true → numbered h.calls call ≡ Some n
call_number g values s h stacks w call n task st calls there of_call =
    let one : IsFound (TaskStands g s) (slice_get h.tasks n) (slice_get w.tasks n) = found_both (TaskStands g s) h.tasks w.tasks n st.are_tasks (ap is_some there) in
    let same : one.right ≡ task = some_same (sym one.is_right ∙ there) in
    let host : one.left.caller ≡ by.Host call = caller_kept s call one.left.caller one.right.caller one.alike.called (ap (λ (a : Task). is_call_of call a.caller) same ∙ of_call) in
    calls.kept call n (ap (λ (o : Option TaskSlot). option_and_then (λ (slot : TaskSlot). call_of slot.caller) o) one.is_left ∙ ap call_of host)

none_found : (g : Graph) (values : List ValType) (s : Script) (h : Held) (stacks : List (List Stack)) (w : World) (call : ℕ) → Stands g values s h stacks w → CallsMarked h.calls h.tasks
    → numbered h.calls call ≡ None → task_of_call call w ≡ None
none_found g values s h stacks w call st calls none =
    find_none call 0 w.tasks
    (λ n task there. false_from_ne_true (is_call_of call task.caller)
    (λ so. let both : None ≡ Some n = sym none ∙ call_number g values s h stacks w call n task st calls there so in let no : ⊥ = cc in no))

-- The task of a call is there.
record IsHosted (tasks : List TaskSlot) (t call : ℕ) : Type 0 where
  slot : TaskSlot
  is : slice_get tasks t ≡ Some slot
  host : slot.caller ≡ by.Host call

host_is : (c : kept_caller.Caller) (call : ℕ) → call_of c ≡ Some call → c ≡ by.Host call
host_is by.Nobody call e = absurd (cc)
host_is (by.Host number) call e = ap by.Host (some_same e)
host_is (by.Guest called) call e = absurd (cc)

hosted : (tasks : List TaskSlot) (t call : ℕ) (o : Option TaskSlot) → slice_get tasks t ≡ o → option_and_then (λ (slot : TaskSlot). call_of slot.caller) o ≡ Some call → IsHosted tasks t call
hosted tasks t call None is e = absurd (cc)
hosted tasks t call (Some slot) is e = record { slot = slot; is = is; host = host_is slot.caller call e }

record CallFound (g : Graph) (s : Script) (h : Held) (w : World) (call t : ℕ) : Type 0 where
  slot : TaskSlot
  task : Task
  is : slice_get h.tasks t ≡ Some slot
  there : slice_get w.tasks t ≡ Some task
  alike : TaskStands g s slot task
  of_call : is_call_of call task.caller ≡ true
  found_so : task_of_call call w ≡ Some (t, task)

call_found : (g : Graph) (values : List ValType) (s : Script) (h : Held) (stacks : List (List Stack)) (w : World) (call t : ℕ) → Stands g values s h stacks w → CallsMarked h.calls h.tasks
    → numbered h.calls call ≡ Some t → CallFound g s h w call t
call_found g values s h stacks w call t st calls at =
    let made : IsHosted h.tasks t call = hosted h.tasks t call (slice_get h.tasks t) refl (calls.made call t at) in
    let one : IsFound (TaskStands g s) (slice_get h.tasks t) (slice_get w.tasks t) = found_left (TaskStands g s) h.tasks w.tasks t made.slot st.are_tasks made.is in
    let same : one.left ≡ made.slot = some_same (sym one.is_left ∙ made.is) in
    let host : one.left.caller ≡ by.Host call = ap (λ (x : TaskSlot). x.caller) same ∙ made.host in
    let of_call : is_call_of call one.right.caller ≡ true = host_there s call one.right.caller (subst (λ (c : kept_caller.Caller). CallerStands s c one.right.caller) host one.alike.called) in
    let first : 0 + t ≡ t = omega arith in
    record {
      slot = one.left;
      task = one.right;
      is = one.is_left;
      there = one.is_right;
      alike = one.alike;
      of_call = of_call;
      found_so = find_one call 0 t w.tasks one.right one.is_right of_call (λ m other there so. some_same (sym (call_number g values s h stacks w call m other st calls there so) ∙ at))
          ∙ ap (λ (n : ℕ). Some (n, one.right)) first;
    }

-- It runs a function.
host_runs : (call n : ℕ) (task : Task) → IsCalledAs n task → is_call_of call task.caller ≡ true → IsSome (func_of task.callee)
host_runs call zero task called e = absurd (let none : false ≡ true = ap (is_call_of call) (sym called.1) ∙ e in let no : ⊥ = cc in no)
host_runs call (suc n) task called e = called.0

some_func : (o : Option Lifted) → IsSome o → (f : Lifted) × (o ≡ Some f)
some_func None h = absurd (cc)
some_func (Some f) h = (f, refl)

-- The parts of a cancellation.
abbrev asked_behind : ℕ → Held → Done Flow
asked_behind t m = after (cancellable t m) (λ may n. if may then cancelled t rest.Free n else Gives flow.Rests (at_rest rest.Free n))

abbrev line_behind : ℕ → ℕ → Held → Done Flow
line_behind call t l = after (told (line.Cancel call) l) (λ done m. asked_behind t m)

abbrev item_behind : ℕ → Unit {0} → Held → Done Flow
item_behind call done k = after (item_taken k) (λ done l. given (numbered l.calls call) (λ t. line_behind call t l))

abbrev one_taken : Held → Held
one_taken k = record k { taken = k.taken + 1 }

abbrev line_told : ℕ → Held → Held
line_told call k = record (one_taken k) { labels = k.labels ++ line.Cancel call ∷ [] }

asked_rests : (t : ℕ) (m : Held) → RestsOnly (asked_behind t m)
asked_rests t m =
    rests_after (cancellable t m) (λ may n. if may then cancelled t rest.Free n else Gives flow.Rests (at_rest rest.Free n))
    (λ may n. rests_if may (cancelled t rest.Free n) (Gives flow.Rests (at_rest rest.Free n)) (cancelled_rests t rest.Free n) refl)

item_rests : (call : ℕ) (done : Unit {0}) (k : Held) → RestsOnly (item_behind call done k)
item_rests call done k = rests_given (numbered k.calls call) (λ t. line_behind call t (one_taken k)) (λ t. asked_rests t (line_told call k))

call_rests : (call : ℕ) (h : Held) → RestsOnly (call_cancelled call h)
unfolding call_cancelled
call_rests call h = rests_after (spent h) (item_behind call) (λ done k. item_rests call done k)

-- What is known where a unit is spent.
record AreBehind (g : Graph) (values : List ValType) (s : Script) (k : Held) (stacks : List (List Stack)) (v : World) : Type 0 where
  stands : Stands g values s k stacks v
  marks : HasMarks k
  calls : CallsMarked k.calls k.tasks
  numbered : IsNumbered v
  inside : (n : ℕ) (task : Task) (f : Lifted) → slice_get v.tasks n ≡ Some task → func_of task.callee ≡ Some f → IsSome (slice_get v.insts f.instance)

-- By whether it may be asked.
may_same : (g : Graph) (s : Script) (v : World) (t : ℕ) (slot : TaskSlot) (task : Task) → TaskStands g s slot task → may_cancel slot.task ≡ may_cancel (task_view g v t task)
may_same g s v t slot task st =
    ap (λ (r : Option Resolution). is_none r && is_unasked slot.task.cancellation) st.resolved ∙ ap (λ (c : Cancellation). is_none task.resolution && is_unasked c) st.cancelled

by_test : (g : Graph) (values : List ValType) (s : Script) (k : Held) (stacks : List (List Stack)) (v : World) (call t : ℕ) (c : CallFound g s k v call t) (b : Bool) → AreBehind g values s k stacks v
    → may_cancel (task_view g (world.item_taken v) t c.task) ≡ b
    → Agrees g values s 0 k.labels stacks (if b then cancelled t rest.Free (line_told call k) else Gives flow.Rests (at_rest rest.Free (line_told call k)))
    (behind (line.Cancel call ∷ []) (if b then cancelled_turn g t c.task Free (world.item_taken v) else silent Free (world.item_taken v)))
by_test g values s k stacks v call t c true a may =
    let m : Held = line_told call k in
    let u : World = world.item_taken v in
    let st : Stands g values s m stacks u = items_are_taken g values s k stacks v a.stands in
    let func : (f : Lifted) × (func_of c.task.callee ≡ Some f) = some_func (func_of c.task.callee) (host_runs call t c.task (a.numbered.called t c.task c.there) c.of_call) in
    agrees_behind g values s 0 k.labels (line.Cancel call ∷ []) stacks (cancelled t rest.Free m) (cancelled_turn g t c.task Free u) (cancelled_rests t rest.Free m)
    (end_is_asked g values s m stacks u 0 t c.task func.0 rest.Free Free c.there func.1 (a.inside t c.task func.0 c.there func.1) may
    (gates_are_kept g values s m stacks u func.0.instance st a.marks) (λ slot is. a.marks.states t slot is)
    (wait_is_counted m u t c.task func.0 c.there func.1 (gates_are_kept g values s m stacks u func.0.instance st a.marks)) (λ words. refl) st)
by_test g values s k stacks v call t c false a may = record {
  lines = line.Cancel call ∷ [];
  world = world.item_taken v;
  stands = items_are_taken g values s k stacks v a.stands;
  told = refl;
  ends = refl;
}

-- By the number that is kept of the call.
by_number : (g : Graph) (values : List ValType) (s : Script) (k : Held) (stacks : List (List Stack)) (v : World) (call : ℕ) (o : Option ℕ) → AreBehind g values s k stacks v
    → numbered k.calls call ≡ o → Agrees g values s 0 k.labels stacks (given o (λ t. line_behind call t (one_taken k))) (item_turn g s (item.Cancel call) v)
unfolding item_turn cancel_taken
by_number g values s k stacks v call None a at =
    ap (λ (o : Option (ℕ × Task)). turns.given o (λ found. cancel_taken g call found (world.item_taken v))) (none_found g values s k stacks v call a.stands a.calls at)
by_number g values s k stacks v call (Some t) a at =
    let c : CallFound g s k v call t = call_found g values s k stacks v call t a.stands a.calls at in
    let m : Held = line_told call k in
    let may : Bool = may_cancel (task_view g (world.item_taken v) t c.task) in
    both_as g values s 0 k.labels stacks (asked_behind t m) (if may then cancelled t rest.Free m else Gives flow.Rests (at_rest rest.Free m)) (item_turn g s (item.Cancel call) v)
    (behind (line.Cancel call ∷ []) (if may then cancelled_turn g t c.task Free (world.item_taken v) else silent Free (world.item_taken v)))
    (via (cancellable t m) (may_cancel c.slot.task) m (λ may n. if may then cancelled t rest.Free n else Gives flow.Rests (at_rest rest.Free n))
    (found (slice_get m.tasks t) c.slot (λ slot. Gives (may_cancel slot.task) m) c.is)
    ∙ ap (λ (b : Bool). if b then cancelled t rest.Free m else Gives flow.Rests (at_rest rest.Free m)) (may_same g s (world.item_taken v) t c.slot c.task c.alike))
    (turn_found (task_of_call call v) (t, c.task) (λ found. cancel_taken g call found (world.item_taken v)) c.found_so)
    (by_test g values s k stacks v call t c may a refl)

pub cancels_agree : CancelsAgree
unfolding call_cancelled alternative_turn
cancels_agree g values s h stacks w reached st marks calls asked number picks labels used is k_st =
    let k : Held = record h { picks = picks; labels = labels } in
    let now : World = with_control Free (picked used w) in
    let numbered_so : IsNumbered w = (past_reached g s w reached).numbered in (
      stacks,
      inl refl,
      done_as g values s 0 labels stacks (resting (call_cancelled number k)) (call_cancelled number k) (alternative_turn g s (Takes (item.Cancel number)) now)
          (rests_is (call_cancelled number k) (call_rests number k))
          (on_spent g values s 0 labels stacks stacks k now (item_behind number) (λ v. item_turn g s (item.Cancel number) v) k_st
          (λ spent_st.
          by_number g values s (record k { left = k.left - 1 }) stacks (unit_spent now) number (numbered k.calls number)
          (record { stands = spent_st; marks = marks; calls = calls; numbered = numbered_so; inside = asked.instances }) refl)),
    )

-- All that a step asks where no task runs.
pub turns_may_come : TurnsMayCome
turns_may_come p values s h piles w program reached free st marks lists asked = record {
  named = program;
  turns = turns_are_kept p.graph.now values s h (stacks_at piles) w reached free st marks lists asked;
  cancels = cancels_agree p.graph.now values s h (stacks_at piles) w reached st marks lists.calls asked;
}

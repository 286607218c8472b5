-- What is asked for marks to stay is so where what is kept stands for a world that a run reaches.
use Rattle.std.proofs.Common.{◌≡◌, ◌≤◌, ℕ, zero, suc, Bool, true, false, ◌&&◌, nat_eq, is_some, List, refl, sym, ap, ◌∙◌, subst, arith, Option, Some, None, Result, Ok, Err}
use Rattle.std.specs.Prelude.{IsSome}
use Rattle.std.specs.List.{slice_get, AllByRecursion, count_by}
use Rattle.std.specs.Option.{option_map}
use Rattle.std.proofs.lemmas.Bool.{eqb-true, eq-eqb, ne_eqb}
use Rattle.syntax_trees.specs.declared.types.ValType.{ValType}
use Rattle.wasm_store.specs.Stack.{Stack}
use Rattle.wasm_store.proofs.Lists.{all_at}
use Rattle.handle_table.specs.History.{live, IsHistory}
use Rattle.handle_table.specs.Slots.{next_of}
use Rattle.handle_table.proofs.Freed.{not_live}
use Rattle.entry_gate.specs.declared.callback.Next.{Next}
use Rattle.entry_gate.specs.declared.callback.Next.TheVariants as next
use Rattle.entry_gate.specs.declared.callback.BadCode.{BadCode}
use Rattle.entry_gate.specs.Callbacks.{callback_of}
use Rattle.entry_gate.specs.Kinds.{needs_entry}
use Rattle.entry_gate.specs.declared.kind.Kind.{Kind}
use Rattle.entry_gate.specs.Stays.{Place, is_inside}
use Rattle.tasks.specs.declared.phase.Cancellation.{Cancellation}
use Rattle.tasks.specs.declared.phase.Cancellation.TheVariants.{NotAsked, Asked, Delivered}
use Rattle.tasks.specs.declared.phase.Resolution.{Resolution}
use Rattle.tasks.specs.declared.phase.Resolution.TheVariants.{Cancelled}
use Rattle.tasks.specs.Tasks.{is_asked}
use Rattle.tasks.specs.Subtasks.{is_over}
use Rattle.comp_graph.specs.declared.graph.CanonFunc.{CanonFunc}
use Rattle.comp_graph.specs.Graph.{Graph, Lifted}
use Rattle.script_reader.specs.Script.{Script}
use Rattle.instances.specs.declared.entry.WorldEntry.TheVariants as entry
use Rattle.instances.specs.Instances.{InstanceView}
use Rattle.task_table.specs.declared.caller.Called.{Called}
use Rattle.task_table.specs.declared.errand.Callee as runs
use Rattle.task_table.specs.declared.slot.TaskSlot.{TaskSlot}
use Rattle.task_table.specs.Callers.{called_of}
use Rattle.task_table.specs.declared.errand.Callee.TheVariants as callee
use Rattle.task_table.specs.Slots.{next_waits_on, waits_on, waits_directly_at}
use Rattle.world_parts.specs.Held.{Held}
use Rattle.abi_machine.specs.World.{Entry, BorrowHandle, OfSubtask, OfSet, OfEnd, Inst, Callee, Init, Guest, Subtask, Caller, ForYield, ForSet, ForCall, ForCopy, ForCancel, Wait, New, Acting, AfterCall, AfterCancel, Begins, WaitsToEnter, InLoop, InBuiltin, Exited, TaskState, Task, World}
use Rattle.abi_machine.specs.Canons.{inst_of_canon, canon_at, flag_at}
use Rattle.abi_machine.specs.Counting.{passes, phase_of}
use Rattle.abi_machine.specs.Gate.{place_of}
use Rattle.abi_machine.specs.Reading.{table_in, table_of, entry_at, func_of, subtask_of, runs_in, is_in, has_exited, may_leave}
use Rattle.abi_machine.specs.sound.Called.{CalledBy, Called as HasCalledTask, HasCalled}
use Rattle.abi_machine.specs.sound.Cancels.{StandsIn, CancelStands}
use Rattle.abi_machine.specs.sound.Changes.{IsGuest}
use Rattle.abi_machine.specs.sound.CopyWaits.{AwaitsCopy}
use Rattle.abi_machine.specs.sound.Entering.{HasEntered}
use Rattle.abi_machine.specs.sound.Firsts.{TaskIs}
use Rattle.abi_machine.specs.sound.Holders.{IsHolder}
use Rattle.abi_machine.specs.sound.Initial.{InitRunsAlone, IsInitial}
use Rattle.abi_machine.specs.sound.Loans.{HoldsHandle, AreLoans, LoansOf}
use Rattle.abi_machine.specs.sound.Loops.{HasSetAt, GoesOnBy, LoopsIn, LoopsSo}
use Rattle.abi_machine.specs.sound.Numbers.{NamesWhatIsThere}
use Rattle.abi_machine.specs.sound.Owners.{owner_of_canon}
use Rattle.abi_machine.specs.sound.OwnCallers.{MadeByOwn, IsByOwn}
use Rattle.abi_machine.specs.sound.Told.{WasTold, IsTold}
use Rattle.abi_machine.proofs.sound.Found.{some_same}
use Rattle.standing.specs.Instances.{owned_as, InstStands}
use Rattle.standing.specs.KeptMarks.{runs_func, runs_at, place_in, is_task_at, lends_by}
use Rattle.standing.specs.Stands.{Stands}
use Rattle.standing.specs.Tasks.{TaskStands, callee_of}
use Rattle.standing.proofs.Changes.{acting_is_alike}
use Rattle.standing.proofs.KeptMarks.{runs_alike, place_alike}
use Rattle.standing.proofs.Tables.{next_is_alike}
use Rattle.run_laws.specs.keeping.Kept.{holds_entry}
use Rattle.run_laws.specs.keeping.Supplied.{NumbersAreThere, NothingIsLentNext, NoTaskWaitsNext, NoSetIsWaitedOnNext, ToldHaveGivenBack, AskedWereNotCancelled, OneHoldsEntry, TasksRunFunctions, ActingRunsFunction, WaitingCalled}
use Rattle.run_laws.proofs.keeping.Sums.{sum_none, count_none, any_none}
use Rattle.run_laws.proofs.supplied.Found.{task_of, slot_of, inst_of, entry_shown, called_shown}
use Rattle.run_laws.proofs.supplied.Known.{Known, known}
use Rattle.run_laws.proofs.Reached.{instantiated_is}

-- What stands in a table was named, and a canonical function that an instance made is there.
pub guest_at : (w : World) (at : ℕ) (o : Option Inst) → slice_get w.insts at ≡ o → AllByRecursion (NamesWhatIsThere w.tasks) w.insts → (index callee : ℕ)
    → live (table_in o) index ≡ Some (OfSubtask callee) → IsGuest w.tasks callee
guest_at w at None is named index callee e = absurd (cc)
guest_at w at (Some inst) is named index callee e = all_at (NamesWhatIsThere w.tasks) w.insts at inst named is index (OfSubtask callee) e

pub owner_found : (o : Option CanonFunc) (i : ℕ) → option_map inst_of_canon o ≡ Some i → (c : CanonFunc) × (o ≡ Some c) × (inst_of_canon c ≡ i)
owner_found None i e = absurd (cc)
owner_found (Some c) i e = (c, refl, some_same e)

-- Of the callers of tasks: who calls, and what that one runs.
pub by_own_at : (g : Graph) (s : Script) (w : World) (t : ℕ) (task : Task) (subtask : Subtask) → Known g s w → slice_get w.tasks t ≡ Some task → task.caller ≡ Guest subtask
    → TaskIs w.tasks subtask.by (MadeByOwn g subtask.canon)
by_own_at g s w t task subtask k there guest =
    subst (IsByOwn g w.tasks) guest (all_at (λ (x : Task). IsByOwn g w.tasks x.caller) w.tasks t task k.lent.callers there)

pub loans_at : (g : Graph) (s : Script) (w : World) (t : ℕ) (task : Task) (subtask : Subtask) → Known g s w → slice_get w.tasks t ≡ Some task → task.caller ≡ Guest subtask
    → AreLoans g w.tasks w.insts subtask
loans_at g s w t task subtask k there guest =
    subst (LoansOf g w.tasks w.insts) guest (all_at (λ (x : Task). LoansOf g w.tasks w.insts x.caller) w.tasks t task k.lent.loans there)

-- A handle that is lent for a call stands in the table of the instance whose function the caller runs.
pub lent_stands : (g : Graph) (s : Script) (w : World) (t at place handle : ℕ) (task by : Task) (subtask : Subtask) → Known g s w → slice_get w.tasks t ≡ Some task → task.caller ≡ Guest subtask
    → slice_get w.tasks subtask.by ≡ Some by → runs_in at by ≡ true → slice_get subtask.lends place ≡ Some handle → HoldsHandle (table_of w at) handle
lent_stands g s w t at place handle task by subtask k there guest is runs lent =
    let own : TaskIs w.tasks subtask.by (MadeByOwn g subtask.canon) = by_own_at g s w t task subtask k there guest in
    let same : own.0 ≡ by = some_same (sym own.1 ∙ is) in
    let made : (f : Lifted) × (func_of by.callee ≡ Some f) × (owner_of_canon g subtask.canon ≡ Some f.instance) = subst (MadeByOwn g subtask.canon) same own.2 in
    let here : made.0.instance ≡ at = eqb-true made.0.instance at (ap (is_in at) (sym made.1) ∙ runs) in
    let c : (c : CanonFunc) × (canon_at g subtask.canon ≡ Some c) × (inst_of_canon c ≡ made.0.instance) = owner_found (canon_at g subtask.canon) made.0.instance made.2 in
    let all : AllByRecursion (HoldsHandle (table_in (slice_get w.insts (inst_of_canon c.0)))) subtask.lends = (loans_at g s w t task subtask k there guest).stand c.0 c.1 in
    subst (λ (n : ℕ). HoldsHandle (table_in (slice_get w.insts n)) handle) (c.2 ∙ here)
    (all_at (HoldsHandle (table_in (slice_get w.insts (inst_of_canon c.0)))) subtask.lends place handle all lent)

-- Where the next entry will stand nothing does.
pub next_empty : (g : Graph) (values : List ValType) (s : Script) (h : Held) (stacks : List (List Stack)) (w : World) (at : ℕ) (i : InstanceView) → Stands g values s h stacks w → Known g s w
    → slice_get h.instances at ≡ Some i → entry_at w at (next_of i.slots) ≡ None
next_empty g values s h stacks w at i st k here =
    let x : (a : Inst) × (slice_get w.insts at ≡ Some a) × InstStands values i a = inst_of g values s h stacks w st at i here in
    ap (λ (o : Option Inst). live (table_in o) (next_of i.slots)) x.1 ∙ ap (λ (n : ℕ). live x.0.table n) (next_is_alike values i x.0 x.2)
    ∙ not_live x.0.table (all_at (λ (y : Inst). IsHistory y.table) w.insts at x.0 k.standing.histories x.1)

-- Numbers.
pub numbers_are_there : NumbersAreThere
numbers_are_there g values s h stacks w r =
    let st : Stands g values s h stacks w = r.stands in
    let k : Known g s w = known g values s h stacks w r in
    record {
      callers = λ t slot called there is.
          let a = task_of g values s h stacks w st t slot there in
          let c = called_shown s slot.caller a.0.caller called a.2.called is in
          let own : TaskIs w.tasks c.0.by (MadeByOwn g c.0.canon) = by_own_at g s w t a.0 c.0 k a.1 c.1 in
          let b = slot_of g values s h stacks w st c.0.by own.0 own.1 in
          subst (λ (n : ℕ). IsSome (slice_get h.tasks n)) (sym c.2.caller) (ap is_some b.1);
      borrowers = λ at index task i x here is own.
          let e = entry_shown g values s h stacks w st at index i (entry.Handle x) here is in
          let borrow : entry_at w at index ≡ Some (BorrowHandle x.resource x.rep task) =
          e.1 ∙ ap (λ (y : Entry). Some y) (e.2 ∙ ap (owned_as x.resource x.rep) own) in
          let entered : HasEntered w.tasks task = k.standing.alone.5.borrows at index (BorrowHandle x.resource x.rep task) borrow in
          ap is_some (slot_of g values s h stacks w st task entered.0 entered.1).1;
      subtasks = λ at index callee i here is.
          let e = entry_shown g values s h stacks w st at index i (entry.Subtask callee) here is in
          let guest : IsGuest w.tasks callee =
          guest_at w at (slice_get w.insts at) refl k.standing.numbered.entries index callee (e.1 ∙ ap (λ (y : Entry). Some y) e.2) in
          ap is_some (slot_of g values s h stacks w st callee guest.0 guest.1).1;
    }

-- Loans.
lend_not : (is_here : ℕ → Bool) (index : ℕ) (called : Called)
    → ((place handle : ℕ) → slice_get called.subtask.lends place ≡ Some handle → is_here called.by ≡ true → handle ≡ index → ⊥)
    → count_by (λ handle. is_here called.by && nat_eq handle index) called.subtask.lends ≡ 0
lend_not is_here index called apart =
    count_none (λ (handle : ℕ). is_here called.by && nat_eq handle index) called.subtask.lends (λ place handle e. by place handle e (is_here called.by) refl)
  where
    by : (place handle : ℕ) → slice_get called.subtask.lends place ≡ Some handle → (b : Bool) → is_here called.by ≡ b → (b && nat_eq handle index) ≡ false
    by place handle e false is = refl
    by place handle e true is = ne_eqb handle index (apart place handle e is)

lends_not : (is_here : ℕ → Bool) (index : ℕ) (o : Option Called)
    → ((called : Called) → o ≡ Some called → (place handle : ℕ) → slice_get called.subtask.lends place ≡ Some handle → is_here called.by ≡ true → handle ≡ index → ⊥)
    → lends_by is_here index o ≡ 0
lends_not is_here index None apart = refl
lends_not is_here index (Some called) apart = lend_not is_here index called (apart called refl)

slot_runs : (at : ℕ) (o : Option TaskSlot) → passes (runs_at at) o ≡ true → (x : TaskSlot) × (o ≡ Some x) × (runs_at at x ≡ true)
slot_runs at None e = absurd (cc)
slot_runs at (Some x) e = (x, refl, e)

pub nothing_is_lent_next : NothingIsLentNext
nothing_is_lent_next g values s h stacks w at r i here =
    let st : Stands g values s h stacks w = r.stands in
    let k : Known g s w = known g values s h stacks w r in
    let index : ℕ = next_of i.slots in
    sum_none (λ (slot : TaskSlot). lends_by (is_task_at h.tasks at) index (called_of slot.caller)) h.tasks
    (λ n slot there.
    lends_not (is_task_at h.tasks at) index (called_of slot.caller)
    (λ called is place handle lent runs same.
    let a = task_of g values s h stacks w st n slot there in
    let c = called_shown s slot.caller a.0.caller called a.2.called is in
    let x = slot_runs at (slice_get h.tasks called.by) runs in
    let b = task_of g values s h stacks w st called.by x.0 x.1 in
    let by_there : slice_get w.tasks c.0.by ≡ Some b.0 = ap (λ (m : ℕ). slice_get w.tasks m) (sym c.2.caller) ∙ b.1 in
    let by_runs : runs_in at b.0 ≡ true = sym (runs_alike g s at x.0 b.0 b.2) ∙ x.2 in
    let held : HoldsHandle (table_of w at) handle =
    lent_stands g s w n at place handle a.0 b.0 c.0 k a.1 c.1 by_there by_runs (ap (λ (l : List ℕ). slice_get l place) (sym c.2.lent) ∙ lent) in
    let none : None ≡ Some held.0 = sym (next_empty g values s h stacks w at i st k here) ∙ ap (λ (m : ℕ). entry_at w at m) (sym same) ∙ held.1 in
    let w : ⊥ = cc in w))

pub told_have_given_back : ToldHaveGivenBack
told_have_given_back g values s h stacks w r t slot called there is over =
    let a = task_of g values s h stacks w r.stands t slot there in
    let c = called_shown s slot.caller a.0.caller called a.2.called is in
    let k : Known g s w = known g values s h stacks w r in
    c.2.lent ∙ (loans_at g s w t a.0 c.0 k a.1 c.1).given_back (ap is_over (sym c.2.was_told) ∙ over)

-- Waits.
abbrev IsAt : TaskState → ℕ → Wait → Type 0
IsAt state number wait = (words : List ℕ) × (state ≡ InBuiltin number words wait)

direct_wait : (index number : ℕ) (words : List ℕ) (flag : Bool) (wait : Wait) → (IsAt (InBuiltin number words wait) number (ForCopy index) → ⊥)
    → (IsAt (InBuiltin number words wait) number (ForCancel index) → ⊥) → waits_directly_at index (phase_of (λ n. flag) (InBuiltin number words wait)) ≡ false
direct_wait index number words flag ForYield copy cancel = refl
direct_wait index number words flag (ForSet set) copy cancel = refl
direct_wait index number words flag (ForCall callee) copy cancel = refl
direct_wait index number words flag (ForCopy end) copy cancel = ne_eqb end index (λ e. copy (words, ap (λ (n : ℕ). InBuiltin number words (ForCopy n)) e))
direct_wait index number words flag (ForCancel subtask) copy cancel = ne_eqb subtask index (λ e. cancel (words, ap (λ (n : ℕ). InBuiltin number words (ForCancel n)) e))

direct_none : (index : ℕ) (flag : ℕ → Bool) (state : TaskState) → ((number : ℕ) → IsAt state number (ForCopy index) → ⊥) → ((number : ℕ) → IsAt state number (ForCancel index) → ⊥)
    → waits_directly_at index (phase_of flag state) ≡ false
direct_none index flag New copy cancel = refl
direct_none index flag Acting copy cancel = refl
direct_none index flag (AfterCall callee number words) copy cancel = refl
direct_none index flag (AfterCancel callee number words) copy cancel = refl
direct_none index flag (Begins n) copy cancel = refl
direct_none index flag WaitsToEnter copy cancel = refl
direct_none index flag (InLoop word) copy cancel = refl
direct_none index flag (InBuiltin number words wait) copy cancel = direct_wait index number words (flag number) wait (copy number) (cancel number)
direct_none index flag Exited copy cancel = refl

-- A task of the instance does not pass a test, where it passes in no state in which it is.
tested_in : (b c : Bool) → (b ≡ true → c ≡ false) → (b && c) ≡ false
tested_in false c none = refl
tested_in true c none = none refl

runs_there : (at : ℕ) (o : Option Lifted) → is_in at o ≡ true → (f : Lifted) × (o ≡ Some f) × (f.instance ≡ at)
runs_there at None e = absurd (cc)
runs_there at (Some f) e = (f, refl, eqb-true f.instance at e)

pub no_task_waits_next : NoTaskWaitsNext
no_task_waits_next g values s h stacks w at r i here =
    let st : Stands g values s h stacks w = r.stands in
    let k : Known g s w = known g values s h stacks w r in
    let index : ℕ = next_of i.slots in
    any_none (λ (slot : TaskSlot). runs_at at slot && waits_directly_at index slot.task.phase) h.tasks
    (λ n slot there.
    let a = task_of g values s h stacks w st n slot there in
    tested_in (runs_at at slot) (waits_directly_at index slot.task.phase)
    (λ runs.
    let f = runs_there at (func_of a.0.callee) (sym (runs_alike g s at slot a.0 a.2) ∙ runs) in
    let empty : entry_at w f.0.instance index ≡ None = ap (λ (m : ℕ). entry_at w m index) f.2 ∙ next_empty g values s h stacks w at i st k here in
    ap (waits_directly_at index) a.2.far
    ∙ direct_none index (flag_at g) a.0.state
    (λ number waits.
    let stands : AwaitsCopy g w.insts w.streams w.futures n number index f.0.instance = k.awaited n number index a.0 f.0 a.1 f.1 waits in
    let none : None ≡ Some (OfEnd stands.end) = sym empty ∙ stands.stands in let wrong : ⊥ = cc in wrong)
    (λ number waits.
    let stands = subst (λ (state : TaskState). CancelStands w.tasks w.insts (func_of a.0.callee) state) waits.1 (k.standing.cancels.stands n a.0 a.1) in
    let in_table : StandsIn w.insts (Some f.0) index stands.0 = subst (λ (o : Option Lifted). StandsIn w.insts o index stands.0) f.1 stands.1 in
    let none : None ≡ Some (OfSubtask stands.0) = sym empty ∙ in_table in let wrong : ⊥ = cc in wrong)))

loop_none : (index : ℕ) (r : Result Next BadCode) → (r ≡ Ok (next.Wait index) → ⊥) → (r ≡ Ok (next.Poll index) → ⊥) → next_waits_on index r ≡ false
loop_none index (Ok next.Exit) wait poll = refl
loop_none index (Ok next.Yield) wait poll = refl
loop_none index (Ok (next.Wait set)) wait poll = ne_eqb set index (λ e. wait (ap (λ (n : ℕ). Ok (next.Wait n)) e))
loop_none index (Ok (next.Poll set)) wait poll = ne_eqb set index (λ e. poll (ap (λ (n : ℕ). Ok (next.Poll n)) e))
loop_none index (Err why) wait poll = refl

abbrev Loops : TaskState → Next → Type 0
Loops state on = (word : ℕ) × (state ≡ InLoop word) × (callback_of word ≡ Ok on)

set_wait : (index number : ℕ) (words : List ℕ) (flag : Bool) (wait : Wait) → (IsAt (InBuiltin number words wait) number (ForSet index) → ⊥)
    → waits_on index (phase_of (λ n. flag) (InBuiltin number words wait)) ≡ false
set_wait index number words flag ForYield set = refl
set_wait index number words flag (ForSet other) set = ne_eqb other index (λ e. set (words, ap (λ (n : ℕ). InBuiltin number words (ForSet n)) e))
set_wait index number words flag (ForCall callee) set = refl
set_wait index number words flag (ForCopy end) set = refl
set_wait index number words flag (ForCancel subtask) set = refl

set_none : (index : ℕ) (flag : ℕ → Bool) (state : TaskState) → ((number : ℕ) → IsAt state number (ForSet index) → ⊥) → (Loops state (next.Wait index) → ⊥) → (Loops state (next.Poll index) → ⊥)
    → waits_on index (phase_of flag state) ≡ false
set_none index flag New set wait poll = refl
set_none index flag Acting set wait poll = refl
set_none index flag (AfterCall callee number words) set wait poll = refl
set_none index flag (AfterCancel callee number words) set wait poll = refl
set_none index flag (Begins n) set wait poll = refl
set_none index flag WaitsToEnter set wait poll = refl
set_none index flag (InLoop word) set wait poll = loop_none index (callback_of word) (λ e. wait (word, refl, e)) (λ e. poll (word, refl, e))
set_none index flag (InBuiltin number words wait) set loop poll = set_wait index number words (flag number) wait (set number)
set_none index flag Exited set wait poll = refl

-- Where it waits on a set in its loop the set stands there.
pub loops_at : (g : Graph) (s : Script) (w : World) (t : ℕ) (task : Task) (f : Lifted) (word : ℕ) → Known g s w → slice_get w.tasks t ≡ Some task → func_of task.callee ≡ Some f
    → task.state ≡ InLoop word → GoesOnBy (table_of w f.instance) (callback_of word)
loops_at g s w t task f word k there runs is =
    let so : LoopsSo w.insts task.callee (InLoop word) = subst (LoopsSo w.insts task.callee) is (k.standing.loops t task there) in
    subst (λ (o : Option Lifted). LoopsIn w.insts o word) runs so

pub no_set_is_waited_on_next : NoSetIsWaitedOnNext
no_set_is_waited_on_next g values s h stacks w at i r here =
    let st : Stands g values s h stacks w = r.stands in
    let k : Known g s w = known g values s h stacks w r in
    let index : ℕ = next_of i.slots in
    count_none (λ (slot : TaskSlot). runs_at at slot && waits_on index slot.task.phase) h.tasks
    (λ n slot there.
    let a = task_of g values s h stacks w st n slot there in
    tested_in (runs_at at slot) (waits_on index slot.task.phase)
    (λ runs.
    let f = runs_there at (func_of a.0.callee) (sym (runs_alike g s at slot a.0 a.2) ∙ runs) in
    let empty : entry_at w f.0.instance index ≡ None = ap (λ (m : ℕ). entry_at w m index) f.2 ∙ next_empty g values s h stacks w at i st k here in
    let not_there : HasSetAt (table_of w f.0.instance) index → ⊥ = λ has. (let none : None ≡ Some (OfSet has.0) = sym empty ∙ has.1 in let wrong : ⊥ = cc in wrong) in
    ap (waits_on index) a.2.far
    ∙ set_none index (flag_at g) a.0.state (λ number waits. not_there (k.standing.sets n index a.0 f.0 a.1 f.1 (number, waits.0, waits.1)))
    (λ waits. not_there (subst (GoesOnBy (table_of w f.0.instance)) waits.2 (loops_at g s w n a.0 f.0 waits.0 k a.1 f.1 waits.1)))
    (λ waits. not_there (subst (GoesOnBy (table_of w f.0.instance)) waits.2 (loops_at g s w n a.0 f.0 waits.0 k a.1 f.1 waits.1)))))

-- Cancellation.
was_told : (c : Cancellation) → WasTold (Some Cancelled) c → is_asked c ≡ false
was_told NotAsked h = refl
was_told Asked h = absurd h
was_told Delivered h = refl

pub asked_were_not_cancelled : AskedWereNotCancelled
asked_were_not_cancelled g values s h stacks w r t slot there is =
    let k : Known g s w = known g values s h stacks w r in
    let a = task_of g values s h stacks w r.stands t slot there in
    let told : IsTold a.0 = all_at IsTold w.tasks t a.0 k.standing.told a.1 in
    ap is_asked a.2.cancelled ∙ was_told a.0.cancellation (subst (λ (o : Option Resolution). WasTold o a.0.cancellation) (sym a.2.resolved ∙ is) told.cancelled)

-- Entry.
both_of : (a b : Bool) → (a && b) ≡ true → (a ≡ true) × (b ≡ true)
both_of true b e = (refl, e)
both_of false b e = absurd (cc)

pub one_holds_entry : OneHoldsEntry
one_holds_entry g values s h stacks w r at n m x y x_there y_there x_holds y_holds =
    let st : Stands g values s h stacks w = r.stands in
    let k : Known g s w = known g values s h stacks w r in
    let holder : (n : ℕ) (slot : TaskSlot) (a : Task) → TaskStands g s slot a → holds_entry at slot ≡ true → IsHolder at n a =
    λ n slot a alike holds. (
    let both = both_of (runs_at at slot) (needs_entry slot.task.kind && is_inside (place_in slot.task.phase)) holds in (
      sym (runs_alike g s at slot a alike) ∙ both.0,
      ap (λ (kind : Kind). needs_entry kind && is_inside (place_of a.state)) (sym alike.lifted)
          ∙ ap (λ (place : Place). needs_entry slot.task.kind && is_inside place) (sym (place_alike g s slot a alike)) ∙ both.1,
    )
    ) in
    let a = task_of g values s h stacks w st n x x_there in
    let b = task_of g values s h stacks w st m y y_there in
    k.holder at n m a.0 b.0 a.1 b.1 (holder n x a.0 a.2 x_holds) (holder m y b.0 b.2 y_holds)

-- What tasks run.
pub runs_by : (g : Graph) (c : runs.Callee) (a : Callee) → callee_of g c ≡ Some a → IsSome (func_of a) → runs_func c ≡ true
runs_by g callee.Init a e some = (let none : IsSome (func_of Init) = subst (λ (x : Callee). IsSome (func_of x)) (sym (some_same e)) some in absurd (cc))
runs_by g (callee.Export number) a e some = refl
runs_by g (callee.Lowered number) a e some = refl
runs_by g (callee.Destroys resource) a e some = refl

pub tasks_run_functions : TasksRunFunctions
tasks_run_functions g values s h stacks w zero r late slot there = absurd (omega (arith, late))
tasks_run_functions g values s h stacks w (suc t) r late slot there =
    let k : Known g s w = known g values s h stacks w r in
    let a = task_of g values s h stacks w r.stands (suc t) slot there in
    runs_by g slot.callee a.0.callee a.2.does (k.standing.numbered.called (suc t) a.0 a.1).0

initial_late : (state : TaskState) (chain : List ℕ) → has_exited state ≡ true → IsInitial state chain → AllByRecursion (λ t. 1 ≤ t) chain
initial_late Exited chain done h = h
initial_late New chain done h = absurd (cc)
initial_late Acting chain done h = absurd (cc)
initial_late (AfterCall callee number words) chain done h = absurd (cc)
initial_late (AfterCancel callee number words) chain done h = absurd (cc)
initial_late (Begins n) chain done h = absurd (cc)
initial_late WaitsToEnter chain done h = absurd (cc)
initial_late (InLoop word) chain done h = absurd (cc)
initial_late (InBuiltin number words wait) chain done h = absurd (cc)

pub acting_late : (w : World) (t : ℕ) → InitRunsAlone w.tasks w.chain → may_leave w ≡ true → slice_get w.chain 0 ≡ Some t → 1 ≤ t
acting_late w t alone free first =
    all_at (λ (n : ℕ). 1 ≤ n) w.chain 0 t (initial_late alone.init.state w.chain (sym (instantiated_is w.tasks alone.init alone.there) ∙ free) alone.alone) first

pub acting_runs_function : ActingRunsFunction
acting_runs_function g values s h stacks w r free t first =
    let k : Known g s w = known g values s h stacks w r in
    tasks_run_functions g values s h stacks w t r (acting_late w t k.standing.alone.0 free (sym (acting_is_alike g values s h stacks w r.stands) ∙ first))

-- Tasks that wait for the one that they called.
pub called_for : (tasks : List Task) (t callee number : ℕ) (state : TaskState) → HasCalled tasks t state → CalledBy state callee number → HasCalledTask tasks t number callee
called_for tasks t callee number New h e = absurd e
called_for tasks t callee number Acting h e = absurd e
called_for tasks t callee number (AfterCall other canon words) h e =
    subst (λ (n : ℕ). HasCalledTask tasks t number n) e.0 (subst (λ (n : ℕ). HasCalledTask tasks t n other) e.1 h)
called_for tasks t callee number (AfterCancel other canon words) h e = absurd e
called_for tasks t callee number (Begins n) h e = absurd e
called_for tasks t callee number WaitsToEnter h e = absurd e
called_for tasks t callee number (InLoop word) h e = absurd e
called_for tasks t callee number (InBuiltin canon words (ForCall other)) h e =
    subst (λ (n : ℕ). HasCalledTask tasks t number n) e.0 (subst (λ (n : ℕ). HasCalledTask tasks t n other) e.1 h)
called_for tasks t callee number (InBuiltin canon words ForYield) h e = absurd e
called_for tasks t callee number (InBuiltin canon words (ForSet index)) h e = absurd e
called_for tasks t callee number (InBuiltin canon words (ForCopy index)) h e = absurd e
called_for tasks t callee number (InBuiltin canon words (ForCancel index)) h e = absurd e
called_for tasks t callee number Exited h e = absurd e

in_own : (f : Lifted) (o : Option Lifted) → o ≡ Some f → is_in f.instance o ≡ true
in_own f o e = ap (is_in f.instance) e ∙ eq-eqb f.instance f.instance refl

guest_subtask : (d : Caller) (x y : Subtask) → d ≡ Guest x → subtask_of d ≡ Some y → x ≡ y
guest_subtask d x y e is = some_same (sym (ap subtask_of e) ∙ is)

pub waiting_called : WaitingCalled
waiting_called g values s h stacks w t callee number task f r there runs waits slot called slot_there is =
    let st : Stands g values s h stacks w = r.stands in
    let k : Known g s w = known g values s h stacks w r in
    let by = called_for w.tasks t callee number task.state (k.standing.called t task there) waits in
    let a = task_of g values s h stacks w st callee slot slot_there in
    let c = called_shown s slot.caller a.0.caller called a.2.called is in
    let same : by.0 ≡ a.0 = some_same (sym by.1 ∙ a.1) in
    let own : c.0 ≡ by.2.0 = guest_subtask a.0.caller c.0 by.2.0 c.1 (ap (λ (x : Task). subtask_of x.caller) (sym same) ∙ by.2.1) in
    let is_by : called.by ≡ t = c.2.caller ∙ ap (λ (x : Subtask). x.by) own ∙ by.2.2 in
    let x = slot_of g values s h stacks w st t task there in
    ap (λ (n : ℕ). is_task_at h.tasks f.instance n) is_by ∙ ap (passes (runs_at f.instance)) x.1 ∙ runs_alike g s f.instance x.0 task x.2 ∙ in_own f (func_of task.callee) runs

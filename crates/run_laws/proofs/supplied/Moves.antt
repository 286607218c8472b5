-- What is asked of a move is so where what is kept stands for a world that a run reaches, and its marks are right.
use Rattle.std.proofs.Common.{◌≡◌, ◌<◌, ◌≢◌, inl, inr, ℕ, zero, suc, Bool, true, false, ◌&&◌, nat_lt, is_some, List, [], ◌∷◌, length, refl, sym, ap, ◌∙◌, subst, arith, if◌then◌else◌, Option, Some, None, Result, Ok, Err}
use Rattle.std.specs.Prelude.{IsSome}
use Rattle.std.specs.List.{slice_get, count_by}
use Rattle.std.proofs.lemmas.Bool.{eq-eqb, lt-ltb}
use Rattle.syntax_trees.specs.declared.types.ValType.{ValType}
use Rattle.wasm_store.specs.Stack.{Stack}
use Rattle.wasm_store.proofs.Lists.{all_at}
use Rattle.handle_table.specs.History.{live}
use Rattle.waitables.specs.Sets.{SetView, set_at}
use Rattle.entry_gate.specs.declared.callback.Next.{Next}
use Rattle.entry_gate.specs.declared.callback.Next.TheVariants as next
use Rattle.entry_gate.specs.declared.callback.BadCode.{BadCode}
use Rattle.entry_gate.specs.Callbacks.{callback_of}
use Rattle.tasks.specs.Subtasks.{is_over}
use Rattle.tasks.specs.Tasks.{state_of}
use Rattle.comp_graph.specs.Graph.{Graph, Lifted}
use Rattle.script_reader.specs.Script.{Script}
use Rattle.stream_ends.specs.declared.open_copy.OpenCopy.{OpenCopy}
use Rattle.stream_ends.specs.declared.stream_end.End.{End}
use Rattle.instances.specs.declared.entry.EndEntry.{EndEntry}
use Rattle.instances.specs.declared.entry.WorldEntry.{WorldEntry}
use Rattle.instances.specs.declared.entry.WorldEntry.TheVariants as entry
use Rattle.instances.specs.Instances.{InstanceView, entry_of}
use Rattle.instances.specs.Calls.{is_there, has_waiter}
use Rattle.task_table.specs.declared.slot.TaskSlot.{TaskSlot}
use Rattle.task_table.specs.Callers.{called_of}
use Rattle.task_table.specs.Slots.{next_waits_on, waits_on}
use Rattle.programs.specs.declared.program.Program.{Program}
use Rattle.world_parts.specs.declared.parts.Rest.{Rest}
use Rattle.world_parts.specs.declared.parts.Rest.TheVariants as rest
use Rattle.world_parts.specs.Held.{Held}
use Rattle.abi_machine.specs.Control.{Control, EndRef, Instantiates, Arrives, Goes, Resumes, Back, Leaves}
use Rattle.abi_machine.specs.World.{OfSubtask, OfSet, OfEnd, Inst, ForYield, ForSet, ForCall, ForCopy, ForCancel, Wait, New, Acting, AfterCall, AfterCancel, Begins, WaitsToEnter, InLoop, InBuiltin, Exited, TaskState, Task, World}
use Rattle.abi_machine.specs.Counting.{passes, phase_of, end_of}
use Rattle.abi_machine.specs.Canons.{flag_at}
use Rattle.abi_machine.specs.Reading.{table_in, table_of, func_of, subtask_of, is_in, runs_in, task_at}
use Rattle.abi_machine.specs.Cancelling.{first_of}
use Rattle.abi_machine.specs.sound.Acting.{Outline, outline_of, outlines_of, StandsBy, OneActs, IsStarting, IsNew, IsCalling, IsWaitingFor, WasBlocked, IsActing, ActsBy}
use Rattle.abi_machine.specs.sound.Agreeing.{Tells, FirstHasResolved}
use Rattle.abi_machine.specs.sound.Cancels.{StandsIn, CancelStands, IsOver}
use Rattle.abi_machine.specs.sound.Called.{CalledBy}
use Rattle.abi_machine.specs.sound.Changes.{IsGuest, IsBlocked}
use Rattle.abi_machine.specs.sound.CopyWaits.{AwaitsCopy}
use Rattle.abi_machine.specs.sound.Loops.{HasSetAt, GoesOnBy}
use Rattle.abi_machine.specs.sound.Numbers.{NamesWhatIsThere}
use Rattle.abi_machine.specs.sound.Subtasks.{CallIs}
use Rattle.abi_machine.proofs.sound.Found.{some_same}
use Rattle.abi_machine.proofs.sound.Copied.{end_there}
use Rattle.abi_machine.proofs.sound.Outlines.{outline_back, outline_there}
use Rattle.standing.specs.Agreeing.{acting_words, control_of}
use Rattle.standing.specs.EndReplies.{HasOpenCopy}
use Rattle.standing.specs.Instances.{members_of}
use Rattle.standing.specs.KeptMarks.{runs_at, is_task_at, waiters_at}
use Rattle.standing.specs.Channels.{HasMarkedEnds}
use Rattle.standing.specs.Marks.{CallerMarked}
use Rattle.standing.specs.Moves.{Acts, KeepsGate, IsWaitedOn, LoopsAt, GivesBack, StandsAt}
use Rattle.standing.specs.Stands.{Stands}
use Rattle.standing.specs.Tasks.{CallerStands, TaskStands}
use Rattle.standing.proofs.KeptMarks.{gates_are_kept, runs_alike}
use Rattle.run_laws.specs.Steps.{IsCalled, WaitWell, BlockedWell, BackWell}
use Rattle.run_laws.specs.Supplied.{RestsReached, InstancesThere, IsCalledOut, SubtasksAreCalledOut, CancelsOthers, PlacesAreKept, InstantiatesSupplied, ArrivesSupplied, GoesSupplied, ResumesSupplied, BackSupplied, LeavesSupplied}
use Rattle.run_laws.specs.keeping.Kept.{CalledFrom}
use Rattle.run_laws.proofs.Reached.{some_func}
use Rattle.run_laws.proofs.keeping.Sums.{sum_part}
use Rattle.run_laws.proofs.supplied.Found.{task_of, slot_of, inst_of, view_of_inst, entry_back, subtask_kept, set_kept, end_kept, called_shown, called_back}
use Rattle.run_laws.proofs.supplied.Known.{Known, known}
use Rattle.run_laws.proofs.supplied.Kept.{guest_at, loops_at, told_have_given_back}
use Rattle.run_laws.proofs.supplied.Calls.{is_called, call_kept, guest_is}

-- The acting task.
pub record ActingTask (w : World) (P : Outline → Type 0) : Type 0 where
  pub number : ℕ
  pub task : Task
  pub first : slice_get w.chain 0 ≡ Some number
  pub there : slice_get w.tasks number ≡ Some task
  pub is : P (outline_of task)

pub acting_task : (P : Outline → Type 0) (w : World) → OneActs P (outlines_of w.tasks) w.chain → ActingTask w P
acting_task P w a =
    let x = outline_back w.tasks a.0 a.1.1.0 a.1.1.1 in
    record { number = a.0; task = x.0; first = a.1.0; there = x.1; is = subst P (sym x.2) a.1.1.2 }

pub rests : (p : Program) (values : List ValType) (s : Script) (h : Held) (stacks : List (List Stack)) (w : World) (r : Rest) → RestsReached p values s h stacks w → h.rest ≡ r
    → w.control ≡ control_of (acting_words h) r
rests p values s h stacks w r at is = at.control ∙ ap (control_of (acting_words h)) is

pub acts_by : (g : Graph) (s : Script) (w : World) (c : Control) → Known g s w → w.control ≡ c → ActsBy c (outlines_of w.tasks) w.chain
acts_by g s w c k is = subst (λ (x : Control). ActsBy x (outlines_of w.tasks) w.chain) is k.standing.ordered.2

pub stands_by : (g : Graph) (s : Script) (w : World) (t : ℕ) (task : Task) → Known g s w → slice_get w.tasks t ≡ Some task → StandsBy task.state (outline_of task)
stands_by g s w t task k there = k.standing.ordered.1 t (outline_of task) (outline_there w.tasks t task there)

pub acts_so : (w : World) (t : ℕ) (task : Task) → InstancesThere w → slice_get w.chain 0 ≡ Some t → slice_get w.tasks t ≡ Some task → IsSome (func_of task.callee)
    → (f : Lifted) × Acts w t task f
acts_so w t task there first at runs =
    let f = some_func (func_of task.callee) runs in
    (f.0, record { first = first; there = at; runs = f.1; inside = there t task f.0 at f.1 })

gate_kept : (p : Program) (values : List ValType) (s : Script) (h : Held) (stacks : List (List Stack)) (w : World) (at : ℕ) → RestsReached p values s h stacks w → KeepsGate h w at
gate_kept p values s h stacks w at r = gates_are_kept p.graph.now values s h stacks w at r.there.stands r.marks

-- Task 0 instantiates.
pub instantiates_supplied : InstantiatesSupplied
instantiates_supplied p values s h stacks w number r is =
    let k : Known p.graph.now s w = known p.graph.now values s h stacks w r.there in
    let control : w.control ≡ Instantiates number = rests p values s h stacks w (rest.Instantiates number) r is in
    let a : ActingTask w IsStarting = acting_task IsStarting w (acts_by p.graph.now s w (Instantiates number) k control) in
    let chain : w.chain ≡ 0 ∷ [] = subst (λ (c : Control). Tells c w.tasks w.chain w.streams w.futures w.insts) control k.standing.alone.2 in
    let zero_is : a.number ≡ 0 = some_same (sym a.first ∙ ap (λ (c : List ℕ). slice_get c 0) chain) in
    let there : slice_get w.tasks 0 ≡ Some a.task = ap (λ (n : ℕ). slice_get w.tasks n) (sym zero_is) ∙ a.there in
    record {
      number = a.number;
      task = a.task;
      first = a.first;
      there = a.there;
      well = (zero_is, record { first = ap (λ (c : List ℕ). slice_get c 0) chain; there = there; alone = (k.standing.numbered.called 0 a.task there).1; acts = a.is.0 });
    }

-- A task is new, or goes on.
pub arrives_supplied : ArrivesSupplied
arrives_supplied p values s h stacks w r insts is =
    let k : Known p.graph.now s w = known p.graph.now values s h stacks w r.there in
    let a : ActingTask w IsNew = acting_task IsNew w (acts_by p.graph.now s w Arrives k (rests p values s h stacks w rest.Arrives r is)) in
    let so : StandsBy New (outline_of a.task) = subst (λ (x : TaskState). StandsBy x (outline_of a.task)) a.is (stands_by p.graph.now s w a.number a.task k a.there) in
    let f = acts_so w a.number a.task insts a.first a.there so.0 in
    record { number = a.number; task = a.task; first = a.first; there = a.there; well = record { func = f.0; acts = f.1; well = (a.is, gate_kept p values s h stacks w f.0.instance r) } }

pub goes_supplied : GoesSupplied
goes_supplied p values s h stacks w r is =
    let k : Known p.graph.now s w = known p.graph.now values s h stacks w r.there in
    let a : ActingTask w WasBlocked = acting_task WasBlocked w (acts_by p.graph.now s w Goes k (rests p values s h stacks w rest.Goes r is)) in
    record { number = a.number; task = a.task; first = a.first; there = a.there; well = tt }

-- It exits.
pub leaves_supplied : LeavesSupplied
leaves_supplied p values s h stacks w r insts is =
    let k : Known p.graph.now s w = known p.graph.now values s h stacks w r.there in
    let control : w.control ≡ Leaves = rests p values s h stacks w rest.Leaves r is in
    let a : ActingTask w (IsActing false) = acting_task (IsActing false) w (acts_by p.graph.now s w Leaves k control) in
    let tells : Tells Leaves w.tasks w.chain w.streams w.futures w.insts = subst (λ (c : Control). Tells c w.tasks w.chain w.streams w.futures w.insts) control k.standing.alone.2 in
    let resolved : FirstHasResolved w.tasks w.chain = tells.1 in
    let same : resolved.0 ≡ a.number = some_same (sym resolved.1 ∙ a.first) in
    let one : resolved.2.0 ≡ a.task = some_same (sym resolved.2.1 ∙ ap (λ (n : ℕ). slice_get w.tasks n) same ∙ a.there) in
    let f = acts_so w a.number a.task insts a.first a.there a.is.0 in
    record {
      number = a.number;
      task = a.task;
      first = a.first;
      there = a.there;
      well = record { func = f.0; acts = f.1; well = (a.is.1, subst (λ (x : Task). IsSome x.resolution) one resolved.2.2) };
    }

-- A set that stands in the table, and on which a task of the instance waits, is kept to be waited on.
both_pass : (a b : Bool) → a ≡ true → b ≡ true → (a && b) ≡ true
both_pass true b e f = f
both_pass false b e f = absurd (cc)

set_long : (sets : List SetView) (set n : ℕ) → set < length sets → (set_at sets set).waiters ≡ n → 0 < n → (is_there set sets && has_waiter set sets) ≡ true
set_long sets set n less is some = both_pass (is_there set sets) (has_waiter set sets) (lt-ltb set (length sets) less) (ap (nat_lt 0) is ∙ lt-ltb 0 n some)

pub members_long : (sets : List SetView) → length (members_of sets) ≡ length sets
members_long [] = refl
members_long (x ∷ sets) = ap suc (members_long sets)

counted : {A : Type 0} (p : A → Bool) (xs : List A) (t : ℕ) (x : A) → slice_get xs t ≡ Some x → p x ≡ true → 0 < count_by p xs
counted p xs t x e passed = by (count_by p xs) refl
  where
    by : (n : ℕ) → count_by p xs ≡ n → 0 < count_by p xs
    by zero is =
        let none : ◌≡◌ {A = ℕ} (if p x then 1 else 0) 0 = sum_part (λ y. if p y then 1 else 0) xs t x e is in
        let one : ◌≡◌ {A = ℕ} (if p x then 1 else 0) 1 = ap (λ (b : Bool). if b then 1 else 0) passed in
        absurd (omega (arith, none, one))
    by (suc n) is = omega (arith, is)

runs_own : (g : Graph) (s : Script) (k : TaskSlot) (a : Task) (f : Lifted) → TaskStands g s k a → func_of a.callee ≡ Some f → runs_at f.instance k ≡ true
runs_own g s k a f st runs = runs_alike g s f.instance k a st ∙ ap (is_in f.instance) runs ∙ eq-eqb f.instance f.instance refl

waited_on : (p : Program) (values : List ValType) (s : Script) (h : Held) (stacks : List (List Stack)) (w : World) (t index : ℕ) (task : Task) (f : Lifted) → RestsReached p values s h stacks w
    → slice_get w.tasks t ≡ Some task → func_of task.callee ≡ Some f → HasSetAt (table_of w f.instance) index → ((flag : ℕ → Bool) → waits_on index (phase_of flag task.state) ≡ true)
    → IsWaitedOn h f.instance index
waited_on p values s h stacks w t index task f r there runs has waits i here =
    let g : Graph = p.graph.now in
    let st : Stands g values s h stacks w = r.there.stands in
    let k : Known g s w = known g values s h stacks w r.there in
    let e = entry_back g values s h stacks w st f.instance index i (OfSet has.0) here has.1 in
    let stood : entry_of i index ≡ Some (entry.Set has.0) = e.1 ∙ ap (λ (y : WorldEntry). Some y) (set_kept values e.0 has.0 e.2) in
    let a = inst_of g values s h stacks w st f.instance i here in
    let in_table : live a.0.table index ≡ Some (OfSet has.0) = ap (λ (o : Option Inst). live (table_in o) index) (sym a.1) ∙ has.1 in
    let made : has.0 < length a.0.sets = all_at (NamesWhatIsThere w.tasks) w.insts f.instance a.0 k.standing.numbered.entries a.1 index (OfSet has.0) in_table in
    let long : length i.sets ≡ length a.0.sets = sym (members_long i.sets) ∙ ap (λ (l : List (List ℕ)). length l) a.2.sets in
    let x = slot_of g values s h stacks w st t task there in
    let one : (runs_at f.instance x.0 && waits_on index x.0.task.phase) ≡ true =
    both_pass (runs_at f.instance x.0) (waits_on index x.0.task.phase) (runs_own g s x.0 task f x.2 runs) (ap (waits_on index) x.2.far ∙ waits (flag_at g)) in
    let some : 0 < waiters_at h.tasks f.instance index = counted (λ (slot : TaskSlot). runs_at f.instance slot && waits_on index slot.task.phase) h.tasks t x.0 x.1 one in
    (has.0, stood, set_long i.sets has.0 (waiters_at h.tasks f.instance index) (omega (arith, made, long)) (r.marks.waiters f.instance index has.0 i here stood) some)

-- A subtask that stands in the table is a call of the instance's own tasks, and another task than one that runs there.
pub task_here : (g : Graph) (values : List ValType) (s : Script) (h : Held) (stacks : List (List Stack)) (w : World) (at n m : ℕ) → Stands g values s h stacks w → n ≡ m
    → (o : Option Task) → slice_get w.tasks m ≡ o → passes (runs_in at) o ≡ true → is_task_at h.tasks at n ≡ true
task_here g values s h stacks w at n m st same None e runs = absurd (cc)
task_here g values s h stacks w at n m st same (Some b) e runs =
    let x = slot_of g values s h stacks w st m b e in
    ap (λ (l : ℕ). passes (runs_at at) (slice_get h.tasks l)) same ∙ ap (passes (runs_at at)) x.1 ∙ runs_alike g s at x.0 b x.2 ∙ runs

pub from_here : (g : Graph) (values : List ValType) (s : Script) (h : Held) (stacks : List (List Stack)) (w : World) (at callee : ℕ) → Stands g values s h stacks w → IsCalledOut w at callee → CalledFrom h at callee
from_here g values s h stacks w at callee st out slot called there is =
    let a = task_of g values s h stacks w st callee slot there in
    let c = called_shown s slot.caller a.0.caller called a.2.called is in
    let runs : passes (runs_in at) (task_at w c.0.by) ≡ true = out.from a.0 c.0 a.1 c.1 in
    task_here g values s h stacks w at called.by c.0.by st c.2.caller (slice_get w.tasks c.0.by) refl runs

pub other_task : (w : World) (at t callee : ℕ) (task : Task) (f : Lifted) → IsCalledOut w at callee → slice_get w.tasks t ≡ Some task → func_of task.callee ≡ Some f → f.instance ≡ at → callee ≡ t → ⊥
other_task w at t callee task f out there runs same is =
    let no : runs_in at task ≡ false = out.leaves task (ap (λ (n : ℕ). slice_get w.tasks n) is ∙ there) in
    let yes : runs_in at task ≡ true = ap (is_in at) runs ∙ eq-eqb f.instance at same in
    let none : true ≡ false = sym yes ∙ no in
    let wrong : ⊥ = cc in wrong

subtask_called : (p : Program) (values : List ValType) (s : Script) (h : Held) (stacks : List (List Stack)) (w : World) (t index callee : ℕ) (task : Task) (f : Lifted) → RestsReached p values s h stacks w
    → SubtasksAreCalledOut w → slice_get w.tasks t ≡ Some task → func_of task.callee ≡ Some f → StandsIn w.insts (Some f) index callee
    → StandsAt h f.instance index (entry.Subtask callee) × IsCalled h t f callee
subtask_called p values s h stacks w t index callee task f r out there runs stands =
    let g : Graph = p.graph.now in
    let st : Stands g values s h stacks w = r.there.stands in
    let k : Known g s w = known g values s h stacks w r.there in
    let o : IsCalledOut w f.instance callee = out f.instance index callee stands in
    let guest : IsGuest w.tasks callee = guest_at w f.instance (slice_get w.insts f.instance) refl k.standing.numbered.entries index callee stands in
    let subtask = some_of (subtask_of guest.0.caller) guest.2 in
    let x = slot_of g values s h stacks w st callee guest.0 guest.1 in
    let c = called_back s x.0.caller subtask.0 (subst (CallerStands s x.0.caller) (guest_is guest.0.caller subtask.0 subtask.1) x.2.called) in (
      λ i here. (
          let e = entry_back g values s h stacks w st f.instance index i (OfSubtask callee) here stands in
          e.1 ∙ ap (λ (y : WorldEntry). Some y) (subtask_kept values e.0 callee e.2)
          ),
      record {
        apart = other_task w f.instance t callee task f o there runs refl;
        slot = x.0;
        called = c.0;
        is_kept = call_kept g values s h stacks w f.instance callee x.0 c.0 r.there r.marks x.1 c.1 (from_here g values s h stacks w f.instance callee st o);
      },
    )
  where
    some_of : {A : Type 0} (o : Option A) → IsSome o → (x : A) × (o ≡ Some x)
    some_of None h = absurd (cc)
    some_of (Some x) h = (x, refl)

-- The copy for which a task waits.
copy_open : (g : Graph) (w : World) (t number index i : ℕ) → AwaitsCopy g w.insts w.streams w.futures t number index i → HasOpenCopy w i index
copy_open g w t number index i a e stands =
    let same : OfEnd a.end ≡ OfEnd e = some_same (sym a.stands ∙ stands) in
    let end : a.end ≡ e = end_same a.end e same in
    let there : (end_of w a.end).copy ≡ Some a.copy = ap (λ (x : End). x.copy) (end_there w a.end a.under.0 a.under.1) ∙ a.under.2 in
    ap (λ (x : EndRef). is_some (end_of w x).copy) (sym end) ∙ ap (λ (o : Option OpenCopy). is_some o) there
  where
    end_same : (x y : EndRef) → OfEnd x ≡ OfEnd y → x ≡ y
    end_same x y e = cc

copy_well : (g : Graph) (values : List ValType) (s : Script) (h : Held) (stacks : List (List Stack)) (w : World) (t number index : ℕ) (f : Lifted) → Stands g values s h stacks w
    → AwaitsCopy g w.insts w.streams w.futures t number index f.instance → HasMarkedEnds h → (o : Option Inst) → slice_get w.insts f.instance ≡ o
    → (e : EndEntry) × StandsAt h f.instance index (entry.End e) × HasOpenCopy w f.instance index × HasMarkedEnds h
copy_well g values s h stacks w t number index f st a ends None is =
    let none : live (table_in None) index ≡ Some (OfEnd a.end) = subst (λ (o : Option Inst). live (table_in o) index ≡ Some (OfEnd a.end)) is a.stands in absurd (cc)
copy_well g values s h stacks w t number index f st a ends (Some inst) is =
    let i = view_of_inst g values s h stacks w st f.instance inst is in
    let e = entry_back g values s h stacks w st f.instance index i.0 (OfEnd a.end) i.1 a.stands in
    let x = end_kept values e.0 a.end e.2 in (
      x.0,
      (λ j here. ap (λ (y : InstanceView). entry_of y index) (some_same (sym here ∙ i.1)) ∙ e.1 ∙ ap (λ (y : WorldEntry). Some y) x.1),
      copy_open g w t number index f.instance a,
      ends,
    )

-- A blocked task goes on.
loops_so : (p : Program) (values : List ValType) (s : Script) (h : Held) (stacks : List (List Stack)) (w : World) (t word : ℕ) (task : Task) (f : Lifted) (said : Result Next BadCode)
    → RestsReached p values s h stacks w → slice_get w.tasks t ≡ Some task → func_of task.callee ≡ Some f → task.state ≡ InLoop word → callback_of word ≡ said
    → GoesOnBy (table_of w f.instance) said → (on : Next) × (said ≡ Ok on) × LoopsAt h f.instance on
loops_so p values s h stacks w t word task f (Ok next.Exit) r there runs is says goes = absurd goes
loops_so p values s h stacks w t word task f (Ok next.Yield) r there runs is says goes = (next.Yield, refl, tt)
loops_so p values s h stacks w t word task f (Ok (next.Wait index)) r there runs is says goes = (
  next.Wait index,
  refl,
  waited_on p values s h stacks w t index task f r there runs goes (λ flag. ap (λ (x : TaskState). waits_on index (phase_of flag x)) is ∙ ap (next_waits_on index) says ∙ eq-eqb index index refl),
)
loops_so p values s h stacks w t word task f (Ok (next.Poll index)) r there runs is says goes = (
  next.Poll index,
  refl,
  waited_on p values s h stacks w t index task f r there runs goes (λ flag. ap (λ (x : TaskState). waits_on index (phase_of flag x)) is ∙ ap (next_waits_on index) says ∙ eq-eqb index index refl),
)
loops_so p values s h stacks w t word task f (Err why) r there runs is says goes = absurd goes

waits_so : (p : Program) (values : List ValType) (s : Script) (h : Held) (stacks : List (List Stack)) (w : World) (t number : ℕ) (words : List ℕ) (wait : Wait) (task : Task) (f : Lifted)
    → RestsReached p values s h stacks w → SubtasksAreCalledOut w → PlacesAreKept h w → slice_get w.tasks t ≡ Some task → func_of task.callee ≡ Some f → task.state ≡ InBuiltin number words wait
    → WaitWell h w t f words wait
waits_so p values s h stacks w t number words ForYield task f r out kept there runs is = gate_kept p values s h stacks w f.instance r
waits_so p values s h stacks w t number words (ForSet index) task f r out kept there runs is = (
  gate_kept p values s h stacks w f.instance r,
  kept t number index words task there is,
  (
      let k : Known p.graph.now s w = known p.graph.now values s h stacks w r.there in
      waited_on p values s h stacks w t index task f r there runs (k.standing.sets t index task f there runs (number, words, is))
      (λ flag. ap (λ (x : TaskState). waits_on index (phase_of flag x)) is ∙ eq-eqb index index refl)
      ),
)
waits_so p values s h stacks w t number words (ForCall callee) task f r out kept there runs is =
    is_called p.graph.now values s h stacks w t callee number task f r.there r.marks there runs (subst (λ (x : TaskState). CalledBy x callee number) (sym is) (refl, refl))
waits_so p values s h stacks w t number words (ForCopy index) task f r out kept there runs is =
    let g : Graph = p.graph.now in
    let st : Stands g values s h stacks w = r.there.stands in
    let k : Known g s w = known g values s h stacks w r.there in
    let a : AwaitsCopy g w.insts w.streams w.futures t number index f.instance = k.awaited t number index task f there runs (words, is) in
    copy_well g values s h stacks w t number index f st a r.ends (slice_get w.insts f.instance) refl
waits_so p values s h stacks w t number words (ForCancel index) task f r out kept there runs is =
    let k : Known p.graph.now s w = known p.graph.now values s h stacks w r.there in
    let stands : CancelStands w.tasks w.insts (func_of task.callee) (InBuiltin number words (ForCancel index)) =
    subst (λ (x : TaskState). CancelStands w.tasks w.insts (func_of task.callee) x) is (k.standing.cancels.stands t task there) in
    let here : StandsIn w.insts (Some f) index stands.0 = subst (λ (o : Option Lifted). StandsIn w.insts o index stands.0) runs stands.1 in
    let both = subtask_called p values s h stacks w t index stands.0 task f r out there runs here in
    (stands.0, both.0, both.1)

blocked_so : (p : Program) (values : List ValType) (s : Script) (h : Held) (stacks : List (List Stack)) (w : World) (t : ℕ) (task : Task) (f : Lifted) → RestsReached p values s h stacks w
    → SubtasksAreCalledOut w → PlacesAreKept h w → slice_get w.tasks t ≡ Some task → func_of task.callee ≡ Some f → (state : TaskState) → task.state ≡ state → IsBlocked state
    → BlockedWell h w t f state
blocked_so p values s h stacks w t task f r out kept there runs New is blocked = absurd blocked
blocked_so p values s h stacks w t task f r out kept there runs Acting is blocked = absurd blocked
blocked_so p values s h stacks w t task f r out kept there runs (AfterCall callee number words) is blocked = absurd blocked
blocked_so p values s h stacks w t task f r out kept there runs (AfterCancel callee number words) is blocked = absurd blocked
blocked_so p values s h stacks w t task f r out kept there runs (Begins n) is blocked = absurd blocked
blocked_so p values s h stacks w t task f r out kept there runs WaitsToEnter is blocked = tt
blocked_so p values s h stacks w t task f r out kept there runs (InLoop word) is blocked =
    let k : Known p.graph.now s w = known p.graph.now values s h stacks w r.there in
    loops_so p values s h stacks w t word task f (callback_of word) r there runs is refl (loops_at p.graph.now s w t task f word k there runs is)
blocked_so p values s h stacks w t task f r out kept there runs (InBuiltin number words wait) is blocked =
    waits_so p values s h stacks w t number words wait task f r out kept there runs is
blocked_so p values s h stacks w t task f r out kept there runs Exited is blocked = absurd blocked

pub blocked_runs : (state : TaskState) (o : Outline) → IsBlocked state → StandsBy state o → IsSome (func_of o.callee)
blocked_runs New o blocked so = absurd blocked
blocked_runs Acting o blocked so = absurd blocked
blocked_runs (AfterCall callee number words) o blocked so = absurd blocked
blocked_runs (AfterCancel callee number words) o blocked so = absurd blocked
blocked_runs (Begins n) o blocked so = absurd blocked
blocked_runs WaitsToEnter o blocked so = so.0
blocked_runs (InLoop word) o blocked so = so.0
blocked_runs (InBuiltin number words wait) o blocked so = so.0
blocked_runs Exited o blocked so = absurd blocked

pub resumes_supplied : ResumesSupplied
resumes_supplied p values s h stacks w r insts out kept is =
    let k : Known p.graph.now s w = known p.graph.now values s h stacks w r.there in
    let a : ActingTask w WasBlocked = acting_task WasBlocked w (acts_by p.graph.now s w Resumes k (rests p values s h stacks w rest.Resumes r is)) in
    let f = acts_so w a.number a.task insts a.first a.there (blocked_runs a.task.state (outline_of a.task) a.is (stands_by p.graph.now s w a.number a.task k a.there)) in
    record {
      number = a.number;
      task = a.task;
      first = a.first;
      there = a.there;
      well = record { func = f.0; acts = f.1; well = blocked_so p values s h stacks w a.number a.task f.0 r out kept a.there f.1.runs a.task.state refl a.is };
    }

-- Control is back at a task that called or cancelled another one.
over_called : (p : Program) (values : List ValType) (s : Script) (h : Held) (stacks : List (List Stack)) (w : World) (t callee : ℕ) (f : Lifted) → RestsReached p values s h stacks w → callee ≢ t
    → CallIs w.tasks callee IsOver → IsCalled h t f callee
over_called p values s h stacks w t callee f r apart over =
    let g : Graph = p.graph.now in
    let st : Stands g values s h stacks w = r.there.stands in
    let x = slot_of g values s h stacks w st callee over.0 over.1 in
    let c = called_back s x.0.caller over.2.0 (subst (CallerStands s x.0.caller) (guest_is over.0.caller over.2.0 over.2.1) x.2.called) in
    let is : called_of x.0.caller ≡ Some c.0 = ap called_of c.1 in
    let none : c.0.subtask.lends ≡ [] = told_have_given_back g values s h stacks w r.there callee x.0 c.0 x.1 is (ap is_over c.2.was_told ∙ over.2.2) in
    record {
      apart = apart;
      slot = x.0;
      called = c.0;
      is_kept = record {
        there = x.1;
        guest = c.1;
        marked = (subst (CallerMarked callee (state_of x.0.task)) c.1 (r.marks.states callee x.0 x.1)).seen;
        lent = λ i here. subst (λ (l : List ℕ). GivesBack l i) (sym none) tt;
        over = λ told. none;
      };
    }

back_so : (p : Program) (values : List ValType) (s : Script) (h : Held) (stacks : List (List Stack)) (w : World) (t : ℕ) (task : Task) (f : Lifted) → RestsReached p values s h stacks w
    → SubtasksAreCalledOut w → CancelsOthers w → slice_get w.tasks t ≡ Some task → func_of task.callee ≡ Some f → (state : TaskState) → task.state ≡ state → IsWaitingFor state
    → BackWell h t f state
back_so p values s h stacks w t task f r out others there runs New is waits = absurd waits
back_so p values s h stacks w t task f r out others there runs Acting is waits = absurd waits
back_so p values s h stacks w t task f r out others there runs (AfterCall callee number words) is waits =
    is_called p.graph.now values s h stacks w t callee number task f r.there r.marks there runs (subst (λ (x : TaskState). CalledBy x callee number) (sym is) (refl, refl))
back_so p values s h stacks w t task f r out others there runs (AfterCancel callee number words) is waits =
    let k : Known p.graph.now s w = known p.graph.now values s h stacks w r.there in
    let stands : CancelStands w.tasks w.insts (Some f) (AfterCancel callee number words) =
    subst (λ (o : Option Lifted). CancelStands w.tasks w.insts o (AfterCancel callee number words)) runs
    (subst (λ (x : TaskState). CancelStands w.tasks w.insts (func_of task.callee) x) is (k.standing.cancels.stands t task there)) in
    elim stands [
      | inl over ↦ over_called p values s h stacks w t callee f r (others t callee number words task there is) over
      | inr here ↦ (subtask_called p values s h stacks w t (first_of words) callee task f r out there runs here).1
    ]
back_so p values s h stacks w t task f r out others there runs (Begins n) is waits = absurd waits
back_so p values s h stacks w t task f r out others there runs WaitsToEnter is waits = absurd waits
back_so p values s h stacks w t task f r out others there runs (InLoop word) is waits = absurd waits
back_so p values s h stacks w t task f r out others there runs (InBuiltin number words wait) is waits = absurd waits
back_so p values s h stacks w t task f r out others there runs Exited is waits = absurd waits

pub waiting_runs : (state : TaskState) (o : Outline) → IsWaitingFor state → StandsBy state o → IsSome (func_of o.callee)
waiting_runs New o waits so = absurd waits
waiting_runs Acting o waits so = absurd waits
waiting_runs (AfterCall callee number words) o waits so = so.0
waiting_runs (AfterCancel callee number words) o waits so = so.0
waiting_runs (Begins n) o waits so = absurd waits
waiting_runs WaitsToEnter o waits so = absurd waits
waiting_runs (InLoop word) o waits so = absurd waits
waiting_runs (InBuiltin number words wait) o waits so = absurd waits
waiting_runs Exited o waits so = absurd waits

pub back_supplied : BackSupplied
back_supplied p values s h stacks w r insts out others is =
    let k : Known p.graph.now s w = known p.graph.now values s h stacks w r.there in
    let a : ActingTask w IsCalling = acting_task IsCalling w (acts_by p.graph.now s w Back k (rests p values s h stacks w rest.Back r is)) in
    let f = acts_so w a.number a.task insts a.first a.there (waiting_runs a.task.state (outline_of a.task) a.is (stands_by p.graph.now s w a.number a.task k a.there)) in
    record {
      number = a.number;
      task = a.task;
      first = a.first;
      there = a.there;
      well = record { func = f.0; acts = f.1; well = back_so p values s h stacks w a.number a.task f.0 r out others a.there f.1.runs a.task.state refl a.is };
    }

-- Marks supply what a call asks of what is kept beside the world.
use Rattle.std.proofs.Common.{◌≡◌, ◌≤◌, ℕ, zero, suc, ◌+◌, Bool, true, false, ◌&&◌, nat_eq, nat_lt, if◌then◌else◌, is_some, List, [], ◌∷◌, slice_index_or, refl, sym, ap, ◌∙◌, subst, arith, Option, Some, None}
use Rattle.std.specs.Prelude.{IsSome}
use Rattle.std.specs.List.{slice_get, count_by, sum_by}
use Rattle.std.proofs.lemmas.Bool.{lt-ltb}
use Rattle.std.proofs.lemmas.Bool.Decides.{Decides-eqb}
use Rattle.std.proofs.lemmas.List.Sums.{sum_by-cons}
use Rattle.syntax_trees.specs.declared.types.ValType.{ValType}
use Rattle.wasm_store.specs.Stack.{Stack}
use Rattle.handle_table.specs.Alike.{SlotAlike}
use Rattle.handle_table.specs.Slots.{slot_at}
use Rattle.res_handles.specs.declared.handle.Handle.{Handle}
use Rattle.res_handles.specs.declared.handle.Ownership.{Ownership}
use Rattle.res_handles.specs.declared.handle.Ownership.TheVariants.{Own, Borrow}
use Rattle.comp_graph.specs.declared.graph.CanonFunc.{CanonFunc}
use Rattle.comp_graph.specs.declared.graph.CanonFunc.TheVariants as canon
use Rattle.comp_graph.specs.Graph.{Graph, Lifted}
use Rattle.script_reader.specs.Script.{Script}
use Rattle.instances.specs.declared.entry.WorldEntry.{WorldEntry}
use Rattle.instances.specs.declared.entry.WorldEntry.TheVariants as entry
use Rattle.instances.specs.Instances.{InstanceView, entry_of}
use Rattle.task_table.specs.declared.slot.TaskSlot.{TaskSlot}
use Rattle.world_parts.specs.Held.{Held}
use Rattle.abi_machine.specs.World.{Entry, OfSubtask, Inst, Task, World}
use Rattle.abi_machine.specs.Canons.{inst_of_canon}
use Rattle.abi_machine.specs.Reading.{table_in, entry_at, func_of, is_in, runs_in}
use Rattle.handle_table.specs.History.{live}
use Rattle.abi_machine.proofs.sound.Found.{some_same}
use Rattle.standing.specs.HandleDrops.{IsCounted, CountsOne}
use Rattle.standing.specs.Instances.{EntryStands, InstStands}
use Rattle.standing.specs.KeptMarks.{runs_func, runs_at, is_borrow_of, borrows_in, HasMarks}
use Rattle.standing.specs.MarksKept.{CallsIn}
use Rattle.standing.specs.Stands.{Stands}
use Rattle.standing.specs.Tasks.{TaskStands}
use Rattle.standing.proofs.KeptMarks.{runs_alike, gates_are_kept, waiters_are_counted, lends_are_counted, borrows_are_counted, who_waits_is_kept}
use Rattle.standing.proofs.Lists.{IsFound, found_left}
use Rattle.standing.proofs.Tables.{entries_are_alike}
use Rattle.run_laws.specs.Answering.{CallsOwn, IsOther, IsSoundAt, IsBeside}
use Rattle.run_laws.specs.KeptMarks.{CalledIn, SetsApart, CallsAreIn, IsBesideMarks, MarksSupply}

-- What stands in a list counts in its sum.
pub at_most : {A : Type 0} (f : A → ℕ) (xs : List A) (n : ℕ) (x : A) → slice_get xs n ≡ Some x → f x ≤ sum_by f xs
at_most f [] n x e = absurd (cc)
at_most f (y ∷ xs) zero x e =
    let a : sum_by f (y ∷ xs) ≡ f y + sum_by f xs = sum_by-cons f y xs in
    let b : f y ≡ f x = ap f (some_same e) in
    omega (arith, a, b)
at_most f (y ∷ xs) (suc n) x e =
    let a : sum_by f (y ∷ xs) ≡ f y + sum_by f xs = sum_by-cons f y xs in
    let b : f x ≤ sum_by f xs = at_most f xs n x e in
    omega (arith, a, b)

one_counts : {A : Type 0} (p : Option A → Bool) (xs : List (Option A)) (k : ℕ) (x : A) → slice_index_or xs k None ≡ Some x → p (Some x) ≡ true → 1 ≤ count_by p xs
one_counts p [] k x e held = absurd (cc)
one_counts p (o ∷ xs) zero x e held =
    let a : count_by p (o ∷ xs) ≡ (if p o then 1 else 0) + count_by p xs = sum_by-cons (λ z. if p z then 1 else 0) o xs in
    let b : ◌≡◌ {A = ℕ} (if p o then 1 else 0) 1 = ap (λ z. (let k : ℕ = if p z then 1 else 0 in k)) e ∙ ap (λ (c : Bool). (let k : ℕ = if c then 1 else 0 in k)) held in
    omega (arith, a, b)
one_counts p (o ∷ xs) (suc k) x e held =
    let a : count_by p (o ∷ xs) ≡ (if p o then 1 else 0) + count_by p xs = sum_by-cons (λ z. if p z then 1 else 0) o xs in
    let b : 1 ≤ count_by p xs = one_counts p xs k x e held in
    omega (arith, a, b)

slot_counts : {A : Type 0} (p : Option A → Bool) (xs : List (Option A)) (index : ℕ) (x : A) → slot_at xs index ≡ Some x → p (Some x) ≡ true → 1 ≤ count_by p xs
slot_counts p xs zero x e held = absurd (cc)
slot_counts p xs (suc k) x e held = one_counts p xs k x e held

-- A borrow handle is counted for its task.
is_borrow : (x : Handle) (task : ℕ) → x.ownership ≡ Borrow task → is_borrow_of task (Some (entry.Handle x)) ≡ true
is_borrow x task e = ap (λ (o : Ownership). is_borrow_of task (Some (entry.Handle (record x { ownership = o })))) e ∙ (Decides-eqb task task).1 refl

borrow_counts : (instances : List InstanceView) (at index task : ℕ) (i : InstanceView) (x : Handle) → slice_get instances at ≡ Some i → entry_of i index ≡ Some (entry.Handle x)
    → x.ownership ≡ Borrow task → 1 ≤ borrows_in instances task
borrow_counts instances at index task i x is there owned =
    let one : 1 ≤ count_by (is_borrow_of task) i.slots.entries = slot_counts (is_borrow_of task) i.slots.entries index (entry.Handle x) there (is_borrow x task owned) in
    let all : count_by (is_borrow_of task) i.slots.entries ≤ borrows_in instances task
    = at_most (λ (j : InstanceView). count_by (is_borrow_of task) j.slots.entries) instances at i is in
    omega (arith, one, all)

counts_one : (h : Held) (task : ℕ) (o : Option TaskSlot) → slice_get h.tasks task ≡ o → IsSome o → HasMarks h → 1 ≤ borrows_in h.instances task → CountsOne h.tasks task
counts_one h task None is some marks most = absurd (cc)
counts_one h task (Some slot) is some marks most =
    let same : slot.task.borrows ≡ borrows_in h.instances task = marks.borrows task slot is in
    (slot, is, lt-ltb 0 slot.task.borrows (omega (arith, same, most)))

is_counted : (g : Graph) (h : Held) (at index : ℕ) (i : InstanceView) (x : Handle) (o : Ownership) → x.ownership ≡ o → slice_get h.instances at ≡ Some i
    → entry_of i index ≡ Some (entry.Handle x) → HasMarks h → ((task : ℕ) → o ≡ Borrow task → IsSome (slice_get h.tasks task)) → IsCounted h.tasks o
is_counted g h at index i x Own owned is there marks named = tt
is_counted g h at index i x (Borrow task) owned is there marks named =
    counts_one h task (slice_get h.tasks task) refl (named task refl) marks (borrow_counts h.instances at index task i x is there owned)

pub marks_supply : MarksSupply
marks_supply g values s h stacks w t at st marks b = record {
  gates = λ i. gates_are_kept g values s h stacks w i st marks;
  waiters = λ i is. waiters_are_counted g values s h stacks w at i st marks is;
  handles = λ index i x is there. record {
    lends = lends_are_counted g values s h stacks w at index i x st marks is there;
    counted = is_counted g h at index i x x.ownership refl is there marks (λ task owned. b.borrowers index task i x is there owned);
  };
  borrows = borrows_are_counted g values s h stacks w t st marks;
  states = marks.states;
  calls = b.calls;
  who = who_waits_is_kept g values s h stacks w at st marks;
  ends = b.ends;
  memories = b.memories;
}

-- The task runs a function of the instance that made the built-in, and subtasks run functions.
first_of : (a b : Bool) → (a && b) ≡ true → a ≡ true
first_of true b e = refl
first_of false b e = e

runs_own : (task : Task) (f : Lifted) (at : ℕ) → func_of task.callee ≡ Some f → at ≡ f.instance → runs_in at task ≡ true
runs_own task f at runs own = ap (is_in at) runs ∙ (Decides-eqb f.instance at).1 (sym own)

caller_is_in : (g : Graph) (values : List ValType) (s : Script) (h : Held) (stacks : List (List Stack)) (w : World) (t at : ℕ) (task : Task) (f : Lifted) (slot : TaskSlot)
    → Stands g values s h stacks w → slice_get h.tasks t ≡ Some slot → slice_get w.tasks t ≡ Some task → func_of task.callee ≡ Some f → at ≡ f.instance → runs_at at slot ≡ true
caller_is_in g values s h stacks w t at task f slot st is there runs own =
    let found : IsFound (TaskStands g s) (slice_get h.tasks t) (slice_get w.tasks t) = found_left (TaskStands g s) h.tasks w.tasks t slot st.are_tasks is in
    let left : found.left ≡ slot = some_same (sym found.is_left ∙ is) in
    let right : found.right ≡ task = some_same (sym found.is_right ∙ there) in
    ap (λ (x : TaskSlot). runs_at at x) (sym left) ∙ runs_alike g s at found.left found.right found.alike ∙ ap (λ (x : Task). runs_in at x) right ∙ runs_own task f at runs own

subtask_stands : (values : List ValType) (o : Option WorldEntry) (p : Option Entry) (callee : ℕ) → SlotAlike (EntryStands values) o p → o ≡ Some (entry.Subtask callee)
    → p ≡ Some (OfSubtask callee)
subtask_stands values None p callee h e = absurd (cc)
subtask_stands values (Some x) None callee h e = absurd h
subtask_stands values (Some x) (Some a) callee h e = ap Some (subst (λ (y : WorldEntry). EntryStands values y a) (some_same e) h)

subtask_runs : (g : Graph) (values : List ValType) (s : Script) (h : Held) (stacks : List (List Stack)) (w : World) (t at index callee : ℕ) (i : InstanceView) (slot : TaskSlot)
    → IsSoundAt g w t at → Stands g values s h stacks w → slice_get h.instances at ≡ Some i → entry_of i index ≡ Some (entry.Subtask callee) → slice_get h.tasks callee ≡ Some slot
    → runs_func slot.callee ≡ true
subtask_runs g values s h stacks w t at index callee i slot sound st is there found =
    let inst : IsFound (InstStands values) (slice_get h.instances at) (slice_get w.insts at) = found_left (InstStands values) h.instances w.insts at i st.are_instances is in
    let same : inst.left ≡ i = some_same (sym inst.is_left ∙ is) in
    let stood : live inst.right.table index ≡ Some (OfSubtask callee) =
    subtask_stands values (entry_of inst.left index) (live inst.right.table index) callee (entries_are_alike values inst.left inst.right index inst.alike)
    (ap (λ (x : InstanceView). entry_of x index) same ∙ there) in
    let other : IsOther w t callee = sound.subtasks index callee (ap (λ (o : Option Inst). live (table_in o) index) inst.is_right ∙ stood) in
    let both : IsFound (TaskStands g s) (slice_get h.tasks callee) (slice_get w.tasks callee) = found_left (TaskStands g s) h.tasks w.tasks callee slot st.are_tasks found in
    let runs : _ = other.runs both.right both.is_right in
    let at_own : runs_at runs.0.instance slot ≡ true = caller_is_in g values s h stacks w callee runs.0.instance both.right runs.0 slot st found both.is_right runs.1 refl in
    first_of (runs_func slot.callee) (nat_eq slot.instance runs.0.instance) at_own

pub calls_are_in : CallsAreIn
calls_are_in g values s h stacks w t task f (canon.Lower l) own sound apart st = tt
calls_are_in g values s h stacks w t task f (canon.Builtin b) own sound apart st = record {
  sets = λ i is. apart.once i is;
  next = λ i is. apart.next i is;
  subtasks = λ i index callee slot is there found. subtask_runs g values s h stacks w t b.instance index callee i slot sound st is there found;
  caller = λ slot is. caller_is_in g values s h stacks w t b.instance task f slot st is own.acts.there own.acts.runs own.own;
}

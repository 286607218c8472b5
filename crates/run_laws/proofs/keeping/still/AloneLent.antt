-- No handle is lent where none stands, of what stands for a world that a run reaches: a handle that is lent for a call stands in the table of the instance of the task that calls.
use Rattle.std.proofs.Common.{◌≡◌, ◌∙◌, ℕ, Bool, true, false, ◌&&◌, nat_eq, List, refl, sym, ap, subst, Option, Some, None}
use Rattle.std.specs.List.{slice_get, count_by}
use Rattle.std.proofs.lemmas.Bool.{ne_eqb}
use Rattle.syntax_trees.specs.declared.types.ValType.{ValType}
use Rattle.res_handles.specs.declared.handle.Handle.{Handle}
use Rattle.instances.specs.declared.entry.WorldEntry.{WorldEntry}
use Rattle.instances.specs.declared.entry.WorldEntry.TheVariants as entry
use Rattle.instances.specs.Instances.{entry_of}
use Rattle.task_table.specs.declared.caller.Called.{Called}
use Rattle.task_table.specs.declared.slot.TaskSlot.{TaskSlot}
use Rattle.task_table.specs.Callers.{called_of}
use Rattle.abi_machine.specs.Counting.{passes}
use Rattle.abi_machine.specs.World.{Entry}
use Rattle.abi_machine.specs.Reading.{table_of, runs_in}
use Rattle.abi_machine.specs.sound.Loans.{HoldsHandle}
use Rattle.abi_machine.specs.sound.Premises.{IsHandle}
use Rattle.standing.specs.Instances.{EntryStands, end_entry}
use Rattle.standing.specs.KeptMarks.{runs_at, is_task_at, lends_by}
use Rattle.standing.specs.Stands.{Stands}
use Rattle.standing.proofs.KeptMarks.{runs_alike}
use Rattle.run_laws.specs.keeping.Still.{HandlesAreAloneLent}
use Rattle.run_laws.proofs.keeping.Sums.{sum_none, count_none}
use Rattle.run_laws.proofs.supplied.Found.{task_of, entry_back, called_shown}
use Rattle.run_laws.proofs.supplied.Kept.{lent_stands}
use Rattle.run_laws.proofs.supplied.Known.{Known, known}

-- What stands for a handle is one.
handle_kept : (values : List ValType) (e : WorldEntry) (a : Entry) → EntryStands values e a → IsHandle a → (x : Handle) × (e ≡ entry.Handle x)
handle_kept values (entry.Handle x) a st is = (x, refl)
handle_kept values (entry.Subtask callee) a st is = absurd (subst IsHandle st is)
handle_kept values (entry.Set set) a st is = absurd (subst IsHandle st is)
handle_kept values (entry.End e) a st is = absurd (let same : a ≡ end_entry st.0 e = st.2 in subst IsHandle same is)

-- No call lends it.
lend_not : (is_here : ℕ → Bool) (index : ℕ) (called : Called)
    → ((place handle : ℕ) → slice_get called.subtask.lends place ≡ Some handle → is_here called.by ≡ true → handle ≡ index → ⊥)
    → count_by (λ handle. is_here called.by && nat_eq handle index) called.subtask.lends ≡ 0
lend_not is_here index called apart =
    count_none (λ (handle : ℕ). is_here called.by && nat_eq handle index) called.subtask.lends (λ place handle e. by place handle e (is_here called.by) refl)
  where
    by : (place handle : ℕ) → slice_get called.subtask.lends place ≡ Some handle → (b : Bool) → is_here called.by ≡ b → (b && nat_eq handle index) ≡ false
    by place handle e false is = refl
    by place handle e true is = ne_eqb handle index (apart place handle e is)

lends_not : (is_here : ℕ → Bool) (index : ℕ) (o : Option Called)
    → ((called : Called) → o ≡ Some called → (place handle : ℕ) → slice_get called.subtask.lends place ≡ Some handle → is_here called.by ≡ true → handle ≡ index → ⊥)
    → lends_by is_here index o ≡ 0
lends_not is_here index None apart = refl
lends_not is_here index (Some called) apart = lend_not is_here index called (apart called refl)

slot_runs : (at : ℕ) (o : Option TaskSlot) → passes (runs_at at) o ≡ true → (x : TaskSlot) × (o ≡ Some x) × (runs_at at x ≡ true)
slot_runs at None e = absurd (cc)
slot_runs at (Some x) e = (x, refl, e)

pub handles_are_alone_lent : HandlesAreAloneLent
handles_are_alone_lent g values s h stacks w r at index i here none =
    let st : Stands g values s h stacks w = r.stands in
    let k : Known g s w = known g values s h stacks w r in
    sum_none (λ (slot : TaskSlot). lends_by (is_task_at h.tasks at) index (called_of slot.caller)) h.tasks
    (λ n slot there.
    lends_not (is_task_at h.tasks at) index (called_of slot.caller)
    (λ called is place handle lent runs same.
    let a = task_of g values s h stacks w st n slot there in
    let c = called_shown s slot.caller a.0.caller called a.2.called is in
    let x = slot_runs at (slice_get h.tasks called.by) runs in
    let b = task_of g values s h stacks w st called.by x.0 x.1 in
    let by_there : slice_get w.tasks c.0.by ≡ Some b.0 = ap (λ (m : ℕ). slice_get w.tasks m) (sym c.2.caller) ∙ b.1 in
    let by_runs : runs_in at b.0 ≡ true = sym (runs_alike g s at x.0 b.0 b.2) ∙ x.2 in
    let held : HoldsHandle (table_of w at) handle =
    lent_stands g s w n at place handle a.0 b.0 c.0 k a.1 c.1 by_there by_runs (ap (λ (l : List ℕ). slice_get l place) (sym c.2.lent) ∙ lent) in
    let e = entry_back g values s h stacks w st at handle i held.0 here held.1 in
    let one : (y : Handle) × (e.0 ≡ entry.Handle y) = handle_kept values e.0 held.0 e.2 held.2 in
    none one.0 (ap (λ (m : ℕ). entry_of i m) (sym same) ∙ e.1 ∙ ap (λ (y : WorldEntry). Some y) one.1)))

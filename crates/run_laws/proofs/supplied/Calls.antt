-- Calls of tasks by others: of each it is kept what its caller is told next, and all that is lent for it can be given back.
use Rattle.std.proofs.Common.{◌≡◌, ◌≤◌, ◌<◌, ℕ, zero, suc, ◌+◌, ◌-◌, Bool, true, ◌&&◌, nat_eq, nat_lt, if◌then◌else◌, List, [], ◌∷◌, refl, sym, ap, ◌∙◌, subst, arith, Option, Some, None, inl, inr}
use Rattle.std.specs.List.{slice_get, count_by}
use Rattle.std.specs.Option.{option_map}
use Rattle.std.proofs.lemmas.Bool.{cases_eq, eq-eqb, ne_eqb, lt-ltb}
use Rattle.syntax_trees.specs.declared.types.ValType.{ValType}
use Rattle.wasm_store.specs.Stack.{Stack}
use Rattle.handle_table.specs.Slots.{slot_at, with_slot, with_entry}
use Rattle.res_handles.specs.declared.handle.Handle.{Handle}
use Rattle.res_handles.specs.Calls.{relent_by, with_lends, lends_in}
use Rattle.comp_graph.specs.Graph.{Graph, Lifted}
use Rattle.script_reader.specs.Script.{Script}
use Rattle.instances.specs.declared.entry.WorldEntry.{WorldEntry}
use Rattle.instances.specs.declared.entry.WorldEntry.TheVariants as entry
use Rattle.instances.specs.Entries.{seen_as, of_handle}
use Rattle.instances.specs.Instances.{InstanceView, entry_of, lends_of, given_back, with_slots}
use Rattle.task_table.specs.declared.caller.Called.{Called}
use Rattle.task_table.specs.declared.caller.Caller.TheVariants as by
use Rattle.task_table.specs.declared.slot.TaskSlot.{TaskSlot}
use Rattle.task_table.specs.Callers.{called_of}
use Rattle.tasks.specs.Tasks.{state_of}
use Rattle.world_parts.specs.Held.{Held}
use Rattle.abi_machine.specs.World.{Entry, OfSubtask, OfSet, Caller, Nobody, Host, Guest, Subtask, Task, World}
use Rattle.abi_machine.specs.Counting.{passes}
use Rattle.abi_machine.specs.Reading.{table_of, func_of, subtask_of, runs_in}
use Rattle.abi_machine.specs.sound.Called.{CalledBy}
use Rattle.abi_machine.specs.sound.Loans.{HoldsHandle}
use Rattle.abi_machine.specs.sound.Numbers.{IsCallerBefore, IsCalledAs}
use Rattle.abi_machine.specs.sound.Premises.{IsHandle}
use Rattle.abi_machine.proofs.sound.Found.{some_same}
use Rattle.standing.specs.Instances.{end_entry, EntryStands}
use Rattle.standing.specs.KeptMarks.{runs_at, is_task_at, lends_by, lends_at, HasMarks}
use Rattle.standing.specs.Marks.{CallerMarked}
use Rattle.standing.specs.Moves.{GivesBack, CallKept}
use Rattle.standing.specs.Stands.{Stands}
use Rattle.standing.specs.Tasks.{CallerStands}
use Rattle.standing.proofs.KeptMarks.{runs_alike}
use Rattle.run_laws.specs.Reached.{StandsReached}
use Rattle.run_laws.specs.Steps.{IsCalled}
use Rattle.run_laws.specs.keeping.Kept.{CalledFrom}
use Rattle.run_laws.proofs.Beside.{at_most}
use Rattle.run_laws.proofs.keeping.Loans.{among, among_front, among_as, slot_there, slot_elsewhere}
use Rattle.run_laws.proofs.supplied.Found.{task_of, slot_of, entry_back, called_back, called_shown}
use Rattle.run_laws.proofs.supplied.Known.{Known, known}
use Rattle.run_laws.proofs.supplied.Kept.{lent_stands, told_have_given_back, waiting_called, called_for}

-- Handles are lent as often as they stand among these, or more often: so each can be given back, one after the other.
abbrev LentIn : ℕ → List ℕ → InstanceView → Type 0
LentIn index handles i = (x : Handle) × (entry_of i index ≡ Some (entry.Handle x)) × (among index handles ≤ x.lends)

abbrev AreLentIn : List ℕ → InstanceView → Type 0
AreLentIn handles i = (place index : ℕ) → slice_get handles place ≡ Some index → LentIn index handles i

abbrev relent : ℕ → Handle → InstanceView → InstanceView
relent handle x i = with_slots (with_entry handle (of_handle (with_lends (x.lends - 1) x)) i.slots) i

relent_is : (handle : ℕ) (i : InstanceView) (x : Handle) → entry_of i handle ≡ Some (entry.Handle x) → given_back handle i ≡ relent handle x i
relent_is handle i x e = ap (λ (o : Option WorldEntry). with_slots (relent_by (option_map seen_as o) of_handle (λ n. n - 1) handle i.slots) i) e

once_more : (a b one : ℕ) → a ≡ one + b → one ≡ 1 → (n : ℕ) → a ≤ n → b ≤ n - 1
once_more a b one e f n g = omega (arith, e, f, g)

none_more : (a b one : ℕ) → a ≡ one + b → one ≡ 0 → (n : ℕ) → a ≤ n → b ≤ n
none_more a b one e f n g = omega (arith, e, f, g)

handle_same : (x y : Handle) → entry.Handle x ≡ entry.Handle y → x ≡ y
handle_same x y e = cc

after_one : (handle : ℕ) (rest : List ℕ) (i : InstanceView) (x : Handle) → entry_of i handle ≡ Some (entry.Handle x) → AreLentIn (handle ∷ rest) i → AreLentIn rest (given_back handle i)
after_one handle rest i x stood all place index e =
    let y : LentIn index (handle ∷ rest) i = all (suc place) index e in
    let more : among index (handle ∷ rest) ≡ (if nat_eq handle index then 1 else 0) + among index rest = among_front index handle rest in
    subst (LentIn index rest) (sym (relent_is handle i x stood))
    (elim (cases_eq index handle) [
      | inl same ↦
          let is : y.0 ≡ x = handle_same y.0 x (some_same (sym y.1 ∙ ap (λ (n : ℕ). entry_of i n) same ∙ stood)) in
          let one : ◌≡◌ {A = ℕ} (if nat_eq handle index then 1 else 0) 1 = ap (λ (b : Bool). if b then 1 else 0) (eq-eqb handle index (sym same)) in (
            with_lends (x.lends - 1) x,
            ap (λ (n : ℕ). slot_at (with_slot i.slots.entries handle (Some (entry.Handle (with_lends (x.lends - 1) x)))) n) same
                ∙ slot_there i.slots.entries handle (entry.Handle x) (Some (entry.Handle (with_lends (x.lends - 1) x))) stood,
            once_more (among index (handle ∷ rest)) (among index rest) (if nat_eq handle index then 1 else 0) more one x.lends
                (subst (λ (z : Handle). among index (handle ∷ rest) ≤ z.lends) is y.2),
          )
      | inr other ↦
          let none : ◌≡◌ {A = ℕ} (if nat_eq handle index then 1 else 0) 0 = ap (λ (b : Bool). if b then 1 else 0) (ne_eqb handle index (λ k. other (sym k))) in (
            y.0,
            slot_elsewhere i.slots.entries handle index (Some (entry.Handle (with_lends (x.lends - 1) x))) other ∙ y.1,
            none_more (among index (handle ∷ rest)) (among index rest) (if nat_eq handle index then 1 else 0) more none y.0.lends y.2,
          )
    ])

first_lent : (handle : ℕ) (rest : List ℕ) (n : ℕ) → among handle (handle ∷ rest) ≤ n → 0 < n
first_lent handle rest n some =
    let more : among handle (handle ∷ rest) ≡ (if nat_eq handle handle then 1 else 0) + among handle rest = among_front handle handle rest in
    let one : ◌≡◌ {A = ℕ} (if nat_eq handle handle then 1 else 0) 1 = ap (λ (b : Bool). if b then 1 else 0) (eq-eqb handle handle refl) in
    by (among handle (handle ∷ rest)) (among handle rest) (if nat_eq handle handle then 1 else 0) more one some
  where
    by : (a b one : ℕ) → a ≡ one + b → one ≡ 1 → a ≤ n → 0 < n
    by a b one e f g = omega (arith, e, f, g)

gives_back : (handles : List ℕ) (i : InstanceView) → AreLentIn handles i → GivesBack handles i
gives_back [] i all = tt
gives_back (handle ∷ rest) i all =
    let x : LentIn handle (handle ∷ rest) i = all 0 handle refl in
    let lends : lends_of i handle ≡ x.0.lends = ap (λ (o : Option WorldEntry). lends_in (option_map seen_as o)) x.1 in (
      ap (nat_lt 0) lends ∙ lt-ltb 0 x.0.lends (first_lent handle rest x.0.lends x.2),
      gives_back rest (given_back handle i) (after_one handle rest i x.0 x.1 all),
    )

-- What stands for a handle is one, and one task's loans are not more than all.
handle_kept : (values : List ValType) (e : WorldEntry) (a : Entry) → EntryStands values e a → IsHandle a → (x : Handle) × (e ≡ entry.Handle x)
handle_kept values (entry.Handle x) a st h = (x, refl)
handle_kept values (entry.Subtask callee) a st h = absurd (let none : IsHandle (OfSubtask callee) = subst IsHandle st h in none)
handle_kept values (entry.Set set) a st h = absurd (let none : IsHandle (OfSet set) = subst IsHandle st h in none)
handle_kept values (entry.End e) a st h = absurd (let none : IsHandle (end_entry st.0 e) = subst IsHandle st.2 h in none)

as_many : (a b c d : ℕ) → a ≡ b → b ≤ c → d ≡ c → a ≤ d
as_many a b c d e f g = omega (arith, e, f, g)

slot_runs : (at : ℕ) (o : Option TaskSlot) → passes (runs_at at) o ≡ true → (x : TaskSlot) × (o ≡ Some x) × (runs_at at x ≡ true)
slot_runs at None e = absurd (cc)
slot_runs at (Some x) e = (x, refl, e)

-- All that is lent for a call can be given back in the instance of its caller.
pub lent_there : (g : Graph) (values : List ValType) (s : Script) (h : Held) (stacks : List (List Stack)) (w : World) (at callee : ℕ) (slot : TaskSlot) (called : Called) (i : InstanceView)
    → StandsReached g values s h stacks w → HasMarks h → slice_get h.tasks callee ≡ Some slot → slot.caller ≡ by.Guest called → is_task_at h.tasks at called.by ≡ true
    → slice_get h.instances at ≡ Some i → GivesBack called.subtask.lends i
lent_there g values s h stacks w at callee slot called i r marks there guest runs here =
    let st : Stands g values s h stacks w = r.stands in
    let k : Known g s w = known g values s h stacks w r in
    let a = task_of g values s h stacks w st callee slot there in
    let is : called_of slot.caller ≡ Some called = ap called_of guest in
    let c = called_shown s slot.caller a.0.caller called a.2.called is in
    let x = slot_runs at (slice_get h.tasks called.by) runs in
    let b = task_of g values s h stacks w st called.by x.0 x.1 in
    let by_there : slice_get w.tasks c.0.by ≡ Some b.0 = ap (λ (m : ℕ). slice_get w.tasks m) (sym c.2.caller) ∙ b.1 in
    let by_runs : runs_in at b.0 ≡ true = sym (runs_alike g s at x.0 b.0 b.2) ∙ x.2 in
    gives_back called.subtask.lends i
    (λ place index lent.
    let held : HoldsHandle (table_of w at) index = lent_stands g s w callee at place index a.0 b.0 c.0 k a.1 c.1 by_there by_runs (ap (λ (l : List ℕ). slice_get l place) (sym c.2.lent) ∙ lent) in
    let e = entry_back g values s h stacks w st at index i held.0 here held.1 in
    let z = handle_kept values e.0 held.0 e.2 held.2 in
    let stood : entry_of i index ≡ Some (entry.Handle z.0) = e.1 ∙ ap (λ (y : WorldEntry). Some y) z.1 in
    let own : among index called.subtask.lends ≡ lends_by (is_task_at h.tasks at) index (called_of slot.caller) =
    among_as index called.subtask.lends
    ∙ sym (ap (λ (o : Option Called). lends_by (is_task_at h.tasks at) index o) is
    ∙ ap (λ (b : Bool). count_by (λ handle. b && nat_eq handle index) called.subtask.lends) runs) in
    let least : lends_by (is_task_at h.tasks at) index (called_of slot.caller) ≤ lends_at h.tasks at index =
    at_most (λ (y : TaskSlot). lends_by (is_task_at h.tasks at) index (called_of y.caller)) h.tasks callee slot there in
    (z.0, stood, as_many _ _ _ _ own least (marks.lends at index i z.0 here stood)))

pub call_kept : (g : Graph) (values : List ValType) (s : Script) (h : Held) (stacks : List (List Stack)) (w : World) (at callee : ℕ) (slot : TaskSlot) (called : Called)
    → StandsReached g values s h stacks w → HasMarks h → slice_get h.tasks callee ≡ Some slot → slot.caller ≡ by.Guest called → CalledFrom h at callee → CallKept h at callee slot called
call_kept g values s h stacks w at callee slot called r marks there guest from = record {
  there = there;
  guest = guest;
  marked = (subst (CallerMarked callee (state_of slot.task)) guest (marks.states callee slot there)).seen;
  lent = λ i here. lent_there g values s h stacks w at callee slot called i r marks there guest (from slot called there (ap called_of guest)) here;
  over = λ told. told_have_given_back g values s h stacks w r callee slot called there (ap called_of guest) told;
}

-- A task is not one that called it.
pub guest_is : (d : Caller) (subtask : Subtask) → subtask_of d ≡ Some subtask → d ≡ Guest subtask
guest_is Nobody subtask e = absurd (cc)
guest_is (Host call all) subtask e = absurd (cc)
guest_is (Guest x) subtask e = ap Guest (some_same e)

before_callee : (n t : ℕ) (task : Task) (subtask : Subtask) → IsCalledAs n task → task.caller ≡ Guest subtask → subtask.by ≡ t → n ≡ t → ⊥
before_callee zero t task subtask called guest by same = (let clash : Guest subtask ≡ Nobody = sym guest ∙ called.1 in let none : ⊥ = cc in none)
before_callee (suc n) t task subtask called guest by same =
    let before : subtask.by < suc n = subst (IsCallerBefore (suc n)) guest called.1 in
    omega (arith, before, by, same)

-- The one for which a task waits.
pub is_called : (g : Graph) (values : List ValType) (s : Script) (h : Held) (stacks : List (List Stack)) (w : World) (t callee number : ℕ) (task : Task) (f : Lifted)
    → StandsReached g values s h stacks w → HasMarks h → slice_get w.tasks t ≡ Some task → func_of task.callee ≡ Some f → CalledBy task.state callee number → IsCalled h t f callee
is_called g values s h stacks w t callee number task f r marks there runs waits =
    let st : Stands g values s h stacks w = r.stands in
    let k : Known g s w = known g values s h stacks w r in
    let by = called_for w.tasks t callee number task.state (k.standing.called t task there) waits in
    let guest : by.0.caller ≡ Guest by.2.0 = guest_is by.0.caller by.2.0 by.2.1 in
    let x = slot_of g values s h stacks w st callee by.0 by.1 in
    let c = called_back s x.0.caller by.2.0 (subst (CallerStands s x.0.caller) guest x.2.called) in
    record {
      apart = before_callee callee t by.0 by.2.0 (k.standing.numbered.called callee by.0 by.1) guest by.2.2;
      slot = x.0;
      called = c.0;
      is_kept = call_kept g values s h stacks w f.instance callee x.0 c.0 r marks x.1 c.1 (waiting_called g values s h stacks w t callee number task f r there runs waits);
    }

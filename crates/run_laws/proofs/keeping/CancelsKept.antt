-- Where what is kept stands for a world of which laws of reached worlds hold, subtasks that are cancelled are as it is asked.
use Rattle.std.proofs.Common.{◌≡◌, ◌⊎◌, inl, inr, ℕ, Bool, true, false, ◌&&◌, refl, sym, ap, ◌∙◌, subst, List, Option, Some, None}
use Rattle.std.specs.List.{slice_get}
use Rattle.std.proofs.lemmas.Bool.Decides.{Decides-eqb}
use Rattle.syntax_trees.specs.declared.types.ValType.{ValType}
use Rattle.wasm_store.specs.Stack.{Stack}
use Rattle.handle_table.specs.Alike.{SlotAlike}
use Rattle.handle_table.specs.History.{live}
use Rattle.handle_table.proofs.Alike.{slot_shown}
use Rattle.res_handles.specs.declared.handle.Ownership.{Ownership}
use Rattle.res_handles.specs.declared.handle.Ownership.TheVariants.{Own, Borrow}
use Rattle.comp_graph.specs.Graph.{Graph, Lifted}
use Rattle.script_reader.specs.Script.{Script}
use Rattle.tasks.specs.Subtasks.{is_over}
use Rattle.tasks.specs.Tasks.{state_of}
use Rattle.instances.specs.declared.entry.WorldEntry.{WorldEntry}
use Rattle.instances.specs.declared.entry.WorldEntry.TheVariants as entry
use Rattle.instances.specs.Instances.{InstanceView, entry_of}
use Rattle.task_table.specs.declared.caller.Called.{Called}
use Rattle.task_table.specs.declared.caller.Caller as kept_caller
use Rattle.task_table.specs.declared.caller.Caller.TheVariants as by
use Rattle.task_table.specs.declared.errand.Errand.TheVariants as errand
use Rattle.task_table.specs.declared.slot.TaskSlot.{TaskSlot}
use Rattle.task_table.specs.Callers.{called_of}
use Rattle.task_table.specs.Slots.{waits_directly_at}
use Rattle.world_parts.specs.Held.{Held}
use Rattle.abi_machine.specs.Control.{EndRef}
use Rattle.abi_machine.specs.World.{Entry, OfSubtask, OfSet, OfEnd, Inst, Subtask, Caller, Nobody, Host, Guest, ForYield, ForSet, ForCall, ForCopy, ForCancel, TaskState, New, Acting, AfterCall, AfterCancel, Begins, WaitsToEnter, InLoop, InBuiltin, Exited, Task, World}
use Rattle.abi_machine.specs.Canons.{flag_at}
use Rattle.abi_machine.specs.Reading.{table_in, func_of, is_in, subtask_of}
use Rattle.abi_machine.specs.Counting.{phase_of}
use Rattle.abi_machine.specs.Cancelling.{first_of}
use Rattle.abi_machine.specs.sound.Cancels.{StandsIn, CancelsSo, CancelsTask, CancelStands, IsOver, HasCancels}
use Rattle.abi_machine.specs.sound.Called.{CalledBy}
use Rattle.abi_machine.specs.sound.CopyWaits.{AwaitsCopy, AwaitCopies}
use Rattle.abi_machine.specs.sound.Subtasks.{StandsAt, CallIs, CancelsApart as AreApart, HasSubtasks}
use Rattle.abi_machine.proofs.sound.Found.{some_same}
use Rattle.standing.specs.Instances.{owned_as, EntryStands, InstStands}
use Rattle.standing.specs.Tasks.{RunsIn, errand_of, CallerStands, TaskStands}
use Rattle.standing.specs.Stands.{Stands}
use Rattle.standing.specs.KeptMarks.{runs_func, runs_at, HasMarks}
use Rattle.standing.proofs.KeptMarks.{runs_alike}
use Rattle.standing.proofs.Lists.{IsFound, found_left}
use Rattle.run_laws.specs.keeping.Cancels.{StandsOnly, CancelsThere, waits_direct}
use Rattle.run_laws.specs.keeping.Well.{CancelsApart, KeptWell}
use Rattle.run_laws.specs.keeping.CancelsKept.{CancelsAreKept}
use Rattle.run_laws.proofs.keeping.Told.{seen_state}
use Rattle.run_laws.proofs.keeping.Going.{runs_own}

-- A task that is kept stands for one of the world.
record TaskThere (g : Graph) (s : Script) (w : World) (t : ℕ) (slot : TaskSlot) : Type 0 where
  task : Task
  there : slice_get w.tasks t ≡ Some task
  stands : TaskStands g s slot task

task_there : (g : Graph) (values : List ValType) (s : Script) (h : Held) (stacks : List (List Stack)) (w : World) (t : ℕ) (slot : TaskSlot) → Stands g values s h stacks w
    → slice_get h.tasks t ≡ Some slot → TaskThere g s w t slot
task_there g values s h stacks w t slot st here =
    let one : IsFound (TaskStands g s) (slice_get h.tasks t) (slice_get w.tasks t) = found_left (TaskStands g s) h.tasks w.tasks t slot st.are_tasks here in
    record { task = one.right; there = one.is_right; stands = subst (λ (x : TaskSlot). TaskStands g s x one.right) (some_same (sym one.is_left ∙ here)) one.alike }

same_subtask : {a b : ℕ} → entry.Subtask a ≡ entry.Subtask b → a ≡ b
same_subtask e = cc

-- A subtask stands at an index of what is kept where it does in the world.
subtask_right : (values : List ValType) (o : Option WorldEntry) (p : Option Entry) (callee : ℕ) → SlotAlike (EntryStands values) o p → o ≡ Some (entry.Subtask callee) → p ≡ Some (OfSubtask callee)
subtask_right values None p callee a e = absurd (cc)
subtask_right values (Some x) None callee a e = absurd a
subtask_right values (Some (entry.Handle x)) (Some y) callee a e = absurd (cc)
subtask_right values (Some (entry.Subtask other)) (Some y) callee a e = ap (λ (z : Entry). Some z) (a ∙ ap OfSubtask (same_subtask (some_same e)))
subtask_right values (Some (entry.Set set)) (Some y) callee a e = absurd (cc)
subtask_right values (Some (entry.End x)) (Some y) callee a e = absurd (cc)

owned_not : (resource rep callee : ℕ) (x : Ownership) → owned_as resource rep x ≡ OfSubtask callee → ⊥
owned_not resource rep callee Own e = cc
owned_not resource rep callee (Borrow task) e = cc

of_subtask : {a b : ℕ} → OfSubtask a ≡ OfSubtask b → a ≡ b
of_subtask e = cc

set_not : {a b : ℕ} → OfSet a ≡ OfSubtask b → ⊥
set_not e = cc

end_not : {x : EndRef} {b : ℕ} → OfEnd x ≡ OfSubtask b → ⊥
end_not e = cc

subtask_left : (values : List ValType) (o : Option WorldEntry) (p : Option Entry) (callee : ℕ) → SlotAlike (EntryStands values) o p → p ≡ Some (OfSubtask callee) → o ≡ Some (entry.Subtask callee)
subtask_left values None None callee a e = absurd (cc)
subtask_left values None (Some y) callee a e = absurd a
subtask_left values (Some x) None callee a e = absurd a
subtask_left values (Some (entry.Handle x)) (Some y) callee a e = absurd (owned_not x.resource x.rep callee x.ownership (sym a ∙ some_same e))
subtask_left values (Some (entry.Subtask other)) (Some y) callee a e = ap (λ (n : ℕ). Some (entry.Subtask n)) (of_subtask (sym a ∙ some_same e))
subtask_left values (Some (entry.Set set)) (Some y) callee a e = absurd (set_not (sym a ∙ some_same e))
subtask_left values (Some (entry.End x)) (Some y) callee a e = absurd (end_not (sym a.2 ∙ some_same e))

record InstThere (values : List ValType) (w : World) (at : ℕ) (i : InstanceView) : Type 0 where
  inst : Inst
  there : slice_get w.insts at ≡ Some inst
  stands : InstStands values i inst

inst_there : (g : Graph) (values : List ValType) (s : Script) (h : Held) (stacks : List (List Stack)) (w : World) (at : ℕ) (i : InstanceView) → Stands g values s h stacks w
    → slice_get h.instances at ≡ Some i → InstThere values w at i
inst_there g values s h stacks w at i st here =
    let one : IsFound (InstStands values) (slice_get h.instances at) (slice_get w.insts at) = found_left (InstStands values) h.instances w.insts at i st.are_instances here in
    record { inst = one.right; there = one.is_right; stands = subst (λ (x : InstanceView). InstStands values x one.right) (some_same (sym one.is_left ∙ here)) one.alike }

to_world : (values : List ValType) (w : World) (at index callee : ℕ) (i : InstanceView) → InstThere values w at i → entry_of i index ≡ Some (entry.Subtask callee) → StandsAt w.insts at index callee
to_world values w at index callee i x stood =
    ap (λ (o : Option Inst). live (table_in o) index) x.there
    ∙ subtask_right values (entry_of i index) (live x.inst.table index) callee (slot_shown (EntryStands values) x.inst.table i.slots index x.stands.table) stood

to_kept : (values : List ValType) (w : World) (at index callee : ℕ) (i : InstanceView) → InstThere values w at i → StandsAt w.insts at index callee → entry_of i index ≡ Some (entry.Subtask callee)
to_kept values w at index callee i x stands =
    subtask_left values (entry_of i index) (live x.inst.table index) callee (slot_shown (EntryStands values) x.inst.table i.slots index x.stands.table)
    (sym (ap (λ (o : Option Inst). live (table_in o) index) x.there) ∙ stands)

-- It stands in one place.
stands_only : (g : Graph) (values : List ValType) (s : Script) (h : Held) (stacks : List (List Stack)) (w : World) (at index callee : ℕ) → Stands g values s h stacks w → HasSubtasks g w
    → StandsAt w.insts at index callee → StandsOnly h at index callee
stands_only g values s h stacks w at index callee st sub stands n m i here stood =
    sub.once n m at index callee (to_world values w n m callee i (inst_there g values s h stacks w n i st here) stood) stands

-- What a task is at, by its state in the world.
record IsCancelling (state : TaskState) (callee canon index : ℕ) : Type 0 where
  words : List ℕ
  is : state ≡ AfterCancel callee canon words
  first : first_of words ≡ index

parts : {a b c d e f : ℕ} → errand.AfterCancel a b c ≡ errand.AfterCancel d e f → (a ≡ d) × (b ≡ e) × (c ≡ f)
parts e = (cc, cc, cc)

cancelling : (state : TaskState) (callee canon index : ℕ) → errand_of state ≡ errand.AfterCancel callee canon index → IsCancelling state callee canon index
cancelling New callee canon index e = absurd (cc)
cancelling Acting callee canon index e = absurd (cc)
cancelling (AfterCall other number words) callee canon index e = absurd (cc)
cancelling (AfterCancel other number words) callee canon index e =
    let p : (other ≡ callee) × (number ≡ canon) × (first_of words ≡ index) = parts e in
    record { words = words; is = ap (λ (n : ℕ). AfterCancel n number words) p.0 ∙ ap (λ (n : ℕ). AfterCancel callee n words) p.1; first = p.2 }
cancelling (Begins n) callee canon index e = absurd (cc)
cancelling WaitsToEnter callee canon index e = absurd (cc)
cancelling (InLoop word) callee canon index e = absurd (cc)
cancelling (InBuiltin number words wait) callee canon index e = absurd (cc)
cancelling Exited callee canon index e = absurd (cc)

both_parts : {a b c d : ℕ} → errand.AfterCall a b ≡ errand.AfterCall c d → (a ≡ c) × (b ≡ d)
both_parts e = (cc, cc)

calling : (state : TaskState) (callee canon : ℕ) → errand_of state ≡ errand.AfterCall callee canon → CalledBy state callee canon
calling New callee canon e = absurd (cc)
calling Acting callee canon e = absurd (cc)
calling (AfterCall other number words) callee canon e = both_parts e
calling (AfterCancel other number words) callee canon e = absurd (cc)
calling (Begins n) callee canon e = absurd (cc)
calling WaitsToEnter callee canon e = absurd (cc)
calling (InLoop word) callee canon e = absurd (cc)
calling (InBuiltin number words wait) callee canon e = absurd (cc)
calling Exited callee canon e = absurd (cc)

-- None called one that is cancelled.
apart_kept : (g : Graph) (values : List ValType) (s : Script) (h : Held) (stacks : List (List Stack)) (w : World) → Stands g values s h stacks w → HasSubtasks g w → CancelsApart h
apart_kept g values s h stacks w st sub t callee canon index slot found at n number other there calls =
    let a : TaskThere g s w t slot = task_there g values s h stacks w t slot st found in
    let c : IsCancelling a.task.state callee canon index = cancelling a.task.state callee canon index (sym a.stands.at ∙ at) in
    let apart : AreApart w.tasks (AfterCancel callee canon c.words) = subst (λ (x : TaskState). AreApart w.tasks x) c.is (sub.cancelled t a.task a.there) in
    let b : TaskThere g s w n other = task_there g values s h stacks w n other st there in
    apart.1 n number b.task b.there (calling b.task.state callee number (sym b.stands.at ∙ calls))

-- Its caller was told that it has resolved: then it has.
told_so : (s : Script) (c : kept_caller.Caller) (a : Caller) (subtask : Subtask) → CallerStands s c a → subtask_of a ≡ Some subtask
    → (called : Called) × (called_of c ≡ Some called) × (called.subtask.told ≡ subtask.told)
told_so s by.Nobody Nobody subtask st e = absurd (cc)
told_so s by.Nobody (Host call values) subtask st e = absurd st
told_so s by.Nobody (Guest other) subtask st e = absurd st
told_so s (by.Host number) Nobody subtask st e = absurd st
told_so s (by.Host number) (Host call values) subtask st e = absurd (cc)
told_so s (by.Host number) (Guest other) subtask st e = absurd st
told_so s (by.Guest called) Nobody subtask st e = absurd st
told_so s (by.Guest called) (Host call values) subtask st e = absurd st
told_so s (by.Guest called) (Guest other) subtask st e = (called, refl, st.was_told ∙ ap (λ (x : Subtask). x.told) (some_same e))

over_resolved : (g : Graph) (values : List ValType) (s : Script) (h : Held) (stacks : List (List Stack)) (w : World) (callee : ℕ) (x : TaskSlot) → Stands g values s h stacks w → HasMarks h
    → KeptWell h → slice_get h.tasks callee ≡ Some x → CallIs w.tasks callee IsOver → is_over (state_of x.task) ≡ true
over_resolved g values s h stacks w callee x st marks well found over =
    let a : TaskThere g s w callee x = task_there g values s h stacks w callee x st found in
    let same : over.0 ≡ a.task = some_same (sym over.1 ∙ a.there) in
    let p : (called : Called) × (called_of x.caller ≡ Some called) × (called.subtask.told ≡ over.2.0.told)
    = told_so s x.caller a.task.caller over.2.0 a.stands.called (ap (λ (y : Task). subtask_of y.caller) (sym same) ∙ over.2.1) in
    sym (ap is_over (seen_state callee (state_of x.task) x.caller p.0 p.1 (marks.states callee x found)))
    ∙ well.over callee x p.0 found p.1 (ap is_over p.2 ∙ over.2.2)

-- One that a task cancels stands where it is cancelled while it has not resolved.
runs_there : (s : Script) (instance index callee : ℕ) (insts : List Inst) (o : Option Lifted) → RunsIn instance o → StandsIn insts o index callee → StandsAt insts instance index callee
runs_there s instance index callee insts None place stands = absurd stands
runs_there s instance index callee insts (Some f) place stands = subst (λ (n : ℕ). StandsAt insts n index callee) (sym place) stands

not_both : {b : Bool} → b ≡ true → b ≡ false → ⊥
not_both e f = cc

back_kept : (g : Graph) (values : List ValType) (s : Script) (h : Held) (stacks : List (List Stack)) (w : World) (t callee canon index : ℕ) (slot : TaskSlot) → Stands g values s h stacks w
    → HasSubtasks g w → HasCancels w → HasMarks h → KeptWell h → slice_get h.tasks t ≡ Some slot → slot.errand ≡ errand.AfterCancel callee canon index → runs_func slot.callee ≡ true
    → CancelsThere h t slot.instance callee index
back_kept g values s h stacks w t callee canon index slot st sub cancels marks well found at runs =
    let a : TaskThere g s w t slot = task_there g values s h stacks w t slot st found in
    let c : IsCancelling a.task.state callee canon index = cancelling a.task.state callee canon index (sym a.stands.at ∙ at) in
    let either : CallIs w.tasks callee IsOver ⊎ StandsIn w.insts (func_of a.task.callee) (first_of c.words) callee
    = subst (λ (x : TaskState). CancelStands w.tasks w.insts (func_of a.task.callee) x) c.is (cancels.stands t a.task a.there) in
    record {
      runs = λ other there. ap (runs_at slot.instance) (some_same (sym there ∙ found)) ∙ runs_own slot runs;
      stands = λ x there still. elim either [
        | inl over ↦ absurd (not_both (over_resolved g values s h stacks w callee x st marks well there over) still)
        | inr stood ↦
            let in_world : StandsAt w.insts slot.instance index callee
            = subst (λ (n : ℕ). StandsAt w.insts slot.instance n callee) c.first (runs_there s slot.instance (first_of c.words) callee w.insts (func_of a.task.callee) a.stands.place stood) in
            record {
              there = λ i here. to_kept values w slot.instance index callee i (inst_there g values s h stacks w slot.instance i st here) in_world;
              only = stands_only g values s h stacks w slot.instance index callee st sub in_world;
            }
      ];
    }

-- Where a subtask stands, a task that waits directly cancels it.
both_so : (b c : Bool) → (b && c) ≡ true → (b ≡ true) × (c ≡ true)
both_so true c e = (refl, e)
both_so false c e = absurd (cc)

in_func : (at : ℕ) (o : Option Lifted) → is_in at o ≡ true → (f : Lifted) × (o ≡ Some f) × (f.instance ≡ at)
in_func at None e = absurd (cc)
in_func at (Some f) e = (f, refl, (Decides-eqb f.instance at).0 e)

data WaitsSo (state : TaskState) (index : ℕ) : Type 0 where
  waits_copy : (number : ℕ) (words : List ℕ) → state ≡ InBuiltin number words (ForCopy index) → WaitsSo state index
  waits_cancel : (number : ℕ) (words : List ℕ) → state ≡ InBuiltin number words (ForCancel index) → WaitsSo state index

waits_so : (flag : ℕ → Bool) (state : TaskState) (index : ℕ) → waits_directly_at index (phase_of flag state) ≡ true → WaitsSo state index
waits_so flag New index e = absurd (cc)
waits_so flag Acting index e = absurd (cc)
waits_so flag (AfterCall callee number words) index e = absurd (cc)
waits_so flag (AfterCancel callee number words) index e = absurd (cc)
waits_so flag (Begins n) index e = absurd (cc)
waits_so flag WaitsToEnter index e = absurd (cc)
waits_so flag (InLoop word) index e = absurd (cc)
waits_so flag (InBuiltin number words ForYield) index e = absurd (cc)
waits_so flag (InBuiltin number words (ForSet set)) index e = absurd (cc)
waits_so flag (InBuiltin number words (ForCall callee)) index e = absurd (cc)
waits_so flag (InBuiltin number words (ForCopy at)) index e = waits_copy number words (ap (λ (n : ℕ). InBuiltin number words (ForCopy n)) ((Decides-eqb at index).0 e))
waits_so flag (InBuiltin number words (ForCancel at)) index e = waits_cancel number words (ap (λ (n : ℕ). InBuiltin number words (ForCancel n)) ((Decides-eqb at index).0 e))
waits_so flag Exited index e = absurd (cc)

found_not : {x : EndRef} {b : ℕ} → Some (OfEnd x) ≡ Some (OfSubtask b) → ⊥
found_not e = cc

cancels_it : (g : Graph) (w : World) (t at index callee : ℕ) (task : Task) (f : Lifted) → AwaitCopies g w → slice_get w.tasks t ≡ Some task → func_of task.callee ≡ Some f → f.instance ≡ at
    → StandsAt w.insts at index callee → WaitsSo task.state index → CancelsTask w.insts task callee
cancels_it g w t at index callee task f await there runs place stands (waits_copy number words is) =
    let a : AwaitsCopy g w.insts w.streams w.futures t number index f.instance = await t number index task f there runs (words, is) in
    absurd (found_not (sym a.stands ∙ ap (λ (n : ℕ). live (table_in (slice_get w.insts n)) index) place ∙ stands))
cancels_it g w t at index callee task f await there runs place stands (waits_cancel number words is) =
    subst (λ (x : TaskState). CancelsSo w.insts (func_of task.callee) x callee) (sym is)
    (subst (λ (o : Option Lifted). StandsIn w.insts o index callee) (sym runs) (subst (λ (n : ℕ). StandsAt w.insts n index callee) (sym place) stands))

waits_cancelling : (g : Graph) (values : List ValType) (s : Script) (h : Held) (stacks : List (List Stack)) (w : World) (t at index callee : ℕ) (x : TaskSlot) (a : TaskThere g s w t x)
    → AwaitCopies g w → StandsAt w.insts at index callee → waits_direct at index x ≡ true → CancelsTask w.insts a.task callee
waits_cancelling g values s h stacks w t at index callee x a await stands waits =
    let both : (runs_at at x ≡ true) × (waits_directly_at index x.task.phase ≡ true) = both_so (runs_at at x) (waits_directly_at index x.task.phase) waits in
    let p : (f : Lifted) × (func_of a.task.callee ≡ Some f) × (f.instance ≡ at) = in_func at (func_of a.task.callee) (sym (runs_alike g s at x a.task a.stands) ∙ both.0) in
    cancels_it g w t at index callee a.task p.0 await a.there p.1 p.2 stands
    (waits_so (flag_at g) a.task.state index (ap (waits_directly_at index) (sym a.stands.far) ∙ both.1))

pub cancels_are_kept : CancelsAreKept
cancels_are_kept g values s h stacks w st sub cancels await marks well = record {
  apart = apart_kept g values s h stacks w st sub;
  back = λ t callee canon index slot found at runs. back_kept g values s h stacks w t callee canon index slot st sub cancels marks well found at runs;
  alone = λ at index callee i here stood.
      let stands : StandsAt w.insts at index callee = to_world values w at index callee i (inst_there g values s h stacks w at i st here) stood in (
        (λ n m x y x_there y_there x_waits y_waits.
            let a : TaskThere g s w n x = task_there g values s h stacks w n x st x_there in
            let b : TaskThere g s w m y = task_there g values s h stacks w m y st y_there in
            cancels.one n m callee a.task b.task a.there b.there (waits_cancelling g values s h stacks w n at index callee x a await stands x_waits)
            (waits_cancelling g values s h stacks w m at index callee y b await stands y_waits)),
        stands_only g values s h stacks w at index callee st sub stands,
      );
}

-- A task enters: behind that what is kept stands for the world in which it acts, with its line.
use Rattle.std.proofs.Common.{◌≡◌, ℕ, Bool, true, false, ◌||◌, nat_lt, if◌then◌else◌, List, [], ◌∷◌, ◌++◌, refl, sym, ap, ◌∙◌, append-nil, Some}
use Rattle.std.specs.List.{slice_get}
use Rattle.wasm_store.specs.Stack.{Stack}
use Rattle.syntax_trees.specs.declared.types.ValType.{ValType}
use Rattle.entry_gate.specs.Gates as gate
use Rattle.entry_gate.specs.Gates.{GateView, without_wait, held_by}
use Rattle.entry_gate.specs.Kinds.{needs_entry}
use Rattle.entry_gate.specs.declared.kind.Kind.{Kind}
use Rattle.tasks.specs.declared.event.TaskEvent.TheVariants as event
use Rattle.tasks.specs.declared.phase.Phase.{Phase}
use Rattle.tasks.specs.declared.subtask_state.SubtaskState.TheVariants as state
use Rattle.tasks.specs.Tasks as task_of
use Rattle.tasks.specs.Tasks.{is_new, is_entry, waits_to_enter}
use Rattle.comp_graph.specs.Graph.{Graph}
use Rattle.script_reader.specs.Script.{Script}
use Rattle.trace_labels.specs.declared.label.Label.{Label}
use Rattle.trace_labels.specs.declared.label.Label.TheVariants as line
use Rattle.instances.specs.Instances.{InstanceView, with_gate}
use Rattle.task_table.specs.declared.errand.Callee.{Callee}
use Rattle.task_table.specs.declared.errand.Errand.TheVariants as errand
use Rattle.task_table.specs.declared.slot.TaskSlot.{TaskSlot}
use Rattle.task_table.specs.Callers as callers
use Rattle.task_table.specs.Slots as slots
use Rattle.task_table.specs.Slots.{raised_slot}
use Rattle.world_parts.specs.Held as kept
use Rattle.world_parts.specs.Held.{Held, Done, Gives, after}
use Rattle.world_parts.specs.Entries.{with_instance}
use Rattle.world_parts.specs.Feed.{told}
use Rattle.world_parts.specs.Gates.{gate_unwaited, gate_entered}
use Rattle.world_parts.specs.Going as going
use Rattle.world_parts.specs.Going.{unwaited, unwaited_if, enters}
use Rattle.world_parts.specs.Slots.{with_task, instance_of, kind_of, phase_of, callee_of, happens, raised, unparked}
use Rattle.value_moves.specs.Entering.{entered}
use Rattle.abi_machine.specs.World.{Wait, ForYield, ForSet, ForCall, ForCopy, ForCancel, New, Acting, AfterCall, AfterCancel, Begins, WaitsToEnter, InLoop, InBuiltin, Exited, TaskState, Task, World}
use Rattle.abi_machine.specs.Edits.{in_state}
use Rattle.abi_machine.specs.Canons.{flag_at}
use Rattle.abi_machine.specs.Counting as counting
use Rattle.standing.specs.Tasks.{errand_of, TaskStands}
use Rattle.standing.proofs.Tables.{entry_is_not_said}
use Rattle.standing.proofs.Backing.{tasks_stay}
use Rattle.standing.proofs.Resolved.{raised_stands}
use Rattle.standing.proofs.Changes.{instances_stay, tasks_change}
use Rattle.standing.proofs.EndMarks.{same_entries_stay_marked}
use Rattle.run_laws.specs.Taking.{StandsMarked}
use Rattle.run_laws.specs.Lifted.{callees_of}
use Rattle.run_laws.proofs.Lending.{lends_in_state}
use Rattle.run_laws.proofs.Taking.{lends_kept}
use Rattle.run_laws.proofs.Moved.{seen_set}
use Rattle.run_laws.proofs.Giving.{AllGive, after_gives, given_gives, if_gives, either_gives, happens_gives}

no_entry : (wait : Wait) → is_entry (counting.blocked_at_of wait) ≡ false
no_entry ForYield = refl
no_entry (ForSet index) = refl
no_entry (ForCall callee) = refl
no_entry (ForCopy index) = refl
no_entry (ForCancel index) = refl

-- A task that may enter is at nothing.
at_nothing : (flag : ℕ → Bool) (a : TaskState) → (is_new (counting.phase_of flag a) || waits_to_enter (counting.phase_of flag a)) ≡ true → errand_of a ≡ errand.None
at_nothing flag New may = refl
at_nothing flag Acting may = refl
at_nothing flag (AfterCall callee number words) may = absurd (let w : ⊥ = cc in w)
at_nothing flag (AfterCancel callee number words) may = absurd (let w : ⊥ = cc in w)
at_nothing flag (Begins n) may = absurd (let w : ⊥ = cc in w)
at_nothing flag WaitsToEnter may = refl
at_nothing flag (InLoop word) may = refl
at_nothing flag (InBuiltin number words wait) may = absurd (let none : is_entry (counting.blocked_at_of wait) ≡ false = no_entry wait in let w : ⊥ = cc in w)
at_nothing flag Exited may = refl

entered_pressure : (t : ℕ) (kind : Kind) (gt : GateView) → (gate.entered t kind gt).pressure ≡ gt.pressure
entered_pressure t kind gt = by (needs_entry kind)
  where
    by : (b : Bool) → (if b then held_by t gt else gt).pressure ≡ gt.pressure
    by true = refl
    by false = refl

module _ (g : Graph) (values : List ValType) (s : Script) (stacks : List (List Stack)) (h : Held) where
  -- What is known on the way.
  pub record Stage (lines : List Label) (w : World) (k : Held) : Type 0 where
    pub marked : StandsMarked g values s k stacks w
    pub told : k.labels ≡ h.labels ++ lines
    pub memories : k.memories ≡ h.memories
    pub same_tasks : callees_of k.tasks ≡ callees_of h.tasks

  abbrev StagesBy : List Label → World → Done (Unit {0}) → Type 0
  StagesBy lines w d = AllGive (λ done k. Stage lines w k) d

  regated : (lines : List Label) (w : World) (k : Held) (at : ℕ) (i : InstanceView) (gt : GateView) → slice_get k.instances at ≡ Some i → gt.pressure ≡ i.gate.pressure → Stage lines w k
      → Stage lines w (with_instance at (with_gate gt i) k)
  regated lines w k at i gt there same st = record {
    marked = record {
      stands = instances_stay g values s k stacks w at i (with_gate gt i) there (λ a now. entry_is_not_said values i a gt same now) st.marked.stands;
      ends = same_entries_stay_marked k.instances k.streams k.futures at i (with_gate gt i) there refl st.marked.ends;
      lends = lends_kept k.instances w w at i (with_gate gt i) there (λ j e is. is) (λ n j. refl) st.marked.lends;
    };
    told = st.told;
    memories = st.memories;
    same_tasks = st.same_tasks;
  }

  unwaits : (lines : List Label) (w : World) (t at : ℕ) (k : Held) → Stage lines w k → StagesBy lines w (unwaited t at k)
  unwaits lines w t at k st =
      after_gives (λ done l. Stage lines w l) (λ done l. Stage lines w l) (gate_unwaited at k) (λ done l. unparked t l)
      (given_gives (λ done l. Stage lines w l) (slice_get k.instances at)
      (λ i. if nat_lt 0 i.gate.waiting then Gives tt (with_instance at (with_gate (without_wait i.gate) i) k) else kept.Stuck)
      (λ i there. if_gives (λ done l. Stage lines w l) (nat_lt 0 i.gate.waiting) (Gives tt (with_instance at (with_gate (without_wait i.gate) i) k))
      (regated lines w k at i (without_wait i.gate) there refl st)))
      (λ done l now. record {
        marked = record { stands = now.marked.stands; ends = now.marked.ends; lends = now.marked.lends };
        told = now.told;
        memories = now.memories;
        same_tasks = now.same_tasks;
      })

  gate_lets : (lines : List Label) (w : World) (t at : ℕ) (kind : Kind) (k : Held) → Stage lines w k → StagesBy lines w (gate_entered at t kind k)
  gate_lets lines w t at kind k st =
      given_gives (λ done l. Stage lines w l) (slice_get k.instances at) (λ i. Gives tt (with_instance at (with_gate (gate.entered t kind i.gate) i) k))
      (λ i there. regated lines w k at i (gate.entered t kind i.gate) there (entered_pressure t kind i.gate) st)

  -- It acts.
  acts_now : (lines : List Label) (w : World) (t : ℕ) (k : Held) → Stage lines w k → StagesBy lines (in_state t Acting w) (happens t event.Enter k)
  acts_now lines w t k st =
      happens_gives (λ done l. Stage lines (in_state t Acting w) l) event.Enter t k (λ x. refl)
      (λ x there may.
      (let y : TaskSlot = slots.with_task (task_of.after event.Enter x.task) x in
      record {
        marked = record {
          stands = tasks_change g values s k stacks w t x y (λ task. record task { state = Acting }) there (λ a found now. acting g s x a may now) (λ a. refl) st.marked.stands;
          ends = st.marked.ends;
          lends = λ at index i z inst is. st.marked.lends at index i z inst is ∙ sym (lends_in_state w t Acting at index);
        };
        told = st.told;
        memories = st.memories;
        same_tasks = seen_set (λ (slot : TaskSlot). slot.callee) k.tasks t x y there refl ∙ st.same_tasks;
      }))
    where
      acting : (g : Graph) (s : Script) (x : TaskSlot) (a : Task) → task_of.may_happen event.Enter x.task ≡ true → TaskStands g s x a
          → TaskStands g s (slots.with_task (task_of.after event.Enter x.task) x) (record a { state = Acting })
      acting g s x a may now = record {
        does = now.does;
        place = now.place;
        lifted = now.lifted;
        called = now.called;
        seen = now.seen;
        far = refl;
        at = now.at ∙ at_nothing (flag_at g) a.state (ap (λ (q : Phase). is_new q || waits_to_enter q) (sym now.far) ∙ may);
        resolved = now.resolved;
        cancelled = now.cancelled;
        words = now.words;
        placed = tt;
      }

  -- Its caller is to be told.
  raises : (lines : List Label) (w : World) (t : ℕ) (k : Held) → Stage lines w k → StagesBy lines w (raised t state.Started k)
  raises lines w t k st =
      given_gives (λ done l. Stage lines w l) (slice_get k.tasks t) (λ slot. if callers.may_raise state.Started slot.caller then Gives tt (with_task t (raised_slot state.Started slot) k) else kept.Stuck)
      (λ x there. if_gives (λ done l. Stage lines w l) (callers.may_raise state.Started x.caller) (Gives tt (with_task t (raised_slot state.Started x) k))
      (record {
        marked = record {
          stands = tasks_stay g values s k stacks w t x (raised_slot state.Started x) there (λ a now. raised_stands g s state.Started x a now) st.marked.stands;
          ends = st.marked.ends;
          lends = st.marked.lends;
        };
        told = st.told;
        memories = st.memories;
        same_tasks = seen_set (λ (slot : TaskSlot). slot.callee) k.tasks t x (raised_slot state.Started x) there refl ∙ st.same_tasks;
      }))

  first_stage : (w : World) → StandsMarked g values s h stacks w → Stage [] w h
  first_stage w marked = record { marked = marked; told = sym (append-nil h.labels); memories = refl; same_tasks = refl }

  enters_so : (w : World) (t : ℕ) → StandsMarked g values s h stacks w → StagesBy (line.Enter t ∷ []) (in_state t Acting w) (enters t h)
  unfolding enters
  enters_so w t marked =
      let At : Unit {0} → Held → Type 0 = λ done k. Stage [] w k in
      let Acts : Unit {0} → Held → Type 0 = λ done k. Stage [] (in_state t Acting w) k in
      let Ends : Unit {0} → Held → Type 0 = λ done k. Stage (line.Enter t ∷ []) (in_state t Acting w) k in
      after_gives (λ (n : ℕ) k. Stage [] w k) Ends (instance_of t h) _ (given_gives (λ (n : ℕ) k. Stage [] w k) (slice_get h.tasks t) (λ slot. Gives slot.instance h) (λ slot there. first_stage w marked))
      (λ at k one.
      after_gives (λ (kind : Kind) l. Stage [] w l) Ends (kind_of t k) _ (given_gives (λ (kind : Kind) l. Stage [] w l) (slice_get k.tasks t) (λ slot. Gives slot.task.kind k) (λ slot there. one))
      (λ kind l two.
      after_gives (λ (far : Phase) m. Stage [] w m) Ends (phase_of t l) _ (given_gives (λ (far : Phase) m. Stage [] w m) (slice_get l.tasks t) (λ slot. Gives slot.task.phase l) (λ slot there. two))
      (λ far m three.
      after_gives At Ends (unwaited_if (going.waits_to_enter far) t at m) _ (either_gives At (going.waits_to_enter far) (unwaited t at m) (Gives (tt {0}) m) (unwaits [] w t at m three) three)
      (λ done n four.
      after_gives At Ends (gate_entered at t kind n) _ (gate_lets [] w t at kind n four)
      (λ done o five.
      after_gives Acts Ends (happens t event.Enter o) _ (acts_now [] w t o five)
      (λ done p six.
      after_gives Acts Ends (raised t state.Started p) (λ done q. told (line.Enter t) q) (raises [] (in_state t Acting w) t p six)
      (λ done q seven. record {
        marked = record { stands = seven.marked.stands; ends = seven.marked.ends; lends = seven.marked.lends };
        told = ap (λ (ls : List Label). ls ++ line.Enter t ∷ []) (seven.told ∙ append-nil h.labels);
        memories = seven.memories;
        same_tasks = seven.same_tasks;
      })))))))

  -- with what it runs
  pub record EntersAs (w : World) (t : ℕ) (callee : Callee) (k : Held) : Type 0 where
    pub stage : Stage (line.Enter t ∷ []) (in_state t Acting w) k
    pub slot : TaskSlot
    pub there : slice_get k.tasks t ≡ Some slot
    pub runs : slot.callee ≡ callee

  pub entered_so : (w : World) (t : ℕ) → StandsMarked g values s h stacks w → AllGive (λ callee k. EntersAs w t callee k) (entered t h)
  entered_so w t marked =
      after_gives (λ done k. Stage (line.Enter t ∷ []) (in_state t Acting w) k) (λ callee k. EntersAs w t callee k) (enters t h) (λ done k. callee_of t k) (enters_so w t marked)
      (λ done k now. given_gives (λ callee k. EntersAs w t callee k) (slice_get k.tasks t) (λ slot. Gives slot.callee k)
      (λ slot there. record { stage = now; slot = slot; there = there; runs = refl }))

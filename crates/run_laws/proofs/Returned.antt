-- A task that returns: the tests of `task.return`, and its line.
use Rattle.std.proofs.Common.{◌≡◌, ℕ, nat_lt, Bool, true, false, not, is_some, if◌then◌else◌, List, [], ◌∷◌, ◌++◌, refl, sym, ap, ◌∙◌, subst, Option, Some, None, Err}
use Rattle.std.specs.List.{slice_get}
use Rattle.wasm_store.specs.Stack.{Stack}
use Rattle.syntax_trees.specs.declared.types.ValType.{ValType}
use Rattle.tasks.specs.declared.event.TaskEvent.TheVariants as event
use Rattle.tasks.specs.declared.event.TaskTrap.{TaskTrap}
use Rattle.tasks.specs.declared.event.TaskTrap.TheVariants as task_trap
use Rattle.tasks.specs.declared.phase.Resolution.{Resolution}
use Rattle.tasks.specs.declared.phase.Resolution.TheVariants as resolution
use Rattle.tasks.specs.declared.subtask_state.SubtaskState.TheVariants as state
use Rattle.tasks.specs.Tasks as task_of
use Rattle.tasks.specs.Tasks.{is_acting, fault, resolving_fault}
use Rattle.comp_graph.specs.Graph.{Graph}
use Rattle.script_reader.specs.Script.{Script}
use Rattle.trace_labels.specs.declared.label.Label.{Label}
use Rattle.trace_labels.specs.declared.label.Label.TheVariants as line
use Rattle.trace_labels.specs.declared.trap.TrapName.{TrapName}
use Rattle.trace_labels.specs.declared.trap.TrapName.TheVariants as trap
use Rattle.trace_labels.specs.declared.typed.TypedValue.{TypedValue}
use Rattle.task_table.specs.declared.refusal.EventError.TheVariants.{NotNow}
use Rattle.task_table.specs.declared.slot.TaskSlot.{TaskSlot}
use Rattle.task_table.specs.Callers as callers
use Rattle.task_table.specs.Slots as slots
use Rattle.task_table.specs.Slots.{event_answer, advanced_slot, raised_slot}
use Rattle.return_replies.specs.Returns as tests
use Rattle.world_parts.specs.Held as kept
use Rattle.world_parts.specs.Held.{Held, Done, Gives, Traps, after, given}
use Rattle.world_parts.specs.Feed.{told}
use Rattle.world_parts.specs.Plain.{returned}
use Rattle.world_parts.specs.Slots.{with_task, happened, happens, raised}
use Rattle.abi_machine.specs.Control.{After, Doomed}
use Rattle.abi_machine.specs.World.{Task, World}
use Rattle.abi_machine.specs.Edits as world
use Rattle.abi_machine.specs.Counting.{borrows_of, task_view}
use Rattle.abi_machine.specs.Returning.{passed_on, resolves_to}
use Rattle.abi_machine.specs.replies.Tasks.{same_address}
use Rattle.abi_machine.specs.SameTypes as machine
use Rattle.abi_machine.specs.Traps as traps
use Rattle.abi_machine.specs.Turn.{Turn, behind, unless, unless_fault}
use Rattle.standing.specs.Tasks.{TaskStands}
use Rattle.standing.specs.Stands.{Stands}
use Rattle.standing.specs.Reaching.{Meets}
use Rattle.standing.specs.Leading.{ComesBy}
use Rattle.standing.proofs.Agreeing.{get_set}
use Rattle.standing.proofs.Backing.{tasks_stay}
use Rattle.standing.proofs.Blocking.{happens_when}
use Rattle.standing.proofs.Changes.{tasks_change}
use Rattle.standing.proofs.Resolved.{names_same, raised_stands}
use Rattle.run_laws.specs.Lifted.{callees_of}
use Rattle.run_laws.specs.Results.{LeadsOnBy}
use Rattle.run_laws.proofs.Moved.{seen_set}
use Rattle.run_laws.proofs.LeadsOn.{behind_both, told_more, doom}

-- The same types, and the same memories.
pub held_same : (a b : Option ValType) → tests.same_held a b ≡ machine.same_held a b
held_same None None = refl
held_same None (Some wanted) = refl
held_same (Some type) None = refl
held_same (Some type) (Some wanted) = refl

pub memory_same : (a b : Option ℕ) → tests.same_memory a b ≡ same_address a b
memory_same (Some address) (Some other) = refl
memory_same (Some address) None = refl
memory_same None other = refl

module _ (g : Graph) (values : List ValType) (s : Script) (t : ℕ) (u : World) (before : List Label) (stacks : List (List Stack)) where
  abbrev Leads : {A : Type 0} → (A → Held → Type 0) → Done A → Type 0
  Leads G d = LeadsOnBy g values s t u before stacks G d

  -- Both tests are passed, and then this comes.
  pub record IsTested (h : Held) (a : Bool) (lines ahead : List Label) (more : Turn) (k : Held) : Type 0 where
    pub same : k ≡ h
    pub passed : a ≡ true
    pub meets : Meets g s u lines (behind ahead more)

  pub tested : (h : Held) (w : World) (lines ahead : List Label) (a b : Bool) (more : Turn) → h.labels ≡ before ++ (lines ++ ahead) → Stands g values s h stacks w
      → Meets g s u lines (behind ahead (unless t (not a) trap.WrongResult w (unless t (not b) trap.WrongOptions w more)))
      → Leads (λ (done : Unit {0}) k. IsTested h a lines ahead more k) (if not a then Traps trap.WrongResult h else if not b then Traps trap.WrongOptions h else Gives tt h)
  tested h w lines ahead false b more told st meets = doom g values s t u before stacks h w lines ahead trap.WrongResult told st meets
  tested h w lines ahead true false more told st meets = doom g values s t u before stacks h w lines ahead trap.WrongOptions told st meets
  tested h w lines ahead true true more told st meets = record { same = refl; passed = refl; meets = meets }

  -- The task has returned, by its line.
  pub record HasReturned (value : Option TypedValue) (h : Held) (w : World) (task : Task) (next : After) (lines ahead : List Label) (k : Held) : Type 0 where
    pub stands : Stands g values s k stacks (world.resolved t resolution.Returned w)
    pub told : k.labels ≡ before ++ (lines ++ (ahead ++ line.Return t value ∷ []))
    pub meets : Meets g s u lines (behind (ahead ++ line.Return t value ∷ []) (passed_on g t task.caller next value (world.resolved t resolution.Returned w)))
    pub memories : k.memories ≡ h.memories
    pub same_tasks : callees_of k.tasks ≡ callees_of h.tasks

  module _ (value : Option TypedValue) (h : Held) (w : World) (task now : Task) (next : After) (lines ahead : List Label) (x : TaskSlot) (there : slice_get h.tasks t ≡ Some x)
      (alike : TaskStands g s x now) (count : x.task.borrows ≡ borrows_of w t) (same : now.resolution ≡ task.resolution) (labels : h.labels ≡ before ++ (lines ++ ahead))
      (st : Stands g values s h stacks w) (meets : Meets g s u lines (behind ahead (resolves_to g t task next value w))) where
    abbrev Returns : Unit {0} → Held → Type 0
    Returns done k = HasReturned value h w task next lines ahead k

    abbrev rest : Done (Unit {0}) → Done (Unit {0})
    rest d = after d (λ done k. after (told (line.Return t value) k) (λ done l. raised t state.Returned l))

    abbrev by_fault : Option Resolution → ℕ → Option TaskTrap
    by_fault r n = if is_some r then Some task_trap.Resolved else (if nat_lt 0 n then Some task_trap.BorrowLives else None)

    fault_same : resolving_fault x.task ≡ resolving_fault (task_view g w t task)
    fault_same = ap (λ (r : Option Resolution). by_fault r x.task.borrows) (alike.resolved ∙ same) ∙ ap (λ (n : ℕ). by_fault task.resolution n) count

    abbrev turn : Turn
    turn = passed_on g t task.caller next value (world.resolved t resolution.Returned w)

    meets_by : (o : Option TaskTrap) → resolving_fault x.task ≡ o → Meets g s u lines (behind ahead (unless_fault t traps.task_name o w (behind (line.Return t value ∷ []) turn)))
    unfolding resolves_to
    meets_by o is =
        subst (λ (q : Option TaskTrap). Meets g s u lines (behind ahead (unless_fault t traps.task_name q w (behind (line.Return t value ∷ []) turn)))) (sym fault_same ∙ is) meets

    abbrev happening : Option TaskSlot → Done (Unit {0})
    happening o = given o (λ slot. happened (event_answer event.Return slot.task) t (advanced_slot event.Return slot) h)

    not_now : is_acting x.task.phase ≡ false → Leads Returns (rest (happens t event.Return h))
    not_now never =
        subst (λ (d : Done (Unit {0})). Leads Returns (rest d))
        (sym (ap happening there
        ∙ ap (λ (b : Bool). happened (if b then slots.trapped (fault event.Return x.task) else Err NotNow) t (if b then slots.with_task (task_of.advanced event.Return x.task) x else x) h) never)) tt

    refused : is_acting x.task.phase ≡ true → (why : TaskTrap) → resolving_fault x.task ≡ Some why → Leads Returns (rest (happens t event.Return h))
    refused may why is =
        subst (λ (d : Done (Unit {0})). Leads Returns (rest d))
        (sym (ap happening there
        ∙ ap (λ (b : Bool). happened (if b then slots.trapped (fault event.Return x.task) else Err NotNow) t (if b then slots.with_task (task_of.advanced event.Return x.task) x else x) h) may
        ∙ ap (λ (f : Option TaskTrap). happened (slots.trapped f) t (slots.with_task (task_of.unless f (task_of.after event.Return x.task) x.task) x) h) is))
        (subst (λ (name : TrapName). ComesBy g values s u before (with_task t x h) stacks (λ v. v.control ≡ Doomed t name)) (sym (names_same why))
        (doom g values s t u before stacks (with_task t x h) w lines ahead (traps.task_name why) labels (tasks_stay g values s h stacks w t x x there (λ a now. now) st) (meets_by (Some why) is)))

    abbrev y : TaskSlot
    y = slots.with_task (record x.task { resolution = Some resolution.Returned }) x

    abbrev lined : Held
    lined = record h { tasks = (with_task t y h).tasks; labels = h.labels ++ line.Return t value ∷ [] }

    abbrev z : World
    z = world.resolved t resolution.Returned w

    y_stands : Stands g values s lined stacks z
    y_stands =
        tasks_change g values s h stacks w t x y (λ a. record a { resolution = Some resolution.Returned }) there
        (λ a found now. record {
          does = now.does;
          place = now.place;
          lifted = now.lifted;
          called = now.called;
          seen = now.seen;
          far = now.far;
          at = now.at;
          resolved = refl;
          cancelled = now.cancelled;
          words = now.words;
          placed = now.placed;
        }) (λ a. refl) st

    y_there : slice_get lined.tasks t ≡ Some y
    y_there = get_set h.tasks t x y there

    raises : (b : Bool) → resolving_fault x.task ≡ None → Leads Returns (if b then Gives (tt {0}) (with_task t (raised_slot state.Returned y) lined) else kept.Stuck)
    raises true none = record {
      stands = tasks_stay g values s lined stacks z t y (raised_slot state.Returned y) y_there (λ a now. raised_stands g s state.Returned y a now) y_stands;
      told = told_more before lines ahead (line.Return t value ∷ []) h.labels (h.labels ++ line.Return t value ∷ []) labels refl;
      meets = subst (λ (q : Turn). Meets g s u lines q) (behind_both ahead (line.Return t value ∷ []) turn) (meets_by None none);
      memories = refl;
      same_tasks = seen_set (λ (slot : TaskSlot). slot.callee) lined.tasks t y (raised_slot state.Returned y) y_there refl ∙ seen_set (λ (slot : TaskSlot). slot.callee) h.tasks t x y there refl;
    }
    raises false none = tt

    returns_so : is_acting x.task.phase ≡ true → resolving_fault x.task ≡ None → Leads Returns (rest (happens t event.Return h))
    returns_so may none =
        subst (λ (d : Done (Unit {0})). Leads Returns (rest d)) (sym (happens_when event.Return x t h there may none))
        (subst (λ (o : Option TaskSlot). Leads Returns (given o (λ slot. if callers.may_raise state.Returned slot.caller then Gives (tt {0}) (with_task t (raised_slot state.Returned slot) lined) else kept.Stuck)))
        (sym y_there) (raises (callers.may_raise state.Returned y.caller) none))

    by_may : (b : Bool) (o : Option TaskTrap) → is_acting x.task.phase ≡ b → resolving_fault x.task ≡ o → Leads Returns (rest (happens t event.Return h))
    by_may false o may is = not_now may
    by_may true (Some why) may is = refused may why is
    by_may true None may is = returns_so may is

    pub returned_leads : Leads Returns (returned t value h)
    unfolding returned
    returned_leads = by_may (is_acting x.task.phase) (resolving_fault x.task) refl refl

-- The lines of a step tell what each task resolves to: what they told last is what it has resolved to.
use Rattle.std.proofs.Common.{◌≡◌, inl, inr, ℕ, zero, suc, Bool, true, false, nat_eq, List, [], ◌∷◌, ◌++◌, length, refl, sym, ap, ◌∙◌, subst, arith, Option, Some, None, if◌then◌else◌}
use Rattle.std.proofs.lemmas.Bool.Decides.{nat_tests}
use Rattle.std.specs.List.{slice_get}
use Rattle.builtin_kinds.specs.declared.EndKind.{EndKind}
use Rattle.builtin_kinds.specs.declared.EndKind.TheVariants.{Stream, Future}
use Rattle.syntax_trees.specs.declared.types.ValType.{ValType}
use Rattle.tasks.specs.declared.phase.Resolution.{Resolution}
use Rattle.tasks.specs.declared.phase.Resolution.TheVariants.{Returned, Cancelled}
use Rattle.comp_graph.specs.Graph.{Graph}
use Rattle.script_reader.specs.Script.{Script}
use Rattle.trace_labels.specs.declared.label.Label.{Label}
use Rattle.trace_labels.specs.declared.label.Label.TheVariants as line
use Rattle.abi_machine.specs.World.{Host, Guest, TaskState, New, Acting, AfterCall, AfterCancel, WaitsToEnter, InLoop, InBuiltin, Exited, Channel, Task, World, new_task, first_world}
use Rattle.abi_machine.specs.World as world
use Rattle.abi_machine.specs.Edits.{changed_at, with_channel, channel_made}
use Rattle.abi_machine.specs.Turn.{Steps}
use Rattle.abi_machine.specs.Next.{next}
use Rattle.abi_machine.specs.Run.{Reaches, lines_of}
use Rattle.abi_machine.specs.sound.Changes.{Change, GoesTo, HasStore, SpendsUnit, UsesPicks, TakesItem, BeginsInstance, AddsEntry, MakesSet, RemovesEntry, RemovesWaitable, LeavesSet, JoinsSet, HasBackpressure, IsCalled, Calls, ComesBack, Acts, Begins, Cancels, Blocks, Exits, IsRemoved, Resolves, IsCancelled, HasWord, HasNewStack, HasStack, LosesStack, IsAnswered, IsTold, IsLent, HasResult, MakesChannel, Offers, Transfers, Concludes, DropsEnd, after}
use Rattle.abi_machine.specs.sound.Premises.{Comes}
use Rattle.abi_machine.specs.sound.Initial.{RunsAlone}
use Rattle.abi_machine.specs.sound.Lines as mark
use Rattle.abi_machine.specs.sound.Lines.{Mark, with_exit, marks_of}
use Rattle.abi_machine.proofs.sound.Found.{changed_there}
use Rattle.abi_machine.proofs.sound.Chained.{other_there, same_or_not}
use Rattle.abi_machine.proofs.sound.Marks.{marks_both, entry_by, entry_marks, marks_by}
use Rattle.abi_machine.proofs.sound.Alone.{marked_so, stays_alone, first_runs_alone}
use Rattle.task_laws.specs.TaskLines.{told_of}
use Rattle.task_laws.specs.TaskLines as told
use Rattle.task_laws.specs.TasksTold.{resolved_by}

abbrev pub resolution_of : Option Task → Option Resolution
resolution_of None = None
resolution_of (Some task) = task.resolution

abbrev pub resolution_in : List Task → ℕ → Option Resolution
resolution_in tasks t = resolution_of (slice_get tasks t)

abbrev resolution_behind : ℕ → Mark → Option Resolution → Option Resolution
resolution_behind t (mark.Returns n) r = if nat_eq n t then Some Returned else r
resolution_behind t (mark.IsCancelled n) r = if nat_eq n t then Some Cancelled else r
resolution_behind t other r = r

abbrev pub resolution_along : ℕ → List Mark → Option Resolution → Option Resolution
resolution_along t [] r = r
resolution_along t (m ∷ marks) r = resolution_along t marks (resolution_behind t m r)

along_both : (t : ℕ) (xs ys : List Mark) (r : Option Resolution) → resolution_along t (xs ++ ys) r ≡ resolution_along t ys (resolution_along t xs r)
along_both t [] ys r = refl
along_both t (x ∷ xs) ys r = along_both t xs ys _

module _ (t : ℕ) where
  kept : (u : ℕ) (f : Task → Task) (tasks : List Task) (n : ℕ) → ((x : Task) → (f x).resolution ≡ x.resolution) → resolution_in (changed_at u f tasks) n ≡ resolution_in tasks n
  kept u f [] n keeps = refl
  kept zero f (x ∷ tasks) zero keeps = keeps x
  kept zero f (x ∷ tasks) (suc n) keeps = refl
  kept (suc u) f (x ∷ tasks) zero keeps = refl
  kept (suc u) f (x ∷ tasks) (suc n) keeps = kept u f tasks n keeps

  made : (tasks : List Task) (x : Task) (n : ℕ) → x.resolution ≡ None → resolution_in (tasks ++ x ∷ []) n ≡ resolution_in tasks n
  made [] x zero e = e
  made [] x (suc n) e = refl
  made (y ∷ tasks) x zero e = refl
  made (y ∷ tasks) x (suc n) e = made tasks x n e

  same : (u : ℕ) (f : Task → Task) (tasks : List Task) → ((x : Task) → (f x).resolution ≡ x.resolution) → resolution_in tasks t ≡ resolution_in (changed_at u f tasks) t
  same u f tasks keeps = sym (kept u f tasks t keeps)

  enters_same : (u : ℕ) (o : Option Task) (r : Option Resolution) → resolution_along t (entry_marks u o) r ≡ r
  enters_same u None r = refl
  enters_same u (Some task) r = by task.state
    where
      by : (state : TaskState) → resolution_along t (entry_by u state) r ≡ r
      by New = refl
      by WaitsToEnter = refl
      by Acting = refl
      by (AfterCall callee number words) = refl
      by (AfterCancel callee number words) = refl
      by (world.Begins n) = refl
      by (InLoop word) = refl
      by (InBuiltin number words wait) = refl
      by Exited = refl

  exit_same : (u : ℕ) (r : Option Resolution) → resolution_along t (with_exit u []) r ≡ r
  exit_same zero r = refl
  exit_same (suc u) r = refl

  number_is : (u : ℕ) → u ≡ t → nat_eq u t ≡ true
  number_is u e = grind (arith, nat_tests)

  number_not : (u : ℕ) → (u ≡ t → ⊥) → nat_eq u t ≡ false
  number_not u other = grind (arith, nat_tests)

  -- a task that is there resolves
  set_so : (u : ℕ) (resolution : Resolution) (tasks : List Task) (x : Task) → slice_get tasks u ≡ Some x
      → (if nat_eq u t then Some resolution else resolution_in tasks t) ≡ resolution_in (changed_at u (λ task. record task { resolution = Some resolution }) tasks) t
  set_so u resolution tasks x there = elim (same_or_not u t) [
    | inl e ↦ ap (λ (b : Bool). if b then Some resolution else resolution_in tasks t) (number_is u e)
        ∙ subst (λ (n : ℕ). Some resolution ≡ resolution_in (changed_at u f tasks) n) e (sym (ap resolution_of (changed_there u f tasks x there)))
    | inr other ↦ ap (λ (b : Bool). if b then Some resolution else resolution_in tasks t) (number_not u other) ∙ ap resolution_of (sym (other_there u t f tasks other))
  ]
    where
      f : Task → Task
      f task = record task { resolution = Some resolution }

  abbrev Tells : Change → World → World → Type 0
  Tells c w v = resolution_along t (marks_by c w) (resolution_in w.tasks t) ≡ resolution_in v.tasks t

  along_channel : (kind : EndKind) (n : ℕ) (f : Channel → Channel) (w : World) → resolution_in (with_channel kind n f w).tasks t ≡ resolution_in w.tasks t
  along_channel Stream n f w = refl
  along_channel Future n f w = refl

  along_made : (kind : EndKind) (element : Option ValType) (w : World) → resolution_in (channel_made kind element w).tasks t ≡ resolution_in w.tasks t
  along_made Stream element w = refl
  along_made Future element w = refl

  told_by : (g : Graph) (s : Script) (c : Change) (w : World) → Comes g s c w → Tells c w (after c w)
  told_by g s (IsCalled callee call values) w may = sym (made w.tasks (new_task callee (Host call values) New) t refl)
  told_by g s (Calls number callee subtask words) w may =
      let f : Task → Task = λ task. record task { state = AfterCall (length w.tasks) number words } in
      same subtask.by f w.tasks (λ x. refl) ∙ sym (made (changed_at subtask.by f w.tasks) (new_task callee (Guest subtask) New) t refl)
  told_by g s (Acts u) w may = enters_same u (slice_get w.tasks u) (resolution_in w.tasks t) ∙ same u _ w.tasks (λ x. refl)
  told_by g s (Begins n) w may = same 0 _ w.tasks (λ x. refl)
  told_by g s (Cancels u callee n words) w may = same u _ w.tasks (λ x. refl)
  told_by g s (Blocks u state) w may = same u _ w.tasks (λ x. refl)
  told_by g s (Exits u) w may = exit_same u (resolution_in w.tasks t) ∙ same u _ w.tasks (λ x. refl)
  told_by g s (IsRemoved u) w may =
      exit_same u _ ∙ (set_so u Cancelled w.tasks may.1.0 may.1.1 ∙ same u (λ task. record task { state = Exited }) (changed_at u (λ task. record task { resolution = Some Cancelled }) w.tasks) (λ x. refl))
  told_by g s (Resolves u Returned) w may = set_so u Returned w.tasks may.0.0 may.0.1
  told_by g s (Resolves u Cancelled) w may = set_so u Cancelled w.tasks may.0.0 may.0.1
  told_by g s (IsCancelled u cancellation) w may = same u _ w.tasks (λ x. refl)
  told_by g s (HasWord u slot word) w may = same u _ w.tasks (λ x. refl)
  told_by g s (HasNewStack u k) w may = same u _ w.tasks (λ x. refl)
  told_by g s (HasStack u k) w may = same u _ w.tasks (λ x. refl)
  told_by g s (LosesStack u) w may = same u _ w.tasks (λ x. refl)
  told_by g s (IsAnswered u words) w may = same u _ w.tasks (λ x. refl)
  told_by g s (IsTold u state) w may = same u _ w.tasks (λ x. refl)
  told_by g s (IsLent u handle) w may = same u _ w.tasks (λ x. refl)
  told_by g s (HasResult u words) w may = same u _ w.tasks (λ x. refl)
  told_by g s (MakesChannel kind element) w may = sym (along_made kind element w)
  told_by g s (Offers e call) w may = sym (along_channel e.kind e.number _ w)
  told_by g s (Transfers e size values) w may = sym (along_channel e.kind e.number _ _ ∙ along_channel e.kind e.number _ w)
  told_by g s (Concludes e) w may = sym (along_channel e.kind e.number _ w)
  told_by g s (DropsEnd e) w may = sym (along_channel e.kind e.number _ w)
  told_by g s (GoesTo control) w may = refl
  told_by g s (HasStore store) w may = refl
  told_by g s SpendsUnit w may = refl
  told_by g s (UsesPicks picks) w may = refl
  told_by g s TakesItem w may = refl
  told_by g s BeginsInstance w may = refl
  told_by g s (AddsEntry i entry) w may = refl
  told_by g s (MakesSet i set) w may = refl
  told_by g s (RemovesEntry i index) w may = refl
  told_by g s (RemovesWaitable i index) w may = refl
  told_by g s (LeavesSet i index) w may = refl
  told_by g s (JoinsSet i index set) w may = refl
  told_by g s (HasBackpressure i pressure) w may = refl
  told_by g s (ComesBack u) w may = refl

step_tells : (g : Graph) (s : Script) (w v : World) (labels : List Label) → RunsAlone w → next g s w ≡ Steps labels v → (t : ℕ) → resolution_along t (marks_of labels) (resolution_in w.tasks t) ≡ resolution_in v.tasks t
step_tells g s w v labels alone e t =
    marked_so g s (λ marks u. resolution_along t marks (resolution_in w.tasks t) ≡ resolution_in u.tasks t)
    (λ marks c u may is k. along_both t marks (marks_by c u) (resolution_in w.tasks t) ∙ (ap (resolution_along t (marks_by c u)) k ∙ told_by t g s c u may)) w v labels alone refl e

tells_from : (g : Graph) (s : Script) (t : ℕ) (steps : List (List Label)) (w v : World) → RunsAlone w → Reaches g s w steps v → resolution_along t (marks_of (lines_of steps)) (resolution_in w.tasks t) ≡ resolution_in v.tasks t
tells_from g s t [] w v alone r = ap (λ (u : World). resolution_in u.tasks t) (sym r)
tells_from g s t (labels ∷ steps) w v alone r =
    ap (λ (marks : List Mark). resolution_along t marks (resolution_in w.tasks t)) (marks_both labels (lines_of steps))
    ∙ (along_both t (marks_of labels) (marks_of (lines_of steps)) (resolution_in w.tasks t)
    ∙ (ap (resolution_along t (marks_of (lines_of steps))) (step_tells g s w r.0 labels alone r.1 t)
    ∙ tells_from g s t steps r.0 v (stays_alone g s w r.0 labels alone r.1) r.2))

-- By lines in place of marks.
skips : (t : ℕ) (b : Bool) (m : told.Milestone) (r : Option Resolution) (more : List told.Milestone) → ((q : Option Resolution) → resolved_by q (m ∷ more) ≡ resolved_by q more)
    → resolved_by r ((if b then m ∷ [] else []) ++ more) ≡ resolved_by r more
skips t true m r more over = over r
skips t false m r more over = refl

sets : (b : Bool) (m : told.Milestone) (resolution : Resolution) (r : Option Resolution) (more : List told.Milestone) → ((q : Option Resolution) → resolved_by q (m ∷ more) ≡ resolved_by (Some resolution) more)
    → resolved_by r ((if b then m ∷ [] else []) ++ more) ≡ resolved_by (if b then Some resolution else r) more
sets true m resolution r more so = so r
sets false m resolution r more so = refl

exit_along : (t n : ℕ) (marks : List Mark) (r : Option Resolution) → resolution_along t (with_exit n marks) r ≡ resolution_along t marks r
exit_along t zero marks r = refl
exit_along t (suc n) marks r = refl

by_lines : (t : ℕ) (labels : List Label) (r : Option Resolution) → resolution_along t (marks_of labels) r ≡ resolved_by r (told_of t labels)
by_lines t [] r = refl
by_lines t (line.Take call n name values ∷ labels) r = by_lines t labels r ∙ sym (skips t (nat_eq n t) told.IsMade r (told_of t labels) (λ q. refl))
by_lines t (line.Call caller n instance ∷ labels) r = by_lines t labels r ∙ sym (skips t (nat_eq n t) told.IsMade r (told_of t labels) (λ q. refl))
by_lines t (line.Enter n ∷ labels) r = by_lines t labels r ∙ sym (skips t (nat_eq n t) told.Enters r (told_of t labels) (λ q. refl))
by_lines t (line.Exit n ∷ labels) r = exit_along t n (marks_of labels) r ∙ (by_lines t labels r ∙ sym (skips t (nat_eq n t) told.Exits r (told_of t labels) (λ q. refl)))
by_lines t (line.Return n value ∷ labels) r = by_lines t labels _ ∙ sym (sets (nat_eq n t) told.Returns Returned r (told_of t labels) (λ q. refl))
by_lines t (line.Cancelled n ∷ labels) r = by_lines t labels _ ∙ sym (sets (nat_eq n t) told.IsCancelled Cancelled r (told_of t labels) (λ q. refl))
by_lines t (line.Cancel call ∷ labels) r = by_lines t labels r
by_lines t (line.Choose alternatives chosen ∷ labels) r = by_lines t labels r
by_lines t (line.Do n builtin words ∷ labels) r = by_lines t labels r
by_lines t (line.Got n words ∷ labels) r = by_lines t labels r
by_lines t (line.Block n reason ∷ labels) r = by_lines t labels r
by_lines t (line.Go n ∷ labels) r = by_lines t labels r
by_lines t (line.Event n code index payload ∷ labels) r = by_lines t labels r
by_lines t (line.Copy channel copied ∷ labels) r = by_lines t labels r
by_lines t (line.Lend instance handle n ∷ labels) r = by_lines t labels r
by_lines t (line.Unlend instance handle n ∷ labels) r = by_lines t labels r
by_lines t (line.Done ∷ labels) r = by_lines t labels r
by_lines t (line.Trap n why ∷ labels) r = by_lines t labels r
by_lines t (line.Deadlock tasks ∷ labels) r = by_lines t labels r
by_lines t (line.Fuel ∷ labels) r = by_lines t labels r

first_none : (g : Graph) (t : ℕ) → resolution_in (first_world g).tasks t ≡ None
first_none g zero = refl
first_none g (suc t) = refl

pub resolution_is_told : (g : Graph) (s : Script) (steps : List (List Label)) (w : World) → Reaches g s (first_world g) steps w → (t : ℕ) → resolution_in w.tasks t ≡ resolved_by None (told_of t (lines_of steps))
resolution_is_told g s steps w r t =
    sym (sym (by_lines t (lines_of steps) None)
    ∙ (ap (resolution_along t (marks_of (lines_of steps))) (sym (first_none g t)) ∙ tells_from g s t steps (first_world g) w (first_runs_alone g) r))

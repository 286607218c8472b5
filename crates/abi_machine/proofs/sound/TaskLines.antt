-- The lines of a step take each task from its stage before to the one behind.
use Rattle.std.proofs.Common.{◌≡◌, ◌≢◌, ◌≤◌, inl, inr, ℕ, zero, suc, Bool, true, false, nat_eq, List, [], ◌∷◌, ◌++◌, length, refl, sym, ap, ◌∙◌, subst, arith, Option, Some, None, if◌then◌else◌}
use Rattle.std.proofs.lemmas.Bool.Decides.{nat_tests}
use Rattle.std.specs.Prelude.{IsSome}
use Rattle.std.specs.List.{slice_get}
use Rattle.wasm_store.proofs.Lists.{all_at}
use Rattle.tasks.specs.declared.phase.Resolution.{Resolution}
use Rattle.tasks.specs.declared.phase.Resolution.TheVariants.{Returned, Cancelled}
use Rattle.comp_graph.specs.Graph.{Graph}
use Rattle.script_reader.specs.Script.{Script}
use Rattle.trace_labels.specs.declared.label.Label.{Label}
use Rattle.builtin_kinds.specs.declared.EndKind.{EndKind}
use Rattle.builtin_kinds.specs.declared.EndKind.TheVariants.{Stream, Future}
use Rattle.syntax_trees.specs.declared.types.ValType.{ValType}
use Rattle.abi_machine.specs.World.{Host, Guest, TaskState, New, Acting, AfterCall, AfterCancel, WaitsToEnter, InLoop, InBuiltin, Exited, Channel, Task, World, new_task, first_world}
use Rattle.abi_machine.specs.World as world
use Rattle.abi_machine.specs.Edits.{changed_at, with_channel, channel_made}
use Rattle.abi_machine.specs.Run.{Reaches, lines_of}
use Rattle.abi_machine.specs.sound.Changes.{Change, GoesTo, HasStore, SpendsUnit, UsesPicks, TakesItem, BeginsInstance, AddsEntry, MakesSet, RemovesEntry, RemovesWaitable, LeavesSet, JoinsSet, HasBackpressure, IsCalled, Calls, ComesBack, Acts, Begins, Cancels, Blocks, Exits, IsRemoved, Resolves, IsCancelled, HasWord, HasNewStack, HasStack, LosesStack, IsAnswered, IsTold, IsLent, HasResult, MakesChannel, Offers, Transfers, Concludes, DropsEnd, after, IsBlocked}
use Rattle.abi_machine.specs.sound.Premises.{BlocksFrom, IsRemovable, ExitsFrom, Comes, MayResolve}
use Rattle.abi_machine.specs.sound.Chain.{IsThere}
use Rattle.abi_machine.specs.sound.Entering.{HasNotEntered, EntersUnresolved, EnterUnresolved}
use Rattle.abi_machine.specs.sound.Firsts.{TaskIs, IsActing, IsActingState}
use Rattle.abi_machine.specs.sound.Initial.{RunsAlone}
use Rattle.abi_machine.specs.sound.Lines as mark
use Rattle.abi_machine.specs.sound.Lines.{Mark, Stage, Unmade, Made, Entered, Resolved, Gone, with_exit, marks_of, by_resolution, stage_by, stage_of, stage_at, made_from, entered_from, returned_from, cancelled_from, exited_from, stage_along, LinesTellTasks, ReachedLinesTell}
use Rattle.abi_machine.proofs.sound.Lists.{length_changed}
use Rattle.abi_machine.proofs.sound.Found.{changed_there}
use Rattle.abi_machine.proofs.sound.Chained.{other_there, same_or_not}
use Rattle.abi_machine.proofs.sound.Acted.{one_task, last_is}
use Rattle.abi_machine.proofs.sound.Marks.{marks_both, entry_by, entry_marks, marks_by}
use Rattle.abi_machine.proofs.sound.Alone.{marked_so, stays_alone, first_runs_alone}

-- Stages of tasks that are changed.

number_is : (u t : ℕ) → u ≡ t → nat_eq u t ≡ true
number_is u t same = grind (arith, nat_tests)

number_not : (u t : ℕ) → u ≢ t → nat_eq u t ≡ false
number_not u t other = grind (arith, nat_tests)

acting_stage : (state : TaskState) (resolution : Option Resolution) → IsActingState state → stage_by state resolution ≡ by_resolution resolution
acting_stage Acting resolution is = refl
acting_stage (world.Begins n) resolution is = refl
acting_stage New resolution is = absurd is
acting_stage (AfterCall callee number words) resolution is = absurd is
acting_stage (AfterCancel callee number words) resolution is = absurd is
acting_stage WaitsToEnter resolution is = absurd is
acting_stage (InLoop word) resolution is = absurd is
acting_stage (InBuiltin number words wait) resolution is = absurd is
acting_stage Exited resolution is = absurd is

resolved_stage : (resolution : Option Resolution) → IsSome resolution → by_resolution resolution ≡ Resolved
resolved_stage None some = cc
resolved_stage (Some resolution) some = refl

stage_kept : (u : ℕ) (f : Task → Task) (tasks : List Task) (n : ℕ) → ((x : Task) → slice_get tasks u ≡ Some x → stage_of (Some (f x)) ≡ stage_of (Some x))
    → stage_of (slice_get (changed_at u f tasks) n) ≡ stage_of (slice_get tasks n)
stage_kept u f [] n keeps = refl
stage_kept zero f (x ∷ tasks) zero keeps = keeps x refl
stage_kept zero f (x ∷ tasks) (suc n) keeps = refl
stage_kept (suc u) f (x ∷ tasks) zero keeps = refl
stage_kept (suc u) f (x ∷ tasks) (suc n) keeps = stage_kept u f tasks n (λ y e. keeps y e)

none_last : (tasks : List Task) → slice_get tasks (length tasks) ≡ None
none_last [] = refl
none_last (x ∷ tasks) = none_last tasks

not_last : (tasks : List Task) (new : Task) (n : ℕ) → length tasks ≢ n → slice_get (tasks ++ new ∷ []) n ≡ slice_get tasks n
not_last [] new zero other = absurd (other refl)
not_last [] new (suc n) other = refl
not_last (x ∷ tasks) new zero other = refl
not_last (x ∷ tasks) new (suc n) other = not_last tasks new n (λ same. other (ap suc same))

along_both : (t : ℕ) (xs ys : List Mark) (o : Option Stage) → stage_along t (xs ++ ys) o ≡ stage_along t ys (stage_along t xs o)
along_both t [] ys o = refl
along_both t (x ∷ xs) ys o = along_both t xs ys _

module _ (t : ℕ) (late : 1 ≤ t) where
  -- a line of the task of a number
  one_line : (u : ℕ) (from : Stage → Option Stage) (a b : Stage) → (u ≡ t → from a ≡ Some b) → (u ≢ t → b ≡ a) → (if nat_eq u t then from a else Some a) ≡ Some b
  one_line u from a b mine others = elim (same_or_not u t) [
    | inl same ↦ ap (λ (test : Bool). if test then from a else Some a) (number_is u t same) ∙ mine same
    | inr other ↦ ap (λ (test : Bool). if test then from a else Some a) (number_not u t other) ∙ ap (λ (x : Stage). Some x) (sym (others other))
  ]

  changed_line : (u : ℕ) (f : Task → Task) (from : Stage → Option Stage) (tasks : List Task) → TaskIs tasks u (λ x. from (stage_of (Some x)) ≡ Some (stage_of (Some (f x))))
      → (if nat_eq u t then from (stage_of (slice_get tasks t)) else Some (stage_of (slice_get tasks t))) ≡ Some (stage_of (slice_get (changed_at u f tasks) t))
  changed_line u f from tasks h =
      one_line u from _ _
      (λ same.
      subst (λ (n : ℕ). from (stage_of (slice_get tasks n)) ≡ Some (stage_of (slice_get (changed_at u f tasks) n))) same
      (ap (λ (o : Option Task). from (stage_of o)) h.1 ∙ (h.2 ∙ ap (λ (o : Option Task). Some (stage_of o)) (sym (changed_there u f tasks h.0 h.1)))))
      (λ other. ap stage_of (other_there u t f tasks other))

  made_line : (tasks : List Task) (new : Task) → new.state ≡ New
      → (if nat_eq (length tasks) t then made_from (stage_of (slice_get tasks t)) else Some (stage_of (slice_get tasks t))) ≡ Some (stage_of (slice_get (tasks ++ new ∷ []) t))
  made_line tasks new is =
      one_line (length tasks) made_from _ _
      (λ same.
      subst (λ (n : ℕ). made_from (stage_of (slice_get tasks n)) ≡ Some (stage_of (slice_get (tasks ++ new ∷ []) n))) same
      (ap (λ (o : Option Task). made_from (stage_of o)) (none_last tasks)
      ∙ (ap (λ (state : TaskState). Some (stage_by state new.resolution)) (sym is) ∙ ap (λ (o : Option Task). Some (stage_of o)) (sym (last_is tasks new)))))
      (λ other. ap stage_of (not_last tasks new t other))

  -- A change without lines.
  same_stage : (u : ℕ) (f : Task → Task) (tasks : List Task) → ((x : Task) → slice_get tasks u ≡ Some x → stage_of (Some (f x)) ≡ stage_of (Some x))
      → Some (stage_of (slice_get tasks t)) ≡ Some (stage_of (slice_get (changed_at u f tasks) t))
  same_stage u f tasks keeps = ap (λ (x : Stage). Some x) (sym (stage_kept u f tasks t keeps))

  not_first : 0 ≢ t
  not_first same = omega (arith, same, late)

  blocked_stage : (state : TaskState) (x : Task) → IsBlocked state → BlocksFrom state x → stage_by state x.resolution ≡ stage_by x.state x.resolution
  blocked_stage WaitsToEnter x is from = ap (λ (before : TaskState). stage_by before x.resolution) (sym from)
  blocked_stage (InLoop word) x is from = sym (acting_stage x.state x.resolution from.0)
  blocked_stage (InBuiltin number words wait) x is from = sym (acting_stage x.state x.resolution from)
  blocked_stage New x is from = absurd is
  blocked_stage Acting x is from = absurd is
  blocked_stage (AfterCall callee number words) x is from = absurd is
  blocked_stage (AfterCancel callee number words) x is from = absurd is
  blocked_stage (world.Begins n) x is from = absurd is
  blocked_stage Exited x is from = absurd is

  -- One that acts enters, or had entered.
  acts_so : (u : ℕ) (tasks : List Task) (x : Task) (state : TaskState) → slice_get tasks u ≡ Some x → x.state ≡ state → IsThere state → (HasNotEntered state → x.resolution ≡ None)
      → stage_along t (entry_by u state) (Some (stage_of (slice_get tasks t))) ≡ Some (stage_of (slice_get (changed_at u (λ task. record task { state = Acting }) tasks) t))
  acts_so u tasks x state there is left none = by state is left none
    where
      f : Task → Task
      f task = record task { state = Acting }

      entering : (before : TaskState) → x.state ≡ before → stage_by before x.resolution ≡ Made → x.resolution ≡ None
          → (if nat_eq u t then entered_from (stage_of (slice_get tasks t)) else Some (stage_of (slice_get tasks t))) ≡ Some (stage_of (slice_get (changed_at u f tasks) t))
      entering before e made unresolved =
          changed_line u f entered_from tasks
          (x, there, ap entered_from (ap (λ (y : TaskState). stage_by y x.resolution) e ∙ made) ∙ ap (λ (o : Option Resolution). Some (by_resolution o)) (sym unresolved))

      there_before : (before : TaskState) → x.state ≡ before → stage_by before x.resolution ≡ by_resolution x.resolution → Some (stage_of (slice_get tasks t)) ≡ Some (stage_of (slice_get (changed_at u f tasks) t))
      there_before before e same =
          same_stage u f tasks
          (λ y at.
          subst (λ (z : Task). stage_of (Some (f z)) ≡ stage_of (Some z)) (let one : x ≡ y = cc in one) (sym (ap (λ (z : TaskState). stage_by z x.resolution) e ∙ same)))

      by : (before : TaskState) → x.state ≡ before → IsThere before → (HasNotEntered before → x.resolution ≡ None) → stage_along t (entry_by u before) (Some (stage_of (slice_get tasks t))) ≡ Some (stage_of (slice_get (changed_at u f tasks) t))
      by New e k free = entering New e refl (free tt)
      by WaitsToEnter e k free = entering WaitsToEnter e refl (free tt)
      by Acting e k free = there_before Acting e refl
      by (AfterCall callee number words) e k free = there_before (AfterCall callee number words) e refl
      by (AfterCancel callee number words) e k free = there_before (AfterCancel callee number words) e refl
      by (world.Begins n) e k free = there_before (world.Begins n) e refl
      by (InLoop word) e k free = there_before (InLoop word) e refl
      by (InBuiltin number words wait) e k free = there_before (InBuiltin number words wait) e refl
      by Exited e k free = absurd k

  exits_so : (u : ℕ) (tasks : List Task) → TaskIs tasks u (ExitsFrom u)
      → stage_along t (with_exit u []) (Some (stage_of (slice_get tasks t))) ≡ Some (stage_of (slice_get (changed_at u (λ task. record task { state = Exited }) tasks) t))
  exits_so zero tasks h = ap (λ (o : Option Task). Some (stage_of o)) (sym (other_there zero t (λ task. record task { state = Exited }) tasks not_first))
  exits_so (suc u) tasks h =
      let so : IsActing h.0 × IsSome h.0.resolution = h.2 (omega arith) in
      changed_line (suc u) (λ task. record task { state = Exited }) exited_from tasks
      (h.0, h.1, ap exited_from (acting_stage h.0.state h.0.resolution so.0 ∙ resolved_stage h.0.resolution so.1))

  resolves_so : (u : ℕ) (resolution : Resolution) (from : Stage → Option Stage) (tasks : List Task) → from Entered ≡ Some Resolved → TaskIs tasks u (MayResolve resolution)
      → (if nat_eq u t then from (stage_of (slice_get tasks t)) else Some (stage_of (slice_get tasks t))) ≡ Some (stage_of (slice_get (changed_at u (λ task. record task { resolution = Some resolution }) tasks) t))
  resolves_so u resolution from tasks resolves h =
      changed_line u (λ task. record task { resolution = Some resolution }) from tasks (
        h.0,
        h.1,
        ap from (acting_stage h.0.state h.0.resolution h.2.0 ∙ ap by_resolution h.2.1) ∙ (resolves ∙ ap (λ (a : Stage). Some a) (sym (acting_stage h.0.state (Some resolution) h.2.0))),
      )

  -- One that is removed resolves and exits at once.
  removed_so : (u : ℕ) (tasks : List Task) → TaskIs tasks u IsRemovable
      → stage_along t (mark.IsCancelled u ∷ with_exit u []) (Some (stage_of (slice_get tasks t)))
      ≡ Some (stage_of (slice_get (changed_at u (λ task. record task { state = Exited }) (changed_at u (λ task. record task { resolution = Some Cancelled }) tasks)) t))
  removed_so u tasks h = elim (same_or_not u t) [
    | inl same ↦ mine same
    | inr other ↦ others other
  ]
    where
      g : Task → Task
      g task = record task { resolution = Some Cancelled }

      f : Task → Task
      f task = record task { state = Exited }

      all : List Task
      all = changed_at u f (changed_at u g tasks)

      exits : (b : Bool) (n : ℕ) (a : Stage) → Option Stage
      exits b n a = if b then exited_from a else Some a

      behind_mark : Option Stage → Option Stage
      behind_mark o = stage_along t (with_exit u []) o

      mine : u ≡ t → stage_along t (mark.IsCancelled u ∷ with_exit u []) (Some (stage_of (slice_get tasks t))) ≡ Some (stage_of (slice_get all t))
      mine same =
          let before : stage_of (slice_get tasks t) ≡ Made =
          subst (λ (n : ℕ). stage_of (slice_get tasks n) ≡ Made) same (ap stage_of h.1 ∙ ap (λ (state : TaskState). stage_by state h.0.resolution) h.2.0) in
          let later : stage_of (slice_get all t) ≡ Gone =
          subst (λ (n : ℕ). stage_of (slice_get all n) ≡ Gone) same (ap stage_of (changed_there u f (changed_at u g tasks) (g h.0) (changed_there u g tasks h.0 h.1))) in
          ap behind_mark (ap (λ (test : Bool). if test then cancelled_from (stage_of (slice_get tasks t)) else Some (stage_of (slice_get tasks t))) (number_is u t same) ∙ ap cancelled_from before)
          ∙ (by u same ∙ ap (λ (x : Stage). Some x) (sym later))
        where
          by : (n : ℕ) → n ≡ t → stage_along t (with_exit n []) (Some Resolved) ≡ Some Gone
          by zero e = absurd (not_first e)
          by (suc n) e = ap (λ (test : Bool). if test then exited_from Resolved else Some Resolved) (number_is (suc n) t e)

      others : u ≢ t → stage_along t (mark.IsCancelled u ∷ with_exit u []) (Some (stage_of (slice_get tasks t))) ≡ Some (stage_of (slice_get all t))
      others other =
          let same : stage_of (slice_get all t) ≡ stage_of (slice_get tasks t) = ap stage_of (other_there u t f (changed_at u g tasks) other ∙ other_there u t g tasks other) in
          ap behind_mark (ap (λ (test : Bool). if test then cancelled_from (stage_of (slice_get tasks t)) else Some (stage_of (slice_get tasks t))) (number_not u t other))
          ∙ (by u other (stage_of (slice_get tasks t)) ∙ ap (λ (x : Stage). Some x) (sym same))
        where
          by : (n : ℕ) → n ≢ t → (a : Stage) → stage_along t (with_exit n []) (Some a) ≡ Some a
          by zero e a = refl
          by (suc n) e a = ap (λ (test : Bool). if test then exited_from a else Some a) (number_not (suc n) t e)

  abbrev Tells : Change → World → World → Type 0
  Tells c w v = stage_along t (marks_by c w) (Some (stage_at w t)) ≡ Some (stage_at v t)

  along_channel : (kind : EndKind) (n : ℕ) (f : Channel → Channel) (w : World) → stage_at (with_channel kind n f w) t ≡ stage_at w t
  along_channel Stream n f w = refl
  along_channel Future n f w = refl

  along_made : (kind : EndKind) (element : Option ValType) (w : World) → stage_at (channel_made kind element w) t ≡ stage_at w t
  along_made Stream element w = refl
  along_made Future element w = refl

  acting_same : (tasks : List Task) (u : ℕ) (state : TaskState) → ((resolution : Option Resolution) → stage_by state resolution ≡ by_resolution resolution) → TaskIs tasks u IsActing
      → Some (stage_of (slice_get tasks t)) ≡ Some (stage_of (slice_get (changed_at u (λ task. record task { state = state }) tasks) t))
  acting_same tasks u state is h =
      same_stage u (λ task. record task { state = state }) tasks (λ x there. is x.resolution ∙ sym (acting_stage x.state x.resolution (one_task tasks u IsActing x there h)))

  told_by : (g : Graph) (s : Script) (c : Change) (w : World) → Comes g s c w → EnterUnresolved w.tasks → Tells c w (after c w)
  told_by g s (IsCalled callee call values) w may enters = made_line w.tasks (new_task callee (Host call values) New) refl
  told_by g s (Calls number callee subtask words) w may enters =
      let f : Task → Task = λ task. record task { state = AfterCall (length w.tasks) number words } in
      let changed : List Task = changed_at subtask.by f w.tasks in
      let same : stage_of (slice_get changed t) ≡ stage_of (slice_get w.tasks t) =
      stage_kept subtask.by f w.tasks t (λ x there. sym (acting_stage x.state x.resolution (one_task w.tasks subtask.by IsActing x there may.4))) in
      let long : length changed ≡ length w.tasks = length_changed subtask.by f w.tasks in
      ap (λ (a : Stage). if nat_eq (length w.tasks) t then made_from a else Some a) (sym same)
      ∙ (ap (λ (n : ℕ). if nat_eq n t then made_from (stage_of (slice_get changed t)) else Some (stage_of (slice_get changed t))) (sym long)
      ∙ made_line changed (new_task callee (Guest subtask) New) refl)
  told_by g s (Acts u) w may enters =
      let x : Task = may.1.0 in
      let there : slice_get w.tasks u ≡ Some x = may.1.1 in
      subst (λ (o : Option Task). stage_along t (entry_marks u o) (Some (stage_at w t)) ≡ Some (stage_at (after (Acts u) w) t)) (sym there)
      (acts_so u w.tasks x x.state there refl (one_task w.tasks u (λ y. IsThere y.state) x there may.2) (λ new. (all_at EntersUnresolved w.tasks u x enters there new).0))
  told_by g s (Begins n) w may enters = ap (λ (o : Option Task). Some (stage_of o)) (sym (other_there 0 t (λ task. record task { state = world.Begins n }) w.tasks not_first))
  told_by g s (Cancels u callee n words) w may enters = acting_same w.tasks u (AfterCancel callee n words) (λ r. refl) may.2
  told_by g s (Blocks u state) w may enters =
      same_stage u (λ task. record task { state = state }) w.tasks (λ x there. blocked_stage state x may.1 (one_task w.tasks u (BlocksFrom state) x there may.3))
  told_by g s (Exits u) w may enters = exits_so u w.tasks may.2
  told_by g s (IsRemoved u) w may enters = removed_so u w.tasks may.1
  told_by g s (Resolves u Returned) w may enters = resolves_so u Returned returned_from w.tasks refl may.0
  told_by g s (Resolves u Cancelled) w may enters = resolves_so u Cancelled cancelled_from w.tasks refl may.0
  told_by g s (IsCancelled u cancellation) w may enters = same_stage u _ w.tasks (λ x there. refl)
  told_by g s (HasWord u slot word) w may enters = same_stage u _ w.tasks (λ x there. refl)
  told_by g s (HasNewStack u k) w may enters = same_stage u _ w.tasks (λ x there. refl)
  told_by g s (HasStack u k) w may enters = same_stage u _ w.tasks (λ x there. refl)
  told_by g s (LosesStack u) w may enters = same_stage u _ w.tasks (λ x there. refl)
  told_by g s (IsAnswered u words) w may enters = same_stage u _ w.tasks (λ x there. refl)
  told_by g s (IsTold u state) w may enters = same_stage u _ w.tasks (λ x there. refl)
  told_by g s (IsLent u handle) w may enters = same_stage u _ w.tasks (λ x there. refl)
  told_by g s (HasResult u words) w may enters = same_stage u _ w.tasks (λ x there. refl)
  told_by g s (MakesChannel kind element) w may enters = ap (λ (a : Stage). Some a) (sym (along_made kind element w))
  told_by g s (Offers e call) w may enters = ap (λ (a : Stage). Some a) (sym (along_channel e.kind e.number _ w))
  told_by g s (Transfers e size values) w may enters = ap (λ (a : Stage). Some a) (sym (along_channel e.kind e.number _ _ ∙ along_channel e.kind e.number _ w))
  told_by g s (Concludes e) w may enters = ap (λ (a : Stage). Some a) (sym (along_channel e.kind e.number _ w))
  told_by g s (DropsEnd e) w may enters = ap (λ (a : Stage). Some a) (sym (along_channel e.kind e.number _ w))
  told_by g s (GoesTo control) w may enters = refl
  told_by g s (HasStore store) w may enters = refl
  told_by g s SpendsUnit w may enters = refl
  told_by g s (UsesPicks picks) w may enters = refl
  told_by g s TakesItem w may enters = refl
  told_by g s BeginsInstance w may enters = refl
  told_by g s (AddsEntry i entry) w may enters = refl
  told_by g s (MakesSet i set) w may enters = refl
  told_by g s (RemovesEntry i index) w may enters = refl
  told_by g s (RemovesWaitable i index) w may enters = refl
  told_by g s (LeavesSet i index) w may enters = refl
  told_by g s (JoinsSet i index set) w may enters = refl
  told_by g s (HasBackpressure i pressure) w may enters = refl
  told_by g s (ComesBack u) w may enters = refl

pub lines_tell_tasks : LinesTellTasks
lines_tell_tasks g s w v labels alone e t late =
    marked_so g s (λ marks u. stage_along t marks (Some (stage_at w t)) ≡ Some (stage_at u t))
    (λ marks c u may is k. along_both t marks (marks_by c u) (Some (stage_at w t)) ∙ (ap (stage_along t (marks_by c u)) k ∙ told_by t late g s c u may is.1)) w v labels alone refl e

tell_from : (g : Graph) (s : Script) (t : ℕ) (late : 1 ≤ t) (steps : List (List Label)) (w v : World) → RunsAlone w → Reaches g s w steps v → stage_along t (marks_of (lines_of steps)) (Some (stage_at w t)) ≡ Some (stage_at v t)
tell_from g s t late [] w v alone r = ap (λ (u : World). Some (stage_at u t)) (sym r)
tell_from g s t late (labels ∷ steps) w v alone r =
    ap (λ (marks : List Mark). stage_along t marks (Some (stage_at w t))) (marks_both labels (lines_of steps))
    ∙ (along_both t (marks_of labels) (marks_of (lines_of steps)) (Some (stage_at w t))
    ∙ (ap (stage_along t (marks_of (lines_of steps))) (lines_tell_tasks g s w r.0 labels alone r.1 t late)
    ∙ tell_from g s t late steps r.0 v (stays_alone g s w r.0 labels alone r.1) r.2))

pub reached_lines_tell : ReachedLinesTell
reached_lines_tell g s steps w r t late =
    ap (λ (a : Stage). stage_along t (marks_of (lines_of steps)) (Some a)) (sym (first_unmade t late)) ∙ tell_from g s t late steps (first_world g) w (first_runs_alone g) r
  where
    first_unmade : (n : ℕ) → 1 ≤ n → stage_at (first_world g) n ≡ Unmade
    first_unmade zero k = absurd (omega (arith, k))
    first_unmade (suc n) k = refl

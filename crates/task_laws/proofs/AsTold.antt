-- Tasks are as lines tell: the stage of each is the one behind what was told last, and what it resolved to is what was told.
use Rattle.std.proofs.Common.{◌≡◌, ◌≤◌, ℕ, zero, suc, Bool, true, false, not, nat_eq, drop, List, [], ◌∷◌, ◌++◌, refl, sym, ap, ◌∙◌, subst, arith, Option, Some, None, if◌then◌else◌}
use Rattle.std.proofs.lemmas.Bool.Decides.{nat_tests}
use Rattle.std.specs.List.{slice_get}
use Rattle.tasks.specs.declared.phase.Resolution.{Resolution}
use Rattle.trace_labels.specs.declared.label.Label.{Label}
use Rattle.trace_labels.specs.declared.label.Label.TheVariants as line
use Rattle.wasm_store.proofs.Lists.{all_at}
use Rattle.abi_machine.specs.declared.run_end.RunEnd.TheVariants.{Done}
use Rattle.abi_machine.specs.World.{TaskState, New, Acting, AfterCall, AfterCancel, Begins, WaitsToEnter, InLoop, InBuiltin, Exited, Task, World}
use Rattle.abi_machine.specs.Reading.{has_exited, with_numbers, numbers_of}
use Rattle.abi_machine.specs.Run.{lines_of}
use Rattle.abi_machine.specs.sound.Chain.{IsThere}
use Rattle.abi_machine.specs.sound.Deadlocks.{IsHeldUp, StandsStill, IsDeadlocked}
use Rattle.abi_machine.specs.sound.Lines.{Stage, Unmade, Made, Entered, Resolved, Gone, by_resolution, stage_by, stage_of, stage_at}
use Rattle.abi_machine.proofs.sound.Ending.{ends_come_where}
use Rattle.abi_machine.proofs.sound.Deadlocked.{none_passes, reached_deadlocks_are_real}
use Rattle.abi_machine.proofs.sound.Found.{some_same}
use Rattle.abi_machine.proofs.sound.TaskLines.{reached_lines_tell}
use Rattle.task_laws.specs.TaskLines.{Milestone, IsMade, Enters, Returns, IsCancelled, Exits, milestone_by, if_of, told_of, AreInOrder}
use Rattle.task_laws.specs.TasksTold.{last_of, resolved_by, IsOutside, IsWithin, IsSoFar, IsAsTold, MayBeAsTold, TasksAreAsTold, ExitsAreLast, IsLeft, NoneIsLeft, DeadlocksNameLeft}
use Rattle.task_laws.proofs.Order.{stage_after, tracks, lines_are_in_order}
use Rattle.task_laws.proofs.Resolved.{resolution_of, resolution_is_told}

-- Stages and what tasks do.
never : (r : Option Resolution) (stage : Stage) → by_resolution r ≡ stage → (stage ≡ Entered → ⊥) → (stage ≡ Resolved → ⊥) → ⊥
never None stage e a b = a (sym e)
never (Some r) stage e a b = b (sym e)

no_made : (r : Option Resolution) → by_resolution r ≡ Made → ⊥
no_made r e = never r Made e (λ h. cc) (λ h. cc)

no_gone : (r : Option Resolution) → by_resolution r ≡ Gone → ⊥
no_gone r e = never r Gone e (λ h. cc) (λ h. cc)

no_unmade : (r : Option Resolution) → by_resolution r ≡ Unmade → ⊥
no_unmade r e = never r Unmade e (λ h. cc) (λ h. cc)

outside_is : (state : TaskState) (r : Option Resolution) → stage_by state r ≡ Made → IsOutside state
outside_is New r e = tt
outside_is WaitsToEnter r e = tt
outside_is Exited r e = cc
outside_is Acting r e = absurd (no_made r e)
outside_is (AfterCall callee number words) r e = absurd (no_made r e)
outside_is (AfterCancel callee number words) r e = absurd (no_made r e)
outside_is (Begins n) r e = absurd (no_made r e)
outside_is (InLoop word) r e = absurd (no_made r e)
outside_is (InBuiltin number words wait) r e = absurd (no_made r e)

gone_is : (state : TaskState) (r : Option Resolution) → stage_by state r ≡ Gone → state ≡ Exited
gone_is Exited r e = refl
gone_is New r e = cc
gone_is WaitsToEnter r e = cc
gone_is Acting r e = absurd (no_gone r e)
gone_is (AfterCall callee number words) r e = absurd (no_gone r e)
gone_is (AfterCancel callee number words) r e = absurd (no_gone r e)
gone_is (Begins n) r e = absurd (no_gone r e)
gone_is (InLoop word) r e = absurd (no_gone r e)
gone_is (InBuiltin number words wait) r e = absurd (no_gone r e)

within_is : (state : TaskState) (r : Option Resolution) (stage : Stage) → stage_by state r ≡ stage → (stage ≡ Made → ⊥) → (stage ≡ Gone → ⊥) → IsWithin state
within_is New r stage e a b = absurd (a (sym e))
within_is WaitsToEnter r stage e a b = absurd (a (sym e))
within_is Exited r stage e a b = absurd (b (sym e))
within_is Acting r stage e a b = tt
within_is (AfterCall callee number words) r stage e a b = tt
within_is (AfterCancel callee number words) r stage e a b = tt
within_is (Begins n) r stage e a b = tt
within_is (InLoop word) r stage e a b = tt
within_is (InBuiltin number words wait) r stage e a b = tt

unmade_not : (state : TaskState) (r : Option Resolution) → stage_by state r ≡ Unmade → ⊥
unmade_not New r e = cc
unmade_not WaitsToEnter r e = cc
unmade_not Exited r e = cc
unmade_not Acting r e = no_unmade r e
unmade_not (AfterCall callee number words) r e = no_unmade r e
unmade_not (AfterCancel callee number words) r e = no_unmade r e
unmade_not (Begins n) r e = no_unmade r e
unmade_not (InLoop word) r e = no_unmade r e
unmade_not (InBuiltin number words wait) r e = no_unmade r e

so_far : (m : Milestone) (state : TaskState) (r : Option Resolution) → stage_by state r ≡ stage_after (Some m) → IsSoFar m state
so_far IsMade state r e = outside_is state r e
so_far Enters state r e = within_is state r Entered e (λ h. cc) (λ h. cc)
so_far Returns state r e = within_is state r Resolved e (λ h. cc) (λ h. cc)
so_far IsCancelled state r e = within_is state r Resolved e (λ h. cc) (λ h. cc)
so_far Exits state r e = gone_is state r e

some_last : (m : Milestone) (more : List Milestone) → (x : Milestone) × (last_of (Some m) more ≡ Some x)
some_last m [] = (m, refl)
some_last m (n ∷ more) = some_last n more

stage_some : (m : Milestone) → stage_after (Some m) ≡ Unmade → ⊥
stage_some IsMade e = cc
stage_some Enters e = cc
stage_some Returns e = cc
stage_some IsCancelled e = cc
stage_some Exits e = cc

nothing_told : (told : List Milestone) → stage_after (last_of None told) ≡ Unmade → told ≡ []
nothing_told [] e = refl
nothing_told (m ∷ more) e = (let x = some_last m more in absurd (stage_some x.0 (ap stage_after (sym x.1) ∙ e)))

as_told : (told : List Milestone) (task : Task) → stage_after (last_of None told) ≡ stage_by task.state task.resolution → task.resolution ≡ resolved_by None told → IsAsTold told task
as_told [] task e r = absurd (unmade_not task.state task.resolution (sym e))
as_told (m ∷ more) task e r =
    let x = some_last m more in
    record { last = x.0; is_last = x.1; so_far = so_far x.0 task.state task.resolution (sym (sym (ap stage_after x.1) ∙ e)); resolution = r }

may_be : (told : List Milestone) (o : Option Task) → stage_after (last_of None told) ≡ stage_of o → resolution_of o ≡ resolved_by None told → MayBeAsTold told o
may_be told None e r = nothing_told told e
may_be told (Some task) e r = as_told told task e r

pub tasks_are_as_told : TasksAreAsTold
tasks_are_as_told g s steps w r t late =
    may_be (told_of t (lines_of steps)) (slice_get w.tasks t) (tracks t late (stage_at w t) (lines_of steps) None (reached_lines_tell g s steps w r t late)).1 (resolution_is_told g s steps w r t)

-- Behind an exit nothing follows.
told_both : (t : ℕ) (a b : List Label) → told_of t (a ++ b) ≡ told_of t a ++ told_of t b
told_both t [] b = refl
told_both t (l ∷ a) b = by (if_of t (milestone_by l)) (told_of t a) (told_of t b) (told_both t a b)
  where
    by : (x y z : List Milestone) → told_of t (a ++ b) ≡ y ++ z → x ++ told_of t (a ++ b) ≡ (x ++ y) ++ z
    by [] y z e = e
    by (m ∷ x) y z e = ap (λ (ms : List Milestone). m ∷ ms) (by x y z e)

order_behind : (last : Option Milestone) (a b : List Milestone) → AreInOrder last (a ++ b) → AreInOrder (last_of last a) b
order_behind last [] b h = h
order_behind last (m ∷ a) b h = order_behind (Some m) a b h.1

behind_exit : (ms : List Milestone) → AreInOrder (Some Exits) ms → ms ≡ []
behind_exit [] h = refl
behind_exit (IsMade ∷ ms) h = absurd h.0
behind_exit (Enters ∷ ms) h = absurd h.0
behind_exit (Returns ∷ ms) h = absurd h.0
behind_exit (IsCancelled ∷ ms) h = absurd h.0
behind_exit (Exits ∷ ms) h = absurd h.0

same_number : (t : ℕ) → nat_eq t t ≡ true
same_number t = grind (arith, nat_tests)

pub exits_are_last : ExitsAreLast
exits_are_last g s steps w r t late before behind e =
    let all : told_of t (lines_of steps) ≡ told_of t before ++ (Exits ∷ told_of t behind) =
    ap (told_of t) e ∙ (told_both t before (line.Exit t ∷ behind) ∙ ap (λ (b : Bool). told_of t before ++ ((if b then Exits ∷ [] else []) ++ told_of t behind)) (same_number t)) in
    behind_exit (told_of t behind) (order_behind (last_of None (told_of t before)) (Exits ∷ []) (told_of t behind)
    (order_behind None (told_of t before) (Exits ∷ told_of t behind) (subst (AreInOrder None) all (lines_are_in_order g s steps w r t late))))

-- Ends of runs.
exited_so : (m : Milestone) (state : TaskState) → IsSoFar m state → has_exited state ≡ true → m ≡ Exits
exited_so Exits state h e = refl
exited_so IsMade Exited h e = absurd h
exited_so Enters Exited h e = absurd h
exited_so Returns Exited h e = absurd h
exited_so IsCancelled Exited h e = absurd h
exited_so IsMade New h e = cc
exited_so IsMade WaitsToEnter h e = cc
exited_so m state h e = cc

is_there : (m : Milestone) (state : TaskState) → IsSoFar m state → (m ≡ Exits → ⊥) → IsThere state
is_there m New h left = tt
is_there m Acting h left = tt
is_there m (AfterCall callee number words) h left = tt
is_there m (AfterCancel callee number words) h left = tt
is_there m (Begins n) h left = tt
is_there m WaitsToEnter h left = tt
is_there m (InLoop word) h left = tt
is_there m (InBuiltin number words wait) h left = tt
is_there m Exited h left = absurd (left (exited_so m Exited h refl))

-- a task of which lines tell that it is left
abbrev TaskLeft : List Task → ℕ → Type 0
TaskLeft tasks t = (task : Task) × (slice_get tasks t ≡ Some task) × IsThere task.state

left_told : (told : List Milestone) (tasks : List Task) (t : ℕ) → MayBeAsTold told (slice_get tasks t) → IsLeft told → TaskLeft tasks t
left_told told tasks t h left = by (slice_get tasks t) refl h
  where
    by : (o : Option Task) → slice_get tasks t ≡ o → MayBeAsTold told o → TaskLeft tasks t
    by None e nothing = (let clash : None ≡ Some left.0 = sym (ap (last_of None) nothing) ∙ left.1 in cc)
    by (Some task) e is =
        let same : is.last ≡ left.0 = some_same (sym is.is_last ∙ left.1) in
        (task, e, is_there is.last task.state is.so_far (λ exits. left.2 (sym same ∙ exits)))

none_left : (tasks : List Task) (t : ℕ) → 1 ≤ t → numbers_of (λ task. not (has_exited task.state)) (drop 1 (with_numbers 0 tasks)) ≡ [] → TaskLeft tasks t → ⊥
none_left [] t late none left = (let clash : None ≡ Some left.0 = left.1 in cc)
none_left (x ∷ tasks) zero late none left = absurd (omega (arith, late))
none_left (x ∷ tasks) (suc t) late none left =
    by left.0.state left.2 (none_passes (λ task. not (has_exited task.state)) 1 tasks t left.0 none left.1)
  where
    by : (state : TaskState) → IsThere state → not (has_exited state) ≡ false → ⊥
    by Exited there e = there
    by New there e = cc
    by Acting there e = cc
    by (AfterCall callee number words) there e = cc
    by (AfterCancel callee number words) there e = cc
    by (Begins n) there e = cc
    by WaitsToEnter there e = cc
    by (InLoop word) there e = cc
    by (InBuiltin number words wait) there e = cc

pub none_is_left : NoneIsLeft
none_is_left g s labels last r t late left =
    let told : IsLeft (told_of t (lines_of r.0)) = subst (λ (lines : List Label). IsLeft (told_of t lines)) r.3 left in
    none_left last.tasks t late (ends_come_where g s last Done r.2).2 (left_told _ last.tasks t (tasks_are_as_told g s r.0 last r.1 t late) told)

held_there : (w : World) (i : ℕ) (named : List ℕ) (task : Task) (state : TaskState) → IsHeldUp w i named task state → has_exited state ≡ false
held_there w i named task Exited h = absurd h
held_there w i named task New h = refl
held_there w i named task Acting h = refl
held_there w i named task (AfterCall callee number words) h = refl
held_there w i named task (AfterCancel callee number words) h = refl
held_there w i named task (Begins n) h = refl
held_there w i named task WaitsToEnter h = refl
held_there w i named task (InLoop word) h = refl
held_there w i named task (InBuiltin number words wait) h = refl

still_left : (w : World) (named : List ℕ) (told : List Milestone) (t : ℕ) → StandsStill w named t → MayBeAsTold told (slice_get w.tasks t) → IsLeft told
still_left w named told t still h =
    let task : Task = still.0 in
    let is : IsAsTold told task = subst (MayBeAsTold told) still.2 h in
    let there : has_exited task.state ≡ false = held_there w still.1.instance named task task.state still.4 in
    (is.last, is.is_last, λ exits. gone task.state (subst (λ (m : Milestone). IsSoFar m task.state) exits is.so_far) there)
  where
    gone : (state : TaskState) → state ≡ Exited → has_exited state ≡ false → ⊥
    gone state e there = (let clash : true ≡ false = ap has_exited (sym e) ∙ there in cc)

pub deadlocks_name_left : DeadlocksNameLeft
deadlocks_name_left g s labels last named r = record {
  left = λ t late among.
      subst (λ (lines : List Label). IsLeft (told_of t lines)) (sym r.3)
      (still_left last named (told_of t (lines_of r.0)) t (all_at (StandsStill last named) named among.0 t dead.each among.1) (tasks_are_as_told g s r.0 last r.1 t late));
  are_named = λ t late left.
      let told : IsLeft (told_of t (lines_of r.0)) = subst (λ (lines : List Label). IsLeft (told_of t lines)) r.3 left in
      let task : TaskLeft last.tasks t = left_told _ last.tasks t (tasks_are_as_told g s r.0 last r.1 t late) told in
      dead.all_named t task.0 late task.1 task.2;
}
  where
    dead : IsDeadlocked s last named
    dead = reached_deadlocks_are_real g s r.0 last named r.1 r.2

-- What lines tell of tasks, and what each change is told by.
use Rattle.std.proofs.Common.{◌≡◌, ℕ, zero, suc, Bool, true, false, List, [], ◌∷◌, ◌++◌, length, refl, ap, ◌∙◌, Option, Some, None}
use Rattle.std.specs.List.{slice_get}
use Rattle.tasks.specs.declared.phase.Resolution.{Resolution}
use Rattle.tasks.specs.declared.phase.Resolution.TheVariants.{Returned, Cancelled}
use Rattle.trace_labels.specs.declared.label.Label.{Label}
use Rattle.trace_labels.specs.declared.label.Label.TheVariants as line
use Rattle.abi_machine.specs.World.{TaskState, New, Acting, AfterCall, AfterCancel, WaitsToEnter, InLoop, InBuiltin, Exited, Task, World}
use Rattle.abi_machine.specs.World as world
use Rattle.abi_machine.specs.Calling.{unlend_lines, lines_told}
use Rattle.abi_machine.specs.sound.Changes.{Change, IsCalled, Calls, Acts, Exits, IsRemoved, Resolves}
use Rattle.abi_machine.specs.sound.Entering.{HasNotEntered, HasEntered}
use Rattle.abi_machine.specs.sound.Lines as mark
use Rattle.abi_machine.specs.sound.Lines.{Mark, with_exit, with_mark, marks_of}

-- Marks of lines.

exit_front : (t : ℕ) (xs ys : List Mark) → with_exit t (xs ++ ys) ≡ with_exit t xs ++ ys
exit_front zero xs ys = refl
exit_front (suc t) xs ys = refl

mark_front : (l : Label) (xs ys : List Mark) → with_mark l (xs ++ ys) ≡ with_mark l xs ++ ys
mark_front (line.Take call t name values) xs ys = refl
mark_front (line.Cancel call) xs ys = refl
mark_front (line.Choose alternatives chosen) xs ys = refl
mark_front (line.Call caller t instance) xs ys = refl
mark_front (line.Enter t) xs ys = refl
mark_front (line.Exit t) xs ys = exit_front t xs ys
mark_front (line.Do t builtin words) xs ys = refl
mark_front (line.Got t words) xs ys = refl
mark_front (line.Block t reason) xs ys = refl
mark_front (line.Go t) xs ys = refl
mark_front (line.Event t code index payload) xs ys = refl
mark_front (line.Copy channel copied) xs ys = refl
mark_front (line.Lend instance handle t) xs ys = refl
mark_front (line.Unlend instance handle t) xs ys = refl
mark_front (line.Return t value) xs ys = refl
mark_front (line.Cancelled t) xs ys = refl
mark_front line.Done xs ys = refl
mark_front (line.Trap t why) xs ys = refl
mark_front (line.Deadlock tasks) xs ys = refl
mark_front line.Fuel xs ys = refl

pub marks_both : (a b : List Label) → marks_of (a ++ b) ≡ marks_of a ++ marks_of b
marks_both [] b = refl
marks_both (l ∷ a) b = ap (with_mark l) (marks_both a b) ∙ mark_front l (marks_of a) (marks_of b)

pub unmarked_front : (a b : List Label) → marks_of a ≡ [] → marks_of (a ++ b) ≡ marks_of b
unmarked_front a b none = marks_both a b ∙ ap (λ (marks : List Mark). marks ++ marks_of b) none

-- What a caller is told gives handles back, and tells no more.
unlends_unmarked : (i callee : ℕ) (handles : List ℕ) → marks_of (unlend_lines i callee handles) ≡ []
unlends_unmarked i callee [] = refl
unlends_unmarked i callee (handle ∷ handles) = unlends_unmarked i callee handles

pub told_unmarked : (i callee : ℕ) (b : Bool) (handles : List ℕ) → marks_of (lines_told i callee b handles) ≡ []
told_unmarked i callee true handles = unlends_unmarked i callee handles
told_unmarked i callee false handles = refl

-- Marks of changes.

abbrev pub entry_by : ℕ → TaskState → List Mark
entry_by t New = mark.Enters t ∷ []
entry_by t WaitsToEnter = mark.Enters t ∷ []
entry_by t state = []

abbrev pub entry_marks : ℕ → Option Task → List Mark
entry_marks t None = []
entry_marks t (Some task) = entry_by t task.state

abbrev pub resolved_mark : ℕ → Resolution → Mark
resolved_mark t Returned = mark.Returns t
resolved_mark t Cancelled = mark.IsCancelled t

abbrev pub marks_by : Change → World → List Mark
marks_by (IsCalled callee call values) w = mark.Makes (length w.tasks) ∷ []
marks_by (Calls number callee subtask words) w = mark.Makes (length w.tasks) ∷ []
marks_by (Acts t) w = entry_marks t (slice_get w.tasks t)
marks_by (Exits t) w = with_exit t []
marks_by (IsRemoved t) w = mark.IsCancelled t ∷ with_exit t []
marks_by (Resolves t resolution) w = resolved_mark t resolution ∷ []
marks_by change w = []

pub entry_none : (w : World) (t : ℕ) → HasEntered w.tasks t → entry_marks t (slice_get w.tasks t) ≡ []
entry_none w t h = ap (entry_marks t) h.1 ∙ by h.0.state h.2
  where
    by : (state : TaskState) → (HasNotEntered state → ⊥) → entry_by t state ≡ []
    by New behind = absurd (behind tt)
    by WaitsToEnter behind = absurd (behind tt)
    by Acting behind = refl
    by (AfterCall callee number words) behind = refl
    by (AfterCancel callee number words) behind = refl
    by (world.Begins n) behind = refl
    by (InLoop word) behind = refl
    by (InBuiltin number words wait) behind = refl
    by Exited behind = refl

pub entry_one : (w : World) (t : ℕ) (task : Task) → slice_get w.tasks t ≡ Some task → HasNotEntered task.state → entry_marks t (slice_get w.tasks t) ≡ mark.Enters t ∷ []
entry_one w t task there new = ap (entry_marks t) there ∙ by task.state new
  where
    by : (state : TaskState) → HasNotEntered state → entry_by t state ≡ mark.Enters t ∷ []
    by New h = refl
    by WaitsToEnter h = refl
    by Acting h = absurd h
    by (AfterCall callee number words) h = absurd h
    by (AfterCancel callee number words) h = absurd h
    by (world.Begins n) h = absurd h
    by (InLoop word) h = absurd h
    by (InBuiltin number words wait) h = absurd h
    by Exited h = absurd h

-- Lines make tasks by their numbers: each that is made is the next one.
use Rattle.std.proofs.Common.{◌≡◌, ℕ, zero, suc, ◌+◌, List, [], ◌∷◌, ◌++◌, length, refl, sym, ap, ◌∙◌, subst, arith, Option, Some, None}
use Rattle.std.specs.List.{slice_get}
use Rattle.builtin_kinds.specs.declared.EndKind.{EndKind}
use Rattle.builtin_kinds.specs.declared.EndKind.TheVariants.{Stream, Future}
use Rattle.syntax_trees.specs.declared.types.ValType.{ValType}
use Rattle.tasks.specs.declared.phase.Resolution.TheVariants.{Returned, Cancelled}
use Rattle.comp_graph.specs.Graph.{Graph}
use Rattle.script_reader.specs.Script.{Script}
use Rattle.trace_labels.specs.declared.label.Label.{Label}
use Rattle.trace_labels.specs.declared.label.Label.TheVariants as line
use Rattle.abi_machine.specs.World.{Host, Guest, TaskState, New, Acting, AfterCall, AfterCancel, WaitsToEnter, InLoop, InBuiltin, Exited, Channel, Task, World, new_task, first_world}
use Rattle.abi_machine.specs.World as world
use Rattle.abi_machine.specs.Edits.{changed_at, with_channel, channel_made}
use Rattle.abi_machine.specs.Turn.{Steps}
use Rattle.abi_machine.specs.Next.{next}
use Rattle.abi_machine.specs.Run.{Reaches, lines_of}
use Rattle.abi_machine.specs.sound.Changes.{Change, GoesTo, HasStore, SpendsUnit, UsesPicks, TakesItem, BeginsInstance, AddsEntry, MakesSet, RemovesEntry, RemovesWaitable, LeavesSet, JoinsSet, HasBackpressure, IsCalled, Calls, ComesBack, Acts, Begins, Cancels, Blocks, Exits, IsRemoved, Resolves, IsCancelled, HasWord, HasNewStack, HasStack, LosesStack, IsAnswered, IsTold, IsLent, HasResult, MakesChannel, Offers, Transfers, Concludes, DropsEnd, after}
use Rattle.abi_machine.specs.sound.Initial.{RunsAlone}
use Rattle.abi_machine.specs.sound.Lines as mark
use Rattle.abi_machine.specs.sound.Lines.{Mark, with_exit, marks_of}
use Rattle.abi_machine.proofs.sound.Lists.{length_changed, length_more}
use Rattle.abi_machine.proofs.sound.Marks.{entry_by, entry_marks, marks_by}
use Rattle.abi_machine.proofs.sound.Alone.{marked_so, stays_alone, first_runs_alone}
use Rattle.task_laws.specs.TaskLines.{milestone_by}
use Rattle.task_laws.specs.TasksTold.{if_made, tasks_made, AreCounted, TasksAreCounted}

abbrev makes_of : List Mark → List ℕ
makes_of [] = []
makes_of (mark.Makes n ∷ marks) = n ∷ makes_of marks
makes_of (other ∷ marks) = makes_of marks

makes_both : (xs ys : List Mark) → makes_of (xs ++ ys) ≡ makes_of xs ++ makes_of ys
makes_both [] ys = refl
makes_both (mark.Makes n ∷ xs) ys = ap (λ (ns : List ℕ). n ∷ ns) (makes_both xs ys)
makes_both (mark.Enters n ∷ xs) ys = makes_both xs ys
makes_both (mark.Returns n ∷ xs) ys = makes_both xs ys
makes_both (mark.IsCancelled n ∷ xs) ys = makes_both xs ys
makes_both (mark.Exits n ∷ xs) ys = makes_both xs ys

-- Numbers that are counted, behind which others are.
counted_both : (n : ℕ) (xs ys : List ℕ) → AreCounted n xs → AreCounted (n + length xs) ys → AreCounted n (xs ++ ys)
counted_both n [] ys h k = subst (λ (m : ℕ). AreCounted m ys) (let same : n + 0 ≡ n = omega arith in same) k
counted_both n (x ∷ xs) ys h k = (h.0, counted_both (suc n) xs ys h.1 (subst (λ (m : ℕ). AreCounted m ys) (let same : n + suc (length xs) ≡ suc n + length xs = omega arith in same) k))

length_both : (xs ys : List ℕ) → length (xs ++ ys) ≡ length xs + length ys
length_both [] ys = omega arith
length_both (x ∷ xs) ys = (let more : length (xs ++ ys) ≡ length xs + length ys = length_both xs ys in omega (arith, more))

-- So many tasks there were; these were made, and so many there are.
abbrev AreMade : ℕ → List ℕ → ℕ → Type 0
AreMade before made now = AreCounted before made × (now ≡ before + length made)

made_both : (a b c : ℕ) (xs ys : List ℕ) → AreMade a xs b → AreMade b ys c → AreMade a (xs ++ ys) c
made_both a b c xs ys h k = (
  counted_both a xs ys h.0 (subst (λ (n : ℕ). AreCounted n ys) h.1 k.0),
  (let long : length (xs ++ ys) ≡ length xs + length ys = length_both xs ys in
      let first : b ≡ a + length xs = h.1 in
      let then_so : c ≡ b + length ys = k.1 in
      omega (arith, long, first, then_so)),
)

-- Changes.
abbrev Makes : Change → World → World → Type 0
Makes c w v = AreMade (length w.tasks) (makes_of (marks_by c w)) (length v.tasks)

none_made : (tasks later : List Task) → length later ≡ length tasks → AreMade (length tasks) [] (length later)
none_made tasks later same = (tt, omega (arith, same))

changed_none : (u : ℕ) (f : Task → Task) (tasks : List Task) → AreMade (length tasks) [] (length (changed_at u f tasks))
changed_none u f tasks = none_made tasks (changed_at u f tasks) (length_changed u f tasks)

one_made : (tasks later : List Task) → length later ≡ suc (length tasks) → AreMade (length tasks) (length tasks ∷ []) (length later)
one_made tasks later more = ((refl, tt), omega (arith, more))

entry_none : (u : ℕ) (o : Option Task) → makes_of (entry_marks u o) ≡ []
entry_none u None = refl
entry_none u (Some task) = by task.state
  where
    by : (state : TaskState) → makes_of (entry_by u state) ≡ []
    by New = refl
    by WaitsToEnter = refl
    by Acting = refl
    by (AfterCall callee number words) = refl
    by (AfterCancel callee number words) = refl
    by (world.Begins n) = refl
    by (InLoop word) = refl
    by (InBuiltin number words wait) = refl
    by Exited = refl

exit_none : (u : ℕ) → makes_of (with_exit u []) ≡ []
exit_none zero = refl
exit_none (suc u) = refl

channel_none : (kind : EndKind) (n : ℕ) (f : Channel → Channel) (w : World) → length (with_channel kind n f w).tasks ≡ length w.tasks
channel_none Stream n f w = refl
channel_none Future n f w = refl

channel_more : (kind : EndKind) (element : Option ValType) (w : World) → length (channel_made kind element w).tasks ≡ length w.tasks
channel_more Stream element w = refl
channel_more Future element w = refl

same_made : (w : World) → AreMade (length w.tasks) [] (length w.tasks)
same_made w = (tt, omega arith)

made_as : (a b : ℕ) (xs ys : List ℕ) → ys ≡ xs → AreMade a xs b → AreMade a ys b
made_as a b xs ys same h = subst (λ (ns : List ℕ). AreMade a ns b) (sym same) h

makes_so : (c : Change) (w : World) → Makes c w (after c w)
makes_so (IsCalled callee call values) w = one_made w.tasks _ (length_more w.tasks (new_task callee (Host call values) New))
makes_so (Calls number callee subtask words) w =
    let f : Task → Task = λ task. record task { state = AfterCall (length w.tasks) number words } in
    one_made w.tasks _ (length_more (changed_at subtask.by f w.tasks) (new_task callee (Guest subtask) New) ∙ ap suc (length_changed subtask.by f w.tasks))
makes_so (Acts u) w = made_as _ _ [] _ (entry_none u (slice_get w.tasks u)) (changed_none u _ w.tasks)
makes_so (Exits u) w = made_as _ _ [] _ (exit_none u) (changed_none u _ w.tasks)
makes_so (IsRemoved u) w =
    made_as _ _ [] _ (exit_none u)
    (none_made w.tasks _ (length_changed u (λ task. record task { state = Exited }) (changed_at u (λ task. record task { resolution = Some Cancelled }) w.tasks) ∙ length_changed u (λ task. record task { resolution = Some Cancelled }) w.tasks))
makes_so (Resolves u Returned) w = changed_none u _ w.tasks
makes_so (Resolves u Cancelled) w = changed_none u _ w.tasks
makes_so (Begins n) w = changed_none 0 _ w.tasks
makes_so (Cancels u callee n words) w = changed_none u _ w.tasks
makes_so (Blocks u state) w = changed_none u _ w.tasks
makes_so (IsCancelled u cancellation) w = changed_none u _ w.tasks
makes_so (HasWord u slot word) w = changed_none u _ w.tasks
makes_so (HasNewStack u k) w = changed_none u _ w.tasks
makes_so (HasStack u k) w = changed_none u _ w.tasks
makes_so (LosesStack u) w = changed_none u _ w.tasks
makes_so (IsAnswered u words) w = changed_none u _ w.tasks
makes_so (IsTold u state) w = changed_none u _ w.tasks
makes_so (IsLent u handle) w = changed_none u _ w.tasks
makes_so (HasResult u words) w = changed_none u _ w.tasks
makes_so (MakesChannel kind element) w = none_made w.tasks _ (channel_more kind element w)
makes_so (Offers e call) w = none_made w.tasks _ (channel_none e.kind e.number _ w)
makes_so (Transfers e size values) w = none_made w.tasks _ (channel_none e.kind e.number _ _ ∙ channel_none e.kind e.number _ w)
makes_so (Concludes e) w = none_made w.tasks _ (channel_none e.kind e.number _ w)
makes_so (DropsEnd e) w = none_made w.tasks _ (channel_none e.kind e.number _ w)
makes_so (GoesTo control) w = same_made w
makes_so (HasStore store) w = same_made w
makes_so SpendsUnit w = same_made w
makes_so (UsesPicks picks) w = same_made w
makes_so TakesItem w = same_made w
makes_so BeginsInstance w = same_made w
makes_so (AddsEntry i entry) w = same_made w
makes_so (MakesSet i set) w = same_made w
makes_so (RemovesEntry i index) w = same_made w
makes_so (RemovesWaitable i index) w = same_made w
makes_so (LeavesSet i index) w = same_made w
makes_so (JoinsSet i index set) w = same_made w
makes_so (HasBackpressure i pressure) w = same_made w
makes_so (ComesBack u) w = same_made w

-- Lines in place of marks.
exit_makes : (n : ℕ) (marks : List Mark) → makes_of (with_exit n marks) ≡ makes_of marks
exit_makes zero marks = refl
exit_makes (suc n) marks = refl

by_lines : (labels : List Label) → makes_of (marks_of labels) ≡ tasks_made labels
by_lines [] = refl
by_lines (line.Take call n name values ∷ labels) = ap (λ (ns : List ℕ). n ∷ ns) (by_lines labels)
by_lines (line.Call caller n instance ∷ labels) = ap (λ (ns : List ℕ). n ∷ ns) (by_lines labels)
by_lines (line.Exit n ∷ labels) = exit_makes n (marks_of labels) ∙ by_lines labels
by_lines (line.Enter n ∷ labels) = by_lines labels
by_lines (line.Return n value ∷ labels) = by_lines labels
by_lines (line.Cancelled n ∷ labels) = by_lines labels
by_lines (line.Cancel call ∷ labels) = by_lines labels
by_lines (line.Choose alternatives chosen ∷ labels) = by_lines labels
by_lines (line.Do n builtin words ∷ labels) = by_lines labels
by_lines (line.Got n words ∷ labels) = by_lines labels
by_lines (line.Block n reason ∷ labels) = by_lines labels
by_lines (line.Go n ∷ labels) = by_lines labels
by_lines (line.Event n code index payload ∷ labels) = by_lines labels
by_lines (line.Copy channel copied ∷ labels) = by_lines labels
by_lines (line.Lend instance handle n ∷ labels) = by_lines labels
by_lines (line.Unlend instance handle n ∷ labels) = by_lines labels
by_lines (line.Done ∷ labels) = by_lines labels
by_lines (line.Trap n why ∷ labels) = by_lines labels
by_lines (line.Deadlock tasks ∷ labels) = by_lines labels
by_lines (line.Fuel ∷ labels) = by_lines labels

step_makes : (g : Graph) (s : Script) (w v : World) (labels : List Label) → RunsAlone w → next g s w ≡ Steps labels v → AreMade (length w.tasks) (tasks_made labels) (length v.tasks)
step_makes g s w v labels alone e =
    made_as (length w.tasks) (length v.tasks) (makes_of (marks_of labels)) (tasks_made labels) (sym (by_lines labels))
    (marked_so g s (λ marks u. AreMade (length w.tasks) (makes_of marks) (length u.tasks))
    (λ marks c u may is k.
    made_as (length w.tasks) (length (after c u).tasks) _ _ (makes_both marks (marks_by c u))
    (made_both (length w.tasks) (length u.tasks) (length (after c u).tasks) (makes_of marks) (makes_of (marks_by c u)) k (makes_so c u))) w v labels alone (same_made w) e)

front_both : (x y z all : List ℕ) → all ≡ y ++ z → x ++ all ≡ (x ++ y) ++ z
front_both [] y z all e = e
front_both (n ∷ x) y z all e = ap (λ (ns : List ℕ). n ∷ ns) (front_both x y z all e)

lines_both : (a b : List Label) → tasks_made (a ++ b) ≡ tasks_made a ++ tasks_made b
lines_both [] b = refl
lines_both (l ∷ a) b = front_both (if_made (milestone_by l)) (tasks_made a) (tasks_made b) (tasks_made (a ++ b)) (lines_both a b)

made_from : (g : Graph) (s : Script) (steps : List (List Label)) (w v : World) → RunsAlone w → Reaches g s w steps v → AreMade (length w.tasks) (tasks_made (lines_of steps)) (length v.tasks)
made_from g s [] w v alone r = subst (λ (u : World). AreMade (length w.tasks) [] (length u.tasks)) (sym r) (same_made w)
made_from g s (labels ∷ steps) w v alone r =
    made_as (length w.tasks) (length v.tasks) _ _ (lines_both labels (lines_of steps))
    (made_both (length w.tasks) (length r.0.tasks) (length v.tasks) (tasks_made labels) (tasks_made (lines_of steps)) (step_makes g s w r.0 labels alone r.1)
    (made_from g s steps r.0 v (stays_alone g s w r.0 labels alone r.1) r.2))

pub tasks_are_counted : TasksAreCounted
tasks_are_counted g s steps w r =
    let h : AreMade 1 (tasks_made (lines_of steps)) (length w.tasks) = made_from g s steps (first_world g) w (first_runs_alone g) r in
    (h.0, (let long : length w.tasks ≡ 1 + length (tasks_made (lines_of steps)) = h.1 in omega (arith, long)))

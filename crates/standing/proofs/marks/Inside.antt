-- What happens to a task inside is not seen by its gate, nor by sets.
use Rattle.std.proofs.Common.{◌≡◌, ℕ, Bool, true, false, ◌&&◌, nat_eq, if◌then◌else◌, refl, ap, sym, ◌∙◌, Option, Some, None}
use Rattle.entry_gate.specs.Stays.{Place, Inside}
use Rattle.entry_gate.specs.declared.kind.Kind.{Kind}
use Rattle.tasks.specs.Views.{TaskView}
use Rattle.tasks.specs.Tasks as tasks
use Rattle.tasks.specs.Tasks.{is_acting, may_happen, fault, advanced, unless}
use Rattle.tasks.specs.declared.event.BlockedAt.{BlockedAt}
use Rattle.tasks.specs.declared.event.BlockedAt.TheVariants as blocked_at
use Rattle.tasks.specs.declared.event.TaskEvent.{TaskEvent}
use Rattle.tasks.specs.declared.event.TaskEvent.TheVariants as event
use Rattle.tasks.specs.declared.event.TaskTrap.{TaskTrap}
use Rattle.tasks.specs.declared.phase.Phase.{Phase}
use Rattle.tasks.specs.declared.phase.Phase.TheVariants as phase
use Rattle.task_table.specs.declared.errand.Callee.{Callee}
use Rattle.task_table.specs.declared.slot.TaskSlot.{TaskSlot}
use Rattle.task_table.specs.Slots.{advanced_slot, blocks_on, waits_on, with_task}
use Rattle.standing.specs.KeptMarks.{runs_func, place_blocked, place_in}
use Rattle.standing.proofs.marks.Tasks.{StaySame, SeenSame}

-- A wait inside that is not at a set, and what does not bring a task in or out.
abbrev pub IsQuietWait : BlockedAt → Type 0
IsQuietWait blocked_at.Entry = ⊥
IsQuietWait (blocked_at.Loop word) = ⊥
IsQuietWait blocked_at.Yield = Unit {0}
IsQuietWait (blocked_at.Set index) = ⊥
IsQuietWait (blocked_at.Call task) = Unit {0}
IsQuietWait (blocked_at.Copy index) = Unit {0}
IsQuietWait (blocked_at.Cancel index) = Unit {0}

abbrev pub IsQuiet : TaskEvent → Type 0
IsQuiet event.Enter = ⊥
IsQuiet (event.Block why flag) = IsQuietWait why
IsQuiet event.Go = ⊥
IsQuiet event.AskReturn = Unit {0}
IsQuiet event.Return = Unit {0}
IsQuiet event.Cancel = Unit {0}
IsQuiet event.Borrow = Unit {0}
IsQuiet event.Unborrow = Unit {0}
IsQuiet event.ToldCancel = Unit {0}
IsQuiet event.Exit = ⊥

-- The task is in the same instance, runs the same, and is where it was.
pub same_stay : (x y : TaskSlot) → y.instance ≡ x.instance → y.callee ≡ x.callee → y.task.kind ≡ x.task.kind → place_in y.task.phase ≡ place_in x.task.phase → StaySame x y
same_stay x y at callee kind place = record {
  at = λ n. ap (λ (c : Callee). runs_func c && nat_eq y.instance n) callee ∙ ap (λ (k : ℕ). runs_func x.callee && nat_eq k n) at;
  kind = kind;
  place = place;
}

pub same_seen : (x y : TaskSlot) → y.instance ≡ x.instance → y.callee ≡ x.callee → y.task.kind ≡ x.task.kind → y.task.phase ≡ x.task.phase → SeenSame x y
same_seen x y at callee kind p = record { stay = same_stay x y at callee kind (ap place_in p); waits = λ index. ap (λ q. waits_on index q) p }

if_seen : (b : Bool) (task : TaskView) (x : TaskSlot) → (b ≡ true → SeenSame x (with_task task x)) → SeenSame x (if b then with_task task x else x)
if_seen true task x p = p refl
if_seen false task x p = same_seen x x refl refl refl refl

unless_seen : (o : Option TaskTrap) (later : TaskView) (x : TaskSlot) → SeenSame x (with_task later x) → SeenSame x (with_task (unless o later x.task) x)
unless_seen None later x p = p
unless_seen (Some why) later x p = same_seen x (with_task x.task x) refl refl refl refl

inside_seen : (e : TaskEvent) (x : TaskSlot) → (tasks.after e x.task).kind ≡ x.task.kind → (tasks.after e x.task).phase ≡ x.task.phase → SeenSame x (advanced_slot e x)
inside_seen e x kind p =
    if_seen (may_happen e x.task) (advanced e x.task) x
    (λ may. unless_seen (fault e x.task) (tasks.after e x.task) x (same_seen x (with_task (tasks.after e x.task) x) refl refl kind p))

-- A task that acts is inside, and waits on no set.
pub acting_inside : (p : Phase) → is_acting p ≡ true → place_in p ≡ Inside
acting_inside phase.New e = absurd (cc)
acting_inside phase.Acting e = refl
acting_inside (phase.Blocked why flag) e = absurd (cc)
acting_inside phase.Exited e = absurd (cc)

pub acting_waits_not : (index : ℕ) (p : Phase) → is_acting p ≡ true → waits_on index p ≡ false
acting_waits_not index phase.New e = refl
acting_waits_not index phase.Acting e = refl
acting_waits_not index (phase.Blocked why flag) e = absurd (cc)
acting_waits_not index phase.Exited e = refl

blocked_seen : (why : BlockedAt) (flag : Bool) (x : TaskSlot) → place_blocked why ≡ Inside → ((index : ℕ) → blocks_on index why ≡ false) → is_acting x.task.phase ≡ true
    → SeenSame x (with_task (record x.task { phase = phase.Blocked why flag }) x)
blocked_seen why flag x inside none acts = record {
  stay = same_stay x (with_task (record x.task { phase = phase.Blocked why flag }) x) refl refl refl (inside ∙ sym (acting_inside x.task.phase acts));
  waits = λ index. none index ∙ sym (acting_waits_not index x.task.phase acts);
}

wait_seen : (why : BlockedAt) → IsQuietWait why → (flag : Bool) (x : TaskSlot) → SeenSame x (advanced_slot (event.Block why flag) x)
wait_seen blocked_at.Entry q flag x = absurd q
wait_seen (blocked_at.Loop word) q flag x = absurd q
wait_seen blocked_at.Yield q flag x =
    if_seen (is_acting x.task.phase) (record x.task { phase = phase.Blocked blocked_at.Yield flag }) x (λ acts. blocked_seen blocked_at.Yield flag x refl (λ index. refl) acts)
wait_seen (blocked_at.Set index) q flag x = absurd q
wait_seen (blocked_at.Call task) q flag x =
    if_seen (is_acting x.task.phase) (record x.task { phase = phase.Blocked (blocked_at.Call task) flag }) x (λ acts. blocked_seen (blocked_at.Call task) flag x refl (λ index. refl) acts)
wait_seen (blocked_at.Copy end) q flag x =
    if_seen (is_acting x.task.phase) (record x.task { phase = phase.Blocked (blocked_at.Copy end) flag }) x (λ acts. blocked_seen (blocked_at.Copy end) flag x refl (λ index. refl) acts)
wait_seen (blocked_at.Cancel subtask) q flag x =
    if_seen (is_acting x.task.phase) (record x.task { phase = phase.Blocked (blocked_at.Cancel subtask) flag }) x
    (λ acts. blocked_seen (blocked_at.Cancel subtask) flag x refl (λ index. refl) acts)

pub quiet_seen : (e : TaskEvent) → IsQuiet e → (x : TaskSlot) → SeenSame x (advanced_slot e x)
quiet_seen event.Enter q x = absurd q
quiet_seen (event.Block why flag) q x = wait_seen why q flag x
quiet_seen event.Go q x = absurd q
quiet_seen event.AskReturn q x = inside_seen event.AskReturn x refl refl
quiet_seen event.Return q x = inside_seen event.Return x refl refl
quiet_seen event.Cancel q x = inside_seen event.Cancel x refl refl
quiet_seen event.Borrow q x = inside_seen event.Borrow x refl refl
quiet_seen event.Unborrow q x = inside_seen event.Unborrow x refl refl
quiet_seen event.ToldCancel q x = inside_seen event.ToldCancel x refl refl
quiet_seen event.Exit q x = absurd q

-- What callers are told rises along a run, and that a task has resolved is told in one step.
use Rattle.std.proofs.Common.{◌≡◌, ◌≤◌, ◌⊎◌, inl, inr, ℕ, Bool, true, false, List, [], ◌∷◌, refl, sym, ap, ◌∙◌, subst, arith}
use Rattle.tasks.specs.declared.subtask_state.SubtaskState.{SubtaskState}
use Rattle.tasks.specs.Subtasks.{code_of, is_over}
use Rattle.comp_graph.specs.Graph.{Graph}
use Rattle.script_reader.specs.Script.{Script}
use Rattle.trace_labels.specs.declared.label.Label.{Label}
use Rattle.abi_machine.specs.World.{Subtask, Task, World, first_world}
use Rattle.abi_machine.specs.Reading.{subtask_of}
use Rattle.abi_machine.specs.Turn.{Steps}
use Rattle.abi_machine.specs.Next.{next}
use Rattle.abi_machine.specs.Run.{Reaches}
use Rattle.abi_machine.specs.sound.Initial.{RunsAlone}
use Rattle.abi_machine.specs.sound.Tables.{HaveHistories}
use Rattle.abi_machine.specs.sound.Told.{AreTold}
use Rattle.abi_machine.specs.sound.Subtasks.{StandsAt, CallIs}
use Rattle.abi_machine.specs.sound.Cancels.{IsOver, IsNotOver}
use Rattle.abi_machine.specs.sound.Rising.{IsToldBehind}
use Rattle.abi_machine.proofs.sound.Found.{some_same}
use Rattle.abi_machine.proofs.sound.Alone.{first_runs_alone, stays_alone}
use Rattle.abi_machine.proofs.sound.Histories.{first_has_histories, histories_stay}
use Rattle.abi_machine.proofs.sound.Telling.{first_is_told, told_stays}
use Rattle.abi_machine.proofs.sound.Rising.{states_rise, subtasks_stay_untold}
use Rattle.waiting_laws.specs.Telling.{StatesRiseAlong, FirstToldOnce, TellsOnTheWay, FirstToldInAStep, LeavesWhenTold}

-- What the laws of steps ask of a world holds of each that a run reaches.
pub record IsKept (w : World) : Type 0 where
  pub alone : RunsAlone w
  pub histories : HaveHistories w.insts
  pub told : AreTold w.tasks

first_kept : (g : Graph) → IsKept (first_world g)
first_kept g = record { alone = first_runs_alone g; histories = first_has_histories g; told = first_is_told g }

stays_kept : (g : Graph) (s : Script) (w v : World) (labels : List Label) → IsKept w → next g s w ≡ Steps labels v → IsKept v
stays_kept g s w v labels h e = record {
  alone = stays_alone g s w v labels h.alone e;
  histories = histories_stay g s w v labels h.alone h.histories e;
  told = told_stays g s w v labels h.alone h.told e;
}

pub kept_from : (g : Graph) (s : Script) (steps : List (List Label)) (w v : World) → IsKept w → Reaches g s w steps v → IsKept v
kept_from g s [] w v h r = subst IsKept (sym r) h
kept_from g s (labels ∷ steps) w v h r = kept_from g s steps r.0 v (stays_kept g s w r.0 labels h r.1) r.2

pub kept_at : (g : Graph) (s : Script) (steps : List (List Label)) (w : World) → Reaches g s (first_world g) steps w → IsKept w
kept_at g s steps w r = kept_from g s steps (first_world g) w (first_kept g) r

-- The caller's side of a call is one.
pub one_side : (tasks : List Task) (t : ℕ) (P Q : Subtask → Type 0) → CallIs tasks t P → CallIs tasks t Q → (x : Subtask) × P x × Q x
one_side tasks t P Q a b =
    let task : a.0 ≡ b.0 = some_same (sym a.1 ∙ b.1) in
    let side : a.2.0 ≡ b.2.0 = some_same (sym a.2.1 ∙ (ap (λ (x : Task). subtask_of x.caller) task ∙ b.2.1)) in
    (b.2.0, subst P side a.2.2, b.2.2)

-- One step, and several.
behind_both : (state : SubtaskState) (x y : Subtask) → IsToldBehind state x → IsToldBehind x.told y → IsToldBehind state y
behind_both state x y a b = record {
  rises = (let low : code_of state ≤ code_of x.told = a.rises in let high : code_of x.told ≤ code_of y.told = b.rises in omega (arith, low, high));
  stays = λ over. (let same : x.told ≡ state = a.stays over in b.stays (subst (λ (z : SubtaskState). is_over z ≡ true) (sym same) over) ∙ same);
}

behind_step : (g : Graph) (s : Script) (w v : World) (labels : List Label) (t : ℕ) (state : SubtaskState) → IsKept w → next g s w ≡ Steps labels v → CallIs w.tasks t (IsToldBehind state)
    → CallIs v.tasks t (IsToldBehind state)
behind_step g s w v labels t state h e k =
    let later = states_rise g s w v labels h.alone h.told e t k.2.0.told (k.0, k.1, (k.2.0, k.2.1, refl)) in
    (later.0, later.1, (later.2.0, later.2.1, behind_both state k.2.0 later.2.0 k.2.2 later.2.2))

behind_along : (g : Graph) (s : Script) (steps : List (List Label)) (w v : World) (t : ℕ) (state : SubtaskState) → IsKept w → Reaches g s w steps v → CallIs w.tasks t (IsToldBehind state)
    → CallIs v.tasks t (IsToldBehind state)
behind_along g s [] w v t state h r k = subst (λ (x : World). CallIs x.tasks t (IsToldBehind state)) (sym r) k
behind_along g s (labels ∷ steps) w v t state h r k =
    behind_along g s steps r.0 v t state (stays_kept g s w r.0 labels h r.1) r.2 (behind_step g s w r.0 labels t state h r.1 k)

told_now : (state : SubtaskState) (x : Subtask) → x.told ≡ state → IsToldBehind state x
told_now state x same = record { rises = subst (λ (z : SubtaskState). code_of state ≤ code_of z) (sym same) (omega arith); stays = λ over. same }

now_behind : (tasks : List Task) (t : ℕ) (state : SubtaskState) → CallIs tasks t (λ x. x.told ≡ state) → CallIs tasks t (IsToldBehind state)
now_behind tasks t state k = (k.0, k.1, (k.2.0, k.2.1, told_now state k.2.0 k.2.2))

pub states_rise_along : StatesRiseAlong
states_rise_along g s steps more w v r m t state later was is =
    let both = one_side v.tasks t (IsToldBehind state) (λ x. x.told ≡ later) (behind_along g s more w v t state (kept_at g s steps w r) m (now_behind w.tasks t state was)) is in
    record {
      rises = subst (λ (z : SubtaskState). code_of state ≤ code_of z) both.2 both.1.rises;
      stays = λ over. sym both.2 ∙ both.1.stays over;
    }

-- Once it is told that the task has resolved this stays so.
pub over_along : (g : Graph) (s : Script) (steps : List (List Label)) (w v : World) (t : ℕ) → IsKept w → Reaches g s w steps v → CallIs w.tasks t IsOver → CallIs v.tasks t IsOver
over_along g s steps w v t h r k =
    let later = behind_along g s steps w v t k.2.0.told h r (now_behind w.tasks t k.2.0.told (k.0, k.1, (k.2.0, k.2.1, refl))) in
    (later.0, later.1, (later.2.0, later.2.1, subst (λ (z : SubtaskState). is_over z ≡ true) (sym (later.2.2.stays k.2.2)) k.2.2))

not_both : (b : Bool) → b ≡ true → b ≡ false → ⊥
not_both true e f = cc
not_both false e f = cc

over_or_not : (w : World) (t : ℕ) → CallIs w.tasks t IsOver → CallIs w.tasks t IsNotOver → ⊥
over_or_not w t a b = (let both = one_side w.tasks t IsOver IsNotOver a b in not_both (is_over both.0.told) both.1 both.2)

pub first_told_once : FirstToldOnce
first_told_once g s steps more w v x y labels r e m t first second =
    over_or_not x t (over_along g s more v x t (stays_kept g s w v labels (kept_at g s steps w r) e) m first.1) second.0

true_or_false : (b : Bool) → (b ≡ true) ⊎ (b ≡ false)
true_or_false true = inl refl
true_or_false false = inr refl

one_more : (g : Graph) (s : Script) (w mid v : World) (labels : List Label) (more : List (List Label)) (t : ℕ) → next g s w ≡ Steps labels mid → TellsOnTheWay g s mid v more t
    → TellsOnTheWay g s w v (labels ∷ more) t
one_more g s w mid v labels more t e h = record {
  before = labels ∷ h.before;
  labels = h.labels;
  behind = h.behind;
  from = h.from;
  to = h.to;
  all = ap (λ (l : List (List Label)). labels ∷ l) h.all;
  comes = (mid, e, h.comes);
  step = h.step;
  goes = h.goes;
  tells = h.tells;
}

tells_from : (g : Graph) (s : Script) (more : List (List Label)) (w v : World) (t : ℕ) → IsKept w → Reaches g s w more v → CallIs w.tasks t IsNotOver → CallIs v.tasks t IsOver → TellsOnTheWay g s w v more t
tells_from g s [] w v t h r not_yet over = absurd (over_or_not w t (subst (λ (x : World). CallIs x.tasks t IsOver) r over) not_yet)
tells_from g s (labels ∷ more) w v t h r not_yet over = elim (true_or_false (is_over later.2.0.told)) [
  | inl told ↦ record {
    before = [];
    labels = labels;
    behind = more;
    from = w;
    to = r.0;
    all = refl;
    comes = refl;
    step = r.1;
    goes = r.2;
    tells = (not_yet, (later.0, later.1, (later.2.0, later.2.1, told)));
  }
  | inr untold ↦
      one_more g s w r.0 v labels more t r.1
      (tells_from g s more r.0 v t (stays_kept g s w r.0 labels h r.1) r.2 (later.0, later.1, (later.2.0, later.2.1, untold)) over)
]
  where
    later : CallIs (r.0).tasks t (IsToldBehind not_yet.2.0.told)
    later = behind_step g s w r.0 labels t not_yet.2.0.told h r.1 (now_behind w.tasks t not_yet.2.0.told (not_yet.0, not_yet.1, (not_yet.2.0, not_yet.2.1, refl)))

pub first_told_in_a_step : FirstToldInAStep
first_told_in_a_step g s steps more w v r m t not_yet over = tells_from g s more w v t (kept_at g s steps w r) m not_yet over

leaves_from : (g : Graph) (s : Script) (more : List (List Label)) (w v : World) (i index callee : ℕ) → IsKept w → Reaches g s w more v → StandsAt w.insts i index callee
    → CallIs v.tasks callee IsOver ⊎ StandsAt v.insts i index callee
leaves_from g s [] w v i index callee h r stands = inr (subst (λ (x : World). StandsAt x.insts i index callee) (sym r) stands)
leaves_from g s (labels ∷ more) w v i index callee h r stands = elim (subtasks_stay_untold g s w r.0 labels h.alone h.histories h.told r.1 i index callee stands) [
  | inl over ↦ inl (over_along g s more r.0 v callee (stays_kept g s w r.0 labels h r.1) r.2 over)
  | inr still ↦ leaves_from g s more r.0 v i index callee (stays_kept g s w r.0 labels h r.1) r.2 still
]

pub leaves_when_told : LeavesWhenTold
leaves_when_told g s steps more w v r m i index callee stands = leaves_from g s more w v i index callee (kept_at g s steps w r) m stands

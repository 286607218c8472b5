-- Marks of gates and of sets stay where of a task only what they do not see changes, and where there is a further task. What they are where a task leaves
-- its wait for entry, and where it begins to wait on a set.
use Rattle.std.proofs.Common.{◌≡◌, ℕ, zero, suc, ◌+◌, ◌-◌, nat_eq, Bool, true, false, ◌&&◌, if◌then◌else◌, List, [], ◌∷◌, ◌++◌, slice_set, refl, sym, ap, ◌∙◌, arith, Option, Some, None}
use Rattle.std.specs.List.{slice_get, count_by}
use Rattle.std.proofs.lemmas.List.Sums.{sum_by-cons, sum_by_push}
use Rattle.entry_gate.specs.Gates.{GateView}
use Rattle.entry_gate.specs.Kinds.{needs_entry}
use Rattle.entry_gate.specs.Stays.{Place, Outside, Stay, is_waiting, is_inside, waits, holds, holder_of}
use Rattle.entry_gate.specs.declared.kind.Kind.{Kind}
use Rattle.tasks.specs.declared.phase.Phase.TheVariants as phase
use Rattle.task_table.specs.declared.slot.TaskSlot.{TaskSlot}
use Rattle.task_table.specs.Slots.{waits_on}
use Rattle.world_parts.specs.Held.{Held}
use Rattle.world_parts.specs.Slots.{with_task}
use Rattle.abi_machine.proofs.sound.Found.{some_same}
use Rattle.standing.specs.KeptMarks.{runs_at, place_in, stay_in, stays_at, GateMarked, GatesMarked, waiters_at, WaitersMarked}
use Rattle.standing.specs.MarksKept.{WaitsStay}
use Rattle.standing.proofs.KeptMarks.{kept_from, kept_front}
use Rattle.standing.proofs.marks.Stays.{stays_all, stays_further}

-- What the gate sees of a task is the same; and so is what a set sees of it.
pub record StaySame (x y : TaskSlot) : Type 0 where
  pub at : (n : ℕ) → runs_at n y ≡ runs_at n x
  pub kind : y.task.kind ≡ x.task.kind
  pub place : place_in y.task.phase ≡ place_in x.task.phase

pub record SeenSame (x y : TaskSlot) : Type 0 where
  pub stay : StaySame x y
  pub waits : (index : ℕ) → waits_on index y.task.phase ≡ waits_on index x.task.phase

stay_same : (number : ℕ) (x y : TaskSlot) → StaySame x y → stay_in (number, y) ≡ stay_in (number, x)
stay_same number x y s =
    ap (λ (kind : Kind). (let stay : Stay = record { task = number; kind = kind; place = place_in y.task.phase } in stay)) s.kind
    ∙ ap (λ (place : Place). (let stay : Stay = record { task = number; kind = x.task.kind; place = place } in stay)) s.place

pub front : ℕ → ℕ → TaskSlot → List Stay → List Stay
front at number k rest = if runs_at at k then stay_in (number, k) ∷ rest else rest

front_is : (at number : ℕ) (k : TaskSlot) (tasks : List TaskSlot) → kept_from at number (k ∷ tasks) ≡ front at number k (kept_from at (number + 1) tasks)
unfolding front
front_is at number k tasks = kept_front at number k tasks

front_same : (at number : ℕ) (x y : TaskSlot) (rest : List Stay) → StaySame x y → front at number y rest ≡ front at number x rest
unfolding front
front_same at number x y rest s =
    ap (λ (b : Bool). if b then stay_in (number, y) ∷ rest else rest) (s.at at) ∙ ap (λ (stay : Stay). if runs_at at x then stay ∷ rest else rest) (stay_same number x y s)

stays_set : (at number : ℕ) (tasks : List TaskSlot) (t : ℕ) (x y : TaskSlot) → slice_get tasks t ≡ Some x → StaySame x y
    → kept_from at number (slice_set tasks t y) ≡ kept_from at number tasks
stays_set at number [] t x y e s = absurd (cc)
stays_set at number (z ∷ tasks) zero x y e s =
    front_is at number y tasks ∙ front_same at number x y (kept_from at (number + 1) tasks) s
    ∙ ap (λ (k : TaskSlot). front at number k (kept_from at (number + 1) tasks)) (sym (some_same e)) ∙ sym (front_is at number z tasks)
stays_set at number (z ∷ tasks) (suc t) x y e s =
    front_is at number z (slice_set tasks t y) ∙ ap (λ (rest : List Stay). front at number z rest) (stays_set at (number + 1) tasks t x y e s)
    ∙ sym (front_is at number z tasks)

pub gate_as : (tasks later : List TaskSlot) (at : ℕ) (gate : GateView) → stays_at at later ≡ stays_at at tasks → GateMarked tasks at gate → GateMarked later at gate
gate_as tasks later at gate same m = record { holder = m.holder ∙ ap holder_of (sym same); waiting = m.waiting ∙ ap (count_by waits) (sym same) }

pub gate_seen : (tasks : List TaskSlot) (t : ℕ) (x y : TaskSlot) (at : ℕ) (gate : GateView) → slice_get tasks t ≡ Some x → StaySame x y → GateMarked tasks at gate
    → GateMarked (slice_set tasks t y) at gate
gate_seen tasks t x y at gate is s m = gate_as tasks (slice_set tasks t y) at gate (stays_set at 0 tasks t x y is s) m

-- Whether it waits on a set at an index.
pub waits_at : ℕ → ℕ → TaskSlot → Bool
waits_at at index slot = runs_at at slot && waits_on index slot.task.phase

pub waits_same : (at index : ℕ) (x y : TaskSlot) → SeenSame x y → waits_at at index y ≡ waits_at at index x
unfolding waits_at
waits_same at index x y s = ap (λ (b : Bool). b && waits_on index y.task.phase) (s.stay.at at) ∙ ap (λ (b : Bool). runs_at at x && b) (s.waits index)

no_both : (b c : Bool) → c ≡ false → (b && c) ≡ false
no_both true c e = e
no_both false c e = refl

pub waits_not : (at index : ℕ) (x : TaskSlot) → waits_on index x.task.phase ≡ false → waits_at at index x ≡ false
unfolding waits_at
waits_not at index x none = no_both (runs_at at x) (waits_on index x.task.phase) none

pub waits_elsewhere : (at index : ℕ) (x : TaskSlot) → runs_at at x ≡ false → waits_at at index x ≡ false
unfolding waits_at
waits_elsewhere at index x none = ap (λ (b : Bool). b && waits_on index x.task.phase) none

pub waits_there : (at index : ℕ) (x : TaskSlot) → runs_at at x ≡ true → waits_at at index x ≡ waits_on index x.task.phase
unfolding waits_at
waits_there at index x there = ap (λ (b : Bool). b && waits_on index x.task.phase) there

counted : ℕ → ℕ → TaskSlot → ℕ
counted at index slot = if waits_at at index slot then 1 else 0

counted_by : (at index : ℕ) (x : TaskSlot) (b : Bool) → waits_at at index x ≡ b → counted at index x ≡ (if b then 1 else 0)
unfolding counted
counted_by at index x b is = ap (λ (c : Bool). if c then 1 else 0) is

waiters_front : (at index : ℕ) (x : TaskSlot) (tasks : List TaskSlot) → waiters_at (x ∷ tasks) at index ≡ counted at index x + waiters_at tasks at index
unfolding waits_at counted
waiters_front at index x tasks = sum_by-cons (λ (slot : TaskSlot). if runs_at at slot && waits_on index slot.task.phase then 1 else 0) x tasks

-- how many do, where a task is another one
waiters_by : (at index : ℕ) (tasks : List TaskSlot) (t : ℕ) (x y : TaskSlot) → slice_get tasks t ≡ Some x
    → waiters_at (slice_set tasks t y) at index + counted at index x ≡ waiters_at tasks at index + counted at index y
waiters_by at index [] t x y e = absurd (cc)
waiters_by at index (z ∷ tasks) zero x y e =
    let a : waiters_at (y ∷ tasks) at index ≡ counted at index y + waiters_at tasks at index = waiters_front at index y tasks in
    let b : waiters_at (z ∷ tasks) at index ≡ counted at index z + waiters_at tasks at index = waiters_front at index z tasks in
    let c : counted at index z ≡ counted at index x = ap (counted at index) (some_same e) in
    omega (arith, a, b, c)
waiters_by at index (z ∷ tasks) (suc t) x y e =
    let a : waiters_at (z ∷ slice_set tasks t y) at index ≡ counted at index z + waiters_at (slice_set tasks t y) at index = waiters_front at index z (slice_set tasks t y) in
    let b : waiters_at (z ∷ tasks) at index ≡ counted at index z + waiters_at tasks at index = waiters_front at index z tasks in
    let c : waiters_at (slice_set tasks t y) at index + counted at index x ≡ waiters_at tasks at index + counted at index y = waiters_by at index tasks t x y e in
    omega (arith, a, b, c)

pub waiters_same : (at index : ℕ) (tasks : List TaskSlot) (t : ℕ) (x y : TaskSlot) → slice_get tasks t ≡ Some x → waits_at at index y ≡ waits_at at index x
    → waiters_at (slice_set tasks t y) at index ≡ waiters_at tasks at index
waiters_same at index tasks t x y e same =
    let a : waiters_at (slice_set tasks t y) at index + counted at index x ≡ waiters_at tasks at index + counted at index y = waiters_by at index tasks t x y e in
    let b : counted at index y ≡ (if waits_at at index x then 1 else 0) = counted_by at index y (waits_at at index x) same in
    let c : counted at index x ≡ (if waits_at at index x then 1 else 0) = counted_by at index x (waits_at at index x) refl in
    let d : counted at index y ≡ counted at index x = b ∙ sym c in
    omega (arith, a, d)

pub waiters_more : (at index : ℕ) (tasks : List TaskSlot) (t : ℕ) (x y : TaskSlot) → slice_get tasks t ≡ Some x → waits_at at index x ≡ false → waits_at at index y ≡ true
    → waiters_at (slice_set tasks t y) at index ≡ waiters_at tasks at index + 1
waiters_more at index tasks t x y e not_before now =
    let a : waiters_at (slice_set tasks t y) at index + counted at index x ≡ waiters_at tasks at index + counted at index y = waiters_by at index tasks t x y e in
    let b : counted at index y ≡ 1 = counted_by at index y true now in
    let c : counted at index x ≡ 0 = counted_by at index x false not_before in
    omega (arith, a, b, c)

pub task_stays : (h : Held) (t : ℕ) (x y : TaskSlot) → slice_get h.tasks t ≡ Some x → SeenSame x y → WaitsStay h (with_task t y h)
task_stays h t x y is s = record {
  gates = λ marks at i there. gate_seen h.tasks t x y at i.gate is s.stay (marks at i there);
  waiters = λ marks at index set i there stood. marks at index set i there stood ∙ sym (waiters_same at index h.tasks t x y is (waits_same at index x y s));
}

-- Who holds entry, and how many wait for it, behind the first task.
holder_if : (b : Bool) (stay : Stay) (rest : List Stay)
    → holder_of (if b then stay ∷ rest else rest) ≡ (if b then (if holds stay then Some stay.task else holder_of rest) else holder_of rest)
holder_if true stay rest = refl
holder_if false stay rest = refl

holder_front : (at number : ℕ) (z : TaskSlot) (xs ys : List Stay) → holder_of xs ≡ holder_of ys → holder_of (front at number z xs) ≡ holder_of (front at number z ys)
unfolding front
holder_front at number z xs ys same =
    holder_if (runs_at at z) (stay_in (number, z)) xs
    ∙ ap (λ (o : Option ℕ). if runs_at at z then (if holds (stay_in (number, z)) then Some number else o) else o) same
    ∙ sym (holder_if (runs_at at z) (stay_in (number, z)) ys)

same_both : {A : Type 0} (b : Bool) (x : A) → (if b then x else x) ≡ x
same_both true x = refl
same_both false x = refl

no_holder : (b : Bool) (place : Place) → is_inside place ≡ false → (b && is_inside place) ≡ false
no_holder b place none = no_both b (is_inside place) none

-- one that is not inside holds nothing
holder_not : (at number : ℕ) (x : TaskSlot) (rest : List Stay) → is_inside (place_in x.task.phase) ≡ false → holder_of (front at number x rest) ≡ holder_of rest
unfolding front
holder_not at number x rest outside =
    holder_if (runs_at at x) (stay_in (number, x)) rest
    ∙ ap (λ (b : Bool). if runs_at at x then (if b then Some number else holder_of rest) else holder_of rest) (no_holder (needs_entry x.task.kind) (place_in x.task.phase) outside)
    ∙ same_both (runs_at at x) (holder_of rest)

count_if : (b : Bool) (stay : Stay) (rest : List Stay) → count_by waits (if b then stay ∷ rest else rest) ≡ (if b then (if waits stay then 1 else 0) else 0) + count_by waits rest
count_if true stay rest = sum_by-cons (λ (x : Stay). if waits x then 1 else 0) stay rest
count_if false stay rest = (let same : count_by waits rest ≡ 0 + count_by waits rest = omega arith in same)

-- how many of one task wait for entry
pub entering : ℕ → TaskSlot → ℕ
entering at x = if runs_at at x then (if is_waiting (place_in x.task.phase) then 1 else 0) else 0

count_front : (at number : ℕ) (x : TaskSlot) (rest : List Stay) → count_by waits (front at number x rest) ≡ entering at x + count_by waits rest
unfolding front entering
count_front at number x rest = count_if (runs_at at x) (stay_in (number, x)) rest

count_kept : (at number : ℕ) (x : TaskSlot) (tasks : List TaskSlot) → count_by waits (kept_from at number (x ∷ tasks)) ≡ entering at x + count_by waits (kept_from at (number + 1) tasks)
count_kept at number x tasks = ap (count_by waits) (front_is at number x tasks) ∙ count_front at number x (kept_from at (number + 1) tasks)

pub entering_not : (at : ℕ) (x : TaskSlot) → is_waiting (place_in x.task.phase) ≡ false → entering at x ≡ 0
unfolding entering
entering_not at x none = ap (λ (b : Bool). if runs_at at x then (if b then 1 else 0) else 0) none ∙ same_both (runs_at at x) 0

pub entering_one : (at : ℕ) (x : TaskSlot) → runs_at at x ≡ true → is_waiting (place_in x.task.phase) ≡ true → entering at x ≡ 1
unfolding entering
entering_one at x there waits_in =
    ap (λ (b : Bool). if b then (if is_waiting (place_in x.task.phase) then 1 else 0) else 0) there ∙ ap (λ (b : Bool). if b then 1 else 0) waits_in

pub entering_elsewhere : (at : ℕ) (x : TaskSlot) → runs_at at x ≡ false → entering at x ≡ 0
unfolding entering
entering_elsewhere at x none = ap (λ (b : Bool). if b then (if is_waiting (place_in x.task.phase) then 1 else 0) else 0) none

-- A task that is not inside is another one that is not inside.
holder_set : (at number : ℕ) (tasks : List TaskSlot) (t : ℕ) (x y : TaskSlot) → slice_get tasks t ≡ Some x → is_inside (place_in x.task.phase) ≡ false
    → is_inside (place_in y.task.phase) ≡ false → holder_of (kept_from at number (slice_set tasks t y)) ≡ holder_of (kept_from at number tasks)
holder_set at number [] t x y e before now = absurd (cc)
holder_set at number (z ∷ tasks) zero x y e before now =
    ap holder_of (front_is at number y tasks) ∙ holder_not at number y (kept_from at (number + 1) tasks) now
    ∙ sym (holder_not at number x (kept_from at (number + 1) tasks) before)
    ∙ ap (λ (k : TaskSlot). holder_of (front at number k (kept_from at (number + 1) tasks))) (sym (some_same e)) ∙ ap holder_of (sym (front_is at number z tasks))
holder_set at number (z ∷ tasks) (suc t) x y e before now =
    ap holder_of (front_is at number z (slice_set tasks t y))
    ∙ holder_front at number z (kept_from at (number + 1) (slice_set tasks t y)) (kept_from at (number + 1) tasks) (holder_set at (number + 1) tasks t x y e before now)
    ∙ ap holder_of (sym (front_is at number z tasks))

count_set : (at number : ℕ) (tasks : List TaskSlot) (t : ℕ) (x y : TaskSlot) → slice_get tasks t ≡ Some x
    → count_by waits (kept_from at number (slice_set tasks t y)) + entering at x ≡ count_by waits (kept_from at number tasks) + entering at y
count_set at number [] t x y e = absurd (cc)
count_set at number (z ∷ tasks) zero x y e =
    let a : count_by waits (kept_from at number (y ∷ tasks)) ≡ entering at y + count_by waits (kept_from at (number + 1) tasks) = count_kept at number y tasks in
    let b : count_by waits (kept_from at number (z ∷ tasks)) ≡ entering at z + count_by waits (kept_from at (number + 1) tasks) = count_kept at number z tasks in
    let c : entering at z ≡ entering at x = ap (entering at) (some_same e) in
    omega (arith, a, b, c)
count_set at number (z ∷ tasks) (suc t) x y e =
    let a : count_by waits (kept_from at number (z ∷ slice_set tasks t y)) ≡ entering at z + count_by waits (kept_from at (number + 1) (slice_set tasks t y))
    = count_kept at number z (slice_set tasks t y) in
    let b : count_by waits (kept_from at number (z ∷ tasks)) ≡ entering at z + count_by waits (kept_from at (number + 1) tasks) = count_kept at number z tasks in
    let c : count_by waits (kept_from at (number + 1) (slice_set tasks t y)) + entering at x ≡ count_by waits (kept_from at (number + 1) tasks) + entering at y
    = count_set at (number + 1) tasks t x y e in
    omega (arith, a, b, c)

-- So an instance at which neither the one nor the other waits is marked as before; where the one waited and the other does not, one fewer waits.
pub gate_elsewhere : (tasks : List TaskSlot) (t : ℕ) (x y : TaskSlot) (at : ℕ) (gate : GateView) → slice_get tasks t ≡ Some x → is_inside (place_in x.task.phase) ≡ false
    → is_inside (place_in y.task.phase) ≡ false → runs_at at x ≡ false → runs_at at y ≡ false → GateMarked tasks at gate → GateMarked (slice_set tasks t y) at gate
gate_elsewhere tasks t x y at gate is before now one two m =
    let a : count_by waits (stays_at at (slice_set tasks t y)) + entering at x ≡ count_by waits (stays_at at tasks) + entering at y = count_set at 0 tasks t x y is in
    let b : entering at x ≡ 0 = entering_elsewhere at x one in
    let c : entering at y ≡ 0 = entering_elsewhere at y two in
    let d : gate.waiting ≡ count_by waits (stays_at at tasks) = m.waiting in
    record { holder = m.holder ∙ sym (holder_set at 0 tasks t x y is before now); waiting = omega (arith, a, b, c, d) }

pub gate_left : (tasks : List TaskSlot) (t : ℕ) (x y : TaskSlot) (at : ℕ) (gate later : GateView) → slice_get tasks t ≡ Some x → is_inside (place_in x.task.phase) ≡ false
    → is_inside (place_in y.task.phase) ≡ false → runs_at at x ≡ true → is_waiting (place_in x.task.phase) ≡ true → is_waiting (place_in y.task.phase) ≡ false
    → later.holder ≡ gate.holder → later.waiting ≡ gate.waiting - 1 → GateMarked tasks at gate → GateMarked (slice_set tasks t y) at later
gate_left tasks t x y at gate later is before now there waited waits_not_now same fewer m =
    let a : count_by waits (stays_at at (slice_set tasks t y)) + entering at x ≡ count_by waits (stays_at at tasks) + entering at y = count_set at 0 tasks t x y is in
    let b : entering at x ≡ 1 = entering_one at x there waited in
    let c : entering at y ≡ 0 = entering_not at y waits_not_now in
    let d : gate.waiting ≡ count_by waits (stays_at at tasks) = m.waiting in
    record { holder = same ∙ m.holder ∙ sym (holder_set at 0 tasks t x y is before now); waiting = omega (arith, a, b, c, d, fewer) }

-- A further task, which has begun nothing.
holder_more : (at number : ℕ) (tasks : List TaskSlot) (new : TaskSlot) → is_inside (place_in new.task.phase) ≡ false
    → holder_of (kept_from at number (tasks ++ new ∷ [])) ≡ holder_of (kept_from at number tasks)
holder_more at number [] new outside = ap holder_of (front_is at number new []) ∙ holder_not at number new (kept_from at (number + 1) []) outside
holder_more at number (z ∷ tasks) new outside =
    ap holder_of (front_is at number z (tasks ++ new ∷ []))
    ∙ holder_front at number z (kept_from at (number + 1) (tasks ++ new ∷ [])) (kept_from at (number + 1) tasks) (holder_more at (number + 1) tasks new outside)
    ∙ ap holder_of (sym (front_is at number z tasks))

count_more : (at number : ℕ) (tasks : List TaskSlot) (new : TaskSlot) → is_waiting (place_in new.task.phase) ≡ false
    → count_by waits (kept_from at number (tasks ++ new ∷ [])) ≡ count_by waits (kept_from at number tasks)
count_more at number [] new outside =
    let a : count_by waits (kept_from at number (new ∷ [])) ≡ entering at new + count_by waits (kept_from at (number + 1) []) = count_kept at number new [] in
    let b : entering at new ≡ 0 = entering_not at new outside in
    let c : count_by waits (kept_from at (number + 1) []) ≡ count_by waits (kept_from at number []) = refl in
    omega (arith, a, b, c)
count_more at number (z ∷ tasks) new outside =
    count_kept at number z (tasks ++ new ∷ []) ∙ ap (λ (n : ℕ). entering at z + n) (count_more at (number + 1) tasks new outside) ∙ sym (count_kept at number z tasks)

waiters_push : (at index : ℕ) (tasks : List TaskSlot) (new : TaskSlot) → waits_on index new.task.phase ≡ false → waiters_at (tasks ++ new ∷ []) at index ≡ waiters_at tasks at index
waiters_push at index tasks new none =
    sum_by_push (λ (slot : TaskSlot). if runs_at at slot && waits_on index slot.task.phase then 1 else 0) tasks new
    ∙ ap (λ (b : Bool). waiters_at tasks at index + (if b then 1 else 0)) (no_both (runs_at at new) (waits_on index new.task.phase) none)
    ∙ (let same : waiters_at tasks at index + 0 ≡ waiters_at tasks at index = omega arith in same)

pub tasks_stay_more : (h k : Held) (new : TaskSlot) → k.tasks ≡ h.tasks ++ new ∷ [] → k.instances ≡ h.instances → new.task.phase ≡ phase.New → WaitsStay h k
tasks_stay_more h k new same insts begins =
    let later : List TaskSlot = h.tasks ++ new ∷ [] in
    stays_further h (record h { tasks = later }) k
    (record {
      gates = λ marks at i there.
          let m : GateMarked h.tasks at i.gate = marks at i there in
          record {
            holder = m.holder ∙ sym (holder_more at 0 h.tasks new (ap (λ p. is_inside (place_in p)) begins));
            waiting = m.waiting ∙ sym (count_more at 0 h.tasks new (ap (λ p. is_waiting (place_in p)) begins));
          };
      waiters = λ marks at index set i there stood. marks at index set i there stood ∙ sym (waiters_push at index h.tasks new (ap (waits_on index) begins));
    })
    (stays_all (record h { tasks = later }) k same insts)

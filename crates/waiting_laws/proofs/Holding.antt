-- Who holds exclusive entry to an instance runs a function of it, which needs that, and is inside.
use Rattle.std.proofs.Common.{◌≡◌, ◌⊎◌, inl, inr, ◌+◌, ◌&&◌, ℕ, suc, Bool, true, false, List, [], ◌∷◌, map, refl, sym, ap, ◌∙◌, subst, arith, Option, Some, if◌then◌else◌}
use Rattle.std.specs.Prelude.{filter}
use Rattle.std.specs.List.{slice_get}
use Rattle.entry_gate.specs.Kinds.{needs_entry}
use Rattle.entry_gate.specs.Stays.{holds, is_inside, holder_of}
use Rattle.abi_machine.specs.World.{Task, World}
use Rattle.abi_machine.specs.Reading.{kind_of, runs_in, with_numbers}
use Rattle.abi_machine.specs.Gate.{place_of, stay_of, gate_of}
use Rattle.abi_machine.specs.sound.Deadlocks.{IsHeldBy}
use Rattle.abi_machine.proofs.sound.Found.{some_same}
use Rattle.waiting_laws.specs.Missing.{Holds, IsHeldByAnother}

-- among tasks that are numbered from n on
record HoldsFrom (i n holder : ℕ) (tasks : List Task) : Type 0 where
  place : ℕ
  task : Task
  is : holder ≡ n + place
  there : slice_get tasks place ≡ Some task
  runs : runs_in i task ≡ true
  needs : needs_entry (kind_of task) ≡ true
  inside : is_inside (place_of task.state) ≡ true

one_holds : (b : Bool) (n holder : ℕ) (others : Option ℕ) → (if b then Some n else others) ≡ Some holder → ((b ≡ true) × (holder ≡ n)) ⊎ (others ≡ Some holder)
one_holds true n holder others e = inl (refl, sym (some_same e))
one_holds false n holder others e = inr e

both_true : (a b : Bool) → (a && b) ≡ true → (a ≡ true) × (b ≡ true)
both_true true b e = (refl, e)
both_true false b e = cc

holds_behind : (i n holder : ℕ) (x : Task) (tasks : List Task) → HoldsFrom i (n + 1) holder tasks → HoldsFrom i n holder (x ∷ tasks)
holds_behind i n holder x tasks h = record {
  place = suc h.place;
  task = h.task;
  is = (let is : holder ≡ n + 1 + h.place = h.is in omega (arith, is));
  there = h.there;
  runs = h.runs;
  needs = h.needs;
  inside = h.inside;
}

holds_by : (i n holder : ℕ) (x : Task) (tasks : List Task) (others : List (ℕ × Task)) → (holder_of (map stay_of others) ≡ Some holder → HoldsFrom i n holder (x ∷ tasks)) → (b : Bool) → runs_in i x ≡ b
    → holder_of (map stay_of (if b then (n, x) ∷ others else others)) ≡ Some holder → HoldsFrom i n holder (x ∷ tasks)
holds_by i n holder x tasks others more true runs k = elim (one_holds (holds (stay_of (n, x))) n holder (holder_of (map stay_of others)) k) [
  | inl here ↦ (
      let both = both_true (needs_entry (kind_of x)) (is_inside (place_of x.state)) here.0 in
      let same : holder ≡ n = here.1 in
      record { place = 0; task = x; is = omega (arith, same); there = refl; runs = runs; needs = both.0; inside = both.1 }
      )
  | inr behind ↦ more behind
]
holds_by i n holder x tasks others more false runs k = more k

holder_is : (i n holder : ℕ) (tasks : List Task) → holder_of (map stay_of (filter (λ (x : ℕ × Task). runs_in i x.1) (with_numbers n tasks))) ≡ Some holder → HoldsFrom i n holder tasks
holder_is i n holder [] e = cc
holder_is i n holder (x ∷ tasks) e =
    holds_by i n holder x tasks (filter (λ (y : ℕ × Task). runs_in i y.1) (with_numbers (n + 1) tasks)) (λ k. holds_behind i n holder x tasks (holder_is i (n + 1) holder tasks k)) (runs_in i x) refl e

holds_entry : (w : World) (i holder : ℕ) → (gate_of w i).holder ≡ Some holder → Holds w i holder
holds_entry w i holder e =
    let h : HoldsFrom i 0 holder w.tasks = holder_is i 0 holder w.tasks e in
    let is : holder ≡ 0 + h.place = h.is in
    let same : h.place ≡ holder = omega (arith, is) in
    record { task = h.task; there = ap (λ (n : ℕ). slice_get w.tasks n) (sym same) ∙ h.there; runs = h.runs; needs = h.needs; inside = h.inside }

not_both : (b : Bool) → b ≡ true → b ≡ false → ⊥
not_both true e f = cc
not_both false e f = cc

-- Another one than a task that is not inside.
pub held_by_another : (w : World) (named : List ℕ) (i t : ℕ) (task : Task) → slice_get w.tasks t ≡ Some task → is_inside (place_of task.state) ≡ false → IsHeldBy w i named → IsHeldByAnother w named i t
held_by_another w named i t task there outside held =
    let h : Holds w i held.0 = holds_entry w i held.0 held.1 in
    record {
      holder = held.0;
      holds = h;
      another = λ same.
          (let one : h.task ≡ task = some_same (sym h.there ∙ (ap (λ (n : ℕ). slice_get w.tasks n) same ∙ there)) in
          not_both (is_inside (place_of task.state)) (subst (λ (x : Task). is_inside (place_of x.state) ≡ true) one h.inside) outside);
      is_named = held.2;
    }

use Rattle.std.proofs.Common.{◌∙◌, ◌+◌, ◌<◌, sym, subst, ℕ, take, length, get_or, refl, arith}
use Rattle.std.specs.BTreeMap.{BTreeMap, get}
use Rattle.std.specs.Ordering.{nat_cmp}
use Rattle.waitables.specs.Placing.{AreTold}
use Rattle.waitables.proofs.Readying.{told_one, told_other, told_at_start, not_some}
use Rattle.waitables.proofs.sets.told_by_time.Goals as goal
use Rattle.waitables.proofs.sets.told_by_time.Goals.{in-Some+in_ok-put, in_default}

pub loop-waitable-init : goal.loop-waitable-init
loop-waitable-init c = told_at_start (get nat_cmp c.args.places.now) c.args.set c.args.told.now c.new-by_time.result.entries c.new-by_time.ensures.empty

pub loop-waitable-preserved : goal.loop-waitable-preserved
loop-waitable-preserved c =
    let i : ℕ = c.loop-waitable.waitable-index in
    let within : i < length c.args.told.now = omega arith in
    let P : BTreeMap ℕ ℕ → Type 0 = λ m. AreTold (get nat_cmp c.args.places.now) c.args.set (take (i + 1) c.args.told.now) m.entries in
    elim c.match-time_in.branch [
      | in-Some+in_ok-put w ↦ subst P (sym w.by_time-is)
          (told_one (get nat_cmp c.args.places.now) c.args.set w.in-Some.time (get_or c.args.told.now i 0) i 0 c.args.told.now c.loop-waitable.by_time.entries w.put.new.by_time.entries within refl
          (sym c.time_in.ensures ∙ w.in-Some.is) w.in_ok-put.ensures.ok c.loop-waitable.invariant)
      | in_default w ↦ subst P (sym w.by_time-is)
          (told_other (get nat_cmp c.args.places.now) c.args.set (get_or c.args.told.now i 0) i 0 c.args.told.now c.loop-waitable.by_time.entries within refl
          (sym c.time_in.ensures ∙ not_some c.time_in.result w.in_default.not-Some) c.loop-waitable.invariant)
    ]

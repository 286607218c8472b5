use Rattle.std.proofs.Common.{◌∷◌, [], ℕ, List, get_or, take, sym, ap, subst}
use Rattle.link_spec.specs.Spaces.{levels_at}
use Rattle.link_meanings.specs.declared.levels.Level.{Level}
use Rattle.link_meanings.specs.Levels.{AreLevels}
use Rattle.link_instances.proofs.Places.{take_at}
use Rattle.link_state.proofs.Loops.{item_or}
use Rattle.link_state.proofs.levels.levels_at.Goals as goal

pub loop-number-init : goal.loop-number-init
loop-number-init c = λ t w k zips.
    c.in_ok-push_level.ensures t w k [] zips (subst (λ (ls : List Level). AreLevels t w.components ls []) (sym c.new-levels.ensures.items) tt)

pub loop-number-preserved : goal.loop-number-preserved
loop-number-preserved c = λ t w k zips.
    let n = c.args.n in
    let around = c.args.around.now in
    let i = c.loop-number.number-index in
    let more = ap (λ (ns : List ℕ). n ∷ ns) (take_at around i (get_or around i 0) (item_or around i 0 c.loop-number-test.true)) in
    subst (λ (ns : List ℕ). AreLevels t w.components c.push_level-in-loop-number.new.levels.items (levels_at k ns)) (sym more)
    (c.in_ok-push_level-2.ensures t w k (n ∷ take i around) zips (c.loop-number.invariant t w k zips))

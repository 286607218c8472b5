use Rattle.std.proofs.Common.{◌≡◌, [], List, ℕ, length, arith}
use Rattle.syntax_trees.specs.Flat.{flat}
use Rattle.value_lower.specs.Plan.{Gives}
use Rattle.value_lower.specs.Following.{untabled}
use Rattle.value_lower.specs.Lowering.{flat_lowered}
use Rattle.value_lower.proofs.Giving.{given}
use Rattle.value_lower.proofs.Counts.{words_all_give}
use Rattle.value_lower.proofs.laws.core_values_are_complete.Goals as goal

pub returns : goal.returns
returns g c = λ type v r s words f h.
    given (λ (ws : List ℕ). length ws ≡ length (flat type)) (untabled g.R.Room.memory g.R.Room.answers g.R.Room.wrote) (flat_lowered type v) r s words h
    (words_all_give (λ (ws : List ℕ). length ws ≡ length (flat type)) v type [] (λ ws. Gives ws) f (λ ws i. omega (arith, i)))

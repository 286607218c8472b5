-- Over the type's tree. As many core values come as stand for the type.
use Rattle.std.proofs.Common.{◌≡◌, [], List, ℕ, length, subst, arith}
use Rattle.syntax_trees.specs.declared.types.ValType.{ValType}
use Rattle.syntax_trees.specs.Flat.{flat}
use Rattle.value_lower.specs.Plan.{Gives}
use Rattle.value_lower.specs.Following.{untabled, Comes}
use Rattle.value_lower.specs.Lowering.{flat_lowered}
use Rattle.value_lower.proofs.Giving.{given_ok}
use Rattle.value_lower.proofs.Counts.{words_all_give}
use Rattle.value_lower.proofs.bare.lower_flat_bare.Goals as goal

pub returns-clause-follows : goal.returns-clause-follows
returns-clause-follows g c =
    subst (λ (type : ValType). Comes (untabled g.R.Room.memory g.R.Room.answers g.R.Room.wrote) (flat_lowered type c.args.value.now) (λ words. words) c.args.room.now c.lower_flat_by.result c.lower_flat_by.new.room)
    c.numbered.ensures c.lower_flat_by.ensures

pub returns-clause-count : goal.returns-clause-count
returns-clause-count g c =
    let t = c.args.t.now in
    let v = c.args.value.now in
    let came : Comes (untabled g.R.Room.memory g.R.Room.answers g.R.Room.wrote) (flat_lowered t v) (λ words. words) c.args.room.now c.lower_flat_by.result c.lower_flat_by.new.room =
    subst (λ (type : ValType). Comes (untabled g.R.Room.memory g.R.Room.answers g.R.Room.wrote) (flat_lowered type v) (λ words. words) c.args.room.now c.lower_flat_by.result c.lower_flat_by.new.room)
    c.numbered.ensures c.lower_flat_by.ensures in
    given_ok (λ (ws : List ℕ). length ws ≡ length (flat t)) (untabled g.R.Room.memory g.R.Room.answers g.R.Room.wrote) (flat_lowered t v) c.args.room.now c.lower_flat_by.new.room c.lower_flat_by.result came
    (words_all_give (λ (ws : List ℕ). length ws ≡ length (flat t)) v t [] (λ ws. Gives ws) c.requires.fits (λ ws i. omega (arith, i)))

-- Over the type's tree.
use Rattle.std.proofs.Common.{[], ◌∷◌, subst}
use Rattle.syntax_trees.specs.declared.types.ValType.{ValType}
use Rattle.value_lower.specs.Following.{untabled, Comes}
use Rattle.value_lower.specs.Lowering.{placed}
use Rattle.value_lower.proofs.bare.lower_placed_bare.Goals as goal

pub returns : goal.returns
returns g c =
    subst (λ (type : ValType). Comes (untabled g.R.Room.memory g.R.Room.answers g.R.Room.wrote) (placed type c.args.value.now) (λ place. place ∷ []) c.args.room.now c.lower_placed_by.result c.lower_placed_by.new.room)
    c.numbered.ensures c.lower_placed_by.ensures

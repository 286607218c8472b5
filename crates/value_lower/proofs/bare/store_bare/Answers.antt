-- Over the type's tree.
use Rattle.std.proofs.Common.{[], subst}
use Rattle.syntax_trees.specs.declared.types.ValType.{ValType}
use Rattle.value_lower.specs.Following.{untabled, Comes}
use Rattle.value_lower.specs.Lowering.{stored}
use Rattle.value_lower.proofs.bare.store_bare.Goals as goal

pub returns : goal.returns
returns g c =
    subst (λ (type : ValType). Comes (untabled g.R.Room.memory g.R.Room.answers g.R.Room.wrote) (stored type c.args.value.now c.args.place) (λ x. []) c.args.room.now c.store_by.result c.store_by.new.room)
    c.numbered.ensures c.store_by.ensures

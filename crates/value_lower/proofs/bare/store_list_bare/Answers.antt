-- Over the type's tree.
use Rattle.std.proofs.Common.{[], sym, subst}
use Rattle.syntax_trees.specs.declared.types.ValType.{ValType}
use Rattle.value_lower.specs.Following.{untabled, Comes}
use Rattle.value_lower.specs.Lowering.{all_stored}
use Rattle.value_lower.specs.Fitting.{AllFit}
use Rattle.value_lower.proofs.bare.store_list_bare.Goals as goal

pub store_list_by-requires : goal.store_list_by-requires
store_list_by-requires g c = record { fit = subst (λ (type : ValType). AllFit c.args.values.now type) (sym c.numbered.ensures) c.requires.fit }

pub returns : goal.returns
returns g c =
    subst (λ (type : ValType). Comes (untabled g.R.Room.memory g.R.Room.answers g.R.Room.wrote) (all_stored type c.args.values.now c.args.place) (λ x. []) c.args.room.now c.store_list_by.result c.store_list_by.new.room)
    c.numbered.ensures c.store_list_by.ensures

use Rattle.std.proofs.Common.{List, subst, sym}
use Rattle.syntax_trees.specs.declared.types.ValType.{ValType}
use Rattle.laid_types.specs.Layers.{AreThere, type_of, part_numbers}
use Rattle.link_types.specs.Table.{IsValue}
use Rattle.link_types.proofs.TypesGrow.{grows_trans}
use Rattle.link_types.proofs.types.Types.value_type.Goals as goal

pub value_number-requires : goal.value_number-requires
value_number-requires c = subst (λ (values : List ValType). AreThere values (part_numbers c.args.layer.now)) (sym c.keep_labels.ensures.values) c.requires

pub returns-clause-ok : goal.returns-clause-ok
returns-clause-ok c =
    subst (λ (values : List ValType). IsValue c.value_number.new.self c.in_ok-number.number (type_of values c.args.layer.now)) c.keep_labels.ensures.values c.in_ok-number.ensures.ok

pub returns-clause-grows : goal.returns-clause-grows
returns-clause-grows c = grows_trans c.args.self.now c.keep_labels.new.self c.value_number.new.self c.keep_labels.ensures.grows c.value_number.ensures.grows

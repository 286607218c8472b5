use Rattle.std.proofs.Common.{List, subst}
use Rattle.std.specs.Option.{option_map}
use Rattle.syntax_trees.specs.declared.types.ValType.TheViews as val_type
use Rattle.comp_tree.specs.declared.types.ValTypeRef.{ValTypeRef}
use Rattle.link_spec.specs.ValueTypes.{close_all, close_val}
use Rattle.link_types.specs.Table.{IsValue}
use Rattle.link_meanings.specs.Meant.{IsFoundAs}
use Rattle.link_meanings.proofs.value_layers.over_parts.Goals as goal

pub returns-in_ok-tuple_type-in-Tuple-clause-ok : goal.returns-in_ok-tuple_type-in-Tuple-clause-ok
returns-in_ok-tuple_type-in-Tuple-clause-ok c = λ closed h.
    rw c.in-Tuple.is
    (subst (λ (places : List ValTypeRef). IsFoundAs (IsValue c.tuple_type.new.types) c.in_ok-tuple_type-in-Tuple.field-0 (option_map val_type.Tuple (close_all (close_val closed) places))) c.as_slice-in-Tuple.ensures
    (c.in_ok-tuple_type-in-Tuple.ensures.ok closed h))

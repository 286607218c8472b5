use Rattle.std.proofs.Common.{refl, sym}
use Rattle.syntax_trees.specs.declared.types.ValType.TheVariants as leaves
use Rattle.link_meanings.proofs.value_layers.own_type.Goals as goal

pub returns-in_default-clause-ok : goal.returns-in_default-clause-ok
returns-in_default-clause-ok c = λ closed h. let none = rw c.in_default.is at (c.in_ok-resource.ensures c.args.types.now closed h) in rw (sym none) refl

pub returns-clause-ok : goal.returns-clause-ok
returns-clause-ok c = λ closed h.
    let some = rw c.in-Some.is at (c.in_ok-resource.ensures c.args.types.now closed h) in
    rw (sym some) (leaves.Own c.in-Some.resource, refl, c.in_ok-number.ensures.ok)

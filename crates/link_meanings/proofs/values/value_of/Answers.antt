use Rattle.std.proofs.Common.{refl}
use Rattle.link_spec.specs.Types.{primitive}
use Rattle.link_meanings.proofs.values.value_of.Goals as goal

pub returns-in_ok-primitive-in-Primitive-clause-ok : goal.returns-in_ok-primitive-in-Primitive-clause-ok
returns-in_ok-primitive-in-Primitive-clause-ok c = λ closed h. rw c.in-Primitive.is (primitive c.in-Primitive.val_type, refl, c.in_ok-primitive-in-Primitive.ensures.ok)

pub returns-in-Index-clause-ok : goal.returns-in-Index-clause-ok
returns-in-Index-clause-ok c = λ closed h. rw c.in-Index.is (c.value_at.ensures.is closed h)

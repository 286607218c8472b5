use Rattle.std.proofs.Common.{sym}
use Rattle.comp_link.proofs.linking.link_canon.Goals as goal

pub returns-in-Lift-clause-made : goal.returns-in-Lift-clause-made
returns-in-Lift-clause-made c = λ bases l s at. rw (c.in-Lift.is, sym c.as_slice.ensures) (c.link_lift.ensures.made bases l s at)

pub returns-in-Lower-clause-made : goal.returns-in-Lower-clause-made
returns-in-Lower-clause-made c = λ bases l s at. rw (c.in-Lower.is, sym c.as_slice-in-Lower.ensures) (c.link_lower.ensures.made bases l s at)

pub returns-in-Builtin-clause-made : goal.returns-in-Builtin-clause-made
returns-in-Builtin-clause-made c = λ bases l s at. rw c.in-Builtin.is (c.link_builtin.ensures.made bases l s at)

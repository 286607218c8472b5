use Rattle.std.proofs.Common.{refl}
use Rattle.comp_link.proofs.resources.destructor_at.Goals as goal

pub returns-in-None : goal.returns-in-None
returns-in-None c = λ bases l s at. rw c.in-None.is refl

pub returns-in-Some : goal.returns-in-Some
returns-in-Some c = λ bases l s at. rw c.in-Some.is (c.core_destructor.ensures bases l s at)

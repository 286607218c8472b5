use Rattle.laid_types.proofs.Growing.{added_stand}
use Rattle.laid_types.proofs.types.LaidTypes.add.Goals as goal

pub invariant_of-self-2 : goal.invariant_of-self-2
invariant_of-self-2 c = added_stand c.self.inside.entries.items c.push.new.self.items c.in_ok-made.made c.args.self.now c.self.invariant c.self.view_is c.in_ok-made.ensures.stands c.in_ok-push.ensures.items

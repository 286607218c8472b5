use Rattle.link_core_types.proofs.Keeping.{kept_pushed}
use Rattle.link_core_types.proofs.module_types.ModuleTypes.add.Goals as goal

pub invariant_of-self-2 : goal.invariant_of-self-2
invariant_of-self-2 c = kept_pushed c.self.inside.firsts c.self.inside.modules.items c.push.new.self.items c.args.types c.in_ok-push.ensures.items c.self.invariant

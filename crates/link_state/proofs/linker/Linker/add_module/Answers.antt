use Rattle.std.proofs.Common.{refl, ap}
use Rattle.link_spec.specs.Definitions.{AModule}
use Rattle.link_core_exports.specs.Cores.{CoreLists}
use Rattle.link_state.proofs.Zips.{last_is}
use Rattle.link_state.proofs.States.{modules_more}
use Rattle.link_state.proofs.linker.Linker.add_module.Goals as goal

pub returns-clause-ok : goal.returns-clause-ok
returns-clause-ok c bases l s at =
    let k = c.args.self.now in
    c.in_ok-add.ensures.ok bases l s (AModule c.args.made) (modules_more bases k (record k { cores = c.add_module.new.self }) c.args.n l s c.args.made refl c.in_ok-number.ensures.ok at)
    (last_is k.cores.modules c.add_module.new.self.modules c.args.made c.in_ok-number.number (ap (λ (cs : CoreLists). cs.modules) c.in_ok-number.ensures.ok) c.in_ok-number.ensures.number)

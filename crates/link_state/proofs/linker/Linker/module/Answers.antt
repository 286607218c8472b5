use Rattle.std.proofs.Common.{arith}
use Rattle.std.specs.List.{slice_get}
use Rattle.link_state.specs.State.{world_of}
use Rattle.link_state.proofs.Zips.{not_past}
use Rattle.link_state.proofs.States.{scope_is}
use Rattle.link_state.proofs.linker.Linker.module.Goals as goal

pub returns-in_default-clause-found : goal.returns-in_default-clause-found
returns-in_default-clause-found c bases l s at =
    let k = c.args.self.now in
    c.in_default.ensures k.types (world_of bases k) s (scope_is bases k c.args.n l s c.index.result.now c.index.ensures c.requires at)

pub returns-then-number-module_count-clause-found : goal.returns-then-number-module_count-clause-found
returns-then-number-module_count-clause-found c bases l s at =
    let k = c.args.self.now in
    absurd (not_past k.cores.modules c.in-Some.number (slice_get s.core_modules c.args.index) (omega (arith, c.if-number-module_count.true, c.module_count.ensures))
    (c.in-Some.ensures k.types (world_of bases k) s (scope_is bases k c.args.n l s c.index.result.now c.index.ensures c.requires at)))

pub returns-clause-found : goal.returns-clause-found
returns-clause-found c bases l s at =
    let k = c.args.self.now in
    c.in-Some.ensures k.types (world_of bases k) s (scope_is bases k c.args.n l s c.index.result.now c.index.ensures c.requires at)

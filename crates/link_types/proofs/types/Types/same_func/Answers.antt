use Rattle.std.proofs.Common.{subst}
use Rattle.link_types.specs.Kept.{IsKept}
use Rattle.link_types.proofs.TypesTold.{same_funcs, numbers_tested}
use Rattle.link_types.proofs.types.Types.same_func.Goals as goal

pub returns : goal.returns
returns c = λ f g h k.
    let d = (subst (IsKept c.self.inside.func_numbers c.self.inside.numbered.items) c.self.view_is c.self.invariant).distinct in
    numbers_tested c.args.a.layer c.args.b.layer (same_funcs c.args.self.now d c.args.a c.args.b f g h k)

use Rattle.link_types.proofs.TypesGrow.{func_layer_stays}
use Rattle.link_types.proofs.TypesMade.{func_added}
use Rattle.link_types.proofs.types.Types.func_number.Goals as goal

pub returns-in-Some-clause-ok : goal.returns-in-Some-clause-ok
returns-in-Some-clause-ok c = λ type h. c.in-Some.ensures type (c.requires.layer type h)

pub keep_func-requires : goal.keep_func-requires
keep_func-requires c =
    let made = c.in_ok-number.ensures.ok in
    (made.0, (func_layer_stays c.args.self.now c.make_func.new.self c.make_func.ensures.grows c.args.layer made.0 (c.requires.layer made.0 made.1), made.2))

pub returns-clause-ok : goal.returns-clause-ok
returns-clause-ok c = λ type h.
    let made = c.in_ok-number.ensures.ok in
    func_added c.args.self.now c.make_func.new.self c.keep_func.new.self c.args.layer c.in_ok-number.number made.0 c.make_func.ensures.grows c.keep_func.ensures made.2 (c.requires.layer made.0 made.1) type (c.requires.layer type h)

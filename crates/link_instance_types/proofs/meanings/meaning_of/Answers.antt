use Rattle.std.specs.List.{AllZip}
use Rattle.link_meanings.specs.Levels.{IsEnclosing}
use Rattle.link_instance_types.proofs.Enclosed.{component_levels}
use Rattle.link_instance_types.proofs.meanings.meaning_of.Goals as goal

pub returns-clause-ok : goal.returns-clause-ok
returns-clause-ok c = λ closures around h.
    let types = c.args.types.now in
    let levels : AllZip (IsEnclosing types closures) c.deref.result.now around = rw (c.deref.ensures.value, c.in_ok-around.ensures) (component_levels types closures c.args.levels.now around h) in
    c.in_ok-meaning.ensures.ok closures around levels

use Rattle.std.proofs.Common.{sym, ◌∙◌}
use Rattle.link_values.proofs.RefsSame.{entry_same, lists_same}
use Rattle.link_values.proofs.refs.are_same.Goals as goal

pub returns : goal.returns
returns c = λ equal. lists_same _ entry_same c.args.given.now c.args.other.now (sym c.eq.ensures ∙ equal)

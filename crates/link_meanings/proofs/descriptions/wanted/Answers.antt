use Rattle.std.proofs.Common.{map, Some}
use Rattle.link_types.specs.Table.{IsType}
use Rattle.link_meanings.proofs.Lists.{all_known}
use Rattle.link_meanings.proofs.descriptions.wanted.Goals as goal

pub returns : goal.returns
returns c = λ t closed h. c.described.ensures t (map Some closed) (all_known (IsType t) c.args.types.now closed h)

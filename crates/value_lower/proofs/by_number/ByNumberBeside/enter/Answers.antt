-- What follows goes on with the number.
use Rattle.std.proofs.Common.{ap, sym}
use Rattle.value_lower.specs.Following.{untabled}
use Rattle.value_lower.specs.Lowering.{plainly}
use Rattle.value_lower.specs.Entries.{new_of}
use Rattle.value_lower.proofs.Going.{same}
use Rattle.value_lower.proofs.by_number.ByNumberBeside.enter.Goals as goal

pub returns-clause-follows : goal.returns-clause-follows
returns-clause-follows g c = λ k.
    same (untabled g.R.Room.memory g.R.Room.answers g.R.Room.wrote) (plainly (new_of c.args.entry c.args._t.now.val_type) k) (k c.number.result) c.args._room.now
    (ap k (sym (c.number.ensures c.args._t.now.val_type)))

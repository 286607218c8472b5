use Rattle.canon_types.proofs.Returning.{returns_none, returns_some}
use Rattle.link_items.proofs.returns.returning.Goals as goal

pub returns-in_default : goal.returns-in_default
returns-in_default c = λ found h.
    returns_none c.args.types.now.values c.args.is_there c.args.options.now c.args.given.now c.stand_once-once.result found c.stand_once-once.ensures (rw c.in_default.is at h)

pub returns : goal.returns
returns c = λ found h.
    let is = rw c.in-Some.is at h in
    returns_some c.args.types.now.values c.args.is_there c.args.options.now c.args.given.now c.in-Some.number c.held_type-returned.result c.can_return-serves.result c.in_ok-made.made found is.0 is.1 is.2
    c.held_type-returned.ensures (rw c.stand_once-once.ensures at c.can_return-serves.ensures) (rw c.options.ensures at c.in_ok-made.ensures.kind) c.in_ok-made.ensures.typed c.in_ok-made.ensures.passed

use Rattle.std.proofs.Common.{◌≡◌, refl, rules}
use Rattle.link_values.proofs.KeyedMore.{keyed_kept}
use Rattle.link_values.proofs.KeyedAdded.{added_keyed, taken_keyed}
use Rattle.link_values.proofs.keyed_types.KeyedTypes.add.Goals as goal

pub invariant_of-self-in_err-insert : goal.invariant_of-self-in_err-insert
invariant_of-self-in_err-insert c =
    let kept : c.insert.new.self.entries ≡ c.self.inside.numbers.entries = search rules in
    keyed_kept c.self.inside.lists c.self.inside.numbers c.insert.new.self c.self.inside.laid c.self.inside.laid kept refl c.self.invariant

pub invariant_of-self-in-Ok : goal.invariant_of-self-in-Ok
invariant_of-self-in-Ok c =
    added_keyed c.self.inside.lists c.self.inside.numbers c.self.inside.laid c.args.self.now c.args.layer.now c.args.labels c.self.invariant c.self.view_is c.requires.there c.requires.listed c.requires.absent
    c.insert.new.self c.add.new.self c.in_ok-key_of.field-0 c.len-number.result c.in_ok-key_of.ensures c.len-number.ensures c.in_ok-insert.ensures.updates c.in-Ok.ensures.ok

pub invariant_of-self-in-Err : goal.invariant_of-self-in-Err
invariant_of-self-in-Err c =
    taken_keyed c.self.inside.lists c.self.inside.numbers c.self.inside.laid c.args.self.now c.args.layer.now c.args.labels c.self.invariant c.self.view_is c.requires.there c.requires.listed c.requires.absent
    c.insert.new.self c.remove.new.self c.add.new.self c.args.key.now c.in_ok-key_of.field-0 c.len-number.result c.requires.key c.in_ok-key_of.ensures c.in_ok-insert.ensures.updates c.remove.ensures.updates c.in-Err.ensures.err

pub returns-in-Ok-clause-apart : goal.returns-in-Ok-clause-apart
returns-in-Ok-clause-apart c = (invariant_of-self-in-Ok c).apart

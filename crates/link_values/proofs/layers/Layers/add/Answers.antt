use Rattle.std.proofs.Common.{◌≡◌, ℕ, List, length, Some, rules, sym, subst}
use Rattle.std.specs.List.{slice_get}
use Rattle.link_values.specs.declared.layers.Layer.{Layer}
use Rattle.link_values.proofs.Numbered.{apart_in, apart_of}
use Rattle.link_values.proofs.LayersAdded.{layer_added, layers_kept}
use Rattle.link_values.proofs.layers.Layers.add.Goals as goal

pub returns-in_err-reserve-clause-apart : goal.returns-in_err-reserve-clause-apart
returns-in_err-reserve-clause-apart c = apart_in _ _ c.reserve.new.self.items c.self.invariant c.reserve.ensures.items

pub invariant_of-self-in_err-insert : goal.invariant_of-self-in_err-insert
invariant_of-self-in_err-insert c =
    let kept : c.insert.new.self.entries ≡ c.self.inside.numbers.entries = search rules in
    layers_kept _ _ c.self.inside.numbers c.insert.new.self c.self.invariant c.reserve.ensures.items kept

pub returns-in_err-insert-clause-apart : goal.returns-in_err-insert-clause-apart
returns-in_err-insert-clause-apart c = apart_in _ _ c.reserve.new.self.items c.self.invariant c.reserve.ensures.items

pub invariant_of-self-2 : goal.invariant_of-self-2
invariant_of-self-2 c =
    let long : c.len-number.result ≡ length c.self.inside.layers.items = search rules in
    let absent = subst (λ (ts : List Layer). (k : ℕ) → slice_get ts k ≡ Some c.args.layer → ⊥) (sym c.self.view_is) c.requires in
    layer_added c.self.inside.layers.items c.reserve.new.self.items c.push_reserved.new.self.items c.args.layer c.self.inside.numbers c.insert.new.self c.len-number.result c.self.invariant absent c.reserve.ensures.items c.push_reserved.ensures.items long c.in_ok-insert.ensures.updates

pub returns-clause-apart : goal.returns-clause-apart
returns-clause-apart c = apart_of _ _ (invariant_of-self-2 c)

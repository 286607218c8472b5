use Rattle.std.proofs.Common.{◌≡◌, ℕ, List, length, Some, rules, ap, sym, subst}
use Rattle.std.specs.List.{slice_get}
use Rattle.link_values.proofs.Numbered.{apart_in, apart_of}
use Rattle.link_values.proofs.NamesAdded.{shown, name_added}
use Rattle.link_values.proofs.names.Names.add.Goals as goal

pub returns-in_err-reserve-clause-apart : goal.returns-in_err-reserve-clause-apart
returns-in_err-reserve-clause-apart c = apart_in _ _ (shown c.reserve.new.self.items) c.self.invariant (ap shown c.reserve.ensures.items)

pub returns-in_err-insert-clause-apart : goal.returns-in_err-insert-clause-apart
returns-in_err-insert-clause-apart c = apart_in _ _ (shown c.reserve.new.self.items) c.self.invariant (ap shown c.reserve.ensures.items)

pub invariant_of-self-2 : goal.invariant_of-self-2
invariant_of-self-2 c =
    let long : c.len-number.result ≡ length c.self.inside.texts.items = search rules in
    let absent = subst (λ (ts : List (List ℕ)). (k : ℕ) → slice_get ts k ≡ Some c.args.name.now → ⊥) (sym c.self.view_is) c.requires in
    name_added c.self.inside.texts.items c.reserve.new.self.items c.push_reserved.new.self.items c.args.name c.self.inside.numbers c.insert.new.self c.len-number.result c.self.invariant absent c.reserve.ensures.items c.push_reserved.ensures.items long c.in_ok-insert.ensures.updates

pub returns-clause-apart : goal.returns-clause-apart
returns-clause-apart c = apart_of _ _ (invariant_of-self-2 c)

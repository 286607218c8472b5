use Rattle.std.proofs.Common.{◌≡◌, List, rules, sym, subst}
use Rattle.link_values.specs.declared.layers.Layer.{Layer}
use Rattle.link_values.specs.Numbering.{IsNumberOf}
use Rattle.link_values.specs.Order.{number_in}
use Rattle.link_values.proofs.Numbered.{apart_in, is_number_of}
use Rattle.link_values.proofs.layers.Layers.find.Goals as goal

pub returns-clause-number : goal.returns-clause-number
returns-clause-number c =
    let found : c.copied.result ≡ number_in c.self.inside.numbers c.args.layer = search rules in
    subst (λ (ts : List Layer). IsNumberOf ts c.args.layer c.copied.result) c.self.view_is (is_number_of (number_in c.self.inside.numbers) c.self.inside.layers.items c.args.layer c.copied.result c.self.invariant found)

pub returns-clause-apart : goal.returns-clause-apart
returns-clause-apart c = apart_in _ _ _ c.self.invariant (sym c.self.view_is)

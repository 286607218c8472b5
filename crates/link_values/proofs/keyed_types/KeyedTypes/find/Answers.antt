use Rattle.std.proofs.Common.{◌≡◌, ap, rules}
use Rattle.link_values.specs.Keyed.{LabelledTypes, number_in}
use Rattle.link_values.proofs.KeyedMore.{found_in}
use Rattle.link_values.proofs.keyed_types.KeyedTypes.find.Goals as goal

pub returns : goal.returns
returns c =
    let found : c.copied.result ≡ number_in c.self.inside.numbers c.args.key.now = search rules in
    found_in c.self.inside.lists c.args.self.now.lists c.self.inside.numbers c.self.inside.laid c.args.self.now.types c.args.key.now c.copied.result c.self.invariant (ap (λ (s : LabelledTypes). s.lists) c.self.view_is) (ap (λ (s : LabelledTypes). s.types) c.self.view_is) found

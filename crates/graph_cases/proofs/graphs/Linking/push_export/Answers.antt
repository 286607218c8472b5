use Rattle.std.proofs.Common.{rules}
use Rattle.graph_cases.specs.Making.{Making}
use Rattle.graph_cases.proofs.Growing.{export_typed}
use Rattle.graph_cases.proofs.graphs.Linking.push_export.Goals as goal

pub invariant_of-self-2 : goal.invariant_of-self-2
invariant_of-self-2 c =
    let m : Making = record {
      types = c.self.inside.types;
      canon_numbers = c.self.inside.canon_numbers.items;
      canons = c.self.inside.canons.items;
      export_numbers = c.self.inside.export_numbers.items;
      exports = c.self.inside.exports.items;
      lifts = c.self.inside.lifts.items;
    } in
    export_typed m 0 c.args.export c.args.lift c.push_reserved.new.self.items c.push_reserved-2.new.self.items c.push_reserved-3.new.self.items c.self.invariant (search rules) (search rules) (search rules) (search rules)

use Rattle.std.proofs.Common.{ℕ, refl, ap, Some}
use Rattle.comp_graph.specs.declared.graph.BuiltinKind.TheVariants as builtin
use Rattle.canon_types.proofs.builtins.resource_builtin.Goals as goal

pub returns-in_default : goal.returns-in_default
returns-in_default c = λ values. rw c.in_default.is (c.no_builtin.ensures values)

pub returns : goal.returns
returns c = λ values. rw c.in-Some.is (record {
  is_there = refl;
  means = ap (λ (number : ℕ). Some (builtin.Resource c.args.op number)) c.in_ok-resource.ensures;
  serves = c.number_serves-serves.ensures;
  built = record { typed = c.resource_type.ensures; passes = tt };
})

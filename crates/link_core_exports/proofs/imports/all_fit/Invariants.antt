-- What is left of the imports and the items decides.
use Rattle.std.proofs.Common.{◌≡◌, drop}
use Rattle.link_spec.specs.Tests.{all_fit}
use Rattle.link_core_exports.proofs.Fit.{Known}
use Rattle.link_core_exports.proofs.imports.all_fit.Given as goal

abbrev pub invariant-loop-at : goal.invariant-loop-at
invariant-loop-at l = record {
  same : l.made ≡ l.fn.made;
  left : Known l.fn.made l.number l.fn.tree l.items (all_fit l.fn.tree l.imports l.items ≡ all_fit l.fn.tree (drop l.at l.imports) (drop l.at l.items));
}

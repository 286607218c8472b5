-- The first fault is that of the exports that are left, and the names that were seen are those of the others.
use Rattle.std.proofs.Common.{◌≡◌, ℕ, List, [], map, take, drop}
use Rattle.faults.specs.Faults.{first_in}
use Rattle.syntax_trees.specs.Names.{has, is_among}
use Rattle.wasm_typing.specs.Items.{export_fault}
use Rattle.wasm_typing.proofs.exports.check_exports.Given as goal

abbrev pub invariant-loop-number : goal.invariant-loop-number
invariant-loop-number l = record {
  seen : (q : List ℕ) → has l.seen q ≡ is_among q (map (λ e. e.name) (take l.number l.exports));
  rest : first_in (export_fault l.space) [] l.exports ≡ first_in (export_fault l.space) (take l.number l.exports) (drop l.number l.exports);
}

-- What is left to be counted leads to where all of it does.
use Rattle.std.proofs.Common.{◌≡◌, drop, map}
use Rattle.world_parts.specs.Held.{held}
use Rattle.value_moves.specs.Borrowing.{all_done, borrows_counted}
use Rattle.value_moves.proofs.borrowing.+borrowing.Given as goal

abbrev pub invariant-count_all-loop-value : goal.invariant-count_all-loop-value
invariant-count_all-loop-value l =
    all_done (map (borrows_counted l.home l.task) l.values) (held l.initial.parts) ≡ all_done (map (borrows_counted l.home l.task) (drop l.value-index l.values)) (held l.parts)

-- The indices so far at which an entry is live.
use Rattle.std.proofs.Common.{◌≡◌, ◌≤◌, ◌-◌, is_some}
use Rattle.std.specs.List.{filter, range_with_len}
use Rattle.handle_table.specs.Slots.{entry_at}
use Rattle.handle_table.proofs.table.Table.walk.Given as goal

abbrev pub invariant-loop-index : goal.invariant-loop-index
invariant-loop-index g l = (1 ≤ l.index) × (l.indices.items ≡ filter (λ i. is_some (entry_at l.self.slots i)) (range_with_len 1 (l.index - 1)))

use Rattle.std.proofs.Common.{◌≡◌, ◌-◌, length, Some}
use Rattle.task_table.specs.Tasks.{is_among_callers}
use Rattle.task_table.proofs.table.Tasks.is_among_callers.Given as goal

abbrev pub invariant-loop-step : goal.invariant-loop-step
invariant-loop-step l = is_among_callers (length l.self.slots.items) l.fn.instance (Some l.fn.task) l.self.slots.items ≡ is_among_callers (length l.self.slots.items - l._step) l.fn.instance l.by l.self.slots.items

use Rattle.std.proofs.Common.{rules, ◌≡◌, ◌∙◌, ◌+◌, ◌-◌, ap, sym, arith, length, Option, ℕ, Some}
use Rattle.task_table.specs.Tasks.{is_among_callers}
use Rattle.task_table.proofs.Chains.{further}
use Rattle.task_table.proofs.table.Tasks.is_among_callers.Goals as goal

pub loop-step-preserved : goal.loop-step-preserved
loop-step-preserved c =
    c.loop-step.invariant
    ∙ ap (λ (o : Option ℕ). is_among_callers (length c.args.self.now.slots.items - c.loop-step._step) c.args.instance o c.args.self.now.slots.items) c.in-Some.is
    ∙ further (length c.args.self.now.slots.items) c.loop-step._step c.args.instance c.in-Some.number c.args.self.now.slots.items c.in-Some-slot.slot.now (omega arith) (sym c.in-Some-slot.ensures) c.if-slot-instance.false
    ∙ ap (λ (o : Option ℕ). is_among_callers (length c.args.self.now.slots.items - (c.loop-step._step + 1)) c.args.instance o c.args.self.now.slots.items) (sym c.by-by.ensures)

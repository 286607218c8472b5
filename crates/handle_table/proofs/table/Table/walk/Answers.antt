use Rattle.std.proofs.Common.{◌∙◌, sym, arith, is_some}
use Rattle.handle_table.specs.Slots.{entry_at}
use Rattle.handle_table.proofs.Walking.{walked_live, walked_free}
use Rattle.handle_table.proofs.table.Table.walk.Goals as goal
use Rattle.handle_table.proofs.table.Table.walk.Goals.{then-is_live+in_ok-push, else-is_live}

pub loop-index-preserved : goal.loop-index-preserved
loop-index-preserved g c =
    elim c.if-is_live.branch [
      | then-is_live+in_ok-push w ↦ (
        omega arith,
        rw w.indices-is
            (w.in_ok-push.ensures.items
            ∙ walked_live (λ i. is_some (entry_at c.args.self.now.slots i)) c.loop-index.indices.items c.loop-index.index c.loop-index.invariant.0 (sym c.is_live.ensures ∙ w.if-is_live.true) c.loop-index.invariant.1),
      )
      | else-is_live w ↦ (
        omega arith,
        rw w.indices-is
            (walked_free (λ i. is_some (entry_at c.args.self.now.slots i)) c.loop-index.indices.items c.loop-index.index c.loop-index.invariant.0 (sym c.is_live.ensures ∙ w.if-is_live.false) c.loop-index.invariant.1),
      )
    ]

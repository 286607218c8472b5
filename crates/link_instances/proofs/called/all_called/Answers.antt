use Rattle.std.proofs.Common.{[], sym, ◌∙◌}
use Rattle.link_spec.specs.Linked.{called}
use Rattle.link_instances.specs.References.{listed, IsEntry}
use Rattle.link_instances.proofs.Calling.{callables_listed, lists_more, lists_all}
use Rattle.link_instances.proofs.called.all_called.Goals as goal

pub loop-entry-preserved : goal.loop-entry-preserved
loop-entry-preserved c = record {
  lists = c.in_ok-push_called.ensures.lists;
  typed = c.in_ok-push_called.ensures.typed c.loop-entry.invariant.typed;
  funcs = λ w given are is.
      lists_more (IsEntry c.args.types.now w) called c.args.entries.now (listed given) [] c.loop-entry.funcs.funcs.items c.loop-entry.entry-index is (c.loop-entry.invariant.funcs w given are is)
      _ c.push_called.new.funcs.funcs.items c.loop-entry-test.true (λ e h. c.in_ok-push_called.ensures.funcs w e are h);
}

pub returns-clause-funcs : goal.returns-clause-funcs
returns-clause-funcs c = λ w given are is.
    lists_all (IsEntry c.args.types.now w) called c.args.entries.now (listed given) [] c.loop-entry.funcs.funcs.items c.loop-entry.entry-index is (c.loop-entry.invariant.funcs w given are is) c.loop-entry-test.false
    ∙ sym (callables_listed given)

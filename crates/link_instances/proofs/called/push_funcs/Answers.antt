use Rattle.std.proofs.Common.{◌++◌, ap, sym, ◌∙◌}
use Rattle.link_instances.specs.Called.{IsFuncEntry, funcs_of, named_behind}
use Rattle.link_instances.proofs.Calling.{funcs_listed, lists_more, lists_all}
use Rattle.link_instances.proofs.called.push_funcs.Goals as goal

pub loop-entry-preserved : goal.loop-entry-preserved
loop-entry-preserved c = record {
  funcs = λ given are.
      lists_more (IsFuncEntry c.args.types.now) (named_behind c.args.front.now) c.args.entries.now (funcs_of given) c.args.funcs.now.funcs.items c.loop-entry.funcs.funcs.items c.loop-entry.entry-index are (c.loop-entry.invariant.funcs given are)
      _ c.push_func.new.funcs.funcs.items c.loop-entry-test.true (λ e h. c.in_ok-push_func.ensures.funcs e h);
  typed = λ typed. c.in_ok-push_func.ensures.typed (c.loop-entry.invariant.typed typed);
}

pub returns-clause-funcs : goal.returns-clause-funcs
returns-clause-funcs c = λ given are.
    lists_all (IsFuncEntry c.args.types.now) (named_behind c.args.front.now) c.args.entries.now (funcs_of given) c.args.funcs.now.funcs.items c.loop-entry.funcs.funcs.items c.loop-entry.entry-index are (c.loop-entry.invariant.funcs given are) c.loop-entry-test.false
    ∙ ap (λ more. c.args.funcs.now.funcs.items ++ more) (sym (funcs_listed c.args.front.now given))

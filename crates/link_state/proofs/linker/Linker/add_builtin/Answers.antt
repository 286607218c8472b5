use Rattle.std.proofs.Common.{subst, ℕ}
use Rattle.comp_graph.specs.declared.graph.CanonFunc.TheVariants as canon_func
use Rattle.link_spec.specs.Items.{with_canon}
use Rattle.link_state.specs.State.{IsState}
use Rattle.link_state.proofs.linker.Linker.add_builtin.Goals as goal

pub returns-clause-ok : goal.returns-clause-ok
returns-clause-ok c bases l s at built =
    subst (λ (n : ℕ). IsState bases c.add_canon.new.self (with_canon l c.args.n s (canon_func.Builtin (record { instance = n; kind = c.args.made.kind })))) c.in_ok-instance.ensures
    (c.in_ok-add_canon.ensures.ok bases l s at built.passes built.typed)

use Rattle.std.proofs.Common.{ℕ, Option, length, subst, nat_lt}
use Rattle.comp_graph.specs.declared.graph.CoreRef.{CoreRef}
use Rattle.link_spec.specs.Builtins.{wait_meaning}
use Rattle.canon_types.specs.Built.{IsBuiltinMeaning}
use Rattle.comp_link.proofs.builtins.wait_at.Goals as goal

pub returns : goal.returns
returns c = λ values t w l n s scope.
    subst (λ (m : Option CoreRef). IsBuiltinMeaning values c.wait_builtin.result (wait_meaning (nat_lt c.args.memory (length s.core_memories)) c.args.op c.args.cancellable m)) (c.memory_at-found.ensures t w s scope)
    (subst (λ (k : ℕ). IsBuiltinMeaning values c.wait_builtin.result (wait_meaning (nat_lt c.args.memory k) c.args.op c.args.cancellable c.memory_at-found.result)) (c.core_size.ensures t w s scope) (c.wait_builtin.ensures values))

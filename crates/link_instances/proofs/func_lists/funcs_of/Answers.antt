use Rattle.std.proofs.Common.{ℕ, List, sym, subst, ◌∙◌, ap}
use Rattle.link_instances.specs.declared.references.LiftedRef.{LiftedRef}
use Rattle.link_instances.specs.Called.{func_entries, AreFuncs}
use Rattle.link_instances.proofs.Calling.{funcs_told}
use Rattle.link_instances.proofs.func_lists.funcs_of.Goals as goal

pub returns : goal.returns
returns c = λ w given are is.
    let t = c.args.types.now in
    subst (λ (es : List (ℕ × LiftedRef)). AreFuncs t es given) (sym (c.in_ok-funcs.ensures ∙ ap func_entries c.deref.ensures.value)) (funcs_told t w c.in_ok-entries.entries.items given (c.in_ok-entries.ensures w given are is))

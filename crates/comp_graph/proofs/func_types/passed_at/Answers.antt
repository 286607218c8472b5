use Rattle.std.proofs.Common.{ℕ, ap, ◌∙◌}
use Rattle.std.specs.List.{slice_get}
use Rattle.std.proofs.lemmas.Option.{get_or_from_slice_get}
use Rattle.comp_graph.proofs.func_types.passed_at.Goals as goal

pub returns : goal.returns
returns c = λ n f at is.
    c.passed.ensures f (ap (λ (n : ℕ). slice_get c.args.types.now.funcs n) (get_or_from_slice_get c.args.numbers.now c.args.at n 0 at) ∙ is)

-- The two payloads of a result.
use Rattle.std.proofs.Common.{◌≡◌, ◌∙◌, [], ◌∷◌, ap, sym, rules, List}
use Rattle.syntax_trees.specs.declared.core_type.CoreType.{CoreType}
use Rattle.syntax_trees.specs.declared.core_type.CoreType.TheVariants.{I32}
use Rattle.syntax_trees.specs.Flat.{flat}
use Rattle.syntax_trees.proofs.FlatEquations.{flat_of_result}
use Rattle.syntax_trees.proofs.Joins.{joined_with, joined_two}
use Rattle.syntax_trees.proofs.Parts.{if_ok_then}
use Rattle.ca_types.proofs.flattening.+flat.Goals as goal
use Rattle.ca_types.proofs.flattening.+flat.Goals.{in-Some-ok+in_ok-payloads-in-Result, in_default-ok, in-Some-err+in_ok-flat-in-Result+in_ok-payloads-in-Result-2, in_default-err}

pub returns-after-err : goal.returns-after-err
returns-after-err t c =
    let ok : c.match-ok.payloads.items ≡ joined_with [] c.in-Result.ok =
    elim c.match-ok.branch [ in-Some-ok+in_ok-payloads-in-Result w ↦ search rules | in_default-ok w ↦ search rules ] in
    let err : c.match-err.payloads.items ≡ joined_with c.match-ok.payloads.items c.in-Result.err =
    elim c.match-err.branch [ in-Some-err+in_ok-flat-in-Result+in_ok-payloads-in-Result-2 w ↦ search rules | in_default-err w ↦ search rules ] in
    if_ok_then c.tagged-in-Result.result c.tagged-in-Result.ensures (λ types e.
    e
    ∙ ap (λ (ps : List CoreType). I32 ∷ ps) (err ∙ ap (λ (ps : List CoreType). joined_with ps c.in-Result.err) ok ∙ joined_two c.in-Result.ok c.in-Result.err)
    ∙ sym (ap flat c.in-Result.is ∙ flat_of_result c.in-Result.ok c.in-Result.err))

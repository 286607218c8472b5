-- The two payloads of a result.
use Rattle.std.proofs.Common.{◌≡◌, ◌∙◌, ◌∷◌, [], ap, sym, rules}
use Rattle.laid_types.specs.Layout.{laid, laid_payload}
use Rattle.layouts.specs.Limited.{as_laid, nothing, tagged, limited}
use Rattle.layouts.proofs.Layouts.{joined_with, tagged_behind_all}
use Rattle.laid_types.proofs.Equations.{laid_of_result}
use Rattle.laid_types.proofs.layout.+layout_of.Goals as goal
use Rattle.laid_types.proofs.layout.+layout_of.Goals.{in-Some-ok, in_default-ok, in-Some-err, in_default-err}

pub returns-after-err-clause-value : goal.returns-after-err-clause-value
returns-after-err-clause-value t c =
    let ok : as_laid c.match-ok.payload ≡ joined_with nothing (laid_payload c.in-Result.ok) = elim c.match-ok.branch [ in-Some-ok w ↦ search rules | in_default-ok w ↦ search rules ] in
    let err : as_laid c.match-err.payload ≡ joined_with (as_laid c.match-ok.payload) (laid_payload c.in-Result.err) = elim c.match-err.branch [ in-Some-err w ↦ search rules | in_default-err w ↦ search rules ] in
    c.tagged-in-Result.ensures.value
    ∙ ap (tagged 2) (err ∙ ap (λ p. joined_with p (laid_payload c.in-Result.err)) ok)
    ∙ tagged_behind_all 2 (laid_payload c.in-Result.ok ∷ laid_payload c.in-Result.err ∷ [])
    ∙ ap limited (sym (ap laid c.in-Result.is ∙ laid_of_result c.in-Result.ok c.in-Result.err))

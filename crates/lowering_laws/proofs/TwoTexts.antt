-- The runs of the examples.
use Rattle.std.proofs.Common.{◌≡◌, ◌∙◌, ◌≤◌, ◌<◌, ◌+◌, ℕ, List, [], ◌∷◌, replicate, refl, ap, sym, subst, arith, inl, inr}
use Rattle.syntax_trees.specs.declared.types.ValType.TheOpen as F
use Rattle.syntax_trees.specs.declared.types.ValType.{ValType}
use Rattle.syntax_trees.specs.declared.types.Case.{Case}
use Rattle.syntax_trees.specs.declared.types.Field.{Field}
use Rattle.syntax_trees.specs.declared.types.ValType.TheVariants as leaves
use Rattle.syntax_trees.specs.declared.value.Value.TheOpen as V
use Rattle.syntax_trees.specs.declared.value.Value.TheVariants as plain
use Rattle.laid_types.specs.Layout.{Laid, laid, laid_step}
use Rattle.value_lower.specs.Plan.{Plan, Gives}
use Rattle.value_lower.specs.Lowering.{store, stored, tested, text_in, pointed}
use Rattle.value_lift.proofs.Equations.{layouts_in, laid_is}
use Rattle.value_lift.proofs.Views.{out_string}
use Rattle.lowering_laws.specs.Settling.{Answer, Settles}
use Rattle.lowering_laws.specs.ValueExamples.{TextBeside, BesideIsApart, TextWithin, WithinIsNotApart}
use Rattle.lowering_laws.proofs.ByKind.{stored_by}

abbrev hi : List ℕ
hi = 104 ∷ 105 ∷ []

layout : laid leaves.String ≡ record { size = 8; align = 4 }
layout = laid_is leaves.String ∙ ap (λ (y : F.ValType-F ValType Case Field). laid_step (layouts_in y)) out_string

abbrev steps : Plan
steps = tested 0 4 8 (text_in hi (λ to. pointed 0 to 2 (Gives [])))

plan_is : stored leaves.String (plain.String hi) 0 ≡ steps
plan_is =
    ap (λ (l : Laid). tested 0 l.align l.size (store leaves.String (plain.String hi) 0 (Gives []))) layout
    ∙ ap (tested 0 4 8) (stored_by (plain.String hi) (V.String hi) leaves.String 0 (Gives []) (plain.rolls-String hi))

abbrev zeros : List ℕ
zeros = replicate 16 0

abbrev answer : ℕ → Answer
answer place = record { asked = record { old = 0; old_size = 0; align = 1; size = 2 }; place = place; before = zeros; after = zeros }

pub text_beside : TextBeside
text_beside =
    subst (λ (p : Plan). Settles p zeros (answer 8 ∷ []) (8 ∷ 0 ∷ 0 ∷ 0 ∷ 2 ∷ 0 ∷ 0 ∷ 0 ∷ 104 ∷ 105 ∷ replicate 6 0) []) (sym plan_is)
    (record { asked = refl; before = refl; low = omega arith; grows = omega arith }, (refl, refl, refl))

pub text_within : TextWithin
text_within =
    subst (λ (p : Plan). Settles p zeros (answer 4 ∷ []) (4 ∷ 0 ∷ 0 ∷ 0 ∷ 2 ∷ 0 ∷ 0 ∷ 0 ∷ replicate 8 0) []) (sym plan_is)
    (record { asked = refl; before = refl; low = omega arith; grows = omega arith }, (refl, refl, refl))

size_is : (laid leaves.String).size ≡ 8
size_is = ap (λ (l : Laid). l.size) layout

pub beside_is_apart : BesideIsApart
beside_is_apart = (
  λ a i w. elim i [ inl v ↦ (let n : ⊥ = omega (arith, v.1, size_is, w.0) in n) | inr v ↦ v ],
  λ a i. refl,
  tt,
)

pub within_is_not_apart : WithinIsNotApart
within_is_not_apart h = h.0 4 (inl ((let n : 0 ≤ 4 = omega arith in n), (let n : 4 < 0 + (laid leaves.String).size = omega (arith, size_is) in n))) ((let n : 4 ≤ 4 = omega arith in n), (let n : 4 < 4 + 2 = omega arith in n))

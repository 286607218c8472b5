use Rattle.std.proofs.Common.{◌++◌, [], ◌∷◌, sym, ap, ◌∙◌, append_assoc}
use Rattle.std.proofs.lemmas.List.Elements.{All-same, All-rest}
use Rattle.std.specs.Char.Iter.{escape_rest}
use Rattle.value_texts.proofs.Letters.{IsLetter, escape_is_ascii}
use Rattle.value_texts.proofs.characters.push_code.Goals as goal

pub loop-letter-init : goal.loop-letter-init
loop-letter-init c =
    let rest = ap escape_rest c.into_iter-letter-iterator.ensures.into_iter_gives ∙ c.escape_unicode-letter-items.ensures.rest in
    (ap (λ letters. c.args.to.now.items ++ letters) rest, All-same IsLetter _ _ rest (escape_is_ascii c.args.c))

pub loop-letter-preserved : goal.loop-letter-preserved
loop-letter-preserved c =
    let step = c.in-Some.ensures.steps.1.0 in
    let left = escape_rest c.next.new.self in (
      ap (λ written. written ++ left) c.in_ok-push.ensures.items
          ∙ append_assoc c.loop-letter.to.items (c.in-Some.letter ∷ []) left
          ∙ ap (λ letters. c.loop-letter.to.items ++ letters) (sym step)
          ∙ c.loop-letter.invariant.0,
      All-rest IsLetter c.in-Some.letter left (escape_rest c.loop-letter.letter-iterator) step c.loop-letter.invariant.1,
    )

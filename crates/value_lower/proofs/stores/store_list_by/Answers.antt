-- The place has passed its tests, and the values are stored there.
use Rattle.std.proofs.Common.{◌≡◌, ◌∙◌, ◌%◌, ◌*◌, ◌^◌, ◌==◌, min, false, ℕ, List, [], ◌∷◌, length, map, refl, ap, sym, arith}
use Rattle.syntax_trees.specs.declared.types.ValType.{ValType}
use Rattle.syntax_trees.specs.declared.value.Value.{Value}
use Rattle.laid_types.specs.Layout.{laid}
use Rattle.value_lower.specs.Plan.{New, Plan, Gives}
use Rattle.value_lower.specs.Following.{rooms_of}
use Rattle.value_lower.specs.Storing.{tested, elements_from}
use Rattle.value_lower.specs.Entering.{lowered, all_stored}
use Rattle.value_lower.proofs.Going.{same, goes, comes, tested_goes}
use Rattle.value_lower.proofs.Plans.{all_limited}
use Rattle.value_lower.proofs.stores.store_list_by.Goals as goal

some_stored : (enter : New → (ℕ → Plan) → Plan) (t : ValType) (all : List Value) (place : ℕ) → false ≡ (length all == 0)
    → all_stored enter t all place ≡ tested place (laid t).align (length all * (laid t).size) (elements_from t place (map (lowered enter) all) (Gives []))
some_stored enter t [] place h = cc
some_stored enter t (v ∷ all) place h = refl

pub returns : goal.returns
returns g c =
    let enter : New → (ℕ → Plan) → Plan = g.B.Beside.entering c.args.home.now.resources.now in
    let start = g.B.Beside.state c.args.room.now c.args.beside.now in
    let rooms = rooms_of g.B.Beside.memory g.B.Beside.answers g.B.Beside.wrote (g.B.Beside.adds c.args.home.now.task c.args.t.now.types) in
    let t = c.args.t.now.val_type in
    let all = c.args.values.now in
    let place = c.args.place in
    let whole : Plan = all_stored enter t all place in
    let mid : Plan = elements_from t place (map (lowered enter) all) (Gives []) in
    let part : Plan = elements_from t c.from.result (map (lowered enter) all) (Gives []) in
    let test : Plan = tested place (laid t).align (length all * (laid t).size) mid in
    let align = c.align.ensures.value ∙ ap (λ (u : ValType). (laid u).align) c.laid-laid.ensures in
    let one = c.size.ensures ∙ ap (λ (u : ValType). min (laid u).size (2 ^ 64)) c.laid-laid.ensures in
    let here : place % (laid t).align ≡ 0 = ap (λ (n : ℕ). place % n) (sym align) ∙ c.in_ok-test_place.ensures.0 in
    let bytes = c.in_ok-test_place.ensures.1 in
    let limited : length all * c.size.result ≡ length all * min (laid t).size (2 ^ 64) = ap (λ (n : ℕ). length all * n) one in
    let size : length all * (laid t).size ≡ length all * min (laid t).size (2 ^ 64) = all_limited (length all) (laid t).size (omega (arith, bytes.reach, limited)) in
    comes rooms whole (λ x. Gives []) (λ x. []) start (g.B.Beside.state c.store_elements.new.room c.store_elements.new.beside) c.store_elements.result (λ x. refl)
    (goes rooms whole part (λ x. Gives []) start start (g.B.Beside.state c.store_elements.new.room c.store_elements.new.beside) c.store_elements.result
    (λ came after f.
    same rooms whole test start (some_stored enter t all place c.if-is_empty.ensures) came after
    (tested_goes rooms place (laid t).align (length all * (laid t).size) mid start here (omega (arith, bytes.inside, limited, size)) came after
    (same rooms mid part start (ap (λ (n : ℕ). elements_from t n (map (lowered enter) all) (Gives [])) (sym c.from.ensures)) came after f)))
    (c.store_elements.ensures.follows (Gives [])))

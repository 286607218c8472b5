-- The place has passed its tests, and the value is stored there.
use Rattle.std.proofs.Common.{◌≡◌, ◌∙◌, ◌%◌, ◌^◌, ℕ, [], min, refl, ap, sym, arith}
use Rattle.syntax_trees.specs.declared.types.ValType.{ValType}
use Rattle.laid_types.specs.Layout.{laid}
use Rattle.value_lower.specs.Plan.{New, Plan, Gives}
use Rattle.value_lower.specs.Following.{rooms_of}
use Rattle.value_lower.specs.Entering.{stored, store}
use Rattle.value_lower.proofs.Going.{same, goes, comes, tested_goes}
use Rattle.value_lower.proofs.stores.store_by.Goals as goal

pub returns : goal.returns
returns g c =
    let enter : New → (ℕ → Plan) → Plan = g.B.Beside.entering c.args.home.now.resources.now in
    let start = g.B.Beside.state c.args.room.now c.args.beside.now in
    let rooms = rooms_of g.B.Beside.memory g.B.Beside.answers g.B.Beside.wrote (g.B.Beside.adds c.args.home.now.task c.args.t.now.types) in
    let t = c.args.t.now.val_type in
    let v = c.args.value.now in
    let place = c.args.place in
    let whole : Plan = stored enter t v place in
    let mid : Plan = store enter t v place (Gives []) in
    let part : Plan = store enter t v c.from.result (Gives []) in
    let align = c.align.ensures.value ∙ ap (λ (u : ValType). (laid u).align) c.laid-laid.ensures in
    let size = c.size.ensures ∙ ap (λ (u : ValType). min (laid u).size (2 ^ 64)) c.laid-laid.ensures in
    let here : place % (laid t).align ≡ 0 = ap (λ (n : ℕ). place % n) (sym align) ∙ c.in_ok-test_place.ensures.0 in
    comes rooms whole (λ x. Gives []) (λ x. []) start (g.B.Beside.state c.store_value.new.room c.store_value.new.beside) c.store_value.result (λ x. refl)
    (goes rooms whole part (λ x. Gives []) start start (g.B.Beside.state c.store_value.new.room c.store_value.new.beside) c.store_value.result
    (λ came after f.
    tested_goes rooms place (laid t).align (laid t).size mid start here
    (omega (arith, c.in_ok-test_place.ensures.1.inside, c.in_ok-test_place.ensures.1.reach, size)) came after
    (same rooms mid part start (ap (λ (n : ℕ). store enter t v n (Gives [])) (sym c.from.ensures)) came after f))
    (c.store_value.ensures.follows (Gives [])))

-- The value is stored at the new place.
use Rattle.std.proofs.Common.{◌∙◌, ◌^◌, ℕ, [], ◌∷◌, min, Err, refl, ap, sym}
use Rattle.std.proofs.lemmas.Result.{err_from_is_err_and}
use Rattle.syntax_trees.specs.declared.types.ValType.{ValType}
use Rattle.laid_types.specs.Layout.{laid}
use Rattle.value_lower.specs.Plan.{New, Plan, Gives}
use Rattle.value_lower.specs.Following.{rooms_of, Words}
use Rattle.value_lower.specs.Storing.{asked}
use Rattle.value_lower.specs.Entering.{placed, store}
use Rattle.value_lower.proofs.Going.{same, stops, comes}
use Rattle.value_lower.proofs.Plans.{asked_once}
use Rattle.value_lower.proofs.stores.lower_placed_by.Goals as goal

pub returns-in_err-store_value : goal.returns-in_err-store_value
returns-in_err-store_value g c =
    let enter : New → (ℕ → Plan) → Plan = g.B.Beside.entering c.args.home.now.resources.now in
    let start = g.B.Beside.state c.args.room.now c.args.beside.now in
    let rooms = rooms_of g.B.Beside.memory g.B.Beside.answers g.B.Beside.wrote (g.B.Beside.adds c.args.home.now.task c.args.t.now.types) in
    let p = err_from_is_err_and c.from_residual-in_err-store_value.result c.from_residual-in_err-store_value.ensures.1 in
    let t = c.args.t.now.val_type in
    let v = c.args.value.now in
    let place = c.in_ok-place.place in
    let last : Plan = Gives (place ∷ []) in
    let whole : Plan = placed enter t v in
    let at : ℕ → Plan = λ (n : ℕ). store enter t v n (Gives (n ∷ [])) in
    let plan : Plan = asked 1 c.align.result c.size.result at in
    let part : Plan = store enter t v c.from.result last in
    let align = c.align.ensures.value ∙ ap (λ (u : ValType). (laid u).align) c.laid-laid.ensures in
    let size = c.size.ensures ∙ ap (λ (u : ValType). min (laid u).size (2 ^ 64)) c.laid-laid.ensures in
    rw (p.1, p.2)
    (comes rooms whole (λ x. Gives (x ∷ [])) (λ x. x ∷ []) start (g.B.Beside.state c.store_value.new.room c.store_value.new.beside) (Err c.in_err-store_value.field-0.0) (λ x. refl)
    (stops rooms {A = Unit {0}} whole part (λ x. last) (λ x. Gives (x ∷ [])) start (g.B.Beside.state c.ask.new.room c.args.beside.now) (g.B.Beside.state c.store_value.new.room c.store_value.new.beside) c.in_err-store_value.field-0.0
    (λ came after f.
    same rooms whole plan start
    (asked_once (laid t).align (laid t).size at ∙ ap (λ (n : ℕ). asked 1 n (min (laid t).size (2 ^ 64)) at) (sym align) ∙ ap (λ (n : ℕ). asked 1 c.align.result n at) (sym size)) came after
    (c.in_ok-place.ensures.follows c.args.home.now.task c.args.t.now.types at came after
    (same rooms (at place) part (g.B.Beside.state c.ask.new.room c.args.beside.now) (ap (λ (n : ℕ). store enter t v n last) (sym c.from.ensures)) came after f)))
    (c.in_err-store_value.ensures.follows last)))

pub returns : goal.returns
returns g c =
    let enter : New → (ℕ → Plan) → Plan = g.B.Beside.entering c.args.home.now.resources.now in
    let start = g.B.Beside.state c.args.room.now c.args.beside.now in
    let rooms = rooms_of g.B.Beside.memory g.B.Beside.answers g.B.Beside.wrote (g.B.Beside.adds c.args.home.now.task c.args.t.now.types) in
    let t = c.args.t.now.val_type in
    let v = c.args.value.now in
    let place = c.in_ok-place.place in
    let last : Plan = Gives (place ∷ []) in
    let whole : Plan = placed enter t v in
    let at : ℕ → Plan = λ (n : ℕ). store enter t v n (Gives (n ∷ [])) in
    let plan : Plan = asked 1 c.align.result c.size.result at in
    let part : Plan = store enter t v c.from.result last in
    let align = c.align.ensures.value ∙ ap (λ (u : ValType). (laid u).align) c.laid-laid.ensures in
    let size = c.size.ensures ∙ ap (λ (u : ValType). min (laid u).size (2 ^ 64)) c.laid-laid.ensures in
    same rooms whole plan start
    (asked_once (laid t).align (laid t).size at ∙ ap (λ (n : ℕ). asked 1 n (min (laid t).size (2 ^ 64)) at) (sym align) ∙ ap (λ (n : ℕ). asked 1 c.align.result n at) (sym size))
    (Words (place ∷ [])) (g.B.Beside.state c.store_value.new.room c.store_value.new.beside)
    (c.in_ok-place.ensures.follows c.args.home.now.task c.args.t.now.types at (Words (place ∷ [])) (g.B.Beside.state c.store_value.new.room c.store_value.new.beside)
    (same rooms (at place) part (g.B.Beside.state c.ask.new.room c.args.beside.now) (ap (λ (n : ℕ). store enter t v n last) (sym c.from.ensures)) (Words (place ∷ [])) (g.B.Beside.state c.store_value.new.room c.store_value.new.beside)
    (c.in_ok-store_value.ensures.follows last (Words (place ∷ [])) (g.B.Beside.state c.store_value.new.room c.store_value.new.beside) (refl, refl))))

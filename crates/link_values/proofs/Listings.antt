-- Items under names, as one more is put behind.
use Rattle.std.proofs.Common.{◌≡◌, ℕ, Bool, true, false, cond, List, [], ◌∷◌, ◌++◌, refl, ap, sym, ◌∙◌, Some, None, Option}
use Rattle.std.specs.Prelude.{◌==◌}
use Rattle.std.specs.Option.{option_or}
use Rattle.link_values.specs.Listed.{item_named}

cond_first : {T : Type 0} (b : Bool) (x : T) (o other : Option T) → cond b (Some x) (option_or o other) ≡ option_or (cond b (Some x) o) other
cond_first true x o other = refl
cond_first false x o other = refl

pub named_more : {T : Type 0} (q : ℕ) (entries : List (ℕ × T)) (name : ℕ) (item : T) → item_named q (entries ++ (name, item) ∷ []) ≡ option_or (item_named q entries) (cond (name == q) (Some item) None)
named_more q [] name item = refl
named_more q (e ∷ entries) name item =
    ap (cond (e.0 == q) (Some e.1)) (named_more q entries name item) ∙ cond_first (e.0 == q) e.1 (item_named q entries) (cond (name == q) (Some item) None)

pub push_named : {T : Type 0} (entries reserved more : List (ℕ × T)) (name : ℕ) (item : T) (f g : ℕ → Option T) → ((q : ℕ) → f q ≡ item_named q entries) → reserved ≡ entries → more ≡ reserved ++ (name, item) ∷ [] → ((q : ℕ) → g q ≡ option_or (f q) (cond (name == q) (Some item) None)) → (q : ℕ) → g q ≡ item_named q more
push_named {T} entries reserved more name item f g is same pushed put q =
    let all : more ≡ entries ++ (name, item) ∷ [] = pushed ∙ ap (λ (es : List (ℕ × T)). es ++ (name, item) ∷ []) same in
    put q ∙ ap (λ (o : Option T). option_or o (cond (name == q) (Some item) None)) (is q) ∙ sym (named_more q entries name item) ∙ ap (item_named q) (sym all)

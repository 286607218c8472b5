-- Texts that are kept back, and written out room by room.
use Rattle.std.proofs.Common.{◌≡◌, ℕ, zero, suc, ◌+◌, ◌*◌, List, [], ◌∷◌, ◌++◌, take, drop, Option, Some, None, Result, Ok, Err, OnErr, refl, sym, ap, ◌∙◌, append_assoc, take-add, take-append-drop, arith}
use Rattle.ca_io.specs.Bytes.{grown, TookFront}

-- the first of the first ones are some of the first ones
takes : (count n : ℕ) (text : List ℕ) → (k : ℕ) × (take count (take n text) ≡ take k text)
takes zero n text = (0, refl)
takes (suc count) zero text = (0, refl)
takes (suc count) (suc n) [] = (0, refl)
takes (suc count) (suc n) (b ∷ text) =
    let some : (k : ℕ) × (take count (take n text) ≡ take k text) = takes count n text in
    (suc some.0, ap (λ (xs : List ℕ). b ∷ xs) some.1)

-- One room more is written.
pub room_more : (before : Option (List ℕ)) (text : List ℕ) (done n : ℕ)
    → grown (grown before (take done text)) (take n (drop done text)) ≡ grown before (take (done + n) text)
room_more None text done n = refl
room_more (Some taken) text done n =
    ap (λ (l : List ℕ). Some l)
    (append_assoc taken (take done text) (take n (drop done text))
    ∙ ap (λ (l : List ℕ). taken ++ l) (sym (take-add done n text)))

-- Of one room more a front is written.
pub room_front : (before here now : Option (List ℕ)) (text : List ℕ) (done n : ℕ)
    → here ≡ grown before (take done text) → TookFront here now (take n (drop done text)) → TookFront before now text
room_front before here now text done n e front =
    let some : (k : ℕ) × (take front.0 (take n (drop done text)) ≡ take k (drop done text)) = takes front.0 n (drop done text) in (
      done + some.0,
      front.1
          ∙ ap (λ (l : List ℕ). grown here l) some.1
          ∙ ap (λ (h : Option (List ℕ)). grown h (take some.0 (drop done text))) e
          ∙ room_more before text done some.0,
    )

-- what holds at all holds at a failure
pub on_err : {T E : Type 0} {P : Type 0} (result : Result T E) → P → OnErr result P
on_err (Ok done) p = tt
on_err (Err failed) p = p

-- Whole rooms, and one more.
pub rooms_more : (done : ℕ) → (rooms : ℕ) × (done ≡ rooms * 4096) → (rooms : ℕ) × (done + 4096 ≡ rooms * 4096)
rooms_more done whole = (whole.0 + 1, omega (arith, whole.1))

-- Rooms are written of what is kept back, and taken from its front.
pub put_rooms : (taken now : Option (List ℕ)) (kept text next bytes rest : List ℕ) (done : ℕ)
    → next ≡ kept ++ text → bytes ≡ next → now ≡ grown taken (take done bytes) → rest ≡ drop done next
    → grown now rest ≡ grown (grown taken kept) text
put_rooms None now kept text next bytes rest done e same out left = ap (λ (h : Option (List ℕ)). grown h rest) out
put_rooms (Some before) now kept text next bytes rest done e same out left =
    ap (λ (h : Option (List ℕ)). grown h rest) out
    ∙ ap (λ (xs : List ℕ). grown (Some (before ++ take done xs)) rest) same
    ∙ ap (λ (xs : List ℕ). grown (Some (before ++ take done next)) xs) left
    ∙ ap (λ (xs : List ℕ). Some xs)
    (append_assoc before (take done next) (drop done next)
    ∙ ap (λ (xs : List ℕ). before ++ xs) (take-append-drop done next ∙ e)
    ∙ sym (append_assoc before kept text))

-- The indices that were given, and those of them at which an entry is live.
use Rattle.std.proofs.Common.{◌≡◌, ℕ, ◌+◌, ◌-◌, ◌≤◌, sym, ap, refl, ◌∙◌, arith, Bool, true, false, cond, List, [], ◌∷◌, ◌++◌, map, length, is_some, Result, Ok, Err, IfOk}
use Rattle.std.proofs.lemmas.List.{append-nil}
use Rattle.std.proofs.lemmas.List.FromFn.{filter_of_map_range_with_len_more}
use Rattle.std.specs.List.{filter, range_with_len}
use Rattle.handle_table.specs.History.{Event, live, greatest}
use Rattle.handle_table.specs.Slots.{Slots, entry_at, live_indices, StandsFor}
use Rattle.handle_table.proofs.Histories.{slots_length, shows_entry}

pub shows_greatest : {E : Type 0} (s : Slots E) (h : List (Event E)) → StandsFor h s → length s.entries ≡ greatest h
shows_greatest {E} s h st = ap (λ (x : Slots E). length x.entries) st.slots ∙ slots_length h (greatest h)

filter_same : (p q : ℕ → Bool) (xs : List ℕ) → ((i : ℕ) → p i ≡ q i) → filter p xs ≡ filter q xs
filter_same p q [] h = refl
filter_same p q (x ∷ xs) h =
    ap (λ (b : Bool). cond b (x ∷ filter p xs) (filter p xs)) (h x)
    ∙ ap (λ (ys : List ℕ). cond (q x) (x ∷ ys) ys) (filter_same p q xs h)

pub shows_indices : {E : Type 0} (s : Slots E) (h : List (Event E)) → StandsFor h s → live_indices s ≡ filter (λ index. is_some (live h index)) (range_with_len 1 (greatest h))
shows_indices {E} s h st =
    filter_same (λ index. is_some (entry_at s index)) (λ index. is_some (live h index)) (range_with_len 1 (length s.entries)) (λ index. ap is_some (shows_entry s h index st))
    ∙ ap (λ (n : ℕ). filter (λ index. is_some (live h index)) (range_with_len 1 n)) (shows_greatest s h st)

-- one index more
map_same : (xs : List ℕ) → map (λ (x : ℕ). x) xs ≡ xs
map_same [] = refl
map_same (x ∷ xs) = ap (λ (ys : List ℕ). x ∷ ys) (map_same xs)

pub one_more : (p : ℕ → Bool) (j : ℕ) → 1 ≤ j → filter p (range_with_len 1 (j + 1 - 1)) ≡ filter p (range_with_len 1 (j - 1)) ++ cond (p j) (j ∷ []) []
one_more p j h =
    let n : ℕ = j - 1 in
    let whole : j + 1 - 1 ≡ n + 1 = omega arith in
    ap (λ (m : ℕ). filter p (range_with_len 1 m)) whole
    ∙ sym (ap (filter p) (map_same (range_with_len 1 (n + 1))))
    ∙ filter_of_map_range_with_len_more p (λ (x : ℕ). x) 1 n j (omega arith)
    ∙ ap (λ (xs : List ℕ). filter p xs ++ cond (p j) (j ∷ []) []) (map_same (range_with_len 1 n))

pub walked_live : (p : ℕ → Bool) (items : List ℕ) (j : ℕ) → 1 ≤ j → p j ≡ true → items ≡ filter p (range_with_len 1 (j - 1)) → items ++ j ∷ [] ≡ filter p (range_with_len 1 (j + 1 - 1))
walked_live p items j h live is =
    ap (λ (xs : List ℕ). xs ++ j ∷ []) is
    ∙ ap (λ (b : Bool). filter p (range_with_len 1 (j - 1)) ++ cond b (j ∷ []) []) (sym live)
    ∙ sym (one_more p j h)

pub walked_free : (p : ℕ → Bool) (items : List ℕ) (j : ℕ) → 1 ≤ j → p j ≡ false → items ≡ filter p (range_with_len 1 (j - 1)) → items ≡ filter p (range_with_len 1 (j + 1 - 1))
walked_free p items j h free is =
    is
    ∙ sym (append-nil (filter p (range_with_len 1 (j - 1))))
    ∙ ap (λ (b : Bool). filter p (range_with_len 1 (j - 1)) ++ cond b (j ∷ []) []) (sym free)
    ∙ sym (one_more p j h)

-- what holds of an answer gives what follows of it
pub if_ok_more : {A E : Type 0} (r : Result A E) (P Q : A → Type 0) → ((x : A) → P x → Q x) → IfOk r P → IfOk r Q
if_ok_more (Ok x) P Q f h = f x h
if_ok_more (Err e) P Q f h = tt

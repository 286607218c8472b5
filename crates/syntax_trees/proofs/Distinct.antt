-- What `AreDistinct` says, by the first name that stands twice.
use Rattle.std.proofs.Common.{◌≡◌, ◌≢◌, ℕ, Bool, true, false, cond, List, [], ◌∷◌, ◌++◌, length, refl, sym, ◌∙◌, Some, None, Option}
use Rattle.std.specs.List.{AllByRecursion}
use Rattle.std.specs.Str.{bytes_eq}
use Rattle.std.specs.Prelude.{◌↔◌, ◌||◌}
use Rattle.std.proofs.lemmas.Slice.Eq.{bytes_eq-Decides}
use Rattle.syntax_trees.specs.Names.{AreDistinct, is_among, twice_behind, first_twice}
use Rattle.syntax_trees.proofs.Seen.{among_more}

-- Each name is not among those before it.
abbrev Fresh : List (List ℕ) → List (List ℕ) → Type 0
Fresh before [] = Unit {0}
Fresh before (n ∷ ns) = (is_among n before ≡ false) × Fresh (before ++ n ∷ []) ns

cond_none : (b : Bool) (k : ℕ) (r : Option ℕ) → cond b (Some k) r ≡ None → (b ≡ false) × (r ≡ None)
cond_none true k r h = cc
cond_none false k r h = (refl, h)

none_fresh : (before names : List (List ℕ)) → twice_behind before names ≡ None → Fresh before names
none_fresh before [] h = tt
none_fresh before (n ∷ ns) h =
    let p = cond_none (is_among n before) (length before) (twice_behind (before ++ n ∷ []) ns) h in
    (p.0, none_fresh (before ++ n ∷ []) ns p.1)

fresh_none : (before names : List (List ℕ)) → Fresh before names → twice_behind before names ≡ None
fresh_none before [] h = refl
fresh_none before (n ∷ ns) h = rw h.0 (fresh_none (before ++ n ∷ []) ns h.1)

all_map : (P Q : List ℕ → Type 0) (ns : List (List ℕ)) → ((n : List ℕ) → P n → Q n) → AllByRecursion P ns → AllByRecursion Q ns
all_map P Q [] f h = tt
all_map P Q (n ∷ ns) f h = (f n h.0, all_map P Q ns f h.1)

all_both : (P Q R : List ℕ → Type 0) (ns : List (List ℕ)) → ((n : List ℕ) → P n → Q n → R n) → AllByRecursion P ns → AllByRecursion Q ns → AllByRecursion R ns
all_both P Q R [] f h k = tt
all_both P Q R (n ∷ ns) f h k = (f n h.0 k.0, all_both P Q R ns f h.1 k.1)

or_false : (a b : Bool) → (a || b) ≡ false → (a ≡ false) × (b ≡ false)
or_false true b h = cc
or_false false b h = (refl, h)

differs : (n m : List ℕ) → bytes_eq n m ≡ false → n ≢ m
differs n m h = λ e. (let t : bytes_eq n m ≡ true = (bytes_eq-Decides n m).1 e in let no : true ≡ false = sym t ∙ h in cc)

not_equal : (n m : List ℕ) (b : Bool) → bytes_eq n m ≡ b → n ≢ m → b ≡ false
not_equal n m false e h = refl
not_equal n m true e h = absurd (h ((bytes_eq-Decides n m).0 e))

fresh_distinct : (before names : List (List ℕ)) → Fresh before names → AreDistinct names × AllByRecursion (λ m. is_among m before ≡ false) names
fresh_distinct before [] h = (tt, tt)
fresh_distinct before (n ∷ ns) h =
    let p = fresh_distinct (before ++ n ∷ []) ns h.1 in
    let apart = all_map (λ m. is_among m (before ++ n ∷ []) ≡ false) (λ m. n ≢ m) ns (λ m k. differs n m (or_false (is_among m before) (bytes_eq n m) (sym (among_more m before n) ∙ k)).1) p.1 in
    let others = all_map (λ m. is_among m (before ++ n ∷ []) ≡ false) (λ m. is_among m before ≡ false) ns (λ m k. (or_false (is_among m before) (bytes_eq n m) (sym (among_more m before n) ∙ k)).0) p.1 in
    ((apart, p.0), (h.0, others))

distinct_fresh : (before names : List (List ℕ)) → AreDistinct names → AllByRecursion (λ m. is_among m before ≡ false) names → Fresh before names
distinct_fresh before [] d a = tt
distinct_fresh before (n ∷ ns) d a =
    (a.0, distinct_fresh (before ++ n ∷ []) ns d.1 (all_both (λ m. n ≢ m) (λ m. is_among m before ≡ false) (λ m. is_among m (before ++ n ∷ []) ≡ false) ns (λ m e k. among_more m before n ∙ rw (k, not_equal n m (bytes_eq n m) refl e) refl) d.0 a.1))

none_among : (names : List (List ℕ)) → AllByRecursion (λ m. is_among m [] ≡ false) names
none_among [] = tt
none_among (n ∷ ns) = (refl, none_among ns)

pub distinct_law : (names : List (List ℕ)) → (first_twice names ≡ None) ↔ AreDistinct names
distinct_law names = (λ h. (fresh_distinct [] names (none_fresh [] names h)).0, λ d. fresh_none [] names (distinct_fresh [] names d (none_among names)))

are_in : (names : List (List ℕ)) (r : Option ℕ) (b : Bool) → r ≡ first_twice names → (b ≡ true) ↔ (r ≡ None) → (b ≡ true) ↔ AreDistinct names
are_in names r b e h = let l = distinct_law names in (λ t. l.0 (sym e ∙ h.0 t), λ d. h.1 (e ∙ l.1 d))

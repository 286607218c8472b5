-- A piece of a plan that gives core values.
use Rattle.std.proofs.Common.{◌≡◌, ◌≤◌, ◌<◌, ◌+◌, ◌%◌, ◌^◌, ℕ, ℤ, zero, suc, List, [], ◌∷◌, ◌++◌, length, replicate, refl, ap₂, subst, arith, mod-eq_of_lt, append_assoc}
use Rattle.std.specs.Prelude.{pos, negsuc, FitsSigned}
use Rattle.std.specs.Int.{w8, w16, w32, cast_unsigned}
use Rattle.syntax_trees.specs.declared.core_type.CoreType.{CoreType}
use Rattle.syntax_trees.specs.declared.core_type.CoreType.TheVariants.{I32, I64}
use Rattle.value_lower.specs.Plan.{Plan}
use Rattle.value_lower.specs.Lowering.{asked}
use Rattle.value_lift.specs.WordStanding.{AreWords, wrapped}
use Rattle.value_lift.proofs.Wrapped.{Below}
use Rattle.lowering_laws.specs.Settling.{Answer, Settles}
use Rattle.lowering_laws.specs.ApartPlaces.{Region, Within, In, Apart}
use Rattle.lowering_laws.proofs.Going.{Goes, Went, went_more, went_on, goes_nowhere, region}
use Rattle.lowering_laws.proofs.Asking.{Placed, was_asked, goes_answered}
use Rattle.lowering_laws.proofs.Numbers.{unsigned_below}

-- Core values of types.
pub are_append : (ts us : List CoreType) (ws vs : List ℕ) → AreWords ts ws → AreWords us vs → AreWords (ts ++ us) (ws ++ vs)
are_append [] us [] vs a b = b
are_append [] us (w ∷ ws) vs a b = absurd a
are_append (t ∷ ts) us [] vs a b = absurd a
are_append (I32 ∷ ts) us (w ∷ ws) vs a b = (a.0, are_append ts us ws vs a.1 b)
are_append (I64 ∷ ts) us (w ∷ ws) vs a b = (a.0, are_append ts us ws vs a.1 b)

pub no_words : (ws : List ℕ) → AreWords [] ws → ws ≡ []
no_words [] a = refl
no_words (w ∷ ws) a = absurd a

-- the first of some, wrapped
pub wrapped_filled : (ts : List CoreType) (ws zs : List ℕ) → AreWords ts ws → wrapped ts (ws ++ zs) ≡ ws
wrapped_filled [] [] zs a = refl
wrapped_filled [] (w ∷ ws) zs a = absurd a
wrapped_filled (t ∷ ts) [] zs a = absurd a
wrapped_filled (I32 ∷ ts) (w ∷ ws) zs a = ap₂ (λ (x : ℕ) (xs : List ℕ). x ∷ xs) (mod-eq_of_lt a.0) (wrapped_filled ts ws zs a.1)
wrapped_filled (I64 ∷ ts) (w ∷ ws) zs a = ap₂ (λ (x : ℕ) (xs : List ℕ). x ∷ xs) (mod-eq_of_lt a.0) (wrapped_filled ts ws zs a.1)

zeros : (us : List CoreType) (n : ℕ) → n ≡ length us → AreWords us (replicate n 0)
zeros [] zero e = tt
zeros [] (suc n) e = absurd (omega (arith, e))
zeros (u ∷ us) zero e = absurd (omega (arith, e))
zeros (I32 ∷ us) (suc n) e = ((let p : 0 < 2 ^ 32 = omega arith in p), zeros us n (omega (arith, e)))
zeros (I64 ∷ us) (suc n) e = ((let p : 0 < 2 ^ 64 = omega arith in p), zeros us n (omega (arith, e)))

-- those of some types, with zeros behind them, are of types that hold these
pub filled_are : (ts us : List CoreType) (ws : List ℕ) (n : ℕ) → Below ts us → AreWords ts ws → length ws + n ≡ length us → AreWords us (ws ++ replicate n 0)
filled_are [] us [] n b a e = zeros us n (omega (arith, e))
filled_are [] us (w ∷ ws) n b a e = absurd a
filled_are (t ∷ ts) us [] n b a e = absurd a
filled_are (t ∷ ts) [] (w ∷ ws) n b a e = absurd b
filled_are (I32 ∷ ts) (I32 ∷ us) (w ∷ ws) n b a e = (a.0, filled_are ts us ws n b.1 a.1 (omega (arith, e)))
filled_are (I32 ∷ ts) (I64 ∷ us) (w ∷ ws) n b a e = ((let p : w < 2 ^ 64 = omega (arith, a.0) in p), filled_are ts us ws n b.1 a.1 (omega (arith, e)))
filled_are (I64 ∷ ts) (I32 ∷ us) (w ∷ ws) n b a e = let e : I64 ≡ I32 = b.0 in cc
filled_are (I64 ∷ ts) (I64 ∷ us) (w ∷ ws) n b a e = (a.0, filled_are ts us ws n b.1 a.1 (omega (arith, e)))

-- What is left of a plan after a piece of it that gave these core values.
pub record WentWords (K : List ℕ → Plan) (before : List ℕ) (regions : List Region) (memory after given : List ℕ) (Post : List ℕ → List ℕ → Type 0) : Type 0 where
  pub words : List ℕ
  pub went : Went (K (before ++ words)) (region 0 0) regions memory after given (Post words)

abbrev pub GoesWords : (List ℕ → (List ℕ → Plan) → Plan) → (List ℕ → List ℕ → Type 0) → Type 0
GoesWords W Post =
    (before : List ℕ) (K : List ℕ → Plan) (regions : List Region) (memory : List ℕ) (answers : List Answer) (after given : List ℕ) → Apart regions answers
    → Settles (W before K) memory answers after given → WentWords K before regions memory after given Post

nowhere : (regions : List Region) (a : ℕ) → Within (region 0 0) a → In regions a
nowhere regions a w = absurd (let n : ⊥ = omega (arith, w.0, w.1) in n)

-- core values that are given at once
pub words_now : (W : List ℕ → (List ℕ → Plan) → Plan) (Post : List ℕ → List ℕ → Type 0) (words : List ℕ) → ((before : List ℕ) (K : List ℕ → Plan) → W before K ≡ K (before ++ words))
    → ((m : List ℕ) → Post words m) → GoesWords W Post
words_now W Post words e h before K regions memory answers after given apart settles = record {
  words = words;
  went =
      goes_nowhere 0 0 (Post words) h (K (before ++ words)) regions memory answers after given (omega arith) (nowhere regions) apart
      (subst (λ (p : Plan). Settles p memory answers after given) (e before K) settles);
}

-- the place that a realloc answers, and a count
pub words_asked : (W : List ℕ → (List ℕ → Plan) → Plan) (count align size : ℕ) (P : ℕ → Plan → Plan) (Post : ℕ → List ℕ → Type 0) (Is : List ℕ → List ℕ → Type 0)
    → ((before : List ℕ) (K : List ℕ → Plan) → W before K ≡ asked count align size (λ to. P to (K (before ++ to ∷ count ∷ []))))
    → ((to : ℕ) → Goes (P to) to size (Post to))
    → ((m : List ℕ) (to : ℕ) → to < 2 ^ 32 → count < 2 ^ 32 → to % align ≡ 0 → to + size ≤ length m → Post to m → Is (to ∷ count ∷ []) m) → GoesWords W Is
words_asked W count align size P Post Is e goes is before K regions memory answers after given apart settles =
    let w =
    was_asked count align size memory (λ to. P to (K (before ++ to ∷ count ∷ []))) answers after given (subst (λ (p : Plan). Settles p memory answers after given) (e before K) settles) in
    let p : ℕ = w.answer.place in
    let k : Plan = K (before ++ p ∷ count ∷ []) in
    let Next : ℕ → List ℕ → Type 0 = λ to m. to ≡ p in
    let v =
    goes_answered count align size 0 0 P (λ to k. k) Post Next k regions memory after given w.answer w.rest (omega arith) (nowhere regions) (subst (λ (es : List Answer). Apart regions es) w.all apart) w.few w.is w.tested
    (goes p) (goes_nowhere 0 0 (Next p) (λ m. refl)) in
    record {
      words = p ∷ count ∷ [];
      went =
          went_more k (region 0 0) regions memory after given (Placed count align size Post Next) (Is (p ∷ count ∷ []))
          (λ m q. subst (λ (to : ℕ). Is (to ∷ count ∷ []) m) q.next (is m q.at q.low q.few q.aligned q.inside q.post)) v;
    }

-- core values behind others
pub words_on : (V W : List ℕ → (List ℕ → Plan) → Plan) (Post Next : List ℕ → List ℕ → Type 0) (Is : List ℕ → List ℕ → Type 0) → GoesWords V Post → GoesWords W Next
    → ((m ws vs : List ℕ) → Post ws m → Next vs m → Is (ws ++ vs) m) → GoesWords (λ before K. V before (λ words. W words K)) Is
words_on V W Post Next Is first second is before K regions memory answers after given apart settles =
    let v = first before (λ words. W words K) regions memory answers after given apart settles in
    let w = second (before ++ v.words) K (v.went.new ++ regions) v.went.now v.went.rest after given v.went.apart v.went.settles in
    let k : Plan = K ((before ++ v.words) ++ w.words) in
    record {
      words = v.words ++ w.words;
      went =
          subst (λ (l : List ℕ). Went (K l) (region 0 0) regions memory after given (Is (v.words ++ w.words))) (append_assoc before v.words w.words)
          (went_more k (region 0 0) regions memory after given (λ m. Post v.words m × Next w.words m) (Is (v.words ++ w.words)) (λ m h. is m v.words w.words h.0 h.1)
          (went_on (W (before ++ v.words) K) k 0 0 0 0 0 0 (Post v.words) (Next w.words) regions memory after given (omega arith) (omega arith) (omega arith) (nowhere regions) v.went w.went));
    }

-- Signed integers as core values.
pub low_bits_8 : (n : ℤ) → FitsSigned w8 n → cast_unsigned w32 n % 2 ^ 8 ≡ cast_unsigned w8 n
low_bits_8 (pos n) h = mod-eq_of_lt (unsigned_below w8 (pos n) h)
low_bits_8 (negsuc n) h = omega (arith, h)

pub low_bits_16 : (n : ℤ) → FitsSigned w16 n → cast_unsigned w32 n % 2 ^ 16 ≡ cast_unsigned w16 n
low_bits_16 (pos n) h = mod-eq_of_lt (unsigned_below w16 (pos n) h)
low_bits_16 (negsuc n) h = omega (arith, h)

pub word_8 : (n : ℤ) → FitsSigned w8 n → cast_unsigned w32 n < 2 ^ 32
word_8 (pos n) h = let k : cast_unsigned w8 (pos n) < 2 ^ 8 = unsigned_below w8 (pos n) h in omega (arith, k)
word_8 (negsuc n) h = omega arith

pub word_16 : (n : ℤ) → FitsSigned w16 n → cast_unsigned w32 n < 2 ^ 32
word_16 (pos n) h = let k : cast_unsigned w16 (pos n) < 2 ^ 16 = unsigned_below w16 (pos n) h in omega (arith, k)
word_16 (negsuc n) h = omega arith

-- A piece of a plan behind a realloc: what is put at the place that it answers, and what is put then.
use Rattle.std.proofs.Common.{◌≡◌, ◌∙◌, ◌≤◌, ◌<◌, ◌+◌, ◌%◌, ◌^◌, ℕ, Bool, true, false, List, [], ◌∷◌, ◌++◌, length, get_or, refl, ap, subst, arith, inl, inr}
use Rattle.std.proofs.lemmas.Bool.{ltb-true}
use Rattle.std.specs.Prelude.{nat_lt, ◌&&◌, if◌then◌else◌}
use Rattle.value_lower.specs.Plan.{Ask, Plan, Fails, Asks}
use Rattle.value_lower.specs.declared.ends.LowerWhy.TheVariants.{Bounds}
use Rattle.value_lower.specs.Lowering.{tested, asked}
use Rattle.lowering_laws.specs.Settling.{Answer, IsAnswer, Settles}
use Rattle.lowering_laws.specs.ApartPlaces.{Region, Within, In, Apart, region_of}
use Rattle.lowering_laws.proofs.Going.{Goes, Went, WasTested, was_tested, region, in_left, in_right, in_both, apart_fewer}

abbrev pub question : ℕ → ℕ → Ask
question align size = record { old = 0; old_size = 0; align = align; size = size }

-- A realloc that answered, and its place, which was tested.
pub record WasAsked (count align size : ℕ) (memory : List ℕ) (k : ℕ → Plan) (answers : List Answer) (after words : List ℕ) : Type 0 where
  pub answer : Answer
  pub rest : List Answer
  pub all : answers ≡ answer ∷ rest
  pub few : count < 2 ^ 32
  pub is : IsAnswer (question align size) memory answer
  pub tested : WasTested answer.place align size answer.after (k answer.place) rest after words

pub both_true : (a b : Bool) → (a && b) ≡ true → (a ≡ true) × (b ≡ true)
both_true true b h = (refl, h)
both_true false b h = cc

asked_passed : (count align size : ℕ) (memory : List ℕ) (k : ℕ → Plan) (answers : List Answer) (after words : List ℕ) (b : Bool) → (nat_lt count (2 ^ 32) && nat_lt size (2 ^ 32)) ≡ b
    → Settles (if b then Asks (question align size) (λ place. tested place align size (k place)) else Fails Bounds) memory answers after words
    → WasAsked count align size memory k answers after words
asked_passed count align size memory k [] after words true e h = absurd h
asked_passed count align size memory k (answer ∷ rest) after words true e h = record {
  answer = answer;
  rest = rest;
  all = refl;
  few = ltb-true count (2 ^ 32) (both_true (nat_lt count (2 ^ 32)) (nat_lt size (2 ^ 32)) e).0;
  is = h.0;
  tested = was_tested answer.place align size answer.after (k answer.place) rest after words h.1;
}
asked_passed count align size memory k answers after words false e h = absurd h

pub was_asked : (count align size : ℕ) (memory : List ℕ) (k : ℕ → Plan) (answers : List Answer) (after words : List ℕ) → Settles (asked count align size k) memory answers after words
    → WasAsked count align size memory k answers after words
was_asked count align size memory k answers after words h =
    asked_passed count align size memory k answers after words (nat_lt count (2 ^ 32) && nat_lt size (2 ^ 32)) refl h

-- What is so at the place that was answered, and what is so then.
pub record Placed (count align size : ℕ) (Post Next : ℕ → List ℕ → Type 0) (memory : List ℕ) : Type 0 where
  pub at : ℕ
  pub low : at < 2 ^ 32
  pub few : count < 2 ^ 32
  pub aligned : at % align ≡ 0
  pub inside : at + size ≤ length memory
  pub post : Post at memory
  pub next : Next at memory

module _ (count align size place span : ℕ) (P Q : ℕ → Plan → Plan) (Post Next : ℕ → List ℕ → Type 0) where
  pub goes_answered : (k : Plan) (regions : List Region) (memory after words : List ℕ) (answer : Answer) (rest : List Answer)
      → place + span ≤ length memory → ((a : ℕ) → Within (region place span) a → In regions a) → Apart regions (answer ∷ rest)
      → count < 2 ^ 32 → IsAnswer (question align size) memory answer → WasTested answer.place align size answer.after (P answer.place (Q answer.place k)) rest after words
      → Goes (P answer.place) answer.place size (Post answer.place) → Goes (Q answer.place) place span (Next answer.place)
      → Went k (region place span) regions memory after words (Placed count align size Post Next)
  goes_answered k regions memory after words answer rest inside within apart few is was first second =
      let to : ℕ = answer.place in
      let r : Region = region_of answer in
      let same : answer.asked.size ≡ size = ap (λ (q : Ask). q.size) is.asked in
      let there : (a : ℕ) → Within (region to size) a → Within r a = λ a w. (w.0, (let n : a < answer.place + answer.asked.size = omega (arith, w.1, same) in n)) in
      let back : (a : ℕ) → Within r a → Within (region to size) a = λ a w. (w.0, (let n : a < answer.place + size = omega (arith, w.1, same) in n)) in
      let v = first (Q to k) (r ∷ regions) answer.after rest after words was.inside (λ a i. inl (there a i)) apart.2 was.settles in
      let w = second k (v.new ++ (r ∷ regions)) v.now v.rest after words (omega (arith, inside, is.grows, v.grown)) (λ a i. in_right v.new (r ∷ regions) a (inr (within a i))) v.apart v.settles in
      let outside : (a : ℕ) → Within r a → Within (region place span) a → ⊥ = λ a i j. apart.0 a (within a j) i in
      let here : (a : ℕ) → In (v.new ++ (r ∷ [])) a → get_or w.now a 0 ≡ get_or v.now a 0 =
      λ a i.
      elim (in_both v.new (r ∷ []) a i) [
        | inl j ↦ w.frame a (in_left v.new (r ∷ regions) a j) (λ h. v.fresh a j (inr (within a h)))
        | inr j ↦ elim j [ inl l ↦ w.frame a (in_right v.new (r ∷ regions) a (inl l)) (λ h. outside a l h) | inr l ↦ absurd l ]
      ] in
      record {
        rest = w.rest;
        now = w.now;
        new = w.new ++ (v.new ++ (r ∷ []));
        settles = w.settles;
        apart =
            apart_fewer w.rest ((w.new ++ (v.new ++ (r ∷ []))) ++ regions) (w.new ++ (v.new ++ (r ∷ regions)))
            (λ a i.
            elim (in_both (w.new ++ (v.new ++ (r ∷ []))) regions a i) [
              | inl j ↦
                  elim (in_both w.new (v.new ++ (r ∷ [])) a j) [
                    | inl l ↦ in_left w.new (v.new ++ (r ∷ regions)) a l
                    | inr l ↦
                        in_right w.new (v.new ++ (r ∷ regions)) a
                        (elim (in_both v.new (r ∷ []) a l) [
                          | inl m ↦ in_left v.new (r ∷ regions) a m
                          | inr m ↦ in_right v.new (r ∷ regions) a (elim m [ inl n ↦ inl n | inr n ↦ absurd n ])
                        ])
                  ]
              | inr j ↦ in_right w.new (v.new ++ (r ∷ regions)) a (in_right v.new (r ∷ regions) a (inr j))
            ])
            w.apart;
        grown = omega (arith, is.grows, v.grown, w.grown);
        fresh = λ a i j.
            elim (in_both w.new (v.new ++ (r ∷ [])) a i) [
              | inl l ↦ w.fresh a l (in_right v.new (r ∷ regions) a (inr j))
              | inr l ↦
                  elim (in_both v.new (r ∷ []) a l) [
                    | inl m ↦ v.fresh a m (inr j)
                    | inr m ↦ elim m [ inl n ↦ apart.0 a j n | inr n ↦ n ]
                  ]
            ];
        frame = λ a i j.
            w.frame a (in_right v.new (r ∷ regions) a (inr i)) j
            ∙ v.frame a (inr i) (λ h. apart.0 a i (there a h))
            ∙ apart.1 a i
            ∙ ap (λ (m : List ℕ). get_or m a 0) is.before;
        holds = λ later g s t. record {
          at = to;
          low = is.low;
          few = few;
          aligned = was.aligned;
          inside = omega (arith, was.inside, v.grown, w.grown, g);
          post =
              v.holds later (omega (arith, g, w.grown))
              (λ a i. t a (in_right w.new (v.new ++ (r ∷ [])) a (in_right v.new (r ∷ []) a (inl (there a i)))) ∙ here a (in_right v.new (r ∷ []) a (inl (there a i))))
              (λ a i. t a (in_right w.new (v.new ++ (r ∷ [])) a (in_left v.new (r ∷ []) a i)) ∙ here a (in_left v.new (r ∷ []) a i));
          next = w.holds later g s (λ a i. t a (in_left w.new (v.new ++ (r ∷ [])) a i));
        };
      }

  pub goes_asked : ((to : ℕ) → to < 2 ^ 32 → count < 2 ^ 32 → Goes (P to) to size (Post to)) → ((to : ℕ) → to < 2 ^ 32 → count < 2 ^ 32 → Goes (Q to) place span (Next to))
      → Goes (λ k. asked count align size (λ to. P to (Q to k))) place span (Placed count align size Post Next)
  goes_asked first second k regions memory answers after words inside within apart settles =
      let w = was_asked count align size memory (λ to. P to (Q to k)) answers after words settles in
      goes_answered k regions memory after words w.answer w.rest inside within (subst (λ (es : List Answer). Apart regions es) w.all apart) w.few w.is w.tested
      (first w.answer.place w.is.low w.few) (second w.answer.place w.is.low w.few)

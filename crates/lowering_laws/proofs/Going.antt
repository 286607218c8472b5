-- How a piece of a plan goes: what it puts, and which bytes it leaves alone.
use Rattle.std.proofs.Common.{◌≡◌, ◌∙◌, ◌≤◌, ◌<◌, ◌+◌, ◌%◌, ◌⊎◌, ℕ, Bool, true, false, List, [], ◌∷◌, ◌++◌, length, get_or, refl, subst, arith, inl, inr}
use Rattle.std.proofs.lemmas.Bool.{cases_lt, leb-true, eqb-true}
use Rattle.std.specs.Prelude.{nat_le, ◌==◌, if◌then◌else◌}
use Rattle.value_lower.specs.Plan.{Plan, Fails, Size, Put}
use Rattle.value_lower.specs.declared.ends.LowerWhy.TheVariants.{Misaligned, Bounds}
use Rattle.value_lower.specs.Lowering.{tested}
use Rattle.value_lift.specs.Bytes.{bytes_at}
use Rattle.value_lower.specs.Following.{written}
use Rattle.lowering_laws.specs.Settling.{Answer, Settles}
use Rattle.lowering_laws.specs.ApartPlaces.{Region, Within, In, Apart, region_of}
use Rattle.lowering_laws.proofs.Memories.{length_written, there, beside, same_bytes}

-- Addresses.
pub in_left : (xs ys : List Region) (a : ℕ) → In xs a → In (xs ++ ys) a
in_left [] ys a h = absurd h
in_left (x ∷ xs) ys a (inl h) = inl h
in_left (x ∷ xs) ys a (inr h) = inr (in_left xs ys a h)

pub in_right : (xs ys : List Region) (a : ℕ) → In ys a → In (xs ++ ys) a
in_right [] ys a h = h
in_right (x ∷ xs) ys a h = inr (in_right xs ys a h)

pub in_both : (xs ys : List Region) (a : ℕ) → In (xs ++ ys) a → In xs a ⊎ In ys a
in_both [] ys a h = inr h
in_both (x ∷ xs) ys a (inl h) = inl (inl h)
in_both (x ∷ xs) ys a (inr h) = elim (in_both xs ys a h) [ inl i ↦ inl (inr i) | inr i ↦ inr i ]

abbrev pub Among : List Region → List Region → Type 0
Among xs ys = (a : ℕ) → In xs a → In ys a

among_more : (xs ys : List Region) (r : Region) → Among xs ys → Among (r ∷ xs) (r ∷ ys)
among_more xs ys r h a (inl i) = inl i
among_more xs ys r h a (inr i) = inr (h a i)

-- What is apart from some regions is apart from fewer.
pub apart_fewer : (answers : List Answer) (xs ys : List Region) → Among xs ys → Apart ys answers → Apart xs answers
apart_fewer [] xs ys h p = tt
apart_fewer (e ∷ answers) xs ys h p =
    ((λ a i w. p.0 a (h a i) w), (λ a i. p.1 a (h a i)), apart_fewer answers (region_of e ∷ xs) (region_of e ∷ ys) (among_more xs ys (region_of e) h) p.2)

-- What is left of a plan after a piece of it, the memory now, and the regions that were answered on the way.
pub record Went (k : Plan) (target : Region) (regions : List Region) (memory after words : List ℕ) (Post : List ℕ → Type 0) : Type 0 where
  pub rest : List Answer
  pub now : List ℕ
  pub new : List Region
  pub settles : Settles k now rest after words
  pub apart : Apart (new ++ regions) rest
  pub grown : length memory ≤ length now
  pub fresh : (a : ℕ) → In new a → In regions a → ⊥
  pub frame : (a : ℕ) → In regions a → (Within target a → ⊥) → get_or now a 0 ≡ get_or memory a 0
  -- what holds then, and holds of each memory with the same bytes in the target and in what was answered
  pub holds : (later : List ℕ) → length now ≤ length later → ((a : ℕ) → Within target a → get_or later a 0 ≡ get_or now a 0)
      → ((a : ℕ) → In new a → get_or later a 0 ≡ get_or now a 0) → Post later

abbrev pub region : ℕ → ℕ → Region
region place size = record { place = place; size = size }

-- A piece of a plan that puts what is so then, where the bytes of its target are inside.
abbrev pub Goes : (Plan → Plan) → ℕ → ℕ → (List ℕ → Type 0) → Type 0
Goes P place size Post =
    (k : Plan) (regions : List Region) (memory : List ℕ) (answers : List Answer) (after words : List ℕ) → place + size ≤ length memory
    → ((a : ℕ) → Within (region place size) a → In regions a) → Apart regions answers → Settles (P k) memory answers after words
    → Went k (region place size) regions memory after words Post

-- nothing is done
pub goes_nowhere : (place size : ℕ) (Post : List ℕ → Type 0) → ((m : List ℕ) → Post m) → Goes (λ k. k) place size Post
goes_nowhere place size Post h k regions memory answers after words inside within apart settles = record {
  rest = answers;
  now = memory;
  new = [];
  settles = settles;
  apart = apart;
  grown = omega arith;
  fresh = λ a i j. i;
  frame = λ a i j. refl;
  holds = λ later g s t. h later;
}

-- bytes are put
pub goes_put : (place : ℕ) (bytes : List ℕ) → Goes (λ k. Put place bytes k) place (length bytes) (λ m. bytes_at place (length bytes) m ≡ bytes)
goes_put place bytes k regions memory answers after words inside within apart settles =
    let long : length (written place bytes memory) ≡ length memory = length_written place bytes memory inside in
    record {
      rest = answers;
      now = written place bytes memory;
      new = [];
      settles = settles;
      apart = apart;
      grown = omega (arith, long);
      fresh = λ a i j. i;
      frame = λ a i j.
          beside place bytes memory a inside
          (elim (cases_lt a place) [ inl low ↦ inl low | inr high ↦ elim (cases_lt a (place + length bytes)) [ inl low ↦ absurd (j (high, low)) | inr past ↦ inr past ] ]);
      holds = λ later g s t.
          same_bytes place (length bytes) (written place bytes memory) later (omega (arith, long, inside)) (omega (arith, long, inside, g)) (λ a low high. s a (low, high))
          ∙ there place bytes memory inside;
    }

-- the same plan, and less that holds, of a wider target
pub goes_as : (P Q : Plan → Plan) (place size : ℕ) (Post : List ℕ → Type 0) → ((k : Plan) → P k ≡ Q k) → Goes Q place size Post → Goes P place size Post
goes_as P Q place size Post e go k regions memory answers after words inside within apart settles =
    go k regions memory answers after words inside within apart (subst (λ (p : Plan). Settles p memory answers after words) (e k) settles)

pub goes_more : (P : Plan → Plan) (from count place size : ℕ) (Post Less : List ℕ → Type 0) → place ≤ from → from + count ≤ place + size
    → ((m : List ℕ) → place + size ≤ length m → Post m → Less m) → Goes P from count Post → Goes P place size Less
goes_more P from count place size Post Less low high less go k regions memory answers after words inside within apart settles =
    let sub : (a : ℕ) → Within (region from count) a → Within (region place size) a = λ a w. ((let n : place ≤ a = omega (arith, w.0) in n), (let n : a < place + size = omega (arith, w.1, high) in n)) in
    let w = go k regions memory answers after words (omega (arith, high, inside)) (λ a i. within a (sub a i)) apart settles in
    record {
      rest = w.rest;
      now = w.now;
      new = w.new;
      settles = w.settles;
      apart = w.apart;
      grown = w.grown;
      fresh = w.fresh;
      frame = λ a i j. w.frame a i (λ h. j (sub a h));
      holds = λ later g s t. less later (omega (arith, w.grown, g, inside)) (w.holds later g (λ a i. s a (sub a i)) t);
    }

-- Less that holds.
pub went_more : (k : Plan) (target : Region) (regions : List Region) (memory after words : List ℕ) (Post Less : List ℕ → Type 0) → ((m : List ℕ) → Post m → Less m)
    → Went k target regions memory after words Post → Went k target regions memory after words Less
went_more k target regions memory after words Post Less less w = record {
  rest = w.rest;
  now = w.now;
  new = w.new;
  settles = w.settles;
  apart = w.apart;
  grown = w.grown;
  fresh = w.fresh;
  frame = w.frame;
  holds = λ later g s t. less later (w.holds later g s t);
}

-- one piece behind another, in places that follow each other
pub went_on : (j k : Plan) (one count two many place size : ℕ) (Post Next : List ℕ → Type 0) (regions : List Region) (memory after words : List ℕ)
    → place ≤ one → one + count ≤ two → two + many ≤ place + size → ((a : ℕ) → Within (region place size) a → In regions a) → (v : Went j (region one count) regions memory after words Post)
    → Went k (region two many) (v.new ++ regions) v.now after words Next → Went k (region place size) regions memory after words (λ m. Post m × Next m)
went_on j k one count two many place size Post Next regions memory after words low middle high within v w =
    let sub : (a : ℕ) → Within (region one count) a → Within (region place size) a = λ a w. ((let n : place ≤ a = omega (arith, w.0) in n), (let n : a < place + size = omega (arith, w.1, middle, high) in n)) in
    let also : (a : ℕ) → Within (region two many) a → Within (region place size) a = λ a w. ((let n : place ≤ a = omega (arith, w.0) in n), (let n : a < place + size = omega (arith, w.1, high) in n)) in
    let beyond : (a : ℕ) → Within (region one count) a → Within (region two many) a → ⊥ = λ a v w. (let n : ⊥ = omega (arith, v.1, w.0, middle) in n) in
    let kept : (a : ℕ) → In v.new a → get_or w.now a 0 ≡ get_or v.now a 0 =
    λ a i. w.frame a (in_left v.new regions a i) (λ h. v.fresh a i (within a (also a h))) in
    record {
      rest = w.rest;
      now = w.now;
      new = w.new ++ v.new;
      settles = w.settles;
      apart =
          apart_fewer w.rest ((w.new ++ v.new) ++ regions) (w.new ++ (v.new ++ regions))
          (λ a i.
          elim (in_both (w.new ++ v.new) regions a i) [
            | inl j ↦ elim (in_both w.new v.new a j) [ inl l ↦ in_left w.new (v.new ++ regions) a l | inr l ↦ in_right w.new (v.new ++ regions) a (in_left v.new regions a l) ]
            | inr j ↦ in_right w.new (v.new ++ regions) a (in_right v.new regions a j)
          ])
          w.apart;
      grown = omega (arith, v.grown, w.grown);
      fresh = λ a i j. elim (in_both w.new v.new a i) [ inl l ↦ w.fresh a l (in_right v.new regions a j) | inr l ↦ v.fresh a l j ];
      frame = λ a i j. w.frame a (in_right v.new regions a i) (λ h. j (also a h)) ∙ v.frame a i (λ h. j (sub a h));
      holds = λ later g s t. (
        v.holds later (omega (arith, g, w.grown))
            (λ a i. s a (sub a i) ∙ w.frame a (in_right v.new regions a (within a (sub a i))) (λ h. beyond a i h))
            (λ a i. t a (in_right w.new v.new a i) ∙ kept a i),
        w.holds later g (λ a i. s a (also a i)) (λ a i. t a (in_left w.new v.new a i)),
      );
    }

pub goes_on : (P Q : Plan → Plan) (one count two many place size : ℕ) (Post Next : List ℕ → Type 0) → place ≤ one → one + count ≤ two → two + many ≤ place + size
    → Goes P one count Post → Goes Q two many Next → Goes (λ k. P (Q k)) place size (λ m. Post m × Next m)
goes_on P Q one count two many place size Post Next low middle high first second k regions memory answers after words inside within apart settles =
    let v =
    first (Q k) regions memory answers after words (omega (arith, middle, high, inside))
    (λ a w. within a ((let n : place ≤ a = omega (arith, w.0) in n), (let n : a < place + size = omega (arith, w.1, middle, high) in n))) apart settles in
    let w =
    second k (v.new ++ regions) v.now v.rest after words (omega (arith, high, inside, v.grown))
    (λ a w. in_right v.new regions a (within a ((let n : place ≤ a = omega (arith, w.0) in n), (let n : a < place + size = omega (arith, w.1, high) in n)))) v.apart v.settles in
    went_on (Q k) k one count two many place size Post Next regions memory after words low middle high within v w

-- A place that is tested.
pub record WasTested (place align size : ℕ) (memory : List ℕ) (k : Plan) (answers : List Answer) (after words : List ℕ) : Type 0 where
  pub aligned : place % align ≡ 0
  pub inside : place + size ≤ length memory
  pub settles : Settles k memory answers after words

inside_passed : (place align size : ℕ) (memory : List ℕ) (k : Plan) (answers : List Answer) (after words : List ℕ) (b : Bool) → nat_le (place + size) (length memory) ≡ b → place % align ≡ 0
    → Settles (if b then k else Fails Bounds) memory answers after words → WasTested place align size memory k answers after words
inside_passed place align size memory k answers after words true e f h = record { aligned = f; inside = leb-true (place + size) (length memory) e; settles = h }
inside_passed place align size memory k answers after words false e f h = absurd h

aligned_passed : (place align size : ℕ) (memory : List ℕ) (k : Plan) (answers : List Answer) (after words : List ℕ) (b : Bool) → (place % align == 0) ≡ b
    → Settles (if b then Size (λ there. if nat_le (place + size) there then k else Fails Bounds) else Fails Misaligned) memory answers after words
    → WasTested place align size memory k answers after words
aligned_passed place align size memory k answers after words true e h =
    inside_passed place align size memory k answers after words (nat_le (place + size) (length memory)) refl (eqb-true (place % align) 0 e) h
aligned_passed place align size memory k answers after words false e h = absurd h

pub was_tested : (place align size : ℕ) (memory : List ℕ) (k : Plan) (answers : List Answer) (after words : List ℕ) → Settles (tested place align size k) memory answers after words
    → WasTested place align size memory k answers after words
was_tested place align size memory k answers after words h = aligned_passed place align size memory k answers after words (place % align == 0) refl h

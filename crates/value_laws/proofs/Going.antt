-- How a piece of a plan that enters handles goes over a table: which plain piece goes the same way over the memory alone, and what holds of the table
-- then, and as long as all that stands in it stays.
use Rattle.std.proofs.Common.{◌≡◌, ◌+◌, ◌<◌, ◌%◌, ◌^◌, ◌==◌, ◌&&◌, ℕ, Bool, true, false, List, length, Option, Some, None, Ok, refl, sym, subst}
use Rattle.std.specs.Prelude.{nat_lt, nat_le, if◌then◌else◌}
use Rattle.std.specs.Int.{w32, to_le_bytes}
use Rattle.handle_table.specs.Slots.{Slots, added, next_of, entry_at}
use Rattle.handle_table.specs.Sound.{IsSound}
use Rattle.handle_table.proofs.Soundness.{added_sound}
use Rattle.res_handles.specs.Calls.{is_defined}
use Rattle.value_lower.specs.declared.ends.LowerWhy.TheVariants.{Misaligned, Bounds}
use Rattle.value_lower.specs.Following.{Rooms}
use Rattle.value_lower.specs.Plan.{Ask, New, NewOwn, NewBorrow, NewEnd, number_of, Plan, Fails, Asks, Size, Put, Adds}
use Rattle.value_lower.specs.Storing.{tested, asked, pointed}
use Rattle.value_lower.specs.Tables.{entered, with_index}
use Rattle.lowering_laws.specs.Settling.{Answer, Settles}
use Rattle.lowering_laws.specs.ValueRooms.{FollowsOver}
use Rattle.value_laws.specs.Carrying.{Names, IsTold, own_told, home_told, borrow_told, end_told}
use Rattle.value_laws.specs.Arriving.{HasTable}
use Rattle.value_laws.proofs.Slots.{Grows, stands_next, grows_added, next_low}

-- The index that is found is a 32-bit number, and tells what is new.
abbrev pub Told : {E : Type 0} → (New → E → Type 0) → List ℕ → New → ℕ → Slots E → Type 0
Told is home entry index t = (index < 2 ^ 32) × IsTold is home t entry index

-- What follows goes on with it.
abbrev pub with_it : ℕ → (ℕ → Plan) → Plan
with_it index J = J index

module _ {R T E : Type 0} (rooms : Rooms R T) (slots : R → Slots E) where
  -- Behind a piece: what was found, with which the plain piece is made, what the piece gives to what follows, and the room then.
  pub record Went {A X : Type 0} (Q : X → (A → Plan) → Plan) (Post : X → Slots E → Type 0) (K : A → Plan) (r : R) (over : List Answer) (given : List ℕ) (s : R) : Type 0 where
    pub found : X
    pub gives : A
    pub now : R
    pub rest : List Answer
    pub goes : FollowsOver rooms (K gives) now rest given s
    pub sound : IsSound (slots now)
    pub grows : Grows (slots r) (slots now)
    pub holds : (t : Slots E) → Grows (slots now) t → Post found t
    pub settles : (J : A → Plan) (after words : List ℕ) → Settles (J gives) (rooms.memory now) rest after words → Settles (Q found J) (rooms.memory r) over after words

  abbrev pub Goes : {A X : Type 0} → ((A → Plan) → Plan) → (X → (A → Plan) → Plan) → (X → Slots E → Type 0) → Type 0
  Goes {A} {X} P Q Post =
      (K : A → Plan) (r s : R) (over : List Answer) (given : List ℕ) → IsSound (slots r) → FollowsOver rooms (P K) r over given s → Went Q Post K r over given s

  -- Nothing is done.
  pub goes_now : {A X : Type 0} (P : (A → Plan) → Plan) (Q : X → (A → Plan) → Plan) (Post : X → Slots E → Type 0) (a : A) (x : X) → ((K : A → Plan) → P K ≡ K a) → ((J : A → Plan) → Q x J ≡ J a)
      → ((t : Slots E) → Post x t) → Goes P Q Post
  goes_now P Q Post a x p q holds K r s over given sound h = record {
    found = x;
    gives = a;
    now = r;
    rest = over;
    goes = subst (λ (k : Plan). FollowsOver rooms k r over given s) (p K) h;
    sound = sound;
    grows = λ i e there. there;
    holds = λ t grown. holds t;
    settles = λ J after words settled. subst (λ (k : Plan). Settles k (rooms.memory r) over after words) (sym (q J)) settled;
  }

  -- The same piece, told otherwise.
  pub goes_as : {A X Y : Type 0} (P P' : (A → Plan) → Plan) (Q : X → (A → Plan) → Plan) (Q' : Y → (A → Plan) → Plan) (Post : X → Slots E → Type 0) (Post' : Y → Slots E → Type 0) (f : X → Y)
      → ((K : A → Plan) → P' K ≡ P K) → ((x : X) (J : A → Plan) → Q' (f x) J ≡ Q x J) → ((x : X) (t : Slots E) → Post x t → Post' (f x) t) → Goes P Q Post → Goes P' Q' Post'
  goes_as P P' Q Q' Post Post' f p q more go K r s over given sound h =
      let w : Went Q Post K r over given s = go K r s over given sound (subst (λ (k : Plan). FollowsOver rooms k r over given s) (p K) h) in
      record {
        found = f w.found;
        gives = w.gives;
        now = w.now;
        rest = w.rest;
        goes = w.goes;
        sound = w.sound;
        grows = w.grows;
        holds = λ t grown. more w.found t (w.holds t grown);
        settles = λ J after words settled. subst (λ (k : Plan). Settles k (rooms.memory r) over after words) (sym (q w.found J)) (w.settles J after words settled);
      }

  -- It gives something that is made of what it gave.
  pub goes_giving : {A B X : Type 0} (P : (A → Plan) → Plan) (Q : X → (A → Plan) → Plan) (Post : X → Slots E → Type 0) (f : A → B) → Goes P Q Post
      → Goes (λ (K : B → Plan). P (λ a. K (f a))) (λ x J. Q x (λ a. J (f a))) Post
  goes_giving P Q Post f go K r s over given sound h =
      let w : Went Q Post (λ a. K (f a)) r over given s = go (λ a. K (f a)) r s over given sound h in
      record {
        found = w.found;
        gives = f w.gives;
        now = w.now;
        rest = w.rest;
        goes = w.goes;
        sound = w.sound;
        grows = w.grows;
        holds = w.holds;
        settles = λ J after words settled. w.settles (λ a. J (f a)) after words settled;
      }

  -- One piece behind another.
  pub goes_on : {A B X Y : Type 0} (P : (A → Plan) → Plan) (Q : X → (A → Plan) → Plan) (Post : X → Slots E → Type 0) (P' : A → (B → Plan) → Plan) (Q' : A → Y → (B → Plan) → Plan)
      (Next : Y → Slots E → Type 0) → Goes P Q Post → ((a : A) → Goes (P' a) (Q' a) Next)
      → Goes (λ K. P (λ a. P' a K)) (λ (x : X × Y) J. Q x.0 (λ a. Q' a x.1 J)) (λ (x : X × Y) t. Post x.0 t × Next x.1 t)
  goes_on P Q Post P' Q' Next first second K r s over given sound h =
      let v : Went Q Post (λ a. P' a K) r over given s = first (λ a. P' a K) r s over given sound h in
      let w : Went (Q' v.gives) Next K v.now v.rest given s = second v.gives K v.now s v.rest given v.sound v.goes in
      record {
        found = (v.found, w.found);
        gives = w.gives;
        now = w.now;
        rest = w.rest;
        goes = w.goes;
        sound = w.sound;
        grows = λ i e there. w.grows i e (v.grows i e there);
        holds = λ t grown. (v.holds t (λ i e there. grown i e (w.grows i e there)), w.holds t grown);
        settles = λ J after words settled. v.settles (λ a. Q' a w.found J) after words (w.settles J after words settled);
      }

  -- A place is tested before it.
  inside_goes : {A X : Type 0} (b : Bool) (P : (A → Plan) → Plan) (Q : X → (A → Plan) → Plan) (Post : X → Slots E → Type 0) → Goes P Q Post
      → Goes (λ K. if b then P K else Fails Bounds) (λ x J. if b then Q x J else Fails Bounds) Post
  inside_goes true P Q Post go K r s over given sound h = go K r s over given sound h
  inside_goes false P Q Post go K r s over given sound h = absurd h

  size_goes : {A X : Type 0} (P : ℕ → (A → Plan) → Plan) (Q : ℕ → X → (A → Plan) → Plan) (Post : X → Slots E → Type 0) → ((there : ℕ) → Goes (P there) (Q there) Post)
      → Goes (λ K. Size (λ there. P there K)) (λ x J. Size (λ there. Q there x J)) Post
  size_goes P Q Post go K r s over given sound h =
      let w : Went (Q (length (rooms.memory r))) Post K r over given s = go (length (rooms.memory r)) K r s over given sound h in
      record {
        found = w.found;
        gives = w.gives;
        now = w.now;
        rest = w.rest;
        goes = w.goes;
        sound = w.sound;
        grows = w.grows;
        holds = w.holds;
        settles = w.settles;
      }

  aligned_goes : {A X : Type 0} (b : Bool) (P : (A → Plan) → Plan) (Q : X → (A → Plan) → Plan) (Post : X → Slots E → Type 0) → Goes P Q Post
      → Goes (λ K. if b then P K else Fails Misaligned) (λ x J. if b then Q x J else Fails Misaligned) Post
  aligned_goes true P Q Post go K r s over given sound h = go K r s over given sound h
  aligned_goes false P Q Post go K r s over given sound h = absurd h

  pub goes_tested : {A X : Type 0} (place align size : ℕ) (P : (A → Plan) → Plan) (Q : X → (A → Plan) → Plan) (Post : X → Slots E → Type 0) → Goes P Q Post
      → Goes (λ K. tested place align size (P K)) (λ x J. tested place align size (Q x J)) Post
  goes_tested place align size P Q Post go =
      aligned_goes (place % align == 0) (λ K. Size (λ there. if nat_le (place + size) there then P K else Fails Bounds)) (λ x J. Size (λ there. if nat_le (place + size) there then Q x J else Fails Bounds))
      Post
      (size_goes (λ there K. if nat_le (place + size) there then P K else Fails Bounds) (λ there x J. if nat_le (place + size) there then Q x J else Fails Bounds) Post
      (λ there. inside_goes (nat_le (place + size) there) P Q Post go))

  -- Over a table:
  module _ (is : New → E → Type 0) (table : HasTable rooms slots is) where
    -- Slots that are the same have the same entries.
    same_grows : (s t : Slots E) → t ≡ s → Grows s t
    same_grows s t e i x there = subst (λ (u : Slots E). entry_at u i ≡ Some x) (sym e) there

    -- Bytes are put before it.
    pub goes_put : {A X : Type 0} (place : ℕ) (bytes : List ℕ) (P : (A → Plan) → Plan) (Q : X → (A → Plan) → Plan) (Post : X → Slots E → Type 0) → Goes P Q Post
        → Goes (λ K. Put place bytes (P K)) (λ x J. Put place bytes (Q x J)) Post
    goes_put place bytes P Q Post go K r s over given sound h =
        let same : slots h.0 ≡ slots r = table.wrote r h.0 place bytes h.1.0 in
        let w : Went Q Post K h.0 over given s = go K h.0 s over given (subst IsSound (sym same) sound) h.2 in
        record {
          found = w.found;
          gives = w.gives;
          now = w.now;
          rest = w.rest;
          goes = w.goes;
          sound = w.sound;
          grows = λ i e there. w.grows i e (same_grows (slots r) (slots h.0) same i e there);
          holds = w.holds;
          settles = λ J after words settled. subst (λ (m : List ℕ). Settles (Q w.found J) m over after words) h.1.1 (w.settles J after words settled);
        }

    -- A new place is asked for before it.
    asks_go : {A X : Type 0} (ask : Ask) (P : ℕ → (A → Plan) → Plan) (Q : ℕ → X → (A → Plan) → Plan) (Post : X → Slots E → Type 0) → ((at : ℕ) → Goes (P at) (Q at) Post)
        → Goes (λ K. Asks ask (λ at. P at K)) (λ x J. Asks ask (λ at. Q at x J)) Post
    asks_go ask P Q Post go K r s over given sound h =
        let same : slots h.1 ≡ slots r = table.answered r h.1 ask (Ok h.0) h.4.0 in
        let w : Went (Q h.0) Post K h.1 h.2 given s = go h.0 K h.1 s h.2 given (subst IsSound (sym same) sound) h.5 in
        record {
          found = w.found;
          gives = w.gives;
          now = w.now;
          rest = w.rest;
          goes = w.goes;
          sound = w.sound;
          grows = λ i e there. w.grows i e (same_grows (slots r) (slots h.1) same i e there);
          holds = w.holds;
          settles =
              λ J after words settled.
              subst (λ (es : List Answer). Settles (Asks ask (λ at. Q at w.found J)) (rooms.memory r) es after words) (sym h.3)
              (record { asked = refl; before = refl; low = h.4.1; grows = h.4.2 }, w.settles J after words settled);
        }

    pub goes_asked : {A X : Type 0} (count align size : ℕ) (P : ℕ → (A → Plan) → Plan) (Q : ℕ → X → (A → Plan) → Plan) (Post : X → Slots E → Type 0) → ((at : ℕ) → Goes (P at) (Q at) Post)
        → Goes (λ K. asked count align size (λ at. P at K)) (λ x J. asked count align size (λ at. Q at x J)) Post
    goes_asked count align size P Q Post go =
        let ask : Ask = record { old = 0; old_size = 0; align = align; size = size } in
        inside_goes (nat_lt count (2 ^ 32) && nat_lt size (2 ^ 32)) (λ K. Asks ask (λ at. tested at align size (P at K))) (λ x J. Asks ask (λ at. tested at align size (Q at x J))) Post
        (asks_go ask (λ at K. tested at align size (P at K)) (λ at x J. tested at align size (Q at x J)) Post (λ at. goes_tested at align size (P at) (Q at) Post (go at)))

    -- A place and a number are put before it.
    pub goes_pointed : {A X : Type 0} (place to count : ℕ) (P : (A → Plan) → Plan) (Q : X → (A → Plan) → Plan) (Post : X → Slots E → Type 0) → Goes P Q Post
        → Goes (λ K. pointed place to count (P K)) (λ x J. pointed place to count (Q x J)) Post
    goes_pointed place to count P Q Post go =
        goes_put place (to_le_bytes w32 to) (λ K. Put (place + 4) (to_le_bytes w32 count) (P K)) (λ x J. Put (place + 4) (to_le_bytes w32 count) (Q x J)) Post
        (goes_put (place + 4) (to_le_bytes w32 count) P Q Post go)

    -- What is new gets an index, which is found.
    adds_go : (entry : New) (home : List ℕ) → ((t : Slots E) (index : ℕ) → Names is t entry index → IsTold is home t entry index)
        → Goes (λ K. Adds entry (with_index K)) with_it (Told is home entry)
    adds_go entry home told K r s over given sound h = by h.0 h.1 h.2 h.3
      where
        by : (o : Option ℕ) (mid : R) → (rooms.adds r entry o mid × (rooms.memory mid ≡ rooms.memory r)) → FollowsOver rooms (with_index K o) mid over given s
            → Went with_it (Told is home entry) K r over given s
        by None mid e h = absurd h
        by (Some index) mid e h =
            let g = table.added r mid entry (Some index) e.0 in
            let at : index ≡ next_of (slots r) = g.3 in
            let after : slots mid ≡ added g.0 (slots r) = g.4 in
            record {
              found = index;
              gives = index;
              now = mid;
              rest = over;
              goes = h;
              sound = subst IsSound (sym after) (added_sound (slots r) g.0 g.2 sound);
              grows = λ i x there. subst (λ (t : Slots E). entry_at t i ≡ Some x) (sym after) (grows_added (slots r) g.0 sound i x there);
              holds =
                  λ t grown. (
                    subst (λ (n : ℕ). n < 2 ^ 32) (sym at) (next_low (slots r) sound),
                    told t index (record {
                      made = g.0;
                      of_it = g.1;
                      there =
                          grown index g.0
                          (subst (λ (t : Slots E). entry_at t index ≡ Some g.0) (sym after) (subst (λ (n : ℕ). entry_at (added g.0 (slots r)) n ≡ Some g.0) (sym at) (stands_next (slots r) g.0 sound)));
                    }),
                  );
              settles = λ J after words settled. subst (λ (m : List ℕ). Settles (J index) m over after words) e.1 settled;
            }

    borrow_goes : (home : List ℕ) (resource rep : ℕ) (b : Bool) → is_defined resource home ≡ b → rep < 2 ^ 32
        → Goes (λ K. if b then K rep else Adds (NewBorrow resource rep) (with_index K)) with_it (Told is home (NewBorrow resource rep))
    borrow_goes home resource rep true e low K r s over given sound h = record {
      found = rep;
      gives = rep;
      now = r;
      rest = over;
      goes = h;
      sound = sound;
      grows = λ i x there. there;
      holds = λ t grown. (low, home_told resource rep e);
      settles = λ J after words settled. settled;
    }
    borrow_goes home resource rep false e low K r s over given sound h =
        adds_go (NewBorrow resource rep) home (λ t index names. borrow_told resource rep index e names) K r s over given sound h

    pub goes_entered : (home : List ℕ) (entry : New) → number_of entry < 2 ^ 32 → Goes (entered home entry) with_it (Told is home entry)
    goes_entered home (NewOwn resource rep) low = adds_go (NewOwn resource rep) home (λ t index names. own_told resource rep index names)
    goes_entered home (NewBorrow resource rep) low = borrow_goes home resource rep (is_defined resource home) refl low
    goes_entered home (NewEnd type number) low = adds_go (NewEnd type number) home (λ t index names. end_told type number index names)

-- Two liftings that go on, or stop, beside each other: what both lifted stands in some relation, and so does what both keep. The second
-- may have stopped already, and then the first goes on alone.
use Rattle.std.proofs.Common.{◌≡◌, Bool, true, false, if◌then◌else◌, Ok, Err, Result, sym, subst}
use Rattle.value_lift.specs.declared.trap.LiftTrap.{LiftTrap}
use Rattle.value_lift.specs.Ledger.{Ledger, Came, after, made, counting}

-- what stops the second one for a fault, where it has not stopped already,
abbrev pub stop_of : {T G : Type 0} → Ledger T G → LiftTrap → Result T G → G
stop_of m fault (Ok t) = m.stop fault t
stop_of m fault (Err g) = g

-- and goes on where it has not
abbrev pub on_with : {T G : Type 0} → Result T G → (T → Result T G) → Result T G
on_with (Ok t) f = f t
on_with (Err g) f = Err g

module _ {S F T G : Type 0} (Beside : S → Result T G → Type 0) (Ended : F → G → Type 0) where
  abbrev pub Both : {A B : Type 0} → (A → B → Type 0) → Came S F A → Came T G B → Type 0
  Both V (Ok x) (Ok y) = V x.0 y.0 × Beside x.1 (Ok y.1)
  Both V (Ok x) (Err g) = Beside x.1 (Err g)
  Both V (Err f) (Ok y) = ⊥
  Both V (Err f) (Err g) = Ended f g

  abbrev pub Spent : Result S F → Result T G → Type 0
  Spent (Ok s) (Ok t) = Beside s (Ok t)
  Spent (Ok s) (Err g) = Beside s (Err g)
  Spent (Err f) (Ok t) = ⊥
  Spent (Err f) (Err g) = Ended f g

  after_both : {A B C D : Type 0} (V : A → B → Type 0) (W : C → D → Type 0) (r : Came S F A) (u : Came T G B) (f : A → S → Came S F C) (g : B → T → Came T G D)
      → Both V r u
      → ((x : A) (y : B) (s : S) (t : T) → V x y → Beside s (Ok t) → Both W (f x s) (g y t))
      → ((x : A) (s : S) (e : G) → Beside s (Err e) → Both W (f x s) (Err e))
      → Both W (after r f) (after u g)
  after_both V W (Ok x) (Ok y) f g h on late = on x.0 y.0 x.1 y.1 h.0 h.1
  after_both V W (Ok x) (Err e) f g h on late = late x.0 x.1 e h
  after_both V W (Err a) (Ok y) f g h on late = absurd h
  after_both V W (Err a) (Err e) f g h on late = h

  made_both : {A B C D : Type 0} (V : A → B → Type 0) (W : C → D → Type 0) (r : Came S F A) (u : Came T G B) (f : A → C) (g : B → D)
      → Both V r u → ((x : A) (y : B) → V x y → W (f x) (g y)) → Both W (made f r) (made g u)
  made_both V W (Ok x) (Ok y) f g h k = (k x.0 y.0 h.0, h.1)
  made_both V W (Ok x) (Err e) f g h k = h
  made_both V W (Err a) (Ok y) f g h k = absurd h
  made_both V W (Err a) (Err e) f g h k = h

  counting_both : {C D : Type 0} (W : C → D → Type 0) (r : Result S F) (p : Result T G) (f : S → Came S F C) (g : T → Came T G D)
      → Spent r p → ((s : S) (q : Result T G) → Beside s q → Both W (f s) (counting q g)) → Both W (counting r f) (counting p g)
  counting_both W (Ok s) (Ok t) f g h on = on s (Ok t) h
  counting_both W (Ok s) (Err e) f g h on = on s (Err e) h
  counting_both W (Err a) (Ok t) f g h on = absurd h
  counting_both W (Err a) (Err e) f g h on = h

  -- The same, where the second may have stopped already.
  pub after_on : {A B C D : Type 0} (V : A → B → Type 0) (W : C → D → Type 0) (q : Result T G) (r : Came S F A) (h : T → Came T G B)
      (f : A → S → Came S F C) (g : B → T → Came T G D)
      → Both V r (counting q h)
      → ((x : A) (y : B) (s : S) (t : T) → V x y → Beside s (Ok t) → Both W (f x s) (g y t))
      → ((x : A) (s : S) (e : G) → Beside s (Err e) → Both W (f x s) (Err e))
      → Both W (after r f) (counting q (λ t. after (h t) g))
  after_on V W (Ok t) r h f g b on late = after_both V W r (h t) f g b on late
  after_on V W (Err e) r h f g b on late = after_both V W r (Err e) f g b on late

  pub made_on : {A B C D : Type 0} (V : A → B → Type 0) (W : C → D → Type 0) (q : Result T G) (r : Came S F A) (h : T → Came T G B) (f : A → C) (g : B → D)
      → Both V r (counting q h) → ((x : A) (y : B) → V x y → W (f x) (g y)) → Both W (made f r) (counting q (λ t. made g (h t)))
  made_on V W (Ok t) r h f g b k = made_both V W r (h t) f g b k
  made_on V W (Err e) r h f g b k = made_both V W r (Err e) f g b k

  pub counting_on : {C D : Type 0} (W : C → D → Type 0) (q : Result T G) (r : Result S F) (h : T → Result T G) (f : S → Came S F C) (g : T → Came T G D)
      → Spent r (on_with q h) → ((s : S) (q : Result T G) → Beside s q → Both W (f s) (counting q g))
      → Both W (counting r f) (counting q (λ t. counting (h t) g))
  counting_on W (Ok t) r h f g b on = counting_both W r (h t) f g b on
  counting_on W (Err e) r h f g b on = counting_both W r (Err e) f g b on

  pub same_on : {A B : Type 0} (V : A → B → Type 0) (q : Result T G) (r other : Came S F A) (h k : T → Came T G B)
      → r ≡ other → ((t : T) → h t ≡ k t) → Both V other (counting q k) → Both V r (counting q h)
  same_on {A} {B} V (Ok t) r other h k d e b =
      subst (λ (u : Came T G B). Both V r u) (sym (e t)) (subst (λ (c : Came S F A). Both V c (k t)) (sym d) b)
  same_on {A} {B} V (Err g) r other h k d e b = subst (λ (c : Came S F A). Both V c (let u : Came T G B = Err g in u)) (sym d) b

  pub if_on : {A B : Type 0} (V : A → B → Type 0) (q : Result T G) (b : Bool) (x y : Came S F A) (h k : T → Came T G B)
      → Both V x (counting q h) → Both V y (counting q k) → Both V (if b then x else y) (counting q (λ t. if b then h t else k t))
  if_on V q true x y h k a c = a
  if_on V q false x y h k a c = c

  pub kept_on : {A B : Type 0} (V : A → B → Type 0) (x : A) (y : B) (s : S) (q : Result T G)
      → V x y → Beside s q → Both V (Ok (x, s)) (counting q (λ t. Ok (y, t)))
  kept_on V x y s (Ok t) v b = (v, b)
  kept_on V x y s (Err e) v b = b

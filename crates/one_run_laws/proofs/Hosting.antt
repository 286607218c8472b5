-- Code that gives out places comes to one thing, and leaves one room.
use Rattle.std.proofs.Common.{◌≡◌, ◌∙◌, ℕ, zero, suc, List, [], ◌∷◌, refl, sym, ap, subst, Option, Some, None, Result, Ok, Err}
use Rattle.wasm_store.specs.Store.{Function, Store}
use Rattle.wasm_store.specs.Stack.{Stack}
use Rattle.wasm_execution.specs.declared.running.Outcome.{Outcome}
use Rattle.wasm_execution.specs.declared.running.Outcome.TheVariants as outcome
use Rattle.res_handles.specs.declared.entry.EntryView.{EntryView}
use Rattle.value_lower.specs.declared.ends.RoomEnd.{RoomEnd}
use Rattle.value_lower.specs.declared.ends.RoomEnd.TheVariants.{Trapped, NoFuel, Memory}
use Rattle.value_lower.specs.Plan.{Ask}
use Rattle.copy_engine.specs.declared.acts.Acts.{Acts}
use Rattle.copy_engine.specs.declared.hosted.HostedRoom.{HostedRoom}
use Rattle.copy_engine.specs.declared.hosted.HostedTrap.{HostedTrap}
use Rattle.copy_engine.specs.declared.hosted.HostedTrap.TheVariants as hosted
use Rattle.copy_engine.specs.Nested.{realloc_in, begun}
use Rattle.copy_engine.specs.Answering.{Setting, host_answer}
use Rattle.copy_engine.specs.Hosting.{Going, GoesOn, Stops, goes_on, Point, Runs, GoesFurther, GoOn, Ends, AnswersBy, HostedAnswers}
use Rattle.one_run_laws.proofs.Running.{IsTold, runs_once}

-- What is told of a realloc: want of memory is not.
abbrev pub ResultTold : Result ℕ (RoomEnd HostedTrap) → Type 0
ResultTold (Ok place) = Unit {0}
ResultTold (Err (Trapped why)) = Unit {0}
ResultTold (Err NoFuel) = Unit {0}
ResultTold (Err Memory) = ⊥

room_same : (r s : HostedRoom) → r.store ≡ s.store → r.fuel ≡ s.fuel → r.acts ≡ s.acts → r ≡ s
room_same r s e f g =
    ap (λ (x : Store). (let y : HostedRoom = record { store = x; fuel = r.fuel; acts = r.acts } in y)) e
    ∙ ap (λ (x : ℕ). (let y : HostedRoom = record { store = s.store; fuel = x; acts = r.acts } in y)) f
    ∙ ap (λ (x : Acts). (let y : HostedRoom = record { store = s.store; fuel = s.fuel; acts = x } in y)) g

point_same : (a b : Point) → a.room ≡ b.room → a.stack ≡ b.stack → a ≡ b
point_same a b e f =
    ap (λ (x : HostedRoom). (let y : Point = record { room = x; stack = a.stack } in y)) e ∙ ap (λ (x : Stack). (let y : Point = record { room = b.room; stack = x } in y)) f

-- What a run leads to: the code goes on, or has come to its end.
data Led : Type 0 where
  On : Stack → Acts → Led
  Over : Result ℕ (RoomEnd HostedTrap) → Acts → Led
  Nowhere : Led

abbrev led_on : Going → Led
led_on (GoesOn k a) = On k a
led_on (Stops why a) = Over (Err (Trapped (hosted.Call why))) a

abbrev led_done : List ℕ → Acts → Led
led_done [] a = Nowhere
led_done (place ∷ []) a = Over (Ok place) a
led_done (place ∷ other ∷ words) a = Nowhere

on_same : (k l : Stack) (a b : Acts) → On k a ≡ On l b → (k ≡ l) × (a ≡ b)
on_same k l a b e =
    let stacks : k ≡ l = cc e in
    let acts : a ≡ b = cc e in
    (stacks, acts)

over_same : (r s : Result ℕ (RoomEnd HostedTrap)) (a b : Acts) → Over r a ≡ Over s b → (r ≡ s) × (a ≡ b)
over_same r s a b e =
    let results : r ≡ s = cc e in
    let acts : a ≡ b = cc e in
    (results, acts)

on_or_over : (k : Stack) (r : Result ℕ (RoomEnd HostedTrap)) (a b : Acts) → On k a ≡ Over r b → ⊥
on_or_over k r a b e = cc e

-- By what stands at each index of the table:
module _ (to : Setting) (seen : ℕ → Option EntryView) where
  abbrev led : Outcome → Acts → Led
  led (outcome.Done words) a = led_done words a
  led (outcome.Calls number words w) a = led_on (goes_on number words w (host_answer to seen a.context number words) a)
  led (outcome.Trapped why) a = Over (Err (Trapped (hosted.Core why))) a
  led (outcome.NoFuel later) a = Over (Err NoFuel) a
  led outcome.Memory a = Nowhere

  -- It runs, and what it comes to leads so far.
  record Leads (a : Point) (s : HostedRoom) (next : Led) : Type 0 where
    pub came : Outcome
    pub runs : Runs a came s
    pub leads : led came a.room.acts ≡ next

  on_told : (o : Outcome) (k : Stack) (a b : Acts) → led o a ≡ On k b → IsTold o
  on_told (outcome.Done words) k a b e = tt
  on_told (outcome.Calls number words w) k a b e = tt
  on_told (outcome.Trapped why) k a b e = tt
  on_told (outcome.NoFuel later) k a b e = tt
  on_told outcome.Memory k a b e = cc e

  over_told : (o : Outcome) (r : Result ℕ (RoomEnd HostedTrap)) (a b : Acts) → led o a ≡ Over r b → IsTold o
  over_told (outcome.Done words) r a b e = tt
  over_told (outcome.Calls number words w) r a b e = tt
  over_told (outcome.Trapped why) r a b e = tt
  over_told (outcome.NoFuel later) r a b e = tt
  over_told outcome.Memory r a b e = cc e

  led_once : (a : Point) (s u : HostedRoom) (x y : Led) (h : Leads a s x) (i : Leads a u y) → IsTold h.came → IsTold i.came → (x ≡ y) × (s.store ≡ u.store) × (s.fuel ≡ u.fuel)
  led_once a s u x y h i told also =
      let same = runs_once a.room.store s.store u.store a.stack a.room.fuel s.fuel u.fuel h.came i.came told also h.runs i.runs in
      (sym h.leads ∙ ap (λ (o : Outcome). led o a.room.acts) same.0 ∙ i.leads, same.1, same.2)

  further_leads : (a b : Point) → GoesFurther to seen a b → Leads a b.room (On b.stack b.room.acts)
  further_leads a b (number, words, w, runs, goes) = record { came = outcome.Calls number words w; runs = runs; leads = ap led_on goes }

  ends_lead : (a : Point) (r : Result ℕ (RoomEnd HostedTrap)) (s : HostedRoom) → ResultTold r → Ends to seen a r s → Leads a s (Over r s.acts)
  ends_lead a (Ok place) s told (runs, acts) = record { came = outcome.Done (place ∷ []); runs = runs; leads = ap (λ (x : Acts). Over (Ok place) x) (sym acts) }
  ends_lead a (Err (Trapped (hosted.Core why))) s told (runs, acts) =
      record { came = outcome.Trapped why; runs = runs; leads = ap (λ (x : Acts). Over (Err (Trapped (hosted.Core why))) x) (sym acts) }
  ends_lead a (Err (Trapped (hosted.Call why))) s told (number, words, w, runs, goes) = record { came = outcome.Calls number words w; runs = runs; leads = ap led_on goes }
  ends_lead a (Err (Trapped hosted.NoRealloc)) s told ends = absurd ends
  ends_lead a (Err NoFuel) s told (later, runs, acts) = record { came = outcome.NoFuel later; runs = runs; leads = ap (λ (x : Acts). Over (Err NoFuel) x) (sym acts) }
  ends_lead a (Err Memory) s told ends = absurd told

  -- It goes on in one way, or ends in one.
  one_further : (a b c : Point) → GoesFurther to seen a b → GoesFurther to seen a c → b ≡ c
  one_further a b c h i =
      let p = further_leads a b h in
      let q = further_leads a c i in
      let same = led_once a b.room c.room (On b.stack b.room.acts) (On c.stack c.room.acts) p q (on_told p.came b.stack a.room.acts b.room.acts p.leads) (on_told q.came c.stack a.room.acts c.room.acts q.leads) in
      let next = on_same b.stack c.stack b.room.acts c.room.acts same.0 in
      point_same b c (room_same b.room c.room same.1 same.2 next.1) next.0

  one_end : (a : Point) (r q : Result ℕ (RoomEnd HostedTrap)) (s u : HostedRoom) → ResultTold r → ResultTold q → Ends to seen a r s → Ends to seen a q u → (r ≡ q) × (s ≡ u)
  one_end a r q s u told also h i =
      let x = ends_lead a r s told h in
      let y = ends_lead a q u also i in
      let same = led_once a s u (Over r s.acts) (Over q u.acts) x y (over_told x.came r a.room.acts s.acts x.leads) (over_told y.came q a.room.acts u.acts y.leads) in
      let last = over_same r q s.acts u.acts same.0 in
      (last.0, room_same s u same.1 same.2 last.1)

  no_further : (a b : Point) (r : Result ℕ (RoomEnd HostedTrap)) (s : HostedRoom) → ResultTold r → Ends to seen a r s → GoesFurther to seen a b → ⊥
  no_further a b r s told h i =
      let x = ends_lead a r s told h in
      let y = further_leads a b i in
      let same =
      led_once a s b.room (Over r s.acts) (On b.stack b.room.acts) x y (over_told x.came r a.room.acts s.acts x.leads) (on_told y.came b.stack a.room.acts b.room.acts y.leads) in
      on_or_over b.stack r b.room.acts s.acts (sym same.0)

  -- So many times, seen from the first one on.
  abbrev GoFrom : ℕ → Point → Point → Type 0
  GoFrom zero a b = b ≡ a
  GoFrom (suc count) a c = (b : Point) × GoesFurther to seen a b × GoFrom count b c

  one_more : (count : ℕ) (a b c : Point) → GoFrom count a b → GoesFurther to seen b c → GoFrom (suc count) a c
  one_more zero a b c is goes = (c, subst (λ (x : Point). GoesFurther to seen x c) is goes, refl)
  one_more (suc count) a b c (x, first, rest) goes = (x, first, one_more count x b c rest goes)

  from_first : (count : ℕ) (a b : Point) → GoOn to seen count a b → GoFrom count a b
  from_first zero a b is = is
  from_first (suc count) a b (mid, calls, goes) = one_more count a mid b (from_first count a mid calls) goes

  same_last : (m n : ℕ) (a b c : Point) (r q : Result ℕ (RoomEnd HostedTrap)) (s u : HostedRoom) → ResultTold r → ResultTold q → GoFrom m a b → GoFrom n a c
      → Ends to seen b r s → Ends to seen c q u → (r ≡ q) × (s ≡ u)
  same_last zero zero a b c r q s u told also h i ends others =
      one_end a r q s u told also (subst (λ (x : Point). Ends to seen x r s) h ends) (subst (λ (x : Point). Ends to seen x q u) i others)
  same_last zero (suc n) a b c r q s u told also h (x, first, rest) ends others = absurd (no_further a x r s told (subst (λ (y : Point). Ends to seen y r s) h ends) first)
  same_last (suc m) zero a b c r q s u told also (x, first, rest) i ends others = absurd (no_further a x q u also (subst (λ (y : Point). Ends to seen y q u) i others) first)
  same_last (suc m) (suc n) a b c r q s u told also (x, first, rest) (y, other, more) ends others =
      same_last m n x b c r q s u told also rest (subst (λ (z : Point). GoFrom n z c) (one_further a y x other first) more) ends others

  one_answer : (o : Option (ℕ × Function)) (room : HostedRoom) (ask : Ask) (r q : Result ℕ (RoomEnd HostedTrap)) (s u : HostedRoom) → ResultTold r → ResultTold q
      → AnswersBy to seen o room ask r s → AnswersBy to seen o room ask q u → (r ≡ q) × (s ≡ u)
  one_answer None room ask r q s u told also h i = (h.0 ∙ sym i.0, h.1 ∙ sym i.1)
  one_answer (Some f) room ask r q s u told also (b, gone, ends) (c, more, others) =
      let a : Point = record { room = room; stack = begun f ask } in
      same_last gone.count more.count a b c r q s u told also (from_first gone.count a b gone.calls) (from_first more.count a c more.calls) ends others

  pub answers_once : (room : HostedRoom) (ask : Ask) (r q : Result ℕ (RoomEnd HostedTrap)) (s u : HostedRoom) → ResultTold r → ResultTold q
      → HostedAnswers to seen room ask r s → HostedAnswers to seen room ask q u → (r ≡ q) × (s ≡ u)
  answers_once room ask r q s u told also h i = one_answer (realloc_in to.options.realloc room.store) room ask r q s u told also h i

-- A plan comes to one thing in a room that gives one answer to each realloc.
use Rattle.std.proofs.Common.{◌≡◌, ◌∙◌, ℕ, List, length, Option, Result, Ok, Err, sym, subst, inl, inr}
use Rattle.value_lower.specs.declared.ends.RoomEnd.{RoomEnd}
use Rattle.value_lower.specs.Plan.{Ask, Plan, Gives, Fails, Asks, Size, Put, Adds}
use Rattle.value_lower.specs.Following.{Rooms, no_table, untabled, Came, Ended, Follows}
use Rattle.value_lower.specs.Laws.{AnswersOnce, WritesOnce, AddsOnce, PlansComeToOne}

module _ {R T : Type 0} (rooms : Rooms R T) (answers_once : AnswersOnce rooms.answers) (writes_once : WritesOnce rooms.wrote) (adds_once : AddsOnce rooms.adds) where
  abbrev Comes : Plan → R → Came T → R → Type 0
  Comes plan r came s = Follows rooms plan r came s

  abbrev One : Plan → Type 0
  One plan = (r : R) (one other : Came T) (s u : R) → Comes plan r one s → Comes plan r other u → (one ≡ other) × (s ≡ u)

  asked_once : (ask : Ask) (k : ℕ → Plan) → ((place : ℕ) → One (k place)) → One (Asks ask k)
  asked_once ask k once r one other s u (inl h) (inl i) =
      let q = answers_once r ask (Ok h.0) (Ok i.0) h.1 i.1 h.2.0 i.2.0 in
      let e : i.0 ≡ h.0 = cc (q.0) in
      once h.0 h.1 one other s u h.3 (subst (λ (m : R). Comes (k h.0) m other u) (sym q.1) (subst (λ (n : ℕ). Comes (k n) i.1 other u) e i.3))
  asked_once ask k once r one other s u (inl h) (inr i) =
      let q = answers_once r ask (Ok h.0) (Err i.0) h.1 u h.2.0 i.1 in
      let e : Ok h.0 ≡ Err i.0 = q.0 in
      cc
  asked_once ask k once r one other s u (inr h) (inl i) =
      let q = answers_once r ask (Err h.0) (Ok i.0) s i.1 h.1 i.2.0 in
      let e : Err h.0 ≡ Ok i.0 = q.0 in
      cc
  asked_once ask k once r one other s u (inr h) (inr i) =
      let q = answers_once r ask (Err h.0) (Err i.0) s u h.1 i.1 in
      let e : h.0 ≡ i.0 = cc (q.0) in
      let same : Ended h.0 ≡ Ended i.0 = cc in
      (h.2 ∙ same ∙ sym i.2, q.1)

  pub one_end : (plan : Plan) → One plan
  one_end (Gives words) r one other s u h i = (h.0 ∙ sym i.0, h.1 ∙ sym i.1)
  one_end (Fails why) r one other s u h i = (h.0 ∙ sym i.0, h.1 ∙ sym i.1)
  one_end (Asks ask k) r one other s u h i = asked_once ask k (λ place. one_end (k place)) r one other s u h i
  one_end (Size k) r one other s u h i = one_end (k (length (rooms.memory r))) r one other s u h i
  one_end (Put place bytes k) r one other s u h i =
      one_end k h.0 one other s u h.2 (subst (λ (m : R). Comes k m other u) (sym (writes_once r place bytes h.0 i.0 h.1.0 i.1.0)) i.2)
  one_end (Adds entry k) r one other s u h i =
      let q = adds_once r entry h.0 i.0 h.1 i.1 h.2.0 i.2.0 in
      one_end (k h.0) h.1 one other s u h.3 (subst (λ (m : R). Comes (k h.0) m other u) (sym q.1) (subst (λ (o : Option ℕ). Comes (k o) i.1 other u) (sym q.0) i.3))

no_table_once : {R : Type 0} → AddsOnce {R = R} no_table
no_table_once = λ r entry one other s u h i. (h.0 ∙ sym i.0, h.1 ∙ sym i.1)

pub plans_come_to_one : {R T : Type 0} (memory : R → List ℕ) (answers : R → Ask → Result ℕ (RoomEnd T) → R → Type 0) (wrote : R → ℕ → List ℕ → R → Type 0)
    → PlansComeToOne memory answers wrote
plans_come_to_one memory answers wrote = λ a w plan r one other s u h i. one_end (untabled memory answers wrote) a w no_table_once plan r one other s u h i

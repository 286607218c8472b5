-- A plan comes to one thing over a room with a table, where no type stands twice among those by which ends are told.
use Rattle.std.proofs.Common.{◌≡◌, ◌∙◌, ℕ, List, Option, Some, None, Result, refl, sym, ap, arith}
use Rattle.syntax_trees.specs.declared.types.ValType.{ValType}
use Rattle.laid_types.specs.SameTypes.{AreDistinct}
use Rattle.handle_table.specs.Slots.{Slots, added}
use Rattle.res_handles.specs.declared.handle.Handle.{Handle}
use Rattle.value_lower.specs.declared.ends.RoomEnd.{RoomEnd}
use Rattle.value_lower.specs.Plan.{Ask, New, NewOwn, NewBorrow, NewEnd}
use Rattle.value_lower.specs.Tables.{IsEntry, enters, tabled}
use Rattle.value_lower.specs.Laws.{AddsOnce, TabledComeToOne}
use Rattle.value_lower.proofs.Once.{one_end}

both_same : {A B : Type 0} (s u : A × B) → s.0 ≡ u.0 → s.1 ≡ u.1 → s ≡ u
both_same {A} {B} s u e f = ap (λ (a : A). (let p : A × B = (a, s.1) in p)) e ∙ ap (λ (b : B). (let p : A × B = (u.0, b) in p)) f

module _ {E : Type 0} (made : Handle → E) (made_end : ℕ → ℕ → E) (task : ℕ) (types : List ValType) (distinct : AreDistinct types) where
  entry_once : (entry : New) (e f : E) → IsEntry made made_end task types entry e → IsEntry made made_end task types entry f → e ≡ f
  entry_once (NewOwn resource rep) e f h i = h ∙ sym i
  entry_once (NewBorrow resource rep) e f h i = h ∙ sym i
  entry_once (NewEnd type number) e f h i =
      let same : h.0 ≡ i.0 = distinct h.0 i.0 type h.1 i.1 in
      h.2 ∙ ap (λ (at : ℕ). made_end at number) same ∙ sym i.2

  adds_once : {R : Type 0} → AddsOnce {R = R × Slots E} (enters (IsEntry made made_end task types))
  adds_once = λ r entry one other s u. added_once r entry s u one other
    where
      added_once : {R : Type 0} (r : R × Slots E) (entry : New) (s u : R × Slots E) (one other : Option ℕ)
          → enters (IsEntry made made_end task types) r entry one s → enters (IsEntry made made_end task types) r entry other u → (one ≡ other) × (s ≡ u)
      added_once r entry s u (Some a) (Some b) h i =
          let same : h.0.0 ≡ i.0.0 = entry_once entry h.0.0 i.0.0 h.0.1 i.0.1 in
          let index : a ≡ b = h.0.3 ∙ sym i.0.3 in
          (ap (λ (n : ℕ). Some n) index, both_same s u (h.1 ∙ sym i.1) (h.0.4 ∙ ap (λ (e : E). added e r.1) same ∙ sym i.0.4))
      added_once r entry s u (Some a) None h i = absurd (omega (arith, h.0.2, i.0.0))
      added_once r entry s u None (Some b) h i = absurd (omega (arith, i.0.2, h.0.0))
      added_once r entry s u None None h i = (refl, both_same s u (h.1 ∙ sym i.1) (h.0.1 ∙ sym i.0.1))

pub tabled_come_to_one : {R E T : Type 0} (memory : R → List ℕ) (answers : R → Ask → Result ℕ (RoomEnd T) → R → Type 0) (wrote : R → ℕ → List ℕ → R → Type 0)
    (made : Handle → E) (made_end : ℕ → ℕ → E) → TabledComeToOne memory answers wrote made made_end
tabled_come_to_one memory answers wrote made made_end = λ task types distinct a w plan r one other s u h i.
    one_end (tabled memory answers wrote (IsEntry made made_end task types))
    (λ r ask one other s u h i. (let q = a r.0 ask one other s.0 u.0 h.0 i.0 in (q.0, both_same s u q.1 (h.1 ∙ sym i.1))))
    (λ r place bytes s u h i. both_same s u (w r.0 place bytes s.0 u.0 h.0 i.0) (h.1 ∙ sym i.1))
    (adds_once made made_end task types distinct) plan r one other s u h i

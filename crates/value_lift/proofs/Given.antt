-- What a call does to a table once a value is counted; and what is lifted, without how much may be counted still.
use Rattle.std.proofs.Common.{◌≡◌, ◌∙◌, ◌+◌, ◌-◌, ◌⊎◌, inl, inr, ℕ, List, Ok, Err, Result, Option, ap, sym, subst, arith}
use Rattle.std.specs.Prelude.{nat_le}
use Rattle.std.proofs.lemmas.Bool.{cond-true, le-leb}
use Rattle.faults.specs.declared.memory.MemoryOr.{MemoryOr}
use Rattle.faults.specs.declared.memory.MemoryOr.TheVariants.{Memory, Fault}
use Rattle.syntax_trees.specs.declared.types.ValType.{ValType}
use Rattle.handle_table.specs.Slots.{Slots}
use Rattle.res_handles.specs.declared.handle.Handle.{Handle}
use Rattle.res_handles.specs.declared.entry.EntryView.{EntryView}
use Rattle.value_lift.specs.declared.moved.Moved.{Moved}
use Rattle.value_lift.specs.declared.trap.LiftTrap.{LiftTrap}
use Rattle.value_lift.specs.declared.named.Named.{Named}
use Rattle.value_lift.specs.declared.named.Named.TheVariants as named
use Rattle.value_lift.specs.Named.{what_named}
use Rattle.value_lift.specs.Ledger.{Came, MayTake, What, AnEnd, counting, reached}
use Rattle.value_lift.specs.Tables.{Kept, Stop, spent, taken_as, by_table, at_first, Moves, given, MayGive}

-- one value less may be counted
spent_one : {E : Type 0} (place left rest : ℕ) (slots : Slots E) (moved : List Moved) → left ≡ rest + 1 → spent 1 place (at_first left slots moved) ≡ Ok (at_first rest slots moved)
spent_one {E} place left rest slots moved e =
    let low : left - 1 ≡ rest = omega (arith, e) in
    cond-true (nat_le 1 left) _ _ (le-leb 1 left (omega (arith, e))) ∙ ap (λ (n : ℕ). Ok (at_first n slots moved)) low

pub an_end : (n : Named) (type : ValType) → (n ≡ named.Stream) ⊎ (n ≡ named.Future) → what_named n type ≡ AnEnd type
an_end n type (inl e) = ap (λ (n : Named). what_named n type) e
an_end n type (inr e) = ap (λ (n : Named). what_named n type) e

module _ {E : Type 0} (view : E → EntryView) (made : Handle → E) (end_type : E → Option ℕ) (types : List ValType) where
  moves_take : {A : Type 0} (came : Came (Kept E) (Stop E) A) (kept : Kept E) (r : Result A (MemoryOr LiftTrap)) → Moves came kept r → MayTake (by_table view made end_type types) came kept r
  moves_take came kept (Ok x) h = h
  moves_take came kept (Err (Fault fault)) h = h
  moves_take came kept (Err Memory) h = tt

  -- a value is counted, and then its index is used
  pub takes_named : (named what : What) (index place : ℕ) (now : Kept E) (left rest : ℕ) (slots : Slots E) (moved : List Moved) (kept : Kept E) (r : Result ℕ (MemoryOr LiftTrap)) → named ≡ what
      → at_first left slots moved ≡ now → left ≡ rest + 1
      → Moves (taken_as view made end_type types what (record { what = what; index = index; place = place }) (at_first rest slots moved)) kept r
      → MayTake (by_table view made end_type types) (reached (by_table view made end_type types) named index place now) kept r
  takes_named named what index place now left rest slots moved kept r same is one h =
      let take : What → Kept E → Came (Kept E) (Stop E) ℕ = λ w k. taken_as view made end_type types w (record { what = w; index = index; place = place }) k in
      let e : reached (by_table view made end_type types) named index place now ≡ take what (at_first rest slots moved) =
      ap (λ (w : What). reached (by_table view made end_type types) w index place now) same
      ∙ ap (λ (k : Kept E). reached (by_table view made end_type types) what index place k) (sym is)
      ∙ ap (λ (s : Result (Kept E) (Stop E)). counting s (take what)) (spent_one place left rest slots moved one) in
      subst (λ (came : Came (Kept E) (Stop E) ℕ). MayTake (by_table view made end_type types) came kept r) (sym e) (moves_take (take what (at_first rest slots moved)) kept r h)

pub given_by : {E A : Type 0} (view : E → EntryView) (made : Handle → E) (end_type : E → Option ℕ) (types : List ValType) (came : Came (Kept E) (Stop E) A) (kept : Kept E) (slots : Slots E) (moved : List Moved)
    (r : Result A (MemoryOr LiftTrap)) → slots ≡ kept.slots → moved ≡ kept.moved → MayTake (by_table view made end_type types) came kept r → MayGive came slots moved r
given_by view made end_type types came kept slots moved (Ok x) e f h =
    ap (λ c. given c) h ∙ ap (λ s. Ok (x, s, kept.moved)) (sym e) ∙ ap (λ m. Ok (x, slots, m)) (sym f)
given_by {E} view made end_type types came kept slots moved (Err (Fault fault)) e f h =
    h ∙ ap (λ s. Err (let k : Stop E = record { trap = fault; slots = s; moved = kept.moved } in k)) (sym e)
    ∙ ap (λ m. Err (let k : Stop E = record { trap = fault; slots = slots; moved = m } in k)) (sym f)
given_by view made end_type types came kept slots moved (Err Memory) e f h = tt

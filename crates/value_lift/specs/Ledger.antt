-- What is kept while values are lifted (Component Model, CanonicalABI.md, "Loading", "Flat Lifting"): how much may be counted still, and
-- what indices in a table name. Lifting is said for any such ledger, and goes on with it from part to part, from left to right; where it
-- stops, the ledger tells with what.
use Rattle.std.specs.Prelude.{◌≡◌, ℕ, Result, Ok, Err}
use Rattle.faults.specs.declared.memory.MemoryOr.{MemoryOr}
use Rattle.faults.specs.declared.memory.MemoryOr.TheVariants.{Memory, Fault}
use Rattle.syntax_trees.specs.declared.types.ValType.{ValType}
use Rattle.value_lift.specs.declared.trap.LiftTrap.{LiftTrap}

-- What an index is to name: a handle of a resource, that is taken or lent; or the readable end of a stream or a future, that is taken, by
-- its type.
pub data What : Type 0 where
  AnOwn : ℕ → What
  ABorrow : ℕ → What
  AnEnd : ValType → What

-- an index that is used, and where it stands
pub record Use : Type 0 where
  pub what : What
  pub index : ℕ
  pub place : ℕ

-- How so much is counted for what stands at a place, with what lifting stops for a fault, and which number an index names.
pub record Ledger (S F : Type 0) : Type 0 where
  pub spend : ℕ → ℕ → S → Result S F
  pub stop : LiftTrap → S → F
  pub take : Use → S → Result (ℕ × S) F

-- something that is lifted, with the ledger behind it, or with what lifting stopped
abbrev pub Came : Type 0 → Type 0 → Type 0 → Type 0
Came S F A = Result (A × S) F

module _ {S F : Type 0} where
  -- lifting goes on behind something
  abbrev pub after : {A B : Type 0} → Came S F A → (A → S → Came S F B) → Came S F B
  after (Ok x) f = f x.0 x.1
  after (Err fault) f = Err fault

  -- something made of what was lifted
  abbrev pub made : {A B : Type 0} → (A → B) → Came S F A → Came S F B
  made f (Ok x) = Ok (f x.0, x.1)
  made f (Err fault) = Err fault

  -- what was lifted, without the ledger behind it
  abbrev pub value_of : {A : Type 0} → Came S F A → Result A F
  value_of (Ok x) = Ok x.0
  value_of (Err fault) = Err fault

  -- what is lifted once so much is counted
  abbrev pub counting : {A : Type 0} → Result S F → (S → Came S F A) → Came S F A
  counting (Ok kept) f = f kept
  counting (Err fault) f = Err fault

  -- something for which nothing is counted
  abbrev pub uncounted : Ledger S F → {A : Type 0} → S → Result A LiftTrap → Came S F A
  uncounted l kept (Ok x) = Ok (x, kept)
  uncounted l kept (Err fault) = Err (l.stop fault kept)

  -- what an index names, once the value that it tells is counted
  abbrev pub reached : Ledger S F → What → ℕ → ℕ → S → Came S F ℕ
  reached l what index place kept =
      counting (l.spend 1 place kept) (λ kept. l.take (record { what = what; index = index; place = place }) kept)

  -- A call that counts, and what is kept behind it.
  abbrev pub Spends : {X : Type 0} → Ledger S F → Result S F → S → Result X LiftTrap → Type 0
  Spends l spent kept (Ok _) = spent ≡ Ok kept
  Spends l spent kept (Err fault) = spent ≡ Err (l.stop fault kept)

  -- A call that lifts, or is short of memory and then says nothing; and what is kept behind it.
  abbrev pub MayTake : {A : Type 0} → Ledger S F → Came S F A → S → Result A (MemoryOr LiftTrap) → Type 0
  MayTake l came kept (Ok x) = came ≡ Ok (x, kept)
  MayTake l came kept (Err (Fault fault)) = came ≡ Err (l.stop fault kept)
  MayTake l came kept (Err Memory) = Unit {0}

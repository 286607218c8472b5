-- Lowering as a plan (Component Model, CanonicalABI.md, "Storing", "Flat Lowering"): what it asks of the memory of a component
-- instance, of the code that gives out its places, and of the instance's table, and how it goes on with each answer.
use Rattle.std.specs.Prelude.{ℕ, List, Option}
use Rattle.syntax_trees.specs.declared.types.ValType.{ValType}
use Rattle.value_lower.specs.declared.ends.LowerWhy.{LowerWhy}

-- The arguments of a realloc: an earlier place and its size, an alignment and a size.
pub record Ask : Type 0 where
  pub old : ℕ
  pub old_size : ℕ
  pub align : ℕ
  pub size : ℕ

-- What a table gets: an own handle or a borrow handle of a resource with a representation, or the readable end of the stream or the
-- future of a type and a number.
pub data New : Type 0 where
  NewOwn : ℕ → ℕ → New
  NewBorrow : ℕ → ℕ → New
  NewEnd : ValType → ℕ → New

-- the number of what it is
abbrev pub number_of : New → ℕ
number_of (NewOwn resource rep) = rep
number_of (NewBorrow resource rep) = rep
number_of (NewEnd type number) = number

pub data Plan : Type 0 where
  -- the core values that stand for what is lowered; of a store none
  Gives : List ℕ → Plan
  Fails : LowerWhy → Plan
  -- a realloc, and how it goes on with the place that is answered
  Asks : Ask → (ℕ → Plan) → Plan
  -- how many bytes the memory has then
  Size : (ℕ → Plan) → Plan
  -- these bytes at a place
  Put : ℕ → List ℕ → Plan → Plan
  -- an entry of the table, and how it goes on with its index, none where the table is full
  Adds : New → (Option ℕ → Plan) → Plan

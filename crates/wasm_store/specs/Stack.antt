-- Stacks (Core 2.0, section 4.2.14): a function that runs, and those that called it. A list of values has the last one
-- first, a list of labels or frames the innermost.
use Rattle.std.specs.Prelude.{ℕ, List, Option}
use Rattle.syntax_trees.specs.Expr.{Expr}

-- a block, a loop, an `if` or a whole body that is being run
pub record Label : Type 0 where
  -- how many values a branch to it takes along
  pub arity : ℕ
  -- the values under it
  pub under : List ℕ
  -- of a loop its body, with which a branch to it goes on. A branch to another one goes on behind its end
  pub again : Option Expr
  -- what comes behind its end
  pub after : Expr

-- a function that runs, or that waits for what it called
pub record Frame : Type 0 where
  -- the address of its instance
  pub instance : ℕ
  -- how many values it gives
  pub results : ℕ
  pub locals : List ℕ
  pub values : List ℕ
  -- what is left of the block that is being run
  pub rest : Expr
  pub labels : List Label

pub data Stack : Type 0 where
  -- the frame that runs, and those of its callers
  Running : Frame → List Frame → Stack
  -- no frame: a function of the host is to be called, by its address, with these words
  AtHost : ℕ → List ℕ → Stack
  -- no frame: these words, which it gave
  Given : List ℕ → Stack

-- Stacks that wait for the words of a host function (Core 2.0, section 4.4.10).
use Rattle.std.specs.Prelude.{ℕ}
use Rattle.std.specs.Coded.{Coded, code_by, coded_ℕ, coded×}
use mathlib.Core.Path.{refl}
use Rattle.wasm_store.specs.Stack.{Stack}
use Rattle.wasm_store.specs.Codes.{stack_code}

-- a stack that waits, and for how many words
pub record Waiting : Type 0 where
  pub stack : Stack
  pub count : ℕ

abbrev pub waiting_code : Coded Waiting
waiting_code = code_by (Stack × ℕ) (coded× stack_code coded_ℕ) (λ w. (w.stack, w.count)) (λ p. record { stack = p.0; count = p.1 }) (λ _. refl)

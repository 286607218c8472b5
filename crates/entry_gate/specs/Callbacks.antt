-- What a callback answers (Component Model, CanonicalABI.md, `canon lift`: `unpack_callback_result`): a code in the low four
-- bits, and the index of a waitable set in the others.
use Rattle.std.specs.Prelude.{ℕ, zero, suc, ◌/◌, ◌%◌, Result, Ok, Err}
use Rattle.entry_gate.specs.declared.callback.BadCode.{BadCode}
use Rattle.entry_gate.specs.declared.callback.Next.{Next}
use Rattle.entry_gate.specs.declared.callback.Next.TheVariants.{Exit, Yield, Wait, Poll}

-- what a code says, with this set
abbrev pub said : ℕ → ℕ → Result Next BadCode
said zero set = Ok Exit
said (suc zero) set = Ok Yield
said (suc (suc zero)) set = Ok (Wait set)
said (suc (suc (suc zero))) set = Ok (Poll set)
said (suc (suc (suc (suc _)))) set = Err (record {})

abbrev pub callback_of : ℕ → Result Next BadCode
callback_of word = said (word % 16) (word / 16)

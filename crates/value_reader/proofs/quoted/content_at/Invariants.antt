-- The bytes so far, and what is left of the literal behind them.
use Rattle.std.proofs.Common.{◌≡◌, ◌-◌}
use Rattle.value_reader.specs.Quoted.{content_at, content_from}
use Rattle.value_reader.proofs.quoted.content_at.Given as goal

abbrev pub invariant-loop-part : goal.invariant-loop-part
invariant-loop-part l = content_at l.quote l.initial.text ≡ content_from l.quote (l.count - l._part) l.bytes.items l.text

-- The first number before those that were gone through.
use Rattle.std.proofs.Common.{◌≡◌, ◌∷◌, take}
use Rattle.link_state.proofs.linker.put_before.Given as goal

abbrev pub invariant-loop-number : goal.invariant-loop-number
invariant-loop-number l = l.numbers ≡ l.fn.first ∷ take l.number-index l.fn.others

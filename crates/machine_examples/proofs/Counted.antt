-- Sets that are made one after the other.
use Rattle.std.proofs.Common.{◌≡◌, ◌<◌, ℕ, true, nat_lt, arith}
use Rattle.std.proofs.lemmas.Bool.Decides.{nat_tests}
use Rattle.handle_table.specs.History.{most_live}
use Rattle.abi_machine.proofs.Full.{made_one}
use Rattle.machine_examples.specs.Sets.{SetsAreCounted}

below : (n m : ℕ) → n < m → nat_lt n m ≡ true
below n m h = grind (arith, nat_tests)

pub sets_counted : SetsAreCounted
sets_counted n w few = made_one n w (below n most_live few)

-- The number so far and the digits that are left are the whole number.
use Rattle.std.proofs.Common.{◌≡◌, ◌≤◌, drop}
use Rattle.value_reader.specs.Tokens.{number_behind}
use Rattle.value_reader.proofs.numbers.number_up_to.Given as goal

abbrev pub invariant-loop-digit : goal.invariant-loop-digit
invariant-loop-digit l = record {
  bound : l.number ≤ l.most;
  same : number_behind l.base 0 l.digits ≡ number_behind l.base l.number (drop l.digit-index l.digits);
}

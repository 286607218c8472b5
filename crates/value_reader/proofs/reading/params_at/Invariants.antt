-- The values so far, and those that are read behind them.
use Rattle.std.proofs.Common.{◌≡◌, map, drop}
use Rattle.value_reader.specs.Values.{reader, values_at, values_from}
use Rattle.value_reader.proofs.reading.params_at.Given as goal

abbrev pub invariant-loop-param : goal.invariant-loop-param
invariant-loop-param l =
    values_at 41 (map reader (map (λ p. p.val_type) l.params)) l.initial.text
    ≡ values_from 41 l.values (map reader (map (λ p. p.val_type) (drop l.param-index l.params))) l.text

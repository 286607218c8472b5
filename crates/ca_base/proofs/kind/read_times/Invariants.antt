-- The items so far and what is left to read are the whole reading.
use Rattle.std.proofs.Common.{◌≡◌, ◌-◌}
use Rattle.ca_base.specs.Grammar.{read, times}
use Rattle.ca_base.proofs.Times.{preceded}
use Rattle.ca_base.proofs.kind.read_times.Given as goal

abbrev pub invariant-loop-index : goal.invariant-loop-index
invariant-loop-index g l =
    read (times l.count g.K.Kind.grammar) l.initial.window ≡ preceded l.items (read (times (l.count - l._index) g.K.Kind.grammar) l.window)

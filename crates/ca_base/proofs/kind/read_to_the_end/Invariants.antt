-- The items so far and what is left to read are the whole reading.
use Rattle.std.proofs.Common.{◌≡◌, ◌-◌}
use Rattle.ca_base.specs.Grammar.{read}
use Rattle.ca_base.specs.Items.{many}
use Rattle.ca_base.proofs.Times.{preceded}
use Rattle.ca_base.proofs.kind.read_to_the_end.Given as goal

abbrev pub invariant-loop-index : goal.invariant-loop-index
invariant-loop-index g l =
    read (many l.count g.K.Kind.grammar) l.initial.window ≡ preceded l.items (read (many (l.count - l._index) g.K.Kind.grammar) l.window)

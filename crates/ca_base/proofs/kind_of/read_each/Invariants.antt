-- The items so far and what is left to read are the whole reading.
use Rattle.std.proofs.Common.{◌≡◌, drop}
use Rattle.ca_base.specs.Grammar.{read}
use Rattle.ca_base.proofs.Times.{preceded}
use Rattle.ca_base.specs.Items.{each}
use Rattle.ca_base.proofs.kind_of.read_each.Given as goal

abbrev pub invariant-loop-kind : goal.invariant-loop-kind
invariant-loop-kind g l =
    read (each g.K.KindOf.grammar l.kinds) l.initial.window ≡ preceded l.items (read (each g.K.KindOf.grammar (drop l.kind-index l.kinds)) l.window)

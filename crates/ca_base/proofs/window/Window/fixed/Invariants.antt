-- What is left to read decides the whole reading.
use Rattle.std.proofs.Common.{◌≡◌, drop}
use Rattle.ca_base.specs.Grammar.{read}
use Rattle.ca_base.specs.Items.{fixed}
use Rattle.ca_base.proofs.window.Window.fixed.Given as goal

abbrev pub invariant-loop-byte : goal.invariant-loop-byte
invariant-loop-byte g l =
    read (fixed l.why l.initial.bytes) l.initial.self ≡ read (fixed l.why (drop l.byte-index l.bytes)) l.ahead

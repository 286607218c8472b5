-- The items so far, without their types.
use Rattle.std.proofs.Common.{◌≡◌, take, map}
use Rattle.link_spec.specs.Definitions.{extern_of}
use Rattle.link_core_exports.proofs.imports.externs_of.Given as goal

abbrev pub invariant-loop-item : goal.invariant-loop-item
invariant-loop-item l = l.externs ≡ map extern_of (take l.item-index l.items)

-- The first index is the first of the options that are left.
use Rattle.std.proofs.Common.{◌≡◌, drop}
use Rattle.link_spec.specs.Canons.{first_index}
use Rattle.canon_types.specs.Kinds.{kind_index}
use Rattle.canon_types.proofs.options.first_index.Given as goal

abbrev pub invariant-loop-option : goal.invariant-loop-option
invariant-loop-option l = first_index (kind_index l.kind) l.options ≡ first_index (kind_index l.kind) (drop l.option-index l.options)

-- What options name is there where it is so of the options that are left.
use Rattle.std.proofs.Common.{◌≡◌, drop, length}
use Rattle.std.specs.List.{list_all}
use Rattle.link_spec.specs.Canons.{is_option_there}
use Rattle.link_spec.specs.Spaces.{Spaces}
use Rattle.canon_types.proofs.options.are_there.Given as goal

abbrev pub invariant-loop-option : goal.invariant-loop-option
invariant-loop-option l =
    (s : Spaces) → l.memories ≡ length s.core_memories → l.funcs ≡ length s.core_funcs
    → list_all (is_option_there s) l.options ≡ list_all (is_option_there s) (drop l.option-index l.options)

-- The parts so far are read, and the others are read behind them.
use Rattle.std.proofs.Common.{◌≡◌, ◌++◌, List, ℕ, length, option_map, nat_eq}
use Rattle.std.specs.List.{slice_split}
use Rattle.script_reader.specs.Script.{all_picks}
use Rattle.script_reader.proofs.draft.read_picks.Given as goal

abbrev pub invariant-loop-part : goal.invariant-loop-part
invariant-loop-part l = all_picks (slice_split (λ b. nat_eq b 32) l.text) ≡ option_map (λ (more : List ℕ). l.picks ++ more) (all_picks l.parts)

abbrev pub decreases-loop-part : goal.decreases-loop-part
decreases-loop-part l = length l.parts

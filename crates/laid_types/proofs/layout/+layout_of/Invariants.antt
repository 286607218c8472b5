-- What the parts so far and what is left of them give together.
use Rattle.std.proofs.Common.{◌≡◌, length, map, drop}
use Rattle.laid_types.specs.Layout.{laid, laid_payload}
use Rattle.layouts.specs.Limited.{limited, as_laid, InReach}
use Rattle.layouts.proofs.Layouts.{closed_behind, tagged_behind}
use Rattle.laid_types.proofs.layout.+layout_of.Given as goal

abbrev pub decreases-layout_of : goal.decreases-layout_of
decreases-layout_of l = goal.size-layout_of l

abbrev pub invariant-loop-field : goal.invariant-loop-field
invariant-loop-field l = InReach (as_laid l.row) × (limited (laid l.fn.val_type) ≡ closed_behind (as_laid l.row) (map (λ f. laid f.val_type) (drop l.field-index l.field-items)))

abbrev pub invariant-loop-part : goal.invariant-loop-part
invariant-loop-part l = InReach (as_laid l.row) × (limited (laid l.fn.val_type) ≡ closed_behind (as_laid l.row) (map laid (drop l.part-index l.part-items)))

abbrev pub invariant-loop-case : goal.invariant-loop-case
invariant-loop-case l = InReach (as_laid l.payload) × (limited (laid l.fn.val_type) ≡ tagged_behind (length l.case-items) (as_laid l.payload) (map (λ c. laid_payload c.payload) (drop l.case-index l.case-items)))

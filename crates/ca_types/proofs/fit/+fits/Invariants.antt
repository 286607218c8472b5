-- What is left of the values and of their types decides.
use Rattle.std.proofs.Common.{◌≡◌, map, drop, length}
use Rattle.syntax_trees.specs.Fits.{test_of, each_passes, all_pass}
use Rattle.ca_types.proofs.fit.+fits.Given as goal

abbrev pub invariant-fields_fit-loop-i : goal.invariant-fields_fit-loop-i
invariant-fields_fit-loop-i l = (length l.values ≡ length l.fields) × (each_passes (map (λ f. test_of f.val_type) l.fields) l.values ≡ each_passes (map (λ f. test_of f.val_type) (drop l.i l.fields)) (drop l.i l.values))

abbrev pub invariant-parts_fit-loop-place : goal.invariant-parts_fit-loop-place
invariant-parts_fit-loop-place l = (length l.values ≡ length l.parts) × (each_passes (map test_of l.parts) l.values ≡ each_passes (map test_of (drop l.place l.parts)) (drop l.place l.values))

abbrev pub invariant-all_fit-loop-value : goal.invariant-all_fit-loop-value
invariant-all_fit-loop-value l = all_pass (test_of l.element) l.values ≡ all_pass (test_of l.element) (drop l.value-index l.values)

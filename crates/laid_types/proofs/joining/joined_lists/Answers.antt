-- The places that both lists have are no more than either has.
use Rattle.std.proofs.Common.{◌≡◌, ◌∙◌, ◌++◌, arith, ap, length, List}
use Rattle.syntax_trees.specs.declared.core_type.CoreType.{CoreType}
use Rattle.syntax_trees.proofs.Joins.{both_within, joined_by_steps, take_rest}
use Rattle.laid_types.proofs.joining.joined_lists.Goals as goal

pub slice_bounds-extend_from_slice-count : goal.slice_bounds-extend_from_slice-count
slice_bounds-extend_from_slice-count c = omega (arith, (both_within c.args.one.now c.args.other.now).0, ap length c.in_ok-types.ensures)

pub slice_bounds-extend_from_slice-start : goal.slice_bounds-extend_from_slice-start
slice_bounds-extend_from_slice-start c = omega (arith, (both_within c.args.one.now c.args.other.now).0, ap length c.in_ok-types.ensures)

pub slice_bounds-extend_from_slice-count-2 : goal.slice_bounds-extend_from_slice-count-2
slice_bounds-extend_from_slice-count-2 c = omega (arith, (both_within c.args.one.now c.args.other.now).1, ap length c.in_ok-types.ensures)

pub slice_bounds-extend_from_slice-start-2 : goal.slice_bounds-extend_from_slice-start-2
slice_bounds-extend_from_slice-start-2 c = omega (arith, (both_within c.args.one.now c.args.other.now).1, ap length c.in_ok-types.ensures)

pub returns : goal.returns
returns c =
    let l : c.len-both.result ≡ length c.in_ok-types.types.items = omega arith in
    joined_by_steps c.args.one.now c.args.other.now _ _ _ _ c.in_ok-types.ensures l
    (c.in_ok-extend_from_slice.ensures.items ∙ ap (λ (d : List CoreType). c.in_ok-types.types.items ++ d) (take_rest c.len-both.result c.args.one.now))
    (c.in_ok-extend_from_slice-2.ensures.items ∙ ap (λ (d : List CoreType). c.extend_from_slice.new.self.items ++ d) (take_rest c.len-both.result c.args.other.now))

-- One part more.
use Rattle.std.proofs.Common.{◌≡◌, ◌++◌, take, None, get_or, rules}
use Rattle.laid_types.proofs.Steps.{number_there, row_some, row_none}
use Rattle.laid_types.proofs.gathering.flat_row.Goals as goal
use Rattle.laid_types.proofs.gathering.flat_row.Goals.{in-Some+in_ok-push_types, in_default}

pub entry-requires : goal.entry-requires
entry-requires c = number_there c.args.types.now c.args.parts.now c.loop-part.part-index c.in-Some.number _ c.requires c.loop-part-test.true c.in-Some.is

pub loop-part-preserved : goal.loop-part-preserved
loop-part-preserved c =
    elim c.match-part.branch [
      | in-Some+in_ok-push_types w ↦
          let more : c.match-part.row.items ≡ take 17 (c.loop-part.row.items ++ w.flat.result.now) = search rules in
          row_some c.args.types.now c.args.parts.now c.loop-part.part-index w.in-Some.number w.entry.result.now.val_type c.loop-part.row.items w.flat.result.now c.match-part.row.items _ c.loop-part-test.true w.in-Some.is w.entry.ensures.there w.flat.ensures more c.loop-part.invariant.1
      | in_default w ↦
          let none : get_or c.args.parts.now c.loop-part.part-index None ≡ None = search rules in
          rw w.row-is (c.loop-part.invariant.0, row_none c.args.types.now c.args.parts.now c.loop-part.part-index c.loop-part.row.items _ c.loop-part-test.true none c.loop-part.invariant.1)
    ]

-- One payload more, and none more.
use Rattle.std.proofs.Common.{◌≡◌, None, get_or, rules}
use Rattle.syntax_trees.specs.Flat.{joined_lists}
use Rattle.laid_types.proofs.Steps.{number_there, payload_some, payload_none, payload_all}
use Rattle.laid_types.proofs.gathering.flat_payload.Goals as goal
use Rattle.laid_types.proofs.gathering.flat_payload.Goals.{in-Some+in_ok-payload, in_default}

pub entry-requires : goal.entry-requires
entry-requires c = number_there c.args.types.now c.args.parts.now c.loop-part.part-index c.in-Some.number _ c.requires c.loop-part-test.true c.in-Some.is

pub loop-part-preserved : goal.loop-part-preserved
loop-part-preserved c =
    elim c.match-part.branch [
      | in-Some+in_ok-payload w ↦
          let more : c.match-part.payload.items ≡ joined_lists c.loop-part.payload.items w.flat.result.now = search rules in
          payload_some c.args.types.now c.args.parts.now c.loop-part.part-index w.in-Some.number w.entry.result.now.val_type c.loop-part.payload.items w.flat.result.now c.match-part.payload.items _ c.loop-part-test.true w.in-Some.is w.entry.ensures.there w.flat.ensures more c.loop-part.invariant
      | in_default w ↦
          let none : get_or c.args.parts.now c.loop-part.part-index None ≡ None = search rules in
          rw w.payload-is (payload_none c.args.types.now c.args.parts.now c.loop-part.part-index c.loop-part.payload.items _ c.loop-part-test.true none c.loop-part.invariant)
    ]

pub returns : goal.returns
returns c = payload_all c.args.types.now c.args.parts.now c.loop-part.part-index c.loop-part.payload.items _ c.loop-part-test.false c.loop-part.invariant

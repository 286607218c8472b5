use Rattle.std.proofs.Common.{refl}
use Rattle.world_parts.specs.Held.{held}
use Rattle.world_stacks.specs.PostReturns.{Point}
use Rattle.world_stacks.proofs.Nested.{waits_typed, gone_none, nested_more, nested_done, nested_trapped, nested_wants}
use Rattle.world_stacks.proofs.post_returning.run_nested.Goals as goal

pub loop-call-init : goal.loop-call-init
loop-call-init c = record { typed = c.requires.typed; gone = gone_none _ _ _ _ }

pub run-requires : goal.run-requires
run-requires c = record { typed = c.loop-call.invariant.typed }

pub returns-in-Done : goal.returns-in-Done
returns-in-Done c =
    let mid : Point = record { held = held c.loop-call.parts; stack = c.loop-call.running } in
    nested_done c.args.graph.now c.args.task c.args.at _ mid _ c.run.new.store c.run.new.fuel _ c.loop-call.invariant.gone c.in-Done.ensures.gives refl

pub returns-in-Trapped : goal.returns-in-Trapped
returns-in-Trapped c =
    let mid : Point = record { held = held c.loop-call.parts; stack = c.loop-call.running } in
    nested_trapped c.args.graph.now c.args.task c.args.at _ mid c.in-Trapped.why c.core_name.result c.run.new.store c.run.new.fuel _ c.loop-call.invariant.gone c.in-Trapped.ensures.gives c.core_name.ensures refl

pub returns-in-NoFuel : goal.returns-in-NoFuel
returns-in-NoFuel c =
    let mid : Point = record { held = held c.loop-call.parts; stack = c.loop-call.running } in
    nested_wants c.args.graph.now c.args.task c.args.at _ mid c.in-NoFuel.later c.run.new.store c.run.new.fuel _ c.loop-call.invariant.gone c.in-NoFuel.ensures.gives refl

pub answer_in_place-requires : goal.answer_in_place-requires
answer_in_place-requires c = record {
  waits = waits_typed c.loop-call.parts.store c.loop-call.running c.loop-call.parts.feed.left c.in-Calls.address c.in-Calls.words c.in-Calls.waiting c.run.new.store c.run.new.fuel
      c.function_count-count.ensures.typed c.loop-call.invariant.typed c.in-Calls.ensures.gives;
}

pub loop-call-preserved : goal.loop-call-preserved
loop-call-preserved c =
    let mid : Point = record { held = held c.loop-call.parts; stack = c.loop-call.running } in
    record {
      typed = c.in-Ok.ensures.typed;
      gone = nested_more c.args.graph.now c.args.task c.args.at _ mid c.in-Calls.address c.in-Calls.words c.in-Calls.waiting c.run.new.store c.run.new.fuel c.in-Ok.next (held c.answer_in_place.new.parts)
          c.loop-call.invariant.gone c.in-Calls.ensures.gives c.in-Ok.ensures.gives;
    }

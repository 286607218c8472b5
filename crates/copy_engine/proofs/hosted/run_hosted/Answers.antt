use Rattle.std.proofs.Common.{[], ◌∷◌, refl}
use Rattle.syntax_trees.specs.declared.module_types.ValType.TheVariants.{I32}
use Rattle.wasm_execution.specs.declared.running.Outcome.TheVariants as outcome
use Rattle.res_handles.specs.Calls.{view_at}
use Rattle.copy_engine.specs.Answering.{setting_of}
use Rattle.copy_engine.specs.Hosting.{Point}
use Rattle.copy_engine.proofs.Nesting.{ends_with_one}
use Rattle.copy_engine.proofs.Hosting.{run_further, none_further, goes_typed, gone_none, gone_more, hosted_done, hosted_trapped, hosted_wants, hosted_stops, hosted_short}
use Rattle.copy_engine.proofs.hosted.run_hosted.Goals as goal

pub loop-call-init : goal.loop-call-init
loop-call-init g c = record { typed = c.requires.typed; gone = gone_none _ _ _; extends = none_further _ }

pub run-requires : goal.run-requires
run-requires g c = record { typed = (I32 ∷ [], c.loop-call.invariant.typed) }

pub only_word-requires : goal.only_word-requires
only_word-requires g c =
    ends_with_one c.loop-call.room.store c.run.new.store c.loop-call.running c.loop-call.room.fuel c.run.new.fuel c.in-Done.words c.function_count-count.ensures.typed c.loop-call.invariant.typed c.in-Done.ensures.gives

pub returns-in-Done-clause-gives : goal.returns-in-Done-clause-gives
returns-in-Done-clause-gives g c =
    let mid : Point = record { room = c.loop-call.room; stack = c.loop-call.running } in
    hosted_done (setting_of c.args.to.now) (view_at g.E.Entry.view c.args.handles.now.slots) _ mid c.in-Done.words c.only_word.result _ c.loop-call.invariant.gone c.in-Done.ensures.gives c.only_word.ensures refl

pub returns-in-Done-clause-extends : goal.returns-in-Done-clause-extends
returns-in-Done-clause-extends g c =
    run_further c.args.room.now.store c.loop-call.room.store c.run.new.store c.loop-call.running c.loop-call.room.fuel c.run.new.fuel (outcome.Done c.in-Done.words) c.function_count-count.ensures.typed c.loop-call.invariant.typed
    c.in-Done.ensures.gives c.loop-call.invariant.extends

pub returns-in-Trapped-clause-gives : goal.returns-in-Trapped-clause-gives
returns-in-Trapped-clause-gives g c =
    let mid : Point = record { room = c.loop-call.room; stack = c.loop-call.running } in
    hosted_trapped (setting_of c.args.to.now) (view_at g.E.Entry.view c.args.handles.now.slots) _ mid c.in-Trapped.why _ c.loop-call.invariant.gone c.in-Trapped.ensures.gives refl

pub returns-in-Trapped-clause-extends : goal.returns-in-Trapped-clause-extends
returns-in-Trapped-clause-extends g c =
    run_further c.args.room.now.store c.loop-call.room.store c.run.new.store c.loop-call.running c.loop-call.room.fuel c.run.new.fuel (outcome.Trapped c.in-Trapped.why) c.function_count-count.ensures.typed c.loop-call.invariant.typed
    c.in-Trapped.ensures.gives c.loop-call.invariant.extends

pub returns-in-NoFuel-clause-gives : goal.returns-in-NoFuel-clause-gives
returns-in-NoFuel-clause-gives g c =
    let mid : Point = record { room = c.loop-call.room; stack = c.loop-call.running } in
    hosted_wants (setting_of c.args.to.now) (view_at g.E.Entry.view c.args.handles.now.slots) _ mid c.in-NoFuel.later _ c.loop-call.invariant.gone c.in-NoFuel.ensures.gives refl

pub returns-in-NoFuel-clause-extends : goal.returns-in-NoFuel-clause-extends
returns-in-NoFuel-clause-extends g c =
    run_further c.args.room.now.store c.loop-call.room.store c.run.new.store c.loop-call.running c.loop-call.room.fuel c.run.new.fuel (outcome.NoFuel c.in-NoFuel.later) c.function_count-count.ensures.typed c.loop-call.invariant.typed
    c.in-NoFuel.ensures.gives c.loop-call.invariant.extends

pub returns-in-Memory-clause-gives : goal.returns-in-Memory-clause-gives
returns-in-Memory-clause-gives g c = hosted_short (setting_of c.args.to.now) (view_at g.E.Entry.view c.args.handles.now.slots) _ c.args.room.now

pub returns-in-Memory-clause-extends : goal.returns-in-Memory-clause-extends
returns-in-Memory-clause-extends g c =
    run_further c.args.room.now.store c.loop-call.room.store c.run.new.store c.loop-call.running c.loop-call.room.fuel c.run.new.fuel outcome.Memory c.function_count-count.ensures.typed c.loop-call.invariant.typed
    c.in-Memory.ensures.gives c.loop-call.invariant.extends

pub returns-in-Err-clause-gives : goal.returns-in-Err-clause-gives
returns-in-Err-clause-gives g c =
    let mid : Point = record { room = c.loop-call.room; stack = c.loop-call.running } in
    hosted_stops (setting_of c.args.to.now) (view_at g.E.Entry.view c.args.handles.now.slots) _ mid c.in-Calls.number c.in-Calls.words c.in-Calls.waiting c.in-Err.end _ c.loop-call.invariant.gone c.in-Calls.ensures.gives
    c.in-Err.ensures.leads

pub returns-in-Err-clause-extends : goal.returns-in-Err-clause-extends
returns-in-Err-clause-extends g c =
    run_further c.args.room.now.store c.loop-call.room.store c.run.new.store c.loop-call.running c.loop-call.room.fuel c.run.new.fuel (outcome.Calls c.in-Calls.number c.in-Calls.words c.in-Calls.waiting)
    c.function_count-count.ensures.typed c.loop-call.invariant.typed c.in-Calls.ensures.gives c.loop-call.invariant.extends

pub loop-call-preserved : goal.loop-call-preserved
loop-call-preserved g c =
    let mid : Point = record { room = c.loop-call.room; stack = c.loop-call.running } in
    record {
      typed = goes_typed c.loop-call.room.store c.run.new.store c.loop-call.running c.in-Ok.next c.loop-call.room.fuel c.run.new.fuel c.in-Calls.number c.in-Calls.words c.in-Calls.waiting
          c.function_count-count.ensures.typed c.loop-call.invariant.typed c.in-Calls.ensures.gives c.in-Ok.ensures.resumes;
      gone = gone_more (setting_of c.args.to.now) (view_at g.E.Entry.view c.args.handles.now.slots) _ mid _ c.in-Calls.number c.in-Calls.words c.in-Calls.waiting c.loop-call.invariant.gone c.in-Calls.ensures.gives
          c.in-Ok.ensures.leads;
      extends = run_further c.args.room.now.store c.loop-call.room.store c.run.new.store c.loop-call.running c.loop-call.room.fuel c.run.new.fuel (outcome.Calls c.in-Calls.number c.in-Calls.words c.in-Calls.waiting)
          c.function_count-count.ensures.typed c.loop-call.invariant.typed c.in-Calls.ensures.gives c.loop-call.invariant.extends;
    }

pub returns-clause-gives : goal.returns-clause-gives
returns-clause-gives g c = hosted_short (setting_of c.args.to.now) (view_at g.E.Entry.view c.args.handles.now.slots) _ c.args.room.now

pub returns-clause-extends : goal.returns-clause-extends
returns-clause-extends g c = c.loop-call.invariant.extends

-- The stack is that of the function's call, which is typed.
use Rattle.res_handles.specs.Calls.{view_at}
use Rattle.copy_engine.specs.Answering.{setting_of}
use Rattle.copy_engine.proofs.Nesting.{run_typed}
use Rattle.copy_engine.proofs.Hosting.{none_further, hosted_short, begun_gives}
use Rattle.copy_engine.proofs.hosted.call_realloc.Goals as goal

pub run_hosted-requires : goal.run_hosted-requires
run_hosted-requires g c =
    let there = c.requires.there in
    let begins = c.in-Ok.ensures in
    record {
      typed = run_typed c.args.room.now.store c.args.address there.0 begins.0 c.args.words.now c.in-Ok.running c.function_count-count.ensures.typed there.1 there.2 c.requires.words begins.1 begins.2;
    }

pub returns-in-Ok-clause-gives : goal.returns-in-Ok-clause-gives
returns-in-Ok-clause-gives g c = λ f there.
    let begins = c.in-Ok.ensures in
    begun_gives (setting_of c.args.to.now) (view_at g.E.Entry.view c.args.handles.now.slots) c.args.room.now c.run_hosted.new.room c.in-Ok.running f begins.0 c.args.address c.args.words.now c.run_hosted.result
    there begins.1 begins.2 c.run_hosted.ensures.gives

pub returns-in-Err-clause-gives : goal.returns-in-Err-clause-gives
returns-in-Err-clause-gives g c = λ f there. hosted_short (setting_of c.args.to.now) (view_at g.E.Entry.view c.args.handles.now.slots) _ c.args.room.now

pub returns-in-Err-clause-extends : goal.returns-in-Err-clause-extends
returns-in-Err-clause-extends g c = none_further _

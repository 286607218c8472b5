use Rattle.std.proofs.Common.{◌≡◌, ◌+◌, true, List, [], ◌++◌, ap, sym, ◌∙◌, subst, ℕ, ◌-◌, take, reverse}
use Rattle.std.specs.List.{AllByRecursion}
use Rattle.wasm_store.specs.Stack as stack
use Rattle.wasm_store.specs.Step.{Goes, Calls, Traps}
use Rattle.wasm_store.specs.declared.trap.Trap.TheVariants.{StackLimit}
use Rattle.wasm_execution.specs.declared.frame.Frame.{Frame}
use Rattle.wasm_execution.specs.declared.turn.Pause.TheVariants as pause
use Rattle.wasm_execution.specs.declared.invoking.Invoked.TheVariants as call
use Rattle.wasm_execution.specs.Places.{frame_of, IsPlaced}
use Rattle.wasm_execution.specs.Stacks.{frames_of}
use Rattle.wasm_execution.proofs.Runs.{Iterated, iterated_none, paused, went_back, went_on, waits_there, comes_trap, comes_end, gives_up, gives_up_paid, frames_push}
use Rattle.wasm_execution.proofs.Pausing.{at_pause, at_invoked, all_last, call_moves, asks_there}
use Rattle.wasm_execution.proofs.execution.run_frames.Goals as goal

pub loop-pause-init : goal.loop-pause-init
loop-pause-init c =
    let it = iterated_none c.args.store.now (frame_of c.args.top) (frames_of c.args.callers.items) c.args.fuel.now c.requires.typed.0 c.requires.store c.requires.typed.1 in
    record { placed = c.requires.placed; callers = c.requires.callers; stands = it.stands; sound = it.sound }

pub returns-in-NoFuel : goal.returns-in-NoFuel
returns-in-NoFuel c =
    let p = at_pause c.loop-pause.store (frame_of c.loop-pause.top) c.loop-pause.fuel c.in-Ok.pause pause.NoFuel c.run_function.new.store (frame_of c.run_function.new.frame) c.run_function.new.fuel c.in-NoFuel.is c.in-Ok.ensures.pauses in
    let it = paused c.args.store.now c.loop-pause.store c.run_function.new.store (stack.Running (frame_of c.args.top) (frames_of c.args.callers.items)) (frame_of c.loop-pause.top) (frame_of c.run_function.new.frame) (frames_of c.loop-pause.callers.items) c.args.fuel.now c.loop-pause.fuel c.run_function.new.fuel c.loop-pause.invariant.stands c.loop-pause.invariant.sound p.0 in
    record { gives = waits_there c.args.store.now c.run_function.new.store (stack.Running (frame_of c.args.top) (frames_of c.args.callers.items)) (frame_of c.run_function.new.frame) (frames_of c.loop-pause.callers.items) c.args.fuel.now c.run_function.new.fuel it.stands it.sound p.1 p.2 }

pub returns-in-Traps : goal.returns-in-Traps
returns-in-Traps c =
    let p = at_pause c.loop-pause.store (frame_of c.loop-pause.top) c.loop-pause.fuel c.in-Ok.pause (pause.Traps c.in-Traps.why) c.run_function.new.store (frame_of c.run_function.new.frame) c.run_function.new.fuel c.in-Traps.is c.in-Ok.ensures.pauses in
    let it = paused c.args.store.now c.loop-pause.store c.run_function.new.store (stack.Running (frame_of c.args.top) (frames_of c.args.callers.items)) (frame_of c.loop-pause.top) p.0 (frames_of c.loop-pause.callers.items) c.args.fuel.now c.loop-pause.fuel (c.run_function.new.fuel + 1) c.loop-pause.invariant.stands c.loop-pause.invariant.sound p.1 in
    record { gives = comes_trap c.args.store.now c.run_function.new.store (stack.Running (frame_of c.args.top) (frames_of c.args.callers.items)) p.0 (frames_of c.loop-pause.callers.items) c.args.fuel.now c.run_function.new.fuel c.in-Traps.why it.stands (p.2 (frames_of c.loop-pause.callers.items)) }

pub returns-in_default-pop : goal.returns-in_default-pop
returns-in_default-pop c =
    let p = at_pause c.loop-pause.store (frame_of c.loop-pause.top) c.loop-pause.fuel c.in-Ok.pause pause.Ended c.run_function.new.store (frame_of c.run_function.new.frame) c.run_function.new.fuel c.in-Ended.is c.in-Ok.ensures.pauses in
    let it = paused c.args.store.now c.loop-pause.store c.run_function.new.store (stack.Running (frame_of c.args.top) (frames_of c.args.callers.items)) (frame_of c.loop-pause.top) (frame_of c.run_function.new.frame) (frames_of c.loop-pause.callers.items) c.args.fuel.now c.loop-pause.fuel c.run_function.new.fuel c.loop-pause.invariant.stands c.loop-pause.invariant.sound p.0 in
    let none : c.loop-pause.callers.items ≡ [] = c.in_default-pop.ensures.items ∙ ap (λ (fs : List Frame). fs ++ []) (c.in_default-pop.ensures.rest ∙ ap (λ (n : ℕ). take (n - 1) c.loop-pause.callers.items) c.in_default-pop.ensures.cases.0) in
    let bare : Iterated c.args.store.now (stack.Running (frame_of c.args.top) (frames_of c.args.callers.items)) c.args.fuel.now c.run_function.new.store c.run_function.new.fuel (frame_of c.run_function.new.frame) [] = subst (λ (fs : List stack.Frame). Iterated c.args.store.now (stack.Running (frame_of c.args.top) (frames_of c.args.callers.items)) c.args.fuel.now c.run_function.new.store c.run_function.new.fuel (frame_of c.run_function.new.frame) fs) (ap frames_of none) it in
    record { gives = comes_end c.args.store.now c.run_function.new.store (stack.Running (frame_of c.args.top) (frames_of c.args.callers.items)) (frame_of c.run_function.new.frame) c.args.fuel.now c.run_function.new.fuel c.from_vec.result bare.stands bare.sound p.1 p.2 (ap (λ (ws : List ℕ). reverse ws) (sym c.from_vec.ensures)) }

pub give_back-requires : goal.give_back-requires
give_back-requires c =
    let all = all_last IsPlaced c.pop.new.self.items c.in-Some.caller (subst (AllByRecursion IsPlaced) c.in-Some.ensures.items c.loop-pause.invariant.callers) in
    record { placed = all.1 }

pub loop-pause-preserved-in-Ok-give_back : goal.loop-pause-preserved-in-Ok-give_back
loop-pause-preserved-in-Ok-give_back c =
    let all = all_last IsPlaced c.pop.new.self.items c.in-Some.caller (subst (AllByRecursion IsPlaced) c.in-Some.ensures.items c.loop-pause.invariant.callers) in
    let p = at_pause c.loop-pause.store (frame_of c.loop-pause.top) c.loop-pause.fuel c.in-Ok.pause pause.Ended c.run_function.new.store (frame_of c.run_function.new.frame) c.run_function.new.fuel c.in-Ended.is c.in-Ok.ensures.pauses in
    let it = paused c.args.store.now c.loop-pause.store c.run_function.new.store (stack.Running (frame_of c.args.top) (frames_of c.args.callers.items)) (frame_of c.loop-pause.top) (frame_of c.run_function.new.frame) (frames_of c.loop-pause.callers.items) c.args.fuel.now c.loop-pause.fuel c.run_function.new.fuel c.loop-pause.invariant.stands c.loop-pause.invariant.sound p.0 in
    let there = ap frames_of c.in-Some.ensures.items ∙ frames_push c.pop.new.self.items c.in-Some.caller in
    let back = went_back c.args.store.now c.run_function.new.store (stack.Running (frame_of c.args.top) (frames_of c.args.callers.items)) (frame_of c.run_function.new.frame) (frame_of c.in-Ok-give_back.frame) (frame_of c.in-Some.caller) (frames_of c.pop.new.self.items) (frames_of c.loop-pause.callers.items) c.args.fuel.now c.run_function.new.fuel it there p.1 p.2 c.in-Ok-give_back.ensures.frame in
    record { placed = c.in-Ok-give_back.ensures.placed; callers = all.0; stands = back.stands; sound = back.sound }

pub loop-pause-preserved : goal.loop-pause-preserved
loop-pause-preserved c =
    let p = at_pause c.loop-pause.store (frame_of c.loop-pause.top) c.loop-pause.fuel c.in-Ok.pause (pause.Calls c.in-Calls.address) c.run_function.new.store (frame_of c.run_function.new.frame) c.run_function.new.fuel c.in-Calls.is c.in-Ok.ensures.pauses in
    let it = paused c.args.store.now c.loop-pause.store c.run_function.new.store (stack.Running (frame_of c.args.top) (frames_of c.args.callers.items)) (frame_of c.loop-pause.top) p.0 (frames_of c.loop-pause.callers.items) c.args.fuel.now c.loop-pause.fuel (c.run_function.new.fuel + 1) c.loop-pause.invariant.stands c.loop-pause.invariant.sound p.1 in
    let e = c.in-Ok-Began.ensures.gives in
    let m = at_invoked c.run_function.new.store (frame_of c.run_function.new.frame) c.loop-pause.callers.items c.in-Calls.address e.0 c.in-Ok-Began.field-0 (call.Began c.in-Ok-Began.frame) c.invoke.new.callers.items c.in-Ok-Began.field-0-is e.2 in
    let goes = call_moves c.run_function.new.store p.0 (frame_of c.run_function.new.frame) (frames_of c.loop-pause.callers.items) c.in-Calls.address e.0 (Goes true c.run_function.new.store (stack.Running (frame_of c.in-Ok-Began.frame) (frames_of c.invoke.new.callers.items))) p.2 e.1 m.moves in
    let on = went_on c.args.store.now c.run_function.new.store (stack.Running (frame_of c.args.top) (frames_of c.args.callers.items)) p.0 (frame_of c.in-Ok-Began.frame) (frames_of c.loop-pause.callers.items) (frames_of c.invoke.new.callers.items) c.args.fuel.now c.run_function.new.fuel it goes in
    record { placed = m.placed; callers = m.callers; stands = on.stands; sound = on.sound }

pub returns-in-Ok-Asked : goal.returns-in-Ok-Asked
returns-in-Ok-Asked c =
    let p = at_pause c.loop-pause.store (frame_of c.loop-pause.top) c.loop-pause.fuel c.in-Ok.pause (pause.Calls c.in-Calls.address) c.run_function.new.store (frame_of c.run_function.new.frame) c.run_function.new.fuel c.in-Calls.is c.in-Ok.ensures.pauses in
    let it = paused c.args.store.now c.loop-pause.store c.run_function.new.store (stack.Running (frame_of c.args.top) (frames_of c.args.callers.items)) (frame_of c.loop-pause.top) p.0 (frames_of c.loop-pause.callers.items) c.args.fuel.now c.loop-pause.fuel (c.run_function.new.fuel + 1) c.loop-pause.invariant.stands c.loop-pause.invariant.sound p.1 in
    let e = c.in-Ok-Asked.ensures.gives in
    let m = at_invoked c.run_function.new.store (frame_of c.run_function.new.frame) c.loop-pause.callers.items c.in-Calls.address e.0 c.in-Ok-Asked.field-0 (call.Asked c.in-Ok-Asked.words c.in-Ok-Asked.waiting c.in-Ok-Asked.count) c.invoke.new.callers.items c.in-Ok-Asked.field-0-is e.2 in
    let goes = call_moves c.run_function.new.store p.0 (frame_of c.run_function.new.frame) (frames_of c.loop-pause.callers.items) c.in-Calls.address e.0 (Calls c.in-Calls.address c.in-Ok-Asked.words.items (stack.Running (frame_of c.in-Ok-Asked.waiting) (frames_of c.loop-pause.callers.items))) p.2 e.1 m.moves in
    record { gives = asks_there c.args.store.now c.run_function.new.store (stack.Running (frame_of c.args.top) (frames_of c.args.callers.items)) p.0 (frame_of c.in-Ok-Asked.waiting) (frames_of c.loop-pause.callers.items) (frames_of c.invoke.new.callers.items) c.args.fuel.now c.run_function.new.fuel c.in-Calls.address c.in-Ok-Asked.count c.in-Ok-Asked.words.items c.from_vec-in-Ok-Asked.result e.0 it goes c.from_vec-in-Ok-Asked.ensures (ap frames_of m.same) e.1 m.results }

pub returns-in-Ok-Limit : goal.returns-in-Ok-Limit
returns-in-Ok-Limit c =
    let p = at_pause c.loop-pause.store (frame_of c.loop-pause.top) c.loop-pause.fuel c.in-Ok.pause (pause.Calls c.in-Calls.address) c.run_function.new.store (frame_of c.run_function.new.frame) c.run_function.new.fuel c.in-Calls.is c.in-Ok.ensures.pauses in
    let it = paused c.args.store.now c.loop-pause.store c.run_function.new.store (stack.Running (frame_of c.args.top) (frames_of c.args.callers.items)) (frame_of c.loop-pause.top) p.0 (frames_of c.loop-pause.callers.items) c.args.fuel.now c.loop-pause.fuel (c.run_function.new.fuel + 1) c.loop-pause.invariant.stands c.loop-pause.invariant.sound p.1 in
    let e = c.in-Ok-Limit.ensures.gives in
    let m = at_invoked c.run_function.new.store (frame_of c.run_function.new.frame) c.loop-pause.callers.items c.in-Calls.address e.0 c.in-Ok-Limit.field-0 call.Limit c.invoke.new.callers.items c.in-Ok-Limit.field-0-is e.2 in
    let goes = call_moves c.run_function.new.store p.0 (frame_of c.run_function.new.frame) (frames_of c.loop-pause.callers.items) c.in-Calls.address e.0 (Traps StackLimit) p.2 e.1 m in
    record { gives = comes_trap c.args.store.now c.run_function.new.store (stack.Running (frame_of c.args.top) (frames_of c.args.callers.items)) p.0 (frames_of c.loop-pause.callers.items) c.args.fuel.now c.run_function.new.fuel StackLimit it.stands goes }

pub returns-in_default : goal.returns-in_default
returns-in_default c =
    let h = c.in_default.ensures.halts in
    let it = paused c.args.store.now c.loop-pause.store c.run_function.new.store (stack.Running (frame_of c.args.top) (frames_of c.args.callers.items)) (frame_of c.loop-pause.top) h.0 (frames_of c.loop-pause.callers.items) c.args.fuel.now c.loop-pause.fuel (c.run_function.new.fuel + 1) c.loop-pause.invariant.stands c.loop-pause.invariant.sound h.1 in
    record { gives = gives_up_paid c.args.store.now c.run_function.new.store (stack.Running (frame_of c.args.top) (frames_of c.args.callers.items)) (stack.Running h.0 (frames_of c.loop-pause.callers.items)) c.args.fuel.now c.run_function.new.fuel it.stands }

pub returns-in-Err : goal.returns-in-Err
returns-in-Err c =
    let p = at_pause c.loop-pause.store (frame_of c.loop-pause.top) c.loop-pause.fuel c.in-Ok.pause pause.Ended c.run_function.new.store (frame_of c.run_function.new.frame) c.run_function.new.fuel c.in-Ended.is c.in-Ok.ensures.pauses in
    let it = paused c.args.store.now c.loop-pause.store c.run_function.new.store (stack.Running (frame_of c.args.top) (frames_of c.args.callers.items)) (frame_of c.loop-pause.top) (frame_of c.run_function.new.frame) (frames_of c.loop-pause.callers.items) c.args.fuel.now c.loop-pause.fuel c.run_function.new.fuel c.loop-pause.invariant.stands c.loop-pause.invariant.sound p.0 in
    record { gives = gives_up c.args.store.now c.run_function.new.store (stack.Running (frame_of c.args.top) (frames_of c.args.callers.items)) (stack.Running (frame_of c.run_function.new.frame) (frames_of c.loop-pause.callers.items)) c.args.fuel.now c.run_function.new.fuel it.stands }

pub returns-in-Err-invoke : goal.returns-in-Err-invoke
returns-in-Err-invoke c =
    let p = at_pause c.loop-pause.store (frame_of c.loop-pause.top) c.loop-pause.fuel c.in-Ok.pause (pause.Calls c.in-Calls.address) c.run_function.new.store (frame_of c.run_function.new.frame) c.run_function.new.fuel c.in-Calls.is c.in-Ok.ensures.pauses in
    let it = paused c.args.store.now c.loop-pause.store c.run_function.new.store (stack.Running (frame_of c.args.top) (frames_of c.args.callers.items)) (frame_of c.loop-pause.top) p.0 (frames_of c.loop-pause.callers.items) c.args.fuel.now c.loop-pause.fuel (c.run_function.new.fuel + 1) c.loop-pause.invariant.stands c.loop-pause.invariant.sound p.1 in
    record { gives = gives_up_paid c.args.store.now c.run_function.new.store (stack.Running (frame_of c.args.top) (frames_of c.args.callers.items)) (stack.Running p.0 (frames_of c.loop-pause.callers.items)) c.args.fuel.now c.run_function.new.fuel it.stands }

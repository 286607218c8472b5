use Rattle.std.proofs.Common.{◌≡◌, ◌+◌, arith}
use Rattle.wasm_execution.specs.Places.{frame_of}
use Rattle.wasm_execution.proofs.Ends.{none_left, one_less}
use Rattle.wasm_execution.proofs.Turns.{turn_ready, turn_goes, reaches_end, kept_fuel}
use Rattle.wasm_execution.proofs.Stepped.{gave_goes, placed_goes, turn_calls, turn_traps, turn_halts, on_err}
use Rattle.wasm_execution.proofs.turn.run_function.Goals as goal

pub returns-then-not-spend-clause-pauses : goal.returns-then-not-spend-clause-pauses
returns-then-not-spend-clause-pauses c =
    let none = none_left c.loop-fuel.fuel c.spend.result c.spend.ensures.spent.1 c.if-not-spend.true in
    let left = c.spend.ensures.left in
    let zero : c.spend.new.self ≡ 0 = omega (arith, left, none) in
    let same : c.spend.new.self ≡ c.loop-fuel.fuel = omega (arith, left, none) in (
      kept_fuel c.args.store.now c.loop-fuel.store (frame_of c.args.frame.now) (frame_of c.to_instruction.new.frame) c.args.fuel.now c.loop-fuel.fuel c.spend.new.self
          (reaches_end c.args.store.now c.loop-fuel.store (frame_of c.args.frame.now) (frame_of c.loop-fuel.frame) (frame_of c.to_instruction.new.frame) c.args.fuel.now c.loop-fuel.fuel c.loop-fuel.invariant.reaches c.loop-fuel.invariant.typed c.to_instruction.ensures.leaves) same,
      zero,
      c.loop-fuel-test.ensures.comes,
    )

pub make_step-requires-clause-typed : goal.make_step-requires-clause-typed
make_step-requires-clause-typed c =
    (turn_ready c.loop-fuel.store (frame_of c.loop-fuel.frame) (frame_of c.to_instruction.new.frame) c.loop-fuel.invariant.store c.loop-fuel.invariant.typed c.to_instruction.ensures.leaves).typed

pub loop-fuel-preserved : goal.loop-fuel-preserved
loop-fuel-preserved c =
    let one : c.loop-fuel.fuel ≡ c.spend.new.self + 1 = one_less c.loop-fuel.fuel c.spend.new.self c.spend.result c.spend.ensures.spent.0 c.if-not-spend.false c.spend.ensures.left in
    let goes = gave_goes c.loop-fuel.store c.make_step.new.store (frame_of c.to_instruction.new.frame) (frame_of c.make_step.new.frame) c.in_ok-make_step.field-0 c.in-Goes.is c.in_ok-make_step.ensures.gives in
    let k = turn_goes c.args.store.now c.loop-fuel.store c.make_step.new.store (frame_of c.args.frame.now) (frame_of c.loop-fuel.frame) (frame_of c.to_instruction.new.frame) (frame_of c.make_step.new.frame) c.args.fuel.now c.loop-fuel.fuel c.spend.new.self c.loop-fuel.invariant.reaches c.loop-fuel.invariant.store c.loop-fuel.invariant.typed c.to_instruction.ensures.leaves one goes in
    record { placed = placed_goes c.in_ok-make_step.field-0 c.make_step.new.frame c.in-Goes.is c.in_ok-make_step.ensures.placed; store = k.store; typed = k.typed; reaches = k.reaches }

pub returns-in-Calls-clause-pauses : goal.returns-in-Calls-clause-pauses
returns-in-Calls-clause-pauses c =
    let one : c.loop-fuel.fuel ≡ c.spend.new.self + 1 = one_less c.loop-fuel.fuel c.spend.new.self c.spend.result c.spend.ensures.spent.0 c.if-not-spend.false c.spend.ensures.left in
    turn_calls c.args.store.now c.loop-fuel.store c.make_step.new.store (frame_of c.args.frame.now) (frame_of c.loop-fuel.frame) (frame_of c.to_instruction.new.frame) (frame_of c.make_step.new.frame) c.args.fuel.now c.loop-fuel.fuel c.spend.new.self c.in-Calls.address c.in_ok-make_step.field-0 c.loop-fuel.invariant.reaches c.loop-fuel.invariant.typed c.to_instruction.ensures.leaves one c.in-Calls.is c.in_ok-make_step.ensures.gives

pub returns-in-Traps-clause-pauses : goal.returns-in-Traps-clause-pauses
returns-in-Traps-clause-pauses c =
    let one : c.loop-fuel.fuel ≡ c.spend.new.self + 1 = one_less c.loop-fuel.fuel c.spend.new.self c.spend.result c.spend.ensures.spent.0 c.if-not-spend.false c.spend.ensures.left in
    turn_traps c.args.store.now c.loop-fuel.store c.make_step.new.store (frame_of c.args.frame.now) (frame_of c.loop-fuel.frame) (frame_of c.to_instruction.new.frame) (frame_of c.make_step.new.frame) c.args.fuel.now c.loop-fuel.fuel c.spend.new.self c.in-Traps.why c.in_ok-make_step.field-0 c.loop-fuel.invariant.reaches c.loop-fuel.invariant.typed c.to_instruction.ensures.leaves one c.in-Traps.is c.in_ok-make_step.ensures.gives

pub returns-clause-pauses : goal.returns-clause-pauses
returns-clause-pauses c =
    (reaches_end c.args.store.now c.loop-fuel.store (frame_of c.args.frame.now) (frame_of c.loop-fuel.frame) (frame_of c.to_instruction.new.frame) c.args.fuel.now c.loop-fuel.fuel c.loop-fuel.invariant.reaches c.loop-fuel.invariant.typed c.to_instruction.ensures.leaves, c.loop-fuel-test.ensures.comes.0, c.loop-fuel-test.ensures.comes.1)

pub returns-in_err-make_step-clause-halts : goal.returns-in_err-make_step-clause-halts
returns-in_err-make_step-clause-halts c =
    let one : c.loop-fuel.fuel ≡ c.spend.new.self + 1 = one_less c.loop-fuel.fuel c.spend.new.self c.spend.result c.spend.ensures.spent.0 c.if-not-spend.false c.spend.ensures.left in
    on_err c.from_residual.result _ (turn_halts c.args.store.now c.loop-fuel.store c.make_step.new.store (frame_of c.args.frame.now) (frame_of c.loop-fuel.frame) (frame_of c.to_instruction.new.frame) c.args.fuel.now c.loop-fuel.fuel c.spend.new.self c.loop-fuel.invariant.reaches c.loop-fuel.invariant.typed c.to_instruction.ensures.leaves one c.in_err-make_step.ensures.stays)

use Rattle.std.proofs.Common.{refl, get_or}
use Rattle.wasm_store.specs.Views.{instance_of}
use Rattle.wasm_execution.specs.Places.{frame_of}
use Rattle.wasm_execution.proofs.Taking.{call_ready}
use Rattle.wasm_execution.proofs.Calls.{call_there, listed_as}
use Rattle.wasm_execution.proofs.calling.call.Goals as goal

pub returns-clause-gives : goal.returns-clause-gives
returns-clause-gives c =
    let k = call_ready c.args.store.now c.requires.typed.0 (frame_of c.args.frame.now) (instance_of c.instance.result.now) c.args.index c.requires.next.0 c.requires.typed.1 c.instance.ensures c.requires.next.1 in
    let listed = listed_as (instance_of c.instance.result.now).funcs c.as_slice.result.now c.args.index k.address k.listed c.as_slice.ensures in
    (refl, call_there c.args.store.now (frame_of c.args.frame.now) (frame_of c.advance.new.self) (instance_of c.instance.result.now) c.args.index (get_or c.as_slice.result.now c.args.index 0) c.requires.next.0 k listed c.instance.ensures c.requires.next.1 c.advance.ensures.frame)

use Rattle.std.proofs.Common.{refl, reverse}
use Rattle.syntax_trees.specs.declared.instr.Op.TheVariants as op
use Rattle.wasm_execution.specs.Places.{frame_of}
use Rattle.wasm_store.specs.Effects.{effect}
use Rattle.wasm_execution.specs.declared.frame.Frame.{Frame}
use Rattle.wasm_execution.proofs.Seeing.{op_rest, effect_there, gave_trap, gave_none}
use Rattle.wasm_execution.proofs.Effecting.{fits, effect_fails, made}
use Rattle.wasm_execution.proofs.stepping.make_effect.Goals as goal

pub effect-requires : goal.effect-requires
effect-requires c =
    let h = c.requires.typed.1 in
    let e = op_rest c.in-Some-Plain.field-0.now (op.Plain c.in-Some-Plain.instr) c.args.frame.now.at c.args.frame.now.code.value c.deref.result.now c.in-Some-Plain.ensures c.in-Some-Plain.field-0-is c.deref.ensures in
    let q = effect_there c.requires.next.0 c.in-Some-Plain.instr c.requires.next.1 e.0 (frame_of c.args.frame.now).rest c.requires.next.2 e.1 c.requires.next.3 in
    record { fits = (h.owner, h.there, fits c.args.store.now c.requires.typed.0 (frame_of c.args.frame.now) h.owner c.in-Some-Plain.instr e.0 c.requires.store h h.there e.1 q) }

pub returns-in-Some-clause-gives : goal.returns-in-Some-clause-gives
returns-in-Some-clause-gives c =
    let e = op_rest c.in-Some-Plain.field-0.now (op.Plain c.in-Some-Plain.instr) c.args.frame.now.at c.args.frame.now.code.value c.deref.result.now c.in-Some-Plain.ensures c.in-Some-Plain.field-0-is c.deref.ensures in
    let q = effect_there c.requires.next.0 c.in-Some-Plain.instr c.requires.next.1 e.0 (frame_of c.args.frame.now).rest c.requires.next.2 e.1 c.requires.next.3 in
    let g = c.in_ok-trap.ensures.gives in
    let k = gave_trap c.args.store.now (effect c.in-Some-Plain.instr g.0 c.args.store.now c.args.frame.now.locals.items (reverse c.args.frame.now.operands.items)) c.in_ok-trap.trap c.in-Some.why c.effect.new.self c.effect.new.locals.items (reverse c.effect.new.operands.items) c.in-Some.is g.2 in
    (k.1, effect_fails c.args.store.now (frame_of c.args.frame.now) g.0 c.in-Some-Plain.instr e.0 c.in-Some.why g.1 e.1 q k.0)

pub advance-requires-clause-placed : goal.advance-requires-clause-placed
advance-requires-clause-placed c =
    let e = op_rest c.in-Some-Plain.field-0.now (op.Plain c.in-Some-Plain.instr) c.args.frame.now.at c.args.frame.now.code.value c.deref.result.now c.in-Some-Plain.ensures c.in-Some-Plain.field-0-is c.deref.ensures in
    let q = effect_there c.requires.next.0 c.in-Some-Plain.instr c.requires.next.1 e.0 (frame_of c.args.frame.now).rest c.requires.next.2 e.1 c.requires.next.3 in
    let g = c.in_ok-trap.ensures.gives in
    let f = c.args.frame.now in
    let m : Frame = record { instance = f.instance; results = f.results; code = f.code; at = f.at; locals = c.effect.new.locals; operands = c.effect.new.operands; labels = f.labels } in
    let k = gave_none c.args.store.now (effect c.in-Some-Plain.instr g.0 c.args.store.now f.locals.items (reverse f.operands.items)) c.in_ok-trap.trap c.effect.new.self c.effect.new.locals.items (reverse c.effect.new.operands.items) c.in_default-trap.is g.2 in
    (made c.args.store.now c.effect.new.self c.requires.typed.0 f m c.in-Some-Plain.instr e.0 c.requires.store c.requires.typed.1 e.1 q c.requires.placed (record { instance = refl; results = refl; code = refl; labels = refl }) refl g.0 g.1 k).placed

pub returns-clause-gives : goal.returns-clause-gives
returns-clause-gives c =
    let e = op_rest c.in-Some-Plain.field-0.now (op.Plain c.in-Some-Plain.instr) c.args.frame.now.at c.args.frame.now.code.value c.deref.result.now c.in-Some-Plain.ensures c.in-Some-Plain.field-0-is c.deref.ensures in
    let q = effect_there c.requires.next.0 c.in-Some-Plain.instr c.requires.next.1 e.0 (frame_of c.args.frame.now).rest c.requires.next.2 e.1 c.requires.next.3 in
    let g = c.in_ok-trap.ensures.gives in
    let f = c.args.frame.now in
    let m : Frame = record { instance = f.instance; results = f.results; code = f.code; at = f.at; locals = c.effect.new.locals; operands = c.effect.new.operands; labels = f.labels } in
    let k = gave_none c.args.store.now (effect c.in-Some-Plain.instr g.0 c.args.store.now f.locals.items (reverse f.operands.items)) c.in_ok-trap.trap c.effect.new.self c.effect.new.locals.items (reverse c.effect.new.operands.items) c.in_default-trap.is g.2 in
    (made c.args.store.now c.effect.new.self c.requires.typed.0 f m c.in-Some-Plain.instr e.0 c.requires.store c.requires.typed.1 e.1 q c.requires.placed (record { instance = refl; results = refl; code = refl; labels = refl }) refl g.0 g.1 k).goes (frame_of c.advance.new.self) c.advance.ensures.frame

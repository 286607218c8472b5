use Rattle.std.proofs.Common.{refl}
use Rattle.wasm_execution.specs.declared.frame.Frame.{Frame}
use Rattle.wasm_execution.proofs.Operands.{more_operands}
use Rattle.wasm_execution.proofs.frame.Frame.give_reserved.Goals as goal

pub returns-clause-placed : goal.returns-clause-placed
returns-clause-placed c =
    let f = c.args.self.now in
    let g : Frame = record { instance = f.instance; results = f.results; code = f.code; at = f.at; locals = f.locals; operands = c.push_reserved.new.list; labels = f.labels } in
    (more_operands f g c.args.words.now c.requires.placed (record { instance = refl; results = refl; code = refl; labels = refl }) refl refl c.push_reserved.ensures).0

pub returns-clause-frame : goal.returns-clause-frame
returns-clause-frame c =
    let f = c.args.self.now in
    let g : Frame = record { instance = f.instance; results = f.results; code = f.code; at = f.at; locals = f.locals; operands = c.push_reserved.new.list; labels = f.labels } in
    (more_operands f g c.args.words.now c.requires.placed (record { instance = refl; results = refl; code = refl; labels = refl }) refl refl c.push_reserved.ensures).1

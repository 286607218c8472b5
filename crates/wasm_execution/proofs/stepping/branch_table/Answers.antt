use Rattle.std.proofs.Common.{subst, sym, ℕ}
use Rattle.wasm_execution.specs.Places.{frame_of}
use Rattle.wasm_execution.proofs.Taking.{br_table_ready}
use Rattle.wasm_execution.proofs.Ready.{BranchReady}
use Rattle.wasm_execution.proofs.Popping.{Popped, popped_back, ready_popped}
use Rattle.syntax_trees.specs.Expr.{Plain}
use Rattle.syntax_trees.specs.declared.instr.Instr.TheVariants as instr
use Rattle.wasm_execution.proofs.Going.{popped_table}
use Rattle.wasm_execution.proofs.stepping.branch_table.Goals as goal

pub pop-number-requires-clause-over : goal.pop-number-requires-clause-over
pop-number-requires-clause-over c = (br_table_ready c.requires.typed.0 c.requires.typed.1.0 (frame_of c.args.frame.now) c.requires.next.0 c.requires.next.1 c.requires.next.2 c.requires.typed.1.1 c.requires.next.3).0

pub branch-frame-requires-clause-there : goal.branch-frame-requires-clause-there
branch-frame-requires-clause-there c =
    let e = c.table_label-depth.ensures in
    let pop : Popped (frame_of c.args.frame.now) (frame_of c.pop-number.new.self) c.pop-number.result = record { value = c.pop-number.ensures.value; frame = c.pop-number.ensures.frame } in
    let back = popped_back (frame_of c.args.frame.now) (frame_of c.pop-number.new.self) c.pop-number.result (Plain (instr.BrTable e.0 e.1) e.2) pop e.3 in
    let ready = br_table_ready c.requires.typed.0 c.requires.typed.1.0 (frame_of c.args.frame.now) e.0 e.1 e.2 c.requires.typed.1.1 back in
    subst (λ (d : ℕ). BranchReady d (frame_of c.pop-number.new.self).labels (frame_of c.pop-number.new.self).values) (sym e.4)
    (ready_popped (frame_of c.args.frame.now) (frame_of c.pop-number.new.self) c.pop-number.result _ pop (ready.1 c.pop-number.result))

pub returns-clause-gives : goal.returns-clause-gives
returns-clause-gives c =
    let e = c.table_label-depth.ensures in
    let b = c.branch-frame.ensures.frame in
    popped_table (frame_of c.args.frame.now) (frame_of c.pop-number.new.self) (frame_of c.branch-frame.new.self) e.0 e.1 c.pop-number.result c.table_label-depth.result e.2 b.0
    (record { value = c.pop-number.ensures.value; frame = c.pop-number.ensures.frame }) e.3 e.4 b.1 b.2

use Rattle.std.proofs.Common.{sym, inl, inr}
use Rattle.std.proofs.lemmas.Result.{err_from_is_err_and}
use Rattle.wasm_code_reader.proofs.BodyReading.{starts, goes, goes_else, begins_block, begins_loop, begins_if, ends_part, ends_all, left_with, left_none, refused_instr_may, refused_type, short, reverse_push}
use Rattle.wasm_code_reader.proofs.Back.{back_all, back_end}
use Rattle.wasm_code_reader.proofs.bodies.read_body.Goals as goal

pub loop-index-init : goal.loop-index-init
loop-index-init c = rw (c.new-around.ensures.items, c.new-code.ensures.items, c.new-places.ensures.items) (starts _ _ c.left-count.ensures)

pub returns-in_err-opcode : goal.returns-in_err-opcode
returns-in_err-opcode c =
    let p = err_from_is_err_and c.from_residual.result c.from_residual.ensures.1 in
    rw (p.1, p.2) (short _ _ _ _ _ _ _ _ _ c.loop-index.invariant c.in_err-opcode.ensures.reads)

pub returns-in_err-byte : goal.returns-in_err-byte
returns-in_err-byte c =
    let p = err_from_is_err_and c.from_residual-in_err-byte.result c.from_residual-in_err-byte.ensures.1 in
    rw (p.1, p.2) (short _ _ _ _ _ _ _ _ _ c.loop-index.invariant c.in_err-byte.ensures.reads)

pub returns-in-None : goal.returns-in-None
returns-in-None c =
    rw (c.from_code.ensures, c.from_vec.ensures, c.in_ok-push.ensures.items, c.at-place.ensures.at, c.in_ok-push-2.ensures.items) (ends_all _ _ _ _ _ _ _ (ends_part _ _ _ _ _ _ _ _ _ _ c.loop-index.invariant c.in_ok-opcode.ensures.reads c.if-opcode-eq-END.true) (left_none _ _ c.in-None.ensures))

pub loop-index-preserved-then-opcode-eq-END : goal.loop-index-preserved-then-opcode-eq-END
loop-index-preserved-then-opcode-eq-END c =
    rw (c.in_ok-push.ensures.items, c.at-place.ensures.at, c.in_ok-push-2.ensures.items) (rw (left_with _ _ _ c.in-Some.ensures) at (ends_part _ _ _ _ _ _ _ _ _ _ c.loop-index.invariant c.in_ok-opcode.ensures.reads c.if-opcode-eq-END.true))

pub loop-index-preserved-then-is_else : goal.loop-index-preserved-then-is_else
loop-index-preserved-then-is_else c =
    rw (c.in_ok-push.ensures.items, c.at-place.ensures.at, c.in_ok-push-3.ensures.items) (goes_else _ _ _ _ _ _ _ _ _ _ c.loop-index.invariant c.in_ok-opcode.ensures.reads c.if-opcode-eq-END.false (sym c.if-is_else.ensures))

pub returns-in_err-block_type : goal.returns-in_err-block_type
returns-in_err-block_type c =
    let p = err_from_is_err_and c.from_residual-in_err-block_type.result c.from_residual-in_err-block_type.ensures.1 in
    rw (p.1, p.2) (refused_type _ _ _ _ _ _ _ _ _ _ _ c.loop-index.invariant c.in_ok-opcode.ensures.reads (record { end = c.if-opcode-eq-END.false; middle = sym c.if-is_else.ensures }) (inl c.if-opcode-eq-BLOCK.true) c.in_err-block_type.ensures)

pub returns-in_err-block_type-2 : goal.returns-in_err-block_type-2
returns-in_err-block_type-2 c =
    let p = err_from_is_err_and c.from_residual-in_err-block_type-2.result c.from_residual-in_err-block_type-2.ensures.1 in
    rw (p.1, p.2) (refused_type _ _ _ _ _ _ _ _ _ _ _ c.loop-index.invariant c.in_ok-opcode.ensures.reads (record { end = c.if-opcode-eq-END.false; middle = sym c.if-is_else.ensures }) (inr (inl c.if-opcode-eq-LOOP.true)) c.in_err-block_type-2.ensures)

pub returns-in_err-block_type-3 : goal.returns-in_err-block_type-3
returns-in_err-block_type-3 c =
    let p = err_from_is_err_and c.from_residual-in_err-block_type-3.result c.from_residual-in_err-block_type-3.ensures.1 in
    rw (p.1, p.2) (refused_type _ _ _ _ _ _ _ _ _ _ _ c.loop-index.invariant c.in_ok-opcode.ensures.reads (record { end = c.if-opcode-eq-END.false; middle = sym c.if-is_else.ensures }) (inr (inr c.if-opcode-eq-IF.true)) c.in_err-block_type-3.ensures)

pub loop-index-preserved-then-opcode-eq-BLOCK : goal.loop-index-preserved-then-opcode-eq-BLOCK
loop-index-preserved-then-opcode-eq-BLOCK c =
    rw (c.in_ok-push.ensures.items, c.at-place.ensures.at, c.in_ok-push-4.ensures.items, c.in_ok-push-5.ensures.items, reverse_push) (begins_block _ _ _ _ _ _ _ _ _ _ _ _ c.loop-index.invariant c.in_ok-opcode.ensures.reads (record { end = c.if-opcode-eq-END.false; middle = sym c.if-is_else.ensures }) c.if-opcode-eq-BLOCK.true c.in_ok-block_type.ensures)

pub loop-index-preserved-then-opcode-eq-LOOP : goal.loop-index-preserved-then-opcode-eq-LOOP
loop-index-preserved-then-opcode-eq-LOOP c =
    rw (c.in_ok-push.ensures.items, c.at-place.ensures.at, c.in_ok-push-6.ensures.items, c.in_ok-push-7.ensures.items, reverse_push) (begins_loop _ _ _ _ _ _ _ _ _ _ _ _ c.loop-index.invariant c.in_ok-opcode.ensures.reads (record { end = c.if-opcode-eq-END.false; middle = sym c.if-is_else.ensures }) c.if-opcode-eq-BLOCK.false c.if-opcode-eq-LOOP.true c.in_ok-block_type-2.ensures)

pub loop-index-preserved-then-opcode-eq-IF : goal.loop-index-preserved-then-opcode-eq-IF
loop-index-preserved-then-opcode-eq-IF c =
    rw (c.in_ok-push.ensures.items, c.at-place.ensures.at, c.in_ok-push-8.ensures.items, c.in_ok-push-9.ensures.items, reverse_push) (begins_if _ _ _ _ _ _ _ _ _ _ _ _ c.loop-index.invariant c.in_ok-opcode.ensures.reads (record { end = c.if-opcode-eq-END.false; middle = sym c.if-is_else.ensures }) c.if-opcode-eq-BLOCK.false c.if-opcode-eq-LOOP.false c.if-opcode-eq-IF.true c.in_ok-block_type-3.ensures)

pub returns-in_err-instr : goal.returns-in_err-instr
returns-in_err-instr c =
    let p = err_from_is_err_and c.from_residual-in_err-instr.result c.from_residual-in_err-instr.ensures.1 in
    rw (p.1, p.2) (refused_instr_may _ _ _ _ _ _ _ _ _ _ _ c.args.window.now c.args.window.now _ c.loop-index.invariant c.at-place.ensures.at c.in_ok-opcode.ensures.reads (record { end = c.if-opcode-eq-END.false; middle = sym c.if-is_else.ensures }) c.if-opcode-eq-BLOCK.false c.if-opcode-eq-LOOP.false c.if-opcode-eq-IF.false c.in_err-instr.ensures)

pub loop-index-preserved : goal.loop-index-preserved
loop-index-preserved c =
    rw (c.in_ok-push.ensures.items, c.at-place.ensures.at, c.in_ok-push-10.ensures.items) (goes _ _ _ _ _ _ _ _ _ _ _ _ _ c.loop-index.invariant c.at-place.ensures.at c.in_ok-opcode.ensures.reads (record { end = c.if-opcode-eq-END.false; middle = sym c.if-is_else.ensures }) c.if-opcode-eq-BLOCK.false c.if-opcode-eq-LOOP.false c.if-opcode-eq-IF.false c.in_ok-instr.ensures)

pub from_code-requires : goal.from_code-requires
from_code-requires c =
    rw c.in_ok-push-2.ensures.items (back_all _ _ (left_none _ _ c.in-None.ensures) (back_end _ _ _ c.loop-index.invariant.back))

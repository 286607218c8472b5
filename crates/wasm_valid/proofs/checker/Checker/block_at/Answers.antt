use Rattle.std.proofs.Common.{◌≡◌, ◌<◌, ◌≤◌, ◌-◌, ℕ, length, get_or, sym, ap, ◌∙◌, arith, Some, Option}
use Rattle.syntax_trees.specs.declared.instr.BlockType.{BlockType}
use Rattle.wasm_typing.specs.declared.block.BlockKind.{BlockKind}
use Rattle.wasm_valid.specs.declared.open_block.OpenBlock.{OpenBlock}
use Rattle.wasm_valid.proofs.Stacks.{block_there, block_none}
use Rattle.wasm_valid.proofs.checker.Checker.block_at.Goals as goal

pub returns-then-count-depth : goal.returns-then-count-depth
returns-then-count-depth c =
    let short : length c.self.inside.around.items < c.args.depth = omega (arith, c.len-count.ensures) in
    block_none c.self.inside.top c.self.inside.around.items c.self.inside.operands.items _ _ _ (sym c.self.view_is) short

pub returns : goal.returns
returns c =
    let count : c.len-count.result ≡ length c.self.inside.around.items = omega (arith, c.len-count.ensures) in
    let within : c.args.depth ≤ length c.self.inside.around.items = omega arith in
    ap (λ (b : OpenBlock). (let o : Option (BlockKind × BlockType) = Some (b.kind, b.block_type) in o))
    (c.index.ensures ∙ ap (λ (n : ℕ). get_or c.self.inside.around.items (n - c.args.depth) c.index.result.now) count)
    ∙ sym (block_there c.self.inside.top c.self.inside.around.items c.self.inside.operands.items _ _ c.args.depth c.index.result.now (sym c.self.view_is) c.if-depth-eq0.false within)

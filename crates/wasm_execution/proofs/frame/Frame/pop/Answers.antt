use Rattle.std.proofs.Common.{◌≡◌, ◌-◌, ℕ, length, vec_len, reverse, take, refl, ap, ◌∙◌, rules}
use Rattle.syntax_trees.specs.Expr.{left_at}
use Rattle.wasm_execution.proofs.Changing.{fewer, same_frames}
use Rattle.wasm_execution.proofs.frame.Frame.pop.Goals as goal

pub returns-clause-placed : goal.returns-clause-placed
returns-clause-placed c =
    let long : vec_len c.args.self.now.operands ≡ length c.args.self.now.operands.items = search rules in
    let left : c.pop.new.self.items ≡ take (length c.args.self.now.operands.items - 1) c.args.self.now.operands.items = c.pop.ensures.rest ∙ ap (λ (n : ℕ). take (n - 1) c.args.self.now.operands.items) long in
    (c.requires.placed.0, (fewer c.args.self.now.code.value c.args.self.now.operands.items (reverse c.args.self.now.labels.items) (left_at c.args.self.now.at c.args.self.now.code.value) 1 c.pop.new.self.items c.requires.placed.1 c.requires.over left).around)

pub returns-clause-frame : goal.returns-clause-frame
returns-clause-frame c =
    let long : vec_len c.args.self.now.operands ≡ length c.args.self.now.operands.items = search rules in
    let left : c.pop.new.self.items ≡ take (length c.args.self.now.operands.items - 1) c.args.self.now.operands.items = c.pop.ensures.rest ∙ ap (λ (n : ℕ). take (n - 1) c.args.self.now.operands.items) long in
    same_frames _ _ refl refl refl refl refl
    (fewer c.args.self.now.code.value c.args.self.now.operands.items (reverse c.args.self.now.labels.items) (left_at c.args.self.now.at c.args.self.now.code.value) 1 c.pop.new.self.items c.requires.placed.1 c.requires.over left).labels

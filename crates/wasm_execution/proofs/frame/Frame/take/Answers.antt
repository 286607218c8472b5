use Rattle.std.proofs.Common.{◌≡◌, ◌-◌, ℕ, length, reverse, take, drop, refl, ap, ◌∙◌, rules}
use Rattle.syntax_trees.specs.Expr.{left_at}
use Rattle.wasm_execution.proofs.Changing.{fewer, taken_off, same_frames}
use Rattle.wasm_execution.proofs.frame.Frame.take.Goals as goal

pub returns-clause-placed : goal.returns-clause-placed
returns-clause-placed c =
    let long : c.len.result ≡ length c.args.self.now.operands.items = search rules in
    let left : c.split_off.new.self.items ≡ take (length c.args.self.now.operands.items - c.args.count) c.args.self.now.operands.items =
    c.in_ok-taken.ensures.items ∙ ap (λ (n : ℕ). take (n - c.args.count) c.args.self.now.operands.items) long in
    let changed =
    fewer c.args.self.now.code.value c.args.self.now.operands.items (reverse c.args.self.now.labels.items) (left_at c.args.self.now.at c.args.self.now.code.value) c.args.count c.split_off.new.self.items c.requires.placed.1 c.requires.over left in
    (c.requires.placed.0, changed.around)

pub returns-clause-taken : goal.returns-clause-taken
returns-clause-taken c =
    let long : c.len.result ≡ length c.args.self.now.operands.items = search rules in
    taken_off c.args.self.now.operands.items c.in_ok-taken.taken.items c.args.count
    (c.in_ok-taken.ensures.tail ∙ ap (λ (n : ℕ). drop (n - c.args.count) c.args.self.now.operands.items) long)

pub returns-clause-frame : goal.returns-clause-frame
returns-clause-frame c =
    let long : c.len.result ≡ length c.args.self.now.operands.items = search rules in
    let left : c.split_off.new.self.items ≡ take (length c.args.self.now.operands.items - c.args.count) c.args.self.now.operands.items =
    c.in_ok-taken.ensures.items ∙ ap (λ (n : ℕ). take (n - c.args.count) c.args.self.now.operands.items) long in
    let changed =
    fewer c.args.self.now.code.value c.args.self.now.operands.items (reverse c.args.self.now.labels.items) (left_at c.args.self.now.at c.args.self.now.code.value) c.args.count c.split_off.new.self.items c.requires.placed.1 c.requires.over left in
    same_frames _ _ refl refl refl changed.are refl changed.labels

use Rattle.std.proofs.Common.{◌≡◌, ◌-◌, length, ℕ, refl, ap, None, rules}
use Rattle.syntax_trees.specs.Expr.{left_at}
use Rattle.wasm_code.specs.Jumps as jumps
use Rattle.wasm_execution.specs.declared.frame.OpenLabel.{OpenLabel}
use Rattle.wasm_execution.proofs.Changing.{same_frames}
use Rattle.wasm_execution.proofs.Opening.{second_begins}
use Rattle.wasm_execution.proofs.frame.Frame.enter_second.Goals as goal

pub returns-clause-placed : goal.returns-clause-placed
returns-clause-placed c =
    let label : OpenLabel = record { arity = c.args.results; height = c.len.result - c.args.params; again = None; after = c.behind-after.result } in
    let behind : left_at c.behind-after.result c.args.self.now.code.value ≡ jumps.behind_block (left_at c.args.self.now.at c.args.self.now.code.value) = search rules in
    let second : left_at c.second-second.result c.args.self.now.code.value ≡ jumps.second_part (left_at c.args.self.now.at c.args.self.now.code.value) = search rules in
    let long : c.len.result ≡ length c.args.self.now.operands.items = search rules in
    let height : c.len.result - c.args.params ≡ length c.args.self.now.operands.items - c.args.params = ap (λ (n : ℕ). n - c.args.params) long in
    let begun =
    second_begins c.args.self.now.code.value c.args.self.now.operands.items c.args.self.now.labels.items c.push.new.self.items label c.args.self.now.at c.second-second.result c.args.params c.requires.placed.1 c.requires.begins c.requires.over behind second height refl c.in_ok-push.ensures.items in
    (c.requires.placed.0, begun.around)

pub returns-clause-frame : goal.returns-clause-frame
returns-clause-frame c =
    let label : OpenLabel = record { arity = c.args.results; height = c.len.result - c.args.params; again = None; after = c.behind-after.result } in
    let behind : left_at c.behind-after.result c.args.self.now.code.value ≡ jumps.behind_block (left_at c.args.self.now.at c.args.self.now.code.value) = search rules in
    let second : left_at c.second-second.result c.args.self.now.code.value ≡ jumps.second_part (left_at c.args.self.now.at c.args.self.now.code.value) = search rules in
    let long : c.len.result ≡ length c.args.self.now.operands.items = search rules in
    let height : c.len.result - c.args.params ≡ length c.args.self.now.operands.items - c.args.params = ap (λ (n : ℕ). n - c.args.params) long in
    let begun =
    second_begins c.args.self.now.code.value c.args.self.now.operands.items c.args.self.now.labels.items c.push.new.self.items label c.args.self.now.at c.second-second.result c.args.params c.requires.placed.1 c.requires.begins c.requires.over behind second height refl c.in_ok-push.ensures.items in
    same_frames _ _ refl refl refl refl begun.rest begun.labels_are

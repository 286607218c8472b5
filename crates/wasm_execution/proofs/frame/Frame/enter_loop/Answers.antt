use Rattle.std.proofs.Common.{◌≡◌, ◌-◌, ◌+◌, length, ℕ, refl, ap, Some, rules}
use Rattle.syntax_trees.specs.Expr.{left_at, behind_op}
use Rattle.wasm_code.specs.Jumps as jumps
use Rattle.wasm_execution.specs.declared.frame.OpenLabel.{OpenLabel}
use Rattle.wasm_execution.specs.Shape.{first_part}
use Rattle.wasm_execution.specs.Places.{rest_at}
use Rattle.wasm_execution.proofs.Pieces.{loop_opened}
use Rattle.wasm_execution.proofs.Changing.{same_frames}
use Rattle.wasm_execution.proofs.Opening.{loop_begins, inside_fits}
use Rattle.wasm_execution.proofs.frame.Frame.enter_loop.Goals as goal

pub overflow_add-self : goal.overflow_add-self
overflow_add-self c =
    let left = left_at c.args.self.now.at c.args.self.now.code.value in
    inside_fits c.args.self.now.at c.args.self.now.code.value (behind_op left) (jumps.behind_block left) (first_part (rest_at c.args.self.now.at c.args.self.now.code.value)) (loop_opened left c.requires.begins) c.requires.placed.0

pub returns-clause-placed : goal.returns-clause-placed
returns-clause-placed c =
    let label : OpenLabel = record { arity = c.args.params; height = c.len.result - c.args.params; again = Some (c.args.self.now.at + 1); after = c.behind-after.result } in
    let behind : left_at c.behind-after.result c.args.self.now.code.value ≡ jumps.behind_block (left_at c.args.self.now.at c.args.self.now.code.value) = search rules in
    let long : c.len.result ≡ length c.args.self.now.operands.items = search rules in
    let height : c.len.result - c.args.params ≡ length c.args.self.now.operands.items - c.args.params = ap (λ (n : ℕ). n - c.args.params) long in
    let begun =
    loop_begins c.args.self.now.code.value c.args.self.now.operands.items c.args.self.now.labels.items c.push.new.self.items label c.args.self.now.at c.args.params c.requires.placed.1 c.requires.begins c.requires.over behind height refl c.in_ok-push.ensures.items in
    (c.requires.placed.0, begun.around)

pub returns-clause-frame : goal.returns-clause-frame
returns-clause-frame c =
    let label : OpenLabel = record { arity = c.args.params; height = c.len.result - c.args.params; again = Some (c.args.self.now.at + 1); after = c.behind-after.result } in
    let behind : left_at c.behind-after.result c.args.self.now.code.value ≡ jumps.behind_block (left_at c.args.self.now.at c.args.self.now.code.value) = search rules in
    let long : c.len.result ≡ length c.args.self.now.operands.items = search rules in
    let height : c.len.result - c.args.params ≡ length c.args.self.now.operands.items - c.args.params = ap (λ (n : ℕ). n - c.args.params) long in
    let begun =
    loop_begins c.args.self.now.code.value c.args.self.now.operands.items c.args.self.now.labels.items c.push.new.self.items label c.args.self.now.at c.args.params c.requires.placed.1 c.requires.begins c.requires.over behind height refl c.in_ok-push.ensures.items in
    same_frames _ _ refl refl refl refl begun.rest begun.labels_are

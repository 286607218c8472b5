use Rattle.std.proofs.Common.{◌≡◌, ◌+◌, ◌-◌, ◌≤◌, ℕ, vec_len, arith, length, reverse, refl, ap, sym, ◌∙◌, Option, Some, None, rules}
use Rattle.std.specs.Option.{option_map}
use Rattle.syntax_trees.specs.Expr.{Expr, left_at}
use Rattle.wasm_store.specs.Stack as stack
use Rattle.wasm_store.specs.Step.{landed}
use Rattle.wasm_execution.specs.declared.frame.OpenLabel.{OpenLabel}
use Rattle.wasm_execution.specs.Places.{rest_at, label_of, frame_of}
use Rattle.wasm_execution.proofs.Changing.{same_frames}
use Rattle.wasm_execution.proofs.Landing.{is_target, is_unwound, landed_behind, landed_again}
use Rattle.wasm_execution.proofs.frame.Frame.branch.Goals as goal

pub unwind-requires : goal.unwind-requires
unwind-requires c =
    let label : OpenLabel = c.index-label.result.now in
    let long : c.len.result ≡ length c.args.self.now.labels.items = search rules in
    let k : c.len.result - 1 - c.args.depth ≡ length c.args.self.now.labels.items - 1 - c.args.depth = ap (λ (n : ℕ). n - 1 - c.args.depth) long in
    let t =
    is_target c.args.self.now.code.value c.args.self.now.operands.items c.args.self.now.labels.items (left_at c.args.self.now.at c.args.self.now.code.value) c.args.depth (c.len.result - 1 - c.args.depth) label c.requires.there.0 c.requires.placed.1 c.requires.there.1 c.requires.there.2 k c.index-label.ensures in
    let room : label.height + label.arity ≤ length c.args.self.now.operands.items = t.room in
    let many : vec_len c.args.self.now.operands ≡ length c.args.self.now.operands.items = search rules in
    omega arith

pub returns-in-None-clause-placed : goal.returns-in-None-clause-placed
returns-in-None-clause-placed c =
    let label : OpenLabel = c.index-label.result.now in
    let long : c.len.result ≡ length c.args.self.now.labels.items = search rules in
    let k : c.len.result - 1 - c.args.depth ≡ length c.args.self.now.labels.items - 1 - c.args.depth = ap (λ (n : ℕ). n - 1 - c.args.depth) long in
    let t =
    is_target c.args.self.now.code.value c.args.self.now.operands.items c.args.self.now.labels.items (left_at c.args.self.now.at c.args.self.now.code.value) c.args.depth (c.len.result - 1 - c.args.depth) label c.requires.there.0 c.requires.placed.1 c.requires.there.1 c.requires.there.2 k c.index-label.ensures in
    let u = is_unwound c.args.self.now.operands.items c.unwind.new.operands.items label.height label.arity t.room c.unwind.ensures in
    let lands =
    landed_behind c.args.self.now.code.value c.args.self.now.operands.items c.args.self.now.labels.items c.unwind.new.operands.items c.truncate.new.self.items c.args.depth (c.len.result - 1 - c.args.depth) label t u k c.truncate.ensures.items in
    (c.requires.placed.0, lands.around)

pub returns-in-None-clause-frame : goal.returns-in-None-clause-frame
returns-in-None-clause-frame c =
    let body : Expr = c.args.self.now.code.value in
    let label : OpenLabel = c.index-label.result.now in
    let long : c.len.result ≡ length c.args.self.now.labels.items = search rules in
    let k : c.len.result - 1 - c.args.depth ≡ length c.args.self.now.labels.items - 1 - c.args.depth = ap (λ (n : ℕ). n - 1 - c.args.depth) long in
    let t =
    is_target c.args.self.now.code.value c.args.self.now.operands.items c.args.self.now.labels.items (left_at c.args.self.now.at c.args.self.now.code.value) c.args.depth (c.len.result - 1 - c.args.depth) label c.requires.there.0 c.requires.placed.1 c.requires.there.1 c.requires.there.2 k c.index-label.ensures in
    let u = is_unwound c.args.self.now.operands.items c.unwind.new.operands.items label.height label.arity t.room c.unwind.ensures in
    let lands =
    landed_behind c.args.self.now.code.value c.args.self.now.operands.items c.args.self.now.labels.items c.unwind.new.operands.items c.truncate.new.self.items c.args.depth (c.len.result - 1 - c.args.depth) label t u k c.truncate.ensures.items in
    let seen : stack.Label = label_of body c.args.self.now.operands.items label in
    let none : option_map (λ (at : ℕ). rest_at at body) label.again ≡ None = ap (option_map (λ (at : ℕ). rest_at at body)) c.in-None.is in (
      seen,
      t.there,
      same_frames _ (landed None c.args.depth seen (reverse c.args.self.now.operands.items) (frame_of c.args.self.now)) refl refl refl u.values refl lands.labels_are
          ∙ ap (λ (o : Option Expr). landed o c.args.depth seen (reverse c.args.self.now.operands.items) (frame_of c.args.self.now)) (sym none),
    )

pub returns-in-Some-clause-placed : goal.returns-in-Some-clause-placed
returns-in-Some-clause-placed c =
    let label : OpenLabel = c.index-label.result.now in
    let long : c.len.result ≡ length c.args.self.now.labels.items = search rules in
    let k : c.len.result - 1 - c.args.depth ≡ length c.args.self.now.labels.items - 1 - c.args.depth = ap (λ (n : ℕ). n - 1 - c.args.depth) long in
    let t =
    is_target c.args.self.now.code.value c.args.self.now.operands.items c.args.self.now.labels.items (left_at c.args.self.now.at c.args.self.now.code.value) c.args.depth (c.len.result - 1 - c.args.depth) label c.requires.there.0 c.requires.placed.1 c.requires.there.1 c.requires.there.2 k c.index-label.ensures in
    let u = is_unwound c.args.self.now.operands.items c.unwind.new.operands.items label.height label.arity t.room c.unwind.ensures in
    let lands =
    landed_again c.args.self.now.code.value c.args.self.now.operands.items c.args.self.now.labels.items c.unwind.new.operands.items c.truncate-in-Some.new.self.items c.args.depth (c.len.result - 1 - c.args.depth) c.in-Some.start label t u c.in-Some.is k c.truncate-in-Some.ensures.items in
    (c.requires.placed.0, lands.around)

pub returns-in-Some-clause-frame : goal.returns-in-Some-clause-frame
returns-in-Some-clause-frame c =
    let body : Expr = c.args.self.now.code.value in
    let label : OpenLabel = c.index-label.result.now in
    let long : c.len.result ≡ length c.args.self.now.labels.items = search rules in
    let k : c.len.result - 1 - c.args.depth ≡ length c.args.self.now.labels.items - 1 - c.args.depth = ap (λ (n : ℕ). n - 1 - c.args.depth) long in
    let t =
    is_target c.args.self.now.code.value c.args.self.now.operands.items c.args.self.now.labels.items (left_at c.args.self.now.at c.args.self.now.code.value) c.args.depth (c.len.result - 1 - c.args.depth) label c.requires.there.0 c.requires.placed.1 c.requires.there.1 c.requires.there.2 k c.index-label.ensures in
    let u = is_unwound c.args.self.now.operands.items c.unwind.new.operands.items label.height label.arity t.room c.unwind.ensures in
    let lands =
    landed_again c.args.self.now.code.value c.args.self.now.operands.items c.args.self.now.labels.items c.unwind.new.operands.items c.truncate-in-Some.new.self.items c.args.depth (c.len.result - 1 - c.args.depth) c.in-Some.start label t u c.in-Some.is k c.truncate-in-Some.ensures.items in
    let seen : stack.Label = label_of body c.args.self.now.operands.items label in
    let some : option_map (λ (at : ℕ). rest_at at body) label.again ≡ Some (rest_at c.in-Some.start body) = ap (option_map (λ (at : ℕ). rest_at at body)) c.in-Some.is in (
      seen,
      t.there,
      same_frames _ (landed (Some (rest_at c.in-Some.start body)) c.args.depth seen (reverse c.args.self.now.operands.items) (frame_of c.args.self.now)) refl refl refl u.values refl lands.labels_are
          ∙ ap (λ (o : Option Expr). landed o c.args.depth seen (reverse c.args.self.now.operands.items) (frame_of c.args.self.now)) (sym some),
    )

-- What typed frames have: operands over those under the blocks around, and labels that branches go to.
use Rattle.std.proofs.Common.{◌≡◌, ◌≤◌, ◌+◌, ℕ, zero, suc, List, [], ◌∷◌, ◌++◌, length, reverse, refl, ap, sym, ◌∙◌, subst, arith, Option, Some, length-append}
use Rattle.std.specs.List.{slice_get}
use Rattle.std.proofs.lemmas.List.{length-reverse}
use Rattle.syntax_trees.specs.declared.module_types.ValType.{ValType}
use Rattle.syntax_trees.specs.declared.module_types.FuncType.{FuncType}
use Rattle.syntax_trees.specs.declared.instr.BlockType.{BlockType}
use Rattle.syntax_trees.specs.declared.instr.Instr.TheVariants as instr
use Rattle.syntax_trees.specs.Expr.{Expr, Plain, Block}
use Rattle.wasm_typing.specs.Context.{Context, params}
use Rattle.wasm_typing.specs.Typing.{Operands, Takes, TypedFrom}
use Rattle.wasm_numbers.specs.Types.{AreWords}
use Rattle.wasm_store.specs.Store.{Instance, Store}
use Rattle.wasm_store.specs.Stack.{Label, Frame}
use Rattle.wasm_store.specs.Typed.{known, LabelsTyped, FrameTyped}
use Rattle.wasm_store.proofs.Words.{as_long}
use Rattle.wasm_store.proofs.Framing.{over_takes}
use Rattle.wasm_execution.specs.Shape.{HasOver}

over_labels : (c : Context) (labels : List Label) (types : List (List ValType)) (ends : List ValType) (under values front back : List ℕ) → LabelsTyped c labels types ends under → values ≡ front ++ (back ++ under) → HasOver (length front) labels values
over_labels c [] types ends under values front back h v =
    let long : length values ≡ length front + length (back ++ under) = ap length v ∙ length-append front (back ++ under) in omega (arith, long)
over_labels c (l ∷ labels) [] ends under values front back h v = absurd h
over_labels c (l ∷ labels) (t ∷ types) ends under values front back h v =
    let long : length values ≡ length front + length (back ++ under) = ap length v ∙ length-append front (back ++ under) in
    let more : length (back ++ under) ≡ length back + length under = length-append back under in
    let same : length under ≡ length l.under = ap length h.1 in omega (arith, long, more, same)

-- The operands that an instruction takes lie over those under the innermost block.
pub has_over : (s : Store) (gives : List ValType) (f : Frame) (h : FrameTyped s [] gives f) (types : List ValType) (below : Operands) → Takes types (known h.own) below → HasOver (length types) f.labels f.values
has_over s gives f h types below takes =
    let p = over_takes types h.own h.words f.values h.under below takes h.typed h.values_are in
    subst (λ (n : ℕ). HasOver n f.labels f.values) (as_long types p.front p.ahead)
    (over_labels h.context f.labels h.types h.ends h.under f.values p.front p.back h.around p.values_are)

-- A branch may go to a label, over these values.
abbrev pub BranchReady : ℕ → List Label → List ℕ → Type 0
BranchReady depth labels values = (l : Label) × (slice_get labels depth ≡ Some l) × (length l.under + l.arity ≤ length values)

target_there : (c : Context) (depth : ℕ) (labels : List Label) (types : List (List ValType)) (type ends : List ValType) (under : List ℕ) → LabelsTyped c labels types ends under → slice_get types depth ≡ Some type → (l : Label) × (slice_get labels depth ≡ Some l) × (l.arity ≡ length type) × (length l.under ≤ length under)
target_there c depth [] [] type ends under h e = cc
target_there c depth [] (t ∷ types) type ends under h e = absurd h
target_there c depth (l ∷ labels) [] type ends under h e = absurd h
target_there c zero (l ∷ labels) (t ∷ types) type ends under h e =
    let same : t ≡ type = cc in
    let long : length under ≡ length l.under = ap length h.1 in
    (l, refl, h.0 ∙ ap length same, omega (arith, long))
target_there c (suc depth) (l ∷ labels) (t ∷ types) type ends under (arity, under_is, again, (own, words, below, outer, lies, typed, after, more)) e =
    let k = target_there c depth labels types type outer below more e in
    let long : length under ≡ length words + length below = ap length (under_is ∙ lies) ∙ length-append words below in
    let deep = k.3 in
    (k.0, k.1, k.2, omega (arith, long, deep))

pub branch_ready : (s : Store) (gives : List ValType) (f : Frame) (h : FrameTyped s [] gives f) (depth : ℕ) (type : List ValType) (vs front back : List ℕ) → slice_get h.types depth ≡ Some type → AreWords (reverse type) front → vs ≡ front ++ (back ++ h.under) → BranchReady depth f.labels vs
branch_ready s gives f h depth type vs front back there w v =
    let k = target_there h.context depth f.labels h.types type h.ends h.under h.around there in
    let long : length vs ≡ length front + length (back ++ h.under) = ap length v ∙ length-append front (back ++ h.under) in
    let more : length (back ++ h.under) ≡ length back + length h.under = length-append back h.under in
    let arity : k.0.arity ≡ length front = k.2 ∙ sym (length-reverse type) ∙ sym (as_long (reverse type) front w) in
    let deep = k.3 in
    (k.0, k.1, omega (arith, long, more, arity, deep))

-- what is left of a typed frame is typed
pub left_typed : (s : Store) (gives : List ValType) (f : Frame) (h : FrameTyped s [] gives f) (e : Expr) → f.rest ≡ e → TypedFrom h.context h.types h.ends e (known h.own)
left_typed s gives f h e is = subst (λ (e : Expr). TypedFrom h.context h.types h.ends e (known h.own)) is h.left

pub br_ready : (s : Store) (gives : List ValType) (f : Frame) (depth : ℕ) (r : Expr) → FrameTyped s [] gives f → f.rest ≡ Plain (instr.Br depth) r → BranchReady depth f.labels f.values
br_ready s gives f depth r h e =
    let typed = left_typed s gives f h (Plain (instr.Br depth) r) e in
    let a = typed.1 in
    let p = over_takes (reverse a.0) h.own h.words f.values h.under a.2.0 a.2.1 h.typed h.values_are in
    branch_ready s gives f h depth a.0 f.values p.front p.back a.1 p.ahead p.values_are

-- A block that begins takes operands.
pub block_over : (s : Store) (gives : List ValType) (f : Frame) (i : Instance) (t : BlockType) (b r : Expr) → FrameTyped s [] gives f → slice_get s.instances f.instance ≡ Some i → f.rest ≡ Block t b r → HasOver (length (params i.types t)) f.labels f.values
block_over s gives f i t b r h there e =
    let typed = left_typed s gives f h (Block t b r) e in
    over_of s gives f h i t typed.1.0 there typed.1.1
  where
    over_of : (s : Store) (gives : List ValType) (f : Frame) (h : FrameTyped s [] gives f) (i : Instance) (t : BlockType) (below : Operands) → slice_get s.instances f.instance ≡ Some i → Takes (reverse (params h.context.types t)) (known h.own) below → HasOver (length (params i.types t)) f.labels f.values
    over_of s gives f h i t below there takes =
        let same : h.owner ≡ i = (let q : (let o : Option Instance = Some h.owner in o) ≡ Some i = sym h.there ∙ there in cc) in
        let long : length (reverse (params h.context.types t)) ≡ length (params i.types t) =
        length-reverse (params h.context.types t) ∙ ap (λ (ts : List FuncType). length (params ts t)) (sym h.has.types ∙ ap (λ (i : Instance). i.types) same) in
        subst (λ (n : ℕ). HasOver n f.labels f.values) long (has_over s gives f h (reverse (params h.context.types t)) below takes)

-- Operands above floors, and open blocks around one another.
use Rattle.std.proofs.Common.{◌≡◌, ◌<◌, ◌≤◌, ◌+◌, ◌-◌, ℕ, zero, suc, Bool, true, false, List, [], ◌∷◌, ◌++◌, length, get_or, take, drop, map, reverse, refl, ap, sym, ◌∙◌, subst, Some, None, arith}
use Rattle.std.specs.Prelude.{nat_le}
use Rattle.std.specs.List.{slice_get}
use Rattle.std.proofs.lemmas.Bool.Decides.{nat_tests}
use Rattle.std.specs.Option.{option_map}
use Rattle.std.proofs.lemmas.List.{reverse-append, length-reverse, length-drop, get_or-reverse, length-map, take-append-drop, drop-take}
use Rattle.std.proofs.lemmas.Option.{slice_get-map, slice_get-get_or, slice_get_past}
use Rattle.std.proofs.Math.Seq.{drop-append_seam}
use Rattle.syntax_trees.specs.declared.module_types.ValType.{ValType}
use Rattle.syntax_trees.specs.declared.instr.BlockType.{BlockType}
use Rattle.wasm_typing.specs.declared.block.BlockKind.{BlockKind}
use Rattle.wasm_valid.specs.declared.open_block.OpenBlock.{OpenBlock}
use Rattle.wasm_typing.specs.Context.{Context}
use Rattle.wasm_typing.specs.Typing.{Operands, operands_of}
use Rattle.wasm_typing.specs.Faults.{label_of}
use Rattle.wasm_typing.specs.Checking.{Control, labels_in}
use Rattle.wasm_valid.specs.State.{State, seen, top_of, all_of, kinds, LeftFor, Left}

length_reverse : (xs : Operands) → reverse xs ≡ [] → length xs ≡ 0
length_reverse xs h = omega (arith, length-reverse xs, ap length h)

take_whole : (n : ℕ) (os : Operands) → length os ≤ n → take n os ≡ os
take_whole zero [] h = refl
take_whole zero (x ∷ os) h = absurd (omega arith)
take_whole (suc n) [] h = refl
take_whole (suc n) (x ∷ os) h = ap (λ (xs : Operands). x ∷ xs) (take_whole n os (omega arith))

-- no operand above the floor
all_under : (b : OpenBlock) (os : Operands) → reverse (drop b.height os) ≡ [] → take b.height os ≡ os
all_under b os h =
    let none = length_reverse (drop b.height os) h in
    take_whole b.height os (omega (arith, length-drop b.height os))

-- The innermost block is left.
pub leaves : (b top : OpenBlock) (old new : List OpenBlock) (os : Operands) (s : State) → s ≡ (top_of b os, seen (reverse old) (take b.height os)) → s.0.known.types ≡ [] → old ≡ new ++ top ∷ [] → Left true s (top_of top os, seen (reverse new) (take top.height os))
leaves b top old new os s is none around =
    let bare : reverse (drop b.height os) ≡ [] = sym (ap (λ (s : State). s.0.known.types) is) ∙ none in
    let under : s.1 ≡ top_of top os ∷ seen (reverse new) (take top.height os) =
    ap (λ (s : State). s.1) is
    ∙ ap (seen (reverse old)) (all_under b os bare)
    ∙ ap (λ (bs : List OpenBlock). seen bs os) (ap reverse around ∙ reverse-append new (top ∷ [])) in
    subst (λ (cs : List Control). LeftFor cs true (top_of top os, seen (reverse new) (take top.height os))) (sym under) (refl, refl)

abbrev Kind : Type 0
Kind = BlockKind × BlockType

abbrev kind_of : OpenBlock → Kind
kind_of b = (b.kind, b.block_type)

kinds_seen : (bs : List OpenBlock) (os : Operands) → kinds (seen bs os) ≡ map kind_of bs
kinds_seen [] os = refl
kinds_seen (b ∷ bs) os = ap (λ (ks : List Kind). kind_of b ∷ ks) (kinds_seen bs (take b.height os))

there : (around : List OpenBlock) (k : ℕ) (d : OpenBlock) → k < length around → slice_get (map kind_of (reverse around)) k ≡ Some (kind_of (get_or around (length around - (suc k)) d))
there around k d h =
    let within : k < length (reverse around) = omega (arith, length-reverse around) in
    let same : length around - 1 - k ≡ length around - suc k = omega arith in
    slice_get-map kind_of (reverse around) k
    ∙ ap (option_map kind_of) (slice_get-get_or (reverse around) k d within)
    ∙ ap (λ (b : OpenBlock). Some (kind_of b)) (get_or-reverse around k d h ∙ ap (λ (at : ℕ). get_or around at d) same)

pub block_there : (b : OpenBlock) (around : List OpenBlock) (os us : Operands) (s : State) (depth : ℕ) (d : OpenBlock) → s ≡ (top_of b os, seen (reverse around) us) → (depth ≡ 0 → ⊥) → depth ≤ length around → slice_get (kinds (all_of s)) depth ≡ Some (kind_of (get_or around (length around - depth) d))
block_there b around os us s zero d is more h = absurd (more refl)
block_there b around os us s (suc k) d is more h =
    ap (λ (s : State). slice_get (kinds s.1) k) is ∙ ap (λ (ks : List Kind). slice_get ks k) (kinds_seen (reverse around) us) ∙ there around k d (omega arith)

pub block_none : (b : OpenBlock) (around : List OpenBlock) (os us : Operands) (s : State) (depth : ℕ) → s ≡ (top_of b os, seen (reverse around) us) → length around < depth → None ≡ slice_get (kinds (all_of s)) depth
block_none b around os us s zero is h = absurd (omega arith)
block_none b around os us s (suc k) is h =
    sym (ap (λ (s : State). slice_get (kinds s.1) k) is ∙ ap (λ (ks : List Kind). slice_get ks k) (kinds_seen (reverse around) us)
    ∙ slice_get_past (map kind_of (reverse around)) k (omega (arith, length-map (reverse around) kind_of, length-reverse around)))

-- the label of an open block
labels_kinds : (c : Context) (fs : List Control) → labels_in c fs ≡ map (λ (k : Kind). label_of c k.0 k.1) (kinds fs)
labels_kinds c [] = refl
labels_kinds c (f ∷ fs) = ap (λ (ls : List (List ValType)). label_of c f.kind f.type ∷ ls) (labels_kinds c fs)

label_at : (c : Context) (fs : List Control) (depth : ℕ) → slice_get (labels_in c fs) depth ≡ option_map (λ (k : Kind). label_of c k.0 k.1) (slice_get (kinds fs) depth)
label_at c fs depth = ap (λ (ls : List (List ValType)). slice_get ls depth) (labels_kinds c fs) ∙ slice_get-map (λ (k : Kind). label_of c k.0 k.1) (kinds fs) depth

pub label_none : (c : Context) (fs : List Control) (depth : ℕ) → None ≡ slice_get (kinds fs) depth → None ≡ slice_get (labels_in c fs) depth
label_none c fs depth e = sym (label_at c fs depth ∙ ap (option_map (λ (k : Kind). label_of c k.0 k.1)) (sym e))

pub label_some : (c : Context) (fs : List Control) (depth : ℕ) (kind : BlockKind) (type : BlockType) → Some (kind, type) ≡ slice_get (kinds fs) depth → Some (label_of c kind type) ≡ slice_get (labels_in c fs) depth
label_some c fs depth kind type e = sym (label_at c fs depth ∙ ap (option_map (λ (k : Kind). label_of c k.0 k.1)) (sym e))

take_one : (types : List ValType) (at : ℕ) (t d : ValType) → t ≡ get_or types at d → at < length types → take (at + 1) types ≡ take at types ++ t ∷ []
take_one [] at t d e h = absurd (omega arith)
take_one (x ∷ types) zero t d e h = ap (λ (t : ValType). t ∷ []) (sym e)
take_one (x ∷ types) (suc at) t d e h =
    let n : suc at + 1 ≡ suc (at + 1) = omega arith in
    ap (λ (n : ℕ). take n (x ∷ types)) n ∙ ap (λ (ts : List ValType). x ∷ ts) (take_one types at t d e (omega arith))

-- one more operand on top
pub pushed_more : (types : List ValType) (at : ℕ) (t d : ValType) → t ≡ get_or types at d → at < length types → operands_of (take (at + 1) types) ≡ Some t ∷ operands_of (take at types)
pushed_more types at t d e h =
    let first : take (at + 1) types ≡ take at types ++ t ∷ [] = take_one types at t d e h in
    ap operands_of first ∙ ap (map (λ (t : ValType). Some t)) (reverse-append (take at types) (t ∷ []))

take_take : (h k : ℕ) (os : Operands) → take h (take (h + k) os) ≡ take h os
take_take zero k os = refl
take_take (suc h) k [] = let n : suc h + k ≡ suc (h + k) = omega arith in ap (λ (n : ℕ). take (suc h) (take n [])) n
take_take (suc h) k (o ∷ os) =
    let n : suc h + k ≡ suc (h + k) = omega arith in
    ap (λ (n : ℕ). take (suc h) (take n (o ∷ os))) n ∙ ap (λ (os : Operands). o ∷ os) (take_take h k os)

drop_past : (n : ℕ) (os : Operands) → length os ≤ n → drop n os ≡ []
drop_past zero [] h = refl
drop_past zero (x ∷ os) h = absurd (omega arith)
drop_past (suc n) [] h = refl
drop_past (suc n) (x ∷ os) h = drop_past n os (omega arith)

length_take : (k : ℕ) (xs : Operands) → k ≤ length xs → length (take k xs) ≡ k
length_take zero xs h = refl
length_take (suc k) [] h = absurd (omega arith)
length_take (suc k) (x ∷ xs) h = ap suc (length_take k xs (omega arith))

-- the last operands off
drop_reverse_in : (n k : ℕ) (xs : Operands) → k + n ≡ length xs → drop n (reverse xs) ≡ reverse (take k xs)
drop_reverse_in n k xs e =
    let size : length (reverse (drop k xs)) ≡ n = omega (arith, length-reverse (drop k xs), length-drop k xs, e) in
    let parts : reverse xs ≡ reverse (drop k xs) ++ reverse (take k xs) = ap reverse (sym (take-append-drop k xs)) ∙ reverse-append (take k xs) (drop k xs) in
    ap (drop n) parts ∙ ap (λ (n : ℕ). drop n (reverse (drop k xs) ++ reverse (take k xs))) (sym size) ∙ drop-append_seam (reverse (drop k xs)) (reverse (take k xs))

drop_reverse_none : (n k : ℕ) (xs : Operands) → k ≡ length xs - n → length xs < n → drop n (reverse xs) ≡ reverse (take k xs)
drop_reverse_none n k xs e h =
    let none : k ≡ 0 = omega arith in
    drop_past n (reverse xs) (omega (arith, length-reverse xs)) ∙ sym (ap (λ (k : ℕ). reverse (take k xs)) none)

by_test : (b : Bool) (P : Type 0) → (b ≡ true → P) → (b ≡ false → P) → P
by_test true P f g = f refl
by_test false P f g = g refl

drop_reverse : (n k : ℕ) (xs : Operands) → k ≡ length xs - n → drop n (reverse xs) ≡ reverse (take k xs)
drop_reverse n k xs e =
    let whole : nat_le n (length xs) ≡ true → drop n (reverse xs) ≡ reverse (take k xs) = λ h. let le : n ≤ length xs = grind (arith, nat_tests) in drop_reverse_in n k xs (omega arith) in
    let none : nat_le n (length xs) ≡ false → drop n (reverse xs) ≡ reverse (take k xs) = λ h. let lt : length xs < n = grind (arith, nat_tests) in drop_reverse_none n k xs e lt in
    by_test (nat_le n (length xs)) (drop n (reverse xs) ≡ reverse (take k xs)) whole none

-- what is known above the floor, when the operands end at this place
pub top_kept : (h n left : ℕ) (os : Operands) → h ≤ length os → left ≡ (length os - h) - n → reverse (drop h (take (h + left) os)) ≡ drop n (reverse (drop h os))
top_kept h n left os within e =
    ap reverse (drop-take h left os) ∙ sym (drop_reverse n left (drop h os) (omega (arith, length-drop h os)))

pub under_kept : (h left : ℕ) (os : Operands) → take h (take (h + left) os) ≡ take h os
under_kept h left os = take_take h left os

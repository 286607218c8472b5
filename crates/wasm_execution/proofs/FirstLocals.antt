-- The locals of a call: its arguments, and a 0 for each declared local.
use Rattle.std.proofs.Common.{◌≡◌, ℕ, ◌+◌, ◌<◌, List, [], ◌∷◌, ◌++◌, map, length, take, get_or, replicate, zero, suc, refl, sym, ap, ◌∙◌, append_assoc}
use Rattle.std.proofs.lemmas.List.{map-append, append-nil}
use Rattle.std.proofs.lemmas.Grind.{take_at_read}
use Rattle.syntax_trees.specs.declared.module_types.ValType.{ValType}
use Rattle.syntax_trees.specs.declared.module_types.Locals.{Locals}
use Rattle.syntax_trees.specs.Locals.{declared_locals}
use Rattle.wasm_execution.specs.Zeros.{zeros}

declared_append : (groups more : List Locals) → declared_locals (groups ++ more) ≡ declared_locals groups ++ declared_locals more
declared_append [] more = refl
declared_append (group ∷ groups) more = rw (declared_append groups more) (sym (append_assoc (replicate group.count group.val_type) (declared_locals groups) (declared_locals more)))

zeros_of_copies : (count : ℕ) (type : ValType) → map {B = ℕ} (λ type. 0) (replicate count type) ≡ replicate count 0
zeros_of_copies zero type = refl
zeros_of_copies (suc count) type = ap (λ (words : List ℕ). 0 ∷ words) (zeros_of_copies count type)

-- one group more
more_zeros : (groups : List Locals) (group : Locals) → zeros (groups ++ group ∷ []) ≡ zeros groups ++ replicate group.count 0
more_zeros groups group =
    let copies : List ValType = replicate group.count group.val_type in
    let of : List ValType → List ℕ = map (λ type. 0) in
    let last : of (copies ++ []) ≡ replicate group.count 0 = ap of (append-nil copies) ∙ zeros_of_copies group.count group.val_type in
    let split : zeros (groups ++ group ∷ []) ≡ zeros groups ++ of (copies ++ []) =
    ap of (declared_append groups (group ∷ [])) ∙ map-append (λ type. 0) (declared_locals groups) (copies ++ []) in
    split ∙ ap (λ (words : List ℕ). zeros groups ++ words) last

pub group_pushed : (groups : List Locals) (i : ℕ) (d : Locals) (args items new : List ℕ) → i < length groups → items ≡ args ++ zeros (take i groups) → new ≡ items ++ replicate (get_or groups i d).count 0 → new ≡ args ++ zeros (take (i + 1) groups)
group_pushed groups i d args items new l h n =
    let group : Locals = get_or groups i d in
    n ∙ ap (λ (items : List ℕ). items ++ replicate group.count 0) h ∙ append_assoc args (zeros (take i groups)) (replicate group.count 0)
    ∙ ap (λ (ws : List ℕ). args ++ ws) (sym (more_zeros (take i groups) group) ∙ ap zeros (sym (take_at_read groups i d l).1))

-- The size of a type's values is a multiple of their alignment, so that a place behind some of them is aligned where the first one is.
use Rattle.std.proofs.Common.{◌≡◌, ◌∙◌, ◌<◌, ◌≤◌, ◌+◌, ◌-◌, ◌*◌, ◌/◌, ◌%◌, ℕ, zero, suc, nat_le, max, if◌then◌else◌, List, [], ◌∷◌, length, refl, sym, ap, subst, arith, Option, mod-lt, mod-eq_of_lt}
use Rattle.std.proofs.Math.Nat.{add-mod, div-add-mod, add-mul-mod_self_left, mod_self, zero-mod}
use Rattle.std.proofs.lemmas.Nat.{mul-mod_second}
use Rattle.syntax_trees.specs.declared.types.ValType.{ValType, out-ValType}
use Rattle.syntax_trees.specs.declared.types.ValType.TheOpen as F
use Rattle.wasm_store.proofs.Lists.{if_both}
use Rattle.laid_types.specs.Layout.{Laid, aligned, bits_size, end_of, laid, laid_step, tag_size, there, top_align, top_size}
use Rattle.value_lift.proofs.Equations.{layouts_in, laid_is}

-- What is padded ends at a multiple.
padded : (place align : ℕ) → 1 ≤ align → aligned place align % align ≡ 0
padded place align low = by (place % align) refl
  where
    by : (rest : ℕ) → place % align ≡ rest → (place + (align - rest) % align) % align ≡ 0
    by zero none =
        ap (λ (n : ℕ). (place + n % align) % align) (let all : align - 0 ≡ align = omega arith in all)
        ∙ ap (λ (n : ℕ). (place + n) % align) (mod_self align)
        ∙ ap (λ (n : ℕ). n % align) (let same : place + 0 ≡ place = omega arith in same)
        ∙ none
    by (suc rest) some =
        let under : place % align < align = mod-lt place (omega (arith, low)) in
        let less : align - suc rest < align = omega (arith, low) in
        let whole : align * (place / align) + place % align ≡ place = div-add-mod place align in
        ap (λ (n : ℕ). (place + n) % align) (mod-eq_of_lt less)
        ∙ ap (λ (n : ℕ). n % align) (let same : place + (align - suc rest) ≡ align + align * (place / align) = omega (arith, whole, some, under) in same)
        ∙ add-mul-mod_self_left align align (place / align)
        ∙ mod_self align

top_low : (parts : List Laid) → 1 ≤ top_align parts
top_low [] = omega arith
top_low (p ∷ parts) = (let low : 1 ≤ top_align parts = top_low parts in omega (arith, low))

tag_low : (count : ℕ) → 1 ≤ tag_size count
tag_low count =
    if_both (λ (n : ℕ). 1 ≤ n) (nat_le count 256) 1 (if nat_le count 65536 then 2 else 4) (λ e. omega arith)
    (λ e. if_both (λ (n : ℕ). 1 ≤ n) (nat_le count 65536) 2 4 (λ f. omega arith) (λ f. omega arith))

abbrev IsWhole : Laid → Type 0
IsWhole l = l.size % l.align ≡ 0

record_whole : (parts : List Laid) → aligned (end_of 0 parts) (top_align parts) % top_align parts ≡ 0
record_whole parts = padded (end_of 0 parts) (top_align parts) (top_low parts)

tagged_whole : (count : ℕ) (payloads : List Laid)
    → aligned (aligned (tag_size count) (top_align payloads) + top_size payloads) (max (tag_size count) (top_align payloads)) % max (tag_size count) (top_align payloads) ≡ 0
tagged_whole count payloads =
    padded (aligned (tag_size count) (top_align payloads) + top_size payloads) (max (tag_size count) (top_align payloads))
    (let low : 1 ≤ tag_size count = tag_low count in omega (arith, low))

step_whole : (y : F.ValType-F Laid (Option Laid) Laid) → IsWhole (laid_step y)
step_whole F.Bool = mod_self 1
step_whole F.S8 = mod_self 1
step_whole F.U8 = mod_self 1
step_whole F.S16 = mod_self 2
step_whole F.U16 = mod_self 2
step_whole F.S32 = mod_self 4
step_whole F.U32 = mod_self 4
step_whole F.S64 = mod_self 8
step_whole F.U64 = mod_self 8
step_whole F.Char = mod_self 4
step_whole F.String = refl
step_whole (F.Record fields) = record_whole fields
step_whole (F.Variant cases) = tagged_whole (length cases) (there cases)
step_whole (F.List element) = refl
step_whole (F.Tuple parts) = record_whole parts
step_whole (F.Flags labels) = mod_self (bits_size (length labels))
step_whole (F.Enum labels) = tagged_whole (length labels) []
step_whole (F.Option payload) = tagged_whole 2 (payload ∷ [])
step_whole (F.Result ok err) = tagged_whole 2 (there (ok ∷ err ∷ []))
step_whole (F.Own resource) = mod_self 4
step_whole (F.Borrow resource) = mod_self 4
step_whole (F.Stream element) = mod_self 4
step_whole (F.Future element) = mod_self 4

pub laid_whole : (t : ValType) → (laid t).size % (laid t).align ≡ 0
laid_whole t = subst IsWhole (sym (laid_is t)) (step_whole (layouts_in (out-ValType t)))

-- A place behind so many.
pub behind_aligned : (place count size align : ℕ) → place % align ≡ 0 → size % align ≡ 0 → (place + count * size) % align ≡ 0
behind_aligned place count size align first whole =
    let zeroes : count * 0 ≡ 0 = omega arith in
    let more : (count * size) % align ≡ 0 =
    sym (mul-mod_second count size align) ∙ ap (λ (n : ℕ). (count * n) % align) whole ∙ ap (λ (n : ℕ). n % align) zeroes ∙ zero-mod align in
    add-mod place (count * size) align
    ∙ ap (λ (n : ℕ). (place % align + n) % align) more
    ∙ ap (λ (n : ℕ). n % align) (let same : place % align + 0 ≡ place % align = omega arith in same)
    ∙ ap (λ (n : ℕ). n % align) first
    ∙ zero-mod align

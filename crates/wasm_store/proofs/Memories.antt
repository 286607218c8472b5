-- Typed memories: what is loaded of them and what changes them.
use Rattle.std.proofs.Common.{◌≡◌, ◌<◌, ◌≤◌, ◌+◌, ◌*◌, ◌/◌, ◌%◌, ◌^◌, ℕ, ◌&&◌, nat_le, List, ◌++◌, length, take, drop, replicate, refl, sym, subst, arith, Option, Some, None, length-append, length-drop, length-take}
use Rattle.std.proofs.lemmas.Bool.{leb-true}
use Rattle.std.proofs.lemmas.List.{length-replicate}
use Rattle.std.proofs.lemmas.Nat.{mod_below, pow_pos}
use mir.Val.{bits}
use Rattle.syntax_trees.specs.declared.instr.LoadOp.{LoadOp}
use Rattle.syntax_trees.specs.declared.instr.LoadOp.TheVariants.{I32Load, I64Load, I32Load8S, I32Load8U, I32Load16S, I32Load16U, I64Load8S, I64Load8U, I64Load16S, I64Load16U, I64Load32S, I64Load32U}
use Rattle.wasm_typing.specs.Instrs.{load_gives}
use Rattle.wasm_numbers.specs.Types.{IsWord}
use Rattle.wasm_memory.specs.Bytes.{is_inside, copied, filled}
use Rattle.wasm_memory.specs.Loads.{result_width}
use Rattle.wasm_memory.specs.Memories.{MemoryState, most_pages, page_count, made, growth, grown, with_bytes}
use Rattle.wasm_store.specs.Effects.{as_word}
use Rattle.wasm_store.specs.Typed.{IsLaterMemory, MemoryTyped}
use Rattle.wasm_store.proofs.Lists.{if_both, both_true}

-- What a load gives is a word of its type.
load_word : (op : LoadOp) (n : ℕ) → n < 2 ^ bits (result_width op) → IsWord (load_gives op) n
load_word I32Load n h = h
load_word I64Load n h = h
load_word I32Load8S n h = h
load_word I32Load8U n h = h
load_word I32Load16S n h = h
load_word I32Load16U n h = h
load_word I64Load8S n h = h
load_word I64Load8U n h = h
load_word I64Load16S n h = h
load_word I64Load16U n h = h
load_word I64Load32S n h = h
load_word I64Load32U n h = h

pub loaded_word : (op : LoadOp) (n : ℕ) → IsWord (load_gives op) (as_word op n)
loaded_word op n = load_word op (as_word op n) (mod_below n (2 ^ bits (result_width op)) (pow_pos (bits (result_width op))))

-- Bytes in the place of others are as many as before.
copy_long : (to from count : ℕ) (old : List ℕ) → to + count ≤ length old → from + count ≤ length old → length (take to old ++ take count (drop from old) ++ drop (to + count) old) ≡ length old
copy_long to from count old h k = simp (length-append, length-take, length-drop) (omega arith)

pub copied_long : (to from count : ℕ) (old : List ℕ) → length (copied to from count old) ≡ length old
copied_long to from count old =
    if_both (λ (xs : List ℕ). length xs ≡ length old) (is_inside to count old && is_inside from count old) _ _
    (λ t. (
    let both = both_true (is_inside to count old) (is_inside from count old) t in
    copy_long to from count old (leb-true (to + count) (length old) both.0) (leb-true (from + count) (length old) both.1)
    )) (λ t. refl)

fill_long : (at byte count : ℕ) (old : List ℕ) → at + count ≤ length old → length (take at old ++ replicate count byte ++ drop (at + count) old) ≡ length old
fill_long at byte count old h = simp (length-append, length-take, length-drop, length-replicate) (omega arith)

pub filled_long : (at byte count : ℕ) (old : List ℕ) → length (filled at byte count old) ≡ length old
filled_long at byte count old =
    if_both (λ (xs : List ℕ). length xs ≡ length old) (is_inside at count old) _ _ (λ t. fill_long at byte count old (leb-true (at + count) (length old) t)) (λ t. refl)

pub memory_rewritten : (m : MemoryState) (bytes : List ℕ) → MemoryTyped m → length bytes ≡ length m.bytes → IsLaterMemory m (with_bytes m bytes) × MemoryTyped (with_bytes m bytes)
memory_rewritten m bytes h long =
    let whole : length bytes % 65536 ≡ 0 = subst (λ (n : ℕ). n % 65536 ≡ 0) (sym long) h.whole in
    let few : length bytes / 65536 ≤ most_pages m.maximum = subst (λ (n : ℕ). n / 65536 ≤ most_pages m.maximum) (sym long) h.few in
    ((refl, omega arith), record { whole = whole; few = few })

-- new memories, and those that grow
pub memory_made : (pages : ℕ) (max : Option ℕ) → pages ≤ most_pages max → MemoryTyped (made pages max)
memory_made pages max within =
    let long : length (replicate {A = ℕ} (pages * 65536) 0) ≡ pages * 65536 = length-replicate (pages * 65536) 0 in
    let whole : length (replicate {A = ℕ} (pages * 65536) 0) % 65536 ≡ 0 = omega arith in
    let few : length (replicate {A = ℕ} (pages * 65536) 0) / 65536 ≤ most_pages max = omega arith in
    record { whole = whole; few = few }

longer : (more : ℕ) (m : MemoryState) → MemoryTyped m → page_count m + more ≤ most_pages m.maximum → let n = with_bytes m (m.bytes ++ replicate (more * 65536) 0) in IsLaterMemory m n × MemoryTyped n
longer more m h within =
    let old = h.whole in
    let sum : length (m.bytes ++ replicate (more * 65536) 0) ≡ length m.bytes + length (replicate {A = ℕ} (more * 65536) 0) = length-append m.bytes (replicate (more * 65536) 0) in
    let new : length (replicate {A = ℕ} (more * 65536) 0) ≡ more * 65536 = length-replicate (more * 65536) 0 in
    let whole : length (m.bytes ++ replicate (more * 65536) 0) % 65536 ≡ 0 = omega arith in
    let few : length (m.bytes ++ replicate (more * 65536) 0) / 65536 ≤ most_pages m.maximum = omega arith in
    ((refl, omega arith), record { whole = whole; few = few })

pub memory_grown : (more : ℕ) (m : MemoryState) → MemoryTyped m → IsLaterMemory m (grown m more) × MemoryTyped (grown m more)
memory_grown more m h =
    if_both (λ (n : MemoryState). IsLaterMemory m n × MemoryTyped n) (nat_le (page_count m + more) (most_pages m.maximum)) _ _
    (λ t. longer more m h (leb-true (page_count m + more) (most_pages m.maximum) t)) (λ t. ((refl, omega arith), h))

pub pages_small : (m : MemoryState) → MemoryTyped m → page_count m < 2 ^ 32
pages_small m h = let few = h.few in omega arith

pub growth_small : (more : ℕ) (m : MemoryState) (pages : ℕ) → MemoryTyped m → growth m more ≡ Some pages → pages < 2 ^ 32
growth_small more m pages h =
    if_both (λ (o : Option ℕ). o ≡ Some pages → pages < 2 ^ 32) (nat_le (page_count m + more) (most_pages m.maximum)) _ _
    (λ t e. (let same : page_count m ≡ pages = some_is (page_count m) pages e in subst (λ (n : ℕ). n < 2 ^ 32) same (pages_small m h))) (λ t e. none_is pages e)
  where
    some_is : (a b : ℕ) → (let o : Option ℕ = Some a in o) ≡ Some b → a ≡ b
    some_is a b e = cc

    none_is : (b : ℕ) → (let o : Option ℕ = None in o) ≡ Some b → b < 2 ^ 32
    none_is b e = cc

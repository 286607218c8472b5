-- What instructions make of typed stores, locals and values is typed.
use Rattle.std.proofs.Common.{◌≡◌, ◌<◌, ◌+◌, ◌-◌, ◌%◌, ◌^◌, ℕ, zero, suc, Bool, true, false, ◌&&◌, List, [], ◌∷◌, ◌++◌, length, reverse, set, refl, sym, subst, arith, Option, Some, None, Result, Ok, Err}
use Rattle.std.specs.Prelude.{IsSome}
use Rattle.std.specs.List.{slice_get}
use Rattle.std.specs.Option.{option_map}
use Rattle.syntax_trees.specs.declared.module_types.ValType.{ValType}
use Rattle.syntax_trees.specs.declared.module_types.ValType.TheVariants.{I32, I64}
use Rattle.syntax_trees.specs.declared.module_types.FuncType.{FuncType}
use Rattle.syntax_trees.specs.declared.module_types.Mutability.TheVariants.{Variable}
use Rattle.syntax_trees.specs.declared.instr.Width.TheVariants.{W32, W64}
use Rattle.syntax_trees.specs.declared.instr.NumericOp.{NumericOp}
use Rattle.syntax_trees.specs.declared.instr.NumericOp.TheVariants.{Eqz, Relation, Unary, Binary, WrapI64, ExtendI32S, ExtendI32U, I64Extend32S}
use Rattle.syntax_trees.specs.declared.instr.LoadOp.{LoadOp}
use Rattle.syntax_trees.specs.declared.instr.StoreOp.{StoreOp}
use Rattle.wasm_typing.specs.Context.{arrow}
use Rattle.wasm_typing.specs.Instrs.{numeric_type, load_gives, store_takes}
use Rattle.wasm_numbers.specs.declared.trap.NumberTrap.{NumberTrap}
use Rattle.wasm_numbers.specs.Numeric.{evaluated}
use Rattle.wasm_numbers.specs.Stack.{onto, applied}
use Rattle.wasm_numbers.specs.Types.{integer, operand_types, result_type, IsWord, AreWords}
use Rattle.wasm_numbers.proofs.Results.{operands_taken, results_typed}
use Rattle.wasm_memory.specs.Bytes.{is_inside, put, copied, filled}
use Rattle.wasm_memory.specs.Loads.{loaded}
use Rattle.wasm_memory.specs.Stores.{stored_bytes}
use Rattle.wasm_memory.specs.Memories.{MemoryState, page_count, growth, grown, with_bytes}
use Rattle.wasm_memory.proofs.Putting.{length_put}
use Rattle.wasm_store.specs.Store.{Global, Store}
use Rattle.wasm_store.specs.Effects.{Effect, Leaves, Fails, NoRule, by_number, selected, local_get, local_set, local_tee, global_get, global_set, as_word, by_load, by_bounds, by_growth, load, store, memory_size, memory_grow, memory_fill, memory_copy}
use Rattle.wasm_store.specs.Typed.{Extends, StoreTyped, MemoryTyped, IsLaterMemory}
use Rattle.wasm_store.proofs.Lists.{all_at}
use Rattle.wasm_store.proofs.Words.{word_at, word_set}
use Rattle.wasm_store.proofs.Stores.{store_same, memory_changed, global_changed}
use Rattle.wasm_store.proofs.Memories.{loaded_word, copied_long, filled_long, memory_rewritten, memory_grown, pages_small, growth_small}

-- What is left is typed: locals of these types, and over the values under them words of the results.
abbrev pub EffectTyped : Store → List ValType → List ValType → List ℕ → Effect → Type 0
EffectTyped s locals results under (Leaves t ls vs) =
    Extends s t × StoreTyped t × AreWords locals ls × ((front : List ℕ) × (vs ≡ front ++ under) × AreWords (reverse results) front)
EffectTyped s locals results under (Fails why) = Unit {0}
EffectTyped s locals results under NoRule = ⊥

-- with no change of the store
leaves : (s : Store) (locals results : List ValType) (under ls front : List ℕ) → StoreTyped s → AreWords locals ls → AreWords (reverse results) front → EffectTyped s locals results under (Leaves s ls (front ++ under))
leaves s locals results under ls front h l w = (store_same s, h, l, (front, refl, w))

pub one_left : (s : Store) (locals : List ValType) (type : ValType) (under ls : List ℕ) (word : ℕ) → StoreTyped s → AreWords locals ls → IsWord type word → EffectTyped s locals (type ∷ []) under (Leaves s ls (word ∷ under))
one_left s locals type under ls word h l w = leaves s locals (type ∷ []) under ls (word ∷ []) h l (w, tt)

-- Numbers.

numeric_agrees : (op : NumericOp) → numeric_type op ≡ arrow (operand_types op) (result_type op ∷ [])
numeric_agrees (Eqz W32) = refl
numeric_agrees (Eqz W64) = refl
numeric_agrees (Relation W32 op) = refl
numeric_agrees (Relation W64 op) = refl
numeric_agrees (Unary W32 op) = refl
numeric_agrees (Unary W64 op) = refl
numeric_agrees (Binary W32 op) = refl
numeric_agrees (Binary W64 op) = refl
numeric_agrees WrapI64 = refl
numeric_agrees ExtendI32S = refl
numeric_agrees ExtendI32U = refl
numeric_agrees I64Extend32S = refl

number_typed : (s : Store) (locals : List ValType) (type : ValType) (ls under : List ℕ) (o : Option (Result ℕ NumberTrap)) → StoreTyped s → AreWords locals ls → IsSome o → ((value : ℕ) → o ≡ Some (Ok value) → IsWord type value) → EffectTyped s locals (type ∷ []) under (by_number (option_map (onto under) o) s ls)
number_typed s locals type ls under None h l some word = cc
number_typed s locals type ls under (Some (Ok value)) h l some word = one_left s locals type under ls value h l (word value refl)
number_typed s locals type ls under (Some (Err why)) h l some word = tt

of_operands : (op : NumericOp) (s : Store) (locals : List ValType) (ls under operands : List ℕ) → StoreTyped s → AreWords locals ls → AreWords (operand_types op) operands → EffectTyped s locals (result_type op ∷ []) under (by_number (option_map (onto under) (evaluated op operands)) s ls)
of_operands op s locals ls under operands h l k =
    number_typed s locals (result_type op) ls under (evaluated op operands) h l (operands_taken op operands k) (λ value e. results_typed op operands value k e)

-- of one operand, and of two, the last one first
of_one : (type : ValType) (P : List ℕ → Type 0) → ((a : ℕ) → AreWords (type ∷ []) (a ∷ []) → P (a ∷ [])) → (front : List ℕ) → AreWords (type ∷ []) front → P front
of_one type P each [] k = absurd k
of_one type P each (a ∷ []) k = each a k
of_one type P each (a ∷ b ∷ more) k = absurd k.1

of_two : (type : ValType) (P : List ℕ → Type 0) → ((a b : ℕ) → AreWords (type ∷ type ∷ []) (a ∷ b ∷ []) → P (b ∷ a ∷ [])) → (front : List ℕ) → AreWords (type ∷ type ∷ []) front → P front
of_two type P each [] k = absurd k
of_two type P each (b ∷ []) k = absurd k.1
of_two type P each (b ∷ a ∷ []) k = each a b (k.1.0, (k.0, tt))
of_two type P each (b ∷ a ∷ c ∷ more) k = absurd k.1.1

abbrev AppliedTyped : Store → List ValType → List ℕ → List ℕ → NumericOp → List ℕ → Type 0
AppliedTyped s locals ls under op front = EffectTyped s locals (result_type op ∷ []) under (by_number (applied op (front ++ under)) s ls)

applied_typed : (op : NumericOp) (s : Store) (locals : List ValType) (ls under : List ℕ) → StoreTyped s → AreWords locals ls → (front : List ℕ) → AreWords (reverse (operand_types op)) front → EffectTyped s locals (result_type op ∷ []) under (by_number (applied op (front ++ under)) s ls)
applied_typed op s locals ls under h l = by op
  where
    by : (op : NumericOp) → (front : List ℕ) → AreWords (reverse (operand_types op)) front → AppliedTyped s locals ls under op front
    by (Eqz w) = of_one (integer w) (AppliedTyped s locals ls under (Eqz w)) (λ a k. of_operands (Eqz w) s locals ls under (a ∷ []) h l k)
    by (Relation w op) = of_two (integer w) (AppliedTyped s locals ls under (Relation w op)) (λ a b k. of_operands (Relation w op) s locals ls under (a ∷ b ∷ []) h l k)
    by (Unary w op) = of_one (integer w) (AppliedTyped s locals ls under (Unary w op)) (λ a k. of_operands (Unary w op) s locals ls under (a ∷ []) h l k)
    by (Binary w op) = of_two (integer w) (AppliedTyped s locals ls under (Binary w op)) (λ a b k. of_operands (Binary w op) s locals ls under (a ∷ b ∷ []) h l k)
    by WrapI64 = of_one I64 (AppliedTyped s locals ls under WrapI64) (λ a k. of_operands WrapI64 s locals ls under (a ∷ []) h l k)
    by ExtendI32S = of_one I32 (AppliedTyped s locals ls under ExtendI32S) (λ a k. of_operands ExtendI32S s locals ls under (a ∷ []) h l k)
    by ExtendI32U = of_one I32 (AppliedTyped s locals ls under ExtendI32U) (λ a k. of_operands ExtendI32U s locals ls under (a ∷ []) h l k)
    by I64Extend32S = of_one I64 (AppliedTyped s locals ls under I64Extend32S) (λ a k. of_operands I64Extend32S s locals ls under (a ∷ []) h l k)

pub numeric_typed : (op : NumericOp) (s : Store) (locals : List ValType) (ls front under : List ℕ) → StoreTyped s → AreWords locals ls → AreWords (reverse (numeric_type op).params) front → EffectTyped s locals (numeric_type op).results under (by_number (applied op (front ++ under)) s ls)
numeric_typed op s locals ls front under h l k =
    subst (λ (t : FuncType). EffectTyped s locals t.results under (by_number (applied op (front ++ under)) s ls)) (sym (numeric_agrees op))
    (applied_typed op s locals ls under h l front (subst (λ (t : FuncType). AreWords (reverse t.params) front) (numeric_agrees op) k))

-- `select`, of values of one type
pub selected_typed : (s : Store) (locals : List ValType) (type : ValType) (ls front under : List ℕ) → StoreTyped s → AreWords locals ls → AreWords (I32 ∷ type ∷ type ∷ []) front → EffectTyped s locals (type ∷ []) under (selected s ls (front ++ under))
selected_typed s locals type ls [] under h l k = absurd k
selected_typed s locals type ls (n ∷ []) under h l k = absurd k.1
selected_typed s locals type ls (n ∷ b ∷ []) under h l k = absurd k.1.1
selected_typed s locals type ls (zero ∷ b ∷ a ∷ []) under h l k = one_left s locals type under ls b h l k.1.0
selected_typed s locals type ls (suc n ∷ b ∷ a ∷ []) under h l k = one_left s locals type under ls a h l k.1.1.0
selected_typed s locals type ls (n ∷ b ∷ a ∷ c ∷ more) under h l k = absurd k.1.1.1

-- Variables.

pub local_get_typed : (s : Store) (locals : List ValType) (type : ValType) (index : ℕ) (ls under : List ℕ) → StoreTyped s → AreWords locals ls → slice_get locals index ≡ Some type → EffectTyped s locals (type ∷ []) under (local_get (slice_get ls index) s ls under)
local_get_typed s locals type index ls under h l e =
    let w = word_at locals ls index type l e in
    subst (λ (o : Option ℕ). EffectTyped s locals (type ∷ []) under (local_get o s ls under)) (sym w.1) (one_left s locals type under ls w.0 h l w.2)

pub local_set_typed : (s : Store) (locals : List ValType) (type : ValType) (index : ℕ) (ls front under : List ℕ) → StoreTyped s → AreWords locals ls → slice_get locals index ≡ Some type → AreWords (type ∷ []) front → EffectTyped s locals [] under (local_set index s ls (front ++ under))
local_set_typed s locals type index ls [] under h l e k = absurd k
local_set_typed s locals type index ls (a ∷ []) under h l e k = leaves s locals [] under (set ls index a) [] h (word_set locals ls index type a l e k.0) tt
local_set_typed s locals type index ls (a ∷ b ∷ more) under h l e k = absurd k.1

pub local_tee_typed : (s : Store) (locals : List ValType) (type : ValType) (index : ℕ) (ls front under : List ℕ) → StoreTyped s → AreWords locals ls → slice_get locals index ≡ Some type → AreWords (type ∷ []) front → EffectTyped s locals (type ∷ []) under (local_tee index s ls (front ++ under))
local_tee_typed s locals type index ls [] under h l e k = absurd k
local_tee_typed s locals type index ls (a ∷ []) under h l e k = one_left s locals type under (set ls index a) a h (word_set locals ls index type a l e k.0) k.0
local_tee_typed s locals type index ls (a ∷ b ∷ more) under h l e k = absurd k.1

pub global_get_typed : (s : Store) (locals : List ValType) (type : ValType) (g : ℕ × Global) (ls under : List ℕ) → StoreTyped s → AreWords locals ls → IsWord type g.1.value → EffectTyped s locals (type ∷ []) under (global_get (Some g) s ls under)
global_get_typed s locals type g ls under h l w = one_left s locals type under ls g.1.value h l w

pub global_set_typed : (s : Store) (locals : List ValType) (g : ℕ × Global) (ls front under : List ℕ) → StoreTyped s → AreWords locals ls → slice_get s.globals g.0 ≡ Some g.1 → g.1.type.mutability ≡ Variable → AreWords (g.1.type.val_type ∷ []) front → EffectTyped s locals [] under (global_set (Some g) s ls (front ++ under))
global_set_typed s locals g ls [] under h l e free k = absurd k
global_set_typed s locals g ls (a ∷ []) under h l e free k =
    let c = global_changed s g.0 g.1 a h e free k.0 in
    (c.0, c.1, l, ([], refl, tt))
global_set_typed s locals g ls (a ∷ b ∷ more) under h l e free k = absurd k.1

-- Memories.

bounds_typed : (s : Store) (locals : List ValType) (inside : Bool) (m : ℕ × MemoryState) (bytes ls under : List ℕ) → StoreTyped s → AreWords locals ls → slice_get s.memories m.0 ≡ Some m.1 → length bytes ≡ length m.1.bytes → EffectTyped s locals [] under (by_bounds inside m bytes s ls under)
bounds_typed s locals true m bytes ls under h l e long =
    let new = memory_rewritten m.1 bytes (all_at MemoryTyped s.memories m.0 m.1 h.memories e) long in
    let c = memory_changed s m.0 m.1 (with_bytes m.1 bytes) h e new.0 new.1 in
    (c.0, c.1, l, ([], refl, tt))
bounds_typed s locals false m bytes ls under h l e long = tt

given_typed : (s : Store) (locals : List ValType) (type : ValType) (o : Option ℕ) (ls under : List ℕ) → StoreTyped s → AreWords locals ls → ((value : ℕ) → o ≡ Some value → IsWord type value) → EffectTyped s locals (type ∷ []) under (by_load o s ls under)
given_typed s locals type None ls under h l word = tt
given_typed s locals type (Some value) ls under h l word = one_left s locals type under ls value h l (word value refl)

growth_typed : (s : Store) (locals : List ValType) (o : Option ℕ) (a : ℕ) (m n : MemoryState) (ls under : List ℕ) → StoreTyped s → AreWords locals ls → slice_get s.memories a ≡ Some m → IsLaterMemory m n × MemoryTyped n → ((pages : ℕ) → o ≡ Some pages → pages < 2 ^ 32) → EffectTyped s locals (I32 ∷ []) under (by_growth o a n s ls under)
growth_typed s locals None a m n ls under h l e new small = one_left s locals I32 under ls (2 ^ 32 - 1) h l (omega arith)
growth_typed s locals (Some pages) a m n ls under h l e new small =
    let c = memory_changed s a m n h e new.0 new.1 in
    (c.0, c.1, l, (pages ∷ [], refl, (small pages refl, tt)))

word_loaded : (op : LoadOp) (o : Option ℕ) (value : ℕ) → option_map (as_word op) o ≡ Some value → IsWord (load_gives op) value
word_loaded op None value e = cc
word_loaded op (Some n) value e = let same : as_word op n ≡ value = some_is (as_word op n) value e in subst (IsWord (load_gives op)) same (loaded_word op n)
  where
    some_is : (a b : ℕ) → (let o : Option ℕ = Some a in o) ≡ Some b → a ≡ b
    some_is a b e = cc

pub load_typed : (s : Store) (locals : List ValType) (op : LoadOp) (offset : ℕ) (m : ℕ × MemoryState) (ls front under : List ℕ) → StoreTyped s → AreWords locals ls → slice_get s.memories m.0 ≡ Some m.1 → AreWords (I32 ∷ []) front → EffectTyped s locals (load_gives op ∷ []) under (load op offset (Some m) s ls (front ++ under))
load_typed s locals op offset m ls [] under h l e k = absurd k
load_typed s locals op offset m ls (a ∷ []) under h l e k =
    given_typed s locals (load_gives op) (option_map (as_word op) (loaded op (a + offset) m.1.bytes)) ls under h l (λ value e. word_loaded op (loaded op (a + offset) m.1.bytes) value e)
load_typed s locals op offset m ls (a ∷ b ∷ more) under h l e k = absurd k.1

pub store_typed : (s : Store) (locals : List ValType) (op : StoreOp) (offset : ℕ) (m : ℕ × MemoryState) (ls front under : List ℕ) → StoreTyped s → AreWords locals ls → slice_get s.memories m.0 ≡ Some m.1 → AreWords (store_takes op ∷ I32 ∷ []) front → EffectTyped s locals [] under (store op offset (Some m) s ls (front ++ under))
store_typed s locals op offset m ls [] under h l e k = absurd k
store_typed s locals op offset m ls (b ∷ []) under h l e k = absurd k.1
store_typed s locals op offset m ls (b ∷ a ∷ []) under h l e k =
    let new : List ℕ = stored_bytes op b in
    bounds_typed s locals (is_inside (a + offset) (length new) m.1.bytes) m (put (a + offset) new m.1.bytes) ls under h l e
    (length_put (a + offset) new m.1.bytes)
store_typed s locals op offset m ls (b ∷ a ∷ c ∷ more) under h l e k = absurd k.1.1

pub size_typed : (s : Store) (locals : List ValType) (m : ℕ × MemoryState) (ls under : List ℕ) → StoreTyped s → AreWords locals ls → slice_get s.memories m.0 ≡ Some m.1 → EffectTyped s locals (I32 ∷ []) under (memory_size (Some m) s ls under)
size_typed s locals m ls under h l e = one_left s locals I32 under ls (page_count m.1) h l (pages_small m.1 (all_at MemoryTyped s.memories m.0 m.1 h.memories e))

pub grow_typed : (s : Store) (locals : List ValType) (m : ℕ × MemoryState) (ls front under : List ℕ) → StoreTyped s → AreWords locals ls → slice_get s.memories m.0 ≡ Some m.1 → AreWords (I32 ∷ []) front → EffectTyped s locals (I32 ∷ []) under (memory_grow (Some m) s ls (front ++ under))
grow_typed s locals m ls [] under h l e k = absurd k
grow_typed s locals m ls (more ∷ []) under h l e k =
    let typed = all_at MemoryTyped s.memories m.0 m.1 h.memories e in
    growth_typed s locals (growth m.1 more) m.0 m.1 (grown m.1 more) ls under h l e (memory_grown more m.1 typed) (λ pages e. growth_small more m.1 pages typed e)
grow_typed s locals m ls (more ∷ b ∷ others) under h l e k = absurd k.1

pub fill_typed : (s : Store) (locals : List ValType) (m : ℕ × MemoryState) (ls front under : List ℕ) → StoreTyped s → AreWords locals ls → slice_get s.memories m.0 ≡ Some m.1 → AreWords (I32 ∷ I32 ∷ I32 ∷ []) front → EffectTyped s locals [] under (memory_fill (Some m) s ls (front ++ under))
fill_typed s locals m ls [] under h l e k = absurd k
fill_typed s locals m ls (count ∷ []) under h l e k = absurd k.1
fill_typed s locals m ls (count ∷ value ∷ []) under h l e k = absurd k.1.1
fill_typed s locals m ls (count ∷ value ∷ at ∷ []) under h l e k =
    bounds_typed s locals (is_inside at count m.1.bytes) m (filled at (value % 256) count m.1.bytes) ls under h l e
    (filled_long at (value % 256) count m.1.bytes)
fill_typed s locals m ls (count ∷ value ∷ at ∷ b ∷ more) under h l e k = absurd k.1.1.1

pub copy_typed : (s : Store) (locals : List ValType) (m : ℕ × MemoryState) (ls front under : List ℕ) → StoreTyped s → AreWords locals ls → slice_get s.memories m.0 ≡ Some m.1 → AreWords (I32 ∷ I32 ∷ I32 ∷ []) front → EffectTyped s locals [] under (memory_copy (Some m) s ls (front ++ under))
copy_typed s locals m ls [] under h l e k = absurd k
copy_typed s locals m ls (count ∷ []) under h l e k = absurd k.1
copy_typed s locals m ls (count ∷ from ∷ []) under h l e k = absurd k.1.1
copy_typed s locals m ls (count ∷ from ∷ to ∷ []) under h l e k =
    bounds_typed s locals (is_inside to count m.1.bytes && is_inside from count m.1.bytes) m (copied to from count m.1.bytes) ls under h l e
    (copied_long to from count m.1.bytes)
copy_typed s locals m ls (count ∷ from ∷ to ∷ b ∷ more) under h l e k = absurd k.1.1.1

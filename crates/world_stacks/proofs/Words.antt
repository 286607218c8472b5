-- Words that pass the test are values of the types, and a call with them is typed.
use Rattle.std.proofs.Common.{◌≡◌, ◌<◌, ◌^◌, ℕ, suc, nat_lt, Bool, true, false, cond, List, [], ◌∷◌, length, refl, ap, sym, ◌∙◌, subst, Option, Some}
use Rattle.std.specs.List.{slice_get}
use Rattle.std.proofs.lemmas.Bool.{ltb-true, lt-ltb}
use Rattle.syntax_trees.specs.declared.module_types.ValType.{ValType}
use Rattle.syntax_trees.specs.declared.module_types.ValType.TheVariants.{I32, I64}
use Rattle.wasm_numbers.specs.Types.{IsWord, AreWords}
use Rattle.wasm_store.specs.Store.{Function, type_of, Store}
use Rattle.wasm_store.specs.Stack.{Stack}
use Rattle.wasm_store.specs.Step.{start}
use Rattle.wasm_store.specs.Typed.{StoreTyped}
use Rattle.wasm_store.proofs.Moving.{starts_typed}
use Rattle.world_stacks.specs.Starting.{is_word, are_words}
use Rattle.world_stacks.specs.Piles.{RunsTyped}

cond_false : (b c : Bool) → false ≡ c → false ≡ cond b c false
cond_false true c h = h
cond_false false c h = refl

-- lists of other lengths don't fit
pub lists_differ : (types : List ValType) (words : List ℕ) → (length types ≡ length words → ⊥) → false ≡ are_words types words
lists_differ [] [] h = absurd (h refl)
lists_differ [] (n ∷ ns) h = refl
lists_differ (t ∷ ts) [] h = refl
lists_differ (t ∷ ts) (n ∷ ns) h = cond_false (is_word t n) (are_words ts ns) (lists_differ ts ns (λ k. h (ap suc k)))

-- each i64 is below 2^64
pub long_word : (n : ℕ) → n < 2 ^ 64 → true ≡ nat_lt n (2 ^ 64)
long_word n h = sym (lt-ltb n (2 ^ 64) h)

both : (a b : Bool) → cond a b false ≡ true → (a ≡ true) × (b ≡ true)
both true b h = (refl, h)
both false b h = cc

word_typed : (t : ValType) (n : ℕ) → is_word t n ≡ true → IsWord t n
word_typed I32 n h = ltb-true n (2 ^ 32) h
word_typed I64 n h = ltb-true n (2 ^ 64) h

pub words_typed : (types : List ValType) (words : List ℕ) → are_words types words ≡ true → AreWords types words
words_typed [] [] h = tt
words_typed [] (n ∷ ns) h = cc
words_typed (t ∷ ts) [] h = cc
words_typed (t ∷ ts) (n ∷ ns) h = let k = both (is_word t n) (are_words ts ns) h in (word_typed t n k.0, words_typed ts ns k.1)

pub started_typed : (s : Store) (address : ℕ) (f : Function) (words : List ℕ) (k : Stack) → StoreTyped s → slice_get s.funcs address ≡ Some f → are_words (type_of f).params words ≡ true → k ≡ start f address words → RunsTyped s k
started_typed s address f words k typed there fit e = subst (RunsTyped s) (sym e) ((type_of f).results, starts_typed s address f words typed there (words_typed (type_of f).params words fit))

-- the same for a function that was looked up twice
some_same : (o : Option Function) (f g : Function) → o ≡ Some f → o ≡ Some g → f ≡ g
some_same o f g e h = let both : ◌≡◌ {A = Option Function} (Some f) (Some g) = sym e ∙ h in cc

pub called_typed : (s : Store) (address : ℕ) (f g : Function) (params : List ValType) (words : List ℕ) (r : Bool) (k : Stack) → StoreTyped s → slice_get s.funcs address ≡ Some f
    → params ≡ (type_of f).params → r ≡ are_words params words → r ≡ true → slice_get s.funcs address ≡ Some g → k ≡ start g address words → RunsTyped s k
called_typed s address f g params words r k typed there ps test holds found e =
    let same = some_same (slice_get s.funcs address) f g there found in
    let fit : are_words (type_of f).params words ≡ true = ap (λ (ts : List ValType). are_words ts words) (sym ps) ∙ sym test ∙ holds in
    started_typed s address f words k typed there fit (e ∙ ap (λ (x : Function). start x address words) (sym same))

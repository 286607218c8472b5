-- Words of types: in parts, the other way round, at places.
use Rattle.std.proofs.Common.{◌≡◌, ◌<◌, ◌%◌, ◌^◌, ℕ, zero, suc, List, [], ◌∷◌, ◌++◌, map, reverse, length, take, drop, set, refl, ap, ◌∙◌, subst, arith, Some}
use Rattle.std.specs.List.{slice_get}
use Rattle.std.specs.Int.{Width as Bits}
use Rattle.std.proofs.lemmas.Nat.{mod_below, pow_pos}
use mir.Val.{bits}
use Rattle.std.proofs.lemmas.List.{reverse-append, reverse-reverse}
use Rattle.std.proofs.Math.Seq.{take-append_seam, drop-append_seam}
use Rattle.syntax_trees.specs.declared.module_types.ValType.{ValType}
use Rattle.syntax_trees.specs.declared.module_types.ValType.TheVariants.{I32, I64}
use Rattle.wasm_numbers.specs.Types.{IsWord, AreWords}

-- words of types in two parts
pub record IsSplit (first second : List ValType) (words : List ℕ) : Type 0 where
  pub front : List ℕ
  pub back : List ℕ
  pub whole : words ≡ front ++ back
  pub long : length front ≡ length first
  pub ahead : AreWords first front
  pub behind : AreWords second back

pub split : (first second : List ValType) (words : List ℕ) → AreWords (first ++ second) words → IsSplit first second words
split [] second words h = record { front = []; back = words; whole = refl; long = refl; ahead = tt; behind = h }
split (t ∷ first) second [] h = absurd h
split (t ∷ first) second (word ∷ words) h =
    let k = split first second words h.1 in
    record { front = word ∷ k.front; back = k.back; whole = ap (λ (ws : List ℕ). word ∷ ws) k.whole; long = ap suc k.long; ahead = (h.0, k.ahead); behind = k.behind }

pub joined : (first second : List ValType) (front back : List ℕ) → AreWords first front → AreWords second back → AreWords (first ++ second) (front ++ back)
joined [] second [] back h k = k
joined [] second (word ∷ front) back h k = absurd h
joined (t ∷ first) second [] back h k = absurd h
joined (t ∷ first) second (word ∷ front) back h k = (h.0, joined first second front back h.1 k)

pub as_long : (types : List ValType) (words : List ℕ) → AreWords types words → length words ≡ length types
as_long [] [] h = refl
as_long [] (word ∷ words) h = absurd h
as_long (t ∷ types) [] h = absurd h
as_long (t ∷ types) (word ∷ words) h = ap suc (as_long types words h.1)

pub turned : (types : List ValType) (words : List ℕ) → AreWords types words → AreWords (reverse types) (reverse words)
turned [] [] h = tt
turned [] (word ∷ words) h = absurd h
turned (t ∷ types) [] h = absurd h
turned (t ∷ types) (word ∷ words) h =
    rw (reverse-append (t ∷ []) types, reverse-append (word ∷ []) words) (joined (reverse types) (t ∷ []) (reverse words) (word ∷ []) (turned types words h.1) (h.0, tt))

pub turned_back : (types : List ValType) (words : List ℕ) → AreWords (reverse types) words → AreWords types (reverse words)
turned_back types words h = subst (λ (ts : List ValType). AreWords ts (reverse words)) (reverse-reverse types) (turned (reverse types) words h)

-- a remainder by the count of words of a width
pub rest_below : (w : Bits) (n : ℕ) → n % 2 ^ bits w < 2 ^ bits w
rest_below w n = mod_below n (2 ^ bits w) (pow_pos (bits w))

-- the word at a place, and another one there
pub word_at : (types : List ValType) (words : List ℕ) (i : ℕ) (type : ValType) → AreWords types words → slice_get types i ≡ Some type → (word : ℕ) × (slice_get words i ≡ Some word) × IsWord type word
word_at [] [] i type h e = cc
word_at [] (word ∷ words) i type h e = absurd h
word_at (t ∷ types) [] i type h e = absurd h
word_at (t ∷ types) (word ∷ words) zero type h e =
    let same : t ≡ type = cc in
    (word, refl, subst (λ (t : ValType). IsWord t word) same h.0)
word_at (t ∷ types) (word ∷ words) (suc i) type h e = word_at types words i type h.1 e

pub word_set : (types : List ValType) (words : List ℕ) (i : ℕ) (type : ValType) (new : ℕ) → AreWords types words → slice_get types i ≡ Some type → IsWord type new → AreWords types (set words i new)
word_set [] [] i type new h e k = cc
word_set [] (word ∷ words) i type new h e k = absurd h
word_set (t ∷ types) [] i type new h e k = absurd h
word_set (t ∷ types) (word ∷ words) zero type new h e k =
    let same : type ≡ t = cc in
    (subst (λ (t : ValType). IsWord t new) same k, h.1)
word_set (t ∷ types) (word ∷ words) (suc i) type new h e k = (h.0, word_set types words i type new h.1 e k)

zero_word : (type : ValType) → IsWord type 0
zero_word I32 = omega arith
zero_word I64 = omega arith

-- each type has the value 0
pub zero_words : (types : List ValType) → AreWords types (map (λ type. 0) types)
zero_words [] = tt
zero_words (t ∷ types) = (zero_word t, zero_words types)

-- the last words of values, and those under them
pub top_words : (n : ℕ) (front under : List ℕ) → n ≡ length front → take n (front ++ under) ≡ front
top_words n front under e = ap (λ (n : ℕ). take n (front ++ under)) e ∙ take-append_seam front under

pub under_words : (n : ℕ) (front under : List ℕ) → n ≡ length front → drop n (front ++ under) ≡ under
under_words n front under e = ap (λ (n : ℕ). drop n (front ++ under)) e ∙ drop-append_seam front under

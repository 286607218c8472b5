-- Binary formats (Core 2.0, section 5.1.2: each grammar says which bytes stand for which syntax). A format is written
-- once, as a `Grammar`. `Matches` says which bytes it stands for, by cases; `Refuses` says where other bytes first
-- leave it, and why: what stands before matches, and the item there matches no case. `read` computes both. The laws
-- in `proofs/Laws` hold of every grammar: `read` answers a tree exactly where one matches, and a refusal exactly where
-- the bytes are refused; so bytes have exactly one tree or exactly one refusal.
use Rattle.std.specs.Prelude.{◌≡◌, ◌≢◌, ◌<◌, ◌≤◌, ◌==◌, ◌+◌, ℕ, zero, suc, Bool, MatchBool, List, [], ◌∷◌, length, take, nat_lt, if◌then◌else◌, Result, Ok, Err, ◌⊎◌, Option, Some, None}
use Rattle.ca_base.specs.Span.{Span, behind, window}
use Rattle.ca_base.specs.declared.refusal.Refusal.{Refusal}
use Rattle.faults.specs.declared.memory.MemoryOr.{MemoryOr}
use Rattle.faults.specs.declared.memory.MemoryOr.TheVariants.{Memory, Fault}

-- a grammar of items of type A, whose refusals have reasons of type W
pub data Grammar : Type 0 → Type 0 → Type 1 where
  -- no bytes
  Give : {W A : Type 0} → A → Grammar W A
  -- no case: refused at this place, for this reason
  Refuse : {W A : Type 0} → ℕ → W → Grammar W A
  -- no bytes: the place, and how many bytes are left
  Here : {W : Type 0} → Grammar W ℕ
  Left : {W : Type 0} → Grammar W ℕ
  -- no bytes: the next byte, or none at the end
  Next : {W : Type 0} → Grammar W (Option ℕ)
  -- one byte, and so many bytes
  Byte : {W : Type 0} → Grammar W ℕ
  Take : {W : Type 0} → ℕ → Grammar W (List ℕ)
  -- So many bytes as a window of their own, which the item fills. What passes its end, and what is left before its
  -- end, is refused for the one reason; the other function turns the item's reasons into those of the whole.
  Sized : {V W A : Type 0} → ℕ → V → (V → W) → Grammar V A → Grammar W A
  -- one of two grammars
  Choose : {W A : Type 0} → Bool → Grammar W A → Grammar W A → Grammar W A
  -- an item, and then what it leads to
  Then : {W A B : Type 0} → Grammar W A → (A → Grammar W B) → Grammar W B

infixl 10 ◌>>=◌
abbrev pub ◌>>=◌ : {W A B : Type 0} → Grammar W A → (A → Grammar W B) → Grammar W B
g >>= f = Then g f

-- the refusal of what passes the window's end, which stands at that end
abbrev pub passing : {W : Type 0} → Span W → Refusal W
passing s = record { place = s.at + length s.bytes; why = s.past }

-- the same refusal with its reason in other words
abbrev pub in_words : {V W : Type 0} → (V → W) → Refusal V → Refusal W
in_words f e = record { place = e.place; why = f e.why }

-- the next byte, or none where none is left
abbrev pub next_byte : List ℕ → Option ℕ
next_byte [] = None
next_byte (b ∷ bytes) = Some b

-- From s the grammar stands for x, and t is left.
abbrev pub Matches : {W A : Type 0} → Grammar W A → Span W → A → Span W → Type 0
Matches (Give y) s x t = (x ≡ y) × (t ≡ s)
Matches (Refuse place why) s x t = ⊥
Matches Here s x t = (x ≡ s.at) × (t ≡ s)
Matches Left s x t = (x ≡ length s.bytes) × (t ≡ s)
Matches Next s x t = (x ≡ next_byte s.bytes) × (t ≡ s)
Matches Byte s x t = (s.bytes ≡ x ∷ t.bytes) × (t.at ≡ s.at + 1) × (t.past ≡ s.past)
Matches (Take count) s x t = (count ≤ length s.bytes) × (x ≡ take count s.bytes) × (t ≡ behind count s)
Matches (Sized count past f g) s x t =
    (count ≤ length s.bytes) × (t ≡ behind count s)
    × ((u : Span _) × Matches g (window count past s) x u × (u.bytes ≡ []))
Matches (Choose b g h) s x t = MatchBool b (Matches g s x t) (Matches h s x t)
Matches (Then g f) s x t = (y : _) × (u : Span _) × Matches g s y u × Matches (f y) u x t

-- From s the grammar stands for nothing: what stands before the place matches, and the item there matches no case.
abbrev pub Refuses : {W A : Type 0} → Grammar W A → Span W → Refusal W → Type 0
Refuses (Give y) s e = ⊥
Refuses (Refuse place why) s e = e ≡ record { place = place; why = why }
Refuses Here s e = ⊥
Refuses Left s e = ⊥
Refuses Next s e = ⊥
Refuses Byte s e = (s.bytes ≡ []) × (e ≡ passing s)
Refuses (Take count) s e = (length s.bytes < count) × (e ≡ passing s)
Refuses (Sized count past f g) s e =
    ((length s.bytes < count) × (e ≡ passing s))
    ⊎ ((count ≤ length s.bytes) × ((d : Refusal _) × Refuses g (window count past s) d × (e ≡ in_words f d)))
    ⊎ ((count ≤ length s.bytes) × ((x : _) × (u : Span _) × Matches g (window count past s) x u × (u.bytes ≢ []) × (e ≡ record { place = u.at; why = f past })))
Refuses (Choose b g h) s e = MatchBool b (Refuses g s e) (Refuses h s e)
Refuses (Then g f) s e = Refuses g s e ⊎ ((y : _) × (u : Span _) × Matches g s y u × Refuses (f y) u e)

-- the first byte
abbrev pub first_byte : {W : Type 0} → Span W → List ℕ → Result (ℕ × Span W) (Refusal W)
first_byte s [] = Err (passing s)
first_byte s (b ∷ rest) = Ok (b, record { bytes = rest; at = s.at + 1; past = s.past })

-- reading goes on after an item
abbrev pub and_then : {W A B : Type 0} → Result (A × Span W) (Refusal W) → (A → Span W → Result (B × Span W) (Refusal W)) → Result (B × Span W) (Refusal W)
and_then (Ok x) f = f x.0 x.1
and_then (Err e) f = Err e

-- Reading goes on after an item that has to fill its window. The item keeps the reason of the window.
abbrev pub filling : {V W A : Type 0} → (V → W) → Result (A × Span V) (Refusal V) → Span W → Result (A × Span W) (Refusal W)
filling f (Ok x) t = if length x.1.bytes == 0 then Ok (x.0, t) else Err (record { place = x.1.at; why = f x.1.past })
filling f (Err e) t = Err (in_words f e)

-- the item and what is left, or the refusal
abbrev pub read : {W A : Type 0} → Grammar W A → Span W → Result (A × Span W) (Refusal W)
read (Give x) s = Ok (x, s)
read (Refuse place why) s = Err (record { place = place; why = why })
read Here s = Ok (s.at, s)
read Left s = Ok (length s.bytes, s)
read Next s = Ok (next_byte s.bytes, s)
read Byte s = first_byte s s.bytes
read (Take count) s = if nat_lt (length s.bytes) count then Err (passing s) else Ok (take count s.bytes, behind count s)
read (Sized count past f g) s =
    if nat_lt (length s.bytes) count then Err (passing s)
    else filling f (read g (window count past s)) (behind count s)
read (Choose b g h) s = if b then read g s else read h s
read (Then g f) s = and_then (read g s) (λ x t. read (f x) t)

-- so many items, one after the other
abbrev pub times : {W A : Type 0} → ℕ → Grammar W A → Grammar W (List A)
times zero g = Give []
times (suc count) g = do
  x ← g
  xs ← times count g
  Give (x ∷ xs)

-- What a call read: the item, as seen by view, and what is left; or the refusal.
abbrev pub Reads : {W A X : Type 0} → (X → A) → Grammar W A → Span W → Span W → Result X (Refusal W) → Type 0
Reads view g s t (Ok x) = read g s ≡ Ok (view x, t)
Reads view g s t (Err e) = read g s ≡ Err e

-- What a call read that may be short of memory, and then says nothing.
abbrev pub MayRead : {W A X : Type 0} → (X → A) → Grammar W A → Span W → Span W → Result X (MemoryOr (Refusal W)) → Type 0
MayRead view g s t (Ok x) = read g s ≡ Ok (view x, t)
MayRead view g s t (Err (Fault e)) = read g s ≡ Err e
MayRead view g s t (Err Memory) = Unit {0}

-- What a call that opens a window of so many bytes answers: the window, and what is left behind it; or the refusal.
abbrev pub Opens : {V W : Type 0} → ℕ → V → Span W → Span W → Result (Span V) (Refusal W) → Type 0
Opens count past s t (Ok u) = (count ≤ length s.bytes) × (u ≡ window count past s) × (t ≡ behind count s)
Opens count past s t (Err e) = (length s.bytes < count) × (e ≡ passing s) × (t ≡ s)

-- What a call that ends the reading of a window answers: that it is filled, or the refusal of what is left of it.
abbrev pub Closes : {X W : Type 0} → Span W → Result X (Refusal W) → Type 0
Closes u (Ok _) = u.bytes ≡ []
Closes u (Err e) = (u.bytes ≢ []) × (e ≡ record { place = u.at; why = u.past })

-- From s the grammar stands for exactly one item, or is refused in exactly one way.
abbrev pub IsDecided : {W A : Type 0} → Grammar W A → Span W → Type 0
IsDecided {W} {A} g s =
    ((x : A) × (t : Span W) × Matches g s x t
    × ((y : A) (u : Span W) → Matches g s y u → (y ≡ x) × (u ≡ t)) × ((e : Refusal W) → Refuses g s e → ⊥))
    ⊎ ((e : Refusal W) × Refuses g s e
    × ((d : Refusal W) → Refuses g s d → d ≡ e) × ((y : A) (u : Span W) → Matches g s y u → ⊥))

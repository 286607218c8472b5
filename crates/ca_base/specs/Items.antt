-- Items that the core and the component format share (Core 2.0, sections 5.1 and 5.2): numbers, names, vectors, and
-- what a size tells the length of.
use Rattle.std.specs.Prelude.{◌≡◌, ◌+◌, ◌-◌, ◌*◌, ℕ, zero, suc, ℤ, pos, ◌+ℤ◌, ◌-ℤ◌, ◌*ℤ◌, Bool, false, Option, Some, None, List, [], ◌∷◌, length, nat_lt, nat_le, ◌==◌, ◌&&◌, ◌||◌, if◌then◌else◌, ◌⊎◌, ◌<◌, Result, Ok, Err}
use Rattle.std.specs.List.{flat_map}
use Rattle.std.specs.Str.Lossy.{utf8_valid_len}
use Rattle.ca_base.specs.Grammar.{Grammar, Give, Refuse, Here, Left, Next, Byte, Take, Sized, Choose, ◌>>=◌, times, read, Opens, passing}
use Rattle.ca_base.specs.Span.{Span}
use Rattle.ca_base.specs.declared.refusal.Refusal.{Refusal}
use Rattle.ca_base.specs.declared.placed.Placed.{Placed}

-- the reasons of numbers and names
pub record NumberReasons (W : Type 0) : Type 0 where
  -- a byte that no number has in its place
  pub leb : W
  -- a name that is not UTF-8
  pub utf8 : W

-- the reasons of what stands in sections
pub record Reasons (W : Type 0) : Type 0 where
  -- a byte that no rule has in its place
  pub unsupported : ℕ → W
  -- an item that passes the end of its section, or bytes left before that end
  pub section_size : W

-- these bytes and no others; the first other one is refused
unfoldable pub fixed : {W : Type 0} → W → List ℕ → Grammar W (Unit {0})
fixed why [] = Give tt
fixed why (b ∷ bytes) = do
  place ← Here
  c ← Byte
  Choose (c == b) (fixed why bytes) (Refuse place why)

-- this byte
unfoldable pub marker : {W : Type 0} → Reasons W → ℕ → Grammar W ℕ
marker reasons b = do
  place ← Here
  c ← Byte
  Choose (c == b) (Give c) (Refuse place (reasons.unsupported c))

-- whether the next byte is this one
abbrev pub is_byte : ℕ → Option ℕ → Bool
is_byte b None = false
is_byte b (Some c) = c == b

-- the byte, where there is one
abbrev pub byte_of : Option ℕ → ℕ
byte_of None = 0
byte_of (Some b) = b

-- Numbers (section 5.2.2). A byte below 128 ends a number; any other one tells seven bits of it, and the rest follows.

-- one byte that passes a test, as the last one that a number can have
unfoldable pub last_byte : {W : Type 0} → NumberReasons W → (ℕ → Bool) → Grammar W ℕ
last_byte numbers test = do
  place ← Here
  b ← Byte
  Choose (test b) (Give b) (Refuse place numbers.leb)

-- an unsigned number: at most so many bytes, and then a last one that is below `top`
unfoldable pub unsigned : {W : Type 0} → NumberReasons W → ℕ → ℕ → Grammar W ℕ
unsigned numbers zero top = last_byte numbers (λ b. nat_lt b top)
unsigned numbers (suc more) top = do
  b ← Byte
  Choose (nat_lt b 128) (Give b) (do
    high ← unsigned numbers more top
    Give (128 * high + (b - 128)))

-- 32 bits: four bytes of seven bits, and a last one of four
abbrev pub u32 : {W : Type 0} → NumberReasons W → Grammar W ℕ
u32 numbers = unsigned numbers 4 16

-- seven bits as a signed number
abbrev pub seven_bits : ℕ → ℤ
seven_bits b = if nat_lt b 64 then pos b else (pos b -ℤ pos 128)

-- A signed number: at most so many bytes, and then a last one whose bits above the sign repeat it. Such a byte is below
-- `top`, or is one of the `top` bytes below 128.
unfoldable pub signed : {W : Type 0} → NumberReasons W → ℕ → ℕ → Grammar W ℤ
signed numbers zero top = do
  b ← last_byte numbers (λ b. nat_lt b top || (nat_le (128 - top) b && nat_lt b 128))
  Give (seven_bits b)
signed numbers (suc more) top = do
  b ← Byte
  Choose (nat_lt b 128) (Give (seven_bits b)) (do
    high ← signed numbers more top
    Give (pos 128 *ℤ high +ℤ pos (b - 128)))

-- 32, 33 and 64 bits: the last byte has four, five and one of them
abbrev pub s32 : {W : Type 0} → NumberReasons W → Grammar W ℤ
s32 numbers = signed numbers 4 8

abbrev pub s33 : {W : Type 0} → NumberReasons W → Grammar W ℤ
s33 numbers = signed numbers 4 16

abbrev pub s64 : {W : Type 0} → NumberReasons W → Grammar W ℤ
s64 numbers = signed numbers 9 1

-- a name (section 5.2.4): how many bytes, and these bytes, which are UTF-8; else the first byte behind the longest
-- front that is UTF-8 is refused
unfoldable pub name : {W : Type 0} → NumberReasons W → Grammar W (List ℕ)
name numbers = do
  count ← u32 numbers
  place ← Here
  bytes ← Take count
  Choose (utf8_valid_len bytes == length bytes) (Give bytes) (Refuse (place + utf8_valid_len bytes) numbers.utf8)

-- what a size tells the length of, and fills it
abbrev pub sized : {W A : Type 0} → NumberReasons W → Reasons W → Grammar W A → Grammar W A
sized numbers reasons item = do
  size ← u32 numbers
  Sized size reasons.section_size (λ why. why) item

-- a name and any bytes, as far as the window goes: what a custom section holds (section 5.5.3)
unfoldable pub custom : {W : Type 0} → NumberReasons W → Grammar W (Unit {0})
custom numbers = do
  _ ← name numbers
  count ← Left
  _ ← Take count
  Give tt

-- Vectors (section 5.1.3): how many items, and the items.
abbrev pub vec : {W A : Type 0} → NumberReasons W → Grammar W A → Grammar W (List A)
vec numbers item = do
  count ← u32 numbers
  times count item

-- an item, and its place
unfoldable pub placed : {W A : Type 0} → Grammar W A → Grammar W (Placed A)
placed item = do
  place ← Here
  x ← item
  Give (record { item = x; place = place })

-- a vector of items with their places
abbrev pub placed_vec : {W A : Type 0} → NumberReasons W → Grammar W A → Grammar W (List (Placed A))
placed_vec numbers item = vec numbers (placed item)

-- items up to the window's end, but no more than so many
unfoldable pub many : {W A : Type 0} → ℕ → Grammar W A → Grammar W (List A)
many zero item = Give []
many (suc count) item = do
  left ← Left
  Choose (left == 0) (Give []) (do
    first ← item
    others ← many count item
    Give (first ∷ others))

-- items, each of at least one byte, up to the window's end
abbrev pub to_the_end : {W A : Type 0} → Grammar W A → Grammar W (List A)
to_the_end item = do
  count ← Left
  many count item

-- the items of several lists, one list after the other
abbrev pub joined : {A : Type 0} → List (List A) → List A
joined parts = flat_map (λ part. part) parts

-- the section of this id (section 5.5.2), where it comes next
abbrev pub section : {W A : Type 0} → NumberReasons W → Reasons W → ℕ → Grammar W A → Grammar W (Option A)
section numbers reasons id payload = do
  next ← Next
  Choose (is_byte id next) (do
    _ ← Byte
    x ← sized numbers reasons payload
    Give (Some x)) (Give None)

-- an item for each of a list, one after the other
abbrev pub each : {W X A : Type 0} → (X → Grammar W A) → List X → Grammar W (List A)
each item [] = Give []
each item (x ∷ xs) = do
  first ← item x
  others ← each item xs
  Give (first ∷ others)

-- no byte is left
unfoldable pub at_end : {W : Type 0} → Reasons W → Grammar W (Unit {0})
at_end reasons = do
  count ← Left
  place ← Here
  Choose (count == 0) (Give tt) (do
    b ← Byte
    Refuse place (reasons.unsupported b))

-- What a call that opens what a size tells the length of answers: its window, and what is left behind it; or the
-- refusal of the size, or of a size that passes the end.
abbrev pub OpensSized : {W : Type 0} → NumberReasons W → Reasons W → Span W → Span W → Result (Span W) (Refusal W) → Type 0
OpensSized numbers reasons s t (Ok u) =
    (size : ℕ) × (c : Span _) × (read (u32 numbers) s ≡ Ok (size, c)) × Opens size reasons.section_size c t (Ok u)
OpensSized numbers reasons s t (Err e) =
    (read (u32 numbers) s ≡ Err e)
    ⊎ ((size : ℕ) × (c : Span _) × (read (u32 numbers) s ≡ Ok (size, c)) × (length c.bytes < size) × (e ≡ passing c))

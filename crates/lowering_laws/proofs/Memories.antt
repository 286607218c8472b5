-- Bytes that are put into a memory, and those beside them.
use Rattle.std.proofs.Common.{◌≡◌, ◌∙◌, ◌≤◌, ◌<◌, ◌+◌, ◌-◌, ◌⊎◌, ℕ, List, ◌++◌, length, take, drop, get_or, refl, ap, sym, arith, inl, inr, append_assoc}
use Rattle.std.proofs.lemmas.List.{ext_get_or, length-append, length-take, length-drop, length-take-le, take_at, drop_at, get_or-append_right, get_or_append_left, get_or-take, get_or-drop}
use Rattle.value_lift.specs.Bytes.{bytes_at}
use Rattle.value_lower.specs.Following.{written}

pub length_written : (place : ℕ) (bytes memory : List ℕ) → place + length bytes ≤ length memory → length (written place bytes memory) ≡ length memory
length_written place bytes memory inside = simp (length-append, length-take, length-drop) (omega arith)

-- they stand there then
pub there : (place : ℕ) (bytes memory : List ℕ) → place + length bytes ≤ length memory → bytes_at place (length bytes) (written place bytes memory) ≡ bytes
there place bytes memory inside =
    let rest : List ℕ = drop (place + length bytes) memory in
    let front : length (take place memory) ≡ place = length-take-le place memory (omega arith) in
    ap (λ (xs : List ℕ). take (length bytes) (drop place xs)) (append_assoc (take place memory) bytes rest)
    ∙ ap (λ (xs : List ℕ). take (length bytes) xs) (drop_at (take place memory) (bytes ++ rest) place front)
    ∙ take_at bytes rest (length bytes) refl

before : (place : ℕ) (bytes memory : List ℕ) (a : ℕ) → place + length bytes ≤ length memory → a < place → get_or (written place bytes memory) a 0 ≡ get_or memory a 0
before place bytes memory a inside low =
    let front : length (take place memory) ≡ place = length-take-le place memory (omega arith) in
    ap (λ (xs : List ℕ). get_or xs a 0) (append_assoc (take place memory) bytes (drop (place + length bytes) memory))
    ∙ get_or_append_left (take place memory) (bytes ++ drop (place + length bytes) memory) 0 a (omega (arith, front))
    ∙ get_or-take place memory a 0 low

behind : (place : ℕ) (bytes memory : List ℕ) (a : ℕ) → place + length bytes ≤ length memory → place + length bytes ≤ a → get_or (written place bytes memory) a 0 ≡ get_or memory a 0
behind place bytes memory a inside high =
    let ends : ℕ = place + length bytes in
    let front : length (take place memory ++ bytes) ≡ ends = simp (length-append, length-take) (omega arith) in
    get_or-append_right (take place memory ++ bytes) (drop ends memory) ends a 0 front high
    ∙ get_or-drop ends memory (a - ends) 0
    ∙ ap (λ (n : ℕ). get_or memory n 0) (let e : ends + (a - ends) ≡ a = omega arith in e)

-- those beside them stay
pub beside : (place : ℕ) (bytes memory : List ℕ) (a : ℕ) → place + length bytes ≤ length memory → (a < place) ⊎ (place + length bytes ≤ a) → get_or (written place bytes memory) a 0 ≡ get_or memory a 0
beside place bytes memory a inside (inl low) = before place bytes memory a inside low
beside place bytes memory a inside (inr high) = behind place bytes memory a inside high

pub bytes_long : (place count : ℕ) (memory : List ℕ) → place + count ≤ length memory → length (bytes_at place count memory) ≡ count
bytes_long place count memory h = length-take-le count (drop place memory) (omega (arith, length-drop place memory))

pub byte_of : (place count : ℕ) (memory : List ℕ) (i : ℕ) → i < count → get_or (bytes_at place count memory) i 0 ≡ get_or memory (place + i) 0
byte_of place count memory i low = get_or-take count (drop place memory) i 0 low ∙ get_or-drop place memory i 0

-- Bytes are the same where each is.
pub same_bytes : (place count : ℕ) (memory later : List ℕ) → place + count ≤ length memory → place + count ≤ length later
    → ((a : ℕ) → place ≤ a → a < place + count → get_or later a 0 ≡ get_or memory a 0) → bytes_at place count later ≡ bytes_at place count memory
same_bytes place count memory later h i same =
    let one : length (bytes_at place count later) ≡ count = bytes_long place count later i in
    let two : length (bytes_at place count memory) ≡ count = bytes_long place count memory h in
    ext_get_or 0 (bytes_at place count later) (bytes_at place count memory) (one ∙ sym two)
    (λ i low.
    let k : i < count = omega (arith, one, low) in
    byte_of place count later i k ∙ same (place + i) (omega arith) (omega arith) ∙ sym (byte_of place count memory i k))

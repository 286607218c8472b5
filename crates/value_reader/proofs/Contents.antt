-- One part of a literal behind others.
use Rattle.std.proofs.Common.{◌≡◌, ◌≢◌, ◌<◌, ℕ, zero, suc, List, [], ◌∷◌, ◌++◌, Some, None, refl, ap, arith}
use Rattle.std.proofs.lemmas.Bool.{eq-eqb, ne_eqb}
use Rattle.std.specs.Char.{encode_utf8}
use Rattle.value_reader.specs.Tokens.{byte_at}
use Rattle.value_reader.proofs.Cases.{some_inj}
use Rattle.value_reader.specs.Quoted.{escape_at, content_from}

pub content_over : (q n : ℕ) (before text : List ℕ) → n ≡ 0 → content_from q n before text ≡ None
content_over q zero before text e = refl
content_over q (suc n) before text e = cc

pub content_no_byte : (q n : ℕ) (before text : List ℕ) → byte_at text ≡ None → content_from q n before text ≡ None
content_no_byte q zero before text h = refl
content_no_byte q (suc n) before [] h = refl
content_no_byte q (suc n) before (b ∷ text) h = cc

pub content_ends : (q n b : ℕ) (before text rest : List ℕ) → 0 < n → byte_at text ≡ Some (b, rest) → b ≡ q → content_from q n before text ≡ Some (before, rest)
content_ends q zero b before text rest low h e = absurd (omega arith)
content_ends q (suc n) b before [] rest low h e = cc
content_ends q (suc n) b before (c ∷ text) rest low h e =
    let here : c ≡ b = ap (λ (p : ℕ × List ℕ). p.0) (some_inj h) in
    let behind : text ≡ rest = ap (λ (p : ℕ × List ℕ). p.1) (some_inj h) in
    rw (here, eq-eqb b q e, behind) refl

pub content_goes : (q n k b : ℕ) (before text rest : List ℕ) → n ≡ suc k → byte_at text ≡ Some (b, rest) → b ≢ q → b ≢ 92
    → content_from q n before text ≡ content_from q k (before ++ b ∷ []) rest
content_goes q zero k b before text rest low h e f = cc
content_goes q (suc n) k b before [] rest low h e f = cc
content_goes q (suc n) k b before (c ∷ text) rest low h e f =
    let here : c ≡ b = ap (λ (p : ℕ × List ℕ). p.0) (some_inj h) in
    let behind : text ≡ rest = ap (λ (p : ℕ × List ℕ). p.1) (some_inj h) in
    let same : n ≡ k = cc in
    rw (here, ne_eqb b q e, ne_eqb b 92 f, behind, same) refl

pub content_escapes : (q n k b c : ℕ) (before text rest behind : List ℕ) → n ≡ suc k → byte_at text ≡ Some (b, rest) → b ≢ q → b ≡ 92 → escape_at rest ≡ Some (c, behind)
    → content_from q n before text ≡ content_from q k (before ++ encode_utf8 c) behind
content_escapes q zero k b c before text rest behind low h e f i = cc
content_escapes q (suc n) k b c before [] rest behind low h e f i = cc
content_escapes q (suc n) k b c before (d ∷ text) rest behind low h e f i =
    let here : d ≡ b = ap (λ (p : ℕ × List ℕ). p.0) (some_inj h) in
    let left : text ≡ rest = ap (λ (p : ℕ × List ℕ). p.1) (some_inj h) in
    let same : n ≡ k = cc in
    rw (here, ne_eqb b q e, eq-eqb b 92 f, left, same, i) refl

pub content_no_escape : (q n b : ℕ) (before text rest : List ℕ) → byte_at text ≡ Some (b, rest) → b ≢ q → b ≡ 92 → escape_at rest ≡ None
    → content_from q n before text ≡ None
content_no_escape q zero b before text rest h e f i = refl
content_no_escape q (suc n) b before [] rest h e f i = refl
content_no_escape q (suc n) b before (d ∷ text) rest h e f i =
    let here : d ≡ b = ap (λ (p : ℕ × List ℕ). p.0) (some_inj h) in
    let left : text ≡ rest = ap (λ (p : ℕ × List ℕ). p.1) (some_inj h) in
    rw (here, ne_eqb b q e, eq-eqb b 92 f, left, i) refl

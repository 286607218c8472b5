-- What a reading says of the bytes, where all that matches comes to one end.
use Rattle.std.proofs.Common.{◌≡◌, sym, ◌∙◌, subst, refl, Result, Ok, Err, ◌⊎◌, inl, inr}
use Rattle.std.specs.Result.{IfOk, IfErr}
use Rattle.ca_base.specs.Span.{Span}
use Rattle.ca_base.specs.Grammar.{Grammar, read, Matches, Refuses, MayRead, IsDecided}
use Rattle.ca_base.specs.declared.refusal.Refusal.{Refusal}
use Rattle.faults.specs.declared.memory.MemoryOr.{MemoryOr}
use Rattle.faults.specs.declared.memory.MemoryOr.TheVariants.{Memory, Fault}
use Rattle.ca_base.proofs.Laws.{reads_matches, matches_reads, reads_refuses}

-- what is read comes to that end
pub whole_exact : {W A : Type 0} (g : Grammar W A) (s t u : Span W) (r : Result A (MemoryOr (Refusal W))) → ((x : A) (v : Span W) → Matches g s x v → v ≡ t) → MayRead (λ x. x) g s u r → MayRead (λ x. x) g s t r
whole_exact {W} {A} g s t u (Ok x) ends h = subst (λ (v : Span W). read g s ≡ Ok (x, v)) (ends x u (reads_matches g s x u h)) h
whole_exact g s t u (Err Memory) ends h = tt
whole_exact g s t u (Err (Fault e)) ends h = h

-- what is read matches
pub whole_ok : {W A : Type 0} (g : Grammar W A) (s t : Span W) (r : Result A (MemoryOr (Refusal W))) → MayRead (λ x. x) g s t r → IfOk r (λ x. Matches g s x t)
whole_ok g s t (Ok x) h = reads_matches g s x t h
whole_ok g s t (Err e) h = tt

-- what matches is not refused
pub whole_only : {W A : Type 0} (g : Grammar W A) (s t : Span W) (r : Result A (MemoryOr (Refusal W))) → MayRead (λ x. x) g s t r → (x : A) → Matches g s x t → IfErr r (λ e. e ≡ Memory)
whole_only g s t (Ok y) h x m = tt
whole_only g s t (Err Memory) h x m = refl
whole_only {W} {A} g s t (Err (Fault e)) h x m =
    let found : read g s ≡ Ok (x, t) = matches_reads g s x t m in
    let both : ◌≡◌ {A = Result (A × Span W) (Refusal W)} (Ok (x, t)) (Err e) = sym found ∙ h in
    cc

-- what is refused is refused by the grammar
pub whole_refused : {W A : Type 0} (g : Grammar W A) (s t : Span W) (r : Result A (MemoryOr (Refusal W))) → MayRead (λ x. x) g s t r → IfErr r (λ e. (refusal : Refusal W) → e ≡ Fault refusal → Refuses g s refusal)
whole_refused g s t (Ok x) h = tt
whole_refused g s t (Err Memory) h = λ refusal e. cc
whole_refused {W} {A} g s t (Err (Fault d)) h = λ refusal e.
    let same : d ≡ refusal = cc in
    subst (λ (x : Refusal W). Refuses g s x) same (reads_refuses g s d h)

-- What is decided of the bytes is decided of that end.
pub whole_decided : {W A : Type 0} (g : Grammar W A) (s t : Span W) → ((x : A) (v : Span W) → Matches g s x v → v ≡ t) → IsDecided g s
    → ((x : A) × Matches g s x t × ((other : A) → Matches g s other t → other ≡ x) × ((e : Refusal W) → Refuses g s e → ⊥))
    ⊎ ((e : Refusal W) × Refuses g s e × ((other : Refusal W) → Refuses g s other → other ≡ e) × ((x : A) → Matches g s x t → ⊥))
whole_decided {W} {A} g s t ends (inl d) =
    inl (
      d.0,
      subst (λ (v : Span W). Matches g s d.0 v) (ends d.0 d.1 d.2) d.2,
      (λ other m. (d.3 other t m).0),
      d.4,
    )
whole_decided g s t ends (inr d) = inr (d.0, d.1, d.2, λ x m. d.3 x t m)

-- Resources that instances define, one by one.
use Rattle.std.proofs.Common.{◌≡◌, ◌≢◌, ◌<◌, ◌≤◌, ◌+◌, ◌∙◌, ◌⊎◌, inl, inr, ℕ, zero, suc, Bool, true, false, List, [], ◌∷◌, ◌++◌, length, take, set, get_or, refl, sym, ap, subst, arith, append_assoc, append-nil, Some}
use Rattle.std.specs.Prelude.{nat_eq, if◌then◌else◌}
use Rattle.std.specs.List.{slice_get}
use Rattle.std.proofs.lemmas.Bool.{ne_eqb}
use Rattle.std.proofs.lemmas.Bool.Decides.{nat_tests}
use Rattle.std.proofs.lemmas.List.{length-set}
use Rattle.std.proofs.lemmas.Option.{slice_get_within, slice_get_read}
use Rattle.syntax_trees.proofs.Seen.{take_one}
use Rattle.comp_graph.specs.declared.graph.Resource.{Resource}
use Rattle.program_maker.specs.Programs.{defined_as, defined_by, AreDefined}

-- One resource more.
defined_more : (instance n : ℕ) (resources : List Resource) (r : Resource) → defined_by instance n (resources ++ r ∷ []) ≡ defined_by instance n resources ++ defined_as instance (n + length resources) r
defined_more instance n [] r = let e : n ≡ n + 0 = omega arith in append-nil (defined_as instance n r) ∙ ap (λ (k : ℕ). defined_as instance k r) e
defined_more instance n (x ∷ resources) r =
    let e : suc n + length resources ≡ n + suc (length resources) = omega arith in
    ap (λ (ns : List ℕ). defined_as instance n x ++ ns) (defined_more instance (suc n) resources r)
    ∙ sym (append_assoc (defined_as instance n x) (defined_by instance (suc n) resources) (defined_as instance (suc n + length resources) r))
    ∙ ap (λ (k : ℕ). (defined_as instance n x ++ defined_by instance (suc n) resources) ++ defined_as instance k r) e

as_if : (instance n : ℕ) (r : Resource) (b : Bool) → nat_eq r.instance instance ≡ b → defined_as instance n r ≡ (if b then suc n ∷ [] else [])
as_if instance n r b is = ap (λ (c : Bool). (let ns : List ℕ = if c then suc n ∷ [] else [] in ns)) is

eq_self : (n : ℕ) → nat_eq n n ≡ true
eq_self n = grind (arith, nat_tests)

defined_here : (resources : List Resource) (r : Resource) (old : List ℕ) (number : ℕ) → number ≡ length resources + 1 → old ≡ defined_by r.instance 0 resources
    → old ++ number ∷ [] ≡ defined_by r.instance 0 (resources ++ r ∷ [])
defined_here resources r old number counted is =
    let next : number ≡ suc (0 + length resources) = omega (arith, counted) in
    ap (λ (ns : List ℕ). ns ++ number ∷ []) is
    ∙ ap (λ (k : ℕ). defined_by r.instance 0 resources ++ k ∷ []) next
    ∙ ap (λ (ns : List ℕ). defined_by r.instance 0 resources ++ ns) (sym (as_if r.instance (0 + length resources) r true (eq_self r.instance)))
    ∙ sym (defined_more r.instance 0 resources r)

defined_elsewhere : (instance : ℕ) (resources : List Resource) (r : Resource) → r.instance ≢ instance → defined_by instance 0 (resources ++ r ∷ []) ≡ defined_by instance 0 resources
defined_elsewhere instance resources r apart =
    defined_more instance 0 resources r
    ∙ ap (λ (ns : List ℕ). defined_by instance 0 resources ++ ns) (as_if instance (0 + length resources) r false (ne_eqb r.instance instance apart))
    ∙ append-nil (defined_by instance 0 resources)

-- What is read of a list of which an item was set.
read_set : {A : Type 0} (xs : List A) (i j : ℕ) (w x : A) → slice_get (set xs i w) j ≡ Some x → ((i ≡ j) × (x ≡ w)) ⊎ ((i ≢ j) × (slice_get xs j ≡ Some x))
read_set [] i j w x is = cc
read_set (y ∷ xs) zero zero w x is = inl (refl, (let same : w ≡ x = cc in sym same))
read_set (y ∷ xs) zero (suc j) w x is = inr (λ h. absurd (omega (arith, h)), is)
read_set (y ∷ xs) (suc i) zero w x is = inr (λ h. absurd (omega (arith, h)), is)
read_set (y ∷ xs) (suc i) (suc j) w x is = behind (read_set xs i j w x is)
  where
    behind : ((i ≡ j) × (x ≡ w)) ⊎ ((i ≢ j) × (slice_get xs j ≡ Some x)) → ((suc i ≡ suc j) × (x ≡ w)) ⊎ ((suc i ≢ suc j) × (slice_get xs j ≡ Some x))
    behind (inl h) = inl (ap suc h.0, h.1)
    behind (inr h) = inr (λ e. h.0 (omega (arith, e)), h.1)

-- The instance of a resource is not there, or the resource is among those of its instance.
pub defines_none : (instances : ℕ) (before : List Resource) (r : Resource) (all : List (List ℕ)) → length all ≤ r.instance → AreDefined instances before all → AreDefined instances (before ++ r ∷ []) all
defines_none instances before r all past h = record {
  count = h.count;
  each = λ i ns there.
      let within : i < length all = slice_get_within all i ns there in
      h.each i ns there ∙ sym (defined_elsewhere i before r (λ e. absurd (omega (arith, e, within, past))));
}

pub defines_one : (instances : ℕ) (before : List Resource) (r : Resource) (all : List (List ℕ)) (number : ℕ) (old new : List ℕ) → r.instance < length all → old ≡ get_or all r.instance old → new ≡ old ++ number ∷ []
    → number ≡ length before + 1 → AreDefined instances before all → AreDefined instances (before ++ r ∷ []) (set all r.instance new)
defines_one instances before r all number old new within is pushed counted h = record {
  count = length-set all r.instance new ∙ h.count;
  each = λ i ns there. by i ns (read_set all r.instance i new ns there);
}
  where
    kept : old ≡ defined_by r.instance 0 before
    kept = h.each r.instance old (slice_get_read all (length all) r.instance old refl within is)

    by : (i : ℕ) (ns : List ℕ) → ((r.instance ≡ i) × (ns ≡ new)) ⊎ ((r.instance ≢ i) × (slice_get all i ≡ Some ns)) → ns ≡ defined_by i 0 (before ++ r ∷ [])
    by i ns (inl e) = e.1 ∙ pushed ∙ defined_here before r old number counted kept ∙ ap (λ (j : ℕ). defined_by j 0 (before ++ r ∷ [])) e.0
    by i ns (inr e) = h.each i ns e.1 ∙ sym (defined_elsewhere i before r e.0)

-- One resource more of those that are gone over.
same_read : {A : Type 0} (xs : List A) (at : ℕ) (d e : A) → at < length xs → get_or xs at d ≡ get_or xs at e
same_read [] at d e l = absurd (omega arith)
same_read (x ∷ xs) zero d e l = refl
same_read (x ∷ xs) (suc at) d e l = same_read xs at d e (omega arith)

pub defined_step : (instances : ℕ) (resources : List Resource) (at : ℕ) (r d : Resource) (all : List (List ℕ)) → at < length resources → r ≡ get_or resources at d → AreDefined instances (take at resources ++ r ∷ []) all
    → AreDefined instances (take (at + 1) resources) all
defined_step instances resources at r d all l i h = subst (λ (rs : List Resource). AreDefined instances rs all) (sym (take_one resources at r l (i ∙ same_read resources at d r l))) h

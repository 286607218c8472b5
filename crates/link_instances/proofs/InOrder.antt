-- The exports of an instance in order: those of its base, or those that a type sees of it.
use Rattle.std.proofs.Common.{◌≡◌, ◌<◌, ◌+◌, ℕ, zero, suc, List, [], ◌∷◌, ◌++◌, length, take, refl, sym, ◌∙◌, ap, subst, arith, inl, inr, Option, Some, None}
use Rattle.std.specs.List.{slice_get, AllZip}
use Rattle.std.proofs.lemmas.List.{take_more}
use Rattle.std.proofs.lemmas.Option.{slice_get_within, slice_get_cases, get_or_from_slice_get}
use Rattle.std.proofs.lemmas.Slice.Zip.{all_zipped_more, AllZip-long}
use Rattle.comp_graph.specs.Closed.{Extern, Externs, EmptyType, WithExtern}
use Rattle.link_spec.specs.Definitions.{Definition, Exports, export_named, Fits, FitAll, seen_as, seen_exports}
use Rattle.link_values.specs.declared.refs.InstanceTypeRef.{InstanceTypeRef}
use Rattle.link_values.specs.declared.refs.ExternRef.{ExternRef}
use Rattle.link_instances.specs.declared.references.InstanceRef.{InstanceRef}
use Rattle.link_instances.specs.declared.references.DefinitionRef.{DefinitionRef}
use Rattle.link_types.specs.Numbering.{AreApart}
use Rattle.link_types.specs.Table.{Table, IsInstanceType, in_order}
use Rattle.link_instances.specs.References.{World, IsSeen, IsInstance, Stands, listed, IsEntry, IsEntryAt, IsFound, AreBases, seen_ref, found_at, entry_at, entry_count}
use Rattle.link_instances.proofs.Asking.{IsAskedAt}
use Rattle.link_instances.proofs.Growing.{base_found}
use Rattle.link_instances.proofs.Standing.{stands_seen}

-- what stands at one place in both of two lists that go with one another
abbrev MayZip : {A B : Type 0} → (A → B → Type 0) → Option A → Option B → Type 0
MayZip R None o = o ≡ None
MayZip {A} {B} R (Some a) o = (b : B) × (o ≡ Some b) × R a b

zip_get : {A B : Type 0} (R : A → B → Type 0) (xs : List A) (ys : List B) → AllZip R xs ys → (k : ℕ) → MayZip R (slice_get xs k) (slice_get ys k)
zip_get R [] [] h k = refl
zip_get R [] (y ∷ ys) h k = absurd h
zip_get R (x ∷ xs) [] h k = absurd h
zip_get R (x ∷ xs) (y ∷ ys) h zero = (y, refl, h.0)
zip_get R (x ∷ xs) (y ∷ ys) h (suc k) = zip_get R xs ys h.1 k

zip_more : {A B : Type 0} (R : A → B → Type 0) (xs : List A) (ys : List B) (at : ℕ) (x : A) (y : B) → at < length ys → AllZip R xs (take at ys) → slice_get ys at ≡ Some y → R x y → AllZip R (xs ++ x ∷ []) (take (at + 1) ys)
zip_more R xs ys at x y within h is r =
    subst (λ (ys : List _). AllZip R (xs ++ x ∷ []) ys) (sym (take_more ys at y within ∙ ap (λ z. take at ys ++ z ∷ []) (get_or_from_slice_get ys at y y is)))
    (all_zipped_more R xs (take at ys) x y h r)

-- what is seen of a base, export by export
abbrev IsSeenEntry : Exports → List ℕ × Extern → List ℕ × Definition → Type 0
IsSeenEntry given asked e = (e.0 ≡ asked.0) × ((d : Definition) × (export_named asked.0 given ≡ Some d) × Fits d asked.1 × (e.1 ≡ seen_as d asked.1))

seen_listed : (given : Exports) (asked : Externs) → FitAll given asked → AllZip (IsSeenEntry given) (in_order asked) (listed (seen_exports given asked))
seen_listed given EmptyType h = tt
seen_listed given (WithExtern others name extern) h =
    rw h.1.1
    (all_zipped_more (IsSeenEntry given) (in_order others) (listed (seen_exports given others)) (name, extern) (name, seen_as h.1.0 extern) (seen_listed given others h.0) (refl, (h.1.0, h.1.1, h.1.2, refl)))

-- In a base.

module _ (t : Table) (w : World) (listings : List (List (ℕ × DefinitionRef))) (are : AreBases t w listings) where
  base_entry : (base : ℕ) (given : Exports) → slice_get w.bases base ≡ Some given → (at : ℕ) → IsEntryAt t w (entry_at listings base at) (slice_get (listed given) at)
  base_entry base given stands at =
      elim (slice_get_cases listings base).1 [
        | inl p ↦ rw p.2 (by (slice_get p.0 at) (zip_get (IsEntry t w) p.0 (listed given) (are.stand base p.0 given p.2 stands) at))
        | inr p ↦ (let within = slice_get_within w.bases base given stands in absurd (omega (arith, are.count, p.0)))
      ]
    where
      by : (o : Option (ℕ × DefinitionRef)) → MayZip (IsEntry t w) o (slice_get (listed given) at) → IsEntryAt t w o (slice_get (listed given) at)
      by None h = h
      by (Some entry) h = h

  base_long : (base : ℕ) (given : Exports) → slice_get w.bases base ≡ Some given → entry_count listings base ≡ length (listed given)
  base_long base given stands =
      elim (slice_get_cases listings base).1 [
        | inl p ↦ rw p.2 (sym (AllZip-long (IsEntry t w) p.0 (listed given) (are.stand base p.0 given p.2 stands)))
        | inr p ↦ (let within = slice_get_within w.bases base given stands in absurd (omega (arith, are.count, p.0)))
      ]

  -- As it is.
  pub plain_entry : (i : InstanceRef) (exports : Exports) → IsInstance t w i exports → i.seen_as ≡ None → (at : ℕ) (o : Option (ℕ × DefinitionRef)) → o ≡ entry_at listings i.base at → IsEntryAt t w o (slice_get (listed exports) at)
  plain_entry i exports h plain at o is = by i.seen_as plain h.seen
    where
      by : (s : Option InstanceTypeRef) → s ≡ None → IsSeen t h.base s exports → IsEntryAt t w o (slice_get (listed exports) at)
      by None e same =
          subst (λ (exports : Exports). IsEntryAt t w o (slice_get (listed exports) at)) (sym same)
          (subst (λ (o : Option (ℕ × DefinitionRef)). IsEntryAt t w o (slice_get (listed h.base) at)) (sym is) (base_entry i.base h.base h.stands at))
      by (Some r) e same = cc

  pub plain_long : (i : InstanceRef) (exports : Exports) → IsInstance t w i exports → i.seen_as ≡ None → (count : ℕ) → count ≡ entry_count listings i.base → count ≡ length (listed exports)
  plain_long i exports h plain count is = by i.seen_as plain h.seen
    where
      by : (s : Option InstanceTypeRef) → s ≡ None → IsSeen t h.base s exports → count ≡ length (listed exports)
      by None e same = is ∙ base_long i.base h.base h.stands ∙ ap (λ (exports : Exports). length (listed exports)) (sym same)
      by (Some r) e same = cc

  -- As a type sees it.

  module _ (apart : AreApart t.texts) (given : Exports) (base : ℕ) (stands : slice_get w.bases base ≡ Some given) where
    in_base : (n : ℕ) (q : List ℕ) → slice_get t.texts n ≡ Some q → IsFound t w (found_at listings base n) (export_named q given)
    in_base n q text = base_found t w listings are apart (record { base = base; seen_as = None }) given (record { base = given; stands = stands; seen = refl }) n q text

    -- what the type asks for at a place, with what the base has for it
    pub seen_entry : (asked : Externs) (at : ℕ) → FitAll given asked → (entry : ℕ × ExternRef) → IsAskedAt t (Some entry) (slice_get (in_order asked) at)
        → (o : Option DefinitionRef) → o ≡ found_at listings base entry.0
        → (d : DefinitionRef) × (o ≡ Some d) × IsEntryAt t w (Some (entry.0, seen_ref d entry.1)) (slice_get (listed (seen_exports given asked)) at)
    seen_entry asked at fit entry (e, there, text, extern) o found =
        let p : MayZip (IsSeenEntry given) (Some e) (slice_get (listed (seen_exports given asked)) at) =
        subst (λ (o : Option (List ℕ × Extern)). MayZip (IsSeenEntry given) o (slice_get (listed (seen_exports given asked)) at)) there
        (zip_get (IsSeenEntry given) (in_order asked) (listed (seen_exports given asked)) (seen_listed given asked fit) at) in
        by o (subst (λ (o : Option DefinitionRef). IsFound t w o (export_named e.0 given)) (sym found) (in_base entry.0 e.0 text)) p
      where
        by : (o : Option DefinitionRef) → IsFound t w o (export_named e.0 given) → MayZip (IsSeenEntry given) (Some e) (slice_get (listed (seen_exports given asked)) at)
            → (d : DefinitionRef) × (o ≡ Some d) × IsEntryAt t w (Some (entry.0, seen_ref d entry.1)) (slice_get (listed (seen_exports given asked)) at)
        by None none (x, at_x, (name, (d, named, fits, seen))) = let no : None ≡ Some d = sym none ∙ named in absurd (cc)
        by (Some ref) (other, is, for) (x, at_x, (name, (d, named, fits, seen))) =
            let both : Some other ≡ Some d = sym is ∙ named in
            let one : other ≡ d = cc in
            let is_d : Stands t w ref d = subst (λ (d : Definition). Stands t w ref d) one for in
            (ref, refl, (x, at_x, (subst (λ (q : List ℕ). slice_get t.texts entry.0 ≡ Some q) (sym name) text, subst (λ (d : Definition). Stands t w (seen_ref ref entry.1) d) (sym seen) (stands_seen t w ref entry.1 d e.1 is_d extern fits))))

-- How much is seen.
pub seen_long : (given : Exports) (asked : Externs) → FitAll given asked → length (in_order asked) ≡ length (listed (seen_exports given asked))
seen_long given asked fit = sym (AllZip-long (IsSeenEntry given) (in_order asked) (listed (seen_exports given asked)) (seen_listed given asked fit))

pub seen_past : (given : Exports) (asked : Externs) (at : ℕ) → FitAll given asked → slice_get (in_order asked) at ≡ None → slice_get (listed (seen_exports given asked)) at ≡ None
seen_past given asked at fit none =
    subst (λ (o : Option (List ℕ × Extern)). MayZip (IsSeenEntry given) o (slice_get (listed (seen_exports given asked)) at)) none
    (zip_get (IsSeenEntry given) (in_order asked) (listed (seen_exports given asked)) (seen_listed given asked fit) at)

-- An instance that is seen as a type.
pub of_type : (t : Table) (w : World) (i : InstanceRef) (exports : Exports) (h : IsInstance t w i exports) (r : InstanceTypeRef) → i.seen_as ≡ Some r
    → (asked : Externs) × IsInstanceType t r asked × FitAll h.base asked × (exports ≡ seen_exports h.base asked)
of_type t w i exports h r seen = by i.seen_as seen h.seen
  where
    by : (s : Option InstanceTypeRef) → s ≡ Some r → IsSeen t h.base s exports → (asked : Externs) × IsInstanceType t r asked × FitAll h.base asked × (exports ≡ seen_exports h.base asked)
    by None e is = cc
    by (Some s) e (asked, type, fit, is) =
        let same : s ≡ r = cc in
        (asked, subst (λ (s : InstanceTypeRef). IsInstanceType t s asked) same type, fit, is)

-- One export more of those in order.
pub one_more : (t : Table) (w : World) (exports : Exports) (entries : List (ℕ × DefinitionRef)) (at : ℕ) (o : Option (ℕ × DefinitionRef)) (entry : ℕ × DefinitionRef) → at < length (listed exports)
    → AllZip (IsEntry t w) entries (take at (listed exports)) → IsEntryAt t w o (slice_get (listed exports) at) → o ≡ Some entry → AllZip (IsEntry t w) (entries ++ entry ∷ []) (take (at + 1) (listed exports))
one_more t w exports entries at None entry within h found is = cc
one_more t w exports entries at (Some other) entry within h (e, there, stands) is =
    let same : other ≡ entry = cc in
    zip_more (IsEntry t w) entries (listed exports) at entry e within h there (subst (λ (entry : ℕ × DefinitionRef). IsEntry t w entry e) same stands)

pub none_there : (t : Table) (w : World) (exports : Exports) (at : ℕ) (o : Option (ℕ × DefinitionRef)) → at < length (listed exports) → IsEntryAt t w o (slice_get (listed exports) at) → o ≡ None → ⊥
none_there t w exports at (Some entry) within found is = cc
none_there t w exports at None within found is =
    elim (slice_get_cases (listed exports) at).1 [
      | inl p ↦ (let no : None ≡ Some p.0 = sym found ∙ p.2 in absurd (cc))
      | inr p ↦ absurd (omega (arith, p.0))
    ]

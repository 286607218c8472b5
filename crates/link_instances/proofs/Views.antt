-- Instances that are seen as a type: what stands under a name in them, that they are seen as well at once as in two steps, and
-- what is asked for as a list.
use Rattle.link_types.specs.Table.{in_order}
use Rattle.std.proofs.Common.{◌≡◌, ℕ, Bool, true, false, ◌&&◌, cond, List, [], ◌∷◌, ◌++◌, refl, sym, ◌∙◌, ap, subst, Option, Some, None}
use Rattle.std.specs.List.{list_all}
use Rattle.std.specs.Str.{bytes_eq}
use Rattle.std.proofs.lemmas.List.Folds.{list_all-append}
use Rattle.std.proofs.lemmas.Slice.Eq.{bytes_eq-Decides}
use Rattle.comp_graph.specs.Closed.{Extern, OfFunc, OfType, OfInstance, Externs, EmptyType, WithExtern, first_of, extern_named}
use Rattle.link_spec.specs.Definitions.{Definition, AFunc, AType, AComponent, AnInstance, AModule, Exports, export_named, Fits, FitAll, first_lacking, seen_as, seen_exports}
use Rattle.link_spec.specs.Items.{first_told}
use Rattle.link_spec.specs.Tests.{fit_all}
use Rattle.link_instances.specs.Views.{seen_under, extern_lacks, extern_fits}

-- By name.

-- what is asked for under a name stands there, and is what is asked for
pub fit_named : (q : List ℕ) (given : Exports) (asked : Externs) (e : Extern) → FitAll given asked → extern_named q asked ≡ Some e
    → (d : Definition) × (export_named q given ≡ Some d) × Fits d e
fit_named q given EmptyType e h is = let no : None ≡ Some e = is in cc
fit_named q given (WithExtern others name extern) e h is =
    by (extern_named q others) refl (bytes_eq name q) refl is (λ k. fit_named q given others e h.0 k)
  where
    by : (o : Option Extern) → extern_named q others ≡ o → (b : Bool) → bytes_eq name q ≡ b → first_of o (cond b (Some extern) None) ≡ Some e
        → (extern_named q others ≡ Some e → (d : Definition) × (export_named q given ≡ Some d) × Fits d e)
        → (d : Definition) × (export_named q given ≡ Some d) × Fits d e
    by (Some x) first b same is rest = rest (first ∙ is)
    by None first true same is rest =
        let name_is : name ≡ q = (bytes_eq-Decides name q).0 same in
        let extern_is : extern ≡ e = cc in
        (h.1.0, subst (λ (n : List ℕ). export_named n given ≡ Some h.1.0) name_is h.1.1, subst (λ (x : Extern). Fits h.1.0 x) extern_is h.1.2)
    by None first false same is rest = let no : None ≡ Some e = is in cc

-- what stands under a name in an instance that is seen as a type
pub seen_named : (q : List ℕ) (given : Exports) (asked : Externs) → FitAll given asked
    → export_named q (seen_exports given asked) ≡ seen_under (export_named q given) (extern_named q asked)
seen_named q given EmptyType h = refl
seen_named q given (WithExtern others name extern) h =
    rw (h.1.1, seen_named q given others h.0) (by (extern_named q others) refl (bytes_eq name q) refl)
  where
    by : (o : Option Extern) → extern_named q others ≡ o → (b : Bool) → bytes_eq name q ≡ b
        → first_of (seen_under (export_named q given) o) (cond b (Some (seen_as h.1.0 extern)) None) ≡ seen_under (export_named q given) (first_of o (cond b (Some extern) None))
    by (Some e) first b same = let p = fit_named q given others e h.0 first in rw p.1 refl
    by None first true same =
        let name_is : name ≡ q = (bytes_eq-Decides name q).0 same in
        let found : export_named q given ≡ Some h.1.0 = subst (λ (n : List ℕ). export_named n given ≡ Some h.1.0) name_is h.1.1 in
        rw found refl
    by None first false same = refl

-- what is found in an instance that is seen as a type: what the instance has there, as the type asks for it
pub seen_found : (q : List ℕ) (given : Exports) (asked : Externs) (x : Definition) → FitAll given asked → export_named q (seen_exports given asked) ≡ Some x
    → (e : Extern) × (d : Definition) × (extern_named q asked ≡ Some e) × (export_named q given ≡ Some d) × Fits d e × (x ≡ seen_as d e)
seen_found q given asked x h is = by (extern_named q asked) refl (sym (seen_named q given asked h) ∙ is)
  where
    by : (o : Option Extern) → extern_named q asked ≡ o → seen_under (export_named q given) o ≡ Some x
        → (e : Extern) × (d : Definition) × (extern_named q asked ≡ Some e) × (export_named q given ≡ Some d) × Fits d e × (x ≡ seen_as d e)
    by None named k = let no : None ≡ Some x = k in cc
    by (Some e) named k =
        let p = fit_named q given asked e h named in
        let seen : Some (seen_as p.0 e) ≡ Some x = rw p.1 at k in
        (e, p.0, named, p.1, p.2, (let same : x ≡ seen_as p.0 e = cc in same))

-- In two steps.

mutual
  pub as_twice : (d : Definition) (a b : Extern) → Fits d a → Fits (seen_as d a) b → seen_as (seen_as d a) b ≡ seen_as d b
  as_twice (AnInstance given) (OfInstance a) (OfInstance b) h k = ap AnInstance (exports_twice given a b h k)
  as_twice (AnInstance given) (OfInstance a) (OfFunc type) h k = absurd k
  as_twice (AnInstance given) (OfInstance a) (OfType type) h k = absurd k
  as_twice (AnInstance given) (OfFunc type) b h k = absurd h
  as_twice (AnInstance given) (OfType type) b h k = absurd h
  as_twice (AFunc f) a b h k = refl
  as_twice (AType type) a b h k = refl
  as_twice (AComponent c) a b h k = refl
  as_twice (AModule m) a b h k = refl

  pub exports_twice : (given : Exports) (a b : Externs) → FitAll given a → FitAll (seen_exports given a) b
      → seen_exports (seen_exports given a) b ≡ seen_exports given b
  exports_twice given a EmptyType h k = refl
  exports_twice given a (WithExtern others name extern) h k =
      let p = seen_found name given a k.1.0 h k.1.1 in
      let fit : Fits (seen_as p.1 p.0) extern = subst (λ (x : Definition). Fits x extern) p.5 k.1.2 in
      let one : seen_as k.1.0 extern ≡ seen_as p.1 extern = ap (λ (x : Definition). seen_as x extern) p.5 ∙ as_twice p.1 p.0 extern p.4 fit in
      rw (k.1.1, p.3, one, exports_twice given a others h k.0) refl

mutual
  pub as_fits : (d : Definition) (a b : Extern) → Fits d a → Fits (seen_as d a) b → Fits d b
  as_fits (AnInstance given) (OfInstance a) (OfInstance b) h k = exports_fit given a b h k
  as_fits (AnInstance given) (OfInstance a) (OfFunc type) h k = absurd k
  as_fits (AnInstance given) (OfInstance a) (OfType type) h k = absurd k
  as_fits (AnInstance given) (OfFunc type) b h k = absurd h
  as_fits (AnInstance given) (OfType type) b h k = absurd h
  as_fits (AFunc f) a b h k = k
  as_fits (AType type) a b h k = k
  as_fits (AComponent c) a b h k = k
  as_fits (AModule m) a b h k = k

  pub exports_fit : (given : Exports) (a b : Externs) → FitAll given a → FitAll (seen_exports given a) b → FitAll given b
  exports_fit given a EmptyType h k = tt
  exports_fit given a (WithExtern others name extern) h k =
      let p = seen_found name given a k.1.0 h k.1.1 in
      let fit : Fits (seen_as p.1 p.0) extern = subst (λ (x : Definition). Fits x extern) p.5 k.1.2 in
      (exports_fit given a others h k.0, (p.1, p.3, as_fits p.1 p.0 extern p.4 fit))

-- What is asked for as a list.

pub first_none : {A : Type 0} (o : Option A) → first_of o None ≡ o
first_none None = refl
first_none (Some a) = refl

pub first_assoc : {A : Type 0} (a b c : Option A) → first_of a (first_of b c) ≡ first_of (first_of a b) c
first_assoc None b c = refl
first_assoc (Some a) b c = refl

pub told_append : {A : Type 0} (f : A → Option (List ℕ)) (xs ys : List A) → first_told f (xs ++ ys) ≡ first_of (first_told f xs) (first_told f ys)
told_append f [] ys = refl
told_append f (x ∷ xs) ys = rw (told_append f xs ys) (first_assoc (f x) (first_told f xs) (first_told f ys))

pub and_true : (b : Bool) → (b && true) ≡ b
and_true true = refl
and_true false = refl

pub lacking_listed : (given : Exports) (asked : Externs) → first_lacking given asked ≡ first_told (extern_lacks given) (in_order asked)
lacking_listed given EmptyType = refl
lacking_listed given (WithExtern others name extern) =
    rw (told_append (extern_lacks given) (in_order others) ((name, extern) ∷ []), ← lacking_listed given others, first_none (extern_lacks given (name, extern))) refl

pub fit_listed : (given : Exports) (asked : Externs) → fit_all given asked ≡ list_all (extern_fits given) (in_order asked)
fit_listed given EmptyType = refl
fit_listed given (WithExtern others name extern) =
    rw (list_all-append (extern_fits given) (in_order others) ((name, extern) ∷ []), ← fit_listed given others, and_true (extern_fits given (name, extern))) refl

-- References stand for what they stood for, where the tables grow.
use Rattle.std.proofs.Common.{◌≡◌, ◌⊎◌, ℕ, zero, suc, List, [], ◌∷◌, ◌++◌, length, refl, sym, ◌∙◌, ap, subst, arith, length-append, inl, inr, Option, Some, None}
use Rattle.std.specs.List.{slice_get, AllZip}
use Rattle.std.specs.Option.{option_and_then}
use Rattle.std.proofs.lemmas.Option.{slice_get_within, slice_get_cases}
use Rattle.link_spec.specs.Definitions.{Definition, AFunc, AType, AComponent, AnInstance, AModule, Exports, export_named, types_of}
use Rattle.link_values.specs.declared.refs.InstanceTypeRef.{InstanceTypeRef}
use Rattle.link_instances.specs.declared.references.InstanceRef.{InstanceRef}
use Rattle.link_instances.specs.declared.references.DefinitionRef.{DefinitionRef}
use Rattle.link_instances.specs.declared.references.DefinitionRef.TheVariants as definition_ref
use Rattle.link_instances.specs.declared.pairs.Pair.{Pair}
use Rattle.link_types.specs.Numbering.{AreApart}
use Rattle.link_values.specs.Listed.{item_named}
use Rattle.link_types.specs.Table.{Table}
use Rattle.link_types.specs.Table.{Grows}
use Rattle.link_instances.specs.References.{World, IsSeen, IsInstance, Stands, listed, IsEntry, IsListing, IsFound, AreBases, with_base, Stays, WorldStays}
use Rattle.link_instances.specs.Pairs.{IsKnown}
use Rattle.link_instances.specs.OfTypes.{HasTypes}
use Rattle.link_types.proofs.TypesGrow.{grows_refl, func_stays, type_stays, instance_type_stays}
use Rattle.link_instances.proofs.Named.{listing_found}

-- what stands at a place stands there also with more behind
pub stays_before : {A : Type 0} (xs ys : List A) → Stays xs (xs ++ ys)
stays_before [] ys k x h = cc
stays_before (y ∷ xs) ys zero x h = h
stays_before (y ∷ xs) ys (suc k) x h = stays_before xs ys k x h

at_last : {A : Type 0} (xs : List A) (x : A) → slice_get (xs ++ x ∷ []) (length xs) ≡ Some x
at_last [] x = refl
at_last (y ∷ xs) x = at_last xs x

before_or_last : {A : Type 0} (xs : List A) (y : A) (k : ℕ) (x : A) → slice_get (xs ++ y ∷ []) k ≡ Some x → (slice_get xs k ≡ Some x) ⊎ ((k ≡ length xs) × (x ≡ y))
before_or_last [] y zero x h = inr (refl, cc)
before_or_last [] y (suc k) x h = cc
before_or_last (z ∷ xs) y zero x h = inl h
before_or_last (z ∷ xs) y (suc k) x h = elim (before_or_last xs y k x h) [ inl a ↦ inl a | inr b ↦ inr (ap suc b.0, b.1) ]

same_world : (w : World) → WorldStays w w
same_world w = record { components = λ number x h. h; bases = λ number x h. h; modules = λ number x h. h }

pub more_bases : (w : World) (exports : Exports) → WorldStays w (with_base w exports)
more_bases w exports = record { components = λ number x h. h; bases = stays_before w.bases (exports ∷ []); modules = λ number x h. h }

module _ (t u : Table) (v w : World) (types : Grows t u) (world : WorldStays v w) where
  pub instance_stays : (i : InstanceRef) (exports : Exports) → IsInstance t v i exports → IsInstance u w i exports
  instance_stays i exports h = record { base = h.base; stands = world.bases i.base h.base h.stands; seen = by i.seen_as h.seen }
    where
      by : (o : Option InstanceTypeRef) → IsSeen t h.base o exports → IsSeen u h.base o exports
      by None is = is
      by (Some r) (asked, type, fit, is) = (asked, instance_type_stays t u types r asked type, fit, is)

  pub stands_stays : (ref : DefinitionRef) (d : Definition) → Stands t v ref d → Stands u w ref d
  stands_stays (definition_ref.Func ref) (AFunc f) h = record { instance = h.instance; core = h.core; options = h.options; func_type = func_stays t u types ref.func_type f.func_type h.func_type }
  stands_stays (definition_ref.Type ref) (AType type) h = type_stays t u types ref type h
  stands_stays (definition_ref.Component number) (AComponent c) h = world.components number c h
  stands_stays (definition_ref.Instance i) (AnInstance exports) h = instance_stays i exports h
  stands_stays (definition_ref.Module number) (AModule m) h = world.modules number m h
  stands_stays ref d h = absurd h

  entries_stay : (entries : List (ℕ × DefinitionRef)) (es : List (List ℕ × Definition)) → AllZip (IsEntry t v) entries es → AllZip (IsEntry u w) entries es
  entries_stay [] [] h = tt
  entries_stay [] (e ∷ es) h = absurd h
  entries_stay (entry ∷ entries) [] h = absurd h
  entries_stay (entry ∷ entries) (e ∷ es) h = ((types.texts entry.0 e.0 h.0.0, stands_stays entry.1 e.1 h.0.1), entries_stay entries es h.1)

  pub listing_stays : (entries : List (ℕ × DefinitionRef)) (exports : Exports) → IsListing t v entries exports → IsListing u w entries exports
  listing_stays entries exports h = entries_stay entries (listed exports) h

  pub known_stays : (p : Pair) → IsKnown t v p → IsKnown u w p
  known_stays p k = record {
    given = k.given;
    asked = k.asked;
    instance = instance_stays p.given k.given k.instance;
    type = instance_type_stays t u types p.asked k.asked k.type;
    fits = k.fits;
  }

  pub has_types_stays : (type : InstanceTypeRef) (base : ℕ) → HasTypes t v type base → HasTypes u w type base
  has_types_stays type base h = record {
    externs = h.externs;
    asked = instance_type_stays t u types type h.externs h.asked;
    types = h.types;
    stands = world.bases base (types_of h.externs) h.stands;
  }

  pub bases_stay : (listings : List (List (ℕ × DefinitionRef))) → w.bases ≡ v.bases → AreBases t v listings → AreBases u w listings
  bases_stay listings same h = record {
    count = h.count ∙ ap length (sym same);
    stand = λ number entries exports at stands. listing_stays entries exports (h.stand number entries exports at (subst (λ (bases : List Exports). slice_get bases number ≡ Some exports) same stands));
  }

-- one base more
pub base_added : (t : Table) (w : World) (listings : List (List (ℕ × DefinitionRef))) (entries : List (ℕ × DefinitionRef)) (exports : Exports)
    → AreBases t w listings → IsListing t w entries exports → AreBases t (with_base w exports) (listings ++ entries ∷ [])
base_added t w listings entries exports h is = record { count = count; stand = stand }
  where
    count : length (listings ++ entries ∷ []) ≡ length (with_base w exports).bases
    count = let same = h.count in let a = length-append listings (entries ∷ []) in let b = length-append w.bases (exports ∷ []) in omega arith

    stand : (number : ℕ) (others : List (ℕ × DefinitionRef)) (given : Exports)
        → slice_get (listings ++ entries ∷ []) number ≡ Some others → slice_get (w.bases ++ exports ∷ []) number ≡ Some given → IsListing t (with_base w exports) others given
    stand number others given at there =
        listing_stays t t w (with_base w exports) (grows_refl t) (more_bases w exports) others given (by (before_or_last listings entries number others at) (before_or_last w.bases exports number given there))
      where
        by : (slice_get listings number ≡ Some others) ⊎ ((number ≡ length listings) × (others ≡ entries)) → (slice_get w.bases number ≡ Some given) ⊎ ((number ≡ length w.bases) × (given ≡ exports)) → IsListing t w others given
        by (inl a) (inl b) = h.stand number others given a b
        by (inl a) (inr b) = let within = slice_get_within listings number others a in absurd (omega (arith, h.count, b.0))
        by (inr a) (inl b) = let within = slice_get_within w.bases number given b in absurd (omega (arith, h.count, a.0))
        by (inr a) (inr b) = subst (λ (others : List (ℕ × DefinitionRef)). IsListing t w others given) (sym a.1) (subst (λ (given : Exports). IsListing t w entries given) (sym b.1) is)

pub base_made : (t : Table) (w : World) (listings : List (List (ℕ × DefinitionRef))) (exports : Exports) → AreBases t w listings
    → IsInstance t (with_base w exports) (record { base = length listings; seen_as = None }) exports
base_made t w listings exports h = record {
  base = exports;
  stands = subst (λ (number : ℕ). slice_get (w.bases ++ exports ∷ []) number ≡ Some exports) (sym h.count) (at_last w.bases exports);
  seen = refl;
}

-- what is found in a base under the number of a name
pub base_found : (t : Table) (w : World) (listings : List (List (ℕ × DefinitionRef))) → AreBases t w listings → AreApart t.texts
    → (i : InstanceRef) (exports : Exports) (h : IsInstance t w i exports) (n : ℕ) (q : List ℕ) → slice_get t.texts n ≡ Some q
    → IsFound t w (option_and_then (item_named n) (slice_get listings i.base)) (export_named q h.base)
base_found t w listings are apart i exports h n q text =
    elim (slice_get_cases listings i.base).1 [
      | inl p ↦ rw p.2 (listing_found t w apart n q text p.0 h.base (are.stand i.base p.0 h.base p.2 h.stands))
      | inr p ↦ (let within = slice_get_within w.bases i.base h.base h.stands in absurd (omega (arith, are.count, p.0)))
    ]

-- Instances whose exports are the types that an instance type asks for, as one more is kept.
use Rattle.std.proofs.Common.{◌≡◌, ℕ, Bool, true, false, cond, List, [], ◌∷◌, ◌++◌, length, refl, sym, ◌∙◌, ap, subst, Some, None}
use Rattle.std.specs.Ordering.{is_eq}
use Rattle.std.specs.List.{slice_get}
use Rattle.std.specs.BTreeSet.{BTreeSet}
use Rattle.std.specs.BTreeMap.{Updates}
use Rattle.comp_graph.specs.Closed.{Externs}
use Rattle.link_spec.specs.Definitions.{Exports, types_of}
use Rattle.link_spec.specs.Tests.{are_types}
use Rattle.link_values.specs.declared.refs.InstanceTypeRef.{InstanceTypeRef}
use Rattle.link_instances.specs.declared.references.DefinitionRef.{DefinitionRef}
use Rattle.link_instances.specs.declared.pairs.Pair.{Pair}
use Rattle.link_instances.specs.declared.instances.Instances.{Instances}
use Rattle.link_types.specs.Table.{Table, AreDistinct, IsInstanceType}
use Rattle.link_types.proofs.TypesGrow.{grows_refl}
use Rattle.link_instances.specs.References.{World, IsInstance, IsListing, with_base}
use Rattle.link_instances.specs.Pairs.{has_pair}
use Rattle.link_instances.specs.OfTypes.{type_cmp, base_of, HasTypes}
use Rattle.link_instances.specs.Instances.{AreInstances, HasInstance}
use Rattle.link_instances.proofs.Growing.{more_bases, known_stays, has_types_stays, base_added, base_made}
use Rattle.link_instances.proofs.PairOrder.{type_same}
use Rattle.link_instances.proofs.Turns.{type_once}

-- an instance that is kept
pub kept_types : (t : Table) → AreDistinct t.texts t.values t.layers → (w : World) (type : InstanceTypeRef) (base : ℕ) (externs : Externs)
    → HasTypes t w type base → IsInstanceType t type externs → (are_types externs ≡ true) × IsInstance t w (record { base = base; seen_as = None }) (types_of externs)
kept_types t apart w type base externs h asked =
    let same : h.externs ≡ externs = type_once t apart type h.externs externs h.asked asked in (
      subst (λ (externs : Externs). are_types externs ≡ true) same h.types,
      record { base = types_of externs; stands = subst (λ (externs : Externs). slice_get w.bases base ≡ Some (types_of externs)) same h.stands; seen = refl },
    )

-- one more is kept
module _ (t : Table) (w : World) (old new : Instances) (type : InstanceTypeRef) (entries : List (ℕ × DefinitionRef)) (externs : Externs) (base : ℕ)
    (number : base ≡ length old.bases.items) (bases : new.bases.items ≡ old.bases.items ++ entries ∷ []) (known : new.known ≡ old.known)
    (kept : Updates type_cmp old.of_types new.of_types type (Some base))
    (h : AreInstances t w old) (asked : IsInstanceType t type externs) (types : are_types externs ≡ true) (is : IsListing t w entries (types_of externs)) where
  abbrev exports : Exports
  exports = types_of externs

  made : IsInstance t (with_base w exports) (record { base = base; seen_as = None }) exports
  made = subst (λ (number : ℕ). IsInstance t (with_base w exports) (record { base = number; seen_as = None }) exports) (sym number) (base_made t w old.bases.items exports h.bases)

  this_one : HasTypes t (with_base w exports) type base
  this_one = record {
    externs = externs;
    asked = asked;
    types = types;
    stands = made.stands ∙ ap (λ (e : Exports). Some e) (sym made.seen);
  }

  each_one : (other : InstanceTypeRef) (n : ℕ) (same : Bool) → is_eq (type_cmp type other) ≡ same → cond same (Some base) (base_of old.of_types other) ≡ Some n → HasTypes t (with_base w exports) other n
  each_one other n true same found =
      let is : base ≡ n = cc in
      subst (λ (n : ℕ). HasTypes t (with_base w exports) other n) is (subst (λ (other : InstanceTypeRef). HasTypes t (with_base w exports) other base) (type_same type other same) this_one)
  each_one other n false same found = has_types_stays t t w (with_base w exports) (grows_refl t) (more_bases w exports) other n (h.of_types other n found)

  pub types_kept : HasInstance t (with_base w exports) new (record { base = base; seen_as = None }) exports
  types_kept = record {
    are = record {
      bases = rw bases (base_added t w old.bases.items entries exports h.bases is);
      known = λ p has. known_stays t t w (with_base w exports) (grows_refl t) (more_bases w exports) p (h.known p (subst (λ (known : BTreeSet Pair). has_pair known p ≡ true) known has));
      of_types = λ other n found. each_one other n (is_eq (type_cmp type other)) refl (sym (kept.0 other) ∙ found);
    };
    is = made;
  }

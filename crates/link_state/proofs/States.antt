-- Linkers that have grown.
use Rattle.std.proofs.Common.{◌≡◌, ◌<◌, ℕ, zero, suc, Bool, true, false, List, [], ◌∷◌, ◌++◌, length, map, set, Some, refl, sym, ap, subst, ◌∙◌, inl, inr, arith}
use Rattle.std.specs.Prelude.{get_or}
use Rattle.std.specs.List.{slice_get, AllZip}
use Rattle.std.specs.Option.{option_map}
use Rattle.std.proofs.lemmas.Option.{slice_get_read, slice_get-map}
use Rattle.std.proofs.lemmas.List.{length-map}
use Rattle.std.proofs.lemmas.Slice.Zip.{AllZip-long}
use Rattle.std.specs.Vec.{with_item}
use Rattle.syntax_trees.specs.declared.types.ValType.{ValType}
use Rattle.syntax_trees.specs.declared.module.ModuleTree.{ModuleTree}
use Rattle.comp_graph.specs.Passed.{AreCanonTypes}
use Rattle.canon_types.specs.EndNumbers.{AreEndTypes}
use Rattle.link_spec.specs.Definitions.{Closure, Exports}
use Rattle.link_spec.specs.Spaces.{Spaces, Linking, with_spaces, with_ends}
use Rattle.link_spec.specs.Linked.{exports_at}
use Rattle.link_types.specs.Table.{Grows}
use Rattle.link_types.proofs.TypesGrow.{grows_refl}
use Rattle.link_instances.specs.declared.references.InstanceRef.{InstanceRef}
use Rattle.link_instances.specs.References.{World, Stays, WorldStays, with_base, IsListing}
use Rattle.link_instances.specs.Instances.{AreInstances, GivesInstance}
use Rattle.link_instances.proofs.Growing.{more_bases, stays_before}
use Rattle.link_core_exports.specs.Cores.{CoreLists}
use Rattle.link_state.specs.declared.scope.Scope.{Scope}
use Rattle.link_state.specs.declared.linker.Linker.{Linker}
use Rattle.link_state.specs.State.{world_of, type_table, IsScope, IsKept, ended, IsLive, IsState, IsAt, IsThere}
use Rattle.link_state.proofs.Zips.{zips_weaker, zips_set, zips_reset, other_kept, map_set, zips_there, zips_read, last_is}
use Rattle.link_state.proofs.Growth.{kept_whole, kept_stays, instances_stay, canons_stay, ends_stay}

pub same_world : (w : World) → WorldStays w w
same_world w = record { components = λ number x h. h; bases = λ number x h. h; modules = λ number x h. h }

-- a state stays where the tables behind it have grown
pub state_stays : (bases more : List Exports) (k m : Linker) (l : Linking)
    → Grows k.types m.types → WorldStays (world_of bases k) (world_of more m) → AreInstances m.types (world_of more m) m.instances
    → m.scopes ≡ k.scopes → m.cores.makes ≡ k.cores.makes → m.canons ≡ k.canons → m.canon_types ≡ k.canon_types → m.resources ≡ k.resources → m.plan ≡ k.plan → m.end_types ≡ k.end_types → IsState bases k l → IsState more m l
state_stays bases more k m l types world instances scopes cores canons canon_types resources plan ends h = record {
  instances = instances;
  scopes = subst (λ (v : Linker). AllZip (IsKept m.types (world_of more m)) v.scopes.items l.scopes) (ap (λ scopes. record k { scopes = scopes }) (sym scopes))
      (zips_weaker (IsKept k.types (world_of bases k)) (IsKept m.types (world_of more m)) (kept_stays k.types m.types (world_of bases k) (world_of more m) types world) k.scopes.items l.scopes h.scopes);
  cores = h.cores ∙ sym cores;
  canons = h.canons ∙ ap (λ canons. canons.items) (sym canons);
  canon_types = subst (λ (v : Linker). AreCanonTypes (type_table m.types) v.canon_types.items m.canons.items) (ap (λ canon_types. record k { canon_types = canon_types }) (sym canon_types))
      (subst (λ (v : Linker). AreCanonTypes (type_table m.types) k.canon_types.items v.canons.items) (ap (λ canons. record k { canons = canons }) (sym canons))
      (canons_stay k.types m.types types k.canon_types.items k.canons.items h.canon_types));
  resources = h.resources ∙ ap (λ resources. resources.items) (sym resources);
  plan = h.plan ∙ ap (λ plan. plan.items) (sym plan);
  ends = subst (λ (numbers : List ℕ). AreEndTypes m.types.values numbers l.end_types) (sym ends) (ends_stay k.types m.types types k.end_types l.end_types h.ends);
  room = h.room;
}

-- more types
pub types_grow : (bases : List Exports) (k m : Linker) (l : Linking) → Grows k.types m.types → m ≡ record k { types = m.types } → IsState bases k l → IsState bases m l
types_grow bases k m l grows same h = subst (λ (v : Linker). IsState bases v l) (sym same) grown
  where
    grown : IsState bases (record k { types = m.types }) l
    grown = record {
      instances = instances_stay k.types m.types (world_of bases k) (world_of bases k) grows (same_world (world_of bases k)) k.instances refl h.instances;
      scopes = zips_weaker (IsKept k.types (world_of bases k)) (IsKept m.types (world_of bases k)) (kept_stays k.types m.types (world_of bases k) (world_of bases k) grows (same_world (world_of bases k))) k.scopes.items l.scopes h.scopes;
      cores = h.cores;
      canons = h.canons;
      canon_types = canons_stay k.types m.types grows k.canon_types.items k.canons.items h.canon_types;
      resources = h.resources;
      plan = h.plan;
      ends = ends_stay k.types m.types grows k.end_types l.end_types h.ends;
      room = h.room;
    }

pub at_grows : (bases : List Exports) (k m : Linker) (n : ℕ) (l : Linking) (s : Spaces) → Grows k.types m.types → m ≡ record k { types = m.types } → IsAt bases k n l s → IsAt bases m n l s
at_grows bases k m n l s grows same at = record { state = types_grow bases k m l grows same at.state; there = at.there; live = subst (λ (v : Linker). IsLive v n) (sym same) at.live }

-- What is live, and what is kept of it.

pub live_same : (k m : Linker) (n : ℕ) → ended m ≡ ended k → IsLive k n → IsLive m n
live_same k m n same h = subst (λ (bs : List Bool). slice_get bs n ≡ Some false) (sym same) h

pub live_scopes : (k m : Linker) (n : ℕ) → m.scopes ≡ k.scopes → IsLive k n → IsLive m n
live_scopes k m n same h = live_same k m n (ap (λ scopes. map (λ (scope : Scope). scope.ended) scopes.items) same) h

live_is : (k : Linker) (n : ℕ) (scope : Scope) → scope ≡ get_or k.scopes.items n scope → n < length k.scopes.items → IsLive k n → scope.ended ≡ false
live_is k n scope is within live =
    let there = slice_get_read k.scopes.items (length k.scopes.items) n scope refl within is in
    let told : slice_get (ended k) n ≡ Some scope.ended = slice_get-map (λ (scope : Scope). scope.ended) k.scopes.items n ∙ ap (option_map (λ (scope : Scope). scope.ended)) there in
    let both : Some scope.ended ≡ Some false = sym told ∙ live in
    cc

pub scope_is : (bases : List Exports) (k : Linker) (n : ℕ) (l : Linking) (s : Spaces) (scope : Scope)
    → scope ≡ get_or k.scopes.items n scope → n < length k.scopes.items → IsAt bases k n l s → IsScope k.types (world_of bases k) scope s
scope_is bases k n l s scope is within at =
    (zips_read (IsKept k.types (world_of bases k)) k.scopes.items l.scopes n scope s is within at.state.scopes at.there).whole (live_is k n scope is within at.live)

-- other index spaces of one component instance
pub scope_set : (bases : List Exports) (k : Linker) (n : ℕ) (l : Linking) (s next : Spaces) (old new : Scope)
    → old ≡ get_or k.scopes.items n old → n < length k.scopes.items
    → (IsScope k.types (world_of bases k) old s → IsScope k.types (world_of bases k) new next)
    → IsAt bases k n l s → IsState bases (record k { scopes = with_item k.scopes n new }) (with_spaces l n next)
scope_set bases k n l s next old new is within becomes at = record {
  instances = at.state.instances;
  scopes = zips_set (IsKept k.types (world_of bases k)) k.scopes.items l.scopes n new next at.state.scopes
      (kept_whole k.types (world_of bases k) new next (becomes (scope_is bases k n l s old is within at)));
  cores = at.state.cores;
  canons = at.state.canons;
  canon_types = at.state.canon_types;
  resources = at.state.resources;
  plan = at.state.plan;
  ends = at.state.ends;
  room = at.state.room;
}

pub ended_set : (k : Linker) (n : ℕ) (old new : Scope) → old ≡ get_or k.scopes.items n old → n < length k.scopes.items → new.ended ≡ old.ended → ended (record k { scopes = with_item k.scopes n new }) ≡ ended k
ended_set k n old new is within same = map_set (λ (scope : Scope). scope.ended) k.scopes.items n old new is within same

-- one component instance that ends
pub scope_ended : (bases : List Exports) (k : Linker) (n : ℕ) (l : Linking) (old new : Scope) → old ≡ get_or k.scopes.items n old → n < length k.scopes.items
    → new.types ≡ old.types → new.components ≡ old.components → new.ended ≡ true → IsState bases k l → IsState bases (record k { scopes = with_item k.scopes n new }) l
scope_ended bases k n l old new is within types components over h = record {
  instances = h.instances;
  scopes = zips_reset (IsKept k.types (world_of bases k)) k.scopes.items l.scopes n new h.scopes (λ s there. kept s (zips_read (IsKept k.types (world_of bases k)) k.scopes.items l.scopes n old s is within h.scopes there));
  cores = h.cores;
  canons = h.canons;
  canon_types = h.canon_types;
  resources = h.resources;
  plan = h.plan;
  ends = h.ends;
  room = h.room;
}
  where
    kept : (s : Spaces) → IsKept k.types (world_of bases k) old s → IsKept k.types (world_of bases k) new s
    kept s h = record {
      types = rw types h.types;
      components = rw components h.components;
      whole = λ live. (let no : false ≡ true = sym live ∙ over in cc);
    }

pub others_live : (k : Linker) (n : ℕ) (new : Scope) (m : ℕ) → (m ≡ n → ⊥) → IsLive k m → IsLive (record k { scopes = with_item k.scopes n new }) m
others_live k n new m apart live =
    slice_get-map (λ (scope : Scope). scope.ended) (set k.scopes.items n new) m
    ∙ ap (option_map (λ (scope : Scope). scope.ended)) (other_kept k.scopes.items n m new apart)
    ∙ sym (slice_get-map (λ (scope : Scope). scope.ended) k.scopes.items m) ∙ live

-- one that begins
pub before_live : (k m : Linker) (n : ℕ) → ended m ≡ ended k ++ false ∷ [] → IsLive k n → IsLive m n
before_live k m n more live = subst (λ (bs : List Bool). slice_get bs n ≡ Some false) (sym more) (stays_before (ended k) (false ∷ []) n false live)

pub last_live : (k m : Linker) (n : ℕ) → ended m ≡ ended k ++ false ∷ [] → n ≡ length k.scopes.items → IsLive m n
last_live k m n more is = last_is (ended k) (ended m) false n more (is ∙ sym (length-map k.scopes.items (λ (scope : Scope). scope.ended)))

-- other types of streams and futures
pub ends_noted : (bases : List Exports) (k : Linker) (l : Linking) (numbers : List ℕ) (types : List ValType) → AreEndTypes k.types.values numbers types → IsState bases k l → IsState bases (record k { end_types = numbers }) (with_ends l types true)
ends_noted bases k l numbers types ends h = record { instances = h.instances; scopes = h.scopes; cores = h.cores; canons = h.canons; canon_types = h.canon_types; resources = h.resources; plan = h.plan; ends = ends; room = h.room }

-- more components, and more core modules
pub components_more : (bases : List Exports) (k m : Linker) (n : ℕ) (l : Linking) (s : Spaces) (c : Closure)
    → m ≡ record k { components = m.components } → m.components.items ≡ k.components.items ++ c ∷ [] → IsAt bases k n l s → IsAt bases m n l s
components_more bases k m n l s c same is at = subst (λ (v : Linker). IsAt bases v n l s) (sym same) (record { state = state; there = at.there; live = at.live })
  where
    world : World
    world = record { components = m.components.items; bases = bases; modules = k.cores.modules }

    stays : WorldStays (world_of bases k) world
    stays = record {
      components = subst (λ (cs : List Closure). Stays k.components.items cs) (sym is) (stays_before k.components.items (c ∷ []));
      bases = λ number x h. h;
      modules = λ number x h. h;
    }

    state : IsState bases (record k { components = m.components }) l
    state = state_stays bases bases k (record k { components = m.components }) l (grows_refl k.types) stays (instances_stay k.types k.types (world_of bases k) world (grows_refl k.types) stays k.instances refl at.state.instances) refl refl refl refl refl refl refl at.state

pub modules_more : (bases : List Exports) (k m : Linker) (n : ℕ) (l : Linking) (s : Spaces) (made : ModuleTree)
    → m ≡ record k { cores = m.cores } → m.cores ≡ record k.cores { modules = k.cores.modules ++ made ∷ [] } → IsAt bases k n l s → IsAt bases m n l s
modules_more bases k m n l s made same is at = subst (λ (v : Linker). IsAt bases v n l s) (sym same) (record { state = state; there = at.there; live = at.live })
  where
    world : World
    world = record { components = k.components.items; bases = bases; modules = m.cores.modules }

    stays : WorldStays (world_of bases k) world
    stays = record {
      components = λ number x h. h;
      bases = λ number x h. h;
      modules = subst (λ (ms : List ModuleTree). Stays k.cores.modules ms) (sym (ap (λ (cs : CoreLists). cs.modules) is)) (stays_before k.cores.modules (made ∷ []));
    }

    state : IsState bases (record k { cores = m.cores }) l
    state = state_stays bases bases k (record k { cores = m.cores }) l (grows_refl k.types) stays (instances_stay k.types k.types (world_of bases k) world (grows_refl k.types) stays k.instances refl at.state.instances) refl (ap (λ (cs : CoreLists). cs.makes) is) refl refl refl refl refl at.state

-- one instance more
pub instance_more : (bases : List Exports) (k m : Linker) (l : Linking) (exports : Exports)
    → m ≡ record k { instances = m.instances } → AreInstances k.types (with_base (world_of bases k) exports) m.instances → IsState bases k l → IsState (bases ++ exports ∷ []) m l
instance_more bases k m l exports same instances h = subst (λ (v : Linker). IsState (bases ++ exports ∷ []) v l) (sym same)
    (state_stays bases (bases ++ exports ∷ []) k (record k { instances = m.instances }) l (grows_refl k.types) (more_bases (world_of bases k) exports) instances refl refl refl refl refl refl refl h)

-- an instance that was there, or is one more
pub instance_given : (bases : List Exports) (k m : Linker) (l : Linking) (i : InstanceRef) (exports : Exports)
    → m ≡ record k { instances = m.instances } → GivesInstance k.types (world_of bases k) m.instances i exports → IsState bases k l → IsThere m l i exports
instance_given bases k m l i exports same gives h = subst (λ (v : Linker). IsThere v l i exports) (sym same) (by gives)
  where
    by : GivesInstance k.types (world_of bases k) m.instances i exports → IsThere (record k { instances = m.instances }) l i exports
    by (inl has) = record { bases = bases; state = record { instances = has.are; scopes = h.scopes; cores = h.cores; canons = h.canons; canon_types = h.canon_types; resources = h.resources; plan = h.plan; ends = h.ends; room = h.room }; instance = has.is }
    by (inr has) = record {
      bases = bases ++ exports ∷ [];
      state = instance_more bases k (record k { instances = m.instances }) l exports refl has.are h;
      instance = has.is;
    }

-- the exports of a component instance
pub exports_are : (bases : List Exports) (k : Linker) (n : ℕ) (l : Linking) (scope : Scope)
    → scope ≡ get_or k.scopes.items n scope → n < length k.scopes.items → IsLive k n → IsState bases k l → IsListing k.types (world_of bases k) scope.exports (exports_at l n)
exports_are bases k n l scope is within live h =
    let p = zips_there (IsKept k.types (world_of bases k)) k.scopes.items l.scopes n scope is within h.scopes in
    rw p.1 (p.2.whole (live_is k n scope is within live)).exports

-- A component instance that has begun is there.
there_at : {A : Type 0} (xs : List A) (n : ℕ) → n < length xs → (x : A) × (slice_get xs n ≡ Some x)
there_at [] n h = absurd (omega arith)
there_at (x ∷ xs) zero h = (x, refl)
there_at (x ∷ xs) (suc n) h = there_at xs n (omega arith)

pub as_many : (bases : List Exports) (k : Linker) (l : Linking) → IsState bases k l → length l.scopes ≡ length k.scopes.items
as_many bases k l h = AllZip-long (IsKept k.types (world_of bases k)) k.scopes.items l.scopes h.scopes

pub spaces_at : (bases : List Exports) (k : Linker) (l : Linking) (n : ℕ) → IsState bases k l → n < length k.scopes.items → IsLive k n → (s : Spaces) × IsAt bases k n l s
spaces_at bases k l n h within live =
    let same = as_many bases k l h in
    let s = there_at l.scopes n (omega (arith, same, within)) in
    (s.0, record { state = h; there = s.1; live = live })

-- What outer aliases name, and what stands around a type.
use Rattle.std.proofs.Common.{◌≡◌, ◌⊎◌, inl, inr, ℕ, true, false, List, [], ◌∷◌, map, refl, Option, Some, None}
use Rattle.std.specs.Option.{option_and_then}
use Rattle.std.specs.List.{slice_get, AllZip}
use Rattle.comp_tree.specs.declared.core_instances.CoreSort.{CoreSort}
use Rattle.comp_tree.specs.declared.instances.Sort.{Sort}
use Rattle.comp_tree.specs.declared.instances.Sort.TheVariants as sorts
use Rattle.comp_graph.specs.Closed.{Closed}
use Rattle.link_values.specs.Resources.{further_in}
use Rattle.link_spec.specs.Brought.{moved}
use Rattle.link_spec.specs.Definitions.{Closure}
use Rattle.link_spec.specs.Spaces as spaces
use Rattle.link_spec.specs.Types as types_read
use Rattle.link_spec.specs.Types.{absent, declared_as, with_outer, found, types_around, outer_type, outer_component, own_level}
use Rattle.link_values.specs.declared.refs.TypeRef.{TypeRef}
use Rattle.link_types.specs.Table.{Table, IsType}
use Rattle.link_meanings.specs.declared.levels.Level.{Level}
use Rattle.link_meanings.specs.declared.levels.Enclosing.{Enclosing}
use Rattle.link_meanings.specs.declared.levels.Enclosing.TheVariants as enclosing
use Rattle.link_instance_types.specs.declared.declaring.Declared.{Declared}
use Rattle.link_meanings.specs.Meant.{IsFoundAs, IsMeaning}
use Rattle.link_meanings.specs.Levels.{IsClosure, AreTypes, AreLevels, IsEnclosing, enclosed_types, enclosed_components, types_in}
use Rattle.link_instance_types.specs.Declaring.{IsDeclared}
use Rattle.link_meanings.proofs.Lists.{found_at}

-- A list of images, of which each stands for what the thing stands for.
all_of_images : {A B C : Type 0} (R : B → A → Type 0) (f : C → B) (xs : List C) (ys : List A) → AllZip (λ x y. R (f x) y) xs ys → AllZip R (map f xs) ys
all_of_images R f [] [] h = tt
all_of_images R f [] (y ∷ ys) h = absurd h
all_of_images R f (x ∷ xs) [] h = absurd h
all_of_images R f (x ∷ xs) (y ∷ ys) h = (h.0, all_of_images R f xs ys h.1)

-- what is named of a level: it is not there, or it is found
named_absent : {A B : Type 0} (R : B → A → Type 0) (o : Option (Option A)) → o ≡ None → IsMeaning R (record { is_there = false; missing = None; deep = false; means = None }) (found (λ a. Some a) o)
named_absent R o h = rw h (record { is_there = refl; missing = refl; deep = refl; has_room = refl; means = refl })

kept : {A : Type 0} (o : Option A) → option_and_then (λ a. Some a) o ≡ o
kept None = refl
kept (Some a) = refl

named_found : {A B : Type 0} (R : B → A → Type 0) (b : Option B) (o : Option (Option A)) → IsFoundAs (IsFoundAs R) (Some b) o → IsMeaning R (record { is_there = true; missing = None; deep = false; means = b }) (found (λ a. Some a) o)
named_found R b o h = rw (h.1, kept h.0) (record { is_there = refl; missing = refl; deep = refl; has_room = refl; means = h.2 })

module _ (t : Table) (closures : List Closure) where
  pub type_absent : (up index : ℕ) (level : Enclosing) (l : Option spaces.Level) → IsFoundAs (IsEnclosing t closures) (Some level) l → slice_get (enclosed_types level) index ≡ None
      → IsMeaning (IsType t) (record { is_there = false; missing = None; deep = false; means = None }) (outer_type up index l)
  type_absent up index level l h e =
      let p = rw e at (found_at (IsFoundAs (IsType t)) (enclosed_types level) h.0.types index h.2.types) in
      rw h.1 (moved_absent up (slice_get h.0.types index) p)
    where
      moved_absent : (up : ℕ) (o : Option (Option Closed)) → o ≡ None → IsMeaning (IsType t) (record { is_there = false; missing = None; deep = false; means = None }) (found (λ type. Some (moved (further_in up) 0 type)) o)
      moved_absent up o k = rw k (record { is_there = refl; missing = refl; deep = refl; has_room = refl; means = refl })

  -- a type without a meaning, and one that has one
  pub type_unknown : (up index : ℕ) (level : Enclosing) (l : Option spaces.Level) → IsFoundAs (IsEnclosing t closures) (Some level) l → slice_get (enclosed_types level) index ≡ Some None
      → IsMeaning (IsType t) (record { is_there = true; missing = None; deep = false; means = None }) (outer_type up index l)
  type_unknown up index level l h e =
      let p : IsFoundAs (IsFoundAs (IsType t)) (Some None) (slice_get h.0.types index) = rw e at (found_at (IsFoundAs (IsType t)) (enclosed_types level) h.0.types index h.2.types) in
      rw (h.1, p.1, p.2) (record { is_there = refl; missing = refl; deep = refl; has_room = refl; means = refl })

  pub type_moved : (u : Table) (up index : ℕ) (level : Enclosing) (l : Option spaces.Level) (closed new : TypeRef) → IsFoundAs (IsEnclosing t closures) (Some level) l → slice_get (enclosed_types level) index ≡ Some (Some closed)
      → ((type : Closed) → IsType t closed type → IsType u new (moved (further_in up) 0 type))
      → IsMeaning (IsType u) (record { is_there = true; missing = None; deep = false; means = Some new }) (outer_type up index l)
  type_moved u up index level l closed new h e k =
      let p : IsFoundAs (IsFoundAs (IsType t)) (Some (Some closed)) (slice_get h.0.types index) = rw e at (found_at (IsFoundAs (IsType t)) (enclosed_types level) h.0.types index h.2.types) in
      rw (h.1, p.1, p.2.1) (record { is_there = refl; missing = refl; deep = refl; has_room = refl; means = (moved (further_in up) 0 p.2.0, refl, k p.2.0 p.2.2) })

  pub component_absent : (index : ℕ) (level : Enclosing) (l : Option spaces.Level) → IsFoundAs (IsEnclosing t closures) (Some level) l → slice_get (enclosed_components level) index ≡ None
      → IsMeaning (IsClosure closures) (record { is_there = false; missing = None; deep = false; means = None }) (outer_component index l)
  component_absent index level l h e =
      let p = rw e at (found_at (IsFoundAs (IsClosure closures)) (enclosed_components level) h.0.components index h.2.components) in
      rw h.1 (named_absent (IsClosure closures) (slice_get h.0.components index) p)

  pub component_named : (index : ℕ) (level : Enclosing) (l : Option spaces.Level) (b : Option ℕ) → IsFoundAs (IsEnclosing t closures) (Some level) l → slice_get (enclosed_components level) index ≡ Some b
      → IsMeaning (IsClosure closures) (record { is_there = true; missing = None; deep = false; means = b }) (outer_component index l)
  component_named index level l b h e =
      let p = rw e at (found_at (IsFoundAs (IsClosure closures)) (enclosed_components level) h.0.components index h.2.components) in
      rw h.1 (named_found (IsClosure closures) b (slice_get h.0.components index) p)

  -- the types of the innermost level
  pub innermost_types : (around : List Enclosing) (levels : List spaces.Level) → AllZip (IsEnclosing t closures) around levels → AreTypes t (types_in around) (types_around levels)
  innermost_types [] [] h = tt
  innermost_types [] (l ∷ levels) h = absurd h
  innermost_types (e ∷ around) [] h = absurd h
  innermost_types (e ∷ around) (l ∷ levels) h = h.0.types

  -- an instance type inside others
  pub one_inside : (own : Enclosing) (around : List Enclosing) (levels : List spaces.Level) (d : Declared) (defined : types_read.Declared) → enclosed_types own ≡ d.types.items → enclosed_components own ≡ d.components.items
      → IsDeclared t closures d defined → AllZip (IsEnclosing t closures) around levels → AllZip (IsEnclosing t closures) (own ∷ around) (own_level defined ∷ levels)
  one_inside own around levels d defined e f h a = (record { types = rw e h.types; components = rw f h.components }, a)

  -- component instances alone
  pub component_levels : (levels : List Level) (around : List spaces.Level) → AreLevels t closures levels around → AllZip (IsEnclosing t closures) (map enclosing.Component levels) around
  component_levels = all_of_images (IsEnclosing t closures) enclosing.Component

-- an outer alias of another sort
pub outer_other : (d : types_read.Declared) (levels : List spaces.Level) (sort : Sort) (up index : ℕ) → ((x : CoreSort) × (sort ≡ sorts.Core x)) ⊎ ((sort ≡ sorts.Func) ⊎ (sort ≡ sorts.Instance)) → declared_as d sort absent ≡ with_outer d levels sort up index
outer_other d levels sort up index (inl p) = rw p.1 refl
outer_other d levels sort up index (inr (inl e)) = rw e refl
outer_other d levels sort up index (inr (inr e)) = rw e refl

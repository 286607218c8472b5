-- What imports and exports are to be, as references.
use Rattle.std.proofs.Common.{◌≡◌, ◌∙◌, ℕ, true, false, List, refl, ap, subst, Option, Some, None}
use Rattle.std.specs.Option.{option_map}
use Rattle.std.specs.List.{slice_get}
use Rattle.comp_tree.specs.declared.externs.ExternDesc.{ExternDesc}
use Rattle.comp_tree.specs.declared.externs.ExternDesc.TheVariants as desc
use Rattle.comp_graph.specs.Closed.{Closed, Value, Func, Resource, Instance, OfFunc, OfType, OfInstance, func_of, externs_of}
use Rattle.link_spec.specs.Types.{desc_meaning}
use Rattle.link_values.specs.declared.refs.TypeRef.{TypeRef}
use Rattle.link_values.specs.declared.refs.TypeRef.TheVariants as type_ref
use Rattle.link_types.specs.Table.{Table, IsType, IsExtern}
use Rattle.link_meanings.specs.Meant.{IsFoundAs, IsMeaning}
use Rattle.link_meanings.specs.Levels.{AreTypes}
use Rattle.link_spec.specs.Types.{desc_index}
use Rattle.link_meanings.specs.References.{described_ref}
use Rattle.link_meanings.proofs.Lists.{found_at}

module _ (t : Table) where
  -- the type is not there, it has no meaning, and it has one
  desc_absent : (closed : List (Option Closed)) (asked : ExternDesc) (i : ℕ) → desc_index asked ≡ Some i → slice_get closed i ≡ None → IsMeaning (IsExtern t) (record { is_there = false; missing = None; deep = false; means = None }) (desc_meaning closed asked)
  desc_absent closed (desc.Func index) i e h = let same : index ≡ i = cc in rw (same, h) (record { is_there = refl; missing = refl; deep = refl; has_room = refl; means = refl })
  desc_absent closed (desc.TypeEq index) i e h = let same : index ≡ i = cc in rw (same, h) (record { is_there = refl; missing = refl; deep = refl; has_room = refl; means = refl })
  desc_absent closed (desc.Instance index) i e h = let same : index ≡ i = cc in rw (same, h) (record { is_there = refl; missing = refl; deep = refl; has_room = refl; means = refl })
  desc_absent closed desc.Resource i e h = absurd (let no : ⊥ = cc in no)

  desc_none : (closed : List (Option Closed)) (asked : ExternDesc) (i : ℕ) → desc_index asked ≡ Some i → slice_get closed i ≡ Some None → IsMeaning (IsExtern t) (record { is_there = true; missing = None; deep = false; means = None }) (desc_meaning closed asked)
  desc_none closed (desc.Func index) i e h = let same : index ≡ i = cc in rw (same, h) (record { is_there = refl; missing = refl; deep = refl; has_room = refl; means = refl })
  desc_none closed (desc.TypeEq index) i e h = let same : index ≡ i = cc in rw (same, h) (record { is_there = refl; missing = refl; deep = refl; has_room = refl; means = refl })
  desc_none closed (desc.Instance index) i e h = let same : index ≡ i = cc in rw (same, h) (record { is_there = refl; missing = refl; deep = refl; has_room = refl; means = refl })
  desc_none closed desc.Resource i e h = absurd (let no : ⊥ = cc in no)

  of_func : (index : ℕ) (ref : TypeRef) (c : Closed) → IsType t ref c → IsFoundAs (IsExtern t) (described_ref (desc.Func index) ref) (option_map OfFunc (func_of c))
  of_func index (type_ref.Value type) (Value v) h = refl
  of_func index (type_ref.Func ref) (Func type) h = (OfFunc type, refl, h)
  of_func index (type_ref.Resource number) (Resource other) h = refl
  of_func index (type_ref.Instance ref) (Instance externs) h = refl
  of_func index ref c h = absurd h

  of_instance : (index : ℕ) (ref : TypeRef) (c : Closed) → IsType t ref c → IsFoundAs (IsExtern t) (described_ref (desc.Instance index) ref) (option_map OfInstance (externs_of c))
  of_instance index (type_ref.Value type) (Value v) h = refl
  of_instance index (type_ref.Func ref) (Func type) h = refl
  of_instance index (type_ref.Resource number) (Resource other) h = refl
  of_instance index (type_ref.Instance ref) (Instance externs) h = (OfInstance externs, refl, h)
  of_instance index ref c h = absurd h

  desc_some : (closed : List (Option Closed)) (asked : ExternDesc) (i : ℕ) (ref : TypeRef) (c : Closed) → desc_index asked ≡ Some i → slice_get closed i ≡ Some (Some c) → IsType t ref c
      → IsMeaning (IsExtern t) (record { is_there = true; missing = None; deep = false; means = described_ref asked ref }) (desc_meaning closed asked)
  desc_some closed (desc.Func index) i ref c e h is = let same : index ≡ i = cc in rw (same, h) (record { is_there = refl; missing = refl; deep = refl; has_room = refl; means = of_func i ref c is })
  desc_some closed (desc.TypeEq index) i ref c e h is = let same : index ≡ i = cc in rw (same, h) (record { is_there = refl; missing = refl; deep = refl; has_room = refl; means = (OfType c, refl, is) })
  desc_some closed (desc.Instance index) i ref c e h is = let same : index ≡ i = cc in rw (same, h) (record { is_there = refl; missing = refl; deep = refl; has_room = refl; means = of_instance i ref c is })
  desc_some closed desc.Resource i ref c e h is = absurd (let no : ⊥ = cc in no)

  -- by what the references have at the index
  at_index : (refs : List (Option TypeRef)) (closed : List (Option Closed)) (i : ℕ) (o : Option (Option TypeRef)) → AreTypes t refs closed → slice_get refs i ≡ o → IsFoundAs (IsFoundAs (IsType t)) o (slice_get closed i)
  at_index refs closed i o h f = subst (λ (p : Option (Option TypeRef)). IsFoundAs (IsFoundAs (IsType t)) p (slice_get closed i)) f (found_at (IsFoundAs (IsType t)) refs closed i h)

  pub described_absent : (refs : List (Option TypeRef)) (closed : List (Option Closed)) (asked : ExternDesc) (i : ℕ) → AreTypes t refs closed → desc_index asked ≡ Some i → slice_get refs i ≡ None
      → IsMeaning (IsExtern t) (record { is_there = false; missing = None; deep = false; means = None }) (desc_meaning closed asked)
  described_absent refs closed asked i h e f = desc_absent closed asked i e (at_index refs closed i None h f)

  pub described_none : (refs : List (Option TypeRef)) (closed : List (Option Closed)) (asked : ExternDesc) (i : ℕ) → AreTypes t refs closed → desc_index asked ≡ Some i → slice_get refs i ≡ Some None
      → IsMeaning (IsExtern t) (record { is_there = true; missing = None; deep = false; means = None }) (desc_meaning closed asked)
  described_none refs closed asked i h e f =
      let p = at_index refs closed i (Some None) h f in
      desc_none closed asked i e (p.1 ∙ ap (λ (o : Option Closed). Some o) p.2)

  pub described_some : (refs : List (Option TypeRef)) (closed : List (Option Closed)) (asked : ExternDesc) (i : ℕ) (ref : TypeRef) → AreTypes t refs closed → desc_index asked ≡ Some i → slice_get refs i ≡ Some (Some ref)
      → IsMeaning (IsExtern t) (record { is_there = true; missing = None; deep = false; means = described_ref asked ref }) (desc_meaning closed asked)
  described_some refs closed asked i ref h e f =
      let p = at_index refs closed i (Some (Some ref)) h f in
      desc_some closed asked i ref p.2.0 e (p.1 ∙ ap (λ (o : Option Closed). Some o) p.2.1) p.2.2

  -- without an index
  pub described_nothing : (closed : List (Option Closed)) (asked : ExternDesc) → desc_index asked ≡ None → IsMeaning (IsExtern t) (record { is_there = true; missing = None; deep = false; means = None }) (desc_meaning closed asked)
  described_nothing closed (desc.Func index) e = absurd (let no : ⊥ = cc in no)
  described_nothing closed (desc.TypeEq index) e = absurd (let no : ⊥ = cc in no)
  described_nothing closed (desc.Instance index) e = absurd (let no : ⊥ = cc in no)
  described_nothing closed desc.Resource e = record { is_there = refl; missing = refl; deep = refl; has_room = refl; means = refl }

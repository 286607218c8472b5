-- What a type means is marked, with ends or without, with labels that are many or counted, where all types around it are, and all in
-- it are written so.
use Rattle.std.proofs.Common.{◌≡◌, ℕ, Bool, true, false, cond, List, [], ◌∷◌, ◌++◌, ◌+◌, map, sym, ◌∙◌, subst, Option, Some, None}
use Rattle.std.specs.Prelude.{IfSome}
use Rattle.std.specs.Option.{option_map}
use Rattle.std.specs.List.{slice_get, AllByRecursion}
use Rattle.std.proofs.lemmas.Bool.{and_parts}
use Rattle.syntax_trees.specs.Names.{is_among}
use Rattle.value_reader.specs.Writable.{all_true}
use Rattle.comp_tree.specs.declared.instances.Sort.{Sort}
use Rattle.comp_tree.specs.declared.instances.Sort.TheVariants as sorts
use Rattle.comp_tree.specs.declared.instances.AliasTarget.{AliasTarget}
use Rattle.comp_tree.specs.declared.instances.AliasTarget.TheVariants as target
use Rattle.comp_tree.specs.declared.externs.ExternDesc.{ExternDesc}
use Rattle.comp_tree.specs.declared.types.DefType.{DefType, roll-DefType}
use Rattle.comp_tree.specs.declared.types.InstanceDecl.{InstanceDecl}
use Rattle.comp_tree.specs.declared.types.DefType.TheViews.{roll-InstanceDecl}
use Rattle.comp_tree.specs.declared.types.DefType.TheOpen.{DefType-F, InstanceDecl-F}
use Rattle.comp_tree.specs.declared.types.DefType.TheFolds.{fold-DefType, fold-InstanceDecl, fold-roll-DefType, fold-roll-InstanceDecl, ind-DefType, map-DefType, map-InstanceDecl}
use Rattle.comp_graph.specs.Closed.{Closed, Instance, Extern, OfFunc, OfType, OfInstance, Externs, extern_named}
use Rattle.link_values.specs.Resources.{further_in}
use Rattle.link_spec.specs.Brought.{moved}
use Rattle.link_spec.specs.Definitions.{Closure}
use Rattle.link_spec.specs.Spaces.{Level}
use Rattle.link_spec.specs.Types.{Meaning, absent, Declared, nothing_declared, own_level, type_in, instance_in, with_declared, kept_if, told, of_sort, of_export, from_instance, outer_type, outer_component, with_component, with_type, with_outer, declared_as, with_alias, sort_of, described, brings, extended, under_name, with_export, declared_by, instance_meaning, InLevels, types_around, type_step, decl_step, meaning_of}
use Rattle.link_spec.proofs.Holding.{all_push, all_at, if_mapped}
use Rattle.graph_laws.proofs.CountedTypes.{IsCounted, IsExternCounted, AreCounted, IsKnownCounted, AreKnownCounted, value_meaning_counted, func_meaning_counted, found_counted, named_counted}
use Rattle.graph_laws.proofs.CountedMoved.{type_moved, described_counted}
use Rattle.graph_laws.proofs.TypesStand.{few_step, few_decl_step, has_few}

module _ (ends many : Bool) where
  abbrev pub IsLevelCounted : Level → Type 0
  IsLevelCounted level = AllByRecursion (IsKnownCounted ends many) level.types

  abbrev pub AreLevelsCounted : List Level → Type 0
  AreLevelsCounted levels = AllByRecursion IsLevelCounted levels

  record IsDeclaredCounted (d : Declared) : Type 0 where
    types : AllByRecursion (IsKnownCounted ends many) d.types
    instances : AllByRecursion (AreKnownCounted ends many) d.instances
    so_far : (AreKnownCounted ends many) d.so_far.means

  kept_counted : {A B : Type 0} (P : A → Type 0) (b : Option B) (a : Option A) → IfSome a P → IfSome (kept_if b a) P
  kept_counted P None a h = tt
  kept_counted P (Some b) a h = h

  told_counted : {B : Type 0} (d : Declared) (now : Meaning B) → IsDeclaredCounted d → IsDeclaredCounted (told d now)
  told_counted d now h = record {
    types = h.types;
    instances = h.instances;
    so_far = kept_counted (AreCounted ends many) now.means d.so_far.means h.so_far;
  }

  type_in_counted : (e : Option Extern) → IfSome e (IsExternCounted ends many) → IfSome (type_in e) (IsCounted ends many)
  type_in_counted (Some (OfType type)) h = h
  type_in_counted other h = tt

  instance_in_counted : (e : Option Extern) → IfSome e (IsExternCounted ends many) → IfSome (instance_in e) (AreCounted ends many)
  instance_in_counted (Some (OfInstance externs)) h = h
  instance_in_counted other h = tt

  declared_counted : (d : Declared) (sort : Sort) (e : Option Extern) → IsDeclaredCounted d → IfSome e (IsExternCounted ends many) → IsDeclaredCounted (with_declared d sort e)
  declared_counted d sorts.Func e h k = h
  declared_counted d sorts.Type e h k = record { types = all_push (IsKnownCounted ends many) d.types (type_in e) h.types (type_in_counted e k); instances = h.instances; so_far = h.so_far }
  declared_counted d sorts.Instance e h k = record { types = h.types; instances = all_push (AreKnownCounted ends many) d.instances (instance_in e) h.instances (instance_in_counted e k); so_far = h.so_far }
  declared_counted d sorts.Component e h k = record { types = h.types; instances = h.instances; so_far = h.so_far }
  declared_counted d (sorts.Core sort) e h k = h

  as_counted : (d : Declared) (sort : Sort) (extern : Meaning Extern) → IsDeclaredCounted d → IfSome extern.means (IsExternCounted ends many) → IsDeclaredCounted (declared_as d sort extern)
  as_counted d sort extern h k = told_counted (with_declared d sort extern.means) extern (declared_counted d sort extern.means h k)

  type_counted : (d : Declared) (type : Meaning Closed) → IsDeclaredCounted d → IfSome type.means (IsCounted ends many) → IsDeclaredCounted (with_type d type)
  type_counted d type h k =
      told_counted (with_declared d sorts.Type (option_map OfType type.means)) type (declared_counted d sorts.Type (option_map OfType type.means) h (if_mapped OfType (IsExternCounted ends many) type.means k))

  component_counted : (d : Declared) (c : Meaning Closure) → IsDeclaredCounted d → IsDeclaredCounted (with_component d c)
  component_counted d c h = told_counted (record d { components = d.components ++ c.means ∷ [] }) c (record { types = h.types; instances = h.instances; so_far = h.so_far })

  -- Aliases.
  outer_type_counted : (up index : ℕ) (o : Option Level) → IfSome o IsLevelCounted → IfSome (outer_type up index o).means (IsCounted ends many)
  outer_type_counted up index None h = tt
  outer_type_counted up index (Some level) h =
      found_counted ends many (λ type. Some (moved (further_in up) 0 type)) (IsCounted ends many) (IsCounted ends many) (λ type k. type_moved ends many (further_in up) 0 type k) (slice_get level.types index) (all_at (IsKnownCounted ends many) level.types index h)

  outer_counted : (d : Declared) (levels : List Level) (sort : Sort) (up index : ℕ) → AreLevelsCounted levels → IsDeclaredCounted d → IsDeclaredCounted (with_outer d levels sort up index)
  outer_counted d levels sorts.Component up index k h = component_counted d (outer_component index (slice_get levels up)) h
  outer_counted d levels sorts.Func up index k h = as_counted d sorts.Func absent h tt
  outer_counted d levels sorts.Type up index k h = type_counted d (outer_type up index (slice_get levels up)) h (outer_type_counted up index (slice_get levels up) (all_at IsLevelCounted levels up k))
  outer_counted d levels sorts.Instance up index k h = as_counted d sorts.Instance absent h tt
  outer_counted d levels (sorts.Core sort) up index k h = as_counted d (sorts.Core sort) absent h tt

  of_sort_counted : (sort : Sort) (extern : Extern) → IsExternCounted ends many extern → IfSome (of_sort sort extern) (IsExternCounted ends many)
  of_sort_counted sorts.Func (OfFunc type) h = h
  of_sort_counted sorts.Type (OfType type) h = h
  of_sort_counted sorts.Instance (OfInstance externs) h = h
  of_sort_counted sort extern h = tt

  export_counted : (sort : Sort) (name : List ℕ) (o : Option Extern) → IfSome o (IsExternCounted ends many) → IfSome (of_export sort name o).means (IsExternCounted ends many)
  export_counted sort name None h = tt
  export_counted sort name (Some extern) h = of_sort_counted sort extern h

  from_instance_counted : (sort : Sort) (name : List ℕ) (o : Option (Option Externs)) → IfSome o (AreKnownCounted ends many) → IfSome (from_instance sort name o).means (IsExternCounted ends many)
  from_instance_counted sort name None h = tt
  from_instance_counted sort name (Some None) h = tt
  from_instance_counted sort name (Some (Some all)) h = export_counted sort name (extern_named name all) (named_counted ends many name all h)

  alias_counted : (around : List Level) (d : Declared) (sort : Sort) (t : AliasTarget) → AreLevelsCounted around → IsDeclaredCounted d → IsDeclaredCounted (with_alias around d sort t)
  alias_counted around d sort (target.InstanceExport instance name) k h =
      as_counted d sort (from_instance sort name (slice_get d.instances instance)) h (from_instance_counted sort name (slice_get d.instances instance) (all_at (AreKnownCounted ends many) d.instances instance h.instances))
  alias_counted around d sort (target.CoreInstanceExport instance name) k h = as_counted d sort absent h tt
  alias_counted around d sort (target.Outer up index) k h = outer_counted d (own_level d ∷ around) sort up index (h.types, k) h

  -- An export under its name.
  extended_counted : (name : List ℕ) (extern : Option Extern) (before : Option Externs) (b : Bool) → IfSome extern (IsExternCounted ends many) → AreKnownCounted ends many before → AreKnownCounted ends many (cond b None (extended name extern before))
  extended_counted name extern before true h k = tt
  extended_counted name None None false h k = tt
  extended_counted name None (Some others) false h k = tt
  extended_counted name (Some extern) None false h k = tt
  extended_counted name (Some extern) (Some others) false h k = (k, h)

  under_counted : (d : Declared) (before : Option Externs) (name : List ℕ) (extern : Option Extern) → IsDeclaredCounted d → AreKnownCounted ends many before → IfSome extern (IsExternCounted ends many) → IsDeclaredCounted (under_name d before name extern)
  under_counted d before name extern h told k = record {
    types = h.types;
    instances = h.instances;
    so_far = extended_counted name extern before (is_among name d.names) k told;
  }

  brought_counted : (d : Declared) (resources : ℕ) → IsDeclaredCounted d → IsDeclaredCounted (record d { resources = resources })
  brought_counted d resources h = record { types = h.types; instances = h.instances; so_far = h.so_far }

  with_export_counted : (d : Declared) (name : List ℕ) (asked : ExternDesc) → IsDeclaredCounted d → IsDeclaredCounted (with_export d name asked)
  with_export_counted d name asked h =
      let extern = described d asked in
      let k = described_counted ends many d asked h.types in
      let declared = declared_as d (sort_of asked) extern in
      under_counted (record declared { resources = d.resources + brings d asked }) d.so_far.means name extern.means
      (brought_counted declared (d.resources + brings d asked) (as_counted d (sort_of asked) extern h k)) h.so_far k

  -- By induction on types and declarations.
  around_counted : (levels : List Level) → AreLevelsCounted levels → AllByRecursion (IsKnownCounted ends many) (types_around levels)
  around_counted [] k = tt
  around_counted (level ∷ around) k = k.0

  abbrev Keeps : (List Level → Declared → Declared) → Type 0
  Keeps decl = (around : List Level) (d : Declared) → AreLevelsCounted around → IsDeclaredCounted d → IsDeclaredCounted (decl around d)

  abbrev Gives : InLevels → Type 0
  Gives f = (levels : List Level) → AreLevelsCounted levels → IfSome (f levels).means (IsCounted ends many)

  abbrev folded_type : DefType → InLevels
  folded_type = fold-DefType InLevels (List Level → Declared → Declared) type_step decl_step

  abbrev folded_decl : InstanceDecl → List Level → Declared → Declared
  folded_decl = fold-InstanceDecl InLevels (List Level → Declared → Declared) type_step decl_step

  abbrev few_type : DefType → Bool
  few_type = fold-DefType Bool Bool (few_step ends many) (few_decl_step ends)

  abbrev few_decl : InstanceDecl → Bool
  few_decl = fold-InstanceDecl Bool Bool (few_step ends many) (few_decl_step ends)

  abbrev TypeGives : DefType → Type 0
  TypeGives type = few_type type ≡ true → Gives (folded_type type)

  abbrev DeclKeeps : InstanceDecl → Type 0
  DeclKeeps decl = few_decl decl ≡ true → Keeps (folded_decl decl)

  abbrev TypeAnd : Type 0
  TypeAnd = (t : DefType) × TypeGives t

  abbrev DeclAnd : Type 0
  DeclAnd = (d : InstanceDecl) × DeclKeeps d

  decls_counted : (around : List Level) (d : Declared) (decls : List DeclAnd) → all_true (map few_decl (map (λ (e : DeclAnd). e.0) decls)) ≡ true → AreLevelsCounted around → IsDeclaredCounted d
      → IsDeclaredCounted (declared_by around d (map folded_decl (map (λ (e : DeclAnd). e.0) decls)))
  decls_counted around d [] few k h = h
  decls_counted around d (decl ∷ decls) few k h =
      let p = and_parts (few_decl decl.0) (all_true (map few_decl (map (λ (e : DeclAnd). e.0) decls))) few in
      decls_counted around (folded_decl decl.0 around d) decls p.1 k (decl.1 p.0 around d k h)

  instance_counted : (d : Declared) → IsDeclaredCounted d → IfSome (instance_meaning d).means (IsCounted ends many)
  instance_counted d h = if_mapped Instance (IsCounted ends many) d.so_far.means h.so_far

  abbrev type_layer : DefType-F TypeAnd DeclAnd → DefType-F DefType InstanceDecl
  type_layer y = map-DefType TypeAnd DeclAnd DefType InstanceDecl (λ e. e.0) (λ e. e.0) y

  abbrev decl_layer : InstanceDecl-F TypeAnd DeclAnd → InstanceDecl-F DefType InstanceDecl
  decl_layer y = map-InstanceDecl TypeAnd DeclAnd DefType InstanceDecl (λ e. e.0) (λ e. e.0) y

  type_stepped : (y : DefType-F TypeAnd DeclAnd) → few_step ends many (map-DefType DefType InstanceDecl Bool Bool few_type few_decl (type_layer y)) ≡ true
      → Gives (type_step (map-DefType DefType InstanceDecl InLevels (List Level → Declared → Declared) folded_type folded_decl (type_layer y)))
  type_stepped (DefType-F.Value type) few levels k = value_meaning_counted ends many (types_around levels) type (around_counted levels k) few
  type_stepped (DefType-F.Func type) few levels k = func_meaning_counted ends many (types_around levels) type (around_counted levels k)
  type_stepped (DefType-F.Instance decls) few levels k =
      instance_counted (declared_by levels nothing_declared (map folded_decl (map (λ (e : DeclAnd). e.0) decls))) (decls_counted levels nothing_declared decls few k (record { types = tt; instances = tt; so_far = tt }))
  type_stepped (DefType-F.Resource destructor) few levels k = tt

  decl_stepped : (y : InstanceDecl-F TypeAnd DeclAnd) → few_decl_step ends (map-InstanceDecl DefType InstanceDecl Bool Bool few_type few_decl (decl_layer y)) ≡ true
      → Keeps (decl_step (map-InstanceDecl DefType InstanceDecl InLevels (List Level → Declared → Declared) folded_type folded_decl (decl_layer y)))
  decl_stepped (InstanceDecl-F.Type type) few around d k h = type_counted d (folded_type type.0 (own_level d ∷ around)) h (type.1 few (own_level d ∷ around) (h.types, k))
  decl_stepped (InstanceDecl-F.Alias alias) few around d k h = alias_counted around d alias.sort alias.target k h
  decl_stepped (InstanceDecl-F.Export name asked) few around d k h = with_export_counted d name asked h

  type_folded : (y : DefType-F TypeAnd DeclAnd) → TypeGives (roll-DefType (type_layer y))
  type_folded y few =
      subst Gives (sym (fold-roll-DefType InLevels (List Level → Declared → Declared) type_step decl_step (type_layer y)))
      (type_stepped y (sym (fold-roll-DefType Bool Bool (few_step ends many) (few_decl_step ends) (type_layer y)) ∙ few))

  decl_folded : (y : InstanceDecl-F TypeAnd DeclAnd) → DeclKeeps (roll-InstanceDecl (decl_layer y))
  decl_folded y few =
      subst Keeps (sym (fold-roll-InstanceDecl InLevels (List Level → Declared → Declared) type_step decl_step (decl_layer y)))
      (decl_stepped y (sym (fold-roll-InstanceDecl Bool Bool (few_step ends many) (few_decl_step ends) (decl_layer y)) ∙ few))

  meaning_gives : (type : DefType) → TypeGives type
  meaning_gives =
      ind-DefType TypeGives DeclKeeps
      (λ x y e. subst (λ (z : DefType-F DefType InstanceDecl). TypeGives (roll-DefType z)) e (type_folded y))
      (λ x y e. subst (λ (z : InstanceDecl-F DefType InstanceDecl). DeclKeeps (roll-InstanceDecl z)) e (decl_folded y))

  pub meaning_counted : (type : DefType) (levels : List Level) → has_few ends many type ≡ true → AreLevelsCounted levels → IfSome (meaning_of type levels).means (IsCounted ends many)
  meaning_counted type levels few k = meaning_gives type few levels k

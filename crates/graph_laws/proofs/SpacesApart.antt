-- Spaces stay apart behind one definition more, and what is found in them is of their component instance, or lifts with what is of its
-- own one.
use Rattle.std.proofs.Common.{ℕ, cond, List, [], ◌∷◌, subst, sym, Option, Some, None}
use Rattle.std.specs.List.{slice_get}
use Rattle.std.specs.Option.{option_map, IfSome}
use Rattle.std.specs.Str.{bytes_eq}
use Rattle.comp_tree.specs.declared.core_instances.CoreSort.{CoreSort}
use Rattle.comp_tree.specs.declared.core_instances.CoreSort.TheVariants as core_sort
use Rattle.comp_tree.specs.declared.instances.NamedDefinition.{NamedDefinition}
use Rattle.comp_tree.specs.declared.instances.Sort.{Sort}
use Rattle.comp_tree.specs.declared.instances.Sort.TheVariants as sorts
use Rattle.comp_graph.specs.Closed.{Extern, OfFunc, OfType, OfInstance, Externs, EmptyType, WithExtern, first_of}
use Rattle.comp_graph.specs.Graph.{Graph}
use Rattle.link_spec.specs.Definitions.{CoreItem, Func, Table, Memory, Global, CoreExport, core_named, Definition, AFunc, AType, AComponent, AnInstance, AModule, Exports, EmptyInstance, WithExport, export_named, with_seen, seen_as, seen_exports, types_of}
use Rattle.link_spec.specs.Spaces.{Spaces, new_spaces, core_item_at, core_definition_at, definition_at, with_core_item, with_core_instance, with_definition, outer_definition}
use Rattle.link_spec.specs.Items.{AreNamed}
use Rattle.link_spec.proofs.Holding.{all_push, all_at, holds_at, if_weaker, if_mapped, if_cond}
use Rattle.graph_laws.proofs.Owning.{IsItemOf, AreExportsOf, IsFuncApart, IsDefinedApart, AreDefinedApart, AreSpacesApart}

-- what an option has, where all have it
pub if_always : {A : Type 0} (P : A → Type 0) (o : Option A) → ((x : A) → P x) → IfSome o P
if_always P None h = tt
if_always P (Some x) h = h x

module _ (g : Graph) (owner : ℕ) where
  -- One more in one of the spaces.
  pub with_item_apart : (s : Spaces) (item : CoreItem) → AreSpacesApart g owner s → IsItemOf g owner item → AreSpacesApart g owner (with_core_item s item)
  with_item_apart s (Func f type) h k = record {
    core = record {
      instances_of = h.core.instances_of;
      funcs_of = all_push (IsItemOf g owner) s.core_funcs (Func f type) h.core.funcs_of k;
      tables_of = h.core.tables_of;
      memories_of = h.core.memories_of;
      globals_of = h.core.globals_of;
    };
    instances = h.instances;
    funcs = h.funcs;
    exported = h.exported;
    passed = h.passed;
  }
  with_item_apart s (Table t limits) h k = record {
    core = record {
      instances_of = h.core.instances_of;
      funcs_of = h.core.funcs_of;
      tables_of = all_push (IsItemOf g owner) s.core_tables (Table t limits) h.core.tables_of k;
      memories_of = h.core.memories_of;
      globals_of = h.core.globals_of;
    };
    instances = h.instances;
    funcs = h.funcs;
    exported = h.exported;
    passed = h.passed;
  }
  with_item_apart s (Memory m limits) h k = record {
    core = record {
      instances_of = h.core.instances_of;
      funcs_of = h.core.funcs_of;
      tables_of = h.core.tables_of;
      memories_of = all_push (IsItemOf g owner) s.core_memories (Memory m limits) h.core.memories_of k;
      globals_of = h.core.globals_of;
    };
    instances = h.instances;
    funcs = h.funcs;
    exported = h.exported;
    passed = h.passed;
  }
  with_item_apart s (Global global type) h k = record {
    core = record {
      instances_of = h.core.instances_of;
      funcs_of = h.core.funcs_of;
      tables_of = h.core.tables_of;
      memories_of = h.core.memories_of;
      globals_of = all_push (IsItemOf g owner) s.core_globals (Global global type) h.core.globals_of k;
    };
    instances = h.instances;
    funcs = h.funcs;
    exported = h.exported;
    passed = h.passed;
  }

  pub with_instance_apart : (s : Spaces) (exports : List CoreExport) → AreSpacesApart g owner s → AreExportsOf g owner exports → AreSpacesApart g owner (with_core_instance s exports)
  with_instance_apart s exports h k = record {
    core = record {
      instances_of = all_push (AreExportsOf g owner) s.core_instances exports h.core.instances_of k;
      funcs_of = h.core.funcs_of;
      tables_of = h.core.tables_of;
      memories_of = h.core.memories_of;
      globals_of = h.core.globals_of;
    };
    instances = h.instances;
    funcs = h.funcs;
    exported = h.exported;
    passed = h.passed;
  }

  pub with_defined_apart : (s : Spaces) (d : Definition) → AreSpacesApart g owner s → IsDefinedApart g d → AreSpacesApart g owner (with_definition s d)
  with_defined_apart s (AModule m) h k = record { core = h.core; instances = h.instances; funcs = h.funcs; exported = h.exported; passed = h.passed }
  with_defined_apart s (AFunc f) h k = record { core = h.core; instances = h.instances; funcs = all_push (IsFuncApart g) s.funcs f h.funcs k; exported = h.exported; passed = h.passed }
  with_defined_apart s (AType type) h k = record { core = h.core; instances = h.instances; funcs = h.funcs; exported = h.exported; passed = h.passed }
  with_defined_apart s (AComponent c) h k = record { core = h.core; instances = h.instances; funcs = h.funcs; exported = h.exported; passed = h.passed }
  with_defined_apart s (AnInstance exports) h k = record { core = h.core; instances = all_push (AreDefinedApart g) s.instances exports h.instances k; funcs = h.funcs; exported = h.exported; passed = h.passed }

  -- The imports and the exports do not stand in the index spaces.
  pub with_imports_apart : (s : Spaces) (imports : List (List ℕ)) → AreSpacesApart g owner s → AreSpacesApart g owner (record s { imports = imports })
  with_imports_apart s imports h = record { core = h.core; instances = h.instances; funcs = h.funcs; exported = h.exported; passed = h.passed }

  pub with_exports_apart : (s : Spaces) (exports : Exports) → AreSpacesApart g owner s → AreDefinedApart g exports → AreSpacesApart g owner (record s { exports = exports })
  with_exports_apart s exports h k = record { core = h.core; instances = h.instances; funcs = h.funcs; exported = k; passed = h.passed }

  pub new_apart : (arguments : Option Exports) (around : List ℕ) → IfSome arguments (AreDefinedApart g) → AreSpacesApart g owner (new_spaces arguments around)
  new_apart arguments around h = record {
    core = record { instances_of = tt; funcs_of = tt; tables_of = tt; memories_of = tt; globals_of = tt };
    instances = tt;
    funcs = tt;
    exported = tt;
    passed = h;
  }

  -- What is found.
  pub item_apart : (s : Spaces) (sort : CoreSort) (index : ℕ) → AreSpacesApart g owner s → IfSome (core_item_at s sort index) (IsItemOf g owner)
  item_apart s core_sort.Func index h = all_at (IsItemOf g owner) s.core_funcs index h.core.funcs_of
  item_apart s core_sort.Table index h = all_at (IsItemOf g owner) s.core_tables index h.core.tables_of
  item_apart s core_sort.Memory index h = all_at (IsItemOf g owner) s.core_memories index h.core.memories_of
  item_apart s core_sort.Global index h = all_at (IsItemOf g owner) s.core_globals index h.core.globals_of
  item_apart s core_sort.Module index h = tt
  item_apart s core_sort.Instance index h = tt

  pub core_named_apart : (q : List ℕ) (exports : List CoreExport) → AreExportsOf g owner exports → IfSome (core_named q exports) (IsItemOf g owner)
  core_named_apart q [] h = tt
  core_named_apart q (e ∷ exports) h = if_cond (IsItemOf g owner) (bytes_eq e.name q) (Some e.item) (core_named q exports) h.0 (core_named_apart q exports h.1)

  core_definition_apart : (s : Spaces) (sort : CoreSort) (index : ℕ) → IfSome (core_definition_at s sort index) (IsDefinedApart g)
  core_definition_apart s core_sort.Func index = tt
  core_definition_apart s core_sort.Table index = tt
  core_definition_apart s core_sort.Memory index = tt
  core_definition_apart s core_sort.Global index = tt
  core_definition_apart s core_sort.Module index = if_mapped AModule (IsDefinedApart g) (slice_get s.core_modules index) (if_always (λ m. IsDefinedApart g (AModule m)) (slice_get s.core_modules index) (λ m. tt))
  core_definition_apart s core_sort.Instance index = tt

  pub definition_apart : (s : Spaces) (sort : Sort) (index : ℕ) → AreSpacesApart g owner s → IfSome (definition_at s sort index) (IsDefinedApart g)
  definition_apart s (sorts.Core sort) index h = core_definition_apart s sort index
  definition_apart s sorts.Func index h = if_mapped AFunc (IsDefinedApart g) (slice_get s.funcs index) (all_at (IsFuncApart g) s.funcs index h.funcs)
  definition_apart s sorts.Type index h = if_mapped AType (IsDefinedApart g) (slice_get s.types index) (if_always (λ type. IsDefinedApart g (AType type)) (slice_get s.types index) (λ type. tt))
  definition_apart s sorts.Component index h =
      if_mapped AComponent (IsDefinedApart g) (slice_get s.components index) (if_always (λ c. IsDefinedApart g (AComponent c)) (slice_get s.components index) (λ c. tt))
  definition_apart s sorts.Instance index h = if_mapped AnInstance (IsDefinedApart g) (slice_get s.instances index) (all_at (AreDefinedApart g) s.instances index h.instances)

  -- Definitions under names.
  pub are_named_apart : (s : Spaces) (before : Exports) (named : List NamedDefinition) (exports : Exports) → AreSpacesApart g owner s → AreDefinedApart g before → AreNamed s before named exports → AreDefinedApart g exports
  are_named_apart s before [] exports h k are = subst (AreDefinedApart g) (sym are) k
  are_named_apart s before (d ∷ named) exports h k are =
      are_named_apart s (WithExport before d.name are.0) named exports h (k, holds_at (IsDefinedApart g) (definition_at s d.sort d.index) are.0 (definition_apart s d.sort d.index h) are.1) are.2

module _ (g : Graph) where
  -- An outer alias is of a type or a component.
  pub outer_apart : (s : Spaces) (sort : Sort) (index : ℕ) → IfSome (outer_definition sort index s) (IsDefinedApart g)
  outer_apart s (sorts.Core sort) index = tt
  outer_apart s sorts.Func index = tt
  outer_apart s sorts.Type index = if_mapped AType (IsDefinedApart g) (slice_get s.types index) (if_always (λ type. IsDefinedApart g (AType type)) (slice_get s.types index) (λ type. tt))
  outer_apart s sorts.Component index = if_mapped AComponent (IsDefinedApart g) (slice_get s.components index) (if_always (λ c. IsDefinedApart g (AComponent c)) (slice_get s.components index) (λ c. tt))
  outer_apart s sorts.Instance index = tt

  first_apart : (a b : Option Definition) → IfSome a (IsDefinedApart g) → IfSome b (IsDefinedApart g) → IfSome (first_of a b) (IsDefinedApart g)
  first_apart None b h k = k
  first_apart (Some a) b h k = h

  pub named_apart : (q : List ℕ) (exports : Exports) → AreDefinedApart g exports → IfSome (export_named q exports) (IsDefinedApart g)
  named_apart q EmptyInstance h = tt
  named_apart q (WithExport others name d) h =
      first_apart (export_named q others) (cond (bytes_eq name q) (Some d) None) (named_apart q others h.0) (if_cond (IsDefinedApart g) (bytes_eq name q) (Some d) None h.1 tt)

  -- What is seen of a definition, and an instance of types.
  with_apart : (o : Option Definition) (name : List ℕ) (seen : Exports) → IfSome o (IsDefinedApart g) → AreDefinedApart g seen → AreDefinedApart g (with_seen o name seen)
  with_apart None name seen h k = k
  with_apart (Some d) name seen h k = (k, h)

  mutual
    pub seen_apart : (d : Definition) (extern : Extern) → IsDefinedApart g d → IsDefinedApart g (seen_as d extern)
    seen_apart (AnInstance given) (OfInstance asked) h = seen_all_apart given asked h
    seen_apart d extern h = h

    seen_all_apart : (given : Exports) (asked : Externs) → AreDefinedApart g given → AreDefinedApart g (seen_exports given asked)
    seen_all_apart given EmptyType h = tt
    seen_all_apart given (WithExtern others name extern) h =
        with_apart (option_map (λ d. seen_as d extern) (export_named name given)) name (seen_exports given others)
        (if_mapped (λ d. seen_as d extern) (IsDefinedApart g) (export_named name given) (if_weaker (IsDefinedApart g) (λ (d : Definition). IsDefinedApart g (seen_as d extern)) (λ d k. seen_apart d extern k) (export_named name given) (named_apart name given h)))
        (seen_all_apart given others h)

  pub types_apart : (externs : Externs) → AreDefinedApart g (types_of externs)
  types_apart EmptyType = tt
  types_apart (WithExtern others name (OfFunc type)) = types_apart others
  types_apart (WithExtern others name (OfType type)) = (types_apart others, tt)
  types_apart (WithExtern others name (OfInstance inner)) = types_apart others

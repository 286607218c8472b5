-- Spaces stay sound: behind one definition more, and where core instances are made or functions are lowered. What is found in them
-- is sound.
use Rattle.std.proofs.Common.{ℕ, cond, List, [], ◌∷◌, ◌++◌, subst, append-nil, Option, Some, None}
use Rattle.std.specs.Prelude.{IfSome}
use Rattle.std.specs.List.{slice_get, AllByRecursion}
use Rattle.std.specs.Str.{bytes_eq}
use Rattle.syntax_trees.specs.declared.module.ModuleTree.{ModuleTree}
use Rattle.comp_graph.specs.declared.graph.CanonFunc.{CanonFunc}
use Rattle.comp_graph.specs.Graph.{IsItem}
use Rattle.comp_tree.specs.declared.core_instances.CoreSort.{CoreSort}
use Rattle.comp_tree.specs.declared.core_instances.CoreSort.TheVariants as core_sort
use Rattle.comp_tree.specs.declared.instances.Sort.{Sort}
use Rattle.comp_tree.specs.declared.instances.Sort.TheVariants as sorts
use Rattle.comp_graph.specs.Closed.{first_of}
use Rattle.link_spec.specs.Definitions.{CoreItem, Func, Table, Memory, Global, CoreExport, core_named, Lifted, Closure, Definition, AFunc, AType, AComponent, AnInstance, AModule, Exports, EmptyInstance, WithExport, export_named}
use Rattle.link_spec.specs.Spaces.{CoreMake, Spaces, new_spaces, core_item_at, core_definition_at, definition_at, with_core_item, with_core_instance, with_definition, outer_definition}
use Rattle.link_spec.proofs.Holding.{all_push, all_weaker, all_at, if_weaker, if_mapped, if_cond}
use Rattle.link_spec.proofs.Kept.{kept_item, kept_lift}
use Rattle.link_spec.proofs.Soundness.{lift_for, IsFuncSound, IsMemoryItem, AreThere, IsSound, AreSound, AreSpacesSound}
use Rattle.link_spec.proofs.Apart.{IsApart}
use Rattle.link_spec.proofs.Modules.{ModulesHave}

-- Where core instances are made behind others, or functions are lowered, all stays sound.
kept_exports : (cores more : List CoreMake) (canons others : List CanonFunc) (exports : List CoreExport) → AreThere cores canons exports → AreThere (cores ++ more) (canons ++ others) exports
kept_exports cores more canons others exports h = all_weaker (λ (e : CoreExport). IsItem cores canons e.item) (λ (e : CoreExport). IsItem (cores ++ more) (canons ++ others) e.item) (λ e k. kept_item cores more canons others e.item k) exports h

kept_items : (cores more : List CoreMake) (canons others : List CanonFunc) (items : List CoreItem) → AllByRecursion (IsItem cores canons) items → AllByRecursion (IsItem (cores ++ more) (canons ++ others)) items
kept_items cores more canons others items h = all_weaker (IsItem cores canons) (IsItem (cores ++ more) (canons ++ others)) (kept_item cores more canons others) items h

kept_memory : (cores more : List CoreMake) (canons others : List CanonFunc) (item : CoreItem) → IsMemoryItem cores canons item → IsMemoryItem (cores ++ more) (canons ++ others) item
kept_memory cores more canons others (Memory memory limits) h = kept_item cores more canons others (Memory memory limits) h
kept_memory cores more canons others (Func f type) h = absurd h
kept_memory cores more canons others (Table t limits) h = absurd h
kept_memory cores more canons others (Global g type) h = absurd h

kept_func : (cores more : List CoreMake) (canons others : List CanonFunc) (f : Lifted) → IsFuncSound cores canons f → IsFuncSound (cores ++ more) (canons ++ others) f
kept_func cores more canons others f h = record { there = kept_lift cores more canons others f.func_type (lift_for f) h.there; apart = h.apart }

module _ (R : ModuleTree → Type 0) where
  mutual
    kept_definition : (cores more : List CoreMake) (canons others : List CanonFunc) (d : Definition) → IsSound R cores canons d → IsSound R (cores ++ more) (canons ++ others) d
    kept_definition cores more canons others (AFunc f) h = kept_func cores more canons others f h
    kept_definition cores more canons others (AType type) h = h
    kept_definition cores more canons others (AComponent c) h = h
    kept_definition cores more canons others (AnInstance exports) h = kept_sound cores more canons others exports h
    kept_definition cores more canons others (AModule m) h = h

    kept_sound : (cores more : List CoreMake) (canons others : List CanonFunc) (exports : Exports) → AreSound R cores canons exports → AreSound R (cores ++ more) (canons ++ others) exports
    kept_sound cores more canons others EmptyInstance h = h
    kept_sound cores more canons others (WithExport exports name d) h = (kept_sound cores more canons others exports h.0, kept_definition cores more canons others d h.1, h.2)

  pub kept_spaces : (cores more : List CoreMake) (canons others : List CanonFunc) (s : Spaces) → AreSpacesSound R cores canons s → AreSpacesSound R (cores ++ more) (canons ++ others) s
  kept_spaces cores more canons others s h = record {
    core = record {
      modules_have = h.core.modules_have;
      instances_there = all_weaker (AreThere cores canons) (AreThere (cores ++ more) (canons ++ others)) (kept_exports cores more canons others) s.core_instances h.core.instances_there;
      funcs_there = kept_items cores more canons others s.core_funcs h.core.funcs_there;
      tables_there = kept_items cores more canons others s.core_tables h.core.tables_there;
      memories_there = all_weaker (IsMemoryItem cores canons) (IsMemoryItem (cores ++ more) (canons ++ others)) (kept_memory cores more canons others) s.core_memories h.core.memories_there;
      globals_there = kept_items cores more canons others s.core_globals h.core.globals_there;
    };
    defined = record {
      components_have = h.defined.components_have;
      instances_sound = all_weaker (AreSound R cores canons) (AreSound R (cores ++ more) (canons ++ others)) (kept_sound cores more canons others) s.instances h.defined.instances_sound;
      funcs_sound = all_weaker (IsFuncSound cores canons) (IsFuncSound (cores ++ more) (canons ++ others)) (kept_func cores more canons others) s.funcs h.defined.funcs_sound;
      types_apart = h.defined.types_apart;
    };
    exports_sound = kept_sound cores more canons others s.exports h.exports_sound;
    arguments_sound = if_weaker (AreSound R cores canons) (AreSound R (cores ++ more) (canons ++ others)) (kept_sound cores more canons others) s.arguments h.arguments_sound;
  }

  -- where only one of both grows
  pub more_cores : (cores more : List CoreMake) (canons : List CanonFunc) (s : Spaces) → AreSpacesSound R cores canons s → AreSpacesSound R (cores ++ more) canons s
  more_cores cores more canons s h = subst (λ (canons : List CanonFunc). AreSpacesSound R (cores ++ more) canons s) (append-nil canons) (kept_spaces cores more canons [] s h)

  pub more_canons : (cores : List CoreMake) (canons others : List CanonFunc) (s : Spaces) → AreSpacesSound R cores canons s → AreSpacesSound R cores (canons ++ others) s
  more_canons cores canons others s h = subst (λ (cores : List CoreMake). AreSpacesSound R cores (canons ++ others) s) (append-nil cores) (kept_spaces cores [] canons others s h)

  -- One more in one of the spaces.
  pub sound_core_item : (cores : List CoreMake) (canons : List CanonFunc) (s : Spaces) (item : CoreItem) → AreSpacesSound R cores canons s → IsItem cores canons item → AreSpacesSound R cores canons (with_core_item s item)
  sound_core_item cores canons s (Func f type) h k = record {
    core = record {
      modules_have = h.core.modules_have;
      instances_there = h.core.instances_there;
      funcs_there = all_push (IsItem cores canons) s.core_funcs (Func f type) h.core.funcs_there k;
      tables_there = h.core.tables_there;
      memories_there = h.core.memories_there;
      globals_there = h.core.globals_there;
    };
    defined = h.defined;
    exports_sound = h.exports_sound;
    arguments_sound = h.arguments_sound;
  }
  sound_core_item cores canons s (Table t limits) h k = record {
    core = record {
      modules_have = h.core.modules_have;
      instances_there = h.core.instances_there;
      funcs_there = h.core.funcs_there;
      tables_there = all_push (IsItem cores canons) s.core_tables (Table t limits) h.core.tables_there k;
      memories_there = h.core.memories_there;
      globals_there = h.core.globals_there;
    };
    defined = h.defined;
    exports_sound = h.exports_sound;
    arguments_sound = h.arguments_sound;
  }
  sound_core_item cores canons s (Memory m limits) h k = record {
    core = record {
      modules_have = h.core.modules_have;
      instances_there = h.core.instances_there;
      funcs_there = h.core.funcs_there;
      tables_there = h.core.tables_there;
      memories_there = all_push (IsMemoryItem cores canons) s.core_memories (Memory m limits) h.core.memories_there k;
      globals_there = h.core.globals_there;
    };
    defined = h.defined;
    exports_sound = h.exports_sound;
    arguments_sound = h.arguments_sound;
  }
  sound_core_item cores canons s (Global g type) h k = record {
    core = record {
      modules_have = h.core.modules_have;
      instances_there = h.core.instances_there;
      funcs_there = h.core.funcs_there;
      tables_there = h.core.tables_there;
      memories_there = h.core.memories_there;
      globals_there = all_push (IsItem cores canons) s.core_globals (Global g type) h.core.globals_there k;
    };
    defined = h.defined;
    exports_sound = h.exports_sound;
    arguments_sound = h.arguments_sound;
  }

  pub sound_core_instance : (cores : List CoreMake) (canons : List CanonFunc) (s : Spaces) (exports : List CoreExport) → AreSpacesSound R cores canons s → AreThere cores canons exports → AreSpacesSound R cores canons (with_core_instance s exports)
  sound_core_instance cores canons s exports h k = record {
    core = record {
      modules_have = h.core.modules_have;
      instances_there = all_push (AreThere cores canons) s.core_instances exports h.core.instances_there k;
      funcs_there = h.core.funcs_there;
      tables_there = h.core.tables_there;
      memories_there = h.core.memories_there;
      globals_there = h.core.globals_there;
    };
    defined = h.defined;
    exports_sound = h.exports_sound;
    arguments_sound = h.arguments_sound;
  }

  pub sound_definition : (cores : List CoreMake) (canons : List CanonFunc) (s : Spaces) (d : Definition) → AreSpacesSound R cores canons s → IsSound R cores canons d → AreSpacesSound R cores canons (with_definition s d)
  sound_definition cores canons s (AModule m) h k = record {
    core = record {
      modules_have = all_push R s.core_modules m h.core.modules_have k;
      instances_there = h.core.instances_there;
      funcs_there = h.core.funcs_there;
      tables_there = h.core.tables_there;
      memories_there = h.core.memories_there;
      globals_there = h.core.globals_there;
    };
    defined = h.defined;
    exports_sound = h.exports_sound;
    arguments_sound = h.arguments_sound;
  }
  sound_definition cores canons s (AFunc f) h k = record {
    core = h.core;
    defined = record {
      components_have = h.defined.components_have;
      instances_sound = h.defined.instances_sound;
      funcs_sound = all_push (IsFuncSound cores canons) s.funcs f h.defined.funcs_sound k;
      types_apart = h.defined.types_apart;
    };
    exports_sound = h.exports_sound;
    arguments_sound = h.arguments_sound;
  }
  sound_definition cores canons s (AType type) h k = record {
    core = h.core;
    defined = record {
      components_have = h.defined.components_have;
      instances_sound = h.defined.instances_sound;
      funcs_sound = h.defined.funcs_sound;
      types_apart = all_push IsApart s.types type h.defined.types_apart k;
    };
    exports_sound = h.exports_sound;
    arguments_sound = h.arguments_sound;
  }
  sound_definition cores canons s (AComponent c) h k = record {
    core = h.core;
    defined = record {
      components_have = all_push (λ (c : Closure). ModulesHave R c.items) s.components c h.defined.components_have k;
      instances_sound = h.defined.instances_sound;
      funcs_sound = h.defined.funcs_sound;
      types_apart = h.defined.types_apart;
    };
    exports_sound = h.exports_sound;
    arguments_sound = h.arguments_sound;
  }
  sound_definition cores canons s (AnInstance exports) h k = record {
    core = h.core;
    defined = record {
      components_have = h.defined.components_have;
      instances_sound = all_push (AreSound R cores canons) s.instances exports h.defined.instances_sound k;
      funcs_sound = h.defined.funcs_sound;
      types_apart = h.defined.types_apart;
    };
    exports_sound = h.exports_sound;
    arguments_sound = h.arguments_sound;
  }

  -- The imports and the exports do not stand in the index spaces.
  pub sound_imports : (cores : List CoreMake) (canons : List CanonFunc) (s : Spaces) (imports : List (List ℕ)) → AreSpacesSound R cores canons s → AreSpacesSound R cores canons (record s { imports = imports })
  sound_imports cores canons s imports h = record { core = h.core; defined = h.defined; exports_sound = h.exports_sound; arguments_sound = h.arguments_sound }

  pub sound_exports : (cores : List CoreMake) (canons : List CanonFunc) (s : Spaces) (exports : Exports) → AreSpacesSound R cores canons s → AreSound R cores canons exports → AreSpacesSound R cores canons (record s { exports = exports })
  sound_exports cores canons s exports h k = record { core = h.core; defined = h.defined; exports_sound = k; arguments_sound = h.arguments_sound }

  pub sound_new : (cores : List CoreMake) (canons : List CanonFunc) (arguments : Option Exports) (around : List ℕ) → IfSome arguments (AreSound R cores canons) → AreSpacesSound R cores canons (new_spaces arguments around)
  sound_new cores canons arguments around h = record {
    core = record { modules_have = tt; instances_there = tt; funcs_there = tt; tables_there = tt; memories_there = tt; globals_there = tt };
    defined = record { components_have = tt; instances_sound = tt; funcs_sound = tt; types_apart = tt };
    exports_sound = tt;
    arguments_sound = h;
  }

  -- What is found.
  memory_item : (cores : List CoreMake) (canons : List CanonFunc) (item : CoreItem) → IsMemoryItem cores canons item → IsItem cores canons item
  memory_item cores canons (Memory memory limits) h = h
  memory_item cores canons (Func f type) h = absurd h
  memory_item cores canons (Table t limits) h = absurd h
  memory_item cores canons (Global g type) h = absurd h

  pub item_there : (cores : List CoreMake) (canons : List CanonFunc) (s : Spaces) (sort : CoreSort) (index : ℕ) → AreSpacesSound R cores canons s → IfSome (core_item_at s sort index) (IsItem cores canons)
  item_there cores canons s core_sort.Func index h = all_at (IsItem cores canons) s.core_funcs index h.core.funcs_there
  item_there cores canons s core_sort.Table index h = all_at (IsItem cores canons) s.core_tables index h.core.tables_there
  item_there cores canons s core_sort.Memory index h = if_weaker (IsMemoryItem cores canons) (IsItem cores canons) (memory_item cores canons) (slice_get s.core_memories index) (all_at (IsMemoryItem cores canons) s.core_memories index h.core.memories_there)
  item_there cores canons s core_sort.Global index h = all_at (IsItem cores canons) s.core_globals index h.core.globals_there
  item_there cores canons s core_sort.Module index h = tt
  item_there cores canons s core_sort.Instance index h = tt

  core_definition_sound : (cores : List CoreMake) (canons : List CanonFunc) (s : Spaces) (sort : CoreSort) (index : ℕ) → AreSpacesSound R cores canons s → IfSome (core_definition_at s sort index) (IsSound R cores canons)
  core_definition_sound cores canons s core_sort.Func index h = tt
  core_definition_sound cores canons s core_sort.Table index h = tt
  core_definition_sound cores canons s core_sort.Memory index h = tt
  core_definition_sound cores canons s core_sort.Global index h = tt
  core_definition_sound cores canons s core_sort.Module index h = if_mapped AModule (IsSound R cores canons) (slice_get s.core_modules index) (all_at R s.core_modules index h.core.modules_have)
  core_definition_sound cores canons s core_sort.Instance index h = tt

  pub definition_sound : (cores : List CoreMake) (canons : List CanonFunc) (s : Spaces) (sort : Sort) (index : ℕ) → AreSpacesSound R cores canons s → IfSome (definition_at s sort index) (IsSound R cores canons)
  definition_sound cores canons s (sorts.Core sort) index h = core_definition_sound cores canons s sort index h
  definition_sound cores canons s sorts.Func index h = if_mapped AFunc (IsSound R cores canons) (slice_get s.funcs index) (all_at (IsFuncSound cores canons) s.funcs index h.defined.funcs_sound)
  definition_sound cores canons s sorts.Type index h = if_mapped AType (IsSound R cores canons) (slice_get s.types index) (all_at IsApart s.types index h.defined.types_apart)
  definition_sound cores canons s sorts.Component index h =
      if_mapped AComponent (IsSound R cores canons) (slice_get s.components index) (all_at (λ (c : Closure). ModulesHave R c.items) s.components index h.defined.components_have)
  definition_sound cores canons s sorts.Instance index h = if_mapped AnInstance (IsSound R cores canons) (slice_get s.instances index) (all_at (AreSound R cores canons) s.instances index h.defined.instances_sound)

  pub outer_sound : (cores : List CoreMake) (canons : List CanonFunc) (s : Spaces) (sort : Sort) (index : ℕ) → AreSpacesSound R cores canons s → IfSome (outer_definition sort index s) (IsSound R cores canons)
  outer_sound cores canons s (sorts.Core sort) index h = tt
  outer_sound cores canons s sorts.Func index h = tt
  outer_sound cores canons s sorts.Type index h = definition_sound cores canons s sorts.Type index h
  outer_sound cores canons s sorts.Component index h = definition_sound cores canons s sorts.Component index h
  outer_sound cores canons s sorts.Instance index h = tt

  first_sound : (cores : List CoreMake) (canons : List CanonFunc) (a b : Option Definition) → IfSome a (IsSound R cores canons) → IfSome b (IsSound R cores canons) → IfSome (first_of a b) (IsSound R cores canons)
  first_sound cores canons None b h k = k
  first_sound cores canons (Some a) b h k = h

  pub named_sound : (cores : List CoreMake) (canons : List CanonFunc) (q : List ℕ) (exports : Exports) → AreSound R cores canons exports → IfSome (export_named q exports) (IsSound R cores canons)
  named_sound cores canons q EmptyInstance h = tt
  named_sound cores canons q (WithExport others name d) h =
      first_sound cores canons (export_named q others) (cond (bytes_eq name q) (Some d) None) (named_sound cores canons q others h.0) (if_cond (IsSound R cores canons) (bytes_eq name q) (Some d) None h.1 tt)

pub core_named_there : (cores : List CoreMake) (canons : List CanonFunc) (q : List ℕ) (exports : List CoreExport) → AreThere cores canons exports → IfSome (core_named q exports) (IsItem cores canons)
core_named_there cores canons q [] h = tt
core_named_there cores canons q (e ∷ exports) h = if_cond (IsItem cores canons) (bytes_eq e.name q) (Some e.item) (core_named q exports) h.0 (core_named_there cores canons q exports h.1)

-- Spaces in which each function, each type and each component has what is known of such: they have it behind one definition more, and
-- what is found in them has it.
use Rattle.std.proofs.Common.{ℕ, cond, List, [], ◌∷◌, subst, sym, Option, Some, None}
use Rattle.std.specs.List.{slice_get, AllByRecursion}
use Rattle.std.specs.Option.{option_map, IfSome}
use Rattle.std.specs.Str.{bytes_eq}
use Rattle.ca_base.specs.declared.placed.Placed.{Placed}
use Rattle.comp_tree.specs.declared.core_instances.CoreSort.{CoreSort}
use Rattle.comp_tree.specs.declared.core_instances.CoreSort.TheVariants as core_sort
use Rattle.comp_tree.specs.declared.instances.NamedDefinition.{NamedDefinition}
use Rattle.comp_tree.specs.declared.instances.Sort.{Sort}
use Rattle.comp_tree.specs.declared.instances.Sort.TheVariants as sorts
use Rattle.comp_tree.specs.declared.items.Item.{Item}
use Rattle.comp_graph.specs.declared.graph.Resource as defined
use Rattle.comp_graph.specs.declared.graph.CanonFunc.{CanonFunc}
use Rattle.comp_graph.specs.Closed.{Closed, Extern, OfInstance, Externs, EmptyType, WithExtern, first_of}
use Rattle.link_spec.specs.Definitions.{CoreItem, Func, Table, Memory, Global, CoreExport, Lifted, Closure, Definition, AFunc, AType, AComponent, AnInstance, AModule, Exports, EmptyInstance, WithExport, export_named, with_seen, seen_as, seen_exports}
use Rattle.link_spec.specs.Spaces.{Spaces, Linking, new_spaces, core_definition_at, definition_at, with_core_item, with_core_instance, with_definition, outer_definition}
use Rattle.link_spec.specs.Items.{AreNamed}
use Rattle.link_spec.proofs.Holding.{all_push, all_at, holds_at, if_weaker, if_mapped, if_cond}
use Rattle.graph_laws.proofs.SpacesApart.{if_always}

-- What is known of each function, of each type, of the items of each component, of each core function that the Canonical ABI makes, and
-- of each type of resources that an item defines.
pub record Known : Type 1 where
  pub func : Lifted → Type 0
  pub type : Closed → Type 0
  pub items : List (Placed Item) → Type 0
  pub canon : CanonFunc → Type 0
  pub resource : defined.Resource → Type 0

abbrev mutual
  pub IsDefined : Known → Definition → Type 0
  IsDefined K (AFunc f) = K.func f
  IsDefined K (AType type) = K.type type
  IsDefined K (AComponent c) = K.items c.items
  IsDefined K (AnInstance exports) = AreDefined K exports
  IsDefined K (AModule m) = Unit {0}

  pub AreDefined : Known → Exports → Type 0
  AreDefined K EmptyInstance = Unit {0}
  AreDefined K (WithExport others name d) = AreDefined K others × IsDefined K d

-- the items of a component
abbrev pub IsClosure : Known → Closure → Type 0
IsClosure K c = K.items c.items

-- So it is in the index spaces of a component instance, and in a linking.
pub record AreSpaces (K : Known) (s : Spaces) : Type 0 where
  pub components : AllByRecursion (IsClosure K) s.components
  pub instances : AllByRecursion (AreDefined K) s.instances
  pub funcs : AllByRecursion K.func s.funcs
  pub types : AllByRecursion K.type s.types
  pub exported : AreDefined K s.exports
  pub passed : IfSome s.arguments (AreDefined K)

pub record IsLinking (K : Known) (l : Linking) : Type 0 where
  pub scopes : AllByRecursion (AreSpaces K) l.scopes
  pub canons : AllByRecursion K.canon l.canons
  pub resources : AllByRecursion K.resource l.resources

module _ (K : Known) where
  -- One more in one of the spaces.
  pub with_item : (s : Spaces) (item : CoreItem) → AreSpaces K s → AreSpaces K (with_core_item s item)
  with_item s (Func f type) h = record { components = h.components; instances = h.instances; funcs = h.funcs; types = h.types; exported = h.exported; passed = h.passed }
  with_item s (Table t limits) h = record { components = h.components; instances = h.instances; funcs = h.funcs; types = h.types; exported = h.exported; passed = h.passed }
  with_item s (Memory m limits) h = record { components = h.components; instances = h.instances; funcs = h.funcs; types = h.types; exported = h.exported; passed = h.passed }
  with_item s (Global global type) h = record { components = h.components; instances = h.instances; funcs = h.funcs; types = h.types; exported = h.exported; passed = h.passed }

  pub with_instance_of : (s : Spaces) (exports : List CoreExport) → AreSpaces K s → AreSpaces K (with_core_instance s exports)
  with_instance_of s exports h = record { components = h.components; instances = h.instances; funcs = h.funcs; types = h.types; exported = h.exported; passed = h.passed }

  pub with_defined : (s : Spaces) (d : Definition) → AreSpaces K s → IsDefined K d → AreSpaces K (with_definition s d)
  with_defined s (AModule m) h k = record { components = h.components; instances = h.instances; funcs = h.funcs; types = h.types; exported = h.exported; passed = h.passed }
  with_defined s (AFunc f) h k = record { components = h.components; instances = h.instances; funcs = all_push K.func s.funcs f h.funcs k; types = h.types; exported = h.exported; passed = h.passed }
  with_defined s (AType type) h k = record { components = h.components; instances = h.instances; funcs = h.funcs; types = all_push K.type s.types type h.types k; exported = h.exported; passed = h.passed }
  with_defined s (AComponent c) h k = record { components = all_push (IsClosure K) s.components c h.components k; instances = h.instances; funcs = h.funcs; types = h.types; exported = h.exported; passed = h.passed }
  with_defined s (AnInstance exports) h k = record { components = h.components; instances = all_push (AreDefined K) s.instances exports h.instances k; funcs = h.funcs; types = h.types; exported = h.exported; passed = h.passed }

  pub with_imports : (s : Spaces) (imports : List (List ℕ)) → AreSpaces K s → AreSpaces K (record s { imports = imports })
  with_imports s imports h = record { components = h.components; instances = h.instances; funcs = h.funcs; types = h.types; exported = h.exported; passed = h.passed }

  pub with_exports : (s : Spaces) (exports : Exports) → AreSpaces K s → AreDefined K exports → AreSpaces K (record s { exports = exports })
  with_exports s exports h k = record { components = h.components; instances = h.instances; funcs = h.funcs; types = h.types; exported = k; passed = h.passed }

  pub new_held : (arguments : Option Exports) (around : List ℕ) → IfSome arguments (AreDefined K) → AreSpaces K (new_spaces arguments around)
  new_held arguments around h = record { components = tt; instances = tt; funcs = tt; types = tt; exported = tt; passed = h }

  -- What is found.
  core_definition_held : (s : Spaces) (sort : CoreSort) (index : ℕ) → IfSome (core_definition_at s sort index) (IsDefined K)
  core_definition_held s core_sort.Func index = tt
  core_definition_held s core_sort.Table index = tt
  core_definition_held s core_sort.Memory index = tt
  core_definition_held s core_sort.Global index = tt
  core_definition_held s core_sort.Module index = if_mapped AModule (IsDefined K) (slice_get s.core_modules index) (if_always (λ m. IsDefined K (AModule m)) (slice_get s.core_modules index) (λ m. tt))
  core_definition_held s core_sort.Instance index = tt

  pub definition_held : (s : Spaces) (sort : Sort) (index : ℕ) → AreSpaces K s → IfSome (definition_at s sort index) (IsDefined K)
  definition_held s (sorts.Core sort) index h = core_definition_held s sort index
  definition_held s sorts.Func index h = if_mapped AFunc (IsDefined K) (slice_get s.funcs index) (all_at K.func s.funcs index h.funcs)
  definition_held s sorts.Type index h = if_mapped AType (IsDefined K) (slice_get s.types index) (all_at K.type s.types index h.types)
  definition_held s sorts.Component index h = if_mapped AComponent (IsDefined K) (slice_get s.components index) (all_at (IsClosure K) s.components index h.components)
  definition_held s sorts.Instance index h = if_mapped AnInstance (IsDefined K) (slice_get s.instances index) (all_at (AreDefined K) s.instances index h.instances)

  pub outer_held : (s : Spaces) (sort : Sort) (index : ℕ) → AreSpaces K s → IfSome (outer_definition sort index s) (IsDefined K)
  outer_held s (sorts.Core sort) index h = tt
  outer_held s sorts.Func index h = tt
  outer_held s sorts.Type index h = definition_held s sorts.Type index h
  outer_held s sorts.Component index h = definition_held s sorts.Component index h
  outer_held s sorts.Instance index h = tt

  -- Definitions under names.
  pub are_named : (s : Spaces) (before : Exports) (named : List NamedDefinition) (exports : Exports) → AreSpaces K s → AreDefined K before → AreNamed s before named exports → AreDefined K exports
  are_named s before [] exports h k are = subst (AreDefined K) (sym are) k
  are_named s before (d ∷ named) exports h k are =
      are_named s (WithExport before d.name are.0) named exports h (k, holds_at (IsDefined K) (definition_at s d.sort d.index) are.0 (definition_held s d.sort d.index h) are.1) are.2

  first_held : (a b : Option Definition) → IfSome a (IsDefined K) → IfSome b (IsDefined K) → IfSome (first_of a b) (IsDefined K)
  first_held None b h k = k
  first_held (Some a) b h k = h

  pub export_held : (q : List ℕ) (exports : Exports) → AreDefined K exports → IfSome (export_named q exports) (IsDefined K)
  export_held q EmptyInstance h = tt
  export_held q (WithExport others name d) h =
      first_held (export_named q others) (cond (bytes_eq name q) (Some d) None) (export_held q others h.0) (if_cond (IsDefined K) (bytes_eq name q) (Some d) None h.1 tt)

  -- What is seen of a definition, and an instance of types.
  with_seen_held : (o : Option Definition) (name : List ℕ) (seen : Exports) → IfSome o (IsDefined K) → AreDefined K seen → AreDefined K (with_seen o name seen)
  with_seen_held None name seen h k = k
  with_seen_held (Some d) name seen h k = (k, h)

  mutual
    pub seen_held : (d : Definition) (extern : Extern) → IsDefined K d → IsDefined K (seen_as d extern)
    seen_held (AnInstance given) (OfInstance asked) h = seen_all_held given asked h
    seen_held d extern h = h

    seen_all_held : (given : Exports) (asked : Externs) → AreDefined K given → AreDefined K (seen_exports given asked)
    seen_all_held given EmptyType h = tt
    seen_all_held given (WithExtern others name extern) h =
        with_seen_held (option_map (λ d. seen_as d extern) (export_named name given)) name (seen_exports given others)
        (if_mapped (λ d. seen_as d extern) (IsDefined K) (export_named name given) (if_weaker (IsDefined K) (λ (d : Definition). IsDefined K (seen_as d extern)) (λ d k. seen_held d extern k) (export_named name given) (export_held name given h)))
        (seen_all_held given others h)

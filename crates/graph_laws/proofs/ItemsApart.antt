-- What an item makes of a linking that is apart is apart, and each component instance keeps what it owns.
use Rattle.std.proofs.Common.{◌≡◌, ◌∙◌, ℕ, Bool, suc, List, [], ◌∷◌, ◌++◌, length, map, refl, sym, ap, subst, arith, Option, Some, None}
use Rattle.std.specs.List.{slice_get}
use Rattle.std.specs.Option.{option_map, option_and_then, IfSome}
use Rattle.std.specs.Str.{bytes_eq}
use Rattle.syntax_trees.specs.declared.module.Export.{Export}
use Rattle.syntax_trees.specs.declared.module.ExportDesc.{ExportDesc}
use Rattle.syntax_trees.specs.declared.types.ValType.{ValType}
use Rattle.syntax_trees.specs.declared.module.ExportDesc.TheVariants as offered
use Rattle.syntax_trees.specs.declared.module.Import.{Import}
use Rattle.syntax_trees.specs.declared.module.ModuleTree.{ModuleTree}
use Rattle.wasm_typing.specs.Spaces.{type_of_func, global_space}
use Rattle.comp_tree.specs.declared.core_instances.CoreArgument.{CoreArgument}
use Rattle.comp_tree.specs.declared.core_instances.CoreInlineExport.{CoreInlineExport}
use Rattle.comp_tree.specs.declared.core_instances.CoreInstance.{CoreInstance}
use Rattle.comp_tree.specs.declared.core_instances.CoreInstance.TheVariants as made_core
use Rattle.comp_tree.specs.declared.instances.Instance as made_of
use Rattle.comp_tree.specs.declared.instances.Instance.TheVariants as made
use Rattle.comp_tree.specs.declared.instances.Sort.{Sort}
use Rattle.comp_tree.specs.declared.instances.AliasTarget.{AliasTarget}
use Rattle.comp_tree.specs.declared.instances.AliasTarget.TheVariants as target
use Rattle.comp_tree.specs.declared.externs.ExternDesc.{ExternDesc}
use Rattle.comp_tree.specs.declared.externs.Export as read
use Rattle.comp_tree.specs.declared.types.DefType.{DefType, out-DefType}
use Rattle.comp_tree.specs.declared.builtins.CanonBuiltin.{CanonBuiltin}
use Rattle.comp_tree.specs.declared.items.CanonOption.{CanonOption}
use Rattle.comp_tree.specs.declared.items.Canon.TheVariants.{Lift, Lower, Builtin}
use Rattle.comp_tree.specs.declared.items.Item.{Item}
use Rattle.comp_tree.specs.declared.items.Item.TheOpen.{Item-F}
use Rattle.comp_tree.specs.declared.items.Component.{Component}
use Rattle.comp_graph.specs.declared.graph.FuncRef.{FuncRef}
use Rattle.comp_graph.specs.declared.graph.FuncRef.TheVariants as func_ref
use Rattle.comp_graph.specs.declared.graph.CoreExtern.{CoreExtern}
use Rattle.comp_graph.specs.declared.graph.CanonFunc.{CanonFunc}
use Rattle.comp_graph.specs.declared.graph.CanonFunc.TheVariants as canon_func
use Rattle.comp_graph.specs.CoreItems.{core_func_of, table_space, memory_space}
use Rattle.comp_graph.specs.Closed.{Closed, Resource, Extern, OfFunc, OfType, OfInstance}
use Rattle.comp_graph.specs.Graph.{CoreMake, Graph, canon_type}
use Rattle.link_spec.specs.Definitions.{CoreItem, Func, Table, Memory, Global, extern_of, item_of, CoreExport, core_named, listed, exports_of, Definition, AFunc, AType, AComponent, AnInstance, AModule, Exports, EmptyInstance, WithExport, export_named}
use Rattle.link_spec.specs.Spaces.{Spaces, Linking, core_item_at, definition_at, with_core_item, with_core_instance, with_definition, with_spaces, with_ends, outer_definition, outer_at}
use Rattle.link_spec.specs.Ends.{noted_type}
use Rattle.link_spec.specs.Resources.{resource_written, with_resource, resource_makes}
use Rattle.link_spec.specs.Canons.{given_by}
use Rattle.link_spec.specs.Types.{Meaning}
use Rattle.link_spec.specs.Builtins.{builtin_meaning}
use Rattle.link_spec.specs.Brought.{asked_of}
use Rattle.link_spec.specs.Items.{argument_named, import_found, FindsItem, IsInline, core_made, core_instance_makes, instance_makes, alias_makes, lifted_with, lift_makes, with_canon, lowered_with, lower_makes, builtin_makes, IsImported, import_makes, said, IsExported, export_makes, type_meaning, defined_makes, makes_case}
use Rattle.link_spec.proofs.Holding.{all_push, all_mapped, all_flat, all_at, all_second, holds_at, if_mapped, if_found, if_each, if_cond, last_there}
use Rattle.abi_machine.specs.Canons.{inst_of_canon}
use Rattle.abi_machine.specs.sound.Owners.{owner_of_core, owner_of_canon, owner_of_func, owner_of_extern}
use Rattle.graph_laws.proofs.Owning.{made_by, KeepsOwners, OwnsCanon, OwnsDestructor, IsItemOf, AreExportsOf, IsFuncApart, IsDefinedApart, AreDefinedApart, AreSpacesApart, AreImportsOf, IsLinkingApart, IsReachedApart}
use Rattle.graph_laws.proofs.Keeping.{kept_mapped, kept_canons, kept_destructors, kept_imports, kept_spaces, keeps_itself}
use Rattle.graph_laws.proofs.Places.{at_set, makes_behind}
use Rattle.graph_laws.proofs.OptionsApart.{func_own, options_own, builtin_own}
use Rattle.graph_laws.proofs.SpacesApart.{if_always, with_item_apart, with_instance_apart, with_defined_apart, with_imports_apart, with_exports_apart, item_apart, core_named_apart, definition_apart, are_named_apart, outer_apart, named_apart, seen_apart, types_apart}

-- What a core instance exports is of the component instance that made it.
module _ (g : Graph) (owner number : ℕ) (is : owner_of_core g number ≡ Some owner) where
  item_of_own : (m : ModuleTree) (d : ExportDesc) → IfSome (item_of m number d) (IsItemOf g owner)
  item_of_own m (offered.Func index) =
      if_mapped (λ type. Func (func_ref.Instance (record { instance = number; index = index })) type) (IsItemOf g owner) (type_of_func m index)
      (if_always (λ type. IsItemOf g owner (Func (func_ref.Instance (record { instance = number; index = index })) type)) (type_of_func m index) (λ type. is))
  item_of_own m (offered.Table index) =
      if_mapped (λ limits. Table (record { instance = number; index = index }) limits) (IsItemOf g owner) (slice_get (table_space m) index)
      (if_always (λ limits. IsItemOf g owner (Table (record { instance = number; index = index }) limits)) (slice_get (table_space m) index) (λ limits. is))
  item_of_own m (offered.Memory index) =
      if_mapped (λ limits. Memory (record { instance = number; index = index }) limits) (IsItemOf g owner) (slice_get (memory_space m) index)
      (if_always (λ limits. IsItemOf g owner (Memory (record { instance = number; index = index }) limits)) (slice_get (memory_space m) index) (λ limits. is))
  item_of_own m (offered.Global index) =
      if_mapped (λ type. Global (record { instance = number; index = index }) type) (IsItemOf g owner) (slice_get (global_space m) index)
      (if_always (λ type. IsItemOf g owner (Global (record { instance = number; index = index }) type)) (slice_get (global_space m) index) (λ type. is))

  listed_own : (o : Option CoreExport) → IfSome o (λ (e : CoreExport). IsItemOf g owner e.item) → AreExportsOf g owner (listed o)
  listed_own None h = tt
  listed_own (Some e) h = (h, tt)

  exports_own : (m : ModuleTree) → AreExportsOf g owner (exports_of m number)
  exports_own m =
      all_flat (λ (e : Export). listed (option_map (λ item. (let x : CoreExport = record { name = e.name; item = item } in x)) (item_of m number e.desc))) (λ (e : CoreExport). IsItemOf g owner e.item)
      (λ e. listed_own (option_map (λ item. (let x : CoreExport = record { name = e.name; item = item } in x)) (item_of m number e.desc))
      (if_mapped (λ item. (let x : CoreExport = record { name = e.name; item = item } in x)) (λ (e : CoreExport). IsItemOf g owner e.item) (item_of m number e.desc) (item_of_own m e.desc))) m.exports

-- What imports find.
module _ (g : Graph) (owner : ℕ) (s : Spaces) (apart : AreSpacesApart g owner s) where
  argument_own : (q : List ℕ) (arguments : List CoreArgument) → IfSome (argument_named s.core_instances q arguments) (AreExportsOf g owner)
  argument_own q [] = tt
  argument_own q (a ∷ arguments) =
      if_cond (AreExportsOf g owner) (bytes_eq a.name q) (slice_get s.core_instances a.instance) (argument_named s.core_instances q arguments)
      (all_at (AreExportsOf g owner) s.core_instances a.instance apart.core.instances_of) (argument_own q arguments)

  import_own : (arguments : List CoreArgument) (i : Import) → IfSome (import_found s arguments i) (IsItemOf g owner)
  import_own arguments i = if_found (core_named i.name) (AreExportsOf g owner) (IsItemOf g owner) (core_named_apart g owner i.name) (argument_named s.core_instances i.module arguments) (argument_own i.module arguments)

-- A component instance has other index spaces.
pub with_spaces_apart : (l : Linking) (n : ℕ) (s : Spaces) → IsLinkingApart l → AreSpacesApart (made_by l) n s → IsLinkingApart (with_spaces l n s)
with_spaces_apart l n s h k = record { scopes = at_set (AreSpacesApart (made_by l)) l.scopes n s k h.scopes; imports = h.imports; lowers = h.lowers; destructors = h.destructors; planned = h.planned }

made_reached : (l : Linking) (n : ℕ) (s : Spaces) (new : Linking) → new ≡ with_spaces l n s → IsLinkingApart l → AreSpacesApart (made_by l) n s → IsReachedApart l new
made_reached l n s new e h k = subst (IsReachedApart l) (sym e) (record { apart = with_spaces_apart l n s h k; keeps = keeps_itself (made_by l) })

ends_apart : (l : Linking) (types : List ValType) (room : Bool) → IsLinkingApart l → IsLinkingApart (with_ends l types room)
ends_apart l types room h = record { scopes = h.scopes; imports = h.imports; lowers = h.lowers; destructors = h.destructors; planned = h.planned }

ends_reached : (l : Linking) (types : List ValType) (room : Bool) (new : Linking) → IsReachedApart (with_ends l types room) new → IsReachedApart l new
ends_reached l types room new r = record { apart = r.apart; keeps = r.keeps }

defined_reached : (l : Linking) (n : ℕ) (s : Spaces) (d : Definition) (new : Linking) → IsLinkingApart l → AreSpacesApart (made_by l) n s → new ≡ with_spaces l n (with_definition s d) → IsDefinedApart (made_by l) d → IsReachedApart l new
defined_reached l n s d new h k made is = made_reached l n (with_definition s d) new made h (with_defined_apart (made_by l) n s d k is)

-- Core instances.
core_instance_reached : (l : Linking) (n : ℕ) (s : Spaces) (c : CoreInstance) (new : Linking) → IsLinkingApart l → AreSpacesApart (made_by l) n s → core_instance_makes l n s c new → IsReachedApart l new
core_instance_reached l n s (made_core.Instantiate index arguments) new h k (m, imports, is, there, found, distinct, few, made) =
    subst (IsReachedApart l) (sym made) (record {
      apart = record {
        scopes = at_set (AreSpacesApart longer) l.scopes n (with_core_instance s (exports_of m (length l.cores)))
            (with_instance_apart longer n s (exports_of m (length l.cores)) (kept_spaces (made_by l) longer keeps n s k) (exports_own longer n (length l.cores) own m))
            (λ i t e. kept_spaces (made_by l) longer keeps i t (h.scopes i t e));
        imports = all_push (AreImportsOf longer) l.cores core (kept_imports (made_by l) longer keeps l.cores h.imports) imports_own;
        lowers = kept_canons (made_by l) longer keeps l.canons h.lowers;
        destructors = kept_destructors (made_by l) longer keeps l.resources h.destructors;
        planned = makes_behind (length l.cores) 0 l.plan l.cores core (omega arith) h.planned;
      };
      keeps = keeps;
    })
  where
    core : CoreMake
    core = record { of_module = m; imports = map extern_of imports; owner = n }

    longer : Graph
    longer = made_by (core_made l n s m imports)

    keeps : KeepsOwners (made_by l) longer
    keeps = record { cores = λ number owner e. kept_mapped (λ (c : CoreMake). c.owner) l.cores (core ∷ []) number owner e; canons = λ number owner e. e }

    own : owner_of_core longer (length l.cores) ≡ Some n
    own = ap (option_map (λ (c : CoreMake). c.owner)) (last_there l.cores core)

    imports_own : AreImportsOf longer core
    imports_own =
        all_mapped extern_of (λ (e : CoreExtern). owner_of_extern longer e ≡ Some n) imports
        (all_second (FindsItem s m arguments) (IsItemOf longer n) (λ i item f. holds_at (IsItemOf longer n) (import_found s arguments i) item (import_own longer n s (kept_spaces (made_by l) longer keeps n s k) arguments i) f.0) m.imports imports found)
core_instance_reached l n s (made_core.Inline read) new h k (exports, are, distinct, made) =
    made_reached l n (with_core_instance s exports) new made h
    (with_instance_apart (made_by l) n s exports k
    (all_second (IsInline s) (λ (e : CoreExport). IsItemOf (made_by l) n e.item) (λ (r : CoreInlineExport) (e : CoreExport) f. holds_at (IsItemOf (made_by l) n) (core_item_at s r.sort r.index) e.item (item_apart (made_by l) n s r.sort r.index k) f.1) read exports are))

instance_reached : (l : Linking) (n : ℕ) (s : Spaces) (i : made_of.Instance) (new : Linking) → IsLinkingApart l → AreSpacesApart (made_by l) n s → instance_makes l n s i new → IsReachedApart l new
instance_reached l n s (made.Instantiate component arguments) new h k makes = absurd makes
instance_reached l n s (made.Inline read) new h k (exports, are, distinct, made) = defined_reached l n s (AnInstance exports) new h k made (are_named_apart (made_by l) n s EmptyInstance read exports k tt are)

-- Aliases.
alias_reached : (l : Linking) (n : ℕ) (s : Spaces) (sort : Sort) (t : AliasTarget) (new : Linking) → IsLinkingApart l → AreSpacesApart (made_by l) n s → alias_makes l n s sort t new → IsReachedApart l new
alias_reached l n s sort (target.InstanceExport instance name) new h k (d, is, of_sort, made) =
    defined_reached l n s d new h k made
    (holds_at (IsDefinedApart (made_by l)) (option_and_then (export_named name) (slice_get s.instances instance)) d
    (if_found (export_named name) (AreDefinedApart (made_by l)) (IsDefinedApart (made_by l)) (named_apart (made_by l) name) (slice_get s.instances instance) (all_at (AreDefinedApart (made_by l)) s.instances instance k.instances)) is)
alias_reached l n s sort (target.CoreInstanceExport instance name) new h k (item, is, of_sort, made) =
    made_reached l n (with_core_item s item) new made h
    (with_item_apart (made_by l) n s item k
    (holds_at (IsItemOf (made_by l) n) (option_and_then (core_named name) (slice_get s.core_instances instance)) item
    (if_found (core_named name) (AreExportsOf (made_by l) n) (IsItemOf (made_by l) n) (core_named_apart (made_by l) n name) (slice_get s.core_instances instance) (all_at (AreExportsOf (made_by l) n) s.core_instances instance k.core.instances_of)) is))
alias_reached l n s sort (target.Outer up index) new h k (d, is, made) =
    defined_reached l n s d new h k made
    (holds_at (IsDefinedApart (made_by l)) (outer_at l (n ∷ s.around) sort up index) d
    (if_each (outer_definition sort index) (IsDefinedApart (made_by l)) (λ (t : Spaces). outer_apart (made_by l) t sort index) (option_and_then (slice_get l.scopes) (slice_get (n ∷ s.around) up))) is)

-- The core function of an index, where it is one.
core_own : (g : Graph) (n : ℕ) (s : Spaces) (f : ℕ) (item : CoreItem) (core : FuncRef) → AreSpacesApart g n s → slice_get s.core_funcs f ≡ Some item → core_func_of item ≡ Some core → owner_of_func g core ≡ Some n
core_own g n s f item core k is of_item =
    holds_at (λ (f : FuncRef). owner_of_func g f ≡ Some n) (core_func_of item) core
    (func_own g n s k item (holds_at (IsItemOf g n) (slice_get s.core_funcs f) item (all_at (IsItemOf g n) s.core_funcs f k.core.funcs_of) is)) of_item

-- Lifts.
lift_reached : (l : Linking) (n : ℕ) (s : Spaces) (f : ℕ) (options : List CanonOption) (t : ℕ) (new : Linking) → IsLinkingApart l → AreSpacesApart (made_by l) n s → lift_makes l n s f options t new → IsReachedApart l new
lift_reached l n s f options t new h k (item, core, type, is, of_item, there, of_type, once, fits, made) =
    defined_reached l n s (AFunc (lifted_with n type core (given_by s options))) new h k made (core_own (made_by l) n s f item core k is of_item, options_own (made_by l) n s k options)

-- One core function more, which the Canonical ABI makes in this component instance.
canon_reached : (l : Linking) (n : ℕ) (s : Spaces) (canon : CanonFunc) (new : Linking) → IsLinkingApart l → AreSpacesApart (made_by l) n s → inst_of_canon canon ≡ n
    → (AreSpacesApart (made_by (with_canon l n s canon)) n s → OwnsCanon (made_by (with_canon l n s canon)) canon) → new ≡ with_canon l n s canon → IsReachedApart l new
canon_reached l n s canon new h k of_instance canon_own made =
    subst (IsReachedApart l) (sym made) (record {
      apart = record {
        scopes = at_set (AreSpacesApart longer) l.scopes n (with_core_item s item) (with_item_apart longer n s item spaces own) (λ i t e. kept_spaces (made_by l) longer keeps i t (h.scopes i t e));
        imports = kept_imports (made_by l) longer keeps l.cores h.imports;
        lowers = all_push (OwnsCanon longer) l.canons canon (kept_canons (made_by l) longer keeps l.canons h.lowers) (canon_own spaces);
        destructors = kept_destructors (made_by l) longer keeps l.resources h.destructors;
        planned = h.planned;
      };
      keeps = keeps;
    })
  where
    item : CoreItem
    item = Func (func_ref.Canon (length l.canons)) (canon_type canon)

    longer : Graph
    longer = made_by (with_canon l n s canon)

    keeps : KeepsOwners (made_by l) longer
    keeps = record { cores = λ number owner e. e; canons = λ number owner e. kept_mapped inst_of_canon l.canons (canon ∷ []) number owner e }

    own : owner_of_canon longer (length l.canons) ≡ Some n
    own = ap (option_map inst_of_canon) (last_there l.canons canon) ∙ ap (λ (x : ℕ). Some x) of_instance

    spaces : AreSpacesApart longer n s
    spaces = kept_spaces (made_by l) longer keeps n s k

lower_reached : (l : Linking) (n : ℕ) (s : Spaces) (f : ℕ) (options : List CanonOption) (new : Linking) → IsLinkingApart l → AreSpacesApart (made_by l) n s → lower_makes l n s f options new → IsReachedApart l new
lower_reached l n s f options new h k (func, is, there, once, fits, made) = canon_reached l n s canon new h k refl canon_own made
  where
    canon : CanonFunc
    canon = lowered_with n func (given_by s options)

    longer : Graph
    longer = made_by (with_canon l n s canon)

    canon_own : AreSpacesApart longer n s → OwnsCanon longer canon
    canon_own spaces = (options_own longer n s spaces options, holds_at (IsFuncApart longer) (slice_get s.funcs f) func (all_at (IsFuncApart longer) s.funcs f spaces.funcs) is)

builtin_reached : (l : Linking) (n : ℕ) (s : Spaces) (b : CanonBuiltin) (new : Linking) → IsLinkingApart l → AreSpacesApart (made_by l) n s → builtin_makes l n s (builtin_meaning l n s b) new → IsReachedApart l new
builtin_reached l n s b new h k (kind, there, is, serves, made) = canon_reached l n s canon new h k refl (λ spaces. builtin_own (made_by (with_canon l n s canon)) n s spaces l n b kind is) made
  where
    canon : CanonFunc
    canon = canon_func.Builtin (record { instance = n; kind = kind })

-- One type of resources more, and what else a type makes.
resource_reached : (l : Linking) (n : ℕ) (s : Spaces) (core : Option FuncRef) (new : Linking) → IsLinkingApart l → AreSpacesApart (made_by l) n s
    → OwnsDestructor (made_by l) (record { instance = n; destructor = core }) → new ≡ with_resource l n s core → IsReachedApart l new
resource_reached l n s core new h k own made =
    let type : Closed = Resource (suc (length l.resources)) in
    subst (IsReachedApart l) (sym made) (record {
      apart = record {
        scopes = at_set (AreSpacesApart (made_by l)) l.scopes n (with_definition s (AType type)) (with_defined_apart (made_by l) n s (AType type) k tt) h.scopes;
        imports = h.imports;
        lowers = h.lowers;
        destructors = all_push (OwnsDestructor (made_by l)) l.resources (record { instance = n; destructor = core }) h.destructors own;
        planned = h.planned;
      };
      keeps = keeps_itself (made_by l);
    })

destructor_reached : (l : Linking) (n : ℕ) (s : Spaces) (index : Option ℕ) (new : Linking) → IsLinkingApart l → AreSpacesApart (made_by l) n s → resource_makes l n s index new → IsReachedApart l new
destructor_reached l n s None new h k made = resource_reached l n s None new h k tt made
destructor_reached l n s (Some f) new h k (item, core, is, of_item, fits, made) = resource_reached l n s (Some core) new h k (core_own (made_by l) n s f item core k is of_item) made

type_reached : (l : Linking) (n : ℕ) (s : Spaces) (written : Option (Option ℕ)) (type : DefType) (new : Linking) → IsLinkingApart l → AreSpacesApart (made_by l) n s
    → defined_makes l n s written (type_meaning l n s type) new → IsReachedApart l new
type_reached l n s (Some index) type new h k makes = destructor_reached l n s index new h k makes
type_reached l n s None type new h k (closed, means, made) =
    let types = noted_type l.end_types closed in
    let room = (type_meaning l n s type).has_room in
    ends_reached l types room new (defined_reached (with_ends l types room) n s (AType closed) new (ends_apart l types room h) k made tt)

-- Imports and exports.
imported_apart : (g : Graph) (arguments : Option Exports) (name : List ℕ) (extern : Extern) (d : Definition) → IfSome arguments (AreDefinedApart g) → IsImported arguments name extern d → IsDefinedApart g d
imported_apart g (Some given) name extern d h (x, is, fits, e) =
    subst (IsDefinedApart g) (sym e) (seen_apart g x (asked_of x extern) (holds_at (IsDefinedApart g) (export_named name given) x (named_apart g name given h) is))
imported_apart g None name (OfInstance externs) d h (types, e) = subst (IsDefinedApart g) (sym e) (types_apart g externs)
imported_apart g None name (OfFunc type) d h i = absurd i
imported_apart g None name (OfType type) d h i = absurd i

import_reached : (l : Linking) (n : ℕ) (s : Spaces) (name : List ℕ) (asked : ExternDesc) (new : Linking) → IsLinkingApart l → AreSpacesApart (made_by l) n s → import_makes l n s name asked new → IsReachedApart l new
import_reached l n s name asked new h k (extern, d, means, fresh, imported, made) =
    defined_reached l n (record s { imports = s.imports ++ name ∷ [] }) d new h (with_imports_apart (made_by l) n s (s.imports ++ name ∷ []) k) made
    (imported_apart (made_by l) s.arguments name extern d k.passed imported)

exported_apart : (g : Graph) (meaning : Option (Meaning Extern)) (d x : Definition) → IsDefinedApart g d → IsExported meaning d x → IsDefinedApart g x
exported_apart g None d x h e = subst (IsDefinedApart g) (sym e) h
exported_apart g (Some meaning) d x h (extern, means, fits, e) = subst (IsDefinedApart g) (sym e) (seen_apart g d (asked_of d extern) h)

export_reached : (l : Linking) (n : ℕ) (s : Spaces) (e : read.Export) (new : Linking) → IsLinkingApart l → AreSpacesApart (made_by l) n s → export_makes l n s e new → IsReachedApart l new
export_reached l n s e new h k (d, x, is, fresh, exported, made) =
    let apart = exported_apart (made_by l) (said s e) d x (holds_at (IsDefinedApart (made_by l)) (definition_at s e.sort e.index) d (definition_apart (made_by l) n s e.sort e.index k) is) exported in
    defined_reached l n (record s { exports = WithExport s.exports e.name x }) x new h (with_exports_apart (made_by l) n s (WithExport s.exports e.name x) k (k.exported, apart)) made apart

-- Items.
pub case_reached : (l : Linking) (n : ℕ) (s : Spaces) (shape : Item-F Item Component) (new : Linking) → IsLinkingApart l → AreSpacesApart (made_by l) n s → makes_case l n s shape new → IsReachedApart l new
case_reached l n s (Item-F.CoreModule m) new h k made = defined_reached l n s (AModule m) new h k made tt
case_reached l n s (Item-F.CoreInstance c) new h k makes = core_instance_reached l n s c new h k makes
case_reached l n s (Item-F.Component c) new h k made = defined_reached l n s (AComponent (record { items = c.items; around = n ∷ s.around })) new h k made tt
case_reached l n s (Item-F.Instance i) new h k makes = instance_reached l n s i new h k makes
case_reached l n s (Item-F.Alias alias) new h k makes = alias_reached l n s alias.sort alias.target new h k makes
case_reached l n s (Item-F.Type type) new h k makes = type_reached l n s (resource_written (out-DefType type)) type new h k makes
case_reached l n s (Item-F.Canon (Lift f options t)) new h k makes = lift_reached l n s f options t new h k makes
case_reached l n s (Item-F.Canon (Lower f options)) new h k makes = lower_reached l n s f options new h k makes
case_reached l n s (Item-F.Canon (Builtin b)) new h k makes = builtin_reached l n s b new h k makes
case_reached l n s (Item-F.Import i) new h k makes = import_reached l n s i.name i.desc new h k makes
case_reached l n s (Item-F.Export e) new h k makes = export_reached l n s e new h k makes

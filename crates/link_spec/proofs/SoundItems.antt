-- What an item makes of a sound linking is sound, and core instances and core functions of the Canonical ABI come only behind those
-- that there are.
use Rattle.std.proofs.Common.{◌≡◌, ℕ, Bool, suc, false, List, [], ◌∷◌, ◌++◌, length, map, refl, sym, ap, subst, append-nil, Option, Some, None}
use Rattle.std.specs.Prelude.{IfSome}
use Rattle.std.specs.Option.{option_map, option_and_then}
use Rattle.std.specs.List.{slice_get}
use Rattle.std.specs.Str.{bytes_eq}
use Rattle.syntax_trees.specs.declared.module.Export.{Export}
use Rattle.syntax_trees.specs.declared.module.ExportDesc.{ExportDesc}
use Rattle.syntax_trees.specs.declared.module.ExportDesc.TheVariants as offered
use Rattle.syntax_trees.specs.declared.module.Import.{Import}
use Rattle.syntax_trees.specs.declared.module.ModuleTree.{ModuleTree}
use Rattle.syntax_trees.specs.declared.types.ValType.{ValType}
use Rattle.wasm_typing.specs.Spaces.{type_of_func, global_space}
use Rattle.comp_graph.specs.CoreItems.{table_space, memory_space}
use Rattle.comp_graph.specs.CoreItems.{core_func_of}
use Rattle.comp_graph.specs.Needs.{destructor_type}
use Rattle.comp_graph.specs.declared.graph.FuncRef.{FuncRef}
use Rattle.comp_graph.specs.declared.graph.FuncRef.TheVariants as func_ref
use Rattle.laid_types.specs.Handles.{held_borrow}
use Rattle.comp_graph.specs.declared.graph.BuiltinKind.{BuiltinKind}
use Rattle.comp_graph.specs.declared.graph.CanonFunc.{CanonFunc}
use Rattle.comp_graph.specs.declared.graph.CanonFunc.TheVariants as canon_func
use Rattle.comp_graph.specs.Graph.{canon_type, core_type, IsItem, IsCanonThere, HasImports, instance_made, canon_made, resource_made, passed_value}
use Rattle.comp_tree.specs.declared.core_instances.CoreArgument.{CoreArgument}
use Rattle.comp_tree.specs.declared.core_instances.CoreInlineExport.{CoreInlineExport}
use Rattle.comp_tree.specs.declared.core_instances.CoreInstance.{CoreInstance}
use Rattle.comp_tree.specs.declared.core_instances.CoreInstance.TheVariants as made_core
use Rattle.comp_tree.specs.declared.instances.Instance as made_of
use Rattle.comp_tree.specs.declared.instances.Instance.TheVariants as made
use Rattle.comp_tree.specs.declared.instances.Sort.{Sort}
use Rattle.comp_tree.specs.declared.instances.AliasTarget.{AliasTarget}
use Rattle.comp_tree.specs.declared.instances.AliasTarget.TheVariants as target
use Rattle.comp_tree.specs.declared.externs.ExternDesc.{ExternDesc}
use Rattle.comp_tree.specs.declared.externs.Export as read
use Rattle.comp_tree.specs.declared.types.DefType.{DefType, out-DefType}
use Rattle.comp_tree.specs.declared.builtins.CanonBuiltin.{CanonBuiltin}
use Rattle.comp_tree.specs.declared.items.CanonOption.{CanonOption}
use Rattle.comp_tree.specs.declared.items.Canon.TheVariants.{Lift, Lower, Builtin}
use Rattle.comp_tree.specs.declared.items.Item.{Item}
use Rattle.comp_tree.specs.declared.items.Item.TheOpen.{Item-F}
use Rattle.comp_tree.specs.declared.items.Component.{Component}
use Rattle.comp_graph.specs.Closed.{Resource, Extern, OfFunc, OfType, OfInstance, func_of}
use Rattle.link_spec.specs.Brought.{asked_of}
use Rattle.link_spec.specs.Definitions.{CoreItem, Func, Table, Memory, Global, extern_of, item_of, CoreFits, CoreExport, core_named, listed, exports_of, Definition, AFunc, AType, AComponent, AnInstance, AModule, Exports, WithExport, export_named}
use Rattle.link_spec.specs.Spaces.{CoreMake, Spaces, Linking, Level, level_of, listed_level, levels_at, core_item_at, definition_at, with_core_item, with_core_instance, with_definition, with_spaces, with_ends, outer_definition, outer_at}
use Rattle.link_spec.specs.Ends.{noted_type}
use Rattle.link_spec.specs.Canons.{memory_index, realloc_index, post_return_index, callback_index, first_index, given_by}
use Rattle.link_spec.specs.Builtins.{builtin_meaning}
use Rattle.link_spec.specs.Resources.{resource_written, with_resource, resource_makes}
use Rattle.link_spec.specs.Items.{argument_named, import_found, FindsItem, IsInline, core_instance_makes, instance_makes, alias_makes, type_makes, defined_makes, type_meaning, lifted_with, lift_makes, with_canon, lowered_with, lower_makes, builtin_makes, type_given, meant_of, given_for, wanted, IsImported, import_makes, IsExported, export_makes, makes_case}
use Rattle.link_spec.proofs.Holding.{all_push, all_set, all_weaker, all_mapped, all_flat, all_at, all_second, zip_weaker, holds_at, if_weaker, if_mapped, if_found, if_each, if_cond, last_there}
use Rattle.link_spec.proofs.Kept.{imported_behind, kept_imported}
use Rattle.link_spec.proofs.Apart.{IsFuncApart, IsApart, IsExternApart, IsKnownApart, of_func_apart, meant_apart, asked_apart}
use Rattle.link_spec.proofs.ApartMeanings.{IsLevelApart, AreLevelsApart, meaning_apart}
use Rattle.link_spec.proofs.BuiltinsLend.{builtin_lends}
use Rattle.link_spec.proofs.Modules.{ShapeHas}
use Rattle.link_spec.proofs.Soundness.{IsFuncSound, HasApartType, IsMemoryItem, AreThere, IsSound, AreSound, AreSpacesSound, IsLinkingSound}
use Rattle.link_spec.proofs.LiftsThere.{item_type, IsGiven, lift_there, lower_there, builtin_there}
use Rattle.link_spec.proofs.SoundSpaces.{more_cores, more_canons, sound_core_item, sound_core_instance, sound_definition, sound_imports, sound_exports, item_there, definition_sound, outer_sound, named_sound, core_named_there}
use Rattle.link_spec.proofs.SoundSeen.{seen_sound, types_sound, are_named_sound}

-- What a core instance exports is there, where it is.
if_itself : {A : Type 0} (P : A → Type 0) (o : Option A) → ((x : A) → o ≡ Some x → P x) → IfSome o P
if_itself P None f = tt
if_itself P (Some x) f = f x refl

module _ (cores : List CoreMake) (canons : List CanonFunc) (core : CoreMake) (number : ℕ) (there : slice_get cores number ≡ Some core) where
  item_of_there : (d : ExportDesc) → IfSome (item_of core.of_module number d) (IsItem cores canons)
  item_of_there (offered.Func index) =
      if_mapped (λ type. Func (func_ref.Instance (record { instance = number; index = index })) type) (IsItem cores canons) (type_of_func core.of_module index)
      (if_itself (λ type. IsItem cores canons (Func (func_ref.Instance (record { instance = number; index = index })) type)) (type_of_func core.of_module index) (λ type e. record { core = core; there = there; holds = e }))
  item_of_there (offered.Table index) =
      if_mapped (λ limits. Table (record { instance = number; index = index }) limits) (IsItem cores canons) (slice_get (table_space core.of_module) index)
      (if_itself (λ limits. IsItem cores canons (Table (record { instance = number; index = index }) limits)) (slice_get (table_space core.of_module) index) (λ limits e. record { core = core; there = there; holds = e }))
  item_of_there (offered.Memory index) =
      if_mapped (λ limits. Memory (record { instance = number; index = index }) limits) (IsItem cores canons) (slice_get (memory_space core.of_module) index)
      (if_itself (λ limits. IsItem cores canons (Memory (record { instance = number; index = index }) limits)) (slice_get (memory_space core.of_module) index) (λ limits e. record { core = core; there = there; holds = e }))
  item_of_there (offered.Global index) =
      if_mapped (λ type. Global (record { instance = number; index = index }) type) (IsItem cores canons) (slice_get (global_space core.of_module) index)
      (if_itself (λ type. IsItem cores canons (Global (record { instance = number; index = index }) type)) (slice_get (global_space core.of_module) index) (λ type e. record { core = core; there = there; holds = e }))

  listed_there : (o : Option CoreExport) → IfSome o (λ (e : CoreExport). IsItem cores canons e.item) → AreThere cores canons (listed o)
  listed_there None h = tt
  listed_there (Some e) h = (h, tt)

  exports_of_there : AreThere cores canons (exports_of core.of_module number)
  exports_of_there =
      all_flat (λ (e : Export). listed (option_map (λ item. (let x : CoreExport = record { name = e.name; item = item } in x)) (item_of core.of_module number e.desc))) (λ (e : CoreExport). IsItem cores canons e.item)
      (λ e. listed_there (option_map (λ item. (let x : CoreExport = record { name = e.name; item = item } in x)) (item_of core.of_module number e.desc))
      (if_mapped (λ item. (let x : CoreExport = record { name = e.name; item = item } in x)) (λ (e : CoreExport). IsItem cores canons e.item) (item_of core.of_module number e.desc) (item_of_there e.desc))) core.of_module.exports

-- A linking that is sound, and has all core instances of one before it, and all core functions of the Canonical ABI.
pub record IsReached (R : ModuleTree → Type 0) (l new : Linking) : Type 0 where
  pub sound : IsLinkingSound R new
  pub more : List CoreMake
  pub longer : new.cores ≡ l.cores ++ more
  pub others : List CanonFunc
  pub wider : new.canons ≡ l.canons ++ others

module _ (R : ModuleTree → Type 0) where
  pub with_spaces_sound : (l : Linking) (n : ℕ) (s : Spaces) → IsLinkingSound R l → AreSpacesSound R l.cores l.canons s → IsLinkingSound R (with_spaces l n s)
  with_spaces_sound l n s h k = record { scopes = all_set (AreSpacesSound R l.cores l.canons) l.scopes n s h.scopes k; imported = h.imported; made = h.made; called = h.called; modules_have = h.modules_have }

  ends_sound : (l : Linking) (types : List ValType) (room : Bool) → IsLinkingSound R l → IsLinkingSound R (with_ends l types room)
  ends_sound l types room h = record { scopes = h.scopes; imported = h.imported; made = h.made; called = h.called; modules_have = h.modules_have }

  ends_reached : (l : Linking) (types : List ValType) (room : Bool) (new : Linking) → IsReached R (with_ends l types room) new → IsReached R l new
  ends_reached l types room new r = record { sound = r.sound; more = r.more; longer = r.longer; others = r.others; wider = r.wider }

  made_reached : (l : Linking) (n : ℕ) (s : Spaces) (new : Linking) → new ≡ with_spaces l n s → IsLinkingSound R l → AreSpacesSound R l.cores l.canons s → IsReached R l new
  made_reached l n s new e h k = subst (IsReached R l) (sym e) (record { sound = with_spaces_sound l n s h k; more = []; longer = sym (append-nil l.cores); others = []; wider = sym (append-nil l.canons) })

  -- Core instances.
  argument_there : (cores : List CoreMake) (canons : List CanonFunc) (s : Spaces) (q : List ℕ) (arguments : List CoreArgument) → AreSpacesSound R cores canons s → IfSome (argument_named s.core_instances q arguments) (AreThere cores canons)
  argument_there cores canons s q [] k = tt
  argument_there cores canons s q (a ∷ arguments) k =
      if_cond (AreThere cores canons) (bytes_eq a.name q) (slice_get s.core_instances a.instance) (argument_named s.core_instances q arguments)
      (all_at (AreThere cores canons) s.core_instances a.instance k.core.instances_there) (argument_there cores canons s q arguments k)

  import_there : (cores : List CoreMake) (canons : List CanonFunc) (s : Spaces) (arguments : List CoreArgument) (i : Import) → AreSpacesSound R cores canons s → IfSome (import_found s arguments i) (IsItem cores canons)
  import_there cores canons s arguments i k = if_found (core_named i.name) (AreThere cores canons) (IsItem cores canons) (core_named_there cores canons i.name) (argument_named s.core_instances i.module arguments) (argument_there cores canons s i.module arguments k)

  core_instance_reached : (l : Linking) (n : ℕ) (s : Spaces) (c : CoreInstance) (new : Linking) → IsLinkingSound R l → AreSpacesSound R l.cores l.canons s → core_instance_makes l n s c new → IsReached R l new
  core_instance_reached l n s (made_core.Instantiate index arguments) new h k (m, imports, is, there, found, distinct, few, made) =
      subst (IsReached R l) (sym made) (record {
        sound = record {
          scopes = all_set (AreSpacesSound R longer l.canons) l.scopes n (with_core_instance s (exports_of m (length l.cores)))
              (all_weaker (AreSpacesSound R l.cores l.canons) (AreSpacesSound R longer l.canons) (more_cores R l.cores (core ∷ []) l.canons) l.scopes h.scopes)
              (sound_core_instance R longer l.canons s (exports_of m (length l.cores)) (more_cores R l.cores (core ∷ []) l.canons s k) (exports_of_there longer l.canons core (length l.cores) (last_there l.cores core)));
          imported = imported_behind l.canons [] l.cores core h.imported has_imports;
          made = instance_made l.cores l.canons l.resources core h.made has_imports;
          called = h.called;
          modules_have = all_push (λ (core : CoreMake). R core.of_module) l.cores core h.modules_have (holds_at R (slice_get s.core_modules index) m (all_at R s.core_modules index k.core.modules_have) is);
        };
        more = core ∷ [];
        longer = refl;
        others = [];
        wider = sym (append-nil l.canons);
      })
    where
      core : CoreMake
      core = record { of_module = m; imports = map extern_of imports; owner = n }

      longer : List CoreMake
      longer = l.cores ++ core ∷ []

      has_imports : HasImports l.cores l.canons core
      has_imports = record {
        items = imports;
        are = refl;
        there = all_second (FindsItem s m arguments) (IsItem l.cores l.canons) (λ i item f. holds_at (IsItem l.cores l.canons) (import_found s arguments i) item (import_there l.cores l.canons s arguments i k) f.0) m.imports imports found;
        fit = zip_weaker (FindsItem s m arguments) (λ (i : Import) (item : CoreItem). CoreFits m item i.desc) (λ i item f. f.1) m.imports imports found;
      }
  core_instance_reached l n s (made_core.Inline read) new h k (exports, are, distinct, made) =
      made_reached l n (with_core_instance s exports) new made h
      (sound_core_instance R l.cores l.canons s exports k
      (all_second (IsInline s) (λ (e : CoreExport). IsItem l.cores l.canons e.item) (λ (r : CoreInlineExport) (e : CoreExport) f. holds_at (IsItem l.cores l.canons) (core_item_at s r.sort r.index) e.item (item_there R l.cores l.canons s r.sort r.index k) f.1) read exports are))

  defined_reached : (l : Linking) (n : ℕ) (s : Spaces) (d : Definition) (new : Linking) → IsLinkingSound R l → AreSpacesSound R l.cores l.canons s → new ≡ with_spaces l n (with_definition s d) → IsSound R l.cores l.canons d → IsReached R l new
  defined_reached l n s d new h k made sound = made_reached l n (with_definition s d) new made h (sound_definition R l.cores l.canons s d k sound)

  instance_reached : (l : Linking) (n : ℕ) (s : Spaces) (i : made_of.Instance) (new : Linking) → IsLinkingSound R l → AreSpacesSound R l.cores l.canons s → instance_makes l n s i new → IsReached R l new
  instance_reached l n s (made.Instantiate component arguments) new h k makes = absurd makes
  instance_reached l n s (made.Inline read) new h k (exports, are, distinct, made) = defined_reached l n s (AnInstance exports) new h k made (are_named_sound R l.cores l.canons s read exports k distinct are)

  -- Aliases.
  scope_sound : (l : Linking) (o : Option ℕ) → IsLinkingSound R l → IfSome (option_and_then (slice_get l.scopes) o) (AreSpacesSound R l.cores l.canons)
  scope_sound l None h = tt
  scope_sound l (Some n) h = all_at (AreSpacesSound R l.cores l.canons) l.scopes n h.scopes

  alias_reached : (l : Linking) (n : ℕ) (s : Spaces) (sort : Sort) (t : AliasTarget) (new : Linking) → IsLinkingSound R l → AreSpacesSound R l.cores l.canons s → alias_makes l n s sort t new → IsReached R l new
  alias_reached l n s sort (target.InstanceExport instance name) new h k (d, is, of_sort, made) =
      defined_reached l n s d new h k made
      (holds_at (IsSound R l.cores l.canons) (option_and_then (export_named name) (slice_get s.instances instance)) d
      (if_found (export_named name) (AreSound R l.cores l.canons) (IsSound R l.cores l.canons) (named_sound R l.cores l.canons name) (slice_get s.instances instance) (all_at (AreSound R l.cores l.canons) s.instances instance k.defined.instances_sound)) is)
  alias_reached l n s sort (target.CoreInstanceExport instance name) new h k (item, is, of_sort, made) =
      made_reached l n (with_core_item s item) new made h
      (sound_core_item R l.cores l.canons s item k
      (holds_at (IsItem l.cores l.canons) (option_and_then (core_named name) (slice_get s.core_instances instance)) item
      (if_found (core_named name) (AreThere l.cores l.canons) (IsItem l.cores l.canons) (core_named_there l.cores l.canons name) (slice_get s.core_instances instance) (all_at (AreThere l.cores l.canons) s.core_instances instance k.core.instances_there)) is))
  alias_reached l n s sort (target.Outer up index) new h k (d, is, made) =
      defined_reached l n s d new h k made
      (holds_at (IsSound R l.cores l.canons) (outer_at l (n ∷ s.around) sort up index) d
      (if_found (outer_definition sort index) (AreSpacesSound R l.cores l.canons) (IsSound R l.cores l.canons) (λ (t : Spaces) j. outer_sound R l.cores l.canons t sort index j) (option_and_then (slice_get l.scopes) (slice_get (n ∷ s.around) up)) (scope_sound l (slice_get (n ∷ s.around) up) h)) is)

  -- Types and lifts.
  level_apart : (cores : List CoreMake) (canons : List CanonFunc) (s : Spaces) → AreSpacesSound R cores canons s → IsLevelApart (level_of s)
  level_apart cores canons s k = all_mapped Some IsKnownApart s.types k.defined.types_apart

  listed_apart : (o : Option Level) → IfSome o IsLevelApart → AreLevelsApart (listed_level o)
  listed_apart None h = tt
  listed_apart (Some level) h = (h, tt)

  levels_apart : (l : Linking) (numbers : List ℕ) → IsLinkingSound R l → AreLevelsApart (levels_at l numbers)
  levels_apart l numbers h =
      all_flat (λ n. listed_level (option_map level_of (slice_get l.scopes n))) IsLevelApart
      (λ n. listed_apart (option_map level_of (slice_get l.scopes n))
      (if_mapped level_of IsLevelApart (slice_get l.scopes n)
      (if_weaker (AreSpacesSound R l.cores l.canons) (λ s. IsLevelApart (level_of s)) (level_apart l.cores l.canons) (slice_get l.scopes n) (all_at (AreSpacesSound R l.cores l.canons) l.scopes n h.scopes)))) numbers

  -- what options give is there
  options_given : (cores : List CoreMake) (canons : List CanonFunc) (s : Spaces) (options : List CanonOption) → AreSpacesSound R cores canons s → IsGiven cores canons (given_by s options)
  options_given cores canons s options k = record {
    memory = if_each (slice_get s.core_memories) (IsMemoryItem cores canons) (λ index. all_at (IsMemoryItem cores canons) s.core_memories index k.core.memories_there) (first_index memory_index options);
    realloc = if_each (slice_get s.core_funcs) (IsItem cores canons) (λ index. all_at (IsItem cores canons) s.core_funcs index k.core.funcs_there) (first_index realloc_index options);
    post_return = if_each (slice_get s.core_funcs) (IsItem cores canons) (λ index. all_at (IsItem cores canons) s.core_funcs index k.core.funcs_there) (first_index post_return_index options);
    callback = if_each (slice_get s.core_funcs) (IsItem cores canons) (λ index. all_at (IsItem cores canons) s.core_funcs index k.core.funcs_there) (first_index callback_index options);
  }

  type_reached : (l : Linking) (n : ℕ) (s : Spaces) (type : DefType) (new : Linking) → IsLinkingSound R l → AreSpacesSound R l.cores l.canons s → type_makes l n s (type_meaning l n s type) new → IsReached R l new
  type_reached l n s type new h k (closed, means, made) =
      let types = noted_type l.end_types closed in
      let room = (type_meaning l n s type).has_room in
      ends_reached l types room new
      (defined_reached (with_ends l types room) n s (AType closed) new (ends_sound l types room h) k made
      (holds_at IsApart (type_meaning l n s type).means closed (meaning_apart type (levels_at l (n ∷ s.around)) (levels_apart l (n ∷ s.around) h)) means.0))

  -- Resources.
  with_resource_reached : (l : Linking) (n : ℕ) (s : Spaces) (destructor : Option FuncRef) (new : Linking) → IsLinkingSound R l → AreSpacesSound R l.cores l.canons s
      → IfSome destructor (λ f. core_type l.cores l.canons f ≡ Some destructor_type) → new ≡ with_resource l n s destructor → IsReached R l new
  with_resource_reached l n s destructor new h k there made =
      subst (IsReached R l) (sym made) (record {
        sound = record {
          scopes = all_set (AreSpacesSound R l.cores l.canons) l.scopes n (with_definition s of_number) h.scopes (sound_definition R l.cores l.canons s of_number k tt);
          imported = h.imported;
          made = resource_made l.cores l.canons l.resources (record { instance = n; destructor = destructor }) h.made there;
          called = h.called;
          modules_have = h.modules_have;
        };
        more = [];
        longer = sym (append-nil l.cores);
        others = [];
        wider = sym (append-nil l.canons);
      })
    where
      of_number : Definition
      of_number = AType (Resource (suc (length l.resources)))

  resource_reached : (l : Linking) (n : ℕ) (s : Spaces) (destructor : Option ℕ) (new : Linking) → IsLinkingSound R l → AreSpacesSound R l.cores l.canons s → resource_makes l n s destructor new → IsReached R l new
  resource_reached l n s None new h k made = with_resource_reached l n s None new h k tt made
  resource_reached l n s (Some f) new h k (item, core, is, of_item, of_type, made) =
      let there = holds_at (IsItem l.cores l.canons) (slice_get s.core_funcs f) item (all_at (IsItem l.cores l.canons) s.core_funcs f k.core.funcs_there) is in
      with_resource_reached l n s (Some core) new h k
      (holds_at (λ f. core_type l.cores l.canons f ≡ Some destructor_type) (core_func_of item) core (item_type l.cores l.canons item destructor_type there of_type) of_item) made

  defined_type_reached : (l : Linking) (n : ℕ) (s : Spaces) (type : DefType) (destructor : Option (Option ℕ)) (new : Linking) → IsLinkingSound R l → AreSpacesSound R l.cores l.canons s
      → defined_makes l n s destructor (type_meaning l n s type) new → IsReached R l new
  defined_type_reached l n s type (Some destructor) new h k makes = resource_reached l n s destructor new h k makes
  defined_type_reached l n s type None new h k makes = type_reached l n s type new h k makes

  lift_reached : (l : Linking) (n : ℕ) (s : Spaces) (f : ℕ) (options : List CanonOption) (t : ℕ) (new : Linking) → IsLinkingSound R l → AreSpacesSound R l.cores l.canons s → lift_makes l n s f options t new → IsReached R l new
  lift_reached l n s f options t new h k (item, core, type, is, of_item, there, of_type, once, fits, made) =
      defined_reached l n s (AFunc (lifted_with n type core (given_by s options))) new h k made (record {
        there =
            lift_there l.cores l.canons n type item core (given_by s options) of_item (holds_at (IsItem l.cores l.canons) (slice_get s.core_funcs f) item (all_at (IsItem l.cores l.canons) s.core_funcs f k.core.funcs_there) is)
            (options_given l.cores l.canons s options k) fits;
        apart = holds_at IsFuncApart (option_and_then func_of (slice_get s.types t)) type (if_found func_of IsApart IsFuncApart of_func_apart (slice_get s.types t) (all_at IsApart s.types t k.defined.types_apart)) of_type;
      })

  -- Core functions of the Canonical ABI.
  canon_reached : (l : Linking) (n : ℕ) (s : Spaces) (canon : CanonFunc) (new : Linking) → IsLinkingSound R l → AreSpacesSound R l.cores l.canons s → HasApartType canon → IsCanonThere l.cores l.canons l.resources canon → new ≡ with_canon l n s canon → IsReached R l new
  canon_reached l n s canon new h k apart there made =
      subst (IsReached R l) (sym made) (record {
        sound = record {
          scopes = all_set (AreSpacesSound R l.cores longer) l.scopes n (with_core_item s item)
              (all_weaker (AreSpacesSound R l.cores l.canons) (AreSpacesSound R l.cores longer) (more_canons R l.cores l.canons (canon ∷ [])) l.scopes h.scopes)
              (sound_core_item R l.cores longer s item (more_canons R l.cores l.canons (canon ∷ []) s k) item_is);
          imported = kept_imported l.canons (canon ∷ []) [] l.cores h.imported;
          made = canon_made l.cores l.canons l.resources canon h.made there;
          called = all_push HasApartType l.canons canon h.called apart;
          modules_have = h.modules_have;
        };
        more = [];
        longer = sym (append-nil l.cores);
        others = canon ∷ [];
        wider = refl;
      })
    where
      longer : List CanonFunc
      longer = l.canons ++ canon ∷ []

      item : CoreItem
      item = Func (func_ref.Canon (length l.canons)) (canon_type canon)

      item_is : IsItem l.cores longer item
      item_is = ap (λ o. option_map canon_type o) (last_there l.canons canon)

  lower_reached : (l : Linking) (n : ℕ) (s : Spaces) (f : ℕ) (options : List CanonOption) (new : Linking) → IsLinkingSound R l → AreSpacesSound R l.cores l.canons s → lower_makes l n s f options new → IsReached R l new
  lower_reached l n s f options new h k (func, is, there, once, fits, made) =
      let func_sound : IsFuncSound l.cores l.canons func = holds_at (IsFuncSound l.cores l.canons) (slice_get s.funcs f) func (all_at (IsFuncSound l.cores l.canons) s.funcs f k.defined.funcs_sound) is in
      canon_reached l n s (lowered_with n func (given_by s options)) new h k func_sound.apart
      (lower_there l.cores l.canons l.resources n func (given_by s options) func_sound.there (options_given l.cores l.canons s options k) fits) made

  builtin_reached : (l : Linking) (n : ℕ) (s : Spaces) (b : CanonBuiltin) (new : Linking) → IsLinkingSound R l → AreSpacesSound R l.cores l.canons s → builtin_makes l n s (builtin_meaning l n s b) new → IsReached R l new
  builtin_reached l n s b new h k (kind, there, is, serves, made) =
      canon_reached l n s (canon_func.Builtin (record { instance = n; kind = kind })) new h k
      (holds_at (λ (kind : BuiltinKind). held_borrow (passed_value kind) ≡ false) (builtin_meaning l n s b).means kind (builtin_lends l n s b k.defined.types_apart) is)
      (builtin_there l.cores l.canons l n s b kind k.core.memories_there (λ options. options_given l.cores l.canons s options k) is serves) made

  -- Imports and exports.
  given_apart : (cores : List CoreMake) (canons : List CanonFunc) (s : Spaces) (given : Option Definition) (asked : ExternDesc) → AreSpacesSound R cores canons s → IfSome (meant_of s given asked).means IsExternApart
  given_apart cores canons s given asked k = meant_apart (map Some s.types) (type_given given) asked (level_apart cores canons s k)

  imported_sound : (cores : List CoreMake) (canons : List CanonFunc) (arguments : Option Exports) (name : List ℕ) (extern : Extern) (d : Definition) → IfSome arguments (AreSound R cores canons) → IsExternApart extern → IsImported arguments name extern d → IsSound R cores canons d
  imported_sound cores canons (Some given) name extern d h k (x, is, fits, e) =
      subst (IsSound R cores canons) (sym e) (seen_sound R cores canons x (asked_of x extern) (holds_at (IsSound R cores canons) (export_named name given) x (named_sound R cores canons name given h) is) (asked_apart x extern k))
  imported_sound cores canons None name (OfInstance externs) d h k (types, e) = subst (IsSound R cores canons) (sym e) (types_sound R cores canons externs k)
  imported_sound cores canons None name (OfFunc type) d h k i = absurd i
  imported_sound cores canons None name (OfType type) d h k i = absurd i

  import_reached : (l : Linking) (n : ℕ) (s : Spaces) (name : List ℕ) (asked : ExternDesc) (new : Linking) → IsLinkingSound R l → AreSpacesSound R l.cores l.canons s → import_makes l n s name asked new → IsReached R l new
  import_reached l n s name asked new h k (extern, d, means, fresh, imported, made) =
      defined_reached l n (record s { imports = s.imports ++ name ∷ [] }) d new h (sound_imports R l.cores l.canons s (s.imports ++ name ∷ []) k) made
      (imported_sound l.cores l.canons s.arguments name extern d k.arguments_sound (holds_at IsExternApart (wanted s name asked).means extern (given_apart l.cores l.canons s (given_for s name) asked k) means) imported)

  exported_sound : (cores : List CoreMake) (canons : List CanonFunc) (s : Spaces) (given : Option Definition) (asked : Option ExternDesc) (d x : Definition) → AreSpacesSound R cores canons s → IsSound R cores canons d → IsExported (option_map (meant_of s given) asked) d x → IsSound R cores canons x
  exported_sound cores canons s given None d x k h e = subst (IsSound R cores canons) (sym e) h
  exported_sound cores canons s given (Some asked) d x k h (extern, means, fits, e) =
      subst (IsSound R cores canons) (sym e) (seen_sound R cores canons d (asked_of d extern) h (asked_apart d extern (holds_at IsExternApart (meant_of s given asked).means extern (given_apart cores canons s given asked k) means)))

  export_reached : (l : Linking) (n : ℕ) (s : Spaces) (e : read.Export) (new : Linking) → IsLinkingSound R l → AreSpacesSound R l.cores l.canons s → export_makes l n s e new → IsReached R l new
  export_reached l n s e new h k (d, x, is, fresh, exported, made) =
      let sound = exported_sound l.cores l.canons s (definition_at s e.sort e.index) e.desc d x k (holds_at (IsSound R l.cores l.canons) (definition_at s e.sort e.index) d (definition_sound R l.cores l.canons s e.sort e.index k) is) exported in
      defined_reached l n (record s { exports = WithExport s.exports e.name x }) x new h (sound_exports R l.cores l.canons s (WithExport s.exports e.name x) k (k.exports_sound, sound, fresh)) made sound

  -- Items.
  pub case_reached : (l : Linking) (n : ℕ) (s : Spaces) (shape : Item-F Item Component) (new : Linking) → ShapeHas R shape → IsLinkingSound R l → AreSpacesSound R l.cores l.canons s → makes_case l n s shape new → IsReached R l new
  case_reached l n s (Item-F.CoreModule m) new has h k made = defined_reached l n s (AModule m) new h k made has
  case_reached l n s (Item-F.CoreInstance c) new has h k makes = core_instance_reached l n s c new h k makes
  case_reached l n s (Item-F.Component c) new has h k made = defined_reached l n s (AComponent (record { items = c.items; around = n ∷ s.around })) new h k made has
  case_reached l n s (Item-F.Instance i) new has h k makes = instance_reached l n s i new h k makes
  case_reached l n s (Item-F.Alias alias) new has h k makes = alias_reached l n s alias.sort alias.target new h k makes
  case_reached l n s (Item-F.Type type) new has h k makes = defined_type_reached l n s type (resource_written (out-DefType type)) new h k makes
  case_reached l n s (Item-F.Canon (Lift f options t)) new has h k makes = lift_reached l n s f options t new h k makes
  case_reached l n s (Item-F.Canon (Lower f options)) new has h k makes = lower_reached l n s f options new h k makes
  case_reached l n s (Item-F.Canon (Builtin b)) new has h k makes = builtin_reached l n s b new h k makes
  case_reached l n s (Item-F.Import i) new has h k makes = import_reached l n s i.name i.desc new h k makes
  case_reached l n s (Item-F.Export e) new has h k makes = export_reached l n s e new h k makes

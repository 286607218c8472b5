-- What is known of each function, type, component and core function that items make is known of all that a component is linked to, where
-- it is known of what types, lifts, lowers and built-ins make.
use Rattle.std.proofs.Common.{◌≡◌, ℕ, Bool, suc, List, [], ◌∷◌, ◌++◌, length, refl, sym, subst, Option, Some, None}
use Rattle.std.specs.List.{slice_get, AllByRecursion}
use Rattle.std.specs.Option.{option_and_then, IfSome}
use Rattle.ca_base.specs.declared.placed.Placed.{Placed}
use Rattle.syntax_trees.specs.declared.types.ValType.{ValType}
use Rattle.syntax_trees.specs.declared.types.FuncType.{FuncType}
use Rattle.comp_tree.specs.declared.core_instances.CoreInstance.{CoreInstance}
use Rattle.comp_tree.specs.declared.core_instances.CoreInstance.TheVariants as made_core
use Rattle.comp_tree.specs.declared.instances.Instance as made_of
use Rattle.comp_tree.specs.declared.instances.Instance.TheVariants as made
use Rattle.comp_tree.specs.declared.instances.Sort.{Sort}
use Rattle.comp_tree.specs.declared.instances.AliasTarget.{AliasTarget}
use Rattle.comp_tree.specs.declared.instances.AliasTarget.TheVariants as target
use Rattle.comp_tree.specs.declared.externs.ExternDesc.{ExternDesc}
use Rattle.comp_tree.specs.declared.externs.Export as read
use Rattle.comp_tree.specs.declared.types.DefType.{DefType, out-DefType}
use Rattle.comp_tree.specs.declared.builtins.CanonBuiltin.{CanonBuiltin}
use Rattle.comp_tree.specs.declared.items.CanonOption.{CanonOption}
use Rattle.comp_tree.specs.declared.items.Canon.TheVariants.{Lift, Lower, Builtin}
use Rattle.comp_tree.specs.declared.items.Item.{Item, out-Item}
use Rattle.comp_tree.specs.declared.items.Item.TheOpen.{Item-F}
use Rattle.comp_tree.specs.declared.items.Component.{Component}
use Rattle.comp_graph.specs.declared.graph.FuncRef.{FuncRef}
use Rattle.comp_graph.specs.declared.graph.FuncRef.TheVariants as func_ref
use Rattle.comp_graph.specs.declared.graph.BuiltinKind.{BuiltinKind}
use Rattle.comp_graph.specs.declared.graph.CanonFunc.{CanonFunc}
use Rattle.comp_graph.specs.declared.graph.CanonFunc.TheVariants as canon_func
use Rattle.comp_graph.specs.Closed.{Closed, Resource, Extern, OfFunc, OfType, OfInstance, Externs, func_of}
use Rattle.comp_graph.specs.Graph.{canon_type}
use Rattle.link_spec.specs.Definitions.{Func, exports_of, Lifted, Closure, Definition, AFunc, AType, AComponent, AnInstance, AModule, Exports, EmptyInstance, WithExport, export_named, types_of}
use Rattle.link_spec.specs.Spaces.{Spaces, Linking, new_spaces, levels_at, definition_at, with_core_item, with_core_instance, with_definition, with_spaces, with_ends, outer_definition, outer_at}
use Rattle.link_spec.specs.Ends.{noted_type}
use Rattle.link_spec.specs.Canons.{given_by}
use Rattle.link_spec.specs.Builtins.{builtin_meaning}
use Rattle.link_spec.specs.Brought.{asked_of}
use Rattle.link_spec.specs.Resources.{resource_written, with_resource, resource_makes}
use Rattle.link_spec.specs.Types.{Meaning, meaning_of}
use Rattle.link_spec.specs.Items.{core_instance_makes, instance_makes, alias_makes, StandsFor, lifted_with, lift_makes, with_canon, lowered_with, lower_makes, builtin_makes, wanted, IsImported, import_makes, said, IsExported, export_makes, type_meaning, defined_makes, makes_case}
use Rattle.link_spec.specs.Linked.{Begins, begun, exports_or, exports_at, with_instance, Links, leads_by_making, leads_by_instance, no_items, item_links, root_begun, Callable, funcs_behind, callables}
use Rattle.link_spec.proofs.Holding.{all_push, all_set, all_both, all_at, holds_at, if_found}
use Rattle.graph_laws.proofs.SpacesHold.{Known, IsDefined, AreDefined, IsClosure, AreSpaces, IsLinking, with_item, with_instance_of, with_defined, with_imports, with_exports, new_held, definition_held, outer_held, are_named, export_held, seen_held}

-- What is known of items by their shapes, where it is known of all items of a component; and that with it what they make is so.
pub record AreSteps (K : Known) (S : Item-F Item Component → Type 0) : Type 0 where
  pub first : (placed : Placed Item) (items : List (Placed Item)) (shape : Item-F Item Component) → K.items (placed ∷ items) → out-Item placed.item ≡ shape → S shape
  pub others : (placed : Placed Item) (items : List (Placed Item)) → K.items (placed ∷ items) → K.items items
  pub components : (c : Component) → S (Item-F.Component c) → K.items c.items
  pub types : (l : Linking) (n : ℕ) (s : Spaces) (type : DefType) (closed : Closed) → S (Item-F.Type type) → IsLinking K l → StandsFor (meaning_of type (levels_at l (n ∷ s.around))) closed → K.type closed
  pub resources : (l : Linking) (n : ℕ) (type : DefType) (index : Option ℕ) (core : Option FuncRef)
      → S (Item-F.Type type) → resource_written (out-DefType type) ≡ Some index → K.type (Resource (suc (length l.resources))) × K.resource (record { instance = n; destructor = core })
  pub asked : (s : Spaces) (name : List ℕ) (desc : ExternDesc) (externs : Externs) → AreSpaces K s → (wanted s name desc).means ≡ Some (OfInstance externs) → AreDefined K (types_of externs)
  pub lifts : (n : ℕ) (s : Spaces) (f : ℕ) (options : List CanonOption) (t : ℕ) (type : FuncType) (core : FuncRef)
      → S (Item-F.Canon (Lift f options t)) → AreSpaces K s → option_and_then func_of (slice_get s.types t) ≡ Some type → K.func (lifted_with n type core (given_by s options))
  pub lowers : (n : ℕ) (s : Spaces) (f : ℕ) (options : List CanonOption) (func : Lifted) → S (Item-F.Canon (Lower f options)) → K.func func → K.canon (lowered_with n func (given_by s options))
  pub builtins : (n : ℕ) (b : CanonBuiltin) (kind : BuiltinKind) → S (Item-F.Canon (Builtin b)) → K.canon (canon_func.Builtin (record { instance = n; kind = kind }))

module _ (K : Known) where
  spaces_made : (l : Linking) (n : ℕ) (s : Spaces) (new : Linking) → new ≡ with_spaces l n s → IsLinking K l → AreSpaces K s → IsLinking K new
  spaces_made l n s new e h k = subst (IsLinking K) (sym e) (record { scopes = all_set (AreSpaces K) l.scopes n s h.scopes k; canons = h.canons; resources = h.resources })

  ends_held : (l : Linking) (types : List ValType) (room : Bool) → IsLinking K l → IsLinking K (with_ends l types room)
  ends_held l types room h = record { scopes = h.scopes; canons = h.canons; resources = h.resources }

  defined : (l : Linking) (n : ℕ) (s : Spaces) (d : Definition) (new : Linking) → IsLinking K l → AreSpaces K s → new ≡ with_spaces l n (with_definition s d) → IsDefined K d → IsLinking K new
  defined l n s d new h k made is = spaces_made l n (with_definition s d) new made h (with_defined K s d k is)

  -- Core instances, instances and aliases.
  core_instance_held : (l : Linking) (n : ℕ) (s : Spaces) (c : CoreInstance) (new : Linking) → IsLinking K l → AreSpaces K s → core_instance_makes l n s c new → IsLinking K new
  core_instance_held l n s (made_core.Instantiate index arguments) new h k (m, imports, is, there, found, distinct, few, made) =
      subst (IsLinking K) (sym made)
      (record { scopes = all_set (AreSpaces K) l.scopes n (with_core_instance s (exports_of m (length l.cores))) h.scopes (with_instance_of K s (exports_of m (length l.cores)) k); canons = h.canons; resources = h.resources })
  core_instance_held l n s (made_core.Inline read) new h k (exports, are, distinct, made) = spaces_made l n (with_core_instance s exports) new made h (with_instance_of K s exports k)

  instance_held : (l : Linking) (n : ℕ) (s : Spaces) (i : made_of.Instance) (new : Linking) → IsLinking K l → AreSpaces K s → instance_makes l n s i new → IsLinking K new
  instance_held l n s (made.Instantiate component arguments) new h k makes = absurd makes
  instance_held l n s (made.Inline read) new h k (exports, are, distinct, made) = defined l n s (AnInstance exports) new h k made (are_named K s EmptyInstance read exports k tt are)

  scope_held : (l : Linking) (o : Option ℕ) → IsLinking K l → IfSome (option_and_then (slice_get l.scopes) o) (AreSpaces K)
  scope_held l None h = tt
  scope_held l (Some n) h = all_at (AreSpaces K) l.scopes n h.scopes

  alias_held : (l : Linking) (n : ℕ) (s : Spaces) (sort : Sort) (t : AliasTarget) (new : Linking) → IsLinking K l → AreSpaces K s → alias_makes l n s sort t new → IsLinking K new
  alias_held l n s sort (target.InstanceExport instance name) new h k (d, is, of_sort, made) =
      defined l n s d new h k made
      (holds_at (IsDefined K) (option_and_then (export_named name) (slice_get s.instances instance)) d
      (if_found (export_named name) (AreDefined K) (IsDefined K) (export_held K name) (slice_get s.instances instance) (all_at (AreDefined K) s.instances instance k.instances)) is)
  alias_held l n s sort (target.CoreInstanceExport instance name) new h k (item, is, of_sort, made) = spaces_made l n (with_core_item s item) new made h (with_item K s item k)
  alias_held l n s sort (target.Outer up index) new h k (d, is, made) =
      defined l n s d new h k made
      (holds_at (IsDefined K) (outer_at l (n ∷ s.around) sort up index) d
      (if_found (outer_definition sort index) (AreSpaces K) (IsDefined K) (λ (t : Spaces) j. outer_held K t sort index j) (option_and_then (slice_get l.scopes) (slice_get (n ∷ s.around) up)) (scope_held l (slice_get (n ∷ s.around) up) h)) is)

  -- One core function more, which the Canonical ABI makes.
  canon_held : (l : Linking) (n : ℕ) (s : Spaces) (f : CanonFunc) (new : Linking) → IsLinking K l → AreSpaces K s → K.canon f → new ≡ with_canon l n s f → IsLinking K new
  canon_held l n s f new h k known made =
      subst (IsLinking K) (sym made) (record {
        scopes = all_set (AreSpaces K) l.scopes n (with_core_item s (Func (func_ref.Canon (length l.canons)) (canon_type f))) h.scopes (with_item K s (Func (func_ref.Canon (length l.canons)) (canon_type f)) k);
        canons = all_push K.canon l.canons f h.canons known;
        resources = h.resources;
      })

  -- One type of resources more, which an item defines.
  resource_held : (l : Linking) (n : ℕ) (s : Spaces) (core : Option FuncRef) (new : Linking) → IsLinking K l → AreSpaces K s
      → K.type (Resource (suc (length l.resources))) × K.resource (record { instance = n; destructor = core }) → new ≡ with_resource l n s core → IsLinking K new
  resource_held l n s core new h k known made =
      let type : Closed = Resource (suc (length l.resources)) in
      subst (IsLinking K) (sym made) (record {
        scopes = all_set (AreSpaces K) l.scopes n (with_definition s (AType type)) h.scopes (with_defined K s (AType type) k known.0);
        canons = h.canons;
        resources = all_push K.resource l.resources (record { instance = n; destructor = core }) h.resources known.1;
      })

  destructor_held : (l : Linking) (n : ℕ) (s : Spaces) (index : Option ℕ) (new : Linking) → IsLinking K l → AreSpaces K s
      → ((core : Option FuncRef) → K.type (Resource (suc (length l.resources))) × K.resource (record { instance = n; destructor = core })) → resource_makes l n s index new → IsLinking K new
  destructor_held l n s None new h k known made = resource_held l n s None new h k (known None) made
  destructor_held l n s (Some f) new h k known (item, core, is, of_item, fits, made) = resource_held l n s (Some core) new h k (known (Some core)) made

  -- Exports.
  exported_held : (meaning : Option (Meaning Extern)) (d x : Definition) → IsDefined K d → IsExported meaning d x → IsDefined K x
  exported_held None d x h e = subst (IsDefined K) (sym e) h
  exported_held (Some meaning) d x h (extern, means, fits, e) = subst (IsDefined K) (sym e) (seen_held K d (asked_of d extern) h)

  export_made : (l : Linking) (n : ℕ) (s : Spaces) (e : read.Export) (new : Linking) → IsLinking K l → AreSpaces K s → export_makes l n s e new → IsLinking K new
  export_made l n s e new h k (d, x, is, fresh, exported, made) =
      let known = exported_held (said s e) d x (holds_at (IsDefined K) (definition_at s e.sort e.index) d (definition_held K s e.sort e.index k) is) exported in
      defined l n (record s { exports = WithExport s.exports e.name x }) x new h (with_exports K s (WithExport s.exports e.name x) k (k.exported, known)) made known

  -- An instance of a component begins, and ends.
  closure_held : (l : Linking) (n : ℕ) (s : Spaces) (item : Item) (c : Closure) (arguments : Exports) → AreSpaces K s → Begins l n s item c arguments → K.items c.items
  closure_held l n s item c arguments k b = holds_at (IsClosure K) (slice_get s.components b.index) c (all_at (IsClosure K) s.components b.index k.components) b.component

  begun_held : (l : Linking) (n : ℕ) (s : Spaces) (item : Item) (c : Closure) (arguments : Exports) → IsLinking K l → AreSpaces K s → Begins l n s item c arguments → IsLinking K (begun l c arguments)
  begun_held l n s item c arguments h k b =
      record { scopes = all_push (AreSpaces K) l.scopes (new_spaces (Some arguments) c.around) h.scopes (new_held K (Some arguments) c.around (are_named K s EmptyInstance b.named arguments k tt b.given)); canons = h.canons; resources = h.resources }

  exports_or_held : (o : Option Spaces) → IfSome o (AreSpaces K) → AreDefined K (exports_or o)
  exports_or_held None h = tt
  exports_or_held (Some s) h = h.exported

  exports_held : (l : Linking) (n : ℕ) → IsLinking K l → AreDefined K (exports_at l n)
  exports_held l n h = exports_or_held (slice_get l.scopes n) (all_at (AreSpaces K) l.scopes n h.scopes)

  spaces_held : (l : Linking) (n : ℕ) (s : Spaces) → IsLinking K l → slice_get l.scopes n ≡ Some s → AreSpaces K s
  spaces_held l n s h e = holds_at (AreSpaces K) (slice_get l.scopes n) s (all_at (AreSpaces K) l.scopes n h.scopes) e

  -- The functions that can be called.
  funcs_behind_held : (front : List ℕ) (exports : Exports) → AreDefined K exports → AllByRecursion (λ (c : Callable). K.func c.func) (funcs_behind front exports)
  funcs_behind_held front EmptyInstance h = tt
  funcs_behind_held front (WithExport others name (AFunc f)) h =
      all_push (λ (c : Callable). K.func c.func) (funcs_behind front others) (record { name = front ++ name; func = f }) (funcs_behind_held front others h.0) h.1
  funcs_behind_held front (WithExport others name d) h = all_both (λ (c : Callable). K.func c.func) (funcs_behind front others) [] (funcs_behind_held front others h.0) tt

  callables_held : (exports : Exports) → AreDefined K exports → AllByRecursion (λ (c : Callable). K.func c.func) (callables exports)
  callables_held EmptyInstance h = tt
  callables_held (WithExport others name (AFunc f)) h =
      all_push (λ (c : Callable). K.func c.func) (callables others) (record { name = name; func = f }) (callables_held others h.0) h.1
  callables_held (WithExport others name (AnInstance inner)) h =
      all_both (λ (c : Callable). K.func c.func) (callables others) _ (callables_held others h.0) (funcs_behind_held _ inner h.1)
  callables_held (WithExport others name d) h = all_both (λ (c : Callable). K.func c.func) (callables others) [] (callables_held others h.0) tt

  pub called_held : (l : Linking) → IsLinking K l → AllByRecursion (λ (c : Callable). K.func c.func) (callables (exports_at l 0))
  called_held l h = callables_held (exports_at l 0) (exports_held l 0 h)

module _ (K : Known) (S : Item-F Item Component → Type 0) (are : AreSteps K S) where
  -- Lifts, lowers and built-ins.
  lift_held : (l : Linking) (n : ℕ) (s : Spaces) (f : ℕ) (options : List CanonOption) (t : ℕ) (new : Linking) → S (Item-F.Canon (Lift f options t)) → IsLinking K l → AreSpaces K s → lift_makes l n s f options t new → IsLinking K new
  lift_held l n s f options t new has h k (item, core, type, is, of_item, there, of_type, once, fits, made) =
      defined K l n s (AFunc (lifted_with n type core (given_by s options))) new h k made (are.lifts n s f options t type core has k of_type)

  lower_held : (l : Linking) (n : ℕ) (s : Spaces) (f : ℕ) (options : List CanonOption) (new : Linking) → S (Item-F.Canon (Lower f options)) → IsLinking K l → AreSpaces K s → lower_makes l n s f options new → IsLinking K new
  lower_held l n s f options new has h k (func, is, there, once, fits, made) =
      canon_held K l n s (lowered_with n func (given_by s options)) new h k (are.lowers n s f options func has (holds_at K.func (slice_get s.funcs f) func (all_at K.func s.funcs f k.funcs) is)) made

  builtin_held : (l : Linking) (n : ℕ) (s : Spaces) (b : CanonBuiltin) (new : Linking) → S (Item-F.Canon (Builtin b)) → IsLinking K l → AreSpaces K s → builtin_makes l n s (builtin_meaning l n s b) new → IsLinking K new
  builtin_held l n s b new has h k (kind, there, is, serves, made) = canon_held K l n s (canon_func.Builtin (record { instance = n; kind = kind })) new h k (are.builtins n b kind has) made

  -- Types.
  type_held : (l : Linking) (n : ℕ) (s : Spaces) (type : DefType) (written : Option (Option ℕ)) (new : Linking) → resource_written (out-DefType type) ≡ written
      → S (Item-F.Type type) → IsLinking K l → AreSpaces K s → defined_makes l n s written (type_meaning l n s type) new → IsLinking K new
  type_held l n s type (Some index) new is has h k makes = destructor_held K l n s index new h k (λ core. are.resources l n type index core has is) makes
  type_held l n s type None new is has h k (closed, means, made) =
      let types = noted_type l.end_types closed in
      defined K (with_ends l types (type_meaning l n s type).has_room) n s (AType closed) new (ends_held K l types (type_meaning l n s type).has_room h) k made (are.types l n s type closed has h means)

  -- Imports.
  imported_held : (s : Spaces) (name : List ℕ) (asked : ExternDesc) (extern : Extern) (arguments : Option Exports) (d : Definition)
      → AreSpaces K s → IfSome arguments (AreDefined K) → (wanted s name asked).means ≡ Some extern → IsImported arguments name extern d → IsDefined K d
  imported_held s name asked extern (Some given) d k h means (x, is, fits, e) = subst (IsDefined K) (sym e) (seen_held K x (asked_of x extern) (holds_at (IsDefined K) (export_named name given) x (export_held K name given h) is))
  imported_held s name asked (OfInstance externs) None d k h means (types, e) = subst (IsDefined K) (sym e) (are.asked s name asked externs k means)
  imported_held s name asked (OfFunc type) None d k h means i = absurd i
  imported_held s name asked (OfType type) None d k h means i = absurd i

  import_held : (l : Linking) (n : ℕ) (s : Spaces) (name : List ℕ) (asked : ExternDesc) (new : Linking) → IsLinking K l → AreSpaces K s → import_makes l n s name asked new → IsLinking K new
  import_held l n s name asked new h k (extern, d, means, fresh, imported, made) =
      defined K l n (record s { imports = s.imports ++ name ∷ [] }) d new h (with_imports K s (s.imports ++ name ∷ []) k) made
      (imported_held s name asked extern s.arguments d k k.passed means imported)

  -- Items.
  case_held : (l : Linking) (n : ℕ) (s : Spaces) (shape : Item-F Item Component) (new : Linking) → S shape → IsLinking K l → AreSpaces K s → makes_case l n s shape new → IsLinking K new
  case_held l n s (Item-F.CoreModule m) new has h k made = defined K l n s (AModule m) new h k made tt
  case_held l n s (Item-F.CoreInstance c) new has h k makes = core_instance_held K l n s c new h k makes
  case_held l n s (Item-F.Component c) new has h k made = defined K l n s (AComponent (record { items = c.items; around = n ∷ s.around })) new h k made (are.components c has)
  case_held l n s (Item-F.Instance i) new has h k makes = instance_held K l n s i new h k makes
  case_held l n s (Item-F.Alias alias) new has h k makes = alias_held K l n s alias.sort alias.target new h k makes
  case_held l n s (Item-F.Type type) new has h k makes = type_held l n s type (resource_written (out-DefType type)) new refl has h k makes
  case_held l n s (Item-F.Canon (Lift f options t)) new has h k makes = lift_held l n s f options t new has h k makes
  case_held l n s (Item-F.Canon (Lower f options)) new has h k makes = lower_held l n s f options new has h k makes
  case_held l n s (Item-F.Canon (Builtin b)) new has h k makes = builtin_held l n s b new has h k makes
  case_held l n s (Item-F.Import i) new has h k makes = import_held l n s i.name i.desc new h k makes
  case_held l n s (Item-F.Export e) new has h k makes = export_made K l n s e new h k makes

  links_held : (l : Linking) (n : ℕ) (items : List (Placed Item)) (last : Linking) → K.items items → IsLinking K l → Links l n items last → IsLinking K last
  links_held l n items last has h (no_items m k) = h
  links_held l n items last has h (item_links m next end k s placed others there (leads_by_making o onto j t p made) behind) =
      links_held next k others end (are.others placed others has)
      (case_held m k s (out-Item placed.item) next (are.first placed others (out-Item placed.item) has refl) h (spaces_held K m k s h there) made) behind
  links_held l n items last has h (item_links m next end k s placed others there (leads_by_instance o inner j t c arguments p begins inside) behind) =
      let spaces = spaces_held K m k s h there in
      let reached = links_held (begun m c arguments) (length m.scopes) c.items inner (closure_held K m k s placed.item c arguments spaces begins) (begun_held K m k s placed.item c arguments h spaces begins) inside in
      links_held (with_instance inner k s (length m.scopes)) k others end (are.others placed others has)
      (record {
        scopes =
            all_set (AreSpaces K) inner.scopes k (with_definition s (AnInstance (exports_at inner (length m.scopes)))) reached.scopes
            (with_defined K s (AnInstance (exports_at inner (length m.scopes))) spaces (exports_held K inner (length m.scopes) reached));
        canons = reached.canons;
        resources = reached.resources;
      }) behind

  -- all that a component is linked to
  pub linked_held : (c : Component) (l : Linking) → K.items c.items → Links root_begun 0 c.items l → IsLinking K l
  linked_held c l has links = links_held root_begun 0 c.items l has (record { scopes = (new_held K None [] tt, tt); canons = tt; resources = tt }) links

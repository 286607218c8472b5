-- What an item of a component makes in the index spaces of its component instance, and what keeps an item from that, by its
-- reason (Component Model, Explainer.md, "Instance Definitions", "Alias Definitions", "Canonical Definitions", "Canonical Built-ins"
-- and "Import and Export Definitions"; CanonicalABI.md, `canon lift` and `canon lower`). At one item the reasons come in the order in which
-- `LinkWhy` has them. The instantiation of a component makes more than one item can say; its own reasons are here, and what its
-- component's items make stands in `Linked`.
use Rattle.std.specs.Prelude.{◌≡◌, ◌<◌, ◌≤◌, ◌⊎◌, ℕ, Bool, true, false, cond, List, [], ◌∷◌, ◌++◌, length, map, set, Option, Some, None}
use Rattle.std.specs.Option.{option_map, option_and_then, MatchOption}
use Rattle.std.specs.List.{slice_get, AllByRecursion, AllZip}
use Rattle.std.specs.Str.{bytes_eq}
use Rattle.syntax_trees.specs.Names.{AreDistinct, is_among}
use Rattle.syntax_trees.specs.declared.types.FuncType.{FuncType}
use Rattle.syntax_trees.specs.declared.module.Import.{Import}
use Rattle.syntax_trees.specs.declared.module.ModuleTree.{ModuleTree}
use Rattle.comp_tree.specs.declared.core_instances.CoreArgument.{CoreArgument}
use Rattle.comp_tree.specs.declared.core_instances.CoreInlineExport.{CoreInlineExport}
use Rattle.comp_tree.specs.declared.core_instances.CoreInstance.{CoreInstance}
use Rattle.comp_tree.specs.declared.core_instances.CoreInstance.TheVariants as made_core
use Rattle.comp_tree.specs.declared.instances.NamedDefinition.{NamedDefinition}
use Rattle.comp_tree.specs.declared.instances.Instance as made_of
use Rattle.comp_tree.specs.declared.instances.Instance.TheVariants as made
use Rattle.comp_tree.specs.declared.instances.Sort.{Sort}
use Rattle.comp_tree.specs.declared.instances.Sort.TheVariants as sorts
use Rattle.comp_tree.specs.declared.instances.AliasTarget.{AliasTarget}
use Rattle.comp_tree.specs.declared.instances.AliasTarget.TheVariants as target
use Rattle.comp_tree.specs.declared.types.DefType.{DefType, out-DefType}
use Rattle.comp_tree.specs.declared.externs.ExternDesc.{ExternDesc}
use Rattle.comp_tree.specs.declared.externs.ExternDesc.TheVariants as desc
use Rattle.comp_tree.specs.declared.externs.Export as read
use Rattle.comp_tree.specs.declared.items.CanonOption.{CanonOption}
use Rattle.comp_tree.specs.declared.items.Canon.TheVariants.{Lift, Lower, Builtin}
use Rattle.comp_tree.specs.declared.items.Item.{Item, out-Item}
use Rattle.comp_tree.specs.declared.items.Item.TheOpen.{Item-F}
use Rattle.comp_tree.specs.declared.items.Component.{Component}
use Rattle.link_spec.specs.declared.fault.LinkWhy.{LinkWhy}
use Rattle.link_spec.specs.declared.fault.LinkWhy.TheVariants as why
use Rattle.comp_graph.specs.CoreItems.{core_func_of}
use Rattle.comp_graph.specs.Graph.{canon_type}
use Rattle.comp_graph.specs.declared.graph.BuiltinKind.{BuiltinKind}
use Rattle.comp_graph.specs.declared.graph.FuncRef.{FuncRef}
use Rattle.comp_graph.specs.declared.graph.FuncRef.TheVariants as func_ref
use Rattle.comp_graph.specs.declared.graph.CanonFunc.{CanonFunc}
use Rattle.comp_graph.specs.declared.graph.CanonFunc.TheVariants as canon_func
use Rattle.comp_graph.specs.Closed.{Closed, first_of, Extern, OfInstance, func_of, AreTypes}
use Rattle.link_spec.specs.Definitions.{CoreItem, Func, extern_of, CoreExport, core_named, exports_of, CoreFits, Lifted, Definition, AFunc, AType, AComponent, AnInstance, AModule, Exports, EmptyInstance, WithExport, export_names, export_named, Fits, lacks, seen_as, types_of}
pub use Rattle.comp_graph.specs.Graph.{instance_limit}
use Rattle.link_spec.specs.Canons.{IsOptionThere, StandOnce, Given, given_by, options_of, CanBeLifted, CanBeLowered}
use Rattle.link_spec.specs.Builtins.{BuiltinMeaning, builtin_meaning}
use Rattle.link_spec.specs.Resources.{resource_written, resource_has, resource_makes}
use Rattle.link_spec.specs.Ends.{noted_type, noted_canon}
use Rattle.link_spec.specs.Brought.{asked_of}
use Rattle.link_spec.specs.Types.{Meaning, meaning_of, given_meaning}
use Rattle.link_spec.specs.Spaces.{Spaces, Make, Linking, core_size, size_of, core_item_at, definition_at, IsOfCoreSort, IsOfSort, with_core_item, with_core_instance, with_definition, with_spaces, with_ends, levels_at, outer_at}

-- an item for which something holds
abbrev pub AnyByRecursion : {A : Type 0} → (A → Type 0) → List A → Type 0
AnyByRecursion P [] = ⊥
AnyByRecursion P (x ∷ xs) = P x ⊎ AnyByRecursion P xs

-- the first name that one of some items tells
abbrev pub first_told : {A : Type 0} → (A → Option (List ℕ)) → List A → Option (List ℕ)
first_told f [] = None
first_told f (x ∷ xs) = first_of (f x) (first_told f xs)

-- Core instances.

-- the exports of the argument of a name, among these core instances: of equal names the first
abbrev pub argument_named : List (List CoreExport) → List ℕ → List CoreArgument → Option (List CoreExport)
argument_named instances q [] = None
argument_named instances q (a ∷ arguments) = cond (bytes_eq a.name q) (slice_get instances a.instance) (argument_named instances q arguments)

-- what an import of a core module finds: the export of its name of the argument that it imports from
abbrev pub import_found : Spaces → List CoreArgument → Import → Option CoreItem
import_found s arguments i = option_and_then (core_named i.name) (argument_named s.core_instances i.module arguments)

-- the name that an import does not find: that of the argument, or else that of the export
abbrev pub export_lacking : Import → Option CoreItem → Option (List ℕ)
export_lacking i None = Some i.name
export_lacking i (Some item) = None

abbrev pub argument_lacking : Import → Option (List CoreExport) → Option (List ℕ)
argument_lacking i None = Some i.module
argument_lacking i (Some exports) = export_lacking i (core_named i.name exports)

abbrev pub import_lacks : Spaces → List CoreArgument → Import → Option (List ℕ)
import_lacks s arguments i = argument_lacking i (argument_named s.core_instances i.module arguments)

-- an import of a module finds another item than it asks for
abbrev pub FindsOther : Spaces → ModuleTree → List CoreArgument → Import → Type 0
FindsOther s m arguments i = MatchOption (import_found s arguments i) ⊥ (λ item. CoreFits m item i.desc → ⊥)

-- The instance that an argument passes is there, also where no import is of it.
abbrev pub IsThere : Spaces → CoreArgument → Type 0
IsThere s a = a.instance < length s.core_instances

abbrev pub FindsItem : Spaces → ModuleTree → List CoreArgument → Import → CoreItem → Type 0
FindsItem s m arguments i item = (import_found s arguments i ≡ Some item) × CoreFits m item i.desc

-- Which reasons a core instance has. Of a core module: an index of it or of an argument that is not there; an import that
-- finds nothing; an argument twice, or an import that finds another item than it asks for; or that there are as many core
-- instances as there may be. Of inline exports: an index that is not there; a name twice, or a module or an instance.
abbrev pub core_instance_has : Linking → Spaces → CoreInstance → LinkWhy → Type 0
core_instance_has l s (made_core.Instantiate index arguments) why.Index =
    (slice_get s.core_modules index ≡ None) ⊎ AnyByRecursion (λ (a : CoreArgument). length s.core_instances ≤ a.instance) arguments
core_instance_has l s (made_core.Instantiate index arguments) (why.Missing name) =
    MatchOption (slice_get s.core_modules index) ⊥ (λ m. first_told (import_lacks s arguments) m.imports ≡ Some name)
core_instance_has l s (made_core.Instantiate index arguments) why.Typing =
    (AreDistinct (map (λ a. a.name) arguments) → ⊥)
    ⊎ MatchOption (slice_get s.core_modules index) ⊥ (λ m. AnyByRecursion (FindsOther s m arguments) m.imports)
core_instance_has l s (made_core.Instantiate index arguments) why.Limit = instance_limit ≤ length l.cores
core_instance_has l s (made_core.Inline exports) why.Index = AnyByRecursion (λ (e : CoreInlineExport). core_size s e.sort ≤ e.index) exports
core_instance_has l s (made_core.Inline exports) why.Typing =
    (AreDistinct (map (λ e. e.name) exports) → ⊥) ⊎ AnyByRecursion (λ (e : CoreInlineExport). core_item_at s e.sort e.index ≡ None) exports
core_instance_has l s c why = ⊥

-- an inline export, and what it stands for
abbrev pub IsInline : Spaces → CoreInlineExport → CoreExport → Type 0
IsInline s read e = (e.name ≡ read.name) × (core_item_at s read.sort read.index ≡ Some e.item)

-- one core instance more, of a module with these imports
abbrev pub core_made : Linking → ℕ → Spaces → ModuleTree → List CoreItem → Linking
core_made l n s m imports = record {
  scopes = set l.scopes n (with_core_instance s (exports_of m (length l.cores)));
  cores = l.cores ++ record { of_module = m; imports = map extern_of imports; owner = n } ∷ [];
  canons = l.canons;
  resources = l.resources;
  plan = l.plan ++ Make (length l.cores) ∷ [];
  end_types = l.end_types;
  has_room = l.has_room;
}

abbrev pub core_instance_makes : Linking → ℕ → Spaces → CoreInstance → Linking → Type 0
core_instance_makes l n s (made_core.Instantiate index arguments) new =
    (m : ModuleTree) × (imports : List CoreItem) × (slice_get s.core_modules index ≡ Some m)
    × AllByRecursion (IsThere s) arguments × AllZip (FindsItem s m arguments) m.imports imports
    × AreDistinct (map (λ (a : CoreArgument). a.name) arguments)
    × (length l.cores < instance_limit) × (new ≡ core_made l n s m imports)
core_instance_makes l n s (made_core.Inline read) new =
    (exports : List CoreExport) × AllZip (IsInline s) read exports × AreDistinct (map (λ (e : CoreInlineExport). e.name) read)
    × (new ≡ with_spaces l n (with_core_instance s exports))

-- Instances.

-- these definitions under their names, behind some exports
abbrev pub AreNamed : Spaces → Exports → List NamedDefinition → Exports → Type 0
AreNamed s before [] exports = exports ≡ before
AreNamed s before (d ∷ read) exports =
    (x : Definition) × (definition_at s d.sort d.index ≡ Some x) × AreNamed s (WithExport before d.name x) read exports

-- Definitions under names: an index that is not there; a name twice, or a core sort but that of modules.
abbrev pub named_have : Spaces → List NamedDefinition → LinkWhy → Type 0
named_have s read why.Index = AnyByRecursion (λ (d : NamedDefinition). size_of s d.sort ≤ d.index) read
named_have s read why.Typing = (AreDistinct (map (λ d. d.name) read) → ⊥) ⊎ AnyByRecursion (λ (d : NamedDefinition). definition_at s d.sort d.index ≡ None) read
named_have s read why = ⊥

-- The instantiation of a component has, before the reasons of what stands in it, those of its arguments, an index of the
-- component that is not there, and that there are as many component instances as there may be.
abbrev pub instance_has : Linking → Spaces → made_of.Instance → LinkWhy → Type 0
instance_has l s (made.Instantiate component arguments) why.Index = (slice_get s.components component ≡ None) ⊎ named_have s arguments why.Index
instance_has l s (made.Instantiate component arguments) why.Typing = named_have s arguments why.Typing
instance_has l s (made.Instantiate component arguments) why.Limit = instance_limit ≤ length l.scopes
instance_has l s (made.Instantiate component arguments) why = ⊥
instance_has l s (made.Inline read) why = named_have s read why

-- What an instance of inline exports makes. What the instantiation of a component makes is told where its items are linked.
abbrev pub instance_makes : Linking → ℕ → Spaces → made_of.Instance → Linking → Type 0
instance_makes l n s (made.Instantiate component arguments) new = ⊥
instance_makes l n s (made.Inline read) new =
    (exports : Exports) × AreNamed s EmptyInstance read exports × AreDistinct (map (λ (d : NamedDefinition). d.name) read)
    × (new ≡ with_spaces l n (with_definition s (AnInstance exports)))

-- Aliases.

-- a core item of a sort
abbrev pub IsCoreOf : CoreItem → Sort → Type 0
IsCoreOf item (sorts.Core core) = IsOfCoreSort item core
IsCoreOf item sort = ⊥

-- An index or a level that is not there, a name that is not exported, or an export of another sort.
abbrev pub alias_has : Linking → ℕ → Spaces → Sort → AliasTarget → LinkWhy → Type 0
alias_has l n s sort (target.InstanceExport instance name) why.Index = slice_get s.instances instance ≡ None
alias_has l n s sort (target.InstanceExport instance name) (why.Missing missing) =
    (missing ≡ name) × MatchOption (slice_get s.instances instance) ⊥ (λ exports. export_named name exports ≡ None)
alias_has l n s sort (target.InstanceExport instance name) why.Typing =
    MatchOption (option_and_then (export_named name) (slice_get s.instances instance)) ⊥ (λ d. IsOfSort d sort → ⊥)
alias_has l n s sort (target.CoreInstanceExport instance name) why.Index = slice_get s.core_instances instance ≡ None
alias_has l n s sort (target.CoreInstanceExport instance name) (why.Missing missing) =
    (missing ≡ name) × MatchOption (slice_get s.core_instances instance) ⊥ (λ exports. core_named name exports ≡ None)
alias_has l n s sort (target.CoreInstanceExport instance name) why.Typing =
    MatchOption (option_and_then (core_named name) (slice_get s.core_instances instance)) ⊥ (λ item. IsCoreOf item sort → ⊥)
alias_has l n s sort (target.Outer up index) why.Index = outer_at l (n ∷ s.around) sort up index ≡ None
alias_has l n s sort target why = ⊥

abbrev pub alias_makes : Linking → ℕ → Spaces → Sort → AliasTarget → Linking → Type 0
alias_makes l n s sort (target.InstanceExport instance name) new =
    (d : Definition) × (option_and_then (export_named name) (slice_get s.instances instance) ≡ Some d)
    × IsOfSort d sort × (new ≡ with_spaces l n (with_definition s d))
alias_makes l n s sort (target.CoreInstanceExport instance name) new =
    (item : CoreItem) × (option_and_then (core_named name) (slice_get s.core_instances instance) ≡ Some item)
    × IsCoreOf item sort × (new ≡ with_spaces l n (with_core_item s item))
alias_makes l n s sort (target.Outer up index) new =
    (d : Definition) × (outer_at l (n ∷ s.around) sort up index ≡ Some d) × (new ≡ with_spaces l n (with_definition s d))

-- Types: what keeps a type from a meaning, or that a value type in it is too deep; and those of resources.
abbrev pub type_has : Meaning Closed → LinkWhy → Type 0
type_has meaning why.Index = meaning.is_there ≡ false
type_has meaning (why.Missing name) = meaning.missing ≡ Some name
type_has meaning why.Typing = meaning.means ≡ None
type_has meaning why.Limit = meaning.deep ≡ true
type_has meaning why = ⊥

-- what a type stands for
abbrev pub StandsFor : Meaning Closed → Closed → Type 0
StandsFor meaning closed = (meaning.means ≡ Some closed) × (meaning.deep ≡ false)

-- one type more, which is noted where it is one of streams or futures, and of which it is known whether there are numbers for what it brings
abbrev pub type_made : Linking → ℕ → Spaces → Bool → Closed → Linking
type_made l n s room closed = with_spaces (with_ends l (noted_type l.end_types closed) room) n (with_definition s (AType closed))

abbrev pub type_makes : Linking → ℕ → Spaces → Meaning Closed → Linking → Type 0
type_makes l n s meaning new = (closed : Closed) × StandsFor meaning closed × (new ≡ type_made l n s meaning.has_room closed)

abbrev pub defined_has : Spaces → Option (Option ℕ) → Meaning Closed → LinkWhy → Type 0
defined_has s (Some destructor) meaning why = resource_has s destructor why
defined_has s None meaning why = type_has meaning why

abbrev pub defined_makes : Linking → ℕ → Spaces → Option (Option ℕ) → Meaning Closed → Linking → Type 0
defined_makes l n s (Some destructor) meaning new = resource_makes l n s destructor new
defined_makes l n s None meaning new = type_makes l n s meaning new

-- what a type means where it stands
abbrev pub type_meaning : Linking → ℕ → Spaces → DefType → Meaning Closed
type_meaning l n s type = meaning_of type (levels_at l (n ∷ s.around))

-- Lifts: an index that is not there, also of an option; a type that is none of functions; an option twice, or a core item that cannot
-- be lifted with the options.
abbrev pub lift_has : Spaces → ℕ → List CanonOption → ℕ → LinkWhy → Type 0
lift_has s f options t why.Index =
    (slice_get s.core_funcs f ≡ None) ⊎ AnyByRecursion (λ o. IsOptionThere s o → ⊥) options ⊎ (slice_get s.types t ≡ None)
lift_has s f options t why.Typing = MatchOption (slice_get s.types t) ⊥ (λ type. func_of type ≡ None)
lift_has s f options t why.Canon =
    (StandOnce options → ⊥)
    ⊎ MatchOption (option_and_then func_of (slice_get s.types t)) ⊥
    (λ type. MatchOption (slice_get s.core_funcs f) ⊥ (λ item. CanBeLifted type item (given_by s options) → ⊥))
lift_has s f options t why = ⊥

-- the function that a core function is lifted to, in the component instance of a number
abbrev pub lifted_with : ℕ → FuncType → FuncRef → Given → Lifted
lifted_with n type core given = record { instance = n; core = core; options = options_of given; func_type = type }

abbrev pub lift_makes : Linking → ℕ → Spaces → ℕ → List CanonOption → ℕ → Linking → Type 0
lift_makes l n s f options t new =
    (item : CoreItem) × (core : FuncRef) × (type : FuncType)
    × (slice_get s.core_funcs f ≡ Some item) × (core_func_of item ≡ Some core) × AllByRecursion (IsOptionThere s) options
    × (option_and_then func_of (slice_get s.types t) ≡ Some type)
    × StandOnce options × CanBeLifted type item (given_by s options)
    × (new ≡ with_spaces l n (with_definition s (AFunc (lifted_with n type core (given_by s options)))))

-- One core function more, which the Canonical ABI makes, and whose type is noted where it is a built-in of ends.
abbrev pub with_canon : Linking → ℕ → Spaces → CanonFunc → Linking
with_canon l n s f = record {
  scopes = set l.scopes n (with_core_item s (Func (func_ref.Canon (length l.canons)) (canon_type f)));
  cores = l.cores;
  canons = l.canons ++ f ∷ [];
  resources = l.resources;
  plan = l.plan;
  end_types = noted_canon l.end_types f;
  has_room = l.has_room;
}

-- Lowers: an index that is not there, also of an option; an option twice, or a function that cannot be lowered with the options.
abbrev pub lower_has : Spaces → ℕ → List CanonOption → LinkWhy → Type 0
lower_has s f options why.Index = (slice_get s.funcs f ≡ None) ⊎ AnyByRecursion (λ o. IsOptionThere s o → ⊥) options
lower_has s f options why.Canon =
    (StandOnce options → ⊥) ⊎ MatchOption (slice_get s.funcs f) ⊥ (λ func. CanBeLowered func.func_type (given_by s options) → ⊥)
lower_has s f options why = ⊥

-- the core function that a function is lowered to, in the component instance of a number
abbrev pub lowered_with : ℕ → Lifted → Given → CanonFunc
lowered_with n func given = canon_func.Lower (record {
  instance = n;
  lift = record { instance = func.instance; core = func.core; options = func.options };
  func_type = func.func_type;
  options = options_of given;
})

abbrev pub lower_made : Linking → ℕ → Spaces → Lifted → Given → Linking
lower_made l n s func given = with_canon l n s (lowered_with n func given)

abbrev pub lower_makes : Linking → ℕ → Spaces → ℕ → List CanonOption → Linking → Type 0
lower_makes l n s f options new =
    (func : Lifted) × (slice_get s.funcs f ≡ Some func) × AllByRecursion (IsOptionThere s) options
    × StandOnce options × CanBeLowered func.func_type (given_by s options)
    × (new ≡ lower_made l n s func (given_by s options))

-- Built-ins: an index that is not there; a type that is none such as one asks for; options, a word of the task or a resource that do not
-- serve it.
abbrev pub builtin_has : BuiltinMeaning → LinkWhy → Type 0
builtin_has meaning why.Index = meaning.is_there ≡ false
builtin_has meaning why.Typing = meaning.means ≡ None
builtin_has meaning why.Canon = meaning.serves ≡ false
builtin_has meaning why = ⊥

-- one of the component instance of a number
abbrev pub builtin_made : Linking → ℕ → Spaces → BuiltinKind → Linking
builtin_made l n s kind = with_canon l n s (canon_func.Builtin (record { instance = n; kind = kind }))

abbrev pub builtin_makes : Linking → ℕ → Spaces → BuiltinMeaning → Linking → Type 0
builtin_makes l n s meaning new =
    (kind : BuiltinKind) × (meaning.is_there ≡ true) × (meaning.means ≡ Some kind) × (meaning.serves ≡ true) × (new ≡ builtin_made l n s kind)

-- Imports.

-- what a definition that is given is to be
abbrev pub type_given : Option Definition → Option Closed
type_given (Some (AType type)) = Some type
type_given given = None

abbrev pub meant_of : Spaces → Option Definition → ExternDesc → Meaning Extern
meant_of s given asked = given_meaning (map Some s.types) (type_given given) asked

-- what an import is to be, where this is given for its name
abbrev pub given_for : Spaces → List ℕ → Option Definition
given_for s name = option_and_then (export_named name) s.arguments

abbrev pub wanted : Spaces → List ℕ → ExternDesc → Meaning Extern
wanted s name asked = meant_of s (given_for s name) asked

-- an instance whose exports are types
abbrev pub IsOfTypes : Extern → Type 0
IsOfTypes (OfInstance externs) = AreTypes externs
IsOfTypes extern = ⊥

-- The root may import instances of types alone.
abbrev pub IsRootImport : Meaning Extern → ExternDesc → Type 0
IsRootImport meaning (desc.Instance index) = MatchOption meaning.means ⊥ (λ extern. IsOfTypes extern → ⊥)
IsRootImport meaning other = Unit {0}

-- the name that an import does not find: its own among the arguments, or that of an export that is asked for
abbrev pub lacking : Option Definition → List ℕ → Option Extern → Option (List ℕ)
lacking None name extern = Some name
lacking (Some d) name None = None
lacking (Some d) name (Some extern) = lacks (Some d) name (asked_of d extern)

abbrev pub DoesNotFit : Option Definition → Option Extern → Type 0
DoesNotFit (Some d) (Some extern) = Fits d (asked_of d extern) → ⊥
DoesNotFit d extern = ⊥

-- An import of the root of a function or a type, or of an instance whose exports are not all types; an index that is not there; an
-- argument, or an export that is asked for of one, that is missing; a name twice, an argument of another sort or type, or an index of
-- another type than is wanted.
abbrev pub import_has : Spaces → List ℕ → ExternDesc → LinkWhy → Type 0
import_has s name asked why.RootImport = (s.arguments ≡ None) × IsRootImport (wanted s name asked) asked
import_has s name asked why.Index = (wanted s name asked).is_there ≡ false
import_has s name asked (why.Missing missing) =
    MatchOption s.arguments ⊥ (λ given. lacking (export_named name given) name (wanted s name asked).means ≡ Some missing)
import_has s name asked why.Typing =
    (is_among name s.imports ≡ true) ⊎ ((wanted s name asked).means ≡ None)
    ⊎ MatchOption s.arguments ⊥ (λ given. DoesNotFit (export_named name given) (wanted s name asked).means)
import_has s name asked why = ⊥

abbrev pub with_import : Spaces → List ℕ → Definition → Spaces
with_import s name d = with_definition (record s { imports = s.imports ++ name ∷ [] }) d

-- what an import is: the argument, as it is asked for, where it stands for what it brings; of the root, an instance of the types
abbrev pub IsImported : Option Exports → List ℕ → Extern → Definition → Type 0
IsImported (Some given) name extern d =
    (x : Definition) × (export_named name given ≡ Some x) × Fits x (asked_of x extern) × (d ≡ seen_as x (asked_of x extern))
IsImported None name (OfInstance externs) d = AreTypes externs × (d ≡ AnInstance (types_of externs))
IsImported None name extern d = ⊥

abbrev pub import_makes : Linking → ℕ → Spaces → List ℕ → ExternDesc → Linking → Type 0
import_makes l n s name asked new =
    (extern : Extern) × (d : Definition) × ((wanted s name asked).means ≡ Some extern) × (is_among name s.imports ≡ false)
    × IsImported s.arguments name extern d × (new ≡ with_spaces l n (with_import s name d))

-- Exports.

-- what an export is said to be, where it says so
abbrev pub said : Spaces → read.Export → Option (Meaning Extern)
said s e = option_map (meant_of s (definition_at s e.sort e.index)) e.desc

abbrev pub IsSaid : Option (Meaning Extern) → (Meaning Extern → Type 0) → Type 0
IsSaid meaning P = MatchOption meaning ⊥ P

-- An index that is not there; an export that is asked for and is missing; a name twice, a core sort but that of modules, or
-- another sort or type than is said.
abbrev pub export_has : Spaces → read.Export → LinkWhy → Type 0
export_has s e why.Index = (size_of s e.sort ≤ e.index) ⊎ IsSaid (said s e) (λ meaning. meaning.is_there ≡ false)
export_has s e (why.Missing missing) =
    MatchOption (definition_at s e.sort e.index) ⊥ (λ d. IsSaid (said s e) (λ meaning. MatchOption meaning.means ⊥ (λ extern. lacks (Some d) e.name (asked_of d extern) ≡ Some missing)))
export_has s e why.Typing =
    (is_among e.name (export_names s.exports) ≡ true) ⊎ (definition_at s e.sort e.index ≡ None)
    ⊎ IsSaid (said s e) (λ meaning. (meaning.means ≡ None) ⊎ DoesNotFit (definition_at s e.sort e.index) meaning.means)
export_has s e why = ⊥

abbrev pub with_export : Spaces → List ℕ → Definition → Spaces
with_export s name d = with_definition (record s { exports = WithExport s.exports name d }) d

-- what is exported: the definition, as it is said to be
abbrev pub IsExported : Option (Meaning Extern) → Definition → Definition → Type 0
IsExported None d x = x ≡ d
IsExported (Some meaning) d x = (extern : Extern) × (meaning.means ≡ Some extern) × Fits d (asked_of d extern) × (x ≡ seen_as d (asked_of d extern))

abbrev pub export_makes : Linking → ℕ → Spaces → read.Export → Linking → Type 0
export_makes l n s e new =
    (d : Definition) × (x : Definition) × (definition_at s e.sort e.index ≡ Some d) × (is_among e.name (export_names s.exports) ≡ false)
    × IsExported (said s e) d x × (new ≡ with_spaces l n (with_export s e.name x))

-- Items.

-- which reasons an item has in a component instance
abbrev pub has_case : {A B : Type 0} → Linking → ℕ → Spaces → Item-F A B → LinkWhy → Type 0
has_case l n s (Item-F.CoreModule m) why = ⊥
has_case l n s (Item-F.CoreInstance c) why = core_instance_has l s c why
has_case l n s (Item-F.Component c) why = ⊥
has_case l n s (Item-F.Instance i) why = instance_has l s i why
has_case l n s (Item-F.Alias alias) why = alias_has l n s alias.sort alias.target why
has_case l n s (Item-F.Type type) why = defined_has s (resource_written (out-DefType type)) (type_meaning l n s type) why
has_case l n s (Item-F.Canon (Lift f options t)) why = lift_has s f options t why
has_case l n s (Item-F.Canon (Lower f options)) why = lower_has s f options why
has_case l n s (Item-F.Canon (Builtin b)) why = builtin_has (builtin_meaning l n s b) why
has_case l n s (Item-F.Import i) why = import_has s i.name i.desc why
has_case l n s (Item-F.Export e) why = export_has s e why

abbrev pub item_has : Linking → ℕ → Spaces → Item → LinkWhy → Type 0
item_has l n s item why = has_case l n s (out-Item item) why

-- what an item makes
abbrev pub makes_case : Linking → ℕ → Spaces → Item-F Item Component → Linking → Type 0
makes_case l n s (Item-F.CoreModule m) new = new ≡ with_spaces l n (with_definition s (AModule m))
makes_case l n s (Item-F.CoreInstance c) new = core_instance_makes l n s c new
makes_case l n s (Item-F.Component c) new = new ≡ with_spaces l n (with_definition s (AComponent (record { items = c.items; around = n ∷ s.around })))
makes_case l n s (Item-F.Instance i) new = instance_makes l n s i new
makes_case l n s (Item-F.Alias alias) new = alias_makes l n s alias.sort alias.target new
makes_case l n s (Item-F.Type type) new = defined_makes l n s (resource_written (out-DefType type)) (type_meaning l n s type) new
makes_case l n s (Item-F.Canon (Lift f options t)) new = lift_makes l n s f options t new
makes_case l n s (Item-F.Canon (Lower f options)) new = lower_makes l n s f options new
makes_case l n s (Item-F.Canon (Builtin b)) new = builtin_makes l n s (builtin_meaning l n s b) new
makes_case l n s (Item-F.Import i) new = import_makes l n s i.name i.desc new
makes_case l n s (Item-F.Export e) new = export_makes l n s e new

abbrev pub item_makes : Linking → ℕ → Spaces → Item → Linking → Type 0
item_makes l n s item new = makes_case l n s (out-Item item) new

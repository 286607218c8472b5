-- Linking, computed: each item is gone through once, and the first reason that it has is answered. What is computed is what
-- `Linked` says.
use Rattle.std.specs.Prelude.{ℕ, zero, suc, Bool, true, false, not, ◌&&◌, nat_lt, List, [], ◌∷◌, length, map, Option, Some, None, Result, Ok, Err}
use Rattle.std.specs.Option.{option_and_then, option_map_or}
use Rattle.std.specs.List.{slice_get, list_all}
use Rattle.syntax_trees.specs.Names.{is_among}
use Rattle.ca_base.specs.declared.placed.Placed.{Placed}
use Rattle.syntax_trees.specs.declared.types.FuncType.{FuncType}
use Rattle.syntax_trees.specs.declared.module.Import.{Import}
use Rattle.syntax_trees.specs.declared.module.ModuleTree.{ModuleTree}
use Rattle.comp_graph.specs.Graph.{Graph}
use Rattle.comp_graph.specs.CoreItems.{core_func_of}
use Rattle.comp_graph.specs.Needs.{destructor_type}
use Rattle.comp_graph.specs.declared.graph.FuncRef.{FuncRef}
use Rattle.comp_tree.specs.declared.core_instances.CoreArgument.{CoreArgument}
use Rattle.comp_tree.specs.declared.core_instances.CoreInlineExport.{CoreInlineExport}
use Rattle.comp_tree.specs.declared.core_instances.CoreInstance.{CoreInstance}
use Rattle.comp_tree.specs.declared.core_instances.CoreInstance.TheVariants as made_core
use Rattle.comp_tree.specs.declared.instances.NamedDefinition.{NamedDefinition}
use Rattle.comp_tree.specs.declared.instances.Instance as made_of
use Rattle.comp_tree.specs.declared.instances.Instance.TheVariants as made
use Rattle.comp_tree.specs.declared.instances.Sort.{Sort}
use Rattle.comp_tree.specs.declared.instances.AliasTarget.{AliasTarget}
use Rattle.comp_tree.specs.declared.instances.AliasTarget.TheVariants as target
use Rattle.comp_tree.specs.declared.types.DefType.{out-DefType}
use Rattle.comp_tree.specs.declared.externs.ExternDesc.{ExternDesc}
use Rattle.comp_tree.specs.declared.externs.Export as read
use Rattle.comp_tree.specs.declared.items.CanonOption.{CanonOption}
use Rattle.comp_tree.specs.declared.items.Canon.TheVariants.{Lift, Lower, Builtin}
use Rattle.comp_tree.specs.declared.items.Item.{Item, out-Item}
use Rattle.comp_tree.specs.declared.items.Item.TheOpen.{Item-F}
use Rattle.comp_tree.specs.declared.items.Component.{Component}
use Rattle.link_spec.specs.declared.fault.LinkWhy.{LinkWhy}
use Rattle.link_spec.specs.declared.fault.LinkWhy.TheVariants as why
use Rattle.link_spec.specs.declared.fault.LinkFault.{LinkFault}
use Rattle.comp_graph.specs.Closed.{Closed, Extern, OfInstance, func_of}
use Rattle.link_spec.specs.Definitions.{CoreItem, CoreExport, core_named, Lifted, Closure, Definition, AFunc, AComponent, AnInstance, AModule, Exports, EmptyInstance, WithExport, export_names, export_named, lacks, seen_as, types_of}
use Rattle.link_spec.specs.Canons.{Given, given_by, stand_once, is_option_there, is_of_core_type, can_be_lifted, can_be_lowered}
use Rattle.link_spec.specs.Builtins.{BuiltinMeaning, builtin_meaning}
use Rattle.link_spec.specs.Resources.{resource_written, with_resource}
use Rattle.link_spec.specs.Brought.{asked_of}
use Rattle.link_spec.specs.Types.{Meaning}
use Rattle.link_spec.specs.Spaces.{Spaces, Linking, core_size, size_of, core_item_at, definition_at, with_core_item, with_core_instance, with_definition, with_spaces, outer_at}
use Rattle.link_spec.specs.Items.{instance_limit, argument_named, core_made, type_made, type_meaning, lifted_with, lower_made, builtin_made, wanted, lacking, with_import, said, with_export}
use Rattle.link_spec.specs.Linked.{begun, with_instance, root_begun, graph_of}
use Rattle.link_spec.specs.Tests.{are_distinct, all_fit, is_core_of, is_of_sort, fits, root_may_import}

-- what comes behind what has no reason against it
abbrev pub after : {A B E : Type 0} → Result A E → (A → Result B E) → Result B E
after (Ok a) f = f a
after (Err e) f = Err e

-- what is there, or else this reason
abbrev pub there_or : {A : Type 0} → LinkWhy → Option A → Result A LinkWhy
there_or w None = Err w
there_or w (Some a) = Ok a

-- what is answered where a test passes, or else this reason
abbrev pub only_if : {A : Type 0} → Bool → LinkWhy → Result A LinkWhy → Result A LinkWhy
only_if true w answer = answer
only_if false w answer = Err w

-- what is answered where no name is missing
abbrev pub none_missing : {A : Type 0} → Option (List ℕ) → Result A LinkWhy → Result A LinkWhy
none_missing None answer = answer
none_missing (Some name) answer = Err (why.Missing name)

-- What an item comes to, where it has no reason against it: it makes something, or begins an instance of a component.
pub data Outcome : Type 0 where
  Makes : Linking → Outcome
  Starts : Closure → Exports → Outcome

abbrev pub one_more : Linking → ℕ → Spaces → Definition → Outcome
one_more l n s d = Makes (with_spaces l n (with_definition s d))

-- Core instances.

abbrev pub found_in : Import → Option (List CoreExport) → Result CoreItem LinkWhy
found_in i None = Err (why.Missing i.module)
found_in i (Some exports) = there_or (why.Missing i.name) (core_named i.name exports)

abbrev pub all_found : List (List CoreExport) → List CoreArgument → List Import → Result (List CoreItem) LinkWhy
all_found instances arguments [] = Ok []
all_found instances arguments (i ∷ imports) =
    after (found_in i (argument_named instances i.module arguments)) (λ item. after (all_found instances arguments imports) (λ items. Ok (item ∷ items)))

-- what the imports of a core module are passed, of these core instances
abbrev pub imports_outcome : List (List CoreExport) → ModuleTree → List CoreArgument → Result (List CoreItem) LinkWhy
imports_outcome instances m arguments =
    only_if (list_all (λ (a : CoreArgument). nat_lt a.instance (length instances)) arguments) why.Index (
    after (all_found instances arguments m.imports) (λ items.
    only_if (are_distinct (map (λ (a : CoreArgument). a.name) arguments) && all_fit m m.imports items) why.Typing (
    Ok items)))

abbrev pub inline_exports : Spaces → List CoreInlineExport → Result (List CoreExport) LinkWhy
inline_exports s [] = Ok []
inline_exports s (e ∷ read) =
    after (there_or why.Typing (core_item_at s e.sort e.index)) (λ item. after (inline_exports s read) (λ exports. Ok (record { name = e.name; item = item } ∷ exports)))

-- what a core instance of inline exports has
abbrev pub inline_outcome : Spaces → List CoreInlineExport → Result (List CoreExport) LinkWhy
inline_outcome s read =
    only_if (list_all (λ (e : CoreInlineExport). nat_lt e.index (core_size s e.sort)) read) why.Index (
    only_if (are_distinct (map (λ (e : CoreInlineExport). e.name) read)) why.Typing (
    inline_exports s read))

abbrev pub core_instance_outcome : Linking → ℕ → Spaces → CoreInstance → Result Outcome LinkWhy
core_instance_outcome l n s (made_core.Instantiate index arguments) =
    after (there_or why.Index (slice_get s.core_modules index)) (λ m.
    after (imports_outcome s.core_instances m arguments) (λ items.
    only_if (nat_lt (length l.cores) instance_limit) why.Limit (
    Ok (Makes (core_made l n s m items)))))
core_instance_outcome l n s (made_core.Inline read) = after (inline_outcome s read) (λ exports. Ok (Makes (with_spaces l n (with_core_instance s exports))))

-- Instances.

-- definitions under their names, behind some exports
abbrev pub exports_behind : Spaces → Exports → List NamedDefinition → Result Exports LinkWhy
exports_behind s before [] = Ok before
exports_behind s before (d ∷ read) =
    after (there_or why.Typing (definition_at s d.sort d.index)) (λ x. exports_behind s (WithExport before d.name x) read)

abbrev pub named_exports : Spaces → List NamedDefinition → Result Exports LinkWhy
named_exports s read =
    only_if (list_all (λ (d : NamedDefinition). nat_lt d.index (size_of s d.sort)) read) why.Index (
    only_if (are_distinct (map (λ (d : NamedDefinition). d.name) read)) why.Typing (
    exports_behind s EmptyInstance read))

abbrev pub instance_outcome : Linking → ℕ → Spaces → made_of.Instance → Result Outcome LinkWhy
instance_outcome l n s (made.Instantiate component arguments) =
    after (there_or why.Index (slice_get s.components component)) (λ c.
    after (named_exports s arguments) (λ given.
    only_if (nat_lt (length l.scopes) instance_limit) why.Limit (
    Ok (Starts c given))))
instance_outcome l n s (made.Inline read) = after (named_exports s read) (λ exports. Ok (one_more l n s (AnInstance exports)))

-- Aliases.

-- an export of a core instance, among these
abbrev pub core_aliased : List (List CoreExport) → Sort → ℕ → List ℕ → Result CoreItem LinkWhy
core_aliased instances sort instance name =
    after (there_or why.Index (slice_get instances instance)) (λ exports.
    after (there_or (why.Missing name) (core_named name exports)) (λ item.
    only_if (is_core_of item sort) why.Typing (Ok item)))

abbrev pub alias_outcome : Linking → ℕ → Spaces → Sort → AliasTarget → Result Outcome LinkWhy
alias_outcome l n s sort (target.InstanceExport instance name) =
    after (there_or why.Index (slice_get s.instances instance)) (λ exports.
    after (there_or (why.Missing name) (export_named name exports)) (λ d.
    only_if (is_of_sort d sort) why.Typing (Ok (one_more l n s d))))
alias_outcome l n s sort (target.CoreInstanceExport instance name) =
    after (core_aliased s.core_instances sort instance name) (λ item. Ok (Makes (with_spaces l n (with_core_item s item))))
alias_outcome l n s sort (target.Outer up index) =
    after (there_or why.Index (outer_at l (n ∷ s.around) sort up index)) (λ d. Ok (one_more l n s d))

-- Types.

abbrev pub type_outcome : Linking → ℕ → Spaces → Meaning Closed → Result Outcome LinkWhy
type_outcome l n s meaning =
    only_if meaning.is_there why.Index (
    none_missing meaning.missing (
    after (there_or why.Typing meaning.means) (λ closed.
    only_if (not meaning.deep) why.Limit (
    Ok (Makes (type_made l n s meaning.has_room closed))))))

-- Types of resources.

-- the core function that is one's destructor, of a core item, and of an index, if there is one
abbrev pub destructor_of : CoreItem → Result (Option FuncRef) LinkWhy
destructor_of item =
    only_if (is_of_core_type destructor_type item) why.Canon (
    after (there_or why.Canon (core_func_of item)) (λ core. Ok (Some core)))

abbrev pub destructor_at : Spaces → Option ℕ → Result (Option FuncRef) LinkWhy
destructor_at s None = Ok None
destructor_at s (Some f) = after (there_or why.Index (slice_get s.core_funcs f)) (λ item. destructor_of item)

abbrev pub resource_outcome : Linking → ℕ → Spaces → Option ℕ → Result Outcome LinkWhy
resource_outcome l n s destructor = after (destructor_at s destructor) (λ core. Ok (Makes (with_resource l n s core)))

abbrev pub defined_outcome : Linking → ℕ → Spaces → Option (Option ℕ) → Meaning Closed → Result Outcome LinkWhy
defined_outcome l n s (Some destructor) meaning = resource_outcome l n s destructor
defined_outcome l n s None meaning = type_outcome l n s meaning

-- Lifts.

-- the lift of a core item to a function of a type, with what options give, in the component instance of this number
abbrev pub lifted_to : ℕ → FuncType → CoreItem → List CanonOption → Given → Result Lifted LinkWhy
lifted_to n type item options given =
    only_if (stand_once options) why.Canon (
    only_if (can_be_lifted type item given) why.Canon (
    after (there_or why.Canon (core_func_of item)) (λ core.
    Ok (lifted_with n type core given))))

-- the lift of the core function of an index, with options, to a function of the type of an index
abbrev pub lifted_of : ℕ → Spaces → ℕ → List CanonOption → ℕ → Result Lifted LinkWhy
lifted_of n s f options t =
    after (there_or why.Index (slice_get s.core_funcs f)) (λ item.
    only_if (list_all (is_option_there s) options) why.Index (
    after (there_or why.Index (slice_get s.types t)) (λ type.
    after (there_or why.Typing (func_of type)) (λ of_func.
    lifted_to n of_func item options (given_by s options)))))

abbrev pub lift_outcome : Linking → ℕ → Spaces → ℕ → List CanonOption → ℕ → Result Outcome LinkWhy
lift_outcome l n s f options t = after (lifted_of n s f options t) (λ lifted. Ok (one_more l n s (AFunc lifted)))

-- Lowers.

-- that a function can be lowered, with options and what they give
abbrev pub lowered_from : FuncType → List CanonOption → Given → Result Given LinkWhy
lowered_from type options given =
    only_if (stand_once options) why.Canon (
    only_if (can_be_lowered type given) why.Canon (
    Ok given))

abbrev pub lower_outcome : Linking → ℕ → Spaces → ℕ → List CanonOption → Result Outcome LinkWhy
lower_outcome l n s f options =
    after (there_or why.Index (slice_get s.funcs f)) (λ func.
    only_if (list_all (is_option_there s) options) why.Index (
    after (lowered_from func.func_type options (given_by s options)) (λ given.
    Ok (Makes (lower_made l n s func given)))))

-- Built-ins.

abbrev pub builtin_outcome : Linking → ℕ → Spaces → BuiltinMeaning → Result Outcome LinkWhy
builtin_outcome l n s meaning =
    only_if meaning.is_there why.Index (
    after (there_or why.Typing meaning.means) (λ kind.
    only_if meaning.serves why.Canon (
    Ok (Makes (builtin_made l n s kind)))))

-- Imports.

-- what the root is given of what it imports
abbrev pub root_given : Extern → Result Definition LinkWhy
root_given (OfInstance externs) = Ok (AnInstance (types_of externs))
root_given extern = Err why.RootImport

-- what is given, as it is asked for
abbrev pub as_asked : Definition → Extern → Result Definition LinkWhy
as_asked d extern = only_if (fits d (asked_of d extern)) why.Typing (Ok (seen_as d (asked_of d extern)))

abbrev pub import_outcome : Linking → ℕ → Spaces → List ℕ → Meaning Extern → ExternDesc → Option Exports → Result Outcome LinkWhy
import_outcome l n s name meaning asked None =
    only_if (root_may_import asked meaning.means) why.RootImport (
    only_if meaning.is_there why.Index (
    only_if (not (is_among name s.imports)) why.Typing (
    after (there_or why.Typing meaning.means) (λ extern.
    after (root_given extern) (λ d.
    Ok (Makes (with_spaces l n (with_import s name d))))))))
import_outcome l n s name meaning asked (Some given) =
    only_if meaning.is_there why.Index (
    none_missing (lacking (export_named name given) name meaning.means) (
    only_if (not (is_among name s.imports)) why.Typing (
    after (there_or why.Typing meaning.means) (λ extern.
    after (there_or (why.Missing name) (export_named name given)) (λ x.
    after (as_asked x extern) (λ d.
    Ok (Makes (with_spaces l n (with_import s name d)))))))))

-- Exports.

abbrev pub said_is_there : Option (Meaning Extern) → Bool
said_is_there meaning = option_map_or (λ (meaning : Meaning Extern). meaning.is_there) meaning true

abbrev pub said_lacks : List ℕ → Definition → Option (Meaning Extern) → Option (List ℕ)
said_lacks name d meaning = option_and_then (λ extern. lacks (Some d) name (asked_of d extern)) (option_and_then (λ (meaning : Meaning Extern). meaning.means) meaning)

abbrev pub as_said : Definition → Option (Meaning Extern) → Result Definition LinkWhy
as_said d None = Ok d
as_said d (Some meaning) = after (there_or why.Typing meaning.means) (λ extern. as_asked d extern)

abbrev pub export_outcome : Linking → ℕ → Spaces → read.Export → Result Outcome LinkWhy
export_outcome l n s e =
    only_if (nat_lt e.index (size_of s e.sort)) why.Index (
    only_if (said_is_there (said s e)) why.Index (
    after (there_or why.Typing (definition_at s e.sort e.index)) (λ d.
    none_missing (said_lacks e.name d (said s e)) (
    only_if (not (is_among e.name (export_names s.exports))) why.Typing (
    after (as_said d (said s e)) (λ x.
    Ok (Makes (with_spaces l n (with_export s e.name x)))))))))

-- Items.

abbrev pub outcome_case : Linking → ℕ → Spaces → Item-F Item Component → Result Outcome LinkWhy
outcome_case l n s (Item-F.CoreModule m) = Ok (one_more l n s (AModule m))
outcome_case l n s (Item-F.CoreInstance c) = core_instance_outcome l n s c
outcome_case l n s (Item-F.Component c) = Ok (one_more l n s (AComponent (record { items = c.items; around = n ∷ s.around })))
outcome_case l n s (Item-F.Instance i) = instance_outcome l n s i
outcome_case l n s (Item-F.Alias alias) = alias_outcome l n s alias.sort alias.target
outcome_case l n s (Item-F.Type type) = defined_outcome l n s (resource_written (out-DefType type)) (type_meaning l n s type)
outcome_case l n s (Item-F.Canon (Lift f options t)) = lift_outcome l n s f options t
outcome_case l n s (Item-F.Canon (Lower f options)) = lower_outcome l n s f options
outcome_case l n s (Item-F.Canon (Builtin b)) = builtin_outcome l n s (builtin_meaning l n s b)
outcome_case l n s (Item-F.Import i) = import_outcome l n s i.name (wanted s i.name i.desc) i.desc s.arguments
outcome_case l n s (Item-F.Export e) = export_outcome l n s e

abbrev pub item_outcome : Linking → ℕ → Spaces → Item → Result Outcome LinkWhy
item_outcome l n s item = outcome_case l n s (out-Item item)

-- Lists of items, where it is known what those of a component that begins come to.

abbrev pub Run : Type 0
Run = Linking → ℕ → List (Placed Item) → Result Linking LinkFault

-- what is behind an outcome: the linking that is made, or that behind the items of the component
abbrev pub behind : Run → Linking → ℕ → Spaces → Outcome → Result Linking LinkFault
behind inside l n s (Makes next) = Ok next
behind inside l n s (Starts c arguments) =
    after (inside (begun l c arguments) (length l.scopes) c.items) (λ inner. Ok (with_instance inner n s (length l.scopes)))

-- a reason, at a place
abbrev pub placed_at : {A : Type 0} → ℕ → Result A LinkWhy → Result A LinkFault
placed_at place (Ok a) = Ok a
placed_at place (Err w) = Err (record { place = place; why = w })

-- One item. A component instance whose number is not there has no items.
abbrev pub step : Run → Linking → ℕ → Placed Item → Option Spaces → Result Linking LinkFault
step inside l n placed None = Ok l
step inside l n placed (Some s) = after (placed_at placed.place (item_outcome l n s placed.item)) (behind inside l n s)

abbrev pub run : Run → Run
run inside l n [] = Ok l
run inside l n (placed ∷ items) = after (step inside l n placed (slice_get l.scopes n)) (λ next. run inside next n items)

-- The same where at most so many component instances may still begin: none begins where none may.
abbrev pub run_within : ℕ → Run
run_within zero = run (λ l n items. Ok l)
run_within (suc budget) = run (run_within budget)

-- What a component is linked to, or its fault.
abbrev pub answer_of : Result Linking LinkFault → Result Graph LinkFault
answer_of (Ok l) = Ok (graph_of l)
answer_of (Err fault) = Err fault

abbrev pub linked : Component → Result Graph LinkFault
linked c = answer_of (run_within instance_limit root_begun 0 c.items)

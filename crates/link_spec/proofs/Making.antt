-- An item makes one thing, or begins one instance.
use Rattle.std.proofs.Common.{◌≡◌, ℕ, List, [], ◌∷◌, sym, ◌∙◌, ap, ap₂, subst, Option, Some, None}
use Rattle.std.specs.List.{slice_get, AllZip}
use Rattle.syntax_trees.specs.declared.types.FuncType.{FuncType}
use Rattle.syntax_trees.specs.declared.module.Import.{Import}
use Rattle.syntax_trees.specs.declared.module.ModuleTree.{ModuleTree}
use Rattle.comp_graph.specs.declared.graph.FuncRef.{FuncRef}
use Rattle.comp_graph.specs.CoreItems.{core_func_of}
use Rattle.comp_tree.specs.declared.core_instances.CoreArgument.{CoreArgument}
use Rattle.comp_tree.specs.declared.core_instances.CoreInlineExport.{CoreInlineExport}
use Rattle.comp_tree.specs.declared.core_instances.CoreInstance.{CoreInstance}
use Rattle.comp_tree.specs.declared.core_instances.CoreInstance.TheVariants as made_core
use Rattle.comp_tree.specs.declared.instances.NamedDefinition.{NamedDefinition}
use Rattle.comp_tree.specs.declared.instances.Instance as made_of
use Rattle.comp_tree.specs.declared.instances.Instance.TheVariants as made
use Rattle.comp_tree.specs.declared.instances.Sort.{Sort}
use Rattle.comp_tree.specs.declared.instances.AliasTarget.{AliasTarget}
use Rattle.comp_tree.specs.declared.instances.AliasTarget.TheVariants as target
use Rattle.comp_tree.specs.declared.types.DefType.{out-DefType}
use Rattle.comp_tree.specs.declared.externs.ExternDesc.{ExternDesc}
use Rattle.comp_tree.specs.declared.externs.Export as read
use Rattle.comp_tree.specs.declared.items.CanonOption.{CanonOption}
use Rattle.comp_tree.specs.declared.items.Canon.TheVariants.{Lift, Lower, Builtin}
use Rattle.comp_tree.specs.declared.items.Item.{Item, out-Item}
use Rattle.comp_tree.specs.declared.items.Item.TheOpen.{Item-F}
use Rattle.comp_tree.specs.declared.items.Component.{Component}
use Rattle.comp_graph.specs.Closed.{Closed, Extern, OfFunc, OfType, OfInstance}
use Rattle.link_spec.specs.Brought.{asked_of}
use Rattle.link_spec.specs.Definitions.{CoreItem, CoreExport, Definition, AFunc, AnInstance, Exports, EmptyInstance, WithExport, seen_as}
use Rattle.link_spec.specs.Canons.{given_by}
use Rattle.link_spec.specs.Builtins.{BuiltinMeaning, builtin_meaning}
use Rattle.link_spec.specs.Resources.{resource_written, with_resource, resource_makes}
use Rattle.link_spec.specs.Types.{Meaning}
use Rattle.link_spec.specs.Spaces.{Spaces, Linking, definition_at, with_spaces, with_core_item, with_core_instance, with_definition}
use Rattle.link_spec.specs.Items.{FindsItem, IsInline, core_made, core_instance_makes, AreNamed, instance_makes, alias_makes, type_made, type_makes, defined_makes, type_meaning, lifted_with, lift_makes, lower_made, lower_makes, builtin_made, builtin_makes, IsImported, with_import, import_makes, said, IsExported, with_export, export_makes, makes_case}
use Rattle.link_spec.specs.Laws.{MakesOnce, BeginsOnce}
use Rattle.link_spec.proofs.Lists.{same_zip}

one_value : {A : Type 0} (o : Option A) (a b : A) → o ≡ Some a → o ≡ Some b → a ≡ b
one_value o a b h k = cc

-- two things that are made of one
both_made : {A B : Type 0} (make : A → B) (x y : A) (a b : B) → x ≡ y → a ≡ make x → b ≡ make y → a ≡ b
both_made make x y a b e h k = h ∙ (ap make e ∙ sym k)

-- Core instances.

one_item : (s : Spaces) (m : ModuleTree) (arguments : List CoreArgument) (i : Import) (x y : CoreItem) → FindsItem s m arguments i x → FindsItem s m arguments i y → x ≡ y
one_item s m arguments i x y h k = cc (h.0, k.0)

one_inline : (s : Spaces) (e : CoreInlineExport) (x y : CoreExport) → IsInline s e x → IsInline s e y → x ≡ y
one_inline s e x y h k =
    let names : x.name ≡ y.name = h.0 ∙ sym k.0 in
    let items : x.item ≡ y.item = cc (h.1, k.1) in
    ap₂ (λ (name : List ℕ) (item : CoreItem). (let e : CoreExport = record { name = name; item = item } in e)) names items

core_instance_once : (l : Linking) (n : ℕ) (s : Spaces) (c : CoreInstance) (a b : Linking) → core_instance_makes l n s c a → core_instance_makes l n s c b → a ≡ b
core_instance_once l n s (made_core.Instantiate index arguments) a b (m, imports, is, there, found, distinct, few, made) (m', imports', is', there', found', distinct', few', made') =
    let modules : m ≡ m' = one_value (slice_get s.core_modules index) m m' is is' in
    let other : AllZip (FindsItem s m arguments) m.imports imports' = subst (λ (m : ModuleTree). AllZip (FindsItem s m arguments) m.imports imports') (sym modules) found' in
    let items : imports ≡ imports' = same_zip (FindsItem s m arguments) (one_item s m arguments) m.imports imports imports' found other in
    made ∙ (ap₂ (core_made l n s) modules items ∙ sym made')
core_instance_once l n s (made_core.Inline read) a b (exports, are, distinct, made) (exports', are', distinct', made') =
    both_made (λ exports. with_spaces l n (with_core_instance s exports)) exports exports' a b (same_zip (IsInline s) (one_inline s) read exports exports' are are') made made'

-- Instances.

pub named_once : (s : Spaces) (before : Exports) (read : List NamedDefinition) (a b : Exports) → AreNamed s before read a → AreNamed s before read b → a ≡ b
named_once s before [] a b h k = h ∙ sym k
named_once s before (d ∷ read) a b (x, is, others) (x', is', others') =
    let same : x ≡ x' = one_value (definition_at s d.sort d.index) x x' is is' in
    named_once s (WithExport before d.name x) read a b others (subst (λ (x : Definition). AreNamed s (WithExport before d.name x) read b) (sym same) others')

instance_once : (l : Linking) (n : ℕ) (s : Spaces) (i : made_of.Instance) (a b : Linking) → instance_makes l n s i a → instance_makes l n s i b → a ≡ b
instance_once l n s (made.Instantiate component arguments) a b h k = absurd h
instance_once l n s (made.Inline read) a b (exports, are, distinct, made) (exports', are', distinct', made') =
    both_made (λ exports. with_spaces l n (with_definition s (AnInstance exports))) exports exports' a b (named_once s EmptyInstance read exports exports' are are') made made'

-- Aliases.

alias_once : (l : Linking) (n : ℕ) (s : Spaces) (sort : Sort) (t : AliasTarget) (a b : Linking) → alias_makes l n s sort t a → alias_makes l n s sort t b → a ≡ b
alias_once l n s sort (target.InstanceExport instance name) a b (d, is, of_sort, made) (d', is', of_sort', made') =
    both_made (λ d. with_spaces l n (with_definition s d)) d d' a b (one_value _ d d' is is') made made'
alias_once l n s sort (target.CoreInstanceExport instance name) a b (item, is, of_sort, made) (item', is', of_sort', made') =
    both_made (λ item. with_spaces l n (with_core_item s item)) item item' a b (one_value _ item item' is is') made made'
alias_once l n s sort (target.Outer up index) a b (d, is, made) (d', is', made') =
    both_made (λ d. with_spaces l n (with_definition s d)) d d' a b (one_value _ d d' is is') made made'

-- Types.

type_once : (l : Linking) (n : ℕ) (s : Spaces) (meaning : Meaning Closed) (a b : Linking) → type_makes l n s meaning a → type_makes l n s meaning b → a ≡ b
type_once l n s meaning a b (closed, is, made) (closed', is', made') =
    both_made (type_made l n s meaning.has_room) closed closed' a b (one_value meaning.means closed closed' is.0 is'.0) made made'

resource_once : (l : Linking) (n : ℕ) (s : Spaces) (destructor : Option ℕ) (a b : Linking) → resource_makes l n s destructor a → resource_makes l n s destructor b → a ≡ b
resource_once l n s None a b h k = h ∙ sym k
resource_once l n s (Some f) a b (item, core, is, of_item, of_type, made) (item', core', is', of_item', of_type', made') =
    let items : item ≡ item' = one_value (slice_get s.core_funcs f) item item' is is' in
    let cores : core ≡ core' = one_value (core_func_of item) core core' of_item (ap core_func_of items ∙ of_item') in
    both_made (λ (core : FuncRef). with_resource l n s (Some core)) core core' a b cores made made'

defined_once : (l : Linking) (n : ℕ) (s : Spaces) (destructor : Option (Option ℕ)) (meaning : Meaning Closed) (a b : Linking) → defined_makes l n s destructor meaning a → defined_makes l n s destructor meaning b → a ≡ b
defined_once l n s (Some destructor) meaning a b h k = resource_once l n s destructor a b h k
defined_once l n s None meaning a b h k = type_once l n s meaning a b h k

-- Lifts.

lift_once : (l : Linking) (n : ℕ) (s : Spaces) (f : ℕ) (options : List CanonOption) (t : ℕ) (a b : Linking) → lift_makes l n s f options t a → lift_makes l n s f options t b → a ≡ b
lift_once l n s f options t a b (item, core, type, is, of_item, there, of_type, once, fits, made) (item', core', type', is', of_item', there', of_type', once', fits', made') =
    let items : item ≡ item' = one_value _ item item' is is' in
    let cores : core ≡ core' = one_value (core_func_of item) core core' of_item (ap core_func_of items ∙ of_item') in
    let types : type ≡ type' = one_value _ type type' of_type of_type' in
    made ∙ (ap₂ (λ (core : FuncRef) (type : FuncType). with_spaces l n (with_definition s (AFunc (lifted_with n type core (given_by s options))))) cores types ∙ sym made')

-- Lowers.

lower_once : (l : Linking) (n : ℕ) (s : Spaces) (f : ℕ) (options : List CanonOption) (a b : Linking) → lower_makes l n s f options a → lower_makes l n s f options b → a ≡ b
lower_once l n s f options a b (func, is, there, once, fits, made) (func', is', there', once', fits', made') =
    both_made (λ func. lower_made l n s func (given_by s options)) func func' a b (one_value _ func func' is is') made made'

-- Built-ins.

builtin_once : (l : Linking) (n : ℕ) (s : Spaces) (meaning : BuiltinMeaning) (a b : Linking) → builtin_makes l n s meaning a → builtin_makes l n s meaning b → a ≡ b
builtin_once l n s meaning a b (kind, there, is, serves, made) (kind', there', is', serves', made') =
    both_made (builtin_made l n s) kind kind' a b (one_value meaning.means kind kind' is is') made made'

-- Imports and exports.

imported_once : (given : Option Exports) (name : List ℕ) (extern : Extern) (a b : Definition) → IsImported given name extern a → IsImported given name extern b → a ≡ b
imported_once None name (OfFunc type) a b h k = absurd h
imported_once None name (OfType type) a b h k = absurd h
imported_once None name (OfInstance externs) a b h k = h.1 ∙ sym k.1
imported_once (Some given) name extern a b (x, there, fits, is) (x', there', fits', is') =
    both_made (λ x. seen_as x (asked_of x extern)) x x' a b (one_value _ x x' there there') is is'

import_once : (l : Linking) (n : ℕ) (s : Spaces) (name : List ℕ) (asked : ExternDesc) (a b : Linking) → import_makes l n s name asked a → import_makes l n s name asked b → a ≡ b
import_once l n s name asked a b (extern, d, is, fresh, imported, made) (extern', d', is', fresh', imported', made') =
    let externs : extern ≡ extern' = one_value _ extern extern' is is' in
    let same : d ≡ d' = imported_once s.arguments name extern d d' imported (subst (λ (e : Extern). IsImported s.arguments name e d') (sym externs) imported') in
    both_made (λ d. with_spaces l n (with_import s name d)) d d' a b same made made'

exported_once : (meaning : Option (Meaning Extern)) (d a b : Definition) → IsExported meaning d a → IsExported meaning d b → a ≡ b
exported_once None d a b h k = h ∙ sym k
exported_once (Some meaning) d a b (extern, is, fits, seen) (extern', is', fits', seen') =
    both_made (λ extern. seen_as d (asked_of d extern)) extern extern' a b (one_value _ extern extern' is is') seen seen'

export_once : (l : Linking) (n : ℕ) (s : Spaces) (e : read.Export) (a b : Linking) → export_makes l n s e a → export_makes l n s e b → a ≡ b
export_once l n s e a b (d, x, is, fresh, exported, made) (d', x', is', fresh', exported', made') =
    let definitions : d ≡ d' = one_value _ d d' is is' in
    let same : x ≡ x' = exported_once (said s e) d x x' exported (subst (λ (d : Definition). IsExported (said s e) d x') (sym definitions) exported') in
    both_made (λ x. with_spaces l n (with_export s e.name x)) x x' a b same made made'

-- Items.

case_once : (l : Linking) (n : ℕ) (s : Spaces) (shape : Item-F Item Component) (a b : Linking) → makes_case l n s shape a → makes_case l n s shape b → a ≡ b
case_once l n s (Item-F.CoreModule m) a b h k = h ∙ sym k
case_once l n s (Item-F.CoreInstance c) a b h k = core_instance_once l n s c a b h k
case_once l n s (Item-F.Component c) a b h k = h ∙ sym k
case_once l n s (Item-F.Instance i) a b h k = instance_once l n s i a b h k
case_once l n s (Item-F.Alias alias) a b h k = alias_once l n s alias.sort alias.target a b h k
case_once l n s (Item-F.Type type) a b h k = defined_once l n s (resource_written (out-DefType type)) (type_meaning l n s type) a b h k
case_once l n s (Item-F.Canon (Lift f options t)) a b h k = lift_once l n s f options t a b h k
case_once l n s (Item-F.Canon (Lower f options)) a b h k = lower_once l n s f options a b h k
case_once l n s (Item-F.Canon (Builtin built)) a b h k = builtin_once l n s (builtin_meaning l n s built) a b h k
case_once l n s (Item-F.Import i) a b h k = import_once l n s i.name i.desc a b h k
case_once l n s (Item-F.Export e) a b h k = export_once l n s e a b h k

pub makes_once : MakesOnce
makes_once l n s item a b h k = case_once l n s (out-Item item) a b h k

pub begins_once : BeginsOnce
begins_once l n s item c d given passed h k =
    let index : h.index ≡ k.index = cc (h.is, k.is) in
    let named : h.named ≡ k.named = cc (h.is, k.is) in
    let there : slice_get s.components h.index ≡ Some d = subst (λ (i : ℕ). slice_get s.components i ≡ Some d) (sym index) k.component in
    let are : AreNamed s EmptyInstance h.named passed = subst (λ (read : List NamedDefinition). AreNamed s EmptyInstance read passed) (sym named) k.given in
    (one_value (slice_get s.components h.index) c d h.component there, named_once s EmptyInstance h.named given passed h.given are)

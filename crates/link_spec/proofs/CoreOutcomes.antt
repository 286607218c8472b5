-- What is computed of core instances and of instances.
use Rattle.std.proofs.Common.{◌≡◌, ◌⊎◌, inl, inr, ◌<◌, ◌≤◌, ℕ, Bool, true, false, ◌&&◌, nat_lt, List, [], ◌∷◌, length, map, refl, sym, subst, arith, Option, Some, None}
use Rattle.std.specs.Prelude.{Result, Ok, Err}
use Rattle.std.specs.Option.{option_and_then}
use Rattle.std.specs.List.{slice_get, AllByRecursion, AllZip, list_all}
use Rattle.syntax_trees.specs.Names.{AreDistinct}
use Rattle.syntax_trees.specs.declared.module.Import.{Import}
use Rattle.syntax_trees.specs.declared.module.ModuleTree.{ModuleTree}
use Rattle.comp_tree.specs.declared.core_instances.CoreArgument.{CoreArgument}
use Rattle.comp_tree.specs.declared.core_instances.CoreInlineExport.{CoreInlineExport}
use Rattle.comp_tree.specs.declared.core_instances.CoreInstance.{CoreInstance}
use Rattle.comp_tree.specs.declared.core_instances.CoreInstance.TheVariants as made_core
use Rattle.comp_tree.specs.declared.instances.NamedDefinition.{NamedDefinition}
use Rattle.comp_tree.specs.declared.instances.Instance as made_of
use Rattle.comp_tree.specs.declared.instances.Instance.TheVariants as made
use Rattle.link_spec.specs.declared.fault.LinkWhy.{LinkWhy}
use Rattle.link_spec.specs.declared.fault.LinkWhy.TheVariants as why
use Rattle.comp_graph.specs.Closed.{first_of}
use Rattle.link_spec.specs.Definitions.{CoreItem, CoreExport, core_named, CoreFits, Closure, Definition, Exports, EmptyInstance, WithExport}
use Rattle.link_spec.specs.Spaces.{Spaces, Linking, core_size, size_of, core_item_at, definition_at, with_core_instance, with_spaces}
use Rattle.link_spec.specs.Items.{instance_limit, AnyByRecursion, first_told, argument_named, argument_lacking, import_found, import_lacks, FindsOther, IsThere, FindsItem, core_instance_has, IsInline, core_made, core_instance_makes, AreNamed, named_have, instance_has, instance_makes}
use Rattle.link_spec.specs.Tests.{are_distinct, all_fit}
use Rattle.link_spec.specs.Computed.{after, there_or, only_if, Outcome, Makes, Starts, found_in, all_found, imports_outcome, inline_exports, inline_outcome, core_instance_outcome, exports_behind, named_exports, instance_outcome}
use Rattle.link_spec.proofs.Lists.{some_all, some_zip, none_told, match_at}
use Rattle.link_spec.proofs.Excluding.{both_of, lacks_none, named_excludes}
use Rattle.link_spec.proofs.Telling.{less, not_less, fails, distinct_told, all_pass_or, Found, all_fit_or}
use Rattle.link_spec.proofs.SameValues.{both}
use Rattle.link_spec.proofs.Sounding.{Clear, First, Sound, Answers, clear_root, clear_index, clear_missing, clear_typing, clear_canon, sound_if, sound_there, sound_after, sound_behind, sound_told, answers_there, answers_after, match_in}

-- what is made, and nothing begins
abbrev pub MakesBy : (Linking → Type 0) → Outcome → Type 0
MakesBy M (Makes new) = M new
MakesBy M (Starts c arguments) = ⊥

-- a conjunction that fails
pub one_fails : (a b : Bool) → (a && b) ≡ false → (a ≡ false) ⊎ ((a ≡ true) × (b ≡ false))
one_fails true b h = inr (refl, h)
one_fails false b h = inl refl

-- Imports of a core module.

abbrev Lacks : Spaces → List CoreArgument → List Import → LinkWhy → Type 0
Lacks s arguments imports w = (name : List ℕ) × (w ≡ why.Missing name) × (first_told (import_lacks s arguments) imports ≡ Some name)

abbrev LacksOne : Import → Option (List CoreExport) → LinkWhy → Type 0
LacksOne i o w = (name : List ℕ) × (w ≡ why.Missing name) × (argument_lacking i o ≡ Some name)

found_one : (i : Import) (o : Option (List CoreExport)) → Answers (λ item. option_and_then (core_named i.name) o ≡ Some item) (LacksOne i o) (found_in i o)
found_one i None = (i.module, refl, refl)
found_one i (Some exports) = by (core_named i.name exports) refl
  where
    by : (o : Option CoreItem) → core_named i.name exports ≡ o → Answers (λ item. core_named i.name exports ≡ Some item) (LacksOne i (Some exports)) (there_or (why.Missing i.name) o)
    by None e = (i.name, refl, rw e refl)
    by (Some item) e = e

first_lacks : (a b : Option (List ℕ)) (name : List ℕ) → a ≡ Some name → first_of a b ≡ Some name
first_lacks a b name e = rw e refl

then_lacks : (a b : Option (List ℕ)) (name : List ℕ) → a ≡ None → b ≡ Some name → first_of a b ≡ Some name
then_lacks a b name e h = rw e h

found_all : (s : Spaces) (arguments : List CoreArgument) (imports : List Import) → Answers (λ items. AllZip (Found s arguments) imports items) (Lacks s arguments imports) (all_found s.core_instances arguments imports)
found_all s arguments [] = tt
found_all s arguments (i ∷ imports) =
    answers_after (λ items. AllZip (Found s arguments) (i ∷ imports) items) (Lacks s arguments (i ∷ imports)) (Found s arguments i) (LacksOne i (argument_named s.core_instances i.module arguments)) (found_in i (argument_named s.core_instances i.module arguments))
    (λ item. after (all_found s.core_instances arguments imports) (λ items. Ok (item ∷ items))) (found_one i (argument_named s.core_instances i.module arguments))
    (λ w (name, is, lacks). (name, is, first_lacks (import_lacks s arguments i) (first_told (import_lacks s arguments) imports) name lacks))
    (λ item found. answers_after (λ items. AllZip (Found s arguments) (i ∷ imports) items) (Lacks s arguments (i ∷ imports)) (λ items. AllZip (Found s arguments) imports items) (Lacks s arguments imports) (all_found s.core_instances arguments imports)
    (λ items. Ok (item ∷ items)) (found_all s arguments imports)
    (λ w (name, is, lacks). (name, is, then_lacks (import_lacks s arguments i) (first_told (import_lacks s arguments) imports) name (lacks_none i (argument_named s.core_instances i.module arguments) item found) lacks))
    (λ items others. (found, others)))

-- Core instances of modules.

abbrev OfModule : Linking → Spaces → ℕ → List CoreArgument → LinkWhy → Type 0
OfModule l s index arguments w = core_instance_has l s (made_core.Instantiate index arguments) w

abbrev MadeOf : Linking → ℕ → Spaces → ℕ → List CoreArgument → Outcome → Type 0
MadeOf l n s index arguments = MakesBy (core_instance_makes l n s (made_core.Instantiate index arguments))

-- what is behind the imports of a core module that are passed these items is sound
abbrev BehindImports : Linking → ℕ → Spaces → ℕ → List CoreArgument → ModuleTree → List CoreItem → Type 0
BehindImports l n s index arguments m items = Sound (OfModule l s index arguments) (MadeOf l n s index arguments) (only_if (nat_lt (length l.cores) instance_limit) why.Limit (Ok (Makes (core_made l n s m items))))

module_typed : (l : Linking) (n : ℕ) (s : Spaces) (index : ℕ) (arguments : List CoreArgument) (m : ModuleTree) (items : List CoreItem) → slice_get s.core_modules index ≡ Some m → AllByRecursion (IsThere s) arguments
    → AllZip (FindsItem s m arguments) m.imports items → AreDistinct (map (λ (a : CoreArgument). a.name) arguments) → Clear (OfModule l s index arguments) 3
    → BehindImports l n s index arguments m items
module_typed l n s index arguments m items is there found distinct clear =
    let P = OfModule l s index arguments in
    let typed = clear_typing P clear (λ h. elim h [
      | inl twice ↦ twice distinct
      | inr other ↦ some_zip (FindsItem s m arguments) (FindsOther s m arguments) (λ i item finds another. match_at (λ item. CoreFits m item i.desc → ⊥) (import_found s arguments i) item finds.0 another finds.1) m.imports items found
          (match_at (λ m. AnyByRecursion (FindsOther s m arguments) m.imports) (slice_get s.core_modules index) m is other)
    ]) in
    sound_if P (MadeOf l n s index arguments) (nat_lt (length l.cores) instance_limit) why.Limit (Ok (Makes (core_made l n s m items))) (clear_canon P typed (λ h. h)) (λ h. not_less (length l.cores) instance_limit h)
    (λ few. (m, items, is, there, found, distinct, less (length l.cores) instance_limit few, refl))

module_found : (l : Linking) (n : ℕ) (s : Spaces) (index : ℕ) (arguments : List CoreArgument) (m : ModuleTree) (items : List CoreItem) → slice_get s.core_modules index ≡ Some m → AllByRecursion (IsThere s) arguments
    → Clear (OfModule l s index arguments) 2 → AllZip (Found s arguments) m.imports items
    → Sound (OfModule l s index arguments) (BehindImports l n s index arguments m) (only_if (are_distinct (map (λ (a : CoreArgument). a.name) arguments) && all_fit m m.imports items) why.Typing (Ok items))
module_found l n s index arguments m items is there clear found =
    let P = OfModule l s index arguments in
    let names = map (λ (a : CoreArgument). a.name) arguments in
    let fitting = all_fit_or s m arguments m.imports items found in
    let none : first_told (import_lacks s arguments) m.imports ≡ None =
    none_told (Found s arguments) (import_lacks s arguments) (λ i item e. lacks_none i (argument_named s.core_instances i.module arguments) item e) m.imports items found in
    let missing = clear_missing P clear (λ name h. both_of (first_told (import_lacks s arguments) m.imports) name (match_at (λ m. first_told (import_lacks s arguments) m.imports ≡ Some name) (slice_get s.core_modules index) m is h) none) in
    sound_if P (BehindImports l n s index arguments m) (are_distinct names && all_fit m m.imports items) why.Typing (Ok items) missing
    (λ h. elim (one_fails (are_distinct names) (all_fit m m.imports items) h) [
      | inl twice ↦ inl (fails (are_distinct names) (distinct_told names) twice)
      | inr other ↦ inr (match_in (λ m. AnyByRecursion (FindsOther s m arguments) m.imports) (slice_get s.core_modules index) m is (fitting.1 other.1))
    ])
    (λ h. (let p = both (are_distinct names) (all_fit m m.imports items) h in
    module_typed l n s index arguments m items is there (fitting.0 p.1) ((distinct_told names).0 p.0) missing))

lacking_first : (l : Linking) (s : Spaces) (index : ℕ) (arguments : List CoreArgument) (m : ModuleTree) → slice_get s.core_modules index ≡ Some m → Clear (OfModule l s index arguments) 2 → (w : LinkWhy) → Lacks s arguments m.imports w → First (OfModule l s index arguments) w
lacking_first l s index arguments m is clear w (name, same, lacks) =
    subst (λ (w : LinkWhy). First (OfModule l s index arguments) w) (sym same)
    (let f : First (OfModule l s index arguments) (why.Missing name) = record { has = match_in (λ m. first_told (import_lacks s arguments) m.imports ≡ Some name) (slice_get s.core_modules index) m is lacks; clear = clear } in f)

arguments_there : (s : Spaces) (arguments : List CoreArgument) → (list_all (λ (a : CoreArgument). nat_lt a.instance (length s.core_instances)) arguments ≡ true → AllByRecursion (IsThere s) arguments)
    × (list_all (λ (a : CoreArgument). nat_lt a.instance (length s.core_instances)) arguments ≡ false → AnyByRecursion (λ (a : CoreArgument). length s.core_instances ≤ a.instance) arguments)
arguments_there s arguments =
    all_pass_or (λ (a : CoreArgument). nat_lt a.instance (length s.core_instances)) (IsThere s) (λ (a : CoreArgument). length s.core_instances ≤ a.instance)
    (λ a h. less a.instance (length s.core_instances) h) (λ a h. not_less a.instance (length s.core_instances) h) arguments

imports_sound : (l : Linking) (n : ℕ) (s : Spaces) (index : ℕ) (arguments : List CoreArgument) (m : ModuleTree) → slice_get s.core_modules index ≡ Some m
    → Sound (OfModule l s index arguments) (BehindImports l n s index arguments m) (imports_outcome s.core_instances m arguments)
imports_sound l n s index arguments m is =
    let P = OfModule l s index arguments in
    let Q = BehindImports l n s index arguments m in
    let root = clear_root P (λ h. h) in
    let within = arguments_there s arguments in
    sound_if P Q (list_all (λ (a : CoreArgument). nat_lt a.instance (length s.core_instances)) arguments) why.Index _ root (λ past. inr (within.1 past)) (λ passed.
    (let there = within.0 passed in
    let clear = clear_index P root (λ h. elim h [
      | inl none ↦ both_of (slice_get s.core_modules index) m is none
      | inr past ↦ some_all (IsThere s) (λ (a : CoreArgument). length s.core_instances ≤ a.instance) (λ a h k. omega arith) arguments there past
    ]) in
    sound_after P Q (λ items. AllZip (Found s arguments) m.imports items) (Lacks s arguments m.imports) (all_found s.core_instances arguments m.imports) _ (found_all s arguments m.imports)
    (lacking_first l s index arguments m is clear) (λ items found. module_found l n s index arguments m items is there clear found)))

module_sound : (l : Linking) (n : ℕ) (s : Spaces) (index : ℕ) (arguments : List CoreArgument) → Sound (OfModule l s index arguments) (MadeOf l n s index arguments) (core_instance_outcome l n s (made_core.Instantiate index arguments))
module_sound l n s index arguments =
    let P = OfModule l s index arguments in
    let Q = MadeOf l n s index arguments in
    sound_there P Q (slice_get s.core_modules index) why.Index _ (clear_root P (λ h. h)) (λ none. inl none)
    (λ m is. sound_behind P Q (imports_outcome s.core_instances m arguments) _ (imports_sound l n s index arguments m is))

-- Core instances of inline exports.

inline_all : (s : Spaces) (read : List CoreInlineExport) → Answers (λ exports. AllZip (IsInline s) read exports) (λ w. (w ≡ why.Typing) × AnyByRecursion (λ (e : CoreInlineExport). core_item_at s e.sort e.index ≡ None) read) (inline_exports s read)
inline_all s [] = tt
inline_all s (e ∷ read) =
    answers_there (λ exports. AllZip (IsInline s) (e ∷ read) exports) (λ w. (w ≡ why.Typing) × AnyByRecursion (λ (e : CoreInlineExport). core_item_at s e.sort e.index ≡ None) (e ∷ read)) (core_item_at s e.sort e.index) why.Typing _
    (λ none. (refl, inl none))
    (λ item is. answers_after (λ exports. AllZip (IsInline s) (e ∷ read) exports) (λ w. (w ≡ why.Typing) × AnyByRecursion (λ (e : CoreInlineExport). core_item_at s e.sort e.index ≡ None) (e ∷ read))
    (λ exports. AllZip (IsInline s) read exports) (λ w. (w ≡ why.Typing) × AnyByRecursion (λ (e : CoreInlineExport). core_item_at s e.sort e.index ≡ None) read) (inline_exports s read) _ (inline_all s read)
    (λ w h. (h.0, inr h.1)) (λ exports others. ((refl, is), others)))

abbrev OfInline : Linking → Spaces → List CoreInlineExport → LinkWhy → Type 0
OfInline l s read w = core_instance_has l s (made_core.Inline read) w

inline_sound : (l : Linking) (n : ℕ) (s : Spaces) (read : List CoreInlineExport) → Sound (OfInline l s read) (MakesBy (core_instance_makes l n s (made_core.Inline read))) (core_instance_outcome l n s (made_core.Inline read))
inline_sound l n s read =
    let P = OfInline l s read in
    let Q = (λ (exports : List CoreExport). core_instance_makes l n s (made_core.Inline read) (with_spaces l n (with_core_instance s exports))) in
    let names = map (λ (e : CoreInlineExport). e.name) read in
    let root = clear_root P (λ h. h) in
    let within = all_pass_or (λ (e : CoreInlineExport). nat_lt e.index (core_size s e.sort)) (λ (e : CoreInlineExport). e.index < core_size s e.sort) (λ (e : CoreInlineExport). core_size s e.sort ≤ e.index)
    (λ e h. less e.index (core_size s e.sort) h) (λ e h. not_less e.index (core_size s e.sort) h) read in
    sound_behind P (MakesBy (core_instance_makes l n s (made_core.Inline read))) (inline_outcome s read) _ (
    sound_if P Q (list_all (λ (e : CoreInlineExport). nat_lt e.index (core_size s e.sort)) read) why.Index _ root (λ past. within.1 past) (λ passed.
    (let index = clear_index P root (λ h. some_all (λ (e : CoreInlineExport). e.index < core_size s e.sort) (λ (e : CoreInlineExport). core_size s e.sort ≤ e.index) (λ e h k. omega arith) read (within.0 passed) h) in
    let missing = clear_missing P index (λ name h. h) in
    sound_if P Q (are_distinct names) why.Typing _ missing (λ twice. inl (fails (are_distinct names) (distinct_told names) twice)) (λ apart.
    sound_told P Q (λ exports. AllZip (IsInline s) read exports) (λ w. (w ≡ why.Typing) × AnyByRecursion (λ (e : CoreInlineExport). core_item_at s e.sort e.index ≡ None) read) (inline_exports s read) (inline_all s read)
    (λ w h. subst (λ (w : LinkWhy). First P w) (sym h.0) (let f : First P why.Typing = record { has = inr h.1; clear = missing } in f))
    (λ exports are. (exports, are, (distinct_told names).0 apart, refl))))))

pub core_instance_sound : (l : Linking) (n : ℕ) (s : Spaces) (c : CoreInstance) → Sound (core_instance_has l s c) (MakesBy (core_instance_makes l n s c)) (core_instance_outcome l n s c)
core_instance_sound l n s (made_core.Instantiate index arguments) = module_sound l n s index arguments
core_instance_sound l n s (made_core.Inline read) = inline_sound l n s read

-- Definitions under their names.

named_behind : (s : Spaces) (before : Exports) (read : List NamedDefinition) → Answers (λ exports. AreNamed s before read exports) (λ w. (w ≡ why.Typing) × AnyByRecursion (λ (d : NamedDefinition). definition_at s d.sort d.index ≡ None) read) (exports_behind s before read)
named_behind s before [] = refl
named_behind s before (d ∷ read) =
    answers_there (λ exports. AreNamed s before (d ∷ read) exports) (λ w. (w ≡ why.Typing) × AnyByRecursion (λ (d : NamedDefinition). definition_at s d.sort d.index ≡ None) (d ∷ read)) (definition_at s d.sort d.index) why.Typing _
    (λ none. (refl, inl none))
    (λ x is. more x is (exports_behind s (WithExport before d.name x) read) (named_behind s (WithExport before d.name x) read))
  where
    more : (x : Definition) → definition_at s d.sort d.index ≡ Some x → (r : Result Exports LinkWhy)
        → Answers (λ exports. AreNamed s (WithExport before d.name x) read exports) (λ w. (w ≡ why.Typing) × AnyByRecursion (λ (d : NamedDefinition). definition_at s d.sort d.index ≡ None) read) r
        → Answers (λ exports. AreNamed s before (d ∷ read) exports) (λ w. (w ≡ why.Typing) × AnyByRecursion (λ (d : NamedDefinition). definition_at s d.sort d.index ≡ None) (d ∷ read)) r
    more x is (Ok exports) h = (x, is, h)
    more x is (Err w) h = (h.0, inr h.1)

abbrev AreGiven : Spaces → List NamedDefinition → Exports → Type 0
AreGiven s read exports = AreNamed s EmptyInstance read exports × AreDistinct (map (λ (d : NamedDefinition). d.name) read)

named_sound : (s : Spaces) (read : List NamedDefinition) → Sound (named_have s read) (AreGiven s read) (named_exports s read)
named_sound s read =
    let P = named_have s read in
    let Q = AreGiven s read in
    let names = map (λ (d : NamedDefinition). d.name) read in
    let root = clear_root P (λ h. h) in
    let within = all_pass_or (λ (d : NamedDefinition). nat_lt d.index (size_of s d.sort)) (λ (d : NamedDefinition). d.index < size_of s d.sort) (λ (d : NamedDefinition). size_of s d.sort ≤ d.index)
    (λ d h. less d.index (size_of s d.sort) h) (λ d h. not_less d.index (size_of s d.sort) h) read in
    sound_if P Q (list_all (λ (d : NamedDefinition). nat_lt d.index (size_of s d.sort)) read) why.Index _ root (λ past. within.1 past) (λ passed.
    (let index = clear_index P root (λ h. some_all (λ (d : NamedDefinition). d.index < size_of s d.sort) (λ (d : NamedDefinition). size_of s d.sort ≤ d.index) (λ d h k. omega arith) read (within.0 passed) h) in
    let missing = clear_missing P index (λ name h. h) in
    sound_if P Q (are_distinct names) why.Typing _ missing (λ twice. inl (fails (are_distinct names) (distinct_told names) twice)) (λ apart.
    sound_told P Q (λ exports. AreNamed s EmptyInstance read exports) (λ w. (w ≡ why.Typing) × AnyByRecursion (λ (d : NamedDefinition). definition_at s d.sort d.index ≡ None) read) (exports_behind s EmptyInstance read) (named_behind s EmptyInstance read)
    (λ w h. subst (λ (w : LinkWhy). First P w) (sym h.0) (let f : First P why.Typing = record { has = inr h.1; clear = missing } in f))
    (λ exports named. (named, (distinct_told names).0 apart)))))

-- Instances.

-- an item that begins an instance, by what it instantiates
pub record BeginsBy (l : Linking) (s : Spaces) (i : made_of.Instance) (c : Closure) (arguments : Exports) : Type 0 where
  pub index : ℕ
  pub named : List NamedDefinition
  pub is : i ≡ made.Instantiate index named
  pub component : slice_get s.components index ≡ Some c
  pub given : AreNamed s EmptyInstance named arguments
  pub distinct : AreDistinct (map (λ (d : NamedDefinition). d.name) named)
  pub few : length l.scopes < instance_limit

abbrev pub InstanceComes : Linking → ℕ → Spaces → made_of.Instance → Outcome → Type 0
InstanceComes l n s i (Makes new) = instance_makes l n s i new
InstanceComes l n s i (Starts c given) = BeginsBy l s i c given

abbrev OfComponent : Linking → Spaces → ℕ → List NamedDefinition → LinkWhy → Type 0
OfComponent l s component arguments w = instance_has l s (made.Instantiate component arguments) w

-- the first reason that arguments have is the first of the instantiation, where the component is there
given_first : (l : Linking) (s : Spaces) (component : ℕ) (arguments : List NamedDefinition) (c : Closure) → slice_get s.components component ≡ Some c → (w : LinkWhy) → First (named_have s arguments) w → First (OfComponent l s component arguments) w
given_first l s component arguments c is why.Index f = record { has = inr f.has; clear = clear_root (OfComponent l s component arguments) (λ h. h) }
given_first l s component arguments c is why.Typing f = record { has = f.has; clear = missing }
  where
    missing : Clear (OfComponent l s component arguments) 3
    missing =
        clear_missing (OfComponent l s component arguments) (clear_index (OfComponent l s component arguments) (clear_root (OfComponent l s component arguments) (λ h. h)) (λ h. elim h [
          | inl none ↦ both_of (slice_get s.components component) c is none
          | inr past ↦ f.clear why.Index (omega arith) past
        ])) (λ name h. h)
given_first l s component arguments c is why.RootImport f = absurd f.has
given_first l s component arguments c is (why.Missing name) f = absurd f.has
given_first l s component arguments c is why.Canon f = absurd f.has
given_first l s component arguments c is why.Limit f = absurd f.has

sound_given : (s : Spaces) (read : List NamedDefinition) (r : Result Exports LinkWhy) → Sound (named_have s read) (AreGiven s read) r → Answers (AreGiven s read) (First (named_have s read)) r
sound_given s read (Ok exports) h = h
sound_given s read (Err w) h = h

component_sound : (l : Linking) (n : ℕ) (s : Spaces) (component : ℕ) (arguments : List NamedDefinition) → Sound (OfComponent l s component arguments) (InstanceComes l n s (made.Instantiate component arguments)) (instance_outcome l n s (made.Instantiate component arguments))
component_sound l n s component arguments =
    let P = OfComponent l s component arguments in
    let Q = InstanceComes l n s (made.Instantiate component arguments) in
    let root = clear_root P (λ h. h) in
    sound_there P Q (slice_get s.components component) why.Index _ root (λ none. inl none) (λ c is.
    sound_after P Q (AreGiven s arguments) (First (named_have s arguments)) (named_exports s arguments) _ (sound_given s arguments (named_exports s arguments) (named_sound s arguments))
    (given_first l s component arguments c is) (λ given are.
    (let index = clear_index P root (λ h. elim h [
      | inl none ↦ both_of (slice_get s.components component) c is none
      | inr past ↦ named_excludes s EmptyInstance arguments given why.Index are.0 are.1 past
    ]) in
    let typed = clear_typing P (clear_missing P index (λ name h. h)) (λ h. named_excludes s EmptyInstance arguments given why.Typing are.0 are.1 h) in
    sound_if P Q (nat_lt (length l.scopes) instance_limit) why.Limit _ (clear_canon P typed (λ h. h)) (λ h. not_less (length l.scopes) instance_limit h)
    (λ few. record { index = component; named = arguments; is = refl; component = is; given = are.0; distinct = are.1; few = less (length l.scopes) instance_limit few }))))

pub instance_sound : (l : Linking) (n : ℕ) (s : Spaces) (i : made_of.Instance) → Sound (instance_has l s i) (InstanceComes l n s i) (instance_outcome l n s i)
instance_sound l n s (made.Instantiate component arguments) = component_sound l n s component arguments
instance_sound l n s (made.Inline read) =
    sound_after (instance_has l s (made.Inline read)) (InstanceComes l n s (made.Inline read)) (AreGiven s read) (First (named_have s read)) (named_exports s read) _ (sound_given s read (named_exports s read) (named_sound s read))
    (λ w f. (let g : First (instance_has l s (made.Inline read)) w = record { has = f.has; clear = f.clear } in g)) (λ exports are. (exports, are.0, are.1, refl))

-- What core modules and types have that are read of bytes with some property, all items of a component have that is read of such bytes,
-- at any depth.
use Rattle.std.proofs.Common.{◌≡◌, ℕ, zero, suc, Bool, true, false, List, [], ◌∷◌, sym, subst, rules}
use Rattle.std.specs.Prelude.{◌==◌}
use Rattle.std.specs.List.{AllByRecursion}
use Rattle.ca_base.specs.Grammar.{Grammar, Give, Refuse, Here, Left, Byte, Choose, ◌>>=◌}
use Rattle.ca_base.specs.Items.{fixed, u32, placed, vec, placed_vec, many, sized, joined}
use Rattle.ca_base.specs.declared.placed.Placed.{Placed}
use Rattle.wasm_reader.proofs.Ranges.{Gives, placed_gives, times_give}
use Rattle.comp_tree.specs.declared.core_instances.CoreInstance.{CoreInstance}
use Rattle.comp_tree.specs.declared.core_instances.CoreInstance.TheVariants as made_core
use Rattle.comp_tree.specs.declared.instances.Instance as made_of
use Rattle.comp_tree.specs.declared.instances.Instance.TheVariants as made
use Rattle.comp_tree.specs.declared.instances.Alias as aliased
use Rattle.comp_tree.specs.declared.externs.Import as imported
use Rattle.comp_tree.specs.declared.externs.Export as exported
use Rattle.comp_tree.specs.declared.items.Canon.{Canon}
use Rattle.comp_tree.specs.declared.items.Item.{Item, out-Item}
use Rattle.comp_tree.specs.declared.items.Item.TheOpen.{Item-F}
use Rattle.comp_tree.specs.declared.items.Item.TheVariants as item
use Rattle.comp_tree.specs.declared.items.Item.TheViews.{the_lemmas}
use Rattle.comp_tree.specs.declared.items.Component.{Component}
use Rattle.part_reader.specs.declared.fault.ComponentWhy.{ComponentWhy}
use Rattle.part_reader.specs.declared.fault.ComponentWhy.TheVariants.{Unsupported, Magic}
use Rattle.comp_reader.specs.Binary.{core_module, core_argument, core_inline_export, core_instance, argument, inline_export, instance, alias_item, type_item, canon_item, import, export, custom_items, module_items, component_items, plain_payload, payload, is_section, preamble, component_of, component_within, depth_limit, IsComponent}
use Rattle.comp_reader.specs.Binary as file
use Rattle.part_reader.specs.Reasons.{numbers, reasons, unsupported}
use Rattle.link_spec.proofs.Holding.{all_both}
use Rattle.graph_laws.proofs.Bytes.{matches_bytes, GivesOn, choice_on, times_on, placed_on, sized_on}

-- What items have by their shapes, where all shapes have it but core modules and types, and what lists of such items have.
pub record AreShapes (S : Item-F Item Component → Type 0) (L : List (Placed Item) → Type 0) : Type 0 where
  pub none : L []
  pub more : (placed : Placed Item) (items : List (Placed Item)) → S (out-Item placed.item) → L items → L (placed ∷ items)
  pub nested : (c : Component) → L c.items → S (Item-F.Component c)
  pub core_instances : (i : CoreInstance) → S (Item-F.CoreInstance i)
  pub instances : (i : made_of.Instance) → S (Item-F.Instance i)
  pub aliases : (a : aliased.Alias) → S (Item-F.Alias a)
  pub canons : (c : Canon) → S (Item-F.Canon c)
  pub imports : (i : imported.Import) → S (Item-F.Import i)
  pub exports : (e : exported.Export) → S (Item-F.Export e)

-- The grammars of items, and of sections, but for those before.
abbrev core_instantiated : Grammar ComponentWhy Item
core_instantiated = do
  index ← u32 numbers
  arguments ← vec numbers core_argument
  Give (item.CoreInstance (made_core.Instantiate index arguments))

abbrev core_inlined : Grammar ComponentWhy Item
core_inlined = do
  exports ← vec numbers core_inline_export
  Give (item.CoreInstance (made_core.Inline exports))

abbrev instantiated : Grammar ComponentWhy Item
instantiated = do
  index ← u32 numbers
  arguments ← vec numbers argument
  Give (item.Instance (made.Instantiate index arguments))

abbrev inlined : Grammar ComponentWhy Item
inlined = do
  exports ← vec numbers inline_export
  Give (item.Instance (made.Inline exports))

-- the payloads, but for those before
abbrev without_canons : ℕ → Grammar ComponentWhy (List (Placed Item))
without_canons id = Choose (id == 10) (placed_vec numbers import) (placed_vec numbers export)

abbrev without_types : ℕ → Grammar ComponentWhy (List (Placed Item))
without_types id = Choose (id == 8) (placed_vec numbers canon_item) (without_canons id)

abbrev without_aliases : ℕ → Grammar ComponentWhy (List (Placed Item))
without_aliases id = Choose (id == 7) (placed_vec numbers type_item) (without_types id)

abbrev without_instances : ℕ → Grammar ComponentWhy (List (Placed Item))
without_instances id = Choose (id == 6) (placed_vec numbers alias_item) (without_aliases id)

abbrev without_core_instances : ℕ → Grammar ComponentWhy (List (Placed Item))
without_core_instances id = Choose (id == 5) (placed_vec numbers instance) (without_instances id)

abbrev without_modules : ℕ → Grammar ComponentWhy (List (Placed Item))
without_modules id = Choose (id == 2) (placed_vec numbers core_instance) (without_core_instances id)

abbrev without_customs : ℕ → Grammar ComponentWhy (List (Placed Item))
without_customs id = Choose (id == 1) module_items (without_modules id)

choice_gives : {W A : Type 0} (P : A → Type 0) (g k : Grammar W A) → Gives P g → Gives P k → (b : Bool) → Gives P (Choose b g k)
choice_gives P g k h i true s x t m = h s x t m
choice_gives P g k h i false s x t m = i s x t m

nothing_gives : {W A : Type 0} (P : A → Type 0) (place : ℕ) (why : W) → Gives P (Refuse place why)
nothing_gives P place why s x t m = absurd m

module _ (S : Item-F Item Component → Type 0) (L : List (Placed Item) → Type 0) (are : AreShapes S L) where
  abbrev ItemIs : Item → Type 0
  ItemIs i = S (out-Item i)

  abbrev ArePlaced : List (Placed Item) → Type 0
  ArePlaced ps = AllByRecursion (λ p. ItemIs p.item) ps

  abbrev AreOf : Component → Type 0
  AreOf c = L c.items

  as_shape : (i : Item) (shape : Item-F Item Component) → out-Item i ≡ shape → S shape → ItemIs i
  as_shape i shape e h = subst S (sym e) h

  nested_has : (c : Component) → L c.items → ItemIs (item.Component c)
  nested_has c h = as_shape (item.Component c) (Item-F.Component c) (search (rules, the_lemmas)) (are.nested c h)

  core_instance_has : (i : CoreInstance) → ItemIs (item.CoreInstance i)
  core_instance_has i = as_shape (item.CoreInstance i) (Item-F.CoreInstance i) (search (rules, the_lemmas)) (are.core_instances i)

  instance_has : (i : made_of.Instance) → ItemIs (item.Instance i)
  instance_has i = as_shape (item.Instance i) (Item-F.Instance i) (search (rules, the_lemmas)) (are.instances i)

  canon_has : (c : Canon) → ItemIs (item.Canon c)
  canon_has c = as_shape (item.Canon c) (Item-F.Canon c) (search (rules, the_lemmas)) (are.canons c)

  alias_has : (a : aliased.Alias) → ItemIs (item.Alias a)
  alias_has a = as_shape (item.Alias a) (Item-F.Alias a) (search (rules, the_lemmas)) (are.aliases a)

  import_has : (i : imported.Import) → ItemIs (item.Import i)
  import_has i = as_shape (item.Import i) (Item-F.Import i) (search (rules, the_lemmas)) (are.imports i)

  export_has : (e : exported.Export) → ItemIs (item.Export e)
  export_has e = as_shape (item.Export e) (Item-F.Export e) (search (rules, the_lemmas)) (are.exports e)

  core_instance_gives : Gives ItemIs core_instance
  unfolding core_instance
  core_instance_gives s x t m =
      let b = m.3.0 in
      choice_gives ItemIs core_instantiated (Choose (b == 1) core_inlined (unsupported m.0 b))
      (λ u y v n. subst ItemIs (sym n.3.3.0) (core_instance_has (made_core.Instantiate n.0 n.3.0)))
      (choice_gives ItemIs core_inlined (unsupported m.0 b)
      (λ u y v n. subst ItemIs (sym n.3.0) (core_instance_has (made_core.Inline n.0)))
      (nothing_gives ItemIs m.0 (Unsupported b)) (b == 1)) (b == 0) m.3.1 x t m.3.3

  instance_gives : Gives ItemIs instance
  unfolding instance
  instance_gives s x t m =
      let b = m.3.0 in
      choice_gives ItemIs instantiated (Choose (b == 1) inlined (unsupported m.0 b))
      (λ u y v n. subst ItemIs (sym n.3.3.0) (instance_has (made.Instantiate n.0 n.3.0)))
      (choice_gives ItemIs inlined (unsupported m.0 b)
      (λ u y v n. subst ItemIs (sym n.3.0) (instance_has (made.Inline n.0)))
      (nothing_gives ItemIs m.0 (Unsupported b)) (b == 1)) (b == 0) m.3.1 x t m.3.3

  alias_gives : Gives ItemIs alias_item
  unfolding alias_item
  alias_gives s x t m = subst ItemIs (sym m.3.0) (alias_has m.0)

  canon_gives : Gives ItemIs canon_item
  unfolding canon_item
  canon_gives s x t m = subst ItemIs (sym m.3.0) (canon_has m.0)

  import_gives : Gives ItemIs import
  unfolding import
  import_gives s x t m = subst ItemIs (sym m.3.3.0) (import_has (record { name = m.0; desc = m.3.0 }))

  export_gives : Gives ItemIs export
  unfolding export
  export_gives s x t m = subst ItemIs (sym m.3.3.3.3.0) (export_has (record { name = m.0; sort = m.3.0; index = m.3.3.0; desc = m.3.3.3.0 }))

  joined_have : (parts : List (List (Placed Item))) → AllByRecursion ArePlaced parts → ArePlaced (joined parts)
  joined_have [] h = tt
  joined_have (part ∷ parts) h = all_both (λ (p : Placed Item). ItemIs p.item) part (joined parts) h.0 (joined_have parts h.1)

  placed_are : (items : List (Placed Item)) → ArePlaced items → L items
  placed_are [] h = are.none
  placed_are (placed ∷ items) h = are.more placed items h.0 (placed_are items h.1)

  -- Sections, where core modules and types are read of bytes that have a property.
  module _ (Q : ℕ → Type 0) (modules : GivesOn Q ItemIs core_module) (types : GivesOn Q ItemIs type_item) where
    vec_on : (g : Grammar ComponentWhy Item) → Gives ItemIs g → GivesOn Q ArePlaced (placed_vec numbers g)
    vec_on g h s x t bytes m = times_give (λ (p : Placed Item). ItemIs p.item) (placed g) (placed_gives ItemIs g h) m.0 m.1 x t m.3

    types_on : GivesOn Q ArePlaced (placed_vec numbers type_item)
    types_on s x t bytes m =
        times_on Q (λ (p : Placed Item). ItemIs p.item) (placed type_item) (placed_on Q ItemIs type_item types) m.0 m.1 x t (matches_bytes Q (u32 numbers) s m.0 m.1 bytes m.2) m.3

    custom_on : GivesOn Q ArePlaced custom_items
    unfolding custom_items
    custom_on s x t bytes m = subst ArePlaced (sym m.3.0) tt

    nested_on : (inner : Grammar ComponentWhy Component) → GivesOn Q AreOf inner → GivesOn Q ArePlaced (component_items inner)
    unfolding component_items
    nested_on inner h s x t bytes m = subst ArePlaced (sym m.3.3.0) (nested_has m.3.0 (h m.1 m.3.0 m.3.1 (matches_bytes Q Here s m.0 m.1 bytes m.2) m.3.2), tt)

    many_tested : (g : Grammar ComponentWhy (List (Placed Item))) (others : Grammar ComponentWhy (List (List (Placed Item)))) → GivesOn Q ArePlaced g → GivesOn Q (AllByRecursion ArePlaced) others
        → (b : Bool) → GivesOn Q (AllByRecursion ArePlaced) (Choose b (Give []) (g >>= (λ first. others >>= (λ more. Give (first ∷ more)))))
    many_tested g others h r true s x t bytes m = subst (AllByRecursion ArePlaced) (sym m.0) tt
    many_tested g others h r false s x t bytes m =
        subst (AllByRecursion ArePlaced) (sym m.3.3.0) (h s m.0 m.1 bytes m.2, r m.1 m.3.0 m.3.1 (matches_bytes Q g s m.0 m.1 bytes m.2) m.3.2)

    many_on : (g : Grammar ComponentWhy (List (Placed Item))) → GivesOn Q ArePlaced g → (count : ℕ) → GivesOn Q (AllByRecursion ArePlaced) (many count g)
    unfolding many
    many_on g h zero s x t bytes m = subst (AllByRecursion ArePlaced) (sym m.0) tt
    many_on g h (suc count) s x t bytes m =
        many_tested g (many count g) h (λ u y v c n. many_on g h count u y v c n) _ m.1 x t (matches_bytes Q Left s m.0 m.1 bytes m.2) m.3

    module_on : GivesOn Q ArePlaced module_items
    unfolding module_items
    module_on s x t bytes m = subst ArePlaced (sym m.3.0) (placed_on Q ItemIs core_module modules s m.0 m.1 bytes m.2, tt)

    plain_on : (id : ℕ) → GivesOn Q ArePlaced (plain_payload id)
    unfolding plain_payload
    plain_on id =
        choice_on Q ArePlaced custom_items (without_customs id) custom_on
        (choice_on Q ArePlaced module_items (without_modules id) module_on
        (choice_on Q ArePlaced (placed_vec numbers core_instance) (without_core_instances id) (vec_on core_instance core_instance_gives)
        (choice_on Q ArePlaced (placed_vec numbers instance) (without_instances id) (vec_on instance instance_gives)
        (choice_on Q ArePlaced (placed_vec numbers alias_item) (without_aliases id) (vec_on alias_item alias_gives)
        (choice_on Q ArePlaced (placed_vec numbers type_item) (without_types id) types_on
        (choice_on Q ArePlaced (placed_vec numbers canon_item) (without_canons id) (vec_on canon_item canon_gives)
        (choice_on Q ArePlaced (placed_vec numbers import) (placed_vec numbers export) (vec_on import import_gives) (vec_on export export_gives) (id == 10))
        (id == 8)) (id == 7)) (id == 6)) (id == 5)) (id == 2)) (id == 1)) (id == 0)

    payload_on : (inner : Grammar ComponentWhy Component) (id : ℕ) → GivesOn Q AreOf inner → GivesOn Q ArePlaced (payload inner id)
    unfolding payload
    payload_on inner id h = choice_on Q ArePlaced (component_items inner) (plain_payload id) (nested_on inner h) (plain_on id) (id == 4)

    section_on : (inner : Grammar ComponentWhy Component) → GivesOn Q AreOf inner → GivesOn Q ArePlaced (file.section inner)
    unfolding file.section
    section_on inner h s x t bytes m =
        let id = m.3.0 in
        choice_on Q ArePlaced (sized numbers reasons (payload inner id)) (unsupported m.0 id)
        (sized_on Q ArePlaced numbers reasons (payload inner id) (payload_on inner id h)) (λ u y v c n. absurd n)
        (is_section id) m.3.1 x t (matches_bytes Q Byte m.1 m.3.0 m.3.1 (matches_bytes Q Here s m.0 m.1 bytes m.2) m.3.2) m.3.3

    component_on : (inner : Grammar ComponentWhy Component) → GivesOn Q AreOf inner → GivesOn Q AreOf (component_of inner)
    unfolding component_of
    component_on inner h s c t bytes m =
        let sections = m.3.0 in
        let at_count = matches_bytes Q (fixed Magic preamble) s m.0 m.1 bytes m.2 in
        let at_items = matches_bytes Q Left m.1 m.3.2.0 m.3.2.1 at_count m.3.2.2 in
        let all = many_on (file.section inner) (section_on inner h) m.3.2.0 m.3.2.1 sections m.3.1 at_items m.3.2.3 in
        subst AreOf (sym m.3.3.3.0) (placed_are (joined sections) (joined_have sections all))

    within_on : (more : ℕ) → GivesOn Q AreOf (component_within more)
    unfolding component_within
    within_on zero s c t bytes m = absurd m.3
    within_on (suc more) s c t bytes m = component_on (component_within more) (within_on more) s c t bytes m

    pub component_has : (bytes : List ℕ) (c : Component) → AllByRecursion Q bytes → IsComponent bytes c → L c.items
    component_has bytes c h m = within_on depth_limit (file.file bytes) c (file.file_end bytes) h m

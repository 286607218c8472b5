-- What each core module has that is read of bytes with some property, each module has that stands in a component that is read of such
-- bytes, at any depth.
use Rattle.std.proofs.Common.{◌≡◌, ℕ, List, [], ◌∷◌, sym, subst, rules}
use Rattle.std.specs.List.{AllByRecursion}
use Rattle.ca_base.specs.Items.{placed}
use Rattle.ca_base.specs.declared.placed.Placed.{Placed}
use Rattle.syntax_trees.specs.declared.module.ModuleTree.{ModuleTree}
use Rattle.comp_tree.specs.declared.core_instances.CoreInstance.{CoreInstance}
use Rattle.comp_tree.specs.declared.instances.Instance as made_of
use Rattle.comp_tree.specs.declared.instances.Alias as aliased
use Rattle.comp_tree.specs.declared.externs.Import as imported
use Rattle.comp_tree.specs.declared.externs.Export as exported
use Rattle.comp_tree.specs.declared.types.DefType.{DefType}
use Rattle.comp_tree.specs.declared.items.Canon.{Canon}
use Rattle.comp_tree.specs.declared.items.Item.{Item, out-Item}
use Rattle.comp_tree.specs.declared.items.Item.TheOpen.{Item-F}
use Rattle.comp_tree.specs.declared.items.Item.TheVariants as item
use Rattle.comp_tree.specs.declared.items.Item.TheViews.{the_lemmas}
use Rattle.comp_tree.specs.declared.items.Component.{Component}
use Rattle.comp_reader.specs.Binary.{core_module, type_item, IsComponent}
use Rattle.link_spec.proofs.Modules.{ModulesHave, ShapeHas, none_have, more_have}
use Rattle.graph_laws.proofs.Bytes.{GivesOn}
use Rattle.graph_laws.proofs.ItemsRead.{AreShapes}
use Rattle.graph_laws.proofs.ItemsRead as items_read

-- an item that has this, if it is a core module, or a component whose modules have it
abbrev pub ItemHas : (ModuleTree → Type 0) → Item → Type 0
ItemHas R i = ShapeHas R (out-Item i)

abbrev pub PlacedHave : (ModuleTree → Type 0) → List (Placed Item) → Type 0
PlacedHave R ps = AllByRecursion (λ p. ItemHas R p.item) ps

module _ (R : ModuleTree → Type 0) where
  as_shape : (i : Item) (shape : Item-F Item Component) → out-Item i ≡ shape → ShapeHas R shape → ItemHas R i
  as_shape i shape e h = subst (ShapeHas R) (sym e) h

  pub module_has : (m : ModuleTree) → R m → ItemHas R (item.CoreModule m)
  module_has m h = as_shape (item.CoreModule m) (Item-F.CoreModule m) (search (rules, the_lemmas)) h

  pub nested_has : (c : Component) → ModulesHave R c.items → ItemHas R (item.Component c)
  nested_has c h = as_shape (item.Component c) (Item-F.Component c) (search (rules, the_lemmas)) h

  pub core_instance_has : (i : CoreInstance) → ItemHas R (item.CoreInstance i)
  core_instance_has i = as_shape (item.CoreInstance i) (Item-F.CoreInstance i) (search (rules, the_lemmas)) tt

  pub instance_has : (i : made_of.Instance) → ItemHas R (item.Instance i)
  instance_has i = as_shape (item.Instance i) (Item-F.Instance i) (search (rules, the_lemmas)) tt

  pub canon_has : (c : Canon) → ItemHas R (item.Canon c)
  canon_has c = as_shape (item.Canon c) (Item-F.Canon c) (search (rules, the_lemmas)) tt

  pub alias_has : (a : aliased.Alias) → ItemHas R (item.Alias a)
  alias_has a = as_shape (item.Alias a) (Item-F.Alias a) (search (rules, the_lemmas)) tt

  pub type_has : (t : DefType) → ItemHas R (item.Type t)
  type_has t = as_shape (item.Type t) (Item-F.Type t) (search (rules, the_lemmas)) tt

  pub import_has : (i : imported.Import) → ItemHas R (item.Import i)
  import_has i = as_shape (item.Import i) (Item-F.Import i) (search (rules, the_lemmas)) tt

  pub export_has : (e : exported.Export) → ItemHas R (item.Export e)
  export_has e = as_shape (item.Export e) (Item-F.Export e) (search (rules, the_lemmas)) tt

  pub placed_have : (items : List (Placed Item)) → PlacedHave R items → ModulesHave R items
  placed_have [] h = none_have R
  placed_have (placed ∷ items) h = more_have R placed items h.0 (placed_have items h.1)

  -- All shapes but core modules have it.
  modules_read : AreShapes (ShapeHas R) (ModulesHave R)
  modules_read = record {
    none = none_have R;
    more = more_have R;
    nested = λ c h. h;
    core_instances = λ i. tt;
    instances = λ i. tt;
    aliases = λ a. tt;
    canons = λ c. tt;
    imports = λ i. tt;
    exports = λ e. tt;
  }

  types_on : (Q : ℕ → Type 0) → GivesOn Q (ItemHas R) type_item
  unfolding type_item
  types_on Q s x t bytes m = subst (ItemHas R) (sym m.3.0) (type_has m.0)

  pub component_has : (Q : ℕ → Type 0) → GivesOn Q (ItemHas R) core_module → (bytes : List ℕ) (c : Component) → AllByRecursion Q bytes → IsComponent bytes c → ModulesHave R c.items
  component_has Q modules bytes c h m = items_read.component_has (ShapeHas R) (ModulesHave R) modules_read Q modules (types_on Q) bytes c h m

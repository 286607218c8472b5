-- Each type that stands in a component that is read of bytes is written with few labels, at any depth.
use Rattle.std.proofs.Common.{◌≡◌, ℕ, true, false, List, sym, subst, rules}
use Rattle.syntax_trees.specs.declared.module.ModuleTree.{ModuleTree}
use Rattle.comp_tree.specs.declared.types.DefType.{DefType}
use Rattle.comp_tree.specs.declared.items.Item.{Item, out-Item}
use Rattle.comp_tree.specs.declared.items.Item.TheOpen.{Item-F}
use Rattle.comp_tree.specs.declared.items.Item.TheVariants as item
use Rattle.comp_tree.specs.declared.items.Item.TheViews.{the_lemmas}
use Rattle.comp_tree.specs.declared.items.Component.{Component}
use Rattle.comp_reader.specs.Binary.{core_module, type_item, IsComponent}
use Rattle.lowering_laws.specs.Values.{AreBytes}
use Rattle.graph_laws.proofs.Bytes.{IsByte, GivesOn}
use Rattle.graph_laws.proofs.ItemsRead.{AreShapes, component_has}
use Rattle.graph_laws.proofs.TypesRead.{read_type_few}
use Rattle.graph_laws.proofs.TypesStand.{has_few, TypesHave, ShapeHas, none_have, more_have}

abbrev ItemHas : Item → Type 0
ItemHas i = ShapeHas true false (out-Item i)

as_shape : (i : Item) (shape : Item-F Item Component) → out-Item i ≡ shape → ShapeHas true false shape → ItemHas i
as_shape i shape e h = subst (ShapeHas true false) (sym e) h

module_has : (m : ModuleTree) → ItemHas (item.CoreModule m)
module_has m = as_shape (item.CoreModule m) (Item-F.CoreModule m) (search (rules, the_lemmas)) tt

type_has : (t : DefType) → has_few true false t ≡ true → ItemHas (item.Type t)
type_has t h = as_shape (item.Type t) (Item-F.Type t) (search (rules, the_lemmas)) h

-- All shapes but types are so.
types_read : AreShapes (ShapeHas true false) (TypesHave true false)
types_read = record {
  none = none_have true false;
  more = more_have true false;
  nested = λ c h. h;
  core_instances = λ i. tt;
  instances = λ i. tt;
  aliases = λ a. tt;
  canons = λ c. tt;
  imports = λ i. tt;
  exports = λ e. tt;
}

modules_on : GivesOn IsByte ItemHas core_module
unfolding core_module
modules_on s x t bytes m = subst ItemHas (sym m.3.3.0) (module_has m.3.0)

types_on : GivesOn IsByte ItemHas type_item
unfolding type_item
types_on s x t bytes m = subst ItemHas (sym m.3.0) (type_has m.0 (read_type_few s m.0 m.1 bytes m.2))

pub types_have : (bytes : List ℕ) (c : Component) → AreBytes bytes → IsComponent bytes c → TypesHave true false c.items
types_have bytes c h m = component_has (ShapeHas true false) (TypesHave true false) types_read IsByte modules_on types_on bytes c h m

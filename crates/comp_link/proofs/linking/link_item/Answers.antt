use Rattle.std.proofs.Common.{◌≡◌, refl}
use Rattle.comp_tree.specs.declared.items.Item.{out-Item}
use Rattle.comp_tree.specs.declared.items.Item.TheOpen.{Item-F}
use Rattle.comp_tree.specs.declared.items.Item.TheViews.{outs-CoreModule, outs-CoreInstance, outs-Component, outs-Alias, outs-Type, outs-Canon, outs-Import, outs-Export}
use Rattle.comp_link.proofs.Passing.{item_told}
use Rattle.comp_link.proofs.linking.link_item.Goals as goal

pub returns-in-CoreModule-clause-made : goal.returns-in-CoreModule-clause-made
returns-in-CoreModule-clause-made c = λ bases l s at reached.
    let is : out-Item c.args.item.now ≡ Item-F.CoreModule c.get.result.now = rw c.get.ensures (rw c.in-CoreModule.is (simp outs-CoreModule refl)) in
    item_told c.link_core_module.new.linker l c.args.n s c.args.item.now (Item-F.CoreModule c.get.result.now) is c.link_core_module.result c.next.result c.next.ensures (c.link_core_module.ensures.made bases l s at)

pub returns-in-CoreInstance-clause-made : goal.returns-in-CoreInstance-clause-made
returns-in-CoreInstance-clause-made c = λ bases l s at reached.
    let is : out-Item c.args.item.now ≡ Item-F.CoreInstance c.in-CoreInstance.made = rw c.in-CoreInstance.is (simp outs-CoreInstance refl) in
    item_told c.link_core_instance.new.linker l c.args.n s c.args.item.now (Item-F.CoreInstance c.in-CoreInstance.made) is c.link_core_instance.result c.next-in-CoreInstance.result c.next-in-CoreInstance.ensures (c.link_core_instance.ensures.made bases l s at reached)

pub returns-in-Component-clause-made : goal.returns-in-Component-clause-made
returns-in-Component-clause-made c = λ bases l s at reached.
    let is : out-Item c.args.item.now ≡ Item-F.Component c.in-Component.component = rw c.in-Component.is (simp outs-Component refl) in
    item_told c.link_component.new.linker l c.args.n s c.args.item.now (Item-F.Component c.in-Component.component) is c.link_component.result c.next-in-Component.result c.next-in-Component.ensures (c.link_component.ensures.made bases l s at)

pub returns-in-Alias-clause-made : goal.returns-in-Alias-clause-made
returns-in-Alias-clause-made c = λ bases l s at reached.
    let is : out-Item c.args.item.now ≡ Item-F.Alias c.in-Alias.alias = rw c.in-Alias.is (simp outs-Alias refl) in
    item_told c.link_alias.new.linker l c.args.n s c.args.item.now (Item-F.Alias c.in-Alias.alias) is c.link_alias.result c.next-in-Alias.result c.next-in-Alias.ensures (c.link_alias.ensures.made bases l s at)

pub returns-in-Type-clause-made : goal.returns-in-Type-clause-made
returns-in-Type-clause-made c = λ bases l s at reached.
    let is : out-Item c.args.item.now ≡ Item-F.Type c.in-Type.def_type = rw c.in-Type.is (simp outs-Type refl) in
    item_told c.link_type.new.linker l c.args.n s c.args.item.now (Item-F.Type c.in-Type.def_type) is c.link_type.result c.next-in-Type.result c.next-in-Type.ensures (c.link_type.ensures.made bases l s at)

pub returns-in-Canon-clause-made : goal.returns-in-Canon-clause-made
returns-in-Canon-clause-made c = λ bases l s at reached.
    let is : out-Item c.args.item.now ≡ Item-F.Canon c.in-Canon.canon = rw c.in-Canon.is (simp outs-Canon refl) in
    item_told c.link_canon.new.linker l c.args.n s c.args.item.now (Item-F.Canon c.in-Canon.canon) is c.link_canon.result c.next-in-Canon.result c.next-in-Canon.ensures (c.link_canon.ensures.made bases l s at)

pub returns-in-Import-clause-made : goal.returns-in-Import-clause-made
returns-in-Import-clause-made c = λ bases l s at reached.
    let is : out-Item c.args.item.now ≡ Item-F.Import c.in-Import.import = rw c.in-Import.is (simp outs-Import refl) in
    item_told c.link_import.new.linker l c.args.n s c.args.item.now (Item-F.Import c.in-Import.import) is c.link_import.result c.next-in-Import.result c.next-in-Import.ensures (c.link_import.ensures.made bases l s at)

pub returns-in-Export-clause-made : goal.returns-in-Export-clause-made
returns-in-Export-clause-made c = λ bases l s at reached.
    let is : out-Item c.args.item.now ≡ Item-F.Export c.in-Export.export = rw c.in-Export.is (simp outs-Export refl) in
    item_told c.link_export.new.linker l c.args.n s c.args.item.now (Item-F.Export c.in-Export.export) is c.link_export.result c.next-in-Export.result c.next-in-Export.ensures (c.link_export.ensures.made bases l s at)

-- Core definitions (Core 2.0, section 4.2.13; Component Model, Explainer.md, "Canonical Definitions"), of what they hold.
use Rattle.comp_graph.specs.declared.graph.FuncRef.TheVariants as func_ref
use Rattle.comp_graph.specs.CoreItems as items
use Rattle.link_core_exports.specs.declared.core_item.Held.{Held}
use Rattle.link_core_exports.specs.declared.core_item.Held.TheVariants as held

-- the definition, with its type
abbrev pub item_held : Held → items.CoreItem
item_held (held.Func core type) = items.Func (func_ref.Instance core) type.now
item_held (held.Made number type) = items.Func (func_ref.Canon number) type
item_held (held.Table core limits) = items.Table core limits
item_held (held.Memory core limits) = items.Memory core limits
item_held (held.Global core type) = items.Global core type

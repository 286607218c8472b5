-- The order of the layers of types (Component Model, Explainer.md, "Type Definitions"), by which they are looked up.
use Rattle.std.specs.Prelude.{ℕ, Option}
use Rattle.std.specs.declared.cmp.Ordering.{Ordering}
use Rattle.std.specs.BTreeMap.{BTreeMap, get}
use Rattle.link_values.specs.declared.layers.Layer.{Layer}
use Rattle.link_values.specs.contracts.layers.LayerOrd.TheImpl as order

abbrev pub layer_cmp : Layer → Layer → Ordering
layer_cmp = (order.ghosts).cmp

-- what a map by layers has at a layer
abbrev pub number_in : BTreeMap Layer ℕ → Layer → Option ℕ
number_in m layer = get layer_cmp m layer

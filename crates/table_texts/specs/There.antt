-- Whether the type of a number stands in a table of so many types, where there is a number, and whether those of a layer's parts
-- do (Component Model, Explainer.md, "Type Definitions": a type names earlier types).
use Rattle.std.specs.Prelude.{ℕ, nat_lt, Bool, true, ◌&&◌, Option, Some, None}
use Rattle.std.specs.List.{list_all}
use Rattle.laid_types.specs.declared.layer.ValTypeLayer.{ValTypeLayer}
use Rattle.laid_types.specs.declared.layer.ValTypeLayer.TheVariants as layer
use Rattle.laid_types.specs.declared.layer.LabelledPart.{LabelledPart}
use Rattle.laid_types.specs.declared.layer.LabelledCase.{LabelledCase}

abbrev pub is_there : ℕ → Option ℕ → Bool
is_there count (Some number) = nat_lt number count
is_there count None = true

abbrev pub layer_there : ℕ → ValTypeLayer → Bool
layer_there count (layer.Record fields) = list_all (λ (f : LabelledPart). nat_lt f.number count) fields.now
layer_there count (layer.Variant cases) = list_all (λ (c : LabelledCase). is_there count c.payload) cases.now
layer_there count (layer.Tuple parts) = list_all (λ n. nat_lt n count) parts.now
layer_there count (layer.List part) = nat_lt part count
layer_there count (layer.Option part) = nat_lt part count
layer_there count (layer.Stream part) = is_there count part
layer_there count (layer.Future part) = is_there count part
layer_there count (layer.Result ok err) = is_there count ok && is_there count err
layer_there count _ = true

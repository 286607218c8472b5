-- Where each number of a layer is below the count of types, the layer's parts are there.
use Rattle.std.proofs.Common.{◌≡◌, ℕ, Bool, true, false, ◌&&◌, List, [], ◌∷◌, length, map, refl, Option, Some, None}
use Rattle.std.specs.List.{list_all}
use Rattle.std.proofs.lemmas.Bool.{ltb-true}
use Rattle.syntax_trees.specs.declared.types.ValType.{ValType}
use Rattle.laid_types.specs.declared.layer.ValTypeLayer.{ValTypeLayer}
use Rattle.laid_types.specs.declared.layer.ValTypeLayer.TheVariants as layer
use Rattle.laid_types.specs.declared.layer.LabelledPart.{LabelledPart}
use Rattle.laid_types.specs.declared.layer.LabelledCase.{LabelledCase}
use Rattle.laid_types.specs.Layers.{IsThere, AreThere, part_numbers}
use Rattle.table_texts.specs.There.{is_there, layer_there}

pub both : (a b : Bool) → (a && b) ≡ true → (a ≡ true) × (b ≡ true)
both true b h = (refl, h)
both false b h = absurd cc

one_there : (types : List ValType) (number : Option ℕ) → is_there (length types) number ≡ true → IsThere types number
one_there types (Some number) h = ltb-true _ _ h
one_there types None h = tt

each_there : {A : Type 0} (types : List ValType) (f : A → Option ℕ) → (xs : List A) → list_all (λ x. is_there (length types) (f x)) xs ≡ true → AreThere types (map f xs)
each_there types f [] h = tt
each_there types f (x ∷ xs) h =
    let t = both (is_there (length types) (f x)) (list_all (λ x. is_there (length types) (f x)) xs) h in
    (one_there types (f x) t.0, each_there types f xs t.1)

pub layer_is_there : (types : List ValType) (l : ValTypeLayer) → layer_there (length types) l ≡ true → AreThere types (part_numbers l)
layer_is_there types (layer.Record fields) h = each_there types (λ (f : LabelledPart). Some f.number) fields.now h
layer_is_there types (layer.Variant cases) h = each_there types (λ (c : LabelledCase). c.payload) cases.now h
layer_is_there types (layer.Tuple parts) h = each_there types (λ (n : ℕ). Some n) parts.now h
layer_is_there types (layer.List part) h = (one_there types (Some part) h, tt)
layer_is_there types (layer.Option part) h = (tt, (one_there types (Some part) h, tt))
layer_is_there types (layer.Stream part) h = (one_there types part h, tt)
layer_is_there types (layer.Future part) h = (one_there types part h, tt)
layer_is_there types (layer.Result ok err) h =
    let t = both (is_there (length types) ok) (is_there (length types) err) h in
    (one_there types ok t.0, (one_there types err t.1, tt))
layer_is_there types _ h = tt

-- What was gathered over the numbers of a type's parts is what it is of the type.
use Rattle.std.proofs.Common.{◌≡◌, ◌∙◌, ℕ, List, Option, ap}
use Rattle.syntax_trees.specs.declared.types.ValType.{ValType}
use Rattle.laid_types.specs.Layout.{Laid, aligned, tag_size, top_align}
use Rattle.layouts.specs.Limited.{nothing}
use Rattle.laid_types.specs.Parts.{parts_of}
use Rattle.laid_types.specs.Layers.{trees_of}
use Rattle.laid_types.specs.Gathered.{room_for}
use Rattle.laid_types.proofs.Rooms.{room_align}

module _ (types : List ValType) (numbers : List (Option ℕ)) (t : ValType) (parts : trees_of types numbers ≡ parts_of t) where
  pub over_parts : {A : Type 0} (F : ValType → List (Option ValType) → A) (u : ValType) (ns : List (Option ℕ)) (x : A) → u ≡ t → ns ≡ numbers → x ≡ F u (trees_of types ns) → x ≡ F t (parts_of t)
  over_parts F u ns x e f is =
      is
      ∙ ap (λ (v : ValType). F v (trees_of types ns)) e
      ∙ ap (λ (ms : List (Option ℕ)). F t (trees_of types ms)) f
      ∙ ap (F t) parts

-- Where payloads stand behind the number of the case.
pub place_told : (count cases place : ℕ) (room : Laid) (payloads : List Laid) → count ≡ cases → room ≡ room_for nothing payloads → place ≡ aligned (tag_size count) room.align → place ≡ aligned (tag_size cases) (top_align payloads)
place_told count cases place room payloads e f is =
    is
    ∙ ap (λ (n : ℕ). aligned (tag_size n) room.align) e
    ∙ ap (λ (l : Laid). aligned (tag_size cases) l.align) f
    ∙ ap (aligned (tag_size cases)) (room_align payloads)

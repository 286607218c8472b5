-- Layers that are added.
use Rattle.std.proofs.Common.{◌≡◌, ℕ, List, [], ◌∷◌, ◌++◌, length, ap, sym, refl, ◌∙◌, Some}
use Rattle.std.specs.List.{slice_get}
use Rattle.std.specs.BTreeMap.{BTreeMap, Updates}
use Rattle.std.specs.Ordering.{is_eq}
use Rattle.link_values.specs.declared.layers.Layer.{Layer}
use Rattle.link_values.specs.Numbering.{Numbers}
use Rattle.link_values.specs.Order.{layer_cmp, number_in}
use Rattle.link_values.proofs.Numbered.{absent_of, numbers_more}
use Rattle.link_values.proofs.LayerOrder.{layer_same, layer_itself, layer_put}

pub layer_added : (layers reserved more : List Layer) (layer : Layer) (m n : BTreeMap Layer ℕ) (number : ℕ) → Numbers (number_in m) layers → ((k : ℕ) → slice_get layers k ≡ Some layer → ⊥) → reserved ≡ layers → more ≡ reserved ++ layer ∷ [] → number ≡ length layers → Updates layer_cmp m n layer (Some number) → Numbers (number_in n) more
layer_added layers reserved more layer m n number numbers absent same is long updates =
    let all : more ≡ layers ++ layer ∷ [] = is ∙ ap (λ (ts : List Layer). ts ++ layer ∷ []) same in
    rw all
    (numbers_more (number_in m) (number_in n) (λ y z. is_eq (layer_cmp y z)) layers layer numbers (absent_of (number_in m) layers layer numbers absent) layer_same layer_itself
    (λ q. rw (← long) (layer_put m n layer (Some number) updates q)))

-- A map that is as it was.
pub layers_kept : (layers reserved : List Layer) (m n : BTreeMap Layer ℕ) → Numbers (number_in m) layers → reserved ≡ layers → n.entries ≡ m.entries → Numbers (number_in n) reserved
layers_kept layers reserved m n numbers same kept =
    let alike : (q : Layer) → number_in n q ≡ number_in m q = λ q. rw kept refl in
    rw same (record {
      stands = λ thing number f. numbers.stands thing number (sym (alike thing) ∙ f);
      found = λ number thing at. alike thing ∙ numbers.found number thing at;
    })

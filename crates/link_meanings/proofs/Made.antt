-- Types of values that are made of parts, by the numbers of these.
use Rattle.std.proofs.Common.{◌≡◌, ℕ, List, [], ◌∷◌, map, refl, ap, subst, Option, Some, None}
use Rattle.std.specs.Prelude.{unwrap_or}
use Rattle.std.specs.Option.{option_map, option_and_then}
use Rattle.std.specs.List.{slice_get, AllZip}
use Rattle.syntax_trees.specs.declared.types.ValType.{ValType}
use Rattle.syntax_trees.specs.declared.types.ValType.TheVariants as leaves
use Rattle.syntax_trees.specs.declared.types.Field.{Field}
use Rattle.syntax_trees.specs.declared.types.Case.{Case}
use Rattle.comp_tree.specs.declared.types.Field as read_field
use Rattle.comp_tree.specs.declared.types.Case as read_case
use Rattle.comp_graph.specs.Closed.{Closed}
use Rattle.link_spec.specs.ValueTypes.{close_val, close_held, close_field, close_case}
use Rattle.laid_types.specs.declared.layer.LabelledPart.{LabelledPart}
use Rattle.laid_types.specs.declared.layer.LabelledCase.{LabelledCase}
use Rattle.laid_types.specs.Layers.{tree_at, field_of, case_of}
use Rattle.link_types.specs.Layered.{MayBeValue}
use Rattle.link_types.specs.Table.{Table, IsValue, Grows}
use Rattle.link_types.proofs.TypesGrow.{may_be_stays}
use Rattle.link_meanings.specs.Meant.{IsFoundAs}
use Rattle.link_meanings.specs.Numbered.{IsField, IsCase, IsPlace}

-- A field with its type, and without one.
pub field_closed : (t : Table) (closed : List (Option Closed)) (f : read_field.Field) (l : LabelledPart) → l.label.now ≡ f.label → IsFoundAs (IsValue t) (Some l.number) (close_val closed f.val_type) → IsFoundAs (IsField t.values) (Some l) (close_field closed f)
field_closed t closed f l e h = rw h.1 (record { label = f.label; val_type = h.0 }, refl, (e, h.2))

pub field_open : (closed : List (Option Closed)) (f : read_field.Field) → close_val closed f.val_type ≡ None → close_field closed f ≡ None
field_open closed f h = rw h refl

-- A case.
pub case_closed : (t : Table) (closed : List (Option Closed)) (c : read_case.Case) (l : LabelledCase) → l.label.now ≡ c.label → IsFoundAs (MayBeValue t.values) (Some l.payload) (close_held closed c.payload) → IsFoundAs (IsCase t.values) (Some l) (close_case closed c)
case_closed t closed c l e h = rw h.1 (record { label = c.label; payload = h.0 }, refl, (e, h.2))

pub case_open : (closed : List (Option Closed)) (c : read_case.Case) → close_held closed c.payload ≡ None → close_case closed c ≡ None
case_open closed c h = rw h refl

-- What numbers stand for they stand for also once the table has grown.
module _ (t u : Table) (g : Grows t u) where
  pub field_stays : (l : LabelledPart) (f : Field) → IsField t.values l f → IsField u.values l f
  field_stays l f h = (h.0, g.values l.number f.val_type h.1)

  pub case_stays : (l : LabelledCase) (c : Case) → IsCase t.values l c → IsCase u.values l c
  case_stays l c h = (h.0, may_be_stays t u g l.payload c.payload h.1)

  pub place_stays : (n : ℕ) (type : ValType) → IsPlace t.values n type → IsPlace u.values n type
  place_stays n type h = g.values n type h

-- The trees of numbers.
module _ (values : List ValType) where
  pub tree_is : (n : ℕ) (type : ValType) → slice_get values n ≡ Some type → tree_at values n ≡ type
  tree_is n type h = ap (λ (o : Option ValType). unwrap_or o leaves.Bool) h

  pub held_is : (n : Option ℕ) (type : Option ValType) → MayBeValue values n type → option_map (tree_at values) n ≡ type
  held_is None None h = refl
  held_is (Some n) (Some type) h = ap (λ (v : ValType). Some v) (tree_is n type h)
  held_is n type h = absurd h

  pub field_is : (l : LabelledPart) (f : Field) → IsField values l f → field_of values l ≡ f
  field_is l f h = rw (h.0, tree_is l.number f.val_type h.1) refl

  pub case_is : (l : LabelledCase) (c : Case) → IsCase values l c → case_of values l ≡ c
  case_is l c h = rw (h.0, held_is l.payload c.payload h.1) refl

two_alike : {A : Type 0} (x y : A) (xs ys : List A) → x ≡ y → xs ≡ ys → x ∷ xs ≡ y ∷ ys
two_alike x y xs ys e f = cc

images : {A B : Type 0} (R : B → A → Type 0) (image : B → A) → ((b : B) (a : A) → R b a → image b ≡ a) → (found : List B) (all : List A) → AllZip R found all → map image found ≡ all
images R image is [] [] h = refl
images R image is [] (a ∷ all) h = absurd h
images R image is (b ∷ found) [] h = absurd h
images R image is (b ∷ found) (a ∷ all) h = two_alike _ _ _ _ (is b a h.0) (images R image is found all h.1)

-- A type that is made of what is found.
pub made_of_all : {A B : Type 0} (u : Table) (R : B → A → Type 0) (image : B → A) → ((b : B) (a : A) → R b a → image b ≡ a) → (make : List A → ValType) (number : ℕ) (found : List B) (o : Option (List A))
    → (all : List A) × (o ≡ Some all) × AllZip R found all → IsValue u number (make (map image found)) → IsFoundAs (IsValue u) (Some number) (option_map make o)
made_of_all {A} {B} u R image is make number found o h at =
    rw h.1 (make h.0, refl, subst (λ (all : List A). IsValue u number (make all)) (images R image is found h.0 h.2) at)

-- One that is made of a part that may not be there.
pub made_of_held : (t u : Table) (make : Option ValType → ValType) (number : ℕ) (part : Option ℕ) (o : Option (Option ValType))
    → IsFoundAs (MayBeValue t.values) (Some part) o → IsValue u number (make (option_map (tree_at t.values) part)) → IsFoundAs (IsValue u) (Some number) (option_map make o)
made_of_held t u make number part o h at = rw h.1 (make h.0, refl, subst (λ (v : Option ValType). IsValue u number (make v)) (held_is t.values part h.0 h.2) at)

-- One that is made of two parts that may not be there.
pub made_of_two : (s t u : Table) → Grows s t → (make : Option ValType → Option ValType → ValType) (number : ℕ) (ok err : Option ℕ) (o p : Option (Option ValType))
    → IsFoundAs (MayBeValue s.values) (Some ok) o → IsFoundAs (MayBeValue t.values) (Some err) p → IsValue u number (make (option_map (tree_at t.values) ok) (option_map (tree_at t.values) err))
    → IsFoundAs (IsValue u) (Some number) (option_and_then (λ held. option_map (λ other. make held other) p) o)
made_of_two s t u g make number ok err o p h k at =
    let first = held_is t.values ok h.0 (may_be_stays s t g ok h.0 h.2) in
    let second = held_is t.values err k.0 k.2 in
    rw (h.1, k.1) (make h.0 k.0, refl, subst (λ (v : Option ValType). IsValue u number (make h.0 v)) second (subst (λ (v : Option ValType). IsValue u number (make v (option_map (tree_at t.values) err))) first at))

pub second_open : {A : Type 0} (make : Option ValType → Option ValType → A) (o p : Option (Option ValType)) → p ≡ None → option_and_then (λ held. option_map (λ other. make held other) p) o ≡ None
second_open make None p h = refl
second_open make (Some held) p h = rw h refl

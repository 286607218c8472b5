-- Names that are added.
use Rattle.std.proofs.Common.{◌≡◌, ℕ, zero, suc, List, [], ◌∷◌, ◌++◌, map, length, true, refl, ap, sym, ◌∙◌, Some, None, Bor}
use Rattle.std.specs.List.{slice_get}
use Rattle.std.specs.Option.{option_map}
use Rattle.std.specs.Str.{bytes_eq}
use Rattle.std.specs.BTreeMap.{BTreeMap, UpdatesBy}
use Rattle.std.specs.Cmp.Lexicographic.{slice_cmp}
use Rattle.std.specs.Ordering.{nat_cmp}
use Rattle.std.proofs.lemmas.Map.Text.{btree_map_updates_str}
use Rattle.std.proofs.lemmas.List.{length-map, map-append}
use Rattle.std.proofs.lemmas.Slice.Eq.{bytes_eq-Decides}
use Rattle.syntax_trees.specs.Names.{at_name}
use Rattle.link_values.specs.Numbering.{Numbers}
use Rattle.link_values.proofs.Numbered.{absent_of, numbers_more}

abbrev pub shown : List (Bor (List ℕ)) → List (List ℕ)
shown texts = map (λ t. t.now) texts

same_bytes : (x y : List ℕ) → bytes_eq x y ≡ true → x ≡ y
same_bytes x y h = (bytes_eq-Decides x y).0 h

itself_bytes : (x : List ℕ) → bytes_eq x x ≡ true
itself_bytes x = (bytes_eq-Decides x x).1 refl

pub name_added : (texts reserved more : List (Bor (List ℕ))) (name : Bor (List ℕ)) (m n : BTreeMap (Bor (List ℕ)) ℕ) (number : ℕ) → Numbers (at_name m) (shown texts) → ((k : ℕ) → slice_get (shown texts) k ≡ Some name.now → ⊥) → reserved ≡ texts → more ≡ reserved ++ name ∷ [] → number ≡ length texts → UpdatesBy (λ x y. slice_cmp nat_cmp x.now y.now) (λ k. slice_cmp nat_cmp name.now k.now) m n (Some number) → Numbers (at_name n) (shown more)
name_added texts reserved more name m n number numbers absent same is long updates =
    let all : shown more ≡ shown texts ++ name.now ∷ [] = ap shown (is ∙ ap (λ (ts : List (Bor (List ℕ))). ts ++ name ∷ []) same) ∙ map-append (λ (t : Bor (List ℕ)). t.now) texts (name ∷ []) in
    let count : number ≡ length (shown texts) = long ∙ sym (length-map texts (λ (t : Bor (List ℕ)). t.now)) in
    rw all
    (numbers_more (at_name m) (at_name n) bytes_eq (shown texts) name.now numbers (absent_of (at_name m) (shown texts) name.now numbers absent) same_bytes itself_bytes
    (λ q. rw (← count) (btree_map_updates_str name.now m n (Some number) updates q)))

-- What stands at a number is shown there.
mapped_at : {A B : Type 0} (f : A → B) (xs : List A) (k : ℕ) → slice_get (map f xs) k ≡ option_map f (slice_get xs k)
mapped_at f [] k = refl
mapped_at f (x ∷ xs) zero = refl
mapped_at f (x ∷ xs) (suc k) = mapped_at f xs k

pub shown_none : (texts : List (Bor (List ℕ))) (k : ℕ) → slice_get texts k ≡ None → slice_get (shown texts) k ≡ None
shown_none texts k h = mapped_at (λ t. t.now) texts k ∙ ap (option_map (λ (t : Bor (List ℕ)). t.now)) h

pub shown_some : (texts : List (Bor (List ℕ))) (k : ℕ) (text : Bor (List ℕ)) → slice_get texts k ≡ Some text → slice_get (shown texts) k ≡ Some text.now
shown_some texts k text h = mapped_at (λ t. t.now) texts k ∙ ap (option_map (λ (t : Bor (List ℕ)). t.now)) h

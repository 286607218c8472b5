-- Types with parts among others, as more types come behind them.
use Rattle.std.proofs.Common.{◌≡◌, ◌∙◌, ℕ, zero, suc, ◌<◌, List, [], ◌∷◌, ◌++◌, length, ap, sym, refl, arith, Option, Some, None, inl, inr, ◌⊎◌, length-append, get_or}
use Rattle.std.specs.List.{slice_get}
use Rattle.std.proofs.lemmas.List.{map-append, length-map}
use Rattle.std.proofs.lemmas.Option.{slice_get_read}
use Rattle.syntax_trees.specs.declared.types.ValType.{ValType}
use Rattle.laid_types.specs.Layers.{IsThere, AreThere, tree_of, trees_of}
use Rattle.laid_types.specs.Known.{Known, types_of, Stands, AllStand}

none_at : {A : Type 0} (k : ℕ) (x : A) → slice_get [] k ≡ Some x → ⊥
none_at k x h = cc

stays_at : {A : Type 0} (xs ys : List A) (k : ℕ) → k < length xs → slice_get (xs ++ ys) k ≡ slice_get xs k
stays_at [] ys k h = absurd (omega arith)
stays_at (x ∷ xs) ys zero h = refl
stays_at (x ∷ xs) ys (suc k) h = stays_at xs ys k (omega arith)

-- What stands at a place of a list with one more stands there in the list, or is the one.
is_at_or_last : {A : Type 0} (xs : List A) (y : A) (k : ℕ) (x : A) → slice_get (xs ++ y ∷ []) k ≡ Some x → (slice_get xs k ≡ Some x) ⊎ (x ≡ y)
is_at_or_last [] y zero x h = inr cc
is_at_or_last [] y (suc k) x h = absurd (none_at k x h)
is_at_or_last (z ∷ xs) y zero x h = inl h
is_at_or_last (z ∷ xs) y (suc k) x h = is_at_or_last xs y k x h

there_more : (types more : List ValType) (number : Option ℕ) → IsThere types number → IsThere (types ++ more) number
there_more types more None h = tt
there_more types more (Some number) h = omega (arith, length-append types more)

pub are_there_more : (types more : List ValType) (numbers : List (Option ℕ)) → AreThere types numbers → AreThere (types ++ more) numbers
are_there_more types more [] h = tt
are_there_more types more (n ∷ numbers) h = (there_more types more n h.0, are_there_more types more numbers h.1)

tree_stays : (types more : List ValType) (number : Option ℕ) → IsThere types number → tree_of (types ++ more) number ≡ tree_of types number
tree_stays types more None h = refl
tree_stays types more (Some number) h = stays_at types more number h

pub trees_stay : (types more : List ValType) (numbers : List (Option ℕ)) → AreThere types numbers → trees_of (types ++ more) numbers ≡ trees_of types numbers
trees_stay types more [] h = refl
trees_stay types more (n ∷ numbers) h =
    ap (λ (t : Option ValType). t ∷ trees_of (types ++ more) numbers) (tree_stays types more n h.0)
    ∙ ap (λ (ts : List (Option ValType)). tree_of types n ∷ ts) (trees_stay types more numbers h.1)

stands_more : (types more : List ValType) (k : Known) → Stands types k → Stands (types ++ more) k
stands_more types more k s = record {
  there = are_there_more types more k.parts s.there;
  parts = trees_stay types more k.parts s.there ∙ s.parts;
}

stands_in : (types others : List ValType) (k : Known) → types ≡ others → Stands others k → Stands types k
stands_in types others k e s = rw e s

-- One type more, whose parts stand among those before it.
pub all_stand_more : (entries : List Known) (k : Known) → AllStand entries → Stands (types_of entries) k → AllStand (entries ++ k ∷ [])
all_stand_more entries k all s = record {
  each = λ number x at.
      let same : types_of (entries ++ k ∷ []) ≡ types_of entries ++ k.val_type ∷ [] = map-append (λ (e : Known). e.val_type) entries (k ∷ []) in
      stands_in (types_of (entries ++ k ∷ [])) (types_of entries ++ k.val_type ∷ []) x same
      (stands_more (types_of entries) (k.val_type ∷ []) x (
      elim (is_at_or_last entries k number x at) [
        | inl there ↦ all.each number x there
        | inr last ↦ rw last s
      ]));
}

-- What stands at a place has its parts among the types.
pub entry_stands : (entries : List Known) (number : ℕ) (k : Known) (types : List ValType) → AllStand entries → types_of entries ≡ types → number < length types → k ≡ get_or entries number k → Stands types k
entry_stands entries number k types all same h is =
    let long : length entries ≡ length types = sym (length-map entries (λ (e : Known). e.val_type)) ∙ ap length same in
    rw (← same) (all.each number k (slice_get_read entries (length entries) number k refl (omega arith) is))

pub added_stand : (entries more : List Known) (k : Known) (types : List ValType) → AllStand entries → types_of entries ≡ types → Stands types k → more ≡ entries ++ k ∷ [] → AllStand more
added_stand entries more k types all same s is = rw is (all_stand_more entries k all (stands_in (types_of entries) types k same s))

-- Parts of a type with its number among types.
use Rattle.std.proofs.Common.{◌≡◌, ◌∙◌, ℕ, List, Option, Some, None, Result, ap, sym, subst}
use Rattle.std.specs.Prelude.{IfSome}
use Rattle.std.specs.Option.{option_map}
use Rattle.syntax_trees.specs.declared.types.ValType.{ValType}
use Rattle.laid_types.specs.Known.{Numbered}
use Rattle.value_lower.specs.declared.ends.RoomEnd.{RoomEnd}
use Rattle.value_lower.specs.declared.ends.LowerError.{LowerError}
use Rattle.value_lower.specs.Plan.{Ask, New, Plan}
use Rattle.value_lower.specs.Following.{Rooms, rooms_of, Leads, Runs}

pub part_type : (r : Option Numbered) (o : Option ValType) (p : Numbered) → option_map (λ (k : Numbered). k.val_type) r ≡ o → r ≡ Some p → o ≡ Some p.val_type
part_type r o p e h = sym e ∙ ap (λ (r : Option Numbered). option_map (λ (k : Numbered). k.val_type) r) h

pub no_part_type : (r : Option Numbered) (o : Option ValType) → option_map (λ (k : Numbered). k.val_type) r ≡ o → r ≡ None → o ≡ None
no_part_type r o e h = sym e ∙ ap (λ (r : Option Numbered). option_map (λ (k : Numbered). k.val_type) r) h

pub part_among : (r : Option Numbered) (types : List ValType) (p : Numbered) → IfSome r (λ (k : Numbered). k.types ≡ types) → r ≡ Some p → p.types ≡ types
part_among None types p h e = cc
part_among (Some q) types p h e =
    let same : q ≡ p = cc in
    ap (λ (k : Numbered). k.types) (sym same) ∙ h

-- What is said of a room where the types of ends are told among these, is said where they are told among the same.
module _ {S T : Type 0} (memory : S → List ℕ) (answers : S → Ask → Result ℕ (RoomEnd T) → S → Type 0) (wrote : S → ℕ → List ℕ → S → Type 0)
    (adds : List ValType → S → New → Option ℕ → S → Type 0) (types others : List ValType) (is : types ≡ others) where
  abbrev rooms : List ValType → Rooms S T
  rooms all = rooms_of memory answers wrote (adds all)

  pub leads_among : (whole left : Plan) (r s : S) → Leads (rooms types) whole r left s → Leads (rooms others) whole r left s
  leads_among whole left r s h = subst (λ (all : List ValType). Leads (rooms all) whole r left s) is h

  pub runs_among : {A : Type 0} (whole : Plan) (left : A → Plan) (r s : S) (result : Result A (LowerError T))
      → Runs (rooms types) whole left r result s → Runs (rooms others) whole left r result s
  runs_among whole left r s result h = subst (λ (all : List ValType). Runs (rooms all) whole left r result s) is h

-- The part of a type by its number.
use Rattle.std.proofs.Common.{◌≡◌, ◌∙◌, ℕ, zero, suc, List, [], ◌∷◌, ap, sym, Option, Some, None, refl}
use Rattle.std.specs.Prelude.{IfSome, IsTrue, ◌↔◌}
use Rattle.std.specs.List.{slice_get}
use Rattle.std.specs.Option.{option_and_then, option_map}
use Rattle.syntax_trees.specs.declared.types.ValType.{ValType}
use Rattle.laid_types.specs.Parts.{parts_of, part_at}
use Rattle.laid_types.specs.Layers.{trees_of}
use Rattle.laid_types.specs.Known.{Numbered, numbered_at}
use Rattle.laid_types.specs.SameTypes.{same_val}
use Rattle.laid_types.proofs.SameTypes.{val_told}

tree_there : (types : List ValType) (numbers : List (Option ℕ)) (at n : ℕ) → option_and_then (λ part. part) (slice_get numbers at) ≡ Some n
    → option_and_then (λ part. part) (slice_get (trees_of types numbers) at) ≡ slice_get types n
tree_there types [] at n h = cc
tree_there types (None ∷ numbers) zero n h = cc
tree_there types (Some m ∷ numbers) zero n h = ap (slice_get types) (let same : m ≡ n = cc in same)
tree_there types (o ∷ numbers) (suc at) n h = tree_there types numbers at n h

type_found : (types : List ValType) (n : ℕ) (o : Option ValType) (p : Option Numbered)
    → p ≡ option_map (λ type. (let k : Numbered = record { types = types; number = n; val_type = type } in k)) o → option_map (λ (k : Numbered). k.val_type) p ≡ o
type_found types n None p e = rw e refl
type_found types n (Some t) p e = rw e refl

pub part_is : (types : List ValType) (numbers : List (Option ℕ)) (t : ValType) (at n : ℕ) (r : Option ℕ) (p : Option Numbered) → trees_of types numbers ≡ parts_of t
    → r ≡ option_and_then (λ part. part) (slice_get numbers at) → r ≡ Some n → p ≡ numbered_at types n → option_map (λ (k : Numbered). k.val_type) p ≡ part_at t at
part_is types numbers t at n r p same e is found =
    type_found types n (slice_get types n) p found
    ∙ sym (tree_there types numbers at n (sym e ∙ is))
    ∙ ap (λ (ts : List (Option ValType)). option_and_then (λ part. part) (slice_get ts at)) same

among : (types : List ValType) (n : ℕ) (o : Option ValType)
    → IfSome (option_map (λ type. (let k : Numbered = record { types = types; number = n; val_type = type } in k)) o) (λ k. k.types ≡ types)
among types n None = tt
among types n (Some t) = refl

pub among_these : (types : List ValType) (n : ℕ) (p : Option Numbered) → p ≡ numbered_at types n → IfSome p (λ k. k.types ≡ types)
among_these types n p e = rw e (among types n (slice_get types n))

-- The test of types as a law.
pub told_apart : (type other : ValType) → IsTrue (same_val type other) ↔ (type ≡ other)
told_apart type other = ((val_told type other).0, (val_told type other).1)

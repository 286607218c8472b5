-- Two types of one table, by their numbers, are told apart by these, where no type stands twice in it.
use Rattle.std.proofs.Common.{◌≡◌, ◌∙◌, ℕ, List, refl, sym, ap, subst, Option, Some, None}
use Rattle.std.specs.List.{slice_get}
use Rattle.std.specs.Option.{option_and_then, option_map}
use Rattle.syntax_trees.specs.declared.types.ValType.{ValType}
use Rattle.laid_types.specs.Known.{Numbered, numbered_at}
use Rattle.laid_types.specs.SameTypes.{AreDistinct}
use Rattle.return_replies.specs.Returns.{AreTold}

mapped : (types : List ValType) (k : ℕ) (o : Option ValType) (n : Numbered) → option_map (λ (type : ValType). record { types = types; number = k; val_type = type }) o ≡ Some n → n.types ≡ types
mapped types k None n h = absurd cc
mapped types k (Some t) n h =
    let same : n ≡ record { types = types; number = k; val_type = t } = cc in
    ap (λ (n : Numbered). n.types) same

of_table : (types : List ValType) (a : Option ℕ) (n : Numbered) → option_and_then (numbered_at types) a ≡ Some n → n.types ≡ types
of_table types None n h = absurd cc
of_table types (Some k) n h = mapped types k (slice_get types k) n h

pub both_told : (types : List ValType) (a b : Option ℕ) (x y : Option Numbered) → AreDistinct types → x ≡ option_and_then (numbered_at types) a → y ≡ option_and_then (numbered_at types) b → AreTold x y
both_told types a b (Some x) (Some y) apart p q =
    let u : x.types ≡ types = of_table types a x (sym p) in
    let v : y.types ≡ types = of_table types b y (sym q) in
    (subst (λ (ts : List ValType). AreDistinct ts) (sym u) apart, u ∙ sym v)
both_told types a b (Some x) None apart p q = tt
both_told types a b None y apart p q = tt

-- Types that are looked up by numbers are of one table.
use Rattle.std.proofs.Common.{ℕ, List, refl, Option, Some, None}
use Rattle.std.specs.List.{slice_get}
use Rattle.std.specs.Option.{option_map}
use Rattle.syntax_trees.specs.declared.types.ValType.{ValType}
use Rattle.laid_types.specs.Known.{Numbered, numbered_at}
use Rattle.laid_types.specs.SameTypes.{AreDistinct}
use Rattle.programs.specs.declared.program.Program.{Program}
use Rattle.return_replies.specs.Returns.{AreTold}
use Rattle.value_moves.specs.Resolving.{type_by}

told_alone : (x : Option Numbered) → AreTold x None
told_alone None = tt
told_alone (Some t) = tt

told_of : (types : List ValType) (n m : ℕ) (o p : Option ValType) → AreDistinct types
    → AreTold (option_map (λ type. record { types = types; number = n; val_type = type }) o) (option_map (λ type. record { types = types; number = m; val_type = type }) p)
told_of types n m None p distinct = tt
told_of types n m (Some type) None distinct = tt
told_of types n m (Some type) (Some other) distinct = (distinct, refl)

pub are_told : (p : Program) (n m : Option ℕ) → AreDistinct p.types.now → AreTold (type_by p n) (type_by p m)
are_told p None m distinct = tt
are_told p (Some n) None distinct = told_alone (numbered_at p.types.now n)
are_told p (Some n) (Some m) distinct = told_of p.types.now n m (slice_get p.types.now n) (slice_get p.types.now m) distinct

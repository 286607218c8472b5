-- Types that are looked up by numbers are of the table in which they are.
use Rattle.std.proofs.Common.{◌≡◌, ℕ, List, ap, sym, subst, Option, Some, None}
use Rattle.std.specs.List.{slice_get}
use Rattle.syntax_trees.specs.declared.types.ValType.{ValType}
use Rattle.laid_types.specs.Known.{Numbered, numbered_at}
use Rattle.laid_types.specs.SameTypes.{AreDistinct}
use Rattle.task_table.specs.declared.errand.Callee.{Callee}
use Rattle.programs.specs.declared.program.FuncNumbers.{FuncNumbers}
use Rattle.programs.specs.declared.program.Program.{Program}
use Rattle.programs.specs.Program.{numbers_of, params_in, params_of}
use Rattle.std.specs.Option.{option_map}

of_types : (types : List ValType) (number : ℕ) (o : Option ValType) (t : Numbered)
    → option_map (λ (type : ValType). let n : Numbered = record { types = types; number = number; val_type = type } in n) o ≡ Some t → t.types ≡ types
of_types types number None t h = cc
of_types types number (Some type) t h =
    let is : (let n : Numbered = record { types = types; number = number; val_type = type } in n) ≡ t = cc in sym (ap (λ (n : Numbered). n.types) is)

pub type_distinct : (types : List ValType) (number : ℕ) (t : Numbered) → numbered_at types number ≡ Some t → AreDistinct types → AreDistinct t.types
type_distinct types number t found distinct = subst AreDistinct (sym (of_types types number (slice_get types number) t found)) distinct

params_typed : (p : Program) (numbers : Option FuncNumbers) (t : Numbered) → params_in p numbers ≡ Some t → AreDistinct p.types.now → AreDistinct t.types
params_typed p None t found distinct = absurd (let w : ⊥ = cc in w)
params_typed p (Some numbers) t found distinct = type_distinct p.types.now numbers.params t found distinct

pub params_distinct : (p : Program) (callee : Callee) (t : Numbered) → params_of p callee ≡ Some t → AreDistinct p.types.now → AreDistinct t.types
params_distinct p callee t found distinct = params_typed p (numbers_of p callee) t found distinct

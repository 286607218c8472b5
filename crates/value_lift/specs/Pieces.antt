-- The pieces of lifting over the plain ledger (Component Model, CanonicalABI.md, "Loading", "Flat Lifting").
use Rattle.std.specs.Prelude.{ℕ, nat_lt, if◌then◌else◌, List, Option, Err}
use Rattle.syntax_trees.specs.declared.value.Value.{Value}
use Rattle.syntax_trees.specs.declared.value.Value.TheViews as values
use Rattle.value_lift.specs.declared.trap.LiftTrap.{LiftTrap}
use Rattle.value_lift.specs.declared.trap.LiftWhy.TheVariants.{BadCase}
use Rattle.value_lift.specs.Answers.{Lifted, trap, made, plainly}
use Rattle.value_lift.specs.Over as over
pub use Rattle.value_lift.specs.Leaves.{part_in, char_of, plain_of, text_of, flags_of}

abbrev pub Lift : Type 0
Lift = over.Lift ℕ LiftTrap

abbrev pub LiftWords : Type 0
LiftWords = over.LiftWords ℕ LiftTrap

abbrev pub Part : Type 0
Part = over.Part ℕ LiftTrap

abbrev pub string_of : ℕ → ℕ → Lift
string_of = over.string_of plainly

abbrev pub elements_from : Part → List ℕ → List Value → ℕ → ℕ → ℕ → Lifted (List Value)
elements_from = over.elements_from plainly

abbrev pub elements_of : Part → ℕ → ℕ → List ℕ → ℕ → ℕ → Lifted (List Value)
elements_of = over.elements_of plainly

abbrev pub list_of : List (Option Part) → ℕ → ℕ → List ℕ → ℕ → ℕ → Lifted Value
list_of = over.list_of plainly

-- a case that is told by its number, one of so many, with its payload
abbrev pub chosen : ℕ → ℕ → ℕ → Lifted (Option Value) → Lifted Value
chosen n count place payload = if nat_lt n count then made (values.Variant n) payload else Err (trap BadCase place)

-- How many of some items are calls, behind one more.
use Rattle.std.proofs.Common.{◌≡◌, ◌+◌, ℕ, List, [], ◌∷◌, ◌++◌, refl, ap}
use Rattle.script_reader.specs.declared.script.Call.{Call}
use Rattle.script_reader.specs.declared.script.Item.{Item}
use Rattle.script_reader.specs.declared.script.Item.TheVariants as item
use Rattle.script_reader.specs.Script.{calls_in}

pub one_call : (items : List Item) (call : Call) → calls_in (items ++ item.Call call ∷ []) ≡ calls_in items + 1
one_call [] call = refl
one_call (item.Call other ∷ items) call = ap (λ (n : ℕ). n + 1) (one_call items call)
one_call (item.Cancel number ∷ items) call = one_call items call

pub no_call : (items : List Item) (number : ℕ) → calls_in (items ++ item.Cancel number ∷ []) ≡ calls_in items
no_call [] number = refl
no_call (item.Call other ∷ items) number = ap (λ (n : ℕ). n + 1) (no_call items number)
no_call (item.Cancel other ∷ items) number = no_call items number

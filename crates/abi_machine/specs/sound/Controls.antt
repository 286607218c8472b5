-- What control says of the chain (Component Model, Concurrency.md, "Summary"): where a turn begins no task runs, and while a graph is
-- instantiated task 0 alone runs.
use Rattle.std.specs.Prelude.{◌≡◌, ℕ, List, [], ◌∷◌}
use Rattle.abi_machine.specs.Control.{Control, Free, Chosen, Instantiates}

abbrev pub Says : Control → List ℕ → Type 0
Says Free chain = chain ≡ []
Says (Chosen k) chain = chain ≡ []
Says (Instantiates n) chain = chain ≡ 0 ∷ []
Says other chain = Unit {0}

-- Items that are made: what the linker stands for is what is computed.
use Rattle.std.proofs.Common.{◌≡◌, List, refl}
use Rattle.std.specs.Prelude.{Result, Ok}
use Rattle.link_spec.specs.declared.fault.LinkWhy.{LinkWhy}
use Rattle.link_spec.specs.Definitions.{Exports}
use Rattle.link_spec.specs.Spaces.{Linking}
use Rattle.link_spec.specs.Computed.{Outcome, Makes, after}
use Rattle.link_parts.specs.Told.{IsTold}
use Rattle.link_state.specs.declared.linker.Linker.{Linker}
use Rattle.link_state.specs.State.{IsState, IsMade}

-- what the linker stands for, where this is made, and where it is made of what a step answers
pub made_told : (k : Linker) (bases : List Exports) (r : Result Outcome LinkWhy) (new : Linking) → r ≡ Ok (Makes new) → IsState bases k new → IsTold {B = Unit {0}} {W = LinkWhy} (λ _ outcome. IsMade k outcome) (Ok tt) r
made_told k bases r new h state = rw h (bases, state)

pub made_from : {A : Type 0} (k : Linker) (bases : List Exports) (x : Result A LinkWhy) (a : A) (make : A → Linking) → x ≡ Ok a → IsState bases k (make a)
    → IsTold {B = Unit {0}} {W = LinkWhy} (λ _ outcome. IsMade k outcome) (Ok tt) (after x (λ a. Ok (Makes (make a))))
made_from k bases x a make h state = made_told k bases (after x (λ a. Ok (Makes (make a)))) (make a) (rw h refl) state

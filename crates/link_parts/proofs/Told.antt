-- What is told of one step behind another: of the first its reason, and else what the second comes to.
use Rattle.std.proofs.Common.{◌≡◌, refl}
use Rattle.std.specs.Prelude.{Result, Ok, Err}
use Rattle.faults.specs.Faults.{IfFault}
use Rattle.faults.specs.declared.memory.MemoryOr.{MemoryOr}
use Rattle.faults.specs.declared.memory.MemoryOr.TheVariants.{Memory, Fault}
use Rattle.link_spec.specs.declared.fault.LinkWhy.{LinkWhy}
use Rattle.link_spec.specs.Computed.{after}
use Rattle.link_parts.specs.Told.{IsReason, IsTold}

-- A reason, and what is answered.
pub told_why : {A B : Type 0} (R : B → A → Type 0) (w : LinkWhy) (r : Result A LinkWhy) → r ≡ Err w → IsTold R (Err (Fault w)) r
told_why R w r h = rw h refl

pub reason_is : {A : Type 0} (w : LinkWhy) (r : Result A LinkWhy) → r ≡ Err w → IsReason (Fault w) r
reason_is w r h = rw h refl

pub told_value : {A B : Type 0} (R : B → A → Type 0) (b : B) (a : A) (r : Result A LinkWhy) → r ≡ Ok a → R b a → IsTold R (Ok b) r
told_value R b a r h p = rw h p

-- a reason of the first step is one of both
pub reason_after : {A B : Type 0} (e : MemoryOr LinkWhy) (x : Result A LinkWhy) (f : A → Result B LinkWhy) → IsReason e x → IsReason e (after x f)
reason_after Memory x f h = tt
reason_after (Fault w) (Ok a) f h = absurd h
reason_after (Fault w) (Err v) f h = h

pub reason_of_fault : {A : Type 0} (e : MemoryOr LinkWhy) (x : Result A LinkWhy) → IfFault e (λ w. x ≡ Err w) → IsReason e x
reason_of_fault Memory x h = tt
reason_of_fault (Fault w) x h = rw h refl

-- what is computed where this is answered
pub value_told : {A B : Type 0} (R : B → A → Type 0) (b : B) (r : Result A LinkWhy) → IsTold R (Ok b) r → (a : A) × (r ≡ Ok a) × R b a
value_told R b (Ok a) h = (a, refl, h)
value_told R b (Err w) h = absurd h

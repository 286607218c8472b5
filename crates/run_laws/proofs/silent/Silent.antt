-- Parts behind which no event of a set is to come next: parts behind parts, what follows something that is looked up, and both ways of a test.
use Rattle.std.proofs.Common.{◌≡◌, Bool, true, false, if◌then◌else◌, refl, Option, Some, None}
use Rattle.world_parts.specs.declared.parts.Flow.{Flow}
use Rattle.world_parts.specs.declared.parts.Flow.TheVariants as flow
use Rattle.world_parts.specs.Held.{Held, Done, Gives, Traps, Spent, Stuck, after, given}
use Rattle.run_laws.proofs.plain.Only.{PlainBy}

abbrev pub IsSilent : Flow → Type 0
IsSilent (flow.Now words) = Unit {0}
IsSilent flow.Rests = Unit {0}
IsSilent (flow.Starts ref words) = Unit {0}
IsSilent flow.Enters = Unit {0}
IsSilent flow.Returns = Unit {0}
IsSilent (flow.Copies copying) = Unit {0}
IsSilent (flow.Delivers r set) = ⊥
IsSilent (flow.Polls r set) = ⊥
IsSilent (flow.HearsNone r) = Unit {0}
IsSilent (flow.HearsCancel r) = Unit {0}

abbrev pub SilentBy : Done Flow → Type 0
SilentBy (Gives x k) = IsSilent x
SilentBy (Traps why k) = Unit {0}
SilentBy (Spent k) = Unit {0}
SilentBy Stuck = Unit {0}

pub silent_after : {A : Type 0} (d : Done A) (f : A → Held → Done Flow) → ((x : A) (k : Held) → SilentBy (f x k)) → SilentBy (after d f)
silent_after (Gives x k) f p = p x k
silent_after (Traps why k) f p = tt
silent_after (Spent k) f p = tt
silent_after Stuck f p = tt

pub silent_given : {A : Type 0} (o : Option A) (f : A → Done Flow) → ((x : A) → o ≡ Some x → SilentBy (f x)) → SilentBy (given o f)
silent_given None f p = tt
silent_given (Some x) f p = p x refl

pub silent_if : (b : Bool) (d e : Done Flow) → SilentBy d → SilentBy e → SilentBy (if b then d else e)
silent_if true d e p q = p
silent_if false d e p q = q

-- Words, a rest, or a core function that starts.
pub plain_silent : (d : Done Flow) → PlainBy d → SilentBy d
plain_silent (Gives (flow.Now words) k) p = tt
plain_silent (Gives flow.Rests k) p = tt
plain_silent (Gives (flow.Starts ref words) k) p = tt
plain_silent (Gives flow.Enters k) p = tt
plain_silent (Gives flow.Returns k) p = tt
plain_silent (Gives (flow.Copies copying) k) p = tt
plain_silent (Gives (flow.Delivers r set) k) p = absurd p
plain_silent (Gives (flow.Polls r set) k) p = absurd p
plain_silent (Gives (flow.HearsNone r) k) p = tt
plain_silent (Gives (flow.HearsCancel r) k) p = tt
plain_silent (Traps why k) p = tt
plain_silent (Spent k) p = tt
plain_silent Stuck p = tt

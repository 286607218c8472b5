-- What parts give: words, a rest, or a core function that starts. So do parts behind parts, what follows something that is looked up, and both ways of a test.
use Rattle.std.proofs.Common.{◌≡◌, refl, Bool, true, false, if◌then◌else◌, Option, Some, None}
use Rattle.world_parts.specs.declared.parts.Flow.{Flow}
use Rattle.world_parts.specs.declared.parts.Flow.TheVariants as flow
use Rattle.world_parts.specs.Held.{Held, Done, Gives, Traps, Spent, Stuck, after, given}

abbrev pub IsPlain : Flow → Type 0
IsPlain (flow.Now words) = Unit {0}
IsPlain flow.Rests = Unit {0}
IsPlain (flow.Starts ref words) = Unit {0}
IsPlain flow.Enters = ⊥
IsPlain flow.Returns = ⊥
IsPlain (flow.Copies copying) = ⊥
IsPlain (flow.Delivers r set) = ⊥
IsPlain (flow.Polls r set) = ⊥
IsPlain (flow.HearsNone r) = ⊥
IsPlain (flow.HearsCancel r) = ⊥

abbrev pub PlainBy : Done Flow → Type 0
PlainBy (Gives x k) = IsPlain x
PlainBy (Traps why k) = Unit {0}
PlainBy (Spent k) = Unit {0}
PlainBy Stuck = Unit {0}

pub plain_after : {A : Type 0} (d : Done A) (f : A → Held → Done Flow) → ((x : A) (k : Held) → PlainBy (f x k)) → PlainBy (after d f)
plain_after (Gives x k) f p = p x k
plain_after (Traps why k) f p = tt
plain_after (Spent k) f p = tt
plain_after Stuck f p = tt

pub plain_given : {A : Type 0} (o : Option A) (f : A → Done Flow) → ((x : A) → o ≡ Some x → PlainBy (f x)) → PlainBy (given o f)
plain_given None f p = tt
plain_given (Some x) f p = p x refl

pub plain_if : (b : Bool) (d e : Done Flow) → PlainBy d → PlainBy e → PlainBy (if b then d else e)
plain_if true d e p q = p
plain_if false d e p q = q

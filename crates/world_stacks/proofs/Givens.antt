-- What follows something that is looked up.
use Rattle.std.proofs.Common.{◌≡◌, ap, ◌∙◌, Option, Some, None}
use Rattle.world_parts.specs.Held.{Done, Stuck, given}

pub given_some : {A B : Type 0} (o : Option A) (x : A) (f : A → Done B) (out : Done B) → o ≡ Some x → f x ≡ out → given o f ≡ out
given_some o x f out e k = ap (λ o. given o f) e ∙ k

pub given_none : {A B : Type 0} (o : Option A) (f : A → Done B) → o ≡ None → given o f ≡ Stuck
given_none o f e = ap (λ o. given o f) e

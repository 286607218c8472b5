-- Parts behind parts.
use Rattle.std.proofs.Common.{◌≡◌, ap, ◌∙◌}
use Rattle.world_parts.specs.Held.{Held, Done, Gives, Traps, Spent, Stuck, after}
use Rattle.trace_labels.specs.declared.trap.TrapName.{TrapName}

pub then_gives : {A B : Type 0} (d : Done A) (x : A) (h : Held) (f : A → Held → Done B) (out : Done B) → d ≡ Gives x h → f x h ≡ out → after d f ≡ out
then_gives d x h f out e k = ap (λ d. after d f) e ∙ k

pub then_traps : {A B : Type 0} (d : Done A) (why : TrapName) (h : Held) (f : A → Held → Done B) → d ≡ Traps why h → after d f ≡ Traps why h
then_traps d why h f e = ap (λ d. after d f) e

pub then_spent : {A B : Type 0} (d : Done A) (h : Held) (f : A → Held → Done B) → d ≡ Spent h → after d f ≡ Spent h
then_spent d h f e = ap (λ d. after d f) e

pub then_stuck : {A B : Type 0} (d : Done A) (f : A → Held → Done B) → d ≡ Stuck → after d f ≡ Stuck
then_stuck d f e = ap (λ d. after d f) e

-- all of them
pub ruleset thens = (then_gives, then_traps, then_spent, then_stuck)

-- Parts behind parts come to one thing where each of both does.
use Rattle.std.proofs.Common.{◌≡◌, ◌∙◌, refl, sym, subst, Option, Some, None}
use Rattle.world_parts.specs.Held.{Held, Done, Gives, Traps, Spent, Stuck, after, given}
use Rattle.value_parts.specs.Coming.{Behind, Then}

-- What holds of an answer, where there is one.
abbrev pub Answers : {A : Type 0} → (A → Type 0) → Done A → Type 0
Answers P (Gives x h) = P x
Answers P (Traps why h) = Unit {0}
Answers P (Spent h) = Unit {0}
Answers P Stuck = Unit {0}

pub answers_after : {A B : Type 0} (P : B → Type 0) (d : Done A) (f : A → Held → Done B) → ((x : A) (h : Held) → Answers P (f x h)) → Answers P (after d f)
answers_after P (Gives x h) f p = p x h
answers_after P (Traps why h) f p = tt
answers_after P (Spent h) f p = tt
answers_after P Stuck f p = tt

pub answers_given : {A B : Type 0} (P : B → Type 0) (o : Option A) (f : A → Done B) → ((x : A) → o ≡ Some x → Answers P (f x)) → Answers P (given o f)
answers_given P None f p = tt
answers_given P (Some x) f p = p x refl

-- Behind a part with an answer of which something holds.
pub once_answered : {A B : Type 0} (P : A → Type 0) (first : Done A) (F : A → Held → Done B → Type 0) (d e : Done B) → Answers P first
    → ((x : A) (h : Held) → P x → F x h d → F x h e → d ≡ e) → Behind first F d → Behind first F e → d ≡ e
once_answered P (Gives x h) F d e p q b c = q x h p b c
once_answered P (Traps why h) F d e p q b c = b ∙ sym c
once_answered P (Spent h) F d e p q b c = b ∙ sym c
once_answered P Stuck F d e p q b c = b ∙ sym c

pub once_behind : {A B : Type 0} (first : Done A) (F : A → Held → Done B → Type 0) (d e : Done B) → ((x : A) (h : Held) → F x h d → F x h e → d ≡ e)
    → Behind first F d → Behind first F e → d ≡ e
once_behind (Gives x h) F d e q b c = q x h b c
once_behind (Traps why h) F d e q b c = b ∙ sym c
once_behind (Spent h) F d e q b c = b ∙ sym c
once_behind Stuck F d e q b c = b ∙ sym c

-- Behind a part that comes to one thing.
pub once_then : {A B : Type 0} (R : Done A → Type 0) (F : A → Held → Done B → Type 0) (d e : Done B) → ((x y : Done A) → R x → R y → x ≡ y)
    → ((x : A) (h : Held) → F x h d → F x h e → d ≡ e) → Then R F d → Then R F e → d ≡ e
once_then {A} R F d e p q (first, r, b) (other, s, c) = once_behind first F d e q b (subst (λ (x : Done A). Behind x F e) (sym (p first other r s)) c)

-- Chains of steps: where each answers its reason only where that is the first, what the chain answers is told.
use Rattle.std.proofs.Common.{◌≡◌, ◌<◌, ℕ, Bool, true, false, List, refl, sym, subst, arith, Option, Some, None}
use Rattle.std.specs.Prelude.{Result, Ok, Err}
use Rattle.std.specs.Option.{MatchOption}
use Rattle.link_spec.specs.declared.fault.LinkWhy.{LinkWhy}
use Rattle.link_spec.specs.declared.fault.LinkWhy.TheVariants as why
use Rattle.link_spec.specs.Linked.{rank}
use Rattle.link_spec.specs.Computed.{after, there_or, only_if, none_missing}

-- no reason of a lower rank
abbrev pub Clear : (LinkWhy → Type 0) → ℕ → Type 0
Clear P k = (w : LinkWhy) → rank w < k → P w → ⊥

pub record First (P : LinkWhy → Type 0) (w : LinkWhy) : Type 0 where
  pub has : P w
  pub clear : Clear P (rank w)

abbrev pub Sound : {A : Type 0} → (LinkWhy → Type 0) → (A → Type 0) → Result A LinkWhy → Type 0
Sound P Q (Ok a) = Q a
Sound P Q (Err w) = First P w

pub clear_root : (P : LinkWhy → Type 0) → (P why.RootImport → ⊥) → Clear P 1
clear_root P not why.RootImport less h = not h
clear_root P not w less h = absurd (omega arith)

pub clear_index : (P : LinkWhy → Type 0) → Clear P 1 → (P why.Index → ⊥) → Clear P 2
clear_index P clear not why.RootImport less h = clear why.RootImport (omega arith) h
clear_index P clear not why.Index less h = not h
clear_index P clear not w less h = absurd (omega arith)

pub clear_missing : (P : LinkWhy → Type 0) → Clear P 2 → ((name : List ℕ) → P (why.Missing name) → ⊥) → Clear P 3
clear_missing P clear not why.RootImport less h = clear why.RootImport (omega arith) h
clear_missing P clear not why.Index less h = clear why.Index (omega arith) h
clear_missing P clear not (why.Missing name) less h = not name h
clear_missing P clear not w less h = absurd (omega arith)

pub clear_typing : (P : LinkWhy → Type 0) → Clear P 3 → (P why.Typing → ⊥) → Clear P 4
clear_typing P clear not why.RootImport less h = clear why.RootImport (omega arith) h
clear_typing P clear not why.Index less h = clear why.Index (omega arith) h
clear_typing P clear not (why.Missing name) less h = clear (why.Missing name) (omega arith) h
clear_typing P clear not why.Typing less h = not h
clear_typing P clear not w less h = absurd (omega arith)

pub clear_canon : (P : LinkWhy → Type 0) → Clear P 4 → (P why.Canon → ⊥) → Clear P 5
clear_canon P clear not why.RootImport less h = clear why.RootImport (omega arith) h
clear_canon P clear not why.Index less h = clear why.Index (omega arith) h
clear_canon P clear not (why.Missing name) less h = clear (why.Missing name) (omega arith) h
clear_canon P clear not why.Typing less h = clear why.Typing (omega arith) h
clear_canon P clear not why.Canon less h = not h
clear_canon P clear not why.Limit less h = absurd (omega arith)

-- Steps.

pub sound_if : {A : Type 0} (P : LinkWhy → Type 0) (Q : A → Type 0) (b : Bool) (w : LinkWhy) (r : Result A LinkWhy) → Clear P (rank w) → (b ≡ false → P w) → (b ≡ true → Sound P Q r) → Sound P Q (only_if b w r)
sound_if P Q true w r clear has rest = rest refl
sound_if P Q false w r clear has rest = record { has = has refl; clear = clear }

pub sound_there : {A B : Type 0} (P : LinkWhy → Type 0) (Q : B → Type 0) (o : Option A) (w : LinkWhy) (f : A → Result B LinkWhy) → Clear P (rank w) → (o ≡ None → P w) → ((a : A) → o ≡ Some a → Sound P Q (f a)) → Sound P Q (after (there_or w o) f)
sound_there P Q None w f clear has rest = record { has = has refl; clear = clear }
sound_there P Q (Some a) w f clear has rest = rest a refl

pub sound_missing : {A : Type 0} (P : LinkWhy → Type 0) (Q : A → Type 0) (o : Option (List ℕ)) (r : Result A LinkWhy) → Clear P 2 → ((name : List ℕ) → o ≡ Some name → P (why.Missing name)) → (o ≡ None → Sound P Q r) → Sound P Q (none_missing o r)
sound_missing P Q None r clear has rest = rest refl
sound_missing P Q (Some name) r clear has rest = record { has = has name refl; clear = clear }

pub sound_checked : {A B : Type 0} (P : LinkWhy → Type 0) (Q : B → Type 0) (b : Bool) (w : LinkWhy) (a : A) (f : A → Result B LinkWhy) → Clear P (rank w) → (b ≡ false → P w) → (b ≡ true → Sound P Q (f a)) → Sound P Q (after (only_if b w (Ok a)) f)
sound_checked P Q true w a f clear has rest = rest refl
sound_checked P Q false w a f clear has rest = record { has = has refl; clear = clear }

-- what answers and faults are
abbrev pub Answers : {A E : Type 0} → (A → Type 0) → (E → Type 0) → Result A E → Type 0
Answers R V (Ok a) = R a
Answers R V (Err e) = V e

-- a step of which more is known
pub sound_after : {A B : Type 0} (P : LinkWhy → Type 0) (Q : B → Type 0) (R : A → Type 0) (V : LinkWhy → Type 0) (r : Result A LinkWhy) (f : A → Result B LinkWhy) → Answers R V r → ((w : LinkWhy) → V w → First P w) → ((a : A) → R a → Sound P Q (f a)) → Sound P Q (after r f)
sound_after P Q R V (Ok a) f h fault rest = rest a h
sound_after P Q R V (Err w) f h fault rest = fault w h

-- a step, where what comes behind its answers is sound
pub sound_behind : {A B : Type 0} (P : LinkWhy → Type 0) (Q : B → Type 0) (r : Result A LinkWhy) (f : A → Result B LinkWhy) → Sound P (λ a. Sound P Q (f a)) r → Sound P Q (after r f)
sound_behind P Q (Ok a) f h = h
sound_behind P Q (Err w) f h = h

-- a last step of which more is known
pub sound_told : {A : Type 0} (P : LinkWhy → Type 0) (Q R : A → Type 0) (V : LinkWhy → Type 0) (r : Result A LinkWhy) → Answers R V r → ((w : LinkWhy) → V w → First P w) → ((a : A) → R a → Q a) → Sound P Q r
sound_told P Q R V (Ok a) h fault rest = rest a h
sound_told P Q R V (Err w) h fault rest = fault w h

pub answers_there : {A B : Type 0} (R : B → Type 0) (V : LinkWhy → Type 0) (o : Option A) (w : LinkWhy) (f : A → Result B LinkWhy) → (o ≡ None → V w) → ((a : A) → o ≡ Some a → Answers R V (f a)) → Answers R V (after (there_or w o) f)
answers_there R V None w f none some = none refl
answers_there R V (Some a) w f none some = some a refl

pub answers_after : {A B E : Type 0} (R : B → Type 0) (V : E → Type 0) (S : A → Type 0) (U : E → Type 0) (r : Result A E) (f : A → Result B E) → Answers S U r → ((e : E) → U e → V e) → ((a : A) → S a → Answers R V (f a)) → Answers R V (after r f)
answers_after R V S U (Ok a) f h fault rest = rest a h
answers_after R V S U (Err e) f h fault rest = fault e h

-- an option that has a value, with what holds of it
pub match_in : {A : Type 0} (P : A → Type 0) (o : Option A) (a : A) → o ≡ Some a → P a → MatchOption o ⊥ P
match_in P o a e p = subst (λ o. MatchOption o ⊥ P) (sym e) p

pub match_none : {A : Type 0} (P : A → Type 0) (o : Option A) → o ≡ None → MatchOption o ⊥ P → ⊥
match_none P o e h = subst (λ o. MatchOption o ⊥ P) e h

pub sound_found : {A B : Type 0} (P : LinkWhy → Type 0) (Q : B → Type 0) (o : Option A) (w : LinkWhy) (f : A → Result B LinkWhy) → (o ≡ None → First P w) → ((a : A) → o ≡ Some a → Sound P Q (f a)) → Sound P Q (after (there_or w o) f)
sound_found P Q None w f fault rest = fault refl
sound_found P Q (Some a) w f fault rest = rest a refl

pub sound_map : {A : Type 0} (P : LinkWhy → Type 0) (Q R : A → Type 0) (r : Result A LinkWhy) → ((a : A) → Q a → R a) → Sound P Q r → Sound P R r
sound_map P Q R (Ok a) f h = f a h
sound_map P Q R (Err w) f h = h

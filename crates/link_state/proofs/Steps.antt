-- What a call is told of, handed on by the one that makes it.
use Rattle.std.proofs.Common.{◌≡◌, ℕ, Bool, List, refl, sym, subst, ◌∙◌, ap, Option, Some, None}
use Rattle.std.specs.Prelude.{Result, Ok, Err}
use Rattle.faults.specs.declared.memory.MemoryOr.{MemoryOr}
use Rattle.faults.specs.declared.memory.MemoryOr.TheVariants.{Memory, Fault}
use Rattle.faults.specs.Faults.{IfFault}
use Rattle.syntax_trees.specs.Names.{is_among}
use Rattle.link_spec.specs.declared.fault.LinkWhy.{LinkWhy}
use Rattle.link_spec.specs.declared.fault.LinkWhy.TheVariants as why
use Rattle.link_spec.specs.Definitions.{Definition, Exports}
use Rattle.link_spec.specs.Computed.{Outcome}
use Rattle.link_instances.specs.declared.references.InstanceRef.{InstanceRef}
use Rattle.link_instances.specs.declared.references.DefinitionRef.{DefinitionRef}
use Rattle.link_types.specs.Table.{Table}
use Rattle.link_instances.specs.References.{World, IsInstance, Stands, IsFound}
use Rattle.link_meanings.specs.Meant.{IsFoundAs}
use Rattle.link_parts.specs.Told.{IsReason, IsTold}
use Rattle.link_state.specs.State.{AreGiven}

-- a reason of a call is the reason of its caller
pub told_err : {A B C W : Type 0} (R : B → A → Type 0) (Q : C → A → Type 0) (result : Result B (MemoryOr W)) (e : MemoryOr W) (x : Result A W)
    → result ≡ Err e → IsTold R result x → IsTold Q (Err e) x
told_err R Q result e x is h = subst (λ r. IsTold R r x) is h

pub told_ok : {A B W : Type 0} (R : B → A → Type 0) (result : Result B (MemoryOr W)) (b : B) (x : Result A W)
    → result ≡ Ok b → IsTold R result x → (a : A) × (x ≡ Ok a) × R b a
told_ok {A} {B} {W} R result b x is h = by x (subst (λ r. IsTold R r x) is h)
  where
    by : (x : Result A W) → IsTold R (Ok b) x → (a : A) × (x ≡ Ok a) × R b a
    by (Ok a) k = (a, refl, k)
    by (Err w) k = absurd k

-- a name that is missing, by its text
pub missing_told : (A : Type 0) (e : MemoryOr LinkWhy) (text name : List ℕ) → text ≡ name → IfFault e (λ w. w ≡ why.Missing text) → IsReason {A = A} e (Err (why.Missing name))
missing_told A Memory text name is h = tt
missing_told A (Fault w) text name is h = subst (λ (q : List ℕ). w ≡ why.Missing q) is h

-- what is found, or not
pub none_found : {A B : Type 0} (R : B → A → Type 0) (o : Option B) (found : Option A) → o ≡ None → IsFoundAs R o found → found ≡ None
none_found R o found is h = subst (λ o. IsFoundAs R o found) is h

pub some_found : {A B : Type 0} (R : B → A → Type 0) (o : Option B) (b : B) (found : Option A) → o ≡ Some b → IsFoundAs R o found → (a : A) × (found ≡ Some a) × R b a
some_found R o b found is h = subst (λ o. IsFoundAs R o found) is h

-- what is found, or nothing
pub found_as : (t : Table) (w : World) (o : Option DefinitionRef) (found : Option Definition) → IsFound t w o found → IsFoundAs (Stands t w) o found
found_as t w None found h = h
found_as t w (Some ref) found h = h

-- what is found under a name
pub none_named : (t : Table) (w : World) (o : Option DefinitionRef) (found : Option Definition) → o ≡ None → IsFound t w o found → found ≡ None
none_named t w o found is h = subst (λ o. IsFound t w o found) is h

pub some_named : (t : Table) (w : World) (o : Option DefinitionRef) (ref : DefinitionRef) (found : Option Definition) → o ≡ Some ref → IsFound t w o found → (d : Definition) × (found ≡ Some d) × Stands t w ref d
some_named t w o ref found is h = subst (λ o. IsFound t w o found) is h

-- what an item comes to, by what is computed
pub outcome_err : (w : LinkWhy) (x : Result Outcome LinkWhy) → x ≡ Err w → IsReason (Fault w) x
outcome_err w x is = subst (λ (r : Result Outcome LinkWhy). IsReason (Fault w) r) (sym is) refl

pub outcome_reason : (e : MemoryOr LinkWhy) (x y : Result Outcome LinkWhy) → x ≡ y → IsReason e y → IsReason e x
outcome_reason e x y is h = subst (λ (r : Result Outcome LinkWhy). IsReason e r) (sym is) h

-- whether a name is among others, as it is asked
pub among_is : (text name : List ℕ) (names own : List (List ℕ)) (result b : Bool) → text ≡ name → own ≡ names → result ≡ is_among text names → result ≡ b → is_among name own ≡ b
among_is text name names own result b same is told answer = ap (λ (q : List ℕ). is_among q own) (sym same) ∙ ap (λ (ns : List (List ℕ)). is_among text ns) is ∙ sym told ∙ answer

-- what a component is given
pub none_given : (t : Table) (w : World) (o : Option InstanceRef) (given : Option Exports) → o ≡ None → AreGiven t w o given → given ≡ None
none_given t w o given is h = by given (subst (λ (o : Option InstanceRef). AreGiven t w o given) is h)
  where
    by : (given : Option Exports) → AreGiven t w None given → given ≡ None
    by None h = refl
    by (Some exports) h = absurd h

pub some_given : (t : Table) (w : World) (o : Option InstanceRef) (i : InstanceRef) (given : Option Exports) → o ≡ Some i → AreGiven t w o given → (exports : Exports) × (given ≡ Some exports) × IsInstance t w i exports
some_given t w o i given is h = by given (subst (λ (o : Option InstanceRef). AreGiven t w o given) is h)
  where
    by : (given : Option Exports) → AreGiven t w (Some i) given → (exports : Exports) × (given ≡ Some exports) × IsInstance t w i exports
    by None h = absurd h
    by (Some exports) h = (exports, refl, h)

-- the same of any answer
pub reason_is : (A : Type 0) (w : LinkWhy) (x : Result A LinkWhy) → x ≡ Err w → IsReason (Fault w) x
reason_is A w x is = subst (λ (r : Result A LinkWhy). IsReason (Fault w) r) (sym is) refl

pub reason_as : (A : Type 0) (e : MemoryOr LinkWhy) (x y : Result A LinkWhy) → x ≡ y → IsReason e y → IsReason e x
reason_as A e x y is h = subst (λ (r : Result A LinkWhy). IsReason e r) (sym is) h

-- a reason that a call hands on
pub reason_of : {A B W : Type 0} (R : B → A → Type 0) (result : Result B (MemoryOr W)) (e : MemoryOr W) (x : Result A W) → result ≡ Err e → IsTold R result x → IsReason e x
reason_of R result e x is h = subst (λ r. IsTold R r x) is h

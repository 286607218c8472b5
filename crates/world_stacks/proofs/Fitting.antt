-- Stacks of tasks stay typed: where the store grows, where one goes on with words that its function gives, where a further one begins, and where one
-- ends over another.
use Rattle.std.proofs.Common.{◌≡◌, ◌⊎◌, inl, inr, ℕ, zero, suc, nat_eq, Bool, true, false, if◌then◌else◌, List, [], ◌∷◌, ◌++◌, length, slice_set, refl, sym, ap, ◌∙◌, subst, Option, Some, None}
use Rattle.std.specs.List.{slice_get}
use Rattle.std.specs.Option.{option_and_then}
use Rattle.wasm_store.specs.Store.{Function, type_of, Store}
use Rattle.wasm_store.specs.Stack.{Stack}
use Rattle.wasm_store.specs.Step.{start, resume}
use Rattle.wasm_store.specs.Typed.{StoreTyped, Extends, StackTyped}
use Rattle.wasm_store.proofs.Stores.{still, stays_typed}
use Rattle.wasm_execution.specs.Waiting.{Waiting}
use Rattle.comp_graph.specs.declared.graph.FuncRef.{FuncRef}
use Rattle.world_stacks.specs.declared.host_call.HostCall.{HostCall}
use Rattle.world_stacks.specs.declared.top.Top.{Top}
use Rattle.world_stacks.specs.declared.top.Top.TheVariants as top
use Rattle.world_stacks.specs.Views.{PileView}
use Rattle.world_stacks.specs.Starting.{are_words, called_with, started, call_of, gives_words}
use Rattle.world_stacks.specs.Addresses.{func_address}
use Rattle.world_stacks.specs.Piles.{new_pile, with_top, resumed, resumed_at, going, gone_on_from, gone_on, stacked_on, stacked, going_back, unstacked, put_back, at_found, at_pile, RunsTyped}
use Rattle.world_stacks.specs.Typing.{CallTyped, TopFits, UnderFits, PileFits, PilesFit}
use Rattle.world_stacks.proofs.Nested.{resumed_typed}
use Rattle.world_stacks.proofs.Words.{started_typed}

-- in a store that extends the one before
runs_later : (s t : Store) (k : Stack) → Extends s t → RunsTyped s k → RunsTyped t k
runs_later s t k more h = (h.0, stays_typed s t h.0 k more h.1)

call_later : (s t : Store) (c : HostCall) → Extends s t → CallTyped s c → CallTyped t c
call_later s t c more h =
    (h.0, still s.funcs t.funcs c.address _ more.funcs h.1, (h.2.0, λ words fit. stays_typed s t h.2.0 (resume words c.waiting.stack) more (h.2.1 words fit)))

top_later : (s t : Store) (x : Top) → Extends s t → TopFits s x → TopFits t x
top_later s t top.Empty more h = tt
top_later s t (top.Waits c) more h = call_later s t c more h
top_later s t (top.Goes k) more h = runs_later s t k more h

pub pile_later : (s t : Store) (p : PileView) → Extends s t → PileFits s p → PileFits t p
pile_later s t p more h = record { top = top_later s t p.top more h.top; under = λ m c there. call_later s t c more (h.under m c there) }

pub piles_later : (s t : Store) (piles : List PileView) → Extends s t → PilesFit s piles → PilesFit t piles
piles_later s t piles more h n p is = pile_later s t p more (h n p is)

-- The stacks of a task are others.
set_either : {A : Type 0} (xs : List A) (t : ℕ) (y : A) (n : ℕ) (z : A) → slice_get (slice_set xs t y) n ≡ Some z → ((n ≡ t) × (z ≡ y)) ⊎ (slice_get xs n ≡ Some z)
set_either [] t y n z h = inr h
set_either (x ∷ xs) zero y zero z h = inl (refl, let e : z ≡ y = cc in e)
set_either (x ∷ xs) zero y (suc n) z h = inr h
set_either (x ∷ xs) (suc t) y zero z h = inr h
set_either (x ∷ xs) (suc t) y (suc n) z h =
    elim (set_either xs t y n z h) [
      | inl e ↦ inl (ap suc e.0, e.1)
      | inr e ↦ inr e
    ]

pub set_fits : (s : Store) (piles : List PileView) (t : ℕ) (q : PileView) → PileFits s q → PilesFit s piles → PilesFit s (slice_set piles t q)
set_fits s piles t q now h n p is =
    elim (set_either piles t q n p is) [
      | inl e ↦ subst (PileFits s) (sym e.1) now
      | inr e ↦ h n p e
    ]

pub new_fits : (s : Store) → PileFits s new_pile
new_fits s = record { top = tt; under = λ n c is. none n c is }
  where
    none : (n : ℕ) (c : HostCall) → (let under : List HostCall = [] in slice_get under n) ≡ Some c → CallTyped s c
    none zero c is = cc
    none (suc n) c is = cc

last_either : {A : Type 0} (xs : List A) (y : A) (n : ℕ) (z : A) → slice_get (xs ++ y ∷ []) n ≡ Some z → (slice_get xs n ≡ Some z) ⊎ (z ≡ y)
last_either [] y zero z h = inr (let e : z ≡ y = cc in e)
last_either [] y (suc zero) z h = cc
last_either [] y (suc (suc n)) z h = cc
last_either (x ∷ xs) y zero z h = inl h
last_either (x ∷ xs) y (suc n) z h = last_either xs y n z h

pub added_fits : (s : Store) (piles : List PileView) → PilesFit s piles → PilesFit s (piles ++ new_pile ∷ [])
added_fits s piles h n p is =
    elim (last_either piles new_pile n p is) [
      | inl old ↦ h n p old
      | inr e ↦ subst (PileFits s) (sym e) (new_fits s)
    ]

-- What is changed in the stacks of one task.
changed_fits : {A : Type 0} (s : Store) (f : PileView → Option (A × PileView)) (t : ℕ) (piles : List PileView) (o : Option PileView) (r : A × List PileView)
    → ((p : PileView) (q : A × PileView) → f p ≡ Some q → PileFits s p → PileFits s q.1) → ((p : PileView) → o ≡ Some p → PileFits s p) → at_found f t piles o ≡ Some r
    → PilesFit s piles → PilesFit s r.1
changed_fits {A} s f t piles None r each found is h = cc
changed_fits {A} s f t piles (Some p) r each found is h = by_result (f p) refl is
  where
    by_result : (x : Option (A × PileView)) → f p ≡ x → put_back t piles x ≡ Some r → PilesFit s r.1
    by_result None e back = cc
    by_result (Some q) e back =
        let same : r.1 ≡ slice_set piles t q.1 = cc in
        subst (PilesFit s) (sym same) (set_fits s piles t q.1 (each p q e (found p refl)) h)

pub at_pile_fits : {A : Type 0} (s : Store) (f : PileView → Option (A × PileView)) (t : ℕ) (piles : List PileView) (r : A × List PileView)
    → ((p : PileView) (q : A × PileView) → f p ≡ Some q → PileFits s p → PileFits s q.1) → at_pile f t piles ≡ Some r → PilesFit s piles → PilesFit s r.1
at_pile_fits s f t piles r each is h = changed_fits s f t piles (slice_get piles t) r each (λ p there. h t p there) is h

-- A stack that waits goes on.
resumed_by : (s : Store) (words : List ℕ) (c : HostCall) (gives : Bool) (k : Stack) → gives_words s c.address words ≡ gives → CallTyped s c
    → (let o : Option Stack = if gives then resumed words c.waiting else None in o) ≡ Some k → RunsTyped s k
resumed_by s words c true k e h is = resumed_typed s s c.address words c.waiting true (resumed words c.waiting) k h (sym e) refl refl is refl
resumed_by s words c false k e h is = cc

resumed_fits : (s : Store) (words : List ℕ) (c : HostCall) (k : Stack) → CallTyped s c → resumed_at s words c ≡ Some k → RunsTyped s k
resumed_fits s words c k h is = resumed_by s words c (gives_words s c.address words) k refl h is

going_fits : (s : Store) (o : Option Stack) (p : PileView) (q : Unit {0} × PileView) → ((k : Stack) → o ≡ Some k → RunsTyped s k) → going o p ≡ Some q → PileFits s p → PileFits s q.1
going_fits s None p q typed is h = cc
going_fits s (Some k) p q typed is h =
    let same : q.1 ≡ with_top (top.Goes k) p = cc in
    subst (PileFits s) (sym same) (record { top = typed k refl; under = h.under })

gone_by : (s : Store) (words : List ℕ) (x : Top) (p : PileView) (q : Unit {0} × PileView) → TopFits s x → gone_on_from s x words p ≡ Some q → PileFits s p → PileFits s q.1
gone_by s words top.Empty p q t is h = cc
gone_by s words (top.Waits c) p q t is h = going_fits s (resumed_at s words c) p q (λ k e. resumed_fits s words c k t e) is h
gone_by s words (top.Goes k) p q t is h = cc

pub gone_on_fits : (s : Store) (words : List ℕ) (p : PileView) (q : Unit {0} × PileView) → gone_on s words p ≡ Some q → PileFits s p → PileFits s q.1
gone_on_fits s words p q is h = gone_by s words p.top p q h.top is h

-- A further stack begins.
stacked_by : (s : Store) (k : Stack) (x : Top) (p : PileView) (q : Unit {0} × PileView) → RunsTyped s k → TopFits s x → stacked_on x k p ≡ Some q → PileFits s p → PileFits s q.1
stacked_by s k top.Empty p q typed t is h =
    let same : q.1 ≡ with_top (top.Goes k) p = cc in
    subst (PileFits s) (sym same) (record { top = typed; under = h.under })
stacked_by s k (top.Waits c) p q typed t is h =
    let same : q.1 ≡ record { top = top.Goes k; under = c ∷ p.under } = cc in
    subst (PileFits s) (sym same) (record { top = typed; under = λ n d there. under n d there })
  where
    under : (n : ℕ) (d : HostCall) → slice_get (c ∷ p.under) n ≡ Some d → CallTyped s d
    under zero d there = let same : d ≡ c = cc in subst (CallTyped s) (sym same) t
    under (suc n) d there = h.under n d there
stacked_by s k (top.Goes other) p q typed t is h = cc

pub stacked_fits : (s : Store) (k : Stack) (p : PileView) (q : Unit {0} × PileView) → RunsTyped s k → stacked k p ≡ Some q → PileFits s p → PileFits s q.1
stacked_fits s k p q typed is h = stacked_by s k p.top p q typed h.top is h

-- One ends over another.
back_by : (s : Store) (o : Option Stack) (under : List HostCall) (q : Bool × PileView) → ((k : Stack) → o ≡ Some k → RunsTyped s k) → UnderFits s under → going_back o under ≡ Some q → PileFits s q.1
back_by s None under q typed h is = cc
back_by s (Some k) under q typed h is =
    let same : q.1 ≡ record { top = top.Goes k; under = under } = cc in
    subst (PileFits s) (sym same) (record { top = typed k refl; under = h })

pub unstacked_fits : (s : Store) (under : List HostCall) (p : PileView) (q : Bool × PileView) → UnderFits s under → unstacked s under p ≡ Some q → PileFits s p → PileFits s q.1
unstacked_fits s [] p q u is h = let same : q.1 ≡ p = cc in subst (PileFits s) (sym same) h
unstacked_fits s (c ∷ under) p q u is h =
    back_by s (resumed_at s [] c) under q (λ k e. resumed_fits s [] c k (u zero c refl) e) (λ n d there. u (suc n) d there) is

-- A call of a function with words that it takes.
called_fits : (s : Store) (address : ℕ) (words : List ℕ) (o : Option Function) (k : Stack) → StoreTyped s → slice_get s.funcs address ≡ o → called_with o address words ≡ Some k → RunsTyped s k
called_fits s address words None k typed there is = cc
called_fits s address words (Some f) k typed there is = by_words (are_words (type_of f).params words) refl is
  where
    by_words : (b : Bool) → are_words (type_of f).params words ≡ b → (let o : Option Stack = if b then Some (start f address words) else None in o) ≡ Some k → RunsTyped s k
    by_words true e h = let same : k ≡ start f address words = cc in started_typed s address f words k typed there e same
    by_words false e h = cc

pub started_fits : (s : Store) (address : ℕ) (words : List ℕ) (k : Stack) → StoreTyped s → started s address words ≡ Some k → RunsTyped s k
started_fits s address words k typed is = called_fits s address words (slice_get s.funcs address) k typed refl is

call_by : (s : Store) (words : List ℕ) (o : Option ℕ) (k : Stack) → StoreTyped s → option_and_then (λ address. started s address words) o ≡ Some k → RunsTyped s k
call_by s words None k typed is = cc
call_by s words (Some address) k typed is = started_fits s address words k typed is

pub call_of_fits : (s : Store) (func : FuncRef) (words : List ℕ) (k : Stack) → StoreTyped s → call_of s func words ≡ Some k → RunsTyped s k
call_of_fits s func words k typed is = call_by s words (func_address s func) k typed is

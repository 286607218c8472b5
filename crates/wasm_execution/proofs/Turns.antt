-- The function that runs, step by step: it stays typed, and each step is paid.
use Rattle.std.proofs.Common.{◌≡◌, ◌≢◌, ◌≤◌, ◌+◌, ℕ, true, [], refl, sym, subst, arith, Some}
use Rattle.std.specs.List.{slice_get}
use Rattle.wasm_store.specs.Store.{Instance, Store}
use Rattle.wasm_store.specs.Stack.{Frame, Running}
use Rattle.wasm_store.specs.Step.{Stuck, next, Steps}
use Rattle.wasm_store.specs.Typed.{StoreTyped}
use Rattle.wasm_store.proofs.Moving.{never_stuck}
use Rattle.wasm_execution.specs.Stepping.{IsTyped, Onward, LeavesTo, Reaches}
use Rattle.wasm_execution.proofs.Ends.{steps_after, no_steps, one_step}

-- what holds of a frame that others have led to
pub record Held (s : Store) (f : Frame) : Type 0 where
  pub store : StoreTyped s
  pub typed : IsTyped s f
  pub moving : next s (Running f []) ≢ Stuck

pub held : (spent : ℕ) (s t : Store) (f g : Frame) → StoreTyped s → IsTyped s f → Steps spent s (Running f []) t (Running g []) → Held t g
held spent s t f g st (gives, h) steps =
    let k = never_stuck spent s t gives (Running f []) (Running g []) st (gives, h, refl) steps in
    record { store = k.1; typed = (k.2.0, k.2.1); moving = k.3 }

pub reaches_none : (s : Store) (f : Frame) (before : ℕ) → Reaches s f before s before f
reaches_none s f before = record { spent = 0; steps = λ fs. no_steps s (Running f fs); paid = omega arith }

-- the instance of a typed frame
pub instance_there : (s : Store) (f : Frame) → IsTyped s f → (i : Instance) × (slice_get s.instances f.instance ≡ Some i)
instance_there s f (gives, h) = (h.owner, h.there)

-- ends of blocks behind other steps
pub reaches_end : (s t : Store) (f g h : Frame) (before after : ℕ) → Reaches s f before t after g → IsTyped t g → LeavesTo g h → Reaches s f before t after h
reaches_end s t f g h before after k typed leaves =
    let i = instance_there t g typed in
    let paid : before ≡ after + (k.spent + 0) = (let p = k.paid in omega (arith, p)) in
    record {
      spent = k.spent + 0;
      steps = λ fs. steps_after k.spent 0 s t t (Running f fs) (Running g fs) (Running h fs) (k.steps fs) (leaves t i.0 fs i.1);
      paid = paid;
    }

-- an instruction behind other steps
pub reaches_step : (s t u : Store) (f g h : Frame) (before after left : ℕ) → Reaches s f before t after g → after ≡ left + 1 → Onward t g u h → Reaches s f before u left h
reaches_step s t u f g h before after left k one goes =
    let paid : before ≡ left + (k.spent + 1) = (let p = k.paid in omega (arith, p, one)) in
    record {
      spent = k.spent + 1;
      steps = λ fs. steps_after k.spent 1 s t u (Running f fs) (Running g fs) (Running h fs) (k.steps fs) (one_step true t u (Running g fs) (Running h fs) (goes fs));
      paid = paid;
    }

pub reaches_paid : (s t : Store) (f g : Frame) (before after left : ℕ) → Reaches s f before t after g → after ≡ left + 1 → Reaches s f before t (left + 1) g
reaches_paid s t f g before after left k one = subst (λ (n : ℕ). Reaches s f before t n g) one k

pub held_there : (s t : Store) (f g : Frame) (before after : ℕ) → StoreTyped s → IsTyped s f → Reaches s f before t after g → Held t g
held_there s t f g before after st typed k = held k.spent s t f g st typed (k.steps [])

-- A typed frame whose blocks have ended is typed.
pub turn_ready : (s : Store) (f g : Frame) → StoreTyped s → IsTyped s f → LeavesTo f g → Held s g
turn_ready s f g st typed leaves =
    let i = instance_there s f typed in
    held 0 s s f g st typed (leaves s i.0 [] i.1)

-- what an iteration leaves
pub record Turned (s : Store) (f : Frame) (before : ℕ) (t : Store) (left : ℕ) (h : Frame) : Type 0 where
  pub store : StoreTyped t
  pub typed : IsTyped t h
  pub reaches : Reaches s f before t left h

pub turn_goes : (s t u : Store) (f g k h : Frame) (before after left : ℕ) → Reaches s f before t after g → StoreTyped t → IsTyped t g → LeavesTo g k → after ≡ left + 1 → Onward t k u h → Turned s f before u left h
turn_goes s t u f g k h before after left r st typed leaves one goes =
    let ready = turn_ready t g k st typed leaves in
    let next = held 1 t u k h ready.store ready.typed (one_step true t u (Running k []) (Running h []) (goes [])) in
    record { store = next.store; typed = next.typed; reaches = reaches_step s t u f k h before after left (reaches_end s t f g k before after r typed leaves) one goes }

pub turn_paid : (s t : Store) (f g k : Frame) (before after left : ℕ) → Reaches s f before t after g → IsTyped t g → LeavesTo g k → after ≡ left + 1 → Reaches s f before t (left + 1) k
turn_paid s t f g k before after left r typed leaves one = subst (λ (n : ℕ). Reaches s f before t n k) one (reaches_end s t f g k before after r typed leaves)

pub not_more : (s t : Store) (f g : Frame) (before after : ℕ) → Reaches s f before t after g → after ≤ before
not_more s t f g before after k = let p = k.paid in omega (arith, p)

pub kept_fuel : (s t : Store) (f g : Frame) (before after left : ℕ) → Reaches s f before t after g → left ≡ after → Reaches s f before t left g
kept_fuel s t f g before after left k same = subst (λ (n : ℕ). Reaches s f before t n g) (sym same) k

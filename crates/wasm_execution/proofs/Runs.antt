-- Runs of stacks: what steps have led to, and how a run ends.
use Rattle.std.proofs.Common.{◌≡◌, ◌≢◌, ◌+◌, ℕ, true, List, [], ◌∷◌, ◌++◌, map, reverse, ap, ◌∙◌, subst, arith}
use Rattle.std.proofs.lemmas.List.{reverse-reverse, reverse-append}
use Rattle.syntax_trees.specs.declared.module_types.ValType.{ValType}
use Rattle.syntax_trees.specs.Expr.{End}
use Rattle.wasm_store.specs.declared.trap.Trap.{Trap}
use Rattle.wasm_store.specs.Store.{Store}
use Rattle.wasm_store.specs.Stack as stack
use Rattle.wasm_store.specs.Step.{Move, Goes, Calls, Ends, Traps, Stuck, with_more, next, Steps}
use Rattle.wasm_store.specs.Typed.{StoreTyped, StackTyped}
use Rattle.wasm_store.proofs.Moving.{never_stuck}
use Rattle.wasm_execution.specs.declared.frame.Frame.{Frame}
use Rattle.wasm_execution.specs.Places.{frame_of}
use Rattle.wasm_execution.specs.Stacks.{frames_of}
use Rattle.wasm_execution.specs.Run.{Comes, Waits, GivesUp}
use Rattle.wasm_execution.specs.Stepping.{IsTyped, HasNext, Reaches}
use Rattle.wasm_execution.proofs.Ends.{steps_after, no_steps, one_step, ended_next, ended_back}
use Rattle.wasm_execution.proofs.Paying.{next_costs}

-- Steps lead from the one store and stack to the other, and each was paid.
pub record Stands (s : Store) (k : stack.Stack) (before : ℕ) (t : Store) (after : ℕ) (l : stack.Stack) : Type 0 where
  pub spent : ℕ
  pub steps : Steps spent s k t l
  pub paid : before ≡ after + spent

-- a typed stack, in a typed store
pub record Sound (s : Store) (k : stack.Stack) : Type 0 where
  pub store : StoreTyped s
  pub results : List ValType
  pub typed : StackTyped s results k
  pub moving : next s k ≢ Stuck

pub stands_none : (s : Store) (k : stack.Stack) (before : ℕ) → Stands s k before s before k
stands_none s k before = record { spent = 0; steps = no_steps s k; paid = omega arith }

pub sound_there : (s t : Store) (k l : stack.Stack) (before after : ℕ) (results : List ValType) → StoreTyped s → StackTyped s results k → Stands s k before t after l → Sound t l
sound_there s t k l before after results st typed h =
    let n = never_stuck h.spent s t results k l st typed h.steps in
    record { store = n.1; results = results; typed = n.2; moving = n.3 }

-- the steps of a function behind others
pub stands_reached : (s t u : Store) (k : stack.Stack) (f g : stack.Frame) (fs : List stack.Frame) (before between after : ℕ) → Stands s k before t between (stack.Running f fs) → Reaches t f between u after g → Stands s k before u after (stack.Running g fs)
stands_reached s t u k f g fs before between after h r =
    let p = h.paid in
    let q = r.paid in
    record {
      spent = h.spent + r.spent;
      steps = steps_after h.spent r.spent s t u k (stack.Running f fs) (stack.Running g fs) h.steps (r.steps fs);
      paid = omega (arith, p, q);
    }

-- a step more, which costs a unit
pub stands_step : (s t u : Store) (k l m : stack.Stack) (before after : ℕ) → Stands s k before t (after + 1) l → next t l ≡ Goes true u m → Stands s k before u after m
stands_step s t u k l m before after h goes =
    let p = h.paid in
    record { spent = h.spent + 1; steps = steps_after h.spent 1 s t u k l m h.steps (one_step true t u l m goes); paid = omega (arith, p) }

-- A function has ended: the one that called it goes on.
pub stands_back : (s t : Store) (k : stack.Stack) (f g c : stack.Frame) (fs : List stack.Frame) (before after : ℕ) → Stands s k before t after (stack.Running f (c ∷ fs)) → Sound t (stack.Running f (c ∷ fs)) → f.rest ≡ End → f.labels ≡ [] → g ≡ with_more f.values c → Stands s k before t after (stack.Running g fs)
stands_back s t k f g c fs before after h sound e none new =
    let there = sound.typed.1 in
    let p = h.paid in
    record {
      spent = h.spent + 0;
      steps = steps_after h.spent 0 s t t k (stack.Running f (c ∷ fs)) (stack.Running g fs) h.steps (ended_back t f g c fs there.owner there.there e none new);
      paid = omega (arith, p);
    }

-- How a run ends.

pub comes_end : (s t : Store) (k : stack.Stack) (f : stack.Frame) (before after : ℕ) (words : List ℕ) → Stands s k before t after (stack.Running f []) → Sound t (stack.Running f []) → f.rest ≡ End → f.labels ≡ [] → f.values ≡ reverse words → Comes s k before t after (Ends words)
comes_end s t k f before after words h sound e none values =
    let there = sound.typed.1 in
    let p = h.paid in
    let goes : next t (stack.Running f []) ≡ Ends words = ended_next t f [] there.owner there.there e none ∙ ap (λ (vs : List ℕ). let m : Move = Ends (reverse vs) in m) values ∙ ap (λ (vs : List ℕ). let m : Move = Ends vs in m) (reverse-reverse words) in
    record { spent = h.spent; last = stack.Running f []; steps = h.steps; moves = goes; paid = omega (arith, p) }

pub comes_trap : (s t : Store) (k : stack.Stack) (f : stack.Frame) (fs : List stack.Frame) (before after : ℕ) (why : Trap) → Stands s k before t (after + 1) (stack.Running f fs) → next t (stack.Running f fs) ≡ Traps why → Comes s k before t after (Traps why)
comes_trap s t k f fs before after why h goes =
    let p = h.paid in
    record { spent = h.spent; last = stack.Running f fs; steps = h.steps; moves = goes; paid = omega (arith, p) }

pub comes_call : (s t : Store) (k : stack.Stack) (f : stack.Frame) (fs : List stack.Frame) (before after address : ℕ) (words : List ℕ) (waits : stack.Stack) → Stands s k before t (after + 1) (stack.Running f fs) → next t (stack.Running f fs) ≡ Calls address words waits → Comes s k before t after (Calls address words waits)
comes_call s t k f fs before after address words waits h goes =
    let p = h.paid in
    record { spent = h.spent; last = stack.Running f fs; steps = h.steps; moves = goes; paid = omega (arith, p) }

pub waits_there : (s t : Store) (k : stack.Stack) (f : stack.Frame) (fs : List stack.Frame) (before after : ℕ) → Stands s k before t after (stack.Running f fs) → Sound t (stack.Running f fs) → after ≡ 0 → HasNext f.rest → Waits s k before t after (stack.Running f fs)
waits_there s t k f fs before after h sound none more =
    let there = sound.typed.1 in
    let p = h.paid in
    let all : h.spent ≡ before = omega (arith, p, none) in
    record {
      steps = subst (λ (n : ℕ). Steps n s k t (stack.Running f fs)) all h.steps;
      none = none;
      costs = next_costs t f fs there.owner there.there more sound.moving;
    }

-- Memory is wanting where steps have led to, or in a step behind them that was paid.
pub gives_up : (s t : Store) (k l : stack.Stack) (before after : ℕ) → Stands s k before t after l → GivesUp s k before t after
gives_up s t k l before after h =
    let p = h.paid in
    record { spent = h.spent; last = l; steps = h.steps; paid = omega (arith, p); one_more = omega (arith, p) }

pub gives_up_paid : (s t : Store) (k l : stack.Stack) (before after : ℕ) → Stands s k before t (after + 1) l → GivesUp s k before t after
gives_up_paid s t k l before after h =
    let p = h.paid in
    record { spent = h.spent; last = l; steps = h.steps; paid = omega (arith, p); one_more = omega (arith, p) }

-- Frames that wait, by the list of the program.
pub frames_push : (callers : List Frame) (f : Frame) → frames_of (callers ++ f ∷ []) ≡ frame_of f ∷ frames_of callers
frames_push callers f = ap (map frame_of) (reverse-append callers (f ∷ []))

-- An iteration.

pub record Iterated (s : Store) (k : stack.Stack) (before : ℕ) (t : Store) (after : ℕ) (f : stack.Frame) (fs : List stack.Frame) : Type 0 where
  pub stands : Stands s k before t after (stack.Running f fs)
  pub sound : Sound t (stack.Running f fs)

-- a function has run to its pause
pub paused : (s t u : Store) (k : stack.Stack) (f g : stack.Frame) (fs : List stack.Frame) (before between after : ℕ) → Stands s k before t between (stack.Running f fs) → Sound t (stack.Running f fs) → Reaches t f between u after g → Iterated s k before u after g fs
paused s t u k f g fs before between after h sound r = record {
  stands = stands_reached s t u k f g fs before between after h r;
  sound = sound_there t u (stack.Running f fs) (stack.Running g fs) between after sound.results sound.store sound.typed (record { spent = r.spent; steps = r.steps fs; paid = r.paid });
}

-- it has ended, and another goes on
pub went_back : (s t : Store) (k : stack.Stack) (f g c : stack.Frame) (fs gs : List stack.Frame) (before after : ℕ) → Iterated s k before t after f gs → gs ≡ c ∷ fs → f.rest ≡ End → f.labels ≡ [] → g ≡ with_more f.values c → Iterated s k before t after g fs
went_back s t k f g c fs gs before after h there e none new =
    let i : Iterated s k before t after f (c ∷ fs) = subst (λ (gs : List stack.Frame). Iterated s k before t after f gs) there h in
    let owner = i.sound.typed.1 in
    let steps : Stands t (stack.Running f (c ∷ fs)) after t after (stack.Running g fs) =
    stands_back t t (stack.Running f (c ∷ fs)) f g c fs after after (stands_none t (stack.Running f (c ∷ fs)) after) i.sound e none new in
    record {
      stands = stands_back s t k f g c fs before after i.stands i.sound e none new;
      sound = sound_there t t (stack.Running f (c ∷ fs)) (stack.Running g fs) after after i.sound.results i.sound.store i.sound.typed steps;
    }

-- it calls another, which begins
pub went_on : (s t : Store) (k : stack.Stack) (f g : stack.Frame) (fs gs : List stack.Frame) (before after : ℕ) → Iterated s k before t (after + 1) f fs → next t (stack.Running f fs) ≡ Goes true t (stack.Running g gs) → Iterated s k before t after g gs
went_on s t k f g fs gs before after h goes =
    let one : Stands t (stack.Running f fs) (after + 1) t after (stack.Running g gs) = record { spent = 1; steps = one_step true t t (stack.Running f fs) (stack.Running g gs) goes; paid = omega arith } in
    record {
      stands = stands_step s t t k (stack.Running f fs) (stack.Running g gs) before after h.stands goes;
      sound = sound_there t t (stack.Running f fs) (stack.Running g gs) (after + 1) after h.sound.results h.sound.store h.sound.typed one;
    }

-- the top of a stack that is typed is typed by itself
pub top_typed : (t : Store) (f : stack.Frame) (fs : List stack.Frame) → Sound t (stack.Running f fs) → IsTyped t f
top_typed t f fs h = (h.typed.0, h.typed.1)

pub iterated_none : (s : Store) (f : stack.Frame) (fs : List stack.Frame) (before : ℕ) (results : List ValType) → StoreTyped s → StackTyped s results (stack.Running f fs) → Iterated s (stack.Running f fs) before s before f fs
iterated_none s f fs before results st typed = record {
  stands = stands_none s (stack.Running f fs) before;
  sound = sound_there s s (stack.Running f fs) (stack.Running f fs) before before results st typed (stands_none s (stack.Running f fs) before);
}

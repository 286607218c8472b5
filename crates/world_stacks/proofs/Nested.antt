-- Nested code that calls functions of the host, which are answered in place.
use Rattle.std.proofs.Common.{◌≡◌, ℕ, zero, suc, nat_eq, Bool, true, false, if◌then◌else◌, List, [], ◌∷◌, ◌++◌, length, refl, sym, ap, ◌∙◌, subst, Option, Some, None, Result, Ok, Err}
use Rattle.wasm_store.specs.declared.trap.Trap.{Trap}
use Rattle.wasm_store.specs.Store.{Function, Store}
use Rattle.wasm_store.specs.Stack.{Stack}
use Rattle.wasm_store.specs.Step.{Calls, resume}
use Rattle.wasm_store.specs.Typed.{StoreTyped, StackTyped}
use Rattle.wasm_store.specs.Laws.{MoveTyped}
use Rattle.wasm_store.proofs.Moving.{moves_typed, never_stuck}
use Rattle.wasm_execution.specs.Waiting.{Waiting}
use Rattle.wasm_execution.specs.Run.{RunGives}
use Rattle.wasm_execution.specs.declared.running.Outcome.TheVariants as outcome
use Rattle.comp_graph.specs.Graph.{Graph}
use Rattle.trace_labels.specs.declared.label.Label.{Label}
use Rattle.trace_labels.specs.declared.trap.TrapName.{TrapName}
use Rattle.world_parts.specs.declared.parts.Parts.{Parts}
use Rattle.world_parts.specs.declared.parts.Rest.TheVariants as rest
use Rattle.world_parts.specs.declared.parts.Stop.{Stop}
use Rattle.world_parts.specs.declared.parts.Stop.TheVariants as stop
use Rattle.world_parts.specs.Held.{Held, held, Gives}
use Rattle.world_parts.specs.Feed.{told, at_rest}
use Rattle.world_stacks.specs.Piles.{resumed, RunsTyped, Finds}
use Rattle.world_stacks.specs.Names.{core_name}
use Rattle.world_stacks.specs.Starting.{are_words, given_by, gives_words}
use Rattle.world_stacks.specs.PostReturns.{Point, GoesOn, Gone, WaitsTyped, answered_in_place, NestedGives, BeginsNested}
use Rattle.world_stacks.proofs.Words.{words_typed}

-- A typed stack that came to a call of the host waits for any words of the called function's results.
pub waits_typed : (s : Store) (k : Stack) (before : ℕ) (number : ℕ) (words : List ℕ) (w : Waiting) (t : Store) (after : ℕ) → StoreTyped s → RunsTyped s k → RunGives s k before (outcome.Calls number words w) t after → WaitsTyped t number w
waits_typed s k before number words w t after store typed h =
    let last = never_stuck h.comes.spent s t typed.0 k h.comes.last store typed.1 h.comes.steps in
    let calls : MoveTyped t typed.0 (Calls number words w.stack) = subst (MoveTyped t typed.0) h.comes.moves (moves_typed t typed.0 h.comes.last last.1 last.2) in
    (calls.0, calls.1, (typed.0, calls.3))

-- One call more.
pub gone_none : (g : Graph) (t at : ℕ) (a : Point) → Gone g t at a a
gone_none g t at a = record { count = zero; calls = refl }

gone_more : (g : Graph) (t at : ℕ) (a b c : Point) → Gone g t at a b → GoesOn g t at b c → Gone g t at a c
gone_more g t at a b c h one = record { count = suc h.count; calls = (b, h.calls, one) }

-- A stack that waits goes on with words that are those of the called function, in the same store.
if_is : (b : Bool) (x k : Stack) → (let o : Option Stack = if b then Some x else None in o) ≡ Some k → k ≡ x
if_is true x k h = cc
if_is false x k h = cc

pub told_store : (label : Label) (h k : Held) → told label h ≡ Gives tt k → k.store ≡ h.store
told_store label h k e = let same : record h { labels = h.labels ++ label ∷ [] } ≡ k = cc in ap (λ (x : Held). x.store) (sym same)

pub resumed_typed : (s t : Store) (number : ℕ) (answer : List ℕ) (w : Waiting) (r : Bool) (o : Option Stack) (k : Stack) → WaitsTyped s number w → r ≡ gives_words s number answer → r ≡ true
    → o ≡ resumed answer w → o ≡ Some k → t ≡ s → RunsTyped t k
resumed_typed s t number answer w r o k h test holds resumes is same =
    let fit : are_words h.0.results answer ≡ true = sym (ap (λ (f : Option Function). given_by f answer) h.1) ∙ sym test ∙ holds in
    let goes : k ≡ resume answer w.stack = if_is (nat_eq w.count (length answer)) (resume answer w.stack) k (sym resumes ∙ is) in
    (h.2.0, subst (StackTyped t h.2.0) (sym goes) (subst (λ (u : Store). StackTyped u h.2.0 (resume answer w.stack)) (sym same) (h.2.1 answer (words_typed h.0.results answer fit))))

-- How nested code ends.
pub nested_done : (g : Graph) (t at : ℕ) (a mid : Point) (words : List ℕ) (s : Store) (left : ℕ) (new : Parts) → Gone g t at a mid
    → RunGives mid.held.store mid.stack mid.held.left (outcome.Done words) s left → held new ≡ at_rest rest.Leaves (record mid.held { store = s; left = left }) → NestedGives g t at a (Ok tt) new
nested_done g t at a mid words s left new gone gives is = (mid, gone, (outcome.Done words, record mid.held { store = s; left = left }, (s, left, gives, refl), (refl, is)))

pub nested_trapped : (g : Graph) (t at : ℕ) (a mid : Point) (why : Trap) (name : TrapName) (s : Store) (left : ℕ) (new : Parts) → Gone g t at a mid
    → RunGives mid.held.store mid.stack mid.held.left (outcome.Trapped why) s left → name ≡ core_name why → held new ≡ record mid.held { store = s; left = left } → NestedGives g t at a (Err (stop.Trap name)) new
nested_trapped g t at a mid why name s left new gone gives named is =
    (mid, gone, (outcome.Trapped why, record mid.held { store = s; left = left }, (s, left, gives, refl), (ap (λ (n : TrapName). let r : Result (Unit {0}) Stop = Err (stop.Trap n) in r) named, is)))

pub nested_wants : (g : Graph) (t at : ℕ) (a mid : Point) (later : Stack) (s : Store) (left : ℕ) (new : Parts) → Gone g t at a mid
    → RunGives mid.held.store mid.stack mid.held.left (outcome.NoFuel later) s left → held new ≡ record mid.held { store = s; left = left } → NestedGives g t at a (Err stop.NoFuel) new
nested_wants g t at a mid later s left new gone gives is = (mid, gone, (outcome.NoFuel later, record mid.held { store = s; left = left }, (s, left, gives, refl), (refl, is)))

-- One answer more.
pub nested_more : (g : Graph) (t at : ℕ) (a mid : Point) (number : ℕ) (words : List ℕ) (w : Waiting) (s : Store) (left : ℕ) (k : Stack) (new : Held) → Gone g t at a mid
    → RunGives mid.held.store mid.stack mid.held.left (outcome.Calls number words w) s left
    → answered_in_place g t at number words w (record mid.held { store = s; left = left }) ≡ Gives k new → Gone g t at a (record { held = new; stack = k })
nested_more g t at a mid number words w s left k new gone gives is =
    gone_more g t at a mid (record { held = new; stack = k }) gone (number, words, w, record mid.held { store = s; left = left }, (s, left, gives, refl), is)

-- Where no call begins there is no rule.
pub begins_not : (g : Graph) (t : ℕ) (i : Option ℕ) (at : ℕ) (o : Option Stack) (h : Held) (e : Stop) (new : Parts) → i ≡ Some at → Finds o (Err e) → BeginsNested g t i o h (Err e) new
begins_not g t None at o h e new is d = cc
begins_not g t (Some i) at None h (stop.Trap why) new is d = d
begins_not g t (Some i) at None h stop.NoFuel new is d = d
begins_not g t (Some i) at None h stop.Stuck new is d = tt
begins_not g t (Some i) at None h stop.Memory new is d = tt
begins_not g t (Some i) at (Some k) h (stop.Trap why) new is d = absurd d
begins_not g t (Some i) at (Some k) h stop.NoFuel new is d = absurd d
begins_not g t (Some i) at (Some k) h stop.Stuck new is d = absurd (cc)
begins_not g t (Some i) at (Some k) h stop.Memory new is d = tt

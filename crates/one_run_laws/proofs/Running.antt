-- A run of a stack comes to one thing, and leaves one store and so much fuel.
use Rattle.std.proofs.Common.{◌≡◌, ◌∙◌, ◌+◌, ◌<◌, ◌≤◌, ◌⊎◌, inl, inr, ℕ, zero, suc, Bool, List, length, sym, ap, subst, arith, Option, Some}
use Rattle.std.specs.List.{slice_get}
use Rattle.wasm_store.specs.declared.trap.Trap.{Trap}
use Rattle.wasm_store.specs.Store.{Function, type_of, Store}
use Rattle.wasm_store.specs.Stack.{Stack}
use Rattle.wasm_store.specs.Step.{Move, Goes, Calls, Ends, Traps, next, units, cost, Moves}
use Rattle.wasm_store.proofs.Runs.{fewer_are_front}
use Rattle.wasm_execution.specs.Waiting.{Waiting}
use Rattle.wasm_execution.specs.Run.{Comes, Waits, Asks, RunGives}
use Rattle.wasm_execution.specs.declared.running.Outcome.{Outcome}
use Rattle.wasm_execution.specs.declared.running.Outcome.TheVariants as outcome

-- What is told of a run: want of memory is not.
abbrev pub IsTold : Outcome → Type 0
IsTold (outcome.Done words) = Unit {0}
IsTold (outcome.Calls number words waiting) = Unit {0}
IsTold (outcome.Trapped why) = Unit {0}
IsTold (outcome.NoFuel later) = Unit {0}
IsTold outcome.Memory = ⊥

-- Moves that were paid lead to a stack whose next move is none, or costs more than is left.
record Halts (s : Store) (k : Stack) (before : ℕ) (t : Store) (last : Stack) (spent : ℕ) : Type 0 where
  pub count : ℕ
  pub moves : Moves count spent s k t last
  pub within : spent ≤ before
  pub stays : (costs : Bool) (u : Store) (m : Stack) → next t last ≡ Goes costs u m → before < spent + units costs

-- Fewer moves are all.
not_further : (s t u : Store) (k l m : Stack) (before spent left : ℕ) (more : ℕ) → (h : Halts s k before t l spent) → spent + left ≤ before → Moves more left t l u m
    → (left ≡ 0) × (u ≡ t) × (m ≡ l)
not_further s t u k l m before spent left zero h within moves = moves
not_further s t u k l m before spent left (suc more) h within (costs, rest, v, n, goes, is, others) =
    let less : before < spent + units costs = h.stays costs v n goes in
    absurd (omega (arith, less, is, within))

less_or_more : (a b : ℕ) → ((more : ℕ) × (b ≡ a + more)) ⊎ ((more : ℕ) × (a ≡ b + more))
less_or_more zero b = inl (b, omega arith)
less_or_more (suc a) zero = inr (suc a, omega arith)
less_or_more (suc a) (suc b) = by_rest (less_or_more a b)
  where
    by_rest : ((more : ℕ) × (b ≡ a + more)) ⊎ ((more : ℕ) × (a ≡ b + more)) → ((more : ℕ) × (suc b ≡ suc a + more)) ⊎ ((more : ℕ) × (suc a ≡ suc b + more))
    by_rest (inl (more, is)) = inl (more, omega (arith, is))
    by_rest (inr (more, is)) = inr (more, omega (arith, is))

-- So both halts are one.
halts_once : (s t u : Store) (k l m : Stack) (before spent other : ℕ) → Halts s k before t l spent → Halts s k before u m other → (spent ≡ other) × (t ≡ u) × (l ≡ m)
halts_once s t u k l m before spent other h i = by_count (less_or_more h.count i.count)
  where
    by_count : ((more : ℕ) × (i.count ≡ h.count + more)) ⊎ ((more : ℕ) × (h.count ≡ i.count + more)) → (spent ≡ other) × (t ≡ u) × (l ≡ m)
    by_count (inl (more, is)) =
        let front = fewer_are_front h.count more spent other s t u k l m h.moves (subst (λ (n : ℕ). Moves n other s k u m) is i.moves) in
        let rest = not_further s t u k l m before spent front.0 more h (let w = i.within in omega (arith, w, front.1)) front.2 in
        (omega (arith, front.1, rest.0), sym rest.1, sym rest.2)
    by_count (inr (more, is)) =
        let front = fewer_are_front i.count more other spent s u t k m l i.moves (subst (λ (n : ℕ). Moves n spent s k t l) is h.moves) in
        let rest = not_further s u t k m l before other front.0 more i (let w = h.within in omega (arith, w, front.1)) front.2 in
        (omega (arith, front.1, rest.0), rest.1, rest.2)

-- Each outcome that is told is of a halt.
no_move : (s : Store) (k : Stack) (before : ℕ) (t : Store) (after : ℕ) (move : Move) → ((costs : Bool) (u : Store) (m : Stack) → move ≡ Goes costs u m → ⊥)
    → (h : Comes s k before t after move) → Halts s k before t h.last h.spent
no_move s k before t after move none h = record {
  count = h.steps.0;
  moves = h.steps.1;
  within = let paid = h.paid in omega (arith, paid);
  stays = λ costs u m goes. absurd (none costs u m (sym h.moves ∙ goes));
}

no_unit : (s : Store) (k : Stack) (before : ℕ) (t : Store) (after : ℕ) (later : Stack) → Waits s k before t after later → Halts s k before t later before
no_unit s k before t after later h = record {
  count = h.steps.0;
  moves = h.steps.1;
  within = omega arith;
  stays = λ costs u m goes.
      let one : cost later (Goes costs u m) ≡ 1 = subst (λ (move : Move). cost later move ≡ 1) goes h.costs in
      let unit : units costs ≡ 1 = one in
      omega (arith, unit);
}

-- A run comes to a move, and what is left is so much.
record ComesBy (s : Store) (k : Stack) (before : ℕ) (t : Store) (after : ℕ) (move : Move) : Type 0 where
  pub last : Stack
  pub spent : ℕ
  pub halts : Halts s k before t last spent
  pub moves : next t last ≡ move
  pub paid : before ≡ after + (spent + cost last move)

comes_by : (s : Store) (k : Stack) (before : ℕ) (t : Store) (after : ℕ) (move : Move) → ((costs : Bool) (u : Store) (m : Stack) → move ≡ Goes costs u m → ⊥)
    → Comes s k before t after move → ComesBy s k before t after move
comes_by s k before t after move none h = record { last = h.last; spent = h.spent; halts = no_move s k before t after move none h; moves = h.moves; paid = h.paid }

-- Two moves that runs come to are one.
one_move : (s t u : Store) (k : Stack) (before a b : ℕ) (move other : Move) → ComesBy s k before t a move → ComesBy s k before u b other → (move ≡ other) × (t ≡ u) × (a ≡ b)
one_move s t u k before a b move other h i =
    let same = halts_once s t u k h.last i.last before h.spent i.spent h.halts i.halts in
    let here : next t h.last ≡ next u i.last = ap (λ (v : Store). next v h.last) same.1 ∙ ap (λ (m : Stack). next u m) same.2 in
    let moves : move ≡ other = sym h.moves ∙ here ∙ i.moves in
    let costs : cost h.last move ≡ cost i.last other = ap (λ (n : Move). cost h.last n) moves ∙ ap (λ (m : Stack). cost m other) same.2 in
    let paid = h.paid in
    let others = i.paid in
    (moves, same.1, omega (arith, paid, others, same.0, costs))

-- A run does not come to a move where it waits for a unit.
not_both : (s t u : Store) (k later : Stack) (before a b : ℕ) (move : Move) → ComesBy s k before t a move → Waits s k before u b later → ⊥
not_both s t u k later before a b move h i =
    let same = halts_once s t u k h.last later before h.spent before h.halts (no_unit s k before u b later i) in
    let here : move ≡ next u later = sym h.moves ∙ ap (λ (v : Store). next v h.last) same.1 ∙ ap (λ (m : Stack). next u m) same.2 in
    let costs : cost h.last move ≡ cost later (next u later) = ap (λ (n : Move). cost h.last n) here ∙ ap (λ (m : Stack). cost m (next u later)) same.2 in
    let one = i.costs in
    let paid = h.paid in
    omega (arith, paid, same.0, costs, one)

one_wait : (s t u : Store) (k l m : Stack) (before a b : ℕ) → Waits s k before t a l → Waits s k before u b m → (l ≡ m) × (t ≡ u) × (a ≡ b)
one_wait s t u k l m before a b h i =
    let same = halts_once s t u k l m before before before (no_unit s k before t a l h) (no_unit s k before u b m i) in
    (same.2, same.1, h.none ∙ sym i.none)

-- The call of a host function, and how many words the stack waits for.
waiting_same : (w x : Waiting) → w.stack ≡ x.stack → w.count ≡ x.count → w ≡ x
waiting_same w x e f = ap (λ (k : Stack). (let y : Waiting = record { stack = k; count = w.count } in y)) e ∙ ap (λ (n : ℕ). (let y : Waiting = record { stack = x.stack; count = n } in y)) f

one_function : (f g : Function) → ◌≡◌ {A = Option Function} (Some f) (Some g) → f ≡ g
one_function f g h = cc

one_call : (s t u : Store) (k : Stack) (before a b address other : ℕ) (words more : List ℕ) (w x : Waiting) → Asks s k before t a address words w → Asks s k before u b other more x
    → (address ≡ other) × (words ≡ more) × (w ≡ x) × (t ≡ u) × (a ≡ b)
one_call s t u k before a b address other words more w x h i =
    let same =
    one_move s t u k before a b (Calls address words w.stack) (Calls other more x.stack)
    (comes_by s k before t a (Calls address words w.stack) (λ costs v m e. cc) h.comes)
    (comes_by s k before u b (Calls other more x.stack) (λ costs v m e. cc) i.comes) in
    let number : address ≡ other = cc (same.0) in
    let given : words ≡ more = cc (same.0) in
    let stack : w.stack ≡ x.stack = cc (same.0) in
    let there : slice_get t.funcs address ≡ slice_get u.funcs other = ap (λ (v : Store). slice_get v.funcs address) same.1 ∙ ap (λ (n : ℕ). slice_get u.funcs n) number in
    let function : h.function ≡ i.function = one_function h.function i.function (sym h.there ∙ there ∙ i.there) in
    let count : w.count ≡ x.count = h.count ∙ ap (λ (f : Function). length (type_of f).results) function ∙ sym i.count in
    (number, given, waiting_same w x stack count, same.1, same.2)

ends_by : (s : Store) (k : Stack) (before : ℕ) (t : Store) (a : ℕ) (words : List ℕ) → Comes s k before t a (Ends words) → ComesBy s k before t a (Ends words)
ends_by s k before t a words h = comes_by s k before t a (Ends words) (λ costs v m e. cc) h

calls_by : (s : Store) (k : Stack) (before : ℕ) (t : Store) (a address : ℕ) (words : List ℕ) (w : Waiting) → Asks s k before t a address words w
    → ComesBy s k before t a (Calls address words w.stack)
calls_by s k before t a address words w h = comes_by s k before t a (Calls address words w.stack) (λ costs v m e. cc) h.comes

traps_by : (s : Store) (k : Stack) (before : ℕ) (t : Store) (a : ℕ) (why : Trap) → Comes s k before t a (Traps why) → ComesBy s k before t a (Traps why)
traps_by s k before t a why h = comes_by s k before t a (Traps why) (λ costs v m e. cc) h

-- Runs that come to moves of which both are one.
module _ (s t u : Store) (k : Stack) (before a b : ℕ) where
  abbrev Same : Outcome → Outcome → Type 0
  Same o p = (o ≡ p) × (t ≡ u) × (a ≡ b)

  from_moves : (o p : Outcome) (move other : Move) → (move ≡ other → o ≡ p) → ComesBy s k before t a move → ComesBy s k before u b other → Same o p
  from_moves o p move other outcomes h i = let same = one_move s t u k before a b move other h i in (outcomes same.0, same.1, same.2)

  pub runs_once : (o p : Outcome) → IsTold o → IsTold p → RunGives s k before o t a → RunGives s k before p u b → Same o p
  runs_once (outcome.Done v) (outcome.Done w) told also h i =
      from_moves (outcome.Done v) (outcome.Done w) (Ends v) (Ends w) (λ e. (let same : v ≡ w = cc e in ap (λ (x : List ℕ). outcome.Done x) same)) (ends_by s k before t a v h) (ends_by s k before u b w i)
  runs_once (outcome.Done v) (outcome.Calls n w x) told also h i =
      from_moves (outcome.Done v) (outcome.Calls n w x) (Ends v) (Calls n w x.stack) (λ e. cc) (ends_by s k before t a v h) (calls_by s k before u b n w x i)
  runs_once (outcome.Done v) (outcome.Trapped why) told also h i =
      from_moves (outcome.Done v) (outcome.Trapped why) (Ends v) (Traps why) (λ e. cc) (ends_by s k before t a v h) (traps_by s k before u b why i)
  runs_once (outcome.Done v) (outcome.NoFuel later) told also h i = absurd (not_both s t u k later before a b (Ends v) (ends_by s k before t a v h) i)
  runs_once (outcome.Calls n v w) (outcome.Done x) told also h i =
      from_moves (outcome.Calls n v w) (outcome.Done x) (Calls n v w.stack) (Ends x) (λ e. cc) (calls_by s k before t a n v w h) (ends_by s k before u b x i)
  runs_once (outcome.Calls n v w) (outcome.Calls m x y) told also h i =
      let same = one_call s t u k before a b n m v x w y h i in
      let first : outcome.Calls n v w ≡ outcome.Calls m v w = ap (λ (q : ℕ). outcome.Calls q v w) same.0 in
      let second : outcome.Calls m v w ≡ outcome.Calls m x w = ap (λ (q : List ℕ). outcome.Calls m q w) same.1 in
      let third : outcome.Calls m x w ≡ outcome.Calls m x y = ap (λ (q : Waiting). outcome.Calls m x q) same.2 in
      (first ∙ second ∙ third, same.3, same.4)
  runs_once (outcome.Calls n v w) (outcome.Trapped why) told also h i =
      from_moves (outcome.Calls n v w) (outcome.Trapped why) (Calls n v w.stack) (Traps why) (λ e. cc) (calls_by s k before t a n v w h) (traps_by s k before u b why i)
  runs_once (outcome.Calls n v w) (outcome.NoFuel later) told also h i = absurd (not_both s t u k later before a b (Calls n v w.stack) (calls_by s k before t a n v w h) i)
  runs_once (outcome.Trapped why) (outcome.Done x) told also h i =
      from_moves (outcome.Trapped why) (outcome.Done x) (Traps why) (Ends x) (λ e. cc) (traps_by s k before t a why h) (ends_by s k before u b x i)
  runs_once (outcome.Trapped why) (outcome.Calls m x y) told also h i =
      from_moves (outcome.Trapped why) (outcome.Calls m x y) (Traps why) (Calls m x y.stack) (λ e. cc) (traps_by s k before t a why h) (calls_by s k before u b m x y i)
  runs_once (outcome.Trapped why) (outcome.Trapped other) told also h i =
      from_moves (outcome.Trapped why) (outcome.Trapped other) (Traps why) (Traps other) (λ e. (let same : why ≡ other = cc e in ap (λ (x : Trap). outcome.Trapped x) same)) (traps_by s k before t a why h)
      (traps_by s k before u b other i)
  runs_once (outcome.Trapped why) (outcome.NoFuel later) told also h i = absurd (not_both s t u k later before a b (Traps why) (traps_by s k before t a why h) i)
  runs_once (outcome.NoFuel later) (outcome.Done x) told also h i = absurd (not_both s u t k later before b a (Ends x) (ends_by s k before u b x i) h)
  runs_once (outcome.NoFuel later) (outcome.Calls m x y) told also h i = absurd (not_both s u t k later before b a (Calls m x y.stack) (calls_by s k before u b m x y i) h)
  runs_once (outcome.NoFuel later) (outcome.Trapped why) told also h i = absurd (not_both s u t k later before b a (Traps why) (traps_by s k before u b why i) h)
  runs_once (outcome.NoFuel later) (outcome.NoFuel other) told also h i =
      let same = one_wait s t u k later other before a b h i in
      (ap (λ (x : Stack). outcome.NoFuel x) same.0, same.1, same.2)
  runs_once outcome.Memory p told also h i = absurd told
  runs_once o outcome.Memory told also h i = absurd also

-- A post-return runs: the store stays typed and grows, and no handle is lent more often.
use Rattle.std.proofs.Common.{◌≡◌, ℕ, zero, suc, Bool, true, false, if◌then◌else◌, List, [], refl, sym, ap, subst, Option, Some, None, Result, Ok, Err}
use Rattle.std.specs.List.{slice_get}
use Rattle.wasm_store.specs.Store.{Store}
use Rattle.wasm_store.specs.Stack.{Stack}
use Rattle.wasm_store.specs.Step.{Move}
use Rattle.wasm_store.specs.Typed.{StoreTyped, Extends}
use Rattle.wasm_store.proofs.Moving.{never_stuck}
use Rattle.wasm_store.proofs.Stores.{further, store_same}
use Rattle.wasm_execution.specs.Waiting.{Waiting}
use Rattle.wasm_execution.specs.Run.{Comes}
use Rattle.wasm_execution.specs.declared.running.Outcome.{Outcome}
use Rattle.wasm_execution.specs.declared.running.Outcome.TheVariants as outcome
use Rattle.comp_graph.specs.declared.graph.FuncRef.{FuncRef}
use Rattle.comp_graph.specs.Graph.{Graph}
use Rattle.programs.specs.declared.program.Program.{Program}
use Rattle.trace_labels.specs.declared.label.Label.TheVariants as line
use Rattle.world_parts.specs.declared.parts.Parts.{Parts}
use Rattle.world_parts.specs.declared.parts.Rest.TheVariants as rest
use Rattle.world_parts.specs.declared.parts.Stop.{Stop}
use Rattle.world_parts.specs.declared.parts.Stop.TheVariants as stop
use Rattle.world_parts.specs.Held.{Held, held, Done, Gives, Traps, Spent, Stuck, after, given}
use Rattle.world_parts.specs.Feed.{told, at_rest}
use Rattle.world_stacks.specs.declared.top.Top.TheVariants as top
use Rattle.world_stacks.specs.declared.host_call.HostCall.{HostCall}
use Rattle.world_stacks.specs.Views.{PileView}
use Rattle.world_stacks.specs.Typing.{PileFits, CallTyped}
use Rattle.world_stacks.specs.Piles.{resumed, RunsTyped}
use Rattle.world_stacks.specs.Starting.{call_of, gives_words}
use Rattle.world_stacks.specs.PostReturns.{answered, goes_on_with, answered_in_place, Point, Runs, GoesOn, GoOn, Gone, EndsWith, NestedEnds, NestedGives, BeginsNested, PostReturns, instance_at, WaitsTyped}
use Rattle.world_stacks.proofs.Nested.{waits_typed, resumed_typed}
use Rattle.world_stacks.proofs.Fitting.{pile_later, call_of_fits}
use Rattle.value_parts.specs.Fit.{LentAtMost}
use Rattle.value_parts.proofs.fit.Keeps.{Keeps, KeepsBy, keeps_all, keeps_further}
use Rattle.value_moves.specs.Resolving.{Settles, PostReturnsTo}
use Rattle.value_moves.proofs.fit.Nested.{answered_keeps, answered_in_place_keeps}

-- One that waits is typed in a later store.
waits_later : (s t : Store) (number : ℕ) (w : Waiting) → Extends s t → WaitsTyped s number w → WaitsTyped t number w
waits_later s t number w more h =
    (pile_later s t (record { top = top.Waits (record { address = number; waiting = w }); under = [] }) more
    (record { top = h; under = λ n c there. none n c there })).top
  where
    none : (n : ℕ) (c : HostCall) → (let under : List HostCall = [] in slice_get under n) ≡ Some c → CallTyped s c
    none zero c there = cc
    none (suc n) c there = cc

-- Behind the answer the stack is typed.
gives_stack : (t number : ℕ) (answer : List ℕ) (w : Waiting) (h : Held) (k : Stack) (l : Held) → WaitsTyped h.store number w → goes_on_with t number answer w h ≡ Gives k l
    → (l.store ≡ h.store) × RunsTyped l.store k
gives_stack t number answer w h k l waits is = by_test (gives_words h.store number answer) refl is
  where
    by_stack : (b : Bool) (o : Option Stack) → gives_words h.store number answer ≡ b → b ≡ true → resumed answer w ≡ o
        → given o (λ j. after (told (line.Got t answer) h) (λ done m. Gives j m)) ≡ Gives k l → (l.store ≡ h.store) × RunsTyped l.store k
    by_stack b None e holds f i = cc
    by_stack b (Some j) e holds f i =
        let same : j ≡ k = cc in
        let kept : l.store ≡ h.store = cc in
        (kept, resumed_typed h.store l.store number answer w b (Some j) k waits (sym e) holds (sym f) (ap (λ (x : Stack). let o : Option Stack = Some x in o) same) kept)

    by_test : (b : Bool) → gives_words h.store number answer ≡ b
        → (let d : Done Stack = if b then given (resumed answer w) (λ j. after (told (line.Got t answer) h) (λ done m. Gives j m)) else Stuck in d) ≡ Gives k l
        → (l.store ≡ h.store) × RunsTyped l.store k
    by_test true e i = by_stack true (resumed answer w) e refl refl i
    by_test false e i = cc

-- What a run up to a call, and its answer, keep.
record Goes (a b : Point) : Type 0 where
  pub store : StoreTyped a.held.store → RunsTyped a.held.store a.stack → Extends a.held.store b.held.store × StoreTyped b.held.store × RunsTyped b.held.store b.stack
  pub lends : (most : ℕ) → LentAtMost most a.held → LentAtMost most b.held

left_by : (s t : Store) (k : Stack) (before later : ℕ) (move : Move) → StoreTyped s → RunsTyped s k → Comes s k before t later move → Extends s t × StoreTyped t
left_by s t k before later move store typed h = let last = never_stuck h.spent s t typed.0 k h.last store typed.1 h.steps in (last.0, last.1)

through_answer : (g : Graph) (t at number : ℕ) (words : List ℕ) (w : Waiting) (h : Held) (first : Done (List ℕ)) (k : Stack) (l : Held) → KeepsBy h first → StoreTyped h.store → WaitsTyped h.store number w
    → after first (λ answer m. goes_on_with t number answer w m) ≡ Gives k l → Extends h.store l.store × StoreTyped l.store × RunsTyped l.store k
through_answer g t at number words w h (Gives answer m) k l p typed waits is =
    let mid = p.store typed in
    let last = gives_stack t number answer w m k l (waits_later h.store m.store number w mid.0 waits) is in
    (subst (λ (s : Store). Extends h.store s) (sym last.0) mid.0, subst StoreTyped (sym last.0) mid.1, last.1)
through_answer g t at number words w h (Traps why m) k l p typed waits is = cc
through_answer g t at number words w h (Spent m) k l p typed waits is = cc
through_answer g t at number words w h Stuck k l p typed waits is = cc

one_goes : (g : Graph) (t at : ℕ) (a b : Point) → GoesOn g t at a b → Goes a b
one_goes g t at a b (number, words, w, h, (s, left, gives, is), answers) =
    let ran : Held = record a.held { store = s; left = left } in
    let goes : answered_in_place g t at number words w ran ≡ Gives b.stack b.held = subst (λ (x : Held). answered_in_place g t at number words w x ≡ Gives b.stack b.held) is answers in
    let kept : Keeps ran b.held = subst (λ (d : Done Stack). KeepsBy ran d) goes (answered_in_place_keeps g t at number words w ran) in
    record {
      store = λ typed stack.
          let now = left_by a.held.store s a.stack a.held.left left _ typed stack gives.comes in
          let waits = waits_typed a.held.store a.stack a.held.left number words w s left typed stack gives in
          let last = through_answer g t at number words w ran (answered g t at number words ran) b.stack b.held (answered_keeps g t at number words ran) now.1 waits goes in
          (further a.held.store s b.held.store now.0 last.0, last.1, last.2);
      lends = λ most few. kept.lends most few;
    }

all_go : (g : Graph) (t at count : ℕ) (a b : Point) → GoOn g t at count a b → Goes a b
all_go g t at zero a b is = subst (Goes a) (sym is) (record { store = λ typed stack. (store_same a.held.store, typed, stack); lends = λ most few. few })
all_go g t at (suc count) a b (mid, steps, goes) =
    let p = all_go g t at count a mid steps in
    let q = one_goes g t at mid b goes in
    record {
      store = λ typed stack.
          let one = p.store typed stack in
          let two = q.store one.1 one.2 in
          (further a.held.store mid.held.store b.held.store one.0 two.0, two.1, two.2);
      lends = λ most few. q.lends most (p.lends most few);
    }

-- How it ends.
ended : (g : Graph) (t at : ℕ) (o : Outcome) (a : Point) (h : Held) (new : Parts) → (StoreTyped a.held.store → RunsTyped a.held.store a.stack) → Runs a o h → EndsWith g t at o h (Ok tt) new → Keeps a.held (held new)
ended g t at (outcome.Done words) a h new typed (s, left, gives, is) (ok, done) =
    let same : held new ≡ at_rest rest.Leaves (record a.held { store = s; left = left }) = subst (λ (x : Held). held new ≡ at_rest rest.Leaves x) is done in
    subst (Keeps a.held) (sym same) (record { store = λ store. left_by a.held.store s a.stack a.held.left left _ store (typed store) gives; lends = λ most few. few })
ended g t at (outcome.Calls number words w) a h new typed runs ends = absurd ends
ended g t at (outcome.Trapped why) a h new typed runs (ok, done) = cc
ended g t at (outcome.NoFuel later) a h new typed runs (ok, done) = cc
ended g t at outcome.Memory a h new typed runs ok = cc

nested_keeps : (g : Graph) (t at : ℕ) (a : Point) (new : Parts) → (StoreTyped a.held.store → RunsTyped a.held.store a.stack) → NestedEnds g t at a (Ok tt) new → Keeps a.held (held new)
nested_keeps g t at a new typed (mid, gone, (o, h, runs, ends)) =
    let p = all_go g t at gone.count a mid gone.calls in
    record {
      store = λ store.
          let one = p.store store (typed store) in
          let q = ended g t at o mid h new (λ later. one.2) runs ends in
          let two = q.store one.1 in
          (further a.held.store mid.held.store (held new).store one.0 two.0, two.1);
      lends = λ most few. ended_lends o runs ends most (p.lends most few);
    }
  where
    ended_lends : (o : Outcome) → Runs mid o h → EndsWith g t at o h (Ok tt) new → (most : ℕ) → LentAtMost most mid.held → LentAtMost most (held new)
    ended_lends (outcome.Done words) (s, left, gives, is) (ok, done) most few =
        let same : held new ≡ at_rest rest.Leaves (record mid.held { store = s; left = left }) = subst (λ (x : Held). held new ≡ at_rest rest.Leaves x) is done in
        subst (LentAtMost most) (sym same) few
    ended_lends (outcome.Calls number words w) runs ends most few = absurd ends
    ended_lends (outcome.Trapped why) runs (ok, done) most few = cc
    ended_lends (outcome.NoFuel later) runs (ok, done) most few = cc
    ended_lends outcome.Memory runs ok most few = cc

begun_keeps : (g : Graph) (t : ℕ) (at : Option ℕ) (call : Option Stack) (h : Held) (new : Parts) → ((k : Stack) → call ≡ Some k → StoreTyped h.store → RunsTyped h.store k)
    → BeginsNested g t at call h (Ok tt) new → Keeps h (held new)
begun_keeps g t None call h new typed b = absurd b
begun_keeps g t (Some at) None h new typed b = absurd b
begun_keeps g t (Some at) (Some k) h new typed b = nested_keeps g t at (record { held = h; stack = k }) new (λ store. typed k refl store) b

returned_keeps : (g : Graph) (t : ℕ) (post : Option FuncRef) (words : List ℕ) (h : Held) (new : Parts) → PostReturns g t post words h (Ok tt) new → Keeps h (held new)
returned_keeps g t None words h new (ok, is) = subst (Keeps h) (sym is) (keeps_all h (at_rest rest.Leaves h) refl refl)
returned_keeps g t (Some func) words h new b =
    begun_keeps g t (instance_at t h) (call_of h.store func words) h new (λ k is store. call_of_fits h.store func words k store is) b

pub post_returns_keep : (p : Program) (t : ℕ) (post : Option FuncRef) (words : List ℕ) (h : Held) (d : Done (Unit {0})) → PostReturnsTo p t post words h d → KeepsBy h d
post_returns_keep p t post words h d (Ok tt, new, returns, is) = subst (KeepsBy h) (sym is) (returned_keeps p.graph.now t post words h new returns)
post_returns_keep p t post words h d (Err (stop.Trap why), new, returns, is) = subst (KeepsBy h) (sym is) tt
post_returns_keep p t post words h d (Err stop.NoFuel, new, returns, is) = subst (KeepsBy h) (sym is) tt
post_returns_keep p t post words h d (Err stop.Stuck, new, returns, is) = subst (KeepsBy h) (sym is) tt
post_returns_keep p t post words h d (Err stop.Memory, new, returns, is) = absurd is

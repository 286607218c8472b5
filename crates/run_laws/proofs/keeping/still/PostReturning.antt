-- A post-return runs: memories and core instances stay as they are kept.
use Rattle.std.proofs.Common.{refl, ◌≡◌, ℕ, zero, suc, List, sym, subst, Option, Some, None, Ok, Err}
use Rattle.wasm_store.specs.Stack.{Stack}
use Rattle.wasm_execution.specs.declared.running.Outcome.{Outcome}
use Rattle.wasm_execution.specs.declared.running.Outcome.TheVariants as outcome
use Rattle.comp_graph.specs.declared.graph.FuncRef.{FuncRef}
use Rattle.comp_graph.specs.Graph.{Graph}
use Rattle.programs.specs.declared.program.Program.{Program}
use Rattle.world_parts.specs.declared.parts.Parts.{Parts}
use Rattle.world_parts.specs.declared.parts.Rest.TheVariants as rest
use Rattle.world_parts.specs.declared.parts.Stop.TheVariants as stop
use Rattle.world_parts.specs.Feed.{at_rest}
use Rattle.world_parts.specs.Held.{Held, Done, Gives, held}
use Rattle.world_stacks.specs.PostReturns.{answered_in_place, Point, Runs, GoesOn, GoOn, EndsWith, NestedEnds, BeginsNested, PostReturns, instance_at}
use Rattle.world_stacks.specs.Starting.{call_of}
use Rattle.value_moves.specs.Resolving.{PostReturnsTo}
use Rattle.run_laws.proofs.keeping.still.Still.{no_kinds, Still, StillBy, still_all, still_same, still_further, bare_ends}
use Rattle.run_laws.proofs.keeping.still.Nested.{answered_in_place_still}
use Rattle.run_laws.proofs.keeping.still.Modules.{run_keeps}

one_goes : (g : Graph) (t at : ℕ) (a b : Point) → GoesOn g t at a b → Still no_kinds a.held b.held
one_goes g t at a b (number, words, w, h, (s, left, gives, is), answers) =
    let ran : Held = record a.held { store = s; left = left } in
    let goes : answered_in_place g t at number words w ran ≡ Gives b.stack b.held = subst (λ (x : Held). answered_in_place g t at number words w x ≡ Gives b.stack b.held) is answers in
    let kept : Still no_kinds ran b.held = subst (λ (d : Done Stack). StillBy no_kinds ran d) goes (answered_in_place_still g t at number words w ran) in
    still_further no_kinds a.held ran b.held (record { memories = refl; modules = run_keeps a.held.store a.stack a.held.left (outcome.Calls number words w) s left gives; ends = λ K asked ends. ends }) kept

all_go : (g : Graph) (t at count : ℕ) (a b : Point) → GoOn g t at count a b → Still no_kinds a.held b.held
all_go g t at zero a b is = subst (λ (x : Point). Still no_kinds a.held x.held) (sym is) (still_same no_kinds a.held)
all_go g t at (suc count) a b (mid, steps, goes) = still_further no_kinds a.held mid.held b.held (all_go g t at count a mid steps) (one_goes g t at mid b goes)

-- How it ends.
ended : (g : Graph) (t at : ℕ) (o : Outcome) (a : Point) (h : Held) (new : Parts) → Runs a o h → EndsWith g t at o h (Ok tt) new → Still no_kinds a.held (held new)
ended g t at (outcome.Done words) a h new (s, left, gives, is) (ok, done) =
    let same : held new ≡ at_rest rest.Leaves (record a.held { store = s; left = left }) = subst (λ (x : Held). held new ≡ at_rest rest.Leaves x) is done in
    subst (Still no_kinds a.held) (sym same)
    (record { memories = refl; modules = run_keeps a.held.store a.stack a.held.left (outcome.Done words) s left gives; ends = λ K asked ends. ends })
ended g t at (outcome.Calls number words w) a h new runs ends = absurd ends
ended g t at (outcome.Trapped why) a h new runs (ok, done) = absurd (cc)
ended g t at (outcome.NoFuel later) a h new runs (ok, done) = absurd (cc)
ended g t at outcome.Memory a h new runs ok = absurd (cc)

nested_still : (g : Graph) (t at : ℕ) (a : Point) (new : Parts) → NestedEnds g t at a (Ok tt) new → Still no_kinds a.held (held new)
nested_still g t at a new (mid, gone, (o, h, runs, ends)) = still_further no_kinds a.held mid.held (held new) (all_go g t at gone.count a mid gone.calls) (ended g t at o mid h new runs ends)

begun_still : (g : Graph) (t : ℕ) (at : Option ℕ) (call : Option Stack) (h : Held) (new : Parts) → BeginsNested g t at call h (Ok tt) new → Still no_kinds h (held new)
begun_still g t None call h new b = absurd b
begun_still g t (Some at) None h new b = absurd b
begun_still g t (Some at) (Some k) h new b = nested_still g t at (record { held = h; stack = k }) new b

returned_still : (g : Graph) (t : ℕ) (post : Option FuncRef) (words : List ℕ) (h : Held) (new : Parts) → PostReturns g t post words h (Ok tt) new → Still no_kinds h (held new)
returned_still g t None words h new (ok, is) = subst (Still no_kinds h) (sym is) (still_all no_kinds h (at_rest rest.Leaves h) refl refl refl refl refl)
returned_still g t (Some func) words h new b = begun_still g t (instance_at t h) (call_of h.store func words) h new b

pub post_returns_still : (p : Program) (t : ℕ) (post : Option FuncRef) (words : List ℕ) (h : Held) (d : Done (Unit {0})) → PostReturnsTo p t post words h d → StillBy no_kinds h d
post_returns_still p t post words h d (Ok tt, new, returns, is) = subst (StillBy no_kinds h) (sym is) (returned_still p.graph.now t post words h new returns)
post_returns_still p t post words h d (Err (stop.Trap why), new, returns, is) = subst (StillBy no_kinds h) (sym is) (bare_ends h (held new))
post_returns_still p t post words h d (Err stop.NoFuel, new, returns, is) = subst (StillBy no_kinds h) (sym is) tt
post_returns_still p t post words h d (Err stop.Stuck, new, returns, is) = subst (StillBy no_kinds h) (sym is) tt
post_returns_still p t post words h d (Err stop.Memory, new, returns, is) = absurd is

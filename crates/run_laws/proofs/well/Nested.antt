-- Nested code that runs for a task behind its result: what is kept well stays so.
use Rattle.std.proofs.Common.{◌≡◌, ℕ, zero, suc, if◌then◌else◌, List, Option, Some, None, refl, sym, subst, Ok, Err}
use Rattle.wasm_store.specs.Stack.{Stack}
use Rattle.wasm_execution.specs.Waiting.{Waiting}
use Rattle.wasm_execution.specs.declared.running.Outcome.{Outcome}
use Rattle.wasm_execution.specs.declared.running.Outcome.TheVariants as outcome
use Rattle.comp_graph.specs.declared.graph.CanonFunc.{CanonFunc}
use Rattle.comp_graph.specs.declared.graph.FuncRef.{FuncRef}
use Rattle.comp_graph.specs.Graph.{Graph}
use Rattle.graph_views.specs.Canons.{canon_at, is_made_in}
use Rattle.graph_views.specs.Names.{builtin_of}
use Rattle.programs.specs.declared.program.Program.{Program}
use Rattle.trace_labels.specs.declared.label.Label.TheVariants as line
use Rattle.world_parts.specs.declared.parts.Parts.{Parts}
use Rattle.world_parts.specs.declared.parts.Rest.TheVariants as rest
use Rattle.world_parts.specs.declared.parts.Stop.TheVariants as stop
use Rattle.world_parts.specs.Held.{Held, held, Done, Gives, Stuck, after, given}
use Rattle.world_parts.specs.Feed.{told, at_rest}
use Rattle.world_stacks.specs.Exempt.{exempt_answer}
use Rattle.world_stacks.specs.Piles.{resumed}
use Rattle.world_stacks.specs.Starting.{call_of, gives_words}
use Rattle.world_stacks.specs.PostReturns.{answer_or_trap, answered_by, answered, goes_on_with, answered_in_place, Point, Runs, GoesOn, GoOn, EndsWith, NestedEnds, instance_at, BeginsNested, PostReturns}
use Rattle.value_moves.specs.Resolving.{PostReturnsTo}
use Rattle.run_laws.specs.keeping.Well.{WellStays, KeepsWell}
use Rattle.run_laws.proofs.well.Behind.{well_all, well_same, well_further, well_after, well_given, well_if}
use Rattle.run_laws.proofs.well.Exempt.{exempt_answer_well}
use Rattle.run_laws.proofs.well.Feed.{told_well}

or_trap_well : (o : Option (List ℕ)) (h : Held) → KeepsWell h (answer_or_trap o h)
or_trap_well None h = tt
or_trap_well (Some answer) h = well_same h

answered_by_well : (t : ℕ) (words : List ℕ) (c : CanonFunc) (h : Held) → KeepsWell h (answered_by t words c h)
answered_by_well t words c h =
    well_after h (told (line.Do t (builtin_of c) words) h) (λ done k. after (exempt_answer t words c k) (λ answer l. answer_or_trap answer l)) (told_well (line.Do t (builtin_of c) words) h)
    (λ done k. well_after k (exempt_answer t words c k) (λ answer l. answer_or_trap answer l) (exempt_answer_well t words c k) (λ answer l. or_trap_well answer l))

answered_well : (g : Graph) (t at number : ℕ) (words : List ℕ) (h : Held) → KeepsWell h (answered g t at number words h)
answered_well g t at number words h =
    well_if h (is_made_in g number at) (given (canon_at g number) (λ c. answered_by t words c h)) Stuck
    (well_given h (canon_at g number) (λ c. answered_by t words c h) (λ c is. answered_by_well t words c h)) tt

goes_well : (t number : ℕ) (answer : List ℕ) (w : Waiting) (h : Held) → KeepsWell h (goes_on_with t number answer w h)
goes_well t number answer w h =
    well_if h (gives_words h.store number answer) (given (resumed answer w) (λ k. after (told (line.Got t answer) h) (λ done l. Gives k l))) Stuck
    (well_given h (resumed answer w) (λ k. after (told (line.Got t answer) h) (λ done l. Gives k l))
    (λ k is. well_after h (told (line.Got t answer) h) (λ done l. Gives k l) (told_well (line.Got t answer) h) (λ done l. well_same l))) tt

in_place_well : (g : Graph) (t at number : ℕ) (words : List ℕ) (w : Waiting) (h : Held) → KeepsWell h (answered_in_place g t at number words w h)
in_place_well g t at number words w h =
    well_after h (answered g t at number words h) (λ answer k. goes_on_with t number answer w k) (answered_well g t at number words h) (λ answer k. goes_well t number answer w k)

-- Runs up to calls that are answered so.
one_goes : (g : Graph) (t at : ℕ) (a b : Point) → GoesOn g t at a b → WellStays a.held b.held
one_goes g t at a b (number, words, w, h, (s, left, gives, is), answers) =
    let ran : Held = record a.held { store = s; left = left } in
    let goes : answered_in_place g t at number words w ran ≡ Gives b.stack b.held = subst (λ (x : Held). answered_in_place g t at number words w x ≡ Gives b.stack b.held) is answers in
    well_further a.held ran b.held (well_all a.held ran refl) (subst (λ (d : Done Stack). KeepsWell ran d) goes (in_place_well g t at number words w ran))

all_go : (g : Graph) (t at count : ℕ) (a b : Point) → GoOn g t at count a b → WellStays a.held b.held
all_go g t at zero a b is = subst (λ (x : Point). WellStays a.held x.held) (sym is) (well_same a.held)
all_go g t at (suc count) a b (mid, steps, goes) = well_further a.held mid.held b.held (all_go g t at count a mid steps) (one_goes g t at mid b goes)

ended : (g : Graph) (t at : ℕ) (o : Outcome) (a : Point) (h : Held) (new : Parts) → Runs a o h → EndsWith g t at o h (Ok tt) new → WellStays a.held (held new)
ended g t at (outcome.Done words) a h new (s, left, gives, is) (ok, done) =
    let last : Held = at_rest rest.Leaves (record a.held { store = s; left = left }) in
    let same : held new ≡ last = subst (λ (x : Held). held new ≡ at_rest rest.Leaves x) is done in
    subst (λ (k : Held). WellStays a.held k) (sym same) (well_all a.held last refl)
ended g t at (outcome.Calls number words w) a h new runs ends = absurd ends
ended g t at (outcome.Trapped why) a h new runs (ok, done) = absurd (cc)
ended g t at (outcome.NoFuel later) a h new runs (ok, done) = absurd (cc)
ended g t at outcome.Memory a h new runs ok = absurd (cc)

nested_well : (g : Graph) (t at : ℕ) (a : Point) (new : Parts) → NestedEnds g t at a (Ok tt) new → WellStays a.held (held new)
nested_well g t at a new (mid, gone, (o, h, runs, ends)) = well_further a.held mid.held (held new) (all_go g t at gone.count a mid gone.calls) (ended g t at o mid h new runs ends)

begun_well : (g : Graph) (t : ℕ) (at : Option ℕ) (call : Option Stack) (h : Held) (new : Parts) → BeginsNested g t at call h (Ok tt) new → WellStays h (held new)
begun_well g t None call h new b = absurd b
begun_well g t (Some at) None h new b = absurd b
begun_well g t (Some at) (Some k) h new b = nested_well g t at (record { held = h; stack = k }) new b

returned_well : (g : Graph) (t : ℕ) (post : Option FuncRef) (words : List ℕ) (h : Held) (new : Parts) → PostReturns g t post words h (Ok tt) new → WellStays h (held new)
returned_well g t None words h new (ok, is) = subst (λ (k : Held). WellStays h k) (sym is) (well_all h (at_rest rest.Leaves h) refl)
returned_well g t (Some func) words h new b = begun_well g t (instance_at t h) (call_of h.store func words) h new b

pub post_returns_well : (p : Program) (t : ℕ) (post : Option FuncRef) (words : List ℕ) (h : Held) (d : Done (Unit {0})) → PostReturnsTo p t post words h d → KeepsWell h d
post_returns_well p t post words h d (Ok tt, new, returns, is) = subst (λ (e : Done (Unit {0})). KeepsWell h e) (sym is) (returned_well p.graph.now t post words h new returns)
post_returns_well p t post words h d (Err (stop.Trap why), new, returns, is) = subst (λ (e : Done (Unit {0})). KeepsWell h e) (sym is) tt
post_returns_well p t post words h d (Err stop.NoFuel, new, returns, is) = subst (λ (e : Done (Unit {0})). KeepsWell h e) (sym is) tt
post_returns_well p t post words h d (Err stop.Stuck, new, returns, is) = subst (λ (e : Done (Unit {0})). KeepsWell h e) (sym is) tt
post_returns_well p t post words h d (Err stop.Memory, new, returns, is) = absurd is

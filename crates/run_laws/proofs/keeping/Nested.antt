-- Nested code that runs for a task behind its result keeps what is kept: it changes words of context alone.
use Rattle.std.proofs.Common.{◌≡◌, ℕ, zero, suc, List, [], ◌∷◌, Option, Some, None, sym, subst, Result, Ok, Err, ◌∙◌}
use Rattle.res_handles.specs.declared.refusal.Refusal.{Refusal}
use Rattle.std.specs.List.{slice_get}
use Rattle.builtin_kinds.specs.declared.ContextOp.{ContextOp}
use Rattle.builtin_kinds.specs.declared.ContextOp.TheVariants as context_op
use Rattle.builtin_kinds.specs.declared.ResourceOp.{ResourceOp}
use Rattle.builtin_kinds.specs.declared.ResourceOp.TheVariants as resource_op
use Rattle.wasm_store.specs.Stack.{Stack}
use Rattle.wasm_execution.specs.Waiting.{Waiting}
use Rattle.wasm_execution.specs.declared.running.Outcome.{Outcome}
use Rattle.wasm_execution.specs.declared.running.Outcome.TheVariants as outcome
use Rattle.comp_graph.specs.declared.graph.BuiltinKind.{BuiltinKind}
use Rattle.comp_graph.specs.declared.graph.BuiltinKind.TheVariants as kind
use Rattle.comp_graph.specs.declared.graph.CanonFunc.{CanonFunc}
use Rattle.comp_graph.specs.declared.graph.CanonFunc.TheVariants as canon
use Rattle.comp_graph.specs.declared.graph.FuncRef.{FuncRef}
use Rattle.comp_graph.specs.Graph.{Graph}
use Rattle.graph_views.specs.Canons.{canon_at, is_made_in}
use Rattle.graph_views.specs.Names.{builtin_of}
use Rattle.instances.specs.Instances.{view_of}
use Rattle.res_handles.specs.Refusals.{handle_in, rep_of}
use Rattle.programs.specs.declared.program.Program.{Program}
use Rattle.task_table.specs.Slots.{word_at}
use Rattle.trace_labels.specs.declared.label.Label.TheVariants as line
use Rattle.world_parts.specs.declared.parts.Parts.{Parts}
use Rattle.world_parts.specs.declared.parts.Rest.TheVariants as rest
use Rattle.trace_labels.specs.declared.trap.TrapName.{TrapName}
use Rattle.world_parts.specs.declared.parts.Stop.TheVariants as stop
use Rattle.world_parts.specs.Held.{Held, held, Done, Gives, Traps, Stuck, after, given}
use Rattle.world_parts.specs.Entries.{named, rep_found}
use Rattle.world_parts.specs.Feed.{told, at_rest}
use Rattle.world_parts.specs.Slots.{context_of, context_set}
use Rattle.world_stacks.specs.Exempt.{first_word, context_answer, resource_answer, builtin_answer, exempt_answer}
use Rattle.world_stacks.specs.Piles.{resumed}
use Rattle.world_stacks.specs.Starting.{call_of, gives_words}
use Rattle.world_stacks.specs.PostReturns.{answer_or_trap, answered_by, answered, goes_on_with, answered_in_place, Point, Runs, GoesOn, GoOn, EndsWith, NestedEnds, instance_at, BeginsNested, PostReturns}
use Rattle.value_moves.specs.Resolving.{PostReturnsTo}
use Rattle.run_laws.proofs.keeping.But.{HasBut, LeavesSo, leaves_given, leaves_after, leaves_if, RightAt, right_at}
use Rattle.run_laws.proofs.keeping.Lowered.{context_but}

module _ (C : Type 0) (u : ℕ) where
  abbrev Q : Held → Type 0
  Q k = HasBut C u 0 k

  named_but : {A : Type 0} (r : Result A Refusal) (h : Held) → Q h → LeavesSo C Q (named r h)
  named_but (Ok x) h but = but
  named_but (Err why) h but = right_at C u 0 h but

  -- What is answered in place.
  pub context_answer_but : (t : ℕ) (words : List ℕ) (op : ContextOp) (slot : ℕ) (h : Held) → Q h → LeavesSo C Q (context_answer t words op slot h)
  context_answer_but t words context_op.Get slot h but =
      leaves_after C Q (context_of t slot h) (λ word k. Gives (Some (word ∷ [])) k) (leaves_given C Q (slice_get h.tasks t) (λ x. Gives (word_at slot x.context) h) (λ x is. but)) (λ word k b. b)
  context_answer_but t words context_op.Set slot h but =
      leaves_given C Q (first_word words) (λ word. after (context_set t slot word h) (λ done k. Gives (Some []) k))
      (λ word is. leaves_after C Q (context_set t slot word h) (λ done k. Gives (Some []) k) (context_but C u 0 t slot word h but) (λ done k b. b))

  resource_answer_but : (at : ℕ) (words : List ℕ) (op : ResourceOp) (resource : ℕ) (h : Held) → Q h → LeavesSo C Q (resource_answer at words op resource h)
  resource_answer_but at words resource_op.New resource h but = but
  resource_answer_but at words resource_op.Drop resource h but = but
  resource_answer_but at words resource_op.Rep resource h but =
      leaves_given C Q (first_word words) (λ index. after (rep_found at index resource h) (λ rep k. Gives (Some (rep ∷ [])) k))
      (λ index is.
      leaves_after C Q (rep_found at index resource h) (λ rep k. Gives (Some (rep ∷ [])) k)
      (leaves_given C Q (slice_get h.instances at) (λ i. named (rep_of (handle_in (view_of i index) resource)) h) (λ i here. named_but (rep_of (handle_in (view_of i index) resource)) h but))
      (λ rep k b. b))

  builtin_answer_but : (t : ℕ) (words : List ℕ) (at : ℕ) (x : BuiltinKind) (h : Held) → Q h → LeavesSo C Q (builtin_answer t words at x h)
  builtin_answer_but t words at (kind.Resource op resource) h but = resource_answer_but at words op resource h but
  builtin_answer_but t words at (kind.TaskReturn result options) h but = but
  builtin_answer_but t words at (kind.Plain op) h but = but
  builtin_answer_but t words at (kind.Context op slot) h but = context_answer_but t words op slot h but
  builtin_answer_but t words at (kind.Wait op cancellable memory) h but = but
  builtin_answer_but t words at (kind.End of_what element op) h but = but

  pub exempt_but : (t : ℕ) (words : List ℕ) (c : CanonFunc) (h : Held) → Q h → LeavesSo C Q (exempt_answer t words c h)
  exempt_but t words (canon.Lower l) h but = but
  exempt_but t words (canon.Builtin b) h but = builtin_answer_but t words b.instance b.kind h but

  or_trap_but : (o : Option (List ℕ)) (h : Held) → Q h → LeavesSo C Q (answer_or_trap o h)
  or_trap_but None h but = right_at C u 0 h but
  or_trap_but (Some answer) h but = but

  answered_by_but : (t : ℕ) (words : List ℕ) (c : CanonFunc) (h : Held) → Q h → LeavesSo C Q (answered_by t words c h)
  answered_by_but t words c h but =
      leaves_after C Q (told (line.Do t (builtin_of c) words) h) (λ done k. after (exempt_answer t words c k) (λ answer l. answer_or_trap answer l)) but
      (λ done k b. leaves_after C Q (exempt_answer t words c k) (λ answer l. answer_or_trap answer l) (exempt_but t words c k b) (λ answer l c. or_trap_but answer l c))

  answered_but : (g : Graph) (t at number : ℕ) (words : List ℕ) (h : Held) → Q h → LeavesSo C Q (answered g t at number words h)
  answered_but g t at number words h but =
      leaves_if C Q (is_made_in g number at) (given (canon_at g number) (λ c. answered_by t words c h)) Stuck
      (leaves_given C Q (canon_at g number) (λ c. answered_by t words c h) (λ c is. answered_by_but t words c h but)) tt

  goes_but : (t number : ℕ) (answer : List ℕ) (w : Waiting) (h : Held) → Q h → LeavesSo C Q (goes_on_with t number answer w h)
  goes_but t number answer w h but =
      leaves_if C Q (gives_words h.store number answer) (given (resumed answer w) (λ k. after (told (line.Got t answer) h) (λ done l. Gives k l))) Stuck
      (leaves_given C Q (resumed answer w) (λ k. after (told (line.Got t answer) h) (λ done l. Gives k l))
      (λ k is. leaves_after C Q (told (line.Got t answer) h) (λ done l. Gives k l) but (λ done l b. b))) tt

  in_place_but : (g : Graph) (t at number : ℕ) (words : List ℕ) (w : Waiting) (h : Held) → Q h → LeavesSo C Q (answered_in_place g t at number words w h)
  in_place_but g t at number words w h but =
      leaves_after C Q (answered g t at number words h) (λ answer k. goes_on_with t number answer w k) (answered_but g t at number words h but) (λ answer k b. goes_but t number answer w k b)

  -- Runs up to calls that are answered so.
  one_goes : (g : Graph) (t at : ℕ) (a b : Point) → GoesOn g t at a b → Q a.held → Q b.held
  one_goes g t at a b (number, words, w, h, (s, left, gives, is), answers) but =
      let ran : Held = record a.held { store = s; left = left } in
      let goes : answered_in_place g t at number words w ran ≡ Gives b.stack b.held = subst (λ (x : Held). answered_in_place g t at number words w x ≡ Gives b.stack b.held) is answers in
      subst (λ (d : Done Stack). LeavesSo C Q d) goes (in_place_but g t at number words w ran but)

  all_go : (g : Graph) (t at count : ℕ) (a b : Point) → GoOn g t at count a b → Q a.held → Q b.held
  all_go g t at zero a b is but = subst (λ (x : Point). Q x.held) (sym is) but
  all_go g t at (suc count) a b (mid, steps, goes) but = one_goes g t at mid b goes (all_go g t at count a mid steps but)

  ended : (g : Graph) (t at : ℕ) (o : Outcome) (a : Point) (h : Held) (new : Parts) → Runs a o h → EndsWith g t at o h (Ok tt) new → Q a.held → Q (held new)
  ended g t at (outcome.Done words) a h new (s, left, gives, is) (ok, done) but =
      let same : held new ≡ at_rest rest.Leaves (record a.held { store = s; left = left }) = subst (λ (x : Held). held new ≡ at_rest rest.Leaves x) is done in
      subst Q (sym same) but
  ended g t at (outcome.Calls number words w) a h new runs ends but = absurd ends
  ended g t at (outcome.Trapped why) a h new runs (ok, done) but = absurd (cc)
  ended g t at (outcome.NoFuel later) a h new runs (ok, done) but = absurd (cc)
  ended g t at outcome.Memory a h new runs ok but = absurd (cc)

  nested_but : (g : Graph) (t at : ℕ) (a : Point) (new : Parts) → NestedEnds g t at a (Ok tt) new → Q a.held → Q (held new)
  nested_but g t at a new (mid, gone, (o, h, runs, ends)) but = ended g t at o mid h new runs ends (all_go g t at gone.count a mid gone.calls but)

  begun_but : (g : Graph) (t : ℕ) (at : Option ℕ) (call : Option Stack) (h : Held) (new : Parts) → BeginsNested g t at call h (Ok tt) new → Q h → Q (held new)
  begun_but g t None call h new b but = absurd b
  begun_but g t (Some at) None h new b but = absurd b
  begun_but g t (Some at) (Some k) h new b but = nested_but g t at (record { held = h; stack = k }) new b but

  returned_but : (g : Graph) (t : ℕ) (post : Option FuncRef) (words : List ℕ) (h : Held) (new : Parts) → PostReturns g t post words h (Ok tt) new → Q h → Q (held new)
  returned_but g t None words h new (ok, is) but = subst Q (sym is) but
  returned_but g t (Some func) words h new b but = begun_but g t (instance_at t h) (call_of h.store func words) h new b but

  -- A trap in the midst.
  came_to : {A : Type 0} (d : Done A) (why : TrapName) (k : Held) → LeavesSo C Q d → d ≡ Traps why k → RightAt C k
  came_to {A} d why k p is = subst (λ (e : Done A). LeavesSo C Q e) is p

  ended_trap : (g : Graph) (t at : ℕ) (o : Outcome) (a : Point) (h : Held) (why : TrapName) (new : Parts) → Runs a o h → EndsWith g t at o h (Err (stop.Trap why)) new → Q a.held → RightAt C (held new)
  ended_trap g t at (outcome.Done words) a h why new runs (never, done) but = absurd (cc)
  ended_trap g t at (outcome.Calls number words w) a h why new (s, left, gives, is) ends but =
      came_to (answered_in_place g t at number words w h) why (held new) (in_place_but g t at number words w h (subst Q (sym is) but)) ends
  ended_trap g t at (outcome.Trapped other) a h why new (s, left, gives, is) (so, done) but =
      subst (λ (k : Held). RightAt C k) (sym (done ∙ is)) (right_at C u 0 (record a.held { store = s; left = left }) but)
  ended_trap g t at (outcome.NoFuel later) a h why new runs (never, done) but = absurd (cc)
  ended_trap g t at outcome.Memory a h why new runs never but = absurd (cc)

  nested_trap : (g : Graph) (t at : ℕ) (a : Point) (why : TrapName) (new : Parts) → NestedEnds g t at a (Err (stop.Trap why)) new → Q a.held → RightAt C (held new)
  nested_trap g t at a why new (mid, gone, (o, h, runs, ends)) but = ended_trap g t at o mid h why new runs ends (all_go g t at gone.count a mid gone.calls but)

  begun_trap : (g : Graph) (t : ℕ) (at : Option ℕ) (call : Option Stack) (h : Held) (why : TrapName) (new : Parts) → BeginsNested g t at call h (Err (stop.Trap why)) new → Q h → RightAt C (held new)
  begun_trap g t None call h why new b but = absurd b
  begun_trap g t (Some at) None h why new b but = absurd b
  begun_trap g t (Some at) (Some k) h why new b but = nested_trap g t at (record { held = h; stack = k }) why new b but

  returned_trap : (g : Graph) (t : ℕ) (post : Option FuncRef) (words : List ℕ) (h : Held) (why : TrapName) (new : Parts) → PostReturns g t post words h (Err (stop.Trap why)) new → Q h → RightAt C (held new)
  returned_trap g t None words h why new (never, is) but = absurd (cc)
  returned_trap g t (Some func) words h why new b but = begun_trap g t (instance_at t h) (call_of h.store func words) h why new b but

  pub post_returns_but : (p : Program) (t : ℕ) (post : Option FuncRef) (words : List ℕ) (h : Held) (d : Done (Unit {0})) → PostReturnsTo p t post words h d → Q h → LeavesSo C Q d
  post_returns_but p t post words h d (Ok tt, new, returns, is) but = subst (λ (e : Done (Unit {0})). LeavesSo C Q e) (sym is) (returned_but p.graph.now t post words h new returns but)
  post_returns_but p t post words h d (Err (stop.Trap why), new, returns, is) but = subst (λ (e : Done (Unit {0})). LeavesSo C Q e) (sym is) (returned_trap p.graph.now t post words h why new returns but)
  post_returns_but p t post words h d (Err stop.NoFuel, new, returns, is) but = subst (λ (e : Done (Unit {0})). LeavesSo C Q e) (sym is) tt
  post_returns_but p t post words h d (Err stop.Stuck, new, returns, is) but = subst (λ (e : Done (Unit {0})). LeavesSo C Q e) (sym is) tt
  post_returns_but p t post words h d (Err stop.Memory, new, returns, is) but = absurd is

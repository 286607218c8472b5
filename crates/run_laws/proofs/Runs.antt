-- Where the acting task's stack is to run.
use Rattle.std.proofs.Common.{◌≡◌, ℕ, zero, suc, List, [], ◌∷◌, map, slice_set, refl, sym, ap, ◌∙◌, subst, append-nil, Option, Some, None}
use Rattle.std.specs.List.{slice_get}
use Rattle.std.specs.Option.{option_map}
use Rattle.wasm_store.specs.Store.{found_at}
use Rattle.wasm_store.specs.Stack.{Stack}
use Rattle.wasm_execution.specs.declared.running.Outcome.{Outcome}
use Rattle.wasm_execution.specs.declared.running.Outcome.TheVariants as outcome
use Rattle.syntax_trees.specs.declared.types.ValType.{ValType}
use Rattle.comp_graph.specs.Graph.{Graph}
use Rattle.script_reader.specs.Script.{Script}
use Rattle.trace_labels.specs.declared.label.Label.{Label}
use Rattle.trace_labels.specs.declared.trap.TrapName.{TrapName}
use Rattle.world_parts.specs.declared.parts.Rest.{Rest}
use Rattle.world_parts.specs.Held as kept
use Rattle.world_parts.specs.Held.{Held, Done, Gives, Traps, Spent}
use Rattle.world_stacks.specs.declared.top.Top.{Top}
use Rattle.world_stacks.specs.declared.top.Top.TheVariants as top
use Rattle.world_stacks.specs.Views.{PileView, stacks_of}
use Rattle.world_stacks.specs.Piles.{with_top}
use Rattle.value_parts.specs.Coming.{Behind}
use Rattle.machine_runs.specs.declared.stepping.Step.{Step}
use Rattle.machine_runs.specs.declared.stepping.Step.TheVariants as step
use Rattle.machine_runs.specs.Moving.{acting_of}
use Rattle.machine_runs.specs.Stepping.{outcome_done, TopComes, passing_behind, PileSteps, TaskSteps}
use Rattle.abi_machine.specs.declared.run_end.RunEnd.TheVariants.{Fuel}
use Rattle.abi_machine.specs.Control.{Control, Free, Runs}
use Rattle.abi_machine.specs.World.{Callee, New, Acting, AfterCall, AfterCancel, Begins, WaitsToEnter, InLoop, InBuiltin, Exited, TaskState, Task, World}
use Rattle.abi_machine.specs.Edits.{with_control}
use Rattle.abi_machine.specs.Reading.{func_of, kind_of}
use Rattle.abi_machine.specs.Turn as turns
use Rattle.abi_machine.specs.Turn.{Turn, Ends, behind}
use Rattle.abi_machine.specs.CoreSteps.{func_ended}
use Rattle.abi_machine.specs.Next.{next_by}
use Rattle.abi_machine.specs.Run.{lines_of}
use Rattle.abi_machine.specs.sound.Acting.{outline_of, outlines_of, RunsIn, IsRunning, ActsBy, IsOrdered}
use Rattle.abi_machine.proofs.sound.Found.{some_same}
use Rattle.standing.specs.Stands.{Stands}
use Rattle.standing.specs.Agreeing.{acting_words, control_of, control_at}
use Rattle.standing.specs.Leading.{ComesBy, EndsBy, IsDoomed}
use Rattle.standing.specs.TaskRuns.{func_turn, FuncEnds, AfterRun, RunLeads, OutcomeLeads, ActsStill, RunsPile}
use Rattle.standing.proofs.Changes.{acting_is_alike}
use Rattle.standing.proofs.TaskRuns.{task_runs_lead}
use Rattle.run_laws.specs.Points.{ended, stacks_at}
use Rattle.run_laws.specs.Runs.{RuleAgrees, RunStepsAgree}
use Rattle.run_laws.proofs.Reached.{outline_at}

-- What is seen of items, where one is another, and at a place.
pub map_set : {A B : Type 0} (f : A → B) (xs : List A) (n : ℕ) (y : A) → slice_set (map f xs) n (f y) ≡ map f (slice_set xs n y)
map_set f [] n y = refl
map_set f (x ∷ xs) zero y = refl
map_set f (x ∷ xs) (suc n) y = ap (λ ys. f x ∷ ys) (map_set f xs n y)

pub map_at : {A B : Type 0} (f : A → B) (xs : List A) (n : ℕ) (x : A) → slice_get xs n ≡ Some x → slice_get (map f xs) n ≡ Some (f x)
map_at f [] n x e = absurd (cc)
map_at f (y ∷ xs) zero x e = let same : y ≡ x = cc in ap (λ z. Some (f z)) same
map_at f (y ∷ xs) (suc n) x e = map_at f xs n x e

-- The task whose code runs acts, or a start function of its instance runs.
abbrev ActsStillAt : World → ℕ → Type 0
ActsStillAt w t = (task : Task) → slice_get w.tasks t ≡ Some task → ActsStill task.state

still_runs : (state : TaskState) (callee : Callee) → RunsIn state callee → ActsStill state
still_runs Acting callee h = λ flag. refl
still_runs (Begins n) callee h = λ flag. refl
still_runs New callee h = absurd h
still_runs (AfterCall called number words) callee h = absurd h
still_runs (AfterCancel called number words) callee h = absurd h
still_runs WaitsToEnter callee h = absurd h
still_runs (InLoop word) callee h = absurd h
still_runs (InBuiltin number words wait) callee h = absurd h
still_runs Exited callee h = absurd h

acting_still : (w : World) (t : ℕ) → IsOrdered w → w.control ≡ Runs → slice_get w.chain 0 ≡ Some t → ActsStillAt w t
acting_still w t ordered control first task there =
    let acts : _ = subst (λ (x : Control). ActsBy x (outlines_of w.tasks) w.chain) control ordered.2 in
    let same : acts.0 ≡ t = some_same (sym acts.1.0 ∙ first) in
    let outline : _ = acts.1.1 in
    let is : outline.0 ≡ outline_of task = outline_at w.tasks t task outline.0 there (ap (λ (n : ℕ). slice_get (outlines_of w.tasks) n) (sym same) ∙ outline.1) in
    let running : IsRunning (outline_of task) = subst IsRunning is outline.2 in
    still_runs task.state task.callee running.0

module _ (g : Graph) (values : List ValType) (s : Script) (w : World) (t : ℕ) (piles : List PileView) where
  abbrev Agrees : Done (Step × List PileView) → Type 0
  Agrees d = RuleAgrees g values s [] w d

  -- what is handed on by a run of the stack
  abbrev follows : Option (List ℕ) × PileView → Held → Done (Step × List PileView)
  follows r k = Gives (step.GoesOn (passing_behind r.0), slice_set piles t r.1) k

  stands_so : (k : Held) (q : PileView) (v : World) → Stands g values s k (slice_set (stacks_at piles) t (stacks_of q)) v → Stands g values s k (stacks_at (slice_set piles t q)) v
  stands_so k q v st = subst (λ (stacks : List (List Stack)). Stands g values s k stacks v) (map_set stacks_of piles t q) st

  goes_on : (k : Held) (q : PileView) → ComesBy g values s w [] k (slice_set (stacks_at piles) t (stacks_of q)) (λ v. v.control ≡ control_at k) → Agrees (follows (None, q) k)
  goes_on k q c = record {
    steps = c.goes.0;
    world = c.world;
    reached = c.goes.1;
    now_ahead = [];
    point = record { stands = stands_so k q c.world c.stands; control = c.ends; none_ahead = refl };
    same_lines = c.told ∙ c.goes.2 ∙ sym (append-nil (lines_of c.goes.0));
  }

  -- Where the task's function has ended.
  none_behind : (turn : Turn) → behind [] turn ≡ turn
  none_behind (turns.Steps lines v) = refl
  none_behind (Ends end) = refl
  none_behind turns.Stuck = refl

  ended_by : (v : World) (words : List ℕ) (o : Option Task)
      → turns.given {A = ℕ × Task} (option_map (λ (x : Task). (t, x)) o) (λ a. turns.given (func_of a.1.callee) (λ f. func_ended g a.0 a.1 f (kind_of a.1) words v))
      ≡ turns.given o (λ x. turns.given (func_of x.callee) (λ f. func_ended g t x f (kind_of x) words v))
  ended_by v words None = refl
  ended_by v words (Some x) = refl

  ended_is : (v : World) (words : List ℕ) → slice_get v.chain 0 ≡ Some t → ended g words v ≡ func_turn g t words v
  ended_is v words acts =
      ap (λ (o : Option ℕ). turns.given (found_at v.tasks o) (λ a. turns.given (func_of a.1.callee) (λ f. func_ended g a.0 a.1 f (kind_of a.1) words v))) acts
      ∙ ended_by v words (slice_get v.tasks t)

  has_ended : (k : Held) (q : PileView) (words : List ℕ) → FuncEnds g values s t w [] k (slice_set (stacks_at piles) t (stacks_of q)) words → Agrees (follows (Some words, q) k)
  has_ended k q words c = record {
    steps = c.goes.0;
    world = c.last;
    reached = c.goes.1;
    now_ahead = [];
    point = record {
      world = c.world;
      stands = stands_so k q c.world c.stands;
      turn = c.turn ∙ sym (none_behind (ended g words c.world) ∙ ended_is c.world words c.acts);
    };
    same_lines = c.told ∙ c.goes.2 ∙ sym (append-nil (lines_of c.goes.0));
  }

  -- It traps, and fuel is wanting.
  traps : (why : TrapName) (k : Held) (stacks : List (List Stack)) → ComesBy g values s w [] k stacks (IsDoomed t why) → Agrees (Traps why k)
  traps why k stacks c = (
    t,
    acting_is_alike g values s k stacks c.world c.stands ∙ c.ends.1,
    record {
      steps = c.goes.0;
      world = c.world;
      reached = c.goes.1;
      same_lines = c.told ∙ c.goes.2;
      is_next = ap (λ (x : Control). next_by g s (with_control Free c.world) x) c.ends.0;
      stacks = stacks;
      stands = c.stands;
    },
  )

  no_fuel : (k : Held) (stacks : List (List Stack)) → EndsBy g values s w [] k stacks Fuel → Agrees (Spent k)
  no_fuel k stacks c = record { steps = c.runs.0; world = c.last; reached = c.runs.1; same_lines = c.told ∙ c.runs.3; is_next = c.runs.2 }

  handed_on : (first : Done (Option (List ℕ) × PileView)) (d : Done (Step × List PileView)) → RunLeads g values s t w [] (stacks_at piles) first
      → Behind first (λ r k e. e ≡ follows r k) d → Agrees d
  handed_on (Gives r k) d c b = subst Agrees (sym b) (by r.0 c)
    where
      by : (o : Option (List ℕ)) → AfterRun g values s t w [] (stacks_at piles) o r.1 k → Agrees (follows (o, r.1) k)
      by None c = goes_on k r.1 c
      by (Some words) c = has_ended k r.1 words c
  handed_on (Traps why k) d c b = subst Agrees (sym b) (traps why k c.0 c.1)
  handed_on (Spent k) d c b = subst Agrees (sym b) (no_fuel k c.0 c.1)
  handed_on kept.Stuck d c b = subst Agrees (sym b) tt

  same_first : {A : Type 0} (x y : A) → (let o : Option A = Some x in o) ≡ Some y → x ≡ y
  same_first x y e = cc

  by_outcome : (p : PileView) (o : Outcome) (h : Held) (first : Done (Option (List ℕ) × PileView)) (d : Done (Step × List PileView)) → OutcomeLeads g values s t w [] (stacks_at piles) p o h
      → outcome_done t p o h ≡ Some first → Behind first (λ r k e. e ≡ follows r k) d → Agrees d
  by_outcome p (outcome.Done words) h first d c e b = handed_on first d (subst (RunLeads g values s t w [] (stacks_at piles)) (same_first _ first e) c) b
  by_outcome p (outcome.Calls number words waits) h first d c e b = handed_on first d (subst (RunLeads g values s t w [] (stacks_at piles)) (same_first _ first e) c) b
  by_outcome p (outcome.Trapped why) h first d c e b = handed_on first d (subst (RunLeads g values s t w [] (stacks_at piles)) (same_first _ first e) c) b
  by_outcome p (outcome.NoFuel later) h first d c e b = handed_on first d (subst (RunLeads g values s t w [] (stacks_at piles)) (same_first _ first e) c) b
  by_outcome p outcome.Memory h first d c e b = absurd (cc)

  stuck : (first : Done (Option (List ℕ) × PileView)) (d : Done (Step × List PileView)) → first ≡ kept.Stuck → Behind first (λ r k e. e ≡ follows r k) d → Agrees d
  stuck first d is b = handed_on first d (subst (RunLeads g values s t w [] (stacks_at piles)) (sym is) tt) b

  by_top : (h : Held) (p : PileView) (first : Done (Option (List ℕ) × PileView)) (d : Done (Step × List PileView)) (x : Top) → h.labels ≡ [] → w.control ≡ Runs
      → slice_get w.chain 0 ≡ Some t → ActsStillAt w t → slice_get piles t ≡ Some p → Stands g values s h (stacks_at piles) w → p.top ≡ x → TopComes t x p h first
      → Behind first (λ r k e. e ≡ follows r k) d → Agrees d
  by_top h p first d top.Empty none control acts still there st is c b = stuck first d c b
  by_top h p first d (top.Waits call) none control acts still there st is c b = stuck first d c b
  by_top h p first d (top.Goes k) none control acts still there st is c b =
      let runs : RunsPile w t (stacks_at piles) p k = record { control = control; acts = acts; acting = still; piled = map_at stacks_of piles t p there; goes = is } in
      by_outcome (with_top top.Empty p) c.0 (record h { store = c.1; left = c.2 }) first d
      (subst (λ (ls : List Label). OutcomeLeads g values s t w ls (stacks_at piles) (with_top top.Empty p) c.0 (record h { store = c.1; left = c.2 })) none
      (task_runs_lead g values s h (stacks_at piles) w t p k c.0 c.1 c.2 runs st c.3)) c.4 b

by_pile : (g : Graph) (values : List ValType) (s : Script) (h : Held) (piles : List PileView) (w : World) (d : Done (Step × List PileView)) (t : ℕ) (o : Option PileView) → h.labels ≡ []
    → w.control ≡ Runs → slice_get w.chain 0 ≡ Some t → ActsStillAt w t → Stands g values s h (stacks_at piles) w → slice_get piles t ≡ o → PileSteps t o piles h d → RuleAgrees g values s [] w d
by_pile g values s h piles w d t None none control acts still st there steps = subst (RuleAgrees g values s [] w) (sym steps) tt
by_pile g values s h piles w d t (Some p) none control acts still st there steps =
    by_top g values s w t piles h p steps.0 d p.top none control acts still there st refl steps.1 steps.2

by_task : (g : Graph) (values : List ValType) (s : Script) (h : Held) (piles : List PileView) (w : World) (d : Done (Step × List PileView)) (o : Option ℕ) → h.labels ≡ []
    → IsOrdered w → w.control ≡ Runs → slice_get w.chain 0 ≡ o → Stands g values s h (stacks_at piles) w → TaskSteps o piles h d → RuleAgrees g values s [] w d
by_task g values s h piles w d None none ordered control acts st steps = subst (RuleAgrees g values s [] w) (sym steps) tt
by_task g values s h piles w d (Some t) none ordered control acts st steps =
    by_pile g values s h piles w d t (slice_get piles t) none control acts (acting_still w t ordered control acts) st refl steps

pub run_steps_agree : RunStepsAgree
run_steps_agree g values s h piles w d ordered none runs at steps =
    by_task g values s h piles w d (acting_of h) none ordered (at.control ∙ ap (λ (r : Rest). control_of (acting_words h) r) runs)
    (sym (acting_is_alike g values s h (stacks_at piles) w at.stands)) at.stands steps

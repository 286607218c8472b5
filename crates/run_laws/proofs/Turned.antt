-- Turns of the kept machine, where no task runs.
use Rattle.std.proofs.Common.{◌≡◌, ◌<◌, ◌≤◌, inl, inr, ℕ, zero, suc, ◌+◌, ◌-◌, Bool, true, false, nat_lt, if◌then◌else◌, List, [], ◌∷◌, ◌++◌, length, map, refl, sym, ap, ◌∙◌, subst, append-nil, append_assoc, arith, Option, Some, None}
use Rattle.std.specs.List.{slice_get}
use Rattle.std.proofs.lemmas.Bool.{lt-ltb, le-ltb}
use Rattle.std.proofs.lemmas.List.{length-map}
use Rattle.syntax_trees.specs.declared.exports.Export.{Export}
use Rattle.syntax_trees.specs.declared.types.ValType.{ValType}
use Rattle.syntax_trees.specs.declared.value.Value.{Value}
use Rattle.wasm_store.specs.Stack.{Stack}
use Rattle.entry_gate.specs.declared.kind.Kind.{Kind}
use Rattle.comp_graph.specs.declared.graph.Lift.{Lift}
use Rattle.comp_graph.specs.Graph.{Graph, Lifted, func_at, func_named, lifted_as}
use Rattle.script_reader.specs.declared.script.Call.{Call}
use Rattle.script_reader.specs.declared.script.Item.{Item}
use Rattle.script_reader.specs.declared.script.Item.TheVariants as item
use Rattle.script_reader.specs.Script.{Script}
use Rattle.graph_views.specs.Callees.{kind_of}
use Rattle.trace_labels.specs.declared.label.Label.{Label}
use Rattle.trace_labels.specs.declared.label.Label.TheVariants as line
use Rattle.trace_labels.specs.declared.trap.TrapName.{TrapName}
use Rattle.trace_labels.specs.declared.typed.TypedValue.{TypedValue}
use Rattle.programs.specs.declared.program.CallNumbers.{CallNumbers}
use Rattle.programs.specs.declared.program.Program.{Program}
use Rattle.programs.specs.Typed as typed_by
use Rattle.task_table.specs.declared.caller.Caller.TheVariants.{Host}
use Rattle.task_table.specs.declared.errand.Callee.TheVariants as callee
use Rattle.task_table.specs.Slots.{new_slot}
use Rattle.world_parts.specs.declared.parts.Flow.{Flow}
use Rattle.world_parts.specs.declared.parts.Flow.TheVariants as flow
use Rattle.world_parts.specs.declared.parts.Turned.{Turned}
use Rattle.world_parts.specs.declared.parts.Turned.TheVariants as turned
use Rattle.world_parts.specs.Held as kept
use Rattle.world_parts.specs.Held.{Held, Done, Gives, Traps, Spent, after, given}
use Rattle.world_parts.specs.declared.parts.Rest.TheVariants as rest
use Rattle.world_parts.specs.Feed.{told, at_rest, chained, item_taken}
use Rattle.world_parts.specs.Turning as kept_turns
use Rattle.world_parts.specs.Slots.{next_task, task_made, call_made}
use Rattle.world_parts.specs.Turning.{count_of, task_at, task_gone, taken, turns_by, call_taken, call_cancelled}
use Rattle.world_stacks.specs.Piles.{new_pile}
use Rattle.world_stacks.specs.Views.{PileView, stacks_of}
use Rattle.value_parts.specs.declared.to_pass.Passing.TheVariants as passing
use Rattle.machine_runs.specs.declared.stepping.Step.{Step}
use Rattle.machine_runs.specs.declared.stepping.Step.TheVariants as step
use Rattle.machine_runs.specs.Following.{with_piles}
use Rattle.machine_runs.specs.Stepping.{step_of_turn}
use Rattle.machine_runs.specs.Turning.{has_item, call_by, call_of, item_done, next_item_taken, turned_so}
use Rattle.abi_machine.specs.World.{Task, World}
use Rattle.abi_machine.specs.Edits.{with_control}
use Rattle.abi_machine.specs.Canons.{kind_of_options}
use Rattle.abi_machine.specs.Next.{next}
use Rattle.abi_machine.specs.Run.{Reaches, lines_of}
use Rattle.abi_machine.specs.Scheduling as machine
use Rattle.abi_machine.specs.Scheduling.{Takes, GoesOn, Alternative, is_call, arguments_typed, item_first, alternatives, alternative_turn, one_of, end_by}
use Rattle.abi_machine.specs.Turn.{Turn, Steps}
use Rattle.standing.specs.Tasks.{TaskStands}
use Rattle.standing.specs.Stands.{Stands}
use Rattle.standing.specs.Agreeing.{control_at, Agrees}
use Rattle.standing.specs.Callings.{MayGrow, AgreesMade}
use Rattle.standing.specs.Rows.{resting}
use Rattle.abi_machine.proofs.sound.Found.{some_same}
use Rattle.standing.proofs.Lists.{both_long, map_more}
use Rattle.standing.proofs.Going.{after_after, done_as, task_goes_on}
use Rattle.standing.proofs.Taking.{call_is_taken}
use Rattle.standing.proofs.Steps.{found, if_true, if_false}
use Rattle.run_laws.specs.Points.{stacks_at, StepAgrees}
use Rattle.run_laws.specs.Turns.{IsProgram}
use Rattle.run_laws.proofs.Costs.{Costs, cancel_costs}

-- One step more of the machine.
reaches_more : (g : Graph) (s : Script) (w mid v : World) (steps : List (List Label)) (lines : List Label) → Reaches g s w steps mid → next g s mid ≡ Steps lines v
    → Reaches g s w (steps ++ lines ∷ []) v
reaches_more g s w mid v [] lines r e = (v, subst (λ (x : World). next g s x ≡ Steps lines v) r e, refl)
reaches_more g s w mid v (labels ∷ steps) lines r e = (r.0, r.1, reaches_more g s r.0 mid v steps lines r.2 e)

lines_more : (steps : List (List Label)) (lines : List Label) → lines_of (steps ++ lines ∷ []) ≡ lines_of steps ++ lines
lines_more [] lines = append-nil lines
lines_more (labels ∷ steps) lines = ap (λ xs. labels ++ xs) (lines_more steps lines) ∙ sym (append_assoc labels (lines_of steps) lines)

-- What a part that rests comes to.
pub rest_step : {A : Type 0} (g : Graph) (values : List ValType) (s : Script) (t : ℕ) (piles : List PileView) (w mid : World) (steps : List (List Label)) (before : List Label) (d : Done A) (u : Turn)
    (P : Held → List PileView) (a : AgreesMade g values s t before (stacks_at piles) (resting d) u)
    → Reaches g s w steps mid → lines_of steps ≡ before → next g s mid ≡ u → Costs before d → ((k : Held) → length a.0 ≡ length k.tasks → stacks_at (P k) ≡ a.0)
    → StepAgrees g values s [] w (after d (λ x k. Gives (step.GoesOn passing.Nothing, P k) k))
rest_step g values s t piles w mid steps before (Gives x k) u P a r same is costs grows =
    let long : length a.0 ≡ length k.tasks =
    ap (λ (xs : List (List Stack)). length xs) a.2.stands.same_stacks ∙ length-map a.2.world.tasks (λ (task : Task). task.stacks)
    ∙ sym (both_long (TaskStands g s) k.tasks a.2.world.tasks a.2.stands.are_tasks) in
    record {
      steps = steps ++ a.2.lines ∷ [];
      world = with_control (control_at k) a.2.world;
      reached = reaches_more g s w mid (with_control (control_at k) a.2.world) steps a.2.lines r (is ∙ a.2.ends);
      now_ahead = [];
      point = record {
        stands = subst (λ (stacks : List (List Stack)). Stands g values s k stacks a.2.world) (sym (grows k long)) a.2.stands;
        control = refl;
        none_ahead = refl;
      };
      same_lines = a.2.told ∙ ap (λ xs. xs ++ a.2.lines) (sym same) ∙ sym (lines_more steps a.2.lines) ∙ sym (append-nil (lines_of (steps ++ a.2.lines ∷ [])));
    }
rest_step g values s t piles w mid steps before (Traps why k) u P a r same is costs grows = absurd (costs.no_trap why k refl)
rest_step g values s t piles w mid steps before (Spent k) u P a r same is costs grows =
    record { steps = steps; world = mid; reached = r; same_lines = costs.spent k refl ∙ sym same; is_next = is ∙ a.2 }
rest_step g values s t piles w mid steps before kept.Stuck u P a r same is costs grows =
    (before, record { steps = steps; world = mid; reached = r; same_lines = sym same; is_next = is ∙ a.2 })

-- The stacks of tasks grow where one is made.
one_longer : {A : Type 0} (xs : List A) (x : A) → length (xs ++ x ∷ []) ≡ length xs + 1
one_longer [] x = refl
one_longer (y ∷ xs) x = let more : length (xs ++ x ∷ []) ≡ length xs + 1 = one_longer xs x in omega (arith, more)

piles_long : (piles : List PileView) → length (stacks_at piles) ≡ length piles
piles_long piles = length-map piles stacks_of

pub piles_grow : (piles : List PileView) (now : List (List Stack)) (count : ℕ) → MayGrow (stacks_at piles) now → length now ≡ count → stacks_at (with_piles count piles) ≡ now
piles_grow piles now count grow long = elim grow [
  | inl same ↦
      let few : count ≤ length piles =
      (let a : length now ≡ length (stacks_at piles) = ap (λ (xs : List (List Stack)). length xs) same in let b : length (stacks_at piles) ≡ length piles = piles_long piles in omega (arith, a, b, long)) in
      ap stacks_at (if_false (nat_lt (length piles) count) (piles ++ new_pile ∷ []) piles (le-ltb (length piles) count few)) ∙ sym same
  | inr more ↦
      let many : length piles < count =
      (let a : length now ≡ length (stacks_at piles ++ [] ∷ []) = ap (λ (xs : List (List Stack)). length xs) more in
      let b : length (stacks_at piles) ≡ length piles = piles_long piles in
      let c : length (stacks_at piles ++ [] ∷ []) ≡ length (stacks_at piles) + 1 = one_longer (stacks_at piles) [] in omega (arith, a, b, c, long)) in
      ap stacks_at (if_true (nat_lt (length piles) count) (piles ++ new_pile ∷ []) piles (lt-ltb (length piles) count many)) ∙ map_more stacks_of piles new_pile ∙ sym more
]

-- What a turn, an item that is taken and a task that goes on are as steps.
abbrev pub as_step : Turned × List PileView → Held → Done (Step × List PileView)
as_step r k = Gives (step_of_turn r.0, r.1) k

abbrev pub taken_step : List PileView → Flow → Held → Done (Turned × List PileView)
taken_step piles f k = Gives (turned.TakesItem, with_piles (length k.tasks) piles) k

abbrev pub item_step : List PileView → Flow → Held → Done (Step × List PileView)
item_step piles f k = Gives (step.GoesOn passing.Nothing, with_piles (length k.tasks) piles) k

abbrev pub task_step : List PileView → Turned → Held → Done (Step × List PileView)
task_step piles x k = Gives (step.GoesOn passing.Nothing, piles) k

-- A task goes on.
gone_by : (p : Program) (piles : List PileView) (t : ℕ) (k : Held) (b : Bool)
    → after (after (after (if b then Gives tt k else Spent k) (λ (done : Unit {0}) k. after (told (line.Go t) k) (λ done l. after (chained t l) (λ done m. Gives turned.GoesOn (at_rest rest.Resumes m))))) (λ what k. turned_so p what piles k))
    as_step
    ≡ after (after (if b then Gives tt k else Spent k) (λ (done : Unit {0}) k. after (told (line.Go t) k) (λ done l. after (chained t l) (λ done m. Gives turned.GoesOn (at_rest rest.Resumes m)))))
    (task_step piles)
gone_by p piles t k true = refl
gone_by p piles t k false = refl

gone_steps : (p : Program) (piles : List PileView) (t : ℕ) (h : Held)
    → after (after (kept_turns.gone t h) (λ what k. turned_so p what piles k)) as_step
    ≡ after (kept_turns.gone t h) (task_step piles)
unfolding kept_turns.gone
gone_steps p piles t h = gone_by p piles t (record h { left = h.left - 1 }) (nat_lt 0 h.left)

abbrev kept_labels : {A : Type 0} → Done A → List Label
kept_labels (Gives x k) = k.labels
kept_labels (Traps why k) = k.labels
kept_labels (Spent k) = k.labels
kept_labels kept.Stuck = []

gone_spent : (t : ℕ) (h k : Held) (b : Bool)
    → after (if b then Gives tt (record h { left = h.left - 1 }) else Spent (record h { left = h.left - 1 }))
    (λ (done : Unit {0}) k. after (told (line.Go t) k) (λ done l. after (chained t l) (λ done m. Gives turned.GoesOn (at_rest rest.Resumes m)))) ≡ Spent k
    → k.labels ≡ h.labels
gone_spent t h k true e = absurd (cc)
gone_spent t h k false e = ap kept_labels (sym e)

gone_untrapped : (t : ℕ) (h k : Held) (why : TrapName) (b : Bool)
    → after (if b then Gives tt (record h { left = h.left - 1 }) else Spent (record h { left = h.left - 1 }))
    (λ (done : Unit {0}) k. after (told (line.Go t) k) (λ done l. after (chained t l) (λ done m. Gives turned.GoesOn (at_rest rest.Resumes m)))) ≡ Traps why k
    → ⊥
gone_untrapped t h k why true e = absurd (cc)
gone_untrapped t h k why false e = absurd (cc)

gone_costs : (t : ℕ) (h : Held) → Costs h.labels (kept_turns.gone t h)
unfolding kept_turns.gone
gone_costs t h = record { spent = λ k e. gone_spent t h k (nat_lt 0 h.left) e; no_trap = λ why k e. gone_untrapped t h k why (nat_lt 0 h.left) e }

-- The next item is taken.
lifted_there : (o : Option Export) (l : Option Lift) (f : Lifted) → lifted_as o l ≡ Some f
    → (e : Export) × (lift : Lift) × (o ≡ Some e) × (l ≡ Some lift) × (f ≡ (let x : Lifted = record { instance = lift.instance; core = lift.core; options = lift.options; func_type = e.func_type } in x))
lifted_there (Some e) (Some lift) f is = (e, lift, refl, refl, sym (some_same is))
lifted_there (Some e) None f is = absurd (cc)
lifted_there None (Some lift) f is = absurd (cc)
lifted_there None None f is = absurd (cc)

typed_same : (types : List ValType) (values : List Value) → typed_by.typed types values ≡ machine.typed types values
typed_same [] values = refl
typed_same (type ∷ types) [] = refl
typed_same (type ∷ types) (v ∷ values) = ap (λ (xs : List TypedValue). record { value = v; val_type = type } ∷ xs) (typed_same types values)

abbrev call_behind : ℕ → ℕ → Kind → List ℕ → List TypedValue → Unit {0} → Held → Done Flow
call_behind export instance kind name args done k =
    after (item_taken k) (λ done l. after (next_task l) (λ t m. after (told (line.Take (length m.calls + 1) t name args) m) (λ done n.
    after (task_made (new_slot instance kind (callee.Export export) (Host (length m.calls + 1))) n) (λ made o.
    after (call_made t o) (λ done p. after (chained t p) (λ done q. Gives flow.Rests (at_rest rest.Arrives q)))))))

abbrev unit_if : Bool → Held → Done (Unit {0})
unit_if b h = if b then Gives tt (record h { left = h.left - 1 }) else Spent (record h { left = h.left - 1 })

call_rests_by : (export instance : ℕ) (kind : Kind) (name : List ℕ) (args : List TypedValue) (h : Held) (b : Bool)
    → resting (after (unit_if b h) (call_behind export instance kind name args)) ≡ after (unit_if b h) (call_behind export instance kind name args)
call_rests_by export instance kind name args h true = refl
call_rests_by export instance kind name args h false = refl

call_rests : (export instance : ℕ) (kind : Kind) (name : List ℕ) (args : List TypedValue) (h : Held) → resting (call_taken export instance kind name args h) ≡ call_taken export instance kind name args h
unfolding call_taken
call_rests export instance kind name args h = call_rests_by export instance kind name args h (nat_lt 0 h.left)

call_spent : (export instance : ℕ) (kind : Kind) (name : List ℕ) (args : List TypedValue) (h k : Held) (b : Bool)
    → after (unit_if b h) (call_behind export instance kind name args) ≡ Spent k → k.labels ≡ h.labels
call_spent export instance kind name args h k true e = absurd (cc)
call_spent export instance kind name args h k false e = ap kept_labels (sym e)

call_untrapped : (export instance : ℕ) (kind : Kind) (name : List ℕ) (args : List TypedValue) (h k : Held) (why : TrapName) (b : Bool)
    → after (unit_if b h) (call_behind export instance kind name args) ≡ Traps why k → ⊥
call_untrapped export instance kind name args h k why true e = absurd (cc)
call_untrapped export instance kind name args h k why false e = absurd (cc)

call_costs : (export instance : ℕ) (kind : Kind) (name : List ℕ) (args : List TypedValue) (h : Held) → Costs h.labels (call_taken export instance kind name args h)
unfolding call_taken
call_costs export instance kind name args h = record {
  spent = λ k e. call_spent export instance kind name args h k (nat_lt 0 h.left) e;
  no_trap = λ why k e. call_untrapped export instance kind name args h k why (nat_lt 0 h.left) e;
}

-- A call by the number of its export is that of the machine.
record IsCall (g : Graph) (p : Program) (h : Held) (call : Call) : Type 0 where
  export : ℕ
  instance : ℕ
  kind : Kind
  args : List TypedValue
  func : Lifted
  is : item_done p (item.Call call) h ≡ call_taken export instance kind call.name args h
  named : func_named g call.name ≡ Some func
  numbered : func_at g export ≡ Some func
  place : instance ≡ func.instance
  lifted : kind ≡ kind_of_options func.options
  typed : args ≡ arguments_typed func call.values

call_is : (g : Graph) (s : Script) (p : Program) (h : Held) (w : World) (call : Call) → IsProgram g s p → length h.calls ≡ machine.calls_taken s w → slice_get s.items w.taken ≡ Some (item.Call call)
    → IsCall g p h call
call_is g s p h w call program counted is =
    let known : _ = program.calls w.taken call is in
    let numbers : CallNumbers = known.0 in
    let there : _ = lifted_there (slice_get g.exports numbers.export) (slice_get g.lifts numbers.export) known.2.0 known.2.2 in
    let e : Export = there.0 in
    let lift : Lift = there.1 in
    record {
      export = numbers.export;
      instance = lift.instance;
      kind = kind_of lift.options;
      args = typed_by.typed (map (λ p. p.val_type) e.func_type.params) call.values;
      func = known.2.0;
      is = found (slice_get p.calls.items (length h.calls)) numbers (λ numbers. call_of p.graph.now numbers call h) (ap (λ (n : ℕ). slice_get p.calls.items n) counted ∙ known.1)
          ∙ ap (λ (graph : Graph). call_of graph numbers call h) program.graph
          ∙ found (slice_get g.exports numbers.export) e (λ e. given (slice_get g.lifts numbers.export) (λ lift. call_by numbers.export e lift call h)) there.2
          ∙ found (slice_get g.lifts numbers.export) lift (λ lift. call_by numbers.export e lift call h) there.3;
      named = known.2.1;
      numbered = known.2.2;
      place = ap (λ (f : Lifted). f.instance) (sym there.4);
      lifted = ap (λ (f : Lifted). kind_of_options f.options) (sym there.4);
      typed = typed_same (map (λ p. p.val_type) e.func_type.params) call.values ∙ ap (λ (f : Lifted). arguments_typed f call.values) (sym there.4);
    }

-- The item is the next one, of what is kept and of the machine.
pub item_steps : (g : Graph) (values : List ValType) (s : Script) (p : Program) (h : Held) (piles : List PileView) (w mid now : World) (steps : List (List Label)) (next_item : Item)
    → IsProgram g s p → length h.calls ≡ machine.calls_taken s now → slice_get s.items now.taken ≡ Some next_item → Stands g values s h (stacks_at piles) now
    → ((number : ℕ) → next_item ≡ item.Cancel number
    → AgreesMade g values s 0 h.labels (stacks_at piles) (resting (call_cancelled number h)) (alternative_turn g s (Takes (item.Cancel number)) now))
    → Reaches g s w steps mid → lines_of steps ≡ h.labels → next g s mid ≡ alternative_turn g s (Takes next_item) now
    → StepAgrees g values s [] w (after (item_done p next_item h) (item_step piles))
item_steps g values s p h piles w mid now steps (item.Call call) program counted is st cancels r same turn =
    let c : IsCall g p h call = call_is g s p h now call program counted is in
    let row : Agrees g values s (length h.tasks) h.labels (stacks_at piles ++ [] ∷ []) (call_taken c.export c.instance c.kind call.name c.args h) (alternative_turn g s (Takes (item.Call call)) now) =
    call_is_taken g values s h (stacks_at piles) now call c.export c.instance c.kind c.args c.func is c.named c.numbered c.place c.lifted c.typed counted st in
    subst (λ (d : Done Flow). StepAgrees g values s [] w (after d (item_step piles))) (sym c.is)
    (rest_step g values s (length h.tasks) piles w mid steps h.labels (call_taken c.export c.instance c.kind call.name c.args h) (alternative_turn g s (Takes (item.Call call)) now)
    (λ k. with_piles (length k.tasks) piles)
    (stacks_at piles ++ [] ∷ [], inr refl, done_as g values s (length h.tasks) h.labels (stacks_at piles ++ [] ∷ []) _ _ _ (call_rests c.export c.instance c.kind call.name c.args h) row)
    r same turn (call_costs c.export c.instance c.kind call.name c.args h) (λ k long. piles_grow piles (stacks_at piles ++ [] ∷ []) (length k.tasks) (inr refl) long))
item_steps g values s p h piles w mid now steps (item.Cancel number) program counted is st cancels r same turn =
    let row : AgreesMade g values s 0 h.labels (stacks_at piles) (resting (call_cancelled number h)) (alternative_turn g s (Takes (item.Cancel number)) now) = cancels number refl in
    rest_step g values s 0 piles w mid steps h.labels (call_cancelled number h) (alternative_turn g s (Takes (item.Cancel number)) now) (λ k. with_piles (length k.tasks) piles) row r same turn
    (cancel_costs number h) (λ k long. piles_grow piles row.0 (length k.tasks) row.1 long)

-- Of the alternatives the one of a number is done.
pub item_taken_is : (p : Program) (s : Script) (h : Held) (piles : List PileView) (next_item : Item) → p.script.now ≡ s → slice_get s.items h.taken ≡ Some next_item
    → after (next_item_taken p piles h) as_step ≡ after (item_done p next_item h) (item_step piles)
unfolding next_item_taken
item_taken_is p s h piles next_item script is =
    ap (λ (d : Done (Turned × List PileView)). after d as_step)
    (found (slice_get p.script.now.items h.taken) next_item (λ next. after (item_done p next h) (taken_step piles))
    (ap (λ (x : Script). slice_get x.items h.taken) script ∙ is))
    ∙ after_after (item_done p next_item h) (taken_step piles) as_step

pub goes_on : (g : Graph) (values : List ValType) (s : Script) (p : Program) (h : Held) (piles : List PileView) (w mid now : World) (steps : List (List Label)) (t : ℕ)
    → Stands g values s h (stacks_at piles) now → Reaches g s w steps mid → lines_of steps ≡ h.labels → next g s mid ≡ alternative_turn g s (GoesOn t) now
    → StepAgrees g values s [] w (after (after (kept_turns.gone t h) (λ what k. turned_so p what piles k)) as_step)
goes_on g values s p h piles w mid now steps t st r same turn =
    subst (λ (d : Done (Step × List PileView)). StepAgrees g values s [] w d) (sym (gone_steps p piles t h))
    (rest_step g values s t piles w mid steps h.labels (kept_turns.gone t h) (alternative_turn g s (GoesOn t) now) (λ k. piles)
    (stacks_at piles, inl refl, task_goes_on g values s h (stacks_at piles) now t st) r same turn (gone_costs t h) (λ k long. refl))

-- Whether an item is left.
some_lt : {A : Type 0} (xs : List A) (n : ℕ) (x : A) → slice_get xs n ≡ Some x → n < length xs
some_lt [] n x e = absurd (cc)
some_lt (y ∷ xs) zero x e = omega arith
some_lt (y ∷ xs) (suc n) x e = let more : n < length xs = some_lt xs n x e in omega (arith, more)

none_le : {A : Type 0} (xs : List A) (n : ℕ) → slice_get xs n ≡ None → length xs ≤ n
none_le [] n e = omega arith
none_le (y ∷ xs) zero e = absurd (cc)
none_le (y ∷ xs) (suc n) e = let less : length xs ≤ n = none_le xs n e in omega (arith, less)

abbrev pub there_is : Option Item → Bool
there_is None = false
there_is (Some x) = true

pub has_is : (s : Script) (p : Program) (h : Held) (taken : ℕ) (o : Option Item) → p.script.now ≡ s → h.taken ≡ taken → slice_get s.items taken ≡ o → has_item p h ≡ there_is o
has_is s p h taken None script same is =
    ap (λ (x : Script). nat_lt h.taken (length x.items)) script ∙ ap (λ (n : ℕ). nat_lt n (length s.items)) same ∙ le-ltb taken (length s.items) (none_le s.items taken is)
has_is s p h taken (Some x) script same is =
    ap (λ (x : Script). nat_lt h.taken (length x.items)) script ∙ ap (λ (n : ℕ). nat_lt n (length s.items)) same ∙ lt-ltb taken (length s.items) (some_lt s.items taken x is)

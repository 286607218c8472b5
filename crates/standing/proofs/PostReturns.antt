-- Nested code with its calls that are answered in place, and post-returns.
use Rattle.std.proofs.Common.{◌≡◌, ◌+◌, ℕ, zero, suc, Bool, true, false, is_some, if◌then◌else◌, List, [], ◌∷◌, ◌++◌, refl, sym, ap, ◌∙◌, subst, append_assoc, append-nil, Option, Some, None, Result, Ok, Err}
use Rattle.std.specs.List.{slice_get}
use Rattle.std.specs.Option.{option_map, option_and_then}
use Rattle.wasm_store.specs.Store.{Function, type_of, Store, found_at}
use Rattle.wasm_store.specs.Stack.{Stack}
use Rattle.wasm_store.specs.Step.{start}
use Rattle.wasm_execution.specs.Waiting.{Waiting}
use Rattle.wasm_execution.specs.Run.{RunGives}
use Rattle.wasm_execution.specs.declared.running.Outcome.{Outcome}
use Rattle.wasm_execution.specs.declared.running.Outcome.TheVariants as outcome
use Rattle.syntax_trees.specs.declared.types.ValType.{ValType}
use Rattle.comp_graph.specs.declared.graph.CoreRef.{CoreRef}
use Rattle.comp_graph.specs.declared.graph.FuncRef.{FuncRef}
use Rattle.comp_graph.specs.declared.graph.FuncRef.TheVariants as func_ref
use Rattle.comp_graph.specs.declared.graph.CanonFunc.{CanonFunc}
use Rattle.comp_graph.specs.Graph.{Graph, Lifted}
use Rattle.script_reader.specs.Script.{Script}
use Rattle.trace_labels.specs.declared.label.Label.{Label}
use Rattle.trace_labels.specs.declared.trap.TrapName.{TrapName}
use Rattle.task_table.specs.declared.slot.TaskSlot.{TaskSlot}
use Rattle.world_parts.specs.declared.parts.Parts.{Parts}
use Rattle.world_parts.specs.declared.parts.Rest.TheVariants as rest
use Rattle.world_parts.specs.declared.parts.Stop.{Stop}
use Rattle.world_parts.specs.declared.parts.Stop.TheVariants as stop
use Rattle.world_parts.specs.Held.{Held, held, Done, Gives, Traps}
use Rattle.world_parts.specs.Feed.{at_rest}
use Rattle.world_stacks.specs.Addresses as kept_addresses
use Rattle.world_stacks.specs.Starting.{are_words, called_with, started, call_of}
use Rattle.world_stacks.specs.Names as names
use Rattle.world_stacks.specs.PostReturns as kept
use Rattle.world_stacks.specs.PostReturns.{Point, Runs, GoesOn, GoOn, Gone, EndsWith, Comes, NestedGives, PostReturns, BeginsNested, instance_at, NoRule}
use Rattle.abi_machine.specs.declared.run_end.RunEnd.{RunEnd}
use Rattle.abi_machine.specs.declared.run_end.RunEnd.TheVariants.{Fuel}
use Rattle.abi_machine.specs.Traps.{core_name}
use Rattle.abi_machine.specs.Control.{Control, Free, After, Finishes, HostedState, Going, AtCall, Nested, Behind, BeforeLeaving, Quiet, Leaves, Doomed}
use Rattle.abi_machine.specs.World.{Task, World}
use Rattle.abi_machine.specs.Edits.{with_control}
use Rattle.abi_machine.specs.Canons.{func_address, canon_at}
use Rattle.abi_machine.specs.Reading.{acting, func_of}
use Rattle.abi_machine.specs.Turn as turns
use Rattle.abi_machine.specs.Turn.{Turn, Steps, silent, behind}
use Rattle.abi_machine.specs.Returning.{post_return_call, post_return, finished}
use Rattle.abi_machine.specs.Nested.{nested_ended, calls_host}
use Rattle.abi_machine.specs.Next.{next}
use Rattle.abi_machine.proofs.sound.Found.{some_same}
use Rattle.standing.specs.Tasks.{TaskStands, RunsIn}
use Rattle.standing.specs.Stands.{Stands}
use Rattle.standing.specs.Reaching.{GoesTo, Meets, with_room}
use Rattle.standing.specs.Leading.{ComesBy, EndsBy}
use Rattle.standing.specs.Nested.{nested_at, NestedLeads}
use Rattle.standing.specs.InPlace.{CallAgrees, TurnsTo}
use Rattle.standing.specs.PostReturns.{IsAt, NestedGoOn, NestedComes, NestedCodeLeads, PostReturnsLead}
use Rattle.standing.proofs.Lists.{IsFound, found_both}
use Rattle.standing.proofs.Going.{acting_there}
use Rattle.standing.proofs.Reaching.{goes_none, goes_step, goes_then, meets_step, ends_behind}
use Rattle.standing.proofs.Nesting.{nested_runs_lead, calls_are_made}
use Rattle.standing.proofs.InPlace.{nested_calls_agree}
use Rattle.standing.proofs.Restacking.{other_way, room_stands}
use Rattle.standing.proofs.TaskRuns.{traps_alike}

-- What is come to behind steps.
pub comes_behind : (g : Graph) (values : List ValType) (s : Script) (u w : World) (before lines : List Label) (k : Held) (stacks : List (List Stack)) (P : World → Type 0)
    → GoesTo g s u lines w → ComesBy g values s w (before ++ lines) k stacks P → ComesBy g values s u before k stacks P
comes_behind g values s u w before lines k stacks P to c = record {
  lines = lines ++ c.lines;
  world = c.world;
  goes = goes_then g s u w c.world lines c.lines to c.goes;
  stands = c.stands;
  told = c.told ∙ append_assoc before lines c.lines;
  ends = c.ends;
}

pub ends_by_behind : (g : Graph) (values : List ValType) (s : Script) (u w : World) (before lines : List Label) (k : Held) (stacks : List (List Stack)) (end : RunEnd)
    → GoesTo g s u lines w → EndsBy g values s w (before ++ lines) k stacks end → EndsBy g values s u before k stacks end
ends_by_behind g values s u w before lines k stacks end to c = record {
  lines = lines ++ c.lines;
  last = c.last;
  runs = ends_behind g s u w c.last lines c.lines end to c.runs;
  stands = c.stands;
  told = c.told ∙ append_assoc before lines c.lines;
}

nested_behind : (g : Graph) (values : List ValType) (s : Script) (blame : ℕ) (u w : World) (before lines : List Label) (stacks : List (List Stack)) (result : Result (Unit {0}) Stop) (new : Parts)
    → GoesTo g s u lines w → NestedComes g values s blame w (before ++ lines) stacks result new → NestedComes g values s blame u before stacks result new
nested_behind g values s blame u w before lines stacks (Ok x) new to c = comes_behind g values s u w before lines (held new) stacks (λ v. v.control ≡ Leaves) to c
nested_behind g values s blame u w before lines stacks (Err (stop.Trap why)) new to c =
    comes_behind g values s u w before lines (held new) stacks (λ v. v.control ≡ Doomed blame why) to c
nested_behind g values s blame u w before lines stacks (Err stop.NoFuel) new to c = ends_by_behind g values s u w before lines (held new) stacks Fuel to c
nested_behind g values s blame u w before lines stacks (Err stop.Stuck) new to c = tt
nested_behind g values s blame u w before lines stacks (Err stop.Memory) new to c = tt

-- One run of nested code that stands.
module _ (g : Graph) (values : List ValType) (s : Script) (n : Nested) (b : Behind) (stacks : List (List Stack)) where
  abbrev at_stack : Stack → Nested
  at_stack k = record n { state = Going k }

  -- where a run of it leads
  pub record RunTo (x : Point) (w : World) (o : Outcome) (h : Held) : Type 0 where
    pub used : ℕ
    pub leads : NestedLeads g s w (at_stack x.stack) b o h.store used
    pub stands : (c : Control) → Stands g values s h stacks (with_room w h.store used c)

  pub run_to : (x : Point) (w : World) (o : Outcome) (h : Held) → IsAt g values s n b stacks x w → Runs x o h → RunTo x w o h
  run_to x w o h at runs =
      let before : w.units + x.held.left ≡ s.fuel = other_way x.held.left w.units s.fuel at.stands.fuel in
      let to = nested_runs_lead g s w (at_stack x.stack) b x.stack o runs.0 x.held.left runs.1 at.control refl before
      (subst (λ (a : Store). RunGives a x.stack x.held.left o runs.0 runs.1) at.stands.same_store runs.2) in
      let sum : runs.1 + to.0 ≡ s.fuel = other_way to.0 runs.1 s.fuel to.1 in
      subst (λ (k : Held). RunTo x w o k) (sym runs.3)
      (record { used = to.0; leads = to.2; stands = λ c. room_stands g values s x.held stacks w runs.0 runs.1 to.0 c sum at.stands })

  -- A call that is answered in place, or a trap.
  called_at : (x : Point) (w : World) (number : ℕ) (words : List ℕ) (waits : Waiting) (h : Held) → IsAt g values s n b stacks x w → Runs x (outcome.Calls number words waits) h
      → (v : World) × GoesTo g s w [] v × (h.labels ≡ x.held.labels)
      × CallAgrees g values s n b h.labels stacks (kept.answered_in_place g n.acts_for n.inst number words waits h) (next g s v)
  called_at x w number words waits h at runs =
      let to : RunTo x w (outcome.Calls number words waits) h = run_to x w (outcome.Calls number words waits) h at runs in
      let v : World = nested_at w n b (AtCall number words waits.stack) h.store to.used in
      let m : Nested = record n { state = AtCall number words waits.stack } in (
        v,
        to.leads,
        ap (λ (k : Held). k.labels) runs.3,
        subst (λ (turn : Turn). CallAgrees g values s n b h.labels stacks (kept.answered_in_place g n.acts_for n.inst number words waits h) turn)
            (sym (calls_are_made g s v m b number words waits.stack refl refl))
            (nested_calls_agree g values s h stacks (with_control Free v) m b number words waits (to.stands Free)),
      )

  goes_on : (x y : Point) (w : World) → IsAt g values s n b stacks x w → GoesOn g n.acts_for n.inst x y
      → ComesBy g values s w x.held.labels y.held stacks (λ v. v.control ≡ Quiet (at_stack y.stack) b)
  goes_on x y w at step =
      let to = called_at x w step.0 step.1 step.2 step.3 at step.4 in
      let c : CallAgrees g values s n b step.3.labels stacks (Gives y.stack y.held) (next g s to.0) =
      subst (λ (d : Done Stack). CallAgrees g values s n b step.3.labels stacks d (next g s to.0)) step.5 to.3 in
      record {
        lines = c.lines;
        world = with_control (Quiet (at_stack y.stack) b) c.world;
        goes = goes_then g s w to.0 (with_control (Quiet (at_stack y.stack) b) c.world) [] c.lines to.1
            (goes_step g s to.0 (with_control (Quiet (at_stack y.stack) b) c.world) c.lines c.is);
        stands = c.stands;
        told = c.told ∙ ap (λ (ls : List Label). ls ++ c.lines) to.2;
        ends = refl;
      }

  go_on : (count : ℕ) (x y : Point) (w : World) → IsAt g values s n b stacks x w → GoOn g n.acts_for n.inst count x y
      → ComesBy g values s w x.held.labels y.held stacks (λ v. v.control ≡ Quiet (at_stack y.stack) b)
  go_on zero x y w at e =
      subst (λ (p : Point). ComesBy g values s w x.held.labels p.held stacks (λ v. v.control ≡ Quiet (at_stack p.stack) b)) (sym e)
      (record { lines = []; world = w; goes = goes_none g s w; stands = at.stands; told = sym (append-nil x.held.labels); ends = at.control })
  go_on (suc count) x y w at calls =
      let first = go_on count x calls.0 w at calls.1 in
      let there : IsAt g values s n b stacks calls.0 first.world = record { control = first.ends; stands = first.stands } in
      comes_behind g values s w first.world x.held.labels first.lines y.held stacks (λ v. v.control ≡ Quiet (at_stack y.stack) b) first.goes
      (subst (λ (ls : List Label). ComesBy g values s first.world ls y.held stacks (λ v. v.control ≡ Quiet (at_stack y.stack) b)) first.told
      (goes_on calls.0 y first.world there calls.2))

pub nested_go_on : NestedGoOn
nested_go_on g values s n b stacks x y w at gone = go_on g values s n b stacks gone.count x y w at gone.calls

-- How a post-return ends.
module _ (g : Graph) (values : List ValType) (s : Script) (n : Nested) (stacks : List (List Stack)) where
  abbrev Comes_to : World → List Label → Result (Unit {0}) Stop → Parts → Type 0
  Comes_to w before result new = NestedComes g values s n.blame w before stacks result new

  refused : (w : World) (before : List Label) (d : Done Stack) (result : Result (Unit {0}) Stop) (new : Parts) → CallAgrees g values s n BeforeLeaving before stacks d (next g s w)
      → Comes d result new → Comes_to w before result new
  refused w before d (Ok x) new a c = absurd c
  refused w before d (Err (stop.Trap why)) new a c =
      let trapped : CallAgrees g values s n BeforeLeaving before stacks (let e : Done Stack = Traps why (held new) in e) (next g s w) =
      subst (λ (e : Done Stack). CallAgrees g values s n BeforeLeaving before stacks e (next g s w)) c a in
      record {
        lines = trapped.lines;
        world = with_control (Doomed n.blame why) trapped.world;
        goes = goes_step g s w (with_control (Doomed n.blame why) trapped.world) trapped.lines trapped.is;
        stands = trapped.stands;
        told = trapped.told;
        ends = refl;
      }
  refused w before d (Err stop.NoFuel) new a c =
      absurd (subst (λ (e : Done Stack). CallAgrees g values s n BeforeLeaving before stacks e (next g s w)) c a)
  refused w before d (Err stop.Stuck) new a c = tt
  refused w before d (Err stop.Memory) new a c = tt

  -- what is kept is what is said
  abbrev is_left : World → List Label → Held → Type 0
  is_left w before k = ComesBy g values s w before k stacks (λ v. v.control ≡ Leaves)

  ends : (x : Point) (w : World) (o : Outcome) (h : Held) (result : Result (Unit {0}) Stop) (new : Parts) → IsAt g values s n BeforeLeaving stacks x w → Runs x o h
      → EndsWith g n.acts_for n.inst o h result new → Comes_to w x.held.labels result new
  unfolding nested_ended
  ends x w (outcome.Done words) h result new at runs e =
      let to : RunTo g values s n BeforeLeaving stacks x w (outcome.Done words) h = run_to g values s n BeforeLeaving stacks x w (outcome.Done words) h at runs in
      let v : World = with_room w h.store to.used Leaves in
      subst (λ (r : Result (Unit {0}) Stop). Comes_to w x.held.labels r new) (sym e.0)
      (subst (λ (k : Held). is_left w x.held.labels k) (sym e.1)
      (record {
        lines = [];
        world = v;
        goes = meets_step g s w v [] [] to.leads;
        stands = to.stands Leaves;
        told = ap (λ (k : Held). k.labels) runs.3 ∙ sym (append-nil x.held.labels);
        ends = refl;
      }))
  ends x w (outcome.Calls number words waits) h result new at runs e =
      let to = called_at g values s n BeforeLeaving stacks x w number words waits h at runs in
      nested_behind g values s n.blame w to.0 x.held.labels [] stacks result new to.1
      (subst (λ (ls : List Label). Comes_to to.0 ls result new) (to.2 ∙ sym (append-nil x.held.labels))
      (refused to.0 h.labels (kept.answered_in_place g n.acts_for n.inst number words waits h) result new to.3 e))
  ends x w (outcome.Trapped why) h result new at runs e =
      let to : RunTo g values s n BeforeLeaving stacks x w (outcome.Trapped why) h = run_to g values s n BeforeLeaving stacks x w (outcome.Trapped why) h at runs in
      subst (λ (r : Result (Unit {0}) Stop). Comes_to w x.held.labels r new) (sym e.0)
      (subst (λ (k : Held). ComesBy g values s w x.held.labels k stacks (λ v. v.control ≡ Doomed n.blame (names.core_name why))) (sym e.1)
      (record {
        lines = [];
        world = with_room w h.store to.used (Doomed n.blame (core_name why));
        goes = to.leads;
        stands = to.stands (Doomed n.blame (core_name why));
        told = ap (λ (k : Held). k.labels) runs.3 ∙ sym (append-nil x.held.labels);
        ends = ap (Doomed n.blame) (traps_alike why);
      }))
  ends x w (outcome.NoFuel later) h result new at runs e =
      let to : RunTo g values s n BeforeLeaving stacks x w (outcome.NoFuel later) h = run_to g values s n BeforeLeaving stacks x w (outcome.NoFuel later) h at runs in
      subst (λ (r : Result (Unit {0}) Stop). Comes_to w x.held.labels r new) (sym e.0)
      (subst (λ (k : Held). EndsBy g values s w x.held.labels k stacks Fuel) (sym e.1)
      (record {
        lines = [];
        last = nested_at w n BeforeLeaving (Going later) h.store to.used;
        runs = to.leads;
        stands = to.stands (Quiet (record n { state = Going later }) BeforeLeaving);
        told = ap (λ (k : Held). k.labels) runs.3 ∙ sym (append-nil x.held.labels);
      }))
  ends x w outcome.Memory h result new at runs e = subst (λ (r : Result (Unit {0}) Stop). Comes_to w x.held.labels r new) (sym e) tt

  code_leads : (x : Point) (w : World) (result : Result (Unit {0}) Stop) (new : Parts) → IsAt g values s n BeforeLeaving stacks x w
      → kept.NestedEnds g n.acts_for n.inst x result new → Comes_to w x.held.labels result new
  code_leads x w result new at gives =
      let first = nested_go_on g values s n BeforeLeaving stacks x gives.0 w at gives.1 in
      let there : IsAt g values s n BeforeLeaving stacks gives.0 first.world = record { control = first.ends; stands = first.stands } in
      nested_behind g values s n.blame w first.world x.held.labels first.lines stacks result new first.goes
      (subst (λ (ls : List Label). Comes_to first.world ls result new) first.told
      (ends gives.0 first.world gives.2.0 gives.2.1 result new there gives.2.2 gives.2.3))

pub nested_code_leads : NestedCodeLeads
nested_code_leads g values s n stacks x w (Ok done) new at gives = code_leads g values s n stacks x w (Ok done) new at gives
nested_code_leads g values s n stacks x w (Err (stop.Trap why)) new at gives = code_leads g values s n stacks x w (Err (stop.Trap why)) new at gives
nested_code_leads g values s n stacks x w (Err stop.NoFuel) new at gives = code_leads g values s n stacks x w (Err stop.NoFuel) new at gives
nested_code_leads g values s n stacks x w (Err stop.Stuck) new at gives = tt
nested_code_leads g values s n stacks x w (Err stop.Memory) new at gives = tt

-- A call of a function of the store, as it is kept.
pub address_same : (store : Store) (func : FuncRef) → kept_addresses.func_address store func ≡ func_address store func
address_same store (func_ref.Instance f) = refl
address_same store (func_ref.Canon number) = refl

called_is : (fits : Bool) (f : Function) (address : ℕ) (words : List ℕ) (k : Stack) → (if fits then Some (start f address words) else None) ≡ Some k → start f address words ≡ k
called_is true f address words k e = some_same e
called_is false f address words k e = absurd (cc)

found_is : (o : Option Function) (address : ℕ) (words : List ℕ) (k : Stack) → called_with o address words ≡ Some k
    → (x : ℕ × Function) × (option_map (λ f. (address, f)) o ≡ Some x) × (start x.1 x.0 words ≡ k)
found_is None address words k e = absurd (cc)
found_is (Some f) address words k e = ((address, f), refl, called_is (are_words (type_of f).params words) f address words k e)

begun_is : (store : Store) (o : Option ℕ) (words : List ℕ) (k : Stack) → option_and_then (λ address. started store address words) o ≡ Some k
    → (x : ℕ × Function) × (found_at store.funcs o ≡ Some x) × (start x.1 x.0 words ≡ k)
begun_is store None words k e = absurd (cc)
begun_is store (Some address) words k e = found_is (slice_get store.funcs address) address words k e

call_is : (store : Store) (func : FuncRef) (words : List ℕ) (k : Stack) → call_of store func words ≡ Some k
    → (x : ℕ × Function) × (found_at store.funcs (func_address store func) ≡ Some x) × (start x.1 x.0 words ≡ k)
call_is store func words k e =
    begun_is store (func_address store func) words k
    (ap (λ (o : Option ℕ). option_and_then (λ address. started store address words) o) (sym (address_same store func)) ∙ e)

no_rule : (g : Graph) (values : List ValType) (s : Script) (t : ℕ) (u : World) (before : List Label) (stacks : List (List Stack)) (result : Result (Unit {0}) Stop) (new : Parts)
    → NoRule result → NestedComes g values s t u before stacks result new
no_rule g values s t u before stacks (Ok x) new n = absurd n
no_rule g values s t u before stacks (Err (stop.Trap why)) new n = absurd n
no_rule g values s t u before stacks (Err stop.NoFuel) new n = absurd n
no_rule g values s t u before stacks (Err stop.Stuck) new n = tt
no_rule g values s t u before stacks (Err stop.Memory) new n = tt

-- The task's post-return.
module _ (g : Graph) (values : List ValType) (s : Script) (h : Held) (stacks : List (List Stack)) (u w : World) (t : ℕ) (task : Task) (f : Lifted) (before lines ahead : List Label) (words : List ℕ)
    (acts : slice_get w.chain 0 ≡ Some t) (there : slice_get w.tasks t ≡ Some task) (func : func_of task.callee ≡ Some f) (st : Stands g values s h stacks w)
    (told : h.labels ≡ before ++ (lines ++ ahead)) where
  -- with the lines in front
  all_lines : lines ++ (ahead ++ []) ≡ lines ++ ahead
  all_lines = ap (λ (ls : List Label). lines ++ ls) (append-nil ahead)

  instance_is : instance_at t h ≡ Some f.instance
  instance_is =
      let x : IsFound (TaskStands g s) (slice_get h.tasks t) (slice_get w.tasks t) = found_both (TaskStands g s) h.tasks w.tasks t st.are_tasks (ap is_some there) in
      let same : x.right ≡ task = some_same (sym x.is_right ∙ there) in
      ap (λ (o : Option TaskSlot). option_map (λ (slot : TaskSlot). slot.instance) o) x.is_left
      ∙ ap (λ (n : ℕ). Some n) (subst (RunsIn x.left.instance) (ap (λ (a : Task). func_of a.callee) same ∙ func) x.alike.place)

  finish_is : (finished (Finishes words) w) ≡ post_return t f words f.options.post_return w
  unfolding finished
  finish_is =
      ap (λ (o : Option (ℕ × Task)). turns.given o (λ a. turns.given (func_of a.1.callee) (λ x. post_return a.0 x words x.options.post_return w))) (acting_there w t task acts there)
      ∙ ap (λ (o : Option Lifted). turns.given o (λ x. post_return t x words x.options.post_return w)) func

  begun : (ref : FuncRef) (call : Option Stack) (result : Result (Unit {0}) Stop) (new : Parts) → call_of h.store ref words ≡ call → Meets g s u lines (behind ahead (post_return t f words (Some ref) w))
      → BeginsNested g t (Some f.instance) call h result new → NestedComes g values s t u before stacks result new
  unfolding post_return
  begun ref None result new e m runs = no_rule g values s t u before stacks result new runs
  begun ref (Some k) result new e m runs =
      let x = call_is w.store ref words k (ap (λ (a : Store). call_of a ref words) (sym st.same_store) ∙ e) in
      let n : Nested = post_return_call t f words x.0 in
      let v : World = with_control (Quiet n BeforeLeaving) w in
      let to : GoesTo g s u (lines ++ ahead) v =
      subst (λ (ls : List Label). GoesTo g s u ls v) all_lines
      (meets_step g s u v lines (ahead ++ [])
      (subst (λ (o : Option (ℕ × Function)). Meets g s u lines (behind ahead (turns.given o (λ function. silent (Quiet (post_return_call t f words function) BeforeLeaving) w)))) x.1 m)) in
      let at : IsAt g values s n BeforeLeaving stacks (record { held = h; stack = k }) v =
      record { control = ap (λ (j : Stack). Quiet (record n { state = Going j }) BeforeLeaving) x.2; stands = st } in
      nested_behind g values s t u v before (lines ++ ahead) stacks result new to
      (subst (λ (ls : List Label). NestedComes g values s t v ls stacks result new) told
      (nested_code_leads g values s n stacks (record { held = h; stack = k }) v result new at runs))

  by_post : (post : Option FuncRef) (result : Result (Unit {0}) Stop) (new : Parts) → Meets g s u lines (behind ahead (post_return t f words post w)) → PostReturns g t post words h result new
      → NestedComes g values s t u before stacks result new
  unfolding post_return
  by_post None result new m runs =
      let v : World = with_control Leaves w in
      subst (λ (r : Result (Unit {0}) Stop). NestedComes g values s t u before stacks r new) (sym runs.0)
      (subst (λ (k : Held). ComesBy g values s u before k stacks (λ x. x.control ≡ Leaves)) (sym runs.1)
      (record {
        lines = lines ++ ahead;
        world = v;
        goes = subst (λ (ls : List Label). GoesTo g s u ls v) all_lines (meets_step g s u v lines (ahead ++ []) m);
        stands = st;
        told = told;
        ends = refl;
      }))
  by_post (Some ref) result new m runs =
      begun ref (call_of h.store ref words) result new refl m (subst (λ (o : Option ℕ). BeginsNested g t o (call_of h.store ref words) h result new) instance_is runs)

pub post_returns_lead : PostReturnsLead
post_returns_lead g values s h stacks u w t task f before lines ahead words result new acts there func st told m runs =
    by_post g values s h stacks u w t task f before lines ahead words acts there func st told f.options.post_return result new
    (subst (λ (turn : Turn). Meets g s u lines (behind ahead turn)) (finish_is g values s h stacks u w t task f before lines ahead words acts there func st told) m) runs

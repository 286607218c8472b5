-- A stack that is at a function of the host that runs alone calls without cost: it begins a task, of a component instance to which no call may come back
-- from then on, or runs a destructor in its own instance, behind a handle that left its table, or comes to its answer.
use Rattle.std.proofs.Common.{◌≡◌, ◌≤◌, ◌<◌, ◌∙◌, ℕ, zero, suc, ◌&&◌, Bool, not, nat_eq, List, [], ◌∷◌, drop, length, refl, ap, sym, subst, arith, Option, Some, None}
use Rattle.std.specs.Prelude.{slice_index}
use Rattle.std.specs.List.{slice_get}
use Rattle.wasm_store.specs.Store.{found_at}
use Rattle.wasm_store.specs.Stack.{Stack, Running, AtHost, Given}
use Rattle.wasm_store.specs.Step.{start}
use Rattle.syntax_trees.specs.declared.value.Value.{Value}
use Rattle.syntax_trees.specs.declared.value.Value.TheViews as value
use Rattle.res_handles.specs.declared.handle.Handle.{Handle}
use Rattle.res_handles.specs.declared.handle.Ownership.{Ownership}
use Rattle.res_handles.specs.declared.handle.Ownership.TheVariants.{Own, Borrow}
use Rattle.res_handles.specs.Refusals.{dropped_in}
use Rattle.comp_graph.specs.declared.graph.FuncRef.{FuncRef}
use Rattle.comp_graph.specs.declared.graph.Resource.{Resource}
use Rattle.comp_graph.specs.declared.graph.CanonFunc.{CanonFunc}
use Rattle.comp_graph.specs.declared.graph.CanonFunc.TheVariants as canon
use Rattle.comp_graph.specs.Graph.{Graph, Lifted}
use Rattle.script_reader.specs.Script.{Script}
use Rattle.trace_labels.specs.declared.label.BlockReason.TheVariants as reason
use Rattle.trace_labels.specs.declared.label.Label.TheVariants as line
use Rattle.trace_labels.specs.declared.trap.TrapName.TheVariants as trap
use Rattle.abi_machine.specs.Traps.{renamed, refusal_name}
use Rattle.abi_machine.specs.Control.{Starts, Free, Runs, Arrives}
use Rattle.abi_machine.specs.Control as control
use Rattle.abi_machine.specs.World.{Callee, Func, Destroys, Subtask, Caller, Nobody, Host, Guest, Acting, AfterCall, WaitsToEnter, Task, World}
use Rattle.abi_machine.specs.Edits.{changed_at, with_control, with_task, entry_removed, in_state, stacked, with_stack, caller_changed}
use Rattle.abi_machine.specs.Canons.{func_address, memory_of, bytes_of, canon_at, inst_of_canon, options_of_canon, builtin_of, lifted_of, resource_at, destructor_of, defines}
use Rattle.abi_machine.specs.Reading.{acting, func_of, is_reentrant, may_leave}
use Rattle.abi_machine.specs.Counting.{view_at}
use Rattle.abi_machine.specs.Gate.{may_arrive}
use Rattle.abi_machine.specs.Passing.{arguments_plan}
use Rattle.abi_machine.specs.Pausing.{entries_by}
use Rattle.abi_machine.specs.Turn.{doomed, blocked}
use Rattle.abi_machine.specs.CoreSteps.{moved, running_turn}
use Rattle.abi_machine.specs.Entering.{arguments_lowering, with_arguments, arguments_passed, arguments_turn, entered, arriving_turn}
use Rattle.abi_machine.specs.Calling.{called_by, begun, call_begun}
use Rattle.abi_machine.specs.Lowering.{started, lowered}
use Rattle.abi_machine.specs.replies.Context.{Exempt, exempt_of}
use Rattle.abi_machine.specs.replies.Resources.{destroyed_here, destroyed, dropped, resource_drop_turn}
use Rattle.abi_machine.specs.Reply.{reply, allowed, calling_turn}
use Rattle.abi_machine.proofs.sound.Found.{some_same, renamed_ok, acting_first, acting_is, dropped_free}
use Rattle.abi_machine.proofs.sound.Lists.{length_changed}
use Rattle.abi_machine.proofs.sound.known.Lifting.{arguments_keep}
use Rattle.reach_laws.proofs.free.Steps.{IsReached, ComesOn, Soon, goes_on, soon_doomed, soon_given, soon_found, soon_behind, soon_either, soon_unless, soon_refused, soon_came, soon_func}
use Rattle.reach_laws.proofs.free.Stacks.{IsHolding, hold_more, hold_twice, At, at_ready, at_task, at_state, at_stacked}
use Rattle.reach_laws.proofs.free.Targets.{targets, unused, with_one, IsTarget, canon_target, resource_target, target_less, IsAlike, caller_number, changed_alike, IsUsed, none_used, none_are, used_kept, not_used, used_called, all_live, entry_less}
use Rattle.reach_laws.proofs.free.Nested.{Stays, KeepsExempt, exempt_keeps, lowering_comes}
use Rattle.reach_laws.proofs.free.Scheduling.{ActionsCome}
use Rattle.reach_laws.proofs.free.Returning.{at_stays, back_comes, back_here, runs_come, replied_soon, blocked_soon}
use Rattle.reach_laws.proofs.free.Answers.{exempt_soon, builtin_soon}

caller_alike : (f : Subtask → Subtask) → ((x : Subtask) → (f x).by ≡ x.by) → (c : Caller) → caller_number (caller_changed f c) ≡ caller_number c
caller_alike f keeps Nobody = refl
caller_alike f keeps (Host call values) = refl
caller_alike f keeps (Guest subtask) = ap (λ (n : ℕ). Some n) (keeps subtask)

-- what stands where a list was changed
changed_now : {A : Type 0} (t : ℕ) (f : A → A) (xs : List A) (y : A) → slice_get (changed_at t f xs) t ≡ Some y → (x : A) × (y ≡ f x)
changed_now t f [] y e = cc
changed_now zero f (x ∷ xs) y e = (x, sym (some_same e))
changed_now (suc t) f (x ∷ xs) y e = changed_now t f xs y e

-- the first stack of a task that has a further one
new_top : (t : ℕ) (k : Stack) (tasks : List Task) (y : Task) → slice_get (changed_at t (λ task. record task { stacks = k ∷ task.stacks }) tasks) t ≡ Some y → slice_get y.stacks 0 ≡ Some k
new_top t k tasks y e = ap (λ (z : Task). slice_get z.stacks 0) (changed_now t (λ (task : Task). record task { stacks = k ∷ task.stacks }) tasks y e).1

module _ (g : Graph) (s : Script) (from : ℕ) (actions : ActionsCome g s from) where
  -- a world with this chain, whose first task may not call back to these instances
  abbrev pub Above : (ℕ → Bool) → List ℕ → World → Type 0
  Above used chain w = At g s from chain w × IsUsed used w.tasks chain

  above_task : (used : ℕ → Bool) (chain : List ℕ) (t : ℕ) (f : Task → Task) (w : World) → ((x : Task) → IsHolding from x → IsHolding from (f x)) → ((x : Task) → IsAlike x (f x)) → Above used chain w → Above used chain (with_task t f w)
  above_task used chain t f w keeps alike h =
      (at_task g s from chain t f w keeps h.0, used_kept used w.tasks (changed_at t f w.tasks) chain (length_changed t f w.tasks) (changed_alike t f w.tasks alike) h.1)

  above_stays : (used : ℕ → Bool) (chain : List ℕ) → Stays g s (Above used chain)
  above_stays used chain = record {
    ready = λ w h. at_ready g s from chain w h.0;
    controls = λ w control h. h;
    stores = λ w t h. h;
    tables = λ w i f h. h;
    words = λ w t slot word h. above_task used chain t _ w (λ x k. k) (λ x. (refl, refl)) h;
  }

  -- The worlds that are at a call, or at the entry of a task, or in which a stack has just begun come on, where no more than so many targets are left
  -- and so many entries live.
  abbrev CallsCome : ℕ → ℕ → Type 0
  CallsCome d e =
      (used : ℕ → Bool) (chain : List ℕ) (w : World) (number : ℕ) (words : List ℕ) → unused used (targets g) ≤ d → all_live w.insts ≤ e → Above used chain w
      → IsReached g s (with_control (control.Calls number words) w) → ComesOn g s (with_control (control.Calls number words) w)

  abbrev ArrivesCome : ℕ → Type 0
  ArrivesCome d = (used : ℕ → Bool) (chain : List ℕ) (w : World) → unused used (targets g) ≤ d → Above used chain w → IsReached g s (with_control Arrives w) → ComesOn g s (with_control Arrives w)

  abbrev FreshComes : ℕ → ℕ → Type 0
  FreshComes d e =
      (used : ℕ → Bool) (chain : List ℕ) (t : ℕ) (k : Stack) (w : World) → slice_get chain 0 ≡ Some t → unused used (targets g) ≤ d → all_live w.insts ≤ e → Above used chain w
      → IsReached g s (with_control Runs (stacked t k w)) → ComesOn g s (with_control Runs (stacked t k w))

  first_is : (chain : List ℕ) (w : World) (t : ℕ) (task : Task) → w.chain ≡ chain → acting w ≡ Some (t, task) → slice_get chain 0 ≡ Some t
  first_is chain w t task same acts = subst (λ (c : List ℕ). slice_get c 0 ≡ Some t) same (acting_first w (t, task) acts)

  -- A stack that has just begun.
  fresh_with : (d e : ℕ) → CallsCome d e → FreshComes d e
  unfolding running_turn moved
  fresh_with d e calls used chain t (Running f fs) w first few live h kept = runs_come g s from actions chain (stacked t (Running f fs) w) (at_stacked g s from chain t (Running f fs) w tt h.0) kept
  fresh_with d e calls used chain t (Given none) w first few live h kept = runs_come g s from actions chain (stacked t (Given none) w) (at_stacked g s from chain t (Given none) w tt h.0) kept
  fresh_with d e calls used chain t (AtHost address words) w first few live h kept =
      goes_on g s (with_control Runs u) kept (soon_given g s (acting u) _ (λ a acts.
      soon_found g s (slice_get a.1.stacks 0) (AtHost address words) _ (top a acts) (λ kept.
      calls used chain (with_stack a.0 (Given []) u) address words few live (subst (λ (n : ℕ). Above used chain (with_stack n (Given []) u)) (sym (same a acts)) above) kept)))
    where
      u : World
      u = stacked t (AtHost address words) w

      same : (a : ℕ × Task) → acting (stacked t (AtHost address words) w) ≡ Some a → a.0 ≡ t
      same a acts = some_same (sym (first_is chain (stacked t (AtHost address words) w) a.0 a.1 h.0.0 acts) ∙ first)

      top : (a : ℕ × Task) → acting (stacked t (AtHost address words) w) ≡ Some a → slice_get a.1.stacks 0 ≡ Some (AtHost address words)
      top a acts =
          let there : slice_get (stacked t (AtHost address words) w).tasks t ≡ Some a.1 =
          subst (λ (n : ℕ). slice_get (stacked t (AtHost address words) w).tasks n ≡ Some a.1) (same a acts) (acting_is (stacked t (AtHost address words) w) a acts) in
          new_top t (AtHost address words) w.tasks a.1 there

      above : Above used chain (with_stack t (Given []) (stacked t (AtHost address words) w))
      above =
          let push : Task → Task = λ task. record task { stacks = AtHost address words ∷ task.stacks } in
          let put : Task → Task = λ task. record task { stacks = Given [] ∷ drop 1 task.stacks } in
          let tasks : List Task = changed_at t push w.tasks in (
            (h.0.0, h.0.1, hold_twice from t put push (λ x i. ((tt, i.0), i.1)) w.tasks h.0.2),
            used_kept used tasks (changed_at t put tasks) chain (length_changed t put tasks) (changed_alike t put tasks (λ x. (refl, refl)))
                (used_kept used w.tasks tasks chain (length_changed t push w.tasks) (changed_alike t push w.tasks (λ x. (refl, refl))) h.1),
          )

  -- Between two calls: a task enters, and its core function starts with what its arguments were lowered to.
  module _ (d : ℕ) (calls : (e : ℕ) → CallsCome d e) where
    fresh : (used : ℕ → Bool) (chain : List ℕ) (t : ℕ) (k : Stack) (w : World) → slice_get chain 0 ≡ Some t → unused used (targets g) ≤ d → Above used chain w
        → IsReached g s (with_control Runs (stacked t k w)) → ComesOn g s (with_control Runs (stacked t k w))
    fresh used chain t k w first few h kept = fresh_with d (all_live w.insts) (calls (all_live w.insts)) used chain t k w first few (omega arith) h kept

    started_soon : (used : ℕ → Bool) (chain : List ℕ) → unused used (targets g) ≤ d → (w : World) (words : List ℕ) → Above used chain w → Soon g s (lowered Starts words w)
    unfolding lowered started
    started_soon used chain few w words h =
        soon_func g s w _ (λ t task f acts runs. soon_given g s (found_at w.store.funcs (func_address w.store f.core)) _ (λ function e kept.
        fresh used chain t (start function.1 function.0 words) w (first_is chain w t task h.0.0 acts) few h kept))

    arguments_soon : (used : ℕ → Bool) (chain : List ℕ) → unused used (targets g) ≤ d → (t : ℕ) (f : Lifted) (v : Value) (w : World) → Above used chain w → Soon g s (with_arguments g t f v w)
    unfolding with_arguments
    arguments_soon used chain few t f v w h = λ kept.
        lowering_comes g s (Above used chain) (above_stays used chain) (arguments_lowering w.store t f) (started_soon used chain few) (arguments_plan (entries_by (defines g f.instance)) f.func_type v) w h kept

    caller_soon : (used : ℕ → Bool) (chain : List ℕ) → unused used (targets g) ≤ d → (t : ℕ) (f : Lifted) (caller : Caller) (w : World) → Above used chain w → Soon g s (arguments_turn g t f caller w)
    unfolding arguments_turn arguments_passed
    caller_soon used chain few t f Nobody w h = tt
    caller_soon used chain few t f (Host call values) w h = arguments_soon used chain few t f (value.Record values) w h
    caller_soon used chain few t f (Guest subtask) w h =
        soon_given g s (canon_at g subtask.canon) _ (λ c e.
        soon_came g s (Above used chain) t (arguments_passed t f subtask c w) (λ v later. with_arguments g t f v later)
        (arguments_keep (Above used chain) (λ j index v stands k. k) (λ j index v stands k. k)
        (λ callee index v k. above_task used chain callee _ v (λ x i. i) (λ x. (refl, caller_alike _ (λ y. refl) x.caller)) k) (inst_of_canon c) t (options_of_canon c).is_async f.func_type
        (bytes_of w.store (memory_of w.store (options_of_canon c))) subtask.words w h) (λ v later k. arguments_soon used chain few t f v later k))

    pub entered_soon : (used : ℕ → Bool) (chain : List ℕ) → unused used (targets g) ≤ d → (t : ℕ) (task : Task) (f : Lifted) (w : World) → Above used chain w → Soon g s (entered g t task f w)
    unfolding entered
    entered_soon used chain few t task f w h =
        soon_behind g s (line.Enter t ∷ []) _ (caller_soon used chain few t f task.caller (in_state t Acting w) (above_task used chain t _ w (λ x k. (k.0, tt)) (λ x. (refl, refl)) h))

    arrives_with : ArrivesCome d
    unfolding arriving_turn
    arrives_with used chain w few h kept =
        let v : World = with_control Free w in
        goes_on g s (with_control Arrives w) kept
        (soon_func g s v _ (λ t task f acts runs. soon_either g s (may_arrive v f.instance task) (entered g t task f v) (blocked t WaitsToEnter reason.Entry v) (λ may. entered_soon used chain few t task f v h)
        (λ not. blocked_soon g s from chain (back_comes g s from actions (drop 1 chain)) t WaitsToEnter reason.Entry v tt h.0)))

  -- A call is a trap, or begins a task, and leaves fewer targets; a drop is one too, or leaves fewer entries; anything else comes to its answer.
  module _ (d e : ℕ) (arrives : (used : ℕ → Bool) (chain : List ℕ) (w : World) → suc (unused used (targets g)) ≤ d → Above used chain w → IsReached g s (with_control Arrives w) → ComesOn g s (with_control Arrives w))
      (fresh : (used : ℕ → Bool) (chain : List ℕ) (t : ℕ) (k : Stack) (w : World) → slice_get chain 0 ≡ Some t → unused used (targets g) ≤ d → all_live w.insts < e → Above used chain w
      → IsReached g s (with_control Runs (stacked t k w)) → ComesOn g s (with_control Runs (stacked t k w)))
      (used : ℕ → Bool) (chain : List ℕ) (few : unused used (targets g) ≤ d) where
    begun_soon : (t number : ℕ) (words : List ℕ) (callee : Callee) (f : Lifted) (passed : List ℕ) (w : World) → IsTarget g f.instance → func_of callee ≡ Some f → slice_get chain 0 ≡ Some t → Above used chain w
        → Soon g s (call_begun t number words callee f passed w)
    unfolding call_begun
    begun_soon t number words callee f passed w target runs first h =
        let sets : Task → Task = λ task. record task { state = AfterCall (length w.tasks) number words } in
        let tasks : List Task = changed_at t sets w.tasks in
        let subtask : Subtask = called_by t number passed in
        soon_unless g s t (is_reentrant w f.instance t) trap.Reentrant w _ (λ not kept.
        let fewer : suc (unused (with_one f.instance used) (targets g)) ≤ unused used (targets g) =
        target_less g f.instance used target (not_used used w t f.instance (subst (λ (c : List ℕ). slice_get c 0 ≡ Some t) (sym h.0.0) first) (subst (λ (c : List ℕ). IsUsed used w.tasks c) (sym h.0.0) h.1) not) in
        arrives (with_one f.instance used) (length w.tasks ∷ chain) (begun callee (Guest subtask) (in_state t (AfterCall (length w.tasks) number words) w)) (omega (arith, few, fewer)) (
          (
            ap (λ (n : ℕ). n ∷ w.chain) (length_changed t sets w.tasks) ∙ ap (λ (c : List ℕ). length w.tasks ∷ c) h.0.0,
            h.0.1,
            hold_more from tasks callee (Guest subtask) (at_state g s from chain t (AfterCall (length w.tasks) number words) w tt h.0).2,
          ),
          used_called used w.tasks tasks chain t callee f subtask runs refl first (length_changed t sets w.tasks) (changed_alike t sets w.tasks (λ x. (refl, refl))) h.1,
        ) kept)

    destroyed_soon : (t i number : ℕ) (words : List ℕ) (resource : ℕ) (r : Resource) (destructor : Option FuncRef) (rep : ℕ) (w : World) → IsTarget g r.instance → slice_get chain 0 ≡ Some t → all_live w.insts < e
        → Above used chain w → Soon g s (destroyed t i number words resource r destructor rep w)
    unfolding destroyed destroyed_here
    destroyed_soon t i number words resource r None rep w target first live h =
        soon_unless g s t (not (nat_eq r.instance i) && is_reentrant w r.instance t) trap.Reentrant w _ (λ k. replied_soon g s from chain (runs_come g s from actions chain) t [] w h.0)
    destroyed_soon t i number words resource r (Some ref) rep w target first live h =
        let f : Lifted = destructor_of r.instance ref in
        soon_either g s (nat_eq r.instance i) (destroyed_here t ref rep w) (call_begun t number words (Destroys resource f) f (rep ∷ []) w)
        (λ own. soon_given g s (found_at w.store.funcs (func_address w.store ref)) _ (λ function k kept. fresh used chain t (start function.1 function.0 (rep ∷ [])) w first few live h kept))
        (λ other. begun_soon t number words (Destroys resource f) f (rep ∷ []) w target refl first h)

    owned_soon : (t i number : ℕ) (words : List ℕ) (x : Handle) (o : Ownership) (w : World) → slice_get chain 0 ≡ Some t → all_live w.insts < e → Above used chain w → Soon g s (dropped g t i number words x o w)
    unfolding dropped
    owned_soon t i number words x (Borrow task) w first live h = replied_soon g s from chain (runs_come g s from actions chain) t [] w h.0
    owned_soon t i number words x Own w first live h =
        soon_given g s (resource_at g x.resource) _ (λ r k. destroyed_soon t i number words x.resource r r.destructor x.rep w (resource_target g x.resource r k) first live h)

    drop_soon : (t i number resource : ℕ) (words : List ℕ) (w : World) → slice_get chain 0 ≡ Some t → all_live w.insts ≤ e → Above used chain w → Soon g s (resource_drop_turn g t i number resource words w)
    unfolding resource_drop_turn
    drop_soon t i number resource words w first live h =
        let index : ℕ = slice_index words 0 in
        soon_refused g s t (renamed refusal_name (dropped_in (view_at w i index) resource)) w (λ x. dropped g t i number words x x.ownership (entry_removed i index w)) (λ x k.
        let stands = dropped_free w i index resource x (renamed_ok refusal_name (dropped_in (view_at w i index) resource) x k) in
        let fewer : all_live (entry_removed i index w).insts < all_live w.insts = entry_less w i index stands.0 stands.1 in
        owned_soon t i number words x x.ownership (entry_removed i index w) first (omega (arith, live, fewer)) h)

    reply_soon : (t : ℕ) (task : Task) (number : ℕ) (c : CanonFunc) (words : List ℕ) (w : World) → canon_at g number ≡ Some c → slice_get chain 0 ≡ Some t → all_live w.insts ≤ e → Above used chain w → Soon g s (reply g t task number c words w)
    unfolding reply
    reply_soon t task number (canon.Lower l) words w there first live h = begun_soon t number words (Func (lifted_of l)) (lifted_of l) words w (canon_target g number (canon.Lower l) there) refl first h
    reply_soon t task number (canon.Builtin b) words w there first live h =
        builtin_soon g s from chain (back_comes g s from actions (drop 1 chain)) (runs_come g s from actions chain) (back_here g s from chain (back_comes g s from actions (drop 1 chain)) actions) t task b.instance number b.kind
        words w (λ resource. drop_soon t b.instance number resource words w first live h) first h.0

    allowed_soon : (t : ℕ) (task : Task) (number : ℕ) (c : CanonFunc) (words : List ℕ) (o : Option Exempt) (w : World) → canon_at g number ≡ Some c → slice_get chain 0 ≡ Some t → all_live w.insts ≤ e → Above used chain w
        → KeepsExempt g s (At g s from chain) (at_stays g s from chain) w o → Soon g s (allowed g t task number c words o w)
    unfolding allowed
    allowed_soon t task number c words (Some exempt) w there first live h keeps = exempt_soon g s from chain (back_comes g s from actions (drop 1 chain)) (runs_come g s from actions chain) t (exempt w) w keeps
    allowed_soon t task number c words None w there first live h keeps =
        soon_either g s (may_leave w) (reply g t task number c words w) (doomed t trap.CannotLeave w) (λ may. reply_soon t task number c words w there first live h) (λ not. soon_doomed g s w t trap.CannotLeave)

    calls_with : (w : World) (number : ℕ) (words : List ℕ) → all_live w.insts ≤ e → Above used chain w → IsReached g s (with_control (control.Calls number words) w) → ComesOn g s (with_control (control.Calls number words) w)
    unfolding calling_turn
    calls_with w number words live h kept =
        let v : World = with_control Free w in
        goes_on g s (with_control (control.Calls number words) w) kept
        (soon_given g s (acting v) _ (λ a acts. soon_given g s (canon_at g number) _ (λ c there.
        soon_behind g s (line.Do a.0 (builtin_of c) words ∷ []) _
        (allowed_soon a.0 a.1 number c words (exempt_of a.0 words c) v there (first_is chain v a.0 a.1 h.0.0 acts) live h (exempt_keeps g s (At g s from chain) (at_stays g s from chain) a.0 words c v h.0)))))

  calls_at : (d : ℕ) → ((used : ℕ → Bool) (chain : List ℕ) (w : World) → suc (unused used (targets g)) ≤ d → Above used chain w → IsReached g s (with_control Arrives w) → ComesOn g s (with_control Arrives w)) → (e : ℕ) → CallsCome d e
  calls_at d arrives zero used chain w number words few live h kept =
      calls_with d zero arrives (λ used chain t k w first few less h kept. absurd (omega (arith, less))) used chain few w number words live h kept
  calls_at d arrives (suc e) used chain w number words few live h kept =
      calls_with d (suc e) arrives (λ used chain t k w first few less h kept. fresh_with d e (calls_at d arrives e) used chain t k w first few (omega (arith, less)) h kept) used chain few w number words live h kept

  calls_end : (d e : ℕ) → CallsCome d e
  calls_end zero = calls_at zero (λ used chain w few h kept. absurd (omega (arith, few)))
  calls_end (suc d) = calls_at (suc d) (λ used chain w few h kept. arrives_with d (calls_end d) used chain w (omega (arith, few)) h kept)

  -- Each call may be the next one.
  abbrev most : ℕ
  most = unused none_used (targets g)

  pub calls_come : (chain : List ℕ) (w : World) (number : ℕ) (words : List ℕ) → At g s from chain w → IsReached g s (with_control (control.Calls number words) w) → ComesOn g s (with_control (control.Calls number words) w)
  calls_come chain w number words h kept = calls_end most (all_live w.insts) none_used chain w number words (omega arith) (omega arith) (h, none_are w.tasks chain) kept

  pub arrives_come : (chain : List ℕ) (w : World) → At g s from chain w → IsReached g s (with_control Arrives w) → ComesOn g s (with_control Arrives w)
  arrives_come chain w h kept = arrives_with most (calls_end most) none_used chain w (omega arith) (h, none_are w.tasks chain) kept

  pub fresh_comes : (chain : List ℕ) (t : ℕ) (k : Stack) (w : World) → slice_get chain 0 ≡ Some t → At g s from chain w → IsReached g s (with_control Runs (stacked t k w)) → ComesOn g s (with_control Runs (stacked t k w))
  fresh_comes chain t k w first h kept = fresh most (calls_end most) none_used chain t k w first (omega arith) (h, none_are w.tasks chain) kept

  pub starts_soon : (chain : List ℕ) (w : World) (words : List ℕ) → At g s from chain w → Soon g s (lowered Starts words w)
  starts_soon chain w words h = started_soon most (calls_end most) none_used chain (omega arith) w words (h, none_are w.tasks chain)

  pub enters_soon : (chain : List ℕ) (t : ℕ) (task : Task) (f : Lifted) (w : World) → At g s from chain w → Soon g s (entered g t task f w)
  enters_soon chain t task f w h = entered_soon most (calls_end most) none_used chain (omega arith) t task f w (h, none_are w.tasks chain)

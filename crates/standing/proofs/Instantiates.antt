-- Task 0 makes the next thing of a graph's plan.
use Rattle.std.proofs.Common.{◌≡◌, ℕ, zero, suc, ◌+◌, ◌-◌, Bool, true, false, ◌&&◌, ◌||◌, nat_lt, is_some, if◌then◌else◌, List, [], ◌∷◌, ◌++◌, map, length, take, slice_set, refl, sym, ap, ◌∙◌, subst, append-nil, Option, Some, None}
use Rattle.std.specs.List.{slice_get}
use Rattle.std.specs.Option.{option_map}
use Rattle.syntax_trees.specs.declared.types.ValType.{ValType}
use Rattle.wasm_store.specs.Store.{Function, Instance, Store}
use Rattle.wasm_store.specs.Store as core_store
use Rattle.wasm_store.specs.Stack.{Stack}
use Rattle.wasm_store.specs.Step.{start}
use Rattle.wasm_store.specs.Instantiation.{External, Instantiation, instance_of, instantiated, start_call}
use Rattle.wasm_store.specs.Instantiation as core
use Rattle.wasm_store.specs.Matching.{imports_fit}
use Rattle.tasks.specs.declared.event.TaskEvent.TheVariants as event
use Rattle.tasks.specs.declared.phase.Caller as views
use Rattle.tasks.specs.declared.phase.Phase.TheVariants as phase
use Rattle.tasks.specs.Tasks.{may_happen, is_acting, is_nobody}
use Rattle.comp_graph.specs.declared.graph.Action.{Action}
use Rattle.comp_graph.specs.declared.graph.Action.TheVariants.{Begin, Make}
use Rattle.comp_graph.specs.Graph.{CoreMake, Graph}
use Rattle.script_reader.specs.Script.{Script}
use Rattle.trace_labels.specs.declared.label.Label.{Label}
use Rattle.trace_labels.specs.declared.trap.TrapName.TheVariants as trap
use Rattle.instances.specs.Instances.{new_instance}
use Rattle.task_table.specs.declared.errand.Errand.TheVariants as errand
use Rattle.task_table.specs.declared.slot.TaskSlot.{TaskSlot}
use Rattle.task_table.specs.Slots as slots
use Rattle.task_table.specs.Slots.{at_errand}
use Rattle.task_table.specs.Tasks.{without, unwatched}
use Rattle.world_parts.specs.declared.parts.Flow.TheVariants as flow
use Rattle.world_parts.specs.declared.parts.Rest.TheVariants as rest
use Rattle.world_parts.specs.Held as kept
use Rattle.world_parts.specs.Held.{Held, Done, Gives, Traps, after, given}
use Rattle.world_parts.specs.Feed.{at_rest, rest_behind, unchained, left_chain}
use Rattle.world_parts.specs.Slots.{with_task, happens, closed, errand_set}
use Rattle.world_stacks.specs.declared.host_call.HostCall.{HostCall}
use Rattle.world_stacks.specs.declared.top.Top.{Top}
use Rattle.world_stacks.specs.declared.top.Top.TheVariants as top
use Rattle.world_stacks.specs.Views.{PileView, stack_in, stacks_of}
use Rattle.world_stacks.specs.Piles.{stacked, stacked_on, at_pile, at_found}
use Rattle.world_stacks.specs.Starting.{are_words, called_with, started}
use Rattle.world_stacks.specs.Addresses as kept_addresses
use Rattle.world_stacks.specs.Instantiating as kept_plan
use Rattle.world_stacks.specs.Instantiating.{init_exits, begun, memory_kept, core_made, core_added, started_by, start_of, acted}
use Rattle.abi_machine.specs.Control.{Free, Instantiates, Runs}
use Rattle.abi_machine.specs.World.{Acting, Begins, Exited, Caller, Task, World}
use Rattle.abi_machine.specs.Edits as world
use Rattle.abi_machine.specs.Edits.{changed_at, with_store, in_state}
use Rattle.abi_machine.specs.Canons as machine_canons
use Rattle.abi_machine.specs.Canons.{flag_at}
use Rattle.abi_machine.specs.Counting.{phase_of, caller_view}
use Rattle.abi_machine.specs.Turn as turns
use Rattle.abi_machine.specs.Turn.{Turn, Steps, doomed, silent}
use Rattle.abi_machine.specs.Instantiating as machine
use Rattle.abi_machine.specs.Instantiating.{instantiating_turn}
use Rattle.abi_machine.proofs.sound.Found.{some_same}
use Rattle.standing.specs.Tasks.{errand_of, TaskStands}
use Rattle.standing.specs.Stands.{Stands}
use Rattle.standing.specs.Instantiates.{InitActs, ActionAgrees, ActionIsDone}
use Rattle.standing.proofs.Lists.{IsFound, found_both}
use Rattle.standing.proofs.Changes.{instances_begin, tasks_change, tasks_leave_the_chain, stores_change}
use Rattle.standing.proofs.Steps.{via, found, turn_found, if_true, errand_put}
use Rattle.standing.proofs.Blocking.{happens_when, some_acts}
use Rattle.standing.proofs.Leaving.{exit_stands}
use Rattle.standing.proofs.Restacking.{stacks_stand, set_changed}
use Rattle.standing.proofs.MadeInstances.{instance_made, call_at, start_is, externals_same}

-- What an action comes to and a turn, told by others.
action_as : (g : Graph) (values : List ValType) (s : Script) (before : List Label) (d e : Done (Unit {0} × List PileView)) (u v : Turn) → d ≡ e → u ≡ v
    → ActionAgrees g values s before e v → ActionAgrees g values s before d u
action_as g values s before d e u v same turn a =
    subst (λ (x : Done (Unit {0} × List PileView)). ActionAgrees g values s before x u) (sym same) (subst (λ (x : Turn). ActionAgrees g values s before e x) (sym turn) a)

-- No action is left.
or_true : (b : Bool) → (b || true) ≡ true
or_true true = refl
or_true false = refl

exits_with : (a b c : Bool) → a ≡ true → c ≡ true → (a && (b || c)) ≡ true
exits_with a b c x y = ap (λ (d : Bool). d && (b || c)) x ∙ ap (λ (d : Bool). b || d) y ∙ or_true b

-- task 0, as it is kept
record IsInit (g : Graph) (s : Script) (h : Held) (task : Task) : Type 0 where
  pub slot : TaskSlot
  pub is : slice_get h.tasks 0 ≡ Some slot
  pub alike : TaskStands g s slot task

module _ (g : Graph) (values : List ValType) (s : Script) (h : Held) (piles : List PileView) (w : World) (task : Task) (init : InitActs w task)
    (st : Stands g values s h (map stacks_of piles) w) where
  init_is : IsInit g s h task
  init_is =
      let one : IsFound (TaskStands g s) (slice_get h.tasks 0) (slice_get w.tasks 0) = found_both (TaskStands g s) h.tasks w.tasks 0 st.are_tasks (ap is_some init.there) in
      record { slot = one.left; is = one.is_left; alike = subst (λ (a : Task). TaskStands g s one.left a) (some_same (sym one.is_right ∙ init.there)) one.alike }

  abbrev exited : TaskSlot → Held
  exited x = with_task 0 (slots.with_task (record x.task { phase = phase.Exited }) x) h

  abbrev closed_behind : TaskSlot → Held
  closed_behind x = record (exited x) { live = without 0 h.live; watched = unwatched 0 h.watched }

  exits_so : (x : TaskSlot) → slice_get h.tasks 0 ≡ Some x → TaskStands g s x task
      → init_exits h ≡ Gives tt (at_rest rest.Free (at_rest (rest_behind (take (length h.chain - 1) h.chain)) (unchained (closed_behind x))))
  exits_so x is alike =
      let may : may_happen event.Exit x.task ≡ true =
      exits_with (is_acting x.task.phase) (is_some x.task.resolution) (is_nobody x.task.caller) (ap is_acting (alike.far ∙ ap (phase_of (flag_at g)) init.acts))
      (ap is_nobody (alike.seen ∙ ap (λ (c : Caller). caller_view c) init.alone)) in
      let some : nat_lt 0 (length h.chain) ≡ true = ap (λ (chain : List ℕ). nat_lt 0 (length chain)) st.same_chain ∙ some_acts w.chain 0 init.first in
      via _ _ _ _ (happens_when event.Exit x 0 h is may refl)
      ∙ via _ _ _ _ (if_true _ (Gives flow.Rests (at_rest (rest_behind (take (length h.chain - 1) h.chain)) (unchained (closed_behind x)))) kept.Stuck some)

  exits_stand : (x : TaskSlot) → slice_get h.tasks 0 ≡ Some x → TaskStands g s x task → Stands g values s (unchained (closed_behind x)) (map stacks_of piles) (world.unchained (in_state 0 Exited w))
  exits_stand x is alike =
      tasks_leave_the_chain g values s (exited x) (map stacks_of piles) (in_state 0 Exited w)
      (tasks_change g values s h (map stacks_of piles) w 0 x (slots.with_task (record x.task { phase = phase.Exited }) x) (λ a. record a { state = Exited }) is
      (λ a a_is now. exit_stands g s x a (alike.at ∙ ap errand_of init.acts) now) (λ a. refl) st)

  none_left : (n : ℕ) → ActionAgrees g values s h.labels (acted g n None piles h) (machine.action_turn g n None w)
  unfolding machine.action_turn
  none_left n =
      let x : TaskSlot = init_is.slot in
      let behind : Held = at_rest rest.Free (at_rest (rest_behind (take (length h.chain - 1) h.chain)) (unchained (closed_behind x))) in
      action_as g values s h.labels (acted g n None piles h) (Gives (tt, piles) behind) _ (silent Free (world.unchained (in_state 0 Exited w)))
      (via _ _ _ _ (exits_so x init_is.is init_is.alike)) refl
      (record { lines = []; world = world.unchained (in_state 0 Exited w); stands = exits_stand x init_is.is init_is.alike; told = sym (append-nil h.labels); ends = refl })

  -- A component instance begins.
  one_begins : (n number : ℕ) → ActionAgrees g values s h.labels (acted g n (Some (Begin number)) piles h) (machine.action_turn g n (Some (Begin number)) w)
  unfolding machine.action_turn
  one_begins n number =
      record { lines = []; world = world.instance_begun w; stands = instances_begin g values s h (map stacks_of piles) w st; told = sym (append-nil h.labels); ends = refl }

-- What is seen of items, where one is another, and at a place.
map_set : {A B : Type 0} (f : A → B) (xs : List A) (n : ℕ) (y : A) → slice_set (map f xs) n (f y) ≡ map f (slice_set xs n y)
map_set f [] n y = refl
map_set f (x ∷ xs) zero y = refl
map_set f (x ∷ xs) (suc n) y = ap (λ ys. f x ∷ ys) (map_set f xs n y)

map_at : {A B : Type 0} (f : A → B) (xs : List A) (n : ℕ) (x : A) → slice_get xs n ≡ Some x → slice_get (map f xs) n ≡ Some (f x)
map_at f [] n x e = absurd (cc)
map_at f (y ∷ xs) zero x e = let same : y ≡ x = cc in ap (λ z. Some (f z)) same
map_at f (y ∷ xs) (suc n) x e = map_at f xs n x e

-- A further stack of a task.
stacked_over : (k : Stack) (t : Top) (p : PileView) (r : Unit {0} × PileView) → p.top ≡ t → stacked_on t k p ≡ Some r → k ∷ stacks_of p ≡ stacks_of r.1
stacked_over k top.Empty p r is e =
    ap (λ (t : Top). k ∷ (stack_in t ++ map (λ (c : HostCall). c.waiting.stack) p.under)) is ∙ ap (λ (q : Unit {0} × PileView). stacks_of q.1) (some_same e)
stacked_over k (top.Waits c) p r is e =
    ap (λ (t : Top). k ∷ (stack_in t ++ map (λ (c : HostCall). c.waiting.stack) p.under)) is ∙ ap (λ (q : Unit {0} × PileView). stacks_of q.1) (some_same e)
stacked_over k (top.Goes other) p r is e = absurd (cc)

-- A start function begins, where one is there.
begins_stand : (g : Graph) (s : Script) (n : ℕ) (x : TaskSlot) (a : Task) → a.state ≡ Acting → TaskStands g s x a
    → TaskStands g s (at_errand (errand.Begins n) x) (record a { state = Begins n })
begins_stand g s n x a acts st = record {
  does = st.does;
  place = st.place;
  lifted = st.lifted;
  called = st.called;
  seen = st.seen;
  far = st.far ∙ ap (phase_of (flag_at g)) acts;
  at = refl;
  resolved = st.resolved;
  cancelled = st.cancelled;
  words = st.words;
  placed = tt;
}

module _ (g : Graph) (values : List ValType) (s : Script) (h : Held) (piles : List PileView) (w : World) (task : Task) (next : ℕ) (there : slice_get w.tasks 0 ≡ Some task)
    (acts : task.state ≡ Acting) (st : Stands g values s h (map stacks_of piles) w) where
  begins : (k : Stack) (x : TaskSlot) (p : PileView) (r : Unit {0} × PileView) → slice_get h.tasks 0 ≡ Some x → slice_get piles 0 ≡ Some p → stacked k p ≡ Some r
      → ActionAgrees g values s h.labels (Gives (r.0, slice_set piles 0 r.1) (at_rest rest.Runs (with_task 0 (at_errand (errand.Begins next) x) h)))
      (silent Runs (world.stacked 0 k (in_state 0 (Begins next) w)))
  begins k x p r is at e =
      let once : Stands g values s (with_task 0 (at_errand (errand.Begins next) x) h) (map stacks_of piles) (in_state 0 (Begins next) w) =
      tasks_change g values s h (map stacks_of piles) w 0 x (at_errand (errand.Begins next) x) (λ a. record a { state = Begins next }) is
      (λ a a_is now. begins_stand g s next x a (ap (λ (b : Task). b.state) (some_same (sym a_is ∙ there)) ∙ acts) now) (λ a. refl) st in
      let twice : Stands g values s (with_task 0 (at_errand (errand.Begins next) x) h) (changed_at 0 (λ (ks : List Stack). k ∷ ks) (map stacks_of piles))
      (world.stacked 0 k (in_state 0 (Begins next) w)) =
      stacks_stand g values s (with_task 0 (at_errand (errand.Begins next) x) h) (map stacks_of piles) (in_state 0 (Begins next) w) 0 (λ (ks : List Stack). k ∷ ks) once in
      let same : changed_at 0 (λ (ks : List Stack). k ∷ ks) (map stacks_of piles) ≡ map stacks_of (slice_set piles 0 r.1) =
      set_changed (map stacks_of piles) 0 (stacks_of p) (stacks_of r.1) (λ (ks : List Stack). k ∷ ks) (map_at stacks_of piles 0 p at) (stacked_over k p.top p r refl e)
      ∙ map_set stacks_of piles 0 r.1 in
      record {
        lines = [];
        world = world.stacked 0 k (in_state 0 (Begins next) w);
        stands = subst (λ (stacks : List (List Stack)). Stands g values s (with_task 0 (at_errand (errand.Begins next) x) h) stacks (world.stacked 0 k (in_state 0 (Begins next) w))) same twice;
        told = sym (append-nil h.labels);
        ends = refl;
      }

  -- what follows where its stack may begin
  abbrev starts : Stack → Option (Unit {0} × List PileView) → Done (Unit {0} × List PileView)
  starts k o = given o (λ r. after (errand_set 0 (errand.Begins next) h) (λ (done : Unit {0}) l. Gives r (at_rest rest.Runs l)))

  on_pile : (k : Stack) (x : TaskSlot) (p : PileView) (o : Option (Unit {0} × PileView)) → slice_get h.tasks 0 ≡ Some x → slice_get piles 0 ≡ Some p → stacked k p ≡ o
      → ActionAgrees g values s h.labels (starts k (at_found (λ q. o) 0 piles (Some p))) (silent Runs (world.stacked 0 k (in_state 0 (Begins next) w)))
  on_pile k x p None is at e = tt
  on_pile k x p (Some r) is at e =
      action_as g values s h.labels _ (Gives (r.0, slice_set piles 0 r.1) (at_rest rest.Runs (with_task 0 (at_errand (errand.Begins next) x) h))) _ _
      (via _ _ _ _ (errand_put 0 (errand.Begins next) h x is)) refl (begins k x p r is at e)

  on_piles : (k : Stack) (x : TaskSlot) (o : Option PileView) → slice_get h.tasks 0 ≡ Some x → slice_get piles 0 ≡ o
      → ActionAgrees g values s h.labels (starts k (at_found (stacked k) 0 piles o)) (silent Runs (world.stacked 0 k (in_state 0 (Begins next) w)))
  on_piles k x None is at = tt
  on_piles k x (Some p) is at = on_pile k x p (stacked k p) is at refl

  by_words : (f : Function) (address : ℕ) (x : TaskSlot) (b : Bool) → slice_get h.tasks 0 ≡ Some x
      → ActionAgrees g values s h.labels (given (if b then Some (start f address []) else None) (λ k. starts k (at_pile (stacked k) 0 piles)))
      (machine.started_up next (Some (start f address [])) w)
  unfolding machine.started_up
  by_words f address x true is = on_piles (start f address []) x (slice_get piles 0) is refl
  by_words f address x false is = tt

  by_function : (address : ℕ) (x : TaskSlot) (o : Option Function) → slice_get h.tasks 0 ≡ Some x
      → ActionAgrees g values s h.labels (given (called_with o address []) (λ k. starts k (at_pile (stacked k) 0 piles)))
      (machine.started_up next (option_map (λ (p : ℕ × Function). start p.1 p.0 []) (option_map (λ (f : Function). (address, f)) o)) w)
  by_function address x None is = tt
  by_function address x (Some f) is = by_words f address x (are_words (core_store.type_of f).params []) is

  pub starts_up : (x : TaskSlot) (o : Option ℕ) → slice_get h.tasks 0 ≡ Some x
      → ActionAgrees g values s h.labels (started_by next o piles h) (machine.started_up next (call_at h.store o) w)
  unfolding machine.started_up
  starts_up x None is = record { lines = []; world = w; stands = st; told = sym (append-nil h.labels); ends = refl }
  starts_up x (Some address) is = by_function address x (slice_get h.store.funcs address) is

-- A core instance is made.
module _ (g : Graph) (values : List ValType) (s : Script) (h : Held) (piles : List PileView) (w : World) (task : Task) (n : ℕ) (c : CoreMake) (imports : List External)
    (first : slice_get w.chain 0 ≡ Some 0) (there : slice_get w.tasks 0 ≡ Some task) (acts : task.state ≡ Acting) (st : Stands g values s h (map stacks_of piles) w) where
  abbrev behind_made : ℕ → Held → Done (Unit {0} × List PileView)
  behind_made number k = kept_plan.started_up (n + 1) c.of_module number piles k

  -- with its address of a memory
  abbrev kept_made : Store → Instance → Held
  kept_made t i = record h { store = t; memories = h.memories ++ slice_get i.memories 0 ∷ [] }

  by_made : (r : Instantiation) → instantiated c.of_module imports h.store ≡ r
      → ActionAgrees g values s h.labels (after (core_made r h) behind_made) (machine.made n c imports r w)
  unfolding machine.made
  by_made (core.SegmentBounds t) e =
      (map stacks_of piles, record { lines = []; world = with_store t w; stands = stores_change g values s h (map stacks_of piles) w t st; told = sym (append-nil h.labels); ends = (refl, first) })
  by_made (core.Makes t) e =
      let i : Instance = instance_of c.of_module imports h.store in
      let at : slice_get t.instances (length h.store.instances) ≡ Some i = instance_made c imports h.store t e in
      let x : IsFound (TaskStands g s) (slice_get h.tasks 0) (slice_get w.tasks 0) = found_both (TaskStands g s) h.tasks w.tasks 0 st.are_tasks (ap is_some there) in
      let now : Stands g values s (kept_made t i) (map stacks_of piles) (with_store t w) = stores_change g values s h (map stacks_of piles) w t st in
      action_as g values s h.labels (after (core_made (core.Makes t) h) behind_made) (started_by (n + 1) (start_of c.of_module i) piles (kept_made t i)) _
      (machine.started_up (n + 1) (call_at t (start_of c.of_module i)) (with_store t w))
      (ap (λ (o : Option Instance). after (after (given o (λ j. Gives tt (kept_made t j))) (λ (done : Unit {0}) k. Gives (length h.store.instances) k)) behind_made) at
      ∙ found (slice_get t.instances (length h.store.instances)) i (λ j. started_by (n + 1) (start_of c.of_module j) piles (kept_made t i)) at)
      (ap (λ (a : Store). machine.started_up (n + 1) (start_call c.of_module (instance_of c.of_module imports a) t) (with_store t w)) (sym st.same_store)
      ∙ ap (λ (k : Option Stack). machine.started_up (n + 1) k (with_store t w)) (start_is c i t))
      (starts_up g values s (kept_made t i) piles (with_store t w) task (n + 1) there acts now x.left (start_of c.of_module i) x.is_left)

  by_fitting : (b : Bool)
      → ActionAgrees g values s h.labels (after (if b then core_made (instantiated c.of_module imports h.store) h else kept.Stuck) behind_made)
      (machine.made n c imports (instantiated c.of_module imports w.store) w)
  by_fitting true =
      action_as g values s h.labels _ _ _ (machine.made n c imports (instantiated c.of_module imports h.store) w) refl
      (ap (λ (a : Store). machine.made n c imports (instantiated c.of_module imports a) w) (sym st.same_store)) (by_made (instantiated c.of_module imports h.store) refl)
  by_fitting false = tt

  pub core_is_made : ActionAgrees g values s h.labels (after (core_added c.of_module imports h) behind_made) (machine.made n c imports (instantiated c.of_module imports w.store) w)
  core_is_made = by_fitting (imports_fit h.store c.of_module.types c.of_module.imports imports)

by_imports : (g : Graph) (values : List ValType) (s : Script) (h : Held) (piles : List PileView) (w : World) (n : ℕ) (task : Task) (c : CoreMake) (o : Option (List External))
    → InitActs w task → Stands g values s h (map stacks_of piles) w
    → ActionAgrees g values s h.labels (given o (λ imports. after (core_added c.of_module imports h) (λ number k. kept_plan.started_up (n + 1) c.of_module number piles k)))
    (turns.given o (λ imports. machine.made n c imports (instantiated c.of_module imports w.store) w))
by_imports g values s h piles w n task c None init st = tt
by_imports g values s h piles w n task c (Some imports) init st = core_is_made g values s h piles w task n c imports init.first init.there init.acts st

by_core : (g : Graph) (values : List ValType) (s : Script) (h : Held) (piles : List PileView) (w : World) (n : ℕ) (task : Task) (o : Option CoreMake)
    → InitActs w task → Stands g values s h (map stacks_of piles) w
    → ActionAgrees g values s h.labels (given o (λ c. kept_plan.made (n + 1) c piles h))
    (turns.given o (λ c. turns.given (machine_canons.externals w.store c.imports) (λ imports. machine.made n c imports (instantiated c.of_module imports w.store) w)))
by_core g values s h piles w n task None init st = tt
by_core g values s h piles w n task (Some c) init st =
    action_as g values s h.labels (kept_plan.made (n + 1) c piles h) _ _
    (turns.given (kept_addresses.externals h.store c.imports) (λ imports. machine.made n c imports (instantiated c.of_module imports w.store) w)) refl
    (ap (λ (a : Store). turns.given (machine_canons.externals a c.imports) (λ imports. machine.made n c imports (instantiated c.of_module imports w.store) w)) (sym st.same_store)
    ∙ ap (λ (o : Option (List External)). turns.given o (λ imports. machine.made n c imports (instantiated c.of_module imports w.store) w)) (sym (externals_same h.store c.imports)))
    (by_imports g values s h piles w n task c (kept_addresses.externals h.store c.imports) init st)

by_action : (g : Graph) (values : List ValType) (s : Script) (h : Held) (piles : List PileView) (w : World) (n : ℕ) (task : Task) (o : Option Action) → InitActs w task
    → Stands g values s h (map stacks_of piles) w → ActionAgrees g values s h.labels (acted g n o piles h) (machine.action_turn g n o w)
unfolding machine.action_turn
by_action g values s h piles w n task None init st = none_left g values s h piles w task init st n
by_action g values s h piles w n task (Some (Begin number)) init st = one_begins g values s h piles w task init st n number
by_action g values s h piles w n task (Some (Make number)) init st = by_core g values s h piles w n task (slice_get g.cores number) init st

pub action_is_done : ActionIsDone
unfolding instantiating_turn
action_is_done g values s h piles w n task init st = by_action g values s h piles w n task (slice_get g.plan n) init st

-- Stacks and core instances stay typed where a graph is instantiated.
use Rattle.std.proofs.Common.{◌≡◌, ℕ, zero, suc, ◌+◌, true, List, [], ◌∷◌, ◌++◌, drop, length, refl, sym, ap, ◌∙◌, subst, append-nil, Option, Some, None}
use Rattle.std.specs.List.{slice_get}
use Rattle.wasm_typing.specs.Modules.{Typed}
use Rattle.wasm_store.specs.Store.{Store}
use Rattle.wasm_store.specs.Stack.{Stack}
use Rattle.wasm_store.specs.Instantiation.{External, Instantiation, Makes, allocated, instance_of, instantiated, start_call, ImportsMatch, InRange}
use Rattle.wasm_store.specs.Instantiation as core_instance
use Rattle.wasm_store.specs.Typed.{StoreTyped, Extends, StackTyped}
use Rattle.wasm_store.specs.Laws.{AddedTyped}
use Rattle.wasm_store.proofs.AddedModules.{Behind, adds_typed}
use Rattle.wasm_store.proofs.Lists.{all_at}
use Rattle.wasm_store.proofs.Zips.{get_behind}
use Rattle.comp_graph.specs.declared.graph.Action.{Action}
use Rattle.comp_graph.specs.declared.graph.Action.TheVariants.{Begin, Make}
use Rattle.comp_graph.specs.Graph.{CoreMake, Graph, HasImports, AreImported}
use Rattle.trace_labels.specs.declared.trap.TrapName.TheVariants as trap
use Rattle.abi_machine.specs.Control.{Control, Free, Instantiates, Runs, Doomed}
use Rattle.abi_machine.specs.World.{Callee, Init, TaskState, Acting, Begins, Exited, Task, World}
use Rattle.abi_machine.specs.Edits.{changed_at, with_control, with_store, instance_begun, unchained, in_state, stacked}
use Rattle.abi_machine.specs.Canons.{externals}
use Rattle.abi_machine.specs.Reading.{has_exited, is_instantiated}
use Rattle.abi_machine.specs.Turn.{Turn, Steps, Ends, Stuck, given}
use Rattle.abi_machine.specs.Instantiating.{started_up, made, action_turn, instantiating_turn}
use Rattle.abi_machine.specs.Next.{next_by}
use Rattle.abi_machine.specs.sound.Changes.{IsFirst}
use Rattle.abi_machine.specs.sound.Initial.{StartsNothing, InitRunsAlone}
use Rattle.abi_machine.specs.sound.Controls.{Says}
use Rattle.abi_machine.specs.sound.Acting.{outline_of, outlines_of, IsStarting, OneActs, ActsBy}
use Rattle.abi_machine.specs.sound.Owners as owners
use Rattle.abi_machine.specs.sound.MadeInstances.{IsTypedGraph, WereMade, WereMadeSoFar}
use Rattle.abi_machine.specs.sound.TypedStacks.{core_results, RunsTyped, StandsTyped, StandTyped, ActsTyped, IsTyped, InstantiationStaysTyped}
use Rattle.abi_machine.proofs.sound.Lists.{all_changed}
use Rattle.abi_machine.proofs.sound.Found.{some_same, changed_there}
use Rattle.abi_machine.proofs.sound.Outlines.{outline_there, is_what}
use Rattle.abi_machine.proofs.sound.own.Lists.{drop_next, LeavesWith}
use Rattle.abi_machine.proofs.sound.own.Belonging.{IsLike, made_like}
use Rattle.abi_machine.proofs.sound.acts.Keeping.{is_first}
use Rattle.abi_machine.proofs.sound.TypedMoves.{Ground, started_later, typed_by}
use Rattle.abi_machine.proofs.sound.typed.Imports.{ImportsAreThere, imports_match, imported_behind}
use Rattle.abi_machine.proofs.sound.typed.Made.{made_more, one_more, leaves_behind, hosts_more, canons_more}

drop_none : {A : Type 0} (xs : List A) (n : ℕ) → slice_get xs n ≡ None → drop n xs ≡ []
drop_none [] zero h = refl
drop_none [] (suc n) h = refl
drop_none (x ∷ xs) zero h = cc
drop_none (x ∷ xs) (suc n) h = drop_none xs n h

-- Task 0 acts alone, without a stack; no task runs a start function.
record IsInit (w : World) : Type 0 where
  chain : w.chain ≡ 0 ∷ []
  task : Task
  there : slice_get w.tasks 0 ≡ Some task
  callee : task.callee ≡ Init
  acts : task.state ≡ Acting
  bare : task.stacks ≡ []
  others : (n : ℕ) (x : Task) → slice_get w.tasks (suc n) ≡ Some x → StartsNothing x.state

not_yet : (tasks : List Task) (task : Task) → slice_get tasks 0 ≡ Some task → task.state ≡ Acting → is_instantiated tasks ≡ true → ⊥
not_yet [] task there acts e = cc
not_yet (x ∷ tasks) task there acts e =
    let is : has_exited Acting ≡ true = subst (λ (state : TaskState). has_exited state ≡ true) (ap (λ (y : Task). y.state) (some_same there) ∙ acts) e in cc

nothing_starts : (w : World) → IsInit w → (n : ℕ) (x : Task) → slice_get w.tasks n ≡ Some x → StartsNothing x.state
nothing_starts w a zero x e = subst StartsNothing (sym (ap (λ (y : Task). y.state) (some_same (sym e ∙ a.there)) ∙ a.acts)) tt
nothing_starts w a (suc n) x e = a.others n x e

stand_more : (g : Graph) (s t : Store) (tasks : List Task) → Extends s t → ((n : ℕ) (x : Task) → slice_get tasks n ≡ Some x → StartsNothing x.state) → StandTyped g s tasks → StandTyped g t tasks
stand_more g s t [] x nothing h = tt
stand_more g s t (task ∷ tasks) x nothing h = (started_later g s t task.state task x (nothing 0 task refl) h.0, stand_more g s t tasks x (λ n y e. nothing (suc n) y e) h.1)

-- a state of task 0 that says nothing of others
stand_set : (g : Graph) (s : Store) (tasks : List Task) (state : TaskState) → ((x : Task) → StandsTyped g s state x) → StandTyped g s tasks → StandTyped g s (changed_at 0 (λ task. record task { state = state }) tasks)
stand_set g s tasks state says h = all_changed (λ (x : Task). StandsTyped g s x.state x) 0 (λ task. record task { state = state }) tasks (λ x e k. says (record x { state = state })) h

begins_yet : (tasks : List Task) (n : ℕ) → is_instantiated (changed_at 0 (λ task. record task { state = Begins n }) tasks) ≡ true → ⊥
begins_yet [] n e = cc
begins_yet (x ∷ tasks) n e = cc

stacks_yet : (tasks : List Task) (k : Stack) → (is_instantiated tasks ≡ true → ⊥) → is_instantiated (changed_at 0 (λ task. record task { stacks = k ∷ task.stacks }) tasks) ≡ true → ⊥
stacks_yet [] k not e = not e
stacks_yet (x ∷ tasks) k not e = not e

module _ (g : Graph) where
  abbrev Good : Turn → Type 0
  Good (Steps labels v) = IsTyped g v
  Good (Ends end) = Unit {0}
  Good Stuck = Unit {0}

  found_good : {A : Type 0} (o : Option A) (x : A) (f : A → Turn) → o ≡ Some x → Good (f x) → Good (given o f)
  found_good o x f e h = subst (λ (p : Option _). Good (given p f)) (sym e) h

  -- A core instance is made.

  start_good : (n : ℕ) (o : Option Stack) (w : World) → IsInit w → Ground g w.store w.tasks → WereMadeSoFar g w.store n → ((k : Stack) → o ≡ Some k → StackTyped w.store [] k) → Good (started_up n o w)
  unfolding started_up
  start_good n None w a h so typed = typed_by g (with_control (Instantiates n) w) h so
  start_good n (Some k) w a h so typed =
      let begins : Task → Task = λ task. record task { state = Begins n } in
      let stacks : Task → Task = λ task. record task { stacks = k ∷ task.stacks } in
      let tasks : List Task = changed_at 0 begins w.tasks in
      let now : slice_get tasks 0 ≡ Some (begins a.task) = changed_there 0 begins w.tasks a.task a.there in
      let top : StackTyped w.store (core_results a.task.callee) k = subst (λ (c : Callee). StackTyped w.store (core_results c) k) (sym a.callee) (typed k refl) in
      let alone : RunsTyped w.store (record a.task { state = Begins n; stacks = k ∷ [] }) = (top, tt) in
      typed_by g (with_control Runs (stacked 0 k (in_state 0 (Begins n) w)))
      (record {
        store = h.store;
        canons = h.canons;
        hosts = h.hosts;
        made = λ e. absurd (stacks_yet tasks k (begins_yet w.tasks n) e);
        stand = all_changed (λ (x : Task). StandsTyped g w.store x.state x) 0 stacks tasks (λ x e l. subst (λ (state : TaskState). StandsTyped g w.store state (stacks x)) (sym (ap (λ (y : Task). y.state) (some_same (sym e ∙ now)))) so) (stand_set g w.store w.tasks (Begins n) (λ x. so) h.stand);
      }) (
        0,
        ap (λ (l : List ℕ). slice_get l 0) a.chain,
        (
          stacks (begins a.task),
          changed_there 0 stacks tasks (begins a.task) now,
          subst (λ (under : List Stack). RunsTyped w.store (record a.task { state = Begins n; stacks = k ∷ under })) (sym a.bare) alone,
        ),
      )

  ground_more : (c : CoreMake) (imports : List External) (w : World) (t : Store) → IsInit w → Ground g w.store w.tasks → Extends w.store t → StoreTyped t → IsLike (allocated c.of_module imports w.store) t → Ground g t w.tasks
  ground_more c imports w t a h x st like = record {
    store = st;
    canons = canons_more g w.store t c.of_module imports like.0 h.canons;
    hosts = hosts_more g w.store t c.of_module imports like.0 h.hosts;
    made = λ e. absurd (not_yet w.tasks a.task a.there a.acts e);
    stand = stand_more g w.store t w.tasks x (nothing_starts w a) h.stand;
  }

  core_good : (n : ℕ) (c : CoreMake) (imports : List External) (cores : List CoreMake) (r : Instantiation) (w : World) → IsInit w → Ground g w.store w.tasks → (so : WereMadeSoFar g w.store n)
      → so.after ≡ c ∷ cores → owners.Makes (suc (length so.before)) (drop (n + 1) g.plan) cores → Typed c.of_module → ImportsMatch w.store c.of_module imports
      → AddedTyped w.store c.of_module imports r → LeavesWith (IsLike (allocated c.of_module imports w.store)) r → LeavesWith (Behind (allocated c.of_module imports w.store)) r → Good (made n c imports r w)
  unfolding made
  core_good n c imports cores (core_instance.SegmentBounds t) w a h so e left valid match added like behind =
      typed_by g (with_control (Doomed 0 trap.SegmentBounds) (with_store t w)) (ground_more c imports w t a h added.0 added.1 like) tt
  core_good n c imports cores (Makes t) w a h so e left valid match added like behind =
      start_good (n + 1) (start_call c.of_module (instance_of c.of_module imports w.store) t) (with_store t w)
      (record { chain = a.chain; task = a.task; there = a.there; callee = a.callee; acts = a.acts; bare = a.bare; others = a.others })
      (ground_more c imports w t a h added.0 added.1 like)
      (one_more g w.store t n c cores so e (made_more w.store t c imports so.before valid match so.made added.0 behind.0 like.1) left) added.3

  -- The next one is the graph's of its number.
  making_good : IsTypedGraph g → (n number : ℕ) (w : World) → IsInit w → Ground g w.store w.tasks → (so : WereMadeSoFar g w.store n) (after : List CoreMake) → so.after ≡ after
      → owners.Makes (length so.before) (Make number ∷ drop (n + 1) g.plan) after → Good (action_turn g n (Some (Make number)) w)
  unfolding action_turn
  making_good sound n number w a h so [] e left = absurd left
  making_good sound n number w a h so (c ∷ cores) e left =
      let all : g.cores ≡ so.before ++ c ∷ cores = so.cores_are ∙ ap (λ (cs : List CoreMake). so.before ++ cs) e in
      let at : slice_get g.cores (length so.before) ≡ Some c = ap (λ (cs : List CoreMake). slice_get cs (length so.before)) all ∙ get_behind so.before c cores in
      let there : slice_get g.cores number ≡ Some c = ap (λ (i : ℕ). slice_get g.cores i) left.0 ∙ at in
      let typed : Typed c.of_module = all_at (λ (c : CoreMake). Typed c.of_module) g.cores (length so.before) c sound.valid at in
      let range : InRange c.of_module = all_at (λ (c : CoreMake). InRange c.of_module) g.cores (length so.before) c sound.in_range at in
      let imported : HasImports so.before g.canons c = imported_behind g.canons [] so.before cores c (subst (AreImported g.canons []) all sound.imported) in
      let is : ImportsAreThere w.store c = imports_match w.store g.canons so.before c h.canons imported so.made in
      found_good (slice_get g.cores number) c _ there
      (found_good (externals w.store c.imports) is.0 _ is.1
      (core_good n c is.0 cores (instantiated c.of_module is.0 w.store) w a h so e left.1 typed is.2 (adds_typed w.store c.of_module is.0 h.store typed range is.2) (made_like c is.0 w.store)
      (leaves_behind w.store c.of_module is.0 h.store typed range is.2)))

  -- the end of the plan
  planned_good : (w : World) → IsInit w → Ground g w.store w.tasks → WereMade w.store g.cores → IsTyped g (with_control Free (unchained (in_state 0 Exited w)))
  planned_good w a h made =
      typed_by g (with_control Free (unchained (in_state 0 Exited w)))
      (record { store = h.store; canons = h.canons; hosts = h.hosts; made = λ e. made; stand = stand_set g w.store w.tasks Exited (λ x. tt) h.stand }) tt

  instantiating_good : IsTypedGraph g → (n : ℕ) (w : World) → IsInit w → Ground g w.store w.tasks → WereMadeSoFar g w.store n → Good (instantiating_turn g n w)
  unfolding instantiating_turn action_turn
  instantiating_good sound n w a h so = by (slice_get g.plan n) refl
    where
      by : (o : Option Action) → slice_get g.plan n ≡ o → Good (action_turn g n o w)
      by None e =
          let none : so.after ≡ [] = subst (λ (actions : List Action). owners.Makes (length so.before) actions so.after) (drop_none g.plan n e) so.left in
          let all : g.cores ≡ so.before = so.cores_are ∙ (ap (λ (cs : List CoreMake). so.before ++ cs) none ∙ append-nil so.before) in
          planned_good w a h (subst (WereMade w.store) (sym all) so.made)
      by (Some (Begin instance)) e =
          let left : owners.Makes (length so.before) (Begin instance ∷ drop (n + 1) g.plan) so.after = subst (λ (actions : List Action). owners.Makes (length so.before) actions so.after) (drop_next g.plan n (Begin instance) e) so.left in
          typed_by g (with_control (Instantiates (n + 1)) (instance_begun w)) (record { store = h.store; canons = h.canons; hosts = h.hosts; made = h.made; stand = h.stand })
          (record { before = so.before; after = so.after; cores_are = so.cores_are; made = so.made; left = left })
      by (Some (Make number)) e =
          making_good sound n number w a h so so.after refl
          (subst (λ (actions : List Action). owners.Makes (length so.before) actions so.after) (drop_next g.plan n (Make number) e) so.left)

init_is : (w : World) → InitRunsAlone w.tasks w.chain → w.chain ≡ 0 ∷ [] → OneActs IsStarting (outlines_of w.tasks) w.chain → IsInit w
init_is w h one o =
    let first : IsFirst 0 w.chain = ap (λ (l : List ℕ). slice_get l 0) one in
    let starting : IsStarting (outline_of h.init) = is_what IsStarting 0 w (outline_of h.init) (is_first IsStarting w 0 first o) (outline_there w.tasks 0 h.init h.there) in
    record { chain = one; task = h.init; there = h.there; callee = h.instantiates; acts = starting.0; bare = starting.1; others = h.others }

pub instantiation_stays_typed : InstantiationStaysTyped
instantiation_stays_typed g s w v labels n sound instantiates alone o h e =
    let free : World = with_control Free w in
    let one : w.chain ≡ 0 ∷ [] = subst (λ (c : Control). Says c w.chain) instantiates alone.1 in
    let ordered : OneActs IsStarting (outlines_of w.tasks) w.chain = subst (λ (c : Control). ActsBy c (outlines_of w.tasks) w.chain) instantiates o.2 in
    let so : WereMadeSoFar g w.store n = subst (λ (c : Control). ActsTyped g c w.store w.tasks w.chain) instantiates h.acts in
    let init : IsInit free = init_is free alone.0 one ordered in
    subst (Good g) (ap (next_by g s free) (sym instantiates) ∙ e)
    (instantiating_good g sound n free init (record { store = h.store; canons = h.canons; hosts = h.hosts; made = h.made; stand = h.stand }) so)

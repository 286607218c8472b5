-- While a graph is instantiated each step leaves a store that extends the one before, with memories of bytes, and a world that is bare: it is typed where
-- all is instantiated.
use Rattle.std.proofs.Common.{◌≡◌, ◌∙◌, ◌<◌, ◌^◌, ◌⊎◌, inl, inr, ◌+◌, ℕ, zero, suc, true, false, List, [], ◌∷◌, length, refl, sym, ap, subst, arith, Option, Some, None}
use Rattle.std.specs.List.{slice_get, AllByRecursion}
use Rattle.wasm_typing.specs.Modules.{Typed}
use Rattle.wasm_store.specs.Store.{Store}
use Rattle.wasm_store.specs.Stack.{Stack}
use Rattle.wasm_store.specs.Instantiation.{External, InRange, Instantiation, Makes, SegmentBounds as TooFar, ImportsMatch, instantiated, instance_of, start_call}
use Rattle.wasm_store.proofs.AddedModules.{adds_typed}
use Rattle.wasm_store.proofs.Lists.{all_at}
use Rattle.wasm_store.proofs.Stores.{store_same}
use Rattle.handle_table.specs.History.{Event}
use Rattle.comp_graph.specs.declared.graph.Action.{Action}
use Rattle.comp_graph.specs.declared.graph.Action.TheVariants.{Begin, Make}
use Rattle.comp_graph.specs.Graph.{CoreMake, Graph}
use Rattle.script_reader.specs.Script.{Script}
use Rattle.trace_labels.specs.declared.label.Label.{Label}
use Rattle.lowering_laws.specs.StoreBytes.{HasBytesAlone, HasBytes}
use Rattle.lowering_laws.proofs.Segments.{LeavesWith}
use Rattle.abi_machine.specs.Control.{Control, Free, Chosen, Instantiates, Runs, Calls, Arrives, Lowers, Quiet, Back, Goes, Resumes, Delivers, Leaves as LeavesNow, Doomed}
use Rattle.abi_machine.specs.World.{Inst, Init, Caller, TaskState, New, Acting, AfterCall, AfterCancel, Begins, WaitsToEnter, InLoop, InBuiltin, Exited, Task, World, new_inst}
use Rattle.abi_machine.specs.Edits.{changed_at, with_control, with_store, in_state}
use Rattle.abi_machine.specs.Canons.{externals}
use Rattle.abi_machine.specs.Reading.{func_of, has_exited, is_instantiated}
use Rattle.abi_machine.specs.Turn.{Steps}
use Rattle.abi_machine.specs.Next.{next, next_by}
use Rattle.abi_machine.specs.Instantiating.{started_up, made, action_turn, instantiating_turn}
use Rattle.abi_machine.specs.sound.Acting.{outlines_of, IsRunning, OneActs, ActsBy, IsOrdered}
use Rattle.abi_machine.specs.sound.Copies.{IsCopied}
use Rattle.abi_machine.specs.sound.CopyPlaces.{CopiesStandInside}
use Rattle.abi_machine.specs.sound.Firsts.{FirstIs}
use Rattle.abi_machine.specs.sound.Initial.{RunsAlone}
use Rattle.abi_machine.specs.sound.MadeInstances.{IsTypedGraph}
use Rattle.abi_machine.specs.sound.Numbers.{IsCalledAs, IsNumbered}
use Rattle.abi_machine.specs.sound.Planned.{EventHasRep, HaveReps}
use Rattle.abi_machine.specs.sound.Starting.{IsDoomed}
use Rattle.abi_machine.specs.sound.TypedStacks.{CallsTyped, RunsTyped, StandsTyped, ActsTyped, IsOfStack, IsTyped}
use Rattle.abi_machine.specs.sound.TypedWorlds.{WaitsSo, IsFair, IsGiven, HasResult, IsTypedTask, Acts, pending_of, IsTypedWorld}
use Rattle.abi_machine.proofs.sound.Lists.{all_as, all_changed, all_more, length_changed}
use Rattle.abi_machine.proofs.sound.Found.{some_same}
use Rattle.abi_machine.proofs.sound.TypedMoves.{Ground}
use Rattle.abi_machine.proofs.sound.typed.Bare.{Fits, IsEmpty, IsBare, StaysBare, Left, running_left, AnswersTyped, calling_left}
use Rattle.abi_machine.proofs.sound.typed.Going.{instances_are_makeable}
use Rattle.reach_laws.proofs.Leaving.{Leaves, given_leaves}
use Rattle.reach_laws.proofs.StartStores.{instance_on}
use Rattle.reach_laws.proofs.growing.Stores.{IsOn, Grown}
use Rattle.reach_laws.proofs.growing.Moving.{running_grows}
use Rattle.reach_laws.proofs.growing.Answering.{calling_grows}

-- What comes next while all is made, or where all was made just now.
abbrev pub IsEarly : Control → Type 0
IsEarly Free = Unit {0}
IsEarly (Instantiates n) = Unit {0}
IsEarly Runs = Unit {0}
IsEarly (Calls number words) = Unit {0}
IsEarly control = ⊥

abbrev pub EarlyBare : World → Type 0
EarlyBare v = IsDoomed v.control ⊎ (IsEarly v.control × IsBare v)

-- what a step leaves
abbrev pub Begun : Store → World → Type 0
Begun s v = Grown s v × EarlyBare v

-- Core instances are made.

task_so : (w : World) (t : ℕ) (f : Task → Task) → ((x : Task) → (f x).context ≡ x.context) → IsBare w → IsBare (record w { tasks = changed_at t f w.tasks })
task_so w t f same h = (
  all_changed Fits t f w.tasks (λ x e p. subst (λ (c : ℕ × ℕ). (c.0 < 2 ^ 32) × (c.1 < 2 ^ 32)) (sym (same x)) p) h.0,
  h.1,
  length_changed t f w.tasks ∙ h.2,
)

module _ (s : Store) where
  started_begun : (n : ℕ) (o : Option Stack) (w : World) → IsOn s w.store → IsBare w → Leaves (Begun s) (started_up n o w)
  unfolding started_up
  started_begun n None w on h = ((on, tt), inr (tt, h))
  started_begun n (Some k) w on h =
      ((on, tt), inr (tt, task_so (in_state 0 (Begins n) w) 0 (λ task. record task { stacks = k ∷ task.stacks }) (λ x. refl) (task_so w 0 (λ task. record task { state = Begins n }) (λ x. refl) h)))

  made_begun : (n : ℕ) (c : CoreMake) (imports : List External) (r : Instantiation) (w : World) → LeavesWith (IsOn s) r → IsBare w → Leaves (Begun s) (made n c imports r w)
  unfolding made
  made_begun n c imports (TooFar t) w on h = ((on, tt), inl tt)
  made_begun n c imports (Makes t) w on h = started_begun (n + 1) (start_call c.of_module (instance_of c.of_module imports w.store) t) (with_store t w) on h

module _ (g : Graph) (sound : IsTypedGraph g) (segments_are : AllByRecursion (λ c. HasBytes c.of_module) g.cores) (w : World) (n : ℕ) (is : w.control ≡ Instantiates n) (typed : IsTyped g w) (bytes : HasBytesAlone w.store) (bare : IsBare w) where
  making_begun : (number : ℕ) → slice_get g.plan n ≡ Some (Make number) → Leaves (Begun w.store) (action_turn g n (Some (Make number)) (with_control Free w))
  unfolding action_turn
  making_begun number at =
      let m = instances_are_makeable g w n number sound is typed at in
      given_leaves (Begun w.store) (slice_get g.cores number) _ (λ c e. given_leaves (Begun w.store) (externals w.store c.imports) _ (λ imports i.
      (let same : m.0 ≡ c = some_same (sym m.1 ∙ e) in
      let match : ImportsMatch w.store c.of_module imports =
      subst (λ (x : CoreMake). (all : List External) → externals w.store x.imports ≡ Some all → ImportsMatch w.store x.of_module all) same
      (λ all k. subst (ImportsMatch w.store m.0.of_module) (some_same (sym m.2.1 ∙ k)) m.2.2) imports i in
      let valid : Typed c.of_module = all_at (λ (x : CoreMake). Typed x.of_module) g.cores number c sound.valid e in
      let range : InRange c.of_module = all_at (λ (x : CoreMake). InRange x.of_module) g.cores number c sound.in_range e in
      let segments : HasBytes c.of_module = all_at (λ (x : CoreMake). HasBytes x.of_module) g.cores number c segments_are e in
      made_begun w.store n c imports (instantiated c.of_module imports w.store) (with_control Free w)
      (instance_on w.store c.of_module imports bytes segments (adds_typed w.store c.of_module imports typed.store valid range match)) bare)))

  plan_begun : Leaves (Begun w.store) (instantiating_turn g n (with_control Free w))
  unfolding instantiating_turn action_turn
  plan_begun = by (slice_get g.plan n) refl
    where
      on : IsOn w.store w.store
      on = record { extends = store_same w.store; typed = typed.store; bytes = bytes }

      by : (o : Option Action) → slice_get g.plan n ≡ o → Leaves (Begun w.store) (action_turn g n o (with_control Free w))
      by None e = ((on, tt), inr (tt, task_so w 0 (λ task. record task { state = Exited }) (λ x. refl) bare))
      by (Some (Begin number)) e = ((on, tt), inr (tt, (bare.0, all_more IsEmpty w.insts new_inst bare.1 refl, bare.2)))
      by (Some (Make number)) e = making_begun number e

-- Tables in which nothing ever was.
empty_reps : (insts : List Inst) → AllByRecursion IsEmpty insts → HaveReps insts
empty_reps insts h = all_as IsEmpty (λ (inst : Inst). AllByRecursion EventHasRep inst.table) (λ inst e. subst (λ (table : List (Event _)). AllByRecursion EventHasRep table) (sym e) tt) insts h

alone_none : (tasks : List Task) (init : Task) → slice_get tasks 0 ≡ Some init → init.callee ≡ Init → length tasks ≡ 1 → (t : ℕ) (task : Task) → slice_get tasks t ≡ Some task → func_of task.callee ≡ None
alone_none [] init there callee one t task e = cc
alone_none (x ∷ []) init there callee one zero task e = ap func_of (ap (λ (y : Task). y.callee) (some_same (sym e ∙ there)) ∙ callee)
alone_none (x ∷ []) init there callee one (suc t) task e = absurd (past t e)
  where
    past : (m : ℕ) → slice_get [] m ≡ Some task → ⊥
    past zero k = cc
    past (suc m) k = cc
alone_none (x ∷ y ∷ tasks) init there callee one t task e = absurd (let two : suc (suc (length tasks)) ≡ 1 = one in omega (arith, two))

-- a step, by what comes next
module _ (g : Graph) (s : Script) (sound : IsTypedGraph g) (segments_are : AllByRecursion (λ c. HasBytes c.of_module) g.cores) (w v : World) (labels : List Label) (alone : RunsAlone w) (o : IsOrdered w) (yet : is_instantiated w.tasks ≡ false)
    (copied : IsCopied w) (inside : CopiesStandInside g w) (typed : IsTyped g w) (bytes : HasBytesAlone w.store) (bare : IsBare w) (e : next g s w ≡ Steps labels v) where
  abbrev free : World
  free = with_control Free w

  on_now : IsOn w.store w.store
  on_now = record { extends = store_same w.store; typed = typed.store; bytes = bytes }

  stays_early : StaysBare v → EarlyBare v
  stays_early (inl doomed) = inl doomed
  stays_early (inr rest) = inr (early v.control rest.0, rest.1)
    where
      early : (c : Control) → IsOfStack c → IsEarly c
      early Runs k = tt
      early (Calls number words) k = tt
      early (Instantiates n) k = tt
      early Free k = absurd k
      early (Chosen n) k = absurd k
      early Arrives k = absurd k
      early (Lowers l plan) k = absurd k
      early (Quiet n b) k = absurd k
      early Back k = absurd k
      early Goes k = absurd k
      early Resumes k = absurd k
      early (Delivers set receiver pick) k = absurd k
      early LeavesNow k = absurd k
      early (Doomed t why) k = absurd k

  answers_early : AnswersTyped g v → StaysBare v
  answers_early (inl doomed) = inl doomed
  answers_early (inr rest) = inr (rest.1, rest.2)

  code_begun : w.control ≡ Runs → Begun w.store v
  code_begun is =
      let acts : FirstIs w.tasks w.chain (RunsTyped w.store) = subst (λ (c : Control). ActsTyped g c w.store w.tasks w.chain) is typed.acts in
      let turn : next_by g s free Runs ≡ Steps labels v = ap (next_by g s free) (sym is) ∙ e in (
        subst (Leaves (Grown w.store)) turn (running_grows g w.store s free acts on_now),
        stays_early (subst (Left StaysBare) turn (running_left g s free (alone_none w.tasks alone.0.init alone.0.there alone.0.instantiates bare.2) bare)),
      )

  call_begun : (number : ℕ) (words : List ℕ) → w.control ≡ Calls number words → Begun w.store v
  call_begun number words is =
      let ordered : OneActs IsRunning (outlines_of w.tasks) w.chain = subst (λ (c : Control). ActsBy c (outlines_of w.tasks) w.chain) is o.2 in
      let acts : FirstIs w.tasks w.chain (CallsTyped g w.store number words) = subst (λ (c : Control). ActsTyped g c w.store w.tasks w.chain) is typed.acts in
      let turn : next_by g s free (Calls number words) ≡ Steps labels v = ap (next_by g s free) (sym is) ∙ e in
      let ground : Ground g w.store w.tasks = record { store = typed.store; canons = typed.canons; hosts = typed.hosts; made = typed.made; stand = typed.stand } in (
        subst (Leaves (Grown w.store)) turn (calling_grows g w.store number words free (record { on = on_now; reps = empty_reps w.insts bare.1; copied = copied; inside = inside })),
        stays_early (answers_early (subst (Left (AnswersTyped g)) turn (calling_left g free number words ordered acts ground bare yet))),
      )

  pub step_begun : (c : Control) → w.control ≡ c → IsOfStack c → Begun w.store v
  step_begun (Instantiates n) is core = subst (Leaves (Begun w.store)) (ap (next_by g s free) (sym is) ∙ e) (plan_begun g sound segments_are w n is typed bytes bare)
  step_begun Runs is core = code_begun is
  step_begun (Calls number words) is core = call_begun number words is
  step_begun Free is core = absurd core
  step_begun (Chosen k) is core = absurd core
  step_begun Arrives is core = absurd core
  step_begun (Lowers l plan) is core = absurd core
  step_begun (Quiet n b) is core = absurd core
  step_begun Back is core = absurd core
  step_begun Goes is core = absurd core
  step_begun Resumes is core = absurd core
  step_begun (Delivers set receiver pick) is core = absurd core
  step_begun LeavesNow is core = absurd core
  step_begun (Doomed t why) is core = absurd core

-- A bare world in which all is instantiated is typed.
exited_is : (state : TaskState) → has_exited state ≡ true → state ≡ Exited
exited_is Exited e = refl
exited_is New e = cc
exited_is Acting e = cc
exited_is (AfterCall callee number words) e = cc
exited_is (AfterCancel callee number words) e = cc
exited_is (Begins n) e = cc
exited_is WaitsToEnter e = cc
exited_is (InLoop word) e = cc
exited_is (InBuiltin number words wait) e = cc

first_exited : (tasks : List Task) (task : Task) → slice_get tasks 0 ≡ Some task → is_instantiated tasks ≡ true → task.state ≡ Exited
first_exited [] task there h = cc
first_exited (x ∷ tasks) task there h = exited_is task.state (ap has_exited (ap (λ (y : Task). y.state) (sym (some_same there))) ∙ h)

one_alone : (tasks : List Task) → length tasks ≡ 1 → (t : ℕ) (task : Task) → slice_get tasks t ≡ Some task → t ≡ 0
one_alone [] one t task e = cc
one_alone (x ∷ []) one zero task e = refl
one_alone (x ∷ []) one (suc zero) task e = cc
one_alone (x ∷ []) one (suc (suc t)) task e = cc
one_alone (x ∷ y ∷ tasks) one t task e = absurd (let two : suc (suc (length tasks)) ≡ 1 = one in omega (arith, two))

module _ (g : Graph) (w : World) (typed : IsTyped g w) (bytes : HasBytesAlone w.store) (bare : IsBare w) (numbered : IsNumbered w) (done : is_instantiated w.tasks ≡ true) where
  first_typed : (task : Task) → slice_get w.tasks 0 ≡ Some task → IsTypedTask g w.store (pending_of w.control) 0 task
  first_typed task there =
      let exited : task.state ≡ Exited = first_exited w.tasks task there done in
      let called : IsCalledAs 0 task = numbered.called 0 task there in
      record {
        stands = subst (λ (state : TaskState). StandsTyped g w.store state task) (sym exited) tt;
        waits = subst (WaitsSo g w.store) (sym exited) tt;
        context = all_at Fits w.tasks 0 task bare.0 there;
        fair = subst (λ (c : Caller). IsFair g (record task { caller = c })) (sym called.1) tt;
        given = subst (IsGiven task.callee) (sym called.1) tt;
        result = inr (subst (λ (c : Caller). HasResult g (record task { caller = c })) (sym called.1) tt);
      }

  acts_early : (c : Control) → IsEarly c → ActsTyped g c w.store w.tasks w.chain → Acts g c w.store w.tasks w.chain
  acts_early Free early acts = tt
  acts_early (Instantiates n) early acts = tt
  acts_early Runs early acts = acts
  acts_early (Calls number words) early acts = acts
  acts_early (Chosen k) early acts = absurd early
  acts_early Arrives early acts = absurd early
  acts_early (Lowers l plan) early acts = absurd early
  acts_early (Quiet n b) early acts = absurd early
  acts_early Back early acts = absurd early
  acts_early Goes early acts = absurd early
  acts_early Resumes early acts = absurd early
  acts_early (Delivers set receiver pick) early acts = absurd early
  acts_early LeavesNow early acts = absurd early
  acts_early (Doomed t why) early acts = absurd early

  pub bare_typed : IsEarly w.control → IsTypedWorld g w
  bare_typed early = record {
    ground = record {
      store = typed.store;
      canons = typed.canons;
      hosts = typed.hosts;
      bytes = bytes;
      made = typed.made done;
      tasks_are = λ t task there. (let first : t ≡ 0 = one_alone w.tasks bare.2 t task there in
          subst (λ (n : ℕ). IsTypedTask g w.store (pending_of w.control) n task) (sym first) (first_typed task (subst (λ (n : ℕ). slice_get w.tasks n ≡ Some task) first there)));
      reps = empty_reps w.insts bare.1;
    };
    acts = acts_early w.control early typed.acts;
  }

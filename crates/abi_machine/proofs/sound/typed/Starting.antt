-- While a graph is instantiated worlds stand typed, and a step comes next, or the end.
use Rattle.std.proofs.Common.{◌≡◌, ◌⊎◌, inl, inr, ℕ, zero, suc, Bool, true, false, List, [], ◌∷◌, drop, length, refl, sym, ap, ◌∙◌, subst, arith, Option, Some, None}
use Rattle.std.specs.Prelude.{IsSome}
use Rattle.std.specs.List.{slice_get}
use Rattle.syntax_trees.specs.declared.module_types.ValType.{ValType}
use Rattle.wasm_store.specs.Store.{Store}
use Rattle.wasm_store.specs.Step.{Move, Goes, Traps}
use Rattle.wasm_store.specs.Step as core
use Rattle.wasm_store.specs.Instantiation.{External}
use Rattle.wasm_store.specs.Laws.{MoveTyped}
use Rattle.entry_gate.specs.declared.kind.Kind.TheVariants.{Sync, Callback}
use Rattle.comp_graph.specs.declared.graph.CanonFunc.{CanonFunc}
use Rattle.comp_graph.specs.Graph.{Graph, Lifted}
use Rattle.script_reader.specs.Script.{Script}
use Rattle.trace_labels.specs.declared.label.Label.{Label}
use Rattle.abi_machine.specs.Control.{Control, Free, Chosen, Instantiates, Runs, Arrives, Lowers, Quiet, Back, Goes as GoesOn, Resumes, Delivers, Leaves, Doomed}
use Rattle.abi_machine.specs.Control as control
use Rattle.abi_machine.specs.World.{Init, Task, World, first_world}
use Rattle.abi_machine.specs.Edits.{with_control}
use Rattle.abi_machine.specs.Reading.{func_of, kind_of_func, is_instantiated}
use Rattle.abi_machine.specs.Turn.{Steps}
use Rattle.abi_machine.specs.Next.{next, next_by}
use Rattle.abi_machine.specs.Run.{Reaches}
use Rattle.abi_machine.specs.sound.Firsts.{FirstIs}
use Rattle.abi_machine.specs.sound.Initial.{RunsAlone}
use Rattle.abi_machine.specs.sound.Acting.{outlines_of, IsRunning, OneActs, ActsBy, IsOrdered}
use Rattle.abi_machine.specs.sound.MadeInstances.{IsTypedGraph}
use Rattle.abi_machine.specs.sound.TypedStacks.{gives, CallsTyped, ActsTyped, IsOfStack, IsTyped}
use Rattle.abi_machine.specs.sound.GoingOn.{IsMove, RunsOn, IsMakeable, NamesThere, IsCallable, AreFuncsThere, IsFed}
use Rattle.abi_machine.specs.sound.Starting.{IsDoomed, StartsTyped, StartedTyped, StartsGoOn}
use Rattle.abi_machine.proofs.sound.Found.{some_same}
use Rattle.abi_machine.proofs.sound.Acted.{one_task, first_at}
use Rattle.abi_machine.proofs.sound.Alone.{first_runs_alone, stays_alone}
use Rattle.abi_machine.proofs.sound.Chained.{no_first}
use Rattle.abi_machine.proofs.sound.Ordered.{first_ordered, order_stays}
use Rattle.abi_machine.proofs.sound.Started.{yet_before}
use Rattle.abi_machine.proofs.sound.TypedMoves.{Ground, first_typed, moves_stay_typed}
use Rattle.abi_machine.proofs.sound.typed.Instantiating.{instantiation_stays_typed}
use Rattle.abi_machine.proofs.sound.typed.Going.{moves_are_typed, instances_are_makeable}
use Rattle.abi_machine.proofs.sound.Reached.{reached_go_on}
use Rattle.abi_machine.proofs.sound.typed.Bare.{no_word, IsBare, StaysBare, ComesBare, Left, instantiating_left, running_left, AnswersTyped, calling_left}

-- What is reached while not all is instantiated, by what core code does next.

abbrev pub Phase : Graph → World → Type 0
Phase g w = IsDoomed w.control ⊎ (IsTyped g w × ((is_instantiated w.tasks ≡ true) ⊎ (IsOfStack w.control × IsBare w)))

alone_none : (tasks : List Task) (init : Task) → slice_get tasks 0 ≡ Some init → init.callee ≡ Init → length tasks ≡ 1 → (t : ℕ) (task : Task) → slice_get tasks t ≡ Some task → func_of task.callee ≡ None
alone_none [] init there callee one t task e = cc
alone_none (x ∷ []) init there callee one zero task e = ap func_of (ap (λ (y : Task). y.callee) (some_same (sym e ∙ there)) ∙ callee)
alone_none (x ∷ []) init there callee one (suc t) task e = absurd (no_first t task e)
alone_none (x ∷ y ∷ tasks) init there callee one t task e = absurd (let two : suc (suc (length tasks)) ≡ 1 = one in omega (arith, two))

ground_of : (g : Graph) (w : World) → IsTyped g w → Ground g w.store w.tasks
ground_of g w h = record { store = h.store; canons = h.canons; hosts = h.hosts; made = h.made; stand = h.stand }

-- a step of each of these
module _ (g : Graph) (s : Script) (w v : World) (labels : List Label) (sound : IsTypedGraph g) (alone : RunsAlone w) (o : IsOrdered w) (yet : is_instantiated w.tasks ≡ false) (typed : IsTyped g w) (bare : IsBare w)
    (e : next g s w ≡ Steps labels v) where
  abbrev free : World
  free = with_control Free w

  plan_goes : (n : ℕ) → w.control ≡ Instantiates n → Phase g v
  plan_goes n is =
      let so : IsTyped g v = instantiation_stays_typed g s w v labels n sound is alone o typed e in
      by so (subst (Left ComesBare) (ap (next_by g s free) (sym is) ∙ e) (instantiating_left g n free bare))
    where
      by : IsTyped g v → ComesBare v → Phase g v
      by so (inl doomed) = inl doomed
      by so (inr rest) = inr (so, rest)

  code_goes : w.control ≡ Runs → Phase g v
  code_goes is = by (subst (Left StaysBare) (ap (next_by g s free) (sym is) ∙ e) (running_left g s free (alone_none w.tasks alone.0.init alone.0.there alone.0.instantiates bare.2) bare))
    where
      by : StaysBare v → Phase g v
      by (inl doomed) = inl doomed
      by (inr rest) = inr (moves_stay_typed g s w v labels is o typed e rest.0, inr rest)

  call_goes : (number : ℕ) (words : List ℕ) → w.control ≡ control.Calls number words → Phase g v
  call_goes number words is =
      let ordered : OneActs IsRunning (outlines_of w.tasks) w.chain = subst (λ (c : Control). ActsBy c (outlines_of w.tasks) w.chain) is o.2 in
      let acts : FirstIs w.tasks w.chain (CallsTyped g w.store number words) = subst (λ (c : Control). ActsTyped g c w.store w.tasks w.chain) is typed.acts in
      by (subst (Left (AnswersTyped g)) (ap (next_by g s free) (sym is) ∙ e) (calling_left g free number words ordered acts (ground_of g w typed) bare yet))
    where
      by : AnswersTyped g v → Phase g v
      by (inl doomed) = inl doomed
      by (inr rest) = inr (rest.0, inr (rest.1, rest.2))

  step_goes : (c : Control) → w.control ≡ c → IsOfStack c → Phase g v
  step_goes (Instantiates n) is core = plan_goes n is
  step_goes Runs is core = code_goes is
  step_goes (control.Calls number words) is core = call_goes number words is
  step_goes Free is core = absurd core
  step_goes (Chosen k) is core = absurd core
  step_goes Arrives is core = absurd core
  step_goes (Lowers l plan) is core = absurd core
  step_goes (Quiet n b) is core = absurd core
  step_goes Back is core = absurd core
  step_goes GoesOn is core = absurd core
  step_goes Resumes is core = absurd core
  step_goes (Delivers set receiver pick) is core = absurd core
  step_goes Leaves is core = absurd core
  step_goes (Doomed t why) is core = absurd core

-- a run that comes to a trap makes no step
pub doomed_ends : (g : Graph) (s : Script) (w v : World) (labels : List Label) → IsDoomed w.control → next g s w ≡ Steps labels v → ⊥
doomed_ends g s w v labels doomed e = by w.control refl doomed
  where
    by : (c : Control) → w.control ≡ c → IsDoomed c → ⊥
    by (Doomed t why) is d = let clash : next_by g s (with_control Free w) (Doomed t why) ≡ Steps labels v = ap (next_by g s (with_control Free w)) (sym is) ∙ e in cc
    by Free is d = d
    by (Chosen k) is d = d
    by (Instantiates n) is d = d
    by Runs is d = d
    by (control.Calls number words) is d = d
    by Arrives is d = d
    by (Lowers l plan) is d = d
    by (Quiet n b) is d = d
    by Back is d = d
    by GoesOn is d = d
    by Resumes is d = d
    by (Delivers set receiver pick) is d = d
    by Leaves is d = d

clash_of : (b : Bool) (P : Type 0) → b ≡ true → b ≡ false → P
clash_of b P is is_not = absurd (let clash : true ≡ false = sym is ∙ is_not in let none : ⊥ = cc in none)

pub phase_goes : (g : Graph) (s : Script) (w v : World) (labels : List Label) → IsTypedGraph g → RunsAlone w → IsOrdered w → is_instantiated w.tasks ≡ false → Phase g w → next g s w ≡ Steps labels v → Phase g v
phase_goes g s w v labels sound alone o yet h e = by h
  where
    typed_goes : IsTyped g w → (is_instantiated w.tasks ≡ true) ⊎ (IsOfStack w.control × IsBare w) → Phase g v
    typed_goes typed (inl done) = clash_of (is_instantiated w.tasks) (Phase g v) done yet
    typed_goes typed (inr bare) = step_goes g s w v labels sound alone o yet typed bare.1 e w.control refl bare.0

    by : Phase g w → Phase g v
    by (inl doomed) = absurd (doomed_ends g s w v labels doomed e)
    by (inr typed) = typed_goes typed.0 typed.1

pub first_phase : (g : Graph) → IsTypedGraph g → Phase g (first_world g)
first_phase g sound = inr (first_typed g sound, inr (tt, (((no_word, no_word), tt), tt, refl)))

-- a world that is reached while not all is instantiated
phase_from : (g : Graph) (s : Script) (steps : List (List Label)) (w v : World) → IsTypedGraph g → RunsAlone w → IsOrdered w → (is_instantiated w.tasks ≡ false → Phase g w) → Reaches g s w steps v → is_instantiated v.tasks ≡ false
    → RunsAlone v × IsOrdered v × Phase g v
phase_from g s [] w v sound alone o h r yet =
    (let yet_w : is_instantiated w.tasks ≡ false = ap (λ (x : World). is_instantiated x.tasks) (sym r) ∙ yet in subst (λ (x : World). RunsAlone x × IsOrdered x × Phase g x) (sym r) (alone, o, h yet_w))
phase_from g s (labels ∷ steps) w v sound alone o h r yet =
    phase_from g s steps r.0 v sound (stays_alone g s w r.0 labels alone r.1) (order_stays g s w r.0 labels alone o r.1)
    (λ not_yet. phase_goes g s w r.0 labels sound alone o (yet_before g s w r.0 labels alone r.1 not_yet) (h (yet_before g s w r.0 labels alone r.1 not_yet)) r.1) r.2 yet

reached_phase : (g : Graph) (s : Script) (steps : List (List Label)) (w : World) → IsTypedGraph g → Reaches g s (first_world g) steps w → is_instantiated w.tasks ≡ false → RunsAlone w × IsOrdered w × Phase g w
reached_phase g s steps w sound r yet = phase_from g s steps (first_world g) w sound (first_runs_alone g) (first_ordered g) (λ e. first_phase g sound) r yet

-- the phase says that worlds stand typed
typed_phase : (g : Graph) (w : World) → Phase g w → IsDoomed w.control ⊎ IsTyped g w
typed_phase g w (inl doomed) = inl doomed
typed_phase g w (inr typed) = inr typed.0

pub starts_typed : StartsTyped
starts_typed g s steps w sound r yet = typed_phase g w (reached_phase g s steps w sound r yet).2

pub started_typed : StartedTyped
started_typed g s steps w v labels sound r yet e =
    let h = reached_phase g s steps w sound r yet in
    typed_phase g v (phase_goes g s w v labels sound h.0 h.1 yet h.2 e)

-- What its rule looks up is there.

is_move : (s : Store) (results : List ValType) (m : Move) → MoveTyped s results m → IsMove m
is_move s results (Goes paid t l) h = tt
is_move s results (core.Calls address words l) h = tt
is_move s results (core.Ends words) h = tt
is_move s results (Traps why) h = tt
is_move s results core.Stuck h = h

module _ (g : Graph) (w : World) (sound : IsTypedGraph g) (alone : RunsAlone w) (yet : is_instantiated w.tasks ≡ false) (typed : IsTyped g w) (bare : IsBare w) where
  none_runs : (t : ℕ) (task : Task) → slice_get w.tasks t ≡ Some task → func_of task.callee ≡ None
  none_runs = alone_none w.tasks alone.0.init alone.0.there alone.0.instantiates bare.2

  no_func : (t : ℕ) (task : Task) (f : Lifted) (P : Type 0) → slice_get w.tasks t ≡ Some task → func_of task.callee ≡ Some f → P
  no_func t task f P there runs = absurd (let clash : None ≡ Some f = sym (none_runs t task there) ∙ runs in let none : ⊥ = cc in none)

  runs_fed : w.control ≡ Runs → RunsOn (with_control Free w)
  runs_fed is t task k first there top = record {
    moves = is_move w.store (gives task.callee (drop 1 task.stacks)) (core.next w.store k) (moves_are_typed g w t task k is typed first there top);
    gives_word = λ kind last. absurd (let clash : Sync ≡ Callback = sym (ap kind_of_func (none_runs t task there)) ∙ kind in let none : ⊥ = cc in none);
  }

  made_fed : (n : ℕ) → w.control ≡ Instantiates n → IsMakeable g n (with_control Free w)
  made_fed n is number at =
      let c = instances_are_makeable g w n number sound is typed at in
      (c.0, c.1, subst (λ (o : Option (List External)). IsSome o) (sym c.2.1) refl)

  call_fed : (number : ℕ) (words : List ℕ) → w.control ≡ control.Calls number words → IsCallable g number (with_control Free w)
  call_fed number words is =
      let acts : FirstIs w.tasks w.chain (CallsTyped g w.store number words) = subst (λ (c : Control). ActsTyped g c w.store w.tasks w.chain) is typed.acts in
      record {
        made = λ t task first there none. (let calls : CallsTyped g w.store number words task = one_task w.tasks t (CallsTyped g w.store number words) task there (first_at w.tasks w.chain t (CallsTyped g w.store number words) first acts) in
            subst (λ (o : Option CanonFunc). IsSome o) (sym calls.1) refl);
        names = λ free c at. clash_of (is_instantiated w.tasks) (NamesThere g w.store c) free yet;
      }

  fed_by : (s : Script) (c : Control) → w.control ≡ c → IsOfStack c → IsFed g s c (with_control Free w)
  fed_by s (Instantiates n) is core = made_fed n is
  fed_by s Runs is core = (runs_fed is, λ t task f there runs. no_func t task f (AreFuncsThere w.store f) there runs)
  fed_by s (control.Calls number words) is core = call_fed number words is
  fed_by s Free is core = absurd core
  fed_by s (Chosen k) is core = absurd core
  fed_by s Arrives is core = absurd core
  fed_by s (Lowers l plan) is core = absurd core
  fed_by s (Quiet n b) is core = absurd core
  fed_by s Back is core = absurd core
  fed_by s GoesOn is core = absurd core
  fed_by s Resumes is core = absurd core
  fed_by s (Delivers set receiver pick) is core = absurd core
  fed_by s Leaves is core = absurd core
  fed_by s (Doomed t why) is core = absurd core

pub doomed_fed : (g : Graph) (s : Script) (c : Control) (w : World) → IsDoomed c → IsFed g s c w
doomed_fed g s (Doomed t why) w d = tt
doomed_fed g s Free w d = absurd d
doomed_fed g s (Chosen k) w d = absurd d
doomed_fed g s (Instantiates n) w d = absurd d
doomed_fed g s Runs w d = absurd d
doomed_fed g s (control.Calls number words) w d = absurd d
doomed_fed g s Arrives w d = absurd d
doomed_fed g s (Lowers l plan) w d = absurd d
doomed_fed g s (Quiet n b) w d = absurd d
doomed_fed g s Back w d = absurd d
doomed_fed g s GoesOn w d = absurd d
doomed_fed g s Resumes w d = absurd d
doomed_fed g s (Delivers set receiver pick) w d = absurd d
doomed_fed g s Leaves w d = absurd d

phase_fed : (g : Graph) (s : Script) (w : World) → IsTypedGraph g → RunsAlone w → is_instantiated w.tasks ≡ false → Phase g w → IsFed g s w.control (with_control Free w)
phase_fed g s w sound alone yet h = by h
  where
    typed_fed : IsTyped g w → (is_instantiated w.tasks ≡ true) ⊎ (IsOfStack w.control × IsBare w) → IsFed g s w.control (with_control Free w)
    typed_fed typed (inl done) = clash_of (is_instantiated w.tasks) (IsFed g s w.control (with_control Free w)) done yet
    typed_fed typed (inr bare) = fed_by g w sound alone yet typed bare.1 s w.control refl bare.0

    by : Phase g w → IsFed g s w.control (with_control Free w)
    by (inl doomed) = doomed_fed g s w.control (with_control Free w) doomed
    by (inr typed) = typed_fed typed.0 typed.1

pub starts_go_on : StartsGoOn
starts_go_on g s steps w apart sound r yet =
    let h = reached_phase g s steps w sound r yet in
    reached_go_on g s steps w apart r (phase_fed g s w sound h.0 yet h.2)

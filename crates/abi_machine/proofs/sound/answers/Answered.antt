-- In each step the machine answers words of the types that are asked for.
use Rattle.abi_machine.specs.sound.Events.{EventComes}
use Rattle.std.proofs.Common.{◌≡◌, ◌∙◌, ℕ, true, ◌+◌, nat_eq, List, [], ◌∷◌, refl, sym, subst, Option, Some, None, Result, Ok, Err, if◌then◌else◌}
use Rattle.std.specs.List.{slice_get}
use Rattle.wasm_numbers.specs.Types.{AreWords}
use Rattle.wasm_store.specs.Stack.{Stack}
use Rattle.wasm_store.specs.Store.{Store}
use Rattle.wasm_store.specs.Instantiation.{External, Instantiation, Makes, SegmentBounds as TooFar, instantiated, instance_of, start_call}
use Rattle.wasm_store.specs.Step.{Move, Goes as Moves, Traps}
use Rattle.wasm_store.specs.Step as core
use Rattle.tasks.specs.Tasks.{may_cancel}
use Rattle.comp_graph.specs.declared.graph.Action.{Action}
use Rattle.comp_graph.specs.declared.graph.Action.TheVariants.{Begin, Make}
use Rattle.comp_graph.specs.declared.graph.CanonFunc.{CanonFunc}
use Rattle.comp_graph.specs.Graph.{Graph, CoreMake, canon_type, func_named}
use Rattle.script_reader.specs.declared.script.Item.{Item}
use Rattle.script_reader.specs.declared.script.Item.TheVariants as item
use Rattle.script_reader.specs.Script.{Script}
use Rattle.trace_labels.specs.declared.label.Label.TheVariants as line
use Rattle.trace_labels.specs.declared.trap.TrapName.{TrapName}
use Rattle.abi_machine.specs.Traps.{core_name}
use Rattle.abi_machine.specs.Control.{HostedState, Going, AtCall, Nested, Behind, InLowering, BeforeLeaving, Control, Free, Chosen, Instantiates, Runs, Calls, Arrives, Lowers, Quiet, Back, Goes, Resumes, Delivers, Leaves, Doomed}
use Rattle.abi_machine.specs.World.{Task, World}
use Rattle.abi_machine.specs.Edits.{with_control, with_store, item_taken, chained}
use Rattle.abi_machine.specs.Canons.{externals, inst_of_canon, builtin_of, canon_at}
use Rattle.abi_machine.specs.Reading.{acting}
use Rattle.abi_machine.specs.Counting.{task_view}
use Rattle.abi_machine.specs.Turn.{silent, doomed}
use Rattle.abi_machine.specs.Cancelling.{cancelled_turn}
use Rattle.abi_machine.specs.Choosing.{chosen}
use Rattle.abi_machine.specs.CoreSteps.{costs, moved, running_turn}
use Rattle.abi_machine.specs.Instantiating.{started_up, made, action_turn, instantiating_turn}
use Rattle.abi_machine.specs.Nested.{HostedTurn, On, EndsIn, TrapsBy, CallsHost, NoRule, hosted_move, hosted_next, nested_ended, answered_in_place, answered_or_refused, calls_host, hosted, nested_turn}
use Rattle.abi_machine.specs.Reply.{allowed, calling_turn}
use Rattle.abi_machine.specs.Scheduling.{call_taken, cancel_taken, item_turn, gone, going_turn, task_of_call, Alternative, Takes, GoesOn, alternatives, alternative_turn, one_of, free_turn, chosen_turn}
use Rattle.abi_machine.specs.Next.{next_by}
use Rattle.abi_machine.specs.replies.Context.{Answers, Exempt, exempt_of}
use Rattle.abi_machine.specs.sound.Agreeing.{IsDueBehind, Tells}
use Rattle.abi_machine.specs.sound.Answers.{IsOfCanon, IsHostedAnswer, IsAnswered, IsInRange, HasResults, HasResultsAt, AnswersAreWords}
use Rattle.abi_machine.specs.sound.Copies.{IsCopied}
use Rattle.abi_machine.specs.sound.Tables.{HaveHistories}
use Rattle.abi_machine.proofs.sound.Found.{some_same}
use Rattle.abi_machine.proofs.sound.answers.Moving.{Fits, less_answers, behind_fits, given_fits, either_fits, charged_fits, cancelled_fits, moved_fits, delivering_fits}
use Rattle.abi_machine.proofs.sound.answers.Waking.{IsWaitedFor, back_fits, leaving_fits, arriving_fits, resuming_fits, lowers_fit}
use Rattle.abi_machine.proofs.sound.answers.Answering.{InPlace, IfInPlace, in_place, allowed_fits, reply_fits}

of_canon : (g : Graph) (number : ℕ) (c : CanonFunc) → canon_at g number ≡ Some c → (words : List ℕ) → AreWords (canon_type c).results words → IsOfCanon g number words
of_canon g number c e words h d there = subst (λ (x : CanonFunc). AreWords (canon_type x).results words) (some_same (sym e ∙ there)) h

calling_fits : (g : Graph) (number : ℕ) (words : List ℕ) (w : World) → HaveHistories w.insts → IsCopied w → IsInRange w → Fits (IsOfCanon g number) (calling_turn g number words w)
unfolding calling_turn
calling_fits g number words w history copied range =
    given_fits (IsOfCanon g number) (acting w) _ (λ a e. given_fits (IsOfCanon g number) (canon_at g number) _ (λ c at.
    less_answers (AreWords (canon_type c).results) (IsOfCanon g number) (of_canon g number c at) _
    (behind_fits (AreWords (canon_type c).results) (line.Do a.0 (builtin_of c) words ∷ []) (allowed g a.0 a.1 number c words (exempt_of a.0 words c) w) (tt, tt)
    (allowed_fits (AreWords (canon_type c).results) g a.0 a.1 number c words (exempt_of a.0 words c) w (in_place a.0 words c w range) (reply_fits g a.0 a.1 number c words w history copied)))))

-- Nested code.
nested_ended_fits : (P : List ℕ → Type 0) (b : Behind) (words : List ℕ) (w : World) → Fits P (nested_ended b words w)
unfolding nested_ended
nested_ended_fits P (InLowering l k) (place ∷ words) w = tt
nested_ended_fits P (InLowering l k) [] w = tt
nested_ended_fits P BeforeLeaving words w = tt

in_place_fits : (P : List ℕ → Type 0) (n : Nested) (b : Behind) (k : Stack) (r : Result Answers TrapName) (w : World) → InPlace P r → Fits P (answered_in_place n b k r w)
unfolding answered_in_place
in_place_fits P n b k (Err why) w h = tt
in_place_fits P n b k (Ok answer) w h = (h, tt)

or_refused_fits : (P : List ℕ → Type 0) (n : Nested) (b : Behind) (k : Stack) (o : Option Exempt) (w : World) → IfInPlace P w o → Fits P (answered_or_refused n b k o w)
unfolding answered_or_refused
or_refused_fits P n b k None w h = tt
or_refused_fits P n b k (Some exempt) w h = in_place_fits P n b k (exempt w) w h

module _ (P : List ℕ → Type 0) where
  host_fits : (n : Nested) (b : Behind) (k : Stack) (words : List ℕ) (c : CanonFunc) (w : World) → Fits P (answered_or_refused n b k (exempt_of n.acts_for words c) w) → Fits P (calls_host n b k words c w)
  unfolding calls_host
  host_fits n b k words c w h =
      either_fits P (nat_eq (inst_of_canon c) n.inst) _ _ (behind_fits P (line.Do n.acts_for (builtin_of c) words ∷ []) (answered_or_refused n b k (exempt_of n.acts_for words c) w) (tt, tt) h) tt

  -- what is asked for where nested code calls a canonical function
  abbrev Asks : Graph → HostedTurn → Type 0
  Asks g (On paid state store) = Unit {0}
  Asks g (EndsIn words) = Unit {0}
  Asks g (TrapsBy why) = Unit {0}
  Asks g (CallsHost number words k) = (answer : List ℕ) → IsOfCanon g number answer → P answer
  Asks g NoRule = Unit {0}

  hosted_fits : (g : Graph) (s : Script) (n : Nested) (b : Behind) (t : HostedTurn) (w : World) → IsInRange w → Asks g t → Fits P (hosted g s n b t w)
  unfolding hosted
  hosted_fits g s n b (On paid state store) w range says = charged_fits P paid s w (λ v. silent (Quiet (record n { state = state }) b) (with_store store v)) (λ units. tt)
  hosted_fits g s n b (EndsIn words) w range says = nested_ended_fits P b words w
  hosted_fits g s n b (TrapsBy why) w range says = charged_fits P true s w (λ v. doomed n.blame (core_name why) v) (λ units. tt)
  hosted_fits g s n b (CallsHost number words k) w range says =
      given_fits P (canon_at g number) (λ c. calls_host n b k words c w) (λ c at.
      host_fits n b k words c w
      (less_answers (AreWords (canon_type c).results) P (λ answer h. says answer (of_canon g number c at answer h)) (answered_or_refused n b k (exempt_of n.acts_for words c) w)
      (or_refused_fits (AreWords (canon_type c).results) n b k (exempt_of n.acts_for words c) w (in_place n.acts_for words c w range))))
  hosted_fits g s n b NoRule w range says = tt

  -- Turns that cost, and the scheduler.
  running_fits : (g : Graph) (s : Script) (w : World) → P [] → Fits P (running_turn g s w)
  unfolding running_turn
  running_fits g s w h =
      given_fits P (acting w) _ (λ a e. given_fits P (slice_get a.1.stacks 0) _ (λ (k : Stack) i.
      charged_fits P (costs k (core.next w.store k)) s w (λ v. moved g a.0 a.1 (core.next w.store k) v) (λ units. moved_fits P g a.0 a.1 (core.next w.store k) (record w { units = units }) h)))

  going_fits : (s : Script) (w : World) → Fits P (going_turn s w)
  unfolding going_turn gone
  going_fits s w = given_fits P (acting w) _ (λ (a : ℕ × Task) e. charged_fits P true s w (λ v. gone a.0 v) (λ units. (tt, tt)))

  item_fits : (g : Graph) (s : Script) (i : Item) (w : World) → Fits P (item_turn g s i w)
  unfolding item_turn call_taken cancel_taken
  item_fits g s (item.Call call) w = given_fits P (func_named g call.name) _ (λ f e. (tt, tt))
  item_fits g s (item.Cancel call) w =
      let v : World = item_taken w in
      given_fits P (task_of_call call w) _ (λ (found : ℕ × Task) e.
      behind_fits P (line.Cancel call ∷ []) (if may_cancel (task_view g v found.0 found.1) then cancelled_turn g found.0 found.1 Free v else silent Free v) (tt, tt)
      (either_fits P (may_cancel (task_view g v found.0 found.1)) (cancelled_turn g found.0 found.1 Free v) (silent Free v) (cancelled_fits P g found.0 found.1 Free v) tt))

  alternative_fits : (g : Graph) (s : Script) (a : Alternative) (w : World) → Fits P (alternative_turn g s a w)
  unfolding alternative_turn gone
  alternative_fits g s (Takes i) w = charged_fits P true s w (λ v. item_turn g s i v) (λ units. item_fits g s i (record w { units = units }))
  alternative_fits g s (GoesOn t) w = charged_fits P true s w (λ v. gone t (chained t v)) (λ units. (tt, tt))

  chosen_fits : (g : Graph) (s : Script) (k : ℕ) (w : World) → Fits P (chosen_turn g s k w)
  unfolding chosen_turn
  chosen_fits g s k w = given_fits P (slice_get (alternatives g s w) k) _ (λ a e. alternative_fits g s a w)

  one_fits : (g : Graph) (s : Script) (all : List Alternative) (w : World) → Fits P (one_of g s all w)
  unfolding one_of chosen
  one_fits g s [] w = tt
  one_fits g s (a ∷ []) w = alternative_fits g s a w
  one_fits g s (a ∷ other ∷ others) w = (tt, tt)

  free_fits : (g : Graph) (s : Script) (w : World) → Fits P (free_turn g s w)
  unfolding free_turn
  free_fits g s w = one_fits g s (alternatives g s w) w

  -- Instantiation.
  started_up_fits : (n : ℕ) (k : Option Stack) (w : World) → Fits P (started_up n k w)
  unfolding started_up
  started_up_fits n None w = tt
  started_up_fits n (Some k) w = tt

  made_fits : (n : ℕ) (c : CoreMake) (imports : List External) (i : Instantiation) (w : World) → Fits P (made n c imports i w)
  unfolding made
  made_fits n c imports (TooFar s) w = tt
  made_fits n c imports (Makes s) w = started_up_fits (n + 1) (start_call c.of_module (instance_of c.of_module imports w.store) s) (with_store s w)

  action_fits : (g : Graph) (n : ℕ) (a : Option Action) (w : World) → Fits P (action_turn g n a w)
  unfolding action_turn
  action_fits g n None w = tt
  action_fits g n (Some (Begin number)) w = tt
  action_fits g n (Some (Make number)) w =
      given_fits P (slice_get g.cores number) _ (λ (c : CoreMake) e. given_fits P (externals w.store c.imports) _ (λ imports i. made_fits n c imports (instantiated c.of_module imports w.store) w))

  instantiating_fits : (g : Graph) (n : ℕ) (w : World) → Fits P (instantiating_turn g n w)
  unfolding instantiating_turn
  instantiating_fits g n w = action_fits g n (slice_get g.plan n) w

-- Where nested code is at a call that is what it calls next.
move_asks : (g : Graph) (k : Stack) (s : Store) (move : Move) → Asks (IsHostedAnswer g (Going k)) g (hosted_move k s move)
move_asks g k s (Moves paid t l) = tt
move_asks g k s (core.Calls number words l) = tt
move_asks g k s (core.Ends words) = tt
move_asks g k s (Traps why) = tt
move_asks g k s core.Stuck = tt

state_asks : (g : Graph) (state : HostedState) (s : Store) → Asks (IsHostedAnswer g state) g (hosted_next state s)
state_asks g (Going k) s = move_asks g k s (core.next s k)
state_asks g (AtCall number words k) s = λ answer h. h

nested_fits : (g : Graph) (s : Script) (n : Nested) (b : Behind) (w : World) → IsInRange w → Fits (IsHostedAnswer g n.state) (nested_turn g s n b w)
unfolding nested_turn
nested_fits g s n b w range = hosted_fits (IsHostedAnswer g n.state) g s n b (hosted_next n.state w.store) w range (state_asks g n.state w.store)

-- what control says of a copy that is half done, and of a wait that is over
abbrev DueIn : Graph → Control → World → Type 0
DueIn g (Lowers l plan) w = IsDueBehind l.next w.streams w.futures
DueIn g Resumes w = EventComes g Resumes w × HasResults g w
DueIn g Back w = HasResults g w
DueIn g control w = Unit {0}

each_fits : (g : Graph) (s : Script) (w : World) (c : Control) → HaveHistories w.insts → IsCopied w → IsWaitedFor g w → IsInRange w → DueIn g c w → Fits (IsAnswered g c (acting w)) (next_by g s w c)
each_fits g s w Free history copied waited range due = free_fits (IsAnswered g Free (acting w)) g s w
each_fits g s w (Chosen k) history copied waited range due = chosen_fits (IsAnswered g (Chosen k) (acting w)) g s k w
each_fits g s w (Instantiates n) history copied waited range due = instantiating_fits (IsAnswered g (Instantiates n) (acting w)) g n w
each_fits g s w Runs history copied waited range due = running_fits (IsAnswered g Runs (acting w)) g s w tt
each_fits g s w (Calls number words) history copied waited range due = calling_fits g number words w history copied range
each_fits g s w Arrives history copied waited range due = arriving_fits (IsAnswered g Arrives (acting w)) g w
each_fits g s w (Lowers l plan) history copied waited range due = lowers_fit (IsAnswered g (Lowers l plan) (acting w)) l plan w copied due (λ words h. h)
each_fits g s w (Quiet n b) history copied waited range due = nested_fits g s n b w range
each_fits g s w Back history copied waited range due = back_fits (IsAnswered g Back (acting w)) g w history waited due (λ words h. h)
each_fits g s w Goes history copied waited range due = going_fits (IsAnswered g Goes (acting w)) s w
each_fits g s w Resumes history copied waited range due = resuming_fits (IsAnswered g Resumes (acting w)) g w copied waited due.1 due.0 (λ words h. h)
each_fits g s w (Delivers set receiver pick) history copied waited range due = delivering_fits (IsAnswered g (Delivers set receiver pick) (acting w)) g s set receiver pick w (λ words h. h)
each_fits g s w Leaves history copied waited range due = leaving_fits (IsAnswered g Leaves (acting w)) w
each_fits g s w (Doomed t why) history copied waited range due = tt

pub answers_are_words : AnswersAreWords
answers_are_words g s w v labels alone history copied called subtasks fit events range results e =
    subst (Fits (IsAnswered g w.control (acting w))) e (each_fits g s (with_control Free w) w.control history copied (record { called = called; sync = subtasks.sync; fit = fit }) fine (due w.control refl))
  where
    fine : IsInRange (with_control Free w)
    fine = record { reps = range.reps; contexts = range.contexts }

    due : (c : Control) → w.control ≡ c → DueIn g c (with_control Free w)
    due (Lowers l plan) is = (let says : Tells (Lowers l plan) w.tasks w.chain w.streams w.futures w.insts = subst (λ (x : Control). Tells x w.tasks w.chain w.streams w.futures w.insts) is alone.2 in says.1)
    due Free is = tt
    due (Chosen k) is = tt
    due (Instantiates n) is = tt
    due Runs is = tt
    due (Calls number words) is = tt
    due Arrives is = tt
    due (Quiet n b) is = tt
    due Back is = subst (λ (x : Control). HasResultsAt g x w) is results
    due Goes is = tt
    due Resumes is = (subst (λ (x : Control). EventComes g x (with_control Free w)) is events, subst (λ (x : Control). HasResultsAt g x w) is results)
    due (Delivers set receiver pick) is = tt
    due Leaves is = tt
    due (Doomed t why) is = tt

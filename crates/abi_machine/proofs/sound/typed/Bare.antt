-- While a graph is instantiated words of context are i32, tables are empty and task 0 is alone, and core code leaves them so.
use Rattle.std.proofs.Common.{◌≡◌, ◌<◌, ◌⊎◌, inl, inr, ℕ, zero, suc, ◌+◌, ◌^◌, Bool, true, false, List, [], ◌∷◌, drop, length, refl, sym, ap, ◌∙◌, subst, arith, nat_lt, Option, Some, None, if◌then◌else◌}
use Rattle.std.specs.Prelude.{slice_index}
use Rattle.std.specs.List.{slice_get, AllByRecursion}
use Rattle.std.specs.Option.{option_map}
use Rattle.wasm_store.proofs.Lists.{all_at}
use Rattle.syntax_trees.specs.declared.module_types.ValType.TheVariants.{I32}
use Rattle.syntax_trees.specs.declared.module_types.FuncType.{FuncType}
use Rattle.wasm_numbers.specs.Types.{AreWords}
use Rattle.wasm_store.specs.Store.{Store}
use Rattle.wasm_store.specs.Stack.{Stack}
use Rattle.wasm_store.specs.Step.{Move, Goes, Traps}
use Rattle.wasm_store.specs.Step as core
use Rattle.wasm_store.specs.Instantiation.{External, Instantiation, Makes, start_call, instance_of, instantiated}
use Rattle.wasm_store.specs.Instantiation as core_instance
use Rattle.handle_table.specs.History.{Event, live}
use Rattle.builtin_kinds.specs.declared.ContextOp.{ContextOp}
use Rattle.builtin_kinds.specs.declared.ContextOp.TheVariants as context_op
use Rattle.builtin_kinds.specs.declared.ResourceOp.TheVariants as resource_op
use Rattle.res_handles.specs.Refusals.{handle_in, rep_of}
use Rattle.res_handles.specs.declared.entry.EntryView.{EntryView}
use Rattle.comp_graph.specs.declared.graph.Action.{Action}
use Rattle.comp_graph.specs.declared.graph.Action.TheVariants.{Begin, Make}
use Rattle.comp_graph.specs.declared.graph.BuiltinKind.{BuiltinKind}
use Rattle.comp_graph.specs.declared.graph.BuiltinKind.TheVariants as builtin
use Rattle.comp_graph.specs.declared.graph.CanonFunc.{CanonFunc}
use Rattle.comp_graph.specs.declared.graph.CanonFunc.TheVariants as canon
use Rattle.comp_graph.specs.Graph.{CoreMake, Graph, context_type, builtin_type, canon_type}
use Rattle.script_reader.specs.Script.{Script}
use Rattle.trace_labels.specs.declared.label.Label.{Label}
use Rattle.trace_labels.specs.declared.label.Label.TheVariants as line
use Rattle.abi_machine.specs.declared.run_end.RunEnd.TheVariants.{Fuel}
use Rattle.abi_machine.specs.Traps.{renamed, refusal_name}
use Rattle.abi_machine.specs.World.{Entry, Inst, Callee, TaskState, New, Acting, AfterCall, AfterCancel, Begins, WaitsToEnter, InLoop, InBuiltin, Exited, Task, World, new_inst}
use Rattle.abi_machine.specs.Edits.{changed_at, with_store, in_state, unit_spent, unstacked, answered_stacks, word_changed, word_set}
use Rattle.abi_machine.specs.Canons.{canon_at, externals, builtin_of}
use Rattle.abi_machine.specs.Reading.{table_in, table_of, acting, func_of, task_at, is_instantiated, may_leave}
use Rattle.abi_machine.specs.Counting.{entry_view, view_at}
use Rattle.abi_machine.specs.Turn.{Turn, Steps, Ends, Stuck, behind, given, goes_on_with, replied, charged}
use Rattle.abi_machine.specs.Instantiating.{started_up, made, action_turn, instantiating_turn}
use Rattle.abi_machine.specs.CoreSteps.{costs, stack_ended, ended_over, moved, running_turn}
use Rattle.abi_machine.specs.replies.Context.{word_at, word_of, context_answer, rep_answered, exempt_kind, exempt_of}
use Rattle.abi_machine.specs.Reply.{exempt_turn, allowed, calling_turn}
use Rattle.abi_machine.specs.sound.Changes.{IsFirst}
use Rattle.abi_machine.specs.sound.Firsts.{FirstIs}
use Rattle.abi_machine.specs.sound.Acting.{outline_of, outlines_of, RunsIn, IsRunning, OneActs}
use Rattle.abi_machine.specs.sound.TypedStacks.{IsWaiting, TopIs, WaitsTyped, CallsTyped, StandsTyped, IsOfStack, IsTyped}
use Rattle.abi_machine.specs.sound.Starting.{IsDoomed}
use Rattle.abi_machine.proofs.sound.Lists.{all_changed, all_more, length_changed}
use Rattle.abi_machine.proofs.sound.Found.{some_same, changed_there, acting_first, acting_is}
use Rattle.abi_machine.proofs.sound.Acted.{one_task, first_at}
use Rattle.abi_machine.proofs.sound.Outlines.{outline_there, is_what}
use Rattle.abi_machine.proofs.sound.acts.Keeping.{acts_at}
use Rattle.abi_machine.proofs.sound.TypedMoves.{Ground, still_instantiated, with_ground, typed_by, answers_are_typed}

pub no_word : 0 < 2 ^ 32
no_word = omega arith

-- What else holds: words of context are i32, tables are empty, and task 0 is alone.
abbrev pub Fits : Task → Type 0
Fits task = (task.context.0 < 2 ^ 32) × (task.context.1 < 2 ^ 32)

abbrev pub IsEmpty : Inst → Type 0
IsEmpty inst = inst.table ≡ []

abbrev pub IsBare : World → Type 0
IsBare w = AllByRecursion Fits w.tasks × AllByRecursion IsEmpty w.insts × (length w.tasks ≡ 1)

-- behind a step of core code: the run comes to a trap, or core code goes on
abbrev pub StaysBare : World → Type 0
StaysBare v = IsDoomed v.control ⊎ (IsOfStack v.control × IsBare v)

-- behind one of the plan, that all is instantiated too
abbrev pub ComesBare : World → Type 0
ComesBare v = IsDoomed v.control ⊎ ((is_instantiated v.tasks ≡ true) ⊎ (IsOfStack v.control × IsBare v))

-- turns whose step leaves a world so
module _ (P : World → Type 0) where
  abbrev pub Left : Turn → Type 0
  Left (Steps labels v) = P v
  Left (Ends end) = Unit {0}
  Left Stuck = Unit {0}

  given_left : {A : Type 0} (o : Option A) (f : A → Turn) → ((x : A) → o ≡ Some x → Left (f x)) → Left (given o f)
  given_left None f h = tt
  given_left (Some x) f h = h x refl

  behind_left : (lines : List Label) (t : Turn) → Left t → Left (behind lines t)
  behind_left lines (Steps labels v) h = h
  behind_left lines (Ends end) h = tt
  behind_left lines Stuck h = tt

  either_left : (b : Bool) (t u : Turn) → (b ≡ true → Left t) → (b ≡ false → Left u) → Left (if b then t else u)
  either_left true t u h k = h refl
  either_left false t u h k = k refl

  charged_left : (paid : Bool) (s : Script) (w : World) (f : World → Turn) → ((units : ℕ) → Left (f (record w { units = units }))) → Left (charged paid s w f)
  charged_left false s w f h = h w.units
  charged_left true s w f h = either_left (nat_lt w.units s.fuel) (f (unit_spent w)) (Ends Fuel) (λ e. h (w.units + 1)) (λ e. tt)

left_as : (P Q : World → Type 0) → ((v : World) → P v → Q v) → (t : Turn) → Left P t → Left Q t
left_as P Q f (Steps labels v) h = f v h
left_as P Q f (Ends end) h = tt
left_as P Q f Stuck h = tt

-- a task is changed, with the words of its context as they were
edited : (w : World) (t : ℕ) (f : Task → Task) → ((x : Task) → (f x).context ≡ x.context) → IsBare w → IsBare (record w { tasks = changed_at t f w.tasks })
edited w t f same h = (
  all_changed Fits t f w.tasks (λ x e p. subst (λ (c : ℕ × ℕ). (c.0 < 2 ^ 32) × (c.1 < 2 ^ 32)) (sym (same x)) p) h.0,
  h.1,
  length_changed t f w.tasks ∙ h.2,
)

-- Core instances are made.
exits_now : (tasks : List Task) → length tasks ≡ 1 → is_instantiated (changed_at 0 (λ task. record task { state = Exited }) tasks) ≡ true
exits_now [] e = cc
exits_now (x ∷ tasks) e = refl

start_left : (n : ℕ) (o : Option Stack) (w : World) → IsBare w → Left StaysBare (started_up n o w)
unfolding started_up
start_left n None w h = inr (tt, h)
start_left n (Some k) w h =
    inr (tt, edited (in_state 0 (Begins n) w) 0 (λ task. record task { stacks = k ∷ task.stacks }) (λ x. refl) (edited w 0 (λ task. record task { state = Begins n }) (λ x. refl) h))

made_left : (n : ℕ) (c : CoreMake) (imports : List External) (r : Instantiation) (w : World) → IsBare w → Left StaysBare (made n c imports r w)
unfolding made
made_left n c imports (core_instance.SegmentBounds s) w h = inl tt
made_left n c imports (Makes s) w h = start_left (n + 1) (start_call c.of_module (instance_of c.of_module imports w.store) s) (with_store s w) h

comes_so : (v : World) → StaysBare v → ComesBare v
comes_so v (inl doomed) = inl doomed
comes_so v (inr stays) = inr (inr stays)

action_left : (g : Graph) (n : ℕ) (a : Option Action) (w : World) → IsBare w → Left ComesBare (action_turn g n a w)
unfolding action_turn
action_left g n None w h = inr (inl (exits_now w.tasks h.2))
action_left g n (Some (Begin number)) w h = inr (inr (tt, (h.0, all_more IsEmpty w.insts new_inst h.1 refl, h.2)))
action_left g n (Some (Make number)) w h =
    given_left ComesBare (slice_get g.cores number) _ (λ c e. given_left ComesBare (externals w.store c.imports) _ (λ imports i.
    left_as StaysBare ComesBare comes_so (made n c imports (instantiated c.of_module imports w.store) w) (made_left n c imports (instantiated c.of_module imports w.store) w h)))

pub instantiating_left : (g : Graph) (n : ℕ) (w : World) → IsBare w → Left ComesBare (instantiating_turn g n w)
unfolding instantiating_turn
instantiating_left g n w h = action_left g n (slice_get g.plan n) w h

-- Core code makes moves: that of a start function.
stack_left : (g : Graph) (t : ℕ) (task : Task) (state : TaskState) (words : List ℕ) (w : World) → func_of task.callee ≡ None → IsBare w → Left StaysBare (stack_ended g t task state words w)
unfolding stack_ended
stack_left g t task (Begins n) words w none h = inr (tt, edited w t (λ task. record task { state = Acting }) (λ x. refl) h)
stack_left g t task Acting words w none h = given_left StaysBare (func_of task.callee) _ (λ f e. absurd (let clash : None ≡ Some f = sym none ∙ e in let none : ⊥ = cc in none))
stack_left g t task New words w none h = tt
stack_left g t task (AfterCall callee number others) words w none h = tt
stack_left g t task (AfterCancel callee number others) words w none h = tt
stack_left g t task WaitsToEnter words w none h = tt
stack_left g t task (InLoop word) words w none h = tt
stack_left g t task (InBuiltin number others wait) words w none h = tt
stack_left g t task Exited words w none h = tt

over_left : (g : Graph) (t : ℕ) (task : Task) (under : List Stack) (words : List ℕ) (w : World) → func_of task.callee ≡ None → IsBare w → Left StaysBare (ended_over g t task under words w)
unfolding ended_over
over_left g t task [] words w none h = stack_left g t task task.state words w none h
over_left g t task (k ∷ under) words w none h = inr (tt, edited w t (λ task. record task { stacks = answered_stacks [] task.stacks }) (λ x. refl) h)

move_left : (g : Graph) (t : ℕ) (task : Task) (m : Move) (w : World) → func_of task.callee ≡ None → IsBare w → Left StaysBare (moved g t task m w)
unfolding moved
move_left g t task (Goes paid s k) w none h = inr (tt, edited (with_store s w) t (λ task. record task { stacks = k ∷ drop 1 task.stacks }) (λ x. refl) h)
move_left g t task (core.Calls address words k) w none h = inr (tt, edited w t (λ task. record task { stacks = k ∷ drop 1 task.stacks }) (λ x. refl) h)
move_left g t task (core.Ends words) w none h =
    over_left g t task (drop 1 task.stacks) words (unstacked t w) none (edited w t (λ task. record task { stacks = drop 1 task.stacks }) (λ x. refl) h)
move_left g t task (Traps why) w none h = inl tt
move_left g t task core.Stuck w none h = tt

pub running_left : (g : Graph) (s : Script) (w : World) → ((t : ℕ) (task : Task) → slice_get w.tasks t ≡ Some task → func_of task.callee ≡ None) → IsBare w → Left StaysBare (running_turn g s w)
unfolding running_turn
running_left g s w none h =
    given_left StaysBare (acting w) _ (λ a e. given_left StaysBare (slice_get a.1.stacks 0) _ (λ k i.
    charged_left StaysBare (costs k (core.next w.store k)) s w _ (λ units. move_left g a.0 a.1 (core.next w.store k) (record w { units = units }) (none a.0 a.1 (acting_is w a e)) h)))

-- Canonical functions that are called: those of words of context answer, and any other one comes to a trap.

word_fits : (slot : ℕ) (context : ℕ × ℕ) → (context.0 < 2 ^ 32) × (context.1 < 2 ^ 32) → word_at slot context < 2 ^ 32
word_fits zero context h = h.0
word_fits (suc slot) context h = h.1

changed_fits : (slot word : ℕ) (context : ℕ × ℕ) → word < 2 ^ 32 → (context.0 < 2 ^ 32) × (context.1 < 2 ^ 32) → ((word_changed slot word context).0 < 2 ^ 32) × ((word_changed slot word context).1 < 2 ^ 32)
changed_fits zero word context fits h = (fits, h.1)
changed_fits (suc slot) word context fits h = (h.0, fits)

first_word : (words : List ℕ) → AreWords (I32 ∷ []) words → slice_index words 0 < 2 ^ 32
first_word [] h = absurd h
first_word (n ∷ words) h = h.0

-- a word of context says nothing of stacks
context_stands : (g : Graph) (s : Store) (state : TaskState) (x y : Task) → x.callee ≡ y.callee → x.stacks ≡ y.stacks → StandsTyped g s state x → StandsTyped g s state y
context_stands g s state x y callee stacks h = by state h
  where
    waits : (number : ℕ) → WaitsTyped g s number x → WaitsTyped g s number y
    waits number k = (
      k.0,
      k.1,
      subst (λ (c : Callee). TopIs (IsWaiting s (canon_type k.0).results) s c y.stacks) callee (subst (λ (all : List Stack). TopIs (IsWaiting s (canon_type k.0).results) s x.callee all) stacks k.2),
    )

    by : (state : TaskState) → StandsTyped g s state x → StandsTyped g s state y
    by New k = tt
    by Acting k = tt
    by (AfterCall other number words) k = waits number k
    by (AfterCancel other number words) k = waits number k
    by (Begins n) k = k
    by WaitsToEnter k = tt
    by (InLoop word) k = tt
    by (InBuiltin number words wait) k = waits number k
    by Exited k = tt

abbrev in_context : ℕ → ℕ → Task → Task
in_context slot word task = record task { context = word_changed slot word task.context }

ground_word : (g : Graph) (w : World) (t slot word : ℕ) → Ground g w.store w.tasks → Ground g w.store (word_set t slot word w).tasks
ground_word g w t slot word h = record {
  store = h.store;
  canons = h.canons;
  hosts = h.hosts;
  made = λ e. h.made (still_instantiated t (in_context slot word) w.tasks (λ x. refl) e);
  stand = all_changed (λ (x : Task). StandsTyped g w.store x.state x) t (in_context slot word) w.tasks (λ x e k. context_stands g w.store x.state x (in_context slot word x) refl refl k) h.stand;
}

bare_word : (w : World) (t slot word : ℕ) → word < 2 ^ 32 → IsBare w → IsBare (word_set t slot word w)
bare_word w t slot word fits h =
    (all_changed Fits t (in_context slot word) w.tasks (λ x e p. changed_fits slot word x.context fits p) h.0, h.1, length_changed t (in_context slot word) w.tasks ∙ h.2)

-- a table in which nothing is
empty_table : (w : World) (i : ℕ) → AllByRecursion IsEmpty w.insts → table_of w i ≡ []
empty_table w i h = by (slice_get w.insts i) refl
  where
    by : (o : Option Inst) → slice_get w.insts i ≡ o → table_in o ≡ []
    by None e = refl
    by (Some inst) e = all_at IsEmpty w.insts i inst h e

nothing_seen : (w : World) (i index : ℕ) → AllByRecursion IsEmpty w.insts → view_at w i index ≡ None
nothing_seen w i index h = ap (λ (table : List (Event Entry)). option_map (entry_view w i index) (live table index)) (empty_table w i h)

module _ (g : Graph) where
  -- behind a call: a trap, or typed worlds
  abbrev pub AnswersTyped : World → Type 0
  AnswersTyped v = IsDoomed v.control ⊎ (IsTyped g v × IsOfStack v.control × IsBare v)

  -- the acting task of a start function, which waits in a canonical function
  record Caller (w : World) (t number : ℕ) (task : Task) : Type 0 where
    first : IsFirst t w.chain
    there : slice_get w.tasks t ≡ Some task
    runs : RunsIn task.state task.callee
    waits : WaitsTyped g w.store number task
    ground : Ground g w.store w.tasks
    bare : IsBare w

  answer_left : (w : World) (t number : ℕ) (task : Task) (c : CanonFunc) (words : List ℕ) → canon_at g number ≡ Some c → AreWords (canon_type c).results words → Caller w t number task → Left AnswersTyped (replied t words w)
  answer_left w t number task c words at fits h =
      inr (
        typed_by g (goes_on_with t words w) (with_ground g w.store w.tasks t (answered_stacks words) task h.there h.runs h.ground) (answers_are_typed g w t number c words h.first (task, h.there, h.waits) at fits),
        tt,
        edited w t (λ x. record x { stacks = answered_stacks words x.stacks }) (λ x. refl) h.bare,
      )

  -- the same once a word of its context is set
  set_caller : (w : World) (t number : ℕ) (task : Task) (slot word : ℕ) → word < 2 ^ 32 → Caller w t number task → Caller (word_set t slot word w) t number (in_context slot word task)
  set_caller w t number task slot word fits h = record {
    first = h.first;
    there = changed_there t (in_context slot word) w.tasks task h.there;
    runs = h.runs;
    waits = h.waits;
    ground = ground_word g w t slot word h.ground;
    bare = bare_word w t slot word fits h.bare;
  }

  context_left : (w : World) (t number : ℕ) (task : Task) (c : CanonFunc) (words : List ℕ) (op : ContextOp) (slot : ℕ) → canon_at g number ≡ Some c → canon_type c ≡ context_type op → AreWords (context_type op).params words → Caller w t number task
      → Left AnswersTyped (exempt_turn t (context_answer t words op slot w) w)
  unfolding exempt_turn
  context_left w t number task c words context_op.Get slot at type fits h =
      let word : word_of slot (task_at w t) < 2 ^ 32 = subst (λ (o : Option Task). word_of slot o < 2 ^ 32) (sym h.there) (word_fits slot task.context (all_at Fits w.tasks t task h.bare.0 h.there)) in
      answer_left w t number task c (word_of slot (task_at w t) ∷ []) at (subst (λ (f : FuncType). AreWords f.results (word_of slot (task_at w t) ∷ [])) (sym type) (word, tt)) h
  context_left w t number task c words context_op.Set slot at type fits h =
      let word : ℕ = slice_index words 0 in
      answer_left (word_set t slot word w) t number (in_context slot word task) c [] at (subst (λ (f : FuncType). AreWords f.results []) (sym type) tt) (set_caller w t number task slot word (first_word words fits) h)

  rep_left : (w : World) (t i resource index : ℕ) → IsBare w → Left AnswersTyped (exempt_turn t (rep_answered w (renamed refusal_name (rep_of (handle_in (view_at w i index) resource)))) w)
  unfolding exempt_turn
  rep_left w t i resource index h =
      subst (λ (o : Option EntryView). Left AnswersTyped (exempt_turn t (rep_answered w (renamed refusal_name (rep_of (handle_in o resource)))) w)) (sym (nothing_seen w i index h.1)) (inl tt)

  -- what may not be called before all is instantiated
  refused_left : (w : World) (t number : ℕ) (task : Task) (c : CanonFunc) (words : List ℕ) → may_leave w ≡ false → Left AnswersTyped (allowed g t task number c words None w)
  unfolding allowed
  refused_left w t number task c words none = either_left AnswersTyped (may_leave w) _ _ (λ e. absurd (let clash : true ≡ false = sym e ∙ none in let none : ⊥ = cc in none)) (λ e. inl tt)

  kind_left : (w : World) (t number i : ℕ) (task : Task) (c : CanonFunc) (words : List ℕ) (k : BuiltinKind) → canon_at g number ≡ Some c → canon_type c ≡ builtin_type k → AreWords (builtin_type k).params words → may_leave w ≡ false
      → Caller w t number task → Left AnswersTyped (allowed g t task number c words (exempt_kind t words i k) w)
  unfolding allowed
  kind_left w t number i task c words (builtin.Context op slot) at type fits none h = context_left w t number task c words op slot at type fits h
  kind_left w t number i task c words (builtin.Resource resource_op.Rep resource) at type fits none h = rep_left w t i resource (slice_index words 0) h.bare
  kind_left w t number i task c words (builtin.Resource resource_op.New resource) at type fits none h = refused_left w t number task c words none
  kind_left w t number i task c words (builtin.Resource resource_op.Drop resource) at type fits none h = refused_left w t number task c words none
  kind_left w t number i task c words (builtin.TaskReturn result options) at type fits none h = refused_left w t number task c words none
  kind_left w t number i task c words (builtin.Plain op) at type fits none h = refused_left w t number task c words none
  kind_left w t number i task c words (builtin.Wait op cancellable memory) at type fits none h = refused_left w t number task c words none
  kind_left w t number i task c words (builtin.End of_what element op) at type fits none h = refused_left w t number task c words none

  call_left : (w : World) (t number : ℕ) (task : Task) (c : CanonFunc) (words : List ℕ) → canon_at g number ≡ Some c → AreWords (canon_type c).params words → may_leave w ≡ false → Caller w t number task
      → Left AnswersTyped (allowed g t task number c words (exempt_of t words c) w)
  call_left w t number task (canon.Lower l) words at fits none h = refused_left w t number task (canon.Lower l) words none
  call_left w t number task (canon.Builtin b) words at fits none h = kind_left w t number b.instance task (canon.Builtin b) words b.kind at refl fits none h

  pub calling_left : (w : World) (number : ℕ) (words : List ℕ) → OneActs IsRunning (outlines_of w.tasks) w.chain → FirstIs w.tasks w.chain (CallsTyped g w.store number words) → Ground g w.store w.tasks → IsBare w → may_leave w ≡ false
      → Left AnswersTyped (calling_turn g number words w)
  unfolding calling_turn
  calling_left w number words o acts ground bare none =
      given_left AnswersTyped (acting w) _ (λ a e. given_left AnswersTyped (canon_at g number) _ (λ c i.
      behind_left AnswersTyped (line.Do a.0 (builtin_of c) words ∷ []) (allowed g a.0 a.1 number c words (exempt_of a.0 words c) w)
      (let first : IsFirst a.0 w.chain = acting_first w a e in
      let there : slice_get w.tasks a.0 ≡ Some a.1 = acting_is w a e in
      let running : IsRunning (outline_of a.1) = is_what IsRunning a.0 w (outline_of a.1) (acts_at IsRunning w a e o) (outline_there w.tasks a.0 a.1 there) in
      let calls : CallsTyped g w.store number words a.1 = one_task w.tasks a.0 (CallsTyped g w.store number words) a.1 there (first_at w.tasks w.chain a.0 (CallsTyped g w.store number words) first acts) in
      let fits : AreWords (canon_type c).params words = subst (λ (x : CanonFunc). AreWords (canon_type x).params words) (some_same (sym calls.1 ∙ i)) calls.2 in
      call_left w a.0 number a.1 c words i fits none (record { first = first; there = there; runs = running.0; waits = (calls.0, calls.1, calls.3); ground = ground; bare = bare }))))

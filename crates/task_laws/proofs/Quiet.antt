-- Nested code is quiet: by the rule of each of its moves, and so of all that follow each other.
use Rattle.std.proofs.Common.{◌≡◌, ◌≤◌, ◌+◌, ℕ, Bool, true, false, nat_eq, nat_lt, List, [], ◌∷◌, ◌++◌, refl, sym, ap, ◌∙◌, subst, arith, Option, Some, None, Result, Ok, Err, if◌then◌else◌}
use Rattle.std.specs.Prelude.{slice_index}
use Rattle.std.proofs.lemmas.Bool.Decides.{nat_tests}
use Rattle.std.specs.List.{AllByRecursion}
use Rattle.wasm_store.specs.Store.{Store}
use Rattle.wasm_store.specs.Stack.{Stack}
use Rattle.wasm_store.specs.Step.{Move}
use Rattle.wasm_store.specs.Step as core
use Rattle.builtin_kinds.specs.declared.ContextOp.TheVariants as context_op
use Rattle.builtin_kinds.specs.declared.ResourceOp.TheVariants as resource_op
use Rattle.comp_graph.specs.declared.graph.BuiltinKind.{BuiltinKind}
use Rattle.comp_graph.specs.declared.graph.BuiltinKind.TheVariants as kind
use Rattle.comp_graph.specs.declared.graph.CanonFunc.{CanonFunc}
use Rattle.comp_graph.specs.declared.graph.CanonFunc.TheVariants as canon
use Rattle.comp_graph.specs.Graph.{Graph}
use Rattle.script_reader.specs.Script.{Script}
use Rattle.trace_labels.specs.declared.label.Label.{Label}
use Rattle.trace_labels.specs.declared.label.Label.TheVariants as line
use Rattle.trace_labels.specs.declared.trap.TrapName.{TrapName}
use Rattle.trace_labels.specs.declared.trap.TrapName.TheVariants as trap
use Rattle.abi_machine.specs.declared.run_end.RunEnd.{RunEnd}
use Rattle.abi_machine.specs.declared.run_end.RunEnd.TheVariants.{Fuel}
use Rattle.abi_machine.specs.Traps.{core_name}
use Rattle.abi_machine.specs.Control.{HostedState, Going, AtCall, Nested, Behind, InLowering, BeforeLeaving, Control, Free, Chosen, Instantiates, Runs, Calls, Arrives, Lowers, Quiet, Back, Goes, Resumes, Delivers, Leaves, Doomed}
use Rattle.abi_machine.specs.World.{Task, World}
use Rattle.abi_machine.specs.Edits.{changed_at, with_control, with_store, unit_spent, word_changed, word_set}
use Rattle.abi_machine.specs.Canons.{builtin_of, inst_of_canon, canon_at}
use Rattle.abi_machine.specs.Turn.{Turn, Steps, Ends, Stuck, silent, doomed, behind, given, charged}
use Rattle.abi_machine.specs.Next.{next, next_by}
use Rattle.abi_machine.specs.Run.{lines_of}
use Rattle.abi_machine.specs.CoreSteps.{costs}
use Rattle.abi_machine.specs.Nested.{hosted_move, hosted_next, nested_ended, answered_in_place, answered_or_refused, calls_host, hosted, nested_turn}
use Rattle.abi_machine.specs.replies.Context.{Exempt, Answers, rep_answered, exempt_kind, exempt_of}
use Rattle.abi_machine.proofs.sound.Lists.{length_changed}
use Rattle.abi_machine.proofs.sound.Found.{changed_there}
use Rattle.abi_machine.proofs.sound.Chained.{other_there}
use Rattle.task_laws.specs.QuietCode.{IsQuietLine, KeepTasks, IsQuietChange, GoesFrom, EndsWith, MayTrap, GoesOnQuietly, IsQuietStep, NestedStepsAreQuiet, NestedEndsWantFuel, IsNestedFor, NestedRunsAreQuiet}

-- Tasks.
tasks_same : (t : ℕ) (tasks : List Task) → KeepTasks t tasks tasks
tasks_same t tasks = record { long = refl; others = λ n other. refl; own = λ task there. (task, there, refl) }

word_keeps : (t slot word : ℕ) (tasks : List Task) → KeepTasks t tasks (changed_at t (λ task. record task { context = word_changed slot word task.context }) tasks)
word_keeps t slot word tasks = record {
  long = length_changed t f tasks;
  others = λ n other. other_there t n f tasks (λ same. other (sym same));
  own = λ task there. (f task, changed_there t f tasks task there, refl);
}
  where
    f : Task → Task
    f task = record task { context = word_changed slot word task.context }

tasks_both : (t : ℕ) (tasks later last : List Task) → KeepTasks t tasks later → KeepTasks t later last → KeepTasks t tasks last
tasks_both t tasks later last a b = record {
  long = b.long ∙ a.long;
  others = λ n other. b.others n other ∙ a.others n other;
  own = λ task there.
      let x = a.own task there in
      let y = b.own x.0 x.1 in
      (y.0, y.1, y.2 ∙ ap (λ (z : Task). record z { context = y.0.context }) x.2);
}

change_both : (t : ℕ) (w u v : World) → IsQuietChange t w u → IsQuietChange t u v → IsQuietChange t w v
change_both t w u v a b = record {
  insts = b.insts ∙ a.insts;
  tasks = tasks_both t w.tasks u.tasks v.tasks a.tasks b.tasks;
  streams = b.streams ∙ a.streams;
  futures = b.futures ∙ a.futures;
  chain = b.chain ∙ a.chain;
  picks = b.picks ∙ a.picks;
  taken = b.taken ∙ a.taken;
  units = (let one : w.units ≤ u.units = a.units in let more : u.units ≤ v.units = b.units in omega (arith, one, more));
}

no_change : (t : ℕ) (w : World) (control : Control) (store : Store) → IsQuietChange t w (record w { control = control; store = store })
no_change t w control store =
    record { insts = refl; tasks = tasks_same t w.tasks; streams = refl; futures = refl; chain = refl; picks = refl; taken = refl; units = omega arith }

unit_change : (t : ℕ) (w : World) (control : Control) (store : Store) → IsQuietChange t w (record w { control = control; store = store; units = w.units + 1 })
unit_change t w control store =
    record { insts = refl; tasks = tasks_same t w.tasks; streams = refl; futures = refl; chain = refl; picks = refl; taken = refl; units = omega arith }

all_used : (units fuel : ℕ) → nat_lt units fuel ≡ false → fuel ≤ units
all_used units fuel e = grind (arith, nat_tests)

-- A move.
module _ (g : Graph) (s : Script) (n : Nested) (b : Behind) (w : World) where
  abbrev pub Quietly : Turn → Type 0
  Quietly (Steps labels v) = IsQuietStep n b w labels v
  Quietly (Ends end) = (end ≡ Fuel) × (s.fuel ≤ w.units)
  Quietly Stuck = Unit {0}

  abbrev pub v : World
  v = with_control Free w

  quiet_given : {A : Type 0} (o : Option A) (f : A → Turn) → ((x : A) → Quietly (f x)) → Quietly (given o f)
  quiet_given None f each = tt
  quiet_given (Some x) f each = each x

  quiet_either : (test : Bool) (a c : Turn) → Quietly a → Quietly c → Quietly (if test then a else c)
  quiet_either true a c h k = h
  quiet_either false a c h k = k

  quiet_call : (l : Label) (turn : Turn) → IsQuietLine n.acts_for l → Quietly turn → Quietly (behind (l ∷ []) turn)
  quiet_call l (Steps labels u) is h = record { lines = (is, h.lines); change = h.change; one_unit = h.one_unit; goes_on = h.goes_on }
  quiet_call l (Ends end) is h = h
  quiet_call l Stuck is h = tt

  -- a turn for which a unit is left, or none is
  quiet_paid : (turn : Turn) → Quietly turn → Quietly (if nat_lt w.units s.fuel then turn else Ends Fuel)
  quiet_paid turn h = by (nat_lt w.units s.fuel) refl
    where
      by : (test : Bool) → nat_lt w.units s.fuel ≡ test → Quietly (if test then turn else Ends Fuel)
      by true e = h
      by false e = (refl, all_used w.units s.fuel e)

  quiet_doomed : (why : TrapName) → MayTrap n.state w.store why → Quietly (doomed n.blame why v)
  quiet_doomed why may = record { lines = tt; change = no_change n.acts_for w (Doomed n.blame why) w.store; one_unit = omega arith; goes_on = (refl, refl, may) }

  quiet_on : (paid : Bool) (state : HostedState) (store : Store) → GoesFrom n.state w.store state store → Quietly (charged paid s v (λ v. silent (Quiet (record n { state = state }) b) (with_store store v)))
  quiet_on false state store from =
      record { lines = tt; change = no_change n.acts_for w (Quiet (record n { state = state }) b) store; one_unit = omega arith; goes_on = (refl, refl, from) }
  quiet_on true state store from =
      let turn : Turn = silent (Quiet (record n { state = state }) b) (with_store store (unit_spent v)) in
      let h : Quietly turn = record { lines = tt; change = unit_change n.acts_for w (Quiet (record n { state = state }) b) store; one_unit = omega arith; goes_on = (refl, refl, from) } in
      quiet_paid turn h

  quiet_trap : (why : TrapName) → MayTrap n.state w.store why → Quietly (charged true s v (λ v. doomed n.blame why v))
  quiet_trap why may =
      let turn : Turn = doomed n.blame why (unit_spent v) in
      let h : Quietly turn = record { lines = tt; change = unit_change n.acts_for w (Doomed n.blame why) w.store; one_unit = omega arith; goes_on = (refl, refl, may) } in
      quiet_paid turn h

  -- calls that are answered in place
  abbrev AnswersQuietly : Result Answers TrapName → Type 0
  AnswersQuietly (Ok answer) = IsQuietChange n.acts_for w answer.world × (answer.world.units ≡ w.units) × (answer.world.store ≡ w.store)
  AnswersQuietly (Err why) = Unit {0}

  abbrev ExemptQuietly : Option Exempt → Type 0
  ExemptQuietly None = Unit {0}
  ExemptQuietly (Some exempt) = AnswersQuietly (exempt v)

  rep_quiet : (r : Result ℕ TrapName) → AnswersQuietly (rep_answered v r)
  rep_quiet (Err why) = tt
  rep_quiet (Ok rep) = (no_change n.acts_for w Free w.store, refl, refl)

  word_change : (slot word : ℕ) → IsQuietChange n.acts_for w (word_set n.acts_for slot word v)
  word_change slot word =
      record { insts = refl; tasks = word_keeps n.acts_for slot word w.tasks; streams = refl; futures = refl; chain = refl; picks = refl; taken = refl; units = omega arith }

  kind_quiet : (words : List ℕ) (i : ℕ) (of_kind : BuiltinKind) → ExemptQuietly (exempt_kind n.acts_for words i of_kind)
  kind_quiet words i (kind.Context context_op.Get slot) = (no_change n.acts_for w Free w.store, refl, refl)
  kind_quiet words i (kind.Context context_op.Set slot) = (word_change slot (slice_index words 0), refl, refl)
  kind_quiet words i (kind.Resource resource_op.Rep resource) = rep_quiet _
  kind_quiet words i (kind.Resource resource_op.New resource) = tt
  kind_quiet words i (kind.Resource resource_op.Drop resource) = tt
  kind_quiet words i (kind.TaskReturn result options) = tt
  kind_quiet words i (kind.Plain op) = tt
  kind_quiet words i (kind.Wait op cancellable memory) = tt
  kind_quiet words i (kind.End of_what element op) = tt

  exempt_quiet : (words : List ℕ) (c : CanonFunc) → ExemptQuietly (exempt_of n.acts_for words c)
  exempt_quiet words (canon.Lower l) = tt
  exempt_quiet words (canon.Builtin c) = kind_quiet words c.instance c.kind

  -- It is at a call.
  module _ (number : ℕ) (words : List ℕ) (k : Stack) (is : n.state ≡ AtCall number words k) where
    refused : (why : TrapName) → MayTrap n.state w.store why
    refused why = subst (λ (x : HostedState). MayTrap x w.store why) (sym is) tt

    quiet_answer : (r : Result Answers TrapName) → AnswersQuietly r → Quietly (answered_in_place n b k r v)
    unfolding answered_in_place
    quiet_answer (Err why) h = quiet_doomed why (refused why)
    quiet_answer (Ok answer) h = record {
      lines = (refl, tt);
      change = change_both n.acts_for w answer.world _ h.0 (no_change n.acts_for answer.world _ answer.world.store);
      one_unit = (let same : answer.world.units ≡ w.units = h.1 in omega (arith, same));
      goes_on = (
        refl,
        refl,
        subst (λ (x : HostedState). GoesFrom x w.store (Going (core.resume answer.words k)) answer.world.store) (sym is) ((answer.words, refl), h.2),
      );
    }

    quiet_refused : (o : Option Exempt) → ExemptQuietly o → Quietly (answered_or_refused n b k o v)
    unfolding answered_or_refused
    quiet_refused None h = quiet_doomed trap.CannotLeave (refused trap.CannotLeave)
    quiet_refused (Some exempt) h = quiet_answer (exempt v) h

    quiet_host : (c : CanonFunc) → Quietly (calls_host n b k words c v)
    unfolding calls_host
    quiet_host c =
        quiet_either (nat_eq (inst_of_canon c) n.inst) _ Stuck
        (quiet_call (line.Do n.acts_for (builtin_of c) words) (answered_or_refused n b k (exempt_of n.acts_for words c) v) refl (quiet_refused (exempt_of n.acts_for words c) (exempt_quiet words c))) tt

  quiet_ended : (ended : List ℕ) (c : Behind) → b ≡ c → EndsWith n.state w.store ended → Quietly (nested_ended c ended v)
  unfolding nested_ended
  quiet_ended [] (InLowering l k) is ends = tt
  quiet_ended (place ∷ words) (InLowering l k) is ends = record {
    lines = tt;
    change = no_change n.acts_for w (Lowers l (k place)) w.store;
    one_unit = omega arith;
    goes_on = subst (λ (x : Behind). GoesOnQuietly n x w.store w.store (Lowers l (k place))) (sym is) (refl, refl, (place, (words, ends, refl)));
  }
  quiet_ended ended BeforeLeaving is ends = record {
    lines = tt;
    change = no_change n.acts_for w Leaves w.store;
    one_unit = omega arith;
    goes_on = subst (λ (x : Behind). GoesOnQuietly n x w.store w.store Leaves) (sym is) (refl, (ended, ends));
  }

  -- It makes a step of core execution.
  quiet_move : (k : Stack) → n.state ≡ Going k → (move : Move) → core.next w.store k ≡ move → Quietly (hosted g s n b (hosted_move k w.store move) v)
  unfolding hosted
  quiet_move k is (core.Goes paid store l) e = quiet_on paid (Going l) store (subst (λ (x : HostedState). GoesFrom x w.store (Going l) store) (sym is) (paid, e))
  quiet_move k is (core.Calls number words l) e =
      quiet_on (costs k (core.Calls number words l)) (AtCall number words l) w.store
      (subst (λ (x : HostedState). GoesFrom x w.store (AtCall number words l) w.store) (sym is) (e, refl))
  quiet_move k is (core.Ends ended) e = quiet_ended ended b refl (subst (λ (x : HostedState). EndsWith x w.store ended) (sym is) e)
  quiet_move k is (core.Traps why) e = quiet_trap (core_name why) (subst (λ (x : HostedState). MayTrap x w.store (core_name why)) (sym is) (why, e, refl))
  quiet_move k is core.Stuck e = tt

  quiet_hosted : (state : HostedState) → n.state ≡ state → Quietly (hosted g s n b (hosted_next state w.store) v)
  unfolding hosted
  quiet_hosted (Going k) is = quiet_move k is (core.next w.store k) refl
  quiet_hosted (AtCall number words k) is = quiet_given (canon_at g number) (λ c. calls_host n b k words c v) (λ c. quiet_host number words k is c)

  pub quiet_turn : Quietly (nested_turn g s n b v)
  unfolding nested_turn
  quiet_turn = quiet_hosted n.state refl

quiet_next : (g : Graph) (s : Script) (w : World) (turn : Turn) (n : Nested) (b : Behind) → w.control ≡ Quiet n b → next g s w ≡ turn → Quietly g s n b w turn
quiet_next g s w turn n b e f = subst (Quietly g s n b w) (sym (ap (next_by g s (with_control Free w)) e) ∙ f) (quiet_turn g s n b w)

pub nested_steps_are_quiet : NestedStepsAreQuiet
nested_steps_are_quiet g s w v labels n b e f = quiet_next g s w (Steps labels v) n b e f

pub nested_ends_want_fuel : NestedEndsWantFuel
nested_ends_want_fuel g s w end n b e f = quiet_next g s w (Ends end) n b e f

-- Moves that follow each other.

nested_is : (t : ℕ) (c : Control) → IsNestedFor t c → (n : Nested) × ((b : Behind) × (c ≡ Quiet n b) × (n.acts_for ≡ t))
nested_is t (Quiet n b) h = (n, (b, refl, h))
nested_is t Free h = absurd h
nested_is t (Chosen k) h = absurd h
nested_is t (Instantiates n) h = absurd h
nested_is t Runs h = absurd h
nested_is t (Calls number words) h = absurd h
nested_is t Arrives h = absurd h
nested_is t (Lowers l plan) h = absurd h
nested_is t Back h = absurd h
nested_is t Goes h = absurd h
nested_is t Resumes h = absurd h
nested_is t (Delivers set receiver pick) h = absurd h
nested_is t Leaves h = absurd h
nested_is t (Doomed by why) h = absurd h

all_both : {A : Type 0} (P : A → Type 0) (xs ys : List A) → AllByRecursion P xs → AllByRecursion P ys → AllByRecursion P (xs ++ ys)
all_both P [] ys h k = k
all_both P (x ∷ xs) ys h k = (h.0, all_both P xs ys h.1 k)

abbrev AreQuiet : ℕ → World → List Label → World → Type 0
AreQuiet t w labels v = AllByRecursion (IsQuietLine t) labels × IsQuietChange t w v

step_quiet : (g : Graph) (s : Script) (t : ℕ) (w v : World) (labels : List Label) → IsNestedFor t w.control → next g s w ≡ Steps labels v → AreQuiet t w labels v
step_quiet g s t w v labels h f =
    let is = nested_is t w.control h in
    let step : IsQuietStep is.0 is.1.0 w labels v = nested_steps_are_quiet g s w v labels is.0 is.1.0 is.1.1 f in
    subst (λ (u : ℕ). AreQuiet u w labels v) is.1.2 (step.lines, step.change)

pub nested_runs_are_quiet : NestedRunsAreQuiet
nested_runs_are_quiet g s t w [] v r = (tt, subst (IsQuietChange t w) (sym r) (no_change t w w.control w.store))
nested_runs_are_quiet g s t w (labels ∷ steps) v r =
    let one : AreQuiet t w labels r.1.0 = step_quiet g s t w r.1.0 labels r.0 r.1.1 in
    let more : AreQuiet t r.1.0 (lines_of steps) v = nested_runs_are_quiet g s t r.1.0 steps v r.1.2 in
    (all_both (IsQuietLine t) labels (lines_of steps) one.0 more.0, change_both t w r.1.0 v one.1 more.1)

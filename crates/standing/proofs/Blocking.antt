-- Something happens to a task; the acting task blocks, or is told its cancellation.
use Rattle.std.proofs.Common.{◌≡◌, ℕ, suc, ◌-◌, Bool, true, false, ◌&&◌, is_some, nat_lt, if◌then◌else◌, List, [], ◌∷◌, ◌++◌, length, take, drop, refl, sym, ap, ◌∙◌, subst, append_assoc, arith, Option, Some, None, Err}
use Rattle.std.specs.List.{slice_get}
use Rattle.std.proofs.lemmas.Bool.{lt-ltb, and_parts}
use Rattle.std.proofs.lemmas.List.{set-set}
use Rattle.syntax_trees.specs.declared.types.ValType.{ValType}
use Rattle.wasm_store.specs.Stack.{Stack}
use Rattle.tasks.specs.declared.event.BlockedAt.{BlockedAt}
use Rattle.tasks.specs.declared.event.BlockedAt.TheVariants as blocked_at
use Rattle.tasks.specs.declared.event.TaskEvent.{TaskEvent}
use Rattle.tasks.specs.declared.event.TaskEvent.TheVariants as event
use Rattle.tasks.specs.declared.event.TaskTrap.{TaskTrap}
use Rattle.tasks.specs.declared.phase.Phase.TheVariants as phase
use Rattle.tasks.specs.declared.phase.Cancellation.{Cancellation}
use Rattle.tasks.specs.declared.phase.Cancellation.TheVariants.{Delivered}
use Rattle.tasks.specs.Tasks as task_of
use Rattle.tasks.specs.Tasks.{may_happen, fault, is_acting, is_entry, is_asked}
use Rattle.comp_graph.specs.Graph.{Graph}
use Rattle.script_reader.specs.Script.{Script}
use Rattle.trace_labels.specs.declared.label.BlockReason.{BlockReason}
use Rattle.trace_labels.specs.declared.label.BlockReason.TheVariants as reason
use Rattle.trace_labels.specs.declared.label.Label.{Label}
use Rattle.trace_labels.specs.declared.label.Label.TheVariants as line
use Rattle.task_table.specs.declared.errand.Errand.{Errand}
use Rattle.task_table.specs.declared.errand.Errand.TheVariants as errand
use Rattle.task_table.specs.declared.refusal.EventError.TheVariants.{NotNow}
use Rattle.task_table.specs.declared.slot.TaskSlot.{TaskSlot}
use Rattle.task_table.specs.Slots as slots
use Rattle.task_table.specs.Slots.{trapped, event_answer, advanced_slot, at_errand}
use Rattle.world_parts.specs.declared.parts.Flow.{Flow}
use Rattle.world_parts.specs.declared.parts.Flow.TheVariants as flow
use Rattle.world_parts.specs.Held.{Held, Done, Gives, after, given}
use Rattle.world_parts.specs.Held as kept
use Rattle.world_parts.specs.Feed.{told, at_rest, rest_behind, unchained, left_chain, got}
use Rattle.world_parts.specs.Slots.{with_task, happened, happens, errand_set}
use Rattle.world_parts.specs.Calls.{blocked, blocked_in}
use Rattle.world_parts.specs.Plain.{yield_cancelled, task_yield}
use Rattle.abi_machine.specs.Control.{Control}
use Rattle.abi_machine.specs.World.{ForYield, TaskState, InBuiltin, Task, World}
use Rattle.abi_machine.specs.Edits as world
use Rattle.abi_machine.specs.Edits.{with_control, control_behind, in_state, with_cancellation}
use Rattle.abi_machine.specs.Canons.{flag_at}
use Rattle.abi_machine.specs.Counting.{phase_of}
use Rattle.abi_machine.specs.Turn as turns
use Rattle.abi_machine.specs.Turn.{Turn, Steps}
use Rattle.abi_machine.specs.Delivering as machine
use Rattle.abi_machine.specs.replies.Tasks.{yield_turn}
use Rattle.abi_machine.proofs.sound.Found.{some_same}
use Rattle.standing.specs.Tasks.{errand_of, IsPlaced, TaskStands}
use Rattle.standing.specs.Stands.{backwards, Stands}
use Rattle.standing.specs.Agreeing.{acting_words, control_of, Agrees}
use Rattle.standing.specs.Rows.{TaskYields}
use Rattle.standing.proofs.Feeds.{without_last}
use Rattle.standing.proofs.Changes.{tasks_change, tasks_leave_the_chain}
use Rattle.standing.proofs.Agreeing.{on_slot, get_set}

-- What happens to a task that may, and is not refused.
pub happened_when : (e : TaskEvent) (x : TaskSlot) (t : ℕ) (h : Held) → may_happen e x.task ≡ true → fault e x.task ≡ None
    → happened (event_answer e x.task) t (advanced_slot e x) h ≡ Gives tt (with_task t (slots.with_task (task_of.after e x.task) x) h)
happened_when e x t h may none =
    ap (λ (b : Bool). happened (if b then trapped (fault e x.task) else Err NotNow) t (if b then slots.with_task (task_of.advanced e x.task) x else x) h) may
    ∙ ap (λ (f : Option TaskTrap). happened (trapped f) t (slots.with_task (task_of.unless f (task_of.after e x.task) x.task) x) h) none

pub happens_when : (e : TaskEvent) (x : TaskSlot) (t : ℕ) (h : Held) → slice_get h.tasks t ≡ Some x → may_happen e x.task ≡ true → fault e x.task ≡ None
    → happens t e h ≡ Gives tt (with_task t (slots.with_task (task_of.after e x.task) x) h)
happens_when e x t h is may none =
    ap (λ (o : Option TaskSlot). given o (λ slot. happened (event_answer e slot.task) t (advanced_slot e slot) h)) is ∙ happened_when e x t h may none

-- A test, and what is known behind it.
pub on_test : (g : Graph) (values : List ValType) (s : Script) (t : ℕ) (before : List Label) (stacks : List (List Stack)) (b c : Bool) (d e : Done Flow) (u v : Turn) → b ≡ c
    → (b ≡ true → Agrees g values s t before stacks d u) → (b ≡ false → Agrees g values s t before stacks e v) → Agrees g values s t before stacks (if b then d else e) (if c then u else v)
on_test g values s t before stacks true true d e u v same p q = p refl
on_test g values s t before stacks false false d e u v same p q = q refl
on_test g values s t before stacks true false d e u v same p q = absurd (cc)
on_test g values s t before stacks false true d e u v same p q = absurd (cc)

-- A task is told its cancellation.
pub told_stands : (g : Graph) (s : Script) (x : TaskSlot) (a : Task) → TaskStands g s x a
    → TaskStands g s (slots.with_task (record x.task { cancellation = Delivered }) x) (record a { cancellation = Delivered })
told_stands g s x a st = record {
  does = st.does;
  place = st.place;
  lifted = st.lifted;
  called = st.called;
  seen = st.seen;
  far = st.far;
  at = st.at;
  resolved = st.resolved;
  cancelled = refl;
  words = st.words;
  placed = st.placed;
}

pub yield_told : (g : Graph) (values : List ValType) (s : Script) (h : Held) (stacks : List (List Stack)) (w : World) (t : ℕ) (x : TaskSlot)
    → slice_get h.tasks t ≡ Some x → is_asked x.task.cancellation ≡ true → Stands g values s h stacks w
    → Agrees g values s t h.labels stacks (yield_cancelled t h) (machine.yield_cancelled t w)
unfolding yield_cancelled machine.yield_cancelled
yield_told g values s h stacks w t x is asked st =
    subst (λ (d : Done (Unit {0})). Agrees g values s t h.labels stacks (after d (λ done k. after (told (line.Event t 6 0 0) k) (λ done l. got t (1 ∷ []) l))) (machine.yield_cancelled t w))
    (sym (happens_when event.ToldCancel x t h is asked refl))
    (record {
      lines = line.Event t 6 0 0 ∷ line.Got t (1 ∷ []) ∷ [];
      world = with_cancellation t Delivered w;
      stands = tasks_change g values s h stacks w t x (slots.with_task (record x.task { cancellation = Delivered }) x) (λ task. record task { cancellation = Delivered }) is
          (λ a e now. told_stands g s x a now) (λ a. refl) st;
      told = append_assoc h.labels (line.Event t 6 0 0 ∷ []) (line.Got t (1 ∷ []) ∷ []);
      ends = (refl, refl);
    })

-- Control behind a task that leaves the chain.
back_last : (words zs : List ℕ) (u : ℕ) → control_of words (rest_behind (zs ++ u ∷ [])) ≡ control_behind (u ∷ [])
back_last words [] u = refl
back_last words (z ∷ zs) u = refl

pub control_left : (words chain : List ℕ) → control_of words (rest_behind (backwards chain)) ≡ control_behind chain
control_left words [] = refl
control_left words (u ∷ chain) = back_last words (backwards chain) u

long_last : (zs : List ℕ) (u : ℕ) → nat_lt 0 (length (zs ++ u ∷ [])) ≡ true
long_last [] u = refl
long_last (z ∷ zs) u = lt-ltb 0 (suc (length (zs ++ u ∷ []))) (omega arith)

pub some_acts : (chain : List ℕ) (t : ℕ) → slice_get chain 0 ≡ Some t → nat_lt 0 (length (backwards chain)) ≡ true
some_acts [] t e = absurd (cc)
some_acts (u ∷ chain) t e = long_last (backwards chain) u

-- The acting task blocks in a canonical function.
blocked_stands : (g : Graph) (s : Script) (x : TaskSlot) (a : Task) (why : BlockedAt) (flag : Bool) (state : TaskState) (e : Errand)
    → phase_of (flag_at g) state ≡ phase.Blocked why flag → errand_of state ≡ e → IsPlaced x.at_words state → TaskStands g s x a
    → TaskStands g s (slots.with_task (record x.task { phase = phase.Blocked why flag }) (at_errand e x)) (record a { state = state })
blocked_stands g s x a why flag state e far at placed st = record {
  does = st.does;
  place = st.place;
  lifted = st.lifted;
  called = st.called;
  seen = st.seen;
  far = sym far;
  at = sym at;
  resolved = st.resolved;
  cancelled = st.cancelled;
  words = st.words;
  placed = placed;
}

pub on_blocked : (g : Graph) (values : List ValType) (s : Script) (h : Held) (stacks : List (List Stack)) (w : World) (t : ℕ) (x : TaskSlot) (why : BlockedAt) (flag : Bool)
    (reason : BlockReason) (state : TaskState) (e : Errand)
    → slice_get h.tasks t ≡ Some x → is_entry why ≡ false → is_acting x.task.phase ≡ true → phase_of (flag_at g) state ≡ phase.Blocked why flag → errand_of state ≡ e
    → IsPlaced x.at_words state → slice_get w.chain 0 ≡ Some t → Stands g values s h stacks w
    → Agrees g values s t h.labels stacks (after (errand_set t e h) (λ done k. blocked t why flag reason k)) (turns.blocked t state reason w)
unfolding blocked
on_blocked g values s h stacks w t x why flag reason state e is inside acts far at placed first st =
    let waits : TaskSlot = slots.with_task (record x.task { phase = phase.Blocked why flag }) (at_errand e x) in
    let set : Held = with_task t (at_errand e x) h in
    let may : may_happen (event.Block why flag) (at_errand e x).task ≡ true = ap (λ (b : Bool). if b then task_of.is_new x.task.phase else is_acting x.task.phase) inside ∙ acts in
    let once : Stands g values s (with_task t waits h) stacks (in_state t state w) =
    tasks_change g values s h stacks w t x waits (λ task. record task { state = state }) is (λ a there now. blocked_stands g s x a why flag state e far at placed now) (λ a. refl) st in
    let twice : Stands g values s (with_task t waits set) stacks (in_state t state w) =
    subst (λ (ts : List TaskSlot). Stands g values s (record h { tasks = ts }) stacks (in_state t state w)) (sym (set-set h.tasks t (at_errand e x) waits)) once in
    let some : nat_lt 0 (length h.chain) ≡ true = ap (λ (chain : List ℕ). nat_lt 0 (length chain)) st.same_chain ∙ some_acts w.chain t first in
    let left : Held = at_rest (rest_behind (take (length h.chain - 1) h.chain)) (unchained (record (with_task t waits set) { labels = h.labels ++ line.Block t reason ∷ [] })) in
    subst (λ (o : Option TaskSlot). Agrees g values s t h.labels stacks (after (given o (λ slot. Gives tt (with_task t (at_errand e slot) h))) (λ (done : Unit {0}) k.
    after (happens t (event.Block why flag) k) (λ done l. after (told (line.Block t reason) l) (λ done m. left_chain m)))) (turns.blocked t state reason w))
    (sym is)
    (subst (λ (d : Done (Unit {0})). Agrees g values s t h.labels stacks (after d (λ done l. after (told (line.Block t reason) l) (λ done m. left_chain m))) (turns.blocked t state reason w))
    (sym (happens_when (event.Block why flag) (at_errand e x) t set (get_set h.tasks t x (at_errand e x) is) may refl))
    (subst (λ (b : Bool). Agrees g values s t h.labels stacks (if b then Gives flow.Rests left else kept.Stuck) (turns.blocked t state reason w)) (sym some)
    (record {
      lines = line.Block t reason ∷ [];
      world = world.unchained (in_state t state w);
      stands = tasks_leave_the_chain g values s (with_task t waits set) stacks (in_state t state w) twice;
      told = refl;
      ends = ap (λ (c : Control). Steps (line.Block t reason ∷ []) (with_control c (world.unchained (in_state t state w))))
          (sym (ap (λ (chain : List ℕ). control_of (acting_words left) (rest_behind chain))
          (ap (λ (chain : List ℕ). take (length chain - 1) chain) st.same_chain ∙ without_last w.chain) ∙ control_left (acting_words left) (drop 1 w.chain)));
    })))

pub task_yields : TaskYields
unfolding task_yield yield_turn blocked_in
task_yields g values s v h stacks w t canon task words flags first there acts st =
    on_slot g values s t h.labels stacks h w t (λ x. Gives (is_asked x.task.cancellation) h)
    (λ is_asked k. if v.flag canon && is_asked then yield_cancelled t k else blocked_in t canon (v.flag canon) blocked_at.Yield reason.Yield k)
    (yield_turn t task canon (flag_at g canon) words w) (ap is_some there) st
    (λ x y is_left is_right alike.
    let same : y ≡ task = some_same (sym is_right ∙ there) in
    on_test g values s t h.labels stacks (v.flag canon && is_asked x.task.cancellation) (flag_at g canon && is_asked task.cancellation) _ _ _ _
    (ap (λ (b : Bool). b && is_asked x.task.cancellation) flags
    ∙ ap (λ (c : Cancellation). flag_at g canon && is_asked c) (alike.cancelled ∙ ap (λ (a : Task). a.cancellation) same))
    (λ both. yield_told g values s h stacks w t x is_left (and_parts (v.flag canon) (is_asked x.task.cancellation) both).1 st)
    (λ no. on_blocked g values s h stacks w t x blocked_at.Yield (v.flag canon) reason.Yield (InBuiltin canon words ForYield) (errand.InBuiltin canon) is_left refl
    (ap is_acting (alike.far ∙ ap (λ (a : Task). phase_of (flag_at g) a.state) same ∙ ap (phase_of (flag_at g)) acts))
    (ap (phase.Blocked blocked_at.Yield) (sym flags)) refl tt first st))

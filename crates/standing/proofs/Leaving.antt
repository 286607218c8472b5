-- The acting task leaves the chain, and exits.
use Rattle.std.proofs.Common.{◌≡◌, ℕ, ◌-◌, Bool, true, false, ◌||◌, is_some, nat_lt, if◌then◌else◌, List, [], ◌∷◌, ◌++◌, length, take, drop, refl, sym, ap, ◌∙◌, subst, Option, Some, None}
use Rattle.std.specs.List.{slice_get}
use Rattle.std.proofs.lemmas.Bool.{and_from}
use Rattle.syntax_trees.specs.declared.types.ValType.{ValType}
use Rattle.wasm_store.specs.Stack.{Stack}
use Rattle.entry_gate.specs.Gates.{GateView, is_holder, given_up}
use Rattle.tasks.specs.declared.event.TaskEvent.TheVariants as event
use Rattle.tasks.specs.declared.phase.Phase.TheVariants as phase
use Rattle.tasks.specs.declared.phase.Resolution.{Resolution}
use Rattle.tasks.specs.Tasks.{may_happen, is_acting, is_nobody}
use Rattle.comp_graph.specs.Graph.{Graph, Lifted}
use Rattle.script_reader.specs.Script.{Script}
use Rattle.trace_labels.specs.declared.label.Label.{Label}
use Rattle.trace_labels.specs.declared.label.Label.TheVariants as line
use Rattle.task_table.specs.declared.errand.Errand.TheVariants as errand
use Rattle.task_table.specs.declared.slot.TaskSlot.{TaskSlot}
use Rattle.task_table.specs.Slots as slots
use Rattle.task_table.specs.Tasks.{without, unwatched}
use Rattle.instances.specs.Instances.{InstanceView, with_gate}
use Rattle.world_parts.specs.declared.parts.Flow.TheVariants as flow
use Rattle.world_parts.specs.Held as kept
use Rattle.world_parts.specs.Held.{Held, Done, Gives, after, given}
use Rattle.world_parts.specs.Feed.{told, at_rest, rest_behind, unchained, left_chain}
use Rattle.world_parts.specs.Entries.{with_instance}
use Rattle.world_parts.specs.Gates.{gate_given_up}
use Rattle.world_parts.specs.Slots.{with_task, instance_of, happens, closed}
use Rattle.world_parts.specs.Going.{leaves}
use Rattle.abi_machine.specs.Control.{Control}
use Rattle.abi_machine.specs.World.{Exited, Task, World}
use Rattle.abi_machine.specs.Edits as world
use Rattle.abi_machine.specs.Edits.{with_control, in_state}
use Rattle.abi_machine.specs.Canons.{flag_at}
use Rattle.abi_machine.specs.Counting.{phase_of}
use Rattle.abi_machine.specs.Turn as turns
use Rattle.abi_machine.specs.Turn.{Steps}
use Rattle.abi_machine.specs.Returning.{leaving_turn}
use Rattle.abi_machine.proofs.sound.Found.{some_same}
use Rattle.standing.specs.Instances.{InstStands}
use Rattle.standing.specs.Tasks.{RunsIn, errand_of, TaskStands}
use Rattle.standing.specs.Stands.{Stands}
use Rattle.standing.specs.Agreeing.{acting_words, control_of, Agrees}
use Rattle.standing.specs.Rows.{TaskExits}
use Rattle.standing.proofs.Lists.{IsFound, found_both}
use Rattle.standing.proofs.Tables.{entry_is_not_said}
use Rattle.standing.proofs.Feeds.{without_last}
use Rattle.standing.proofs.Changes.{instances_stay, tasks_change, tasks_leave_the_chain, acting_is_alike}
use Rattle.standing.proofs.Agreeing.{turn_as}
use Rattle.standing.proofs.Going.{acting_there}
use Rattle.standing.proofs.Blocking.{happens_when, some_acts, control_left}

-- A line, and then the acting task leaves the chain.
pub on_leave : (g : Graph) (values : List ValType) (s : Script) (t : ℕ) (before : List Label) (stacks : List (List Stack)) (h : Held) (w : World) (label : Label) (first : ℕ)
    → slice_get w.chain 0 ≡ Some first → h.labels ≡ before → Stands g values s h stacks w
    → Agrees g values s t before stacks (after (told label h) (λ done k. left_chain k)) (Steps (label ∷ []) (world.left_chain w))
on_leave g values s t before stacks h w label first acts same st =
    let some : nat_lt 0 (length h.chain) ≡ true = ap (λ (chain : List ℕ). nat_lt 0 (length chain)) st.same_chain ∙ some_acts w.chain first acts in
    let gone : Held = at_rest (rest_behind (take (length h.chain - 1) h.chain)) (unchained (record h { labels = h.labels ++ label ∷ [] })) in
    subst (λ (b : Bool). Agrees g values s t before stacks (if b then Gives flow.Rests gone else kept.Stuck) (Steps (label ∷ []) (world.left_chain w))) (sym some)
    (record {
      lines = label ∷ [];
      world = world.unchained w;
      stands = tasks_leave_the_chain g values s h stacks w st;
      told = ap (λ (ls : List Label). ls ++ label ∷ []) same;
      ends = ap (λ (c : Control). Steps (label ∷ []) (with_control c (world.unchained w)))
          (sym (ap (λ (chain : List ℕ). control_of (acting_words gone) (rest_behind chain))
          (ap (λ (chain : List ℕ). take (length chain - 1) chain) st.same_chain ∙ without_last w.chain) ∙ control_left (acting_words gone) (drop 1 w.chain)));
    })

up_pressure : (b : Bool) (gate : GateView) → (if b then record gate { holder = None } else gate).pressure ≡ gate.pressure
up_pressure true gate = refl
up_pressure false gate = refl

pub exit_stands : (g : Graph) (s : Script) (x : TaskSlot) (a : Task) → x.errand ≡ errand.None → TaskStands g s x a
    → TaskStands g s (slots.with_task (record x.task { phase = phase.Exited }) x) (record a { state = Exited })
exit_stands g s x a none st = record {
  does = st.does;
  place = st.place;
  lifted = st.lifted;
  called = st.called;
  seen = st.seen;
  far = refl;
  at = none;
  resolved = st.resolved;
  cancelled = st.cancelled;
  words = st.words;
  placed = tt;
}

pub task_exits : TaskExits
unfolding leaves leaving_turn
task_exits g values s h stacks w t task f first there acts resolved runs inst st =
    let one : IsFound (TaskStands g s) (slice_get h.tasks t) (slice_get w.tasks t) = found_both (TaskStands g s) h.tasks w.tasks t st.are_tasks (ap is_some there) in
    let x : TaskSlot = one.left in
    let same : one.right ≡ task = some_same (sym one.is_right ∙ there) in
    let stands : TaskStands g s x task = subst (λ (a : Task). TaskStands g s x a) same one.alike in
    let at : x.instance ≡ f.instance = subst (λ (o : Option Lifted). RunsIn x.instance o) runs stands.place in
    let here : IsFound (InstStands values) (slice_get h.instances f.instance) (slice_get w.insts f.instance) = found_both (InstStands values) h.instances w.insts f.instance st.are_instances inst in
    let i : InstanceView = here.left in
    let i_is : slice_get h.instances x.instance ≡ Some i = ap (λ (n : ℕ). slice_get h.instances n) at ∙ here.is_left in
    let none : x.errand ≡ errand.None = stands.at ∙ ap errand_of acts in
    let may : may_happen event.Exit x.task ≡ true =
    and_from (is_acting x.task.phase) (is_some x.task.resolution || is_nobody x.task.caller) (ap is_acting (stands.far ∙ ap (phase_of (flag_at g)) acts))
    (ap (λ (b : Bool). b || is_nobody x.task.caller) (ap (λ (r : Option Resolution). is_some r) stands.resolved ∙ resolved)) in
    let exited : Held = with_task t (slots.with_task (record x.task { phase = phase.Exited }) x) h in
    let out : Held = with_instance x.instance (with_gate (given_up t i.gate) i) exited in
    let once : Stands g values s exited stacks (in_state t Exited w) =
    tasks_change g values s h stacks w t x (slots.with_task (record x.task { phase = phase.Exited }) x) (λ a. record a { state = Exited }) one.is_left
    (λ a a_is now. exit_stands g s x a none now) (λ a. refl) st in
    let twice : Stands g values s out stacks (in_state t Exited w) =
    instances_stay g values s exited stacks (in_state t Exited w) x.instance i (with_gate (given_up t i.gate) i) i_is
    (λ a now. entry_is_not_said values i a (given_up t i.gate) (up_pressure (is_holder t i.gate.holder) i.gate) now) once in
    turn_as g values s t h.labels stacks (leaves h) (leaving_turn w) (Steps (line.Exit t ∷ []) (world.left_chain (in_state t Exited w)))
    (ap (λ (o : Option (ℕ × Task)). turns.given o (λ a. Steps (line.Exit a.0 ∷ []) (world.left_chain (in_state a.0 Exited w)))) (acting_there w t task first there))
    (subst (λ (o : Option ℕ). Agrees g values s t h.labels stacks
    (after (given o (λ n. Gives n h)) (λ n k. after (instance_of n k) (λ at l. after (happens n event.Exit l) (λ done m. after (gate_given_up at n m) (λ done n2.
    after (closed n n2) (λ done o2. after (told (line.Exit n) o2) (λ done p. left_chain p)))))))
    (Steps (line.Exit t ∷ []) (world.left_chain (in_state t Exited w))))
    (sym (acting_is_alike g values s h stacks w st ∙ first))
    (subst (λ (o : Option TaskSlot). Agrees g values s t h.labels stacks
    (after (given o (λ slot. Gives slot.instance h)) (λ at l. after (happens t event.Exit l) (λ done m. after (gate_given_up at t m) (λ done n2.
    after (closed t n2) (λ done o2. after (told (line.Exit t) o2) (λ done p. left_chain p))))))
    (Steps (line.Exit t ∷ []) (world.left_chain (in_state t Exited w))))
    (sym one.is_left)
    (subst (λ (d : Done (Unit {0})). Agrees g values s t h.labels stacks
    (after d (λ done m. after (gate_given_up x.instance t m) (λ done n2. after (closed t n2) (λ done o2. after (told (line.Exit t) o2) (λ done p. left_chain p)))))
    (Steps (line.Exit t ∷ []) (world.left_chain (in_state t Exited w))))
    (sym (happens_when event.Exit x t h one.is_left may refl))
    (subst (λ (o : Option InstanceView). Agrees g values s t h.labels stacks
    (after (given o (λ v. Gives tt (with_instance x.instance (with_gate (given_up t v.gate) v) exited))) (λ (done : Unit {0}) n2. after (closed t n2) (λ done o2. after (told (line.Exit t) o2) (λ done p. left_chain p))))
    (Steps (line.Exit t ∷ []) (world.left_chain (in_state t Exited w))))
    (sym i_is)
    (on_leave g values s t h.labels stacks (record out { live = without t out.live; watched = unwatched t out.watched }) (in_state t Exited w) (line.Exit t) t first (refl {a = h.labels}) twice)))))

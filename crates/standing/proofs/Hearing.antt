-- An event that was left to come comes to the acting task.
use Rattle.std.proofs.Common.{◌≡◌, ℕ, zero, suc, is_some, List, ◌++◌, refl, sym, ap, ◌∙◌, subst, Option, Some, None}
use Rattle.std.specs.List.{slice_get}
use Rattle.syntax_trees.specs.declared.types.ValType.{ValType}
use Rattle.wasm_store.specs.Stack.{Stack}
use Rattle.comp_graph.specs.Graph.{Graph, Lifted}
use Rattle.script_reader.specs.Script.{Script}
use Rattle.trace_labels.specs.declared.label.Label.{Label}
use Rattle.task_table.specs.declared.slot.TaskSlot.{TaskSlot}
use Rattle.world_parts.specs.declared.parts.Flow.{Flow}
use Rattle.world_parts.specs.declared.parts.Receiver as kept
use Rattle.world_parts.specs.declared.parts.Receiver.TheVariants as receiver
use Rattle.world_parts.specs.Views.{Views}
use Rattle.world_parts.specs.Held.{Held, Done, after}
use Rattle.world_parts.specs.Feed.{acting}
use Rattle.world_parts.specs.Slots.{instance_of}
use Rattle.world_parts.specs.Events.{delivers, polls, received_none, received_cancel}
use Rattle.abi_machine.specs.Control.{Receiver, InCallback, Delivers}
use Rattle.abi_machine.specs.World.{Task, World}
use Rattle.abi_machine.specs.Edits.{with_control}
use Rattle.abi_machine.specs.Reading.{task_at, func_of}
use Rattle.abi_machine.specs.Counting.{ready}
use Rattle.abi_machine.specs.Turn as turns
use Rattle.abi_machine.specs.Turn.{Turn, Steps, behind}
use Rattle.abi_machine.specs.Delivering as machine
use Rattle.abi_machine.specs.Delivering.{set_polled}
use Rattle.abi_machine.specs.Next.{next}
use Rattle.abi_machine.proofs.sound.Found.{some_same}
use Rattle.standing.specs.Tasks.{RunsIn, TaskStands}
use Rattle.standing.specs.Agreeing.{hears, Agrees}
use Rattle.standing.specs.Events.{Behind, AgreesOn}
use Rattle.standing.specs.Hearing.{ComesTo, DeliveryFollows, PollFollows, NothingFollows, CancelFollows}
use Rattle.standing.proofs.Lists.{IsFound, found_both}
use Rattle.standing.proofs.Steps.{via, turn_found, acting_is, instance_is}
use Rattle.standing.proofs.Heard.{nothing_is_heard, cancel_is_heard}
use Rattle.standing.proofs.Members.{behind_behind, agrees_behind}
use Rattle.standing.proofs.Delivered.{on_as, event_is_delivered, set_is_polled}

-- What agrees with a turn, and those behind it, does so behind lines.
on_behind : (g : Graph) (values : List ValType) (s : Script) (t : ℕ) (before lines : List Label) (stacks : List (List Stack)) (d : Done Flow) (n : ℕ) (u : Turn)
    → Behind g s (Agrees g values s t (before ++ lines) stacks d) n u → Behind g s (Agrees g values s t before stacks d) n (behind lines u)
on_behind g values s t before lines stacks d zero u a = agrees_behind g values s t before lines stacks d u a
on_behind g values s t before lines stacks d (suc n) u a = (
  lines ++ a.0,
  a.1,
  ap (λ (x : Turn). behind lines x) a.2,
  subst (λ (x : Turn). Behind g s (Agrees g values s t before stacks d) n x) (behind_behind lines a.0 (next g s a.1))
      (on_behind g values s t before lines stacks d n (behind a.0 (next g s a.1)) a.3),
)

all_behind : (g : Graph) (values : List ValType) (s : Script) (t : ℕ) (before lines labels : List Label) (stacks : List (List Stack)) (d : Done Flow) (u : Turn)
    → labels ≡ before ++ lines → AgreesOn g values s t labels stacks d u → AgreesOn g values s t before stacks d (behind lines u)
all_behind g values s t before lines labels stacks d u same a =
    (a.0, on_behind g values s t before lines stacks d a.0 u (subst (λ (ls : List Label). Behind g s (Agrees g values s t ls stacks d) a.0 u) same a.1))

-- The acting task, and its instance.
on_acting : {A : Type 0} (g : Graph) (values : List ValType) (s : Script) (v : Views) (before lines : List Label) (stacks : List (List Stack)) (h : Held) (w : World) (t : ℕ) (f : Lifted)
    (r : kept.Receiver) (to : Receiver) (G : ℕ → Held → Done A)
    → ComesTo g values s v before lines stacks h w t f r to → after (acting h) G ≡ G t h
on_acting g values s v before lines stacks h w t f r to G a = via _ _ _ _ (acting_is g values s h stacks w t a.first a.stands)

on_instance_of : {A : Type 0} (g : Graph) (values : List ValType) (s : Script) (v : Views) (before lines : List Label) (stacks : List (List Stack)) (h : Held) (w : World) (t : ℕ) (f : Lifted)
    (r : kept.Receiver) (to : Receiver) (G : ℕ → Held → Done A)
    → ComesTo g values s v before lines stacks h w t f r to → after (instance_of t h) G ≡ G f.instance h
on_instance_of g values s v before lines stacks h w t f r to G a =
    let one : IsFound (TaskStands g s) (slice_get h.tasks t) (slice_get w.tasks t) = found_both (TaskStands g s) h.tasks w.tasks t a.stands.are_tasks (ap is_some a.who.there) in
    let x : TaskSlot = one.left in
    let stands : TaskStands g s x a.who.task = subst (λ (y : Task). TaskStands g s x y) (some_same (sym one.is_right ∙ a.who.there)) one.alike in
    via _ _ _ _ (instance_is t f.instance h x one.is_left (subst (λ (o : Option Lifted). RunsIn x.instance o) a.who.runs stands.place))

heard_is : (w : World) (t : ℕ) (task : Task) (f : Lifted) (more : Lifted → Turn) → slice_get w.tasks t ≡ Some task → func_of task.callee ≡ Some f → hears t w more ≡ more f
heard_is w t task f more there runs =
    turn_found (task_at w t) task (λ y. turns.given (func_of y.callee) more) there ∙ turn_found (func_of task.callee) f more runs

pub delivery_follows : DeliveryFollows
delivery_follows g values s v before lines stacks h w t set f r to turn a has is =
    let d : Done Flow = delivers v t f.instance r set h in
    let later : AgreesOn g values s t before stacks d (behind lines (next g s (with_control (Delivers set to None) w))) =
    all_behind g values s t before lines h.labels stacks d (next g s (with_control (Delivers set to None) w)) a.told
    (event_is_delivered g values s v h stacks w t set f r to a.who a.first has a.stands) in
    on_as g values s t before stacks _ d turn turn
    (on_acting g values s v before lines stacks h w t f r to (λ n k. after (instance_of n k) (λ at l. delivers v n at r set l)) a
    ∙ on_instance_of g values s v before lines stacks h w t f r to (λ at l. delivers v t at r set l) a) refl
    (suc later.0, (lines, with_control (Delivers set to None) w, is, later.1))

pub poll_follows : PollFollows
poll_follows g values s v before lines stacks h w t set f turn a has is =
    let d : Done Flow = polls v t f.instance receiver.InCallback set h in
    on_as g values s t before stacks _ d turn (behind lines (set_polled g t f set (ready w f.instance set) w))
    (on_acting g values s v before lines stacks h w t f receiver.InCallback InCallback (λ n k. after (instance_of n k) (λ at l. polls v n at receiver.InCallback set l)) a
    ∙ on_instance_of g values s v before lines stacks h w t f receiver.InCallback InCallback (λ at l. polls v t at receiver.InCallback set l) a)
    (is ∙ ap (λ (x : Turn). behind lines x) (heard_is w t a.who.task f (λ f. set_polled g t f set (ready w f.instance set) w) a.who.there a.who.runs))
    (all_behind g values s t before lines h.labels stacks d (set_polled g t f set (ready w f.instance set) w) a.told
    (set_is_polled g values s v h stacks w t set f a.who a.first has a.stands))

pub nothing_follows : NothingFollows
nothing_follows g values s v before lines stacks h w t f r to turn a is =
    on_as g values s t before stacks _ (received_none v t r h) turn (behind lines (machine.received_none g t f to w))
    (on_acting g values s v before lines stacks h w t f r to (λ n k. received_none v n r k) a)
    (is ∙ ap (λ (x : Turn). behind lines x) (heard_is w t a.who.task f (λ f. machine.received_none g t f to w) a.who.there a.who.runs))
    (all_behind g values s t before lines h.labels stacks (received_none v t r h) (machine.received_none g t f to w) a.told
    (0, nothing_is_heard g values s v h stacks w t f r to a.who a.stands))

pub cancel_follows : CancelFollows
cancel_follows g values s v before lines stacks h w t f r to task turn a there asked is =
    on_as g values s t before stacks _ (received_cancel v t r h) turn (behind lines (machine.received_cancel g t f to w))
    (on_acting g values s v before lines stacks h w t f r to (λ n k. received_cancel v n r k) a)
    (is ∙ ap (λ (x : Turn). behind lines x) (heard_is w t a.who.task f (λ f. machine.received_cancel g t f to w) a.who.there a.who.runs))
    (all_behind g values s t before lines h.labels stacks (received_cancel v t r h) (machine.received_cancel g t f to w) a.told
    (0, cancel_is_heard g values s v h stacks w t f r to task a.who there asked a.stands))

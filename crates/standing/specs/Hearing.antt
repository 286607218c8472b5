-- What follows a part that leaves an event to come (Component Model, Concurrency.md, "Summary"; CanonicalABI.md, `canon lift`, `canon waitable-set.wait`): it
-- comes to the acting task, or none does, behind the lines of the part, as the machine has it come in that turn and those behind it.
use Rattle.std.specs.Prelude.{◌≡◌, ℕ, true, List, ◌++◌, None, Some}
use Rattle.std.specs.List.{slice_get}
use Rattle.syntax_trees.specs.declared.types.ValType.{ValType}
use Rattle.wasm_store.specs.Stack.{Stack}
use Rattle.tasks.specs.Tasks.{is_asked}
use Rattle.comp_graph.specs.Graph.{Graph, Lifted}
use Rattle.script_reader.specs.Script.{Script}
use Rattle.trace_labels.specs.declared.label.Label.{Label}
use Rattle.world_parts.specs.declared.parts.Receiver as kept
use Rattle.world_parts.specs.declared.parts.Receiver.TheVariants as receiver
use Rattle.world_parts.specs.Views.{Views}
use Rattle.world_parts.specs.Held.{Held, after}
use Rattle.world_parts.specs.Feed.{acting}
use Rattle.world_parts.specs.Slots.{instance_of}
use Rattle.world_parts.specs.Events.{delivers, polls, received_none, received_cancel}
use Rattle.abi_machine.specs.Control.{Receiver, InCallback, Delivers}
use Rattle.abi_machine.specs.World.{Task, World}
use Rattle.abi_machine.specs.Edits.{with_control}
use Rattle.abi_machine.specs.Counting.{ready}
use Rattle.abi_machine.specs.Turn.{Turn, Steps, behind}
use Rattle.abi_machine.specs.Delivering as machine
use Rattle.abi_machine.specs.Delivering.{set_polled}
use Rattle.standing.specs.Stands.{Stands}
use Rattle.standing.specs.Agreeing.{hears}
use Rattle.standing.specs.Events.{AgreesOn, Hears}
use Rattle.standing.specs.Waits.{HasNews}

-- Where a part has come to: what is kept stands for a world behind lines, and the task that acts there hears.
pub record ComesTo
    (g : Graph) (values : List ValType) (s : Script) (v : Views) (before lines : List Label) (stacks : List (List Stack)) (h : Held) (w : World) (t : ℕ) (f : Lifted)
    (r : kept.Receiver) (to : Receiver) : Type 0 where
  pub stands : Stands g values s h stacks w
  pub told : h.labels ≡ before ++ lines
  pub first : slice_get w.chain 0 ≡ Some t
  pub who : Hears g v h w t f r to

-- The event of a member of a set comes; the same of a poll; none comes; and that of its cancellation.
abbrev pub DeliveryFollows : Type 0
DeliveryFollows =
    (g : Graph) (values : List ValType) (s : Script) (v : Views) (before lines : List Label) (stacks : List (List Stack)) (h : Held) (w : World) (t set : ℕ) (f : Lifted)
    (r : kept.Receiver) (to : Receiver) (turn : Turn)
    → ComesTo g values s v before lines stacks h w t f r to → HasNews values v h w f.instance set → turn ≡ Steps lines (with_control (Delivers set to None) w)
    → AgreesOn g values s t before stacks (after (acting h) (λ n k. after (instance_of n k) (λ at l. delivers v n at r set l))) turn

abbrev pub PollFollows : Type 0
PollFollows =
    (g : Graph) (values : List ValType) (s : Script) (v : Views) (before lines : List Label) (stacks : List (List Stack)) (h : Held) (w : World) (t set : ℕ) (f : Lifted) (turn : Turn)
    → ComesTo g values s v before lines stacks h w t f receiver.InCallback InCallback → HasNews values v h w f.instance set
    → turn ≡ behind lines (hears t w (λ f. set_polled g t f set (ready w f.instance set) w))
    → AgreesOn g values s t before stacks (after (acting h) (λ n k. after (instance_of n k) (λ at l. polls v n at receiver.InCallback set l))) turn

abbrev pub NothingFollows : Type 0
NothingFollows =
    (g : Graph) (values : List ValType) (s : Script) (v : Views) (before lines : List Label) (stacks : List (List Stack)) (h : Held) (w : World) (t : ℕ) (f : Lifted)
    (r : kept.Receiver) (to : Receiver) (turn : Turn)
    → ComesTo g values s v before lines stacks h w t f r to → turn ≡ behind lines (hears t w (λ f. machine.received_none g t f to w))
    → AgreesOn g values s t before stacks (after (acting h) (λ n k. received_none v n r k)) turn

abbrev pub CancelFollows : Type 0
CancelFollows =
    (g : Graph) (values : List ValType) (s : Script) (v : Views) (before lines : List Label) (stacks : List (List Stack)) (h : Held) (w : World) (t : ℕ) (f : Lifted)
    (r : kept.Receiver) (to : Receiver) (task : Task) (turn : Turn)
    → ComesTo g values s v before lines stacks h w t f r to → slice_get w.tasks t ≡ Some task → is_asked task.cancellation ≡ true
    → turn ≡ behind lines (hears t w (λ f. machine.received_cancel g t f to w))
    → AgreesOn g values s t before stacks (after (acting h) (λ n k. received_cancel v n r k)) turn

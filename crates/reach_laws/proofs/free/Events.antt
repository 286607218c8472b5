-- Events come to a task that waits, which goes on, or to its callback.
use Rattle.std.proofs.Common.{◌≡◌, ℕ, List, [], ◌∷◌, length, subst, Option, Some, None}
use Rattle.std.specs.Prelude.{slice_index}
use Rattle.std.specs.Option.{unwrap_or}
use Rattle.std.specs.List.{slice_get}
use Rattle.choices.specs.Drawing.{drawn, drawn_answer}
use Rattle.comp_graph.specs.Graph.{Graph, Lifted}
use Rattle.script_reader.specs.Script.{Script}
use Rattle.abi_machine.specs.Control.{EventCode, NoEvent, SubtaskEvent, TaskCancelled, Receiver, InWait, Free, Delivers}
use Rattle.abi_machine.specs.World.{Entry, OwnHandle, BorrowHandle, OfSubtask, OfSet, OfEnd, Task, World}
use Rattle.abi_machine.specs.Edits.{with_control, picked, answered}
use Rattle.abi_machine.specs.Reading.{entry_at, acting}
use Rattle.abi_machine.specs.Counting.{ready}
use Rattle.abi_machine.specs.Choosing.{picks_of, chosen}
use Rattle.abi_machine.specs.Calling.{Told, subtask_told}
use Rattle.abi_machine.specs.Delivering.{number_of, event_of_end, event_put, received, nothing_told, cancel_told, received_none, received_cancel, end_told, entry_delivered, member_delivered, members_turn, delivering_turn}
use Rattle.abi_machine.proofs.sound.Found.{acting_first}
use Rattle.reach_laws.proofs.free.Steps.{IsReached, ComesOn, Soon, goes_on, soon_given, soon_func, soon_subtask}
use Rattle.reach_laws.proofs.free.Stacks.{At, at_task, at_subtask, at_channel, at_answered}
use Rattle.reach_laws.proofs.free.Returning.{RunsCome}

module _ (g : Graph) (s : Script) (from : ℕ) (chain : List ℕ) where
  abbrev Here : World → Type 0
  Here w = At g s from chain w

  -- What comes of an event that the acting task gets.
  abbrev pub Receives : Receiver → Type 0
  Receives receiver = (t : ℕ) (f : Lifted) (code : EventCode) (index : ℕ) (x : Told) → slice_get chain 0 ≡ Some t → Here x.world → Soon g s (received g t f receiver code index x)

  pub wait_receives : RunsCome g s from chain → (number : ℕ) (words : List ℕ) → Receives (InWait number words)
  unfolding received
  wait_receives runs number words t f code index x first h = λ kept.
      let v : World = event_put g number (slice_index words 1) index x.payload x.world in
      runs (answered t (number_of code ∷ []) v) (at_answered g s from chain t (number_of code ∷ []) v h) kept

  module _ (receiver : Receiver) (receives : Receives receiver) where
    pub none_soon : (t : ℕ) (f : Lifted) (w : World) → slice_get chain 0 ≡ Some t → Here w → Soon g s (received_none g t f receiver w)
    unfolding received_none
    none_soon t f w first h = receives t f NoEvent 0 (nothing_told w) first h

    pub cancel_soon : (t : ℕ) (f : Lifted) (w : World) → slice_get chain 0 ≡ Some t → Here w → Soon g s (received_cancel g t f receiver w)
    unfolding received_cancel
    cancel_soon t f w first h = receives t f TaskCancelled 0 (cancel_told t w) first (at_task g s from chain t _ w (λ x k. k) h)

    entry_soon : (t : ℕ) (f : Lifted) (index : ℕ) (o : Option Entry) (w : World) → slice_get chain 0 ≡ Some t → Here w → Soon g s (entry_delivered g t f receiver index o w)
    unfolding entry_delivered
    entry_soon t f index (Some (OfSubtask callee)) w first h =
        soon_subtask g s w callee _ (λ task subtask. receives t f SubtaskEvent index (subtask_told f.instance callee task subtask w) first (at_subtask g s from chain callee _ w h))
    entry_soon t f index (Some (OfEnd e)) w first h = receives t f (event_of_end e) index (end_told e w) first (at_channel g s from chain e.kind e.number _ w h)
    entry_soon t f index (Some (OwnHandle resource rep)) w first h = tt
    entry_soon t f index (Some (BorrowHandle resource rep task)) w first h = tt
    entry_soon t f index (Some (OfSet set)) w first h = tt
    entry_soon t f index None w first h = tt

    member_soon : (t : ℕ) (f : Lifted) (member : Option ℕ) (w : World) → slice_get chain 0 ≡ Some t → Here w → Soon g s (member_delivered g t f receiver member w)
    unfolding member_delivered
    member_soon t f member w first h = soon_given g s member _ (λ index e. entry_soon t f index (entry_at w f.instance index) w first h)

    first_is : (w : World) (t : ℕ) (task : Task) → Here w → acting w ≡ Some (t, task) → slice_get chain 0 ≡ Some t
    first_is w t task h acts = subst (λ (c : List ℕ). slice_get c 0 ≡ Some t) h.0 (acting_first w (t, task) acts)

    picked_comes : (set k : ℕ) (w : World) → Here w → IsReached g s (with_control (Delivers set receiver (Some k)) w) → ComesOn g s (with_control (Delivers set receiver (Some k)) w)
    unfolding delivering_turn members_turn
    picked_comes set k w h kept =
        let v : World = with_control Free w in
        goes_on g s (with_control (Delivers set receiver (Some k)) w) kept
        (soon_func g s v _ (λ t task f acts runs. member_soon t f (slice_get (ready v f.instance set) (unwrap_or (Some k) 0)) v (first_is v t task h acts) h))

    members_soon : (t : ℕ) (f : Lifted) (set : ℕ) (members : List ℕ) (w : World) → slice_get chain 0 ≡ Some t → Here w → Soon g s (members_turn g s t f set receiver None members w)
    unfolding members_turn chosen
    members_soon t f set [] w first h = member_soon t f (slice_get [] (unwrap_or None 0)) w first h
    members_soon t f set (index ∷ []) w first h = member_soon t f (slice_get (index ∷ []) (unwrap_or None 0)) w first h
    members_soon t f set (index ∷ other ∷ members) w first h = λ kept.
        let n : ℕ = length (index ∷ other ∷ members) in
        picked_comes set (drawn_answer n (picks_of s w)) (picked (drawn n (picks_of s w)).used w) h kept

    pub delivers_come : (set : ℕ) (pick : Option ℕ) (w : World) → Here w → IsReached g s (with_control (Delivers set receiver pick) w) → ComesOn g s (with_control (Delivers set receiver pick) w)
    unfolding delivering_turn
    delivers_come set (Some k) w h kept = picked_comes set k w h kept
    delivers_come set None w h kept =
        let v : World = with_control Free w in
        goes_on g s (with_control (Delivers set receiver None) w) kept
        (soon_func g s v _ (λ t task f acts runs. members_soon t f set (ready v f.instance set) v (first_is v t task h acts) h))

-- Where no task runs each alternative costs a unit, and so does it that a task goes on.
use Rattle.std.proofs.Common.{◌≡◌, ◌<◌, ◌≤◌, ℕ, ◌+◌, List, [], ◌∷◌, length, refl}
use Rattle.std.specs.List.{slice_get}
use Rattle.choices.specs.Drawing.{drawn, drawn_answer}
use Rattle.tasks.specs.declared.event.Asked.{Asked}
use Rattle.tasks.specs.declared.event.Asked.TheVariants.{Removed, ResumeNow, Pending}
use Rattle.tasks.specs.declared.phase.Cancellation.TheVariants as cancellation
use Rattle.tasks.specs.declared.phase.Resolution.TheVariants.{Cancelled}
use Rattle.tasks.specs.Tasks.{may_cancel, cancel_case}
use Rattle.comp_graph.specs.Graph.{Graph, func_named}
use Rattle.script_reader.specs.Script.{Script}
use Rattle.script_reader.specs.declared.script.Item.{Item}
use Rattle.script_reader.specs.declared.script.Item.TheVariants as item
use Rattle.trace_labels.specs.declared.label.Label.TheVariants as line
use Rattle.abi_machine.specs.Control.{Free, Chosen, Instantiates, Goes, Resumes}
use Rattle.abi_machine.specs.World.{Func, Host, Exited, World}
use Rattle.abi_machine.specs.Edits.{with_control, unit_spent, picked, item_taken, chained, in_state, resolved, with_cancellation}
use Rattle.abi_machine.specs.Reading.{acting, func_of}
use Rattle.abi_machine.specs.Counting.{task_view}
use Rattle.abi_machine.specs.Gate.{is_entry_free}
use Rattle.abi_machine.specs.Choosing.{picks_of, chosen}
use Rattle.abi_machine.specs.Calling.{begun}
use Rattle.abi_machine.specs.Cancelling.{asked_turn, cancelled_turn}
use Rattle.abi_machine.specs.Turn.{silent}
use Rattle.abi_machine.specs.Scheduling.{Alternative, Takes, GoesOn, alternatives, calls_taken, call_taken, task_of_call, cancel_taken, item_turn, gone, going_turn, alternative_turn, one_of, free_turn, chosen_turn}
use Rattle.reach_laws.proofs.free.Steps.{IsReached, ComesOn, Soon, goes_on, soon_given, soon_behind, soon_either, soon_paid}
use Rattle.reach_laws.proofs.free.Stacks.{AreHolding, hold_task, hold_more, Later, IsReady}

module _ (g : Graph) (s : Script) where
  -- That a task be cancelled was asked, behind a unit that is spent.
  asked_soon : (units : ℕ) (w : World) → Later g s units → w.units ≡ units + 1 → units < s.fuel → AreHolding 0 w.tasks → (t : ℕ) (asked : Asked) → Soon g s (asked_turn t asked Free w)
  unfolding asked_turn
  asked_soon units w later paid few h t Removed = λ kept.
      later (with_control Free (in_state t Exited (resolved t Cancelled w))) paid few
      (hold_task 0 t _ (resolved t Cancelled w).tasks (λ x k. (k.0, tt)) (hold_task 0 t _ w.tasks (λ x k. k) h)) tt kept
  asked_soon units w later paid few h t ResumeNow = λ kept.
      later (with_control Goes (chained t (with_cancellation t cancellation.Asked w))) paid few (hold_task 0 t _ w.tasks (λ x k. k) h) tt kept
  asked_soon units w later paid few h t Pending = λ kept. later (with_control Free (with_cancellation t cancellation.Asked w)) paid few (hold_task 0 t _ w.tasks (λ x k. k) h) tt kept

  item_soon : (w : World) → IsReady g s w → w.units < s.fuel → (first : Item) → Soon g s (item_turn g s first (unit_spent w))
  unfolding item_turn call_taken cancel_taken cancelled_turn
  item_soon w h few (item.Call call) =
      let v : World = unit_spent w in
      soon_given g s (func_named g call.name) (λ f. call_taken (calls_taken s v + 1) call f v) (λ f e kept.
      h.0 (begun (Func f) (Host (calls_taken s v + 1) call.values) (item_taken v)) refl few (hold_more 0 w.tasks (Func f) (Host (calls_taken s v + 1) call.values) h.1) tt kept)
  item_soon w h few (item.Cancel call) =
      let v : World = item_taken (unit_spent w) in
      soon_given g s (task_of_call call (unit_spent w)) (λ found. cancel_taken g call found v) (λ found e.
      soon_behind g s (line.Cancel call ∷ []) _
      (soon_either g s (may_cancel (task_view g v found.0 found.1)) (cancelled_turn g found.0 found.1 Free v) (silent Free v)
      (λ may. soon_given g s (func_of found.1.callee) (λ f. asked_turn found.0 (cancel_case (is_entry_free v f.instance) (task_view g v found.0 found.1)) Free v) (λ f k.
      asked_soon w.units v h.0 refl few h.1 found.0 (cancel_case (is_entry_free v f.instance) (task_view g v found.0 found.1)))) (λ not kept. h.0 (with_control Free v) refl few h.1 tt kept)))

  alternative_soon : (w : World) → IsReady g s w → (a : Alternative) → Soon g s (alternative_turn g s a w)
  unfolding alternative_turn gone
  alternative_soon w h (Takes first) = soon_paid g s w (λ v. item_turn g s first v) (λ few. item_soon w h few first)
  alternative_soon w h (GoesOn t) = soon_paid g s w (λ v. gone t (chained t v)) (λ few kept. h.0 (with_control Resumes (chained t (unit_spent w))) refl few h.1 tt kept)

  pub chosen_comes : (k : ℕ) (w : World) → IsReady g s w → IsReached g s (with_control (Chosen k) w) → ComesOn g s (with_control (Chosen k) w)
  unfolding chosen_turn
  chosen_comes k w h kept =
      goes_on g s (with_control (Chosen k) w) kept (soon_given g s (slice_get (alternatives g s (with_control Free w)) k) _ (λ a e. alternative_soon (with_control Free w) h a))

  pub free_comes : (w : World) → IsReady g s w → IsReached g s (with_control Free w) → ComesOn g s (with_control Free w)
  unfolding free_turn one_of chosen
  free_comes w h kept = goes_on g s (with_control Free w) kept (by (alternatives g s v))
    where
      v : World
      v = with_control Free w

      by : (all : List Alternative) → Soon g s (one_of g s all v)
      by [] = tt
      by (a ∷ []) = alternative_soon v h a
      by (a ∷ other ∷ others) = λ kept.
          chosen_comes (drawn_answer (length (a ∷ other ∷ others)) (picks_of s v)) (picked (drawn (length (a ∷ other ∷ others)) (picks_of s v)).used w) h kept

  pub goes_comes : (w : World) → IsReady g s w → IsReached g s (with_control Goes w) → ComesOn g s (with_control Goes w)
  unfolding going_turn gone
  goes_comes w h kept =
      let v : World = with_control Free w in
      goes_on g s (with_control Goes w) kept
      (soon_given g s (acting v) _ (λ a e. soon_paid g s v (λ v. gone a.0 v) (λ few kept. h.0 (with_control Resumes (unit_spent v)) refl few h.1 tt kept)))

  -- The action of this number comes on, and those behind it.
  abbrev pub ActionComes : ℕ → Type 0
  ActionComes n = (w : World) → IsReady g s w → IsReached g s (with_control (Instantiates n) w) → ComesOn g s (with_control (Instantiates n) w)

  abbrev pub ActionsCome : ℕ → Type 0
  ActionsCome from = (n : ℕ) → from ≤ n → ActionComes n

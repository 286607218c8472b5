-- Events come to tasks, and tasks that waited go on: typed worlds are left.
use Rattle.std.proofs.Common.{◌≡◌, ◌<◌, ◌≤◌, inr, ◌+◌, ◌^◌, ℕ, Bool, true, false, nat_lt, List, [], ◌∷◌, length, refl, sym, subst, arith, Option, Some, None}
use Rattle.std.specs.Prelude.{slice_index}
use Rattle.std.specs.List.{slice_get}
use Rattle.std.specs.Int.{w32, to_le_bytes}
use Rattle.std.specs.Option.{IfSome}
use Rattle.syntax_trees.specs.declared.module_types.ValType.TheVariants.{I32}
use Rattle.syntax_trees.specs.declared.module_types.ValType as core_val
use Rattle.wasm_store.specs.Store.{Store, found_at}
use Rattle.wasm_store.specs.Stack.{Stack}
use Rattle.wasm_store.specs.Step.{start}
use Rattle.wasm_store.specs.Typed.{StackTyped}
use Rattle.wasm_store.proofs.Lists.{all_at, all_append}
use Rattle.handle_table.specs.History.{Event, IsHistory, live, greatest}
use Rattle.handle_table.specs.Slots.{slots_after}
use Rattle.handle_table.specs.Sound.{IsSound}
use Rattle.handle_table.proofs.Histories.{slots_length, left_by, live_past}
use Rattle.value_lower.specs.Following.{written}
use Rattle.tasks.specs.declared.phase.Cancellation.{Cancellation}
use Rattle.tasks.specs.declared.phase.Cancellation.TheVariants.{NotAsked, Asked, Delivered}
use Rattle.tasks.specs.Tasks.{is_asked}
use Rattle.comp_graph.specs.declared.graph.FuncRef.{FuncRef}
use Rattle.comp_graph.specs.Needs.{callback_type}
use Rattle.comp_graph.specs.Graph.{Graph, Lifted, core_type}
use Rattle.lowering_laws.specs.Values.{AreBytes}
use Rattle.lowering_laws.proofs.Memories.{length_written}
use Rattle.lowering_laws.proofs.Bytes.{between, le_bytes}
use Rattle.abi_machine.specs.Control.{EventCode, NoEvent, SubtaskEvent, TaskCancelled, Receiver, InWait, InCallback}
use Rattle.abi_machine.specs.World.{Entry, OwnHandle, BorrowHandle, OfSubtask, OfSet, OfEnd, Inst, Subtask, Callee, Acting, Task, Channel, World}
use Rattle.abi_machine.specs.Edits.{changed_at, caller_changed, by_view, with_cancellation, with_channel}
use Rattle.builtin_kinds.specs.declared.EndKind.{EndKind}
use Rattle.builtin_kinds.specs.declared.EndKind.TheVariants.{Stream, Future}
use Rattle.tasks.specs.Subtasks.{delivered}
use Rattle.std.proofs.lemmas.Bool.Decides.{nat_tests}
use Rattle.abi_machine.specs.Canons.{func_address, memory_of, bytes_of, options_at}
use Rattle.abi_machine.specs.Reading.{table_in, entry_at, func_of}
use Rattle.abi_machine.specs.Counting.{subtask_state}
use Rattle.abi_machine.specs.Calling.{Told, subtask_told}
use Rattle.abi_machine.specs.Delivering.{number_of, event_bytes, event_put, callback_started, event_line, received, nothing_told, cancel_told, received_none, received_cancel, end_told, event_of_end, entry_delivered, member_delivered}
use Rattle.abi_machine.specs.sound.GraphFuncs.{IsOfGraph}
use Rattle.abi_machine.specs.sound.Callees.{IsUsedGraph, CoreThere}
use Rattle.abi_machine.specs.sound.Copies.{IsCopied}
use Rattle.abi_machine.specs.sound.Tables.{HaveHistories}
use Rattle.abi_machine.specs.sound.TypedStacks.{core_results, gives, WaitBelow, RunsTyped}
use Rattle.abi_machine.specs.sound.TypedWorlds.{HasEventRoom, IsFair}
use Rattle.abi_machine.proofs.sound.Found.{some_same}
use Rattle.abi_machine.proofs.sound.Acted.{still_is, now_is, is_as}
use Rattle.abi_machine.proofs.sound.Callees.{callee_types, core_there}
use Rattle.abi_machine.proofs.sound.answers.Words.{event_small, state_small, payload_small}
use Rattle.abi_machine.proofs.sound.planned.Reps.{memory_bytes}
use Rattle.abi_machine.proofs.sound.worlds.Grounds.{NotSync, guest_map, rewritten_goes_on, ground_stacks, ground_cancelled, ground_called}
use Rattle.abi_machine.proofs.sound.worlds.Turns.{Good, behind_good, given_good, subtask_good, IsAt, At, goes_on_typed, last_answer, at_later, at_called, at_channel}
use Rattle.abi_machine.proofs.sound.worlds.Passing.{Beside, starts_there}

-- An index at which an entry stands is below 2^32.
table_small : (table : List (Event Entry)) (index : ℕ) (entry : Entry) → IsHistory table → live table index ≡ Some entry → index < 2 ^ 32
table_small table index entry h e = by (nat_lt (greatest table) index) refl
  where
    s : IsSound (slots_after table)
    s = (left_by table h).sound

    by : (b : Bool) → nat_lt (greatest table) index ≡ b → index < 2 ^ 32
    by true past = (let none : live table index ≡ None = live_past table index (grind (arith, nat_tests)) in cc)
    by false low =
        let most : index ≤ greatest table = grind (arith, nat_tests) in
        omega (arith, most, s.small, slots_length table (greatest table))

pub index_low : (w : World) (i index : ℕ) (entry : Entry) → HaveHistories w.insts → entry_at w i index ≡ Some entry → index < 2 ^ 32
index_low w i index entry history e = by (slice_get w.insts i) refl e
  where
    by : (o : Option Inst) → slice_get w.insts i ≡ o → live (table_in o) index ≡ Some entry → index < 2 ^ 32
    by None there k = cc
    by (Some x) there k = table_small x.table index entry (all_at (λ (y : Inst). IsHistory y.table) w.insts i x history there) k

-- the bytes of an event
event_long : (index payload : ℕ) → length (event_bytes index payload) ≡ 8
event_long index payload = refl

event_are : (index payload : ℕ) → AreBytes (event_bytes index payload)
event_are index payload = all_append (λ byte. byte < 256) (to_le_bytes w32 index) (to_le_bytes w32 payload) (le_bytes w32 index) (le_bytes w32 payload)

-- A task whose cancellation is asked is not waited for.
asked_not : (c : Cancellation) → is_asked c ≡ true → c ≡ NotAsked → ⊥
asked_not NotAsked e f = cc
asked_not Asked e f = cc
asked_not Delivered e f = cc

pub asked_apart : (g : Graph) (x : Task) → IsFair g x → is_asked x.cancellation ≡ true → NotSync g x
asked_apart g x fair asked = guest_map _ _ x.caller (λ subtask own sync. asked_not x.cancellation asked (own.0 sync)) fair

-- the acting task of a function with a callback
abbrev pub InLoopOf : Graph → Lifted → Store → Task → Type 0
InLoopOf g f s x = (x.state ≡ Acting) × (func_of x.callee ≡ Some f) × IsOfGraph g x.callee × (x.stacks ≡ []) × (core_results x.callee ≡ I32 ∷ [])

module _ (g : Graph) (P : List ℕ → Type 0) (used : IsUsedGraph g) where
  -- what gets an event
  abbrev pub Receives : Lifted → Receiver → World → ℕ → Type 0
  Receives f (InWait number words) w t = At g P w t × HasEventRoom g w.store number words
  Receives f InCallback w t = Beside g t (InLoopOf g f) w

  pub receives_told : (f : Lifted) (r : Receiver) (w : World) (t n : ℕ) (F : Subtask → Subtask) → ((x : Subtask) → (F x).canon ≡ x.canon) → ((x : Subtask) → (F x).result ≡ x.result) → Receives f r w t
      → Receives f r (record w { tasks = changed_at n (λ x. record x { caller = caller_changed F x.caller }) w.tasks }) t
  receives_told f (InWait number words) w t n F canon result h = (at_called g P w t n F canon result h.0, h.1)
  receives_told f InCallback w t n F canon result h = record {
    ground = ground_called g w.store n F w.tasks w.insts None canon result h.ground;
    first = h.first;
    is = still_is w.tasks n t (λ x. record x { caller = caller_changed F x.caller }) (InLoopOf g f w.store) (λ x k. k) h.is;
  }

  pub receives_cancelled : (f : Lifted) (r : Receiver) (w : World) (t n : ℕ) (c : Cancellation) → ((x : Task) → slice_get w.tasks n ≡ Some x → NotSync g x) → Receives f r w t → Receives f r (with_cancellation n c w) t
  receives_cancelled f (InWait number words) w t n c apart h = (
    record {
      ground = ground_cancelled g w.store n c w.tasks w.insts None apart h.0.ground;
      first = h.0.first;
      is = still_is w.tasks n t (λ x. record x { cancellation = c }) (IsAt g P w.store) (λ x k. (k.0, record { asked = k.1.asked; top = k.1.top; takes = k.1.takes })) h.0.is;
    },
    h.1,
  )
  receives_cancelled f InCallback w t n c apart h = record {
    ground = ground_cancelled g w.store n c w.tasks w.insts None apart h.ground;
    first = h.first;
    is = still_is w.tasks n t (λ x. record x { cancellation = c }) (InLoopOf g f w.store) (λ x k. k) h.is;
  }

  -- a callback of the function starts
  callback_good : (t : ℕ) (f : Lifted) (code : EventCode) (index payload : ℕ) (w : World) → index < 2 ^ 32 → payload < 2 ^ 32 → Beside g t (InLoopOf g f) w → Good g P (callback_started t f code index payload w)
  unfolding callback_started
  callback_good t f code index payload w low small h =
      given_good g P f.options.callback _ (λ ref e. given_good g P (found_at w.store.funcs (func_address w.store ref)) _ (λ function k.
      let there : CoreThere w.store ref callback_type = callback_there f.options.callback ref e (callee_types g used h.is.0.callee f h.is.2.2 h.is.2.1).callback in
      let one : number_of code < 2 ^ 32 = omega (arith, event_small code) in
      let typed : StackTyped w.store (I32 ∷ []) (start function.1 function.0 (number_of code ∷ index ∷ payload ∷ [])) =
      starts_there w.store ref callback_type function (number_of code ∷ index ∷ payload ∷ []) h.ground.store there k (one, (low, (small, tt))) in
      λ a inside. inr (record {
        ground = ground_stacks g w.store t (λ ks. start function.1 function.0 (number_of code ∷ index ∷ payload ∷ []) ∷ ks) w.tasks w.insts None (is_as w.tasks t (InLoopOf g f w.store) (λ x. x.state ≡ Acting) (λ x own. own.0) h.is) h.ground;
        acts = (
          t,
          h.first,
          now_is w.tasks t (λ x. record x { stacks = start function.1 function.0 (number_of code ∷ index ∷ payload ∷ []) ∷ x.stacks }) (InLoopOf g f w.store) (RunsTyped w.store)
              (λ x own. runs_over x.callee x.stacks w.store _ own.3 own.4 typed) h.is,
        );
      })))
    where
      callback_there : (o : Option FuncRef) (ref : FuncRef) → o ≡ Some ref → IfSome o (λ r. core_type g.cores g.canons r ≡ Some callback_type) → CoreThere w.store ref callback_type
      callback_there None ref e k = cc
      callback_there (Some r) ref e k = core_there g w.store ref callback_type h.ground.canons h.ground.made (subst (λ (x : FuncRef). core_type g.cores g.canons x ≡ Some callback_type) (some_same e) k)

      runs_over : (callee : Callee) (stacks : List Stack) (s : Store) (k : Stack) → stacks ≡ [] → core_results callee ≡ I32 ∷ [] → StackTyped s (I32 ∷ []) k → StackTyped s (gives callee stacks) k × WaitBelow s callee stacks
      runs_over callee [] s k e same own = (subst (λ (ts : List core_val.ValType). StackTyped s ts k) (sym same) own, tt)
      runs_over callee (y ∷ ys) s k e same own = cc

  received_good : (t : ℕ) (f : Lifted) (r : Receiver) (code : EventCode) (index : ℕ) (s : Told) → index < 2 ^ 32 → s.payload < 2 ^ 32 → Receives f r s.world t → Good g P (received g t f r code index s)
  unfolding received
  received_good t f (InWait number words) code index s low small h =
      let w : World = s.world in
      let place : ℕ = slice_index words 1 in
      let memory : Option ℕ = memory_of w.store (options_at g number) in
      let old : List ℕ = bytes_of w.store memory in
      let room : place + length (event_bytes index s.payload) ≤ length old = h.1 in
      let long : length (written place (event_bytes index s.payload) old) ≡ length old = length_written place (event_bytes index s.payload) old room in
      let are : AreBytes (written place (event_bytes index s.payload) old) =
      between place (place + length (event_bytes index s.payload)) (event_bytes index s.payload) old (event_are index s.payload) (memory_bytes w.store memory h.0.ground.bytes) in
      λ a inside. inr (goes_on_typed g P t (number_of code ∷ []) (event_put g number place index s.payload w)
      (at_later g P w _ t (rewritten_goes_on w.store memory (written place (event_bytes index s.payload) old) h.0.ground.store h.0.ground.bytes long are) h.0) (last_answer g P s.lines t (number_of code ∷ []) a.1))
  received_good t f InCallback code index s low small h = behind_good g P (event_line t code index s.payload ∷ s.lines) (callback_started t f code index s.payload s.world) (callback_good t f code index s.payload s.world low small h)

  pub none_received_good : (t : ℕ) (f : Lifted) (r : Receiver) (w : World) → Receives f r w t → Good g P (received_none g t f r w)
  unfolding received_none
  none_received_good t f r w h = received_good t f r NoEvent 0 (nothing_told w) (omega arith) (omega arith) h

  pub cancel_received_good : (t : ℕ) (f : Lifted) (r : Receiver) (w : World) → ((x : Task) → slice_get w.tasks t ≡ Some x → NotSync g x) → Receives f r w t → Good g P (received_cancel g t f r w)
  unfolding received_cancel
  cancel_received_good t f r w apart h = received_good t f r TaskCancelled 0 (cancel_told t w) (omega arith) (omega arith) (receives_cancelled f r w t t Delivered apart h)

  receives_channel : (f : Lifted) (r : Receiver) (w : World) (t : ℕ) (kind : EndKind) (number : ℕ) (F : Channel → Channel) → Receives f r w t → Receives f r (with_channel kind number F w) t
  receives_channel f (InWait n words) w t Stream number F h = (at_channel g P w t Stream number F h.0, h.1)
  receives_channel f (InWait n words) w t Future number F h = (at_channel g P w t Future number F h.0, h.1)
  receives_channel f InCallback w t Stream number F h = record { ground = h.ground; first = h.first; is = h.is }
  receives_channel f InCallback w t Future number F h = record { ground = h.ground; first = h.first; is = h.is }

  entry_delivered_good : (t : ℕ) (f : Lifted) (r : Receiver) (index : ℕ) (o : Option Entry) (w : World) → IsCopied w → index < 2 ^ 32 → Receives f r w t → Good g P (entry_delivered g t f r index o w)
  unfolding entry_delivered
  entry_delivered_good t f r index (Some (OfSubtask callee)) w copied low h =
      subtask_good g P w callee _ (λ task subtask e k.
      received_good t f r SubtaskEvent index (subtask_told f.instance callee task subtask w) low (omega (arith, state_small (subtask_state task))) (receives_told f r w t callee (by_view delivered callee (subtask_state task)) (λ x. refl) (λ x. refl) h))
  entry_delivered_good t f r index (Some (OfEnd e)) w copied low h =
      received_good t f r (event_of_end e) index (end_told e w) low (payload_small w e copied) (receives_channel f r w t e.kind e.number _ h)
  entry_delivered_good t f r index None w copied low h = tt
  entry_delivered_good t f r index (Some (OwnHandle resource rep)) w copied low h = tt
  entry_delivered_good t f r index (Some (BorrowHandle resource rep task)) w copied low h = tt
  entry_delivered_good t f r index (Some (OfSet set)) w copied low h = tt

  pub member_delivered_good : (t : ℕ) (f : Lifted) (r : Receiver) (member : Option ℕ) (w : World) → IsCopied w → HaveHistories w.insts → Receives f r w t → Good g P (member_delivered g t f r member w)
  unfolding member_delivered entry_delivered
  member_delivered_good t f r member w copied history h = given_good g P member _ (λ index e. by index (entry_at w f.instance index) refl)
    where
      by : (index : ℕ) (o : Option Entry) → entry_at w f.instance index ≡ o → Good g P (entry_delivered g t f r index o w)
      by index None there = tt
      by index (Some entry) there = entry_delivered_good t f r index (Some entry) w copied (index_low w f.instance index entry history there) h

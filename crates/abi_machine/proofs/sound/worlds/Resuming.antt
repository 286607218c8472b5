-- Tasks arrive, go on from what they waited for, and leave: typed worlds are left.
use Rattle.std.proofs.Common.{◌≡◌, ◌∙◌, inr, ◌&&◌, ℕ, Bool, true, false, List, [], ◌∷◌, refl, sym, subst, Option, Some, None, Result, Ok, Err}
use Rattle.std.specs.List.{slice_get}
use Rattle.std.specs.Option.{unwrap_or}
use Rattle.syntax_trees.specs.declared.module_types.ValType.TheVariants.{I32}
use Rattle.syntax_trees.specs.declared.module_types.ValType as core_val
use Rattle.wasm_numbers.specs.Types.{AreWords}
use Rattle.wasm_store.specs.Store.{Store}
use Rattle.entry_gate.specs.Callbacks.{callback_of}
use Rattle.entry_gate.specs.declared.callback.BadCode.{BadCode}
use Rattle.entry_gate.specs.declared.callback.Next.{Next}
use Rattle.entry_gate.specs.declared.callback.Next.TheVariants as next
use Rattle.tasks.specs.declared.event.Asked.{Asked}
use Rattle.tasks.specs.declared.event.Asked.TheVariants.{Removed, ResumeNow, Pending}
use Rattle.tasks.specs.declared.phase.Cancellation.TheVariants as cancellation
use Rattle.tasks.specs.declared.phase.Resolution.TheVariants.{Cancelled}
use Rattle.tasks.specs.Tasks.{is_asked, cancel_case}
use Rattle.comp_graph.specs.declared.graph.CanonFunc.{CanonFunc}
use Rattle.comp_graph.specs.Graph.{Graph, Lifted, canon_type}
use Rattle.script_reader.specs.Script.{Script}
use Rattle.trace_labels.specs.declared.label.BlockReason.TheVariants as reason
use Rattle.abi_machine.specs.Control.{Receiver, InWait, InCallback, Control, Delivers}
use Rattle.abi_machine.specs.World.{OfSubtask, Wait, ForYield, ForSet, ForCall, ForCopy, ForCancel, TaskState, New, Acting, AfterCall, AfterCancel, Begins, WaitsToEnter, InLoop, InBuiltin, Exited, Task, World}
use Rattle.abi_machine.specs.Edits.{with_control, in_state, resolved, with_cancellation, told}
use Rattle.abi_machine.specs.Canons.{canon_at, options_at, flag_at}
use Rattle.abi_machine.specs.Reading.{acting, func_of}
use Rattle.abi_machine.specs.Counting.{subtask_state, task_view, has_resolved, ready}
use Rattle.abi_machine.specs.Gate.{is_entry_free, may_arrive}
use Rattle.abi_machine.specs.Finding.{found_subtask, set_number, found_end}
use Rattle.abi_machine.specs.Turn.{replied}
use Rattle.abi_machine.specs.Choosing.{chosen}
use Rattle.abi_machine.specs.Calling.{Told, call_state, call_resolved, call_open, subtask_told, back_from_call}
use Rattle.abi_machine.specs.Cancelling.{asked_turn, cancelled_turn, cancel_open, first_of, back_from_cancel, back_to, back_turn}
use Rattle.abi_machine.specs.Copying.{blocked_word}
use Rattle.abi_machine.specs.Delivering.{cancel_told, end_told, is_to_be_told, yield_cancelled, told_payload, told_result, wait_resumed, set_polled, next_resumed, loop_resumed, resumed, resuming_turn, members_turn, delivering_turn}
use Rattle.abi_machine.specs.Entering.{arriving_turn}
use Rattle.abi_machine.specs.Returning.{leaving_turn}
use Rattle.abi_machine.specs.sound.Answers.{IsOfCanon, IsOneWord, IsAtEnd, IsAtWait}
use Rattle.abi_machine.specs.sound.Changes.{IsFirst}
use Rattle.abi_machine.specs.sound.Firsts.{TaskIs, FirstIs}
use Rattle.abi_machine.specs.sound.GraphFuncs.{IsOfGraph}
use Rattle.abi_machine.specs.sound.Callees.{IsUsedGraph}
use Rattle.abi_machine.specs.sound.Copies.{IsCopied}
use Rattle.abi_machine.specs.sound.Tables.{HaveHistories}
use Rattle.abi_machine.specs.sound.TypedStacks.{core_results, WaitsTyped, StandsTyped}
use Rattle.abi_machine.specs.sound.TypedWorlds.{GivesWord, WaitsFor, WaitsSo, IsReceivedAt, IsTypedWorld}
use Rattle.abi_machine.proofs.sound.Found.{some_same, acting_first, acting_is}
use Rattle.abi_machine.proofs.sound.Acted.{still_is, now_is}
use Rattle.abi_machine.proofs.sound.worlds.Grounds.{NotSync, ground_state, ground_cancelled, ground_resolved, guest_map}
use Rattle.abi_machine.proofs.sound.worlds.Turns.{IsGround, left_typed, Good, given_good, either_good, func_good, subtask_good, IsAt, At, replied_good, told_good, blocked_good, goes_on_typed, entry_good, at_told, at_channel}
use Rattle.abi_machine.proofs.sound.worlds.Passing.{Beside, entered_good}
use Rattle.abi_machine.proofs.sound.worlds.Waking.{InLoopOf, Receives, none_received_good, cancel_received_good, member_delivered_good, asked_apart}

both_left : (a b : Bool) → (a && b) ≡ true → a ≡ true
both_left true b h = refl
both_left false b h = cc

-- words that a canonical function gives back, and one word
pub of_canon_takes : (g : Graph) (number : ℕ) (c : CanonFunc) → canon_at g number ≡ Some c → (words : List ℕ) → IsOfCanon g number words → AreWords (canon_type c).results words
of_canon_takes g number c at words h = h c at

pub word_takes : (g : Graph) (number : ℕ) (c : CanonFunc) → canon_at g number ≡ Some c → GivesWord g number → (words : List ℕ) → IsOneWord words → AreWords (canon_type c).results words
word_takes g number c at gives words h = subst (λ (ts : List core_val.ValType). AreWords ts words) (sym (gives c at)) h

module _ (g : Graph) (P : List ℕ → Type 0) where
  -- A task that was cancelled: none whose caller waits.
  pub asked_good : (t : ℕ) (asked : Asked) (control : Control) (w : World) → IsGround g w → ((x : Task) → slice_get w.tasks t ≡ Some x → NotSync g x) → ((v : World) → IsGround g v → IsTypedWorld g (with_control control v))
      → Good g P (asked_turn t asked control w)
  unfolding asked_turn
  asked_good t Removed control w ground apart rest =
      λ a inside. inr (rest (in_state t Exited (resolved t Cancelled w))
      (ground_state g w.store t Exited _ w.insts None (λ x there. tt) tt
      (ground_resolved g w.store t Cancelled w.tasks w.insts None (λ x there fair. guest_map _ _ x.caller (λ subtask not some sync. absurd (not sync)) (apart x there)) ground)))
  asked_good t ResumeNow control w ground apart rest = λ a inside. inr (record { ground = ground_cancelled g w.store t cancellation.Asked w.tasks w.insts None apart ground; acts = tt })
  asked_good t Pending control w ground apart rest = λ a inside. inr (rest (with_cancellation t cancellation.Asked w) (ground_cancelled g w.store t cancellation.Asked w.tasks w.insts None apart ground))

  pub cancelled_good : (t : ℕ) (task : Task) (control : Control) (w : World) → IsGround g w → ((x : Task) → slice_get w.tasks t ≡ Some x → NotSync g x) → ((v : World) → IsGround g v → IsTypedWorld g (with_control control v)) → Good g P (cancelled_turn g t task control w)
  unfolding cancelled_turn
  cancelled_good t task control w ground apart rest =
      given_good g P (func_of task.callee) _ (λ f e. asked_good t (cancel_case (is_entry_free w f.instance) (task_view g w t task)) control w ground apart rest)

  -- the acting task acts again, and waits at a canonical function for its results
  at_canon : (w : World) (t number : ℕ) (task : Task) → IsGround g w → IsFirst t w.chain → slice_get w.tasks t ≡ Some task → WaitsTyped g w.store number task → ((c : CanonFunc) → canon_at g number ≡ Some c → (words : List ℕ) → P words → AreWords (canon_type c).results words)
      → At g P (in_state t Acting w) t
  at_canon w t number task ground first there waits takes = record {
    ground = ground_state g w.store t Acting w.tasks w.insts None (λ x e. tt) tt ground;
    first = first;
    is = now_is w.tasks t (λ x. record x { state = Acting }) (λ (x : Task). WaitsTyped g w.store number x) (IsAt g P w.store) (λ x k. (refl, record { asked = (canon_type k.0).results; top = k.2; takes = takes k.0 k.1 })) (task, there, waits);
  }

  -- Control is back at a task that called another one, or cancelled one.
  open_good : (t i callee : ℕ) (task own : Task) (is_async : Bool) (number : ℕ) (words : List ℕ) (w : World) → IsGround g w → slice_get w.tasks t ≡ Some own → WaitsTyped g w.store number own → At g P (in_state t Acting w) t
      → Good g P (call_open t i callee task is_async number words (in_state t Acting w))
  unfolding call_open
  open_good t i callee task own true number words w ground there waits h =
      entry_good g P t i (OfSubtask callee) (in_state t Acting w) (λ index v. replied t (call_state task index ∷ []) (told callee (subtask_state task) v)) tt h (λ index v k. replied_good g P t _ (told callee (subtask_state task) v) (at_told g P v t callee (subtask_state task) k))
  open_good t i callee task own false number words w ground there waits h =
      blocked_good g P t (InBuiltin number words (ForCall callee)) (reason.Call callee) (in_state t Acting w) h.ground
      (now_is w.tasks t (λ x. record x { state = Acting }) (λ (x : Task). WaitsTyped g w.store number x) (λ (x : Task). WaitsTyped g w.store number x) (λ x k. k) (own, there, waits)) tt

  called_good : (t i callee number : ℕ) (own : Task) (words : List ℕ) (w : World) → IsGround g w → slice_get w.tasks t ≡ Some own → WaitsTyped g w.store number own → At g P (in_state t Acting w) t → Good g P (back_from_call g t i callee number words w)
  unfolding back_from_call call_resolved
  called_good t i callee number own words w ground there waits h =
      subtask_good g P w callee _ (λ task subtask e k. either_good g P (has_resolved task) _ _
      (λ done. told_good g P t _ _ (told callee (subtask_state task) (in_state t Acting w)) (at_told g P (in_state t Acting w) t callee (subtask_state task) h))
      (λ still. open_good t i callee task own (options_at g number).is_async number words w ground there waits h))

  payload_good : (t : ℕ) (s : Told) → At g P s.world t → Good g P (told_payload t s)
  unfolding told_payload
  payload_good t s h = told_good g P t s.lines (s.payload ∷ []) s.world h

  back_cancelled_good : (t i callee number : ℕ) (own : Task) (words : List ℕ) (w : World) → slice_get w.tasks t ≡ Some own → WaitsTyped g w.store number own → GivesWord g number → At g P w t → Good g P (back_from_cancel g t i callee number words w)
  unfolding back_from_cancel cancel_open
  back_cancelled_good t i callee number own words w there waits gives h =
      subtask_good g P w callee _ (λ task subtask e k. either_good g P (has_resolved task) _ _
      (λ done. payload_good t (subtask_told i callee task subtask w) (at_told g P w t callee (subtask_state task) h))
      (λ still. either_good g P (flag_at g number) _ _ (λ flag. replied_good g P t (blocked_word ∷ []) w h)
      (λ flag. blocked_good g P t (InBuiltin number words (ForCancel (first_of words))) (reason.Cancel (first_of words)) w h.ground (own, there, waits) gives)))

  back_to_good : (t i : ℕ) (task : Task) (state : TaskState) (w : World) → IsGround g w → IsFirst t w.chain → slice_get w.tasks t ≡ Some task → StandsTyped g w.store state task → WaitsSo g w.store state → ((words : List ℕ) → P words → IsAtWait g state words)
      → Good g P (back_to g t i state w)
  unfolding back_to
  back_to_good t i task (AfterCall callee number words) w ground first there stands waits says =
      called_good t i callee number task words w ground there stands (at_canon w t number task ground first there stands (λ c at ws p. says ws p c at))
  back_to_good t i task (AfterCancel callee number words) w ground first there stands waits says =
      let h : At g P (in_state t Acting w) t = at_canon w t number task ground first there stands (λ c at ws p. word_takes g number c at waits ws (says ws p)) in
      let now : TaskIs (in_state t Acting w).tasks t (λ (x : Task). WaitsTyped g w.store number x) = now_is w.tasks t (λ x. record x { state = Acting }) (λ (x : Task). WaitsTyped g w.store number x) (λ (x : Task). WaitsTyped g w.store number x) (λ x k. k) (task, there, stands) in
      back_cancelled_good t i callee number now.0 words (in_state t Acting w) now.1 now.2 waits h
  back_to_good t i task New w ground first there stands waits says = tt
  back_to_good t i task Acting w ground first there stands waits says = tt
  back_to_good t i task (Begins n) w ground first there stands waits says = tt
  back_to_good t i task WaitsToEnter w ground first there stands waits says = tt
  back_to_good t i task (InLoop word) w ground first there stands waits says = tt
  back_to_good t i task (InBuiltin number words wait) w ground first there stands waits says = tt
  back_to_good t i task Exited w ground first there stands waits says = tt

  pub back_good : (w : World) → IsGround g w → ((a : ℕ × Task) → acting w ≡ Some a → (words : List ℕ) → P words → IsAtWait g a.1.state words) → Good g P (back_turn g w)
  unfolding back_turn
  back_good w ground says =
      func_good g P w _ (λ a f e k.
      let own = ground.tasks_are a.0 a.1 (acting_is w a e) in
      back_to_good a.0 f.instance a.1 a.1.state w ground (acting_first w a e) (acting_is w a e) own.stands own.waits (says a e))

  pub leaving_good : (w : World) → IsGround g w → Good g P (leaving_turn w)
  unfolding leaving_turn
  leaving_good w ground = given_good g P (acting w) _ (λ a e. λ b inside. inr (left_typed g (in_state a.0 Exited w) (ground_state g w.store a.0 Exited w.tasks w.insts None (λ x there. tt) tt ground)))

  module _ (used : IsUsedGraph g) where
    pub arriving_good : (w : World) → IsGround g w → ((a : ℕ × Task) → acting w ≡ Some a → IsOfGraph g a.1.callee) → Good g P (arriving_turn g w)
    unfolding arriving_turn
    arriving_good w ground of_graph =
        func_good g P w _ (λ a f e k. either_good g P (may_arrive w f.instance a.1) _ _ (λ may. entered_good g P used a.0 a.1 f w ground (acting_first w a e) (acting_is w a e) (of_graph a e) k)
        (λ not. blocked_good g P a.0 WaitsToEnter reason.Entry w ground (a.1, acting_is w a e, tt) tt))

    -- Events of members.
    delivers_typed : (set : ℕ) (f : Lifted) (r : Receiver) (pick : Option ℕ) (w : World) (t : ℕ) → IsGround g w → FirstIs w.tasks w.chain (IsReceivedAt g w.store r) → IsTypedWorld g (with_control (Delivers set r pick) w)
    delivers_typed set f r pick w t ground acts = record { ground = ground; acts = acts }

    members_good : (s : Script) (t : ℕ) (f : Lifted) (set : ℕ) (r : Receiver) (pick : Option ℕ) (members : List ℕ) (w : World) → IsCopied w → HaveHistories w.insts → Receives g P used f r w t → IsGround g w → FirstIs w.tasks w.chain (IsReceivedAt g w.store r)
        → Good g P (members_turn g s t f set r pick members w)
    unfolding members_turn chosen
    members_good s t f set r None (index ∷ other ∷ members) w copied history h ground acts = λ a inside. inr (record { ground = ground; acts = acts })
    members_good s t f set r None [] w copied history h ground acts = member_delivered_good g P used t f r (slice_get [] (unwrap_or None 0)) w copied history h
    members_good s t f set r None (index ∷ []) w copied history h ground acts = member_delivered_good g P used t f r (slice_get (index ∷ []) (unwrap_or None 0)) w copied history h
    members_good s t f set r (Some k) members w copied history h ground acts = member_delivered_good g P used t f r (slice_get members (unwrap_or (Some k) 0)) w copied history h

    pub delivering_good : (s : Script) (set : ℕ) (r : Receiver) (pick : Option ℕ) (w : World) → IsCopied w → HaveHistories w.insts → IsGround g w → FirstIs w.tasks w.chain (IsReceivedAt g w.store r)
        → ((a : ℕ × Task) (f : Lifted) → acting w ≡ Some a → func_of a.1.callee ≡ Some f → Receives g P used f r w a.0) → Good g P (delivering_turn g s set r pick w)
    unfolding delivering_turn
    delivering_good s set r pick w copied history ground acts receives =
        func_good g P w _ (λ a f e k. members_good s a.0 f set r pick (ready w f.instance set) w copied history (receives a f e k) ground acts)

    -- A blocked task goes on.
    pub yield_good : (t : ℕ) (w : World) → ((x : Task) → slice_get w.tasks t ≡ Some x → NotSync g x) → At g P w t → Good g P (yield_cancelled t w)
    unfolding yield_cancelled
    yield_good t w apart h = λ a inside. inr (goes_on_typed g P t (1 ∷ []) (cancel_told t w).world (record {
      ground = ground_cancelled g w.store t cancellation.Delivered w.tasks w.insts None apart h.ground;
      first = h.first;
      is = still_is w.tasks t t (λ x. record x { cancellation = cancellation.Delivered }) (IsAt g P w.store) (λ x k. (k.0, record { asked = k.1.asked; top = k.1.top; takes = k.1.takes })) h.is;
    }) a.1.0)

    result_good : (t : ℕ) (words : List ℕ) (s : Told) → At g P s.world t → Good g P (told_result t words s)
    unfolding told_result
    result_good t words s h = told_good g P t s.lines words s.world h

    wait_good : (t : ℕ) (f : Lifted) (cancels : Bool) (number : ℕ) (words : List ℕ) (wait : Wait) (w : World) → (cancels ≡ true → (x : Task) → slice_get w.tasks t ≡ Some x → NotSync g x) → At g P w t → TaskIs w.tasks t (λ x. WaitsTyped g w.store number x) → WaitsFor g w.store number words wait
        → Good g P (wait_resumed g t f cancels number words wait w)
    unfolding wait_resumed
    wait_good t f cancels number words ForYield w apart h own room = either_good g P cancels _ _ (λ e. yield_good t w (apart e) h) (λ e. replied_good g P t (0 ∷ []) w h)
    wait_good t f cancels number words (ForSet index) w apart h own room =
        either_good g P cancels _ _ (λ e. cancel_received_good g P used t f (InWait number words) w (apart e) (h, room.1))
        (λ e. given_good g P (set_number w f.instance index) _ (λ set k. λ a inside. inr (record { ground = h.ground; acts = (t, h.first, (own.0, own.1, (own.2, room.0, room.1))) })))
    wait_good t f cancels number words (ForCall callee) w apart h own room =
        subtask_good g P w callee _ (λ task subtask e k. result_good t subtask.result (subtask_told f.instance callee task subtask w) (at_told g P w t callee (subtask_state task) h))
    wait_good t f cancels number words (ForCancel index) w apart h own room =
        given_good g P (found_subtask w f.instance index) _ (λ callee j. subtask_good g P w callee _ (λ task subtask e k. payload_good t (subtask_told f.instance callee task subtask w) (at_told g P w t callee (subtask_state task) h)))
    wait_good t f cancels number words (ForCopy index) w apart h own room = given_good g P (found_end w f.instance index) _ (λ e k. payload_good t (end_told e w) (at_channel g P w t e.kind e.number _ h))

    -- in its loop
    polled_good : (t : ℕ) (f : Lifted) (set : ℕ) (members : List ℕ) (w : World) → Beside g t (InLoopOf g f) w → Good g P (set_polled g t f set members w)
    unfolding set_polled
    polled_good t f set [] w h = none_received_good g P used t f InCallback w h
    polled_good t f set (index ∷ members) w h = λ a inside. inr (record { ground = h.ground; acts = (t, h.first, (h.is.0, h.is.1, h.is.2.4)) })

    next_good : (t : ℕ) (f : Lifted) (r : Result Next BadCode) (w : World) → Beside g t (InLoopOf g f) w → Good g P (next_resumed g t f r w)
    unfolding next_resumed
    next_good t f (Ok next.Yield) w h = none_received_good g P used t f InCallback w h
    next_good t f (Ok (next.Wait index)) w h = given_good g P (set_number w f.instance index) _ (λ set k. λ a inside. inr (record { ground = h.ground; acts = (t, h.first, (h.is.0, h.is.1, h.is.2.4)) }))
    next_good t f (Ok (next.Poll index)) w h = given_good g P (set_number w f.instance index) _ (λ set k. polled_good t f set (ready w f.instance set) w h)
    next_good t f (Ok next.Exit) w h = tt
    next_good t f (Err why) w h = tt

    loop_good : (t : ℕ) (f : Lifted) (cancels : Bool) (word : ℕ) (w : World) → (cancels ≡ true → (x : Task) → slice_get w.tasks t ≡ Some x → NotSync g x) → Beside g t (InLoopOf g f) w → Good g P (loop_resumed g t f cancels word w)
    unfolding loop_resumed
    loop_good t f cancels word w apart h = either_good g P cancels _ _ (λ e. cancel_received_good g P used t f InCallback w (apart e) h) (λ e. next_good t f (callback_of word) w h)

    -- where it acts again it is as fair as before
    acting_apart : (w : World) (t : ℕ) (task : Task) → IsGround g w → slice_get w.tasks t ≡ Some task → is_asked task.cancellation ≡ true → (x : Task) → slice_get (in_state t Acting w).tasks t ≡ Some x → NotSync g x
    acting_apart w t task ground there asked x now =
        let own : TaskIs (in_state t Acting w).tasks t (λ (y : Task). NotSync g y) = now_is w.tasks t (λ y. record y { state = Acting }) (λ (y : Task). NotSync g y) (λ (y : Task). NotSync g y) (λ y k. k) (task, there, asked_apart g task (ground.tasks_are t task there).fair asked) in
        subst (λ (y : Task). NotSync g y) (some_same (sym own.1 ∙ now)) own.2

    resumed_good : (t : ℕ) (task : Task) (f : Lifted) (state : TaskState) (w : World) → IsGround g w → IsFirst t w.chain → slice_get w.tasks t ≡ Some task → IsOfGraph g task.callee → func_of task.callee ≡ Some f → StandsTyped g w.store state task → WaitsSo g w.store state
        → ((word : ℕ) → state ≡ InLoop word → (task.stacks ≡ []) × (core_results task.callee ≡ I32 ∷ [])) → ((words : List ℕ) → P words → IsAtWait g state words) → Good g P (resumed g t task f state w)
    unfolding resumed
    resumed_good t task f WaitsToEnter w ground first there of_graph runs stands waits loops says = entered_good g P used t task f w ground first there of_graph runs
    resumed_good t task f (InLoop word) w ground first there of_graph runs stands waits loops says =
        loop_good t f (is_asked task.cancellation) word (in_state t Acting w) (λ asked. acting_apart w t task ground there asked) (record {
          ground = ground_state g w.store t Acting w.tasks w.insts None (λ x e. tt) tt ground;
          first = first;
          is = now_is w.tasks t (λ x. record x { state = Acting }) (λ (x : Task). (func_of x.callee ≡ Some f) × IsOfGraph g x.callee × (x.stacks ≡ []) × (core_results x.callee ≡ I32 ∷ [])) (InLoopOf g f w.store) (λ x k. (refl, k.0, k.1, k.2, k.3))
              (task, there, (runs, of_graph, (loops word refl).0, (loops word refl).1));
        })
    resumed_good t task f (InBuiltin number words wait) w ground first there of_graph runs stands waits loops says =
        wait_good t f (is_to_be_told g number wait task w f.instance) number words wait (in_state t Acting w)
        (λ e. acting_apart w t task ground there (both_left (is_asked task.cancellation) _ e))
        (at_canon w t number task ground first there stands (λ c at ws p. end_takes number wait c at w.store words waits ws (says ws p)))
        (now_is w.tasks t (λ x. record x { state = Acting }) (λ (x : Task). WaitsTyped g w.store number x) (λ (x : Task). WaitsTyped g w.store number x) (λ x k. k) (task, there, stands)) waits
      where
        end_takes : (n : ℕ) (wt : Wait) (c : CanonFunc) → canon_at g n ≡ Some c → (s : Store) (passed : List ℕ) → WaitsFor g s n passed wt → (ws : List ℕ) → IsAtEnd g n wt ws → AreWords (canon_type c).results ws
        end_takes n ForYield c at s passed k ws h = word_takes g n c at k ws h
        end_takes n (ForSet index) c at s passed k ws h = word_takes g n c at k.0 ws h
        end_takes n (ForCall callee) c at s passed k ws h = h c at
        end_takes n (ForCopy index) c at s passed k ws h = word_takes g n c at k ws h
        end_takes n (ForCancel index) c at s passed k ws h = word_takes g n c at k ws h
    resumed_good t task f New w ground first there of_graph runs stands waits loops says = tt
    resumed_good t task f Acting w ground first there of_graph runs stands waits loops says = tt
    resumed_good t task f (AfterCall callee number words) w ground first there of_graph runs stands waits loops says = tt
    resumed_good t task f (AfterCancel callee number words) w ground first there of_graph runs stands waits loops says = tt
    resumed_good t task f (Begins n) w ground first there of_graph runs stands waits loops says = tt
    resumed_good t task f Exited w ground first there of_graph runs stands waits loops says = tt

    pub resuming_good : (w : World) → IsGround g w → ((a : ℕ × Task) → acting w ≡ Some a → IsOfGraph g a.1.callee × ((word : ℕ) → a.1.state ≡ InLoop word → (a.1.stacks ≡ []) × (core_results a.1.callee ≡ I32 ∷ [])))
        → ((a : ℕ × Task) → acting w ≡ Some a → (words : List ℕ) → P words → IsAtWait g a.1.state words) → Good g P (resuming_turn g w)
    unfolding resuming_turn
    resuming_good w ground known says =
        func_good g P w _ (λ a f e k.
        let own = ground.tasks_are a.0 a.1 (acting_is w a e) in
        resumed_good a.0 a.1 f a.1.state w ground (acting_first w a e) (acting_is w a e) (known a e).0 k own.stands own.waits (known a e).1 (says a e))

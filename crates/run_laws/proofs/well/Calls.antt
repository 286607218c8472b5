-- Calls: what is kept well stays so.
use Rattle.std.proofs.Common.{◌≡◌, inl, inr, refl, sym, ap, ◌∙◌}
use Rattle.std.specs.List.{slice_get}
use Rattle.std.specs.Prelude.{ℕ, ◌+◌, ◌-◌, ◌*◌, Bool, true, if◌then◌else◌, List, [], ◌∷◌, ◌++◌, length}
use Rattle.entry_gate.specs.declared.kind.Kind.{Kind}
use Rattle.tasks.specs.declared.event.BlockedAt.{BlockedAt}
use Rattle.tasks.specs.declared.event.BlockedAt.TheVariants as blocked_at
use Rattle.tasks.specs.declared.event.TaskEvent.TheVariants as event
use Rattle.tasks.specs.Tasks.{state_of}
use Rattle.tasks.specs.Subtasks.{is_over}
use Rattle.task_table.specs.declared.caller.Called.{Called}
use Rattle.task_table.specs.declared.caller.Caller.TheVariants.{Guest}
use Rattle.task_table.specs.declared.errand.Callee.{Callee}
use Rattle.task_table.specs.declared.errand.Errand.{Errand}
use Rattle.task_table.specs.declared.errand.Errand.TheVariants as errand
use Rattle.task_table.specs.Callers.{new_called}
use Rattle.task_table.specs.declared.slot.TaskSlot.{TaskSlot}
use Rattle.task_table.specs.Slots.{new_slot, at_errand}
use Rattle.task_table.specs.Tasks.{with_number, watching}
use Rattle.instances.specs.declared.entry.WorldEntry.TheVariants as entry
use Rattle.world_parts.specs.Views.{Views}
use Rattle.trace_labels.specs.declared.label.BlockReason.{BlockReason}
use Rattle.trace_labels.specs.declared.label.BlockReason.TheVariants as reason
use Rattle.trace_labels.specs.declared.label.Label.TheVariants as line
use Rattle.trace_labels.specs.declared.trap.TrapName.TheVariants as trap
use Rattle.world_parts.specs.declared.parts.Rest.TheVariants as rest
use Rattle.world_parts.specs.declared.parts.Flow.{Flow}
use Rattle.world_parts.specs.declared.parts.Flow.TheVariants as flow
use Rattle.world_parts.specs.Held.{Held, Done, Gives, Traps, after}
use Rattle.world_parts.specs.Feed.{told, at_rest, chained, left_chain, got}
use Rattle.world_parts.specs.Entries.{entry_added, lend_ended}
use Rattle.world_parts.specs.Slots.{with_task, instance_of, errand_of, happens, errand_set, lends_found, result_found, resolved, awaited, state_told, task_made, reenters}
use Rattle.world_parts.specs.Calls.{all_unlent, back, back_by, back_from_call, back_from_cancel, blocked, blocked_in, blocked_word, call_begun, call_open, call_resolved, cancel_open, cancel_resolved, given_back, given_back_if, subtask_told, unlent}
use Rattle.abi_machine.proofs.sound.Found.{some_same}
use Rattle.run_laws.specs.keeping.Well.{NoneCalls, CancelsApart, KeepsWell}
use Rattle.run_laws.proofs.keeping.Sums.{set_either}
use Rattle.run_laws.proofs.well.Entries.{entry_added_well, lend_ended_well}
use Rattle.run_laws.proofs.well.Feed.{got_well, left_chain_well, told_well}
use Rattle.run_laws.proofs.well.Slots.{errand_set_well, happens_well, lends_found_well, resolved_well, result_found_well, state_told_well}
use Rattle.run_laws.proofs.well.Behind.{well_after, well_behind, well_if, well_same, look_well}
use Rattle.run_laws.proofs.well.Rises.{well_task, errand_rises}
use Rattle.run_laws.proofs.well.Made.{IsNew, called_new, awaited_well}

pub blocked_well : (t : ℕ) (why : BlockedAt) (flag : Bool) (reason : BlockReason) (h : Held) → KeepsWell h (blocked t why flag reason h)
unfolding blocked
blocked_well t why flag reason h =
    well_after h (happens t (event.Block why flag) h) (λ done k. after (told (line.Block t reason) k) (λ done l. left_chain l)) (happens_well t (event.Block why flag) h) (λ done k. well_after k (told (line.Block t reason) k) (λ done l. left_chain l) (told_well (line.Block t reason) k) (λ done l. left_chain_well l))

pub blocked_in_well : (t : ℕ) (canon : ℕ) (flag : Bool) (why : BlockedAt) (reason : BlockReason) (h : Held) → KeepsWell h (blocked_in t canon flag why reason h)
unfolding blocked_in
blocked_in_well t canon flag why reason h =
    well_after h (errand_set t (errand.InBuiltin canon) h) (λ done k. blocked t why flag reason k) (errand_set_well t (errand.InBuiltin canon) h tt) (λ done k. blocked_well t why flag reason k)

pub call_begun_well : (t : ℕ) (canon : ℕ) (callee : Callee) (instance : ℕ) (kind : Kind) (words : List ℕ) (h : Held) → KeepsWell h (call_begun t canon callee instance kind words h)
unfolding call_begun
call_begun_well t canon callee instance kind words h =
    let made : ℕ = length h.tasks in
    let slot : TaskSlot = new_slot instance kind callee (Guest (new_called t canon words made)) in
    let begins : Unit {0} → Held → Done Flow = λ done l.
    after (task_made slot l) (λ number m.
    after (told (line.Call t made (instance + 1)) m) (λ done n. after (chained made n) (λ done o. Gives flow.Rests (at_rest rest.Arrives o)))) in
    well_if h (reenters instance t h) (Traps trap.Reentrant h) (after (errand_set t (errand.AfterCall made canon) h) begins) tt
    (look_well h (slice_get h.tasks t) (λ x. Gives (tt {0}) (with_task t (at_errand (errand.AfterCall made canon) x) h)) begins
    (λ x is.
    let k : Held = with_task t (at_errand (errand.AfterCall made canon) x) h in
    let o : Held = record k {
      tasks = k.tasks ++ slot ∷ [];
      live = with_number (length k.tasks) k.live;
      watched = watching (length k.tasks) k.watched;
      labels = k.labels ++ line.Call t made (instance + 1) ∷ [];
      chain = k.chain ++ made ∷ [];
      rest = rest.Arrives;
    } in
    called_new h o t canon x slot is (new_is t instance canon made kind callee words) refl))
  where
    new_is : (t instance canon made : ℕ) (kind : Kind) (callee : Callee) (words : List ℕ) → IsNew (new_slot instance kind callee (Guest (new_called t canon words made)))
    new_is t instance canon made kind callee words = record {
      untold = λ called e. ap (λ (c : Called). is_over c.subtask.told) (sym (some_same e));
      unawaited = λ called e. ap (λ (c : Called). c.is_awaited) (sym (some_same e));
      unresolved = refl;
      at_none = refl;
    }

pub unlent_well : (at : ℕ) (callee : ℕ) (handle : ℕ) (h : Held) → KeepsWell h (unlent at callee handle h)
unlent_well at callee handle h =
    well_after h (lend_ended at handle h) (λ done k. told (line.Unlend (at + 1) handle callee) k) (lend_ended_well at handle h) (λ done k. told_well (line.Unlend (at + 1) handle callee) k)

pub all_unlent_well : (at : ℕ) (callee : ℕ) (x : List ℕ) (h : Held) → KeepsWell h (all_unlent at callee x h)
all_unlent_well at callee [] h =
    well_same h
all_unlent_well at callee (handle ∷ handles) h =
    well_after h (unlent at callee handle h) (λ done k. all_unlent at callee handles k) (unlent_well at callee handle h) (λ done k. all_unlent_well at callee handles k)

pub given_back_well : (at : ℕ) (callee : ℕ) (h : Held) → KeepsWell h (given_back at callee h)
unfolding given_back
given_back_well at callee h =
    well_after h (lends_found callee h) (λ handles k. all_unlent at callee handles k) (lends_found_well callee h) (λ handles k. all_unlent_well at callee handles k)

pub given_back_if_well : (is_over : Bool) (at : ℕ) (callee : ℕ) (h : Held) → KeepsWell h (given_back_if is_over at callee h)
given_back_if_well is_over at callee h =
    well_if h (is_over) (given_back at callee h) (Gives (tt {0}) h) (given_back_well at callee h) (well_same h)

pub subtask_told_well : (at : ℕ) (callee : ℕ) (h : Held) → KeepsWell h (subtask_told at callee h)
unfolding subtask_told
subtask_told_well at callee h =
    well_after h (resolved callee h) (λ is_over k. after (given_back_if is_over at callee k) (λ done l. state_told callee l)) (resolved_well callee h) (λ is_over k. well_after k (given_back_if is_over at callee k) (λ done l. state_told callee l) (given_back_if_well is_over at callee k) (λ done l. state_told_well callee l))

pub call_resolved_well : (g : Views) (t : ℕ) (at : ℕ) (callee : ℕ) (canon : ℕ) (h : Held) → KeepsWell h (call_resolved g t at callee canon h)
unfolding call_resolved
call_resolved_well g t at callee canon h =
    well_after h (result_found callee h) (λ words k. after (subtask_told at callee k) (λ payload l. if g.is_async canon then got t (2 ∷ []) l else got t words l)) (result_found_well callee h) (λ words k. well_after k (subtask_told at callee k) (λ payload l. if g.is_async canon then got t (2 ∷ []) l else got t words l) (subtask_told_well at callee k) (λ payload l. well_if l (g.is_async canon) (got t (2 ∷ []) l) (got t words l) (got_well t (2 ∷ []) l) (got_well t words l)))

pub call_open_well : (g : Views) (t : ℕ) (at : ℕ) (callee : ℕ) (canon : ℕ) (h : Held) → KeepsWell h (call_open g t at callee canon h)
unfolding call_open
call_open_well g t at callee canon h =
    well_if h (g.is_async canon) (after (entry_added at (entry.Subtask callee) h) (λ index k. after (state_told callee k) (λ state l. got t ((state + 16 * index) ∷ []) l))) (blocked_in t canon (g.flag canon) (blocked_at.Call callee) (reason.Call callee) h) (well_after h (entry_added at (entry.Subtask callee) h) (λ index k. after (state_told callee k) (λ state l. got t ((state + 16 * index) ∷ []) l)) (entry_added_well at (entry.Subtask callee) h) (λ index k. well_after k (state_told callee k) (λ state l. got t ((state + 16 * index) ∷ []) l) (state_told_well callee k) (λ state l. got_well t ((state + 16 * index) ∷ []) l))) (blocked_in_well t canon (g.flag canon) (blocked_at.Call callee) (reason.Call callee) h)

pub back_from_call_well : (g : Views) (t : ℕ) (at : ℕ) (callee : ℕ) (canon : ℕ) (h : Held) → KeepsWell h (back_from_call g t at callee canon h)
unfolding back_from_call
back_from_call_well g t at callee canon h =
    well_after h (errand_set t errand.None h) (λ done k. after (resolved callee k) (λ is_over l. if is_over then call_resolved g t at callee canon l else call_open g t at callee canon l)) (errand_set_well t errand.None h tt) (λ done k. well_after k (resolved callee k) (λ is_over l. if is_over then call_resolved g t at callee canon l else call_open g t at callee canon l) (resolved_well callee k) (λ is_over l. well_if l (is_over) (call_resolved g t at callee canon l) (call_open g t at callee canon l) (call_resolved_well g t at callee canon l) (call_open_well g t at callee canon l)))

pub cancel_resolved_well : (t : ℕ) (at : ℕ) (callee : ℕ) (h : Held) → KeepsWell h (cancel_resolved t at callee h)
unfolding cancel_resolved
cancel_resolved_well t at callee h =
    well_after h (subtask_told at callee h) (λ payload k. got t (payload ∷ []) k) (subtask_told_well at callee h) (λ payload k. got_well t (payload ∷ []) k)

pub cancel_open_well : (g : Views) (t : ℕ) (callee : ℕ) (canon : ℕ) (index : ℕ) (h : Held) → NoneCalls h callee → KeepsWell h (cancel_open g t callee canon index h)
unfolding cancel_open
cancel_open_well g t callee canon index h apart =
    well_if h (g.flag canon) (got t (blocked_word ∷ []) h) (after (awaited callee true h) (λ done k. blocked_in t canon (g.flag canon) (blocked_at.Cancel index) (reason.Cancel index) k))
    (got_well t (blocked_word ∷ []) h)
    (well_after h (awaited callee true h) (λ done k. blocked_in t canon (g.flag canon) (blocked_at.Cancel index) (reason.Cancel index) k) (awaited_well callee h apart)
    (λ done k. blocked_in_well t canon (g.flag canon) (blocked_at.Cancel index) (reason.Cancel index) k))

-- The task that cancels is at no errand then.
none_calls : (h : Held) (t callee : ℕ) (x : TaskSlot) → NoneCalls h callee → NoneCalls (with_task t (at_errand errand.None x) h) callee
none_calls h t callee x apart n canon slot found at =
    elim (set_either h.tasks t (at_errand errand.None x) n slot found) [
      | inl new ↦ none_not (ap (λ (s : TaskSlot). s.errand) (sym new.1) ∙ at)
      | inr old ↦ apart n canon slot old at
    ]
  where
    none_not : {a b : ℕ} → errand.None ≡ errand.AfterCall a b → ⊥
    none_not e = cc

pub back_from_cancel_well : (g : Views) (t : ℕ) (at : ℕ) (callee : ℕ) (canon : ℕ) (index : ℕ) (h : Held) → NoneCalls h callee → KeepsWell h (back_from_cancel g t at callee canon index h)
unfolding back_from_cancel
back_from_cancel_well g t at callee canon index h apart =
    look_well h (slice_get h.tasks t) (λ x. Gives (tt {0}) (with_task t (at_errand errand.None x) h))
    (λ done k. after (resolved callee k) (λ is_over l. if is_over then cancel_resolved t at callee l else cancel_open g t callee canon index l))
    (λ x is.
    let k : Held = with_task t (at_errand errand.None x) h in
    well_behind h k (after (resolved callee k) (λ is_over l. if is_over then cancel_resolved t at callee l else cancel_open g t callee canon index l))
    (well_task h t x (at_errand errand.None x) is (errand_rises errand.None x tt))
    (look_well k (slice_get k.tasks callee) (λ slot. Gives (is_over (state_of slot.task)) k)
    (λ is_over l. if is_over then cancel_resolved t at callee l else cancel_open g t callee canon index l)
    (λ slot found.
    well_if k (is_over (state_of slot.task)) (cancel_resolved t at callee k) (cancel_open g t callee canon index k) (cancel_resolved_well t at callee k)
    (cancel_open_well g t callee canon index k (none_calls h t callee x apart)))))

pub back_by_well : (g : Views) (t : ℕ) (at : ℕ) (e : Errand) (h : Held) → ((callee canon index : ℕ) → e ≡ errand.AfterCancel callee canon index → NoneCalls h callee)
    → KeepsWell h (back_by g t at e h)
back_by_well g t at errand.None h apart =
    tt
back_by_well g t at (errand.AfterCall callee canon) h apart =
    back_from_call_well g t at callee canon h
back_by_well g t at (errand.AfterCancel callee canon index) h apart =
    back_from_cancel_well g t at callee canon index h (apart callee canon index refl)
back_by_well g t at (errand.Begins n) h apart =
    tt
back_by_well g t at (errand.InBuiltin canon) h apart =
    tt

pub back_well : (g : Views) (h : Held) → CancelsApart h → KeepsWell h (back g h)
unfolding back
back_well g h apart =
    look_well h (slice_get h.chain (length h.chain - 1)) (λ t. Gives t h) (λ t k. after (instance_of t k) (λ at l. after (errand_of t l) (λ e m. back_by g t at e m)))
    (λ t acts.
    look_well h (slice_get h.tasks t) (λ slot. Gives slot.instance h) (λ at l. after (errand_of t l) (λ e m. back_by g t at e m))
    (λ x is.
    look_well h (slice_get h.tasks t) (λ slot. Gives slot.errand h) (λ e m. back_by g t x.instance e m)
    (λ y found. back_by_well g t x.instance y.errand h (λ callee canon index e. apart t callee canon index y found e))))

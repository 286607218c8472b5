-- Built-ins that answer at once.
use Rattle.std.proofs.Common.{◌≡◌, ◌<◌, ◌≤◌, ℕ, zero, suc, ◌+◌, ◌-◌, Bool, true, false, not, nat_eq, nat_lt, nat_le, if◌then◌else◌, List, [], ◌∷◌, ◌++◌, is_some, length, slice_index, refl, sym, ap, ◌∙◌, subst, arith, Option, Some, None, Result, Ok, Err}
use Rattle.std.specs.Prelude.{IsSome}
use Rattle.std.specs.Option.{option_map}
use Rattle.std.specs.List.{slice_get}
use Rattle.std.proofs.lemmas.Bool.{ltb-true, ltb-false, lt-leb, le-leb, eq-eqb, ne_eqb}
use Rattle.std.proofs.lemmas.List.{length-map}
use Rattle.syntax_trees.specs.declared.types.ValType.{ValType}
use Rattle.wasm_store.specs.Stack.{Stack}
use Rattle.handle_table.specs.History.{Remove, live}
use Rattle.waitables.specs.Sets.{SetView, no_set, left}
use Rattle.entry_gate.specs.Gates.{with_pressure, set_pressure}
use Rattle.tasks.specs.Subtasks.{is_over}
use Rattle.tasks.specs.declared.subtask_state.SubtaskState.{SubtaskState}
use Rattle.res_handles.specs.Calls.{own_handle}
use Rattle.res_handles.specs.Refusals.{handle_in, rep_of}
use Rattle.comp_graph.specs.Graph.{Graph}
use Rattle.script_reader.specs.Script.{Script}
use Rattle.trace_labels.specs.declared.trap.TrapName.{TrapName}
use Rattle.trace_labels.specs.declared.trap.TrapName.TheVariants as trap
use Rattle.instances.specs.declared.entry.WorldEntry.{WorldEntry}
use Rattle.instances.specs.declared.entry.WorldEntry.TheVariants as entry
use Rattle.instances.specs.Entries as entries
use Rattle.instances.specs.Instances as instance
use Rattle.instances.specs.Instances.{InstanceView, entry_of, view_of, with_sets, with_gate}
use Rattle.task_table.specs.declared.slot.TaskSlot.{TaskSlot}
use Rattle.task_table.specs.Slots as slots
use Rattle.world_parts.specs.Held.{Held, Gives, Traps, after, given}
use Rattle.world_parts.specs.Entries.{with_instance, named, entry_added, entry_removed, removed_of, set_made, set_left}
use Rattle.world_parts.specs.Feed.{got}
use Rattle.world_parts.specs.Slots.{with_task, context_set, delivered, word_in}
use Rattle.world_parts.specs.Plain.{context_get, context_put, backpressure_inc, backpressure_dec, backpressure_set}
use Rattle.world_parts.specs.Handles.{resource_new, resource_rep}
use Rattle.world_parts.specs.Waits.{set_new}
use Rattle.world_parts.specs.Subtasks.{subtask_drop}
use Rattle.abi_machine.specs.World.{OwnHandle, OfSet, Inst, Task, World}
use Rattle.abi_machine.specs.Edits as world
use Rattle.abi_machine.specs.Edits.{changed_at, by_views, word_changed, word_set, with_backpressure, left_set}
use Rattle.abi_machine.specs.Traps.{renamed, refusal_name}
use Rattle.abi_machine.specs.Reading.{table_in, sets_in, backpressure_in, backpressure_of, task_at}
use Rattle.abi_machine.specs.Counting.{entry_view}
use Rattle.abi_machine.specs.Finding as found
use Rattle.abi_machine.specs.Turn.{Turn, doomed, unless, unless_refused, with_entry, replied}
use Rattle.abi_machine.specs.Calling.{with_subtask_of}
use Rattle.abi_machine.specs.Reply.{exempt_turn}
use Rattle.abi_machine.specs.replies.Context as context
use Rattle.abi_machine.specs.replies.Context.{word_of, word_answer, set_answer, rep_answered, rep_answer}
use Rattle.abi_machine.specs.replies.Pressure.{pressure_inc_turn, pressure_dec_turn, pressure_set_turn}
use Rattle.abi_machine.specs.replies.Resources.{resource_new_turn}
use Rattle.abi_machine.specs.replies.Waiting.{set_new_turn}
use Rattle.abi_machine.specs.replies.Subtasks.{subtask_drop_turn}
use Rattle.abi_machine.proofs.sound.Found.{ok_same}
use Rattle.standing.specs.Instances.{InstStands}
use Rattle.standing.specs.Tasks.{TaskStands}
use Rattle.standing.specs.Stands.{Stands}
use Rattle.standing.specs.Agreeing.{Agrees}
use Rattle.standing.specs.Replies.{ContextIsRead, ContextIsSet, RepIsRead, HandleIsMade, PressureRises, PressureFalls, PressureIsSet, SetIsMade, SubtaskIsDropped}
use Rattle.standing.proofs.Tables.{entries_are_alike, entries_are_removed, sets_are_made, waitables_leave, pressure_changes}
use Rattle.standing.proofs.Changes.{instances_change, refusals_change_nothing, tasks_change}
use Rattle.standing.proofs.Found.{subtask_alike, rep_alike, word_is}
use Rattle.standing.proofs.Agreeing.{turn_as, on_word, on_instance, on_slot, on_subtask, on_got, on_trap, on_if, on_add, on_named, get_set, changed_twice}

-- Words of context.
pub word_same : (slot : ℕ) (c : ℕ × ℕ) → slots.word_at slot c ≡ context.word_at slot c
word_same zero c = refl
word_same (suc slot) c = refl

pub context_is_read : ContextIsRead
unfolding context_get exempt_turn
context_is_read g values s h stacks w t slot there st =
    on_slot g values s t h.labels stacks h w t (λ x. Gives (slots.word_at slot x.context) h) (λ word k. got t (word ∷ []) k)
    (exempt_turn t (word_answer t slot w) w) there st
    (λ x y is_left is_right alike.
    turn_as g values s t h.labels stacks (got t (slots.word_at slot x.context ∷ []) h) (replied t (word_of slot (task_at w t) ∷ []) w)
    (replied t (slots.word_at slot x.context ∷ []) w)
    (ap (λ (o : Option Task). replied t (word_of slot o ∷ []) w) is_right
    ∙ ap (λ (n : ℕ). replied t (n ∷ []) w) (sym (ap (λ (c : ℕ × ℕ). slots.word_at slot c) alike.words ∙ word_same slot y.context)))
    (on_got g values s t h.labels stacks h w (slots.word_at slot x.context ∷ []) refl st))

changed_same : (slot word : ℕ) (c : ℕ × ℕ) → slots.word_changed slot word c ≡ word_changed slot word c
changed_same zero word c = refl
changed_same (suc slot) word c = refl

pub word_put : (g : Graph) (s : Script) (x : TaskSlot) (a : Task) (slot word : ℕ) → TaskStands g s x a
    → TaskStands g s (slots.with_word slot word x) (record a { context = word_changed slot word a.context })
word_put g s x a slot word st = record {
  does = st.does;
  place = st.place;
  lifted = st.lifted;
  called = st.called;
  seen = st.seen;
  far = st.far;
  at = st.at;
  resolved = st.resolved;
  cancelled = st.cancelled;
  words = ap (λ (c : ℕ × ℕ). slots.word_changed slot word c) st.words ∙ changed_same slot word a.context;
  placed = st.placed;
}

pub context_is_set : ContextIsSet
unfolding context_put exempt_turn
context_is_set g values s h stacks w t slot word words is there st =
    on_word g values s t h.labels stacks (word_in words 0) word (λ word. after (context_set t slot word h) (λ done k. got t [] k))
    (exempt_turn t (set_answer t slot (slice_index words 0) w) w) is
    (turn_as g values s t h.labels stacks (after (context_set t slot word h) (λ done k. got t [] k)) (replied t [] (word_set t slot (slice_index words 0) w))
    (replied t [] (word_set t slot word w)) (ap (λ (n : ℕ). replied t [] (word_set t slot n w)) (word_is words 0 word is))
    (on_slot g values s t h.labels stacks h w t (λ x. Gives tt (with_task t (slots.with_word slot word x) h)) (λ done k. got t [] k)
    (replied t [] (word_set t slot word w)) there st
    (λ x y is_left is_right alike.
    on_got g values s t h.labels stacks (with_task t (slots.with_word slot word x) h) (word_set t slot word w) [] refl
    (tasks_change g values s h stacks w t x (slots.with_word slot word x) (λ task. record task { context = word_changed slot word task.context }) is_left
    (λ a e now. word_put g s x a slot word now) (λ a. refl) st))))

-- What a handle stands for, and a new one.
exempt_is : (t : ℕ) (w : World) (r : Result ℕ TrapName) → exempt_turn t (rep_answered w r) w ≡ unless_refused t r w (λ rep. replied t (rep ∷ []) w)
unfolding exempt_turn
exempt_is t w (Ok rep) = refl
exempt_is t w (Err why) = refl

pub rep_is_read : RepIsRead
unfolding resource_rep
rep_is_read g values s h stacks w t at resource word words is there st =
    on_word g values s t h.labels stacks (word_in words 0) word
    (λ index. after (given (slice_get h.instances at) (λ i. named (rep_of (handle_in (view_of i index) resource)) h)) (λ rep k. got t (rep ∷ []) k))
    (exempt_turn t (rep_answer at resource (slice_index words 0) w) w) is
    (turn_as g values s t h.labels stacks _ (exempt_turn t (rep_answer at resource (slice_index words 0) w) w) (exempt_turn t (rep_answer at resource word w) w)
    (ap (λ (n : ℕ). exempt_turn t (rep_answer at resource n w) w) (word_is words 0 word is))
    (on_instance g values s t h.labels stacks h w at (λ i. named (rep_of (handle_in (view_of i word) resource)) h) (λ rep k. got t (rep ∷ []) k)
    (exempt_turn t (rep_answer at resource word w) w) there st
    (λ x y is_left is_right alike.
    turn_as g values s t h.labels stacks _ (exempt_turn t (rep_answer at resource word w) w)
    (unless_refused t (renamed refusal_name (rep_of (handle_in (view_of x word) resource))) w (λ rep. replied t (rep ∷ []) w))
    (exempt_is t w (renamed refusal_name (rep_of (handle_in (option_map (entry_view w at word) (live (table_in (slice_get w.insts at)) word)) resource)))
    ∙ ap (λ (o : Option Inst). unless_refused t (renamed refusal_name (rep_of (handle_in (option_map (entry_view w at word) (live (table_in o) word)) resource))) w (λ rep. replied t (rep ∷ []) w)) is_right
    ∙ ap (λ r. unless_refused t (renamed refusal_name r) w (λ rep. replied t (rep ∷ []) w))
    (rep_alike values w at word resource (entry_of x word) (live y.table word) (entries_are_alike values x y word alike)))
    (on_named g values s t h.labels stacks h w (rep_of (handle_in (view_of x word) resource)) (λ rep k. got t (rep ∷ []) k) (λ rep. replied t (rep ∷ []) w) refl st
    (λ rep e. on_got g values s t h.labels stacks h w (rep ∷ []) refl st)))))

pub handle_is_made : HandleIsMade
unfolding resource_new resource_new_turn
handle_is_made g values s h stacks w t at resource word words is there st =
    on_word g values s t h.labels stacks (word_in words 0) word
    (λ rep. after (entry_added at (entry.Handle (own_handle resource rep)) h) (λ index k. got t (index ∷ []) k))
    (resource_new_turn t at resource (slice_index words 0) w) is
    (turn_as g values s t h.labels stacks _ (resource_new_turn t at resource (slice_index words 0) w)
    (with_entry t at (OwnHandle resource word) w (λ index v. replied t (index ∷ []) v))
    (ap (λ (n : ℕ). with_entry t at (OwnHandle resource n) w (λ index v. replied t (index ∷ []) v)) (word_is words 0 word is))
    (on_add g values s t h.labels stacks h w at (entry.Handle (own_handle resource word)) (OwnHandle resource word) (λ index k. got t (index ∷ []) k)
    (λ index v. replied t (index ∷ []) v) there refl refl st
    (λ index k v there_now same now. on_got g values s t h.labels stacks k v (index ∷ []) same now)))

-- Backpressure.
le_not_lt : (a b : ℕ) → nat_le a b ≡ not (nat_lt b a)
le_not_lt a b = by (nat_lt b a) refl
  where
    by : (c : Bool) → nat_lt b a ≡ c → nat_le a b ≡ not c
    by true e = lt-leb a b (ltb-true b a e)
    by false e = le-leb a b (ltb-false b a e)

none_not_lt : (p : ℕ) → nat_eq p 0 ≡ not (nat_lt 0 p)
none_not_lt p = by (nat_lt 0 p) refl
  where
    by : (c : Bool) → nat_lt 0 p ≡ c → nat_eq p 0 ≡ not c
    by true e = let more : 0 < p = ltb-true 0 p e in ne_eqb p 0 (λ same. omega (arith, more, same))
    by false e = let none : p ≤ 0 = ltb-false 0 p e in eq-eqb p 0 (omega (arith, none))

turned : {A : Type 0} (c : Bool) (u v : A) → (if not c then u else v) ≡ (if c then v else u)
turned true u v = refl
turned false u v = refl

pressure_is : (w : World) (values : List ValType) (at : ℕ) (x : InstanceView) (y : Inst) → slice_get w.insts at ≡ Some y → InstStands values x y → backpressure_of w at ≡ x.gate.pressure
pressure_is w values at x y is alike = ap backpressure_in is ∙ sym alike.pressure

pressed : ℕ → InstanceView → InstanceView
pressed p x = with_gate (with_pressure p x.gate) x

pub on_pressure : (g : Graph) (values : List ValType) (s : Script) (h : Held) (stacks : List (List Stack)) (w : World) (t at p : ℕ) (x : InstanceView)
    → slice_get h.instances at ≡ Some x → Stands g values s h stacks w
    → Agrees g values s t h.labels stacks (got t [] (with_instance at (with_gate (with_pressure p x.gate) x) h)) (replied t [] (with_backpressure at p w))
on_pressure g values s h stacks w t at p x is st =
    on_got g values s t h.labels stacks (with_instance at (with_gate (with_pressure p x.gate) x) h) (with_backpressure at p w) [] refl
    (instances_change g values s h stacks w at x (with_gate (with_pressure p x.gate) x) (λ inst. record inst { backpressure = p }) is (λ a e now. pressure_changes values x a p now) st)

tested : (g : Graph) (values : List ValType) (s : Script) (h : Held) (stacks : List (List Stack)) (w : World) (t at p : ℕ) (x : InstanceView) (why : TrapName) (b : Bool)
    → slice_get h.instances at ≡ Some x → Stands g values s h stacks w
    → Agrees g values s t h.labels stacks
    (after (if b then Gives tt (with_instance at (with_gate (with_pressure p x.gate) x) h) else Traps why (with_instance at x h)) (λ (done : Unit {0}) k. got t [] k))
    (if b then replied t [] (with_backpressure at p w) else doomed t why w)
tested g values s h stacks w t at p x why true is st = on_pressure g values s h stacks w t at p x is st
tested g values s h stacks w t at p x why false is st =
    on_trap g values s t h.labels stacks (with_instance at x h) w why refl (refusals_change_nothing g values s h stacks w at x is st)

pub pressure_rises : PressureRises
unfolding backpressure_inc pressure_inc_turn
pressure_rises g values s h stacks w t at there st =
    on_instance g values s t h.labels stacks h w at
    (λ i. if nat_lt i.gate.pressure 65535 then Gives tt (with_instance at (with_gate (with_pressure (i.gate.pressure + 1) i.gate) i) h) else Traps trap.PressureLimit (with_instance at i h))
    (λ done k. got t [] k) (pressure_inc_turn t at w) there st
    (λ x y is_left is_right alike.
    turn_as g values s t h.labels stacks _ (pressure_inc_turn t at w)
    (if nat_lt x.gate.pressure 65535 then replied t [] (with_backpressure at (x.gate.pressure + 1) w) else doomed t trap.PressureLimit w)
    (ap (λ (p : ℕ). if nat_le 65535 p then doomed t trap.PressureLimit w else replied t [] (with_backpressure at (p + 1) w)) (pressure_is w values at x y is_right alike)
    ∙ ap (λ (b : Bool). if b then doomed t trap.PressureLimit w else replied t [] (with_backpressure at (x.gate.pressure + 1) w)) (le_not_lt 65535 x.gate.pressure)
    ∙ turned (nat_lt x.gate.pressure 65535) (doomed t trap.PressureLimit w) (replied t [] (with_backpressure at (x.gate.pressure + 1) w)))
    (tested g values s h stacks w t at (x.gate.pressure + 1) x trap.PressureLimit (nat_lt x.gate.pressure 65535) is_left st))

pub pressure_falls : PressureFalls
unfolding backpressure_dec pressure_dec_turn
pressure_falls g values s h stacks w t at there st =
    on_instance g values s t h.labels stacks h w at
    (λ i. if nat_lt 0 i.gate.pressure then Gives tt (with_instance at (with_gate (with_pressure (i.gate.pressure - 1) i.gate) i) h) else Traps trap.PressureZero (with_instance at i h))
    (λ done k. got t [] k) (pressure_dec_turn t at w) there st
    (λ x y is_left is_right alike.
    turn_as g values s t h.labels stacks _ (pressure_dec_turn t at w)
    (if nat_lt 0 x.gate.pressure then replied t [] (with_backpressure at (x.gate.pressure - 1) w) else doomed t trap.PressureZero w)
    (ap (λ (p : ℕ). if nat_eq p 0 then doomed t trap.PressureZero w else replied t [] (with_backpressure at (p - 1) w)) (pressure_is w values at x y is_right alike)
    ∙ ap (λ (b : Bool). if b then doomed t trap.PressureZero w else replied t [] (with_backpressure at (x.gate.pressure - 1) w)) (none_not_lt x.gate.pressure)
    ∙ turned (nat_lt 0 x.gate.pressure) (doomed t trap.PressureZero w) (replied t [] (with_backpressure at (x.gate.pressure - 1) w)))
    (tested g values s h stacks w t at (x.gate.pressure - 1) x trap.PressureZero (nat_lt 0 x.gate.pressure) is_left st))

pub pressure_is_set : PressureIsSet
unfolding backpressure_set pressure_set_turn
pressure_is_set g values s h stacks w t at word words is there st =
    on_word g values s t h.labels stacks (word_in words 0) word
    (λ enabled. after (given (slice_get h.instances at) (λ i. Gives tt (with_instance at (with_gate (with_pressure (set_pressure enabled) i.gate) i) h))) (λ done k. got t [] k))
    (pressure_set_turn t at (slice_index words 0) w) is
    (turn_as g values s t h.labels stacks _ (pressure_set_turn t at (slice_index words 0) w) (replied t [] (with_backpressure at (set_pressure word) w))
    (ap (λ (n : ℕ). replied t [] (with_backpressure at (set_pressure n) w)) (word_is words 0 word is))
    (on_instance g values s t h.labels stacks h w at (λ i. Gives tt (with_instance at (with_gate (with_pressure (set_pressure word) i.gate) i) h)) (λ done k. got t [] k)
    (replied t [] (with_backpressure at (set_pressure word) w)) there st
    (λ x y is_left is_right alike. on_pressure g values s h stacks w t at (set_pressure word) x is_left st)))

-- A new set.
sets_count : (w : World) (values : List ValType) (at : ℕ) (x : InstanceView) (y : Inst) → slice_get w.insts at ≡ Some y → InstStands values x y
    → length (sets_in (slice_get w.insts at)) ≡ length x.sets
sets_count w values at x y is alike =
    ap (λ (o : Option Inst). length (sets_in o)) is ∙ ap (λ (xs : List (List ℕ)). length xs) (sym alike.sets) ∙ length-map x.sets (λ (v : SetView). v.members)

pub set_is_made : SetIsMade
unfolding set_new set_new_turn
set_is_made g values s h stacks w t at there st =
    on_instance g values s t h.labels stacks h w at (λ i. Gives (length i.sets) h)
    (λ set k. after (entry_added at (entry.Set set) k) (λ index l. after (set_made at l) (λ number m. got t (index ∷ []) m)))
    (set_new_turn t at w) there st
    (λ x y is_left is_right alike.
    turn_as g values s t h.labels stacks _ (set_new_turn t at w) (with_entry t at (OfSet (length x.sets)) w (λ index v. replied t (index ∷ []) (world.set_made at v)))
    (ap (λ (n : ℕ). with_entry t at (OfSet n) w (λ index v. replied t (index ∷ []) (world.set_made at v))) (sets_count w values at x y is_right alike))
    (on_add g values s t h.labels stacks h w at (entry.Set (length x.sets)) (OfSet (length x.sets)) (λ index l. after (set_made at l) (λ number m. got t (index ∷ []) m))
    (λ index v. replied t (index ∷ []) (world.set_made at v)) there refl refl st
    (λ index k v there_now same now.
    on_instance g values s t h.labels stacks k v at (λ i. Gives (length i.sets) (with_instance at (with_sets (i.sets ++ no_set ∷ []) i) k)) (λ number m. got t (index ∷ []) m)
    (replied t (index ∷ []) (world.set_made at v)) there_now now
    (λ a b at_left at_right are.
    on_got g values s t h.labels stacks (with_instance at (with_sets (a.sets ++ no_set ∷ []) a) k) (world.set_made at v) (index ∷ []) same
    (instances_change g values s k stacks v at a (with_sets (a.sets ++ no_set ∷ []) a) (λ inst. record inst { sets = inst.sets ++ [] ∷ [] }) at_left
    (λ c e stands. sets_are_made values a c stands) now)))))

-- A subtask leaves its set and the table.
pub subtask_there : (o : Option WorldEntry) (callee : ℕ) → entries.subtask_in o ≡ Ok callee → o ≡ Some (entry.Subtask callee)
subtask_there None callee e = absurd (cc)
subtask_there (Some (entry.Handle x)) callee e = absurd (cc)
subtask_there (Some (entry.Subtask other)) callee e = ap (λ (n : ℕ). Some (entry.Subtask n)) (ok_same e)
subtask_there (Some (entry.Set set)) callee e = absurd (cc)
subtask_there (Some (entry.End x)) callee e = absurd (cc)

pub on_taken : (g : Graph) (values : List ValType) (s : Script) (h : Held) (stacks : List (List Stack)) (w : World) (t at index : ℕ) (x : InstanceView) (e : WorldEntry)
    → slice_get h.instances at ≡ Some x → entry_of x index ≡ Some e → Stands g values s h stacks w
    → Agrees g values s t h.labels stacks (after (set_left at index h) (λ done m. after (entry_removed at index m) (λ done n. got t [] n)))
    (replied t [] (left_set at index (world.entry_removed at index w)))
on_taken g values s h stacks w t at index x e is there st =
    let left_it : InstanceView = with_sets (left index x.sets) x in
    let once : Held = with_instance at left_it h in
    let end : Turn = replied t [] (left_set at index (world.entry_removed at index w)) in
    let stands_once : Stands g values s once stacks (left_set at index w) =
    instances_change g values s h stacks w at x left_it (λ inst. record inst { sets = by_views (left index) inst.sets }) is (λ a e now. waitables_leave values x a index now) st in
    let here : IsSome (entry_of left_it index) = ap is_some there in
    let stands_twice : Stands g values s (with_instance at (instance.entry_removed index left_it) once) stacks (world.entry_removed at index (left_set at index w)) =
    instances_change g values s once stacks (left_set at index w) at left_it (instance.entry_removed index left_it) (λ inst. record inst { table = Remove index ∷ inst.table })
    (get_set h.instances at x left_it is) (λ a e now. entries_are_removed values left_it a index here now) stands_once in
    let same : changed_at at (λ inst. record inst { table = Remove index ∷ inst.table }) (changed_at at (λ inst. record inst { sets = by_views (left index) inst.sets }) w.insts)
    ≡ changed_at at (λ inst. record inst { sets = by_views (left index) inst.sets }) (changed_at at (λ inst. record inst { table = Remove index ∷ inst.table }) w.insts) =
    changed_twice at (λ (inst : Inst). record inst { table = Remove index ∷ inst.table }) (λ (inst : Inst). record inst { sets = by_views (left index) inst.sets }) w.insts
    ∙ sym (changed_twice at (λ (inst : Inst). record inst { sets = by_views (left index) inst.sets }) (λ (inst : Inst). record inst { table = Remove index ∷ inst.table }) w.insts) in
    let both : Stands g values s (with_instance at (instance.entry_removed index left_it) once) stacks (left_set at index (world.entry_removed at index w)) =
    subst (λ (insts : List Inst). Stands g values s (with_instance at (instance.entry_removed index left_it) once) stacks (record w { insts = insts })) same stands_twice in
    subst (λ (o : Option InstanceView). Agrees g values s t h.labels stacks (after (given o (λ i. Gives tt (with_instance at (with_sets (left index i.sets) i) h))) (λ (done : Unit {0}) m. after (entry_removed at index m) (λ done n. got t [] n))) end)
    (sym is)
    (subst (λ (o : Option InstanceView). Agrees g values s t h.labels stacks (after (given o (λ i. removed_of (entry_of i index) at index i once)) (λ (done : Unit {0}) n. got t [] n)) end)
    (sym (get_set h.instances at x left_it is))
    (subst (λ (o : Option WorldEntry). Agrees g values s t h.labels stacks (after (removed_of o at index left_it once) (λ (done : Unit {0}) n. got t [] n)) end)
    (sym there)
    (on_got g values s t h.labels stacks (with_instance at (instance.entry_removed index left_it) once) (left_set at index (world.entry_removed at index w)) [] refl both)))

pub subtask_is : (values : List ValType) (w : World) (at index : ℕ) (x : InstanceView) (y : Inst) → slice_get w.insts at ≡ Some y → InstStands values x y
    → found.subtask_at w at index ≡ renamed refusal_name (entries.subtask_in (entry_of x index))
subtask_is values w at index x y is alike =
    ap (λ (o : Option Inst). found.subtask_in (live (table_in o) index)) is ∙ subtask_alike values (entry_of x index) (live y.table index) (entries_are_alike values x y index alike)

pub subtask_is_dropped : SubtaskIsDropped
unfolding subtask_drop subtask_drop_turn
subtask_is_dropped g values s h stacks w t at word words is there st =
    on_word g values s t h.labels stacks (word_in words 0) word
    (λ index. after (given (slice_get h.instances at) (λ i. named (entries.subtask_in (entry_of i index)) h)) (λ callee k. after (delivered callee k) (λ is_delivered l.
    if not is_delivered then Traps trap.NotDelivered l else after (set_left at index l) (λ done m. after (entry_removed at index m) (λ done n. got t [] n)))))
    (subtask_drop_turn t at (slice_index words 0) w) is
    (turn_as g values s t h.labels stacks _ (subtask_drop_turn t at (slice_index words 0) w) (subtask_drop_turn t at word w)
    (ap (λ (n : ℕ). subtask_drop_turn t at n w) (word_is words 0 word is))
    (on_instance g values s t h.labels stacks h w at (λ i. named (entries.subtask_in (entry_of i word)) h)
    (λ callee k. after (delivered callee k) (λ is_delivered l.
    if not is_delivered then Traps trap.NotDelivered l else after (set_left at word l) (λ done m. after (entry_removed at word m) (λ done n. got t [] n))))
    (subtask_drop_turn t at word w) there st
    (λ x y is_left is_right alike.
    turn_as g values s t h.labels stacks _ (subtask_drop_turn t at word w)
    (unless_refused t (renamed refusal_name (entries.subtask_in (entry_of x word))) w (λ callee.
    with_subtask_of w callee (λ task subtask. unless t (not (is_over subtask.told)) trap.NotDelivered w (replied t [] (left_set at word (world.entry_removed at word w))))))
    (ap (λ r. unless_refused t r w (λ callee. with_subtask_of w callee (λ task subtask. unless t (not (is_over subtask.told)) trap.NotDelivered w (replied t [] (left_set at word (world.entry_removed at word w))))))
    (subtask_is values w at word x y is_right alike))
    (on_named g values s t h.labels stacks h w (entries.subtask_in (entry_of x word))
    (λ callee k. after (delivered callee k) (λ is_delivered l.
    if not is_delivered then Traps trap.NotDelivered l else after (set_left at word l) (λ done m. after (entry_removed at word m) (λ done n. got t [] n))))
    (λ callee. with_subtask_of w callee (λ task subtask. unless t (not (is_over subtask.told)) trap.NotDelivered w (replied t [] (left_set at word (world.entry_removed at word w)))))
    refl st
    (λ callee found_it.
    on_subtask g values s t h.labels stacks h w callee (λ called. Gives (is_over called.subtask.told) h)
    (λ is_delivered l. if not is_delivered then Traps trap.NotDelivered l else after (set_left at word l) (λ done m. after (entry_removed at word m) (λ done n. got t [] n)))
    (λ task subtask. unless t (not (is_over subtask.told)) trap.NotDelivered w (replied t [] (left_set at word (world.entry_removed at word w)))) st
    (λ slot task called subtask slot_is task_is by_is caller_is stands sub.
    on_if g values s t h.labels stacks (not (is_over called.subtask.told)) (not (is_over subtask.told)) _ _ _ _
    (ap (λ (state : SubtaskState). not (is_over state)) sub.was_told) (on_trap g values s t h.labels stacks h w trap.NotDelivered refl st)
    (on_taken g values s h stacks w t at word x (entry.Subtask callee) is_left (subtask_there (entry_of x word) callee found_it) st)))))))

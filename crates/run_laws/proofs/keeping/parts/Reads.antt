-- Reads and writes, up to where elements go over, leave marks of handles and subtasks as they follow from tables and tasks: a task that waits for a copy waits at
-- the index of an end, where no subtask stands.
use Rattle.std.proofs.Common.{◌≡◌, inl, inr, refl, sym, ap, ◌∙◌}
use Rattle.std.specs.Prelude.{ℕ, ◌+◌, ◌*◌, ◌%◌, nat_eq, nat_le, nat_lt, Bool, true, false, not, is_some, if◌then◌else◌, List, [], ◌∷◌, length, Option, Some, None}
use Rattle.std.specs.List.{slice_get}
use Rattle.std.proofs.lemmas.Bool.{cases_eq, ne_eqb}
use Rattle.syntax_trees.specs.declared.types.ValType.{ValType}
use Rattle.laid_types.specs.Layout.{laid}
use Rattle.builtin_kinds.specs.declared.EndKind.{EndKind}
use Rattle.builtin_kinds.specs.declared.EndKind.TheVariants.{Stream, Future}
use Rattle.stream_ends.specs.declared.side.Side.{Side}
use Rattle.stream_ends.specs.declared.open_copy.By.{By}
use Rattle.stream_ends.specs.declared.open_copy.By.TheVariants as by
use Rattle.stream_ends.specs.declared.meet.Meet.{Meet}
use Rattle.stream_ends.specs.declared.meet.Meet.TheVariants as meet
use Rattle.stream_ends.specs.Ends.{is_idle, is_copying}
use Rattle.channels.specs.declared.channel.Channel.{Channel}
use Rattle.channels.specs.Channels as channel
use Rattle.channels.specs.Channels.{may_offer, meet_in, end_in as channel_end, with_ends}
use Rattle.tasks.specs.declared.event.BlockedAt.TheVariants as blocked_at
use Rattle.tasks.specs.declared.event.TaskEvent.TheVariants as event
use Rattle.tasks.specs.Tasks as tasks
use Rattle.tasks.specs.Tasks.{is_acting, may_happen}
use Rattle.instances.specs.declared.entry.WorldEntry.TheVariants as entry
use Rattle.instances.specs.Entries.{end_in, any_end_in}
use Rattle.instances.specs.Instances as instance
use Rattle.instances.specs.Instances.{InstanceView, entry_of}
use Rattle.task_table.specs.declared.errand.Errand.TheVariants as errand
use Rattle.task_table.specs.declared.slot.TaskSlot.{TaskSlot}
use Rattle.task_table.specs.Slots as slots
use Rattle.task_table.specs.Slots.{event_answer, advanced_slot, at_errand}
use Rattle.trace_labels.specs.declared.label.BlockReason.TheVariants as reason
use Rattle.trace_labels.specs.declared.label.Label.TheVariants as line
use Rattle.trace_labels.specs.declared.trap.TrapName.TheVariants as trap
use Rattle.world_parts.specs.Views.{Views}
use Rattle.world_parts.specs.Held.{Held, Done, Gives, Traps, Spent, Stuck, after, given}
use Rattle.world_parts.specs.Feed.{told, left_chain, got}
use Rattle.world_parts.specs.Entries.{with_instance, named, end_idled}
use Rattle.world_parts.specs.Slots.{with_task, word_in, happened}
use Rattle.world_parts.specs.Channels.{channels, with_channels, channel_at, place_of, idle_seen, answered, offered_at, offered}
use Rattle.world_parts.specs.Places.{memory_of, bytes_at}
use Rattle.world_parts.specs.Calls.{blocked_word, blocked, blocked_in}
use Rattle.copy_replies.specs.declared.reading.CopyCall.{CopyCall}
use Rattle.copy_replies.specs.Reads.{answered_at_once, call_of, copy_asked, copy_tested, idle_said, is_within, left_standing, length_in, meets, met, most_elements, offer_stands, placed_and_met, placed_well, read_or_write}
use Rattle.abi_machine.proofs.sound.Found.{some_same}
use Rattle.standing.specs.KeptMarks.{runs_at}
use Rattle.standing.proofs.Agreeing.{get_set}
use Rattle.standing.proofs.States.{states_stay, blocked_stays}
use Rattle.standing.proofs.marks.Tables.{put_same}
use Rattle.run_laws.proofs.keeping.Others.{Keeps, KeptBy, keeps_all, keeps_same, keeps_after, keeps_given, keeps_if, keeps_through, look_keeps, found_keeps, traps_same, never_traps, TrapsLent}
use Rattle.run_laws.proofs.keeping.Changes.{instance_keeps, task_keeps, lends_alike, borrows_alike, awaited_stands, states_alike, waits_there, waits_not, waits_elsewhere}
use Rattle.run_laws.proofs.keeping.Tables.{idled_alike}
use Rattle.run_laws.proofs.keeping.Alike.{same_task, acting_waits_not, acted_keeps}
use Rattle.run_laws.proofs.keeping.Told.{runs_not}
use Rattle.run_laws.proofs.keeping.parts.Copies.{end_stands}
use Rattle.run_laws.proofs.keeping.parts.Entries.{end_idled_keeps}
use Rattle.run_laws.proofs.keeping.parts.Channels.{idle_seen_keeps}
use Rattle.run_laws.proofs.keeping.parts.Feed.{got_keeps, left_chain_keeps, told_keeps}

-- No subtask stands at an index. A part leaves that so, and the tasks as they are.
abbrev pub NoSubtask : Held → ℕ → ℕ → Type 0
NoSubtask h at index = (callee : ℕ) (i : InstanceView) → slice_get h.instances at ≡ Some i → entry_of i index ≡ Some (entry.Subtask callee) → ⊥

pub record Quiet (h k : Held) (at index : ℕ) : Type 0 where
  pub keeps : Keeps h k
  pub tasks : k.tasks ≡ h.tasks
  pub none : NoSubtask h at index → NoSubtask k at index

abbrev pub QuietBy : {A : Type 0} → Held → ℕ → ℕ → Done A → Type 0
QuietBy h at index (Gives x k) = Quiet h k at index
QuietBy h at index (Traps why k) = TrapsLent h k
QuietBy h at index (Spent k) = Unit {0}
QuietBy h at index Stuck = Unit {0}

quiet_then : {A B : Type 0} (h : Held) (at index : ℕ) (d : Done A) (f : A → Held → Done B) → QuietBy h at index d → ((x : A) (k : Held) → Quiet h k at index → KeptBy k (f x k)) → KeptBy h (after d f)
quiet_then h at index (Gives x k) f q p = keeps_through h k (f x k) q.keeps (p x k q)
quiet_then h at index (Traps why k) f q p = q
quiet_then h at index (Spent k) f q p = tt
quiet_then h at index Stuck f q p = tt

quiet_given : {A B : Type 0} (h : Held) (at index : ℕ) (o : Option A) (f : A → Done B) → ((x : A) → o ≡ Some x → QuietBy h at index (f x)) → QuietBy h at index (given o f)
quiet_given h at index None f p = tt
quiet_given h at index (Some x) f p = p x refl

quiet_look : {A B C : Type 0} (h : Held) (at index : ℕ) (o : Option A) (f : A → Done B) (c : B → Held → Done C) → ((x : A) → o ≡ Some x → QuietBy h at index (after (f x) c))
    → QuietBy h at index (after (given o f) c)
quiet_look h at index None f c p = tt
quiet_look h at index (Some x) f c p = p x refl

quiet_if : (h k : Held) (at index : ℕ) (b : Bool) → Quiet h k at index → QuietBy h at index (if b then Gives (tt {0}) k else Stuck)
quiet_if h k at index true q = q
quiet_if h k at index false q = tt

same_quiet : (h : Held) (at index : ℕ) → Quiet h h at index
same_quiet h at index = record { keeps = keeps_same h; tasks = refl; none = λ none. none }

-- A stream or a future is another one.
channels_quiet : (kind : EndKind) (all : List Channel) (h : Held) (at index : ℕ) → Quiet h (with_channels kind all h) at index
channels_quiet Stream all h at index = record { keeps = keeps_all h (with_channels Stream all h) refl refl; tasks = refl; none = λ none. none }
channels_quiet Future all h at index = record { keeps = keeps_all h (with_channels Future all h) refl refl; tasks = refl; none = λ none. none }

answered_quiet : {A : Type 0} (o : Option A) (kind : EndKind) (place : ℕ) (c : Channel) (h : Held) (at index : ℕ) → QuietBy h at index (answered o kind place c h)
answered_quiet None kind place c h at index = tt
answered_quiet (Some x) kind place c h at index = channels_quiet kind _ h at index

offered_quiet : (kind : EndKind) (side : Side) (number : ℕ) (by : By) (canon address size : ℕ) (h : Held) (at index : ℕ) → QuietBy h at index (offered kind side number by canon address size h)
offered_quiet kind side number by canon address size h at index =
    quiet_given h at index (place_of number) (λ place. offered_at kind place side by canon address size h)
    (λ place is.
    quiet_given h at index (slice_get (channels kind h) place)
    (λ c.
    answered (if may_offer side size c.ends then Some (meet_in side by canon address size c.ends) else None) kind place
    (if may_offer side size c.ends then with_ends (channel.offered side by canon address size c.ends) c else c) h)
    (λ c there.
    answered_quiet (if may_offer side size c.ends then Some (meet_in side by canon address size c.ends) else None) kind place
    (if may_offer side size c.ends then with_ends (channel.offered side by canon address size c.ends) c else c) h at index))

idle_said_quiet : (c : CopyCall) (number : ℕ) (h : Held) → QuietBy h c.at c.index (idle_said c number h)
unfolding idle_said
idle_said_quiet c number h =
    quiet_look h c.at c.index (channel_at c.kind number h) (λ x. Gives (is_idle (channel_end c.side x.ends)) h) (λ is_idle k. end_idled c.at c.index is_idle k)
    (λ x is.
    let idle : Bool = is_idle (channel_end c.side x.ends) in
    quiet_given h c.at c.index (slice_get h.instances c.at)
    (λ i. if is_some (any_end_in (entry_of i c.index)) then Gives (tt {0}) (with_instance c.at (instance.idled c.index idle i) h) else Stuck)
    (λ i there.
    quiet_if h (with_instance c.at (instance.idled c.index idle i) h) c.at c.index (is_some (any_end_in (entry_of i c.index)))
    (record {
      keeps = instance_keeps h c.at i (instance.idled c.index idle i) there (idled_alike c.index idle (any_end_in (entry_of i c.index)) i refl);
      tasks = refl;
      none = λ none callee j here stood.
          let same : j ≡ instance.idled c.index idle i = put_same h.instances c.at c.at i (instance.idled c.index idle i) j there here refl in
          none callee i there
          ((idled_alike c.index idle (any_end_in (entry_of i c.index)) i refl).subtasks c.index callee (ap (λ (y : InstanceView). entry_of y c.index) (sym same) ∙ stood));
    })))

pub idle_said_keeps : (c : CopyCall) (number : ℕ) (h : Held) → KeptBy h (idle_said c number h)
unfolding idle_said
idle_said_keeps c number h =
    keeps_after h (idle_seen c.kind c.side number h) (λ is_idle k. end_idled c.at c.index is_idle k) (idle_seen_keeps c.kind c.side number h) (λ is_idle k. end_idled_keeps c.at c.index is_idle k)

pub answered_at_once_keeps : (c : CopyCall) (number : ℕ) (payload : ℕ) (h : Held) → KeptBy h (answered_at_once c number payload h)
unfolding answered_at_once
answered_at_once_keeps c number payload h =
    keeps_after h (idle_said c number h) (λ done k. got c.task (payload ∷ []) k) (idle_said_keeps c number h) (λ done k. got_keeps c.task (payload ∷ []) k)

-- A task that acts blocks for the copy at an index.
at_copy : ℕ → Bool → TaskSlot → TaskSlot
at_copy index flag x = slots.with_task (tasks.after (event.Block (blocked_at.Copy index) flag) x.task) x

waits_as : (h : Held) (at index : ℕ) (flag : Bool) (x : TaskSlot) → is_acting x.task.phase ≡ true → runs_at at x ≡ true → NoSubtask h at index
    → (n m callee : ℕ) (i : InstanceView) → slice_get h.instances n ≡ Some i → entry_of i m ≡ Some (entry.Subtask callee) → waits_there n m (at_copy index flag x) ≡ waits_there n m x
unfolding at_copy
waits_as h at index flag x acts runs none n m callee i here stood =
    let y : TaskSlot = slots.with_task (tasks.after (event.Block (blocked_at.Copy index) flag) x.task) x in
    elim (cases_eq n at) [
      | inl e ↦ elim (cases_eq m index) [
        | inl f ↦ absurd (none callee i (ap (λ (k : ℕ). slice_get h.instances k) (sym e) ∙ here) (ap (λ (k : ℕ). entry_of i k) (sym f) ∙ stood))
        | inr f ↦ waits_not n m y (ne_eqb index m (λ g. f (sym g))) ∙ sym (waits_not n m x (acting_waits_not m x.task.phase acts))
      ]
      | inr other ↦ waits_elsewhere n m y (runs_not at n x runs other) ∙ sym (waits_elsewhere n m x (runs_not at n x runs other))
    ]

copy_blocked : (h : Held) (t at index : ℕ) (flag : Bool) (x : TaskSlot) → slice_get h.tasks t ≡ Some x → is_acting x.task.phase ≡ true → runs_at at x ≡ true → NoSubtask h at index
    → Keeps h (with_task t (at_copy index flag x) h)
unfolding at_copy
copy_blocked h t at index flag x is acts runs none marks =
    let y : TaskSlot = slots.with_task (tasks.after (event.Block (blocked_at.Copy index) flag) x.task) x in
    record {
      lends = lends_alike h.instances h.tasks t x y is (λ n. refl) (λ p n. refl) marks.lends;
      borrows = borrows_alike h.instances h.tasks t x y is refl marks.borrows;
      awaited = awaited_stands h.instances h.tasks t x y is (λ called e. (called, e, refl)) (λ n m callee i here stood. waits_as h at index flag x acts runs none n m callee i here stood) marks.awaited;
      states = states_alike h.tasks t x y is (states_stay t x (tasks.after (event.Block (blocked_at.Copy index) flag) x.task) (blocked_stays x.task (blocked_at.Copy index) flag acts refl)) marks.states;
    }

-- The task, which runs at an instance, waits there.
abbrev pub RunsThere : Held → ℕ → ℕ → Type 0
RunsThere h t at = (slot : TaskSlot) → slice_get h.tasks t ≡ Some slot → runs_at at slot ≡ true

copy_waits : (t canon at index : ℕ) (flag : Bool) (h : Held) → RunsThere h t at → NoSubtask h at index → KeptBy h (blocked_in t canon flag (blocked_at.Copy index) (reason.Copy index) h)
unfolding blocked_in blocked at_copy
copy_waits t canon at index flag h runs none =
    look_keeps h (slice_get h.tasks t) (λ x. Gives (tt {0}) (with_task t (at_errand (errand.InBuiltin canon) x) h)) (λ done k. blocked t (blocked_at.Copy index) flag (reason.Copy index) k)
    (λ x is.
    let z : TaskSlot = at_errand (errand.InBuiltin canon) x in
    let k : Held = with_task t z h in
    keeps_through h k (blocked t (blocked_at.Copy index) flag (reason.Copy index) k) (task_keeps h t x z is (same_task x z refl refl refl refl refl) (λ m. m))
    (look_keeps k (slice_get k.tasks t)
    (λ y. happened (event_answer (event.Block (blocked_at.Copy index) flag) y.task) t (advanced_slot (event.Block (blocked_at.Copy index) flag) y) k)
    (λ done m. after (told (line.Block t (reason.Copy index)) m) (λ done n. left_chain n))
    (λ y found.
    let same : y ≡ z = some_same (sym found ∙ get_set h.tasks t x z is) in
    acted_keeps k k t (event.Block (blocked_at.Copy index) flag) y (λ done m. after (told (line.Block t (reason.Copy index)) m) (λ done n. left_chain n)) (never_traps k k t y)
    (λ acts none_bad.
    let m : Held = with_task t (at_copy index flag y) k in
    keeps_through k m (after (told (line.Block t (reason.Copy index)) m) (λ done n. left_chain n))
    (copy_blocked k t at index flag y found acts (ap (λ (s : TaskSlot). runs_at at s) same ∙ runs x is) none)
    (keeps_after m (told (line.Block t (reason.Copy index)) m) (λ done n. left_chain n) (told_keeps (line.Block t (reason.Copy index)) m) (λ done n. left_chain_keeps n))))))

left_standing_keeps : (g : Views) (c : CopyCall) (h : Held) → RunsThere h c.task c.at → NoSubtask h c.at c.index → KeptBy h (left_standing g c h)
left_standing_keeps g c h runs none =
    keeps_if h (g.is_async c.canon) (got c.task (blocked_word ∷ []) h) (blocked_in c.task c.canon (g.flag c.canon) (blocked_at.Copy c.index) (reason.Copy c.index) h)
    (got_keeps c.task (blocked_word ∷ []) h) (copy_waits c.task c.canon c.at c.index (g.flag c.canon) h runs none)

-- The task runs where it ran.
still_runs : (h k : Held) (t at : ℕ) → k.tasks ≡ h.tasks → RunsThere h t at → RunsThere k t at
still_runs h k t at same runs slot found = runs slot (ap (λ (tasks : List TaskSlot). slice_get tasks t) (sym same) ∙ found)

offer_stands_keeps : (g : Views) (c : CopyCall) (number : ℕ) (h : Held) → RunsThere h c.task c.at → NoSubtask h c.at c.index → KeptBy h (offer_stands g c number h)
unfolding offer_stands
offer_stands_keeps g c number h runs none =
    quiet_then h c.at c.index (idle_said c number h) (λ done k. left_standing g c k) (idle_said_quiet c number h)
    (λ done k q. left_standing_keeps g c k (still_runs h k c.task c.at q.tasks runs) (q.none none))

met_keeps : (g : Views) (c : CopyCall) (number : ℕ) (x : Meet) (h : Held) → RunsThere h c.task c.at → NoSubtask h c.at c.index → KeptBy h (met g c number x h)
met_keeps g c number meet.Stands h runs none = offer_stands_keeps g c number h runs none
met_keeps g c number (meet.Copies count) h runs none = keeps_same h
met_keeps g c number meet.Dropped h runs none = answered_at_once_keeps c number 1 h
met_keeps g c number meet.Displaces h runs none = offer_stands_keeps g c number h runs none
met_keeps g c number meet.ZeroDone h runs none = answered_at_once_keeps c number 0 h
met_keeps g c number meet.NothingNow h runs none = answered_at_once_keeps c number 0 h

meets_keeps : (g : Views) (c : CopyCall) (number : ℕ) (h : Held) → RunsThere h c.task c.at → NoSubtask h c.at c.index → KeptBy h (meets g c number h)
unfolding meets
meets_keeps g c number h runs none =
    quiet_then h c.at c.index (offered c.kind c.side number (by.Task c.task) c.canon c.place c.length h) (λ m k. met g c number m k)
    (offered_quiet c.kind c.side number (by.Task c.task) c.canon c.place c.length h c.at c.index)
    (λ m k q. met_keeps g c number m k (still_runs h k c.task c.at q.tasks runs) (q.none none))

-- Tests change nothing.
well_quiet : (o : Option ValType) (memory : Option ℕ) (place count : ℕ) (h : Held) (at index : ℕ) → QuietBy h at index (placed_well o memory place count h)
unfolding placed_well
well_quiet None memory place count h at index = same_quiet h at index
well_quiet (Some element) memory place count h at index =
    by_tests (nat_eq count 0) (not (nat_eq (place % (laid element).align) 0)) (not (nat_le (place + count * (laid element).size) (length (bytes_at memory h.store)))) h at index
  where
    by_tests : (b c d : Bool) (h : Held) (at index : ℕ)
        → QuietBy h at index (if b then Gives (tt {0}) h else if c then Traps trap.Misaligned h else if d then Traps trap.Bounds h else Gives (tt {0}) h)
    by_tests true c d h at index = same_quiet h at index
    by_tests false true d h at index = traps_same h
    by_tests false false true h at index = traps_same h
    by_tests false false false h at index = same_quiet h at index

placed_and_met_keeps : (g : Views) (element : Option ValType) (c : CopyCall) (number : ℕ) (is_inside : Bool) (h : Held) → RunsThere h c.task c.at → NoSubtask h c.at c.index
    → KeptBy h (placed_and_met g element c number is_inside h)
unfolding placed_and_met
placed_and_met_keeps g element c number is_inside h runs none =
    quiet_then h c.at c.index (placed_well element (memory_of (g.options c.canon) h) c.place c.length h) (λ done k. if is_inside then Traps trap.SameInstance k else meets g c number k)
    (well_quiet element (memory_of (g.options c.canon) h) c.place c.length h c.at c.index)
    (λ done k q.
    keeps_if k is_inside (Traps trap.SameInstance k) (meets g c number k) (traps_same k) (meets_keeps g c number k (still_runs h k c.task c.at q.tasks runs) (q.none none)))

copy_tested_keeps : (g : Views) (element : Option ValType) (c : CopyCall) (number : ℕ) (x : Channel) (h : Held) → RunsThere h c.task c.at → NoSubtask h c.at c.index
    → KeptBy h (copy_tested g element c number x h)
copy_tested_keeps g element c number x h runs none =
    keeps_if h (is_copying (channel_end c.side x.ends)) (Traps trap.Busy h)
    (if (channel_end c.side x.ends).done then Traps trap.DoneEnd h else if nat_lt most_elements c.length then Traps trap.TooLong h else placed_and_met g element c number (is_within g c.at c.side element x.ends) h) (traps_same h)
    (keeps_if h ((channel_end c.side x.ends).done) (Traps trap.DoneEnd h)
    (if nat_lt most_elements c.length then Traps trap.TooLong h else placed_and_met g element c number (is_within g c.at c.side element x.ends) h) (traps_same h)
    (keeps_if h (nat_lt most_elements c.length) (Traps trap.TooLong h) (placed_and_met g element c number (is_within g c.at c.side element x.ends) h) (traps_same h)
    (placed_and_met_keeps g element c number (is_within g c.at c.side element x.ends) h runs none)))

read_or_write_keeps : (g : Views) (element : Option ValType) (c : CopyCall) (h : Held) → RunsThere h c.task c.at → KeptBy h (read_or_write g element c h)
unfolding read_or_write
read_or_write_keeps g element c h runs =
    look_keeps h (slice_get h.instances c.at) (λ i. named (end_in c.side c.end_type (entry_of i c.index)) h)
    (λ e k. given (channel_at c.kind e.number k) (λ x. copy_tested g element c e.number x k))
    (λ i is.
    found_keeps h (end_in c.side c.end_type (entry_of i c.index)) (λ e k. given (channel_at c.kind e.number k) (λ x. copy_tested g element c e.number x k))
    (λ e found.
    keeps_given h (channel_at c.kind e.number h) (λ x. copy_tested g element c e.number x h)
    (λ x there.
    copy_tested_keeps g element c e.number x h runs
    (λ callee j here stood.
    let end : entry_of i c.index ≡ Some (entry.End e) = end_stands c.side c.end_type (entry_of i c.index) e found in
    let same : j ≡ i = some_same (sym here ∙ is) in
    let both : entry.End e ≡ entry.Subtask callee = some_same (sym end ∙ ap (λ (y : InstanceView). entry_of y c.index) (sym same) ∙ stood) in
    cc))))

pub copy_asked_keeps : (g : Views) (element : Option ValType) (t at canon : ℕ) (kind : EndKind) (side : Side) (type : ℕ) (words : List ℕ) (h : Held) → RunsThere h t at
    → KeptBy h (copy_asked g element t at canon kind side type words h)
unfolding copy_asked
copy_asked_keeps g element t at canon kind side type words h runs =
    keeps_given h (word_in words 0)
    (λ index. given (word_in words 1) (λ place. given (length_in kind words) (λ count. read_or_write g element (call_of t at canon kind side type index place count) h)))
    (λ index is.
    keeps_given h (word_in words 1) (λ place. given (length_in kind words) (λ count. read_or_write g element (call_of t at canon kind side type index place count) h))
    (λ place is.
    keeps_given h (length_in kind words) (λ count. read_or_write g element (call_of t at canon kind side type index place count) h)
    (λ count is. read_or_write_keeps g element (call_of t at canon kind side type index place count) h runs)))

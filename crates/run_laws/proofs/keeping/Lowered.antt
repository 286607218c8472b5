-- Values that are lowered into the table of an instance: what is kept stays so, but that borrow handles of the task are counted still.
use Rattle.std.proofs.Common.{◌≡◌, ◌∙◌, ◌+◌, ◌<◌, ℕ, zero, suc, map, Bool, true, false, if◌then◌else◌, List, [], ◌∷◌, slice_set, length, Option, Some, None, refl, sym, ap, subst, arith, inl, inr}
use Rattle.std.specs.List.{slice_get}
use Rattle.std.proofs.lemmas.Bool.{and_parts}
use Rattle.syntax_trees.specs.declared.types.ValType.{ValType}
use Rattle.syntax_trees.specs.declared.value.Value.{Value}
use Rattle.syntax_trees.specs.Fits.{fits}
use Rattle.laid_types.specs.Known.{Numbered}
use Rattle.handle_table.specs.Slots.{Slots, count, added}
use Rattle.res_handles.specs.Calls as handles
use Rattle.value_lower.specs.declared.ends.LowerWhy.{LowerWhy}
use Rattle.value_lower.specs.declared.ends.LowerWhy.TheVariants as lower_why
use Rattle.value_lower.specs.Plan.{NewOwn, NewBorrow, NewEnd, Plan, Gives as Given, Fails, Asks, Size, Put, Adds}
use Rattle.value_lower.specs.Following as follow
use Rattle.value_lower.specs.Following.{Follows}
use Rattle.value_lower.specs.Tables.{IsEntry}
use Rattle.comp_graph.specs.Graph.{Graph}
use Rattle.graph_views.specs.Canons.{canon_at}
use Rattle.graph_views.specs.Names.{builtin_of}
use Rattle.copy_engine.specs.declared.acts.Act.{Act}
use Rattle.copy_engine.specs.declared.acts.Acts.{Acts}
use Rattle.copy_engine.specs.declared.answering.CallRefusal.{CallRefusal}
use Rattle.copy_engine.specs.declared.answering.CallRefusal.TheVariants as refusal
use Rattle.copy_engine.specs.declared.hosted.HostedTrap.{HostedTrap}
use Rattle.copy_engine.specs.declared.hosted.HostedTrap.TheVariants as hosted
use Rattle.copy_engine.specs.declared.lower_values.Lowered.{Lowered}
use Rattle.copy_engine.specs.declared.lower_values.Lowered.TheVariants as lowered
use Rattle.copy_engine.specs.declared.lower_values.Target.{Target}
use Rattle.copy_engine.specs.declared.lower_values.Target.TheVariants as target
use Rattle.copy_engine.specs.Answering.{Setting}
use Rattle.copy_engine.specs.Copying.{all_fit}
use Rattle.copy_engine.specs.Nested.{bytes_in}
use Rattle.copy_engine.specs.Hosted.{Placed, hosted_rooms, as_plan, plan_to, plan_all}
use Rattle.instances.specs.declared.entry.WorldEntry.{WorldEntry}
use Rattle.instances.specs.Entries.{seen_as, of_handle, of_end}
use Rattle.instances.specs.Instances.{InstanceView, with_slots}
use Rattle.programs.specs.declared.program.Program.{Program}
use Rattle.programs.specs.Program.{resources_of}
use Rattle.task_table.specs.declared.slot.TaskSlot.{TaskSlot}
use Rattle.task_table.specs.Slots.{with_word}
use Rattle.trace_labels.specs.declared.label.Label.{Label}
use Rattle.trace_labels.specs.declared.label.Label.TheVariants as line
use Rattle.world_parts.specs.Held.{Held, Done, Gives, Stuck, after, given}
use Rattle.world_parts.specs.Entries.{with_instance}
use Rattle.world_parts.specs.Feed.{told}
use Rattle.world_parts.specs.Slots.{with_task, context_set}
use Rattle.value_parts.specs.Coming.{Behind}
use Rattle.value_moves.specs.declared.lowering.Destination.{Destination}
use Rattle.value_moves.specs.Lowering.{Site, site_found, got_told, act_told, all_told, call_refused, code_trapped, lowered_by, finished, setting_in, begun_at, left_at, LowersAt, LowersInto, LowersAll}
use Rattle.abi_machine.proofs.sound.Found.{some_same}
use Rattle.standing.specs.EndMarks.{EntryMarked}
use Rattle.standing.specs.KeptMarks.{is_borrow_of}
use Rattle.standing.proofs.Agreeing.{get_set}
use Rattle.standing.proofs.Lists.{set_same}
use Rattle.standing.proofs.marks.Inside.{same_seen}
use Rattle.run_laws.specs.keeping.Lowerings.{EndComes}
use Rattle.run_laws.proofs.keeping.Alike.{same_task, set_twice}
use Rattle.run_laws.proofs.keeping.But.{lent_there, HasBut, GivesBut, task_but, but_as, leaves_given, leaves_after, leaves_over, right_at}
use Rattle.run_laws.proofs.keeping.Changing.{IsPassed, entry_comes, borrow_comes}
use Rattle.run_laws.proofs.keeping.Planned.{Counted, AreAll, ends_typed, in_elements, borrow_count, all_count, flat_counted, stored_counted, placed_counted, list_stored_counted}

-- What a plan leaves.
module _ (C : Type 0) (h : Held) (at task : ℕ) (inst : InstanceView) (here : slice_get h.instances at ≡ Some inst) (types : List ValType) (to : Setting) where
  abbrev EndsCome : ValType → ℕ → Type 0
  EndsCome type number = C → EndComes h types type number

  -- with these slots in the table
  abbrev Slotted : ℕ → Slots WorldEntry → Type 0
  Slotted n slots = HasBut C task n (with_instance at (with_slots slots inst) h)

  stands : (slots : Slots WorldEntry) → slice_get (slice_set h.instances at (with_slots slots inst)) at ≡ Some (with_slots slots inst)
  stands slots = get_set h.instances at inst (with_slots slots inst) here

  put_twice : (n : ℕ) (x y : InstanceView) → HasBut C task n (with_instance at y (with_instance at x h)) → HasBut C task n (with_instance at y h)
  put_twice n x y but = but_as C task n (with_instance at y (with_instance at x h)) (with_instance at y h) refl (sym (set_twice h.instances at x y)) refl refl but

  comes : (n : ℕ) (slots later : Slots WorldEntry) (e : WorldEntry) → later ≡ added e slots → IsPassed e → count slots < 65535 → lent_there (Some e) ≡ 0
      → ((m : ℕ) → is_borrow_of m (Some e) ≡ false) → (C → EntryMarked h.streams h.futures e) → Slotted n slots → Slotted n later
  comes n slots later e is q room none counts marked but =
      subst (λ (s : Slots WorldEntry). Slotted n s) (sym is)
      (put_twice n (with_slots slots inst) (with_slots (added e slots) inst)
      (entry_comes C task n (with_instance at (with_slots slots inst) h) at (with_slots slots inst) (stands slots) but e q room none counts marked))

  borrow_more : (n resource rep : ℕ) (slots later : Slots WorldEntry) → later ≡ added (of_handle (handles.borrow_handle resource rep task)) slots → count slots < 65535
      → Slotted n slots → Slotted (n + 1) later
  borrow_more n resource rep slots later is room but =
      subst (λ (s : Slots WorldEntry). Slotted (n + 1) s) (sym is)
      (put_twice (n + 1) (with_slots slots inst) (with_slots (added (of_handle (handles.borrow_handle resource rep task)) slots) inst)
      (borrow_comes C task n (with_instance at (with_slots slots inst) h) at (with_slots slots inst) (stands slots) but resource rep room))

  abbrev Room : Type 0
  Room = Placed WorldEntry

  abbrev Comes : Plan → Room → List ℕ → Room → Type 0
  Comes plan p words q = Follows (hosted_rooms seen_as (IsEntry of_handle of_end task types) to) plan p (follow.Words words) q

  failed_not : (why : LowerWhy) (words : List ℕ) (p q : Room) (A : Type 0) (k : Plan) → k ≡ Fails why → Comes k p words q → A
  failed_not why words p q A k is c = never (subst (λ (l : Plan). Comes l p words q) is c)
    where
      never : Comes (Fails why) p words q → A
      never (came, left) = absurd (cc)

  as_slots : (n : ℕ) (p q : Room) → q.slots ≡ p.slots → Slotted n p.slots → Slotted n q.slots
  as_slots n p q is but = subst (λ (s : Slots WorldEntry). Slotted n s) (sym is) but

  plan_leaves : (plan : Plan) (p q : Room) (words : List ℕ) (b n : ℕ) → Counted EndsCome plan b → Comes plan p words q → Slotted n p.slots → Slotted (n + b) q.slots
  plan_leaves (Given all) p q words b n none (is, left) but =
      subst (λ (k : ℕ). Slotted k q.slots) (let same : n ≡ n + b = omega (arith, none) in same) (as_slots n p q (ap (λ (r : Room). r.slots) left) but)
  plan_leaves (Fails why) p q words b n counted c but = failed_not why words p q (Slotted (n + b) q.slots) (Fails why) refl c
  plan_leaves (Asks ask k) p q words b n counted (inl (place, mid, ((gives, grows, slots), low, longer), rest)) but =
      plan_leaves (k place) mid q words b n (counted place) rest (as_slots n p mid slots but)
  plan_leaves (Asks ask k) p q words b n counted (inr (end, gives, is)) but = absurd (cc)
  plan_leaves (Size k) p q words b n counted rest but =
      plan_leaves (k (length (bytes_in to.options.memory p.room.store))) p q words b n (counted (length (bytes_in to.options.memory p.room.store))) rest but
  plan_leaves (Put place bytes k) p q words b n counted (mid, ((inside, room, slots), memory), rest) but = plan_leaves k mid q words b n counted rest (as_slots n p mid slots but)
  plan_leaves (Adds (NewOwn resource rep) k) p q words b n (counted, full) (Some index, mid, (((e, is, less, next, same), room), memory), rest) but =
      plan_leaves (k (Some index)) mid q words b n (counted index) rest
      (comes n p.slots mid.slots (of_handle (handles.own_handle resource rep)) (same ∙ ap (λ (x : WorldEntry). added x p.slots) is) tt less refl (λ m. refl) (λ c. tt) but)
  plan_leaves (Adds (NewOwn resource rep) k) p q words b n (counted, full) (None, mid, got, rest) but = failed_not lower_why.TableFull words mid q (Slotted (n + b) q.slots) (k None) full rest
  plan_leaves (Adds (NewBorrow resource rep) k) p q words b n (m, one, counted, full) (Some index, mid, (((e, is, less, next, same), room), memory), rest) but =
      subst (λ (x : ℕ). Slotted x q.slots) (let both : n + 1 + m ≡ n + b = omega (arith, one) in both)
      (plan_leaves (k (Some index)) mid q words m (n + 1) (counted index) rest
      (borrow_more n resource rep p.slots mid.slots (same ∙ ap (λ (x : WorldEntry). added x p.slots) is) less but))
  plan_leaves (Adds (NewBorrow resource rep) k) p q words b n (m, one, counted, full) (None, mid, got, rest) but = failed_not lower_why.TableFull words mid q (Slotted (n + b) q.slots) (k None) full rest
  plan_leaves (Adds (NewEnd type number) k) p q words b n (good, counted, full) (Some index, mid, (((e, (place, of, is), less, next, same), room), memory), rest) but =
      plan_leaves (k (Some index)) mid q words b n (counted index) rest
      (comes n p.slots mid.slots (of_end place number) (same ∙ ap (λ (x : WorldEntry). added x p.slots) is) tt less refl (λ m. refl) (λ c. good c place of) but)
  plan_leaves (Adds (NewEnd type number) k) p q words b n (good, counted, full) (None, mid, got, rest) but = failed_not lower_why.TableFull words mid q (Slotted (n + b) q.slots) (k None) full rest

  -- Wherever a plan stops it leaves the table so, where some borrow handles are counted still.
  abbrev Owing : Slots WorldEntry → Type 0
  Owing slots = (n : ℕ) × Slotted n slots

  abbrev Stops : Plan → Room → follow.Came HostedTrap → Room → Type 0
  Stops plan p came q = Follows (hosted_rooms seen_as (IsEntry of_handle of_end task types) to) plan p came q

  full_stops : (n : ℕ) (k : Plan) (p q : Room) (came : follow.Came HostedTrap) → k ≡ Fails lower_why.TableFull → Stops k p came q → Slotted n p.slots → Owing q.slots
  full_stops n k p q came is c but = by (subst (λ (l : Plan). Stops l p came q) is c)
    where
      by : Stops (Fails lower_why.TableFull) p came q → Owing q.slots
      by (failed, left) = (n, as_slots n p q (ap (λ (r : Room). r.slots) left) but)

  plan_stops : (plan : Plan) (p q : Room) (came : follow.Came HostedTrap) (b n : ℕ) → Counted EndsCome plan b → Stops plan p came q → Slotted n p.slots → Owing q.slots
  plan_stops (Given all) p q came b n none (is, left) but = (n, as_slots n p q (ap (λ (r : Room). r.slots) left) but)
  plan_stops (Fails why) p q came b n counted (is, left) but = (n, as_slots n p q (ap (λ (r : Room). r.slots) left) but)
  plan_stops (Asks ask k) p q came b n counted (inl (place, mid, ((gives, grows, slots), low, longer), rest)) but =
      plan_stops (k place) mid q came b n (counted place) rest (as_slots n p mid slots but)
  plan_stops (Asks ask k) p q came b n counted (inr (end, (gives, grows, slots), is)) but = (n, as_slots n p q slots but)
  plan_stops (Size k) p q came b n counted rest but =
      plan_stops (k (length (bytes_in to.options.memory p.room.store))) p q came b n (counted (length (bytes_in to.options.memory p.room.store))) rest but
  plan_stops (Put place bytes k) p q came b n counted (mid, ((inside, room, slots), memory), rest) but = plan_stops k mid q came b n counted rest (as_slots n p mid slots but)
  plan_stops (Adds (NewOwn resource rep) k) p q came b n (counted, full) (Some index, mid, (((e, is, less, next, same), room), memory), rest) but =
      plan_stops (k (Some index)) mid q came b n (counted index) rest
      (comes n p.slots mid.slots (of_handle (handles.own_handle resource rep)) (same ∙ ap (λ (x : WorldEntry). added x p.slots) is) tt less refl (λ m. refl) (λ c. tt) but)
  plan_stops (Adds (NewOwn resource rep) k) p q came b n (counted, full) (None, mid, (((many, same), room), memory), rest) but =
      full_stops n (k None) mid q came full rest (as_slots n p mid same but)
  plan_stops (Adds (NewBorrow resource rep) k) p q came b n (m, one, counted, full) (Some index, mid, (((e, is, less, next, same), room), memory), rest) but =
      plan_stops (k (Some index)) mid q came m (n + 1) (counted index) rest (borrow_more n resource rep p.slots mid.slots (same ∙ ap (λ (x : WorldEntry). added x p.slots) is) less but)
  plan_stops (Adds (NewBorrow resource rep) k) p q came b n (m, one, counted, full) (None, mid, (((many, same), room), memory), rest) but =
      full_stops n (k None) mid q came full rest (as_slots n p mid same but)
  plan_stops (Adds (NewEnd type number) k) p q came b n (good, counted, full) (Some index, mid, (((e, (place, of, is), less, next, same), room), memory), rest) but =
      plan_stops (k (Some index)) mid q came b n (counted index) rest
      (comes n p.slots mid.slots (of_end place number) (same ∙ ap (λ (x : WorldEntry). added x p.slots) is) tt less refl (λ m. refl) (λ c. good c place of) but)
  plan_stops (Adds (NewEnd type number) k) p q came b n (good, counted, full) (None, mid, (((many, same), room), memory), rest) but =
      full_stops n (k None) mid q came full rest (as_slots n p mid same but)

-- Behind a lowering the task has the words of context as the code left them, and the calls are told.
module _ (C : Type 0) (task n : ℕ) where
  told_but : (label : Label) (h : Held) → HasBut C task n h → GivesBut C task n (told label h)
  told_but label h but = but

  pub context_but : (t number word : ℕ) (h : Held) → HasBut C task n h → GivesBut C task n (context_set t number word h)
  context_but t number word h but =
      leaves_given C (λ (k : Held). HasBut C task n k) (slice_get h.tasks t) (λ slot. Gives (tt {0}) (with_task t (with_word number word slot) h))
      (λ slot is.
      task_but C task n h t slot (with_word number word slot) is (same_task slot (with_word number word slot) refl refl refl refl refl)
      (same_seen slot (with_word number word slot) refl refl refl refl) (λ m. m) but)

  got_but : (t : ℕ) (o : Option (List ℕ)) (h : Held) → HasBut C task n h → GivesBut C task n (got_told t o h)
  got_but t None h but = but
  got_but t (Some words) h but = but

  act_but : (g : Graph) (t : ℕ) (act : Act) (h : Held) → HasBut C task n h → GivesBut C task n (act_told g t act h)
  act_but g t act h but =
      leaves_given C (λ (k : Held). HasBut C task n k) (canon_at g act.canon) (λ c. after (told (line.Do t (builtin_of c) act.words) h) (λ done k. got_told t act.got k))
      (λ c is. leaves_after C (λ (k : Held). HasBut C task n k) (told (line.Do t (builtin_of c) act.words) h) (λ done k. got_told t act.got k) but (λ done k b. got_but t act.got k b))

  all_but : (g : Graph) (t : ℕ) (acts : List Act) (h : Held) → HasBut C task n h → GivesBut C task n (all_told g t acts h)
  all_but g t [] h but = but
  all_but g t (act ∷ acts) h but = leaves_after C (λ (k : Held). HasBut C task n k) (act_told g t act h) (λ done k. all_told g t acts k) (act_but g t act h but) (λ done k b. all_but g t acts k b)

  finished_but : (g : Graph) (t : ℕ) (acts : Acts) (words : List ℕ) (h : Held) → HasBut C task n h → GivesBut C task n (finished g t acts (lowered.Words words) h)
  unfolding finished
  finished_but g t acts words h but =
      leaves_after C (λ (k : Held). HasBut C task n k) (context_set t 0 acts.context.0 h)
      (λ done k. after (context_set t 1 acts.context.1 k) (λ done l. after (all_told g t acts.calls l) (λ done m. lowered_by (lowered.Words words) m))) (context_but t 0 acts.context.0 h but)
      (λ done k b.
      leaves_after C (λ (k : Held). HasBut C task n k) (context_set t 1 acts.context.1 k) (λ done l. after (all_told g t acts.calls l) (λ done m. lowered_by (lowered.Words words) m)) (context_but t 1 acts.context.1 k b)
      (λ done l c. leaves_after C (λ (k : Held). HasBut C task n k) (all_told g t acts.calls l) (λ done m. lowered_by (lowered.Words words) m) (all_but g t acts.calls l c) (λ done m d. d)))

-- Else no words come, and what is kept is right, whatever is counted still.
abbrev IsOtherEnd : Lowered → Type 0
IsOtherEnd (lowered.Words words) = ⊥
IsOtherEnd (lowered.Failed why) = Unit {0}
IsOtherEnd (lowered.Trapped why) = Unit {0}
IsOtherEnd lowered.NoFuel = Unit {0}

module _ (C : Type 0) (task n m : ℕ) where
  refused_not : (why : CallRefusal) (h : Held) → HasBut C task m h → GivesBut C task n (call_refused why h)
  refused_not refusal.CannotLeave h but = right_at C task m h but
  refused_not (refusal.Refused why) h but = right_at C task m h but
  refused_not refusal.NoRule h but = tt

  trapped_not : (why : HostedTrap) (h : Held) → HasBut C task m h → GivesBut C task n (code_trapped why h)
  trapped_not (hosted.Core why) h but = right_at C task m h but
  trapped_not (hosted.Call why) h but = refused_not why h but
  trapped_not hosted.NoRealloc h but = tt

  ended_not : (came : Lowered) (h : Held) → IsOtherEnd came → HasBut C task m h → GivesBut C task n (lowered_by came h)
  ended_not (lowered.Words words) h q but = absurd q
  ended_not (lowered.Failed why) h q but = right_at C task m h but
  ended_not (lowered.Trapped why) h q but = trapped_not why h but
  ended_not lowered.NoFuel h q but = tt

  unfinished : (g : Graph) (t : ℕ) (acts : Acts) (came : Lowered) (h : Held) → IsOtherEnd came → HasBut C task m h → GivesBut C task n (finished g t acts came h)
  unfolding finished
  unfinished g t acts came h q but =
      leaves_over C (λ (k : Held). HasBut C task n k) (λ (k : Held). HasBut C task m k) (context_set t 0 acts.context.0 h)
      (λ done k. after (context_set t 1 acts.context.1 k) (λ done l. after (all_told g t acts.calls l) (λ done j. lowered_by came j))) (context_but C task m t 0 acts.context.0 h but)
      (λ done k b.
      leaves_over C (λ (k : Held). HasBut C task n k) (λ (k : Held). HasBut C task m k) (context_set t 1 acts.context.1 k)
      (λ done l. after (all_told g t acts.calls l) (λ done j. lowered_by came j)) (context_but C task m t 1 acts.context.1 k b)
      (λ done l c.
      leaves_over C (λ (k : Held). HasBut C task n k) (λ (k : Held). HasBut C task m k) (all_told g t acts.calls l) (λ done j. lowered_by came j) (all_but C task m g t acts.calls l c)
      (λ done j d. ended_not came j q d)))

-- Each of them fits.
pub fits_each : (t : ValType) (all : List Value) → all_fit t all ≡ true → (m : ℕ) (w : Value) → slice_get all m ≡ Some w → fits w t ≡ true
fits_each t [] fit m w there = absurd (cc)
fits_each t (v ∷ all) fit zero w there = ap (λ (x : Value). fits x t) (sym (some_same there)) ∙ (and_parts (fits v t) (all_fit t all) fit).0
fits_each t (v ∷ all) fit (suc m) w there = fits_each t all (and_parts (fits v t) (all_fit t all) fit).1 m w there

-- A lowering, from an instance as it is.
module _ (C : Type 0) (n : ℕ) (g : Graph) (to : Destination) (types : List ValType) where
  left_but : (plan : Plan) (s : Site) (h : Held) (b : ℕ) (words : List ℕ) (placed : Placed WorldEntry) → slice_get h.instances to.instance ≡ Some s.instance
      → Counted (λ type number. C → EndComes h types type number) plan b
      → Follows (hosted_rooms seen_as (IsEntry of_handle of_end to.task types) (setting_in g to)) plan (begun_at s h) (follow.Words words) placed → HasBut C to.task n h
      → HasBut C to.task (n + b) (left_at to s placed h)
  left_but plan s h b words placed here counted follows but =
      let first : HasBut C to.task n (with_instance to.instance (with_slots s.instance.slots s.instance) h) =
      but_as C to.task n h (with_instance to.instance s.instance h) refl (set_same h.instances to.instance s.instance here) refl refl but in
      let last : HasBut C to.task (n + b) (with_instance to.instance (with_slots placed.slots s.instance) h) =
      plan_leaves C h to.instance to.task s.instance here types (setting_in g to) plan (begun_at s h) placed words b n counted follows first in
      but_as C to.task (n + b) (with_instance to.instance (with_slots placed.slots s.instance) h) (left_at to s placed h) refl refl refl refl last

  left_stops : (plan : Plan) (s : Site) (h : Held) (b : ℕ) (came : follow.Came HostedTrap) (placed : Placed WorldEntry) → slice_get h.instances to.instance ≡ Some s.instance
      → Counted (λ type number. C → EndComes h types type number) plan b
      → Follows (hosted_rooms seen_as (IsEntry of_handle of_end to.task types) (setting_in g to)) plan (begun_at s h) came placed → HasBut C to.task n h
      → (m : ℕ) × HasBut C to.task m (left_at to s placed h)
  left_stops plan s h b came placed here counted follows but =
      let first : HasBut C to.task n (with_instance to.instance (with_slots s.instance.slots s.instance) h) =
      but_as C to.task n h (with_instance to.instance s.instance h) refl (set_same h.instances to.instance s.instance here) refl refl but in
      let last = plan_stops C h to.instance to.task s.instance here types (setting_in g to) plan (begun_at s h) placed came b n counted follows first in
      (last.0, but_as C to.task last.0 (with_instance to.instance (with_slots placed.slots s.instance) h) (left_at to s placed h) refl refl refl refl last.1)

  stops_but : (plan : Plan) (s : Site) (h : Held) (b : ℕ) (came : Lowered) (placed : Placed WorldEntry) → IsOtherEnd came → slice_get h.instances to.instance ≡ Some s.instance
      → Counted (λ type number. C → EndComes h types type number) plan b
      → Follows (hosted_rooms seen_as (IsEntry of_handle of_end to.task types) (setting_in g to)) plan (begun_at s h) (as_plan came) placed → HasBut C to.task n h
      → GivesBut C to.task (n + b) (finished g to.task placed.room.acts came (left_at to s placed h))
  stops_but plan s h b came placed other here counted follows but =
      let last = left_stops plan s h b (as_plan came) placed here counted follows but in
      unfinished C to.task (n + b) last.0 g to.task placed.room.acts came (left_at to s placed h) other last.1

  came_but : (plan : Plan) (s : Site) (h : Held) (b : ℕ) (came : Lowered) (placed : Placed WorldEntry) → slice_get h.instances to.instance ≡ Some s.instance
      → Counted (λ type number. C → EndComes h types type number) plan b
      → Follows (hosted_rooms seen_as (IsEntry of_handle of_end to.task types) (setting_in g to)) plan (begun_at s h) (as_plan came) placed → HasBut C to.task n h
      → GivesBut C to.task (n + b) (finished g to.task placed.room.acts came (left_at to s placed h))
  came_but plan s h b (lowered.Words words) placed here counted follows but =
      finished_but C to.task (n + b) g to.task placed.room.acts words (left_at to s placed h) (left_but plan s h b words placed here counted follows but)
  came_but plan s h b (lowered.Failed why) placed here counted follows but = stops_but plan s h b (lowered.Failed why) placed tt here counted follows but
  came_but plan s h b (lowered.Trapped why) placed here counted follows but = stops_but plan s h b (lowered.Trapped why) placed tt here counted follows but
  came_but plan s h b lowered.NoFuel placed here counted follows but = stops_but plan s h b lowered.NoFuel placed tt here counted follows but

  lowers_but : (plan : Plan) (s : Site) (h : Held) (b : ℕ) (d : Done (List ℕ)) → slice_get h.instances to.instance ≡ Some s.instance
      → Counted (λ type number. C → EndComes h types type number) plan b → LowersAt g to types plan s h d → HasBut C to.task n h → GivesBut C to.task (n + b) d
  lowers_but plan s h b d here counted (came, placed, follows, is) but =
      subst (λ (e : Done (List ℕ)). GivesBut C to.task (n + b) e) (sym is) (came_but plan s h b came placed here counted follows but)

-- What a lowering begins with stands there, and the values fit.
pub from_site : (Q : Done (List ℕ) → Type 0) → Q Stuck → (p : Program) (to : Destination) (is_fit : Bool) (h : Held) (F : Site → Held → Done (List ℕ) → Type 0) (d : Done (List ℕ))
    → ((s : Site) → slice_get h.instances to.instance ≡ Some s.instance → resources_of p to.instance ≡ Some s.resources → is_fit ≡ true → F s h d → Q d)
    → Behind (site_found p to is_fit h) F d → Q d
from_site Q stuck p to is_fit h F d lowers b = by_instance (slice_get h.instances to.instance) refl b
  where
    never : d ≡ Stuck → Q d
    never e = subst Q (sym e) stuck

    by_fit : (i : InstanceView) (slot : TaskSlot) (resources : List ℕ) (fit : Bool) → slice_get h.instances to.instance ≡ Some i → resources_of p to.instance ≡ Some resources → is_fit ≡ fit
        → Behind (let e : Done Site = if fit then Gives (record { instance = i; context = slot.context; resources = resources }) h else Stuck in e) F d → Q d
    by_fit i slot resources true found own fit b = lowers (record { instance = i; context = slot.context; resources = resources }) found own fit b
    by_fit i slot resources false found own fit b = never b

    by_resources : (i : InstanceView) (slot : TaskSlot) (o : Option (List ℕ)) → slice_get h.instances to.instance ≡ Some i → resources_of p to.instance ≡ o
        → Behind (let e : Done Site = given o (λ resources. if is_fit then Gives (record { instance = i; context = slot.context; resources = resources }) h else Stuck) in e) F d → Q d
    by_resources i slot None found own b = never b
    by_resources i slot (Some resources) found own b = by_fit i slot resources is_fit found own refl b

    by_task : (i : InstanceView) (o : Option TaskSlot) → slice_get h.instances to.instance ≡ Some i
        → Behind (let e : Done Site = given o (λ slot. given (resources_of p to.instance) (λ resources. if is_fit then Gives (record { instance = i; context = slot.context; resources = resources }) h else Stuck)) in e) F d
        → Q d
    by_task i None found b = never b
    by_task i (Some slot) found b = by_resources i slot (resources_of p to.instance) found refl b

    by_instance : (o : Option InstanceView) → slice_get h.instances to.instance ≡ o
        → Behind (let e : Done Site = given o (λ i. given (slice_get h.tasks to.task) (λ slot. given (resources_of p to.instance) (λ resources. if is_fit then Gives (record { instance = i; context = slot.context; resources = resources }) h else Stuck))) in e) F d
        → Q d
    by_instance None found b = never b
    by_instance (Some i) found b = by_task i (slice_get h.tasks to.task) found b

module _ (C : Type 0) (n : ℕ) where
  -- The plan of a value, by where it goes.
  plan_counted : (P : ValType → ℕ → Type 0) (home : List ℕ) (where_to : Target) (v : Value) (t : ValType) → fits v t ≡ true → AreAll P (ends_typed v t)
      → Counted P (plan_to where_to t v home) (borrow_count home v)
  plan_counted P home target.Flat v t fit ends = flat_counted home P v t fit ends
  plan_counted P home target.NewPlace v t fit ends = placed_counted home P v t fit ends
  plan_counted P home (target.Place place) v t fit ends = stored_counted home P v t place fit ends

  -- A value goes to a target: as many borrow handles are counted still as it holds of resources that the instance doesn't define.
  pub into_but : (p : Program) (to : Destination) (t : Numbered) (v : Value) (where_to : Target) (h : Held) (d : Done (List ℕ)) (home : List ℕ) → resources_of p to.instance ≡ Some home
      → AreAll (λ type number. C → EndComes h t.types type number) (ends_typed v t.val_type) → LowersInto p to t v where_to h d → HasBut C to.task n h
      → GivesBut C to.task (n + borrow_count home v) d
  into_but p to t v where_to h d home own ends b but =
      from_site (λ (e : Done (List ℕ)). GivesBut C to.task (n + borrow_count home v) e) tt p to (fits v t.val_type) h (λ s k e. LowersAt p.graph.now to t.types (plan_to where_to t.val_type v s.resources) s k e) d
      (λ s found mine fit is.
      lowers_but C n p.graph.now to t.types (plan_to where_to t.val_type v s.resources) s h (borrow_count home v) d found
      (subst (λ (own : List ℕ). Counted (λ type number. C → EndComes h t.types type number) (plan_to where_to t.val_type v own) (borrow_count home v)) (same_home own mine)
      (plan_counted (λ type number. C → EndComes h t.types type number) home where_to v t.val_type fit ends)) is but) b
    where
      same_home : {o : Option (List ℕ)} {a b : List ℕ} → o ≡ Some a → o ≡ Some b → a ≡ b
      same_home e f = some_same (sym e ∙ f)

  -- Values go to a place, one after the other.
  pub all_into : (p : Program) (to : Destination) (t : Numbered) (values : List Value) (place : ℕ) (h : Held) (d : Done (List ℕ)) (home : List ℕ) → resources_of p to.instance ≡ Some home
      → AreAll (λ type number. C → EndComes h t.types type number) (in_elements t.val_type (map ends_typed values)) → LowersAll p to t values place h d → HasBut C to.task n h
      → GivesBut C to.task (n + all_count home values) d
  all_into p to t values place h d home own ends b but =
      from_site (λ (e : Done (List ℕ)). GivesBut C to.task (n + all_count home values) e) tt p to (all_fit t.val_type values) h (λ s k e. LowersAt p.graph.now to t.types (plan_all t.val_type values place s.resources) s k e) d
      (λ s found mine fit is.
      lowers_but C n p.graph.now to t.types (plan_all t.val_type values place s.resources) s h (all_count home values) d found
      (subst (λ (own : List ℕ). Counted (λ type number. C → EndComes h t.types type number) (plan_all t.val_type values place own) (all_count home values)) (same_home own mine)
      (list_stored_counted home (λ type number. C → EndComes h t.types type number) values t.val_type place (λ m w there. fits_each t.val_type values fit m w there) ends)) is but) b
    where
      same_home : {o : Option (List ℕ)} {a b : List ℕ} → o ≡ Some a → o ≡ Some b → a ≡ b
      same_home e f = some_same (sym e ∙ f)

-- Ends of a type stay where they stand while values are lowered whose ends are of types that are not so deep, and streams and futures stay.
use Rattle.std.proofs.Common.{◌≡◌, ◌∙◌, ◌≤◌, ◌<◌, inl, inr, ℕ, List, [], ◌∷◌, length, refl, sym, ap, subst, Option, Some, None}
use Rattle.std.specs.List.{slice_get}
use Rattle.syntax_trees.specs.declared.types.ValType.{ValType}
use Rattle.syntax_trees.specs.declared.value.Value.{Value}
use Rattle.laid_types.specs.Depth.{depth}
use Rattle.laid_types.specs.Known.{Numbered}
use Rattle.handle_table.specs.Slots.{Slots, entry_at, added, count}
use Rattle.handle_table.specs.Sound.{IsSound}
use Rattle.handle_table.proofs.Soundness.{added_sound}
use Rattle.res_handles.specs.Calls as handles
use Rattle.value_lower.specs.declared.ends.LowerWhy.{LowerWhy}
use Rattle.value_lower.specs.declared.ends.LowerWhy.TheVariants as lower_why
use Rattle.value_lower.specs.Plan.{NewOwn, NewBorrow, NewEnd, Plan, Gives as Given, Fails, Asks, Size, Put, Adds}
use Rattle.value_lower.specs.Following as follow
use Rattle.value_lower.specs.Following.{Follows}
use Rattle.value_lower.specs.Tables.{IsEntry}
use Rattle.comp_graph.specs.Graph.{Graph}
use Rattle.graph_views.specs.Canons.{canon_at}
use Rattle.graph_views.specs.Names.{builtin_of}
use Rattle.copy_engine.specs.declared.acts.Act.{Act}
use Rattle.copy_engine.specs.declared.acts.Acts.{Acts}
use Rattle.copy_engine.specs.declared.answering.CallRefusal.{CallRefusal}
use Rattle.copy_engine.specs.declared.answering.CallRefusal.TheVariants as refusal
use Rattle.copy_engine.specs.declared.hosted.HostedTrap.{HostedTrap}
use Rattle.copy_engine.specs.declared.hosted.HostedTrap.TheVariants as hosted
use Rattle.copy_engine.specs.declared.lower_values.Lowered.{Lowered}
use Rattle.copy_engine.specs.declared.lower_values.Lowered.TheVariants as lowered
use Rattle.copy_engine.specs.Answering.{Setting}
use Rattle.copy_engine.specs.Copying.{all_fit}
use Rattle.copy_engine.specs.Nested.{bytes_in}
use Rattle.copy_engine.specs.Hosted.{Placed, hosted_rooms, as_plan, plan_all}
use Rattle.instances.specs.declared.entry.WorldEntry.{WorldEntry}
use Rattle.instances.specs.Entries.{seen_as, of_handle, of_end}
use Rattle.instances.specs.Instances.{with_slots}
use Rattle.programs.specs.declared.program.Program.{Program}
use Rattle.task_table.specs.Slots.{with_word}
use Rattle.trace_labels.specs.declared.label.Label.TheVariants as line
use Rattle.world_parts.specs.Held.{Held, Done, Gives, after}
use Rattle.world_parts.specs.Feed.{told}
use Rattle.world_parts.specs.Slots.{with_task, context_set}
use Rattle.value_moves.specs.declared.lowering.Destination.{Destination}
use Rattle.value_moves.specs.Lowering.{Site, got_told, act_told, all_told, call_refused, code_trapped, lowered_by, finished, setting_in, begun_at, left_at, LowersAt, LowersAll}
use Rattle.run_laws.proofs.keeping.But.{AreSound, GivesSo, so_given, so_after, so_behind}
use Rattle.run_laws.proofs.keeping.Lowered.{fits_each, from_site}
use Rattle.run_laws.proofs.keeping.Planned.{Counted, all_count, list_stored_counted}
use Rattle.run_laws.proofs.keeping.still.EndDepths.{Small, all_small}
use Rattle.run_laws.proofs.keeping.still.EndsCome.{Alike}
use Rattle.run_laws.proofs.keeping.still.EndsLeft.{end_of_type, other_type, SameEnds, added_same, SameTyped, put_typed}

-- A plan that comes to its words.
module _ (type n : ℕ) (types : List ValType) (deep : (t : ValType) → slice_get types type ≡ Some t → depth t ≤ n → ⊥) (task : ℕ) (to : Setting) where
  abbrev Room : Type 0
  Room = Placed WorldEntry

  abbrev Comes : Plan → Room → List ℕ → Room → Type 0
  Comes plan p words q = Follows (hosted_rooms seen_as (IsEntry of_handle of_end task types) to) plan p (follow.Words words) q

  failed_not : (why : LowerWhy) (words : List ℕ) (p q : Room) (A : Type 0) (k : Plan) → k ≡ Fails why → Comes k p words q → A
  failed_not why words p q A k is c = never (subst (λ (l : Plan). Comes l p words q) is c)
    where
      never : Comes (Fails why) p words q → A
      never (came, left) = absurd (cc)

  abbrev Same : Room → Room → Type 0
  Same p q = SameEnds type p.slots q.slots

  through : (p mid q : Room) → mid.slots ≡ p.slots → Same mid q → Same p q
  through p mid q is same index = same index ∙ ap (λ (s : Slots WorldEntry). end_of_type type (entry_at s index)) is

  sound_on : (p mid : Room) → mid.slots ≡ p.slots → IsSound p.slots → IsSound mid.slots
  sound_on p mid is sound = subst (λ (s : Slots WorldEntry). IsSound s) (sym is) sound

  comes : (p mid q : Room) (e : WorldEntry) → mid.slots ≡ added e p.slots → end_of_type type (Some e) ≡ None → IsSound p.slots → Same mid q → Same p q
  comes p mid q e is none sound same index =
      same index ∙ ap (λ (s : Slots WorldEntry). end_of_type type (entry_at s index)) is ∙ added_same type p.slots e none sound index

  sound_then : (p mid : Room) (e : WorldEntry) → mid.slots ≡ added e p.slots → count p.slots < 65535 → IsSound p.slots → IsSound mid.slots
  sound_then p mid e is room sound = subst (λ (s : Slots WorldEntry). IsSound s) (sym is) (added_sound p.slots e room sound)

  end_other : (t : ValType) (place number : ℕ) → depth t ≤ n → slice_get types place ≡ Some t → end_of_type type (Some (of_end place number)) ≡ None
  end_other t place number small of = other_type type _ (λ q. deep t (ap (λ (p : ℕ). slice_get types p) (sym q) ∙ of) small)

  plan_same : (plan : Plan) (p q : Room) (words : List ℕ) (b : ℕ) → Counted (Small n) plan b → Comes plan p words q → IsSound p.slots → Same p q
  plan_same (Given all) p q words b none (is, left) sound = λ index. ap (λ (r : Room). end_of_type type (entry_at r.slots index)) left
  plan_same (Fails why) p q words b counted c sound = failed_not why words p q (Same p q) (Fails why) refl c
  plan_same (Asks ask k) p q words b counted (inl (place, mid, ((gives, grows, slots), low, longer), rest)) sound =
      through p mid q slots (plan_same (k place) mid q words b (counted place) rest (sound_on p mid slots sound))
  plan_same (Asks ask k) p q words b counted (inr (end, gives, is)) sound = absurd (cc)
  plan_same (Size k) p q words b counted rest sound =
      plan_same (k (length (bytes_in to.options.memory p.room.store))) p q words b (counted (length (bytes_in to.options.memory p.room.store))) rest sound
  plan_same (Put place bytes k) p q words b counted (mid, ((inside, room, slots), memory), rest) sound =
      through p mid q slots (plan_same k mid q words b counted rest (sound_on p mid slots sound))
  plan_same (Adds (NewOwn resource rep) k) p q words b (counted, full) (Some index, mid, (((e, is, less, next, same), room), memory), rest) sound =
      let made : mid.slots ≡ added (of_handle (handles.own_handle resource rep)) p.slots = same ∙ ap (λ (x : WorldEntry). added x p.slots) is in
      comes p mid q (of_handle (handles.own_handle resource rep)) made refl sound
      (plan_same (k (Some index)) mid q words b (counted index) rest (sound_then p mid (of_handle (handles.own_handle resource rep)) made less sound))
  plan_same (Adds (NewOwn resource rep) k) p q words b (counted, full) (None, mid, got, rest) sound =
      failed_not lower_why.TableFull words mid q (Same p q) (k None) full rest
  plan_same (Adds (NewBorrow resource rep) k) p q words b (m, one, counted, full) (Some index, mid, (((e, is, less, next, same), room), memory), rest) sound =
      let made : mid.slots ≡ added (of_handle (handles.borrow_handle resource rep task)) p.slots = same ∙ ap (λ (x : WorldEntry). added x p.slots) is in
      comes p mid q (of_handle (handles.borrow_handle resource rep task)) made refl sound
      (plan_same (k (Some index)) mid q words m (counted index) rest (sound_then p mid (of_handle (handles.borrow_handle resource rep task)) made less sound))
  plan_same (Adds (NewBorrow resource rep) k) p q words b (m, one, counted, full) (None, mid, got, rest) sound =
      failed_not lower_why.TableFull words mid q (Same p q) (k None) full rest
  plan_same (Adds (NewEnd t number) k) p q words b (small, counted, full)
      (Some index, mid, (((e, (place, of, is), less, next, same), room), memory), rest) sound =
      let made : mid.slots ≡ added (of_end place number) p.slots = same ∙ ap (λ (x : WorldEntry). added x p.slots) is in
      comes p mid q (of_end place number) made (end_other t place number small of) sound
      (plan_same (k (Some index)) mid q words b (counted index) rest (sound_then p mid (of_end place number) made less sound))
  plan_same (Adds (NewEnd t number) k) p q words b (small, counted, full) (None, mid, got, rest) sound =
      failed_not lower_why.TableFull words mid q (Same p q) (k None) full rest

-- Behind it the task has its words of context, and the calls are told.
abbrev IsOtherEnd : Lowered → Type 0
IsOtherEnd (lowered.Words words) = ⊥
IsOtherEnd (lowered.Failed why) = Unit {0}
IsOtherEnd (lowered.Trapped why) = Unit {0}
IsOtherEnd lowered.NoFuel = Unit {0}

module _ (type : ℕ) (h : Held) where
  abbrev pub Keeps : Held → Type 0
  Keeps k = SameTyped type h k × Alike h k

  context_keeps : (t number word : ℕ) (k : Held) → Keeps k → GivesSo Keeps (context_set t number word k)
  context_keeps t number word k same =
      so_given Keeps (slice_get k.tasks t) (λ slot. Gives (tt {0}) (with_task t (with_word number word slot) k)) (λ slot is. same)

  got_keeps : (t : ℕ) (o : Option (List ℕ)) (k : Held) → Keeps k → GivesSo Keeps (got_told t o k)
  got_keeps t None k same = same
  got_keeps t (Some words) k same = same

  act_keeps : (g : Graph) (t : ℕ) (act : Act) (k : Held) → Keeps k → GivesSo Keeps (act_told g t act k)
  act_keeps g t act k same =
      so_given Keeps (canon_at g act.canon) (λ c. after (told (line.Do t (builtin_of c) act.words) k) (λ done l. got_told t act.got l))
      (λ c is. so_after Keeps (told (line.Do t (builtin_of c) act.words) k) (λ done l. got_told t act.got l) same (λ done l q. got_keeps t act.got l q))

  acts_keep : (g : Graph) (t : ℕ) (acts : List Act) (k : Held) → Keeps k → GivesSo Keeps (all_told g t acts k)
  acts_keep g t [] k same = same
  acts_keep g t (act ∷ acts) k same =
      so_after Keeps (act_told g t act k) (λ done l. all_told g t acts l) (act_keeps g t act k same) (λ done l q. acts_keep g t acts l q)

  finished_keeps : (g : Graph) (t : ℕ) (acts : Acts) (words : List ℕ) (k : Held) → Keeps k → GivesSo Keeps (finished g t acts (lowered.Words words) k)
  unfolding finished
  finished_keeps g t acts words k same =
      so_after Keeps (context_set t 0 acts.context.0 k)
      (λ done l. after (context_set t 1 acts.context.1 l) (λ done m. after (all_told g t acts.calls m) (λ done r. lowered_by (lowered.Words words) r)))
      (context_keeps t 0 acts.context.0 k same)
      (λ done l q.
      so_after Keeps (context_set t 1 acts.context.1 l) (λ done m. after (all_told g t acts.calls m) (λ done r. lowered_by (lowered.Words words) r))
      (context_keeps t 1 acts.context.1 l q)
      (λ done m r. so_after Keeps (all_told g t acts.calls m) (λ done o. lowered_by (lowered.Words words) o) (acts_keep g t acts.calls m r) (λ done o s. s)))

  -- Else no words come.
  refused_not : (why : CallRefusal) (k : Held) → GivesSo Keeps (call_refused why k)
  refused_not refusal.CannotLeave k = tt
  refused_not (refusal.Refused why) k = tt
  refused_not refusal.NoRule k = tt

  trapped_not : (why : HostedTrap) (k : Held) → GivesSo Keeps (code_trapped why k)
  trapped_not (hosted.Core why) k = tt
  trapped_not (hosted.Call why) k = refused_not why k
  trapped_not hosted.NoRealloc k = tt

  ended_not : (came : Lowered) (k : Held) → IsOtherEnd came → GivesSo Keeps (lowered_by came k)
  ended_not (lowered.Words words) k q = absurd q
  ended_not (lowered.Failed why) k q = tt
  ended_not (lowered.Trapped why) k q = trapped_not why k
  ended_not lowered.NoFuel k q = tt

  unfinished : (g : Graph) (t : ℕ) (acts : Acts) (came : Lowered) (k : Held) → IsOtherEnd came → GivesSo Keeps (finished g t acts came k)
  unfolding finished
  unfinished g t acts came k q =
      so_behind Keeps (context_set t 0 acts.context.0 k) (λ done l. after (context_set t 1 acts.context.1 l)
      (λ done m. after (all_told g t acts.calls m) (λ done r. lowered_by came r)))
      (λ done l e.
      so_behind Keeps (context_set t 1 acts.context.1 l) (λ done m. after (all_told g t acts.calls m) (λ done r. lowered_by came r))
      (λ done m f. so_behind Keeps (all_told g t acts.calls m) (λ done r. lowered_by came r) (λ done r i. ended_not came r q)))

  -- A lowering, from an instance as it is.
  module _ (n : ℕ) (types : List ValType) (deep : (t : ValType) → slice_get types type ≡ Some t → depth t ≤ n → ⊥) (g : Graph) (to : Destination) where
    came_keeps : (plan : Plan) (s : Site) (b : ℕ) (came : Lowered) (placed : Placed WorldEntry) → slice_get h.instances to.instance ≡ Some s.instance
        → Counted (Small n) plan b
        → Follows (hosted_rooms seen_as (IsEntry of_handle of_end to.task types) (setting_in g to)) plan (begun_at s h) (as_plan came) placed
        → AreSound h.instances
        → GivesSo Keeps (finished g to.task placed.room.acts came (left_at to s placed h))
    came_keeps plan s b (lowered.Words words) placed here counted follows sound =
        finished_keeps g to.task placed.room.acts words (left_at to s placed h) (
          put_typed type h h to.instance s.instance (with_slots placed.slots s.instance) here
              (plan_same type n types deep to.task (setting_in g to) plan (begun_at s h) placed words b counted follows (sound to.instance s.instance here))
              (λ at index. refl),
          (refl, refl),
        )
    came_keeps plan s b (lowered.Failed why) placed here counted follows sound =
        unfinished g to.task placed.room.acts (lowered.Failed why) (left_at to s placed h) tt
    came_keeps plan s b (lowered.Trapped why) placed here counted follows sound =
        unfinished g to.task placed.room.acts (lowered.Trapped why) (left_at to s placed h) tt
    came_keeps plan s b lowered.NoFuel placed here counted follows sound = unfinished g to.task placed.room.acts lowered.NoFuel (left_at to s placed h) tt

    lowers_keep : (plan : Plan) (s : Site) (b : ℕ) (d : Done (List ℕ)) → slice_get h.instances to.instance ≡ Some s.instance → Counted (Small n) plan b
        → LowersAt g to types plan s h d
        → AreSound h.instances → GivesSo Keeps d
    lowers_keep plan s b d here counted (came, placed, follows, is) sound =
        subst (λ (e : Done (List ℕ)). GivesSo Keeps e) (sym is) (came_keeps plan s b came placed here counted follows sound)

  pub all_keep : (p : Program) (to : Destination) (t : Numbered) (n : ℕ) (values : List Value) (place : ℕ) (d : Done (List ℕ))
      → ((u : ValType) → slice_get t.types type ≡ Some u → depth u ≤ n → ⊥) → depth t.val_type ≤ n → LowersAll p to t values place h d → AreSound h.instances
      → GivesSo Keeps d
  all_keep p to t n values place d deep small b sound =
      from_site (λ (e : Done (List ℕ)). GivesSo Keeps e) tt p to (all_fit t.val_type values) h
      (λ s k e. LowersAt p.graph.now to t.types (plan_all t.val_type values place s.resources) s k e) d
      (λ s found mine fit is.
      lowers_keep n t.types deep p.graph.now to (plan_all t.val_type values place s.resources) s (all_count s.resources values) d found
      (list_stored_counted s.resources (Small n) values t.val_type place (λ m w there. fits_each t.val_type values fit m w there)
      (all_small t.val_type n values small)) is sound) b

-- Where the script passes no end each readable end stands in one place; and so each change keeps it.
use Rattle.std.proofs.Common.{◌≡◌, ◌<◌, inl, inr, ℕ, suc, ◌+◌, List, [], ◌∷◌, ◌++◌, length, refl, sym, ◌∙◌, subst, arith, Option, Some}
use Rattle.std.specs.Prelude.{IsSome}
use Rattle.wasm_store.proofs.Lists.{all_at}
use Rattle.syntax_trees.specs.declared.types.ValType.{ValType}
use Rattle.syntax_trees.specs.declared.value.Value.{Value}
use Rattle.builtin_kinds.specs.declared.EndKind.{EndKind}
use Rattle.builtin_kinds.specs.declared.EndKind.TheVariants.{Stream, Future}
use Rattle.stream_ends.specs.declared.side.Side.TheVariants.{Reader, Writer}
use Rattle.tasks.specs.declared.phase.Resolution.TheVariants.{Cancelled}
use Rattle.comp_graph.specs.Graph.{Graph}
use Rattle.script_reader.specs.declared.script.Item.TheVariants as item
use Rattle.script_reader.specs.Script.{Script}
use Rattle.abi_machine.specs.Control.{EndRef}
use Rattle.abi_machine.specs.World.{Entry, OfSet, OfEnd, Inst, Subtask, Caller, Nobody, Host, Guest, New as IsNew, AfterCall, Task, Channel, World, new_inst, new_task, new_channel}
use Rattle.abi_machine.specs.Edits.{changed_at, changed_number, with_channel, carried, channel_made, caller_changed}
use Rattle.abi_machine.specs.Reading.{numbered, channels}
use Rattle.abi_machine.specs.replies.Streams.{end_ref}
use Rattle.abi_machine.specs.sound.Changes.{Change, GoesTo, HasStore, SpendsUnit, UsesPicks, TakesItem, BeginsInstance, AddsEntry, MakesSet, RemovesEntry, RemovesWaitable, LeavesSet, JoinsSet, HasBackpressure, IsCalled, Calls, ComesBack, Acts, Begins, Cancels, Blocks, Exits, IsRemoved, Resolves, IsCancelled, HasWord, HasNewStack, HasStack, LosesStack, IsAnswered, IsTold, IsLent, HasResult, MakesChannel, Offers, Transfers, Concludes, DropsEnd, after}
use Rattle.abi_machine.specs.sound.Premises.{Comes}
use Rattle.abi_machine.specs.sound.EndPlaces.{EndStandsAt, LiveAt, IsLive}
use Rattle.abi_machine.specs.sound.EndsPassed.{readable, ends_of, IsOnTheWay, ReadersStand, PassesNoEnd, HostPassesNoEnd, ItemPassesNoEnd, ScriptPassesNoEnd, ReadersPass, IsFreshReader}
use Rattle.abi_machine.proofs.sound.Lists.{all_changed, all_more, within}
use Rattle.abi_machine.proofs.sound.Aside.{channel_kept, made_kept}
use Rattle.abi_machine.proofs.sound.OnePlace.{none_same, remove_none, add_back, begun_back, reads_no_write, readable_added}
use Rattle.abi_machine.proofs.sound.ends.Live.{IsDroppedAt, concluded_drops, transferred_drops, offered_drops, other_drops, edit_live, made_live, new_live, same_end}
use Rattle.abi_machine.proofs.sound.ends.Brought.{stand_less, none_back, hosts_before, hosts_caller}

-- Entries.

add_stands : (w : World) (i : ℕ) (entry : Entry) → IsFreshReader w entry → ReadersStand w.insts w.streams w.futures → ReadersStand (after (AddsEntry i entry) w).insts w.streams w.futures
add_stands w i entry fresh h = record {
  once = λ k index j other e side a b. elim (add_back w.insts i entry k index e a) [
    | inl new ↦ elim (add_back w.insts i entry j other e b) [
      | inl last ↦ (new.0 ∙ sym last.0, new.1 ∙ sym last.1)
      | inr old ↦ absurd (not_both e side new.2 j other old)
    ]
    | inr was ↦ elim (add_back w.insts i entry j other e b) [
      | inl last ↦ absurd (not_both e side last.2 k index was)
      | inr old ↦ h.once k index j other e side was old
    ]
  ];
  live = λ k index e side a. elim (add_back w.insts i entry k index e a) [
    | inl new ↦ (fresh_so e side (subst (IsFreshReader w) new.2 fresh)).0
    | inr old ↦ h.live k index e side old
  ];
}
  where
    fresh_so : (e : EndRef) → e.side ≡ Reader → IsFreshReader w (OfEnd e) → IsOnTheWay w.insts w.streams w.futures e
    fresh_so e side (inl writes) = absurd (reads_no_write e.side side writes)
    fresh_so e side (inr new) = new

    not_both : (e : EndRef) → e.side ≡ Reader → entry ≡ OfEnd e → (j index : ℕ) → EndStandsAt w.insts j index e → ⊥
    not_both e side same = (fresh_so e side (subst (IsFreshReader w) same fresh)).1

removed_stands : (insts : List Inst) (streams futures : List Channel) (i : ℕ) (f : Inst → Inst) → ((j index : ℕ) (e : EndRef) → EndStandsAt (changed_at i f insts) j index e → EndStandsAt insts j index e)
    → ReadersStand insts streams futures → ReadersStand (changed_at i f insts) streams futures
removed_stands insts streams futures i f back h = stand_less insts (changed_at i f insts) streams futures back h

same_stands : (insts : List Inst) (streams futures : List Channel) (i : ℕ) (f : Inst → Inst) → ((x : Inst) → (f x).table ≡ x.table) → ReadersStand insts streams futures
    → ReadersStand (changed_at i f insts) streams futures
same_stands insts streams futures i f same h = stand_less insts (changed_at i f insts) streams futures (λ j index e there. none_back insts i f (none_same f same) j index e there) h

-- Streams and futures.

live_as : (insts : List Inst) (streams futures more others : List Channel) → ((i index : ℕ) (e : EndRef) → EndStandsAt insts i index e → IsLive e streams futures → IsLive e more others)
    → ReadersStand insts streams futures → ReadersStand insts more others
live_as insts streams futures more others still h = record { once = h.once; live = λ i index e side a. still i index e a (h.live i index e side a) }

-- what is done to a stream or a future leaves the readable ends that stand as they are
abbrev KeepsEnds : EndKind → ℕ → (Channel → Channel) → World → Type 0
KeepsEnds kind number f w = (i index : ℕ) (e : EndRef) (c : Channel) → EndStandsAt w.insts i index e → e.kind ≡ kind → e.number ≡ number → IsDroppedAt e.side (f c) ≡ IsDroppedAt e.side c

channel_passes : (kind : EndKind) (number : ℕ) (f : Channel → Channel) (w : World) → (HostPassesNoEnd w.tasks → KeepsEnds kind number f w) → ReadersPass w → ReadersPass (with_channel kind number f w)
channel_passes Stream number f w keeps h =
    λ none.
    live_as w.insts w.streams w.futures (changed_number number f w.streams) w.futures (λ i index e there l. edit_live Stream e.kind number e.number e.side f w (λ c. keeps none i index e c there) l) (h none)
channel_passes Future number f w keeps h =
    λ none.
    live_as w.insts w.streams w.futures w.streams (changed_number number f w.futures) (λ i index e there l. edit_live Future e.kind number e.number e.side f w (λ c. keeps none i index e c there) l) (h none)

made_passes : (kind : EndKind) (element : Option ValType) (w : World) → ReadersPass w → ReadersPass (channel_made kind element w)
made_passes Stream element w h =
    λ none. live_as w.insts w.streams w.futures (w.streams ++ new_channel element ∷ []) w.futures (λ i index e there l. made_live Stream e.kind e.number e.side element w l) (h none)
made_passes Future element w h =
    λ none. live_as w.insts w.streams w.futures w.streams (w.futures ++ new_channel element ∷ []) (λ i index e there l. made_live Future e.kind e.number e.side element w l) (h none)

-- The readable end of what was just made stands nowhere.

next_is : (n : ℕ) → n + 1 ≡ suc n
next_is n = omega arith

none_behind : (all : List Channel) (c : Channel) → numbered all (length all + 1) ≡ Some c → ⊥
none_behind all c h =
    let there : numbered all (suc (length all)) ≡ Some c = subst (λ (n : ℕ). numbered all n ≡ Some c) (next_is (length all)) h in
    let some : IsSome (numbered all (suc (length all))) = subst (λ (o : Option Channel). IsSome o) (sym there) refl in
    let less : length all < length all = within all (length all) some in omega (arith, less)

pub reader_is_fresh : (kind : EndKind) (element : Option ValType) (w : World) → ReadersPass w → HostPassesNoEnd (channel_made kind element w).tasks
    → IsFreshReader (channel_made kind element w) (OfEnd (end_ref kind (length (channels kind w) + 1) Reader))
reader_is_fresh Stream element w h none = inr (
  new_live Stream element w Reader,
  λ i index there. (let l = (h none).live i index (readable Stream (length w.streams + 1)) refl there in none_behind w.streams l.0 l.1),
)
reader_is_fresh Future element w h none = inr (
  new_live Future element w Reader,
  λ i index there. (let l = (h none).live i index (readable Future (length w.futures + 1)) refl there in none_behind w.futures l.0 l.1),
)

-- and the writable end is not dropped, once the readable one was added
pub new_live_still : (i : ℕ) (kind : EndKind) (element : Option ValType) (w : World)
    → LiveAt kind (length (channels kind w) + 1) Writer (readable_added i kind element w).streams (readable_added i kind element w).futures
new_live_still i Stream element w = new_live Stream element w Writer
new_live_still i Future element w = new_live Future element w Writer

-- Tasks.

task_passes : (w : World) (t : ℕ) (f : Task → Task) → ((x : Task) → PassesNoEnd (f x).caller → PassesNoEnd x.caller) → ReadersPass w → HostPassesNoEnd (changed_at t f w.tasks) → ReadersStand w.insts w.streams w.futures
task_passes w t f keeps h none = h (hosts_before t f w.tasks keeps none)

hosts_front : (tasks : List Task) (x : Task) → HostPassesNoEnd (tasks ++ x ∷ []) → HostPassesNoEnd tasks
hosts_front [] x h = tt
hosts_front (y ∷ tasks) x h = (h.0, hosts_front tasks x h.1)

pub readers_kept : (g : Graph) (s : Script) (c : Change) (w : World) → Comes g s c w → ReadersPass w → ReadersPass (after c w)
readers_kept g s BeginsInstance w may h = λ none. stand_less w.insts (w.insts ++ new_inst ∷ []) w.streams w.futures (begun_back w.insts) (h none)
readers_kept g s (AddsEntry i entry) w may h = λ none. add_stands w i entry (may.4 none) (h none)
readers_kept g s (MakesSet i set) w may h = λ none. same_stands (after (AddsEntry i (OfSet set)) w).insts w.streams w.futures i _ (λ x. refl) (add_stands w i (OfSet set) tt (h none))
readers_kept g s (RemovesEntry i index) w may h = λ none. removed_stands w.insts w.streams w.futures i _ (none_back w.insts i _ (remove_none index)) (h none)
readers_kept g s (RemovesWaitable i index) w may h =
    λ none. same_stands (after (RemovesEntry i index) w).insts w.streams w.futures i _ (λ x. refl) (removed_stands w.insts w.streams w.futures i _ (none_back w.insts i _ (remove_none index)) (h none))
readers_kept g s (LeavesSet i index) w may h = λ none. same_stands w.insts w.streams w.futures i _ (λ x. refl) (h none)
readers_kept g s (JoinsSet i index set) w may h = λ none. same_stands w.insts w.streams w.futures i _ (λ x. refl) (h none)
readers_kept g s (HasBackpressure i pressure) w may h = λ none. same_stands w.insts w.streams w.futures i _ (λ x. refl) (h none)
readers_kept g s (MakesChannel kind element) w may h = made_passes kind element w h
readers_kept g s (Offers e call) w may h = channel_passes e.kind e.number _ w (λ none i index x c there kind number. offered_drops e.kind e.side call c.ends x.side) h
readers_kept g s (Transfers e size values) w may h =
    channel_passes e.kind e.number _ (with_channel e.kind e.number (carried values) w) (λ none i index x c there kind number. transferred_drops e.kind e.side size (length values) c.ends x.side)
    (channel_passes e.kind e.number (carried values) w (λ none i index x c there kind number. refl) h)
readers_kept g s (Concludes e) w may h = channel_passes e.kind e.number _ w (λ none i index x c there kind number. concluded_drops e.kind e.side c.ends x.side) h
readers_kept g s (DropsEnd e) w may h =
    channel_passes e.kind e.number _ w
    (λ none i index x c there kind number. other_drops e.side x.side c.ends (λ same. may.1.1 none i index (subst (EndStandsAt w.insts i index) (same_end x e kind number same) there))) h
readers_kept g s (GoesTo control) w may h = h
readers_kept g s (HasStore store) w may h = h
readers_kept g s SpendsUnit w may h = h
readers_kept g s (UsesPicks picks) w may h = h
readers_kept g s TakesItem w may h = h
readers_kept g s (ComesBack t) w may h = h
readers_kept g s (IsCalled callee call values) w may h = λ none. h (hosts_front w.tasks (new_task callee (Host call values) IsNew) none)
readers_kept g s (Calls number callee subtask words) w may h =
    λ none.
    task_passes w subtask.by (λ task. record task { state = AfterCall (length w.tasks) number words }) (λ x k. k) h (hosts_front _ (new_task callee (Guest subtask) IsNew) none)
readers_kept g s (Acts t) w may h = task_passes w t _ (λ x k. k) h
readers_kept g s (Begins n) w may h = task_passes w 0 _ (λ x k. k) h
readers_kept g s (Cancels t callee number words) w may h = task_passes w t _ (λ x k. k) h
readers_kept g s (Blocks t state) w may h = task_passes w t _ (λ x k. k) h
readers_kept g s (Exits t) w may h = task_passes w t _ (λ x k. k) h
readers_kept g s (IsRemoved t) w may h = λ none. task_passes w t (λ task. record task { resolution = Some Cancelled }) (λ x k. k) h (hosts_before t _ _ (λ x k. k) none)
readers_kept g s (Resolves t resolution) w may h = task_passes w t _ (λ x k. k) h
readers_kept g s (IsCancelled t cancellation) w may h = task_passes w t _ (λ x k. k) h
readers_kept g s (HasWord t slot word) w may h = task_passes w t _ (λ x k. k) h
readers_kept g s (HasNewStack t k) w may h = task_passes w t _ (λ x k. k) h
readers_kept g s (HasStack t k) w may h = task_passes w t _ (λ x k. k) h
readers_kept g s (LosesStack t) w may h = task_passes w t _ (λ x k. k) h
readers_kept g s (IsAnswered t words) w may h = task_passes w t _ (λ x k. k) h
readers_kept g s (IsTold t state) w may h = λ none. h (hosts_caller t _ w.tasks none)
readers_kept g s (IsLent t handle) w may h = λ none. h (hosts_caller t _ w.tasks none)
readers_kept g s (HasResult t words) w may h = λ none. h (hosts_caller t _ w.tasks none)

-- The script passes no end, and so no call of it does.

guest_still : (f : Subtask → Subtask) (c : Caller) → PassesNoEnd c → PassesNoEnd (caller_changed f c)
guest_still f Nobody h = tt
guest_still f (Host call values) h = h
guest_still f (Guest subtask) h = tt

hosts_still : (t : ℕ) (f : Task → Task) (tasks : List Task) → ((x : Task) → PassesNoEnd x.caller → PassesNoEnd (f x).caller) → HostPassesNoEnd tasks → HostPassesNoEnd (changed_at t f tasks)
hosts_still t f tasks keeps h = all_changed (λ task. PassesNoEnd task.caller) t f tasks (λ x at k. keeps x k) h

abbrev HostsPass : World → Type 0
HostsPass w = HostPassesNoEnd w.tasks

pub hosts_kept : (g : Graph) (s : Script) → ScriptPassesNoEnd s → (c : Change) (w : World) → Comes g s c w → HostPassesNoEnd w.tasks → HostPassesNoEnd (after c w).tasks
hosts_kept g s clean (IsCalled callee call values) w may h =
    let of = may.5 in
    all_more (λ task. PassesNoEnd task.caller) w.tasks (new_task callee (Host call values) IsNew) h (subst (λ (all : List Value). ends_of all ≡ []) of.3 (all_at ItemPassesNoEnd s.items of.0 (item.Call of.1) clean of.2))
hosts_kept g s clean (Calls number callee subtask words) w may h =
    all_more (λ task. PassesNoEnd task.caller) _ (new_task callee (Guest subtask) IsNew) (hosts_still subtask.by (λ task. record task { state = AfterCall (length w.tasks) number words }) w.tasks (λ x k. k) h) tt
hosts_kept g s clean (Acts t) w may h = hosts_still t _ w.tasks (λ x k. k) h
hosts_kept g s clean (Begins n) w may h = hosts_still 0 _ w.tasks (λ x k. k) h
hosts_kept g s clean (Cancels t callee number words) w may h = hosts_still t _ w.tasks (λ x k. k) h
hosts_kept g s clean (Blocks t state) w may h = hosts_still t _ w.tasks (λ x k. k) h
hosts_kept g s clean (Exits t) w may h = hosts_still t _ w.tasks (λ x k. k) h
hosts_kept g s clean (IsRemoved t) w may h = hosts_still t _ _ (λ x k. k) (hosts_still t (λ task. record task { resolution = Some Cancelled }) w.tasks (λ x k. k) h)
hosts_kept g s clean (Resolves t resolution) w may h = hosts_still t _ w.tasks (λ x k. k) h
hosts_kept g s clean (IsCancelled t cancellation) w may h = hosts_still t _ w.tasks (λ x k. k) h
hosts_kept g s clean (HasWord t slot word) w may h = hosts_still t _ w.tasks (λ x k. k) h
hosts_kept g s clean (HasNewStack t k) w may h = hosts_still t _ w.tasks (λ x k. k) h
hosts_kept g s clean (HasStack t k) w may h = hosts_still t _ w.tasks (λ x k. k) h
hosts_kept g s clean (LosesStack t) w may h = hosts_still t _ w.tasks (λ x k. k) h
hosts_kept g s clean (IsAnswered t words) w may h = hosts_still t _ w.tasks (λ x k. k) h
hosts_kept g s clean (IsTold t state) w may h = hosts_still t _ w.tasks (λ x k. guest_still _ x.caller k) h
hosts_kept g s clean (IsLent t handle) w may h = hosts_still t _ w.tasks (λ x k. guest_still _ x.caller k) h
hosts_kept g s clean (HasResult t words) w may h = hosts_still t _ w.tasks (λ x k. guest_still _ x.caller k) h
hosts_kept g s clean (MakesChannel kind element) w may h = made_kept HostsPass (λ v x k. k) (λ v x k. k) kind element w h
hosts_kept g s clean (Offers e call) w may h = channel_kept HostsPass (λ v x k. k) (λ v x k. k) e.kind e.number _ w h
hosts_kept g s clean (Transfers e size values) w may h = channel_kept HostsPass (λ v x k. k) (λ v x k. k) e.kind e.number _ _ (channel_kept HostsPass (λ v x k. k) (λ v x k. k) e.kind e.number _ w h)
hosts_kept g s clean (Concludes e) w may h = channel_kept HostsPass (λ v x k. k) (λ v x k. k) e.kind e.number _ w h
hosts_kept g s clean (DropsEnd e) w may h = channel_kept HostsPass (λ v x k. k) (λ v x k. k) e.kind e.number _ w h
hosts_kept g s clean (GoesTo control) w may h = h
hosts_kept g s clean (HasStore store) w may h = h
hosts_kept g s clean SpendsUnit w may h = h
hosts_kept g s clean (UsesPicks picks) w may h = h
hosts_kept g s clean TakesItem w may h = h
hosts_kept g s clean BeginsInstance w may h = h
hosts_kept g s clean (AddsEntry i entry) w may h = h
hosts_kept g s clean (MakesSet i set) w may h = h
hosts_kept g s clean (RemovesEntry i index) w may h = h
hosts_kept g s clean (RemovesWaitable i index) w may h = h
hosts_kept g s clean (LeavesSet i index) w may h = h
hosts_kept g s clean (JoinsSet i index set) w may h = h
hosts_kept g s clean (HasBackpressure i pressure) w may h = h
hosts_kept g s clean (ComesBack t) w may h = h

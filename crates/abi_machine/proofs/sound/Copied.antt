-- Copies under way stay in their ranges.
use Rattle.std.proofs.Common.{◌≡◌, ◌≤◌, ℕ, zero, suc, false, List, length, refl, sym, ap, ◌∙◌, subst, arith, Option, Some, None}
use Rattle.std.specs.List.{AllByRecursion}
use Rattle.wasm_store.proofs.Lists.{all_at}
use Rattle.syntax_trees.specs.declared.types.ValType.{ValType}
use Rattle.syntax_trees.specs.declared.value.Value.{Value}
use Rattle.builtin_kinds.specs.declared.EndKind.{EndKind}
use Rattle.builtin_kinds.specs.declared.EndKind.TheVariants.{Stream, Future}
use Rattle.stream_ends.specs.declared.side.Side.{Side}
use Rattle.stream_ends.specs.declared.open_copy.By.TheVariants as by
use Rattle.stream_ends.specs.declared.open_copy.OpenCopy.{OpenCopy}
use Rattle.stream_ends.specs.declared.stream_end.End.{End}
use Rattle.stream_ends.specs.Ends.{EndsView, end_at, new_copy}
use Rattle.stream_ends.specs.Meeting as stream
use Rattle.stream_ends.proofs.Meetings as stream_meetings
use Rattle.stream_ends.proofs.Keeping as stream_keeping
use Rattle.future_ends.specs.Meeting as future
use Rattle.future_ends.proofs.Meetings as future_meetings
use Rattle.future_ends.proofs.Keeping as future_keeping
use Rattle.comp_graph.specs.Graph.{Graph}
use Rattle.script_reader.specs.Script.{Script}
use Rattle.abi_machine.specs.Control.{EndRef}
use Rattle.abi_machine.specs.World.{Channel, World, new_channel}
use Rattle.abi_machine.specs.Edits.{changed_number, with_channel, channel_made, carried, offered_by, transferred_by, transferred, concluded_by}
use Rattle.abi_machine.specs.Reading.{numbered}
use Rattle.abi_machine.specs.Counting.{channel_end, end_of}
use Rattle.abi_machine.specs.sound.Changes.{Change, GoesTo, HasStore, SpendsUnit, UsesPicks, TakesItem, BeginsInstance, AddsEntry, MakesSet, RemovesEntry, RemovesWaitable, LeavesSet, JoinsSet, HasBackpressure, IsCalled, Calls, ComesBack, Acts, Begins, Cancels, Blocks, Exits, IsRemoved, Resolves, IsCancelled, HasWord, HasNewStack, HasStack, LosesStack, IsAnswered, IsTold, IsLent, HasResult, MakesChannel, Offers, Transfers, Concludes, DropsEnd, after}
use Rattle.abi_machine.specs.sound.Premises.{IsSizeIn, IsCall, Comes}
use Rattle.abi_machine.specs.sound.Agreeing.{IsDue, IsDueAt, channel_in}
use Rattle.abi_machine.specs.sound.Copies.{IsCopied, FirstIsCopied, CopiesStay}
use Rattle.abi_machine.proofs.sound.Lists.{all_changed, all_more}
use Rattle.abi_machine.proofs.sound.Found.{some_same}
use Rattle.abi_machine.proofs.sound.Numbered.{changed_twice}
use Rattle.abi_machine.proofs.sound.Due.{channel_is}
use Rattle.abi_machine.proofs.sound.Meetings.{stream_call_sound, future_call_sound, stream_copy_sound, future_copy_sound}
use Rattle.abi_machine.proofs.sound.Alone.{kept_so}

-- what holds of the ends of a channel of a kind
abbrev pub IsSoundOf : EndKind → EndsView → Type 0
IsSoundOf Stream view = stream.Sound view
IsSoundOf Future view = future.Sound view

pub numbered_changed : (P : Channel → Type 0) (number : ℕ) (f : Channel → Channel) (all : List Channel) → ((c : Channel) → numbered all number ≡ Some c → P c → P (f c)) → AllByRecursion P all
    → AllByRecursion P (changed_number number f all)
numbered_changed P zero f all keeps h = h
numbered_changed P (suc place) f all keeps h = all_changed P place f all keeps h

-- A channel is changed.
channel_changed : (kind : EndKind) (number : ℕ) (f : Channel → Channel) (w : World) → ((c : Channel) → channel_in kind number w.streams w.futures ≡ Some c → IsSoundOf kind c.ends.view → IsSoundOf kind (f c).ends.view)
    → IsCopied w → IsCopied (with_channel kind number f w)
channel_changed Stream number f w keeps h =
    record { of_streams = numbered_changed (λ (c : Channel). stream.Sound c.ends.view) number f w.streams keeps h.of_streams; of_futures = h.of_futures }
channel_changed Future number f w keeps h =
    record { of_streams = h.of_streams; of_futures = numbered_changed (λ (c : Channel). future.Sound c.ends.view) number f w.futures keeps h.of_futures }

made_sound : (kind : EndKind) (element : Option ValType) (w : World) → IsCopied w → IsCopied (channel_made kind element w)
made_sound Stream element w h =
    record {
      of_streams =
          all_more (λ (c : Channel). stream.Sound c.ends.view) w.streams (new_channel element) h.of_streams
          (record { reader = stream_meetings.none_sound false false; writer = stream_meetings.none_sound false false; one = λ _. refl });
      of_futures = h.of_futures;
    }
made_sound Future element w h =
    record {
      of_streams = h.of_streams;
      of_futures =
          all_more (λ (c : Channel). future.Sound c.ends.view) w.futures (new_channel element) h.of_futures
          (record { reader = future_meetings.none_sound false false; writer = future_meetings.none_sound false false; one = λ _. refl });
    }

-- A read or write meets the other end.
offer_sound : (kind : EndKind) (side : Side) (task canon place size : ℕ) (c : Channel) → IsSizeIn kind size → (end_at side c.ends.view).copy ≡ None → (end_at side c.ends.view).done ≡ false
    → IsSoundOf kind c.ends.view → IsSoundOf kind (offered_by kind side (new_copy (by.Task task) canon place size) c.ends).view
offer_sound Stream side task canon place size c fits quiet going h =
    stream_call_sound side (by.Task task) canon place size c.ends.view h quiet going (let few : size ≤ 268435455 = fits in omega (arith, few))
offer_sound Future side task canon place size c fits quiet going h =
    subst (λ (n : ℕ). future.Sound (offered_by Future side (new_copy (by.Task task) canon place n) c.ends).view) (sym fits)
    (future_call_sound side (by.Task task) canon place c.ends.view h quiet going)

transfer_sound : (kind : EndKind) (side : Side) (size count : ℕ) (c : Channel) → IsDue kind side count c.ends.view → IsSoundOf kind c.ends.view → IsSoundOf kind (transferred_by kind side size count c.ends).view
transfer_sound Stream side size count c due h = stream_copy_sound side count c.ends.view due h
transfer_sound Future side size count c due h = future_copy_sound side count c.ends.view due h

conclude_sound : (kind : EndKind) (side : Side) (c : Channel) → IsSoundOf kind c.ends.view → IsSoundOf kind (concluded_by kind side c.ends).view
conclude_sound Stream side c h = stream_keeping.told_sound side c.ends.view h
conclude_sound Future side c h = future_keeping.told_sound side c.ends.view h

drop_sound : (kind : EndKind) (side : Side) (c : Channel) → IsSoundOf kind c.ends.view → IsSoundOf kind (stream.after_dropping side c.ends.view)
drop_sound Stream side c h = stream_keeping.dropped_sound side c.ends.view h
drop_sound Future side c h = future_keeping.dropped_sound side c.ends.view h

-- what a channel is that was looked up
pub sound_there : (kind : EndKind) (number : ℕ) (c : Channel) (w : World) → channel_in kind number w.streams w.futures ≡ Some c → IsCopied w → IsSoundOf kind c.ends.view
sound_there Stream zero c w e h = cc
sound_there Stream (suc place) c w e h = all_at (λ (x : Channel). stream.Sound x.ends.view) w.streams place c h.of_streams e
sound_there Future zero c w e h = cc
sound_there Future (suc place) c w e h = all_at (λ (x : Channel). future.Sound x.ends.view) w.futures place c h.of_futures e

pub end_there : (w : World) (e : EndRef) (c : Channel) → channel_in e.kind e.number w.streams w.futures ≡ Some c → end_of w e ≡ end_at e.side c.ends.view
end_there w e c there = ap (channel_end e.side) (sym (channel_is e.kind e.number w) ∙ there)

pub due_there : (w : World) (e : EndRef) (count : ℕ) (c : Channel) → channel_in e.kind e.number w.streams w.futures ≡ Some c → IsDueAt e count w.streams w.futures → IsDue e.kind e.side count c.ends.view
due_there w e count c there due = subst (λ (d : Channel). IsDue e.kind e.side count d.ends.view) (some_same (sym due.1 ∙ there)) due.2

offered_sound : (g : Graph) (w : World) (e : EndRef) (call : OpenCopy) (c : Channel) → IsCall g w e call → channel_in e.kind e.number w.streams w.futures ≡ Some c → IsSoundOf e.kind c.ends.view
    → IsSoundOf e.kind (offered_by e.kind e.side call c.ends).view
offered_sound g w e call c may there h =
    subst (λ (x : OpenCopy). IsSoundOf e.kind (offered_by e.kind e.side x c.ends).view) (sym may.is)
    (offer_sound e.kind e.side may.task may.canon may.place may.size c may.fits (ap (λ (x : End). x.copy) (sym (end_there w e c there)) ∙ may.quiet)
    (ap (λ (x : End). x.done) (sym (end_there w e c there)) ∙ may.not_done) h)

-- Elements are carried, and their copy is completed, at once.
numbered_twice : (number : ℕ) (f h : Channel → Channel) (all : List Channel) → changed_number number h (changed_number number f all) ≡ changed_number number (λ c. h (f c)) all
numbered_twice zero f h all = refl
numbered_twice (suc place) f h all = changed_twice place f h all

pub channel_twice : (kind : EndKind) (number : ℕ) (f h : Channel → Channel) (w : World) → with_channel kind number h (with_channel kind number f w) ≡ with_channel kind number (λ c. h (f c)) w
channel_twice Stream number f h w = ap (λ (l : List Channel). record w { streams = l }) (numbered_twice number f h w.streams)
channel_twice Future number f h w = ap (λ (l : List Channel). record w { futures = l }) (numbered_twice number f h w.futures)

transferred_sound : (e : EndRef) (size : ℕ) (values : List (Option Value)) (w : World) → IsDueAt e (length values) w.streams w.futures → IsCopied w → IsCopied (transferred e size values w)
transferred_sound e size values w may h =
    let completes : Channel → Channel = λ c. record c { ends = transferred_by e.kind e.side size (length values) c.ends } in
    subst IsCopied (sym (channel_twice e.kind e.number (carried values) completes w))
    (channel_changed e.kind e.number (λ c. completes (carried values c)) w
    (λ c there k. transfer_sound e.kind e.side size (length values) c (due_there w e (length values) c there may) k) h)

pub copied_kept : (g : Graph) (s : Script) (c : Change) (w : World) → Comes g s c w → IsCopied w → IsCopied (after c w)
copied_kept g s (MakesChannel kind element) w may h = made_sound kind element w h
copied_kept g s (Offers e call) w may h = channel_changed e.kind e.number _ w (λ c there k. offered_sound g w e call c may there k) h
copied_kept g s (Transfers e size values) w may h = transferred_sound e size values w may h
copied_kept g s (Concludes e) w may h = channel_changed e.kind e.number _ w (λ c there k. conclude_sound e.kind e.side c k) h
copied_kept g s (DropsEnd e) w may h = channel_changed e.kind e.number _ w (λ c there k. drop_sound e.kind e.side c k) h
copied_kept g s (GoesTo control) w may h = h
copied_kept g s (HasStore store) w may h = h
copied_kept g s SpendsUnit w may h = h
copied_kept g s (UsesPicks picks) w may h = h
copied_kept g s TakesItem w may h = h
copied_kept g s BeginsInstance w may h = h
copied_kept g s (AddsEntry i entry) w may h = h
copied_kept g s (MakesSet i set) w may h = h
copied_kept g s (RemovesEntry i index) w may h = h
copied_kept g s (RemovesWaitable i index) w may h = h
copied_kept g s (LeavesSet i index) w may h = h
copied_kept g s (JoinsSet i index set) w may h = h
copied_kept g s (HasBackpressure i pressure) w may h = h
copied_kept g s (IsCalled callee call values) w may h = h
copied_kept g s (Calls number callee subtask words) w may h = h
copied_kept g s (ComesBack t) w may h = h
copied_kept g s (Acts t) w may h = h
copied_kept g s (Begins n) w may h = h
copied_kept g s (Cancels t callee number words) w may h = h
copied_kept g s (Blocks t state) w may h = h
copied_kept g s (Exits t) w may h = h
copied_kept g s (IsRemoved t) w may h = h
copied_kept g s (Resolves t resolution) w may h = h
copied_kept g s (IsCancelled t cancellation) w may h = h
copied_kept g s (HasWord t slot word) w may h = h
copied_kept g s (HasNewStack t k) w may h = h
copied_kept g s (HasStack t k) w may h = h
copied_kept g s (LosesStack t) w may h = h
copied_kept g s (IsAnswered t words) w may h = h
copied_kept g s (IsTold t state) w may h = h
copied_kept g s (IsLent t handle) w may h = h
copied_kept g s (HasResult t words) w may h = h

pub first_is_copied : FirstIsCopied
first_is_copied g = record { of_streams = tt; of_futures = tt }

pub copies_stay : CopiesStay
copies_stay g s w v labels alone h e = kept_so g s IsCopied (copied_kept g s) w v labels alone h e

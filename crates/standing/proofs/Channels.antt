-- Streams and futures that are kept, and those of the machine: what is looked up, made and changed.
use Rattle.std.proofs.Common.{◌≡◌, ℕ, zero, suc, ◌-◌, Bool, if◌then◌else◌, List, slice_set, sym, ap, ◌∙◌, subst, arith, Option, Some, None}
use Rattle.std.specs.List.{slice_get, AllZip}
use Rattle.std.proofs.lemmas.Bool.{ne_eqb}
use Rattle.handle_table.specs.Alike.{SlotAlike}
use Rattle.builtin_kinds.specs.declared.EndKind.TheVariants.{Stream, Future}
use Rattle.world_parts.specs.Channels.{place_of, at_place}
use Rattle.abi_machine.specs.World.{new_channel}
use Rattle.abi_machine.specs.Edits as world
use Rattle.abi_machine.specs.Edits.{changed_at}
use Rattle.abi_machine.specs.Reading as machine
use Rattle.abi_machine.specs.Reading.{channel_at}
use Rattle.abi_machine.proofs.sound.Found.{some_same}
use Rattle.standing.specs.Stands.{ChannelStands}
use Rattle.standing.specs.Channels.{ChannelsAreAlike, ChannelsAreMade, ChannelsChange}
use Rattle.standing.proofs.Lists.{BothAt, at_both, both_changed, both_more}

-- Things are counted from 1.
pub place_suc : (n : ℕ) → place_of (suc n) ≡ Some n
place_suc n =
    ap (λ (b : Bool). if b then None else Some (suc n - 1)) (ne_eqb (suc n) 0 (λ (e : suc n ≡ 0). omega (arith, e)))
    ∙ ap (λ (k : ℕ). Some k) (let less : suc n - 1 ≡ n = omega arith in less)

pub place_is : (number place : ℕ) → place_of number ≡ Some place → number ≡ suc place
place_is zero place h = absurd (cc)
place_is (suc n) place h = ap suc (some_same (sym (place_suc n) ∙ h))

slots_alike : {A B : Type 0} (R : A → B → Type 0) (x : Option A) (y : Option B) → BothAt R x y → SlotAlike R x y
slots_alike R None None h = tt
slots_alike R None (Some y) h = absurd h
slots_alike R (Some x) None h = absurd h
slots_alike R (Some x) (Some y) h = h

number_alike : {A B : Type 0} (R : A → B → Type 0) (xs : List A) (ys : List B) (number : ℕ) → AllZip R xs ys → SlotAlike R (at_place xs (place_of number)) (machine.numbered ys number)
number_alike R xs ys zero h = tt
number_alike R xs ys (suc n) h =
    subst (λ (o : Option ℕ). SlotAlike R (at_place xs o) (slice_get ys n)) (sym (place_suc n)) (slots_alike R (slice_get xs n) (slice_get ys n) (at_both R xs ys n h))

pub channels_are_alike : ChannelsAreAlike
channels_are_alike g values s h stacks w Stream number st = number_alike (ChannelStands values Stream) h.streams w.streams number st.are_streams
channels_are_alike g values s h stacks w Future number st = number_alike (ChannelStands values Future) h.futures w.futures number st.are_futures

-- One is made.
pub channels_are_made : ChannelsAreMade
channels_are_made g values s h stacks w Stream c element stands st = record {
  same_store = st.same_store;
  are_instances = st.are_instances;
  are_tasks = st.are_tasks;
  are_streams = both_more (ChannelStands values Stream) h.streams w.streams c (new_channel element) st.are_streams stands;
  are_futures = st.are_futures;
  same_chain = st.same_chain;
  fuel = st.fuel;
  drawn = st.drawn;
  as_taken = st.as_taken;
  same_stacks = st.same_stacks;
}
channels_are_made g values s h stacks w Future c element stands st = record {
  same_store = st.same_store;
  are_instances = st.are_instances;
  are_tasks = st.are_tasks;
  are_streams = st.are_streams;
  are_futures = both_more (ChannelStands values Future) h.futures w.futures c (new_channel element) st.are_futures stands;
  same_chain = st.same_chain;
  fuel = st.fuel;
  drawn = st.drawn;
  as_taken = st.as_taken;
  same_stacks = st.same_stacks;
}

-- One is changed.
number_changed : {A B : Type 0} (R : A → B → Type 0) (xs : List A) (ys : List B) (number place : ℕ) (x z : A) (f : B → B) → place_of number ≡ Some place → slice_get xs place ≡ Some x
    → ((y : B) → machine.numbered ys number ≡ Some y → R x y → R z (f y)) → AllZip R xs ys → AllZip R (slice_set xs place z) (world.changed_number number f ys)
number_changed R xs ys zero place x z f at is k h = absurd (cc)
number_changed R xs ys (suc n) place x z f at is k h =
    let same : n ≡ place = some_same (sym (place_suc n) ∙ at) in
    subst (λ (p : ℕ). AllZip R (slice_set xs p z) (changed_at n f ys)) same
    (both_changed R xs ys n x z f (subst (λ (p : ℕ). slice_get xs p ≡ Some x) (sym same) is) k h)

pub channels_change : ChannelsChange
channels_change g values s h stacks w Stream number place x y f at is keeps st = record {
  same_store = st.same_store;
  are_instances = st.are_instances;
  are_tasks = st.are_tasks;
  are_streams = number_changed (ChannelStands values Stream) h.streams w.streams number place x y f at is keeps st.are_streams;
  are_futures = st.are_futures;
  same_chain = st.same_chain;
  fuel = st.fuel;
  drawn = st.drawn;
  as_taken = st.as_taken;
  same_stacks = st.same_stacks;
}
channels_change g values s h stacks w Future number place x y f at is keeps st = record {
  same_store = st.same_store;
  are_instances = st.are_instances;
  are_tasks = st.are_tasks;
  are_streams = st.are_streams;
  are_futures = number_changed (ChannelStands values Future) h.futures w.futures number place x y f at is keeps st.are_futures;
  same_chain = st.same_chain;
  fuel = st.fuel;
  drawn = st.drawn;
  as_taken = st.as_taken;
  same_stacks = st.same_stacks;
}

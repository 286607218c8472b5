-- What is written to streams and futures is what is read.
use Rattle.std.proofs.Common.{◌≡◌, ℕ, zero, suc, List, ◌++◌, refl, ap, Option}
use Rattle.syntax_trees.specs.declared.types.ValType.{ValType}
use Rattle.syntax_trees.specs.declared.value.Value.{Value}
use Rattle.builtin_kinds.specs.declared.EndKind.{EndKind}
use Rattle.builtin_kinds.specs.declared.EndKind.TheVariants.{Stream, Future}
use Rattle.comp_graph.specs.Graph.{Graph}
use Rattle.script_reader.specs.Script.{Script}
use Rattle.abi_machine.specs.World.{Channel, World, new_channel}
use Rattle.abi_machine.specs.Edits.{changed_number, with_channel, channel_made, carried}
use Rattle.abi_machine.specs.sound.Changes.{Change, GoesTo, HasStore, SpendsUnit, UsesPicks, TakesItem, BeginsInstance, AddsEntry, MakesSet, RemovesEntry, RemovesWaitable, LeavesSet, JoinsSet, HasBackpressure, IsCalled, Calls, ComesBack, Acts, Begins, Cancels, Blocks, Exits, IsRemoved, Resolves, IsCancelled, HasWord, HasNewStack, HasStack, LosesStack, IsAnswered, IsTold, IsLent, HasResult, MakesChannel, Offers, Transfers, Concludes, DropsEnd, after, MayCome}
use Rattle.abi_machine.specs.sound.Passed.{HoldNothing, HoldsNothing, FirstHoldsNothing, NothingIsHeld}
use Rattle.abi_machine.proofs.sound.Lists.{all_changed, all_more}
use Rattle.abi_machine.proofs.sound.Alone.{kept_alone}

abbrev Held : Channel → Type 0
Held c = c.read ≡ c.written

numbered_kept : (number : ℕ) (f : Channel → Channel) (all : List Channel) → ((c : Channel) → Held c → Held (f c)) → HoldNothing all → HoldNothing (changed_number number f all)
numbered_kept zero f all keeps h = h
numbered_kept (suc place) f all keeps h = all_changed Held place f all (λ c e k. keeps c k) h

channel_held : (kind : EndKind) (number : ℕ) (f : Channel → Channel) (w : World) → ((c : Channel) → Held c → Held (f c)) → HoldsNothing w → HoldsNothing (with_channel kind number f w)
channel_held Stream number f w keeps h = (numbered_kept number f w.streams keeps h.0, h.1)
channel_held Future number f w keeps h = (h.0, numbered_kept number f w.futures keeps h.1)

made_held : (kind : EndKind) (element : Option ValType) (w : World) → HoldsNothing w → HoldsNothing (channel_made kind element w)
made_held Stream element w h = (all_more Held w.streams (new_channel element) h.0 refl, h.1)
made_held Future element w h = (h.0, all_more Held w.futures (new_channel element) h.1 refl)

held : (g : Graph) (s : Script) (c : Change) (w : World) → MayCome g s c w → HoldsNothing w → HoldsNothing (after c w)
held g s (MakesChannel kind element) w may h = made_held kind element w h
held g s (Offers e call) w may h = channel_held e.kind e.number _ w (λ c k. k) h
held g s (Transfers e size values) w may h =
    channel_held e.kind e.number _ _ (λ c k. k) (channel_held e.kind e.number (carried values) w (λ c k. ap (λ (l : List (Option Value)). l ++ values) k) h)
held g s (Concludes e) w may h = channel_held e.kind e.number _ w (λ c k. k) h
held g s (DropsEnd e) w may h = channel_held e.kind e.number _ w (λ c k. k) h
held g s (GoesTo control) w may h = h
held g s (HasStore store) w may h = h
held g s SpendsUnit w may h = h
held g s (UsesPicks picks) w may h = h
held g s TakesItem w may h = h
held g s BeginsInstance w may h = h
held g s (AddsEntry i entry) w may h = h
held g s (MakesSet i set) w may h = h
held g s (RemovesEntry i index) w may h = h
held g s (RemovesWaitable i index) w may h = h
held g s (LeavesSet i index) w may h = h
held g s (JoinsSet i index set) w may h = h
held g s (HasBackpressure i backpressure) w may h = h
held g s (IsCalled callee call values) w may h = h
held g s (Calls number callee subtask words) w may h = h
held g s (ComesBack t) w may h = h
held g s (Acts t) w may h = h
held g s (Begins n) w may h = h
held g s (Cancels t callee number words) w may h = h
held g s (Blocks t state) w may h = h
held g s (Exits t) w may h = h
held g s (IsRemoved t) w may h = h
held g s (Resolves t resolution) w may h = h
held g s (IsCancelled t cancellation) w may h = h
held g s (HasWord t slot word) w may h = h
held g s (HasNewStack t k) w may h = h
held g s (HasStack t k) w may h = h
held g s (LosesStack t) w may h = h
held g s (IsAnswered t words) w may h = h
held g s (IsTold t state) w may h = h
held g s (IsLent t handle) w may h = h
held g s (HasResult t words) w may h = h

pub first_holds_nothing : FirstHoldsNothing
first_holds_nothing g = (tt, tt)

pub nothing_is_held : NothingIsHeld
nothing_is_held g s w v labels alone h e = kept_alone g s HoldsNothing (held g s) w v labels alone h e

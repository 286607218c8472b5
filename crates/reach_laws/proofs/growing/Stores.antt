-- What a step of a typed world leaves: a store that extends the one before, and elements that go over put inside.
use Rattle.std.proofs.Common.{◌≡◌, ◌≤◌, ◌+◌, ℕ, List, [], ◌∷◌, length, subst, Option, Ok, Err}
use Rattle.std.specs.Prelude.{slice_index}
use Rattle.wasm_store.specs.Store.{Store}
use Rattle.wasm_store.specs.Typed.{StoreTyped, Extends}
use Rattle.wasm_store.proofs.Stores.{further}
use Rattle.value_lower.specs.Following.{written}
use Rattle.comp_graph.specs.Graph.{Graph}
use Rattle.lowering_laws.specs.StoreBytes.{HasBytesAlone}
use Rattle.lowering_laws.specs.Values.{AreBytes}
use Rattle.lowering_laws.proofs.Bytes.{between}
use Rattle.lowering_laws.proofs.Memories.{length_written}
use Rattle.lowering_laws.proofs.Stores.{GoesOn}
use Rattle.abi_machine.specs.Control.{Receiver, InWait, InCallback}
use Rattle.abi_machine.specs.World.{World}
use Rattle.abi_machine.specs.Edits.{control_behind}
use Rattle.abi_machine.specs.Canons.{memory_of, bytes_of, options_at}
use Rattle.abi_machine.specs.Delivering.{event_bytes, event_put}
use Rattle.abi_machine.specs.Lifting.{Kept, Stopped, Came}
use Rattle.abi_machine.specs.sound.TypedWorlds.{HasEventRoom, ElementsInside, PutsInside}
use Rattle.abi_machine.proofs.sound.Lifts.{Leaves as LeavesWith}
use Rattle.abi_machine.proofs.sound.planned.Reps.{memory_bytes}
use Rattle.abi_machine.proofs.sound.worlds.Grounds.{rewritten_goes_on}

-- the store in the midst of a step
pub record IsOn (s t : Store) : Type 0 where
  pub extends : Extends s t
  pub typed : StoreTyped t
  pub bytes : HasBytesAlone t

-- the world behind it
abbrev pub Grown : Store → World → Type 0
Grown s v = IsOn s v.store × PutsInside v

pub goes_on : (s t u : Store) → IsOn s t → GoesOn t u → IsOn s u
goes_on s t u h k = record { extends = further s t u h.extends k.extends; typed = k.typed; bytes = k.bytes }

-- what follows a task that leaves the chain
pub behind_inside : (chain : List ℕ) (s : Store) → ElementsInside (control_behind chain) s
behind_inside [] s = tt
behind_inside (t ∷ below) s = tt

-- what lifting came to
abbrev pub OnKept : Store → Kept → Type 0
OnKept s k = IsOn s k.world.store

abbrev pub OnStopped : Store → Stopped → Type 0
OnStopped s stop = IsOn s stop.world.store

pub on_came : {A : Type 0} (s : Store) (came : Came A) → LeavesWith (OnKept s) (OnStopped s) came → (x : A × Kept) → came ≡ Ok x → IsOn s x.1.world.store
on_came {A} s came h x e = subst (λ (c : Came A). LeavesWith (OnKept s) (OnStopped s) c) e h

pub on_stopped : {A : Type 0} (s : Store) (came : Came A) → LeavesWith (OnKept s) (OnStopped s) came → (stop : Stopped) → came ≡ Err stop → IsOn s stop.world.store
on_stopped {A} s came h stop e = subst (λ (c : Came A). LeavesWith (OnKept s) (OnStopped s) c) e h

-- Where there is room for an event, it leaves memories of bytes.
abbrev pub HasRoomFor : Graph → Receiver → Store → Type 0
HasRoomFor g (InWait number words) s = HasEventRoom g s number words
HasRoomFor g InCallback s = Unit {0}

pub event_on : (g : Graph) (s : Store) (number index payload : ℕ) (words : List ℕ) (w : World) → IsOn s w.store → HasEventRoom g w.store number words → AreBytes (event_bytes index payload)
    → IsOn s (event_put g number (slice_index words 1) index payload w).store
event_on g s number index payload words w h room are =
    let place : ℕ = slice_index words 1 in
    let memory : Option ℕ = memory_of w.store (options_at g number) in
    let old : List ℕ = bytes_of w.store memory in
    let inside : place + length (event_bytes index payload) ≤ length old = room in
    let long : length (written place (event_bytes index payload) old) ≡ length old = length_written place (event_bytes index payload) old inside in
    let all : AreBytes (written place (event_bytes index payload) old) =
    between place (place + length (event_bytes index payload)) (event_bytes index payload) old are (memory_bytes w.store memory h.bytes) in
    goes_on s w.store _ h (rewritten_goes_on w.store memory (written place (event_bytes index payload) old) h.typed h.bytes long all)

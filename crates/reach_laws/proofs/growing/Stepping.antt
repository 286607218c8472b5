-- Each step of a typed world leaves a store that extends the one before, and puts elements that go over inside.
use Rattle.std.proofs.Common.{◌≡◌, ℕ, List, refl, subst, Option, None}
use Rattle.wasm_store.specs.Store.{Store}
use Rattle.wasm_store.proofs.Stores.{store_same}
use Rattle.comp_graph.specs.Graph.{Graph}
use Rattle.script_reader.specs.Script.{Script}
use Rattle.trace_labels.specs.declared.label.Label.{Label}
use Rattle.abi_machine.specs.Control.{Receiver, InWait, InCallback, Control, Free, Chosen, Instantiates, Runs, Calls, Arrives, Lowers, Quiet, Back, Goes as GoesOn, Resumes, Delivers, Leaves as LeavesNow, Doomed}
use Rattle.abi_machine.specs.World.{Wait, ForYield, ForSet, ForCall, ForCopy, ForCancel, TaskState, New, Acting, AfterCall, AfterCancel, Begins, WaitsToEnter, InLoop, InBuiltin, Exited, Task, World}
use Rattle.abi_machine.specs.Edits.{with_control}
use Rattle.abi_machine.specs.Turn.{Steps}
use Rattle.abi_machine.specs.Next.{next, next_by}
use Rattle.abi_machine.specs.sound.Copies.{IsCopied}
use Rattle.abi_machine.specs.sound.CopyPlaces.{CopiesStandInside}
use Rattle.abi_machine.specs.sound.Tables.{HaveHistories}
use Rattle.abi_machine.specs.sound.TypedWorlds.{WaitsFor, WaitsSo, IsReceivedAt, Acts, pending_of, IsGrounded, IsTypedWorld}
use Rattle.abi_machine.proofs.sound.Found.{acting_is}
use Rattle.reach_laws.proofs.Leaving.{Leaves}
use Rattle.reach_laws.proofs.growing.Stores.{IsOn, Grown, HasRoomFor}
use Rattle.reach_laws.proofs.growing.Waking.{WaitRoom, StateRoom, back_grows, arriving_grows, delivering_grows, resuming_grows}
use Rattle.reach_laws.proofs.growing.Moving.{running_grows, lowers_grows, leaving_grows, nested_grows}
use Rattle.reach_laws.proofs.growing.Answering.{calling_grows, going_grows, free_grows, chosen_grows}

-- There is room for an event where a wait gets one, and where a blocked wait goes on.
room_at : (g : Graph) (s : Store) (receiver : Receiver) (x : Task) → IsReceivedAt g s receiver x → HasRoomFor g receiver s
room_at g s (InWait number words) x h = h.2
room_at g s InCallback x h = tt

wait_room : (g : Graph) (s : Store) (number : ℕ) (words : List ℕ) (wait : Wait) → WaitsFor g s number words wait → WaitRoom g s number words wait
wait_room g s number words (ForSet index) h = h.1
wait_room g s number words ForYield h = tt
wait_room g s number words (ForCall callee) h = tt
wait_room g s number words (ForCopy index) h = tt
wait_room g s number words (ForCancel index) h = tt

state_room : (g : Graph) (s : Store) (state : TaskState) → WaitsSo g s state → StateRoom g s state
state_room g s (InBuiltin number words wait) h = wait_room g s number words wait h
state_room g s New h = tt
state_room g s Acting h = tt
state_room g s (AfterCall callee number words) h = tt
state_room g s (AfterCancel callee number words) h = tt
state_room g s (Begins n) h = tt
state_room g s WaitsToEnter h = tt
state_room g s (InLoop said) h = tt
state_room g s Exited h = tt

module _ (g : Graph) (script : Script) (w : World) (history : HaveHistories w.insts) (copied : IsCopied w) (inside : CopiesStandInside g w) (starts : (n : ℕ) → w.control ≡ Instantiates n → ⊥) where
  abbrev Free_w : World
  Free_w = with_control Free w

  on_of : (p : Option ℕ) → IsGrounded g w.store w.tasks w.insts p → IsOn w.store w.store
  on_of p ground = record { extends = store_same w.store; typed = ground.store; bytes = ground.bytes }

  by_control : (c : Control) → w.control ≡ c → IsGrounded g w.store w.tasks w.insts (pending_of c) → Acts g c w.store w.tasks w.chain → Leaves (Grown w.store) (next_by g script Free_w c)
  by_control Free is ground acts = free_grows g w.store script Free_w (on_of None ground)
  by_control (Chosen k) is ground acts = chosen_grows g w.store script k Free_w (on_of None ground)
  by_control (Instantiates n) is ground acts = absurd (starts n is)
  by_control Runs is ground acts = running_grows g w.store script Free_w acts (on_of None ground)
  by_control (Calls number words) is ground acts = calling_grows g w.store number words Free_w (record { on = on_of None ground; reps = ground.reps; copied = copied; inside = inside })
  by_control Arrives is ground acts = arriving_grows g w.store Free_w (on_of None ground)
  by_control (Lowers l plan) is ground acts = lowers_grows g w.store l plan acts.2.0 Free_w history ground.reps acts.2.2.1 (on_of (pending_of (Lowers l plan)) ground)
  by_control (Quiet n b) is ground acts = nested_grows g w.store script n b Free_w acts.0 acts.1 (on_of (pending_of (Quiet n b)) ground)
  by_control Back is ground acts = back_grows g w.store Free_w (on_of None ground)
  by_control GoesOn is ground acts = going_grows g w.store script Free_w (on_of None ground)
  by_control Resumes is ground acts =
      resuming_grows g w.store Free_w (λ a e. state_room g w.store a.1.state (ground.tasks_are a.0 a.1 (acting_is Free_w a e)).waits) (on_of None ground)
  by_control (Delivers set receiver pick) is ground acts = delivering_grows g w.store script set receiver pick Free_w (room_at g w.store receiver acts.2.0 acts.2.2) (on_of None ground)
  by_control LeavesNow is ground acts = leaving_grows g w.store Free_w (on_of None ground)
  by_control (Doomed t why) is ground acts = tt

pub typed_grows : (g : Graph) (script : Script) (w v : World) (labels : List Label) → HaveHistories w.insts → IsCopied w → CopiesStandInside g w → ((n : ℕ) → w.control ≡ Instantiates n → ⊥) → IsTypedWorld g w
    → next g script w ≡ Steps labels v → Grown w.store v
typed_grows g script w v labels history copied inside starts typed e =
    subst (Leaves (Grown w.store)) e (by_control g script w history copied inside starts w.control refl typed.ground typed.acts)

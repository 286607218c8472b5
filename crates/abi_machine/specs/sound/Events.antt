-- Events that come (Component Model, CanonicalABI.md, `canon waitable-set.wait`, `canon lift`, "Waitable Set State"; Concurrency.md,
-- "Cancellation"): a task that goes on from a wait on a set has a ready member there, or is told that its cancellation is asked; one that goes on from a
-- call has called a task that has resolved, and one that goes on from a copy has its end at its index; and where the event of a member comes to a task,
-- the member that was picked is there, and the task has a callback where this gets the event.
use Rattle.std.specs.Prelude.{◌≡◌, ℕ, true, false, List, Option, Some, IsSome, Result, Ok}
use Rattle.std.specs.List.{slice_get}
use Rattle.std.specs.Option.{unwrap_or}
use Rattle.entry_gate.specs.Callbacks.{callback_of}
use Rattle.entry_gate.specs.declared.callback.BadCode.{BadCode}
use Rattle.entry_gate.specs.declared.callback.Next.{Next}
use Rattle.entry_gate.specs.declared.callback.Next.TheVariants as next
use Rattle.tasks.specs.Tasks.{is_asked}
use Rattle.comp_graph.specs.Graph.{Graph, Lifted}
use Rattle.script_reader.specs.Script.{Script}
use Rattle.trace_labels.specs.declared.label.Label.{Label}
use Rattle.abi_machine.specs.Control.{Receiver, InWait, InCallback, Control, Free, Goes, Resumes, Delivers}
use Rattle.abi_machine.specs.World.{Wait, ForSet, ForCall, ForCopy, TaskState, InLoop, InBuiltin, Task, World, first_world}
use Rattle.abi_machine.specs.Edits.{with_control}
use Rattle.abi_machine.specs.Reading.{func_of}
use Rattle.abi_machine.specs.Counting.{ready}
use Rattle.abi_machine.specs.Scheduling.{is_some_ready, is_task_resolved}
use Rattle.abi_machine.specs.Finding.{found_end}
use Rattle.abi_machine.specs.Delivering.{is_to_be_told}
use Rattle.abi_machine.specs.Turn.{Steps}
use Rattle.abi_machine.specs.Next as machine
use Rattle.abi_machine.specs.sound.Changes.{IsFirst}
use Rattle.abi_machine.specs.sound.Initial.{RunsAlone}
use Rattle.abi_machine.specs.sound.Acting.{IsOrdered}
use Rattle.abi_machine.specs.sound.Guests.{WaitAs}
use Rattle.abi_machine.specs.sound.Owners.{IsApart, IsOwnWorld, IsControlOwn}

-- Why a task goes on: where it waits on a set, in a canonical function and in its loop; for a task that it called, which has resolved; and for a copy,
-- whose end stands at its index.
abbrev pub EndsWait : Graph → World → Lifted → Task → ℕ → Wait → Type 0
EndsWait g w f task number (ForSet index) = is_to_be_told g number (ForSet index) task w f.instance ≡ false → is_some_ready w f.instance index ≡ true
EndsWait g w f task number (ForCall callee) = is_task_resolved w callee ≡ true
EndsWait g w f task number (ForCopy index) = IsSome (found_end w f.instance index)
EndsWait g w f task number wait = Unit {0}

abbrev pub EndsLoop : World → Lifted → Task → Result Next BadCode → Type 0
EndsLoop w f task (Ok (next.Wait index)) = is_asked task.cancellation ≡ false → is_some_ready w f.instance index ≡ true
EndsLoop w f task word = Unit {0}

abbrev pub HasCause : Graph → World → Lifted → Task → TaskState → Type 0
HasCause g w f task (InLoop word) = EndsLoop w f task (callback_of word)
HasCause g w f task (InBuiltin number words wait) = EndsWait g w f task number wait
HasCause g w f task state = Unit {0}

-- A member that is ready is there, and what gets its event: where a callback does, the function has one.
abbrev pub HasReceiver : Receiver → Lifted → Type 0
HasReceiver (InWait number words) f = Unit {0}
HasReceiver InCallback f = IsSome f.options.callback

abbrev pub IsReadyAt : Option ℕ → List ℕ → Type 0
IsReadyAt pick members = IsSome (slice_get members (unwrap_or pick 0))

-- of the acting task and the function that it runs
abbrev pub OfActing : World → (Task → Lifted → Type 0) → Type 0
OfActing w P = (t : ℕ) (task : Task) (f : Lifted) → IsFirst t w.chain → slice_get w.tasks t ≡ Some task → func_of task.callee ≡ Some f → P task f

-- by what comes next
abbrev pub EventComes : Graph → Control → World → Type 0
EventComes g Goes w = OfActing w (λ task f. HasCause g w f task task.state)
EventComes g Resumes w = OfActing w (λ task f. HasCause g w f task task.state)
EventComes g (Delivers set receiver pick) w = OfActing w (λ task f. IsReadyAt pick (ready w f.instance set) × HasReceiver receiver f)
EventComes g control w = Unit {0}

abbrev pub HasEvents : Graph → World → Type 0
HasEvents g w = EventComes g w.control (with_control Free w)

-- So it is in the first world, and so it stays.
abbrev pub FirstHasEvents : Type 0
FirstHasEvents = (g : Graph) → HasEvents g (first_world g)

abbrev pub EventsStay : Type 0
EventsStay =
    (g : Graph) (s : Script) (w v : World) (labels : List Label) → IsApart g → RunsAlone w → IsOrdered w → IsOwnWorld g w → IsControlOwn g w.control w → WaitAs w.tasks → HasEvents g w
    → machine.next g s w ≡ Steps labels v → HasEvents g v

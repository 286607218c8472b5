-- Moves, events and the script's items keep well what is kept.
use Rattle.std.proofs.Common.{◌≡◌, ℕ, zero, suc, [], ◌∷◌, sym, ap, ◌∙◌, Some, None}
use Rattle.std.specs.List.{slice_get}
use Rattle.tasks.specs.Tasks.{is_asked}
use Rattle.task_table.specs.declared.caller.Called.{Called}
use Rattle.task_table.specs.declared.slot.TaskSlot.{TaskSlot}
use Rattle.task_table.specs.Callers.{called_of}
use Rattle.world_parts.specs.declared.parts.Flow.TheVariants as flow
use Rattle.world_parts.specs.declared.parts.Rest.TheVariants as rest
use Rattle.world_parts.specs.Held.{Gives, after}
use Rattle.world_parts.specs.Events.{delivers, polls, received_none, received_cancel}
use Rattle.world_parts.specs.Feed.{acting}
use Rattle.world_parts.specs.Slots.{instance_of}
use Rattle.world_parts.specs.Turning.{goes}
use Rattle.machine_runs.specs.Beginning.{first_slot}
use Rattle.replies.specs.Seen.{seen}
use Rattle.abi_machine.proofs.sound.Found.{some_same}
use Rattle.run_laws.specs.keeping.WellKept.{FirstIsWell, MovesKeepWell, EventsKeepWell, TasksKeepWell, ScriptKeepsWell, BackIsUnawaited}
use Rattle.run_laws.proofs.well.Behind.{well_same, well_after}
use Rattle.run_laws.proofs.well.Feed.{acting_well}
use Rattle.run_laws.proofs.well.Slots.{instance_of_well}
use Rattle.run_laws.proofs.well.Calls.{back_well}
use Rattle.run_laws.proofs.well.Events.{delivers_well, polls_well, received_none_well, received_cancel_well}
use Rattle.run_laws.proofs.well.Going.{arrives_well, enters_well, leaves_well, ending_well, loops_well, resumes_well}
use Rattle.run_laws.proofs.well.Calling.{calls_well}
use Rattle.run_laws.proofs.well.Plain.{returned_well}
use Rattle.run_laws.proofs.well.Script.{gone_well, goes_well, call_taken_well, call_cancelled_well}

pub moves_well : MovesKeepWell
moves_well g types (rest.Instantiates number) h apart = tt
moves_well g types rest.Free h apart = tt
moves_well g types rest.Arrives h apart = arrives_well h
moves_well g types rest.Goes h apart = well_after h (goes h) (λ done k. Gives flow.Rests k) (goes_well h) (λ done k. well_same k)
moves_well g types rest.Resumes h apart = resumes_well h
moves_well g types rest.Back h apart = back_well (seen g) h apart
moves_well g types rest.Runs h apart = tt
moves_well g types (rest.Calls number) h apart = calls_well g types number h
moves_well g types rest.Leaves h apart = leaves_well h

pub events_well : EventsKeepWell
events_well g (flow.Now words) h = well_same h
events_well g flow.Rests h = well_same h
events_well g (flow.Starts func words) h = well_same h
events_well g flow.Enters h = well_same h
events_well g flow.Returns h = well_same h
events_well g (flow.Copies copying) h = well_same h
events_well g (flow.Delivers r set) h =
    well_after h (acting h) (λ t k. after (instance_of t k) (λ at l. delivers g t at r set l)) (acting_well h)
    (λ t k. well_after k (instance_of t k) (λ at l. delivers g t at r set l) (instance_of_well t k) (λ at l. delivers_well g t at r set l))
events_well g (flow.Polls r set) h =
    well_after h (acting h) (λ t k. after (instance_of t k) (λ at l. polls g t at r set l)) (acting_well h)
    (λ t k. well_after k (instance_of t k) (λ at l. polls g t at r set l) (instance_of_well t k) (λ at l. polls_well g t at r set l))
events_well g (flow.HearsNone r) h = well_after h (acting h) (λ t k. received_none g t r k) (acting_well h) (λ t k. received_none_well g t r k)
events_well g (flow.HearsCancel r) h = well_after h (acting h) (λ t k. received_cancel g t r k) (acting_well h) (λ t k. received_cancel_well g t r k)

pub tasks_well : TasksKeepWell
tasks_well t word value h = (enters_well t h, returned_well t value h, ending_well t h, loops_well t word h)

pub script_well : ScriptKeepsWell
script_well t export instance call kind name args h = (gone_well t h, call_taken_well export instance kind name args h, call_cancelled_well call h)

-- One task is there, which nobody called, and which has not resolved.
one_there : (t : ℕ) (slot : TaskSlot) → slice_get (first_slot ∷ []) t ≡ Some slot → slot ≡ first_slot
one_there zero slot found = sym (some_same found)
one_there (suc t) slot found = absurd (cc)

no_call : (slot : TaskSlot) (called : Called) → slot ≡ first_slot → called_of slot.caller ≡ Some called → ⊥
no_call slot called same by = (let none : None ≡ Some called = ap (λ (s : TaskSlot). called_of s.caller) (sym same) ∙ by in cc)

pub first_well : FirstIsWell
first_well g s = record {
  gave = λ t slot called found by told. absurd (no_call slot called (one_there t slot found) by);
  over = λ t slot called found by told. absurd (no_call slot called (one_there t slot found) by);
  asked = λ t slot found resolved. ap (λ (x : TaskSlot). is_asked x.task.cancellation) (one_there t slot found);
  unawaited = λ t callee canon slot x called found at there by. absurd (no_call x called (one_there callee x there) by);
}

pub back_unawaited : BackIsUnawaited
back_unawaited h t callee canon slot well found at x called there guest = well.unawaited t callee canon slot x called found at there (ap called_of guest)

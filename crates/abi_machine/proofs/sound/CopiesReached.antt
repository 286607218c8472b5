-- In worlds that a run reaches the end is there for whose copy a task waits.
use Rattle.std.proofs.Common.{◌≡◌, ℕ, List, [], ◌∷◌, refl, sym, subst, Option}
use Rattle.std.specs.Prelude.{IsSome}
use Rattle.comp_graph.specs.Graph.{Graph}
use Rattle.script_reader.specs.Script.{Script}
use Rattle.trace_labels.specs.declared.label.Label.{Label}
use Rattle.abi_machine.specs.Control.{EndRef}
use Rattle.abi_machine.specs.World.{Entry, Wait, ForYield, ForSet, ForCall, ForCopy, ForCancel, TaskState, New, Acting, AfterCall, AfterCancel, Begins, WaitsToEnter, InLoop, InBuiltin, Exited, World, first_world}
use Rattle.abi_machine.specs.Finding.{any_end_in, found_end}
use Rattle.abi_machine.specs.Run.{Reaches}
use Rattle.abi_machine.specs.sound.Owners.{IsApart}
use Rattle.abi_machine.specs.sound.EndPlaces.{EndStandsAt}
use Rattle.abi_machine.specs.sound.EndsPassed.{ScriptPassesNoEnd}
use Rattle.abi_machine.specs.sound.Readers.{ReadersStandOnce}
use Rattle.abi_machine.specs.sound.CopyWaits.{AwaitsCopy, AwaitCopies}
use Rattle.abi_machine.specs.sound.GoingOn.{IsStanding}
use Rattle.abi_machine.specs.sound.CopiesReached.{WaitsThere, ResumesAt, ResumesThere, ReachedAwait}
use Rattle.abi_machine.proofs.sound.ends.Places.{first_has_readers, readers_stay}
use Rattle.abi_machine.proofs.sound.AwaitingCopies.{first_awaits_copies, copies_stay_awaited}
use Rattle.abi_machine.proofs.sound.Reached.{first_stands, standing_stays}

end_found : (w : World) (i index : ℕ) (e : EndRef) → EndStandsAt w.insts i index e → IsSome (found_end w i index)
end_found w i index e stands = subst (λ (o : Option Entry). IsSome (any_end_in o)) (sym stands) refl

resumes_there : (g : Graph) (w : World) → AwaitCopies g w → ResumesThere w
resumes_there g w h t task f first there runs = by task.state refl
  where
    waits : (number : ℕ) (words : List ℕ) (wait : Wait) → task.state ≡ InBuiltin number words wait → WaitsThere w f.instance wait
    waits number words ForYield is = tt
    waits number words (ForSet index) is = tt
    waits number words (ForCall callee) is = tt
    waits number words (ForCancel index) is = tt
    waits number words (ForCopy index) is =
        let a : AwaitsCopy g w.insts w.streams w.futures t number index f.instance = h t number index task f there runs (words, is) in end_found w f.instance index a.end a.stands

    by : (state : TaskState) → task.state ≡ state → ResumesAt w f state
    by (InBuiltin number words wait) is = waits number words wait is
    by New is = tt
    by Acting is = tt
    by (AfterCall callee number words) is = tt
    by (AfterCancel callee number words) is = tt
    by (Begins n) is = tt
    by WaitsToEnter is = tt
    by (InLoop word) is = tt
    by Exited is = tt

reached_from : (g : Graph) (s : Script) (steps : List (List Label)) (w v : World) → IsApart g → ScriptPassesNoEnd s → IsStanding g s w → ReadersStandOnce w → AwaitCopies g w → Reaches g s w steps v → AwaitCopies g v
reached_from g s [] w v apart clean h readers copies r = subst (AwaitCopies g) (sym r) copies
reached_from g s (labels ∷ steps) w v apart clean h readers copies r =
    reached_from g s steps r.0 v apart clean (standing_stays g s w r.0 labels apart h r.1) (readers_stay g s w r.0 labels clean h.alone readers r.1)
    (copies_stay_awaited g s w r.0 labels apart h.alone h.ordered h.histories h.own h.control_own readers.0 copies r.1) r.2

pub reached_await : ReachedAwait
reached_await g s steps w apart clean r =
    let copies : AwaitCopies g w = reached_from g s steps (first_world g) w apart clean (first_stands g s apart) (first_has_readers g) (first_awaits_copies g) r in (copies, resumes_there g w copies)

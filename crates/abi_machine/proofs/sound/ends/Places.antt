-- Readable ends stay in one place, in every step, where the script passes none.
use Rattle.abi_machine.specs.Control.{Control, Free, Chosen, Instantiates, Runs, Calls, Arrives, Lowers, Quiet, Back, Goes, Resumes, Delivers, Leaves, Doomed}
use Rattle.abi_machine.specs.World.{World}
use Rattle.abi_machine.specs.sound.Agreeing.{Agrees}
use Rattle.abi_machine.specs.sound.Initial.{RunsAlone}
use Rattle.abi_machine.specs.sound.EndsPassed.{PassesOnce, HostPassesNoEnd}
use Rattle.abi_machine.specs.sound.Readers.{FirstHasReaders, ReadersStayInOnePlace}
use Rattle.abi_machine.proofs.sound.Alone.{first_readers, kept_so, stays_alone}
use Rattle.abi_machine.proofs.sound.ends.Readers.{hosts_kept}

passes : (c : Control) (w : World) → Agrees c w → HostPassesNoEnd w.tasks → PassesOnce c w.insts w.streams w.futures
passes (Lowers l plan) w says none = says.4 none
passes (Quiet n b) w says none = says.4 none
passes Free w says none = tt
passes (Chosen k) w says none = tt
passes (Instantiates n) w says none = tt
passes Runs w says none = tt
passes (Calls number words) w says none = tt
passes Arrives w says none = tt
passes Back w says none = tt
passes Goes w says none = tt
passes Resumes w says none = tt
passes (Delivers set receiver pick) w says none = tt
passes Leaves w says none = tt
passes (Doomed t why) w says none = tt

pub first_has_readers : FirstHasReaders
first_has_readers g = ((tt, tt), first_readers, tt)

pub readers_stay : ReadersStayInOnePlace
readers_stay g s w v labels clean alone h e =
    let later : RunsAlone v = stays_alone g s w v labels alone e in
    let none : HostPassesNoEnd v.tasks = kept_so g s (λ u. HostPassesNoEnd u.tasks) (hosts_kept g s clean) w v labels alone h.0 e in
    (none, later.6 none, passes v.control v later.2 none)

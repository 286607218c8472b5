-- A task that waits on a set in a built-in has kept the place of the call, of what stands for a world.
use Rattle.std.proofs.Common.{◌≡◌, ◌∙◌, sym, ap, subst}
use Rattle.abi_machine.specs.World.{Task, TaskState, ForSet, InBuiltin}
use Rattle.abi_machine.proofs.sound.Found.{some_same}
use Rattle.standing.specs.Tasks.{IsPlaced}
use Rattle.run_laws.specs.keeping.Still.{PlacesStandKept}
use Rattle.run_laws.proofs.supplied.Found.{task_of}

pub places_stand_kept : PlacesStandKept
places_stand_kept g values s h stacks w st t number index words task there is slot found =
    let a = task_of g values s h stacks w st t slot found in
    let same : a.0.state ≡ InBuiltin number words (ForSet index) = ap (λ (x : Task). x.state) (some_same (sym a.1 ∙ there)) ∙ is in
    subst (λ (x : TaskState). IsPlaced slot.at_words x) same a.2.placed

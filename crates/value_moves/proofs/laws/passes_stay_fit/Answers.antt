-- Whatever is passed keeps the store typed, and lends a handle at most as often more as lifting may count.
use Rattle.world_parts.specs.Held.{Gives}
use Rattle.value_moves.proofs.fit.Passed.{passes_raise}
use Rattle.value_moves.proofs.laws.passes_stay_fit.Goals as goal

pub returns : goal.returns
returns c = λ x h k f typed may.
    let p = passes_raise c.args.program.now x h (Gives f k) may in
    let now = p.store typed in
    record { grows = now.0; typed = now.1; lends = p.lends }

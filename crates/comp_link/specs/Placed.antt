-- What items of a component come to as they are gone through: a reason at the place of its item, or what comes next.
use Rattle.std.specs.Prelude.{ℕ, Result, Ok, Err}
use Rattle.faults.specs.declared.memory.MemoryOr.{MemoryOr}
use Rattle.faults.specs.declared.memory.MemoryOr.TheVariants.{Memory, Fault}
use Rattle.link_spec.specs.declared.fault.LinkWhy.{LinkWhy}
use Rattle.link_spec.specs.declared.fault.LinkFault.{LinkFault}
use Rattle.link_state.specs.declared.instances.Next.{Next}
use Rattle.link_state.specs.declared.instances.Next.TheVariants as next

-- a reason, at the place of its item
abbrev pub placed_error : ℕ → MemoryOr LinkWhy → MemoryOr LinkFault
placed_error place Memory = Memory
placed_error place (Fault w) = Fault (record { place = place; why = w })

-- what comes next where an item made what it makes
abbrev pub next_of : Result (Unit {0}) (MemoryOr LinkWhy) → Result Next (MemoryOr LinkWhy)
next_of (Ok made) = Ok next.Made
next_of (Err e) = Err e

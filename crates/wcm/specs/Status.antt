-- The statuses of the program: which number each has, and which one a run's end has.
use Rattle.std.specs.Prelude.{ℕ}
use Rattle.abi_machine.specs.declared.run_end.RunEnd.{RunEnd}
use Rattle.abi_machine.specs.declared.run_end.RunEnd.TheVariants as ends
use Rattle.machine_runs.specs.declared.ending.RunEnd as runs
use Rattle.machine_runs.specs.declared.ending.RunEnd.TheVariants as run
use Rattle.wcm.specs.declared.status.Status.{Status}
use Rattle.wcm.specs.declared.status.Status.TheVariants.{Done, Trap, Usage, Refused, ScriptRefused, Deadlock, Fuel, ReadFault, WriteFault, Memory, LinkRefused}

abbrev pub status_code : Status → ℕ
status_code Done = 0
status_code Trap = 1
status_code Usage = 2
status_code Refused = 3
status_code ScriptRefused = 4
status_code Deadlock = 5
status_code Fuel = 6
status_code ReadFault = 7
status_code WriteFault = 8
status_code Memory = 9
status_code LinkRefused = 10

abbrev pub status_of : RunEnd → Status
status_of ends.Done = Done
status_of (ends.Trapped task why) = Trap
status_of (ends.Deadlock tasks) = Deadlock
status_of ends.Fuel = Fuel

-- the same of a run of the program's own steps
abbrev pub status_of_run : runs.RunEnd → Status
status_of_run run.Done = Done
status_of_run run.Trap = Trap
status_of_run run.Deadlock = Deadlock
status_of_run run.Fuel = Fuel

-- the call went its way: no fault and no want of memory ended it
abbrev pub IsFinal : Status → Type 0
IsFinal Done = Unit {0}
IsFinal Trap = Unit {0}
IsFinal Usage = Unit {0}
IsFinal Refused = Unit {0}
IsFinal ScriptRefused = Unit {0}
IsFinal Deadlock = Unit {0}
IsFinal Fuel = Unit {0}
IsFinal ReadFault = ⊥
IsFinal WriteFault = ⊥
IsFinal Memory = ⊥
IsFinal LinkRefused = Unit {0}

-- a status that the files decide
abbrev pub IsAnswered : Status → Type 0
IsAnswered Done = Unit {0}
IsAnswered Trap = Unit {0}
IsAnswered Usage = ⊥
IsAnswered Refused = Unit {0}
IsAnswered ScriptRefused = Unit {0}
IsAnswered Deadlock = Unit {0}
IsAnswered Fuel = Unit {0}
IsAnswered ReadFault = ⊥
IsAnswered WriteFault = ⊥
IsAnswered Memory = ⊥
IsAnswered LinkRefused = Unit {0}

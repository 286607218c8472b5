-- The names of traps of lifting (Component Model, CanonicalABI.md, "Loading").
use Rattle.value_lift.specs.declared.trap.LiftWhy.{LiftWhy}
use Rattle.value_lift.specs.declared.trap.LiftWhy.TheVariants as lift_why
use Rattle.trace_labels.specs.declared.trap.TrapName.{TrapName}
use Rattle.trace_labels.specs.declared.trap.TrapName.TheVariants as trap
use Rattle.world_parts.specs.Names.{refusal_name}

abbrev pub lift_name : LiftWhy → TrapName
lift_name lift_why.Misaligned = trap.Misaligned
lift_name lift_why.Bounds = trap.Bounds
lift_name lift_why.BadChar = trap.BadChar
lift_name lift_why.BadUtf8 = trap.BadUtf8
lift_name lift_why.BadCase = trap.BadCase
lift_name lift_why.TooLarge = trap.TooLarge
lift_name (lift_why.Refused why) = refusal_name why

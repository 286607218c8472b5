-- What a run looks up of a graph and a script (Component Model, CanonicalABI.md, "Lifting and Lowering Values"): the types of what tasks and
-- built-ins pass, by their numbers among types; the arguments of the script's calls; and the resources that an instance defines.
use Rattle.std.specs.Prelude.{ℕ, ◌-◌, nat_eq, if◌then◌else◌, List, Option, Some, None}
use Rattle.std.specs.List.{slice_get}
use Rattle.std.specs.Option.{option_and_then, option_map}
use Rattle.syntax_trees.specs.declared.value.Value.{Value}
use Rattle.laid_types.specs.Known.{Numbered, numbered_at}
use Rattle.script_reader.specs.declared.script.Item.{Item}
use Rattle.script_reader.specs.declared.script.Item.TheVariants as item
use Rattle.task_table.specs.declared.errand.Callee.{Callee}
use Rattle.task_table.specs.declared.errand.Callee.TheVariants as callee
use Rattle.programs.specs.declared.program.FuncNumbers.{FuncNumbers}
use Rattle.programs.specs.declared.program.CallNumbers.{CallNumbers}
use Rattle.programs.specs.declared.program.Program.{Program}

abbrev pub held_in : {A : Type 0} → Option (Option A) → Option A
held_in None = None
held_in (Some x) = x

-- of what a task runs
abbrev pub numbers_of : Program → Callee → Option FuncNumbers
numbers_of p callee.Init = None
numbers_of p (callee.Export number) = slice_get p.exports.items number
numbers_of p (callee.Lowered canon) = held_in (slice_get p.canons.items canon)
numbers_of p (callee.Destroys resource) = None

abbrev pub params_in : Program → Option FuncNumbers → Option Numbered
params_in p None = None
params_in p (Some numbers) = numbered_at p.types.now numbers.params

abbrev pub params_of : Program → Callee → Option Numbered
params_of p callee = params_in p (numbers_of p callee)

abbrev pub returned_in : Option FuncNumbers → Option ℕ
returned_in None = None
returned_in (Some numbers) = numbers.returned

abbrev pub returned_of : Program → Callee → Option ℕ
returned_of p callee = returned_in (numbers_of p callee)

-- of a built-in
abbrev pub value_of : Program → ℕ → Option ℕ
value_of p canon = held_in (slice_get p.values.items canon)

-- the script's calls are counted from 1
abbrev pub values_in : Option Item → Option (List Value)
values_in None = None
values_in (Some (item.Call call)) = Some call.values
values_in (Some (item.Cancel call)) = None

abbrev pub values_at : Program → Option CallNumbers → Option (List Value)
values_at p None = None
values_at p (Some numbers) = values_in (slice_get p.script.now.items numbers.item)

abbrev pub host_values : Program → ℕ → Option (List Value)
host_values p call = if nat_eq call 0 then None else values_at p (slice_get p.calls.items (call - 1))

abbrev pub resources_of : Program → ℕ → Option (List ℕ)
resources_of p instance = slice_get p.resources.items instance

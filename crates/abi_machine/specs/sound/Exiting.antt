-- Tasks that have exited (Component Model, CanonicalABI.md, "Task State": `Task.return_`, `Task.cancel`; Concurrency.md, "Returning"): each that runs a function
-- has resolved before, so it is in the first world, and so it stays. Task 0, which instantiates, runs none.
use Rattle.std.specs.Prelude.{◌≡◌, List}
use Rattle.std.specs.List.{AllByRecursion}
use Rattle.comp_graph.specs.Graph.{Graph}
use Rattle.script_reader.specs.Script.{Script}
use Rattle.trace_labels.specs.declared.label.Label.{Label}
use Rattle.abi_machine.specs.World.{TaskState, Exited, Task, World, first_world}
use Rattle.abi_machine.specs.Turn.{Steps}
use Rattle.abi_machine.specs.Next.{next}
use Rattle.abi_machine.specs.sound.Premises.{ExitsResolved}
use Rattle.abi_machine.specs.sound.Initial.{RunsAlone}

abbrev pub HasExited : TaskState → Type 0
HasExited Exited = Unit {0}
HasExited state = ⊥

abbrev pub ResolvesFirst : Task → Type 0
ResolvesFirst task = HasExited task.state → ExitsResolved task

abbrev pub ResolveFirst : List Task → Type 0
ResolveFirst tasks = AllByRecursion ResolvesFirst tasks

abbrev pub FirstResolvesFirst : Type 0
FirstResolvesFirst = (g : Graph) → ResolveFirst (first_world g).tasks

abbrev pub ResolveFirstStays : Type 0
ResolveFirstStays = (g : Graph) (s : Script) (w v : World) (labels : List Label) → RunsAlone w → ResolveFirst w.tasks → next g s w ≡ Steps labels v → ResolveFirst v.tasks

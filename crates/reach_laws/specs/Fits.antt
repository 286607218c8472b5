-- A graph and a script that fit (Component Model, Explainer.md, "Instance Definitions"; Concurrency.md, "Summary"): they are what the laws of
-- reached worlds ask for, the plan of the graph begins the instances that are named, each before its core instances are made, its results and
-- elements hold no borrow, and the script passes no end. This is all that laws of runs of the code ask of them, and it names no program.
use Rattle.comp_graph.specs.Graph.{Graph}
use Rattle.script_reader.specs.Script.{Script}
use Rattle.abi_machine.specs.sound.EndsPassed.{ScriptPassesNoEnd}
use Rattle.abi_machine.specs.sound.PassedTypes.{PassesNoBorrow}
use Rattle.reach_laws.specs.KnownPlans.{InstancesBegin, MakesFollow}
use Rattle.reach_laws.specs.Runnable.{IsRunnable}

pub record Fits (g : Graph) (s : Script) : Type 0 where
  pub runs : IsRunnable g s
  pub begin : InstancesBegin g
  pub follow : MakesFollow g
  pub no_borrow : PassesNoBorrow g
  pub no_end : ScriptPassesNoEnd s

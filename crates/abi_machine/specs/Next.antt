-- The machine (Component Model, CanonicalABI.md, `canon lift`, `canon lower` and the built-ins; Concurrency.md, "Summary"): what comes next in a
-- world, by its control. No case reads the world's control.
use Rattle.comp_graph.specs.Graph.{Graph}
use Rattle.abi_machine.specs.declared.run_end.RunEnd.TheVariants.{Trapped}
use Rattle.script_reader.specs.Script.{Script}
use Rattle.abi_machine.specs.Control.{Control, Free, Chosen, Instantiates, Runs, Calls, Arrives, Lowers, Quiet, Back, Goes, Resumes, Delivers, Leaves, Doomed}
use Rattle.abi_machine.specs.World.{World}
use Rattle.abi_machine.specs.Edits.{with_control}
use Rattle.abi_machine.specs.Turn.{Turn, Ends}
use Rattle.abi_machine.specs.Instantiating.{instantiating_turn}
use Rattle.abi_machine.specs.CoreSteps.{running_turn}
use Rattle.abi_machine.specs.Entering.{arriving_turn}
use Rattle.abi_machine.specs.Scheduling.{free_turn, chosen_turn, going_turn}
use Rattle.abi_machine.specs.Delivering.{resuming_turn, delivering_turn}
use Rattle.abi_machine.specs.Cancelling.{back_turn}
use Rattle.abi_machine.specs.Returning.{leaving_turn}
use Rattle.abi_machine.specs.Lowering.{lowers_turn}
use Rattle.abi_machine.specs.Nested.{nested_turn}
use Rattle.abi_machine.specs.Reply.{calling_turn}

abbrev pub next_by : Graph → Script → World → Control → Turn
next_by g s w Free = free_turn g s w
next_by g s w (Chosen k) = chosen_turn g s k w
next_by g s w (Instantiates n) = instantiating_turn g n w
next_by g s w Runs = running_turn g s w
next_by g s w (Calls number words) = calling_turn g number words w
next_by g s w Arrives = arriving_turn g w
next_by g s w (Lowers l plan) = lowers_turn l plan w
next_by g s w (Quiet n b) = nested_turn g s n b w
next_by g s w Back = back_turn g w
next_by g s w Goes = going_turn s w
next_by g s w Resumes = resuming_turn g w
next_by g s w (Delivers set receiver pick) = delivering_turn g s set receiver pick w
next_by g s w Leaves = leaving_turn w
next_by g s w (Doomed t why) = Ends (Trapped t why)

abbrev pub next : Graph → Script → World → Turn
next g s w = next_by g s (with_control Free w) w.control

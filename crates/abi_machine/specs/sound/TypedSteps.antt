-- Typed worlds stay typed: once all is instantiated, a step of a typed world leaves a typed world, or a run that is to end in a trap, where the answers are
-- words, as `answers_are_words` has it, and what is left of a lowering of copied elements puts them inside the memory.
use Rattle.std.specs.Prelude.{◌≡◌, ◌⊎◌, ℕ, true, List, Some}
use Rattle.std.specs.List.{slice_get}
use Rattle.comp_graph.specs.Graph.{Graph, Lifted, func_named}
use Rattle.script_reader.specs.Script.{Script}
use Rattle.script_reader.specs.declared.script.Item.{Item}
use Rattle.script_reader.specs.declared.script.Item.TheVariants as item
use Rattle.trace_labels.specs.declared.label.Label.{Label}
use Rattle.abi_machine.specs.Control.{Free}
use Rattle.abi_machine.specs.World.{World}
use Rattle.abi_machine.specs.Edits.{with_control}
use Rattle.abi_machine.specs.Reading.{acting, is_instantiated}
use Rattle.abi_machine.specs.Turn.{Steps}
use Rattle.abi_machine.specs.Next.{next}
use Rattle.abi_machine.specs.sound.Initial.{RunsAlone}
use Rattle.abi_machine.specs.sound.Acting.{IsOrdered}
use Rattle.abi_machine.specs.sound.Answers.{AreAnswers, IsAnswered}
use Rattle.abi_machine.specs.sound.Callees.{IsUsedGraph}
use Rattle.abi_machine.specs.sound.Copies.{IsCopied}
use Rattle.abi_machine.specs.sound.Fitting.{CallsFit, CopiesFit}
use Rattle.abi_machine.specs.sound.GraphFuncs.{HaveCallees}
use Rattle.abi_machine.specs.sound.Guests.{WaitAs}
use Rattle.abi_machine.specs.sound.Places.{IsCoreFed}
use Rattle.abi_machine.specs.sound.Starting.{IsDoomed}
use Rattle.abi_machine.specs.sound.Subtasks.{HasSubtasks}
use Rattle.abi_machine.specs.sound.Tables.{HaveHistories}
use Rattle.abi_machine.specs.sound.TypedWorlds.{types_of, IsTypedWorld, PutsInside}
use Rattle.abi_machine.specs.sound.Values.{EachIs}

-- Each call of the script passes values of the types of the parameters of what it names.
abbrev pub PassesFit : Graph → Item → Type 0
PassesFit g (item.Call call) = (f : Lifted) → func_named g call.name ≡ Some f → EachIs (types_of f) call.values
PassesFit g (item.Cancel call) = Unit {0}

abbrev pub PassesTyped : Graph → Script → Type 0
PassesTyped g s = (n : ℕ) (i : Item) → slice_get s.items n ≡ Some i → PassesFit g i

abbrev pub TypedWorldsStay : Type 0
TypedWorldsStay =
    (g : Graph) (s : Script) (w v : World) (labels : List Label) → IsUsedGraph g → PassesTyped g s → RunsAlone w → is_instantiated w.tasks ≡ true → IsOrdered w → HaveHistories w.insts → IsCopied w → HasSubtasks g w → HaveCallees g w.tasks
    → CallsFit g w.tasks → CopiesFit g w.streams w.futures → WaitAs w.tasks → IsTypedWorld g w → next g s w ≡ Steps labels v → AreAnswers (IsAnswered g w.control (acting w)) labels → PutsInside v
    → IsDoomed v.control ⊎ IsTypedWorld g v

-- In such a world there is a rule for core code, a callback gives its word, and a realloc that of a place.
abbrev pub TypedWorldsFeed : Type 0
TypedWorldsFeed = (g : Graph) (w : World) → IsTypedWorld g w → IsCoreFed w.control (with_control Free w)

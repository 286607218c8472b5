-- The graph of a component with a component inside has what is asked of one.
use Rattle.graph_laws.specs.Examples.{both}
use Rattle.abi_machine.specs.sound.Owners.{IsApart}
use Rattle.abi_machine.specs.sound.MadeInstances.{IsTypedGraph}
use Rattle.abi_machine.specs.sound.Callees.{IsUsedGraph}

abbrev pub BothIsApart : Type 0
BothIsApart = IsApart both

abbrev pub BothIsTyped : Type 0
BothIsTyped = IsTypedGraph both

abbrev pub BothIsUsed : Type 0
BothIsUsed = IsUsedGraph both

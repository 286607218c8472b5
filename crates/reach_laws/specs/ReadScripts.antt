-- Scripts as they are read: the arguments of calls hold no handle, whose representation could be too large, and no end of a stream or a future, since
-- neither has a text.
use Rattle.std.specs.Prelude.{ℕ, List}
use Rattle.syntax_trees.specs.declared.exports.Export.{Export}
use Rattle.script_reader.specs.Script.{Script, IsScript}
use Rattle.abi_machine.specs.sound.EndsPassed.{ScriptPassesNoEnd}
use Rattle.abi_machine.specs.sound.Words.{ScriptPassesSmall}

abbrev pub ReadScriptsPassSmall : Type 0
ReadScriptsPassSmall = (exports : List Export) (bytes : List ℕ) (s : Script) → IsScript exports bytes s → ScriptPassesSmall s

abbrev pub ReadScriptsPassNoEnd : Type 0
ReadScriptsPassNoEnd = (exports : List Export) (bytes : List ℕ) (s : Script) → IsScript exports bytes s → ScriptPassesNoEnd s

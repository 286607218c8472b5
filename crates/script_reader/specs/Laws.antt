-- What holds of the format alone.
use Rattle.std.specs.Prelude.{◌≡◌, ◌⊎◌, ◌↔◌, IsTrue, ℕ, List, Some, Ok, Err}
use Rattle.syntax_trees.specs.declared.types.ValType.{ValType}
use Rattle.syntax_trees.specs.declared.value.Value.{Value}
use Rattle.syntax_trees.specs.declared.exports.Export.{Export}
use Rattle.script_reader.specs.declared.script.Call.{Call}
use Rattle.script_reader.specs.declared.fault.ScriptFault.{ScriptFault}
use Rattle.script_reader.specs.declared.fault.ScriptWhy.{ScriptWhy}
use Rattle.script_reader.specs.declared.fault.ScriptWhy.TheVariants.{Form}
use Rattle.value_reader.specs.Values.{arguments}
use Rattle.script_reader.specs.Script.{Script, Draft, call_of, cancel_of, fuel_of, picks_of, calls_in, add_line, is_begun, IsScript, IsScriptRefused, AreItems, ArePicks}
use Rattle.script_reader.specs.Syntax.{AreArguments, IsCallOf, IsNoCallOf, IsCancelOf, IsNoCancelOf, IsFuelOf, IsNoFuelOf, ArePicksOf, IsNoLine, IsScriptText, IsNoScriptText}

-- A text is exactly one script, or is refused at exactly one line for exactly one reason.
abbrev pub OneScript : Type 0
OneScript =
    (exports : List Export) (bytes : List ℕ)
    → ((s : Script) × IsScript exports bytes s × ((other : Script) → IsScript exports bytes other → other ≡ s) × ((fault : ScriptFault) → IsScriptRefused exports bytes fault → ⊥))
    ⊎ ((fault : ScriptFault) × IsScriptRefused exports bytes fault × ((other : ScriptFault) → IsScriptRefused exports bytes other → other ≡ fault) × ((s : Script) → IsScript exports bytes s → ⊥))

-- A text is a script exactly where it is written as one.
abbrev pub ScriptsAreTexts : Type 0
ScriptsAreTexts = (exports : List Export) (bytes : List ℕ) (s : Script) → IsScript exports bytes s ↔ IsScriptText exports bytes s

-- A text is refused exactly at the first line that is not well said, and for the reason that this line has; but a text that
-- is too long, and one that is not UTF-8, is refused for that.
abbrev pub FirstFaultIsTold : Type 0
FirstFaultIsTold = (exports : List Export) (bytes : List ℕ) (fault : ScriptFault) → IsScriptRefused exports bytes fault ↔ IsNoScriptText exports bytes fault

-- A line is refused behind others exactly for the reason that its text has.
abbrev pub OtherLinesAreRefused : Type 0
OtherLinesAreRefused =
    (exports : List Export) (s : Draft) (text : List ℕ) (why : ScriptWhy)
    → (add_line exports s text ≡ Err why) ↔ IsNoLine exports (IsTrue (is_begun s)) (calls_in s.items) text why

-- Arguments are read exactly where the text is one of theirs: values of their types in parentheses, with commas and blanks
-- between them, and nothing behind them.
abbrev pub ArgumentsAreTexts : Type 0
ArgumentsAreTexts = (types : List ValType) (values : List Value) (text : List ℕ) → (arguments types text ≡ Some values) ↔ AreArguments types values text

-- A call is read exactly where the text behind the word is `NAME (v, ..)`, NAME being an export's; and it is refused for
-- the first reason that it has.
abbrev pub CallsAreLines : Type 0
CallsAreLines = (exports : List Export) (text : List ℕ) (call : Call) → (call_of exports text ≡ Ok call) ↔ IsCallOf exports text call

abbrev pub OtherCallsAreRefused : Type 0
OtherCallsAreRefused = (exports : List Export) (text : List ℕ) (why : ScriptWhy) → (call_of exports text ≡ Err why) ↔ IsNoCallOf exports text why

-- An amount of fuel is read exactly where the text behind the word is a number in the range.
abbrev pub FuelIsALine : Type 0
FuelIsALine = (text : List ℕ) (n : ℕ) → (fuel_of text ≡ Ok n) ↔ IsFuelOf text n

abbrev pub OtherFuelIsRefused : Type 0
OtherFuelIsRefused = (text : List ℕ) (why : ScriptWhy) → (fuel_of text ≡ Err why) ↔ IsNoFuelOf text why

-- The number of a call is read exactly where the text behind the word is that of a call before it.
abbrev pub CancelIsALine : Type 0
CancelIsALine = (calls : ℕ) (text : List ℕ) (n : ℕ) → (cancel_of calls text ≡ Ok n) ↔ IsCancelOf calls text n

abbrev pub OtherCancelsAreRefused : Type 0
OtherCancelsAreRefused = (calls : ℕ) (text : List ℕ) (why : ScriptWhy) → (cancel_of calls text ≡ Err why) ↔ IsNoCancelOf calls text why

-- Picks are read exactly where the text behind the word is numbers below 2^32 with one space between two; else it is `Form`.
abbrev pub PicksAreALine : Type 0
PicksAreALine = (text picks : List ℕ) → (picks_of text ≡ Ok picks) ↔ ArePicksOf text picks

abbrev pub OtherPicksAreRefused : Type 0
OtherPicksAreRefused = (text : List ℕ) (why : ScriptWhy) → (picks_of text ≡ Err why) ↔ ((why ≡ Form) × ((picks : List ℕ) → ArePicksOf text picks → ⊥))

-- Each item of a script calls an exported function, with one value for each of its parameters, of its type and in range; or it
-- cancels a call before it. Its picks are below 2^32.
abbrev pub ScriptsCallExports : Type 0
ScriptsCallExports = (exports : List Export) (bytes : List ℕ) (s : Script) → IsScript exports bytes s → AreItems exports 0 s.items × ArePicks s.picks

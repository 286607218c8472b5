-- How a script is written: which texts stand for a number, for a call, for its cancellation, for an amount of fuel, for
-- picks, and for a whole script; and at which line and for which reason other texts are refused. How arguments are
-- written is said by `value_reader` (`specs/Written`). The format is the program's own. `specs/Script` computes what these
-- say; the laws in `specs/Laws` say that both are the same.
use Rattle.std.specs.Prelude.{◌≡◌, ◌≢◌, ◌+◌, ◌≤◌, ◌<◌, ◌⊎◌, IsTrue, ℕ, true, false, List, [], ◌∷◌, ◌++◌, length, codes, Some, None, is_some}
use Rattle.std.specs.List.{join_with_byte, count_by, AllByRecursion}
use Rattle.std.specs.Str.{IsUtf8, IsValidUpTo}
use Rattle.syntax_trees.specs.declared.value.Value.{Value}
use Rattle.syntax_trees.specs.declared.exports.Export.{Export}
pub use Rattle.value_reader.specs.Written.{AreBlanks, AreArguments}
use Rattle.value_reader.specs.Host.{func_has_host_type}
use Rattle.script_reader.specs.declared.script.Call.{Call}
use Rattle.script_reader.specs.declared.script.Item.{Item}
use Rattle.script_reader.specs.declared.script.Item.TheVariants as item
use Rattle.script_reader.specs.declared.fault.ScriptWhy.{ScriptWhy}
use Rattle.script_reader.specs.declared.fault.ScriptWhy.TheVariants as why
use Rattle.script_reader.specs.declared.fault.ScriptFault.{ScriptFault}
use Rattle.script_reader.specs.Script.{is_blank, after, is_digit, ends_name, number, export_named, param_types, size_limit, fuel_limit, pick_limit, default_fuel, line_at, Script}

-- one digit or more, of this number
abbrev pub IsNumber : List ℕ → ℕ → Type 0
IsNumber text n = (1 ≤ length text) × AllByRecursion (λ b. IsTrue (is_digit b)) text × (n ≡ number text)

-- a name without blanks and opening parentheses, and behind it blanks and an opening parenthesis
abbrev pub HasName : List ℕ → List ℕ → List ℕ → Type 0
HasName text name behind =
    (blanks : List ℕ) × (written : List ℕ) × (text ≡ name ++ behind) × (behind ≡ blanks ++ 40 ∷ written)
    × AllByRecursion (λ b. ends_name b ≡ false) name × AreBlanks blanks

-- `NAME (v, ..)`: the name of an export whose type holds no handle and no end of a stream or a future, and its arguments
abbrev pub IsCallOf : List Export → List ℕ → Call → Type 0
IsCallOf exports text call =
    (behind : List ℕ) × (e : Export) × HasName text call.name behind
    × (export_named exports call.name ≡ Some e) × (func_has_host_type e.func_type ≡ false) × AreArguments (param_types e) call.values behind

-- `N`: a number from 1 to the limit
abbrev pub IsFuelOf : List ℕ → ℕ → Type 0
IsFuelOf text n = IsNumber text n × (1 ≤ n) × (n ≤ fuel_limit)

-- `K`: the number of one of so many calls, counted from 1
abbrev pub IsCancelOf : ℕ → List ℕ → ℕ → Type 0
IsCancelOf calls text n = IsNumber text n × (1 ≤ n) × (n ≤ calls)

-- each text is that of what stands at its place in the other list
abbrev pub ArePaired : {A : Type 0} → (List ℕ → A → Type 0) → List (List ℕ) → List A → Type 0
ArePaired R [] [] = Unit {0}
ArePaired R [] (x ∷ xs) = ⊥
ArePaired R (text ∷ texts) [] = ⊥
ArePaired R (text ∷ texts) (x ∷ xs) = R text x × ArePaired R texts xs

-- a number below 2^32
abbrev pub IsPick : List ℕ → ℕ → Type 0
IsPick text n = IsNumber text n × (n ≤ pick_limit)

-- `n n ..`: one number below 2^32 or more, with one space between two
abbrev pub ArePicksOf : List ℕ → List ℕ → Type 0
ArePicksOf text picks = (texts : List (List ℕ)) × (text ≡ join_with_byte 32 texts) × (1 ≤ length texts) × ArePaired IsPick texts picks

-- a text without blanks at its ends
abbrev pub IsTrimmed : List ℕ → Type 0
IsTrimmed text =
    ((b : ℕ) (more : List ℕ) → text ≡ b ∷ more → is_blank b ≡ false)
    × ((b : ℕ) (more : List ℕ) → text ≡ more ++ b ∷ [] → is_blank b ≡ false)

-- one carriage return behind a line, or none where the line does not end in one
abbrev pub EndsLine : List ℕ → List ℕ → Type 0
EndsLine line ending = (ending ≡ 13 ∷ []) ⊎ ((ending ≡ []) × ((more : List ℕ) → line ≡ more ++ 13 ∷ [] → ⊥))

-- a line with this text: blanks before it and behind it, and then at most one carriage return
abbrev pub IsLineOf : List ℕ → List ℕ → Type 0
IsLineOf text line =
    (before : List ℕ) × (behind : List ℕ) × (ending : List ℕ)
    × (line ≡ (before ++ text ++ behind) ++ ending)
    × AreBlanks before × IsTrimmed text × AreBlanks behind × EndsLine (before ++ text ++ behind) ending

-- the lines of a text: a line feed between two, and none in a line
abbrev pub AreLinesOf : List ℕ → List (List ℕ) → Type 0
AreLinesOf bytes lines =
    (bytes ≡ join_with_byte 10 lines) × (1 ≤ length lines)
    × AllByRecursion (λ line. AllByRecursion (λ b. b ≢ 10) line) lines

-- nothing, or a comment
abbrev pub SaysNothing : List ℕ → Type 0
SaysNothing text = (text ≡ []) ⊎ ((comment : List ℕ) × (text ≡ codes "#" ++ comment))

-- texts of lines that say these items and these picks, behind so many calls, with texts among them that say nothing
abbrev pub SayItems : List Export → ℕ → List (List ℕ) → List ℕ → List Item → Type 0
SayItems exports calls [] picks items = (picks ≡ []) × (items ≡ [])
SayItems exports calls (text ∷ texts) picks items =
    (SaysNothing text × SayItems exports calls texts picks items)
    ⊎ ((written : List ℕ) × (call : Call) × (others : List Item)
    × (text ≡ codes "call " ++ written) × IsCallOf exports written call
    × (items ≡ item.Call call ∷ others) × SayItems exports (calls + 1) texts picks others)
    ⊎ ((written : List ℕ) × (number : ℕ) × (others : List Item)
    × (text ≡ codes "cancel " ++ written) × IsCancelOf calls written number
    × (items ≡ item.Cancel number ∷ others) × SayItems exports calls texts picks others)
    ⊎ ((written : List ℕ) × (said : List ℕ) × (others : List ℕ)
    × (text ≡ codes "pick " ++ written) × ArePicksOf written said
    × (picks ≡ said ++ others) × SayItems exports calls texts others items)

-- texts of lines that say a script: its items and picks alone, or an amount of fuel before them
abbrev pub SayScript : List Export → List (List ℕ) → Script → Type 0
SayScript exports texts s =
    ((s.fuel ≡ default_fuel) × SayItems exports 0 texts s.picks s.items)
    ⊎ ((skipped : List (List ℕ)) × (written : List ℕ) × (others : List (List ℕ))
    × (texts ≡ skipped ++ (codes "fuel " ++ written) ∷ others)
    × AllByRecursion SaysNothing skipped × IsFuelOf written s.fuel × SayItems exports 0 others s.picks s.items)

-- a whole script: not too long, UTF-8, and its lines have the texts of a script
abbrev pub IsScriptText : List Export → List ℕ → Script → Type 0
IsScriptText exports bytes s =
    (length bytes ≤ size_limit) × IsUtf8 bytes
    × ((lines : List (List ℕ)) × (texts : List (List ℕ))
    × AreLinesOf bytes lines × ArePaired IsLineOf texts lines × SayScript exports texts s)

-- Why a text behind the word `call` is refused: `Form` where it has no name with a parenthesis, `Export` where no function
-- is exported under the name, `HostType` where the function's type holds a handle or the end of a stream or a future,
-- `Value` where what stands behind the name is no arguments of the function.
abbrev pub IsNoCallOf : List Export → List ℕ → ScriptWhy → Type 0
IsNoCallOf exports text why.Form = (name : List ℕ) (behind : List ℕ) → HasName text name behind → ⊥
IsNoCallOf exports text why.Export = (name : List ℕ) × (behind : List ℕ) × HasName text name behind × (export_named exports name ≡ None)
IsNoCallOf exports text why.HostType =
    (name : List ℕ) × (behind : List ℕ) × (e : Export) × HasName text name behind × (export_named exports name ≡ Some e)
    × (func_has_host_type e.func_type ≡ true)
IsNoCallOf exports text why.Value =
    (name : List ℕ) × (behind : List ℕ) × (e : Export) × HasName text name behind × (export_named exports name ≡ Some e)
    × (func_has_host_type e.func_type ≡ false) × ((values : List Value) → AreArguments (param_types e) values behind → ⊥)
IsNoCallOf exports text why.Size = ⊥
IsNoCallOf exports text why.Utf8 = ⊥
IsNoCallOf exports text why.Fuel = ⊥
IsNoCallOf exports text why.CallNumber = ⊥

-- Why a text behind the word `fuel` is refused: `Form` where it is no number, `Fuel` where the number is out of range.
abbrev pub IsNoFuelOf : List ℕ → ScriptWhy → Type 0
IsNoFuelOf text why.Form = (n : ℕ) → IsNumber text n → ⊥
IsNoFuelOf text why.Fuel = (n : ℕ) × IsNumber text n × ((n ≡ 0) ⊎ (fuel_limit < n))
IsNoFuelOf text why.Size = ⊥
IsNoFuelOf text why.Utf8 = ⊥
IsNoFuelOf text why.CallNumber = ⊥
IsNoFuelOf text why.Export = ⊥
IsNoFuelOf text why.HostType = ⊥
IsNoFuelOf text why.Value = ⊥

-- Why a text behind the word `cancel` is refused, with so many calls before it: `Form` where it is no number, `CallNumber`
-- where no call before it has the number.
abbrev pub IsNoCancelOf : ℕ → List ℕ → ScriptWhy → Type 0
IsNoCancelOf calls text why.Form = (n : ℕ) → IsNumber text n → ⊥
IsNoCancelOf calls text why.CallNumber = (n : ℕ) × IsNumber text n × ((n ≡ 0) ⊎ (calls < n))
IsNoCancelOf calls text why.Size = ⊥
IsNoCancelOf calls text why.Utf8 = ⊥
IsNoCancelOf calls text why.Fuel = ⊥
IsNoCancelOf calls text why.Export = ⊥
IsNoCancelOf calls text why.HostType = ⊥
IsNoCancelOf calls text why.Value = ⊥

-- how many of these texts begin with the word `call`
abbrev pub calls_among : List (List ℕ) → ℕ
calls_among texts = count_by (λ text. is_some (after (codes "call ") text)) texts

-- one of these texts says something
abbrev pub SaySomething : List (List ℕ) → Type 0
SaySomething [] = ⊥
SaySomething (text ∷ texts) = (SaysNothing text → ⊥) ⊎ SaySomething texts

-- The text of a line that is well said. `Begun` is that one of the lines before says something; `calls` is how many of
-- them call. It says nothing; or it is an amount of fuel where none before says anything; or a call; or the cancellation of a
-- call before it; or picks.
abbrev pub IsLine : List Export → Type 0 → ℕ → List ℕ → Type 0
IsLine exports Begun calls text =
    SaysNothing text
    ⊎ ((written : List ℕ) × (n : ℕ) × (text ≡ codes "fuel " ++ written) × (Begun → ⊥) × IsFuelOf written n)
    ⊎ ((written : List ℕ) × (call : Call) × (text ≡ codes "call " ++ written) × IsCallOf exports written call)
    ⊎ ((written : List ℕ) × (n : ℕ) × (text ≡ codes "cancel " ++ written) × IsCancelOf calls written n)
    ⊎ ((written : List ℕ) × (picks : List ℕ) × (text ≡ codes "pick " ++ written) × ArePicksOf written picks)

-- a text begins with none of the words
pub record HasNoWord (text : List ℕ) : Type 0 where
  pub no_fuel : (written : List ℕ) → text ≡ codes "fuel " ++ written → ⊥
  pub no_call : (written : List ℕ) → text ≡ codes "call " ++ written → ⊥
  pub no_cancel : (written : List ℕ) → text ≡ codes "cancel " ++ written → ⊥
  pub no_pick : (written : List ℕ) → text ≡ codes "pick " ++ written → ⊥

-- Why the text of a line is refused: `Form` where it says something and begins with no word that there is, or begins with
-- `fuel` where a line before says something, or with `pick` where no picks stand behind it; and else for the reason of what
-- stands behind its word.
abbrev pub IsNoLine : List Export → Type 0 → ℕ → List ℕ → ScriptWhy → Type 0
IsNoLine exports Begun calls text reason =
    ((reason ≡ why.Form) × (SaysNothing text → ⊥) × HasNoWord text)
    ⊎ ((written : List ℕ) × (text ≡ codes "fuel " ++ written)
    × ((Begun × (reason ≡ why.Form)) ⊎ ((Begun → ⊥) × IsNoFuelOf written reason)))
    ⊎ ((written : List ℕ) × (text ≡ codes "call " ++ written) × IsNoCallOf exports written reason)
    ⊎ ((written : List ℕ) × (text ≡ codes "cancel " ++ written) × IsNoCancelOf calls written reason)
    ⊎ ((written : List ℕ) × (text ≡ codes "pick " ++ written) × (reason ≡ why.Form) × ((picks : List ℕ) → ArePicksOf written picks → ⊥))

-- each of these texts is well said behind those before it
abbrev pub AreLines : List Export → List (List ℕ) → Type 0
AreLines exports texts =
    (before : List (List ℕ)) (text : List ℕ) (behind : List (List ℕ))
    → texts ≡ before ++ text ∷ behind → IsLine exports (SaySomething before) (calls_among before) text

-- the first line of a text that is refused, and why: all before it are well said
pub record HasFirstFault (exports : List Export) (bytes : List ℕ) (fault : ScriptFault) : Type 0 where
  pub lines : List (List ℕ)
  pub before : List (List ℕ)
  pub text : List ℕ
  pub behind : List (List ℕ)
  pub parted : AreLinesOf bytes lines
  pub paired : ArePaired IsLineOf (before ++ text ∷ behind) lines
  pub good : AreLines exports before
  pub place : fault.line ≡ length before + 1
  pub bad : IsNoLine exports (SaySomething before) (calls_among before) text fault.why

-- Where and why a whole text is no script. It is too long, and is refused at line 0; or not UTF-8, and is refused at the
-- line of the first byte that is not; or one of its lines is refused.
abbrev pub IsNoScriptText : List Export → List ℕ → ScriptFault → Type 0
IsNoScriptText exports bytes fault =
    ((size_limit < length bytes) × (fault.line ≡ 0) × (fault.why ≡ why.Size))
    ⊎ ((length bytes ≤ size_limit) × ((place : ℕ) × IsValidUpTo bytes place × (fault.line ≡ line_at place bytes) × (fault.why ≡ why.Utf8)))
    ⊎ ((length bytes ≤ size_limit) × IsUtf8 bytes × HasFirstFault exports bytes fault)

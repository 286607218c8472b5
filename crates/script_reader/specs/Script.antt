-- Scripts: the text that decides the free choices of a run. The format is the program's own; values are written by the
-- types of the Component Model (Explainer.md, "Type Definitions"). A script is UTF-8. Its lines say how much fuel the run
-- has, which exported functions are called with which arguments, which of these calls are asked to come to an end, in which
-- order, and which alternatives are picked where a run has several. The lines are read in order, each behind what those
-- before it say, and the first that is refused tells its number and the reason.
use Rattle.std.specs.Prelude.{◌≡◌, ◌≤◌, ◌+◌, ◌-◌, ◌*◌, ℕ, Bool, true, not, ◌&&◌, ◌||◌, ◌==◌, nat_lt, nat_le, List, [], ◌∷◌, ◌++◌, length, map, take, drop, codes, if◌then◌else◌, Option, Some, None, is_some, option_map, Result, Ok, Err}
use Rattle.std.specs.List.{AllByRecursion, list_all, find, count_by, suffix_len, position_or_len, before_first, slice_split}
use Rattle.std.specs.Option.{unwrap_or}
use Rattle.std.specs.Str.{bytes_eq}
use Rattle.std.specs.Str.Lines.{strip_carriage_return}
use Rattle.std.specs.Str.Lossy.{utf8_valid_len}
use Rattle.syntax_trees.specs.declared.types.ValType.{ValType}
use Rattle.syntax_trees.specs.declared.value.Value.{Value}
use Rattle.syntax_trees.specs.declared.exports.Export.{Export}
pub use Rattle.value_reader.specs.Tokens.{is_blank, without_blanks, after, after_mark}
use Rattle.value_reader.specs.Values.{arguments}
pub use Rattle.value_reader.specs.Typed.{AreOfTypes}
use Rattle.value_reader.specs.Host.{func_has_host_type}
use Rattle.script_reader.specs.declared.script.Call.{Call}
use Rattle.script_reader.specs.declared.script.Item.{Item}
use Rattle.script_reader.specs.declared.script.Item.TheVariants as item
use Rattle.script_reader.specs.declared.fault.ScriptWhy.{ScriptWhy}
use Rattle.script_reader.specs.declared.fault.ScriptWhy.TheVariants as why
use Rattle.script_reader.specs.declared.fault.ScriptFault.{ScriptFault}

-- how many bytes a script has at most: 1 MiB
abbrev pub size_limit : ℕ
size_limit = 1048576

-- how many units of fuel a script gives at most, and how many it gives where no line says so
abbrev pub fuel_limit : ℕ
fuel_limit = 1000000000

abbrev pub default_fuel : ℕ
default_fuel = 1000000

-- what a script says: the units of fuel, which alternative is taken at each choice, and what happens, in order
pub record Script : Type 0 where
  pub fuel : ℕ
  pub picks : List ℕ
  pub items : List Item

-- Texts: a text without blanks behind it, and without blanks at both ends.
abbrev pub without_last_blanks : List ℕ → List ℕ
without_last_blanks text = take (length text - suffix_len is_blank text) text

abbrev pub trimmed : List ℕ → List ℕ
trimmed text = without_last_blanks (without_blanks text)

-- Lines are what stands before, between and behind the line feeds. A line's text is the line without one carriage return
-- at its end, and then without blanks at both ends.
abbrev pub lines : List ℕ → List (List ℕ)
lines bytes = slice_split (λ b. b == 10) bytes

abbrev pub line_text : List ℕ → List ℕ
line_text line = trimmed (strip_carriage_return line)

-- the number of the line in which the byte at a place stands, counted from 1
abbrev pub line_at : ℕ → List ℕ → ℕ
line_at place bytes = count_by (λ b. b == 10) (take place bytes) + 1

-- Numbers. Leading zeros are allowed.
abbrev pub is_digit : ℕ → Bool
is_digit b = nat_le 48 b && nat_le b 57

-- the number of these digits, behind digits of a number
abbrev pub number_of : ℕ → List ℕ → ℕ
number_of before [] = before
number_of before (b ∷ bytes) = number_of (10 * before + (b - 48)) bytes

abbrev pub number : List ℕ → ℕ
number digits = number_of 0 digits

-- the number, where it is not above this one
abbrev pub number_up_to : ℕ → List ℕ → Option ℕ
number_up_to most digits = if nat_le (number digits) most then Some (number digits) else None

-- a number and nothing else: one digit or more
abbrev pub is_number : List ℕ → Bool
is_number text = not (length text == 0) && list_all is_digit text

-- `fuel N`, of the text behind the word: `Form` where it is no number, `Fuel` where the number is out of range.
abbrev pub checked_fuel : Option ℕ → Result ℕ ScriptWhy
checked_fuel None = Err why.Fuel
checked_fuel (Some n) = if n == 0 then Err why.Fuel else Ok n

abbrev pub fuel_of : List ℕ → Result ℕ ScriptWhy
fuel_of text = if is_number text then checked_fuel (number_up_to fuel_limit text) else Err why.Form

-- `call NAME (v, ..)`, of the text behind the word. NAME ends before the first blank or opening parenthesis. `Form` where
-- no opening parenthesis follows it, with or without blanks before it; `Export` where no function is exported under it;
-- `HostType` where the type of the function holds a handle or the end of a stream or a future, whose values no script can
-- write; `Value` where what follows the name is no arguments of the function's types, as `value_reader` reads them. Of two
-- exports of one name the first is called.
abbrev pub ends_name : ℕ → Bool
ends_name b = is_blank b || b == 40

abbrev pub name_of : List ℕ → List ℕ
name_of text = before_first ends_name text

abbrev pub behind_name : List ℕ → List ℕ
behind_name text = drop (position_or_len ends_name text) text

abbrev pub export_named : List Export → List ℕ → Option Export
export_named exports name = find (λ e. bytes_eq e.name name) exports

abbrev pub param_types : Export → List ValType
param_types e = map (λ p. p.val_type) e.func_type.params

abbrev pub values_or : Option (List Value) → Result (List Value) ScriptWhy
values_or None = Err why.Value
values_or (Some values) = Ok values

-- the arguments of an export, of the text behind its name
abbrev pub arguments_of : Export → List ℕ → Result (List Value) ScriptWhy
arguments_of e text = if func_has_host_type e.func_type then Err why.HostType else values_or (arguments (param_types e) text)

abbrev pub call_of_values : List ℕ → Result (List Value) ScriptWhy → Result Call ScriptWhy
call_of_values name (Err reason) = Err reason
call_of_values name (Ok values) = Ok (record { name = name; values = values })

abbrev pub call_of_export : List ℕ → Option Export → List ℕ → Result Call ScriptWhy
call_of_export name None text = Err why.Export
call_of_export name (Some e) text = call_of_values name (arguments_of e text)

abbrev pub call_of_name : List Export → List ℕ → List ℕ → Option (List ℕ) → Result Call ScriptWhy
call_of_name exports name text None = Err why.Form
call_of_name exports name text (Some inner) = call_of_export name (export_named exports name) text

abbrev pub call_of : List Export → List ℕ → Result Call ScriptWhy
call_of exports text = call_of_name exports (name_of text) (behind_name text) (after_mark 40 (behind_name text))

-- `cancel K`, of the text behind the word, where so many calls stand before it: `Form` where it is no number, `CallNumber`
-- where no call before it has the number, counted from 1.
abbrev pub checked_call : Option ℕ → Result ℕ ScriptWhy
checked_call None = Err why.CallNumber
checked_call (Some n) = if n == 0 then Err why.CallNumber else Ok n

abbrev pub cancel_of : ℕ → List ℕ → Result ℕ ScriptWhy
cancel_of calls text = if is_number text then checked_call (number_up_to calls text) else Err why.Form

-- `pick n n ..`, of the text behind the word: numbers below 2^32 with one space between two, and `Form` where it is none.
abbrev pub pick_limit : ℕ
pick_limit = 4294967295

abbrev pub pick_of : List ℕ → Option ℕ
pick_of text = if is_number text then number_up_to pick_limit text else None

abbrev pub pick_before : Option ℕ → Option (List ℕ) → Option (List ℕ)
pick_before None others = None
pick_before (Some n) others = option_map (λ picks. n ∷ picks) others

abbrev pub all_picks : List (List ℕ) → Option (List ℕ)
all_picks [] = Some []
all_picks (text ∷ texts) = pick_before (pick_of text) (all_picks texts)

abbrev pub picks_or : Option (List ℕ) → Result (List ℕ) ScriptWhy
picks_or None = Err why.Form
picks_or (Some picks) = Ok picks

abbrev pub picks_of : List ℕ → Result (List ℕ) ScriptWhy
picks_of text = picks_or (all_picks (slice_split (λ b. b == 32) text))

-- how many of these items are calls
abbrev pub calls_in : List Item → ℕ
calls_in [] = 0
calls_in (item.Call call ∷ items) = calls_in items + 1
calls_in (item.Cancel number ∷ items) = calls_in items

-- a script in the making: what the lines so far say
pub record Draft : Type 0 where
  pub fuel : Option ℕ
  pub picks : List ℕ
  pub items : List Item

-- before the first line
abbrev pub empty_draft : Draft
empty_draft = record { fuel = None; picks = []; items = [] }

-- whether a line so far says anything
abbrev pub is_begun : Draft → Bool
is_begun s = is_some s.fuel || not (length s.picks == 0) || not (length s.items == 0)

-- A `fuel` line stands before all others that say something, else it is refused as `Form`.
abbrev pub with_fuel : Draft → Result ℕ ScriptWhy → Result Draft ScriptWhy
with_fuel s (Ok n) = Ok (record { fuel = Some n; picks = s.picks; items = s.items })
with_fuel s (Err why) = Err why

abbrev pub add_fuel : Draft → List ℕ → Result Draft ScriptWhy
add_fuel s text = if is_begun s then Err why.Form else with_fuel s (fuel_of text)

-- behind one more item
abbrev pub and_item : Draft → Item → Draft
and_item s i = record { fuel = s.fuel; picks = s.picks; items = s.items ++ i ∷ [] }

abbrev pub with_call : Draft → Result Call ScriptWhy → Result Draft ScriptWhy
with_call s (Ok call) = Ok (and_item s (item.Call call))
with_call s (Err why) = Err why

abbrev pub with_cancel : Draft → Result ℕ ScriptWhy → Result Draft ScriptWhy
with_cancel s (Ok number) = Ok (and_item s (item.Cancel number))
with_cancel s (Err why) = Err why

-- behind more picks: those of all lines are one list
abbrev pub with_picks : Draft → Result (List ℕ) ScriptWhy → Result Draft ScriptWhy
with_picks s (Ok picks) = Ok (record { fuel = s.fuel; picks = s.picks ++ picks; items = s.items })
with_picks s (Err why) = Err why

-- a line that says nothing: an empty one, or a comment
abbrev pub is_skipped : List ℕ → Bool
is_skipped [] = true
is_skipped (b ∷ text) = b == 35

-- what is said with a line by its first word; another one is refused as `Form`
abbrev pub add_by_word : List Export → Draft → Option (List ℕ) → Option (List ℕ) → Option (List ℕ) → Option (List ℕ) → Result Draft ScriptWhy
add_by_word exports s (Some fuel) call cancel pick = add_fuel s fuel
add_by_word exports s None (Some call) cancel pick = with_call s (call_of exports call)
add_by_word exports s None None (Some cancel) pick = with_cancel s (cancel_of (calls_in s.items) cancel)
add_by_word exports s None None None (Some pick) = with_picks s (picks_of pick)
add_by_word exports s None None None None = Err why.Form

-- the text behind each of the words, where a text begins with it
abbrev pub add_by_text : List Export → Draft → List ℕ → Result Draft ScriptWhy
add_by_text exports s text =
    add_by_word exports s (after (codes "fuel ") text) (after (codes "call ") text) (after (codes "cancel ") text) (after (codes "pick ") text)

-- what is said with the line of this text, behind lines that say so much
abbrev pub add_line : List Export → Draft → List ℕ → Result Draft ScriptWhy
add_line exports s text = if is_skipped text then Ok s else add_by_text exports s text

-- what is said with the lines behind one that has this number, or the fault of that line
abbrev pub add_others : (Draft → Result Draft ScriptFault) → ℕ → Result Draft ScriptWhy → Result Draft ScriptFault
add_others others line_number (Ok s) = others s
add_others others line_number (Err why) = Err (record { line = line_number; why = why })

-- what is said with these lines, the first of which has this number, behind lines that say so much; or the first fault
abbrev pub add_lines : List Export → Draft → ℕ → List (List ℕ) → Result Draft ScriptFault
add_lines exports s line_number [] = Ok s
add_lines exports s line_number (line ∷ others) = add_others (λ t. add_lines exports t (line_number + 1) others) line_number (add_line exports s (line_text line))

-- the script of what all lines say
abbrev pub script_of : Draft → Script
script_of s = record { fuel = unwrap_or s.fuel default_fuel; picks = s.picks; items = s.items }

abbrev pub script_or : Result Draft ScriptFault → Result Script ScriptFault
script_or (Ok s) = Ok (script_of s)
script_or (Err fault) = Err fault

-- the refusal of a text that is too long, at no line; and of one that is not UTF-8, at the line of the first byte behind
-- the longest front that is
abbrev pub too_long : ScriptFault
too_long = record { line = 0; why = why.Size }

abbrev pub not_utf8 : List ℕ → ScriptFault
not_utf8 bytes = record { line = line_at (utf8_valid_len bytes) bytes; why = why.Utf8 }

-- the script that a text stands for, for a component with these exports; or the first fault
abbrev pub script : List Export → List ℕ → Result Script ScriptFault
script exports bytes =
    if nat_lt size_limit (length bytes) then Err too_long
    else if utf8_valid_len bytes == length bytes then script_or (add_lines exports empty_draft 1 (lines bytes))
    else Err (not_utf8 bytes)

-- the text stands for the script; it is refused at this line, for this reason
abbrev pub IsScript : List Export → List ℕ → Script → Type 0
IsScript exports bytes s = script exports bytes ≡ Ok s

abbrev pub IsScriptRefused : List Export → List ℕ → ScriptFault → Type 0
IsScriptRefused exports bytes fault = script exports bytes ≡ Err fault

-- A call is one of an exported function, with one value for each of its parameters, which fits its type and is sound.
abbrev pub CallsExport : List Export → Call → Type 0
CallsExport exports call = (e : Export) × (export_named exports call.name ≡ Some e) × AreOfTypes (param_types e) call.values

-- Items behind so many calls: each calls an exported function, or cancels a call before it.
abbrev pub AreItems : List Export → ℕ → List Item → Type 0
AreItems exports calls [] = Unit {0}
AreItems exports calls (item.Call call ∷ items) = CallsExport exports call × AreItems exports (calls + 1) items
AreItems exports calls (item.Cancel number ∷ items) = (1 ≤ number) × (number ≤ calls) × AreItems exports calls items

-- Picks are below 2^32.
abbrev pub ArePicks : List ℕ → Type 0
ArePicks picks = AllByRecursion (λ n. n ≤ pick_limit) picks

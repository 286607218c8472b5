-- What a trace tells of the lines that were put to it: how many elements their copies moved, the sum of those elements that
-- are unsigned 32-bit integers, and the last of these lines. Both counts are modulo 2^64.
use Rattle.std.specs.Prelude.{ℕ, ◌+◌, ◌-◌, ◌%◌, ◌^◌, List, [], length, take}
use Rattle.std.specs.List.{fold, sum_by}
use Rattle.syntax_trees.specs.declared.value.Value.{Value, out-Value}
use Rattle.syntax_trees.specs.declared.value.Value.TheOpen.{Value-F}
use Rattle.trace_labels.specs.declared.label.Copied.{Copied}
use Rattle.trace_labels.specs.declared.label.Copied.TheVariants.{Units, Values}
use Rattle.trace_labels.specs.declared.label.Label.{Label}
use Rattle.trace_labels.specs.declared.label.Label.TheVariants.{Copy}
use Rattle.trace_show.specs.Typed.{count_of}
use Rattle.trace_show.specs.LabelText.{label_text}

-- an unsigned 32-bit integer itself, and 0 for any other value
abbrev pub number_case : Value-F Value → ℕ
number_case (Value-F.U32 number) = number
number_case other = 0

abbrev pub number_in : Value → ℕ
number_in value = number_case (out-Value value)

-- how many elements one copy moved, and the sum of their numbers
abbrev pub copied_count : Copied → ℕ
copied_count (Units count) = count
copied_count (Values elements) = count_of elements

abbrev pub copied_sum : Copied → ℕ
copied_sum (Units count) = 0
copied_sum (Values elements) = sum_by number_in elements.values

-- the same of a line: lines that are no copies have none
abbrev pub count_in : Label → ℕ
count_in (Copy channel copied) = copied_count copied
count_in other = 0

abbrev pub sum_in : Label → ℕ
sum_in (Copy channel copied) = copied_sum copied
sum_in other = 0

-- what is told: both counts, and the text of the last line with its line feed, which is empty before the first line
pub record Tally : Type 0 where
  pub elements : ℕ
  pub sum : ℕ
  pub last : List ℕ

abbrev pub tally_of : ℕ → ℕ → List ℕ → Tally
tally_of elements sum last = record { elements = elements; sum = sum; last = last }

-- of no line
abbrev pub nothing : Tally
nothing = tally_of 0 0 []

-- with one line more
abbrev pub with_line : Tally → Label → Tally
with_line t label = tally_of ((t.elements + count_in label) % 2 ^ 64) ((t.sum + sum_in label) % 2 ^ 64) (label_text label)

-- with more lines, in order
abbrev pub with_lines : Tally → List Label → Tally
with_lines t lines = fold with_line t lines

-- of all these lines, counted at once
abbrev pub last_text : List Label → List ℕ
last_text lines = fold (λ (before : List ℕ) (label : Label). label_text label) [] lines

abbrev pub counted : List Label → Tally
counted lines = tally_of (sum_by count_in lines % 2 ^ 64) (sum_by sum_in lines % 2 ^ 64) (last_text lines)

-- a line's text without its line feed
abbrev pub without_feed : List ℕ → List ℕ
without_feed text = take (length text - 1) text

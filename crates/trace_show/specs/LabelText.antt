-- The lines of a trace: a line for each label, which ends with a line feed. Instances, tasks, streams and futures stand by
-- a letter and their number, and what a line lists stands in parentheses, with a comma and a space between.
use Rattle.std.specs.Prelude.{ℕ, List, [], ◌∷◌, ◌++◌, length, Option, Some, None, codes}
use Rattle.std.specs.List.{flat_map}
use Rattle.std.specs.Fmt.{decimal}
use Rattle.syntax_trees.specs.Texts.{separated}
use Rattle.trace_labels.specs.declared.label.Copied.{Copied}
use Rattle.trace_labels.specs.declared.label.Copied.TheVariants.{Units, Values}
use Rattle.trace_labels.specs.declared.label.Label.{Label}
use Rattle.trace_labels.specs.declared.label.Label.TheVariants.{Take, Cancel, Choose, Call, Enter, Exit, Do, Got, Block, Go, Event, Copy, Lend, Unlend, Return, Cancelled, Done, Trap, Deadlock, Fuel}
use Rattle.trace_labels.specs.declared.typed.TypedValue.{TypedValue}
use Rattle.trace_labels.specs.Names.{builtin_text, trap_text}
use Rattle.trace_labels.specs.Parts.{instance_text, task_text, channel_text, reason_text}
use Rattle.syntax_trees.specs.NameText.{name_text}
use Rattle.trace_show.specs.Typed.{typed_text, each_typed_text, count_of}

-- a list, in parentheses
abbrev pub listed : {A : Type 0} → (A → List ℕ) → List A → List ℕ
listed text items = codes "(" ++ separated (codes ", ") text items ++ codes ")"

-- the words that a built-in is called with, or answers
abbrev pub words_text : List ℕ → List ℕ
words_text words = listed decimal words

abbrev pub args_text : List TypedValue → List ℕ
args_text args = listed typed_text args

-- a result, or nothing, in parentheses
abbrev pub result_text : Option TypedValue → List ℕ
result_text None = codes "()"
result_text (Some value) = codes "(" ++ typed_text value ++ codes ")"

-- how many elements were copied, and these in parentheses, or nothing in them where they hold nothing
abbrev pub copied_text : Copied → List ℕ
copied_text (Units count) = decimal count ++ codes " ()"
copied_text (Values elements) = decimal (count_of elements) ++ codes " (" ++ each_typed_text elements ++ codes ")"

-- tasks, each behind a space
abbrev pub tasks_text : List ℕ → List ℕ
tasks_text tasks = flat_map (λ task. codes " " ++ task_text task) tasks

abbrev pub line : List ℕ → List ℕ
line text = text ++ 10 ∷ []

abbrev pub label_text : Label → List ℕ
label_text (Take call task name args) =
    line (codes "take " ++ decimal call ++ codes " " ++ task_text task ++ codes " " ++ name_text name ++ codes " " ++ args_text args)
label_text (Cancel call) = line (codes "cancel " ++ decimal call)
label_text (Choose alternatives chosen) = line (codes "choose " ++ decimal alternatives ++ codes " " ++ decimal chosen)
label_text (Call caller callee instance) =
    line (codes "call " ++ task_text caller ++ codes " " ++ task_text callee ++ codes " " ++ instance_text instance)
label_text (Enter task) = line (codes "enter " ++ task_text task)
label_text (Exit task) = line (codes "exit " ++ task_text task)
label_text (Do task builtin words) =
    line (codes "do " ++ task_text task ++ codes " " ++ builtin_text builtin ++ codes " " ++ words_text words)
label_text (Got task words) = line (codes "got " ++ task_text task ++ codes " " ++ words_text words)
label_text (Block task reason) = line (codes "block " ++ task_text task ++ codes " " ++ reason_text reason)
label_text (Go task) = line (codes "go " ++ task_text task)
label_text (Event task code index payload) =
    line (codes "event " ++ task_text task ++ codes " " ++ decimal code ++ codes " " ++ decimal index ++ codes " " ++ decimal payload)
label_text (Copy channel copied) = line (codes "copy " ++ channel_text channel ++ codes " " ++ copied_text copied)
label_text (Lend instance handle task) =
    line (codes "lend " ++ instance_text instance ++ codes " " ++ decimal handle ++ codes " " ++ task_text task)
label_text (Unlend instance handle task) =
    line (codes "unlend " ++ instance_text instance ++ codes " " ++ decimal handle ++ codes " " ++ task_text task)
label_text (Return task value) = line (codes "return " ++ task_text task ++ codes " " ++ result_text value)
label_text (Cancelled task) = line (codes "cancelled " ++ task_text task)
label_text Done = line (codes "done")
label_text (Trap task name) = line (codes "trap " ++ task_text task ++ codes " " ++ trap_text name)
label_text (Deadlock tasks) = line (codes "deadlock" ++ tasks_text tasks)
label_text Fuel = line (codes "fuel")

-- the lines of labels
abbrev pub trace_text : List Label → List ℕ
trace_text labels = flat_map label_text labels

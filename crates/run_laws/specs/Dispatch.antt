-- Calls of canonical functions (Component Model, CanonicalABI.md, "Canonical Definitions"; "Component Instance State": `may_leave`): behind the line
-- of the call, words of context and representations are answered as the machine answers them, and any other function where the instance may be left;
-- so where what each function answers is what the machine answers, the whole call is.
use Rattle.std.specs.Prelude.{◌≡◌, ℕ, true, List, [], ◌∷◌, ◌++◌, Option, Some, IsSome}
use Rattle.std.specs.List.{slice_get}
use Rattle.syntax_trees.specs.declared.types.ValType.{ValType}
use Rattle.wasm_store.specs.Stack.{Stack}
use Rattle.builtin_kinds.specs.declared.ContextOp.{ContextOp}
use Rattle.builtin_kinds.specs.declared.ContextOp.TheVariants as context_op
use Rattle.builtin_kinds.specs.declared.ResourceOp.{ResourceOp}
use Rattle.builtin_kinds.specs.declared.ResourceOp.TheVariants as resource_op
use Rattle.comp_graph.specs.declared.graph.BuiltinKind.{BuiltinKind}
use Rattle.comp_graph.specs.declared.graph.BuiltinKind.TheVariants as kind
use Rattle.comp_graph.specs.declared.graph.CanonFunc.{CanonFunc}
use Rattle.comp_graph.specs.declared.graph.CanonFunc.TheVariants as canon
use Rattle.comp_graph.specs.Graph.{Graph}
use Rattle.script_reader.specs.Script.{Script}
use Rattle.trace_labels.specs.declared.label.Label.{Label}
use Rattle.trace_labels.specs.declared.label.Label.TheVariants as line
use Rattle.task_table.specs.declared.slot.TaskSlot.{TaskSlot}
use Rattle.graph_views.specs.Canons as seen_canons
use Rattle.graph_views.specs.Names as seen_names
use Rattle.world_parts.specs.declared.parts.Flow.{Flow}
use Rattle.world_parts.specs.Held.{Held, Done}
use Rattle.world_parts.specs.Slots.{word_in}
use Rattle.replies.specs.Replies.{may_leave}
use Rattle.machine_runs.specs.Calling.{canon_answered, calls}
use Rattle.abi_machine.specs.World.{Task, World}
use Rattle.abi_machine.specs.Canons.{builtin_of, canon_at, flag_at, options_at}
use Rattle.abi_machine.specs.Reading as reading
use Rattle.abi_machine.specs.Turn.{Turn}
use Rattle.abi_machine.specs.Reply.{reply, calling_turn}
use Rattle.standing.specs.Stands.{Stands}
use Rattle.standing.specs.Callings.{MayGrow}
use Rattle.standing.specs.Events.{AgreesOn}

-- What is told of a canonical function is the same: its name, its flag, and what else it uses.
abbrev pub NamesAreAlike : Type 0
NamesAreAlike = (c : CanonFunc) → seen_names.builtin_of c ≡ builtin_of c

abbrev pub FlagsAreAlike : Type 0
FlagsAreAlike = (g : Graph) (number : ℕ) → seen_canons.flag_at g number ≡ flag_at g number

abbrev pub OptionsAreAlike : Type 0
OptionsAreAlike = (g : Graph) (number : ℕ) → seen_canons.options_at g number ≡ options_at g number

-- Whether all is instantiated is the same.
abbrev pub LeaveIsAlike : Type 0
LeaveIsAlike = (g : Graph) (values : List ValType) (s : Script) (h : Held) (stacks : List (List Stack)) (w : World) → Stands g values s h stacks w → may_leave h ≡ reading.may_leave w

-- A part that may make a task agrees with a turn and those behind it.
abbrev pub AgreesSo : Graph → List ValType → Script → ℕ → List Label → List (List Stack) → Done Flow → Turn → Type 0
AgreesSo g values s t before stacks d turn = (now : List (List Stack)) × MayGrow stacks now × AgreesOn g values s t before now d turn

-- What is asked of a canonical function that a task calls with words: of those that are answered also where the instance may not be left, words and an
-- instance that is there; of each other one that it answers as the machine does, behind the line of its call, where the instance may be left.
abbrev pub line_told : ℕ → CanonFunc → List ℕ → Held → Held
line_told t c words h = record h { labels = h.labels ++ line.Do t (builtin_of c) words ∷ [] }

abbrev pub Answers : Graph → List ValType → Script → List (Option ℕ) → Held → List (List Stack) → World → ℕ → Task → ℕ → CanonFunc → List ℕ → Type 0
Answers g values s types h stacks w t task number c words =
    AgreesSo g values s t (line_told t c words h).labels stacks (canon_answered g types t number c words (line_told t c words h)) (reply g t task number c words w)

abbrev pub HasWord : List ℕ → Type 0
HasWord words = (word : ℕ) × (word_in words 0 ≡ Some word)

abbrev pub ContextRow : ContextOp → List ℕ → Type 0
ContextRow context_op.Get words = Unit {0}
ContextRow context_op.Set words = HasWord words

abbrev pub ResourceRow : Type 0 → World → ℕ → ResourceOp → List ℕ → Type 0
ResourceRow row w at resource_op.New words = row
ResourceRow row w at resource_op.Drop words = row
ResourceRow row w at resource_op.Rep words = HasWord words × IsSome (slice_get w.insts at)

abbrev pub KindRow : Type 0 → World → ℕ → BuiltinKind → List ℕ → Type 0
KindRow row w at (kind.Resource op resource) words = ResourceRow row w at op words
KindRow row w at (kind.TaskReturn result options) words = row
KindRow row w at (kind.Plain op) words = row
KindRow row w at (kind.Context op slot) words = ContextRow op words
KindRow row w at (kind.Wait op cancellable memory) words = row
KindRow row w at (kind.End of_what element op) words = row

abbrev pub CanonRow : Type 0 → World → CanonFunc → List ℕ → Type 0
CanonRow row w (canon.Lower l) words = row
CanonRow row w (canon.Builtin b) words = KindRow row w b.instance b.kind words

-- The acting task calls the canonical function of a number, with the words that it keeps.
abbrev pub KeepsWords : Held → ℕ → List ℕ → Type 0
KeepsWords h t words = (slot : TaskSlot) → slice_get h.tasks t ≡ Some slot → slot.at_words ≡ words

abbrev pub CallAgrees : Type 0
CallAgrees =
    (g : Graph) (values : List ValType) (s : Script) (types : List (Option ℕ)) (h : Held) (stacks : List (List Stack)) (w : World) (t : ℕ) (task : Task) (number : ℕ)
    (c : CanonFunc) (words : List ℕ)
    → slice_get w.chain 0 ≡ Some t → slice_get w.tasks t ≡ Some task → canon_at g number ≡ Some c → KeepsWords h t words
    → CanonRow (reading.may_leave w ≡ true → Answers g values s types h stacks w t task number c words) w c words → Stands g values s h stacks w
    → AgreesSo g values s t h.labels stacks (calls g types number h) (calling_turn g number words w)

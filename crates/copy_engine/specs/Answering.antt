-- What canonical functions answer to code that gives out places (Component Model, CanonicalABI.md, `canon context.get`, `canon context.set`,
-- `canon resource.rep`). While values are lowered into an instance it may not be left, so that a call of any other function that the
-- instance made is a trap.
use Rattle.std.specs.Prelude.{ℕ, zero, suc, ◌^◌, nat_lt, nat_eq, if◌then◌else◌, List, Option, Some, None, Result, Ok, Err}
use Rattle.std.specs.List.{slice_get}
use Rattle.std.specs.Option.{option_and_then}
use Rattle.builtin_kinds.specs.declared.ContextOp.{ContextOp}
use Rattle.builtin_kinds.specs.declared.ContextOp.TheVariants as context_op
use Rattle.builtin_kinds.specs.declared.ResourceOp.{ResourceOp}
use Rattle.builtin_kinds.specs.declared.ResourceOp.TheVariants as resource_op
use Rattle.comp_graph.specs.declared.graph.BuiltinKind.{BuiltinKind}
use Rattle.comp_graph.specs.declared.graph.BuiltinKind.TheVariants as kind
use Rattle.comp_graph.specs.declared.graph.CanonFunc.{CanonFunc}
use Rattle.comp_graph.specs.declared.graph.CanonFunc.TheVariants as canon
use Rattle.res_handles.specs.declared.entry.EntryView.{EntryView}
use Rattle.res_handles.specs.declared.refusal.Refusal.{Refusal}
use Rattle.res_handles.specs.Refusals.{handle_in, rep_of}
use Rattle.copy_engine.specs.declared.setting.Lowering.{Lowering}
use Rattle.copy_engine.specs.declared.store_room.LowerOptions.{LowerOptions}
use Rattle.copy_engine.specs.declared.answering.Answer.{Answer}
use Rattle.copy_engine.specs.declared.answering.Answer.TheVariants as answer
use Rattle.copy_engine.specs.declared.answering.CallRefusal.TheVariants.{CannotLeave, Refused, NoRule}

-- Where values are lowered: the options, the canonical functions, each at the address that is its number, and the component instance.
pub record Setting : Type 0 where
  pub options : LowerOptions
  pub canons : List CanonFunc
  pub instance : ℕ

abbrev pub setting_of : Lowering → Setting
setting_of to = record { options = to.options; canons = to.canons.now; instance = to.instance }

-- the first word of a call, which is a 32-bit one
abbrev pub small : ℕ → Option ℕ
small word = if nat_lt word (2 ^ 32) then Some word else None

abbrev pub first_word : List ℕ → Option ℕ
first_word words = option_and_then small (slice_get words 0)

-- a word of context, and where one is changed
abbrev pub word_at : ℕ → ℕ × ℕ → ℕ
word_at zero context = context.0
word_at (suc slot) context = context.1

abbrev pub word_changed : ℕ → ℕ → ℕ × ℕ → ℕ × ℕ
word_changed zero word context = (word, context.1)
word_changed (suc slot) word context = (context.0, word)

-- by the word that is set
abbrev pub set_answer : ℕ → ℕ × ℕ → Option ℕ → Answer
set_answer slot context None = answer.Refuses NoRule
set_answer slot context (Some word) = answer.Replies None (word_changed slot word context)

abbrev pub context_answer : ContextOp → ℕ → ℕ × ℕ → List ℕ → Answer
context_answer context_op.Get slot context words = answer.Replies (Some (word_at slot context)) context
context_answer context_op.Set slot context words = set_answer slot context (first_word words)

-- by what stands at each index of the table
abbrev pub rep_answer : Result ℕ Refusal → ℕ × ℕ → Answer
rep_answer (Ok rep) context = answer.Replies (Some rep) context
rep_answer (Err why) context = answer.Refuses (Refused why)

abbrev pub rep_at : (ℕ → Option EntryView) → ℕ → ℕ × ℕ → Option ℕ → Answer
rep_at seen resource context None = answer.Refuses NoRule
rep_at seen resource context (Some index) = rep_answer (rep_of (handle_in (seen index) resource)) context

abbrev pub resource_answer : (ℕ → Option EntryView) → ResourceOp → ℕ → ℕ × ℕ → List ℕ → Answer
resource_answer seen resource_op.New resource context words = answer.Refuses CannotLeave
resource_answer seen resource_op.Drop resource context words = answer.Refuses CannotLeave
resource_answer seen resource_op.Rep resource context words = rep_at seen resource context (first_word words)

abbrev pub kind_answer : (ℕ → Option EntryView) → BuiltinKind → ℕ × ℕ → List ℕ → Answer
kind_answer seen (kind.Resource op resource) context words = resource_answer seen op resource context words
kind_answer seen (kind.TaskReturn result options) context words = answer.Refuses CannotLeave
kind_answer seen (kind.Plain op) context words = answer.Refuses CannotLeave
kind_answer seen (kind.Context op slot) context words = context_answer op slot context words
kind_answer seen (kind.Wait op cancellable memory) context words = answer.Refuses CannotLeave
kind_answer seen (kind.End of_what element op) context words = answer.Refuses CannotLeave

abbrev pub canon_answer : (ℕ → Option EntryView) → CanonFunc → ℕ × ℕ → List ℕ → Answer
canon_answer seen (canon.Lower l) context words = answer.Refuses CannotLeave
canon_answer seen (canon.Builtin b) context words = kind_answer seen b.kind context words

-- the component instance that made a canonical function
abbrev pub maker_of : CanonFunc → ℕ
maker_of (canon.Lower l) = l.instance
maker_of (canon.Builtin b) = b.instance

-- Core code calls only what its own component instance made. There is no rule for a function of another one.
abbrev pub found_answer : Option CanonFunc → ℕ → (ℕ → Option EntryView) → ℕ × ℕ → List ℕ → Answer
found_answer None at seen context words = answer.Refuses NoRule
found_answer (Some c) at seen context words = if nat_eq (maker_of c) at then canon_answer seen c context words else answer.Refuses NoRule

-- the answer to a call of the canonical function of this number with these words, by the words of context
abbrev pub host_answer : Setting → (ℕ → Option EntryView) → ℕ × ℕ → ℕ → List ℕ → Answer
host_answer to seen context number words = found_answer (slice_get to.canons number) to.instance seen context words

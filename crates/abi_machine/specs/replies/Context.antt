-- Words of context and representations (Component Model, CanonicalABI.md, `canon context.get`, `canon context.set` and `canon
-- resource.rep`): these are answered also where the instance may not be left, for the task that the code acts for.
use Rattle.std.specs.Prelude.{ℕ, zero, suc, slice_index, List, [], ◌∷◌, Option, Some, None, Result, Ok, Err}
use Rattle.res_handles.specs.Refusals.{handle_in, rep_of}
use Rattle.builtin_kinds.specs.declared.ContextOp.{ContextOp}
use Rattle.builtin_kinds.specs.declared.ContextOp.TheVariants as context_op
use Rattle.builtin_kinds.specs.declared.ResourceOp.TheVariants as resource_op
use Rattle.comp_graph.specs.declared.graph.BuiltinKind.{BuiltinKind}
use Rattle.comp_graph.specs.declared.graph.BuiltinKind.TheVariants as kind
use Rattle.comp_graph.specs.declared.graph.CanonFunc.{CanonFunc}
use Rattle.comp_graph.specs.declared.graph.CanonFunc.TheVariants as canon
use Rattle.trace_labels.specs.declared.trap.TrapName.{TrapName}
use Rattle.abi_machine.specs.Traps.{renamed, refusal_name}
use Rattle.abi_machine.specs.World.{Task, World}
use Rattle.abi_machine.specs.Edits.{word_set}
use Rattle.abi_machine.specs.Reading.{task_at}
use Rattle.abi_machine.specs.Counting.{view_at}

-- the words of an answer, and the world then
pub record Answers : Type 0 where
  pub words : List ℕ
  pub world : World

-- how such a call is answered, or the trap
abbrev pub Exempt : Type 0
Exempt = World → Result Answers TrapName

abbrev pub word_at : ℕ → ℕ × ℕ → ℕ
word_at zero context = context.0
word_at (suc slot) context = context.1

abbrev pub word_of : ℕ → Option Task → ℕ
word_of slot None = 0
word_of slot (Some task) = word_at slot task.context

abbrev pub word_answer : ℕ → ℕ → Exempt
word_answer t slot w = Ok (record { words = word_of slot (task_at w t) ∷ []; world = w })

abbrev pub set_answer : ℕ → ℕ → ℕ → Exempt
set_answer t slot word w = Ok (record { words = []; world = word_set t slot word w })

abbrev pub rep_answered : World → Result ℕ TrapName → Result Answers TrapName
rep_answered w (Err why) = Err why
rep_answered w (Ok rep) = Ok (record { words = rep ∷ []; world = w })

abbrev pub rep_answer : ℕ → ℕ → ℕ → Exempt
rep_answer i resource index w = rep_answered w (renamed refusal_name (rep_of (handle_in (view_at w i index) resource)))

-- of those canonical functions that are answered so, for a task
abbrev pub context_answer : ℕ → List ℕ → ContextOp → ℕ → Exempt
context_answer t words context_op.Get slot = word_answer t slot
context_answer t words context_op.Set slot = set_answer t slot (slice_index words 0)

abbrev pub exempt_kind : ℕ → List ℕ → ℕ → BuiltinKind → Option Exempt
exempt_kind t words i (kind.Context op slot) = Some (context_answer t words op slot)
exempt_kind t words i (kind.Resource resource_op.Rep resource) = Some (rep_answer i resource (slice_index words 0))
exempt_kind t words i other = None

abbrev pub exempt_of : ℕ → List ℕ → CanonFunc → Option Exempt
exempt_of t words (canon.Lower l) = None
exempt_of t words (canon.Builtin b) = exempt_kind t words b.instance b.kind

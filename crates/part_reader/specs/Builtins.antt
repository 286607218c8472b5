-- Canonical built-ins in bytes (Component Model, Binary.md, `canon`): each begins with a byte of its own.
use Rattle.std.specs.Prelude.{ℕ, ◌-◌, nat_le, ◌&&◌, [], ◌∷◌}
use Rattle.ca_base.specs.Grammar.{Grammar, Give, Choose, ◌>>=◌}
use Rattle.ca_base.specs.Items.{marker, u32, vec}
use Rattle.ca_base.specs.Tables.{in_rows, giving}
use Rattle.builtin_kinds.specs.declared.ResourceOp.{ResourceOp}
use Rattle.builtin_kinds.specs.declared.ResourceOp.TheVariants as resource
use Rattle.builtin_kinds.specs.declared.PlainBuiltin.{PlainBuiltin}
use Rattle.builtin_kinds.specs.declared.PlainBuiltin.TheVariants as plain
use Rattle.builtin_kinds.specs.declared.ContextOp.{ContextOp}
use Rattle.builtin_kinds.specs.declared.ContextOp.TheVariants as context
use Rattle.builtin_kinds.specs.declared.WaitOp.{WaitOp}
use Rattle.builtin_kinds.specs.declared.WaitOp.TheVariants as waits
use Rattle.builtin_kinds.specs.declared.EndKind.{EndKind}
use Rattle.builtin_kinds.specs.declared.EndKind.TheVariants as end_kind
use Rattle.builtin_kinds.specs.declared.EndSide.{EndSide}
use Rattle.builtin_kinds.specs.declared.EndSide.TheVariants as side
use Rattle.comp_tree.specs.declared.builtins.CanonBuiltin.{CanonBuiltin}
use Rattle.comp_tree.specs.declared.builtins.CanonBuiltin.TheVariants.{Resource, TaskReturn, Plain, Context, Wait, End}
use Rattle.comp_tree.specs.declared.builtins.CanonEndOp.{CanonEndOp}
use Rattle.comp_tree.specs.declared.builtins.CanonEndOp.TheVariants as end_op
use Rattle.part_reader.specs.declared.fault.ComponentWhy.{ComponentWhy}
use Rattle.part_reader.specs.Reasons.{numbers, reasons, unsupported}
use Rattle.part_reader.specs.Options.{canon_option, flag}
use Rattle.part_reader.specs.Types.{func_result}

-- a built-in of a resource, behind its first byte: the type of the resource
unfoldable pub resource_builtin : ResourceOp → Grammar ComponentWhy CanonBuiltin
resource_builtin op = giving (Resource op) (u32 numbers)

-- `task.return`, likewise: the type of the result as a function has it, and options
unfoldable pub task_return : Grammar ComponentWhy CanonBuiltin
task_return = do
  returned ← func_result
  options ← vec numbers canon_option
  Give (TaskReturn returned options)

-- a built-in of a word of the task, likewise: 7F, the type i32 of the word, and its number
unfoldable pub word_builtin : ContextOp → Grammar ComponentWhy CanonBuiltin
word_builtin op = do
  _ ← marker reasons 0x7F
  slot ← u32 numbers
  Give (Context op slot)

-- a built-in that asks for an event, likewise: whether a cancellation ends the wait, and the memory for the event
unfoldable pub wait_builtin : WaitOp → Grammar ComponentWhy CanonBuiltin
wait_builtin op = do
  cancellable ← flag
  memory ← u32 numbers
  Give (Wait op cancellable memory)

-- A read or a write, by its end: options. Its cancellation: whether it answers at once.
unfoldable pub copied : EndSide → Grammar ComponentWhy CanonEndOp
copied end = giving (end_op.Copy end) (vec numbers canon_option)

unfoldable pub cancelled : EndSide → Grammar ComponentWhy CanonEndOp
cancelled end = giving (end_op.Cancel end) flag

-- what is done with the ends of streams or futures, by its number in this order: both are made; the readable one is read, and the
-- writable one written; the read is cancelled, and the write; the readable one is dropped, and the writable one
unfoldable pub done_with_end : ℕ → Grammar ComponentWhy CanonEndOp
done_with_end n =
    in_rows (
    (0, Give end_op.New)
    ∷ (1, copied side.Readable)
    ∷ (2, copied side.Writable)
    ∷ (3, cancelled side.Readable)
    ∷ (4, cancelled side.Writable)
    ∷ (5, Give (end_op.Drop side.Readable))
    ∷ []) n (Give (end_op.Drop side.Writable))

-- a built-in of ends, behind its first byte: the type of the streams or futures, and what is done by its number
unfoldable pub end_builtin : EndKind → ℕ → Grammar ComponentWhy CanonBuiltin
end_builtin kind n = do
  type ← u32 numbers
  op ← done_with_end n
  Give (End kind type op)

-- what the byte at this place begins that names no type, no memory and no word
unfoldable pub plain_builtin : ℕ → ℕ → Grammar ComponentWhy PlainBuiltin
plain_builtin place b =
    in_rows (
    (0x05, Give plain.TaskCancel)
    ∷ (0x06, giving plain.SubtaskCancel flag)
    ∷ (0x08, Give plain.BackpressureSet)
    ∷ (0x0C, giving plain.Yield flag)
    ∷ (0x0D, Give plain.SubtaskDrop)
    ∷ (0x1F, Give plain.WaitableSetNew)
    ∷ (0x22, Give plain.WaitableSetDrop)
    ∷ (0x23, Give plain.WaitableJoin)
    ∷ (0x24, Give plain.BackpressureInc)
    ∷ (0x25, Give plain.BackpressureDec)
    ∷ []) b (unsupported place b)

-- the built-ins of ends, from 0E on those of streams and from 15 on those of futures, and the others
unfoldable pub end_or_plain : ℕ → ℕ → Grammar ComponentWhy CanonBuiltin
end_or_plain place b =
    Choose (nat_le 0x0E b && nat_le b 0x14) (end_builtin end_kind.Stream (b - 0x0E))
    (Choose (nat_le 0x15 b && nat_le b 0x1B) (end_builtin end_kind.Future (b - 0x15)) (giving Plain (plain_builtin place b)))

-- the built-in that the byte at this place begins: those that name a resource, a result, a word or a memory, and the others
unfoldable pub builtin : ℕ → ℕ → Grammar ComponentWhy CanonBuiltin
builtin place b =
    in_rows (
    (0x02, resource_builtin resource.New)
    ∷ (0x03, resource_builtin resource.Drop)
    ∷ (0x04, resource_builtin resource.Rep)
    ∷ (0x09, task_return)
    ∷ (0x0A, word_builtin context.Get)
    ∷ (0x0B, word_builtin context.Set)
    ∷ (0x20, wait_builtin waits.Wait)
    ∷ (0x21, wait_builtin waits.Poll)
    ∷ []) b (end_or_plain place b)

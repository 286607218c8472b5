-- Streams (Component Model, CanonicalABI.md, `canon stream.new`, `canon stream.{read,write}`, `canon stream.cancel-{read,write}` and `canon
-- stream.drop-{readable,writable}`), of which futures have the same: a new one with both its ends, reads and writes, their cancelling, and the
-- drop of an end.
use Rattle.std.specs.Prelude.{ℕ, ◌+◌, ◌*◌, ◌%◌, ◌^◌, nat_eq, nat_lt, nat_le, Bool, false, not, slice_index, if◌then◌else◌, List, [], ◌∷◌, length, Option, Some, None}
use Rattle.syntax_trees.specs.declared.types.ValType.{ValType}
use Rattle.laid_types.specs.Layout.{laid}
use Rattle.builtin_kinds.specs.declared.EndKind.{EndKind}
use Rattle.builtin_kinds.specs.declared.EndKind.TheVariants.{Future}
use Rattle.stream_ends.specs.declared.side.Side.{Side}
use Rattle.stream_ends.specs.declared.side.Side.TheVariants.{Reader, Writer}
use Rattle.stream_ends.specs.declared.open_copy.By.TheVariants as by
use Rattle.stream_ends.specs.declared.open_copy.OpenCopy.{OpenCopy}
use Rattle.stream_ends.specs.declared.stream_end.End.{End}
use Rattle.stream_ends.specs.Ends.{is_copying, new_copy}
use Rattle.comp_graph.specs.declared.graph.Options.{Options}
use Rattle.comp_graph.specs.Graph.{Graph}
use Rattle.trace_labels.specs.declared.trap.TrapName.TheVariants as trap
use Rattle.abi_machine.specs.Control.{EndRef}
use Rattle.abi_machine.specs.World.{OfEnd, World}
use Rattle.abi_machine.specs.Edits.{channel_made, concluded, end_dropped, entry_removed, left_set}
use Rattle.abi_machine.specs.Canons.{memory_of, bytes_of, options_at}
use Rattle.abi_machine.specs.Reading.{channels}
use Rattle.abi_machine.specs.Counting.{passes, end_of, payload_of}
use Rattle.abi_machine.specs.Finding.{end_at}
use Rattle.abi_machine.specs.Turn.{Turn, unless, unless_refused, with_entry, replied}
use Rattle.abi_machine.specs.Copying.{meets}

-- both indices in one word
abbrev pub both_indices : ℕ → ℕ → ℕ
both_indices readable writable = readable + 2 ^ 32 * writable

abbrev pub end_ref : EndKind → ℕ → Side → EndRef
end_ref kind number side = record { kind = kind; number = number; side = side }

unfoldable pub ends_added : ℕ → ℕ → EndKind → ℕ → World → Turn
ends_added t i kind number w =
    with_entry t i (OfEnd (end_ref kind number Reader)) w (λ readable v.
    with_entry t i (OfEnd (end_ref kind number Writer)) v (λ writable u. replied t (both_indices readable writable ∷ []) u))

unfoldable pub channel_new_turn : ℕ → ℕ → EndKind → Option ValType → World → Turn
channel_new_turn t i kind element w = ends_added t i kind (length (channels kind w) + 1) (channel_made kind element w)

-- The elements of a read or write are tested, where they hold anything and there are some.
unfoldable pub placed_well : ℕ → List ℕ → Option ValType → ℕ → ℕ → World → Turn → Turn
placed_well t bytes None place size w more = more
placed_well t bytes (Some element) place size w more =
    if nat_eq size 0 then more
    else unless t (not (nat_eq (place % (laid element).align) 0)) trap.Misaligned w
    (unless t (not (nat_le (place + size * (laid element).size) (length bytes))) trap.Bounds w more)

-- how many elements a copy has at most
abbrev pub max_length : ℕ
max_length = 268435455

-- A read or write of so many elements, at the end of this side and type that stands at an index.
unfoldable pub copy_turn : Graph → ℕ → ℕ → ℕ → EndKind → Side → Option ValType → Options → List ℕ → ℕ → World → Turn
copy_turn g t i number kind side element options words size w =
    unless_refused t (end_at w kind side element i (slice_index words 0)) w (λ e.
    unless t (is_copying (end_of w e)) trap.Busy w
    (unless t (end_of w e).done trap.DoneEnd w
    (unless t (nat_lt max_length size) trap.TooLong w
    (placed_well t (bytes_of w.store (memory_of w.store options)) element (slice_index words 1) size w
    (meets g t i e (new_copy (by.Task t) number (slice_index words 1) size) words (slice_index words 0) w)))))

-- The copy of a call that did not wait is told, or given up.
abbrev pub is_async_copy : Graph → OpenCopy → Bool
is_async_copy g copy = (options_at g copy.canon).is_async

unfoldable pub copy_cancel_turn : Graph → ℕ → ℕ → EndKind → Side → Option ValType → ℕ → World → Turn
copy_cancel_turn g t i kind side element index w =
    unless_refused t (end_at w kind side element i index) w (λ e.
    unless t (not (passes (is_async_copy g) (end_of w e).copy)) trap.NotCopying w
    (replied t (payload_of w e ∷ []) (concluded e w)))

-- A writable end of a future is dropped when it is done.
abbrev pub is_unwritten : EndKind → Side → End → Bool
is_unwritten Future Writer e = not e.done
is_unwritten kind side e = false

unfoldable pub end_drop_turn : ℕ → ℕ → EndKind → Side → Option ValType → ℕ → World → Turn
end_drop_turn t i kind side element index w =
    unless_refused t (end_at w kind side element i index) w (λ e.
    unless t (is_copying (end_of w e)) trap.Busy w
    (unless t (is_unwritten kind side (end_of w e)) trap.UnwrittenFuture w
    (replied t [] (end_dropped e (left_set i index (entry_removed i index w))))))

-- What is asked of ends, and what a task returns, where it is known of the types what is tested.
use Rattle.std.proofs.Common.{◌≡◌, ◌∙◌, ◌+◌, ◌*◌, ◌%◌, ℕ, Bool, true, List, [], ◌∷◌, length, Option, Some, None, ap}
use Rattle.std.specs.Prelude.{nat_eq, nat_lt, nat_le, not, ◌&&◌, slice_index, if◌then◌else◌, unwrap_or, Result, Ok}
use Rattle.builtin_kinds.specs.declared.EndKind.{EndKind}
use Rattle.builtin_kinds.specs.declared.PlainBuiltin.TheVariants as op
use Rattle.syntax_trees.specs.declared.types.ValType.{ValType}
use Rattle.syntax_trees.specs.declared.value.Value.{Value}
use Rattle.laid_types.specs.Layout.{Laid, laid}
use Rattle.value_lift.specs.Lifting.{is_integer}
use Rattle.stream_ends.specs.declared.side.Side.{Side}
use Rattle.stream_ends.specs.declared.open_copy.By.TheVariants as by
use Rattle.stream_ends.specs.declared.open_copy.OpenCopy.{OpenCopy}
use Rattle.stream_ends.specs.Ends.{is_copying, new_copy}
use Rattle.tasks.specs.Tasks.{asking_fault}
use Rattle.comp_graph.specs.declared.graph.CanonFunc.{CanonFunc}
use Rattle.comp_graph.specs.declared.graph.Options.{Options}
use Rattle.comp_graph.specs.Needs.{flat_param_limit}
use Rattle.comp_graph.specs.Graph.{Graph, Lifted}
use Rattle.trace_labels.specs.declared.label.Label.{Label}
use Rattle.trace_labels.specs.declared.label.Label.TheVariants as line
use Rattle.trace_labels.specs.declared.trap.TrapName.{TrapName}
use Rattle.trace_labels.specs.declared.trap.TrapName.TheVariants as trap
use Rattle.abi_machine.specs.SameTypes.{same_held}
use Rattle.abi_machine.specs.Control.{EndRef, Replies, Finishes}
use Rattle.abi_machine.specs.World.{Task, Channel, World, new_channel}
use Rattle.abi_machine.specs.Edits.{entry_removed, left_set, concluded, end_dropped}
use Rattle.abi_machine.specs.Canons.{memory_of, bytes_of, canon_at}
use Rattle.abi_machine.specs.Reading.{channel_at, func_of}
use Rattle.abi_machine.specs.Counting.{passes, end_of, payload_of, task_view}
use Rattle.abi_machine.specs.Finding.{end_at}
use Rattle.abi_machine.specs.Turn.{Turn, given, behind, unless, unless_refused, unless_fault, replied}
use Rattle.abi_machine.specs.Traps.{task_name}
use Rattle.abi_machine.specs.LiftingOver.{made}
use Rattle.abi_machine.specs.Lifting.{Came, once_lifted}
use Rattle.abi_machine.specs.Entering.{with_arguments}
use Rattle.abi_machine.specs.Returning.{typed_result, result_passed, resolves}
use Rattle.abi_machine.specs.Copying.{other_offer, other_dropped, is_none_or_number, is_of_inst, met_by, meeting_turn, meets, elements_read}
use Rattle.abi_machine.specs.replies.Streams.{max_length, placed_well, is_async_copy, is_unwritten, copy_turn, copy_cancel_turn, end_drop_turn}
use Rattle.abi_machine.specs.replies.Tasks.{same_address, return_checked, return_turn}
use Rattle.abi_machine.specs.examples.Parts.{plain}
use Rattle.abi_machine.proofs.Walks.{the_number, the_task, the_func}

-- what stands in a world or a graph, or something in its place
abbrev pub the_channel : World → EndRef → Channel
the_channel w e = unwrap_or (channel_at w e.kind e.number) (new_channel None)

abbrev pub the_canon : Graph → ℕ → CanonFunc
the_canon g number = unwrap_or (canon_at g number) (plain 0 op.TaskCancel)

-- A task enters, whose arguments are lifted so.
abbrev pub entering : Graph → World → Came Value → Turn
entering g w came = behind (line.Enter (the_number w) ∷ []) (once_lifted (the_number w) came (λ v later. with_arguments g (the_number w) (the_func w) v later))

-- The core function of a task has ended with these words, and its result is lifted so.
abbrev pub has_ended : Graph → World → List ℕ → ValType → Came Value → Turn
has_ended g w words type came = resolves g (the_number w) (the_task w) (Finishes words) (made (typed_result type) came)

-- `task.return` of words, whose result is lifted so.
abbrev pub returning : Graph → World → List Label → ValType → Came Value → Turn
returning g w before type came = behind before (resolves g (the_number w) (the_task w) Replies (made (typed_result type) came))

pub returns_as : (g : Graph) (t : ℕ) (task : Task) (i : ℕ) (type : ValType) (options : Options) (words : List ℕ) (w : World) (f : Lifted)
    → asking_fault (task_view g w t task) ≡ None → func_of task.callee ≡ Some f → same_held (Some type) f.func_type.result ≡ true
    → same_address (memory_of w.store options) (memory_of w.store f.options) ≡ true
    → return_turn g t task i (Some type) options words w ≡ resolves g t task Replies (result_passed i t flat_param_limit (Some type) options words w)
unfolding return_turn return_checked
returns_as g t task i type options words w f fault func same address =
    ap (λ (e : Option _). unless_fault t task_name e w (given (func_of task.callee) (λ f. return_checked g t task i (Some type) options words f w))) fault
    ∙ ap (λ (o : Option Lifted). given o (λ f. return_checked g t task i (Some type) options words f w)) func
    ∙ ap (λ (b : Bool). unless t (not b) trap.WrongResult w
    (unless t (not (same_address (memory_of w.store options) (memory_of w.store f.options))) trap.WrongOptions w
    (resolves g t task Replies (result_passed i t flat_param_limit (Some type) options words w)))) same
    ∙ ap (λ (b : Bool). unless t (not b) trap.WrongOptions w (resolves g t task Replies (result_passed i t flat_param_limit (Some type) options words w))) address

-- A read or a write, of elements of this layout, which are integers or not.
abbrev placed_by : ℕ → List ℕ → Laid → ℕ → ℕ → World → Turn → Turn
placed_by t bytes l place size w more =
    if nat_eq size 0 then more
    else unless t (not (nat_eq (place % l.align) 0)) trap.Misaligned w
    (unless t (not (nat_le (place + size * l.size) (length bytes))) trap.Bounds w more)

abbrev met_in : Graph → ℕ → ℕ → Bool → EndRef → OpenCopy → List ℕ → ℕ → Channel → World → Turn
met_in g t i number e call words index c w =
    unless t (not number && not (other_dropped e.side c.ends.view) && passes (is_of_inst g i) (other_offer e.side c.ends.view)) trap.SameInstance w
    (meeting_turn g t e call words index c (met_by e.kind e.side call c.ends.view) w)

abbrev tested_first : ℕ → EndRef → ℕ → World → Turn → Turn
tested_first t e size w more =
    unless t (is_copying (end_of w e)) trap.Busy w (unless t (end_of w e).done trap.DoneEnd w (unless t (nat_lt max_length size) trap.TooLong w more))

abbrev pub copies : Graph → ℕ → ℕ → ℕ → Laid → Bool → Options → List ℕ → ℕ → EndRef → Channel → World → Turn
copies g t i number l integer options words size e c w =
    tested_first t e size w
    (placed_by t (bytes_of w.store (memory_of w.store options)) l (slice_index words 1) size w
    (met_in g t i integer e (new_copy (by.Task t) number (slice_index words 1) size) words (slice_index words 0) c w))

pub copies_as : (g : Graph) (t i number : ℕ) (kind : EndKind) (side : Side) (type : ValType) (options : Options) (words : List ℕ) (size : ℕ) (w : World)
    (e : EndRef) (c : Channel) (l : Laid) (integer : Bool)
    → end_at w kind side (Some type) i (slice_index words 0) ≡ Ok e → channel_at w e.kind e.number ≡ Some c → c.element ≡ Some type
    → laid type ≡ l → is_integer type ≡ integer
    → copy_turn g t i number kind side (Some type) options words size w ≡ copies g t i number l integer options words size e c w
unfolding copy_turn placed_well meets
copies_as g t i number kind side type options words size w e c l integer there channel element lay int =
    (let call : OpenCopy = new_copy (by.Task t) number (slice_index words 1) size in
    let bytes : List ℕ = bytes_of w.store (memory_of w.store options) in
    ap (λ (r : Result EndRef TrapName). unless_refused t r w (λ e. tested_first t e size w
    (placed_well t bytes (Some type) (slice_index words 1) size w (meets g t i e call words (slice_index words 0) w)))) there
    ∙ ap (λ (m : Laid). tested_first t e size w (placed_by t bytes m (slice_index words 1) size w (meets g t i e call words (slice_index words 0) w))) lay
    ∙ ap (λ (o : Option Channel). tested_first t e size w (placed_by t bytes l (slice_index words 1) size w
    (given o (λ c. met_in g t i (is_none_or_number c.element) e call words (slice_index words 0) c w)))) channel
    ∙ ap (λ (o : Option ValType). tested_first t e size w (placed_by t bytes l (slice_index words 1) size w
    (met_in g t i (is_none_or_number o) e call words (slice_index words 0) c w))) element
    ∙ ap (λ (b : Bool). tested_first t e size w (placed_by t bytes l (slice_index words 1) size w
    (met_in g t i b e call words (slice_index words 0) c w))) int)

-- Elements go over, which are lifted so.
abbrev pub moving : Graph → ℕ → List Label → EndRef → ℕ → OpenCopy → CanonFunc → ValType → Came (List Value) → Turn
moving g t before e size read c type came = behind before (once_lifted t came (λ all later. elements_read g t e size read c type all later))

-- The cancelling of a copy, and the drop of an end.
abbrev pub cancels : Graph → ℕ → EndRef → World → Turn
cancels g t e w =
    unless t (not (passes (is_async_copy g) (end_of w e).copy)) trap.NotCopying w (replied t (payload_of w e ∷ []) (concluded e w))

pub cancels_as : (g : Graph) (t i : ℕ) (kind : EndKind) (side : Side) (element : Option ValType) (index : ℕ) (w : World) (e : EndRef)
    → end_at w kind side element i index ≡ Ok e → copy_cancel_turn g t i kind side element index w ≡ cancels g t e w
unfolding copy_cancel_turn
cancels_as g t i kind side element index w e there = ap (λ (r : Result EndRef TrapName). unless_refused t r w (λ e. cancels g t e w)) there

abbrev pub drops : ℕ → ℕ → EndKind → Side → ℕ → EndRef → World → Turn
drops t i kind side index e w =
    unless t (is_copying (end_of w e)) trap.Busy w
    (unless t (is_unwritten kind side (end_of w e)) trap.UnwrittenFuture w (replied t [] (end_dropped e (left_set i index (entry_removed i index w)))))

pub drops_as : (t i : ℕ) (kind : EndKind) (side : Side) (element : Option ValType) (index : ℕ) (w : World) (e : EndRef)
    → end_at w kind side element i index ≡ Ok e → end_drop_turn t i kind side element index w ≡ drops t i kind side index e w
unfolding end_drop_turn
drops_as t i kind side element index w e there = ap (λ (r : Result EndRef TrapName). unless_refused t r w (λ e. drops t i kind side index e w)) there

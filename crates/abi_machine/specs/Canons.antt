-- What is read of graphs and stores (Component Model, CanonicalABI.md, "Canonical ABI Options", "Canonical Definitions"; Core 2.0, section
-- 4.2): addresses of core definitions, and of each canonical function its name, the component instance that made it, what else it uses, and
-- its flag.
use Rattle.std.specs.Prelude.{ℕ, zero, suc, Bool, false, nat_eq, if◌then◌else◌, is_some, List, [], ◌∷◌, Option, Some, None}
use Rattle.std.specs.List.{slice_get}
use Rattle.std.specs.Option.{option_and_then, option_map}
use Rattle.wasm_store.specs.Store.{Store, Instance, found_at}
use Rattle.wasm_store.specs.Instantiation.{External, FuncAddress, TableAddress, MemoryAddress, GlobalAddress}
use Rattle.wasm_memory.specs.Memories.{MemoryState}
use Rattle.syntax_trees.specs.declared.types.ValType.TheVariants as type
use Rattle.syntax_trees.specs.declared.types.FuncType.{FuncType}
use Rattle.entry_gate.specs.declared.kind.Kind.{Kind}
use Rattle.entry_gate.specs.declared.kind.Kind.TheVariants.{Sync, Callback, Stackful}
use Rattle.builtin_kinds.specs.declared.ResourceOp.{ResourceOp}
use Rattle.builtin_kinds.specs.declared.ResourceOp.TheVariants as resource_op
use Rattle.builtin_kinds.specs.declared.PlainBuiltin.{PlainBuiltin}
use Rattle.builtin_kinds.specs.declared.PlainBuiltin.TheVariants as plain
use Rattle.builtin_kinds.specs.declared.ContextOp.{ContextOp}
use Rattle.builtin_kinds.specs.declared.ContextOp.TheVariants as context_op
use Rattle.builtin_kinds.specs.declared.WaitOp.{WaitOp}
use Rattle.builtin_kinds.specs.declared.WaitOp.TheVariants as wait_op
use Rattle.builtin_kinds.specs.declared.EndKind.{EndKind}
use Rattle.builtin_kinds.specs.declared.EndKind.TheVariants as end_kind
use Rattle.builtin_kinds.specs.declared.EndSide.TheVariants as end_side
use Rattle.comp_graph.specs.declared.graph.CoreRef.{CoreRef}
use Rattle.comp_graph.specs.declared.graph.FuncRef.{FuncRef}
use Rattle.comp_graph.specs.declared.graph.FuncRef.TheVariants as func_ref
use Rattle.comp_graph.specs.declared.graph.CoreExtern.{CoreExtern}
use Rattle.comp_graph.specs.declared.graph.CoreExtern.TheVariants as extern
use Rattle.comp_graph.specs.declared.graph.Options.{Options}
use Rattle.comp_graph.specs.declared.graph.Lower.{Lower}
use Rattle.comp_graph.specs.declared.graph.Resource.{Resource}
use Rattle.comp_graph.specs.declared.graph.EndOp.{EndOp}
use Rattle.comp_graph.specs.declared.graph.EndOp.TheVariants as end_op
use Rattle.comp_graph.specs.declared.graph.BuiltinKind.{BuiltinKind}
use Rattle.comp_graph.specs.declared.graph.BuiltinKind.TheVariants as kind
use Rattle.comp_graph.specs.declared.graph.CanonFunc.{CanonFunc}
use Rattle.comp_graph.specs.declared.graph.CanonFunc.TheVariants as canon
use Rattle.comp_graph.specs.Graph.{Graph, Lifted, no_options}
use Rattle.trace_labels.specs.declared.builtin.Builtin.{Builtin}
use Rattle.trace_labels.specs.declared.builtin.Builtin.TheVariants as builtin

-- Addresses. The core instance of number k has address k, and so has the canonical function of number k.
abbrev pub address_in : (Instance → List ℕ) → Store → CoreRef → Option ℕ
address_in space s f = option_and_then (λ i. slice_get (space i) f.index) (slice_get s.instances f.instance)

abbrev pub func_address : Store → FuncRef → Option ℕ
func_address s (func_ref.Instance f) = address_in (λ i. i.funcs) s f
func_address s (func_ref.Canon number) = Some number

-- what an import is, by its address, and what all imports are, where each has one
abbrev pub external_of : Store → CoreExtern → Option External
external_of s (extern.Func f) = option_map FuncAddress (func_address s f)
external_of s (extern.Table t) = option_map TableAddress (address_in (λ i. i.tables) s t)
external_of s (extern.Memory m) = option_map MemoryAddress (address_in (λ i. i.memories) s m)
external_of s (extern.Global g) = option_map GlobalAddress (address_in (λ i. i.globals) s g)

abbrev pub externals : Store → List CoreExtern → Option (List External)
externals s [] = Some []
externals s (e ∷ others) = option_and_then (λ first. option_map (λ more. first ∷ more) (externals s others)) (external_of s e)

-- the addresses that options give, where they give any
abbrev pub memory_of : Store → Options → Option ℕ
memory_of s options = option_and_then (address_in (λ i. i.memories) s) options.memory

abbrev pub realloc_of : Store → Options → Option ℕ
realloc_of s options = option_and_then (func_address s) options.realloc

-- the bytes of a memory as they are now; none where there is no memory
abbrev pub bytes_of_memory : Option (ℕ × MemoryState) → List ℕ
bytes_of_memory None = []
bytes_of_memory (Some m) = m.1.bytes

abbrev pub bytes_of : Store → Option ℕ → List ℕ
bytes_of s memory = bytes_of_memory (found_at s.memories memory)

-- The names of built-ins, and of a lowered import.
abbrev pub resource_name : ResourceOp → Builtin
resource_name resource_op.New = builtin.ResourceNew
resource_name resource_op.Drop = builtin.ResourceDrop
resource_name resource_op.Rep = builtin.ResourceRep

abbrev pub plain_name : PlainBuiltin → Builtin
plain_name plain.TaskCancel = builtin.TaskCancel
plain_name plain.BackpressureSet = builtin.BackpressureSet
plain_name plain.BackpressureInc = builtin.BackpressureInc
plain_name plain.BackpressureDec = builtin.BackpressureDec
plain_name (plain.SubtaskCancel is_async) = builtin.SubtaskCancel
plain_name plain.SubtaskDrop = builtin.SubtaskDrop
plain_name (plain.Yield cancellable) = builtin.Yield
plain_name plain.WaitableSetNew = builtin.WaitableSetNew
plain_name plain.WaitableSetDrop = builtin.WaitableSetDrop
plain_name plain.WaitableJoin = builtin.WaitableJoin

abbrev pub context_name : ContextOp → Builtin
context_name context_op.Get = builtin.ContextGet
context_name context_op.Set = builtin.ContextSet

abbrev pub wait_name : WaitOp → Builtin
wait_name wait_op.Wait = builtin.WaitableSetWait
wait_name wait_op.Poll = builtin.WaitableSetPoll

abbrev pub stream_name : EndOp → Builtin
stream_name end_op.New = builtin.StreamNew
stream_name (end_op.Copy end_side.Readable options) = builtin.StreamRead
stream_name (end_op.Copy end_side.Writable options) = builtin.StreamWrite
stream_name (end_op.Cancel end_side.Readable is_async) = builtin.StreamCancelRead
stream_name (end_op.Cancel end_side.Writable is_async) = builtin.StreamCancelWrite
stream_name (end_op.Drop end_side.Readable) = builtin.StreamDropReadable
stream_name (end_op.Drop end_side.Writable) = builtin.StreamDropWritable

abbrev pub future_name : EndOp → Builtin
future_name end_op.New = builtin.FutureNew
future_name (end_op.Copy end_side.Readable options) = builtin.FutureRead
future_name (end_op.Copy end_side.Writable options) = builtin.FutureWrite
future_name (end_op.Cancel end_side.Readable is_async) = builtin.FutureCancelRead
future_name (end_op.Cancel end_side.Writable is_async) = builtin.FutureCancelWrite
future_name (end_op.Drop end_side.Readable) = builtin.FutureDropReadable
future_name (end_op.Drop end_side.Writable) = builtin.FutureDropWritable

abbrev pub end_name : EndKind → EndOp → Builtin
end_name end_kind.Stream op = stream_name op
end_name end_kind.Future op = future_name op

abbrev pub kind_name : BuiltinKind → Builtin
kind_name (kind.Resource op resource) = resource_name op
kind_name (kind.TaskReturn result options) = builtin.TaskReturn
kind_name (kind.Plain op) = plain_name op
kind_name (kind.Context op slot) = context_name op
kind_name (kind.Wait op cancellable memory) = wait_name op
kind_name (kind.End of_what element op) = end_name of_what op

abbrev pub builtin_of : CanonFunc → Builtin
builtin_of (canon.Lower l) = builtin.Lower
builtin_of (canon.Builtin b) = kind_name b.kind

-- the component instance that made it
abbrev pub inst_of_canon : CanonFunc → ℕ
inst_of_canon (canon.Lower l) = l.instance
inst_of_canon (canon.Builtin b) = b.instance

-- what else it uses: of a wait the memory for its event
abbrev pub options_of_end : EndOp → Options
options_of_end (end_op.Copy side options) = options
options_of_end other = no_options

abbrev pub options_of_kind : BuiltinKind → Options
options_of_kind (kind.TaskReturn result options) = options
options_of_kind (kind.Wait op cancellable memory) = record no_options { memory = Some memory }
options_of_kind (kind.End of_what element op) = options_of_end op
options_of_kind other = no_options

abbrev pub options_of_canon : CanonFunc → Options
options_of_canon (canon.Lower l) = l.options
options_of_canon (canon.Builtin b) = options_of_kind b.kind

-- its flag: of a wait and of `yield` that a cancellation ends it, of `subtask.cancel` that it does not wait
abbrev pub flag_of_plain : PlainBuiltin → Bool
flag_of_plain (plain.SubtaskCancel is_async) = is_async
flag_of_plain (plain.Yield cancellable) = cancellable
flag_of_plain other = false

abbrev pub flag_of_kind : BuiltinKind → Bool
flag_of_kind (kind.Plain op) = flag_of_plain op
flag_of_kind (kind.Wait op cancellable memory) = cancellable
flag_of_kind other = false

abbrev pub flag_of_canon : CanonFunc → Bool
flag_of_canon (canon.Lower l) = false
flag_of_canon (canon.Builtin b) = flag_of_kind b.kind

abbrev pub canon_at : Graph → ℕ → Option CanonFunc
canon_at g number = slice_get g.canons number

-- the options and the flag of that of a number; none and no flag where it is not there
abbrev pub options_in : Option CanonFunc → Options
options_in None = no_options
options_in (Some c) = options_of_canon c

abbrev pub options_at : Graph → ℕ → Options
options_at g number = options_in (canon_at g number)

abbrev pub flag_in : Option CanonFunc → Bool
flag_in None = false
flag_in (Some c) = flag_of_canon c

abbrev pub flag_at : Graph → ℕ → Bool
flag_at g number = flag_in (canon_at g number)

-- the function that is lowered
abbrev pub lifted_of : Lower → Lifted
lifted_of l = record { instance = l.lift.instance; core = l.lift.core; options = l.lift.options; func_type = l.func_type }

-- how a function is lifted
abbrev pub kind_of_options : Options → Kind
kind_of_options options = if options.is_async then (if is_some options.callback then Callback else Stackful) else Sync

-- Resources are counted from 1. One is an instance's own where this defines it.
abbrev pub resource_at : Graph → ℕ → Option Resource
resource_at g zero = None
resource_at g (suc place) = slice_get g.resources place

abbrev pub is_defined_in : ℕ → Option Resource → Bool
is_defined_in i None = false
is_defined_in i (Some r) = nat_eq r.instance i

abbrev pub defines : Graph → ℕ → ℕ → Bool
defines g i resource = is_defined_in i (resource_at g resource)

-- a destructor as a function, of the representation
abbrev pub destructor_type : FuncType
destructor_type = record { params = record { label = []; val_type = type.U32 } ∷ []; result = None }

abbrev pub destructor_of : ℕ → FuncRef → Lifted
destructor_of inst core = record { instance = inst; core = core; options = no_options; func_type = destructor_type }

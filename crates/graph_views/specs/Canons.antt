-- Canonical functions by their numbers (Component Model, CanonicalABI.md, "Canonical ABI Options", "Canonical Definitions"): the component
-- instance that made one, what else it uses, and its flag.
use Rattle.std.specs.Prelude.{ℕ, nat_eq, Bool, false, Option, Some, None}
use Rattle.std.specs.List.{slice_get}
use Rattle.builtin_kinds.specs.declared.PlainBuiltin.{PlainBuiltin}
use Rattle.builtin_kinds.specs.declared.PlainBuiltin.TheVariants as plain
use Rattle.comp_graph.specs.declared.graph.CoreRef.{CoreRef}
use Rattle.comp_graph.specs.declared.graph.Options.{Options}
use Rattle.comp_graph.specs.declared.graph.EndOp.{EndOp}
use Rattle.comp_graph.specs.declared.graph.EndOp.TheVariants as end_op
use Rattle.comp_graph.specs.declared.graph.BuiltinKind.{BuiltinKind}
use Rattle.comp_graph.specs.declared.graph.BuiltinKind.TheVariants as kind
use Rattle.comp_graph.specs.declared.graph.CanonFunc.{CanonFunc}
use Rattle.comp_graph.specs.declared.graph.CanonFunc.TheVariants as canon
use Rattle.comp_graph.specs.Graph.{Graph, no_options}

abbrev pub canon_at : Graph → ℕ → Option CanonFunc
canon_at g number = slice_get g.canons number

-- the component instance that made it
abbrev pub instance_of : CanonFunc → ℕ
instance_of (canon.Lower l) = l.instance
instance_of (canon.Builtin b) = b.instance

-- what else it uses: of a wait the memory for its event
abbrev pub memory_alone : CoreRef → Options
memory_alone memory = record no_options { memory = Some memory }

abbrev pub options_of_end : EndOp → Options
options_of_end end_op.New = no_options
options_of_end (end_op.Copy side options) = options
options_of_end (end_op.Cancel side is_async) = no_options
options_of_end (end_op.Drop side) = no_options

abbrev pub options_of_kind : BuiltinKind → Options
options_of_kind (kind.Resource op resource) = no_options
options_of_kind (kind.TaskReturn result options) = options
options_of_kind (kind.Plain op) = no_options
options_of_kind (kind.Context op slot) = no_options
options_of_kind (kind.Wait op cancellable memory) = memory_alone memory
options_of_kind (kind.End of_what element op) = options_of_end op

abbrev pub options_of : CanonFunc → Options
options_of (canon.Lower l) = l.options
options_of (canon.Builtin b) = options_of_kind b.kind

-- its flag: of a wait and of `yield` that a cancellation ends it, of `subtask.cancel` that it does not wait
abbrev pub flag_of_plain : PlainBuiltin → Bool
flag_of_plain plain.TaskCancel = false
flag_of_plain plain.BackpressureSet = false
flag_of_plain plain.BackpressureInc = false
flag_of_plain plain.BackpressureDec = false
flag_of_plain (plain.SubtaskCancel is_async) = is_async
flag_of_plain plain.SubtaskDrop = false
flag_of_plain (plain.Yield cancellable) = cancellable
flag_of_plain plain.WaitableSetNew = false
flag_of_plain plain.WaitableSetDrop = false
flag_of_plain plain.WaitableJoin = false

abbrev pub flag_of_kind : BuiltinKind → Bool
flag_of_kind (kind.Resource op resource) = false
flag_of_kind (kind.TaskReturn result options) = false
flag_of_kind (kind.Plain op) = flag_of_plain op
flag_of_kind (kind.Context op slot) = false
flag_of_kind (kind.Wait op cancellable memory) = cancellable
flag_of_kind (kind.End of_what element op) = false

abbrev pub flag_of : CanonFunc → Bool
flag_of (canon.Lower l) = false
flag_of (canon.Builtin b) = flag_of_kind b.kind

-- of that of a number; nothing and no flag where it is not there
abbrev pub options_in : Option CanonFunc → Options
options_in None = no_options
options_in (Some c) = options_of c

abbrev pub options_at : Graph → ℕ → Options
options_at g number = options_in (canon_at g number)

abbrev pub is_async : Graph → ℕ → Bool
is_async g number = (options_at g number).is_async

abbrev pub flag_in : Option CanonFunc → Bool
flag_in None = false
flag_in (Some c) = flag_of c

abbrev pub flag_at : Graph → ℕ → Bool
flag_at g number = flag_in (canon_at g number)

-- whether it is there, and this component instance made it
abbrev pub made_by : Option CanonFunc → ℕ → Bool
made_by None instance = false
made_by (Some c) instance = nat_eq (instance_of c) instance

abbrev pub is_made_in : Graph → ℕ → ℕ → Bool
is_made_in g number instance = made_by (canon_at g number) instance

-- Calls of the built-ins of streams and futures (Component Model, CanonicalABI.md, "Canonical Definitions"), whose lines are told. Those of all
-- other canonical functions are answered elsewhere. Of each canonical function the number of the type of its ends is said, where it has ends, as a
-- graph has it: in its table of types no type stands twice, so ends of the same type have the same number.
use Rattle.std.specs.Prelude.{ℕ, List, Option}
use Rattle.std.specs.List.{slice_get}
use Rattle.syntax_trees.specs.declared.types.ValType.{ValType}
use Rattle.builtin_kinds.specs.declared.EndKind.{EndKind}
use Rattle.builtin_kinds.specs.declared.EndSide.{EndSide}
use Rattle.builtin_kinds.specs.declared.EndSide.TheVariants as end_side
use Rattle.stream_ends.specs.declared.side.Side.{Side}
use Rattle.stream_ends.specs.declared.side.Side.TheVariants.{Reader, Writer}
use Rattle.comp_graph.specs.declared.graph.EndOp.{EndOp}
use Rattle.comp_graph.specs.declared.graph.EndOp.TheVariants as end_op
use Rattle.comp_graph.specs.declared.graph.BuiltinKind.{BuiltinKind}
use Rattle.comp_graph.specs.declared.graph.BuiltinKind.TheVariants as kind
use Rattle.comp_graph.specs.declared.graph.CanonFunc.{CanonFunc}
use Rattle.comp_graph.specs.declared.graph.CanonFunc.TheVariants as canon
use Rattle.comp_graph.specs.Graph.{Graph}
use Rattle.graph_views.specs.Canons.{canon_at}
use Rattle.world_parts.specs.declared.parts.Flow.{Flow}
use Rattle.world_parts.specs.Held.{Held, Done, Stuck, given}
use Rattle.world_parts.specs.Copies.{channel_new, copy_cancel, end_drop}
use Rattle.copy_replies.specs.Seen.{seen}
use Rattle.copy_replies.specs.Reads.{copy_asked}
use Rattle.copy_replies.specs.Moves.{element_at}

abbrev pub side_of : EndSide → Side
side_of end_side.Readable = Reader
side_of end_side.Writable = Writer

-- by what a built-in does, with ends of the type of a number
abbrev pub op_reply : Graph → Option ValType → ℕ → ℕ → ℕ → EndKind → ℕ → EndOp → List ℕ → Held → Done Flow
op_reply g element t at number of_what type end_op.New words h = channel_new t at of_what type h
op_reply g element t at number of_what type (end_op.Copy side options) words h =
    copy_asked (seen g) element t at number of_what (side_of side) type words h
op_reply g element t at number of_what type (end_op.Cancel side is_async) words h = copy_cancel (seen g) t at of_what (side_of side) type words h
op_reply g element t at number of_what type (end_op.Drop side) words h = end_drop t at of_what (side_of side) type words h

abbrev pub kind_reply : Graph → List (Option ℕ) → Option ValType → ℕ → ℕ → ℕ → BuiltinKind → List ℕ → Held → Done Flow
kind_reply g types element t at number (kind.Resource op resource) words h = Stuck
kind_reply g types element t at number (kind.TaskReturn result options) words h = Stuck
kind_reply g types element t at number (kind.Plain op) words h = Stuck
kind_reply g types element t at number (kind.Context op slot) words h = Stuck
kind_reply g types element t at number (kind.Wait op cancellable memory) words h = Stuck
kind_reply g types element t at number (kind.End of_what value op) words h =
    given (slice_get types number) (λ known. given known (λ type. op_reply g element t at number of_what type op words h))

abbrev pub canon_reply : Graph → List (Option ℕ) → Option ValType → ℕ → ℕ → CanonFunc → List ℕ → Held → Done Flow
canon_reply g types element t number (canon.Lower l) words h = Stuck
canon_reply g types element t number (canon.Builtin b) words h = kind_reply g types element t b.instance number b.kind words h

-- the canonical function of a number, with the words of the call
abbrev pub end_reply : Graph → List (Option ℕ) → ℕ → ℕ → List ℕ → Held → Done Flow
end_reply g types t number words h = given (canon_at g number) (λ c. canon_reply g types (element_at g number) t number c words h)

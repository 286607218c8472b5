-- Built-ins of streams and futures, up to where elements go over, leave the store alone, and no handle is lent more often.
use Rattle.std.proofs.Common.{◌≡◌, refl}
use Rattle.std.specs.Prelude.{ℕ, List, Option}
use Rattle.std.specs.List.{slice_get}
use Rattle.syntax_trees.specs.declared.types.ValType.{ValType}
use Rattle.builtin_kinds.specs.declared.EndKind.{EndKind}
use Rattle.builtin_kinds.specs.declared.EndSide.{EndSide}
use Rattle.builtin_kinds.specs.declared.EndSide.TheVariants as end_side
use Rattle.stream_ends.specs.declared.side.Side.{Side}
use Rattle.stream_ends.specs.declared.side.Side.TheVariants.{Reader, Writer}
use Rattle.comp_graph.specs.declared.graph.EndOp.{EndOp}
use Rattle.comp_graph.specs.declared.graph.EndOp.TheVariants as end_op
use Rattle.comp_graph.specs.declared.graph.BuiltinKind.{BuiltinKind}
use Rattle.comp_graph.specs.declared.graph.BuiltinKind.TheVariants as kind
use Rattle.comp_graph.specs.declared.graph.CanonFunc.{CanonFunc}
use Rattle.comp_graph.specs.declared.graph.CanonFunc.TheVariants as canon
use Rattle.comp_graph.specs.Graph.{Graph}
use Rattle.graph_views.specs.Canons.{canon_at}
use Rattle.world_parts.specs.declared.parts.Flow.{Flow}
use Rattle.world_parts.specs.Held.{Held, Done, Stuck, given}
use Rattle.world_parts.specs.Copies.{channel_new, copy_cancel, end_drop}
use Rattle.copy_replies.specs.Seen.{seen}
use Rattle.copy_replies.specs.Reads.{copy_asked}
use Rattle.copy_replies.specs.Moves.{element_at}
use Rattle.copy_replies.specs.Replies.{canon_reply, end_reply, kind_reply, op_reply, side_of}
use Rattle.value_parts.proofs.fit.Keeps.{KeepsBy, keeps_after, keeps_given, keeps_if, keeps_same, keeps_all, keeps_from}
use Rattle.machine_runs.proofs.fit.Reads.{copy_asked_keeps}
use Rattle.value_parts.proofs.fit.Copies.{channel_new_keeps, copy_cancel_keeps, end_drop_keeps}

pub op_reply_keeps : (g : Graph) (element : Option ValType) (t : ℕ) (at : ℕ) (number : ℕ) (of_what : EndKind) (type : ℕ) (x : EndOp) (words : List ℕ) (h : Held) → KeepsBy h (op_reply g element t at number of_what type x words h)
op_reply_keeps g element t at number of_what type end_op.New words h =
    channel_new_keeps t at of_what type h
op_reply_keeps g element t at number of_what type (end_op.Copy side options) words h =
    copy_asked_keeps (seen g) element t at number of_what (side_of side) type words h
op_reply_keeps g element t at number of_what type (end_op.Cancel side is_async) words h =
    copy_cancel_keeps (seen g) t at of_what (side_of side) type words h
op_reply_keeps g element t at number of_what type (end_op.Drop side) words h =
    end_drop_keeps t at of_what (side_of side) type words h

pub kind_reply_keeps : (g : Graph) (types : List (Option ℕ)) (element : Option ValType) (t : ℕ) (at : ℕ) (number : ℕ) (x : BuiltinKind) (words : List ℕ) (h : Held) → KeepsBy h (kind_reply g types element t at number x words h)
kind_reply_keeps g types element t at number (kind.Resource op resource) words h =
    tt
kind_reply_keeps g types element t at number (kind.TaskReturn result options) words h =
    tt
kind_reply_keeps g types element t at number (kind.Plain op) words h =
    tt
kind_reply_keeps g types element t at number (kind.Context op slot) words h =
    tt
kind_reply_keeps g types element t at number (kind.Wait op cancellable memory) words h =
    tt
kind_reply_keeps g types element t at number (kind.End of_what value op) words h =
    keeps_given h (slice_get types number) (λ known. given known (λ type. op_reply g element t at number of_what type op words h)) (λ known is. keeps_given h known (λ type. op_reply g element t at number of_what type op words h) (λ type is. op_reply_keeps g element t at number of_what type op words h))

pub canon_reply_keeps : (g : Graph) (types : List (Option ℕ)) (element : Option ValType) (t : ℕ) (number : ℕ) (x : CanonFunc) (words : List ℕ) (h : Held) → KeepsBy h (canon_reply g types element t number x words h)
canon_reply_keeps g types element t number (canon.Lower l) words h =
    tt
canon_reply_keeps g types element t number (canon.Builtin b) words h =
    kind_reply_keeps g types element t b.instance number b.kind words h

pub end_reply_keeps : (g : Graph) (types : List (Option ℕ)) (t : ℕ) (number : ℕ) (words : List ℕ) (h : Held) → KeepsBy h (end_reply g types t number words h)
end_reply_keeps g types t number words h =
    keeps_given h (canon_at g number) (λ c. canon_reply g types (element_at g number) t number c words h) (λ c is. canon_reply_keeps g types (element_at g number) t number c words h)

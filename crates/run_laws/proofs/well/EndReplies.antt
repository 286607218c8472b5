-- Built-ins of streams and futures: what is kept well stays so.
use Rattle.std.specs.Prelude.{ℕ, List, Option}
use Rattle.std.specs.List.{slice_get}
use Rattle.syntax_trees.specs.declared.types.ValType.{ValType}
use Rattle.builtin_kinds.specs.declared.EndKind.{EndKind}
use Rattle.comp_graph.specs.declared.graph.EndOp.{EndOp}
use Rattle.comp_graph.specs.declared.graph.EndOp.TheVariants as end_op
use Rattle.comp_graph.specs.declared.graph.BuiltinKind.{BuiltinKind}
use Rattle.comp_graph.specs.declared.graph.BuiltinKind.TheVariants as kind
use Rattle.comp_graph.specs.declared.graph.CanonFunc.{CanonFunc}
use Rattle.comp_graph.specs.declared.graph.CanonFunc.TheVariants as canon
use Rattle.comp_graph.specs.Graph.{Graph}
use Rattle.graph_views.specs.Canons.{canon_at}
use Rattle.world_parts.specs.Held.{Held, given}
use Rattle.copy_replies.specs.Seen.{seen}
use Rattle.copy_replies.specs.Moves.{element_at}
use Rattle.copy_replies.specs.Replies.{canon_reply, end_reply, kind_reply, op_reply, side_of}
use Rattle.run_laws.specs.keeping.Well.{KeepsWell}
use Rattle.run_laws.proofs.well.Reads.{copy_asked_well}
use Rattle.run_laws.proofs.well.Copies.{channel_new_well, copy_cancel_well, end_drop_well}
use Rattle.run_laws.proofs.well.Behind.{well_given}

pub op_reply_well : (g : Graph) (element : Option ValType) (t : ℕ) (at : ℕ) (number : ℕ) (of_what : EndKind) (type : ℕ) (x : EndOp) (words : List ℕ) (h : Held) → KeepsWell h (op_reply g element t at number of_what type x words h)
op_reply_well g element t at number of_what type end_op.New words h =
    channel_new_well t at of_what type h
op_reply_well g element t at number of_what type (end_op.Copy side options) words h =
    copy_asked_well (seen g) element t at number of_what (side_of side) type words h
op_reply_well g element t at number of_what type (end_op.Cancel side is_async) words h =
    copy_cancel_well (seen g) t at of_what (side_of side) type words h
op_reply_well g element t at number of_what type (end_op.Drop side) words h =
    end_drop_well t at of_what (side_of side) type words h

pub kind_reply_well : (g : Graph) (types : List (Option ℕ)) (element : Option ValType) (t : ℕ) (at : ℕ) (number : ℕ) (x : BuiltinKind) (words : List ℕ) (h : Held) → KeepsWell h (kind_reply g types element t at number x words h)
kind_reply_well g types element t at number (kind.Resource op resource) words h =
    tt
kind_reply_well g types element t at number (kind.TaskReturn result options) words h =
    tt
kind_reply_well g types element t at number (kind.Plain op) words h =
    tt
kind_reply_well g types element t at number (kind.Context op slot) words h =
    tt
kind_reply_well g types element t at number (kind.Wait op cancellable memory) words h =
    tt
kind_reply_well g types element t at number (kind.End of_what value op) words h =
    well_given h (slice_get types number) (λ known. given known (λ type. op_reply g element t at number of_what type op words h)) (λ known is. well_given h known (λ type. op_reply g element t at number of_what type op words h) (λ type is. op_reply_well g element t at number of_what type op words h))

pub canon_reply_well : (g : Graph) (types : List (Option ℕ)) (element : Option ValType) (t : ℕ) (number : ℕ) (x : CanonFunc) (words : List ℕ) (h : Held) → KeepsWell h (canon_reply g types element t number x words h)
canon_reply_well g types element t number (canon.Lower l) words h =
    tt
canon_reply_well g types element t number (canon.Builtin b) words h =
    kind_reply_well g types element t b.instance number b.kind words h

pub end_reply_well : (g : Graph) (types : List (Option ℕ)) (t : ℕ) (number : ℕ) (words : List ℕ) (h : Held) → KeepsWell h (end_reply g types t number words h)
end_reply_well g types t number words h =
    well_given h (canon_at g number) (λ c. canon_reply g types (element_at g number) t number c words h) (λ c is. canon_reply_well g types (element_at g number) t number c words h)

-- Built-ins of streams and futures, up to where elements go over, leave marks of handles and subtasks as they are.
use Rattle.std.specs.Prelude.{◌≡◌, ℕ, List, Option, Some}
use Rattle.std.specs.List.{slice_get}
use Rattle.syntax_trees.specs.declared.types.ValType.{ValType}
use Rattle.builtin_kinds.specs.declared.EndKind.{EndKind}
use Rattle.comp_graph.specs.declared.graph.EndOp.{EndOp}
use Rattle.comp_graph.specs.declared.graph.EndOp.TheVariants as end_op
use Rattle.comp_graph.specs.declared.graph.BuiltinKind.{BuiltinKind}
use Rattle.comp_graph.specs.declared.graph.BuiltinKind.TheVariants as kind
use Rattle.comp_graph.specs.declared.graph.CanonFunc.{CanonFunc}
use Rattle.comp_graph.specs.declared.graph.CanonFunc.TheVariants as canon
use Rattle.comp_graph.specs.Graph.{Graph}
use Rattle.graph_views.specs.Canons.{canon_at}
use Rattle.world_parts.specs.Held.{Held, given}
use Rattle.copy_replies.specs.Seen.{seen}
use Rattle.copy_replies.specs.Moves.{element_at}
use Rattle.copy_replies.specs.Replies.{canon_reply, end_reply, kind_reply, op_reply, side_of}
use Rattle.run_laws.proofs.keeping.Others.{KeptBy}
use Rattle.run_laws.proofs.keeping.Others.{keeps_given}
use Rattle.run_laws.specs.keeping.Kept.{TableIsSound}
use Rattle.run_laws.proofs.keeping.parts.Reads.{RunsThere, copy_asked_keeps}
use Rattle.run_laws.proofs.keeping.parts.Copies.{channel_new_keeps, copy_cancel_keeps, end_drop_keeps}

pub op_reply_keeps : (g : Graph) (element : Option ValType) (t : ℕ) (at : ℕ) (number : ℕ) (of_what : EndKind) (type : ℕ) (x : EndOp) (words : List ℕ) (h : Held) → TableIsSound h at → RunsThere h t at → KeptBy h (op_reply g element t at number of_what type x words h)
op_reply_keeps g element t at number of_what type end_op.New words h sound runs =
    channel_new_keeps t at of_what type h sound
op_reply_keeps g element t at number of_what type (end_op.Copy side options) words h sound runs =
    copy_asked_keeps (seen g) element t at number of_what (side_of side) type words h runs
op_reply_keeps g element t at number of_what type (end_op.Cancel side is_async) words h sound runs =
    copy_cancel_keeps (seen g) t at of_what (side_of side) type words h
op_reply_keeps g element t at number of_what type (end_op.Drop side) words h sound runs =
    end_drop_keeps t at of_what (side_of side) type words h

pub kind_reply_keeps : (g : Graph) (types : List (Option ℕ)) (element : Option ValType) (t : ℕ) (at : ℕ) (number : ℕ) (x : BuiltinKind) (words : List ℕ) (h : Held) → TableIsSound h at → RunsThere h t at → KeptBy h (kind_reply g types element t at number x words h)
kind_reply_keeps g types element t at number (kind.Resource op resource) words h sound runs =
    tt
kind_reply_keeps g types element t at number (kind.TaskReturn result options) words h sound runs =
    tt
kind_reply_keeps g types element t at number (kind.Plain op) words h sound runs =
    tt
kind_reply_keeps g types element t at number (kind.Context op slot) words h sound runs =
    tt
kind_reply_keeps g types element t at number (kind.Wait op cancellable memory) words h sound runs =
    tt
kind_reply_keeps g types element t at number (kind.End of_what value op) words h sound runs =
    keeps_given h (slice_get types number) (λ known. given known (λ type. op_reply g element t at number of_what type op words h)) (λ known is. keeps_given h known (λ type. op_reply g element t at number of_what type op words h) (λ type is. op_reply_keeps g element t at number of_what type op words h sound runs))

-- The instance that made a built-in has a sound table, and the task runs there.
abbrev pub MadeWell : Held → ℕ → CanonFunc → Type 0
MadeWell h t (canon.Lower l) = Unit {0}
MadeWell h t (canon.Builtin b) = TableIsSound h b.instance × RunsThere h t b.instance

pub canon_reply_keeps : (g : Graph) (types : List (Option ℕ)) (element : Option ValType) (t : ℕ) (number : ℕ) (x : CanonFunc) (words : List ℕ) (h : Held) → MadeWell h t x → KeptBy h (canon_reply g types element t number x words h)
canon_reply_keeps g types element t number (canon.Lower l) words h well =
    tt
canon_reply_keeps g types element t number (canon.Builtin b) words h well =
    kind_reply_keeps g types element t b.instance number b.kind words h well.0 well.1

pub end_reply_keeps : (g : Graph) (types : List (Option ℕ)) (t : ℕ) (number : ℕ) (words : List ℕ) (h : Held) → ((c : CanonFunc) → canon_at g number ≡ Some c → MadeWell h t c) → KeptBy h (end_reply g types t number words h)
end_reply_keeps g types t number words h well =
    keeps_given h (canon_at g number) (λ c. canon_reply g types (element_at g number) t number c words h) (λ c is. canon_reply_keeps g types (element_at g number) t number c words h (well c is))

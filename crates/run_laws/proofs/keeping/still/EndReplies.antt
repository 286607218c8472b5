-- Built-ins of streams and futures, up to where elements go over, keep memories, core instances and ends as they are kept.
use Rattle.std.proofs.Common.{◌≡◌, ◌∙◌, ap, refl}
use Rattle.std.specs.Prelude.{ℕ, List, Option, Some}
use Rattle.std.specs.List.{slice_get}
use Rattle.syntax_trees.specs.declared.types.ValType.{ValType}
use Rattle.builtin_kinds.specs.declared.EndKind.{EndKind}
use Rattle.comp_graph.specs.declared.graph.EndOp.{EndOp}
use Rattle.comp_graph.specs.declared.graph.EndOp.TheVariants as end_op
use Rattle.comp_graph.specs.declared.graph.BuiltinKind.{BuiltinKind}
use Rattle.comp_graph.specs.declared.graph.BuiltinKind.TheVariants as kind
use Rattle.comp_graph.specs.declared.graph.CanonFunc.{CanonFunc}
use Rattle.comp_graph.specs.declared.graph.CanonFunc.TheVariants as canon
use Rattle.comp_graph.specs.Graph.{Graph}
use Rattle.graph_views.specs.Canons.{canon_at}
use Rattle.world_parts.specs.Held.{Held, given}
use Rattle.copy_replies.specs.Seen.{seen}
use Rattle.copy_replies.specs.Moves.{element_at}
use Rattle.copy_replies.specs.Replies.{canon_reply, end_reply, kind_reply, op_reply, side_of}
use Rattle.run_laws.proofs.keeping.still.Still.{Kinds, StillBy, still_given}
use Rattle.run_laws.proofs.keeping.still.EndsRead.{copy_asked_still}
use Rattle.run_laws.specs.keeping.Still.{TypesFit}
use Rattle.run_laws.proofs.keeping.still.EndsMade.{channel_new_still}
use Rattle.run_laws.proofs.keeping.still.EndParts.{copy_cancel_still, end_drop_still}

pub op_reply_still : (W : Kinds) → (g : Graph) (element : Option ValType) (t : ℕ) (at : ℕ) (number : ℕ) (of_what : EndKind) (type : ℕ) (x : EndOp) (words : List ℕ) (h : Held) → ((K : ℕ → EndKind) → W ≡ Some K → K type ≡ of_what) → StillBy W h (op_reply g element t at number of_what type x words h)
op_reply_still W g element t at number of_what type end_op.New words h of =
    channel_new_still W t at of_what type h of
op_reply_still W g element t at number of_what type (end_op.Copy side options) words h of =
    copy_asked_still W (seen g) element t at number of_what (side_of side) type words h of
op_reply_still W g element t at number of_what type (end_op.Cancel side is_async) words h of =
    copy_cancel_still W (seen g) t at of_what (side_of side) type words h of
op_reply_still W g element t at number of_what type (end_op.Drop side) words h of =
    end_drop_still W t at of_what (side_of side) type words h of

pub kind_reply_still : (W : Kinds) → (g : Graph) (types : List (Option ℕ)) (element : Option ValType) (t : ℕ) (at : ℕ) (number : ℕ) (x : BuiltinKind) (words : List ℕ) (h : Held)
    → ((K : ℕ → EndKind) (of_what : EndKind) (value : Option ValType) (op : EndOp) (type : ℕ) → W ≡ Some K → x ≡ kind.End of_what value op → slice_get types number ≡ Some (Some type) → K type ≡ of_what)
    → StillBy W h (kind_reply g types element t at number x words h)
kind_reply_still W g types element t at number (kind.Resource op resource) words h of =
    tt
kind_reply_still W g types element t at number (kind.TaskReturn result options) words h of =
    tt
kind_reply_still W g types element t at number (kind.Plain op) words h of =
    tt
kind_reply_still W g types element t at number (kind.Context op slot) words h of =
    tt
kind_reply_still W g types element t at number (kind.Wait op cancellable memory) words h of =
    tt
kind_reply_still W g types element t at number (kind.End of_what value op) words h of =
    still_given W h (slice_get types number) (λ known. given known (λ type. op_reply g element t at number of_what type op words h)) (λ known is. still_given W h known (λ type. op_reply g element t at number of_what type op words h) (λ type told. op_reply_still W g element t at number of_what type op words h (λ K asked. of K of_what value op type asked refl (is ∙ ap (λ (o : Option ℕ). Some o) told))))

pub canon_reply_still : (W : Kinds) → (g : Graph) (types : List (Option ℕ)) (element : Option ValType) (t : ℕ) (number : ℕ) (x : CanonFunc) (words : List ℕ) (h : Held) → canon_at g number ≡ Some x
    → ((K : ℕ → EndKind) → W ≡ Some K → TypesFit g types K) → StillBy W h (canon_reply g types element t number x words h)
canon_reply_still W g types element t number (canon.Lower l) words h made fit =
    tt
canon_reply_still W g types element t number (canon.Builtin b) words h made fit =
    kind_reply_still W g types element t b.instance number b.kind words h (λ K of_what value op type asked is told. fit K asked number type b of_what value op made is told)

pub end_reply_still : (W : Kinds) → (g : Graph) (types : List (Option ℕ)) (t : ℕ) (number : ℕ) (words : List ℕ) (h : Held) → ((K : ℕ → EndKind) → W ≡ Some K → TypesFit g types K) → StillBy W h (end_reply g types t number words h)
end_reply_still W g types t number words h fit =
    still_given W h (canon_at g number) (λ c. canon_reply g types (element_at g number) t number c words h) (λ c is. canon_reply_still W g types (element_at g number) t number c words h is fit)

-- Calls of the built-ins of streams and futures, by their canonical functions.
use Rattle.std.proofs.Common.{◌≡◌, ℕ, List, is_some, slice_index, refl, sym, ap, ◌∙◌, subst, Option, Some, None}
use Rattle.std.specs.Prelude.{IsSome}
use Rattle.std.specs.List.{slice_get}
use Rattle.syntax_trees.specs.declared.types.FuncType.{FuncType}
use Rattle.syntax_trees.specs.declared.types.ValType.{ValType}
use Rattle.laid_types.specs.SameTypes.{AreDistinct}
use Rattle.wasm_store.specs.Stack.{Stack}
use Rattle.builtin_kinds.specs.declared.EndKind.{EndKind}
use Rattle.builtin_kinds.specs.declared.EndSide.{EndSide}
use Rattle.builtin_kinds.specs.declared.EndSide.TheVariants as end_side
use Rattle.stream_ends.specs.declared.side.Side.{Side}
use Rattle.comp_graph.specs.declared.graph.Builtin.{Builtin}
use Rattle.comp_graph.specs.declared.graph.BuiltinKind.{BuiltinKind}
use Rattle.comp_graph.specs.declared.graph.BuiltinKind.TheVariants as kind
use Rattle.comp_graph.specs.declared.graph.CanonFunc.{CanonFunc}
use Rattle.comp_graph.specs.declared.graph.CanonFunc.TheVariants as canon
use Rattle.comp_graph.specs.declared.graph.EndOp.{EndOp}
use Rattle.comp_graph.specs.declared.graph.EndOp.TheVariants as end_op
use Rattle.comp_graph.specs.declared.graph.Options.{Options}
use Rattle.comp_graph.specs.Graph.{Graph, passed_value, numbered_value}
use Rattle.comp_graph.specs.Passed.{TypeTable, MayBeAt, HasCanonType, AreCanonTypes}
use Rattle.script_reader.specs.Script.{Script}
use Rattle.world_parts.specs.Held.{Held, given}
use Rattle.world_parts.specs.Slots.{word_in}
use Rattle.copy_replies.specs.Reads.{length_in}
use Rattle.copy_replies.specs.Moves.{value_in}
use Rattle.copy_replies.specs.Replies as replies
use Rattle.copy_replies.specs.Replies.{op_reply, kind_reply, canon_reply, end_reply}
use Rattle.copy_replies.specs.Seen.{seen}
use Rattle.abi_machine.specs.World.{Acting, Task, World}
use Rattle.abi_machine.specs.Canons.{options_in, options_of_kind, options_at, canon_at}
use Rattle.abi_machine.specs.Reply as machine
use Rattle.abi_machine.specs.Reply.{copy_size, end_turn, builtin_turn}
use Rattle.abi_machine.specs.replies.Streams.{copy_turn, copy_cancel_turn, end_drop_turn}
use Rattle.abi_machine.proofs.sound.Found.{some_same, some_there}
use Rattle.standing.specs.Stands.{Stands}
use Rattle.standing.specs.Channels.{IsEndsType, HasMarkedEnds}
use Rattle.standing.specs.Ends.{HasMemory, HasLiveEnds}
use Rattle.standing.specs.EndReplies.{HasWords, EndIsAnswered}
use Rattle.standing.specs.Agreeing.{Agrees}
use Rattle.standing.proofs.Lists.{IsFound, found_both}
use Rattle.standing.proofs.Agreeing.{turn_as}
use Rattle.standing.proofs.Going.{done_as}
use Rattle.standing.proofs.EndsDropped.{end_is_dropped}
use Rattle.standing.proofs.EndsTold.{channel_is_made, copy_is_cancelled}
use Rattle.standing.proofs.CopiesAsked.{copy_is_asked}
use Rattle.standing.proofs.Seen.{graph_is_seen}

-- The number of the type of a canonical function's ends.
record TypeFound (values : List ValType) (of_what : EndKind) (element : Option ValType) (o : Option (Option ℕ)) : Type 0 where
  type : ℕ
  is : o ≡ Some (Some type)
  of : IsEndsType values of_what element type

type_by : (values : List ValType) (of_what : EndKind) (element : Option ValType) (known : Option ℕ) → MayBeAt values known (numbered_value (kind.End of_what element end_op.New))
    → TypeFound values of_what element (Some known)
type_by values of_what element None h = absurd h
type_by values of_what element (Some type) h = record { type = type; is = refl; of = h }

type_found : (g : Graph) (values : List ValType) (funcs : List FuncType) (types : List (Option ℕ)) (number : ℕ) (b : Builtin) (of_what : EndKind) (element : Option ValType) (op : EndOp)
    → AreCanonTypes (record { funcs = funcs; values = values }) types g.canons → canon_at g number ≡ Some (canon.Builtin b) → b.kind ≡ kind.End of_what element op
    → TypeFound values of_what element (slice_get types number)
type_found g values funcs types number b of_what element op all is kind_is =
    let table : TypeTable = record { funcs = funcs; values = values } in
    let f : IsFound (HasCanonType table) (slice_get types number) (slice_get g.canons number) = found_both (HasCanonType table) types g.canons number all (ap is_some is) in
    let stands : HasCanonType table f.left (canon.Builtin b) = subst (λ (c : CanonFunc). HasCanonType table f.left c) (some_same (sym f.is_right ∙ is)) f.alike in
    subst (λ (o : Option (Option ℕ)). TypeFound values of_what element o) (sym f.is_left)
    (type_by values of_what element f.left (subst (λ (k : BuiltinKind). MayBeAt values f.left (numbered_value k)) kind_is stands))

sides_same : (side : EndSide) → replies.side_of side ≡ machine.side_of side
sides_same end_side.Readable = refl
sides_same end_side.Writable = refl

module _ (g : Graph) (values : List ValType) (s : Script) (h : Held) (stacks : List (List Stack)) (w : World) (t number : ℕ) (task : Task) (b : Builtin) (of_what : EndKind)
    (element : Option ValType) (type : ℕ) (words : List ℕ)
    (once : AreDistinct values) (of : IsEndsType values of_what element type) (is : canon_at g number ≡ Some (canon.Builtin b)) (has : HasMemory h w (options_at g number))
    (marks : HasMarkedEnds h) (live : HasLiveEnds w b.instance) (inside : IsSome (slice_get w.insts b.instance)) (first : slice_get w.chain 0 ≡ Some t) (there : slice_get w.tasks t ≡ Some task)
    (acts : task.state ≡ Acting) (st : Stands g values s h stacks w) where
  by_op : (op : EndOp) → b.kind ≡ kind.End of_what element op → HasWords of_what op words
      → Agrees g values s t h.labels stacks (op_reply g element t b.instance number of_what type op words h) (end_turn g t b.instance number of_what element op words w)
  unfolding end_turn
  by_op end_op.New kind_is has_words = channel_is_made g values s h stacks w t b.instance type of_what element of inside st
  by_op (end_op.Copy side options) kind_is has_words =
      let index = some_there (word_in words 0) has_words.0 in
      let place = some_there (word_in words 1) has_words.1 in
      let size = some_there (length_in of_what words) has_words.2 in
      let same : options_at g number ≡ options = ap options_in is ∙ ap options_of_kind kind_is in
      turn_as g values s t h.labels stacks _ _
      (copy_turn g t b.instance number of_what (replies.side_of side) element (options_at g number) words (copy_size of_what words) w)
      (ap (λ (x : Side). copy_turn g t b.instance number of_what x element options words (copy_size of_what words) w) (sym (sides_same side))
      ∙ ap (λ (o : Options). copy_turn g t b.instance number of_what (replies.side_of side) element o words (copy_size of_what words) w) (sym same))
      (copy_is_asked g values s (seen g) h stacks w t b.instance number type index.0 place.0 size.0 task (canon.Builtin b) of_what (replies.side_of side) element words
      (graph_is_seen g).0 is refl index.1 place.1 size.1 once of has marks live inside first there acts st)
  by_op (end_op.Cancel side is_async) kind_is has_words =
      let index = some_there (word_in words 0) has_words in
      turn_as g values s t h.labels stacks _ _ (copy_cancel_turn g t b.instance of_what (replies.side_of side) element (slice_index words 0) w)
      (ap (λ (x : Side). copy_cancel_turn g t b.instance of_what x element (slice_index words 0) w) (sym (sides_same side)))
      (copy_is_cancelled g values s (seen g) h stacks w t b.instance type index.0 of_what (replies.side_of side) element words (graph_is_seen g).0 index.1 once of marks inside st)
  by_op (end_op.Drop side) kind_is has_words =
      let index = some_there (word_in words 0) has_words in
      turn_as g values s t h.labels stacks _ _ (end_drop_turn t b.instance of_what (replies.side_of side) element (slice_index words 0) w)
      (ap (λ (x : Side). end_drop_turn t b.instance of_what x element (slice_index words 0) w) (sym (sides_same side)))
      (end_is_dropped g values s h stacks w t b.instance type index.0 of_what (replies.side_of side) element words index.1 once of marks live inside st)

pub end_is_answered : EndIsAnswered
unfolding builtin_turn
end_is_answered g values s h stacks w t number task b of_what element op funcs types words once all is kind_is has_words has marks live inside first there acts st =
    let found : TypeFound values of_what element (slice_get types number) = type_found g values funcs types number b of_what element op all is kind_is in
    done_as g values s t h.labels stacks _ (op_reply g element t b.instance number of_what found.type op words h) _
    (ap (λ (o : Option CanonFunc). given o (λ c. canon_reply g types (value_in o) t number c words h)) is
    ∙ ap (λ (k : BuiltinKind). kind_reply g types (passed_value k) t b.instance number k words h) kind_is
    ∙ ap (λ (o : Option (Option ℕ)). given o (λ known. given known (λ type. op_reply g element t b.instance number of_what type op words h))) found.is)
    (turn_as g values s t h.labels stacks _ _ (end_turn g t b.instance number of_what element op words w) (ap (λ (k : BuiltinKind). builtin_turn g t task b.instance number k words w) kind_is)
    (by_op g values s h stacks w t number task b of_what element found.type words once found.of is has marks live inside first there acts st op kind_is has_words))

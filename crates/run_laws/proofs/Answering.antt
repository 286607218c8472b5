-- What each canonical function answers.
use Rattle.std.proofs.Common.{◌≡◌, ◌<◌, inl, inr, ℕ, zero, suc, Bool, true, is_some, List, [], ◌∷◌, ◌++◌, slice_index, refl, sym, ap, ◌∙◌, subst, arith, Option, Some, None}
use Rattle.std.specs.Prelude.{IsSome}
use Rattle.std.specs.List.{slice_get}
use Rattle.syntax_trees.specs.declared.types.FuncType.{FuncType}
use Rattle.syntax_trees.specs.declared.types.ValType.{ValType}
use Rattle.wasm_store.specs.Stack.{Stack}
use Rattle.builtin_kinds.specs.declared.ContextOp.{ContextOp}
use Rattle.builtin_kinds.specs.declared.ContextOp.TheVariants as context_op
use Rattle.builtin_kinds.specs.declared.EndKind.{EndKind}
use Rattle.builtin_kinds.specs.declared.EndKind.TheVariants as end_kind
use Rattle.builtin_kinds.specs.declared.PlainBuiltin.{PlainBuiltin}
use Rattle.builtin_kinds.specs.declared.PlainBuiltin.TheVariants as plain
use Rattle.builtin_kinds.specs.declared.ResourceOp.{ResourceOp}
use Rattle.builtin_kinds.specs.declared.ResourceOp.TheVariants as resource_op
use Rattle.builtin_kinds.specs.declared.WaitOp.{WaitOp}
use Rattle.comp_graph.specs.declared.graph.Builtin.{Builtin}
use Rattle.comp_graph.specs.declared.graph.BuiltinKind.{BuiltinKind}
use Rattle.comp_graph.specs.declared.graph.BuiltinKind.TheVariants as kind
use Rattle.comp_graph.specs.declared.graph.CanonFunc.{CanonFunc}
use Rattle.comp_graph.specs.declared.graph.CanonFunc.TheVariants as canon
use Rattle.comp_graph.specs.declared.graph.CoreRef.{CoreRef}
use Rattle.comp_graph.specs.declared.graph.EndOp.{EndOp}
use Rattle.comp_graph.specs.declared.graph.EndOp.TheVariants as end_op
use Rattle.comp_graph.specs.declared.graph.Lower.{Lower}
use Rattle.comp_graph.specs.declared.graph.Options.{Options}
use Rattle.comp_graph.specs.Graph.{Graph, Lifted}
use Rattle.script_reader.specs.Script.{Script}
use Rattle.trace_labels.specs.declared.label.Label.{Label}
use Rattle.instances.specs.declared.entry.WorldEntry.TheVariants as entry
use Rattle.task_table.specs.declared.errand.Callee.TheVariants as callee
use Rattle.world_parts.specs.declared.parts.Flow.{Flow}
use Rattle.world_parts.specs.declared.parts.Rest.TheVariants as rest
use Rattle.world_parts.specs.Held.{Held, Done}
use Rattle.world_parts.specs.Places.{memory_by}
use Rattle.world_parts.specs.Slots.{word_in}
use Rattle.world_parts.specs.Waits.{set_wait}
use Rattle.copy_replies.specs.Reads.{length_in}
use Rattle.copy_replies.specs.Replies.{end_reply}
use Rattle.graph_views.specs.Callees.{kind_of}
use Rattle.replies.specs.Seen.{seen}
use Rattle.replies.specs.Replies.{lowered, plain_reply, builtin_reply}
use Rattle.machine_runs.specs.Calling.{kind_answered, canon_answered}
use Rattle.abi_machine.specs.World.{Func, Acting, Inst, Task, World}
use Rattle.abi_machine.specs.Canons.{lifted_of, flag_of_kind, flag_in, canon_at, flag_at, inst_of_canon, options_at}
use Rattle.abi_machine.specs.Reading.{func_of, may_leave}
use Rattle.abi_machine.specs.Turn.{Turn}
use Rattle.abi_machine.specs.Calling.{call_begun}
use Rattle.abi_machine.specs.Reply.{resource_turn, plain_turn, builtin_turn, reply}
use Rattle.abi_machine.specs.replies.Tasks.{yield_turn}
use Rattle.abi_machine.specs.replies.Waiting.{wait_turn}
use Rattle.abi_machine.proofs.sound.Found.{some_same}
use Rattle.standing.specs.Tasks.{lowered_in}
use Rattle.standing.specs.Stands.{Stands}
use Rattle.standing.specs.Agreeing.{Agrees}
use Rattle.standing.specs.Callings.{AgreesMade, CallersRun}
use Rattle.standing.specs.EndReplies as ends
use Rattle.standing.specs.Events.{AgreesOn}
use Rattle.standing.specs.Moves.{StandsAt}
use Rattle.standing.specs.Waits.{KeepsCalls, HasNews}
use Rattle.standing.proofs.Answering.{handle_is_made, pressure_rises, pressure_falls, pressure_is_set, set_is_made, subtask_is_dropped}
use Rattle.standing.proofs.Backing.{call_still}
use Rattle.standing.proofs.Begun.{call_is_begun}
use Rattle.standing.proofs.Blocking.{task_yields}
use Rattle.standing.proofs.Dropping.{set_is_dropped}
use Rattle.standing.proofs.EndReplies.{end_is_answered}
use Rattle.standing.proofs.HandleDrops.{handle_is_dropped, resources_are_seen}
use Rattle.standing.proofs.Joining.{waitable_is_joined}
use Rattle.standing.proofs.Lists.{IsFound, found_both}
use Rattle.standing.specs.Instances.{InstStands}
use Rattle.standing.proofs.News.{ready_is_alike}
use Rattle.standing.proofs.Resolved.{task_returns, task_cancels}
use Rattle.standing.proofs.Seen.{graph_is_seen}
use Rattle.standing.proofs.Subtasked.{subtask_is_asked}
use Rattle.standing.proofs.Waiting.{set_is_waited_for}
use Rattle.run_laws.specs.Dispatch.{AgreesSo, line_told, Answers, HasWord, ContextRow, ResourceRow, KindRow, KeepsWords}
use Rattle.run_laws.specs.Answering.{words_of_plain, words_of_context, words_of_copy, words_of_end, words_of_kind, HasWordsFor, CallsOwn, IsSoundAt, IsBeside, HasTypes, AllAnswer, CallIsAnswered}
use Rattle.run_laws.proofs.Calls.{call_agrees}
use Rattle.run_laws.proofs.AskedTasks.{may_be_asked, subtask_stands}

-- A part that agrees with a turn, that may make a task, or that agrees with a turn and those behind it.
so_at_once : (g : Graph) (values : List ValType) (s : Script) (t : ℕ) (before : List Label) (stacks : List (List Stack)) (d : Done Flow) (u : Turn) → Agrees g values s t before stacks d u
    → AgreesSo g values s t before stacks d u
so_at_once g values s t before stacks d u a = (stacks, inl refl, (zero, a))

so_made : (g : Graph) (values : List ValType) (s : Script) (t : ℕ) (before : List Label) (stacks : List (List Stack)) (d : Done Flow) (u : Turn) → AgreesMade g values s t before stacks d u
    → AgreesSo g values s t before stacks d u
so_made g values s t before stacks d u a = (a.0, a.1, (zero, a.2))

so_on : (g : Graph) (values : List ValType) (s : Script) (t : ℕ) (before : List Label) (stacks : List (List Stack)) (d : Done Flow) (u : Turn) → AgreesOn g values s t before stacks d u
    → AgreesSo g values s t before stacks d u
so_on g values s t before stacks d u a = (stacks, inl refl, a)

so_as : (g : Graph) (values : List ValType) (s : Script) (t : ℕ) (before : List Label) (stacks : List (List Stack)) (d e : Done Flow) (u v : Turn) → d ≡ e → u ≡ v
    → AgreesSo g values s t before stacks e v → AgreesSo g values s t before stacks d u
so_as g values s t before stacks d e u v same turn a =
    subst (λ (x : Done Flow). AgreesSo g values s t before stacks x u) (sym same) (subst (λ (x : Turn). AgreesSo g values s t before stacks e x) (sym turn) a)

-- a word that is there
some_there : {A : Type 0} (o : Option A) → IsSome o → (x : A) × (o ≡ Some x)
some_there None h = absurd (cc)
some_there (Some x) h = (x, refl)

abbrev HasMany : ℕ → List ℕ → Type 0
HasMany count words = (n : ℕ) → n < count → IsSome (word_in words n)

first_word : (words : List ℕ) → HasMany 1 words → HasWord words
first_word words has = some_there (word_in words 0) (has 0 (omega arith))

-- What is answered, by what it is.
abbrev answer_of : Graph → List (Option ℕ) → ℕ → ℕ → ℕ → List ℕ → Held → BuiltinKind → Done Flow
answer_of g types t at number words h (kind.Resource op resource) = builtin_reply g t at number (kind.Resource op resource) words h
answer_of g types t at number words h (kind.TaskReturn result options) = builtin_reply g t at number (kind.TaskReturn result options) words h
answer_of g types t at number words h (kind.Plain op) = builtin_reply g t at number (kind.Plain op) words h
answer_of g types t at number words h (kind.Context op slot) = builtin_reply g t at number (kind.Context op slot) words h
answer_of g types t at number words h (kind.Wait op cancellable memory) = set_wait (seen g) t at number op words h
answer_of g types t at number words h (kind.End of_what element op) = end_reply g types t number words h

-- the words of a read or a write
copy_words : (of_what : EndKind) (words : List ℕ) → HasMany (words_of_copy of_what) words → IsSome (word_in words 0) × IsSome (word_in words 1) × IsSome (length_in of_what words)
copy_words end_kind.Stream words has = (has 0 (omega arith), has 1 (omega arith), has 2 (omega arith))
copy_words end_kind.Future words has = (has 0 (omega arith), has 1 (omega arith), refl)

pub end_words : (of_what : EndKind) (op : EndOp) (words : List ℕ) → HasMany (words_of_end of_what op) words → ends.HasWords of_what op words
end_words of_what end_op.New words has = tt
end_words of_what (end_op.Copy side options) words has = copy_words of_what words has
end_words of_what (end_op.Cancel side is_async) words has = has 0 (omega arith)
end_words of_what (end_op.Drop side) words has = has 0 (omega arith)

-- A built-in, behind the line of its call.
module _ (g : Graph) (values : List ValType) (s : Script) (funcs : List FuncType) (types : List (Option ℕ)) (h : Held) (stacks : List (List Stack)) (w : World) (t : ℕ) (task : Task)
    (f : Lifted) (number : ℕ) (words : List ℕ) (b : Builtin) (typed : HasTypes g values funcs types) (made : canon_at g number ≡ Some (canon.Builtin b)) (rests : h.rest ≡ rest.Calls number)
    (keeps : KeepsWords h t words) (calls : CallsOwn w t task f (canon.Builtin b)) (inside : IsSome (slice_get w.insts b.instance)) (sound : IsSoundAt g w t b.instance)
    (beside : IsBeside g h w t b.instance) (st : Stands g values s h stacks w) where
  abbrev Row : BuiltinKind → Type 0
  Row k = AgreesSo g values s t h.labels stacks (answer_of g types t b.instance number words h k) (builtin_turn g t task b.instance number k words w)

  -- Resources.
  new_row : (resource : ℕ) → HasWord words → Row (kind.Resource resource_op.New resource)
  unfolding builtin_turn resource_turn
  new_row resource word =
      so_at_once g values s t h.labels stacks _ _ (handle_is_made g values s h stacks w t b.instance resource word.0 words word.1 inside st)

  drop_row : (resource : ℕ) → HasWord words → Row (kind.Resource resource_op.Drop resource)
  unfolding builtin_turn resource_turn
  drop_row resource word =
      so_made g values s t h.labels stacks _ _
      (handle_is_dropped g values s (seen g) h stacks w t b.instance number resource word.0 words task (resources_are_seen g) word.1 calls.acts.there calls.state (ap is_some calls.acts.runs)
      sound.callers inside (beside.handles word.0) st)

  -- Tasks.
  return_row : (result : Option ValType) (options : Options) → b.kind ≡ kind.TaskReturn result options → Row (kind.TaskReturn result options)
  unfolding builtin_turn
  return_row result options is =
      so_at_once g values s t h.labels stacks _ _
      (task_returns g values s h stacks w t number task b options words result calls.acts.first calls.acts.there calls.state made is rests keeps st)

  cancel_row : Row (kind.Plain plain.TaskCancel)
  unfolding builtin_turn plain_turn
  cancel_row =
      so_at_once g values s t h.labels stacks _ _
      (task_cancels g values s h stacks w t task calls.acts.there calls.state beside.borrows (λ slot is. beside.states t slot is) st)

  flag_is : (cancellable : Bool) → b.kind ≡ kind.Plain (plain.Yield cancellable) → flag_at g number ≡ cancellable
  flag_is cancellable is = ap flag_in made ∙ ap flag_of_kind is

  yield_row : (cancellable : Bool) → b.kind ≡ kind.Plain (plain.Yield cancellable) → Row (kind.Plain (plain.Yield cancellable))
  unfolding builtin_turn plain_turn
  yield_row cancellable is =
      so_at_once g values s t h.labels stacks _ _
      (subst (λ (flag : Bool). Agrees g values s t h.labels stacks (answer_of g types t b.instance number words h (kind.Plain (plain.Yield cancellable))) (yield_turn t task number flag words w)) (flag_is cancellable is)
      (task_yields g values s (seen g) h stacks w t number task words ((graph_is_seen g).0.flag number) calls.acts.first calls.acts.there calls.state st))

  -- Backpressure.
  set_pressure_row : HasWord words → Row (kind.Plain plain.BackpressureSet)
  unfolding builtin_turn plain_turn
  set_pressure_row word = so_at_once g values s t h.labels stacks _ _ (pressure_is_set g values s h stacks w t b.instance word.0 words word.1 inside st)

  rise_row : Row (kind.Plain plain.BackpressureInc)
  unfolding builtin_turn plain_turn
  rise_row = so_at_once g values s t h.labels stacks _ _ (pressure_rises g values s h stacks w t b.instance inside st)

  fall_row : Row (kind.Plain plain.BackpressureDec)
  unfolding builtin_turn plain_turn
  fall_row = so_at_once g values s t h.labels stacks _ _ (pressure_falls g values s h stacks w t b.instance inside st)

  -- Subtasks.
  ask_row : (is_async : Bool) → HasWord words → Row (kind.Plain (plain.SubtaskCancel is_async))
  unfolding builtin_turn plain_turn
  ask_row is_async word =
      so_at_once g values s t h.labels stacks _ _
      (subtask_is_asked g values s h stacks w t b.instance number word.0 words task word.1 calls.acts.there calls.state inside
      (λ callee stood. may_be_asked h w t callee number words task calls.acts.there calls.state
      (sound.subtasks word.0 callee (subtask_stands g values s h stacks w b.instance word.0 callee inside st stood)) beside.gates beside.states) st)

  subtask_drop_row : HasWord words → Row (kind.Plain plain.SubtaskDrop)
  unfolding builtin_turn plain_turn
  subtask_drop_row word = so_at_once g values s t h.labels stacks _ _ (subtask_is_dropped g values s h stacks w t b.instance word.0 words word.1 inside st)

  -- Waitable sets.
  set_row : Row (kind.Plain plain.WaitableSetNew)
  unfolding builtin_turn plain_turn
  set_row = so_at_once g values s t h.labels stacks _ _ (set_is_made g values s h stacks w t b.instance inside st)

  here : IsFound (InstStands values) (slice_get h.instances b.instance) (slice_get w.insts b.instance)
  here = found_both (InstStands values) h.instances w.insts b.instance st.are_instances inside

  set_drop_row : HasWord words → Row (kind.Plain plain.WaitableSetDrop)
  unfolding builtin_turn plain_turn
  set_drop_row word =
      so_at_once g values s t h.labels stacks _ _
      (set_is_dropped g values s h stacks w t b.instance word.0 words here.right here.left word.1 here.is_right (sound.sets here.right here.is_right) here.is_left
      (beside.waiters here.left here.is_left) st)

  join_row : HasMany 2 words → Row (kind.Plain plain.WaitableJoin)
  unfolding builtin_turn plain_turn
  join_row has =
      let one : _ = some_there (word_in words 0) (has 0 (omega arith)) in
      let other : _ = some_there (word_in words 1) (has 1 (omega arith)) in
      so_at_once g values s t h.labels stacks _ _
      (waitable_is_joined g values s h stacks w t b.instance one.0 other.0 words here.right one.1 other.1 here.is_right (sound.sets here.right here.is_right) st)

  news : (set : ℕ) → HasNews values (seen g) h w b.instance set
  news set = record {
    inside = inside;
    ready = ready_is_alike g values s (seen g) h stacks w b.instance set (graph_is_seen g).0 inside beside.ends beside.who sound.copies st;
    ends = beside.ends;
    calls = beside.calls;
  }

  wait_row : (op : WaitOp) (cancellable : Bool) (memory : CoreRef) → HasMany 2 words → Row (kind.Wait op cancellable memory)
  unfolding builtin_turn
  wait_row op cancellable memory has =
      let one : _ = some_there (word_in words 0) (has 0 (omega arith)) in
      let other : _ = some_there (word_in words 1) (has 1 (omega arith)) in
      let own : b.instance ≡ f.instance = calls.own in
      so_on g values s t h.labels stacks _ _
      (subst (λ (at : ℕ). AgreesOn g values s t h.labels stacks (set_wait (seen g) t at number op words h) (wait_turn g t task at op number words w)) (sym own)
      (set_is_waited_for g values s (seen g) h stacks w t number one.0 other.0 op task f here.right words (graph_is_seen g).0 (graph_is_seen g).1 one.1 other.1 keeps (beside.memories number)
      calls.acts.first calls.acts.there calls.state calls.acts.runs (subst (λ (at : ℕ). slice_get w.insts at ≡ Some here.right) own here.is_right) (sound.sets here.right here.is_right)
      (λ set. subst (λ (at : ℕ). HasNews values (seen g) h w at set) own (news set)) st))

  -- Ends of streams and futures.
  end_row : (of_what : EndKind) (element : Option ValType) (op : EndOp) → b.kind ≡ kind.End of_what element op → HasMany (words_of_end of_what op) words → Row (kind.End of_what element op)
  end_row of_what element op is has =
      so_at_once g values s t h.labels stacks _ _
      (subst (λ (k : BuiltinKind). Agrees g values s t h.labels stacks (end_reply g types t number words h) (builtin_turn g t task b.instance number k words w)) is
      (end_is_answered g values s h stacks w t number task b of_what element op funcs types words typed.distinct typed.canons made is (end_words of_what op words has) (beside.memories number)
      beside.ends sound.ends inside calls.acts.first calls.acts.there calls.state st))

  plain_row : (op : PlainBuiltin) → b.kind ≡ kind.Plain op → HasMany (words_of_plain op) words → Row (kind.Plain op)
  plain_row plain.TaskCancel is has = cancel_row
  plain_row plain.BackpressureSet is has = set_pressure_row (first_word words has)
  plain_row plain.BackpressureInc is has = rise_row
  plain_row plain.BackpressureDec is has = fall_row
  plain_row (plain.SubtaskCancel is_async) is has = ask_row is_async (first_word words has)
  plain_row plain.SubtaskDrop is has = subtask_drop_row (first_word words has)
  plain_row (plain.Yield cancellable) is has = yield_row cancellable is
  plain_row plain.WaitableSetNew is has = set_row
  plain_row plain.WaitableSetDrop is has = set_drop_row (first_word words has)
  plain_row plain.WaitableJoin is has = join_row has

  -- The built-in answers so.
  kind_is : (k : BuiltinKind) → b.kind ≡ k → kind_answered g types t number (canon.Builtin b) b.instance k words h ≡ answer_of g types t b.instance number words h k
  kind_is (kind.Resource op resource) is = ap (λ (k : BuiltinKind). builtin_reply g t b.instance number k words h) is
  kind_is (kind.TaskReturn result options) is = ap (λ (k : BuiltinKind). builtin_reply g t b.instance number k words h) is
  kind_is (kind.Plain op) is = ap (λ (k : BuiltinKind). builtin_reply g t b.instance number k words h) is
  kind_is (kind.Context op slot) is = ap (λ (k : BuiltinKind). builtin_reply g t b.instance number k words h) is
  kind_is (kind.Wait op cancellable memory) is = refl
  kind_is (kind.End of_what element op) is = refl

  abbrev Answered : Type 0
  Answered = AgreesSo g values s t h.labels stacks (canon_answered g types t number (canon.Builtin b) words h) (reply g t task number (canon.Builtin b) words w)

  answers_so : (k : BuiltinKind) → b.kind ≡ k → Row k → Answered
  unfolding reply
  answers_so k is row =
      so_as g values s t h.labels stacks _ (answer_of g types t b.instance number words h k) _ (builtin_turn g t task b.instance number k words w)
      (ap (λ (x : BuiltinKind). kind_answered g types t number (canon.Builtin b) b.instance x words h) is ∙ kind_is k is)
      (ap (λ (x : BuiltinKind). builtin_turn g t task b.instance number x words w) is) row

  pub resource_answers : (op : ResourceOp) (resource : ℕ) → b.kind ≡ kind.Resource op resource → HasWord words → ResourceRow Answered w b.instance op words
  resource_answers resource_op.New resource is word = answers_so (kind.Resource resource_op.New resource) is (new_row resource word)
  resource_answers resource_op.Drop resource is word = answers_so (kind.Resource resource_op.Drop resource) is (drop_row resource word)
  resource_answers resource_op.Rep resource is word = (word, inside)

  pub return_answers : (result : Option ValType) (options : Options) → b.kind ≡ kind.TaskReturn result options → Answered
  return_answers result options is = answers_so (kind.TaskReturn result options) is (return_row result options is)

  pub plain_answers : (op : PlainBuiltin) → b.kind ≡ kind.Plain op → HasMany (words_of_plain op) words → Answered
  plain_answers op is has = answers_so (kind.Plain op) is (plain_row op is has)

  pub wait_answers : (op : WaitOp) (cancellable : Bool) (memory : CoreRef) → b.kind ≡ kind.Wait op cancellable memory → HasMany 2 words → Answered
  wait_answers op cancellable memory is has = answers_so (kind.Wait op cancellable memory) is (wait_row op cancellable memory has)

  pub end_answers : (of_what : EndKind) (element : Option ValType) (op : EndOp) → b.kind ≡ kind.End of_what element op → HasMany (words_of_end of_what op) words → Answered
  end_answers of_what element op is has = answers_so (kind.End of_what element op) is (end_row of_what element op is has)

-- A function that is lowered.
lower_answers : (g : Graph) (values : List ValType) (s : Script) (types : List (Option ℕ)) (h : Held) (stacks : List (List Stack)) (w : World) (t : ℕ) (task : Task) (f : Lifted) (number : ℕ)
    (words : List ℕ) (l : Lower)
    → canon_at g number ≡ Some (canon.Lower l) → CallsOwn w t task f (canon.Lower l) → CallersRun w → Stands g values s h stacks w
    → AgreesSo g values s t h.labels stacks (canon_answered g types t number (canon.Lower l) words h) (reply g t task number (canon.Lower l) words w)
unfolding reply
lower_answers g values s types h stacks w t task f number words l made calls callers st =
    so_made g values s t h.labels stacks _ _
    (call_is_begun g values s h stacks w t number l.lift.instance (callee.Lowered number) (kind_of l.lift.options) words words (Func (lifted_of l)) (lifted_of l) task calls.acts.there calls.state
    (ap is_some calls.acts.runs) callers (ap (λ (o : Option CanonFunc). lowered_in o) made) refl refl refl st)

-- What is kept beside a world is right behind the line of a call too.
pub memory_told : (t : ℕ) (c : CanonFunc) (words : List ℕ) (h : Held) (o : Option CoreRef) → memory_by o (line_told t c words h) ≡ memory_by o h
memory_told t c words h None = refl
memory_told t c words h (Some m) = refl

calls_told : (t : ℕ) (c : CanonFunc) (words : List ℕ) (h : Held) (at : ℕ) → KeepsCalls h at → KeepsCalls (line_told t c words h) at
calls_told t c words h at keeps index callee i here stood =
    let call : _ = keeps index callee i here stood in
    (call.0, call.1, call_still h (line_told t c words h) at callee call.0 call.1 refl refl call.2)

beside_told : (g : Graph) (h : Held) (w : World) (t at : ℕ) (c : CanonFunc) (words : List ℕ) → IsBeside g h w t at → IsBeside g (line_told t c words h) w t at
beside_told g h w t at c words beside = record {
  gates = beside.gates;
  waiters = beside.waiters;
  handles = beside.handles;
  borrows = beside.borrows;
  states = beside.states;
  calls = calls_told t c words h at beside.calls;
  who = beside.who;
  ends = beside.ends;
  memories = λ number. memory_told t c words h (options_at g number).memory ∙ beside.memories number;
}

-- by what it is, where the instance may be left
module _ (g : Graph) (values : List ValType) (s : Script) (funcs : List FuncType) (types : List (Option ℕ)) (h : Held) (stacks : List (List Stack)) (w : World) (t : ℕ) (task : Task)
    (f : Lifted) (number : ℕ) (words : List ℕ) (b : Builtin) (typed : HasTypes g values funcs types) (made : canon_at g number ≡ Some (canon.Builtin b)) (rests : h.rest ≡ rest.Calls number)
    (keeps : KeepsWords h t words) (calls : may_leave w ≡ true → CallsOwn w t task f (canon.Builtin b)) (inside : IsSome (slice_get w.insts b.instance)) (sound : IsSoundAt g w t b.instance)
    (beside : IsBeside g h w t b.instance) (st : Stands g values s h stacks w) where
  abbrev told : Held
  told = line_told t (canon.Builtin b) words h

  abbrev AnswersFree : Type 0
  AnswersFree = may_leave w ≡ true → Answers g values s types h stacks w t task number (canon.Builtin b) words

  now : IsBeside g told w t b.instance
  now = beside_told g h w t b.instance (canon.Builtin b) words beside

  of_resource : (op : ResourceOp) (resource : ℕ) → b.kind ≡ kind.Resource op resource → HasWord words → ResourceRow AnswersFree w b.instance op words
  of_resource resource_op.New resource is word =
      λ free. resource_answers g values s funcs types told stacks w t task f number words b typed made rests keeps (calls free) inside sound now st resource_op.New resource is word
  of_resource resource_op.Drop resource is word =
      λ free. resource_answers g values s funcs types told stacks w t task f number words b typed made rests keeps (calls free) inside sound now st resource_op.Drop resource is word
  of_resource resource_op.Rep resource is word = (word, inside)

  of_context : (op : ContextOp) → HasMany (words_of_context op) words → ContextRow op words
  of_context context_op.Get has = tt
  of_context context_op.Set has = first_word words has

  pub of_kind : (k : BuiltinKind) → b.kind ≡ k → HasMany (words_of_kind k) words → KindRow AnswersFree w b.instance k words
  of_kind (kind.Resource op resource) is has = of_resource op resource is (first_word words has)
  of_kind (kind.TaskReturn result options) is has =
      λ free. return_answers g values s funcs types told stacks w t task f number words b typed made rests keeps (calls free) inside sound now st result options is
  of_kind (kind.Plain op) is has =
      λ free. plain_answers g values s funcs types told stacks w t task f number words b typed made rests keeps (calls free) inside sound now st op is has
  of_kind (kind.Context op slot) is has = of_context op has
  of_kind (kind.Wait op cancellable memory) is has =
      λ free. wait_answers g values s funcs types told stacks w t task f number words b typed made rests keeps (calls free) inside sound now st op cancellable memory is has
  of_kind (kind.End of_what element op) is has =
      λ free. end_answers g values s funcs types told stacks w t task f number words b typed made rests keeps (calls free) inside sound now st of_what element op is has

pub all_answer : AllAnswer
all_answer g values s funcs types h stacks w t task f number (canon.Lower l) words typed made rests keeps has calls inside sound beside st =
    λ free. lower_answers g values s types (line_told t (canon.Lower l) words h) stacks w t task f number words l made (calls free) sound.callers st
all_answer g values s funcs types h stacks w t task f number (canon.Builtin b) words typed made rests keeps has calls inside sound beside st =
    of_kind g values s funcs types h stacks w t task f number words b typed made rests keeps calls inside sound beside st b.kind refl has

pub call_is_answered : CallIsAnswered
call_is_answered g values s funcs types h stacks w t task f number c words typed made rests keeps has first there calls inside sound beside st =
    call_agrees g values s types h stacks w t task number c words first there made keeps
    (all_answer g values s funcs types h stacks w t task f number c words typed made rests keeps has calls inside sound beside st) st

-- Calls of nested code that are answered in place.
use Rattle.std.proofs.Common.{◌≡◌, ℕ, zero, suc, Bool, true, false, nat_eq, if◌then◌else◌, List, [], ◌∷◌, ◌++◌, length, slice_index, refl, sym, ap, ◌∙◌, subst, append_assoc, append-nil, Option, Some, None, Result, Ok, Err}
use Rattle.std.specs.List.{slice_get}
use Rattle.std.specs.Option.{option_map}
use Rattle.wasm_store.specs.Stack.{Stack}
use Rattle.wasm_store.specs.Step.{resume}
use Rattle.wasm_execution.specs.Waiting.{Waiting}
use Rattle.syntax_trees.specs.declared.types.ValType.{ValType}
use Rattle.handle_table.specs.History.{live}
use Rattle.res_handles.specs.declared.refusal.Refusal.{Refusal}
use Rattle.res_handles.specs.Refusals.{handle_in, rep_of}
use Rattle.builtin_kinds.specs.declared.ResourceOp.{ResourceOp}
use Rattle.builtin_kinds.specs.declared.ResourceOp.TheVariants as resource_op
use Rattle.builtin_kinds.specs.declared.PlainBuiltin.{PlainBuiltin}
use Rattle.builtin_kinds.specs.declared.PlainBuiltin.TheVariants as plain
use Rattle.builtin_kinds.specs.declared.ContextOp.{ContextOp}
use Rattle.builtin_kinds.specs.declared.ContextOp.TheVariants as context_op
use Rattle.builtin_kinds.specs.declared.WaitOp.{WaitOp}
use Rattle.builtin_kinds.specs.declared.WaitOp.TheVariants as wait_op
use Rattle.builtin_kinds.specs.declared.EndKind.{EndKind}
use Rattle.builtin_kinds.specs.declared.EndKind.TheVariants as end_kind
use Rattle.builtin_kinds.specs.declared.EndSide.TheVariants as end_side
use Rattle.comp_graph.specs.declared.graph.EndOp.{EndOp}
use Rattle.comp_graph.specs.declared.graph.EndOp.TheVariants as end_op
use Rattle.comp_graph.specs.declared.graph.BuiltinKind.{BuiltinKind}
use Rattle.comp_graph.specs.declared.graph.BuiltinKind.TheVariants as kind
use Rattle.comp_graph.specs.declared.graph.CanonFunc.{CanonFunc}
use Rattle.comp_graph.specs.declared.graph.CanonFunc.TheVariants as canon
use Rattle.comp_graph.specs.Graph.{Graph}
use Rattle.graph_views.specs.Canons.{instance_of, made_by}
use Rattle.graph_views.specs.Names as names
use Rattle.script_reader.specs.Script.{Script}
use Rattle.trace_labels.specs.declared.label.Label.{Label}
use Rattle.trace_labels.specs.declared.label.Label.TheVariants as line
use Rattle.trace_labels.specs.declared.builtin.Builtin.{Builtin}
use Rattle.trace_labels.specs.declared.trap.TrapName.{TrapName}
use Rattle.trace_labels.specs.declared.trap.TrapName.TheVariants as trap
use Rattle.instances.specs.Instances.{InstanceView, entry_of, view_of}
use Rattle.task_table.specs.declared.slot.TaskSlot.{TaskSlot}
use Rattle.task_table.specs.Slots as slots
use Rattle.world_parts.specs.Held as kept
use Rattle.world_parts.specs.Held.{Held, Done, Gives, Traps, Spent, after, given}
use Rattle.world_parts.specs.Entries.{named, rep_found}
use Rattle.world_parts.specs.Feed.{told}
use Rattle.world_parts.specs.Names.{refusal_name as kept_name}
use Rattle.world_parts.specs.Slots.{with_task, context_set, word_in}
use Rattle.world_stacks.specs.Exempt.{first_word, context_answer, resource_answer, builtin_answer, exempt_answer}
use Rattle.world_stacks.specs.Starting.{gives_words}
use Rattle.world_stacks.specs.PostReturns.{answer_or_trap, answered_by, goes_on_with}
use Rattle.abi_machine.specs.Control.{Going, Nested, Behind, Quiet, Doomed}
use Rattle.abi_machine.specs.World.{Inst, Task, World}
use Rattle.abi_machine.specs.Canons as machine
use Rattle.abi_machine.specs.Canons.{inst_of_canon}
use Rattle.abi_machine.specs.Counting.{entry_view}
use Rattle.abi_machine.specs.Edits.{with_control, word_changed, word_set}
use Rattle.abi_machine.specs.Reading.{table_in}
use Rattle.abi_machine.specs.Traps.{renamed, refusal_name}
use Rattle.abi_machine.specs.Turn as turns
use Rattle.abi_machine.specs.Turn.{Turn, Steps, behind}
use Rattle.abi_machine.specs.Nested.{answered_in_place, answered_or_refused, calls_host}
use Rattle.abi_machine.specs.replies.Context as context
use Rattle.abi_machine.specs.replies.Context.{Answers, Exempt, word_of, rep_answered, rep_answer, exempt_kind, exempt_of}
use Rattle.standing.specs.Instances.{InstStands}
use Rattle.standing.specs.Tasks.{TaskStands}
use Rattle.standing.specs.Stands.{Stands}
use Rattle.standing.specs.InPlace.{ExemptAgrees, ExemptCallsAgree, CallAgrees, NestedCallsAgree}
use Rattle.standing.proofs.Lists.{BothAt, at_both}
use Rattle.standing.proofs.Tables.{entries_are_alike}
use Rattle.standing.proofs.Changes.{tasks_change}
use Rattle.standing.proofs.Found.{names_same, rep_alike, word_is}
use Rattle.standing.proofs.Answering.{word_same, word_put}

-- Canonical functions have one name, and one maker, on both sides.
resource_same : (op : ResourceOp) → names.resource_name op ≡ machine.resource_name op
resource_same resource_op.New = refl
resource_same resource_op.Drop = refl
resource_same resource_op.Rep = refl

plain_same : (op : PlainBuiltin) → names.plain_name op ≡ machine.plain_name op
plain_same plain.TaskCancel = refl
plain_same plain.BackpressureSet = refl
plain_same plain.BackpressureInc = refl
plain_same plain.BackpressureDec = refl
plain_same (plain.SubtaskCancel is_async) = refl
plain_same plain.SubtaskDrop = refl
plain_same (plain.Yield cancellable) = refl
plain_same plain.WaitableSetNew = refl
plain_same plain.WaitableSetDrop = refl
plain_same plain.WaitableJoin = refl

context_same : (op : ContextOp) → names.context_name op ≡ machine.context_name op
context_same context_op.Get = refl
context_same context_op.Set = refl

wait_same : (op : WaitOp) → names.wait_name op ≡ machine.wait_name op
wait_same wait_op.Wait = refl
wait_same wait_op.Poll = refl

stream_same : (op : EndOp) → names.stream_name op ≡ machine.stream_name op
stream_same end_op.New = refl
stream_same (end_op.Copy end_side.Readable options) = refl
stream_same (end_op.Copy end_side.Writable options) = refl
stream_same (end_op.Cancel end_side.Readable is_async) = refl
stream_same (end_op.Cancel end_side.Writable is_async) = refl
stream_same (end_op.Drop end_side.Readable) = refl
stream_same (end_op.Drop end_side.Writable) = refl

future_same : (op : EndOp) → names.future_name op ≡ machine.future_name op
future_same end_op.New = refl
future_same (end_op.Copy end_side.Readable options) = refl
future_same (end_op.Copy end_side.Writable options) = refl
future_same (end_op.Cancel end_side.Readable is_async) = refl
future_same (end_op.Cancel end_side.Writable is_async) = refl
future_same (end_op.Drop end_side.Readable) = refl
future_same (end_op.Drop end_side.Writable) = refl

end_same : (of : EndKind) (op : EndOp) → names.end_name of op ≡ machine.end_name of op
end_same end_kind.Stream op = stream_same op
end_same end_kind.Future op = future_same op

kind_same : (k : BuiltinKind) → names.kind_name k ≡ machine.kind_name k
kind_same (kind.Resource op resource) = resource_same op
kind_same (kind.TaskReturn result options) = refl
kind_same (kind.Plain op) = plain_same op
kind_same (kind.Context op slot) = context_same op
kind_same (kind.Wait op cancellable memory) = wait_same op
kind_same (kind.End of element op) = end_same of op

pub builtins_alike : (c : CanonFunc) → names.builtin_of c ≡ machine.builtin_of c
builtins_alike (canon.Lower l) = refl
builtins_alike (canon.Builtin b) = kind_same b.kind

pub makers_alike : (c : CanonFunc) → instance_of c ≡ inst_of_canon c
makers_alike (canon.Lower l) = refl
makers_alike (canon.Builtin b) = refl

-- Those that are answered in place.
module _ (g : Graph) (values : List ValType) (s : Script) (h : Held) (stacks : List (List Stack)) (w : World) (t : ℕ) (words : List ℕ) (st : Stands g values s h stacks w) where
  abbrev Agrees : Done (Option (List ℕ)) → Option Exempt → Type 0
  Agrees d o = ExemptAgrees g values s h.labels stacks d o w

  get_agrees : (slot : ℕ) (o : Option TaskSlot) (p : Option Task) → BothAt (TaskStands g s) o p → slice_get w.tasks t ≡ p
      → Agrees (after (given o (λ x. Gives (slots.word_at slot x.context) h)) (λ word k. Gives (Some (word ∷ [])) k)) (Some (context.context_answer t words context_op.Get slot))
  get_agrees slot None p both e = tt
  get_agrees slot (Some x) None both e = absurd both
  get_agrees slot (Some x) (Some a) both e = record {
    exempt = context.context_answer t words context_op.Get slot;
    world = w;
    is = refl;
    answers = ap (λ (o : Option Task). Ok (let r : Answers = record { words = word_of slot o ∷ []; world = w } in r)) e
        ∙ ap (λ (n : ℕ). Ok (let r : Answers = record { words = n ∷ []; world = w } in r)) (sym (ap (λ (c : ℕ × ℕ). slots.word_at slot c) both.words ∙ word_same slot a.context));
    stands = st;
    told = refl;
  }

  put_agrees : (slot word : ℕ) (o : Option TaskSlot) → word_in words 0 ≡ Some word → slice_get h.tasks t ≡ o
      → Agrees (after (given o (λ x. Gives tt (with_task t (slots.with_word slot word x) h))) (λ (done : Unit {0}) k. Gives (Some []) k)) (Some (context.context_answer t words context_op.Set slot))
  put_agrees slot word None is e = tt
  put_agrees slot word (Some x) is e = record {
    exempt = context.context_answer t words context_op.Set slot;
    world = word_set t slot word w;
    is = refl;
    answers = ap (λ (n : ℕ). Ok (let r : Answers = record { words = []; world = word_set t slot n w } in r)) (word_is words 0 word is);
    stands = tasks_change g values s h stacks w t x (slots.with_word slot word x) (λ task. record task { context = word_changed slot word task.context }) e
        (λ a there now. word_put g s x a slot word now) (λ a. refl) st;
    told = refl;
  }

  set_agrees : (slot : ℕ) (o : Option ℕ) → word_in words 0 ≡ o
      → Agrees (given o (λ word. after (context_set t slot word h) (λ done k. Gives (Some []) k))) (Some (context.context_answer t words context_op.Set slot))
  set_agrees slot None is = tt
  set_agrees slot (Some word) is = put_agrees slot word (slice_get h.tasks t) is refl

  context_agrees : (op : ContextOp) (slot : ℕ) → Agrees (context_answer t words op slot h) (Some (context.context_answer t words op slot))
  context_agrees context_op.Get slot = get_agrees slot (slice_get h.tasks t) (slice_get w.tasks t) (at_both (TaskStands g s) h.tasks w.tasks t st.are_tasks) refl
  context_agrees context_op.Set slot = set_agrees slot (first_word words) refl

  by_rep : (exempt : Exempt) (r : Result ℕ Refusal) → exempt w ≡ rep_answered w (renamed refusal_name r)
      → Agrees (after (named r h) (λ rep k. Gives (Some (rep ∷ [])) k)) (Some exempt)
  by_rep exempt (Ok rep) e = record { exempt = exempt; world = w; is = refl; answers = e; stands = st; told = refl }
  by_rep exempt (Err why) e =
      record { exempt = exempt; is = refl; answers = e ∙ ap (λ (name : TrapName). Err name) (sym (names_same why)); stands = st; told = refl }

  found_agrees : (at resource index : ℕ) (o : Option InstanceView) (p : Option Inst) → word_in words 0 ≡ Some index → BothAt (InstStands values) o p → slice_get w.insts at ≡ p
      → Agrees (after (given o (λ i. named (rep_of (handle_in (view_of i index) resource)) h)) (λ rep k. Gives (Some (rep ∷ [])) k)) (Some (rep_answer at resource (slice_index words 0)))
  found_agrees at resource index None p is both e = tt
  found_agrees at resource index (Some x) None is both e = absurd both
  found_agrees at resource index (Some x) (Some y) is both e =
      by_rep (rep_answer at resource (slice_index words 0)) (rep_of (handle_in (view_of x index) resource))
      (ap (λ (n : ℕ). rep_answer at resource n w) (word_is words 0 index is)
      ∙ ap (λ (o : Option Inst). rep_answered w (renamed refusal_name (rep_of (handle_in (option_map (entry_view w at index) (live (table_in o) index)) resource)))) e
      ∙ ap (λ (r : Result ℕ Refusal). rep_answered w (renamed refusal_name r))
      (rep_alike values w at index resource (entry_of x index) (live y.table index) (entries_are_alike values x y index both)))

  rep_agrees : (at resource : ℕ) (o : Option ℕ) → word_in words 0 ≡ o
      → Agrees (given o (λ index. after (rep_found at index resource h) (λ rep k. Gives (Some (rep ∷ [])) k))) (Some (rep_answer at resource (slice_index words 0)))
  rep_agrees at resource None is = tt
  rep_agrees at resource (Some index) is =
      found_agrees at resource index (slice_get h.instances at) (slice_get w.insts at) is (at_both (InstStands values) h.instances w.insts at st.are_instances) refl

  resource_agrees : (at : ℕ) (op : ResourceOp) (resource : ℕ) → Agrees (resource_answer at words op resource h) (exempt_kind t words at (kind.Resource op resource))
  resource_agrees at resource_op.New resource = (refl, st, refl)
  resource_agrees at resource_op.Drop resource = (refl, st, refl)
  resource_agrees at resource_op.Rep resource = rep_agrees at resource (first_word words) refl

  kind_agrees : (at : ℕ) (k : BuiltinKind) → Agrees (builtin_answer t words at k h) (exempt_kind t words at k)
  kind_agrees at (kind.Resource op resource) = resource_agrees at op resource
  kind_agrees at (kind.TaskReturn result options) = (refl, st, refl)
  kind_agrees at (kind.Plain op) = (refl, st, refl)
  kind_agrees at (kind.Context op slot) = context_agrees op slot
  kind_agrees at (kind.Wait op cancellable memory) = (refl, st, refl)
  kind_agrees at (kind.End of element op) = (refl, st, refl)

  canon_agrees : (c : CanonFunc) → Agrees (exempt_answer t words c h) (exempt_of t words c)
  canon_agrees (canon.Lower l) = (refl, st, refl)
  canon_agrees (canon.Builtin b) = kind_agrees b.instance b.kind

pub exempt_calls_agree : ExemptCallsAgree
exempt_calls_agree g values s h stacks w t words c st = canon_agrees g values s h stacks w t words st c

-- A call, by what it is answered.
module _ (g : Graph) (values : List ValType) (s : Script) (h : Held) (stacks : List (List Stack)) (w : World) (n : Nested) (b : Behind) (number : ℕ) (words : List ℕ) (waits : Waiting)
    (st : Stands g values s h stacks w) where
  abbrev Goes : Done Stack → Turn → Type 0
  Goes d turn = CallAgrees g values s n b h.labels stacks d turn

  abbrev asks : CanonFunc → Label
  asks c = line.Do n.acts_for (names.builtin_of c) words

  abbrev turn_of : CanonFunc → Option Exempt → Turn
  turn_of c o = behind (asks c ∷ []) (answered_or_refused n b waits.stack o w)

  -- It goes on with as many words as it waits for.
  goes : (c : CanonFunc) (fits is_count : Bool) (answer : List ℕ) (k : Held) (v : World) (o : Option Exempt) (exempt : Exempt) → o ≡ Some exempt
      → exempt w ≡ Ok (record { words = answer; world = v }) → Stands g values s k stacks v → k.labels ≡ h.labels ++ asks c ∷ []
      → Goes (if fits then given (if is_count then Some (resume answer waits.stack) else None) (λ x. after (told (line.Got n.acts_for answer) k) (λ done l. Gives x l)) else kept.Stuck) (turn_of c o)
  unfolding answered_or_refused answered_in_place
  goes c false is_count answer k v o exempt is answers stands same = tt
  goes c true false answer k v o exempt is answers stands same = tt
  goes c true true answer k v o exempt is answers stands same = record {
    lines = asks c ∷ line.Got n.acts_for answer ∷ [];
    world = v;
    stands = stands;
    told = ap (λ (ls : List Label). ls ++ line.Got n.acts_for answer ∷ []) same ∙ append_assoc h.labels (asks c ∷ []) (line.Got n.acts_for answer ∷ []);
    is = ap (λ (p : Option Exempt). turn_of c p) is ∙ ap (λ (r : Result Answers TrapName). behind (asks c ∷ []) (answered_in_place n b waits.stack r w)) answers;
  }

  by_exempt : (c : CanonFunc) (d : Done (Option (List ℕ))) (o : Option Exempt) → ExemptAgrees g values s (h.labels ++ asks c ∷ []) stacks d o w
      → Goes (after (after d (λ answer l. answer_or_trap answer l)) (λ answer k. goes_on_with n.acts_for number answer waits k)) (turn_of c o)
  unfolding answered_or_refused answered_in_place
  by_exempt c (Gives None k) o a = record { lines = asks c ∷ []; world = w; stands = a.1; told = a.2; is = ap (λ (p : Option Exempt). turn_of c p) a.0 }
  by_exempt c (Gives (Some answer) k) o a =
      goes c (gives_words k.store number answer) (nat_eq waits.count (length answer)) answer k a.world o a.exempt a.is a.answers a.stands a.told
  by_exempt c (Traps why k) o a = record {
    lines = asks c ∷ [];
    world = w;
    stands = a.stands;
    told = a.told;
    is = ap (λ (p : Option Exempt). turn_of c p) a.is ∙ ap (λ (r : Result Answers TrapName). behind (asks c ∷ []) (answered_in_place n b waits.stack r w)) a.answers;
  }
  by_exempt c (Spent k) o a = absurd a
  by_exempt c kept.Stuck o a = tt

  made_here : (c : CanonFunc) (own : Bool)
      → Goes (after (if own then answered_by n.acts_for words c h else kept.Stuck) (λ answer k. goes_on_with n.acts_for number answer waits k))
      (if own then turn_of c (exempt_of n.acts_for words c) else turns.Stuck)
  made_here c false = tt
  made_here c true =
      by_exempt c (exempt_answer n.acts_for words c (record h { labels = h.labels ++ asks c ∷ [] })) (exempt_of n.acts_for words c)
      (exempt_calls_agree g values s (record h { labels = h.labels ++ asks c ∷ [] }) stacks w n.acts_for words c st)

  call_is : (c : CanonFunc) → (if nat_eq (instance_of c) n.inst then turn_of c (exempt_of n.acts_for words c) else turns.Stuck) ≡ calls_host n b waits.stack words c w
  unfolding calls_host
  call_is c =
      ap (λ (at : ℕ). if nat_eq at n.inst then turn_of c (exempt_of n.acts_for words c) else turns.Stuck) (makers_alike c)
      ∙ ap (λ (name : Builtin). if nat_eq (inst_of_canon c) n.inst then behind (line.Do n.acts_for name words ∷ []) (answered_or_refused n b waits.stack (exempt_of n.acts_for words c) w) else turns.Stuck) (builtins_alike c)

  by_canon : (o : Option CanonFunc)
      → Goes (after (if made_by o n.inst then given o (λ c. answered_by n.acts_for words c h) else kept.Stuck) (λ answer k. goes_on_with n.acts_for number answer waits k))
      (turns.given o (λ c. calls_host n b waits.stack words c w))
  by_canon None = tt
  by_canon (Some c) =
      subst (λ (turn : Turn). Goes (after (if made_by (Some c) n.inst then answered_by n.acts_for words c h else kept.Stuck) (λ answer k. goes_on_with n.acts_for number answer waits k)) turn)
      (call_is c) (made_here c (nat_eq (instance_of c) n.inst))

pub nested_calls_agree : NestedCallsAgree
nested_calls_agree g values s h stacks w n b number words waits st = by_canon g values s h stacks w n b number words waits st (machine.canon_at g number)

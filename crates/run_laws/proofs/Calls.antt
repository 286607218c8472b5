-- A call of a canonical function: its line, and what it answers.
use Rattle.std.proofs.Common.{◌≡◌, inl, ℕ, zero, suc, Bool, true, false, if◌then◌else◌, List, [], ◌∷◌, ◌++◌, is_some, refl, sym, ap, ◌∙◌, subst, append_assoc, Option, Some, None}
use Rattle.std.specs.Prelude.{IsSome}
use Rattle.std.specs.List.{slice_get}
use Rattle.syntax_trees.specs.declared.types.ValType.{ValType}
use Rattle.wasm_store.specs.Stack.{Stack}
use Rattle.builtin_kinds.specs.declared.ContextOp.{ContextOp}
use Rattle.builtin_kinds.specs.declared.ContextOp.TheVariants as context_op
use Rattle.builtin_kinds.specs.declared.ResourceOp.TheVariants as resource_op
use Rattle.comp_graph.specs.declared.graph.Builtin.{Builtin}
use Rattle.comp_graph.specs.declared.graph.BuiltinKind.{BuiltinKind}
use Rattle.comp_graph.specs.declared.graph.BuiltinKind.TheVariants as kind
use Rattle.comp_graph.specs.declared.graph.CanonFunc.{CanonFunc}
use Rattle.comp_graph.specs.declared.graph.CanonFunc.TheVariants as canon
use Rattle.comp_graph.specs.Graph.{Graph}
use Rattle.script_reader.specs.Script.{Script}
use Rattle.trace_labels.specs.declared.builtin.Builtin as shown
use Rattle.trace_labels.specs.declared.label.Label.{Label}
use Rattle.trace_labels.specs.declared.label.Label.TheVariants as line
use Rattle.trace_labels.specs.declared.trap.TrapName.TheVariants as trap
use Rattle.world_parts.specs.declared.parts.Flow.{Flow}
use Rattle.world_parts.specs.declared.parts.Flow.TheVariants as flow
use Rattle.world_parts.specs.Held as kept
use Rattle.world_parts.specs.Held.{Held, Done, Gives, Traps, Spent, after, given}
use Rattle.world_parts.specs.Feed.{got}
use Rattle.world_parts.specs.Slots.{context_of, context_set, words_of, word_in}
use Rattle.world_parts.specs.Entries.{rep_found}
use Rattle.world_parts.specs.Plain.{context_get, context_put}
use Rattle.world_parts.specs.Handles.{resource_rep}
use Rattle.world_stacks.specs.Exempt.{builtin_answer, exempt_answer}
use Rattle.replies.specs.Replies.{may_leave, begun}
use Rattle.machine_runs.specs.Calling.{canon_answered, allowed_by, allowed, calls}
use Rattle.abi_machine.specs.World.{Task, World}
use Rattle.abi_machine.specs.Canons.{builtin_of, canon_at}
use Rattle.abi_machine.specs.Reading as reading
use Rattle.abi_machine.specs.Turn as turns
use Rattle.abi_machine.specs.Turn.{Turn, Steps, doomed, behind, goes_on_with}
use Rattle.abi_machine.specs.Next.{next}
use Rattle.abi_machine.specs.Reply as machine
use Rattle.abi_machine.specs.Reply.{reply, calling_turn}
use Rattle.abi_machine.specs.replies.Context.{Exempt, exempt_kind, exempt_of}
use Rattle.standing.specs.Tasks.{TaskStands}
use Rattle.standing.specs.Stands.{Stands}
use Rattle.standing.specs.Agreeing.{Follows, Agrees}
use Rattle.standing.specs.Events.{Behind, AgreesOn}
use Rattle.standing.proofs.Lists.{IsFound, found_both}
use Rattle.standing.proofs.Agreeing.{on_trap}
use Rattle.standing.proofs.Answering.{context_is_read, context_is_set, rep_is_read}
use Rattle.standing.proofs.Going.{after_after, acting_there}
use Rattle.standing.proofs.Steps.{via, found, turn_found, both_as, acting_is, words_are}
use Rattle.run_laws.specs.Dispatch.{AgreesSo, line_told, ContextRow, KindRow, CanonRow, CallAgrees}
use Rattle.run_laws.proofs.Canons.{names_are_alike, leave_is_alike}

-- A line in front of a turn.
behind_more : (lines : List Label) (label : Label) (turn : Turn) → behind (label ∷ []) (behind lines turn) ≡ behind (label ∷ lines) turn
behind_more lines label (Steps more w) = refl
behind_more lines label (turns.Ends end) = refl
behind_more lines label turns.Stuck = refl

one_more : (label : Label) (lines : List Label) (u turn : Turn) → u ≡ behind lines turn → behind (label ∷ []) u ≡ behind (label ∷ lines) turn
one_more label lines u turn same = ap (behind (label ∷ [])) same ∙ behind_more lines label turn

follows_behind : (g : Graph) (t : ℕ) (k : Held) (f : Flow) (label : Label) (lines : List Label) (v : World) (u : Turn) → Follows g t k f lines v u → Follows g t k f (label ∷ lines) v (behind (label ∷ []) u)
follows_behind g t k (flow.Now words) label lines v u a = (a.0, ap (behind (label ∷ [])) a.1)
follows_behind g t k flow.Rests label lines v u a = ap (behind (label ∷ [])) a
follows_behind g t k (flow.Starts ref words) label lines v u a = (a.0, one_more label lines u _ a.1)
follows_behind g t k flow.Enters label lines v u a = one_more label lines u _ a
follows_behind g t k flow.Returns label lines v u a = one_more label lines u _ a
follows_behind g t k (flow.Copies copying) label lines v u a = one_more label lines u _ a
follows_behind g t k (flow.Delivers r set) label lines v u a = (a.0, a.1, ap (behind (label ∷ [])) a.2)
follows_behind g t k (flow.Polls r set) label lines v u a = (a.0, one_more label lines u _ a.1)
follows_behind g t k (flow.HearsNone r) label lines v u a = (a.0, a.1, one_more label lines u _ a.2)
follows_behind g t k (flow.HearsCancel r) label lines v u a = (a.0, a.1, one_more label lines u _ a.2)

pub agrees_behind : (g : Graph) (values : List ValType) (s : Script) (t : ℕ) (before : List Label) (stacks : List (List Stack)) (label : Label) (d : Done Flow) (u : Turn)
    → Agrees g values s t (before ++ label ∷ []) stacks d u → Agrees g values s t before stacks d (behind (label ∷ []) u)
agrees_behind g values s t before stacks label (Gives f k) u a = record {
  lines = label ∷ a.lines;
  world = a.world;
  stands = a.stands;
  told = a.told ∙ append_assoc before (label ∷ []) a.lines;
  ends = follows_behind g t k f label a.lines a.world u a.ends;
}
agrees_behind g values s t before stacks label (Traps why k) u a = record {
  lines = label ∷ a.lines;
  world = a.world;
  stands = a.stands;
  told = a.told ∙ append_assoc before (label ∷ []) a.lines;
  ends = ap (behind (label ∷ [])) a.ends;
}
agrees_behind g values s t before stacks label (Spent k) u a = ap (behind (label ∷ [])) a
agrees_behind g values s t before stacks label kept.Stuck u a = ap (behind (label ∷ [])) a

-- the same of what comes in turns behind it
on_behind : (g : Graph) (values : List ValType) (s : Script) (t : ℕ) (before : List Label) (stacks : List (List Stack)) (label : Label) (d : Done Flow) (n : ℕ) (u : Turn)
    → Behind g s (Agrees g values s t (before ++ label ∷ []) stacks d) n u → Behind g s (Agrees g values s t before stacks d) n (behind (label ∷ []) u)
on_behind g values s t before stacks label d zero u a = agrees_behind g values s t before stacks label d u a
on_behind g values s t before stacks label d (suc n) u a = (
  label ∷ a.0,
  a.1,
  ap (behind (label ∷ [])) a.2,
  subst (λ (x : Turn). Behind g s (Agrees g values s t before stacks d) n x) (behind_more a.0 label (next g s a.1))
      (on_behind g values s t before stacks label d n (behind a.0 (next g s a.1)) a.3),
)

-- Words of context and representations.
get_is : (g : Graph) (types : List (Option ℕ)) (t number slot : ℕ) (c : CanonFunc) (words : List ℕ) (h : Held)
    → after (after (context_of t slot h) (λ word k. Gives (Some (word ∷ [])) k)) (λ answer k. allowed_by g types t number c words answer k) ≡ context_get t slot h
unfolding context_get
get_is g types t number slot c words h = after_after (context_of t slot h) (λ word k. Gives (Some (word ∷ [])) k) (λ answer k. allowed_by g types t number c words answer k)

put_by : (g : Graph) (types : List (Option ℕ)) (t number slot : ℕ) (c : CanonFunc) (words : List ℕ) (h : Held) (o : Option ℕ)
    → after (given o (λ word. after (context_set t slot word h) (λ done k. Gives (Some []) k))) (λ answer k. allowed_by g types t number c words answer k)
    ≡ given o (λ word. after (context_set t slot word h) (λ done k. got t [] k))
put_by g types t number slot c words h None = refl
put_by g types t number slot c words h (Some word) =
    after_after (context_set t slot word h) (λ done k. Gives (Some []) k) (λ answer k. allowed_by g types t number c words answer k)

rep_by : (g : Graph) (types : List (Option ℕ)) (t at number resource : ℕ) (c : CanonFunc) (words : List ℕ) (h : Held) (o : Option ℕ)
    → after (given o (λ index. after (rep_found at index resource h) (λ rep k. Gives (Some (rep ∷ [])) k))) (λ answer k. allowed_by g types t number c words answer k)
    ≡ given o (λ index. after (rep_found at index resource h) (λ rep k. got t (rep ∷ []) k))
rep_by g types t at number resource c words h None = refl
rep_by g types t at number resource c words h (Some index) =
    after_after (rep_found at index resource h) (λ rep k. Gives (Some (rep ∷ [])) k) (λ answer k. allowed_by g types t number c words answer k)

-- Any other function, where the instance may be left.
made_as : (g : Graph) (values : List ValType) (s : Script) (t : ℕ) (before : List Label) (stacks : List (List Stack)) (d e : Done Flow) (u v : Turn) → d ≡ e → u ≡ v
    → AgreesSo g values s t before stacks e v → AgreesSo g values s t before stacks d u
made_as g values s t before stacks d e u v same turn a =
    subst (λ (x : Done Flow). AgreesSo g values s t before stacks x u) (sym same) (subst (λ (x : Turn). AgreesSo g values s t before stacks e x) (sym turn) a)

on_as : (g : Graph) (values : List ValType) (s : Script) (t : ℕ) (before : List Label) (stacks : List (List Stack)) (d e : Done Flow) (u v : Turn) → d ≡ e → u ≡ v
    → AgreesOn g values s t before stacks e v → AgreesOn g values s t before stacks d u
on_as g values s t before stacks d e u v same turn a =
    subst (λ (x : Done Flow). AgreesOn g values s t before stacks x u) (sym same) (subst (λ (x : Turn). AgreesOn g values s t before stacks e x) (sym turn) a)

at_once : (g : Graph) (values : List ValType) (s : Script) (t : ℕ) (before : List Label) (stacks : List (List Stack)) (d : Done Flow) (u : Turn)
    → Agrees g values s t before stacks d u → AgreesSo g values s t before stacks d u
at_once g values s t before stacks d u a = (stacks, inl refl, (zero, a))

if_may : (g : Graph) (values : List ValType) (s : Script) (t : ℕ) (stacks : List (List Stack)) (h : Held) (w : World) (d : Done Flow) (u : Turn) (b c : Bool) → b ≡ c → Stands g values s h stacks w
    → (c ≡ true → AgreesSo g values s t h.labels stacks d u) → AgreesSo g values s t h.labels stacks (if b then d else Traps trap.CannotLeave h) (if c then u else doomed t trap.CannotLeave w)
if_may g values s t stacks h w d u true true same st a = a refl
if_may g values s t stacks h w d u false false same st a = at_once g values s t h.labels stacks (Traps trap.CannotLeave h) (doomed t trap.CannotLeave w) (on_trap g values s t h.labels stacks h w trap.CannotLeave refl st)
if_may g values s t stacks h w d u true false same st a = absurd (cc)
if_may g values s t stacks h w d u false true same st a = absurd (cc)

-- What the function answers behind the line: any but those that are answered everywhere,
other_is : (g : Graph) (values : List ValType) (s : Script) (types : List (Option ℕ)) (h : Held) (stacks : List (List Stack)) (w : World) (t : ℕ) (task : Task) (number : ℕ) (c : CanonFunc) (words : List ℕ)
    → Stands g values s h stacks w → exempt_answer t words c h ≡ Gives None h → exempt_of t words c ≡ None
    → (reading.may_leave w ≡ true → AgreesSo g values s t h.labels stacks (canon_answered g types t number c words h) (reply g t task number c words w))
    → AgreesSo g values s t h.labels stacks (allowed g types t number c words h) (machine.allowed g t task number c words (exempt_of t words c) w)
unfolding allowed machine.allowed
other_is g values s types h stacks w t task number c words st answered exempt row =
    made_as g values s t h.labels stacks _ _ _ _ (via _ _ _ _ answered) (ap (λ (o : Option Exempt). machine.allowed g t task number c words o w) exempt)
    (if_may g values s t stacks h w _ _ (may_leave h) (reading.may_leave w) (leave_is_alike g values s h stacks w st) st row)

-- words of context,
context_is : (g : Graph) (values : List ValType) (s : Script) (types : List (Option ℕ)) (h : Held) (stacks : List (List Stack)) (w : World) (t : ℕ) (task : Task) (number : ℕ) (b : Builtin) (words : List ℕ)
    (op : ContextOp) (slot : ℕ) → slice_get w.tasks t ≡ Some task → Stands g values s h stacks w → b.kind ≡ kind.Context op slot → ContextRow op words
    → AgreesSo g values s t h.labels stacks (allowed g types t number (canon.Builtin b) words h)
    (machine.allowed g t task number (canon.Builtin b) words (exempt_of t words (canon.Builtin b)) w)
unfolding allowed machine.allowed context_put
context_is g values s types h stacks w t task number b words context_op.Get slot there st is row =
    at_once g values s t h.labels stacks _ _ (both_as g values s t h.labels stacks _ _ _ _
    (ap (λ (k : BuiltinKind). after (builtin_answer t words b.instance k h) (λ answer k. allowed_by g types t number (canon.Builtin b) words answer k)) is
    ∙ get_is g types t number slot (canon.Builtin b) words h)
    (ap (λ (k : BuiltinKind). machine.allowed g t task number (canon.Builtin b) words (exempt_kind t words b.instance k) w) is)
    (context_is_read g values s h stacks w t slot (ap is_some there) st))
context_is g values s types h stacks w t task number b words context_op.Set slot there st is row =
    at_once g values s t h.labels stacks _ _ (both_as g values s t h.labels stacks _ _ _ _
    (ap (λ (k : BuiltinKind). after (builtin_answer t words b.instance k h) (λ answer k. allowed_by g types t number (canon.Builtin b) words answer k)) is
    ∙ put_by g types t number slot (canon.Builtin b) words h (word_in words 0))
    (ap (λ (k : BuiltinKind). machine.allowed g t task number (canon.Builtin b) words (exempt_kind t words b.instance k) w) is)
    (context_is_set g values s h stacks w t slot row.0 words row.1 (ap is_some there) st))

-- and representations.
rep_is : (g : Graph) (values : List ValType) (s : Script) (types : List (Option ℕ)) (h : Held) (stacks : List (List Stack)) (w : World) (t : ℕ) (task : Task) (number : ℕ) (b : Builtin) (words : List ℕ)
    (resource word : ℕ) → word_in words 0 ≡ Some word → IsSome (slice_get w.insts b.instance) → Stands g values s h stacks w → b.kind ≡ kind.Resource resource_op.Rep resource
    → AgreesSo g values s t h.labels stacks (allowed g types t number (canon.Builtin b) words h)
    (machine.allowed g t task number (canon.Builtin b) words (exempt_of t words (canon.Builtin b)) w)
unfolding allowed machine.allowed resource_rep
rep_is g values s types h stacks w t task number b words resource word is_word inst st is =
    at_once g values s t h.labels stacks _ _ (both_as g values s t h.labels stacks _ _ _ _
    (ap (λ (k : BuiltinKind). after (builtin_answer t words b.instance k h) (λ answer k. allowed_by g types t number (canon.Builtin b) words answer k)) is
    ∙ rep_by g types t b.instance number resource (canon.Builtin b) words h (word_in words 0))
    (ap (λ (k : BuiltinKind). machine.allowed g t task number (canon.Builtin b) words (exempt_kind t words b.instance k) w) is)
    (rep_is_read g values s h stacks w t b.instance resource word words is_word inst st))

-- by what it is
kind_is : (g : Graph) (values : List ValType) (s : Script) (types : List (Option ℕ)) (h : Held) (stacks : List (List Stack)) (w : World) (t : ℕ) (task : Task) (number : ℕ) (b : Builtin) (words : List ℕ)
    (k : BuiltinKind) → slice_get w.tasks t ≡ Some task → Stands g values s h stacks w → b.kind ≡ k
    → KindRow (reading.may_leave w ≡ true → AgreesSo g values s t h.labels stacks (canon_answered g types t number (canon.Builtin b) words h) (reply g t task number (canon.Builtin b) words w)) w
    b.instance k words
    → AgreesSo g values s t h.labels stacks (allowed g types t number (canon.Builtin b) words h)
    (machine.allowed g t task number (canon.Builtin b) words (exempt_of t words (canon.Builtin b)) w)
kind_is g values s types h stacks w t task number b words (kind.Resource resource_op.New resource) there st is row =
    other_is g values s types h stacks w t task number (canon.Builtin b) words st (ap (λ (k : BuiltinKind). builtin_answer t words b.instance k h) is)
    (ap (λ (k : BuiltinKind). exempt_kind t words b.instance k) is) row
kind_is g values s types h stacks w t task number b words (kind.Resource resource_op.Drop resource) there st is row =
    other_is g values s types h stacks w t task number (canon.Builtin b) words st (ap (λ (k : BuiltinKind). builtin_answer t words b.instance k h) is)
    (ap (λ (k : BuiltinKind). exempt_kind t words b.instance k) is) row
kind_is g values s types h stacks w t task number b words (kind.Resource resource_op.Rep resource) there st is row =
    rep_is g values s types h stacks w t task number b words resource row.0.0 row.0.1 row.1 st is
kind_is g values s types h stacks w t task number b words (kind.TaskReturn result options) there st is row =
    other_is g values s types h stacks w t task number (canon.Builtin b) words st (ap (λ (k : BuiltinKind). builtin_answer t words b.instance k h) is)
    (ap (λ (k : BuiltinKind). exempt_kind t words b.instance k) is) row
kind_is g values s types h stacks w t task number b words (kind.Plain op) there st is row =
    other_is g values s types h stacks w t task number (canon.Builtin b) words st (ap (λ (k : BuiltinKind). builtin_answer t words b.instance k h) is)
    (ap (λ (k : BuiltinKind). exempt_kind t words b.instance k) is) row
kind_is g values s types h stacks w t task number b words (kind.Context op slot) there st is row =
    context_is g values s types h stacks w t task number b words op slot there st is row
kind_is g values s types h stacks w t task number b words (kind.Wait op cancellable memory) there st is row =
    other_is g values s types h stacks w t task number (canon.Builtin b) words st (ap (λ (k : BuiltinKind). builtin_answer t words b.instance k h) is)
    (ap (λ (k : BuiltinKind). exempt_kind t words b.instance k) is) row
kind_is g values s types h stacks w t task number b words (kind.End of_what element op) there st is row =
    other_is g values s types h stacks w t task number (canon.Builtin b) words st (ap (λ (k : BuiltinKind). builtin_answer t words b.instance k h) is)
    (ap (λ (k : BuiltinKind). exempt_kind t words b.instance k) is) row

canon_is : (g : Graph) (values : List ValType) (s : Script) (types : List (Option ℕ)) (h : Held) (stacks : List (List Stack)) (w : World) (t : ℕ) (task : Task) (number : ℕ) (c : CanonFunc) (words : List ℕ)
    → slice_get w.tasks t ≡ Some task → Stands g values s h stacks w
    → CanonRow (reading.may_leave w ≡ true → AgreesSo g values s t h.labels stacks (canon_answered g types t number c words h) (reply g t task number c words w)) w c words
    → AgreesSo g values s t h.labels stacks (allowed g types t number c words h) (machine.allowed g t task number c words (exempt_of t words c) w)
canon_is g values s types h stacks w t task number (canon.Lower l) words there st row =
    other_is g values s types h stacks w t task number (canon.Lower l) words st refl refl row
canon_is g values s types h stacks w t task number (canon.Builtin b) words there st row =
    kind_is g values s types h stacks w t task number b words b.kind there st refl row

-- The whole call.
pub call_agrees : CallAgrees
unfolding calls calling_turn
call_agrees g values s types h stacks w t task number c words first there is keeps row st =
    let one : IsFound (TaskStands g s) (slice_get h.tasks t) (slice_get w.tasks t) = found_both (TaskStands g s) h.tasks w.tasks t st.are_tasks (ap is_some there) in
    let told : Held = line_told t c words h in
    let rest : AgreesSo g values s t told.labels stacks (allowed g types t number c words told) (machine.allowed g t task number c words (exempt_of t words c) w) =
    canon_is g values s types told stacks w t task number c words there st row in (
      rest.0,
      rest.1,
      on_as g values s t h.labels rest.0 _ _ _ _
          (via _ _ _ _ (acting_is g values s h stacks w t first st) ∙ found (slice_get g.canons number) c (λ c. after (words_of t h) (λ words l. after (begun t c words l) (λ done m. allowed g types t number c words m))) is
          ∙ via _ _ _ _ (words_are t h one.left one.is_left ∙ ap (λ (words : List ℕ). Gives words h) (keeps one.left one.is_left))
          ∙ ap (λ (name : shown.Builtin). allowed g types t number c words (record h { labels = h.labels ++ line.Do t name words ∷ [] })) (names_are_alike c))
          (turn_found (reading.acting w) (t, task) (λ a. turns.given (canon_at g number) (λ c. behind (line.Do a.0 (builtin_of c) words ∷ [])
          (machine.allowed g a.0 a.1 number c words (exempt_of a.0 words c) w))) (acting_there w t task first there)
          ∙ turn_found (canon_at g number) c (λ c. behind (line.Do t (builtin_of c) words ∷ []) (machine.allowed g t task number c words (exempt_of t words c) w)) is)
          (rest.2.0, on_behind g values s t h.labels rest.0 (line.Do t (builtin_of c) words) _ rest.2.0 _ rest.2.1),
    )

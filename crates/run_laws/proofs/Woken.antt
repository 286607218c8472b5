-- What tasks do at a rest, but where code runs and where task 0 instantiates.
use Rattle.std.proofs.Common.{◌≡◌, ◌⊎◌, inl, inr, ℕ, List, refl, sym, ap, ◌∙◌, subst, is_some, Option, Some, None}
use Rattle.std.specs.Prelude.{IsSome}
use Rattle.std.specs.List.{slice_get}
use Rattle.std.specs.Option.{option_and_then}
use Rattle.wasm_store.specs.Stack.{Stack}
use Rattle.syntax_trees.specs.declared.types.ValType.{ValType}
use Rattle.comp_graph.specs.declared.graph.Builtin.{Builtin}
use Rattle.comp_graph.specs.declared.graph.BuiltinKind.{BuiltinKind}
use Rattle.comp_graph.specs.declared.graph.BuiltinKind.TheVariants as kind
use Rattle.comp_graph.specs.declared.graph.CanonFunc.{CanonFunc}
use Rattle.comp_graph.specs.declared.graph.CanonFunc.TheVariants as canon
use Rattle.comp_graph.specs.Graph.{Graph, Lifted}
use Rattle.script_reader.specs.Script.{Script}
use Rattle.trace_labels.specs.declared.label.Label.{Label}
use Rattle.trace_labels.specs.declared.trap.TrapName.TheVariants as trap
use Rattle.task_table.specs.declared.slot.TaskSlot.{TaskSlot}
use Rattle.programs.specs.declared.program.Program.{Program}
use Rattle.world_parts.specs.declared.parts.Flow.{Flow}
use Rattle.world_parts.specs.declared.parts.Flow.TheVariants as flow
use Rattle.world_parts.specs.declared.parts.Rest.{Rest}
use Rattle.world_parts.specs.declared.parts.Rest.TheVariants as rest
use Rattle.world_parts.specs.Held as kept
use Rattle.world_parts.specs.Held.{Held, Done, Gives, after, given}
use Rattle.world_parts.specs.Calls.{back}
use Rattle.world_parts.specs.Feed.{acting}
use Rattle.world_parts.specs.Going.{arrives, leaves, resumes}
use Rattle.world_parts.specs.Slots.{words_of}
use Rattle.world_parts.specs.Turning.{goes}
use Rattle.replies.specs.Seen.{seen}
use Rattle.world_stacks.specs.Exempt.{exempt_answer}
use Rattle.replies.specs.Replies.{begun, builtin_reply, may_leave}
use Rattle.machine_runs.specs.Calling.{kind_answered, canon_answered, allowed_by, allowed, calls}
use Rattle.machine_runs.specs.Moving.{woken}
use Rattle.abi_machine.specs.Canons.{inst_of_canon}
use Rattle.abi_machine.specs.Cancelling.{back_turn}
use Rattle.abi_machine.specs.Control.{Control}
use Rattle.abi_machine.specs.Delivering.{resuming_turn}
use Rattle.abi_machine.specs.Entering.{arriving_turn}
use Rattle.abi_machine.specs.Next.{next, next_by}
use Rattle.abi_machine.specs.Reply.{calling_turn}
use Rattle.abi_machine.specs.Returning.{leaving_turn}
use Rattle.abi_machine.specs.Scheduling.{going_turn}
use Rattle.abi_machine.specs.Turn.{Turn}
use Rattle.abi_machine.specs.World.{ForYield, ForSet, ForCall, ForCopy, ForCancel, Wait, New, Acting, AfterCall, AfterCancel, Begins, WaitsToEnter, InLoop, InBuiltin, Exited, TaskState, Task, World}
use Rattle.standing.specs.Stands.{Stands}
use Rattle.standing.specs.Agreeing.{words_in, acting_words, control_of, control_at, Agrees}
use Rattle.standing.specs.Callings.{MayGrow}
use Rattle.standing.specs.Events.{AgreesOn}
use Rattle.standing.specs.Moves.{Acts}
use Rattle.standing.specs.Tasks.{TaskStands}
use Rattle.standing.proofs.Arriving.{task_arrives}
use Rattle.standing.proofs.Backed.{back_from_a_call, back_from_a_cancel}
use Rattle.standing.proofs.Backing.{call_resumes, cancel_resumes}
use Rattle.standing.proofs.Changes.{acting_is_alike}
use Rattle.standing.proofs.CopyResuming.{copy_resumes}
use Rattle.standing.proofs.Going.{acting_goes_on}
use Rattle.standing.proofs.Leaving.{task_exits}
use Rattle.standing.proofs.Lists.{IsFound, found_both}
use Rattle.standing.proofs.Resuming.{entry_resumes, yield_resumes, set_resumes, loop_resumes}
use Rattle.standing.proofs.Seen.{graph_is_seen}
use Rattle.run_laws.specs.Answering.{HasWordsFor, CallsOwn, IsSoundAt, IsBeside}
use Rattle.run_laws.specs.Dispatch.{AgreesSo}
use Rattle.run_laws.specs.Steps.{IsCalled, WaitWell, BlockedWell, BackWell, CallWell, TaskWell}
use Rattle.run_laws.proofs.Answering.{call_is_answered}
use Rattle.run_laws.proofs.CalledOnce.{IsOnce, called_once}
use Rattle.run_laws.proofs.Freed.{freed, open_freed, acts_freed, own_freed, sound_freed, beside_freed}
use Rattle.run_laws.proofs.plain.Feed.{got_plain}
use Rattle.run_laws.proofs.plain.Only.{PlainBy, plain_after, plain_if}
use Rattle.run_laws.proofs.plain.Replying.{lowered_plain, resource_reply_plain, context_reply_plain, plain_reply_plain}
use Rattle.run_laws.proofs.plain.Waits.{set_wait_plain}
use Rattle.run_laws.proofs.stays.Calling.{calls_stays}
use Rattle.run_laws.proofs.stays.Calls.{back_stays}
use Rattle.run_laws.proofs.stays.Going.{arrives_stays, leaves_stays, resumes_stays}
use Rattle.run_laws.proofs.stays.Same.{FlowsBy}

-- A part that may make a task agrees with a turn; where it agrees with later ones too it leaves nothing to be passed.
abbrev pub Wakes : Graph → List ValType → Script → ℕ → List Label → List (List Stack) → Done Flow → Turn → Type 0
Wakes g values s t before stacks d turn =
    (now : List (List Stack)) × MayGrow stacks now × ((AgreesOn g values s t before now d turn × PlainBy d) ⊎ Agrees g values s t before now d turn)

-- Where a task moves, but for code that runs and for instantiation.
abbrev pub IsMove : Rest → Type 0
IsMove (rest.Instantiates number) = ⊥
IsMove rest.Free = ⊥
IsMove rest.Arrives = Unit {0}
IsMove rest.Goes = Unit {0}
IsMove rest.Resumes = Unit {0}
IsMove rest.Back = Unit {0}
IsMove rest.Runs = ⊥
IsMove (rest.Calls number) = Unit {0}
IsMove rest.Leaves = Unit {0}

-- What is answered to a call, but by `task.return` and by built-ins of ends.
abbrev IsOther : CanonFunc → Type 0
IsOther (canon.Lower l) = Unit {0}
IsOther (canon.Builtin b) = IsOnce b.kind → ⊥

kind_plain : (g : Graph) (types : List (Option ℕ)) (t number : ℕ) (b : Builtin) (words : List ℕ) (h : Held) (k : BuiltinKind) → b.kind ≡ k → (IsOnce k → ⊥)
    → PlainBy (canon_answered g types t number (canon.Builtin b) words h)
kind_plain g types t number b words h (kind.Resource op resource) is other =
    subst (λ (k : BuiltinKind). PlainBy (kind_answered g types t number (canon.Builtin b) b.instance k words h)) (sym is)
    (subst (λ (k : BuiltinKind). PlainBy (builtin_reply g t b.instance number k words h)) (sym is) (resource_reply_plain g t b.instance number op resource words h))
kind_plain g types t number b words h (kind.TaskReturn result options) is other = absurd (other tt)
kind_plain g types t number b words h (kind.Plain op) is other =
    subst (λ (k : BuiltinKind). PlainBy (kind_answered g types t number (canon.Builtin b) b.instance k words h)) (sym is)
    (subst (λ (k : BuiltinKind). PlainBy (builtin_reply g t b.instance number k words h)) (sym is) (plain_reply_plain g t b.instance number op words h))
kind_plain g types t number b words h (kind.Context op slot) is other =
    subst (λ (k : BuiltinKind). PlainBy (kind_answered g types t number (canon.Builtin b) b.instance k words h)) (sym is)
    (subst (λ (k : BuiltinKind). PlainBy (builtin_reply g t b.instance number k words h)) (sym is) (context_reply_plain t op slot words h))
kind_plain g types t number b words h (kind.Wait op cancellable memory) is other =
    subst (λ (k : BuiltinKind). PlainBy (kind_answered g types t number (canon.Builtin b) b.instance k words h)) (sym is) (set_wait_plain (seen g) t b.instance number op words h)
kind_plain g types t number b words h (kind.End of_what element op) is other = absurd (other tt)

canon_plain : (g : Graph) (types : List (Option ℕ)) (t number : ℕ) (c : CanonFunc) (words : List ℕ) (h : Held) → IsOther c → PlainBy (canon_answered g types t number c words h)
canon_plain g types t number (canon.Lower l) words h other = lowered_plain t number l.lift words h
canon_plain g types t number (canon.Builtin b) words h other = kind_plain g types t number b words h b.kind refl other

allowed_plain : (g : Graph) (types : List (Option ℕ)) (t number : ℕ) (c : CanonFunc) (words : List ℕ) (h : Held) → IsOther c → PlainBy (allowed g types t number c words h)
unfolding allowed
allowed_plain g types t number c words h other =
    plain_after (exempt_answer t words c h) (λ answer k. allowed_by g types t number c words answer k) (λ answer k. by answer k)
  where
    by : (answer : Option (List ℕ)) (k : Held) → PlainBy (allowed_by g types t number c words answer k)
    by None k = plain_if (may_leave k) (canon_answered g types t number c words k) (kept.Traps trap.CannotLeave k) (canon_plain g types t number c words k other) tt
    by (Some answer) k = got_plain t answer k

-- A call, whoever acts.
calls_plain : (g : Graph) (types : List (Option ℕ)) (number : ℕ) (c : CanonFunc) (h : Held) → slice_get g.canons number ≡ Some c → IsOther c → PlainBy (calls g types number h)
unfolding calls
calls_plain g types number c h there other =
    plain_after (acting h) (λ t k. given (slice_get g.canons number) (λ c. after (words_of t k) (λ words l. after (begun t c words l) (λ done m. allowed g types t number c words m))))
    (λ t k.
    subst (λ (o : Option CanonFunc). PlainBy (given o (λ c. after (words_of t k) (λ words l. after (begun t c words l) (λ done m. allowed g types t number c words m))))) (sym there)
    (plain_after (words_of t k) (λ words l. after (begun t c words l) (λ done m. allowed g types t number c words m))
    (λ words l. plain_after (begun t c words l) (λ done m. allowed g types t number c words m) (λ done m. allowed_plain g types t number c words m other))))

module _ (p : Program) (values : List ValType) (s : Script) (h : Held) (stacks : List (List Stack)) (w : World) (t : ℕ) (task : Task) (first : slice_get w.chain 0 ≡ Some t)
    (there : slice_get w.tasks t ≡ Some task) (st : Stands p.graph.now values s h stacks w) where
  abbrev g : Graph
  g = p.graph.now

  abbrev z : World
  z = freed w

  abbrev Agreed : Done Flow → Turn → Type 0
  Agreed d turn = Agrees g values s t h.labels stacks d turn

  -- A blocked task goes on.
  waits_so : (f : Lifted) → Acts w t task f → (number : ℕ) (words : List ℕ) (x : Wait) → task.state ≡ InBuiltin number words x → WaitWell h w t f words x
      → Agreed (resumes h) (resuming_turn g z)
  waits_so f acts number words ForYield is asked = yield_resumes g values s h stacks z t task f number words (acts_freed w t task f acts) is asked st
  waits_so f acts number words (ForSet index) is asked =
      set_resumes g values s h stacks z t task f number index words (acts_freed w t task f acts) is asked.0 asked.1 asked.2 st
  waits_so f acts number words (ForCall callee) is asked =
      call_resumes g values s h stacks z t task f number callee words asked.slot asked.called (acts_freed w t task f acts) is asked.apart asked.is_kept st
  waits_so f acts number words (ForCopy index) is asked =
      copy_resumes g values s h stacks z t task f number index words asked.0 (acts_freed w t task f acts) is asked.1 (open_freed w f.instance index asked.2) asked.3 st
  waits_so f acts number words (ForCancel index) is asked =
      let call : IsCalled h t f asked.0 = asked.2 in
      cancel_resumes g values s h stacks z t task f number index asked.0 words call.slot call.called (acts_freed w t task f acts) is call.apart asked.1 call.is_kept st

  resumes_so : (f : Lifted) → Acts w t task f → (x : TaskState) → task.state ≡ x → BlockedWell h w t f x → Agreed (resumes h) (resuming_turn g z)
  resumes_so f acts New is asked = absurd asked
  resumes_so f acts Acting is asked = absurd asked
  resumes_so f acts (AfterCall callee number words) is asked = absurd asked
  resumes_so f acts (AfterCancel callee number words) is asked = absurd asked
  resumes_so f acts (Begins n) is asked = absurd asked
  resumes_so f acts WaitsToEnter is asked = entry_resumes g values s h stacks z t task f (acts_freed w t task f acts) is st
  resumes_so f acts (InLoop word) is asked = loop_resumes g values s h stacks z t task f word asked.0 (acts_freed w t task f acts) is asked.1 asked.2 st
  resumes_so f acts (InBuiltin number words x) is asked = waits_so f acts number words x is asked
  resumes_so f acts Exited is asked = absurd asked

  -- Control is back at one that called or cancelled another.
  back_so : (f : Lifted) → Acts w t task f → (x : TaskState) → task.state ≡ x → BackWell h t f x → Agreed (back (seen g) h) (back_turn g z)
  back_so f acts New is asked = absurd asked
  back_so f acts Acting is asked = absurd asked
  back_so f acts (AfterCall callee number words) is asked =
      back_from_a_call g values s (seen g) h stacks z t task f number callee words asked.slot asked.called ((graph_is_seen g).0.flag number) ((graph_is_seen g).0.is_async number)
      (acts_freed w t task f acts) is asked.apart asked.is_kept st
  back_so f acts (AfterCancel callee number words) is asked =
      back_from_a_cancel g values s (seen g) h stacks z t task f number callee words asked.slot asked.called ((graph_is_seen g).0.flag number) (acts_freed w t task f acts) is asked.apart
      asked.is_kept st
  back_so f acts (Begins n) is asked = absurd asked
  back_so f acts WaitsToEnter is asked = absurd asked
  back_so f acts (InLoop word) is asked = absurd asked
  back_so f acts (InBuiltin number words x) is asked = absurd asked
  back_so f acts Exited is asked = absurd asked

  -- A call.
  abbrev Answered : (number : ℕ) → CallWell p values h w t task number → Type 0
  Answered number x = Wakes g values s t h.labels stacks (calls g p.ends.now number h) (calling_turn g number x.words z)

  called_so : (number : ℕ) → h.rest ≡ rest.Calls number → (x : CallWell p values h w t task number) → (c : CanonFunc) → x.made ≡ c → Answered number x
  called_so number rests x (canon.Lower l) same =
      let so : AgreesSo g values s t h.labels stacks (calls g p.ends.now number h) (calling_turn g number x.words z) =
      call_is_answered g values s x.funcs p.ends.now h stacks z t task x.func number x.made x.words x.typed x.there rests x.keeps x.has first there (λ free. own_freed w t task x.func x.made (x.own free)) x.inside
      (sound_freed g w t (inst_of_canon x.made) x.sound) (beside_freed g h w t (inst_of_canon x.made) x.beside) st in
      (so.0, so.1, inl (so.2, calls_plain g p.ends.now number (canon.Lower l) h (x.there ∙ ap (λ (c : CanonFunc). Some c) same) tt))
  called_so number rests x (canon.Builtin b) same = by_kind b.kind refl
    where
      other : (IsOnce b.kind → ⊥) → Answered number x
      other apart =
          let so : AgreesSo g values s t h.labels stacks (calls g p.ends.now number h) (calling_turn g number x.words z) =
          call_is_answered g values s x.funcs p.ends.now h stacks z t task x.func number x.made x.words x.typed x.there rests x.keeps x.has first there (λ free. own_freed w t task x.func x.made (x.own free)) x.inside
          (sound_freed g w t (inst_of_canon x.made) x.sound) (beside_freed g h w t (inst_of_canon x.made) x.beside) st in
          (so.0, so.1, inl (so.2, calls_plain g p.ends.now number (canon.Builtin b) h (x.there ∙ ap (λ (c : CanonFunc). Some c) same) apart))

      at_once : (k : BuiltinKind) → b.kind ≡ k → IsOnce k → Answered number x
      at_once k is asks =
          (let here : inst_of_canon x.made ≡ b.instance = ap inst_of_canon same in (
            stacks,
            inl refl,
            inr (called_once g values s x.funcs p.ends.now h stacks z t task x.func number x.words b x.typed (x.there ∙ ap (λ (c : CanonFunc). Some c) same) rests x.keeps
                (subst (λ (c : CanonFunc). HasWordsFor c x.words) same x.has) first there
                (λ free. subst (λ (c : CanonFunc). CallsOwn z t task x.func c) same (own_freed w t task x.func x.made (x.own free)))
                (subst (λ (at : ℕ). IsSome (slice_get w.insts at)) here x.inside) (subst (λ (at : ℕ). IsSoundAt g z t at) here (sound_freed g w t (inst_of_canon x.made) x.sound))
                (subst (λ (at : ℕ). IsBeside g h z t at) here (beside_freed g h w t (inst_of_canon x.made) x.beside)) st k is asks),
          ))

      apart_by : (k : BuiltinKind) → b.kind ≡ k → (IsOnce k → ⊥) → IsOnce b.kind → ⊥
      apart_by k is apart asks = apart (subst IsOnce is asks)

      by_kind : (k : BuiltinKind) → b.kind ≡ k → Answered number x
      by_kind (kind.Resource op resource) is = other (apart_by (kind.Resource op resource) is (λ asks. asks))
      by_kind (kind.TaskReturn result options) is = at_once (kind.TaskReturn result options) is tt
      by_kind (kind.Plain op) is = other (apart_by (kind.Plain op) is (λ asks. asks))
      by_kind (kind.Context op slot) is = other (apart_by (kind.Context op slot) is (λ asks. asks))
      by_kind (kind.Wait op cancellable memory) is = other (apart_by (kind.Wait op cancellable memory) is (λ asks. asks))
      by_kind (kind.End of_what element op) is = at_once (kind.End of_what element op) is tt

  -- The machine's turn, where its control is that of the rest.
  turn_is : (r : Rest) → h.rest ≡ r → w.control ≡ control_at h → next g s w ≡ next_by g s z (control_of (acting_words h) r)
  turn_is r is control = ap (λ (c : Control). next_by g s z c) (control ∙ ap (λ (x : Rest). control_of (acting_words h) x) is)

  words_here : (number : ℕ) → h.rest ≡ rest.Calls number → (x : CallWell p values h w t task number) → acting_words h ≡ x.words
  words_here number is x =
      let both : IsFound (TaskStands g s) (slice_get h.tasks t) (slice_get w.tasks t) = found_both (TaskStands g s) h.tasks w.tasks t st.are_tasks (ap is_some there) in
      ap (λ (q : Option ℕ). words_in (option_and_then (λ n. slice_get h.tasks n) q)) (acting_is_alike g values s h stacks w st ∙ first)
      ∙ ap (λ (q : Option TaskSlot). words_in q) both.is_left ∙ x.keeps both.left both.is_left

  agrees_here : (d : Done Flow) (turn : Turn) → next g s w ≡ turn → Agreed d turn → Wakes g values s t h.labels stacks d (next g s w)
  agrees_here d turn is a = (stacks, inl refl, inr (subst (λ (x : Turn). Agreed d x) (sym is) a))

  pub wakes : (r : Rest) → IsMove r → h.rest ≡ r → w.control ≡ control_at h → TaskWell p values h w t task r → Wakes g values s t h.labels stacks (woken g p.ends.now r h) (next g s w)
  wakes (rest.Instantiates number) moves is control well = absurd moves
  wakes rest.Free moves is control well = absurd moves
  wakes rest.Arrives moves is control well =
      agrees_here (arrives h) (arriving_turn g z) (turn_is rest.Arrives is control)
      (task_arrives g values s h stacks z t task well.func (acts_freed w t task well.func well.acts) well.well.0 well.well.1 st)
  wakes rest.Goes moves is control well =
      agrees_here (after (goes h) (λ done k. Gives flow.Rests k)) (going_turn s z) (turn_is rest.Goes is control) (acting_goes_on g values s h stacks z t task first there st)
  wakes rest.Resumes moves is control well =
      agrees_here (resumes h) (resuming_turn g z) (turn_is rest.Resumes is control) (resumes_so well.func well.acts task.state refl well.well)
  wakes rest.Back moves is control well =
      agrees_here (back (seen g) h) (back_turn g z) (turn_is rest.Back is control) (back_so well.func well.acts task.state refl well.well)
  wakes rest.Runs moves is control well = absurd moves
  wakes (rest.Calls number) moves is control well =
      subst (λ (x : Turn). Wakes g values s t h.labels stacks (calls g p.ends.now number h) x)
      (sym (turn_is (rest.Calls number) is control ∙ ap (λ (words : List ℕ). calling_turn g number words z) (words_here number is well))) (called_so number is well well.made refl)
  wakes rest.Leaves moves is control well =
      agrees_here (leaves h) (leaving_turn z) (turn_is rest.Leaves is control)
      (task_exits g values s h stacks z t task well.func first there well.well.0 well.well.1 well.acts.runs well.acts.inside st)

-- What moves leave, but where a task goes on, which costs a unit.
pub woken_stays : (g : Graph) (types : List (Option ℕ)) (r : Rest) (h : Held) → IsMove r → (r ≡ rest.Goes → ⊥) → FlowsBy h (woken g types r h)
woken_stays g types (rest.Instantiates number) h moves apart = absurd moves
woken_stays g types rest.Free h moves apart = absurd moves
woken_stays g types rest.Arrives h moves apart = arrives_stays h
woken_stays g types rest.Goes h moves apart = absurd (apart refl)
woken_stays g types rest.Resumes h moves apart = resumes_stays h
woken_stays g types rest.Back h moves apart = back_stays (seen g) h
woken_stays g types rest.Runs h moves apart = absurd moves
woken_stays g types (rest.Calls number) h moves apart = calls_stays g types number h
woken_stays g types rest.Leaves h moves apart = leaves_stays h

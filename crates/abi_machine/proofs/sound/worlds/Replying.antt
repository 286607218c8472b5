-- A canonical function of the graph is called: a typed world is left.
use Rattle.std.proofs.Common.{◌≡◌, ◌∙◌, ◌<◌, inl, ◌^◌, ℕ, true, List, [], ◌∷◌, refl, sym, ap, subst, Option, Some, None, Result, Ok, Err}
use Rattle.std.specs.Prelude.{slice_index}
use Rattle.std.specs.List.{slice_get}
use Rattle.syntax_trees.specs.declared.module_types.FuncType.{FuncType}
use Rattle.syntax_trees.specs.declared.module_types.ValType.TheVariants.{I32}
use Rattle.syntax_trees.specs.declared.module_types.ValType as core_val
use Rattle.wasm_numbers.specs.Types.{AreWords}
use Rattle.syntax_trees.specs.declared.types.ValType.{ValType}
use Rattle.builtin_kinds.specs.declared.EndKind.{EndKind}
use Rattle.builtin_kinds.specs.declared.EndKind.TheVariants.{Stream, Future}
use Rattle.builtin_kinds.specs.declared.ContextOp.TheVariants as context_op
use Rattle.builtin_kinds.specs.declared.ResourceOp.{ResourceOp}
use Rattle.builtin_kinds.specs.declared.ResourceOp.TheVariants as resource_op
use Rattle.builtin_kinds.specs.declared.PlainBuiltin.{PlainBuiltin}
use Rattle.builtin_kinds.specs.declared.PlainBuiltin.TheVariants as plain
use Rattle.tasks.specs.Tasks.{is_asked}
use Rattle.comp_graph.specs.declared.graph.EndOp.{EndOp}
use Rattle.comp_graph.specs.declared.graph.EndOp.TheVariants as end_op
use Rattle.comp_graph.specs.declared.graph.BuiltinKind.{BuiltinKind}
use Rattle.comp_graph.specs.declared.graph.BuiltinKind.TheVariants as kind
use Rattle.comp_graph.specs.declared.graph.CanonFunc.{CanonFunc}
use Rattle.comp_graph.specs.declared.graph.CanonFunc.TheVariants as canon
use Rattle.comp_graph.specs.Graph.{Graph, resource_type, plain_type, copy_type, end_type, builtin_type, canon_type}
use Rattle.trace_labels.specs.declared.label.Label.TheVariants as line
use Rattle.trace_labels.specs.declared.trap.TrapName.{TrapName}
use Rattle.abi_machine.specs.World.{Func, Acting, Task, World}
use Rattle.abi_machine.specs.Edits.{word_changed, word_set}
use Rattle.abi_machine.specs.Canons.{builtin_of, canon_at, lifted_of}
use Rattle.abi_machine.specs.Reading.{acting, may_leave}
use Rattle.abi_machine.specs.Reply.{resource_turn, plain_turn, side_of, copy_size, end_turn, builtin_turn, reply, exempt_turn, allowed, calling_turn}
use Rattle.abi_machine.specs.replies.Context.{Exempt, rep_answered, exempt_kind, exempt_of}
use Rattle.abi_machine.specs.sound.Firsts.{TaskIs, FirstIs}
use Rattle.abi_machine.specs.sound.GraphFuncs.{IsOfGraph}
use Rattle.abi_machine.specs.sound.Callees.{IsUsedGraph}
use Rattle.abi_machine.specs.sound.Fitting.{FitsCall, CopiesFit}
use Rattle.abi_machine.specs.sound.Subtasks.{AreSubtasks}
use Rattle.abi_machine.specs.sound.TypedStacks.{TopIs, IsWaiting, WaitsTyped, CallsTyped}
use Rattle.abi_machine.specs.sound.TypedWorlds.{GivesWord}
use Rattle.abi_machine.proofs.sound.Found.{some_same, acting_first, acting_is}
use Rattle.abi_machine.proofs.sound.Acted.{still_is}
use Rattle.abi_machine.proofs.sound.CopyKinds.{IsKind, copy_is, copies_at}
use Rattle.abi_machine.proofs.sound.worlds.Grounds.{NotSync, ground_word}
use Rattle.abi_machine.proofs.sound.worlds.Turns.{IsGround, Good, behind_good, given_good, either_good, IsAt, At, replied_good}
use Rattle.abi_machine.proofs.sound.worlds.Passing.{Beside}
use Rattle.abi_machine.proofs.sound.worlds.Waking.{asked_apart}
use Rattle.abi_machine.proofs.sound.worlds.Built.{gives_word, resource_new_good, subtask_drop_good, pressure_inc_good, pressure_dec_good, pressure_set_good, set_new_good, set_drop_good, join_good, channel_new_good, copy_cancel_good, end_drop_good, yielding_good, waiting_good}
use Rattle.abi_machine.proofs.sound.worlds.Called.{WaitsAs, of_task, at_of, waits_of, calls_good, resource_drop_good, returning_good, task_cancel_good, subtask_cancel_good}
use Rattle.abi_machine.proofs.sound.worlds.Copied.{copy_good}

first_low : (types : List core_val.ValType) (words : List ℕ) → AreWords (I32 ∷ types) words → slice_index words 0 < 2 ^ 32
first_low types [] h = absurd h
first_low types (x ∷ words) h = h.0

copy_results : (what : EndKind) → (copy_type what).results ≡ I32 ∷ []
copy_results Stream = refl
copy_results Future = refl

-- What is known besides of the task that calls.
pub record IsKnown (g : Graph) (t : ℕ) (task : Task) (w : World) : Type 0 where
  pub there : slice_get w.tasks t ≡ Some task
  pub of_graph : IsOfGraph g task.callee
  pub fits : FitsCall g task.callee task.caller
  pub subtasks : AreSubtasks g w.tasks w.insts
  pub copies : CopiesFit g w.streams w.futures

module _ (g : Graph) (P : List ℕ → Type 0) (used : IsUsedGraph g) (t : ℕ) (task : Task) (number : ℕ) (words : List ℕ) (w : World) (known : IsKnown g t task w) where
  -- the canonical function, of a type
  pub record Calling (c : CanonFunc) (type : FuncType) : Type 0 where
    pub at : canon_at g number ≡ Some c
    pub is : canon_type c ≡ type
    pub takes : AreWords (canon_type c).params words
    pub says : (passed : List ℕ) → P passed → AreWords (canon_type c).results passed
    pub waits : Beside g t (WaitsAs (canon_type c).results) w

  acts : (c : CanonFunc) (type : FuncType) → Calling c type → At g P w t
  acts c type k = at_of g P w t (canon_type c).results k.says k.waits

  waits_at : (c : CanonFunc) (type : FuncType) → Calling c type → TaskIs w.tasks t (λ x. WaitsTyped g w.store number x)
  waits_at c type k = waits_of g P w t number c k.at k.waits

  says_so : (c : CanonFunc) (type : FuncType) → Calling c type → (passed : List ℕ) → P passed → AreWords type.results passed
  says_so c type k passed p = subst (λ (f : FuncType). AreWords f.results passed) k.is (k.says passed p)

  besides : (c : CanonFunc) (type : FuncType) → Calling c type → Beside g t (WaitsAs type.results) w
  besides c type k = subst (λ (f : FuncType). Beside g t (WaitsAs f.results) w) k.is k.waits

  takes_so : (c : CanonFunc) (type : FuncType) → Calling c type → AreWords type.params words
  takes_so c type k = subst (λ (f : FuncType). AreWords f.params words) k.is k.takes

  word_of_type : (c : CanonFunc) (type : FuncType) → Calling c type → type.results ≡ I32 ∷ [] → GivesWord g number
  word_of_type c type k one = gives_word g number c k.at (ap (λ (f : FuncType). f.results) k.is ∙ one)

  apart : (c : CanonFunc) (type : FuncType) → Calling c type → is_asked task.cancellation ≡ true → (x : Task) → slice_get w.tasks t ≡ Some x → NotSync g x
  apart c type k asked x now = subst (NotSync g) (some_same (sym known.there ∙ now)) (asked_apart g task (k.waits.ground.tasks_are t task known.there).fair asked)

  resource_good : (i : ℕ) (op : ResourceOp) (resource : ℕ) (c : CanonFunc) → Calling c (resource_type op) → Good g P (resource_turn g t i number op resource words w)
  unfolding resource_turn
  resource_good i resource_op.New resource c k = resource_new_good g P t i resource (slice_index words 0) w (first_low [] words (takes_so c _ k)) (acts c _ k)
  resource_good i resource_op.Drop resource c k = resource_drop_good g P used t i number c resource words w k.at (ap (λ (f : FuncType). f.results) k.is) (says_so c _ k) k.waits
  resource_good i resource_op.Rep resource c k = tt

  plain_good : (i : ℕ) (op : PlainBuiltin) (c : CanonFunc) → Calling c (plain_type op) → Good g P (plain_turn g t task i number op words w)
  unfolding plain_turn
  plain_good i plain.TaskCancel c k = task_cancel_good g P used t task w (says_so c _ k) known.there (besides c _ k)
  plain_good i plain.BackpressureSet c k = pressure_set_good g P t i (slice_index words 0) w (acts c _ k)
  plain_good i plain.BackpressureInc c k = pressure_inc_good g P t i w (acts c _ k)
  plain_good i plain.BackpressureDec c k = pressure_dec_good g P t i w (acts c _ k)
  plain_good i (plain.SubtaskCancel is_async) c k = subtask_cancel_good g P used t i number c words w k.at (word_of_type c _ k refl) known.subtasks k.waits
  plain_good i plain.SubtaskDrop c k = subtask_drop_good g P t i (slice_index words 0) w (acts c _ k)
  plain_good i (plain.Yield cancellable) c k = yielding_good g P used t task number cancellable words w (apart c _ k) (word_of_type c _ k refl) (waits_at c _ k) (acts c _ k)
  plain_good i plain.WaitableSetNew c k = set_new_good g P t i w (acts c _ k)
  plain_good i plain.WaitableSetDrop c k = set_drop_good g P t i (slice_index words 0) w (acts c _ k)
  plain_good i plain.WaitableJoin c k = join_good g P t i (slice_index words 0) (slice_index words 1) w (acts c _ k)

  end_good : (i : ℕ) (what : EndKind) (element : Option ValType) (op : EndOp) (c : CanonFunc) → IsKind g number (kind.End what element op) → Calling c (end_type what op) → Good g P (end_turn g t i number what element op words w)
  unfolding end_turn
  end_good i what element end_op.New c is k = channel_new_good g P t i what element w (acts c _ k)
  end_good i what element (end_op.Copy side options) c is k =
      copy_good g P used t i number what (side_of side) element options words (copy_size what words) w (λ passed p. subst (λ (ts : List core_val.ValType). AreWords ts passed) (copy_results what) (says_so c (copy_type what) k passed p))
      (word_of_type c (copy_type what) k (copy_results what)) (waits_at c (copy_type what) k)
      (λ e found. copies_at g w i what (side_of side) element (slice_index words 0) number e (copy_is g number what element side options is) found) known.copies
      (subst (λ (ts : List core_val.ValType). Beside g t (WaitsAs ts) w) (copy_results what) (besides c (copy_type what) k))
  end_good i what element (end_op.Cancel side is_async) c is k = copy_cancel_good g P t i what (side_of side) element (slice_index words 0) w (acts c _ k)
  end_good i what element (end_op.Drop side) c is k = end_drop_good g P t i what (side_of side) element (slice_index words 0) w (acts c _ k)

  builtin_good : (i : ℕ) (b : BuiltinKind) (c : CanonFunc) → IsKind g number b → Calling c (builtin_type b) → Good g P (builtin_turn g t task i number b words w)
  unfolding builtin_turn
  builtin_good i (kind.Resource op resource) c is k = resource_good i op resource c k
  builtin_good i (kind.TaskReturn result options) c is k = returning_good g P used t task i result options words w (says_so c _ k) known.there known.of_graph known.fits (besides c _ k)
  builtin_good i (kind.Plain op) c is k = plain_good i op c k
  builtin_good i (kind.Context op slot) c is k = tt
  builtin_good i (kind.Wait op cancellable memory) c is k = waiting_good g P used t task i op number words w (apart c _ k) (word_of_type c _ k refl) (waits_at c _ k) (acts c _ k)
  builtin_good i (kind.End what element op) c is k = end_good i what element op c is k

  reply_good : (c : CanonFunc) → Calling c (canon_type c) → Good g P (reply g t task number c words w)
  unfolding reply
  reply_good (canon.Lower l) k = calls_good g P t number (canon.Lower l) words (Func (lifted_of l)) (lifted_of l) words w k.at k.waits
  reply_good (canon.Builtin b) k = builtin_good b.instance b.kind (canon.Builtin b) (b, k.at, refl) k

  -- what is answered also where the instance may not be left
  abbrev IfExempt : Option Exempt → Type 0
  IfExempt None = Unit {0}
  IfExempt (Some exempt) = Good g P (exempt_turn t (exempt w) w)

  rep_good : (r : Result ℕ TrapName) → At g P w t → Good g P (exempt_turn t (rep_answered w r) w)
  unfolding exempt_turn
  rep_good (Ok rep) h = replied_good g P t (rep ∷ []) w h
  rep_good (Err why) h = λ a inside. inl tt

  exempt_good : (i : ℕ) (b : BuiltinKind) (c : CanonFunc) → Calling c (builtin_type b) → IfExempt (exempt_kind t words i b)
  unfolding exempt_turn
  exempt_good i (kind.Context context_op.Get slot) c k = replied_good g P t _ w (acts c _ k)
  exempt_good i (kind.Context context_op.Set slot) c k =
      (let h : At g P w t = acts c _ k in
      replied_good g P t [] (word_set t slot (slice_index words 0) w) (record {
        ground = ground_word g w.store t slot (slice_index words 0) w.tasks w.insts None (first_low [] words (takes_so c _ k)) h.ground;
        first = h.first;
        is = still_is w.tasks t t (λ x. record x { context = word_changed slot (slice_index words 0) x.context }) (IsAt g P w.store) (λ x own. (own.0, record { asked = own.1.asked; top = own.1.top; takes = own.1.takes })) h.is;
      }))
  exempt_good i (kind.Resource resource_op.Rep resource) c k = rep_good _ (acts c _ k)
  exempt_good i (kind.Resource resource_op.New resource) c k = tt
  exempt_good i (kind.Resource resource_op.Drop resource) c k = tt
  exempt_good i (kind.TaskReturn result options) c k = tt
  exempt_good i (kind.Plain op) c k = tt
  exempt_good i (kind.Wait op cancellable memory) c k = tt
  exempt_good i (kind.End what element op) c k = tt

  exempts : (c : CanonFunc) → Calling c (canon_type c) → IfExempt (exempt_of t words c)
  exempts (canon.Lower l) k = tt
  exempts (canon.Builtin b) k = exempt_good b.instance b.kind (canon.Builtin b) k

  pub allowed_good : (c : CanonFunc) (o : Option Exempt) → IfExempt o → Calling c (canon_type c) → Good g P (allowed g t task number c words o w)
  unfolding allowed
  allowed_good c (Some exempt) h k = h
  allowed_good c None h k = either_good g P (may_leave w) _ _ (λ may. reply_good c k) (λ not. λ a inside. inl tt)

module _ (g : Graph) (P : List ℕ → Type 0) (used : IsUsedGraph g) where
  pub calling_good : (number : ℕ) (words : List ℕ) (w : World) → IsGround g w → FirstIs w.tasks w.chain (CallsTyped g w.store number words)
      → ((a : ℕ × Task) → acting w ≡ Some a → (a.1.state ≡ Acting) × IsKnown g a.0 a.1 w) → ((c : CanonFunc) → canon_at g number ≡ Some c → (passed : List ℕ) → P passed → AreWords (canon_type c).results passed) → Good g P (calling_turn g number words w)
  unfolding calling_turn
  calling_good number words w ground calls known says =
      given_good g P (acting w) _ (λ a e. given_good g P (canon_at g number) _ (λ c at.
      behind_good g P (line.Do a.0 (builtin_of c) words ∷ []) (allowed g a.0 a.1 number c words (exempt_of a.0 words c) w)
      (let task_is : TaskIs w.tasks a.0 (CallsTyped g w.store number words) = subst (λ (n : ℕ). TaskIs w.tasks n (CallsTyped g w.store number words)) (some_same (sym calls.1 ∙ acting_first w a e)) calls.2 in
      let own : CallsTyped g w.store number words a.1 = of_task w.tasks a.0 (CallsTyped g w.store number words) a.1 (acting_is w a e) task_is in
      let same : own.0 ≡ c = some_same (sym own.1 ∙ at) in
      let k : Calling g P used a.0 a.1 number words w (known a e).1 c (canon_type c) = record {
        at = at;
        is = refl;
        takes = subst (λ (x : CanonFunc). AreWords (canon_type x).params words) same own.2;
        says = says c at;
        waits = record { ground = ground; first = acting_first w a e; is = (a.1, acting_is w a e, ((known a e).0, subst (λ (x : CanonFunc). TopIs (IsWaiting w.store (canon_type x).results) w.store a.1.callee a.1.stacks) same own.3)) };
      } in
      allowed_good g P used a.0 a.1 number words w (known a e).1 c (exempt_of a.0 words c) (exempts g P used a.0 a.1 number words w (known a e).1 c k) k)))

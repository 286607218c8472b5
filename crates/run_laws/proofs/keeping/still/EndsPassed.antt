-- Values that are passed keep ends: those that leave a table come to another one, readable and idle.
use Rattle.std.proofs.Common.{◌≡◌, ◌∙◌, ℕ, Bool, true, false, not, if◌then◌else◌, List, [], ◌∷◌, Option, Some, None, refl, sym, ap, subst}
use Rattle.std.specs.List.{slice_get}
use Rattle.syntax_trees.specs.declared.types.ValType.{ValType, out-ValType}
use Rattle.syntax_trees.specs.declared.value.Value.{Value}
use Rattle.laid_types.specs.Known.{Numbered, numbered_at}
use Rattle.entry_gate.specs.declared.kind.Kind.{Kind}
use Rattle.entry_gate.specs.declared.kind.Kind.TheVariants.{Sync, Callback, Stackful}
use Rattle.comp_graph.specs.declared.graph.FuncRef.{FuncRef}
use Rattle.comp_graph.specs.declared.graph.Lift.{Lift}
use Rattle.comp_graph.specs.declared.graph.Options.{Options}
use Rattle.graph_views.specs.Canons.{canon_at, instance_of, options_at, options_of}
use Rattle.graph_views.specs.Callees.{lift_of}
use Rattle.programs.specs.declared.program.Program.{Program}
use Rattle.programs.specs.Program.{params_of, returned_of, value_of, host_values, numbers_of, params_in}
use Rattle.return_replies.specs.Returns.{same_held, same_memory, checked, return_checked, type_of}
use Rattle.task_table.specs.declared.caller.Caller.{Caller}
use Rattle.task_table.specs.declared.caller.Caller.TheVariants.{Guest, Nobody, Host}
use Rattle.task_table.specs.declared.errand.Callee.{Callee}
use Rattle.task_table.specs.declared.errand.Callee.TheVariants as callee
use Rattle.task_table.specs.declared.slot.TaskSlot.{TaskSlot}
use Rattle.task_table.specs.Callers.{called_of}
use Rattle.trace_labels.specs.declared.trap.TrapName.TheVariants as trap
use Rattle.trace_labels.specs.declared.typed.TypedValue.{TypedValue}
use Rattle.world_parts.specs.declared.parts.Flow.{Flow}
use Rattle.world_parts.specs.declared.parts.Flow.TheVariants as flow
use Rattle.world_parts.specs.declared.parts.Rest.TheVariants as rest
use Rattle.world_parts.specs.Held.{Held, Done, Gives, Traps, Spent, Stuck, after, given}
use Rattle.world_parts.specs.Feed.{at_rest, got}
use Rattle.world_parts.specs.Places.{memory_of}
use Rattle.world_parts.specs.Slots.{callee_of, instance_of as at_of, word_in}
use Rattle.world_parts.specs.Going.{enters, ending, loops}
use Rattle.world_parts.specs.Plain.{returned}
use Rattle.value_parts.specs.Coming.{Behind, Then}
use Rattle.value_parts.specs.Passing.{arguments_lifted, ended_lifted, returned_lifted, passed_limit, arguments_passed, arguments_by, typed_result, result_of_type, result_by, result_lifted}
use Rattle.value_moves.specs.Entering.{words_passed, ValuesCome, ArgumentsCome, entered, started_by, Enters}
use Rattle.value_moves.specs.Lowered.{LowersArguments}
use Rattle.value_moves.specs.Resolving.{PassesOn, Resolves, PostReturnsTo, Ends, type_by, return_tested, ReturnResolves, Returns}
use Rattle.standing.specs.Channels.{HasMarkedEnds, EndMarked}
use Rattle.run_laws.specs.keeping.Kept.{KeepsMarks, RunsFunction, EntersFree}
use Rattle.run_laws.specs.keeping.Liftings.{ArgumentsLendWell, ResultLendsWell}
use Rattle.run_laws.specs.keeping.Lowerings.{EndComes, RunsInOwn, HoldsNoBorrow}
use Rattle.run_laws.proofs.keeping.But.{HasBut, LeavesSo, HoldsSo, but_of, marks_of, tables_of, leaves_given, leaves_after, leaves_if, as_holds, right_at}
use Rattle.run_laws.proofs.keeping.Going.{enters_marks}
use Rattle.run_laws.proofs.keeping.Lifted.{LiftsSo}
use Rattle.run_laws.proofs.keeping.Liftings.{arguments_but, ended_but, returned_but}
use Rattle.run_laws.proofs.keeping.Nested.{post_returns_but}
use Rattle.run_laws.proofs.keeping.Passed as passed
use Rattle.run_laws.proofs.keeping.Passed.{result_but}
use Rattle.run_laws.proofs.keeping.Planned.{AreAll, Ends as TypedEnds, ends_typed}
use Rattle.run_laws.proofs.keeping.Prior.{Before, Prior, called_behind, QuietBy, tables_behind, ends_behind}
use Rattle.run_laws.proofs.keeping.Quiet.{enters_quiet, returned_quiet}
use Rattle.run_laws.proofs.keeping.Script.{returned_marks}
use Rattle.std.specs.Option.{option_map}
use Rattle.syntax_trees.specs.declared.value.Value.TheViews as value
use Rattle.laid_types.specs.SameTypes.{AreDistinct}
use Rattle.stream_ends.specs.declared.side.Side.TheVariants.{Reader}
use Rattle.value_lift.specs.Lifting.{tuple_case}
use Rattle.value_lift.specs.declared.counting.LiftOf.TheVariants as whole
use Rattle.channels.specs.declared.channel.Channel.{Channel}
use Rattle.value_parts.specs.declared.lifting.Origin.{Origin}
use Rattle.value_parts.specs.Lifting.{value_lifted}
use Rattle.abi_machine.proofs.sound.Found.{some_same}
use Rattle.run_laws.proofs.Taking.{held_told}
use Rattle.run_laws.proofs.keeping.Passings.{behind_so, as_so}
use Rattle.run_laws.proofs.keeping.still.EndsCome.{Alike, AlikeBy, Anything, alike_after, alike_given, alike_if, value_comes}
use Rattle.programs.specs.declared.program.FuncNumbers.{FuncNumbers}
use Rattle.world_parts.specs.declared.parts.Copying.{Copying}
use Rattle.value_parts.specs.declared.to_pass.Passing.{Passing}
use Rattle.value_parts.specs.declared.to_pass.Passing.TheVariants as passing
use Rattle.value_moves.specs.Passing.{async_ended, SyncEnds, KindEnds, call_at, ReturnsBy, PassesFor}
use Rattle.run_laws.specs.keeping.Passings.{EndsBy, PassesSo}
use Rattle.builtin_kinds.specs.declared.EndKind.{EndKind}
use Rattle.run_laws.specs.keeping.Still.{EndsKept}
use Rattle.run_laws.proofs.keeping.still.Still.{StillBy}
use Rattle.run_laws.proofs.keeping.still.Going.{loops_still, ending_still}

-- A part that keeps all marks, and leaves tables as they were.
quiet_but : {A : Type 0} (C : Type 0) (t : ℕ) (h : Held) (d : Done A) → KeepsMarks h d → QuietBy h d → HasBut C t 0 h → LeavesSo C (LiftsSo C t 0 h) d
quiet_but C t h (Gives x k) p q but =
    (but_of C t k (p (marks_of C t h but)) (tables_behind h k q (tables_of C t 0 h but)) (λ c. ends_behind h k q (but.ends c)), q.prior)
quiet_but C t h (Traps why k) p q but = (p (marks_of C t h but), λ c. ends_behind h k q (but.ends c))
quiet_but C t h (Spent k) p q but = tt
quiet_but C t h Stuck p q but = tt

-- What is asked of tasks stays where they run what they ran.
runs_behind : (p : Program) (t : ℕ) (h k : Held) → Prior h k → RunsInOwn p t h → RunsInOwn p t k
runs_behind p t h k q runs slot f found of =
    let b : Before h.tasks t slot = q.before t slot found in
    b.prior.instance ∙ runs b.slot f b.is (ap (λ (c : Callee). lift_of p.graph.now c) (sym b.prior.callee) ∙ of)

lends_behind : (p : Program) (t : ℕ) (h k : Held) → Prior h k → ArgumentsLendWell p t h → ArgumentsLendWell p t k
lends_behind p t h k q may slot type called c found of by made holds =
    let b : Before h.tasks t slot = q.before t slot found in
    let calls = b.prior.calls called by in
    called_behind h k (instance_of c) t q
    (may b.slot type calls.0 c b.is (ap (λ (x : Callee). params_of p x) (sym b.prior.callee) ∙ of) calls.1 (ap (λ (n : ℕ). canon_at p.graph.now n) (sym calls.3) ∙ made) holds)

-- Behind a part that leaves something so, and gives something that is so.
behind_two : {A B : Type 0} (C : Type 0) (P : Held → Type 0) (V : A → Type 0) (Q : Held → Type 0) (h : Held) (d : Done A) (F : A → Held → Done B → Type 0) (e : Done B) → LeavesSo C P d → AlikeBy V h d
    → ((x : A) (k : Held) → P k → V x → Alike h k → F x k e → LeavesSo C Q e) → Behind d F e → LeavesSo C Q e
behind_two C P V Q h (Gives x k) F e p v more b = more x k p v.0 v.1 b
behind_two {A} {B} C P V Q h (Traps why k) F e p v more b = subst (λ (d : Done B). LeavesSo C Q d) (sym b) p
behind_two {A} {B} C P V Q h (Spent k) F e p v more b = subst (λ (d : Done B). LeavesSo C Q d) (sym b) tt
behind_two {A} {B} C P V Q h Stuck F e p v more b = subst (λ (d : Done B). LeavesSo C Q d) (sym b) tt

weaker : {A : Type 0} (V W : A → Type 0) (h : Held) (d : Done A) → ((x : A) → V x → W x) → AlikeBy V h d → AlikeBy W h d
weaker V W h (Gives x k) f p = (f x p.0, p.1)
weaker V W h (Traps why k) f p = tt
weaker V W h (Spent k) f p = tt
weaker V W h Stuck f p = tt

-- Of each end in a value.
all_mapped : (P R : ValType → ℕ → Type 0) (es : TypedEnds) → ((type : ValType) (number : ℕ) → P type number → R type number) → AreAll P es → AreAll R es
all_mapped P R [] f h = tt
all_mapped P R (e ∷ es) f h = (f e.0 e.1 h.0, all_mapped P R es f h.1)

-- The type of a number is among the types.
numbered_types : (types : List ValType) (o : Option ValType) (number : ℕ) (type : Numbered) → option_map (λ (t : ValType). (let n : Numbered = record { types = types; number = number; val_type = t } in n)) o ≡ Some type
    → type.types ≡ types
numbered_types types None number type e = absurd (cc)
numbered_types types (Some t) number type e = ap (λ (n : Numbered). n.types) (sym (some_same e))

-- The ends in values that the script passes: none.
abbrev pub HostEnds : Program → Type 0
HostEnds p = (call : ℕ) (values : List Value) (t : ValType) → host_values p call ≡ Some values → ends_typed (value.Record values) t ≡ []

module _ (p : Program) (t : ℕ) (distinct : AreDistinct p.types.now) (host : HostEnds p) where
  abbrev C : Type 0
  C = Unit {0}

  abbrev Q : Held → Type 0
  Q k = HasBut C t 0 k

  -- The ends in a value that was lifted come, of this type.
  abbrev Come : Held → Numbered → Value → Type 0
  Come h type v = AreAll (λ end_type number. EndComes h type.types end_type number) (ends_typed v type.val_type)

  come_behind : (h k : Held) (type : Numbered) (v : Value) → Alike h k → Come h type v → AreAll (λ end_type number. C → EndComes k type.types end_type number) (ends_typed v type.val_type)
  come_behind h k type v alike come =
      all_mapped (λ end_type number. EndComes h type.types end_type number) (λ end_type number. C → EndComes k type.types end_type number) (ends_typed v type.val_type)
      (λ end_type number comes c place there.
      subst (λ (all : List Channel). EndMarked k.streams all (record { side = Reader; end_type = place; number = number; is_idle = true })) (sym alike.1)
      (subst (λ (all : List Channel). EndMarked all h.futures (record { side = Reader; end_type = place; number = number; is_idle = true })) (sym alike.0) (comes place there))) come

  params_types : (c : Callee) (type : Numbered) → params_of p c ≡ Some type → type.types ≡ p.types.now
  params_types c type of = by (numbers_of p c) of
    where
      by : (o : Option FuncNumbers) → params_in p o ≡ Some type → type.types ≡ p.types.now
      by None e = absurd (cc)
      by (Some numbers) e = numbered_types p.types.now (slice_get p.types.now numbers.params) numbers.params type e

  are_distinct : (type : Numbered) → type.types ≡ p.types.now → AreDistinct type.types
  are_distinct type is = subst (λ (types : List ValType). AreDistinct types) (sym is) distinct

  -- Arguments.
  abbrev Argued : Held → Value → Type 0
  Argued h v = (slot : TaskSlot) (type : Numbered) → slice_get h.tasks t ≡ Some slot → params_of p slot.callee ≡ Some type → Come h type v

  by_caller : (h : Held) (type : Numbered) (c : Caller) → type.types ≡ p.types.now → HasMarkedEnds h → AlikeBy (Come h type) h (arguments_by p t type c h)
  unfolding arguments_passed
  by_caller h type Nobody of marked = tt
  by_caller h type (Host call) of marked =
      alike_given (Come h type) h (host_values p call) (λ values. Gives (value.Record values) h)
      (λ values is. (subst (λ (es : TypedEnds). AreAll (λ end_type number. EndComes h type.types end_type number) es) (sym (host call values type.val_type is)) tt, (refl, refl)))
  by_caller h type (Guest called) of marked =
      alike_given (Come h type) h (canon_at p.graph.now called.canon) (λ c. arguments_passed t c type called.words h)
      (λ c is.
      let from : Origin = record { at = instance_of c; callee = t; memory = memory_of (options_of c) h } in
      alike_if (Come h type) h (tuple_case (out-ValType type.val_type)) (value_lifted from whole.Arguments (passed_limit (options_of c).is_async) type called.words h) Stuck
      (λ e. value_comes h from type (are_distinct type of) marked whole.Arguments (passed_limit (options_of c).is_async) called.words) (λ e. tt))

  arguments_come : (h : Held) → HasMarkedEnds h → AlikeBy (Argued h) h (arguments_lifted p t h)
  unfolding arguments_lifted
  arguments_come h marked =
      alike_given (Argued h) h (slice_get h.tasks t) (λ slot. given (params_of p slot.callee) (λ type. arguments_by p t type slot.caller h))
      (λ slot is.
      alike_given (Argued h) h (params_of p slot.callee) (λ type. arguments_by p t type slot.caller h)
      (λ type of.
      weaker (Come h type) (Argued h) h (arguments_by p t type slot.caller h)
      (λ v come other there found known.
      let same : slot ≡ other = some_same (sym is ∙ found) in
      subst (λ (x : Numbered). Come h x v) (some_same (sym of ∙ ap (λ (s : TaskSlot). params_of p s.callee) same ∙ known)) come)
      (by_caller h type slot.caller (params_types slot.callee type of) marked)))

  -- A task enters, and its arguments come.
  entered_so : (h : Held) → RunsFunction h t → EntersFree h t → Q h → LeavesSo C (LiftsSo C t 0 h) (entered t h)
  entered_so h runs free but =
      leaves_after C (LiftsSo C t 0 h) (enters t h) (λ done k. callee_of t k) (quiet_but C t h (enters t h) (enters_marks t h runs free) (enters_quiet t h) but)
      (λ done k b. leaves_given C (LiftsSo C t 0 h) (slice_get k.tasks t) (λ slot. Gives slot.callee k) (λ slot is. b))

  values_so : (h : Held) (d : Done (List ℕ)) → ArgumentsLendWell p t h → RunsInOwn p t h → ValuesCome p t h d → Q h → LeavesSo C Q d
  values_so h d may runs b but =
      behind_two C (LiftsSo C t 0 h) (Argued h) Q h (arguments_lifted p t h) (λ v k e. LowersArguments p t v k e) d (arguments_but C t 0 p t h may but) (arguments_come h (but.ends tt))
      (λ v k q argued alike lowers.
      passed.arguments_but C p t v k d (runs_behind p t h k q.1 runs)
      (λ slot type found of.
      let b : Before h.tasks t slot = q.1.before t slot found in
      come_behind h k type v alike (argued b.slot type b.is (ap (λ (c : Callee). params_of p c) (sym b.prior.callee) ∙ of))) lowers q.0) b

  words_so : (h : Held) → Q h → LeavesSo C Q (words_passed t h)
  words_so h but =
      leaves_given C Q (slice_get h.tasks t) (λ slot. given (called_of slot.caller) (λ called. Gives called.words h))
      (λ slot is. leaves_given C Q (called_of slot.caller) (λ called. Gives called.words h) (λ called by. but))

  come_so : (c : Callee) (h : Held) (d : Done (List ℕ)) → ArgumentsLendWell p t h → RunsInOwn p t h → ArgumentsCome p t c h d → Q h → LeavesSo C Q d
  come_so callee.Init h d may runs b but = values_so h d may runs b but
  come_so (callee.Export number) h d may runs b but = values_so h d may runs b but
  come_so (callee.Lowered number) h d may runs b but = values_so h d may runs b but
  come_so (callee.Destroys resource) h d may runs b but = as_so C Q d (words_passed t h) b (words_so h but)

  started_so : (c : Callee) (words : List ℕ) (h : Held) → Q h → LeavesSo C Q (started_by p c words h)
  started_so c words h but = leaves_given C Q (lift_of p.graph.now c) (λ lift. Gives (flow.Starts lift.core words) (at_rest rest.Runs h)) (λ lift is. but)

  pub enters_so : (h : Held) (d : Done Flow) → RunsFunction h t → EntersFree h t → ArgumentsLendWell p t h → RunsInOwn p t h → Enters p t h d → Q h → LeavesSo C Q d
  enters_so h d runs free may own b but =
      behind_so C (LiftsSo C t 0 h) Q (entered t h) (λ c k e. Then (ArgumentsCome p t c k) (λ words l f. f ≡ started_by p c words l) e) d (entered_so h runs free but)
      (λ c k q (first, come, e).
      behind_so C Q Q first (λ words l f. f ≡ started_by p c words l) d (come_so c k first (lends_behind p t h k q.1 may) (runs_behind p t h k q.1 own) come q.0)
      (λ words l but is. as_so C Q d (started_by p c words l) is (started_so c words l but)) e) b

  -- A task resolves with a result.
  come_moves : (h k : Held) (type : Numbered) (v : Value) → Alike h k → Come h type v → Come k type v
  come_moves h k type v alike come =
      all_mapped (λ end_type number. EndComes h type.types end_type number) (λ end_type number. EndComes k type.types end_type number) (ends_typed v type.val_type)
      (λ end_type number comes place there.
      subst (λ (all : List Channel). EndMarked k.streams all (record { side = Reader; end_type = place; number = number; is_idle = true })) (sym alike.1)
      (subst (λ (all : List Channel). EndMarked all h.futures (record { side = Reader; end_type = place; number = number; is_idle = true })) (sym alike.0) (comes place there))) come

  abbrev TypedSo : Held → Numbered → Option TypedValue → Type 0
  TypedSo h type None = Unit {0}
  TypedSo h type (Some v) = Come h type v.value

  abbrev Resulted : Held → Option ℕ → Option TypedValue → Type 0
  Resulted h o v = (number : ℕ) (type : Numbered) → o ≡ Some number → numbered_at p.types.now number ≡ Some type → TypedSo h type v

  abbrev Ended : Held → Option TypedValue → Type 0
  Ended h v = (slot : TaskSlot) → slice_get h.tasks t ≡ Some slot → Resulted h (returned_of p slot.callee) v

  typed_moves : (h k : Held) (type : Numbered) (v : Option TypedValue) → Alike h k → TypedSo h type v → TypedSo k type v
  typed_moves h k type None alike so = tt
  typed_moves h k type (Some v) alike so = come_moves h k type v.value alike so

  ended_moves : (h k : Held) (v : Option TypedValue) → Prior h k → Alike h k → Ended h v → Ended k v
  ended_moves h k v q alike so slot found number type of known =
      let b : Before h.tasks t slot = q.before t slot found in
      typed_moves h k type v alike (so b.slot b.is number type (ap (λ (c : Callee). returned_of p c) (sym b.prior.callee) ∙ of) known)

  looked : {A B : Type 0} (W : B → Type 0) (h : Held) (o : Option TaskSlot) (g : TaskSlot → A) (f : A → Held → Done B) → ((slot : TaskSlot) → o ≡ Some slot → AlikeBy W h (f (g slot) h))
      → AlikeBy W h (let d : Done B = after (given o (λ slot. Gives (g slot) h)) f in d)
  looked W h None g f q = tt
  looked W h (Some slot) g f q = q slot refl

  numbered_in : (number : ℕ) (type : Numbered) → numbered_at p.types.now number ≡ Some type → type.types ≡ p.types.now
  numbered_in number type e = numbered_types p.types.now (slice_get p.types.now number) number type e

  of_type_come : (h : Held) (from : Origin) (limit : ℕ) (type : Numbered) (words : List ℕ) → type.types ≡ p.types.now → HasMarkedEnds h
      → AlikeBy (TypedSo h type) h (result_of_type from limit type words h)
  unfolding result_of_type
  of_type_come h from limit type words of marked =
      alike_after (Come h type) (TypedSo h type) h (value_lifted from whole.Value limit type words h) (λ v k. Gives (typed_result type.val_type v) k)
      (value_comes h from type (are_distinct type of) marked whole.Value limit words) (λ v k come alike. (come, (refl, refl)))

  by_come : (h : Held) (o memory : Option ℕ) (limit : ℕ) (words : List ℕ) → HasMarkedEnds h → AlikeBy (Resulted h o) h (result_by p t o memory limit words h)
  by_come h None memory limit words marked = (λ number type is of. tt, (refl, refl))
  by_come h (Some number) memory limit words marked =
      alike_given (Resulted h (Some number)) h (numbered_at p.types.now number)
      (λ type. after (at_of t h) (λ at k. result_of_type (record { at = at; callee = t; memory = memory }) limit type words k))
      (λ type of.
      looked (Resulted h (Some number)) h (slice_get h.tasks t) (λ slot. slot.instance) (λ at k. result_of_type (record { at = at; callee = t; memory = memory }) limit type words k)
      (λ slot is.
      weaker (TypedSo h type) (Resulted h (Some number)) h (result_of_type (record { at = slot.instance; callee = t; memory = memory }) limit type words h)
      (λ v so other named same known.
      subst (λ (x : Numbered). TypedSo h x v) (some_same (sym of ∙ ap (λ (n : ℕ). numbered_at p.types.now n) (some_same same) ∙ known)) so)
      (of_type_come h (record { at = slot.instance; callee = t; memory = memory }) limit type words (numbered_in number type of) marked)))

  result_comes : (h : Held) (o memory : Option ℕ) (limit : ℕ) (words : List ℕ) → HasMarkedEnds h → AlikeBy (Resulted h o) h (result_lifted p t o memory limit words h)
  unfolding result_lifted
  result_comes h o memory limit words marked = by_come h o memory limit words marked

  ended_comes : (words : List ℕ) (h : Held) → HasMarkedEnds h → AlikeBy (Ended h) h (ended_lifted p t words h)
  unfolding ended_lifted
  ended_comes words h marked =
      looked (Ended h) h (slice_get h.tasks t) (λ slot. slot.callee)
      (λ callee k. given (lift_of p.graph.now callee) (λ f. result_lifted p t (returned_of p callee) (memory_of f.options k) 1 words k))
      (λ slot is.
      alike_given (Ended h) h (lift_of p.graph.now slot.callee) (λ f. result_lifted p t (returned_of p slot.callee) (memory_of f.options h) 1 words h)
      (λ f made.
      weaker (Resulted h (returned_of p slot.callee)) (Ended h) h (result_lifted p t (returned_of p slot.callee) (memory_of f.options h) 1 words h)
      (λ v so other found number type of known.
      so number type (ap (λ (s : TaskSlot). returned_of p s.callee) (some_same (sym is ∙ found)) ∙ of) known)
      (result_comes h (returned_of p slot.callee) (memory_of f.options h) 1 words marked)))

  abbrev ResultPlain : Held → Type 0
  ResultPlain h = (slot : TaskSlot) → slice_get h.tasks t ≡ Some slot → HoldsNoBorrow p (returned_of p slot.callee)

  plain_behind : (h k : Held) → Prior h k → ResultPlain h → ResultPlain k
  plain_behind h k q plain slot found =
      let b : Before h.tasks t slot = q.before t slot found in
      subst (λ (c : Callee). HoldsNoBorrow p (returned_of p c)) (sym b.prior.callee) (plain b.slot b.is)

  on_so : (o : Option TypedValue) (h : Held) (d : Done (Unit {0})) → ResultPlain h → Ended h o → PassesOn p t o h d → Q h → LeavesSo C Q d
  on_so None h d plain ends b but = as_so C Q d (Gives tt h) b but
  on_so (Some v) h d plain ends b but =
      result_but C p t t v.value h d
      (λ slot is. (
        plain slot is,
        λ number type of known.
            all_mapped (λ end_type number. EndComes h type.types end_type number) (λ end_type number. C → EndComes h type.types end_type number) (ends_typed v.value type.val_type)
            (λ end_type number comes c. comes) (ends slot is number type of known),
      )) b but

  alike_of_quiet : {A : Type 0} (h : Held) (d : Done A) → QuietBy h d → AlikeBy Anything h d
  alike_of_quiet h (Gives x k) q = (tt, (q.streams, q.futures))
  alike_of_quiet h (Traps why k) q = tt
  alike_of_quiet h (Spent k) q = tt
  alike_of_quiet h Stuck q = tt

  resolves_so : (value : Option TypedValue) (h : Held) (d : Done (Unit {0})) → ResultPlain h → Ended h value → Resolves p t value h d → Q h → LeavesSo C Q d
  resolves_so value h d plain ends b but =
      behind_two C (LiftsSo C t 0 h) Anything Q h (returned t value h) (λ done k e. PassesOn p t value k e) d
      (quiet_but C t h (returned t value h) (returned_marks t value h) (returned_quiet t value h) but) (alike_of_quiet h (returned t value h) (returned_quiet t value h))
      (λ done k q any alike on. on_so value k d (plain_behind h k q.1 plain) (ended_moves h k value q.1 alike ends) on q.0) b

  -- Where nothing is lent for a result.
  plain_lends : (h : Held) (o : Option ℕ) → HoldsNoBorrow p o → ResultLendsWell p t o h
  plain_lends h o plain number type slot is known found holds = absurd (both (plain number type is known) holds)
    where
      both : {b : Bool} → b ≡ false → b ≡ true → ⊥
      both e f = cc

  pub ends_so : (post : Option FuncRef) (words : List ℕ) (h : Held) (d : Done (Unit {0})) → ResultPlain h → Ends p t post words h d → Q h → LeavesSo C Q d
  ends_so post words h d plain (first, resolves, b) but =
      behind_so C Q Q first (λ done k e. PostReturnsTo p t post words k e) d
      (behind_two C (LiftsSo C t 0 h) (Ended h) Q h (ended_lifted p t words h) (λ value k e. Resolves p t value k e) first
      (ended_but C t 0 p t words h (λ slot is. plain_lends h (returned_of p slot.callee) (plain slot is)) but) (ended_comes words h (but.ends tt))
      (λ value k q so alike r. resolves_so value k first (plain_behind h k q.1 plain) (ended_moves h k value q.1 alike so) r q.0) resolves)
      (λ done k kept post_returns. post_returns_but C t p t post words k d post_returns kept) b

  -- `task.return`: the type that it gives is that of the function.
  abbrev Tested : ℕ → Held → Unit {0} → Type 0
  Tested number h done = (slot : TaskSlot) → slice_get h.tasks t ≡ Some slot → type_of (type_by p (value_of p number)) ≡ type_of (type_by p (returned_of p slot.callee))

  not_false : (b : Bool) → not b ≡ false → b ≡ true
  not_false true e = refl
  not_false false e = absurd (cc)

  checked_comes : (number : ℕ) (h : Held) (is_same : Bool) (options lifted : Options) → (is_same ≡ true → Tested number h tt) → AlikeBy (Tested number h) h (checked is_same options lifted h)
  checked_comes number h is_same options lifted so =
      alike_if (Tested number h) h (not is_same) (Traps trap.WrongResult h) (if not (same_memory (memory_of options h) (memory_of lifted h)) then Traps trap.WrongOptions h else Gives tt h) (λ e. tt)
      (λ e.
      alike_if (Tested number h) h (not (same_memory (memory_of options h) (memory_of lifted h))) (Traps trap.WrongOptions h) (Gives tt h) (λ f. tt)
      (λ f. (so (not_false is_same e), (refl, refl))))

  tested_comes : (number : ℕ) (h : Held) → AlikeBy (Tested number h) h (return_tested p t number h)
  tested_comes number h =
      looked (Tested number h) h (slice_get h.tasks t) (λ slot. slot.callee)
      (λ c k. return_checked p.graph.now t (type_of (type_by p (value_of p number))) (type_of (type_by p (returned_of p c))) (options_at p.graph.now number) k)
      (λ slot is.
      let wanted : Option ValType = type_of (type_by p (returned_of p slot.callee)) in
      let given_type : Option ValType = type_of (type_by p (value_of p number)) in
      looked (Tested number h) h (slice_get h.tasks t) (λ s. s.callee)
      (λ x k. given (lift_of p.graph.now x) (λ lift. checked (same_held (type_of (type_by p (value_of p number))) (type_of (type_by p (returned_of p slot.callee)))) (options_at p.graph.now number) lift.options k))
      (λ other there.
      alike_given (Tested number h) h (lift_of p.graph.now other.callee)
      (λ lift. checked (same_held (type_of (type_by p (value_of p number))) (type_of (type_by p (returned_of p slot.callee)))) (options_at p.graph.now number) lift.options h)
      (λ lift made.
      checked_comes number h (same_held (type_of (type_by p (value_of p number))) (type_of (type_by p (returned_of p slot.callee)))) (options_at p.graph.now number) lift.options
      (λ e s found.
      held_told given_type wanted e ∙ ap (λ (x : TaskSlot). type_of (type_by p (returned_of p x.callee))) (some_same (sym is ∙ found))))))

  returned_comes : (number : ℕ) (h : Held) → HasMarkedEnds h → AlikeBy (Resulted h (value_of p number)) h (returned_lifted p t number h)
  unfolding returned_lifted
  returned_comes number h marked =
      looked (Resulted h (value_of p number)) h (slice_get h.tasks t) (λ slot. slot.at_words)
      (λ words k. result_lifted p t (value_of p number) (memory_of (options_at p.graph.now number) k) 16 words k)
      (λ slot is. result_comes h (value_of p number) (memory_of (options_at p.graph.now number) h) 16 slot.at_words marked)

  typed_as : (h : Held) (x y : Numbered) (v : Option TypedValue) → x.types ≡ y.types → x.val_type ≡ y.val_type → TypedSo h x v → TypedSo h y v
  typed_as h x y None types same so = tt
  typed_as h x y (Some v) types same so =
      subst (λ (all : List ValType). AreAll (λ end_type number. EndComes h all end_type number) (ends_typed v.value y.val_type)) types
      (subst (λ (u : ValType). AreAll (λ end_type number. EndComes h x.types end_type number) (ends_typed v.value u)) same so)

  as_ended : (number : ℕ) (h : Held) (v : Option TypedValue) → Tested number h tt → Resulted h (value_of p number) v → Ended h v
  as_ended number h v tested so slot found n type of known =
      by (value_of p number) refl (tested slot found ∙ ap (λ (o : Option ℕ). type_of (type_by p o)) of ∙ ap type_of known)
    where
      by_type : (m : ℕ) (o : Option Numbered) → value_of p number ≡ Some m → numbered_at p.types.now m ≡ o → type_of o ≡ Some type.val_type → TypedSo h type v
      by_type m None is there e = absurd (cc)
      by_type m (Some x) is there e = typed_as h x type v (numbered_in m x there ∙ sym (numbered_in n type known)) (some_same e) (so m x is there)

      by : (o : Option ℕ) → value_of p number ≡ o → type_of (type_by p o) ≡ Some type.val_type → TypedSo h type v
      by None is e = absurd (cc)
      by (Some m) is e = by_type m (numbered_at p.types.now m) is refl e

  returns_resolve : (number : ℕ) (h : Held) (d : Done (Unit {0})) → HoldsNoBorrow p (value_of p number) → ResultPlain h → Tested number h tt → ReturnResolves p t number h d → Q h → LeavesSo C Q d
  returns_resolve number h d value plain tested b but =
      behind_two C (LiftsSo C t 0 h) (Resulted h (value_of p number)) Q h (returned_lifted p t number h) (λ v k e. Resolves p t v k e) d
      (returned_but C t 0 p t number h (plain_lends h (value_of p number) value) but) (returned_comes number h (but.ends tt))
      (λ v k q so alike r. resolves_so v k d (plain_behind h k q.1 plain) (ended_moves h k v q.1 alike (as_ended number h v tested so)) r q.0) b

  -- It is tested first, and the test changes nothing.
  same_behind : (h : Held) (is_same : Bool) (options lifted : Options) → Q h → LeavesSo C (λ (k : Held). k ≡ h) (checked is_same options lifted h)
  same_behind h is_same options lifted but =
      leaves_if C (λ (k : Held). k ≡ h) (not is_same) (Traps trap.WrongResult h) (if not (same_memory (memory_of options h) (memory_of lifted h)) then Traps trap.WrongOptions h else Gives tt h) (right_at C t 0 h but)
      (leaves_if C (λ (k : Held). k ≡ h) (not (same_memory (memory_of options h) (memory_of lifted h))) (Traps trap.WrongOptions h) (Gives tt h) (right_at C t 0 h but) refl)

  one_looked : {A B : Type 0} (P : Held → Type 0) (h : Held) (o : Option TaskSlot) (g : TaskSlot → A) (f : A → Held → Done B) → ((slot : TaskSlot) → o ≡ Some slot → LeavesSo C P (f (g slot) h))
      → LeavesSo C P (let d : Done B = after (given o (λ slot. Gives (g slot) h)) f in d)
  one_looked P h None g f q = tt
  one_looked P h (Some slot) g f q = q slot refl

  tested_same : (number : ℕ) (h : Held) → Q h → LeavesSo C (λ (k : Held). k ≡ h) (return_tested p t number h)
  tested_same number h but =
      one_looked (λ (k : Held). k ≡ h) h (slice_get h.tasks t) (λ slot. slot.callee)
      (λ c k. return_checked p.graph.now t (type_of (type_by p (value_of p number))) (type_of (type_by p (returned_of p c))) (options_at p.graph.now number) k)
      (λ slot is.
      one_looked (λ (k : Held). k ≡ h) h (slice_get h.tasks t) (λ s. s.callee)
      (λ x k. given (lift_of p.graph.now x) (λ lift. checked (same_held (type_of (type_by p (value_of p number))) (type_of (type_by p (returned_of p slot.callee)))) (options_at p.graph.now number) lift.options k))
      (λ other there.
      leaves_given C (λ (k : Held). k ≡ h) (lift_of p.graph.now other.callee)
      (λ lift. checked (same_held (type_of (type_by p (value_of p number))) (type_of (type_by p (returned_of p slot.callee)))) (options_at p.graph.now number) lift.options h)
      (λ lift made. same_behind h (same_held (type_of (type_by p (value_of p number))) (type_of (type_by p (returned_of p slot.callee)))) (options_at p.graph.now number) lift.options but)))

  pub returns_so : (number : ℕ) (h : Held) (d : Done Flow) → HoldsNoBorrow p (value_of p number) → ResultPlain h → Returns p t number h d → Q h → LeavesSo C Q d
  returns_so number h d value plain (first, tested, b) but =
      behind_so C Q Q first (λ done k e. e ≡ got t [] k) d
      (behind_two C (λ (k : Held). k ≡ h) (Tested number h) Q h (return_tested p t number h) (λ done k e. ReturnResolves p t number k e) first (tested_same number h but) (tested_comes number h)
      (λ done k same so alike r.
      returns_resolve number h first value plain so (subst (λ (x : Held). ReturnResolves p t number x first) same r) but) tested)
      (λ done k kept is. as_so C Q d (got t [] k) is kept) b

  -- Whatever is passed but elements. Behind one that is lifted with `async` nothing is.
  abbrev Marked : Held → Type 0
  Marked k = HasMarkedEnds k

  marked : {A : Type 0} (d : Done A) → LeavesSo C Q d → HoldsSo Marked d
  marked (Gives x k) q = q.ends tt
  marked (Traps why k) q = q.1 tt
  marked (Spent k) q = tt
  marked Stuck q = tt

  sync_so : (words : List ℕ) (h : Held) (d : Done Flow) → ResultPlain h → SyncEnds p t words h d → Q h → LeavesSo C Q d
  sync_so words h d plain b but = by_slot (slice_get h.tasks t) b
    where
      by_lift : (o : Option Lift) → Behind (let e : Done Lift = given o (λ lift. Gives lift h) in e) (λ lift k x. Then (Ends p t lift.options.post_return words k) (λ done l f. f ≡ Gives flow.Rests l) x) d → LeavesSo C Q d
      by_lift None b = as_so C Q d Stuck b tt
      by_lift (Some lift) (first, ends, b) =
          behind_so C Q Q first (λ done l f. f ≡ Gives flow.Rests l) d (ends_so lift.options.post_return words h first plain ends but)
          (λ done l kept is. as_so C Q d (Gives flow.Rests l) is kept) b

      by_slot : (o : Option TaskSlot) → Behind (let e : Done Lift = after (given o (λ slot. Gives slot.callee h)) (λ c k. given (lift_of p.graph.now c) (λ lift. Gives lift k)) in e) (λ lift k x. Then (Ends p t lift.options.post_return words k) (λ done l f. f ≡ Gives flow.Rests l) x) d
          → LeavesSo C Q d
      by_slot None b = as_so C Q d Stuck b tt
      by_slot (Some slot) b = by_lift (lift_of p.graph.now slot.callee) b

  from_still : {A : Type 0} (K : ℕ → EndKind) (h : Held) (d : Done A) → StillBy (Some K) h d → EndsKept K h → HoldsSo Marked d
  from_still K h (Gives x k) still kept = (still.ends K refl kept).marked
  from_still K h (Traps why k) still kept = (still K refl kept).marked
  from_still K h (Spent k) still kept = tt
  from_still K h Stuck still kept = tt

  looped_so : (K : ℕ → EndKind) (words : List ℕ) (h : Held) (o : Option ℕ) → EndsKept K h → HoldsSo Marked (let d : Done Flow = given o (λ word. loops t word h) in d)
  looped_so K words h None kept = tt
  looped_so K words h (Some word) kept = from_still K h (loops t word h) (loops_still (Some K) t word h) kept

  kind_so : (K : ℕ → EndKind) (words : List ℕ) (kind : Kind) (h : Held) (d : Done Flow) → EndsBy p t h kind → EndsKept K h → KindEnds p t words kind h d → Q h → HoldsSo Marked d
  kind_so K words Sync h d well kept b but = marked d (sync_so words h d well b but)
  kind_so K words Callback h d well kept b but = as_holds Marked d (async_ended t Callback words h) b (looped_so K words h (word_in words 0) kept)
  kind_so K words Stackful h d well kept b but = as_holds Marked d (async_ended t Stackful words h) b (from_still K h (ending t h) (ending_still (Some K) t h) kept)

  pub passed_marked : (K : ℕ → EndKind) (x : Passing) (h : Held) (d : Done Flow) → ((copying : Copying) → x ≡ passing.Elements copying → ⊥) → PassesSo p t h x → EndsKept K h → PassesFor p t x h d → Q h
      → HoldsSo Marked d
  passed_marked K passing.Nothing h d none well kept b but = as_holds Marked d (Gives flow.Rests h) b kept.marked
  passed_marked K passing.Arguments h d none well kept b but = marked d (enters_so h d well.runs well.free well.lends well.own b but)
  passed_marked K passing.Returned h d none well kept b but = by_number (call_at h.rest) refl b
    where
      by_number : (o : Option ℕ) → call_at h.rest ≡ o → ReturnsBy p t o h d → HoldsSo Marked d
      by_number None is b = as_holds Marked d Stuck b tt
      by_number (Some number) is b = marked d (returns_so number h d (well.0 number is) well.1 b but)
  passed_marked K (passing.Ended words) h d none well kept b but = by_slot (slice_get h.tasks t) refl b
    where
      by_slot : (o : Option TaskSlot) → slice_get h.tasks t ≡ o → Behind (let e : Done Kind = given o (λ slot. Gives slot.task.kind h) in e) (λ kind k e. KindEnds p t words kind k e) d → HoldsSo Marked d
      by_slot None is b = as_holds Marked d Stuck b tt
      by_slot (Some slot) is b = kind_so K words slot.task.kind h d (well slot is) kept b but
  passed_marked K (passing.Elements copying) h d none well kept b but = absurd (none copying refl)

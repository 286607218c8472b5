-- Values that are passed, of every kind, keep all marks.
use Rattle.std.proofs.Common.{◌≡◌, ◌∙◌, ℕ, Bool, true, false, not, if◌then◌else◌, List, [], ◌∷◌, Option, Some, None, refl, sym, ap, subst}
use Rattle.std.specs.List.{slice_get}
use Rattle.laid_types.specs.Known.{Numbered}
use Rattle.comp_graph.specs.declared.graph.FuncRef.{FuncRef}
use Rattle.comp_graph.specs.declared.graph.Options.{Options}
use Rattle.graph_views.specs.Canons.{canon_at, instance_of, options_at}
use Rattle.graph_views.specs.Callees.{lift_of}
use Rattle.programs.specs.declared.program.Program.{Program}
use Rattle.programs.specs.Program.{params_of, returned_of, value_of}
use Rattle.return_replies.specs.Returns.{same_held, same_memory, checked, return_checked, type_of}
use Rattle.task_table.specs.declared.errand.Callee.{Callee}
use Rattle.task_table.specs.declared.errand.Callee.TheVariants as callee
use Rattle.task_table.specs.declared.slot.TaskSlot.{TaskSlot}
use Rattle.task_table.specs.Callers.{called_of}
use Rattle.trace_labels.specs.declared.trap.TrapName.TheVariants as trap
use Rattle.trace_labels.specs.declared.typed.TypedValue.{TypedValue}
use Rattle.world_parts.specs.declared.parts.Flow.{Flow}
use Rattle.world_parts.specs.declared.parts.Flow.TheVariants as flow
use Rattle.world_parts.specs.declared.parts.Rest.TheVariants as rest
use Rattle.world_parts.specs.Held.{Held, Done, Gives, Traps, Spent, Stuck, after, given}
use Rattle.world_parts.specs.Feed.{at_rest, got}
use Rattle.world_parts.specs.Places.{memory_of}
use Rattle.world_parts.specs.Slots.{callee_of}
use Rattle.world_parts.specs.Going.{enters}
use Rattle.world_parts.specs.Plain.{returned}
use Rattle.value_parts.specs.Coming.{Behind, Then}
use Rattle.value_parts.specs.Passing.{arguments_lifted, ended_lifted, returned_lifted}
use Rattle.value_moves.specs.Entering.{words_passed, ValuesCome, ArgumentsCome, entered, started_by, Enters}
use Rattle.value_moves.specs.Lowered.{LowersArguments}
use Rattle.value_moves.specs.Resolving.{PassesOn, Resolves, PostReturnsTo, Ends, type_by, return_tested, ReturnResolves, Returns}
use Rattle.run_laws.specs.keeping.Kept.{KeepsMarks, RunsFunction, EntersFree}
use Rattle.run_laws.specs.keeping.Liftings.{ArgumentsLendWell, ResultLendsWell}
use Rattle.run_laws.specs.keeping.Lowerings.{EndComes, RunsInOwn, HoldsNoBorrow}
use Rattle.run_laws.proofs.keeping.But.{HasBut, LeavesSo, but_of, marks_of, tables_of, leaves_given, leaves_after, leaves_if, right_at}
use Rattle.run_laws.proofs.keeping.Going.{enters_marks}
use Rattle.run_laws.proofs.keeping.Lifted.{LiftsSo}
use Rattle.run_laws.proofs.keeping.Liftings.{arguments_but, ended_but, returned_but}
use Rattle.run_laws.proofs.keeping.Nested.{post_returns_but}
use Rattle.run_laws.proofs.keeping.Passed as passed
use Rattle.run_laws.proofs.keeping.Passed.{as_but, result_but}
use Rattle.run_laws.proofs.keeping.Planned.{AreAll, Ends as TypedEnds, ends_typed}
use Rattle.run_laws.proofs.keeping.Prior.{Before, Prior, prior_all, called_behind, QuietBy, tables_behind, ends_behind}
use Rattle.run_laws.proofs.keeping.Quiet.{enters_quiet, returned_quiet}
use Rattle.run_laws.proofs.keeping.Script.{returned_marks}

-- What may come behind a part that leaves something so.
pub behind_so : {A B : Type 0} (C : Type 0) (P Q : Held → Type 0) (d : Done A) (F : A → Held → Done B → Type 0) (e : Done B) → LeavesSo C P d → ((x : A) (k : Held) → P k → F x k e → LeavesSo C Q e) → Behind d F e
    → LeavesSo C Q e
behind_so C P Q (Gives x k) F e p more b = more x k p b
behind_so {A} {B} C P Q (Traps why k) F e p more b = subst (λ (d : Done B). LeavesSo C Q d) (sym b) p
behind_so {A} {B} C P Q (Spent k) F e p more b = subst (λ (d : Done B). LeavesSo C Q d) (sym b) tt
behind_so {A} {B} C P Q Stuck F e p more b = subst (λ (d : Done B). LeavesSo C Q d) (sym b) tt

pub as_so : {A : Type 0} (C : Type 0) (Q : Held → Type 0) (d e : Done A) → d ≡ e → LeavesSo C Q e → LeavesSo C Q d
as_so {A} C Q d e is p = subst (λ (x : Done A). LeavesSo C Q x) (sym is) p

-- A part that keeps all marks, and leaves tables as they were.
quiet_but : {A : Type 0} (C : Type 0) (t : ℕ) (h : Held) (d : Done A) → KeepsMarks h d → QuietBy h d → HasBut C t 0 h → LeavesSo C (LiftsSo C t 0 h) d
quiet_but C t h (Gives x k) p q but =
    (but_of C t k (p (marks_of C t h but)) (tables_behind h k q (tables_of C t 0 h but)) (λ c. ends_behind h k q (but.ends c)), q.prior)
quiet_but C t h (Traps why k) p q but = (p (marks_of C t h but), λ c. ends_behind h k q (but.ends c))
quiet_but C t h (Spent k) p q but = tt
quiet_but C t h Stuck p q but = tt

-- What is asked of tasks stays where they run what they ran.
runs_behind : (p : Program) (t : ℕ) (h k : Held) → Prior h k → RunsInOwn p t h → RunsInOwn p t k
runs_behind p t h k q runs slot f found of =
    let b : Before h.tasks t slot = q.before t slot found in
    b.prior.instance ∙ runs b.slot f b.is (ap (λ (c : Callee). lift_of p.graph.now c) (sym b.prior.callee) ∙ of)

lends_behind : (p : Program) (t : ℕ) (h k : Held) → Prior h k → ArgumentsLendWell p t h → ArgumentsLendWell p t k
lends_behind p t h k q may slot type called c found of by made holds =
    let b : Before h.tasks t slot = q.before t slot found in
    let calls = b.prior.calls called by in
    called_behind h k (instance_of c) t q
    (may b.slot type calls.0 c b.is (ap (λ (x : Callee). params_of p x) (sym b.prior.callee) ∙ of) calls.1 (ap (λ (n : ℕ). canon_at p.graph.now n) (sym calls.3) ∙ made) holds)

module _ (C : Type 0) (p : Program) (t : ℕ) (none : C → ⊥) where
  abbrev Q : Held → Type 0
  Q k = HasBut C t 0 k

  -- A task enters, and its arguments come.
  entered_so : (h : Held) → RunsFunction h t → EntersFree h t → Q h → LeavesSo C (LiftsSo C t 0 h) (entered t h)
  entered_so h runs free but =
      leaves_after C (LiftsSo C t 0 h) (enters t h) (λ done k. callee_of t k) (quiet_but C t h (enters t h) (enters_marks t h runs free) (enters_quiet t h) but)
      (λ done k b. leaves_given C (LiftsSo C t 0 h) (slice_get k.tasks t) (λ slot. Gives slot.callee k) (λ slot is. b))

  values_so : (h : Held) (d : Done (List ℕ)) → ArgumentsLendWell p t h → RunsInOwn p t h → ValuesCome p t h d → Q h → LeavesSo C Q d
  values_so h d may runs b but =
      behind_so C (LiftsSo C t 0 h) Q (arguments_lifted p t h) (λ v k e. LowersArguments p t v k e) d (arguments_but C t 0 p t h may but)
      (λ v k q lowers. passed.arguments_but C p t v k d (runs_behind p t h k q.1 runs) (λ slot type found of. no_ends k type (ends_typed v type.val_type)) lowers q.0) b
    where
      no_ends : (k : Held) (type : Numbered) (es : TypedEnds) → AreAll (λ end_type number. C → EndComes k type.types end_type number) es
      no_ends k type [] = tt
      no_ends k type (e ∷ es) = (λ c. absurd (none c), no_ends k type es)

  words_so : (h : Held) → Q h → LeavesSo C Q (words_passed t h)
  words_so h but =
      leaves_given C Q (slice_get h.tasks t) (λ slot. given (called_of slot.caller) (λ called. Gives called.words h))
      (λ slot is. leaves_given C Q (called_of slot.caller) (λ called. Gives called.words h) (λ called by. but))

  come_so : (c : Callee) (h : Held) (d : Done (List ℕ)) → ArgumentsLendWell p t h → RunsInOwn p t h → ArgumentsCome p t c h d → Q h → LeavesSo C Q d
  come_so callee.Init h d may runs b but = values_so h d may runs b but
  come_so (callee.Export number) h d may runs b but = values_so h d may runs b but
  come_so (callee.Lowered number) h d may runs b but = values_so h d may runs b but
  come_so (callee.Destroys resource) h d may runs b but = as_so C Q d (words_passed t h) b (words_so h but)

  started_so : (c : Callee) (words : List ℕ) (h : Held) → Q h → LeavesSo C Q (started_by p c words h)
  started_so c words h but = leaves_given C Q (lift_of p.graph.now c) (λ lift. Gives (flow.Starts lift.core words) (at_rest rest.Runs h)) (λ lift is. but)

  pub enters_so : (h : Held) (d : Done Flow) → RunsFunction h t → EntersFree h t → ArgumentsLendWell p t h → RunsInOwn p t h → Enters p t h d → Q h → LeavesSo C Q d
  enters_so h d runs free may own b but =
      behind_so C (LiftsSo C t 0 h) Q (entered t h) (λ c k e. Then (ArgumentsCome p t c k) (λ words l f. f ≡ started_by p c words l) e) d (entered_so h runs free but)
      (λ c k q (first, come, e).
      behind_so C Q Q first (λ words l f. f ≡ started_by p c words l) d (come_so c k first (lends_behind p t h k q.1 may) (runs_behind p t h k q.1 own) come q.0)
      (λ words l but is. as_so C Q d (started_by p c words l) is (started_so c words l but)) e) b

  -- A task resolves with a result.
  abbrev ResultPlain : Held → Type 0
  ResultPlain h = (slot : TaskSlot) → slice_get h.tasks t ≡ Some slot → HoldsNoBorrow p (returned_of p slot.callee)

  plain_behind : (h k : Held) → Prior h k → ResultPlain h → ResultPlain k
  plain_behind h k q plain slot found =
      let b : Before h.tasks t slot = q.before t slot found in
      subst (λ (c : Callee). HoldsNoBorrow p (returned_of p c)) (sym b.prior.callee) (plain b.slot b.is)

  on_so : (o : Option TypedValue) (h : Held) (d : Done (Unit {0})) → ResultPlain h → PassesOn p t o h d → Q h → LeavesSo C Q d
  on_so None h d plain b but = as_so C Q d (Gives tt h) b but
  on_so (Some v) h d plain b but =
      result_but C p t t v.value h d (λ slot is. (plain slot is, λ number type of known. no_ends type (ends_typed v.value type.val_type))) b but
    where
      no_ends : (type : Numbered) (es : TypedEnds) → AreAll (λ end_type number. C → EndComes h type.types end_type number) es
      no_ends type [] = tt
      no_ends type (e ∷ es) = (λ c. absurd (none c), no_ends type es)

  resolves_so : (value : Option TypedValue) (h : Held) (d : Done (Unit {0})) → ResultPlain h → Resolves p t value h d → Q h → LeavesSo C Q d
  resolves_so value h d plain b but =
      behind_so C (LiftsSo C t 0 h) Q (returned t value h) (λ done k e. PassesOn p t value k e) d
      (quiet_but C t h (returned t value h) (returned_marks t value h) (returned_quiet t value h) but) (λ done k q on. on_so value k d (plain_behind h k q.1 plain) on q.0) b

  -- Where nothing is lent for a result.
  plain_lends : (h : Held) (o : Option ℕ) → HoldsNoBorrow p o → ResultLendsWell p t o h
  plain_lends h o plain number type slot is known found holds = absurd (both (plain number type is known) holds)
    where
      both : {b : Bool} → b ≡ false → b ≡ true → ⊥
      both e f = cc

  pub ends_so : (post : Option FuncRef) (words : List ℕ) (h : Held) (d : Done (Unit {0})) → ResultPlain h → Ends p t post words h d → Q h → LeavesSo C Q d
  ends_so post words h d plain (first, resolves, b) but =
      behind_so C Q Q first (λ done k e. PostReturnsTo p t post words k e) d
      (behind_so C (LiftsSo C t 0 h) Q (ended_lifted p t words h) (λ value k e. Resolves p t value k e) first
      (ended_but C t 0 p t words h (λ slot is. plain_lends h (returned_of p slot.callee) (plain slot is)) but)
      (λ value k q r. resolves_so value k first (plain_behind h k q.1 plain) r q.0) resolves)
      (λ done k kept post_returns. post_returns_but C t p t post words k d post_returns kept) b

  -- `task.return`.
  checked_so : (is_same : Bool) (options lifted : Options) (h k : Held) → LiftsSo C t 0 h k → LeavesSo C (LiftsSo C t 0 h) (checked is_same options lifted k)
  checked_so is_same options lifted h k q =
      leaves_if C (LiftsSo C t 0 h) (not is_same) (Traps trap.WrongResult k) (if not (same_memory (memory_of options k) (memory_of lifted k)) then Traps trap.WrongOptions k else Gives tt k) (right_at C t 0 k q.0)
      (leaves_if C (LiftsSo C t 0 h) (not (same_memory (memory_of options k) (memory_of lifted k))) (Traps trap.WrongOptions k) (Gives tt k) (right_at C t 0 k q.0) q)

  tested_so : (number : ℕ) (h : Held) → Q h → LeavesSo C (LiftsSo C t 0 h) (return_tested p t number h)
  tested_so number h but = looked (slice_get h.tasks t)
    where
      looked_lift : (c : Callee) (o : Option TaskSlot)
          → LeavesSo C (LiftsSo C t 0 h)
          (let d : Done (Unit {0}) = after (given o (λ slot. Gives slot.callee h)) (λ x k. given (lift_of p.graph.now x) (λ lift.
          checked (same_held (type_of (type_by p (value_of p number))) (type_of (type_by p (returned_of p c)))) (options_at p.graph.now number) lift.options k)) in d)
      looked_lift c None = tt
      looked_lift c (Some slot) =
          leaves_given C (LiftsSo C t 0 h) (lift_of p.graph.now slot.callee) (λ lift. checked (same_held (type_of (type_by p (value_of p number))) (type_of (type_by p (returned_of p c)))) (options_at p.graph.now number) lift.options h)
          (λ lift is. checked_so (same_held (type_of (type_by p (value_of p number))) (type_of (type_by p (returned_of p c)))) (options_at p.graph.now number) lift.options h h (but, prior_all h h refl))

      looked : (o : Option TaskSlot) → LeavesSo C (LiftsSo C t 0 h) (let d : Done (Unit {0}) = after (given o (λ slot. Gives slot.callee h)) (λ c k.
          return_checked p.graph.now t (type_of (type_by p (value_of p number))) (type_of (type_by p (returned_of p c))) (options_at p.graph.now number) k) in d)
      looked None = tt
      looked (Some slot) = looked_lift slot.callee (slice_get h.tasks t)

  returns_resolve : (number : ℕ) (h : Held) (d : Done (Unit {0})) → HoldsNoBorrow p (value_of p number) → ResultPlain h → ReturnResolves p t number h d → Q h → LeavesSo C Q d
  returns_resolve number h d value plain b but =
      behind_so C (LiftsSo C t 0 h) Q (returned_lifted p t number h) (λ v k e. Resolves p t v k e) d (returned_but C t 0 p t number h (plain_lends h (value_of p number) value) but)
      (λ v k q r. resolves_so v k d (plain_behind h k q.1 plain) r q.0) b

  pub returns_so : (number : ℕ) (h : Held) (d : Done Flow) → HoldsNoBorrow p (value_of p number) → ResultPlain h → Returns p t number h d → Q h → LeavesSo C Q d
  returns_so number h d value plain (first, tested, b) but =
      behind_so C Q Q first (λ done k e. e ≡ got t [] k) d
      (behind_so C (LiftsSo C t 0 h) Q (return_tested p t number h) (λ done k e. ReturnResolves p t number k e) first (tested_so number h but)
      (λ done k q r. returns_resolve number k first value (plain_behind h k q.1 plain) r q.0) tested)
      (λ done k kept is. as_so C Q d (got t [] k) is kept) b

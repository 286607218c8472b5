-- Values that are passed on: arguments, results and elements that are lowered, in the midst of a passing.
use Rattle.std.proofs.Common.{◌≡◌, ◌∙◌, ◌+◌, ℕ, false, if◌then◌else◌, List, [], ◌∷◌, Option, Some, None, refl, sym, ap, subst, arith}
use Rattle.std.specs.List.{slice_get}
use Rattle.syntax_trees.specs.declared.value.Value.{Value}
use Rattle.syntax_trees.specs.Fits.{fits}
use Rattle.laid_types.specs.Handles.{has_borrow}
use Rattle.laid_types.specs.Known.{Numbered, numbered_at}
use Rattle.comp_graph.specs.declared.graph.CanonFunc.{CanonFunc}
use Rattle.comp_graph.specs.declared.graph.Lift.{Lift}
use Rattle.comp_graph.specs.Graph.{Graph}
use Rattle.copy_engine.specs.declared.acts.Acts.{Acts}
use Rattle.copy_engine.specs.declared.acts.Act.{Act}
use Rattle.copy_engine.specs.declared.answering.CallRefusal.{CallRefusal}
use Rattle.copy_engine.specs.declared.answering.CallRefusal.TheVariants as refusal
use Rattle.copy_engine.specs.declared.hosted.HostedTrap.{HostedTrap}
use Rattle.copy_engine.specs.declared.hosted.HostedTrap.TheVariants as hosted
use Rattle.copy_engine.specs.declared.lower_values.Lowered.{Lowered}
use Rattle.copy_engine.specs.declared.lower_values.Lowered.TheVariants as lowered
use Rattle.copy_engine.specs.declared.lower_values.Target.{Target}
use Rattle.copy_engine.specs.Hosted.{plan_to}
use Rattle.graph_views.specs.Canons.{canon_at, instance_of, options_of}
use Rattle.graph_views.specs.Callees.{lift_of}
use Rattle.graph_views.specs.Names.{builtin_of}
use Rattle.programs.specs.declared.program.Program.{Program}
use Rattle.programs.specs.Program.{params_of, returned_of, resources_of}
use Rattle.task_table.specs.declared.caller.Caller.{Caller}
use Rattle.task_table.specs.declared.caller.Caller.TheVariants.{Nobody, Host, Guest}
use Rattle.task_table.specs.declared.errand.Callee.{Callee}
use Rattle.task_table.specs.declared.slot.TaskSlot.{TaskSlot}
use Rattle.task_table.specs.Callers.{may_keep}
use Rattle.task_table.specs.Slots.{with_word, kept_slot}
use Rattle.trace_labels.specs.declared.label.Label.TheVariants as line
use Rattle.world_parts.specs.Held.{Held, Done, Gives, Traps, Spent, Stuck, after, given}
use Rattle.world_parts.specs.Feed.{told}
use Rattle.world_parts.specs.Slots.{with_task, context_set, result_kept}
use Rattle.value_parts.specs.Coming.{Behind}
use Rattle.value_moves.specs.declared.lowering.Destination.{Destination}
use Rattle.value_moves.specs.Borrowing.{borrows_counted}
use Rattle.value_moves.specs.Lowering.{destination_of, got_told, act_told, all_told, call_refused, code_trapped, lowered_by, finished, left_at, LowersAt, LowersInto}
use Rattle.value_moves.specs.Lowered.{Way, arguments_target, arguments_entered, LowersArguments, result_target, LowersBack, LowersFor, LowersResult}
use Rattle.abi_machine.proofs.sound.Found.{some_same}
use Rattle.standing.proofs.States.{keeping_stays}
use Rattle.standing.proofs.marks.Inside.{same_seen}
use Rattle.run_laws.specs.keeping.Lowerings.{EndComes, RunsInOwn, HoldsNoBorrow}
use Rattle.run_laws.proofs.keeping.Alike.{kept_alike}
use Rattle.run_laws.proofs.keeping.But.{HasBut, GivesSo, LeavesSo, GivesBut, owed_none, task_but, so_given, so_after, leaves_given, leaves_after, leaves_if, leaves_both}
use Rattle.run_laws.proofs.keeping.Counting.{all_are_counted}
use Rattle.run_laws.proofs.keeping.Lowered.{from_site, into_but}
use Rattle.run_laws.proofs.keeping.NoBorrow.{none_counted}
use Rattle.run_laws.proofs.keeping.Planned.{borrow_count, AreAll, ends_typed}
use Rattle.run_laws.proofs.keeping.Prior.{Before, Prior, prior_all, prior_task, prior_further}

-- What may come behind a part that leaves what is kept so.
pub behind_but : {A B : Type 0} (C : Type 0) (t n m : ℕ) (d : Done A) (F : A → Held → Done B → Type 0) (e : Done B) → GivesBut C t n d
    → ((x : A) (k : Held) → d ≡ Gives x k → HasBut C t n k → F x k e → GivesBut C t m e) → Behind d F e → GivesBut C t m e
behind_but C t n m (Gives x k) F e p more b = more x k refl p b
behind_but {A} {B} C t n m (Traps why k) F e p more b = subst (λ (d : Done B). GivesBut C t m d) (sym b) p
behind_but {A} {B} C t n m (Spent k) F e p more b = subst (λ (d : Done B). GivesBut C t m d) (sym b) tt
behind_but {A} {B} C t n m Stuck F e p more b = subst (λ (d : Done B). GivesBut C t m d) (sym b) tt

pub as_but : {A : Type 0} (C : Type 0) (t n : ℕ) (d e : Done A) → d ≡ e → GivesBut C t n e → GivesBut C t n d
as_but {A} C t n d e is p = subst (λ (x : Done A). GivesBut C t n x) (sym is) p

-- Where nothing is owed it does not matter of which task.
pub any_task : (C : Type 0) (t u : ℕ) (h : Held) → HasBut C t 0 h → HasBut C u 0 h
any_task C t u h but = record {
  gates = but.gates;
  waiters = but.waiters;
  lent = but.lent;
  borrows = λ m slot found. ap (λ (k : ℕ). slot.task.borrows + k) (owed_none u m ∙ sym (owed_none t m)) ∙ but.borrows m slot found;
  awaited = but.awaited;
  states = but.states;
  sound = but.sound;
  ends = but.ends;
}

-- A lowering leaves tasks that run what they ran.
abbrev pub GivesPrior : {A : Type 0} → Held → Done A → Type 0
GivesPrior h d = GivesSo (λ (k : Held). Prior h k) d

module _ (h : Held) where
  context_prior : (t number word : ℕ) (k : Held) → Prior h k → GivesPrior h (context_set t number word k)
  context_prior t number word k p =
      so_given (λ (l : Held). Prior h l) (slice_get k.tasks t) (λ slot. Gives (tt {0}) (with_task t (with_word number word slot) k))
      (λ slot is.
      prior_further h k (with_task t (with_word number word slot) k) p
      (prior_task k t slot (with_word number word slot) is (λ n. refl) (record { instance = refl; callee = refl; calls = λ called e. (called, e, refl, refl, refl) })))

  got_prior : (t : ℕ) (o : Option (List ℕ)) (k : Held) → Prior h k → GivesPrior h (got_told t o k)
  got_prior t None k p = p
  got_prior t (Some words) k p = p

  act_prior : (g : Graph) (t : ℕ) (act : Act) (k : Held) → Prior h k → GivesPrior h (act_told g t act k)
  act_prior g t act k p =
      so_given (λ (l : Held). Prior h l) (canon_at g act.canon) (λ c. after (told (line.Do t (builtin_of c) act.words) k) (λ done l. got_told t act.got l))
      (λ c is. so_after (λ (l : Held). Prior h l) (told (line.Do t (builtin_of c) act.words) k) (λ done l. got_told t act.got l) p (λ done l q. got_prior t act.got l q))

  all_prior : (g : Graph) (t : ℕ) (acts : List Act) (k : Held) → Prior h k → GivesPrior h (all_told g t acts k)
  all_prior g t [] k p = p
  all_prior g t (act ∷ acts) k p = so_after (λ (l : Held). Prior h l) (act_told g t act k) (λ done l. all_told g t acts l) (act_prior g t act k p) (λ done l q. all_prior g t acts l q)

  refused_prior : (why : CallRefusal) (k : Held) → GivesPrior h (call_refused why k)
  refused_prior refusal.CannotLeave k = tt
  refused_prior (refusal.Refused why) k = tt
  refused_prior refusal.NoRule k = tt

  trapped_prior : (why : HostedTrap) (k : Held) → GivesPrior h (code_trapped why k)
  trapped_prior (hosted.Core why) k = tt
  trapped_prior (hosted.Call why) k = refused_prior why k
  trapped_prior hosted.NoRealloc k = tt

  lowered_prior : (came : Lowered) (k : Held) → Prior h k → GivesPrior h (lowered_by came k)
  lowered_prior (lowered.Words words) k p = p
  lowered_prior (lowered.Failed why) k p = tt
  lowered_prior (lowered.Trapped why) k p = trapped_prior why k
  lowered_prior lowered.NoFuel k p = tt

  finished_prior : (g : Graph) (t : ℕ) (acts : Acts) (came : Lowered) (k : Held) → Prior h k → GivesPrior h (finished g t acts came k)
  unfolding finished
  finished_prior g t acts came k p =
      so_after (λ (l : Held). Prior h l) (context_set t 0 acts.context.0 k)
      (λ done l. after (context_set t 1 acts.context.1 l) (λ done m. after (all_told g t acts.calls m) (λ done n. lowered_by came n))) (context_prior t 0 acts.context.0 k p)
      (λ done l q.
      so_after (λ (m : Held). Prior h m) (context_set t 1 acts.context.1 l) (λ done m. after (all_told g t acts.calls m) (λ done n. lowered_by came n)) (context_prior t 1 acts.context.1 l q)
      (λ done m r. so_after (λ (n : Held). Prior h n) (all_told g t acts.calls m) (λ done n. lowered_by came n) (all_prior g t acts.calls m r) (λ done n v. lowered_prior came n v)))

  into_prior : (p : Program) (to : Destination) (t : Numbered) (v : Value) (target : Target) (d : Done (List ℕ)) → LowersInto p to t v target h d → GivesPrior h d
  into_prior p to t v target d b =
      from_site (λ (e : Done (List ℕ)). GivesPrior h e) tt p to (fits v t.val_type) h (λ s k e. LowersAt p.graph.now to t.types (plan_to target t.val_type v s.resources) s k e) d
      (λ s found mine fit (came, placed, follows, is).
      subst (λ (e : Done (List ℕ)). GivesPrior h e) (sym is) (finished_prior p.graph.now to.task placed.room.acts came (left_at to s placed h) (prior_all h h refl))) b

-- Arguments of a task go into its own instance, and its borrow handles are counted then.
module _ (C : Type 0) (p : Program) (t : ℕ) where
  abbrev ArgumentEnds : Held → Value → Type 0
  ArgumentEnds h v =
      (slot : TaskSlot) (type : Numbered) → slice_get h.tasks t ≡ Some slot → params_of p slot.callee ≡ Some type
      → AreAll (λ end_type number. C → EndComes h type.types end_type number) (ends_typed v type.val_type)

  -- Once all are entered.
  entered_by : (v : Value) (l : Held) (words : List ℕ) (slot : TaskSlot) (home : List ℕ) (o : Option TaskSlot) → slice_get l.tasks t ≡ o
      → ((y : TaskSlot) → o ≡ Some y → y.instance ≡ slot.instance) → resources_of p slot.instance ≡ Some home → HasBut C t (borrow_count home v) l
      → GivesBut C t 0
      (let d : Done (List ℕ) = after (given o (λ y. Gives y.instance l)) (λ at k. given (resources_of p at) (λ own. after (borrows_counted own t v k) (λ done m. Gives words m))) in d)
  entered_by v l words slot home None found same own but = tt
  entered_by v l words slot home (Some y) found same own but =
      leaves_given C (λ (k : Held). HasBut C t 0 k) (resources_of p y.instance) (λ mine. after (borrows_counted mine t v l) (λ done m. Gives words m))
      (λ mine is.
      let home_is : home ≡ mine = some_same (sym own ∙ ap (λ (at : ℕ). resources_of p at) (sym (same y refl)) ∙ is) in
      leaves_after C (λ (k : Held). HasBut C t 0 k) (borrows_counted mine t v l) (λ done m. Gives words m)
      (all_are_counted C mine t v 0 l
      (subst (λ (n : ℕ). HasBut C t n l) (let none : borrow_count mine v ≡ borrow_count mine v + 0 = omega arith in none)
      (subst (λ (own : List ℕ). HasBut C t (borrow_count own v) l) home_is but))) (λ done m b. b))

  passed_on : (v : Value) (h : Held) (slot : TaskSlot) (f : Lift) (type : Numbered) (home : List ℕ) (first d : Done (List ℕ)) → slice_get h.tasks t ≡ Some slot → slot.instance ≡ f.instance
      → resources_of p f.instance ≡ Some home → AreAll (λ end_type number. C → EndComes h type.types end_type number) (ends_typed v type.val_type)
      → LowersInto p (destination_of f.instance t f.options h) type v (arguments_target type.val_type) h first
      → Behind first (λ words k e. e ≡ arguments_entered p t v words k) d → HasBut C t 0 h → GivesBut C t 0 d
  passed_on v h slot f type home first d is own mine ends into b but =
      behind_both first (leaves_both C (λ (k : Held). HasBut C t (borrow_count home v) k) (λ (k : Held). Prior h k) first
      (subst (λ (n : ℕ). GivesBut C t n first) (let none : 0 + borrow_count home v ≡ borrow_count home v = omega arith in none)
      (into_but C 0 p (destination_of f.instance t f.options h) type v (arguments_target type.val_type) h first home mine ends into but))
      (into_prior h p (destination_of f.instance t f.options h) type v (arguments_target type.val_type) first into)) b
    where
      behind_both : (first : Done (List ℕ)) → LeavesSo C (λ (k : Held). HasBut C t (borrow_count home v) k × Prior h k) first
          → Behind first (λ words k e. e ≡ arguments_entered p t v words k) d → GivesBut C t 0 d
      behind_both (Gives words l) q b =
          as_but C t 0 d (arguments_entered p t v words l) b
          (entered_by v l words slot home (slice_get l.tasks t) refl
          (λ y found. (let z : Before h.tasks t y = q.1.before t y found in z.prior.instance ∙ ap (λ (s : TaskSlot). s.instance) (some_same (sym z.is ∙ is))))
          (ap (λ (at : ℕ). resources_of p at) own ∙ mine) q.0)
      behind_both (Traps why l) q b = as_but C t 0 d (Traps why l) b q
      behind_both (Spent l) q b = as_but C t 0 d (Spent l) b tt
      behind_both Stuck q b = as_but C t 0 d Stuck b tt

  -- Where the instance defines no resources that are known, nothing is lowered.
  no_home : (v : Value) (h : Held) (to : Destination) (type : Numbered) (target : Target) (first d : Done (List ℕ)) → resources_of p to.instance ≡ None
      → LowersInto p to type v target h first → Behind first (λ words k e. e ≡ arguments_entered p t v words k) d → GivesBut C t 0 d
  no_home v h to type target first d none into b =
      behind_stuck first
      (from_site (λ (e : Done (List ℕ)). e ≡ Stuck) refl p to (fits v type.val_type) h (λ s k e. LowersAt p.graph.now to type.types (plan_to target type.val_type v s.resources) s k e) first
      (λ s found mine fit is. absurd (apart (sym none ∙ mine))) into) b
    where
      apart : {A : Type 0} {x : A} → None ≡ Some x → ⊥
      apart e = cc

      behind_stuck : (first : Done (List ℕ)) → first ≡ Stuck → Behind first (λ words k e. e ≡ arguments_entered p t v words k) d → GivesBut C t 0 d
      behind_stuck (Gives words l) e b = absurd (never e)
        where
          never : Gives words l ≡ Stuck → ⊥
          never e = cc
      behind_stuck (Traps why l) e b = absurd (cc)
      behind_stuck (Spent l) e b = as_but C t 0 d (Spent l) b tt
      behind_stuck Stuck e b = as_but C t 0 d Stuck b tt

  pub arguments_but : (v : Value) (h : Held) (d : Done (List ℕ)) → RunsInOwn p t h → ArgumentEnds h v → LowersArguments p t v h d → HasBut C t 0 h → GivesBut C t 0 d
  arguments_but v h d runs ends (first, lowers, b) but = by_slot (slice_get h.tasks t) refl lowers
    where
      stuck : first ≡ Stuck → GivesBut C t 0 d
      stuck e = never first e b
        where
          never : (x : Done (List ℕ)) → x ≡ Stuck → Behind x (λ words k e. e ≡ arguments_entered p t v words k) d → GivesBut C t 0 d
          never (Gives words l) e b = absurd (cc)
          never (Traps why l) e b = absurd (cc)
          never (Spent l) e b = as_but C t 0 d (Spent l) b tt
          never Stuck e b = as_but C t 0 d Stuck b tt

      by_home : (slot : TaskSlot) (f : Lift) (type : Numbered) (o : Option (List ℕ)) → slice_get h.tasks t ≡ Some slot → slot.instance ≡ f.instance → params_of p slot.callee ≡ Some type
          → resources_of p f.instance ≡ o → LowersInto p (destination_of f.instance t f.options h) type v (arguments_target type.val_type) h first → GivesBut C t 0 d
      by_home slot f type None is own of mine into = no_home v h (destination_of f.instance t f.options h) type (arguments_target type.val_type) first d mine into b
      by_home slot f type (Some home) is own of mine into = passed_on v h slot f type home first d is own mine (ends slot type is of) into b but

      by_type : (slot : TaskSlot) (f : Lift) (o : Option Numbered) → slice_get h.tasks t ≡ Some slot → slot.instance ≡ f.instance → params_of p slot.callee ≡ o
          → Behind (let e : Done Way = given o (λ type. Gives (record { to = destination_of f.instance t f.options h; type = type; target = arguments_target type.val_type }) h) in e) (λ w k x. LowersInto p w.to w.type v w.target k x) first
          → GivesBut C t 0 d
      by_type slot f None is own of e = stuck e
      by_type slot f (Some type) is own of into = by_home slot f type (resources_of p f.instance) is own of refl into

      by_lift : (slot : TaskSlot) (o : Option Lift) → slice_get h.tasks t ≡ Some slot → lift_of p.graph.now slot.callee ≡ o
          → Behind
          (let e : Done Way = given o (λ f. given (params_of p slot.callee) (λ type.
          Gives (record { to = destination_of f.instance t f.options h; type = type; target = arguments_target type.val_type }) h)) in e) (λ w k x. LowersInto p w.to w.type v w.target k x) first
          → GivesBut C t 0 d
      by_lift slot None is of e = stuck e
      by_lift slot (Some f) is of e = by_type slot f (params_of p slot.callee) is (runs slot f is of) refl e

      by_slot : (o : Option TaskSlot) → slice_get h.tasks t ≡ o
          → Behind
          (let e : Done Way = after (given o (λ slot. Gives slot.callee h)) (λ callee k. given (lift_of p.graph.now callee) (λ f. given (params_of p callee) (λ type.
          Gives (record { to = destination_of f.instance t f.options k; type = type; target = arguments_target type.val_type }) k))) in e) (λ w k x. LowersInto p w.to w.type v w.target k x) first
          → GivesBut C t 0 d
      by_slot None is e = stuck e
      by_slot (Some slot) is e = by_lift slot (lift_of p.graph.now slot.callee) is refl e

-- A result goes into the caller.
module _ (C : Type 0) (p : Program) where
  -- A value of a type that holds no borrow.
  plain_into : (to : Destination) (type : Numbered) (v : Value) (target : Target) (h : Held) (d : Done (List ℕ)) → has_borrow type.val_type ≡ false
      → AreAll (λ end_type number. C → EndComes h type.types end_type number) (ends_typed v type.val_type) → LowersInto p to type v target h d → HasBut C to.task 0 h → GivesBut C to.task 0 d
  plain_into to type v target h d none ends into but =
      from_site (λ (e : Done (List ℕ)). GivesBut C to.task 0 e) tt p to (fits v type.val_type) h (λ s k e. LowersAt p.graph.now to type.types (plan_to target type.val_type v s.resources) s k e) d
      (λ s found mine fit is.
      subst (λ (n : ℕ). GivesBut C to.task n d) (let same : 0 + borrow_count s.resources v ≡ 0 = none_owed (none_counted s.resources v type.val_type fit none) in same)
      (into_but C 0 p to type v target h d s.resources mine ends into but)) into
    where
      none_owed : {a : ℕ} → a ≡ 0 → 0 + a ≡ 0
      none_owed e = omega (arith, e)

  abbrev ResultEnds : Held → Callee → Value → Type 0
  ResultEnds h callee v =
      (number : ℕ) (type : Numbered) → returned_of p callee ≡ Some number → numbered_at p.types.now number ≡ Some type
      → AreAll (λ end_type number. C → EndComes h type.types end_type number) (ends_typed v type.val_type)

  back_but : (v : Value) (callee : Callee) (by number : ℕ) (words : List ℕ) (h : Held) (d : Done (List ℕ)) → HoldsNoBorrow p (returned_of p callee) → ResultEnds h callee v
      → LowersBack p v callee by number words h d → HasBut C by 0 h → GivesBut C by 0 d
  back_but v callee by number words h d none ends b but = by_canon (canon_at p.graph.now number) b
    where
      never : d ≡ Stuck → GivesBut C by 0 d
      never e = as_but C by 0 d Stuck e tt

      by_target : (c : CanonFunc) (type : Numbered) (o : Option Target) → has_borrow type.val_type ≡ false
          → AreAll (λ end_type number. C → EndComes h type.types end_type number) (ends_typed v type.val_type)
          → Behind (let e : Done Way = given o (λ target. Gives (record { to = destination_of (instance_of c) by (options_of c) h; type = type; target = target }) h) in e) (λ w k x. LowersInto p w.to w.type v w.target k x) d → GivesBut C by 0 d
      by_target c type None plain ends e = never e
      by_target c type (Some target) plain ends into = plain_into (destination_of (instance_of c) by (options_of c) h) type v target h d plain ends into but

      by_type : (c : CanonFunc) (type_number : ℕ) (o : Option Numbered) → returned_of p callee ≡ Some type_number → numbered_at p.types.now type_number ≡ o
          → Behind
          (let e : Done Way = given o (λ type. given (result_target (options_of c).is_async type.val_type words) (λ target.
          Gives (record { to = destination_of (instance_of c) by (options_of c) h; type = type; target = target }) h)) in e) (λ w k x. LowersInto p w.to w.type v w.target k x) d
          → GivesBut C by 0 d
      by_type c type_number None of is e = never e
      by_type c type_number (Some type) of is e =
          by_target c type (result_target (options_of c).is_async type.val_type words) (none type_number type of is) (ends type_number type of is) e

      by_result : (c : CanonFunc) (o : Option ℕ) → returned_of p callee ≡ o
          → Behind
          (let e : Done Way = given o (λ type_number. given (numbered_at p.types.now type_number) (λ type. given (result_target (options_of c).is_async type.val_type words) (λ target.
          Gives (record { to = destination_of (instance_of c) by (options_of c) h; type = type; target = target }) h))) in e) (λ w k x. LowersInto p w.to w.type v w.target k x) d
          → GivesBut C by 0 d
      by_result c None of e = never e
      by_result c (Some type_number) of e = by_type c type_number (numbered_at p.types.now type_number) of refl e

      by_canon : (o : Option CanonFunc)
          → Behind
          (let e : Done Way = given o (λ c. given (returned_of p callee) (λ type_number. given (numbered_at p.types.now type_number) (λ type.
          given (result_target (options_of c).is_async type.val_type words) (λ target. Gives (record { to = destination_of (instance_of c) by (options_of c) h; type = type; target = target }) h)))) in e) (λ w k x. LowersInto p w.to w.type v w.target k x) d
          → GivesBut C by 0 d
      by_canon None e = never e
      by_canon (Some c) e = by_result c (returned_of p callee) refl e

  -- It is kept.
  pub kept_but : (t u : ℕ) (words : List ℕ) (h : Held) → HasBut C u 0 h → GivesBut C u 0 (result_kept t words h)
  kept_but t u words h but =
      leaves_given C (λ (k : Held). HasBut C u 0 k) (slice_get h.tasks t) (λ slot. if may_keep slot.caller then Gives (tt {0}) (with_task t (kept_slot words slot) h) else Stuck)
      (λ slot is.
      leaves_if C (λ (k : Held). HasBut C u 0 k) (may_keep slot.caller) (Gives (tt {0}) (with_task t (kept_slot words slot) h)) Stuck
      (task_but C u 0 h t slot (kept_slot words slot) is (kept_alike words slot) (same_seen slot (kept_slot words slot) refl refl refl refl) (keeping_stays t slot words) but) tt)

  for_but : (t u : ℕ) (v : Value) (callee : Callee) (c : Caller) (h : Held) (d : Done (Unit {0})) → HoldsNoBorrow p (returned_of p callee) → ResultEnds h callee v
      → LowersFor p t v callee c h d → HasBut C u 0 h → GivesBut C u 0 d
  for_but t u v callee Nobody h d none ends b but = as_but C u 0 d (Gives tt h) b but
  for_but t u v callee (Host call) h d none ends b but = as_but C u 0 d (Gives tt h) b but
  for_but t u v callee (Guest called) h d none ends (first, back, b) but =
      other_task called.by d
      (behind_but C called.by 0 0 first (λ results k e. e ≡ result_kept t results k) d (back_but v callee called.by called.canon called.words h first none ends back (any_task C u called.by h but))
      (λ results k gave kept same. as_but C called.by 0 d (result_kept t results k) same (kept_but t called.by results k kept)) b)
    where
      other_task : (m : ℕ) (e : Done (Unit {0})) → GivesBut C m 0 e → GivesBut C u 0 e
      other_task m (Gives x k) q = any_task C m u k q
      other_task m (Traps why k) q = q
      other_task m (Spent k) q = tt
      other_task m Stuck q = tt

  pub result_but : (t u : ℕ) (v : Value) (h : Held) (d : Done (Unit {0})) → ((slot : TaskSlot) → slice_get h.tasks t ≡ Some slot → HoldsNoBorrow p (returned_of p slot.callee) × ResultEnds h slot.callee v)
      → LowersResult p t v h d → HasBut C u 0 h → GivesBut C u 0 d
  result_but t u v h d well b but = by_slot (slice_get h.tasks t) refl b
    where
      by_slot : (o : Option TaskSlot) → slice_get h.tasks t ≡ o
          → Behind (let e : Done TaskSlot = given o (λ slot. Gives slot h) in e) (λ slot k e. LowersFor p t v slot.callee slot.caller k e) d → GivesBut C u 0 d
      by_slot None is e = as_but C u 0 d Stuck e tt
      by_slot (Some slot) is e = (let w = well slot is in for_but t u v slot.callee slot.caller h d w.0 w.1 e but)

-- Lines that were told before change nothing of what a result that is passed comes to.
use Rattle.std.proofs.Common.{◌≡◌, ℕ, ◌+◌, Bool, true, false, not, nat_lt, if◌then◌else◌, List, [], ◌∷◌, length, take, refl, sym, ap, ◌∙◌, subst, append_assoc, Option, Some, None, Result, Ok, Err}
use Rattle.std.specs.List.{slice_get}
use Rattle.syntax_trees.specs.declared.types.ValType.{ValType}
use Rattle.syntax_trees.specs.declared.value.Value.{Value}
use Rattle.syntax_trees.specs.Fits.{fits}
use Rattle.syntax_trees.specs.Flat.{flat}
use Rattle.laid_types.specs.Known.{Numbered, numbered_at}
use Rattle.handle_table.specs.Slots.{Slots}
use Rattle.value_lift.specs.declared.counting.LiftOf.{LiftOf}
use Rattle.value_lift.specs.declared.counting.LiftOf.TheVariants as whole
use Rattle.value_lift.specs.declared.moved.Moved.{Moved}
use Rattle.value_lift.specs.declared.moved.Moved.TheVariants.{Lent, Taken}
use Rattle.value_lift.specs.Lifting.{most}
use Rattle.value_lift.specs.Over.{load_by, lift_flat_by}
use Rattle.value_lift.specs.Tables as tables
use Rattle.value_lift.specs.Tables.{Stop, at_first}
use Rattle.copy_engine.specs.declared.acts.Act.{Act}
use Rattle.copy_engine.specs.declared.acts.Acts.{Acts}
use Rattle.copy_engine.specs.declared.answering.CallRefusal.{CallRefusal}
use Rattle.copy_engine.specs.declared.answering.CallRefusal.TheVariants as refusal
use Rattle.copy_engine.specs.declared.hosted.HostedTrap.{HostedTrap}
use Rattle.copy_engine.specs.declared.hosted.HostedTrap.TheVariants as hosted
use Rattle.copy_engine.specs.declared.lower_values.Lowered.{Lowered}
use Rattle.copy_engine.specs.declared.lower_values.Lowered.TheVariants as lowered
use Rattle.copy_engine.specs.declared.lower_values.Target.{Target}
use Rattle.copy_engine.specs.Hosted.{plan_to}
use Rattle.comp_graph.specs.declared.graph.CanonFunc.{CanonFunc}
use Rattle.comp_graph.specs.declared.graph.CoreRef.{CoreRef}
use Rattle.comp_graph.specs.declared.graph.Options.{Options}
use Rattle.comp_graph.specs.Graph.{Graph}
use Rattle.graph_views.specs.Callees.{lift_of}
use Rattle.graph_views.specs.Canons.{canon_at, instance_of, options_of, options_at}
use Rattle.graph_views.specs.Names.{builtin_of}
use Rattle.tasks.specs.declared.event.TaskEvent.{TaskEvent}
use Rattle.tasks.specs.declared.event.TaskEvent.TheVariants as event
use Rattle.tasks.specs.declared.subtask_state.SubtaskState.{SubtaskState}
use Rattle.tasks.specs.declared.subtask_state.SubtaskState.TheVariants as state
use Rattle.task_table.specs.declared.caller.Caller.{Caller}
use Rattle.task_table.specs.declared.caller.Caller.TheVariants as by
use Rattle.task_table.specs.declared.errand.Callee.{Callee}
use Rattle.task_table.specs.declared.refusal.EventError.{EventError}
use Rattle.task_table.specs.declared.refusal.EventError.TheVariants as event_error
use Rattle.task_table.specs.declared.slot.TaskSlot.{TaskSlot}
use Rattle.task_table.specs.Callers.{may_raise, may_keep}
use Rattle.task_table.specs.Slots.{event_answer, advanced_slot, raised_slot, kept_slot, with_word}
use Rattle.trace_labels.specs.declared.label.Label.{Label}
use Rattle.trace_labels.specs.declared.label.Label.TheVariants as line
use Rattle.trace_labels.specs.declared.trap.TrapName.TheVariants as trap
use Rattle.trace_labels.specs.declared.typed.TypedValue.{TypedValue}
use Rattle.programs.specs.declared.program.Program.{Program}
use Rattle.programs.specs.Program.{value_of, returned_of, resources_of}
use Rattle.instances.specs.declared.entry.WorldEntry.{WorldEntry}
use Rattle.instances.specs.Instances.{InstanceView, with_slots, with_sets}
use Rattle.waitables.specs.Sets.{left}
use Rattle.return_replies.specs.Returns.{type_of, same_held, same_memory, checked, return_checked}
use Rattle.world_parts.specs.Held as kept
use Rattle.world_parts.specs.Held.{Held, Done, Gives, Traps, Spent, after, given}
use Rattle.world_parts.specs.declared.parts.Flow.{Flow}
use Rattle.world_parts.specs.declared.parts.Flow.TheVariants as flow
use Rattle.world_parts.specs.declared.parts.Rest.TheVariants as rest
use Rattle.world_parts.specs.Entries.{with_instance}
use Rattle.world_parts.specs.Feed.{told, got}
use Rattle.world_parts.specs.Places.{memory_by, memory_of, bytes_at}
use Rattle.world_parts.specs.Plain.{returned}
use Rattle.world_parts.specs.Slots.{with_task, happened, happens, raised, result_kept, context_set, callee_of, words_of, word_in}
use Rattle.world_parts.specs.Slots as slots
use Rattle.value_parts.specs.declared.lifting.Origin.{Origin}
use Rattle.value_parts.specs.Coming.{Behind}
use Rattle.value_parts.specs.Lifting.{over_table, settled, loaded, flat_lifted, words_lifted, value_lifted}
use Rattle.value_parts.specs.Loans.{may_lend, lent_slot, lend_kept, one_moved, all_moved}
use Rattle.value_parts.specs.Names.{lift_name}
use Rattle.value_parts.specs.Passing.{typed_result, result_of_type, result_lifted, returned_lifted}
use Rattle.value_moves.specs.declared.lowering.Destination.{Destination}
use Rattle.value_moves.specs.Lowering.{Site, site_found, got_told, act_told, all_told, call_refused, code_trapped, lowered_by, finished, LowersAt, LowersInto, destination_of, destination_at, left_at}
use Rattle.value_moves.specs.Lowered.{Way, result_target, result_way, LowersBack, LowersKept, LowersFor}
use Rattle.value_moves.specs.Resolving.{PassesOn, Resolves, type_by, return_tested, ReturnResolves, TestedResolves, Returns}
use Rattle.run_laws.proofs.Stacking.{over}

-- What a part comes to, with these lines in front of all that were told.
abbrev pub redone : {A : Type 0} → List Label → Done A → Done A
redone ahead (Gives x k) = Gives x (over ahead k)
redone ahead (Traps why k) = Traps why (over ahead k)
redone ahead (Spent k) = Spent (over ahead k)
redone ahead kept.Stuck = kept.Stuck

module _ (ahead : List Label) where
  -- Parts behind parts, what follows something that is looked up, and tests.
  after_by : {A B : Type 0} (d : Done A) (F G : A → Held → Done B) → ((x : A) (k : Held) → G x (over ahead k) ≡ redone ahead (F x k)) → after (redone ahead d) G ≡ redone ahead (after d F)
  after_by (Gives x k) F G more = more x k
  after_by (Traps why k) F G more = refl
  after_by (Spent k) F G more = refl
  after_by kept.Stuck F G more = refl

  after_over : {A B : Type 0} (d e : Done A) (F G : A → Held → Done B) → e ≡ redone ahead d → ((x : A) (k : Held) → G x (over ahead k) ≡ redone ahead (F x k))
      → after e G ≡ redone ahead (after d F)
  after_over d e F G same more = ap (λ q. after q G) same ∙ after_by d F G more

  given_over : {A B : Type 0} (o : Option A) (F G : A → Done B) → ((x : A) → G x ≡ redone ahead (F x)) → given o G ≡ redone ahead (given o F)
  given_over None F G more = refl
  given_over (Some x) F G more = more x

  if_over : {A : Type 0} (b : Bool) (d e f g : Done A) → f ≡ redone ahead d → g ≡ redone ahead e → (if b then f else g) ≡ redone ahead (if b then d else e)
  if_over true d e f g p q = p
  if_over false d e f g p q = q

  behind_over : {A B : Type 0} (d : Done A) (F : A → Held → Done B → Type 0) (e : Done B) → Behind d F e → ((x : A) (k : Held) → F x k e → F x (over ahead k) (redone ahead e))
      → Behind (redone ahead d) F (redone ahead e)
  behind_over (Gives x k) F e follows more = more x k follows
  behind_over {A} {B} (Traps why k) F e follows more = ap (λ (q : Done B). redone ahead q) follows
  behind_over {A} {B} (Spent k) F e follows more = ap (λ (q : Done B). redone ahead q) follows
  behind_over {A} {B} kept.Stuck F e follows more = ap (λ (q : Done B). redone ahead q) follows

  behind_as : {A B : Type 0} (d f : Done A) (F : A → Held → Done B → Type 0) (e : Done B) → f ≡ redone ahead d → Behind d F e
      → ((x : A) (k : Held) → F x k e → F x (over ahead k) (redone ahead e)) → Behind f F (redone ahead e)
  behind_as d f F e same follows more = subst (λ q. Behind q F (redone ahead e)) (sym same) (behind_over d F e follows more)

  -- Lines, and answers.
  told_over : (label : Label) (h : Held) → told label (over ahead h) ≡ redone ahead (told label h)
  told_over label h = ap (λ (ls : List Label). Gives (tt {0}) (record h { labels = ls })) (append_assoc ahead h.labels (label ∷ []))

  got_over : (t : ℕ) (words : List ℕ) (h : Held) → got t words (over ahead h) ≡ redone ahead (got t words h)
  got_over t words h = ap (λ (ls : List Label). Gives (flow.Now words) (record h { labels = ls; rest = rest.Runs })) (append_assoc ahead h.labels (line.Got t words ∷ []))

  -- Tasks.
  callee_over : (t : ℕ) (h : Held) → callee_of t (over ahead h) ≡ redone ahead (callee_of t h)
  callee_over t h = given_over (slice_get h.tasks t) (λ slot. Gives slot.callee h) (λ slot. Gives slot.callee (over ahead h)) (λ slot. refl)

  words_over : (t : ℕ) (h : Held) → words_of t (over ahead h) ≡ redone ahead (words_of t h)
  words_over t h = given_over (slice_get h.tasks t) (λ slot. Gives slot.at_words h) (λ slot. Gives slot.at_words (over ahead h)) (λ slot. refl)

  instance_over : (t : ℕ) (h : Held) → slots.instance_of t (over ahead h) ≡ redone ahead (slots.instance_of t h)
  instance_over t h = given_over (slice_get h.tasks t) (λ slot. Gives slot.instance h) (λ slot. Gives slot.instance (over ahead h)) (λ slot. refl)

  happened_over : (r : Result (Unit {0}) EventError) (t : ℕ) (slot : TaskSlot) (h : Held) → happened r t slot (over ahead h) ≡ redone ahead (happened r t slot h)
  happened_over (Ok done) t slot h = refl
  happened_over (Err event_error.NotNow) t slot h = refl
  happened_over (Err (event_error.Trap why)) t slot h = refl

  happens_over : (t : ℕ) (e : TaskEvent) (h : Held) → happens t e (over ahead h) ≡ redone ahead (happens t e h)
  happens_over t e h =
      given_over (slice_get h.tasks t) (λ slot. happened (event_answer e slot.task) t (advanced_slot e slot) h) (λ slot. happened (event_answer e slot.task) t (advanced_slot e slot) (over ahead h))
      (λ slot. happened_over (event_answer e slot.task) t (advanced_slot e slot) h)

  raised_over : (t : ℕ) (now : SubtaskState) (h : Held) → raised t now (over ahead h) ≡ redone ahead (raised t now h)
  raised_over t now h =
      given_over (slice_get h.tasks t) (λ slot. if may_raise now slot.caller then Gives (tt {0}) (with_task t (raised_slot now slot) h) else kept.Stuck)
      (λ slot. if may_raise now slot.caller then Gives (tt {0}) (with_task t (raised_slot now slot) (over ahead h)) else kept.Stuck)
      (λ slot. if_over (may_raise now slot.caller) (Gives (tt {0}) (with_task t (raised_slot now slot) h)) kept.Stuck (Gives (tt {0}) (with_task t (raised_slot now slot) (over ahead h))) kept.Stuck refl refl)

  kept_over : (t : ℕ) (words : List ℕ) (h : Held) → result_kept t words (over ahead h) ≡ redone ahead (result_kept t words h)
  kept_over t words h =
      given_over (slice_get h.tasks t) (λ slot. if may_keep slot.caller then Gives (tt {0}) (with_task t (kept_slot words slot) h) else kept.Stuck)
      (λ slot. if may_keep slot.caller then Gives (tt {0}) (with_task t (kept_slot words slot) (over ahead h)) else kept.Stuck)
      (λ slot. if_over (may_keep slot.caller) (Gives (tt {0}) (with_task t (kept_slot words slot) h)) kept.Stuck (Gives (tt {0}) (with_task t (kept_slot words slot) (over ahead h))) kept.Stuck refl refl)

  context_over : (t number word : ℕ) (h : Held) → context_set t number word (over ahead h) ≡ redone ahead (context_set t number word h)
  context_over t number word h =
      given_over (slice_get h.tasks t) (λ slot. Gives (tt {0}) (with_task t (with_word number word slot) h)) (λ slot. Gives (tt {0}) (with_task t (with_word number word slot) (over ahead h))) (λ slot. refl)

  pub memory_over : (o : Option CoreRef) (h : Held) → memory_by o (over ahead h) ≡ memory_by o h
  memory_over None h = refl
  memory_over (Some m) h = refl

  -- The test of a result.
  checked_over : (is_same : Bool) (options lifted : Options) (h : Held) → checked is_same options lifted (over ahead h) ≡ redone ahead (checked is_same options lifted h)
  checked_over is_same options lifted h =
      let tests : Option ℕ → Option ℕ → Done (Unit {0}) = λ a b.
      if not is_same then Traps trap.WrongResult (over ahead h) else if not (same_memory a b) then Traps trap.WrongOptions (over ahead h) else Gives (tt {0}) (over ahead h) in
      ap (λ (a : Option ℕ). tests a (memory_of lifted (over ahead h))) (memory_over options.memory h)
      ∙ ap (λ (b : Option ℕ). tests (memory_of options h) b) (memory_over lifted.memory h)
      ∙ if_over (not is_same) (Traps trap.WrongResult h) (if not (same_memory (memory_of options h) (memory_of lifted h)) then Traps trap.WrongOptions h else Gives (tt {0}) h)
      (Traps trap.WrongResult (over ahead h)) (if not (same_memory (memory_of options h) (memory_of lifted h)) then Traps trap.WrongOptions (over ahead h) else Gives (tt {0}) (over ahead h)) refl
      (if_over (not (same_memory (memory_of options h) (memory_of lifted h))) (Traps trap.WrongOptions h) (Gives (tt {0}) h) (Traps trap.WrongOptions (over ahead h)) (Gives (tt {0}) (over ahead h)) refl refl)

  tested_over : (g : Graph) (t : ℕ) (result wanted : Option ValType) (options : Options) (h : Held)
      → return_checked g t result wanted options (over ahead h) ≡ redone ahead (return_checked g t result wanted options h)
  tested_over g t result wanted options h =
      let by : Callee → Held → Done (Unit {0}) = λ callee k. given (lift_of g callee) (λ lift. checked (same_held result wanted) options lift.options k) in
      after_over (callee_of t h) (callee_of t (over ahead h)) by by (callee_over t h)
      (λ callee k.
      given_over (lift_of g callee) (λ lift. checked (same_held result wanted) options lift.options k) (λ lift. checked (same_held result wanted) options lift.options (over ahead k))
      (λ lift. checked_over (same_held result wanted) options lift.options k))

  tests_over : (p : Program) (t canon : ℕ) (h : Held) → return_tested p t canon (over ahead h) ≡ redone ahead (return_tested p t canon h)
  tests_over p t canon h =
      let by : Callee → Held → Done (Unit {0}) = λ callee k.
      return_checked p.graph.now t (type_of (type_by p (value_of p canon))) (type_of (type_by p (returned_of p callee))) (options_at p.graph.now canon) k in
      after_over (callee_of t h) (callee_of t (over ahead h)) by by (callee_over t h)
      (λ callee k. tested_over p.graph.now t (type_of (type_by p (value_of p canon))) (type_of (type_by p (returned_of p callee))) (options_at p.graph.now canon) k)

  -- What lifting moved.
  lend_over : (t handle : ℕ) (h : Held) → lend_kept t handle (over ahead h) ≡ redone ahead (lend_kept t handle h)
  lend_over t handle h =
      given_over (slice_get h.tasks t) (λ slot. if may_lend slot.caller then Gives (tt {0}) (with_task t (lent_slot handle slot) h) else kept.Stuck)
      (λ slot. if may_lend slot.caller then Gives (tt {0}) (with_task t (lent_slot handle slot) (over ahead h)) else kept.Stuck)
      (λ slot.
      if_over (may_lend slot.caller) (Gives (tt {0}) (with_task t (lent_slot handle slot) h)) kept.Stuck (Gives (tt {0}) (with_task t (lent_slot handle slot) (over ahead h))) kept.Stuck refl refl)

  one_over : (at callee : ℕ) (one : Moved) (h : Held) → one_moved at callee one (over ahead h) ≡ redone ahead (one_moved at callee one h)
  one_over at callee (Lent handle) h =
      after_over (lend_kept callee handle h) (lend_kept callee handle (over ahead h)) (λ done k. told (line.Lend (at + 1) handle callee) k) (λ done k. told (line.Lend (at + 1) handle callee) k)
      (lend_over callee handle h) (λ done k. told_over (line.Lend (at + 1) handle callee) k)
  one_over at callee (Taken index) h =
      given_over (slice_get h.instances at) (λ i. Gives (tt {0}) (with_instance at (with_sets (left index i.sets) i) h)) (λ i. Gives (tt {0}) (with_instance at (with_sets (left index i.sets) i) (over ahead h)))
      (λ i. refl)

  all_over : (at callee : ℕ) (moved : List Moved) (h : Held) → all_moved at callee moved (over ahead h) ≡ redone ahead (all_moved at callee moved h)
  all_over at callee [] h = refl
  all_over at callee (one ∷ moved) h =
      after_over (one_moved at callee one h) (one_moved at callee one (over ahead h)) (λ done k. all_moved at callee moved k) (λ done k. all_moved at callee moved k) (one_over at callee one h)
      (λ done k. all_over at callee moved k)

  settled_over : {A : Type 0} (from : Origin) (i : InstanceView) (r : Result (A × Slots WorldEntry × List Moved) (Stop WorldEntry)) (h : Held)
      → settled from i r (over ahead h) ≡ redone ahead (settled from i r h)
  settled_over {A} from i (Ok x) h =
      after_over (all_moved from.at from.callee x.2 (with_instance from.at (with_slots x.1 i) h)) (all_moved from.at from.callee x.2 (with_instance from.at (with_slots x.1 i) (over ahead h)))
      (λ done k. Gives x.0 k) (λ done k. Gives x.0 k) (all_over from.at from.callee x.2 (with_instance from.at (with_slots x.1 i) h)) (λ done k. refl)
  settled_over {A} from i (Err stopped) h =
      after_over (all_moved from.at from.callee stopped.moved (with_instance from.at (with_slots stopped.slots i) h))
      (all_moved from.at from.callee stopped.moved (with_instance from.at (with_slots stopped.slots i) (over ahead h)))
      (λ done k. (let d : Done A = Traps (lift_name stopped.trap.why) k in d)) (λ done k. (let d : Done A = Traps (lift_name stopped.trap.why) k in d))
      (all_over from.at from.callee stopped.moved (with_instance from.at (with_slots stopped.slots i) h)) (λ done k. refl)

  loaded_over : (from : Origin) (what : LiftOf) (x : Numbered) (place : ℕ) (h : Held) → loaded from what x place (over ahead h) ≡ redone ahead (loaded from what x place h)
  loaded_over from what x place h =
      let came : InstanceView → Result (Value × Slots WorldEntry × List Moved) (Stop WorldEntry) = λ i.
      tables.given (load_by (over_table x.types) x.val_type (bytes_at from.memory h.store) place (at_first (most what) i.slots [])) in
      given_over (slice_get h.instances from.at) (λ i. settled from i (came i) h) (λ i. settled from i (came i) (over ahead h)) (λ i. settled_over from i (came i) h)

  flat_over : (from : Origin) (what : LiftOf) (x : Numbered) (words : List ℕ) (h : Held) → flat_lifted from what x words (over ahead h) ≡ redone ahead (flat_lifted from what x words h)
  flat_over from what x words h =
      let came : InstanceView → Result (Value × Slots WorldEntry × List Moved) (Stop WorldEntry) = λ i.
      tables.given (lift_flat_by (over_table x.types) x.val_type (bytes_at from.memory h.store) words (at_first (most what) i.slots [])) in
      given_over (slice_get h.instances from.at) (λ i. settled from i (came i) h) (λ i. settled from i (came i) (over ahead h)) (λ i. settled_over from i (came i) h)

  value_over : (from : Origin) (what : LiftOf) (limit : ℕ) (x : Numbered) (words : List ℕ) (h : Held)
      → value_lifted from what limit x words (over ahead h) ≡ redone ahead (value_lifted from what limit x words h)
  unfolding value_lifted
  value_over from what limit x words h =
      if_over (nat_lt limit (length (flat x.val_type))) (given (word_in words 0) (λ place. loaded from what x place h)) (words_lifted from what x words h)
      (given (word_in words 0) (λ place. loaded from what x place (over ahead h))) (words_lifted from what x words (over ahead h))
      (given_over (word_in words 0) (λ place. loaded from what x place h) (λ place. loaded from what x place (over ahead h)) (λ place. loaded_over from what x place h))
      (if_over (nat_lt (length words) (length (flat x.val_type))) kept.Stuck (flat_lifted from what x (take (length (flat x.val_type)) words) h) kept.Stuck
      (flat_lifted from what x (take (length (flat x.val_type)) words) (over ahead h)) refl (flat_over from what x (take (length (flat x.val_type)) words) h))

  typed_over : (from : Origin) (limit : ℕ) (x : Numbered) (words : List ℕ) (h : Held) → result_of_type from limit x words (over ahead h) ≡ redone ahead (result_of_type from limit x words h)
  unfolding result_of_type
  typed_over from limit x words h =
      after_over (value_lifted from whole.Value limit x words h) (value_lifted from whole.Value limit x words (over ahead h)) (λ v k. Gives (typed_result x.val_type v) k)
      (λ v k. Gives (typed_result x.val_type v) k) (value_over from whole.Value limit x words h) (λ v k. refl)

  result_over : (p : Program) (t : ℕ) (number memory : Option ℕ) (limit : ℕ) (words : List ℕ) (h : Held)
      → result_lifted p t number memory limit words (over ahead h) ≡ redone ahead (result_lifted p t number memory limit words h)
  unfolding result_lifted
  result_over p t None memory limit words h = refl
  result_over p t (Some number) memory limit words h =
      let by : Numbered → ℕ → Held → Done (Option TypedValue) = λ x at k. result_of_type (let from : Origin = record { at = at; callee = t; memory = memory } in from) limit x words k in
      given_over (numbered_at p.types.now number) (λ x. after (slots.instance_of t h) (by x)) (λ x. after (slots.instance_of t (over ahead h)) (by x))
      (λ x.
      after_over (slots.instance_of t h) (slots.instance_of t (over ahead h)) (by x) (by x) (instance_over t h)
      (λ at k. typed_over (record { at = at; callee = t; memory = memory }) limit x words k))

  pub lifts_over : (p : Program) (t canon : ℕ) (h : Held) → returned_lifted p t canon (over ahead h) ≡ redone ahead (returned_lifted p t canon h)
  unfolding returned_lifted
  lifts_over p t canon h =
      let by : List ℕ → Held → Done (Option TypedValue) = λ words k. result_lifted p t (value_of p canon) (memory_of (options_at p.graph.now canon) k) 16 words k in
      after_over (words_of t h) (words_of t (over ahead h)) by by (words_over t h)
      (λ words k.
      ap (λ (memory : Option ℕ). result_lifted p t (value_of p canon) memory 16 words (over ahead k)) (memory_over (options_at p.graph.now canon).memory k)
      ∙ result_over p t (value_of p canon) (memory_of (options_at p.graph.now canon) k) 16 words k)

  -- The task returns.
  returned_over : (t : ℕ) (value : Option TypedValue) (h : Held) → returned t value (over ahead h) ≡ redone ahead (returned t value h)
  unfolding returned
  returned_over t value h =
      let raises : Unit {0} → Held → Done (Unit {0}) = λ done l. raised t state.Returned l in
      after_over (happens t event.Return h) (happens t event.Return (over ahead h)) (λ done k. after (told (line.Return t value) k) raises) (λ done k. after (told (line.Return t value) k) raises)
      (happens_over t event.Return h)
      (λ done k.
      after_over (told (line.Return t value) k) (told (line.Return t value) (over ahead k)) raises raises (told_over (line.Return t value) k) (λ done l. raised_over t state.Returned l))

  -- Its result is lowered.
  act_over : (g : Graph) (t : ℕ) (act : Act) (h : Held) → act_told g t act (over ahead h) ≡ redone ahead (act_told g t act h)
  act_over g t act h =
      given_over (canon_at g act.canon) (λ c. after (told (line.Do t (builtin_of c) act.words) h) (λ done k. got_told t act.got k))
      (λ c. after (told (line.Do t (builtin_of c) act.words) (over ahead h)) (λ done k. got_told t act.got k))
      (λ c.
      after_over (told (line.Do t (builtin_of c) act.words) h) (told (line.Do t (builtin_of c) act.words) (over ahead h)) (λ done k. got_told t act.got k) (λ done k. got_told t act.got k)
      (told_over (line.Do t (builtin_of c) act.words) h) (λ done k. by act.got k))
    where
      by : (o : Option (List ℕ)) (k : Held) → got_told t o (over ahead k) ≡ redone ahead (got_told t o k)
      by None k = refl
      by (Some words) k = told_over (line.Got t words) k

  acts_over : (g : Graph) (t : ℕ) (acts : List Act) (h : Held) → all_told g t acts (over ahead h) ≡ redone ahead (all_told g t acts h)
  acts_over g t [] h = refl
  acts_over g t (act ∷ acts) h =
      after_over (act_told g t act h) (act_told g t act (over ahead h)) (λ done k. all_told g t acts k) (λ done k. all_told g t acts k) (act_over g t act h) (λ done k. acts_over g t acts k)

  refused_over : (why : CallRefusal) (h : Held) → call_refused why (over ahead h) ≡ redone ahead (call_refused why h)
  refused_over refusal.CannotLeave h = refl
  refused_over (refusal.Refused why) h = refl
  refused_over refusal.NoRule h = refl

  trapped_over : (why : HostedTrap) (h : Held) → code_trapped why (over ahead h) ≡ redone ahead (code_trapped why h)
  trapped_over (hosted.Core why) h = refl
  trapped_over (hosted.Call why) h = refused_over why h
  trapped_over hosted.NoRealloc h = refl

  lowered_over : (came : Lowered) (h : Held) → lowered_by came (over ahead h) ≡ redone ahead (lowered_by came h)
  lowered_over (lowered.Words words) h = refl
  lowered_over (lowered.Failed why) h = refl
  lowered_over (lowered.Trapped why) h = trapped_over why h
  lowered_over lowered.NoFuel h = refl

  finished_over : (g : Graph) (t : ℕ) (acts : Acts) (came : Lowered) (h : Held) → finished g t acts came (over ahead h) ≡ redone ahead (finished g t acts came h)
  unfolding finished
  finished_over g t acts came h =
      let last : Unit {0} → Held → Done (List ℕ) = λ done m. lowered_by came m in
      let tells : Unit {0} → Held → Done (List ℕ) = λ done l. after (all_told g t acts.calls l) last in
      let second : Unit {0} → Held → Done (List ℕ) = λ done k. after (context_set t 1 acts.context.1 k) tells in
      after_over (context_set t 0 acts.context.0 h) (context_set t 0 acts.context.0 (over ahead h)) second second (context_over t 0 acts.context.0 h)
      (λ done k.
      after_over (context_set t 1 acts.context.1 k) (context_set t 1 acts.context.1 (over ahead k)) tells tells (context_over t 1 acts.context.1 k)
      (λ done l. after_over (all_told g t acts.calls l) (all_told g t acts.calls (over ahead l)) last last (acts_over g t acts.calls l) (λ done m. lowered_over came m)))

  site_over : (p : Program) (to : Destination) (is_fit : Bool) (h : Held) → site_found p to is_fit (over ahead h) ≡ redone ahead (site_found p to is_fit h)
  site_over p to is_fit h =
      let site : InstanceView → TaskSlot → List ℕ → Site = λ i slot resources. record { instance = i; context = slot.context; resources = resources } in
      let last : InstanceView → TaskSlot → Held → Done Site = λ i slot k. given (resources_of p to.instance) (λ resources. if is_fit then Gives (site i slot resources) k else kept.Stuck) in
      given_over (slice_get h.instances to.instance) (λ i. given (slice_get h.tasks to.task) (λ slot. last i slot h)) (λ i. given (slice_get h.tasks to.task) (λ slot. last i slot (over ahead h)))
      (λ i.
      given_over (slice_get h.tasks to.task) (λ slot. last i slot h) (λ slot. last i slot (over ahead h))
      (λ slot.
      given_over (resources_of p to.instance) (λ resources. if is_fit then Gives (site i slot resources) h else kept.Stuck) (λ resources. if is_fit then Gives (site i slot resources) (over ahead h) else kept.Stuck)
      (λ resources. if_over is_fit (Gives (site i slot resources) h) kept.Stuck (Gives (site i slot resources) (over ahead h)) kept.Stuck refl refl)))

  into_over : (p : Program) (to : Destination) (x : Numbered) (v : Value) (way : Target) (h : Held) (d : Done (List ℕ)) → LowersInto p to x v way h d → LowersInto p to x v way (over ahead h) (redone ahead d)
  into_over p to x v way h d lowers =
      behind_as (site_found p to (fits v x.val_type) h) (site_found p to (fits v x.val_type) (over ahead h))
      (λ site k e. LowersAt p.graph.now to x.types (plan_to way x.val_type v site.resources) site k e) d (site_over p to (fits v x.val_type) h) lowers
      (λ site k comes. (
        comes.0,
        comes.1,
        comes.2,
        ap (λ (q : Done (List ℕ)). redone ahead q) comes.3 ∙ sym (finished_over p.graph.now to.task comes.1.room.acts comes.0 (left_at to site comes.1 k)),
      ))

  way_over : (p : Program) (callee : Callee) (by number : ℕ) (words : List ℕ) (h : Held) → result_way p callee by number words (over ahead h) ≡ redone ahead (result_way p callee by number words h)
  way_over p callee by number words h =
      let way : CanonFunc → Numbered → Target → Held → Way = λ c x target k. record { to = destination_of (instance_of c) by (options_of c) k; type = x; target = target } in
      let aims : CanonFunc → Numbered → Held → Done Way = λ c x k. given (result_target (options_of c).is_async x.val_type words) (λ target. Gives (way c x target k) k) in
      let types : CanonFunc → ℕ → Held → Done Way = λ c n k. given (numbered_at p.types.now n) (λ x. aims c x k) in
      let of_canon : CanonFunc → Held → Done Way = λ c k. given (returned_of p callee) (λ n. types c n k) in
      given_over (canon_at p.graph.now number) (λ c. of_canon c h) (λ c. of_canon c (over ahead h))
      (λ c.
      given_over (returned_of p callee) (λ n. types c n h) (λ n. types c n (over ahead h))
      (λ n.
      given_over (numbered_at p.types.now n) (λ x. aims c x h) (λ x. aims c x (over ahead h))
      (λ x.
      given_over (result_target (options_of c).is_async x.val_type words) (λ target. Gives (way c x target h) h) (λ target. Gives (way c x target (over ahead h)) (over ahead h))
      (λ target.
      ap (λ (memory : Option ℕ). Gives (let one : Way = record { to = destination_at (instance_of c) by memory (options_of c) h.store; type = x; target = target } in one) (over ahead h))
      (memory_over (options_of c).memory h)))))

  back_over : (p : Program) (v : Value) (callee : Callee) (by number : ℕ) (words : List ℕ) (h : Held) (d : Done (List ℕ)) → LowersBack p v callee by number words h d
      → LowersBack p v callee by number words (over ahead h) (redone ahead d)
  back_over p v callee by number words h d lowers =
      behind_as (result_way p callee by number words h) (result_way p callee by number words (over ahead h)) (λ w k e. LowersInto p w.to w.type v w.target k e) d (way_over p callee by number words h) lowers
      (λ w k comes. into_over p w.to w.type v w.target k d comes)

  kept_back_over : (p : Program) (t : ℕ) (v : Value) (callee : Callee) (by number : ℕ) (words : List ℕ) (h : Held) (d : Done (Unit {0})) → LowersKept p t v callee by number words h d
      → LowersKept p t v callee by number words (over ahead h) (redone ahead d)
  kept_back_over p t v callee by number words h d lowers = (
    redone ahead lowers.0,
    back_over p v callee by number words h lowers.0 lowers.1,
    behind_over lowers.0 (λ results k e. e ≡ result_kept t results k) d lowers.2 (λ results k same. ap (λ (q : Done (Unit {0})). redone ahead q) same ∙ sym (kept_over t results k)),
  )

  for_over : (p : Program) (t : ℕ) (v : Value) (callee : Callee) (caller : Caller) (h : Held) (d : Done (Unit {0})) → LowersFor p t v callee caller h d → LowersFor p t v callee caller (over ahead h) (redone ahead d)
  for_over p t v callee by.Nobody h d lowers = ap (λ (q : Done (Unit {0})). redone ahead q) lowers
  for_over p t v callee (by.Host call) h d lowers = ap (λ (q : Done (Unit {0})). redone ahead q) lowers
  for_over p t v callee (by.Guest called) h d lowers = kept_back_over p t v callee called.by called.canon called.words h d lowers

  passes_over : (p : Program) (t : ℕ) (value : Option TypedValue) (h : Held) (d : Done (Unit {0})) → PassesOn p t value h d → PassesOn p t value (over ahead h) (redone ahead d)
  passes_over p t None h d passes = ap (λ (q : Done (Unit {0})). redone ahead q) passes
  passes_over p t (Some v) h d passes =
      behind_as (given (slice_get h.tasks t) (λ slot. Gives slot h)) (given (slice_get h.tasks t) (λ slot. Gives slot (over ahead h))) (λ slot k e. LowersFor p t v.value slot.callee slot.caller k e) d
      (given_over (slice_get h.tasks t) (λ slot. Gives slot h) (λ slot. Gives slot (over ahead h)) (λ slot. refl)) passes (λ slot k comes. for_over p t v.value slot.callee slot.caller k d comes)

  resolves_over : (p : Program) (t : ℕ) (value : Option TypedValue) (h : Held) (d : Done (Unit {0})) → Resolves p t value h d → Resolves p t value (over ahead h) (redone ahead d)
  resolves_over p t value h d resolves =
      behind_as (returned t value h) (returned t value (over ahead h)) (λ (done : Unit {0}) k e. PassesOn p t value k e) d (returned_over t value h) resolves (λ done k comes. passes_over p t value k d comes)

  return_over : (p : Program) (t canon : ℕ) (h : Held) (d : Done (Unit {0})) → ReturnResolves p t canon h d → ReturnResolves p t canon (over ahead h) (redone ahead d)
  return_over p t canon h d resolves =
      behind_as (returned_lifted p t canon h) (returned_lifted p t canon (over ahead h)) (λ value k e. Resolves p t value k e) d (lifts_over p t canon h) resolves (λ value k comes. resolves_over p t value k d comes)

  tested_resolves_over : (p : Program) (t canon : ℕ) (h : Held) (d : Done (Unit {0})) → TestedResolves p t canon h d → TestedResolves p t canon (over ahead h) (redone ahead d)
  tested_resolves_over p t canon h d resolves =
      behind_as (return_tested p t canon h) (return_tested p t canon (over ahead h)) (λ (tested : Unit {0}) k e. ReturnResolves p t canon k e) d (tests_over p t canon h) resolves
      (λ tested k comes. return_over p t canon k d comes)

  -- So it is of `task.return` as a whole.
  pub returns_over : (p : Program) (t canon : ℕ) (h : Held) (d : Done Flow) → Returns p t canon h d → Returns p t canon (over ahead h) (redone ahead d)
  returns_over p t canon h d returns = (
    redone ahead returns.0,
    tested_resolves_over p t canon h returns.0 returns.1,
    behind_over returns.0 (λ (done : Unit {0}) k e. e ≡ got t [] k) d returns.2 (λ done k same. ap (λ (q : Done Flow). redone ahead q) same ∙ sym (got_over t [] k)),
  )

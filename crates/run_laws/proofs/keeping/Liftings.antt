-- Values that are lifted: arguments, results and elements keep what is kept.
use Rattle.std.proofs.Common.{◌≡◌, ◌≤◌, nat_lt, ℕ, Bool, true, false, if◌then◌else◌, List, [], length, take, Option, Some, None, refl, arith}
use Rattle.std.specs.List.{slice_get}
use Rattle.std.proofs.lemmas.Bool.{ltb-false}
use Rattle.std.proofs.lemmas.List.{length-take-le}
use Rattle.syntax_trees.specs.declared.types.ValType.{out-ValType}
use Rattle.syntax_trees.specs.declared.value.Value.{Value}
use Rattle.syntax_trees.specs.declared.value.Value.TheViews as value
use Rattle.syntax_trees.specs.Flat.{flat}
use Rattle.laid_types.specs.Known.{Numbered, numbered_at}
use Rattle.res_handles.specs.declared.handle.Handle.{Handle}
use Rattle.res_handles.specs.declared.entry.EntryView.TheVariants as seen
use Rattle.value_lift.specs.declared.counting.LiftOf.{LiftOf}
use Rattle.value_lift.specs.declared.counting.LiftOf.TheVariants as whole
use Rattle.value_lift.specs.Lifting.{most, tuple_case}
use Rattle.value_lift.specs.Over.{load_by, load_list_by, lift_flat_by}
use Rattle.value_lift.specs.Settled.{listing, none_listed, carried, all_carried}
use Rattle.value_lift.specs.Tables.{at_first}
use Rattle.value_lift.specs.Tables as tables
use Rattle.value_lift.proofs.Settling.{load_settled, list_settled, words_settled}
use Rattle.comp_graph.specs.declared.graph.CanonFunc.{CanonFunc}
use Rattle.graph_views.specs.Canons.{canon_at, instance_of, options_of, options_at}
use Rattle.graph_views.specs.Callees.{lift_of}
use Rattle.task_table.specs.declared.caller.Called.{Called}
use Rattle.task_table.specs.declared.caller.Caller.{Caller}
use Rattle.task_table.specs.declared.caller.Caller.TheVariants.{Nobody, Host, Guest}
use Rattle.task_table.specs.declared.slot.TaskSlot.{TaskSlot}
use Rattle.trace_labels.specs.declared.typed.TypedValue.{TypedValue}
use Rattle.programs.specs.declared.program.Program.{Program}
use Rattle.programs.specs.Program.{params_of, returned_of, value_of, host_values}
use Rattle.instances.specs.Entries.{seen_as, of_handle, end_type_of}
use Rattle.world_parts.specs.Held.{Held, Done, Gives, Traps, Spent, Stuck, after, given}
use Rattle.world_parts.specs.Places.{bytes_at, memory_of}
use Rattle.world_parts.specs.Slots.{word_in, instance_of as at_of}
use Rattle.value_parts.specs.declared.lifting.Origin.{Origin}
use Rattle.value_parts.specs.Lifting.{over_table, settled, loaded, elements_lifted, flat_lifted, words_lifted, value_lifted}
use Rattle.value_parts.specs.Passing.{passed_limit, arguments_passed, arguments_by, arguments_lifted, typed_result, result_of_type, result_by, result_lifted, ended_lifted, returned_lifted}
use Rattle.run_laws.specs.keeping.Kept.{KeepsMarks, CalledFrom}
use Rattle.run_laws.specs.keeping.Tables.{TablesWell}
use Rattle.run_laws.specs.keeping.Liftings.{LendsFor, ArgumentsLendWell, ResultLendsWell, ArgumentsKeepMarks, EndedKeepMarks, ReturnedKeepMarks, ElementsKeepMarks}
use Rattle.run_laws.proofs.LiftedLayers.{IsFront}
use Rattle.run_laws.proofs.keeping.But.{HasBut, LeavesSo, but_of, marks_of, leaves_given, leaves_after, leaves_if}
use Rattle.run_laws.proofs.keeping.Lifted.{LiftsSo, lifting_but}
use Rattle.run_laws.proofs.keeping.Prior.{prior_all}
use Rattle.run_laws.proofs.keeping.Listed.{load_lends, load_list_lends, lift_flat_lends}

handle_seen : (x : Handle) → seen_as (of_handle x) ≡ seen.Handle x
handle_seen x = refl

module _ (C : Type 0) (m n : ℕ) where
  loaded_but : (from : Origin) (what : LiftOf) (t : Numbered) (place : ℕ) (h : Held) → LendsFor h from.at from.callee t.val_type → HasBut C m n h → LeavesSo C (LiftsSo C m n h) (loaded from what t place h)
  loaded_but from what t place h may but =
      leaves_given C (LiftsSo C m n h) (slice_get h.instances from.at)
      (λ i. settled from i (tables.given (load_by (over_table t.types) t.val_type (bytes_at from.memory h.store) place (at_first (most what) i.slots []))) h)
      (λ i found.
      lifting_but Value C m n (CalledFrom h from.at from.callee) h from i found t.types carried (most what)
      (load_by listing t.val_type (bytes_at from.memory h.store) place (none_listed (most what)))
      (load_by (over_table t.types) t.val_type (bytes_at from.memory h.store) place (at_first (most what) i.slots []))
      (load_settled seen_as of_handle end_type_of t.types (at_first (most what) i.slots []) handle_seen t.val_type (bytes_at from.memory h.store) place)
      (load_lends (CalledFrom h from.at from.callee) t.val_type may (bytes_at from.memory h.store) place (most what)) (λ called. called) but)

  pub elements_but : (from : Origin) (t : Numbered) (place count : ℕ) (h : Held) → LendsFor h from.at from.callee t.val_type → HasBut C m n h
      → LeavesSo C (LiftsSo C m n h) (elements_lifted from t place count h)
  elements_but from t place count h may but =
      leaves_given C (LiftsSo C m n h) (slice_get h.instances from.at)
      (λ i. settled from i (tables.given (load_list_by (over_table t.types) t.val_type (bytes_at from.memory h.store) place count (at_first (most whole.Value) i.slots []))) h)
      (λ i found.
      lifting_but (List Value) C m n (CalledFrom h from.at from.callee) h from i found t.types all_carried (most whole.Value)
      (load_list_by listing t.val_type (bytes_at from.memory h.store) place count (none_listed (most whole.Value)))
      (load_list_by (over_table t.types) t.val_type (bytes_at from.memory h.store) place count (at_first (most whole.Value) i.slots []))
      (list_settled seen_as of_handle end_type_of t.types (at_first (most whole.Value) i.slots []) handle_seen t.val_type (bytes_at from.memory h.store) place count)
      (load_list_lends (CalledFrom h from.at from.callee) t.val_type may (bytes_at from.memory h.store) place count (most whole.Value)) (λ called. called) but)

  front_self : (words : List ℕ) → IsFront words words
  front_self words = λ k less. refl

  flat_but : (from : Origin) (what : LiftOf) (t : Numbered) (words : List ℕ) (h : Held) → length (flat t.val_type) ≤ length words → LendsFor h from.at from.callee t.val_type → HasBut C m n h
      → LeavesSo C (LiftsSo C m n h) (flat_lifted from what t words h)
  flat_but from what t words h room may but =
      leaves_given C (LiftsSo C m n h) (slice_get h.instances from.at)
      (λ i. settled from i (tables.given (lift_flat_by (over_table t.types) t.val_type (bytes_at from.memory h.store) words (at_first (most what) i.slots []))) h)
      (λ i found.
      lifting_but Value C m n (CalledFrom h from.at from.callee) h from i found t.types carried (most what)
      (lift_flat_by listing t.val_type (bytes_at from.memory h.store) words (none_listed (most what)))
      (lift_flat_by (over_table t.types) t.val_type (bytes_at from.memory h.store) words (at_first (most what) i.slots []))
      (words_settled seen_as of_handle end_type_of t.types (at_first (most what) i.slots []) handle_seen t.val_type (bytes_at from.memory h.store) words)
      (lift_flat_lends (CalledFrom h from.at from.callee) t.val_type may (bytes_at from.memory h.store) words (most what) (front_self words) room) (λ called. called) but)

  words_by : (b : Bool) (from : Origin) (what : LiftOf) (t : Numbered) (words : List ℕ) (h : Held) → nat_lt (length words) (length (flat t.val_type)) ≡ b
      → LendsFor h from.at from.callee t.val_type → HasBut C m n h
      → LeavesSo C (LiftsSo C m n h) (let d : Done Value = if b then Stuck else flat_lifted from what t (take (length (flat t.val_type)) words) h in d)
  words_by true from what t words h few may but = tt
  words_by false from what t words h few may but =
      let enough : length (flat t.val_type) ≤ length words = not_less (length words) (length (flat t.val_type)) few in
      let same : length (take (length (flat t.val_type)) words) ≡ length (flat t.val_type) = length-take-le (length (flat t.val_type)) words enough in
      flat_but from what t (take (length (flat t.val_type)) words) h (omega (arith, same)) may but
    where
      not_less : (a b : ℕ) → nat_lt a b ≡ false → b ≤ a
      not_less a b e = ltb-false a b e

  words_but : (from : Origin) (what : LiftOf) (t : Numbered) (words : List ℕ) (h : Held) → LendsFor h from.at from.callee t.val_type → HasBut C m n h
      → LeavesSo C (LiftsSo C m n h) (words_lifted from what t words h)
  words_but from what t words h may but = words_by (nat_lt (length words) (length (flat t.val_type))) from what t words h refl may but

  value_but : (from : Origin) (what : LiftOf) (limit : ℕ) (t : Numbered) (words : List ℕ) (h : Held) → LendsFor h from.at from.callee t.val_type → HasBut C m n h
      → LeavesSo C (LiftsSo C m n h) (value_lifted from what limit t words h)
  unfolding value_lifted
  value_but from what limit t words h may but =
      leaves_if C (LiftsSo C m n h) (nat_lt limit (length (flat t.val_type))) (given (word_in words 0) (λ place. loaded from what t place h)) (words_lifted from what t words h)
      (leaves_given C (LiftsSo C m n h) (word_in words 0) (λ place. loaded from what t place h) (λ place is. loaded_but from what t place h may but)) (words_but from what t words h may but)

  -- Arguments.
  passed_but : (t : ℕ) (c : CanonFunc) (type : Numbered) (words : List ℕ) (h : Held) → LendsFor h (instance_of c) t type.val_type → HasBut C m n h
      → LeavesSo C (LiftsSo C m n h) (arguments_passed t c type words h)
  unfolding arguments_passed
  passed_but t c type words h may but =
      let from : Origin = record { at = instance_of c; callee = t; memory = memory_of (options_of c) h } in
      leaves_if C (LiftsSo C m n h) (tuple_case (out-ValType type.val_type)) (value_lifted from whole.Arguments (passed_limit (options_of c).is_async) type words h) Stuck
      (value_but from whole.Arguments (passed_limit (options_of c).is_async) type words h may but) tt

  by_but : (p : Program) (t : ℕ) (type : Numbered) (by : Caller) (h : Held)
      → ((called : Called) (c : CanonFunc) → by ≡ Guest called → canon_at p.graph.now called.canon ≡ Some c → LendsFor h (instance_of c) t type.val_type) → HasBut C m n h
      → LeavesSo C (LiftsSo C m n h) (arguments_by p t type by h)
  by_but p t type Nobody h may but = tt
  by_but p t type (Host call) h may but = leaves_given C (LiftsSo C m n h) (host_values p call) (λ values. Gives (value.Record values) h) (λ values is. (but, prior_all h h refl))
  by_but p t type (Guest called) h may but =
      leaves_given C (LiftsSo C m n h) (canon_at p.graph.now called.canon) (λ c. arguments_passed t c type called.words h) (λ c is. passed_but t c type called.words h (may called c refl is) but)

  pub arguments_but : (p : Program) (t : ℕ) (h : Held) → ArgumentsLendWell p t h → HasBut C m n h → LeavesSo C (LiftsSo C m n h) (arguments_lifted p t h)
  unfolding arguments_lifted
  arguments_but p t h may but =
      leaves_given C (LiftsSo C m n h) (slice_get h.tasks t) (λ slot. given (params_of p slot.callee) (λ type. arguments_by p t type slot.caller h))
      (λ slot is.
      leaves_given C (LiftsSo C m n h) (params_of p slot.callee) (λ type. arguments_by p t type slot.caller h)
      (λ type of. by_but p t type slot.caller h (λ called c by made. may slot type called c is of by made) but))

  -- Results.
  of_type_but : (from : Origin) (limit : ℕ) (type : Numbered) (words : List ℕ) (h : Held) → LendsFor h from.at from.callee type.val_type → HasBut C m n h
      → LeavesSo C (LiftsSo C m n h) (result_of_type from limit type words h)
  unfolding result_of_type
  of_type_but from limit type words h may but =
      leaves_after C (LiftsSo C m n h) (value_lifted from whole.Value limit type words h) (λ v k. Gives (typed_result type.val_type v) k) (value_but from whole.Value limit type words h may but) (λ v k b. b)

  result_by_but : (p : Program) (t : ℕ) (o memory : Option ℕ) (limit : ℕ) (words : List ℕ) (h : Held) → ResultLendsWell p t o h → HasBut C m n h
      → LeavesSo C (LiftsSo C m n h) (result_by p t o memory limit words h)
  result_by_but p t None memory limit words h may but = (but, prior_all h h refl)
  result_by_but p t (Some number) memory limit words h may but =
      leaves_given C (LiftsSo C m n h) (numbered_at p.types.now number) (λ type. after (at_of t h) (λ at k. result_of_type (record { at = at; callee = t; memory = memory }) limit type words k))
      (λ type of.
      at_looked (slice_get h.tasks t) (λ at k. result_of_type (record { at = at; callee = t; memory = memory }) limit type words k)
      (λ slot is. of_type_but (record { at = slot.instance; callee = t; memory = memory }) limit type words h (may number type slot refl of is) but))
    where
      at_looked : (o : Option TaskSlot) (f : ℕ → Held → Done (Option TypedValue)) → ((slot : TaskSlot) → o ≡ Some slot → LeavesSo C (LiftsSo C m n h) (f slot.instance h))
          → LeavesSo C (LiftsSo C m n h) (let d : Done (Option TypedValue) = after (given o (λ slot. Gives slot.instance h)) f in d)
      at_looked None f q = tt
      at_looked (Some slot) f q = q slot refl

  result_but : (p : Program) (t : ℕ) (o memory : Option ℕ) (limit : ℕ) (words : List ℕ) (h : Held) → ResultLendsWell p t o h → HasBut C m n h
      → LeavesSo C (LiftsSo C m n h) (result_lifted p t o memory limit words h)
  unfolding result_lifted
  result_but p t o memory limit words h may but = result_by_but p t o memory limit words h may but

  pub ended_but : (p : Program) (t : ℕ) (words : List ℕ) (h : Held) → ((slot : TaskSlot) → slice_get h.tasks t ≡ Some slot → ResultLendsWell p t (returned_of p slot.callee) h) → HasBut C m n h
      → LeavesSo C (LiftsSo C m n h) (ended_lifted p t words h)
  unfolding ended_lifted
  ended_but p t words h may but =
      looked (slice_get h.tasks t)
      (λ slot is.
      leaves_given C (LiftsSo C m n h) (lift_of p.graph.now slot.callee) (λ f. result_lifted p t (returned_of p slot.callee) (memory_of f.options h) 1 words h)
      (λ f made. result_but p t (returned_of p slot.callee) (memory_of f.options h) 1 words h (may slot is) but))
    where
      looked : (o : Option TaskSlot)
          → ((slot : TaskSlot) → o ≡ Some slot → LeavesSo C (LiftsSo C m n h) (given (lift_of p.graph.now slot.callee) (λ f. result_lifted p t (returned_of p slot.callee) (memory_of f.options h) 1 words h)))
          → LeavesSo C (LiftsSo C m n h)
          (let d : Done (Option TypedValue) = after (given o (λ slot. Gives slot.callee h))
          (λ callee k. given (lift_of p.graph.now callee) (λ f. result_lifted p t (returned_of p callee) (memory_of f.options k) 1 words k)) in d)
      looked None q = tt
      looked (Some slot) q = q slot refl

  pub returned_but : (p : Program) (t canon : ℕ) (h : Held) → ResultLendsWell p t (value_of p canon) h → HasBut C m n h → LeavesSo C (LiftsSo C m n h) (returned_lifted p t canon h)
  unfolding returned_lifted
  returned_but p t canon h may but =
      looked (slice_get h.tasks t) (λ slot is. result_but p t (value_of p canon) (memory_of (options_at p.graph.now canon) h) 16 slot.at_words h may but)
    where
      looked : (o : Option TaskSlot)
          → ((slot : TaskSlot) → o ≡ Some slot → LeavesSo C (LiftsSo C m n h) (result_lifted p t (value_of p canon) (memory_of (options_at p.graph.now canon) h) 16 slot.at_words h))
          → LeavesSo C (LiftsSo C m n h)
          (let d : Done (Option TypedValue) = after (given o (λ slot. Gives slot.at_words h))
          (λ words k. result_lifted p t (value_of p canon) (memory_of (options_at p.graph.now canon) k) 16 words k) in d)
      looked None q = tt
      looked (Some slot) q = q slot refl

-- So liftings keep all marks.
lifts_keep : {A : Type 0} (t : ℕ) (h : Held) (d : Done A) → (HasBut ⊥ t 0 h → LeavesSo ⊥ (LiftsSo ⊥ t 0 h) d) → TablesWell h → KeepsMarks h d
lifts_keep t h (Gives x k) p tables = λ marks. marks_of ⊥ t k (p (but_of ⊥ t h marks tables (λ c. absurd c))).0
lifts_keep t h (Traps why k) p tables = λ marks. (p (but_of ⊥ t h marks tables (λ c. absurd c))).0
lifts_keep t h (Spent k) p tables = tt
lifts_keep t h Stuck p tables = tt

pub arguments_keep : ArgumentsKeepMarks
arguments_keep p t h tables may = lifts_keep t h (arguments_lifted p t h) (λ but. arguments_but ⊥ t 0 p t h may but) tables

pub ended_keep : EndedKeepMarks
ended_keep p t words h tables may = lifts_keep t h (ended_lifted p t words h) (λ but. ended_but ⊥ t 0 p t words h may but) tables

pub returned_keep : ReturnedKeepMarks
returned_keep p t canon h tables may = lifts_keep t h (returned_lifted p t canon h) (λ but. returned_but ⊥ t 0 p t canon h may but) tables

pub elements_keep : ElementsKeepMarks
elements_keep from type place count h tables may = lifts_keep 0 h (elements_lifted from type place count h) (λ but. elements_but ⊥ 0 0 from type place count h may but) tables

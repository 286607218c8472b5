-- Values that are lifted: memories, core instances and ends stay as they are kept.
use Rattle.std.proofs.Common.{refl, nat_lt, ℕ, List, [], length, take, Option, Some, None, Result, Ok, Err}
use Rattle.std.specs.List.{slice_get}
use Rattle.syntax_trees.specs.declared.types.ValType.{out-ValType}
use Rattle.syntax_trees.specs.declared.value.Value.TheViews as value
use Rattle.syntax_trees.specs.Flat.{flat}
use Rattle.laid_types.specs.Known.{Numbered, numbered_at}
use Rattle.value_lift.specs.declared.counting.LiftOf.{LiftOf}
use Rattle.value_lift.specs.declared.counting.LiftOf.TheVariants as whole
use Rattle.value_lift.specs.Lifting.{most, tuple_case}
use Rattle.value_lift.specs.Over.{load_by, load_list_by, lift_flat_by}
use Rattle.value_lift.specs.declared.moved.Moved.{Moved}
use Rattle.value_lift.specs.Tables.{Stop, at_first}
use Rattle.value_lift.specs.Tables as tables
use Rattle.comp_graph.specs.declared.graph.CanonFunc.{CanonFunc}
use Rattle.graph_views.specs.Canons.{canon_at, instance_of, options_of, options_at}
use Rattle.graph_views.specs.Callees.{lift_of}
use Rattle.task_table.specs.declared.caller.Caller.{Caller}
use Rattle.task_table.specs.declared.caller.Caller.TheVariants.{Nobody, Host, Guest}
use Rattle.programs.specs.declared.program.Program.{Program}
use Rattle.programs.specs.Program.{params_of, returned_of, value_of, host_values}
use Rattle.handle_table.specs.Slots.{Slots}
use Rattle.instances.specs.declared.entry.WorldEntry.{WorldEntry}
use Rattle.instances.specs.Instances.{InstanceView, with_slots}
use Rattle.world_parts.specs.Held.{Held, Done, Gives, Traps, Spent, Stuck, after, given}
use Rattle.world_parts.specs.Entries.{with_instance}
use Rattle.world_parts.specs.Places.{bytes_at, memory_of}
use Rattle.world_parts.specs.Slots.{word_in, instance_of as at_of, callee_of, words_of}
use Rattle.value_parts.specs.declared.lifting.Origin.{Origin}
use Rattle.value_parts.specs.Names.{lift_name}
use Rattle.value_parts.specs.Loans.{all_moved}
use Rattle.value_parts.specs.Lifting.{over_table, settled, loaded, elements_lifted, flat_lifted, words_lifted, value_lifted}
use Rattle.value_parts.specs.Passing.{passed_limit, arguments_passed, arguments_by, arguments_lifted, typed_result, result_of_type, result_by, result_lifted, ended_lifted, returned_lifted}
use Rattle.run_laws.proofs.keeping.still.Slots.{instance_of_still, callee_of_still, words_of_still}
use Rattle.run_laws.proofs.keeping.still.Moved.{all_moved_still}
use Rattle.run_laws.proofs.keeping.still.Still.{no_kinds, StillBy, still_after, still_given, still_if, still_same, still_behind, still_bare, bare_ends}

-- The table of the instance is what lifting left, and what it moved is told.
settled_still : {A : Type 0} (from : Origin) (i : InstanceView) (r : Result (A × Slots WorldEntry × List Moved) (Stop WorldEntry)) (h : Held) → StillBy no_kinds h (settled from i r h)
settled_still from i (Ok x) h =
    let k : Held = with_instance from.at (with_slots x.1 i) h in
    still_behind no_kinds h k (after (all_moved from.at from.callee x.2 k) (λ done l. Gives x.0 l)) (still_bare h (with_instance from.at (with_slots x.1 i) h) refl refl)
    (still_after no_kinds k (all_moved from.at from.callee x.2 k) (λ done l. Gives x.0 l) (all_moved_still from.at from.callee x.2 k) (λ done l. still_same no_kinds l))
settled_still {A} from i (Err stop) h = trapped A (all_moved from.at from.callee stop.moved (with_instance from.at (with_slots stop.slots i) h))
  where
    trapped : {B : Type 0} (C : Type 0) (d : Done B) → (let e : Done C = after d (λ done k. Traps (lift_name stop.trap.why) k) in StillBy no_kinds h e)
    trapped C (Gives z l) = bare_ends h l
    trapped C (Traps why l) = bare_ends h l
    trapped C (Spent l) = tt
    trapped C Stuck = tt

loaded_still : (from : Origin) (what : LiftOf) (t : Numbered) (place : ℕ) (h : Held) → StillBy no_kinds h (loaded from what t place h)
loaded_still from what t place h =
    still_given no_kinds h (slice_get h.instances from.at)
    (λ i. settled from i (tables.given (load_by (over_table t.types) t.val_type (bytes_at from.memory h.store) place (at_first (most what) i.slots []))) h)
    (λ i found. settled_still from i (tables.given (load_by (over_table t.types) t.val_type (bytes_at from.memory h.store) place (at_first (most what) i.slots []))) h)

pub elements_lifted_still : (from : Origin) (t : Numbered) (place count : ℕ) (h : Held) → StillBy no_kinds h (elements_lifted from t place count h)
elements_lifted_still from t place count h =
    still_given no_kinds h (slice_get h.instances from.at)
    (λ i. settled from i (tables.given (load_list_by (over_table t.types) t.val_type (bytes_at from.memory h.store) place count (at_first (most whole.Value) i.slots []))) h)
    (λ i found. settled_still from i (tables.given (load_list_by (over_table t.types) t.val_type (bytes_at from.memory h.store) place count (at_first (most whole.Value) i.slots []))) h)

flat_lifted_still : (from : Origin) (what : LiftOf) (t : Numbered) (words : List ℕ) (h : Held) → StillBy no_kinds h (flat_lifted from what t words h)
flat_lifted_still from what t words h =
    still_given no_kinds h (slice_get h.instances from.at)
    (λ i. settled from i (tables.given (lift_flat_by (over_table t.types) t.val_type (bytes_at from.memory h.store) words (at_first (most what) i.slots []))) h)
    (λ i found. settled_still from i (tables.given (lift_flat_by (over_table t.types) t.val_type (bytes_at from.memory h.store) words (at_first (most what) i.slots []))) h)

words_lifted_still : (from : Origin) (what : LiftOf) (t : Numbered) (words : List ℕ) (h : Held) → StillBy no_kinds h (words_lifted from what t words h)
words_lifted_still from what t words h =
    still_if no_kinds h (nat_lt (length words) (length (flat t.val_type))) Stuck (flat_lifted from what t (take (length (flat t.val_type)) words) h) tt
    (flat_lifted_still from what t (take (length (flat t.val_type)) words) h)

value_lifted_still : (from : Origin) (what : LiftOf) (limit : ℕ) (t : Numbered) (words : List ℕ) (h : Held) → StillBy no_kinds h (value_lifted from what limit t words h)
unfolding value_lifted
value_lifted_still from what limit t words h =
    still_if no_kinds h (nat_lt limit (length (flat t.val_type))) (given (word_in words 0) (λ place. loaded from what t place h)) (words_lifted from what t words h)
    (still_given no_kinds h (word_in words 0) (λ place. loaded from what t place h) (λ place is. loaded_still from what t place h)) (words_lifted_still from what t words h)

-- Arguments.
arguments_passed_still : (t : ℕ) (c : CanonFunc) (type : Numbered) (words : List ℕ) (h : Held) → StillBy no_kinds h (arguments_passed t c type words h)
unfolding arguments_passed
arguments_passed_still t c type words h =
    let from : Origin = record { at = instance_of c; callee = t; memory = memory_of (options_of c) h } in
    still_if no_kinds h (tuple_case (out-ValType type.val_type)) (value_lifted from whole.Arguments (passed_limit (options_of c).is_async) type words h) Stuck
    (value_lifted_still from whole.Arguments (passed_limit (options_of c).is_async) type words h) tt

arguments_by_still : (p : Program) (t : ℕ) (type : Numbered) (by : Caller) (h : Held) → StillBy no_kinds h (arguments_by p t type by h)
arguments_by_still p t type Nobody h = tt
arguments_by_still p t type (Host call) h =
    still_given no_kinds h (host_values p call) (λ values. Gives (value.Record values) h) (λ values is. still_same no_kinds h)
arguments_by_still p t type (Guest called) h =
    still_given no_kinds h (canon_at p.graph.now called.canon) (λ c. arguments_passed t c type called.words h) (λ c is. arguments_passed_still t c type called.words h)

pub arguments_lifted_still : (p : Program) (t : ℕ) (h : Held) → StillBy no_kinds h (arguments_lifted p t h)
unfolding arguments_lifted
arguments_lifted_still p t h =
    still_given no_kinds h (slice_get h.tasks t) (λ slot. given (params_of p slot.callee) (λ type. arguments_by p t type slot.caller h))
    (λ slot is. still_given no_kinds h (params_of p slot.callee) (λ type. arguments_by p t type slot.caller h) (λ type is. arguments_by_still p t type slot.caller h))

-- Results.
result_of_type_still : (from : Origin) (limit : ℕ) (type : Numbered) (words : List ℕ) (h : Held) → StillBy no_kinds h (result_of_type from limit type words h)
unfolding result_of_type
result_of_type_still from limit type words h =
    still_after no_kinds h (value_lifted from whole.Value limit type words h) (λ v k. Gives (typed_result type.val_type v) k) (value_lifted_still from whole.Value limit type words h)
    (λ v k. still_same no_kinds k)

result_by_still : (p : Program) (t : ℕ) (o memory : Option ℕ) (limit : ℕ) (words : List ℕ) (h : Held) → StillBy no_kinds h (result_by p t o memory limit words h)
result_by_still p t None memory limit words h = still_same no_kinds h
result_by_still p t (Some number) memory limit words h =
    still_given no_kinds h (numbered_at p.types.now number) (λ type. after (at_of t h) (λ at k. result_of_type (record { at = at; callee = t; memory = memory }) limit type words k))
    (λ type is.
    still_after no_kinds h (at_of t h) (λ at k. result_of_type (record { at = at; callee = t; memory = memory }) limit type words k) (instance_of_still no_kinds t h)
    (λ at k. result_of_type_still (record { at = at; callee = t; memory = memory }) limit type words k))

result_lifted_still : (p : Program) (t : ℕ) (o memory : Option ℕ) (limit : ℕ) (words : List ℕ) (h : Held) → StillBy no_kinds h (result_lifted p t o memory limit words h)
unfolding result_lifted
result_lifted_still p t o memory limit words h = result_by_still p t o memory limit words h

pub ended_lifted_still : (p : Program) (t : ℕ) (words : List ℕ) (h : Held) → StillBy no_kinds h (ended_lifted p t words h)
unfolding ended_lifted
ended_lifted_still p t words h =
    still_after no_kinds h (callee_of t h) (λ callee k. given (lift_of p.graph.now callee) (λ f. result_lifted p t (returned_of p callee) (memory_of f.options k) 1 words k)) (callee_of_still no_kinds t h)
    (λ callee k.
    still_given no_kinds k (lift_of p.graph.now callee) (λ f. result_lifted p t (returned_of p callee) (memory_of f.options k) 1 words k)
    (λ f is. result_lifted_still p t (returned_of p callee) (memory_of f.options k) 1 words k))

pub returned_lifted_still : (p : Program) (t canon : ℕ) (h : Held) → StillBy no_kinds h (returned_lifted p t canon h)
unfolding returned_lifted
returned_lifted_still p t canon h =
    still_after no_kinds h (words_of t h) (λ words k. result_lifted p t (value_of p canon) (memory_of (options_at p.graph.now canon) k) 16 words k) (words_of_still no_kinds t h)
    (λ words k. result_lifted_still p t (value_of p canon) (memory_of (options_at p.graph.now canon) k) 16 words k)

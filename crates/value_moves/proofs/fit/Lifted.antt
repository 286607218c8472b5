-- Values that are lifted: the store stays, and a handle is lent at most as often as may be counted.
use Rattle.std.proofs.Common.{◌≡◌, ◌+◌, ◌≤◌, nat_lt, ℕ, if◌then◌else◌, List, [], length, take, Option, Some, None, Result, Ok, Err, refl, ap, sym, subst, arith}
use Rattle.std.specs.List.{slice_get}
use Rattle.syntax_trees.specs.declared.types.ValType.{ValType, out-ValType}
use Rattle.syntax_trees.specs.declared.value.Value.{Value}
use Rattle.syntax_trees.specs.declared.value.Value.TheViews as value
use Rattle.syntax_trees.specs.Flat.{flat}
use Rattle.laid_types.specs.Known.{Numbered, numbered_at}
use Rattle.res_handles.specs.declared.handle.Handle.{Handle}
use Rattle.res_handles.specs.declared.entry.EntryView.TheVariants as seen
use Rattle.res_handles.specs.Calls.{lends_in, view_at}
use Rattle.value_lift.specs.declared.counting.LiftOf.{LiftOf}
use Rattle.value_lift.specs.declared.counting.LiftOf.TheVariants as whole
use Rattle.value_lift.specs.Ledger.{Came, Use}
use Rattle.value_lift.specs.Lifting.{most, tuple_case}
use Rattle.value_lift.specs.Over.{load_by, load_list_by, lift_flat_by}
use Rattle.value_lift.specs.Settled.{listing, none_listed, uses_in, slots_behind, applied}
use Rattle.value_lift.specs.Tables.{Kept, Stop, at_first}
use Rattle.value_lift.specs.Tables as tables
use Rattle.value_lift.proofs.Growing.{uses_rise}
use Rattle.value_lift.proofs.Settling.{Ends, end_of, load_ends, list_ends, words_end}
use Rattle.wasm_store.proofs.Stores.{store_same}
use Rattle.comp_graph.specs.declared.graph.CanonFunc.{CanonFunc}
use Rattle.comp_graph.specs.Graph.{Graph}
use Rattle.graph_views.specs.Canons.{canon_at, instance_of, options_of, options_at}
use Rattle.graph_views.specs.Callees.{lift_of}
use Rattle.task_table.specs.declared.caller.Caller.{Caller}
use Rattle.task_table.specs.declared.caller.Caller.TheVariants.{Nobody, Host, Guest}
use Rattle.trace_labels.specs.declared.typed.TypedValue.{TypedValue}
use Rattle.programs.specs.declared.program.Program.{Program}
use Rattle.programs.specs.Program.{params_of, returned_of, value_of, host_values}
use Rattle.instances.specs.declared.entry.WorldEntry.{WorldEntry}
use Rattle.instances.specs.Entries.{seen_as, of_handle, end_type_of}
use Rattle.instances.specs.Instances.{InstanceView, with_slots}
use Rattle.world_parts.specs.Held.{Held, Done, Gives, Traps, Spent, Stuck, after, given}
use Rattle.world_parts.specs.Entries.{with_instance}
use Rattle.world_parts.specs.Places.{bytes_at, memory_of}
use Rattle.world_parts.specs.Slots.{word_in, instance_of as at_of, callee_of, words_of}
use Rattle.value_parts.specs.declared.lifting.Origin.{Origin}
use Rattle.value_parts.specs.Names.{lift_name}
use Rattle.value_parts.specs.Loans.{all_moved}
use Rattle.value_parts.specs.Lifting.{over_table, settled, loaded, elements_lifted, flat_lifted, words_lifted, value_lifted}
use Rattle.value_parts.specs.Passing.{passed_limit, host_arguments, arguments_passed, guest_arguments, arguments_by, arguments_lifted, typed_result, result_of_type, result_by, result_lifted, ended_lifted, returned_lifted}
use Rattle.value_parts.specs.Fit.{LentAtMost, most_more}
use Rattle.value_parts.proofs.fit.Keeps.{KeepsBy, keeps_given, keeps_same, lent_instance}
use Rattle.value_parts.proofs.fit.Slots.{instance_of_keeps, callee_of_keeps, words_of_keeps}
use Rattle.value_moves.proofs.fit.Moved.{all_moved_keeps}
use Rattle.value_moves.proofs.fit.Raising.{Raises, RaisesBy, keeps_raises, raises_through, raises_after, after_raises, raises_given, raises_if}

handle_seen : (x : Handle) → seen_as (of_handle x) ≡ seen.Handle x
handle_seen x = refl

-- Where a lifting ends, each use has lent its handle once at most, and each is paid by what may be counted.
came_rises : {A : Type 0} (types : List ValType) (first : Kept WorldEntry) (came : Came (Kept WorldEntry) (Stop WorldEntry) A) (uses : List Use)
    → Ends seen_as of_handle end_type_of types first uses (end_of came) → first.left ≤ most_more → (j : ℕ)
    → lends_in (view_at seen_as (end_of came) j) ≤ lends_in (view_at seen_as first.slots j) + most_more
came_rises types first came uses ends few j =
    let a : lends_in (view_at seen_as (end_of came) j) ≡ lends_in (view_at seen_as (slots_behind (applied seen_as of_handle end_type_of types uses first)) j)
    = ap (λ s. lends_in (view_at seen_as s j)) ends.slots in
    let b : lends_in (view_at seen_as (slots_behind (applied seen_as of_handle end_type_of types uses first)) j) ≤ lends_in (view_at seen_as first.slots j) + length uses
    = uses_rise seen_as of_handle end_type_of types handle_seen uses first j in
    let p : length uses ≤ first.left = ends.paid in
    omega (arith, a, b, p, few)

-- The table of the instance is what lifting left.
instance_raises : (h : Held) (at : ℕ) (i j : InstanceView) → slice_get h.instances at ≡ Some i
    → ((n : ℕ) → lends_in (view_at seen_as j.slots n) ≤ lends_in (view_at seen_as i.slots n) + most_more) → Raises h (with_instance at j h)
instance_raises h at i j found rise = record {
  store = λ typed. (store_same h.store, typed);
  lends = λ most few. lent_instance h at j (most + most_more)
      (λ n. let a = rise n in let b = few at i found n in omega (arith, a, b))
      (λ n k stands index. let b = few n k stands index in omega (arith, b));
}

settled_raises : {A : Type 0} (from : Origin) (i : InstanceView) (came : Came (Kept WorldEntry) (Stop WorldEntry) A) (h : Held) → slice_get h.instances from.at ≡ Some i
    → ((n : ℕ) → lends_in (view_at seen_as (end_of came) n) ≤ lends_in (view_at seen_as i.slots n) + most_more) → RaisesBy h (settled from i (tables.given came) h)
settled_raises from i (Ok x) h found rise =
    let k : Held = with_instance from.at (with_slots x.1.slots i) h in
    raises_through h k (after (all_moved from.at from.callee x.1.moved k) (λ done l. Gives x.0 l)) (instance_raises h from.at i (with_slots x.1.slots i) found rise)
    (keeps_after_gives k (all_moved from.at from.callee x.1.moved k) x.0 (all_moved_keeps from.at from.callee x.1.moved k))
  where
    keeps_after_gives : {B C : Type 0} (k : Held) (d : Done B) (y : C) → KeepsBy k d → KeepsBy k (after d (λ done l. Gives y l))
    keeps_after_gives k (Gives z l) y p = p
    keeps_after_gives k (Traps why l) y p = tt
    keeps_after_gives k (Spent l) y p = tt
    keeps_after_gives k Stuck y p = tt
settled_raises {A} from i (Err stop) h found rise = trapped A (all_moved from.at from.callee stop.moved (with_instance from.at (with_slots stop.slots i) h))
  where
    trapped : {B : Type 0} (C : Type 0) (d : Done B) → (let e : Done C = after d (λ done k. Traps (lift_name stop.trap.why) k) in RaisesBy h e)
    trapped C (Gives z l) = tt
    trapped C (Traps why l) = tt
    trapped C (Spent l) = tt
    trapped C Stuck = tt

most_few : (what : LiftOf) → most what ≤ most_more
most_few whole.Value = omega arith
most_few whole.Arguments = omega arith

loaded_raises : (from : Origin) (what : LiftOf) (t : Numbered) (place : ℕ) (h : Held) → RaisesBy h (loaded from what t place h)
loaded_raises from what t place h =
    raises_given h (slice_get h.instances from.at)
    (λ i. settled from i (tables.given (load_by (over_table t.types) t.val_type (bytes_at from.memory h.store) place (at_first (most what) i.slots []))) h)
    (λ i found.
    let first : Kept WorldEntry = at_first (most what) i.slots [] in
    settled_raises from i (load_by (over_table t.types) t.val_type (bytes_at from.memory h.store) place first) h found
    (came_rises t.types first (load_by (over_table t.types) t.val_type (bytes_at from.memory h.store) place first)
    (uses_in (load_by listing t.val_type (bytes_at from.memory h.store) place (none_listed first.left)))
    (load_ends seen_as of_handle end_type_of t.types first handle_seen t.val_type (bytes_at from.memory h.store) place) (most_few what)))

pub elements_lifted_raises : (from : Origin) (t : Numbered) (place count : ℕ) (h : Held) → RaisesBy h (elements_lifted from t place count h)
elements_lifted_raises from t place count h =
    raises_given h (slice_get h.instances from.at)
    (λ i. settled from i (tables.given (load_list_by (over_table t.types) t.val_type (bytes_at from.memory h.store) place count (at_first (most whole.Value) i.slots []))) h)
    (λ i found.
    let first : Kept WorldEntry = at_first (most whole.Value) i.slots [] in
    settled_raises from i (load_list_by (over_table t.types) t.val_type (bytes_at from.memory h.store) place count first) h found
    (came_rises t.types first (load_list_by (over_table t.types) t.val_type (bytes_at from.memory h.store) place count first)
    (uses_in (load_list_by listing t.val_type (bytes_at from.memory h.store) place count (none_listed first.left)))
    (list_ends seen_as of_handle end_type_of t.types first handle_seen t.val_type (bytes_at from.memory h.store) place count) (most_few whole.Value)))

flat_lifted_raises : (from : Origin) (what : LiftOf) (t : Numbered) (words : List ℕ) (h : Held) → RaisesBy h (flat_lifted from what t words h)
flat_lifted_raises from what t words h =
    raises_given h (slice_get h.instances from.at)
    (λ i. settled from i (tables.given (lift_flat_by (over_table t.types) t.val_type (bytes_at from.memory h.store) words (at_first (most what) i.slots []))) h)
    (λ i found.
    let first : Kept WorldEntry = at_first (most what) i.slots [] in
    settled_raises from i (lift_flat_by (over_table t.types) t.val_type (bytes_at from.memory h.store) words first) h found
    (came_rises t.types first (lift_flat_by (over_table t.types) t.val_type (bytes_at from.memory h.store) words first)
    (uses_in (lift_flat_by listing t.val_type (bytes_at from.memory h.store) words (none_listed first.left)))
    (words_end seen_as of_handle end_type_of t.types first handle_seen t.val_type (bytes_at from.memory h.store) words) (most_few what)))

words_lifted_raises : (from : Origin) (what : LiftOf) (t : Numbered) (words : List ℕ) (h : Held) → RaisesBy h (words_lifted from what t words h)
words_lifted_raises from what t words h =
    raises_if h (nat_lt (length words) (length (flat t.val_type))) Stuck (flat_lifted from what t (take (length (flat t.val_type)) words) h) tt
    (flat_lifted_raises from what t (take (length (flat t.val_type)) words) h)

value_lifted_raises : (from : Origin) (what : LiftOf) (limit : ℕ) (t : Numbered) (words : List ℕ) (h : Held) → RaisesBy h (value_lifted from what limit t words h)
unfolding value_lifted
value_lifted_raises from what limit t words h =
    raises_if h (nat_lt limit (length (flat t.val_type))) (given (word_in words 0) (λ place. loaded from what t place h)) (words_lifted from what t words h)
    (raises_given h (word_in words 0) (λ place. loaded from what t place h) (λ place is. loaded_raises from what t place h)) (words_lifted_raises from what t words h)

-- Arguments.
arguments_passed_raises : (t : ℕ) (c : CanonFunc) (type : Numbered) (words : List ℕ) (h : Held) → RaisesBy h (arguments_passed t c type words h)
unfolding arguments_passed
arguments_passed_raises t c type words h =
    let from : Origin = record { at = instance_of c; callee = t; memory = memory_of (options_of c) h } in
    raises_if h (tuple_case (out-ValType type.val_type)) (value_lifted from whole.Arguments (passed_limit (options_of c).is_async) type words h) Stuck
    (value_lifted_raises from whole.Arguments (passed_limit (options_of c).is_async) type words h) tt

arguments_by_raises : (p : Program) (t : ℕ) (type : Numbered) (by : Caller) (h : Held) → RaisesBy h (arguments_by p t type by h)
arguments_by_raises p t type Nobody h = tt
arguments_by_raises p t type (Host call) h =
    keeps_raises h (host_arguments p call h) (keeps_given h (host_values p call) (λ values. Gives (value.Record values) h) (λ values is. keeps_same h))
arguments_by_raises p t type (Guest called) h =
    raises_given h (canon_at p.graph.now called.canon) (λ c. arguments_passed t c type called.words h) (λ c is. arguments_passed_raises t c type called.words h)

pub arguments_lifted_raises : (p : Program) (t : ℕ) (h : Held) → RaisesBy h (arguments_lifted p t h)
unfolding arguments_lifted
arguments_lifted_raises p t h =
    raises_given h (slice_get h.tasks t) (λ slot. given (params_of p slot.callee) (λ type. arguments_by p t type slot.caller h))
    (λ slot is. raises_given h (params_of p slot.callee) (λ type. arguments_by p t type slot.caller h) (λ type is. arguments_by_raises p t type slot.caller h))

-- Results.
result_of_type_raises : (from : Origin) (limit : ℕ) (type : Numbered) (words : List ℕ) (h : Held) → RaisesBy h (result_of_type from limit type words h)
unfolding result_of_type
result_of_type_raises from limit type words h =
    raises_after h (value_lifted from whole.Value limit type words h) (λ v k. Gives (typed_result type.val_type v) k) (value_lifted_raises from whole.Value limit type words h)
    (λ v k. keeps_same k)

result_by_raises : (p : Program) (t : ℕ) (o memory : Option ℕ) (limit : ℕ) (words : List ℕ) (h : Held) → RaisesBy h (result_by p t o memory limit words h)
result_by_raises p t None memory limit words h = let d : Done (Option TypedValue) = Gives None h in keeps_raises h d (keeps_same h)
result_by_raises p t (Some number) memory limit words h =
    raises_given h (numbered_at p.types.now number) (λ type. after (at_of t h) (λ at k. result_of_type (record { at = at; callee = t; memory = memory }) limit type words k))
    (λ type is.
    after_raises h (at_of t h) (λ at k. result_of_type (record { at = at; callee = t; memory = memory }) limit type words k) (instance_of_keeps t h)
    (λ at k. result_of_type_raises (record { at = at; callee = t; memory = memory }) limit type words k))

result_lifted_raises : (p : Program) (t : ℕ) (o memory : Option ℕ) (limit : ℕ) (words : List ℕ) (h : Held) → RaisesBy h (result_lifted p t o memory limit words h)
unfolding result_lifted
result_lifted_raises p t o memory limit words h = result_by_raises p t o memory limit words h

pub ended_lifted_raises : (p : Program) (t : ℕ) (words : List ℕ) (h : Held) → RaisesBy h (ended_lifted p t words h)
unfolding ended_lifted
ended_lifted_raises p t words h =
    after_raises h (callee_of t h) (λ callee k. given (lift_of p.graph.now callee) (λ f. result_lifted p t (returned_of p callee) (memory_of f.options k) 1 words k)) (callee_of_keeps t h)
    (λ callee k.
    raises_given k (lift_of p.graph.now callee) (λ f. result_lifted p t (returned_of p callee) (memory_of f.options k) 1 words k)
    (λ f is. result_lifted_raises p t (returned_of p callee) (memory_of f.options k) 1 words k))

pub returned_lifted_raises : (p : Program) (t canon : ℕ) (h : Held) → RaisesBy h (returned_lifted p t canon h)
unfolding returned_lifted
returned_lifted_raises p t canon h =
    after_raises h (words_of t h) (λ words k. result_lifted p t (value_of p canon) (memory_of (options_at p.graph.now canon) k) 16 words k) (words_of_keeps t h)
    (λ words k. result_lifted_raises p t (value_of p canon) (memory_of (options_at p.graph.now canon) k) 16 words k)

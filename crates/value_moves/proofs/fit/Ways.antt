-- Where values go is told, and borrow handles are counted: the store stays, and no handle is lent more often.
use Rattle.std.proofs.Common.{◌≡◌, refl}
use Rattle.std.specs.Prelude.{◌≡◌, ℕ, ◌-◌, nat_lt, Bool, ◌||◌, if◌then◌else◌, List, length, Option, Some}
use Rattle.std.specs.List.{slice_get}
use Rattle.std.specs.Option.{option_map, option_and_then}
use Rattle.syntax_trees.specs.declared.types.ValType.{ValType}
use Rattle.syntax_trees.specs.declared.value.Value.{Value}
use Rattle.syntax_trees.specs.Flat.{flat}
use Rattle.laid_types.specs.Known.{Numbered, numbered_at}
use Rattle.graph_views.specs.Canons.{canon_at, instance_of, options_of}
use Rattle.graph_views.specs.Callees.{lift_of}
use Rattle.copy_engine.specs.declared.lower_values.Target.{Target}
use Rattle.copy_engine.specs.declared.lower_values.Target.TheVariants as target
use Rattle.task_table.specs.declared.caller.Caller.{Caller}
use Rattle.task_table.specs.declared.caller.Caller.TheVariants.{Nobody, Host, Guest}
use Rattle.task_table.specs.declared.errand.Callee.{Callee}
use Rattle.programs.specs.declared.program.Program.{Program}
use Rattle.programs.specs.Program.{params_of, returned_of, resources_of}
use Rattle.world_parts.specs.Held.{Held, Done, Gives, after, given}
use Rattle.world_parts.specs.Slots.{small, instance_of as at_of, callee_of, result_kept}
use Rattle.value_moves.specs.declared.lowering.Destination.{Destination}
use Rattle.value_parts.specs.Coming.{Behind, Then}
use Rattle.value_moves.specs.Borrowing.{borrows_counted}
use Rattle.value_moves.specs.Lowering.{destination_of, LowersInto}
use Rattle.value_moves.specs.Lowered.{LowersArguments, LowersBack, LowersFor, LowersKept, LowersPassed, LowersResult, arguments_entered, arguments_target, arguments_way, last_place, place_in, result_target, result_way}
use Rattle.value_parts.proofs.fit.Keeps.{Keeps, KeepsBy, keeps_after, keeps_given, keeps_if, keeps_same, keeps_all, keeps_from}
use Rattle.value_parts.proofs.fit.Slots.{callee_of_keeps, instance_of_keeps}
use Rattle.value_moves.proofs.fit.Borrowed.{borrows_counted_keeps}

pub arguments_way_keeps : (p : Program) (t : ℕ) (h : Held) → KeepsBy h (arguments_way p t h)
arguments_way_keeps p t h =
    keeps_after h (callee_of t h) (λ callee k. given (lift_of p.graph.now callee) (λ f. given (params_of p callee) (λ type. Gives (record { to = destination_of f.instance t f.options k; type = type; target = arguments_target type.val_type }) k))) (callee_of_keeps t h) (λ callee k. keeps_given k (lift_of p.graph.now callee) (λ f. given (params_of p callee) (λ type. Gives (record { to = destination_of f.instance t f.options k; type = type; target = arguments_target type.val_type }) k)) (λ f is. keeps_given k (params_of p callee) (λ type. Gives (record { to = destination_of f.instance t f.options k; type = type; target = arguments_target type.val_type }) k) (λ type is. keeps_same k)))

pub arguments_entered_keeps : (p : Program) (t : ℕ) (v : Value) (words : List ℕ) (h : Held) → KeepsBy h (arguments_entered p t v words h)
arguments_entered_keeps p t v words h =
    keeps_after h (at_of t h) (λ at k. given (resources_of p at) (λ home. after (borrows_counted home t v k) (λ done l. Gives words l))) (instance_of_keeps t h) (λ at k. keeps_given k (resources_of p at) (λ home. after (borrows_counted home t v k) (λ done l. Gives words l)) (λ home is. keeps_after k (borrows_counted home t v k) (λ done l. Gives words l) (borrows_counted_keeps home t v k) (λ done l. keeps_same l)))

pub result_way_keeps : (p : Program) (callee : Callee) (by : ℕ) (number : ℕ) (words : List ℕ) (h : Held) → KeepsBy h (result_way p callee by number words h)
result_way_keeps p callee by number words h =
    keeps_given h (canon_at p.graph.now number) (λ c. given (returned_of p callee) (λ type_number. given (numbered_at p.types.now type_number) (λ type. given (result_target (options_of c).is_async type.val_type words) (λ target. Gives (record { to = destination_of (instance_of c) by (options_of c) h; type = type; target = target }) h)))) (λ c is. keeps_given h (returned_of p callee) (λ type_number. given (numbered_at p.types.now type_number) (λ type. given (result_target (options_of c).is_async type.val_type words) (λ target. Gives (record { to = destination_of (instance_of c) by (options_of c) h; type = type; target = target }) h))) (λ type_number is. keeps_given h (numbered_at p.types.now type_number) (λ type. given (result_target (options_of c).is_async type.val_type words) (λ target. Gives (record { to = destination_of (instance_of c) by (options_of c) h; type = type; target = target }) h)) (λ type is. keeps_given h (result_target (options_of c).is_async type.val_type words) (λ target. Gives (record { to = destination_of (instance_of c) by (options_of c) h; type = type; target = target }) h) (λ target is. keeps_same h))))

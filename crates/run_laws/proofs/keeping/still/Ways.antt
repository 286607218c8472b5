-- Where values go is told, and borrow handles are counted: memories, core instances and ends stay as they are kept.
use Rattle.std.specs.Prelude.{ℕ, List}
use Rattle.syntax_trees.specs.declared.value.Value.{Value}
use Rattle.laid_types.specs.Known.{numbered_at}
use Rattle.graph_views.specs.Canons.{canon_at, instance_of, options_of}
use Rattle.graph_views.specs.Callees.{lift_of}
use Rattle.task_table.specs.declared.errand.Callee.{Callee}
use Rattle.programs.specs.declared.program.Program.{Program}
use Rattle.programs.specs.Program.{params_of, returned_of, resources_of}
use Rattle.world_parts.specs.Held.{Held, Gives, after, given}
use Rattle.world_parts.specs.Slots.{instance_of as at_of, callee_of}
use Rattle.value_moves.specs.Borrowing.{borrows_counted}
use Rattle.value_moves.specs.Lowering.{destination_of}
use Rattle.value_moves.specs.Lowered.{arguments_entered, arguments_target, arguments_way, result_target, result_way}
use Rattle.run_laws.proofs.keeping.still.Still.{no_kinds, StillBy, still_after, still_given, still_same}
use Rattle.run_laws.proofs.keeping.still.Slots.{callee_of_still, instance_of_still}
use Rattle.run_laws.proofs.keeping.still.Borrowed.{borrows_counted_still}

pub arguments_way_still : (p : Program) (t : ℕ) (h : Held) → StillBy no_kinds h (arguments_way p t h)
arguments_way_still p t h =
    still_after no_kinds h (callee_of t h) (λ callee k. given (lift_of p.graph.now callee) (λ f. given (params_of p callee) (λ type. Gives (record { to = destination_of f.instance t f.options k; type = type; target = arguments_target type.val_type }) k))) (callee_of_still no_kinds t h) (λ callee k. still_given no_kinds k (lift_of p.graph.now callee) (λ f. given (params_of p callee) (λ type. Gives (record { to = destination_of f.instance t f.options k; type = type; target = arguments_target type.val_type }) k)) (λ f is. still_given no_kinds k (params_of p callee) (λ type. Gives (record { to = destination_of f.instance t f.options k; type = type; target = arguments_target type.val_type }) k) (λ type is. still_same no_kinds k)))

pub arguments_entered_still : (p : Program) (t : ℕ) (v : Value) (words : List ℕ) (h : Held) → StillBy no_kinds h (arguments_entered p t v words h)
arguments_entered_still p t v words h =
    still_after no_kinds h (at_of t h) (λ at k. given (resources_of p at) (λ home. after (borrows_counted home t v k) (λ done l. Gives words l))) (instance_of_still no_kinds t h) (λ at k. still_given no_kinds k (resources_of p at) (λ home. after (borrows_counted home t v k) (λ done l. Gives words l)) (λ home is. still_after no_kinds k (borrows_counted home t v k) (λ done l. Gives words l) (borrows_counted_still home t v k) (λ done l. still_same no_kinds l)))

pub result_way_still : (p : Program) (callee : Callee) (by : ℕ) (number : ℕ) (words : List ℕ) (h : Held) → StillBy no_kinds h (result_way p callee by number words h)
result_way_still p callee by number words h =
    still_given no_kinds h (canon_at p.graph.now number) (λ c. given (returned_of p callee) (λ type_number. given (numbered_at p.types.now type_number) (λ type. given (result_target (options_of c).is_async type.val_type words) (λ target. Gives (record { to = destination_of (instance_of c) by (options_of c) h; type = type; target = target }) h)))) (λ c is. still_given no_kinds h (returned_of p callee) (λ type_number. given (numbered_at p.types.now type_number) (λ type. given (result_target (options_of c).is_async type.val_type words) (λ target. Gives (record { to = destination_of (instance_of c) by (options_of c) h; type = type; target = target }) h))) (λ type_number is. still_given no_kinds h (numbered_at p.types.now type_number) (λ type. given (result_target (options_of c).is_async type.val_type words) (λ target. Gives (record { to = destination_of (instance_of c) by (options_of c) h; type = type; target = target }) h)) (λ type is. still_given no_kinds h (result_target (options_of c).is_async type.val_type words) (λ target. Gives (record { to = destination_of (instance_of c) by (options_of c) h; type = type; target = target }) h) (λ target is. still_same no_kinds h))))

-- Where values go: who runs, and how many tasks there are, stay.
use Rattle.std.specs.Prelude.{ℕ, List}
use Rattle.syntax_trees.specs.declared.value.Value.{Value}
use Rattle.laid_types.specs.Known.{numbered_at}
use Rattle.graph_views.specs.Canons.{canon_at, instance_of, options_of}
use Rattle.graph_views.specs.Callees.{lift_of}
use Rattle.task_table.specs.declared.errand.Callee.{Callee}
use Rattle.programs.specs.declared.program.Program.{Program}
use Rattle.programs.specs.Program.{params_of, returned_of, resources_of}
use Rattle.world_parts.specs.Held.{Held, Gives, after, given}
use Rattle.world_parts.specs.Slots.{instance_of as at_of, callee_of}
use Rattle.value_moves.specs.Borrowing.{borrows_counted}
use Rattle.value_moves.specs.Lowering.{destination_of}
use Rattle.value_moves.specs.Lowered.{arguments_entered, arguments_target, arguments_way, result_target, result_way}
use Rattle.run_laws.proofs.chains.Borrowed.{borrows_counted_chain}
use Rattle.run_laws.proofs.chains.Parts.{callee_of_chain, instance_of_chain}
use Rattle.run_laws.proofs.chains.By.{ChainBy, chain_after, chain_given, chain_same}

pub arguments_way_chain : (p : Program) (t : ℕ) (h : Held) → ChainBy h (arguments_way p t h)
arguments_way_chain p t h =
    chain_after h (callee_of t h) (λ callee k. given (lift_of p.graph.now callee) (λ f. given (params_of p callee) (λ type. Gives (record { to = destination_of f.instance t f.options k; type = type; target = arguments_target type.val_type }) k))) (callee_of_chain t h) (λ callee k. chain_given k (lift_of p.graph.now callee) (λ f. given (params_of p callee) (λ type. Gives (record { to = destination_of f.instance t f.options k; type = type; target = arguments_target type.val_type }) k)) (λ f is. chain_given k (params_of p callee) (λ type. Gives (record { to = destination_of f.instance t f.options k; type = type; target = arguments_target type.val_type }) k) (λ type is. chain_same k)))

pub arguments_entered_chain : (p : Program) (t : ℕ) (v : Value) (words : List ℕ) (h : Held) → ChainBy h (arguments_entered p t v words h)
arguments_entered_chain p t v words h =
    chain_after h (at_of t h) (λ at k. given (resources_of p at) (λ home. after (borrows_counted home t v k) (λ done l. Gives words l))) (instance_of_chain t h) (λ at k. chain_given k (resources_of p at) (λ home. after (borrows_counted home t v k) (λ done l. Gives words l)) (λ home is. chain_after k (borrows_counted home t v k) (λ done l. Gives words l) (borrows_counted_chain home t v k) (λ done l. chain_same l)))

pub result_way_chain : (p : Program) (callee : Callee) (by : ℕ) (number : ℕ) (words : List ℕ) (h : Held) → ChainBy h (result_way p callee by number words h)
result_way_chain p callee by number words h =
    chain_given h (canon_at p.graph.now number) (λ c. given (returned_of p callee) (λ type_number. given (numbered_at p.types.now type_number) (λ type. given (result_target (options_of c).is_async type.val_type words) (λ target. Gives (record { to = destination_of (instance_of c) by (options_of c) h; type = type; target = target }) h)))) (λ c is. chain_given h (returned_of p callee) (λ type_number. given (numbered_at p.types.now type_number) (λ type. given (result_target (options_of c).is_async type.val_type words) (λ target. Gives (record { to = destination_of (instance_of c) by (options_of c) h; type = type; target = target }) h))) (λ type_number is. chain_given h (numbered_at p.types.now type_number) (λ type. given (result_target (options_of c).is_async type.val_type words) (λ target. Gives (record { to = destination_of (instance_of c) by (options_of c) h; type = type; target = target }) h)) (λ type is. chain_given h (result_target (options_of c).is_async type.val_type words) (λ target. Gives (record { to = destination_of (instance_of c) by (options_of c) h; type = type; target = target }) h) (λ target is. chain_same h))))

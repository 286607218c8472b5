-- The type of what goes somewhere is among the program's types, of which none stands twice.
use Rattle.std.proofs.Common.{ℕ, List}
use Rattle.laid_types.specs.Known.{numbered_at}
use Rattle.laid_types.specs.SameTypes.{AreDistinct}
use Rattle.graph_views.specs.Canons.{canon_at, instance_of, options_of}
use Rattle.graph_views.specs.Callees.{lift_of}
use Rattle.task_table.specs.declared.errand.Callee.{Callee}
use Rattle.programs.specs.declared.program.Program.{Program}
use Rattle.programs.specs.Program.{params_of, returned_of}
use Rattle.world_parts.specs.Held.{Held, Gives, given}
use Rattle.world_parts.specs.Slots.{callee_of}
use Rattle.value_parts.proofs.Types.{params_distinct, type_distinct}
use Rattle.one_run_laws.proofs.Behind.{Answers, answers_after, answers_given}
use Rattle.value_moves.specs.Lowering.{destination_of}
use Rattle.value_moves.specs.Lowered.{Way, arguments_target, arguments_way, result_target, result_way}

abbrev pub IsDistinct : Way → Type 0
IsDistinct w = AreDistinct w.type.types

pub arguments_way_distinct : (p : Program) (t : ℕ) (h : Held) → AreDistinct p.types.now → Answers IsDistinct (arguments_way p t h)
arguments_way_distinct p t h distinct =
    answers_after IsDistinct (callee_of t h) (λ callee k. given (lift_of p.graph.now callee) (λ f. given (params_of p callee) (λ type. Gives (record { to = destination_of f.instance t f.options k; type = type; target = arguments_target type.val_type }) k))) (λ callee k. answers_given IsDistinct (lift_of p.graph.now callee) (λ f. given (params_of p callee) (λ type. Gives (record { to = destination_of f.instance t f.options k; type = type; target = arguments_target type.val_type }) k)) (λ f is. answers_given IsDistinct (params_of p callee) (λ type. Gives (record { to = destination_of f.instance t f.options k; type = type; target = arguments_target type.val_type }) k) (λ type found. params_distinct p callee type found distinct)))

pub result_way_distinct : (p : Program) (callee : Callee) (by : ℕ) (number : ℕ) (words : List ℕ) (h : Held) → AreDistinct p.types.now → Answers IsDistinct (result_way p callee by number words h)
result_way_distinct p callee by number words h distinct =
    answers_given IsDistinct (canon_at p.graph.now number) (λ c. given (returned_of p callee) (λ type_number. given (numbered_at p.types.now type_number) (λ type. given (result_target (options_of c).is_async type.val_type words) (λ target. Gives (record { to = destination_of (instance_of c) by (options_of c) h; type = type; target = target }) h)))) (λ c is. answers_given IsDistinct (returned_of p callee) (λ type_number. given (numbered_at p.types.now type_number) (λ type. given (result_target (options_of c).is_async type.val_type words) (λ target. Gives (record { to = destination_of (instance_of c) by (options_of c) h; type = type; target = target }) h))) (λ type_number there. answers_given IsDistinct (numbered_at p.types.now type_number) (λ type. given (result_target (options_of c).is_async type.val_type words) (λ target. Gives (record { to = destination_of (instance_of c) by (options_of c) h; type = type; target = target }) h)) (λ type found. answers_given IsDistinct (result_target (options_of c).is_async type.val_type words) (λ target. Gives (record { to = destination_of (instance_of c) by (options_of c) h; type = type; target = target }) h) (λ target so. type_distinct p.types.now type_number type found distinct))))

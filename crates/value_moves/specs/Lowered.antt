-- Arguments and results that are lowered (Component Model, CanonicalABI.md, `canon lift`, `canon lower`): arguments into the instance of the function
-- that a task runs, as core values or at a new place; a result into the instance of the caller, as core values or at the place that is the last
-- of the words of the call. A caller that does not wait passes a place for every result.
use Rattle.std.specs.Prelude.{◌≡◌, ℕ, ◌-◌, nat_lt, Bool, ◌||◌, if◌then◌else◌, List, length, Option, Some}
use Rattle.std.specs.List.{slice_get}
use Rattle.std.specs.Option.{option_map, option_and_then}
use Rattle.syntax_trees.specs.declared.types.ValType.{ValType}
use Rattle.syntax_trees.specs.declared.value.Value.{Value}
use Rattle.syntax_trees.specs.Flat.{flat}
use Rattle.laid_types.specs.Known.{Numbered, numbered_at}
use Rattle.graph_views.specs.Canons.{canon_at, instance_of, options_of}
use Rattle.graph_views.specs.Callees.{lift_of}
use Rattle.copy_engine.specs.declared.lower_values.Target.{Target}
use Rattle.copy_engine.specs.declared.lower_values.Target.TheVariants as target
use Rattle.task_table.specs.declared.caller.Caller.{Caller}
use Rattle.task_table.specs.declared.caller.Caller.TheVariants.{Nobody, Host, Guest}
use Rattle.task_table.specs.declared.errand.Callee.{Callee}
use Rattle.programs.specs.declared.program.Program.{Program}
use Rattle.programs.specs.Program.{params_of, returned_of, resources_of}
use Rattle.world_parts.specs.Held.{Held, Done, Gives, after, given}
use Rattle.world_parts.specs.Slots.{small, instance_of as at_of, callee_of, result_kept}
use Rattle.value_moves.specs.declared.lowering.Destination.{Destination}
use Rattle.value_parts.specs.Coming.{Behind, Then}
use Rattle.value_moves.specs.Borrowing.{borrows_counted}
use Rattle.value_moves.specs.Lowering.{destination_of, LowersInto}

-- where a value of a type goes
pub record Way : Type 0 where
  pub to : Destination
  pub type : Numbered
  pub target : Target

abbrev pub arguments_target : ValType → Target
arguments_target type = if nat_lt 16 (length (flat type)) then target.NewPlace else target.Flat

abbrev pub arguments_way : Program → ℕ → Held → Done Way
arguments_way p t h =
    after (callee_of t h) (λ callee k. given (lift_of p.graph.now callee) (λ f. given (params_of p callee) (λ type.
    Gives (record { to = destination_of f.instance t f.options k; type = type; target = arguments_target type.val_type }) k)))

-- The arguments of a task, for the task, whose borrow handles are counted then.
abbrev pub LowersPassed : Program → ℕ → Value → Held → Done (List ℕ) → Type 0
LowersPassed p t v h d = Behind (arguments_way p t h) (λ w k e. LowersInto p w.to w.type v w.target k e) d

abbrev pub arguments_entered : Program → ℕ → Value → List ℕ → Held → Done (List ℕ)
arguments_entered p t v words h =
    after (at_of t h) (λ at k. given (resources_of p at) (λ home. after (borrows_counted home t v k) (λ done l. Gives words l)))

abbrev pub LowersArguments : Program → ℕ → Value → Held → Done (List ℕ) → Type 0
LowersArguments p t v h d = Then (λ e. LowersPassed p t v h e) (λ words k e. e ≡ arguments_entered p t v words k) d

-- the place that is the last of some words, a 32-bit one
abbrev pub place_in : ℕ → Option Target
place_in word = option_map target.Place (small word)

abbrev pub last_place : List ℕ → Option Target
last_place words = option_and_then place_in (slice_get words (length words - 1))

abbrev pub result_target : Bool → ValType → List ℕ → Option Target
result_target is_async type words = if is_async || nat_lt 1 (length (flat type)) then last_place words else Some target.Flat

-- The result of a task that runs this goes to the task that called it, by the canonical function of this number with these words.
abbrev pub result_way : Program → Callee → ℕ → ℕ → List ℕ → Held → Done Way
result_way p callee by number words h =
    given (canon_at p.graph.now number) (λ c. given (returned_of p callee) (λ type_number. given (numbered_at p.types.now type_number) (λ type.
    given (result_target (options_of c).is_async type.val_type words) (λ target.
    Gives (record { to = destination_of (instance_of c) by (options_of c) h; type = type; target = target }) h))))

abbrev pub LowersBack : Program → Value → Callee → ℕ → ℕ → List ℕ → Held → Done (List ℕ) → Type 0
LowersBack p v callee by number words h d =
    Behind (result_way p callee by number words h) (λ w k e. LowersInto p w.to w.type v w.target k e) d

-- Its core values are kept.
abbrev pub LowersKept : Program → ℕ → Value → Callee → ℕ → ℕ → List ℕ → Held → Done (Unit {0}) → Type 0
LowersKept p t v callee by number words h d =
    Then (λ e. LowersBack p v callee by number words h e) (λ results k e. e ≡ result_kept t results k) d

-- The script takes a result by its line.
abbrev pub LowersFor : Program → ℕ → Value → Callee → Caller → Held → Done (Unit {0}) → Type 0
LowersFor p t v callee Nobody h d = d ≡ Gives tt h
LowersFor p t v callee (Host call) h d = d ≡ Gives tt h
LowersFor p t v callee (Guest called) h d = LowersKept p t v callee called.by called.canon called.words h d

abbrev pub LowersResult : Program → ℕ → Value → Held → Done (Unit {0}) → Type 0
LowersResult p t v h d =
    Behind (given (slice_get h.tasks t) (λ slot. Gives slot h)) (λ slot k e. LowersFor p t v slot.callee slot.caller k e) d

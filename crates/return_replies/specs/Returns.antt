-- What `task.return` tests of its type and its options, once the task may return and before its result is lifted (Component Model,
-- CanonicalABI.md, `canon task.return`): the type of the result is that of the function that the task runs, and no other memory is used
-- than the function's. All texts are in UTF-8.
use Rattle.std.specs.Prelude.{◌≡◌, ℕ, nat_eq, Bool, true, false, not, if◌then◌else◌, Option, Some, None}
use Rattle.std.specs.Option.{option_map}
use Rattle.syntax_trees.specs.declared.types.ValType.{ValType}
use Rattle.laid_types.specs.Known.{Numbered}
use Rattle.laid_types.specs.SameTypes.{same_val, AreDistinct}
use Rattle.comp_graph.specs.declared.graph.Options.{Options}
use Rattle.comp_graph.specs.Graph.{Graph}
use Rattle.graph_views.specs.Callees.{lift_of}
use Rattle.trace_labels.specs.declared.trap.TrapName.TheVariants as trap
use Rattle.world_parts.specs.Held.{Held, Done, Gives, Traps, after, given}
use Rattle.world_parts.specs.Slots.{callee_of}
use Rattle.world_parts.specs.Places.{memory_of}

-- the type of a number
abbrev pub type_of : Option Numbered → Option ValType
type_of number = option_map (λ n. n.val_type) number

-- Two types are of one table, in which no type stands twice.
abbrev pub AreTold : Option Numbered → Option Numbered → Type 0
AreTold (Some a) (Some b) = AreDistinct a.types × (a.types ≡ b.types)
AreTold (Some a) None = Unit {0}
AreTold None b = Unit {0}

-- both results are there, and of one type, or none is
abbrev pub same_held : Option ValType → Option ValType → Bool
same_held None None = true
same_held None (Some wanted) = false
same_held (Some type) None = false
same_held (Some type) (Some wanted) = same_val type wanted

-- no other memory: the same one, or none at one side
abbrev pub same_memory : Option ℕ → Option ℕ → Bool
same_memory (Some address) (Some other) = nat_eq address other
same_memory (Some address) None = true
same_memory None other = true

abbrev pub checked : Bool → Options → Options → Held → Done (Unit {0})
checked is_same options lifted h =
    if not is_same then Traps trap.WrongResult h else
    if not (same_memory (memory_of options h) (memory_of lifted h)) then Traps trap.WrongOptions h else Gives tt h

-- A task returns a result of a type, if there is one, with these options, where its function gives one of the type `wanted`.
abbrev pub return_checked : Graph → ℕ → Option ValType → Option ValType → Options → Held → Done (Unit {0})
return_checked g t result wanted options h =
    after (callee_of t h) (λ callee k. given (lift_of g callee) (λ lift. checked (same_held result wanted) options lift.options k))

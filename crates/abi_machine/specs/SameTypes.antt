-- Whether types of values are the same, as a test (Component Model, Explainer.md, "Type Definitions"), also where there may be none. The ends of
-- streams and futures, and the results of tasks, are compared by their types.
use Rattle.std.specs.Prelude.{Bool, Option, Some, None}
use Rattle.syntax_trees.specs.declared.types.ValType.{ValType}
pub use Rattle.laid_types.specs.SameTypes.{all_pass, held_passes, same_names, same_layer, same_step, same_case, same_field, same_val}

abbrev pub same_held : Option ValType → Option ValType → Bool
same_held None other = held_passes None other
same_held (Some type) other = held_passes (Some (same_val type)) other

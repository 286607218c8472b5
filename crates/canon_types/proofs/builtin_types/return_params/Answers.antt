use Rattle.std.proofs.Common.{map, List, Option, ◌∙◌, ap, sym}
use Rattle.syntax_trees.specs.declared.core_type.CoreType.{CoreType}
use Rattle.syntax_trees.specs.declared.types.ValType.{ValType}
use Rattle.syntax_trees.specs.Flat.{at_most, flat_payload}
use Rattle.comp_graph.specs.Needs.{core_val}
use Rattle.canon_types.proofs.FirstTypes.{type_params_are}
use Rattle.canon_types.proofs.builtin_types.return_params.Goals as goal

pub returns-in-Some : goal.returns-in-Some
returns-in-Some c =
    c.passed.ensures.types ∙ ap (λ (ts : List CoreType). map core_val (at_most 16 ts)) c.flat.ensures ∙ type_params_are c.in-Some.val_type
    ∙ sym (ap (λ (o : Option ValType). map core_val (at_most 16 (flat_payload o))) c.in-Some.is)

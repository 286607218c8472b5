-- The first core types of all are told by the first of the payloads.
use Rattle.std.proofs.Common.{◌∙◌, ◌∷◌, List, take, ap}
use Rattle.syntax_trees.specs.declared.core_type.CoreType.{CoreType}
use Rattle.syntax_trees.specs.declared.core_type.CoreType.TheVariants.{I32}
use Rattle.syntax_trees.specs.Flat.{joined_all}
use Rattle.laid_types.specs.Layers.{trees_of}
use Rattle.laid_types.specs.Gathered.{flats}
use Rattle.laid_types.proofs.Kept.{tagged_kept}
use Rattle.laid_types.proofs.gathering.flat_choice.Goals as goal

pub returns : goal.returns
returns c =
    c.in_ok-choice.ensures
    ∙ ap (λ (ts : List CoreType). take 17 (I32 ∷ ts)) (c.deref.ensures.value ∙ c.in_ok-payload.ensures)
    ∙ tagged_kept I32 (joined_all (flats (trees_of c.args.types.now c.args.parts.now)))

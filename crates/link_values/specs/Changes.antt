-- Changes of the numbers of resources (Component Model, Explainer.md, "Type Definitions") that are told by what they are.
use Rattle.link_values.specs.Resources.{Change, further_in, brought_behind, filled_in}
use Rattle.link_values.specs.declared.changes.Change as told
use Rattle.link_values.specs.declared.changes.Change.TheVariants.{FurtherIn, BroughtBehind, FilledIn}

abbrev pub change_of : told.Change → Change
change_of (FurtherIn by) = further_in by
change_of (BroughtBehind count) = brought_behind count
change_of (FilledIn given) = filled_in given.now

-- Room for payloads behind the number of the case is the layout of them all.
use Rattle.std.proofs.Common.{◌∙◌, ap}
use Rattle.layouts.specs.Limited.{tagged}
use Rattle.laid_types.specs.Parts.{layouts}
use Rattle.laid_types.specs.Layers.{trees_of}
use Rattle.laid_types.proofs.Rooms.{tagged_room}
use Rattle.laid_types.proofs.gathering.choice_laying.Goals as goal

pub returns-clause-value : goal.returns-clause-value
returns-clause-value c = c.tagged.ensures.value ∙ ap (tagged c.args.count) c.payload_laying.ensures.value ∙ tagged_room c.args.count (layouts (trees_of c.args.types.now c.args.parts.now))

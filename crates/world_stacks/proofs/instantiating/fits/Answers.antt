use Rattle.std.proofs.Common.{map}
use Rattle.wasm_store.specs.Views.{address_of}
use Rattle.world_stacks.proofs.Making.{fits_as_matched}
use Rattle.world_stacks.proofs.instantiating.fits.Goals as goal

pub returns-clause-fits : goal.returns-clause-fits
returns-clause-fits c =
    fits_as_matched c.args.store.now c.args.valid.now (map address_of c.args.imports.now) c.matches.result c.matches.ensures.sound c.matches.ensures.complete

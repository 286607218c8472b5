use Rattle.std.proofs.Common.{sym}
use Rattle.link_core_exports.proofs.Placed.{fits_answered}
use Rattle.link_core_exports.proofs.modules.CoreModules.fits.Goals as goal

pub returns-in-Some-Some-clause-fits : goal.returns-in-Some-Some-clause-fits
returns-in-Some-Some-clause-fits c = λ cores canons of there here.
    fits_answered c.args.self.now cores canons c.args.number c.args.tree.now c.args.item.now c.args.desc c.in-Some-Some.place c.in-Some-Some.asked c.are_same.result of there here
    (sym c.in-Some-Some.ensures') (sym c.in-Some-Some.ensures) c.are_same.ensures.answer

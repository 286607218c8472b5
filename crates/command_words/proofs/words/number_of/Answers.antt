use Rattle.command_words.proofs.Numbers.{number_read, none_read}
use Rattle.command_words.proofs.words.number_of.Goals as goal

pub returns-in-Ok : goal.returns-in-Ok
returns-in-Ok c = number_read (Unit {0}) c.args.most c.in-Ok.number c.args.text.now c.ranges.most.fits c.in-Ok.ensures.value.0 c.if-number-most.true

pub returns-in_default-2 : goal.returns-in_default-2
returns-in_default-2 c = none_read c.args.most c.in_default.field-0 c.args.text.now c.ranges.most.fits c.in_default.ensures.value.0

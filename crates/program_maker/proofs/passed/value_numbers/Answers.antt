use Rattle.std.proofs.Common.{get_or, refl, None}
use Rattle.comp_graph.specs.Passed.{HasCanonType}
use Rattle.comp_graph.proofs.FuncsPassed.{number_within}
use Rattle.program_maker.specs.Programs.{PassesValue}
use Rattle.program_maker.proofs.Zips.{zip_reads, zip_step}
use Rattle.program_maker.proofs.passed.value_numbers.Goals as goal

pub bounds-numbers-at : goal.bounds-numbers-at
bounds-numbers-at c = number_within (HasCanonType c.args.types.now) c.args.numbers.now c.args.canons.now c.requires c.loop-at.at c.loop-at-test.true

pub value_number-requires : goal.value_number-requires
value_number-requires c =
    zip_reads (HasCanonType c.args.types.now) c.args.numbers.now c.args.canons.now c.loop-at.at (get_or c.args.numbers.now c.loop-at.at None) None c.index-canons-at.result c.requires c.loop-at-test.true refl c.index-canons-at.is

pub loop-at-preserved : goal.loop-at-preserved
loop-at-preserved c =
    zip_step (PassesValue c.args.types.now.values) c.loop-at.all.items c.push.new.self.items c.args.canons.now c.loop-at.at c.value_number.result c.index-canons-at.result
    c.loop-at.invariant c.loop-at-test.true c.index-canons-at.is c.value_number.ensures c.in_ok-push.ensures.items

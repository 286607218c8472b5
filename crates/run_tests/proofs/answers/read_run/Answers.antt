use Rattle.std.specs.List.{slice_get}
use Rattle.comp_graph.specs.Graph.{CoreMake}
use Rattle.link_spec.specs.Standing.{StandsIn}
use Rattle.link_spec.proofs.Holding.{all_at, holds_at}
use Rattle.run_tests.proofs.answers.read_run.Goals as goal

pub script_run-requires : goal.script_run-requires
script_run-requires c = record {
  fit = λ n core there.
      let stands = λ (core : CoreMake). StandsIn core.of_module c.args.component.now.items in
      c.read_modules_are_typed.ensures c.requires.read.0 c.args.component.now core.of_module c.requires.read.2
      (holds_at stands (slice_get c.args.graph.now.cores n) core (all_at stands c.args.graph.now.cores n (c.graphs_are_sound.ensures.modules c.args.component.now c.args.graph.now c.requires.linked)) there);
}

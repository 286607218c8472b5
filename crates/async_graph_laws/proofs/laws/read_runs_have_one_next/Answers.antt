use Rattle.async_graph_laws.proofs.ReadRuns.{read_runs_have_one_next, no_read_run_is_stuck, read_runs_are_one}
use Rattle.async_graph_laws.proofs.laws.read_runs_have_one_next.Goals as goal

pub returns : goal.returns
returns c =
    let runnable = c.read_runs_are_runnable.ensures in
    let going = c.exactly_one_next.ensures in
    record {
      one = read_runs_have_one_next runnable going.one;
      goes_on = no_read_run_is_stuck runnable going.goes_on;
      run = read_runs_are_one runnable c.one_run_comes.ensures;
    }

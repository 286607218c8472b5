use Rattle.std.proofs.lemmas.Result.{err_from_is_err_and}
use Rattle.wcm.proofs.RunRows.{program_fits, run_comes, run_stops}
use Rattle.wcm.proofs.running.run_answer.Goals as goal

pub runs_step_on-requires-clause-valid : goal.runs_step_on-requires-clause-valid
runs_step_on-requires-clause-valid g c =
    program_fits c.read_modules_are_typed.ensures c.graphs_are_sound.ensures.modules c.args.graph.now c.args.script.now c.in_ok-program.program c.requires.linked
    c.in_ok-program.ensures

pub returns-clause-comes : goal.returns-clause-comes
returns-clause-comes g c =
    run_comes c.read_runs_fit.ensures c.runs_are_of_machine.ensures.lines c.runs_are_of_machine.ensures.dumps c.args.graph.now c.args.script.now c.in_ok-program.program c.args.dump
    (g.K.Sink.taken c.args.out.now) (g.K.Sink.taken c.run_program.new.out) c.in_ok-ran.ran c.answer_behind.result c.requires.linked c.requires.said c.in_ok-program.ensures
    c.in_ok-ran.ensures.runs c.answer_behind.ensures

pub returns-in_err-ran-clause-comes : goal.returns-in_err-ran-clause-comes
returns-in_err-ran-clause-comes g c =
    let p = err_from_is_err_and c.from_residual-in_err-ran.result c.from_residual-in_err-ran.ensures.1 in
    rw (p.1, p.2)
    (run_stops c.read_runs_fit.ensures c.read_runs_have_one_next.ensures.run c.so_far_is_of_machine.ensures c.args.graph.now c.args.script.now c.in_ok-program.program c.args.dump
    (g.K.Sink.taken c.args.out.now) (g.K.Sink.taken c.run_program.new.out) c.in_err-ran.field-0.0 c.requires.linked c.requires.said c.in_ok-program.ensures c.in_err-ran.ensures.runs)

use Rattle.machine_runs.proofs.Played.{grew_then}
use Rattle.machine_runs.proofs.running_script.tell.Goals as goal

pub returns-in-Some-clause-grows : goal.returns-in-Some-clause-grows
returns-in-Some-clause-grows g c =
    let taken = g.K.Sink.taken in
    grew_then (taken c.args.trace.now.sink.now) (taken c.put_lines.new.trace.sink.now) (taken c.put_last.new.trace.sink.now) c.in_ok-put_lines.ensures.grows c.put_last.ensures.grows

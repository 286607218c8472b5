use Rattle.trace_show.specs.LabelText.{label_text}
use Rattle.machine_runs.proofs.Played.{flush_fails, grew_put, grew_front, grew_then}
use Rattle.machine_runs.proofs.running_script.put_last.Goals as goal

pub returns-in-Err-clause-failed : goal.returns-in-Err-clause-failed
returns-in-Err-clause-failed g c =
    let taken = g.K.Sink.taken in
    flush_fails (taken c.args.trace.now.sink.now) (taken c.put.new.self.sink.now) (taken c.flush.new.self.sink.now) c.args.trace.now.kept.now.items c.put.new.self.kept.now.items
    (label_text c.args.line.now) c.in_ok-put.ensures.ok c.in-Err.ensures.failed

pub returns-in-Ok-clause-grows : goal.returns-in-Ok-clause-grows
returns-in-Ok-clause-grows g c =
    let taken = g.K.Sink.taken in
    grew_then (taken c.args.trace.now.sink.now) (taken c.put.new.self.sink.now) (taken c.flush.new.self.sink.now)
    (grew_put (taken c.args.trace.now.sink.now) (taken c.put.new.self.sink.now) c.args.trace.now.kept.now.items c.put.new.self.kept.now.items (label_text c.args.line.now) _
    c.in_ok-put.ensures.ok c.in_ok-put.ensures.rooms.1) (c.put.new.self.kept.now.items, c.in-Ok.ensures.ok)

pub returns-in-Err-clause-grows : goal.returns-in-Err-clause-grows
returns-in-Err-clause-grows g c =
    let taken = g.K.Sink.taken in
    grew_then (taken c.args.trace.now.sink.now) (taken c.put.new.self.sink.now) (taken c.flush.new.self.sink.now)
    (grew_put (taken c.args.trace.now.sink.now) (taken c.put.new.self.sink.now) c.args.trace.now.kept.now.items c.put.new.self.kept.now.items (label_text c.args.line.now) _
    c.in_ok-put.ensures.ok c.in_ok-put.ensures.rooms.1)
    (grew_front (taken c.put.new.self.sink.now) (taken c.flush.new.self.sink.now) c.put.new.self.kept.now.items c.in-Err.ensures.failed)

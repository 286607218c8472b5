use Rattle.std.proofs.Common.{◌∙◌, rules}
use Rattle.std.proofs.lemmas.Result.{err_from_is_err_and}
use Rattle.trace_show.specs.Tally.{tally_of}
use Rattle.trace_show.specs.Trace.{put_so_far}
use Rattle.trace_show.specs.LabelText.{label_text}
use Rattle.machine_runs.proofs.Played.{puts_more, puts_end, tally_put, tally_end, grew_then, grew_put, grew_front}
use Rattle.machine_runs.proofs.running_script.put_lines.Goals as goal

pub loop-line-preserved : goal.loop-line-preserved
loop-line-preserved g c =
    let taken = g.K.Sink.taken in
    record {
      same_sink = c.in_ok-put.ensures.same_sink ∙ c.loop-line.invariant.same_sink;
      faults = c.in_ok-put.ensures.cause.told ∙ c.loop-line.invariant.faults;
      grows = grew_then (taken c.args.trace.now.sink.now) (taken c.loop-line.trace.sink.now) (taken c.put.new.self.sink.now) c.loop-line.invariant.grows
          (grew_put (taken c.loop-line.trace.sink.now) (taken c.put.new.self.sink.now) c.loop-line.trace.kept.now.items c.put.new.self.kept.now.items (label_text c.line-item.result)
          _ c.in_ok-put.ensures.ok c.in_ok-put.ensures.rooms.1);
      text = puts_more (put_so_far (taken c.loop-line.trace.sink.now) c.loop-line.trace.kept.now.items) (put_so_far (taken c.put.new.self.sink.now) c.put.new.self.kept.now.items)
          c.args.lines.now c.loop-line.line-index c.line-item.result _ c.loop-line.invariant.text c.in_ok-put.ensures.ok c.loop-line-test.true c.line-item.is;
      tally = tally_put (tally_of c.args.trace.now.elements c.args.trace.now.sum c.args.trace.now.last.now.items) (tally_of c.loop-line.trace.elements c.loop-line.trace.sum c.loop-line.trace.last.now.items) (tally_of c.put.new.self.elements c.put.new.self.sum c.put.new.self.last.now.items) c.args.lines.now c.loop-line.line-index c.line-item.result
          c.loop-line.invariant.tally c.in_ok-put.ensures.tally c.loop-line-test.true c.line-item.is;
    }

pub returns-in_err-put-clause-puts : goal.returns-in_err-put-clause-puts
returns-in_err-put-clause-puts g c =
    let taken = g.K.Sink.taken in
    let p = err_from_is_err_and c.from_residual.result c.from_residual.ensures.1 in
    rw p.1
    (puts_end (put_so_far (taken c.args.trace.now.sink.now) c.args.trace.now.kept.now.items) (taken c.loop-line.trace.sink.now) (taken c.put.new.self.sink.now)
    (put_so_far (taken c.put.new.self.sink.now) c.put.new.self.kept.now.items) c.loop-line.trace.kept.now.items c.args.lines.now c.loop-line.line-index c.line-item.result p.0
    c.loop-line.invariant.text c.in_err-put.ensures.failed c.loop-line-test.true c.line-item.is)

pub returns-in_err-put-clause-grows : goal.returns-in_err-put-clause-grows
returns-in_err-put-clause-grows g c =
    let taken = g.K.Sink.taken in
    grew_then (taken c.args.trace.now.sink.now) (taken c.loop-line.trace.sink.now) (taken c.put.new.self.sink.now) c.loop-line.invariant.grows
    (grew_front (taken c.loop-line.trace.sink.now) (taken c.put.new.self.sink.now) _ c.in_err-put.ensures.failed)

pub returns-clause-tally : goal.returns-clause-tally
returns-clause-tally g c = tally_end (tally_of c.args.trace.now.elements c.args.trace.now.sum c.args.trace.now.last.now.items) (tally_of c.loop-line.trace.elements c.loop-line.trace.sum c.loop-line.trace.last.now.items) c.args.lines.now c.loop-line.line-index c.loop-line.invariant.tally (search rules)

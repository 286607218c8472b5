use Rattle.std.proofs.Common.{◌∙◌}
use Rattle.trace_show.specs.LabelText.{label_text}
use Rattle.trace_show.proofs.Puts.{put_rooms}
use Rattle.trace_show.proofs.trace.Trace.put.Goals as goal

pub returns-in-Ok-clause-ok : goal.returns-in-Ok-clause-ok
returns-in-Ok-clause-ok g c =
    put_rooms (g.K.Sink.taken c.args.self.now.sink.now) (g.K.Sink.taken c.write_rooms.new.sink) c.args.self.now.kept.now.items (label_text c.args.label.now)
    c.push_line.new.text.items c.as_slice.result.now c.drop-drain.new.self.0.items c.in-Ok.done
    c.in_ok-push_line.ensures.text c.as_slice.ensures.value c.in-Ok.ensures.ok (c.drop-drain.ensures.items ∙ c.drain.ensures.kept)

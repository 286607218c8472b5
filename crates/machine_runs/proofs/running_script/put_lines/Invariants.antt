-- The lines so far are put, and the others are to follow.
use Rattle.std.proofs.Common.{◌≡◌, drop}
use Rattle.ca_io.specs.Bytes.{grown}
use Rattle.trace_show.specs.Tally.{tally_of, with_lines}
use Rattle.trace_show.specs.Trace.{put_so_far}
use Rattle.trace_show.specs.LabelText.{trace_text}
use Rattle.machine_runs.specs.Playing.{Grew}
use Rattle.machine_runs.proofs.running_script.put_lines.Given as goal

abbrev pub invariant-loop-line : goal.invariant-loop-line
invariant-loop-line g l =
    let taken = g.K.Sink.taken in
    record {
      same_sink : l.trace.sink.ghost_name ≡ l.initial.trace.sink.ghost_name;
      faults : g.K.Sink.faults l.trace.sink.now ≡ g.K.Sink.faults l.initial.trace.sink.now;
      grows : Grew (taken l.initial.trace.sink.now) (taken l.trace.sink.now);
      text : grown (put_so_far (taken l.trace.sink.now) l.trace.kept.now.items) (trace_text (drop l.line-index l.lines)) ≡ grown (put_so_far (taken l.initial.trace.sink.now) l.initial.trace.kept.now.items) (trace_text l.lines);
      tally : with_lines (tally_of l.trace.elements l.trace.sum l.trace.last.now.items) (drop l.line-index l.lines) ≡ with_lines (tally_of l.initial.trace.elements l.initial.trace.sum l.initial.trace.last.now.items) l.lines;
    }

-- Steps have led here, and their lines have gone out.
use Rattle.std.proofs.Common.{◌≡◌, List}
use Rattle.ca_io.specs.Bytes.{grown}
use Rattle.trace_labels.specs.declared.label.Label.{Label}
use Rattle.trace_show.specs.Tally.{tally_of, with_lines}
use Rattle.trace_show.specs.Trace.{put_so_far}
use Rattle.trace_show.specs.LabelText.{trace_text}
use Rattle.machine_runs.specs.Worlds.{point_of, GoOn}
use Rattle.machine_runs.specs.Playing.{Grew}
use Rattle.machine_runs.proofs.running_script.play_on.Given as goal

abbrev pub invariant-loop-step : goal.invariant-loop-step
invariant-loop-step g l =
    let taken = g.K.Sink.taken in
    record {
      same_sink : l.trace.sink.ghost_name ≡ l.initial.trace.sink.ghost_name;
      faults : g.K.Sink.faults l.trace.sink.now ≡ g.K.Sink.faults l.initial.trace.sink.now;
      grows : Grew (taken l.initial.trace.sink.now) (taken l.trace.sink.now);
      at : (lines : List Label) × GoOn g.V.PassesValues.may_pass l.program l._step (point_of l.initial.world) lines (point_of l.world)
          × (put_so_far (taken l.trace.sink.now) l.trace.kept.now.items ≡ grown (put_so_far (taken l.initial.trace.sink.now) l.initial.trace.kept.now.items) (trace_text lines))
          × (tally_of l.trace.elements l.trace.sum l.trace.last.now.items ≡ with_lines (tally_of l.initial.trace.elements l.initial.trace.sum l.initial.trace.last.now.items) lines);
    }

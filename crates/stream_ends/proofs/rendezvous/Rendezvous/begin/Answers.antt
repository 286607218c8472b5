use Rattle.std.proofs.Common.{◌<◌, ◌≤◌, ◌^◌, arith, IsTrue}
use Rattle.stream_ends.specs.declared.side.Side.TheVariants.{Reader, Writer}
use Rattle.stream_ends.specs.Ends.{EndsView, new_copy, is_idle}
use Rattle.stream_ends.specs.Runs.{count_of}
use Rattle.stream_ends.proofs.Meetings.{offer_sound, offer_due, copies_up_to}
use Rattle.stream_ends.proofs.rendezvous.Rendezvous.begin.Goals as goal

pub invariant_of-self : goal.invariant_of-self
invariant_of-self c =
    let ends : EndsView = record { reader = c.self.inside.reader; writer = c.self.inside.writer } in
    let idle : IsTrue (is_idle ends.reader) = rw (c.in-Reader.is, ← c.self.view_is) at c.requires.idle in
    record {
      ends =
          rw (c.meet_other.ensures.own, c.meet_other.ensures.other, c.in-Reader.is, c.new-call.ensures)
          (offer_sound Reader c.args.by c.args.canon c.args.place c.args.length ends c.self.invariant.ends idle c.requires.short);
      due = tt;
    }

pub invariant_of-self-in-Writer : goal.invariant_of-self-in-Writer
invariant_of-self-in-Writer c =
    let ends : EndsView = record { reader = c.self.inside.reader; writer = c.self.inside.writer } in
    let idle : IsTrue (is_idle ends.writer) = rw (c.in-Writer.is, ← c.self.view_is) at c.requires.idle in
    record {
      ends =
          rw (c.meet_other-in-Writer.ensures.own, c.meet_other-in-Writer.ensures.other, c.in-Writer.is, c.new-call.ensures)
          (offer_sound Writer c.args.by c.args.canon c.args.place c.args.length ends c.self.invariant.ends idle c.requires.short);
      due = tt;
    }

pub returns-in-Reader-clause-due : goal.returns-in-Reader-clause-due
returns-in-Reader-clause-due c =
    let ends : EndsView = record { reader = c.self.inside.reader; writer = c.self.inside.writer } in
    let idle : IsTrue (is_idle ends.reader) = rw (c.in-Reader.is, ← c.self.view_is) at c.requires.idle in
    rw (c.meet_other.ensures.meet, c.meet_other.ensures.own, c.meet_other.ensures.other, c.in-Reader.is)
    (offer_due Reader c.new-call.result ends idle)

pub returns-in-Writer-clause-due : goal.returns-in-Writer-clause-due
returns-in-Writer-clause-due c =
    let ends : EndsView = record { reader = c.self.inside.reader; writer = c.self.inside.writer } in
    let idle : IsTrue (is_idle ends.writer) = rw (c.in-Writer.is, ← c.self.view_is) at c.requires.idle in
    rw (c.meet_other-in-Writer.ensures.meet, c.meet_other-in-Writer.ensures.own, c.meet_other-in-Writer.ensures.other, c.in-Writer.is)
    (offer_due Writer c.new-call.result ends idle)

pub returns-in-Reader-clause-short : goal.returns-in-Reader-clause-short
returns-in-Reader-clause-short c =
    let within : count_of c.meet_other.result ≤ c.args.length =
    rw (c.meet_other.ensures.meet, c.in-Reader.is, c.new-call.ensures)
    (copies_up_to Reader (new_copy c.args.by c.args.canon c.args.place c.args.length) c.self.inside.reader c.self.inside.writer) in
    let short : c.args.length < 2 ^ 28 = c.requires.short in
    omega arith

pub returns-in-Writer-clause-short : goal.returns-in-Writer-clause-short
returns-in-Writer-clause-short c =
    let within : count_of c.meet_other-in-Writer.result ≤ c.args.length =
    rw (c.meet_other-in-Writer.ensures.meet, c.in-Writer.is, c.new-call.ensures)
    (copies_up_to Writer (new_copy c.args.by c.args.canon c.args.place c.args.length) c.self.inside.writer c.self.inside.reader) in
    let short : c.args.length < 2 ^ 28 = c.requires.short in
    omega arith

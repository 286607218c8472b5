use Rattle.std.proofs.Common.{IsTrue}
use Rattle.stream_ends.specs.declared.side.Side.TheVariants.{Reader, Writer}
use Rattle.stream_ends.specs.Ends.{EndsView, is_idle}
use Rattle.future_ends.proofs.Meetings.{offer_sound, offer_due}
use Rattle.future_ends.proofs.rendezvous.Rendezvous.begin.Goals as goal

pub invariant_of-self : goal.invariant_of-self
invariant_of-self c =
    let ends : EndsView = record { reader = c.self.inside.reader; writer = c.self.inside.writer } in
    let idle : IsTrue (is_idle ends.reader) = rw (c.in-Reader.is, ← c.self.view_is) at c.requires in
    record { ends = rw (c.meet_other.ensures.own, c.new-call.ensures) (offer_sound Reader c.args.by c.args.canon c.args.place ends c.self.invariant.ends idle); due = tt }

pub invariant_of-self-in-Writer : goal.invariant_of-self-in-Writer
invariant_of-self-in-Writer c =
    let ends : EndsView = record { reader = c.self.inside.reader; writer = c.self.inside.writer } in
    let idle : IsTrue (is_idle ends.writer) = rw (c.in-Writer.is, ← c.self.view_is) at c.requires in
    record { ends = rw (c.meet_other-in-Writer.ensures.own, c.new-call.ensures) (offer_sound Writer c.args.by c.args.canon c.args.place ends c.self.invariant.ends idle); due = tt }

pub returns-in-Reader-clause-due : goal.returns-in-Reader-clause-due
returns-in-Reader-clause-due c =
    let ends : EndsView = record { reader = c.self.inside.reader; writer = c.self.inside.writer } in
    let idle : IsTrue (is_idle ends.reader) = rw (c.in-Reader.is, ← c.self.view_is) at c.requires in
    rw (c.meet_other.ensures.meet, c.meet_other.ensures.own) (offer_due Reader c.new-call.result ends idle)

pub returns-in-Writer-clause-due : goal.returns-in-Writer-clause-due
returns-in-Writer-clause-due c =
    let ends : EndsView = record { reader = c.self.inside.reader; writer = c.self.inside.writer } in
    let idle : IsTrue (is_idle ends.writer) = rw (c.in-Writer.is, ← c.self.view_is) at c.requires in
    rw (c.meet_other-in-Writer.ensures.meet, c.meet_other-in-Writer.ensures.own) (offer_due Writer c.new-call.result ends idle)

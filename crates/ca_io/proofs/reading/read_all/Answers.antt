use Rattle.std.proofs.Common.{◌≡◌, ◌∙◌, ◌+◌, vec_len, arith, length-take}
use Rattle.ca_io.proofs.Pieces.{front_more}
use Rattle.ca_io.proofs.reading.read_all.Goals as goal

pub loop-found-preserved : goal.loop-found-preserved
loop-found-preserved g c =
    let longer : vec_len c.extend_from_slice.new.self ≡ vec_len c.loop-found.found + c.in_ok-count.count =
    omega (arith, c.in_ok-extend_from_slice.ensures.len, length-take c.in_ok-count.count c.read.new.into, c.in_ok-count.ensures.bound) in
    record {
      bound = omega arith;
      front = front_more _ _ c.loop-found.found.items c.read.new.into _ (vec_len c.loop-found.found) c.len.result c.in_ok-count.count _ (c.loop-found.invariant.same _) c.loop-found.invariant.front c.in_ok-count.ensures.bytes c.in_ok-extend_from_slice.ensures.items c.len.ensures longer;
      same = λ other. c.read.ensures.same other ∙ c.loop-found.invariant.same other;
      faults = c.in_ok-count.ensures.cause.ok ∙ c.loop-found.invariant.faults;
    }

use Rattle.std.proofs.Common.{arith}
use Rattle.program_maker.proofs.ResourcesDefined.{defines_none, defines_one}
use Rattle.program_maker.proofs.resources.define.Goals as goal

pub returns-then-instance-len : goal.returns-then-instance-len
returns-then-instance-len c = λ instances before counted h.
    let all = c.args.all.now in
    defines_none instances before c.args.resource.now all.items (omega (arith, c.len.ensures, all.ok.0, c.if-instance-len.true)) h

pub returns : goal.returns
returns c = λ instances before counted h.
    let all = c.args.all.now in
    defines_one instances before c.args.resource.now all.items c.args.number c.index_mut.result.now c.push.new.self (omega (arith, c.len.ensures, all.ok.0, c.if-instance-len.false))
    c.index_mut.ensures.value c.in_ok-push.ensures.ok counted h

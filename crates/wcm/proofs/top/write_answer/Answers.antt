use Rattle.std.proofs.Common.{ℕ, List, ap, take, ◌∙◌}
use Rattle.std.proofs.lemmas.Result.{err_from_is_err_and}
use Rattle.ca_io.specs.Bytes.{grown}
use Rattle.wcm.proofs.Taken.{took_all}
use Rattle.wcm.proofs.top.write_answer.Goals as goal

pub returns-in_err-write_all-2-clause-failed : goal.returns-in_err-write_all-2-clause-failed
returns-in_err-write_all-2-clause-failed g c =
    let p = err_from_is_err_and c.from_residual-in_err-write_all-2.result c.from_residual-in_err-write_all-2.ensures.1 in
    let front = c.in_err-write_all-2.ensures.failed in
    rw (p.1) (record {
      out = took_all _ _ _ (c.in_ok-write_all.ensures.ok ∙ ap (grown (g.K.Sink.taken c.args.out.now)) c.as_slice.ensures);
      err = (front.0, front.1 ∙ ap (λ (t : List ℕ). grown (g.K.Sink.taken c.args.err.now) (take front.0 t)) c.as_slice-2.ensures);
    })

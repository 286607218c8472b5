use Rattle.std.proofs.Common.{sym, ◌∙◌, inl, inr}
use Rattle.std.proofs.lemmas.Result.{err_from_is_err_and}
use Rattle.link_instances.proofs.TypesKept.{kept_types}
use Rattle.link_instances.proofs.instances.Instances.of_types.Goals as goal

pub returns-in-Some-clause-ok : goal.returns-in-Some-clause-ok
returns-in-Some-clause-ok c = λ w externs h asked types.
    let kept = h.of_types c.args.instance_type c.in-Some.base (sym c.base_of.ensures ∙ c.in-Some.is) in
    inl (record { are = h; is = (kept_types c.args.types.now c.are_distinct.ensures w c.args.instance_type c.in-Some.base externs kept asked).1 })

pub returns-clause-ok : goal.returns-clause-ok
returns-clause-ok c = λ w externs h asked types.
    inr (c.in_ok-instance.ensures.ok c.args.types.now w externs h asked types (c.in_ok-listing.ensures w externs asked))

pub returns-in_err-instance-clause-err : goal.returns-in_err-instance-clause-err
returns-in_err-instance-clause-err c =
    let p = err_from_is_err_and c.from_residual-in_err-instance.result c.from_residual-in_err-instance.ensures.1 in
    rw p.1 (λ w h. c.in_err-instance.ensures.err c.args.types.now w h)

use Rattle.link_instances.specs.declared.called.TypedCallables.{TypedCallables}
use Rattle.link_instances.proofs.Calling.{typed_more}
use Rattle.link_instances.proofs.called.TypedCallables.push.Goals as goal

pub returns-clause-typed : goal.returns-clause-typed
returns-clause-typed c = λ types is h.
    let new : TypedCallables = record { funcs = c.push.new.self; types = c.push-2.new.self } in
    typed_more types c.args.self.now new c.args.func c.args.number is c.in_ok-push.ensures.items c.in_ok-push-2.ensures.items h

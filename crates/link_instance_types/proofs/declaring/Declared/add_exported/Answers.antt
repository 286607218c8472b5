use Rattle.std.proofs.Common.{ℕ, List, subst}
use Rattle.std.specs.List.{slice_get}
use Rattle.link_spec.specs.Types.{from_instance}
use Rattle.link_types.specs.Table.{IsName, IsInstanceType}
use Rattle.link_meanings.specs.Meant.{IsFoundAs}
use Rattle.link_meanings.proofs.Lists.{found_at}
use Rattle.link_instance_types.proofs.Growing.{declared_stays}
use Rattle.link_instance_types.proofs.declaring.Declared.add_exported.Goals as goal

pub returns-clause-ok : goal.returns-clause-ok
returns-clause-ok c = λ closures d h.
    let old = c.args.self.now in
    let types = c.name.new.self in
    let k = declared_stays c.args.types.now types c.in_ok-number.ensures.grows closures old d h in
    let known : IsFoundAs (IsFoundAs (IsInstanceType types)) c.instance_at.result (slice_get d.instances c.args.instance) =
    rw c.instance_at.ensures (found_at (IsFoundAs (IsInstanceType types)) old.instances.items d.instances c.args.instance k.instances) in
    let name = subst (λ (q : List ℕ). IsName types c.in_ok-number.number q) c.as_str.ensures c.in_ok-number.ensures.ok in
    c.in_ok-declare.ensures types closures d (from_instance c.args.sort c.args.name.now (slice_get d.instances c.args.instance)) k
    (c.from_instance-meant.ensures (slice_get d.instances c.args.instance) known name)

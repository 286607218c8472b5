use Rattle.std.proofs.Common.{refl, None}
use Rattle.link_instance_types.specs.declared.declaring.Declared.{Declared}
use Rattle.link_instance_types.proofs.Declares.{type_put, instance_put, components_more}
use Rattle.link_instance_types.proofs.declaring.Declared.add.Goals as goal

pub returns-in_ok-push-in-Type : goal.returns-in_ok-push-in-Type
returns-in_ok-push-in-Type c = λ t closures d e h is.
    let old = c.args.self.now in
    let new : Declared = record { types = c.push.new.self; components = old.components; instances = old.instances; names = old.names; resources = old.resources; so_far = old.so_far } in
    rw c.in-Type.is (type_put t closures old new d c.args.item c.type_in.result e h is c.type_in.ensures c.in_ok-push-in-Type.ensures.items refl refl refl refl refl)

pub returns-in_ok-push-in-Instance : goal.returns-in_ok-push-in-Instance
returns-in_ok-push-in-Instance c = λ t closures d e h is.
    let old = c.args.self.now in
    let new : Declared = record { types = old.types; components = old.components; instances = c.push-in-Instance.new.self; names = old.names; resources = old.resources; so_far = old.so_far } in
    rw c.in-Instance.is (instance_put t closures old new d c.args.item c.instance_in.result e h is c.instance_in.ensures c.in_ok-push-in-Instance.ensures.items refl refl refl refl refl)

pub returns-in_ok-push-in-Component : goal.returns-in_ok-push-in-Component
returns-in_ok-push-in-Component c = λ t closures d e h is.
    let old = c.args.self.now in
    let new : Declared = record { types = old.types; components = c.push-in-Component.new.self; instances = old.instances; names = old.names; resources = old.resources; so_far = old.so_far } in
    rw c.in-Component.is (components_more t closures old new d None None h refl c.in_ok-push-in-Component.ensures.items refl refl refl refl refl)

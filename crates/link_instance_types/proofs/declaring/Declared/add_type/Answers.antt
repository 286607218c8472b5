use Rattle.std.proofs.Common.{refl}
use Rattle.link_instance_types.specs.declared.declaring.Declared.{Declared}
use Rattle.link_instance_types.proofs.Declares.{type_declared}
use Rattle.link_instance_types.proofs.declaring.Declared.add_type.Goals as goal

pub returns : goal.returns
returns c = λ t closures d e h k.
    let old = c.args.self.now in
    let meant = c.args.meant.now in
    let mid : Declared = record { types = c.push.new.self; components = old.components; instances = old.instances; names = old.names; resources = old.resources; so_far = old.so_far } in
    let new : Declared = record { types = c.push.new.self; components = old.components; instances = old.instances; names = old.names; resources = old.resources; so_far = c.tell.new.self } in
    type_declared t closures old mid new d meant e h k c.in_ok-push.ensures.items refl refl refl refl refl
    c.tell.ensures refl refl refl refl refl

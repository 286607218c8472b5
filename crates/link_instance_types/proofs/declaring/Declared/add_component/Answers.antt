use Rattle.std.proofs.Common.{refl}
use Rattle.link_instance_types.specs.declared.declaring.Declared.{Declared}
use Rattle.link_instance_types.proofs.Declares.{component_declared}
use Rattle.link_instance_types.proofs.declaring.Declared.add_component.Goals as goal

pub returns : goal.returns
returns c = λ t closures d e h k.
    let old = c.args.self.now in
    let meant = c.args.meant.now in
    let mid : Declared = record { types = old.types; components = c.push.new.self; instances = old.instances; names = old.names; resources = old.resources; so_far = old.so_far } in
    let new : Declared = record { types = old.types; components = c.push.new.self; instances = old.instances; names = old.names; resources = old.resources; so_far = c.tell.new.self } in
    component_declared t closures old mid new d meant e h k c.in_ok-push.ensures.items refl refl refl refl refl
    c.tell.ensures refl refl refl refl refl

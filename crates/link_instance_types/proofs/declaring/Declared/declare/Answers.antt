use Rattle.std.proofs.Common.{refl}
use Rattle.link_spec.specs.Types.{with_declared}
use Rattle.link_types.specs.Table.{IsExtern}
use Rattle.link_instance_types.specs.declared.declaring.Declared.{Declared}
use Rattle.link_instance_types.proofs.Declares.{one_told}
use Rattle.link_instance_types.proofs.declaring.Declared.declare.Goals as goal

pub returns : goal.returns
returns c = λ t closures d e h k.
    let mid = c.add.new.self in
    let meant = c.args.meant.now in
    let new : Declared = record { types = mid.types; components = mid.components; instances = mid.instances; names = mid.names; resources = mid.resources; so_far = c.tell.new.self } in
    one_told t closures (IsExtern t) mid new (with_declared d c.args.sort e.means) meant e (c.in_ok-add.ensures t closures d e.means h k.means) k
    c.tell.ensures refl refl refl refl refl

use Rattle.std.proofs.Common.{◌∷◌, subst}
use Rattle.std.specs.List.{slice_get}
use Rattle.link_spec.specs.Types.{Declared, absent, own_level, outer_type, outer_component}
use Rattle.link_types.specs.Table.{IsExtern}
use Rattle.link_meanings.specs.Meant.{IsFoundAs}
use Rattle.link_meanings.specs.Levels.{IsEnclosing}
use Rattle.link_instance_types.specs.Declaring.{IsDeclared}
use Rattle.link_meanings.proofs.Lists.{found_at}
use Rattle.link_instance_types.proofs.Enclosed.{one_inside, outer_other}
use Rattle.link_instance_types.proofs.Declares.{absent_stands}
use Rattle.link_instance_types.proofs.Growing.{declared_stays}
use Rattle.link_instance_types.proofs.declaring.Declared.add_outer.Goals as goal

pub returns-in_ok-add_component-in-Component-clause-ok : goal.returns-in_ok-add_component-in-Component-clause-ok
returns-in_ok-add_component-in-Component-clause-ok c = λ closures levels d a h.
    let t = c.args.types.now in
    let all = own_level d ∷ levels in
    let around = c.own_level.result ∷ c.args.around.now in
    let inside = one_inside t closures c.own_level.result c.args.around.now levels c.args.self.now d c.own_level.ensures.types c.own_level.ensures.components h a in
    let level : IsFoundAs (IsEnclosing t closures) c.level_at.result (slice_get all c.args.up) = rw c.level_at.ensures (found_at (IsEnclosing t closures) around all c.args.up inside) in
    rw c.in-Component.is
    (c.in_ok-add_component-in-Component.ensures t closures d (outer_component c.args.index (slice_get all c.args.up)) h (c.outer_component-meant.ensures t closures (slice_get all c.args.up) level))

pub returns-in_ok-add_type-in-Type-clause-ok : goal.returns-in_ok-add_type-in-Type-clause-ok
returns-in_ok-add_type-in-Type-clause-ok c = λ closures levels d a h.
    let t = c.args.types.now in
    let grown = c.outer_type.new.types in
    let all = own_level d ∷ levels in
    let around = c.own_level-in-Type.result ∷ c.args.around.now in
    let inside = one_inside t closures c.own_level-in-Type.result c.args.around.now levels c.args.self.now d c.own_level-in-Type.ensures.types c.own_level-in-Type.ensures.components h a in
    let level : IsFoundAs (IsEnclosing t closures) c.level_at-level.result (slice_get all c.args.up) = rw c.level_at-level.ensures (found_at (IsEnclosing t closures) around all c.args.up inside) in
    rw c.in-Type.is
    (c.in_ok-add_type-in-Type.ensures grown closures d (outer_type c.args.up c.args.index (slice_get all c.args.up)) (declared_stays t grown c.outer_type.ensures.grows closures c.args.self.now d h) (c.in_ok-meant-in-Type.ensures.ok closures (slice_get all c.args.up) level))

pub returns-in_ok-declare-in-Core-clause-ok : goal.returns-in_ok-declare-in-Core-clause-ok
returns-in_ok-declare-in-Core-clause-ok c = λ closures levels d a h.
    let t = c.args.types.now in
    subst (λ (x : Declared). IsDeclared t closures c.declare.new.self x) (outer_other d (own_level d ∷ levels) c.args.sort c.args.up c.args.index c.in-Core.is)
    (c.in_ok-declare-in-Core.ensures t closures d absent h (absent_stands (IsExtern t) c.absent.result c.absent.ensures))

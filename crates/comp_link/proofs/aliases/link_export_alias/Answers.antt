use Rattle.std.proofs.Common.{refl, sym, ◌∙◌}
use Rattle.std.specs.List.{slice_get}
use Rattle.link_spec.specs.Definitions.{export_named}
use Rattle.link_spec.specs.Computed.{Outcome}
use Rattle.link_instances.specs.References.{IsInstance}
use Rattle.link_state.specs.State.{world_of}
use Rattle.link_state.proofs.Steps.{missing_told, none_found, some_found, none_named, some_named}
use Rattle.comp_link.proofs.aliases.link_export_alias.Goals as goal

pub returns-in_default-clause-made : goal.returns-in_default-clause-made
returns-in_default-clause-made c = λ bases l s at.
    let k = c.name.new.self in
    let w = world_of bases k in
    let now = c.name.ensures.at bases c.args.n l s at in
    let none = none_found (IsInstance k.types w) c.instance.result (slice_get s.instances c.args.instance) c.in_default.is (c.instance.ensures k.types w s (c.scope.ensures bases l s now)) in
    rw none refl

pub returns-in_default-export_named-clause-made : goal.returns-in_default-export_named-clause-made
returns-in_default-export_named-clause-made c = λ bases l s at.
    let k = c.name.new.self in
    let w = world_of bases k in
    let now = c.name.ensures.at bases c.args.n l s at in
    let one = some_found (IsInstance k.types w) c.instance.result c.in-Some.instance (slice_get s.instances c.args.instance) c.in-Some.is (c.instance.ensures k.types w s (c.scope.ensures bases l s now)) in
    let none = none_named k.types w c.export_named.result (export_named c.args.name.now one.0) c.in_default-export_named.is (c.export_named.ensures w one.0 c.args.name.now now.state.instances one.2 c.in_ok-number.ensures.ok) in
    rw (one.1, none) (missing_told Outcome c.missing.result c.as_str.result.now c.args.name.now c.as_str.ensures c.missing.ensures)

pub returns-then-not-is_of-clause-made : goal.returns-then-not-is_of-clause-made
returns-then-not-is_of-clause-made c = λ bases l s at.
    let k = c.name.new.self in
    let w = world_of bases k in
    let now = c.name.ensures.at bases c.args.n l s at in
    let one = some_found (IsInstance k.types w) c.instance.result c.in-Some.instance (slice_get s.instances c.args.instance) c.in-Some.is (c.instance.ensures k.types w s (c.scope.ensures bases l s now)) in
    let d = some_named k.types w c.export_named.result c.in-Some-export_named.definition (export_named c.args.name.now one.0) c.in-Some-export_named.is (c.export_named.ensures w one.0 c.args.name.now now.state.instances one.2 c.in_ok-number.ensures.ok) in
    rw (one.1, d.1, sym (c.is_of.ensures.stands k.types w d.0 d.2) ∙ c.if-not-is_of.true) refl

pub returns-clause-made : goal.returns-clause-made
returns-clause-made c = λ bases l s at.
    let k = c.name.new.self in
    let w = world_of bases k in
    let now = c.name.ensures.at bases c.args.n l s at in
    let one = some_found (IsInstance k.types w) c.instance.result c.in-Some.instance (slice_get s.instances c.args.instance) c.in-Some.is (c.instance.ensures k.types w s (c.scope.ensures bases l s now)) in
    let d = some_named k.types w c.export_named.result c.in-Some-export_named.definition (export_named c.args.name.now one.0) c.in-Some-export_named.is (c.export_named.ensures w one.0 c.args.name.now now.state.instances one.2 c.in_ok-number.ensures.ok) in
    rw (one.1, d.1, sym (c.is_of.ensures.stands k.types w d.0 d.2) ∙ c.if-not-is_of.false) (bases, c.in_ok-add.ensures.ok bases l s d.0 now d.2)

use Rattle.std.proofs.Common.{◌<◌, ◌+◌, [], ℕ, List, take, sym, subst}
use Rattle.std.specs.List.{AllZip, flat_map}
use Rattle.link_types.specs.Table.{in_order}
use Rattle.link_instances.specs.declared.references.DefinitionRef.{DefinitionRef}
use Rattle.link_instances.specs.References.{IsEntry}
use Rattle.link_instances.proofs.TypesAsked.{type_entry, given_next, all_given}
use Rattle.link_instances.proofs.of_types.types_of.Goals as goal

pub loop-at-init : goal.loop-at-init
loop-at-init c = λ w externs h. subst (λ (es : List (ℕ × DefinitionRef)). AllZip (IsEntry c.args.types.now w) es []) (sym c.new-listing.ensures) tt

pub loop-at-preserved : goal.loop-at-preserved
loop-at-preserved c = λ w externs h.
    let t = c.args.types.now in
    let within = subst (λ (count : ℕ). c.loop-at.at < count) (c.asked_count-at-end.ensures externs h) c.loop-at-test.true in
    subst (λ (es : List (ℕ × DefinitionRef)). AllZip (IsEntry t w) es (flat_map type_entry (take (c.loop-at.at + 1) (in_order externs)))) (sym c.in_ok-push_type.ensures)
    (given_next t externs c.loop-at.at within c.asked_at.result (c.asked_at.ensures.is externs h) w c.loop-at.listing (c.loop-at.invariant w externs h))

pub returns : goal.returns
returns c = λ w externs h. all_given c.args.types.now w externs c.asked_count-at-end.result c.loop-at.at (c.asked_count-at-end.ensures externs h) c.loop-at-test.false c.loop-at.listing (c.loop-at.invariant w externs h)

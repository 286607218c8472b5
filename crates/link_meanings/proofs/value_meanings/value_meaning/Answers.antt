use Rattle.link_spec.specs.ValueTypes.{parts_within, close_def, capped}
use Rattle.link_meanings.specs.Levels.{enclosed_types}
use Rattle.link_meanings.proofs.Within.{absent_past, whole_within}
use Rattle.link_meanings.proofs.value_meanings.value_meaning.Goals as goal

pub returns-then-not-parts_within-clause-ok : goal.returns-then-not-parts_within-clause-ok
returns-then-not-parts_within-clause-ok c = λ closed h.
    let type = c.args.val_type.now in
    let types = c.args.types.now in
    rw c.absent.ensures
    (absent_past types types (enclosed_types c.args.scope.now) closed (λ n. parts_within n type) (capped (close_def closed type)) c.type_count.result c.parts_within.result h c.type_count.ensures c.parts_within.ensures
    c.if-not-parts_within.true)

pub returns-clause-ok : goal.returns-clause-ok
returns-clause-ok c = λ closed h.
    let type = c.args.val_type.now in
    whole_within c.args.types.now c.capped.new.types (enclosed_types c.args.scope.now) closed (λ n. parts_within n type) (capped (close_def closed type)) c.type_count.result c.parts_within.result h c.type_count.ensures c.parts_within.ensures
    c.if-not-parts_within.false c.in_ok-capped.field-0 (c.in_ok-capped.ensures.ok (close_def closed type) (c.in_ok-found.ensures.ok closed h))

use Rattle.link_spec.specs.ValueTypes.{close_case}
use Rattle.laid_types.specs.declared.layer.LabelledCase.{LabelledCase}
use Rattle.link_types.proofs.TypesGrow.{grows_trans}
use Rattle.link_meanings.specs.Levels.{enclosed_types}
use Rattle.link_meanings.specs.Numbered.{IsCase}
use Rattle.link_meanings.proofs.Closing.{found_more, found_ends, found_open, there_more}
use Rattle.link_meanings.proofs.Growing.{types_stay}
use Rattle.link_meanings.proofs.Made.{case_stays}
use Rattle.link_meanings.proofs.numbered.numbered_cases.Goals as goal

pub returns-in-None-clause-ok : goal.returns-in-None-clause-ok
returns-in-None-clause-ok c = λ closed h.
    let kept = c.loop-case.invariant in
    let stays = types_stay c.args.types.now c.loop-case.types kept.0 (enclosed_types c.args.scope.now) closed h in
    found_open (IsCase c.loop-case.types.values) (close_case closed) c.args.cases.now c.loop-case.all.items c.case-item.result c.case-item.result c.loop-case.case-index c.loop-case-test.true c.case-item.is
    (rw c.in-None.is at (c.in_ok-case.ensures.ok closed stays)) (kept.2 closed h)

pub loop-case-preserved : goal.loop-case-preserved
loop-case-preserved c =
    let first = c.args.types.now in
    let old = c.loop-case.types in
    let new = c.numbered_case.new.types in
    let kept = c.loop-case.invariant in
    let grows = c.numbered_case.ensures.grows in (
      grows_trans first old new kept.0 grows,
      rw c.in_ok-push-in-Some.ensures.items (there_more old new grows (λ (c : LabelledCase). c.payload) c.loop-case.all.items c.in-Some.case kept.1 (rw c.in-Some.is at c.in_ok-case.ensures.there)),
      λ closed h. (let stays = types_stay first old kept.0 (enclosed_types c.args.scope.now) closed h in
          rw c.in_ok-push-in-Some.ensures.items
          (found_more (IsCase old.values) (IsCase new.values) (case_stays old new grows) (close_case closed) c.args.cases.now c.loop-case.all.items c.case-item.result c.case-item.result c.loop-case.case-index c.in-Some.case c.loop-case-test.true c.case-item.is
          (rw c.in-Some.is at (c.in_ok-case.ensures.ok closed stays)) (kept.2 closed h))),
    )

pub returns-clause-ok : goal.returns-clause-ok
returns-clause-ok c = λ closed h.
    found_ends (IsCase c.loop-case.types.values) (close_case closed) c.args.cases.now c.loop-case.all.items c.loop-case.case-index c.loop-case-test.false (c.loop-case.invariant.2 closed h)

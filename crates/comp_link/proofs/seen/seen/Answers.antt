use Rattle.std.proofs.Common.{Ok, Some, None, sym, subst}
use Rattle.link_spec.specs.Brought.{asked_of}
use Rattle.link_spec.specs.Items.{lacking}
use Rattle.link_spec.specs.Computed.{none_missing}
use Rattle.link_types.specs.Table.{IsExtern, Grows}
use Rattle.link_instances.specs.Fit.{IsFit}
use Rattle.link_parts.specs.Told.{IsTold}
use Rattle.link_state.specs.declared.linker.Linker.{Linker}
use Rattle.link_state.specs.State.{world_of}
use Rattle.link_state.proofs.Steps.{some_found}
use Rattle.comp_link.specs.Ready.{as_wanted, IsSeen}
use Rattle.comp_link.proofs.SeenTold.{fit_of_ok, seen_fits, seen_differs, seen_missing}
use Rattle.comp_link.proofs.seen.seen.Goals as goal

pub returns-in_err-asked-clause-state : goal.returns-in_err-asked-clause-state
returns-in_err-asked-clause-state c = λ bases l d wanted state stands asks. c.filled.ensures.state bases l state

pub returns-in_err-fit-clause-state : goal.returns-in_err-fit-clause-state
returns-in_err-fit-clause-state c = λ bases l d wanted state stands asks.
    let x = some_found (IsExtern c.args.linker.now.types) c.args.asked c.in-Some.asked wanted c.in-Some.is asks in
    c.fit.ensures.state bases l d (asked_of d x.0) (c.filled.ensures.state bases l state) (c.filled.ensures.stay bases d stands) (c.in_ok-asked.ensures.ok bases l d x.0 state stands x.2)

pub returns-in-Fits-clause-told : goal.returns-in-Fits-clause-told
returns-in-Fits-clause-told c = λ bases l d wanted name state stands asks.
    let k = c.filled.new.self in
    let x = some_found (IsExtern c.args.linker.now.types) c.args.asked c.in-Some.asked wanted c.in-Some.is asks in
    let y = asked_of d x.0 in
    let still = c.filled.ensures.stay bases d stands in
    let filled = c.in_ok-asked.ensures.ok bases l d x.0 state stands x.2 in
    let fit = fit_of_ok k.types d y c.fit.result c.in_ok-fit.field-0 c.in_ok-fit.was (c.fit.ensures.ok bases l d y (c.filled.ensures.state bases l state) still filled) in
    subst (λ (m : Linker). IsTold (IsSeen m.types (world_of bases m)) (Ok (Some c.seen_as.result)) (none_missing (lacking (Some d) name wanted) (Ok (as_wanted d wanted)))) (sym c.fit.ensures.rest)
    (seen_fits k.types (world_of bases k) d x.0 name wanted x.1 c.in_ok-fit.field-0 fit c.seen_as.result c.in-Fits.is (λ f. c.seen_as.ensures.stands k.types (world_of bases k) d y still filled f))

pub returns-in-Fits-clause-state : goal.returns-in-Fits-clause-state
returns-in-Fits-clause-state c = λ bases l d wanted state stands asks.
    let x = some_found (IsExtern c.args.linker.now.types) c.args.asked c.in-Some.asked wanted c.in-Some.is asks in
    c.fit.ensures.state bases l d (asked_of d x.0) (c.filled.ensures.state bases l state) (c.filled.ensures.stay bases d stands) (c.in_ok-asked.ensures.ok bases l d x.0 state stands x.2)

pub returns-in-Missing-clause-told : goal.returns-in-Missing-clause-told
returns-in-Missing-clause-told c = λ bases l d wanted name state stands asks.
    let k = c.filled.new.self in
    let x = some_found (IsExtern c.args.linker.now.types) c.args.asked c.in-Some.asked wanted c.in-Some.is asks in
    let y = asked_of d x.0 in
    let fit = fit_of_ok k.types d y c.fit.result c.in_ok-fit.field-0 c.in_ok-fit.was (c.fit.ensures.ok bases l d y (c.filled.ensures.state bases l state) (c.filled.ensures.stay bases d stands) (c.in_ok-asked.ensures.ok bases l d x.0 state stands x.2)) in
    let now = subst (λ (m : Linker). IsFit m.types d y c.in_ok-fit.field-0) (sym c.fit.ensures.rest) fit in
    seen_missing c.fit.new.self.types (world_of bases k) d x.0 name wanted x.1 c.in_ok-fit.field-0 now c.in-Missing.number c.missing_number.result c.in-Missing.is c.missing_number.ensures

pub returns-in-Missing-clause-state : goal.returns-in-Missing-clause-state
returns-in-Missing-clause-state c = λ bases l d wanted state stands asks.
    let x = some_found (IsExtern c.args.linker.now.types) c.args.asked c.in-Some.asked wanted c.in-Some.is asks in
    c.fit.ensures.state bases l d (asked_of d x.0) (c.filled.ensures.state bases l state) (c.filled.ensures.stay bases d stands) (c.in_ok-asked.ensures.ok bases l d x.0 state stands x.2)

pub returns-in-Differs-clause-told : goal.returns-in-Differs-clause-told
returns-in-Differs-clause-told c = λ bases l d wanted name state stands asks.
    let k = c.filled.new.self in
    let x = some_found (IsExtern c.args.linker.now.types) c.args.asked c.in-Some.asked wanted c.in-Some.is asks in
    let y = asked_of d x.0 in
    let fit = fit_of_ok k.types d y c.fit.result c.in_ok-fit.field-0 c.in_ok-fit.was (c.fit.ensures.ok bases l d y (c.filled.ensures.state bases l state) (c.filled.ensures.stay bases d stands) (c.in_ok-asked.ensures.ok bases l d x.0 state stands x.2)) in
    subst (λ (m : Linker). IsTold (IsSeen m.types (world_of bases m)) (Ok None) (none_missing (lacking (Some d) name wanted) (Ok (as_wanted d wanted)))) (sym c.fit.ensures.rest)
    (seen_differs k.types (world_of bases k) d x.0 name wanted x.1 c.in_ok-fit.field-0 fit c.in-Differs.is)

pub returns-in-Differs-clause-state : goal.returns-in-Differs-clause-state
returns-in-Differs-clause-state c = λ bases l d wanted state stands asks.
    let x = some_found (IsExtern c.args.linker.now.types) c.args.asked c.in-Some.asked wanted c.in-Some.is asks in
    c.fit.ensures.state bases l d (asked_of d x.0) (c.filled.ensures.state bases l state) (c.filled.ensures.stay bases d stands) (c.in_ok-asked.ensures.ok bases l d x.0 state stands x.2)

pub returns-in_err-fit-clause-grows : goal.returns-in_err-fit-clause-grows
returns-in_err-fit-clause-grows c = subst (λ (m : Linker). Grows c.args.linker.now.types m.types) (sym c.fit.ensures.rest) c.filled.ensures.grows

pub returns-in-Fits-clause-grows : goal.returns-in-Fits-clause-grows
returns-in-Fits-clause-grows c = subst (λ (m : Linker). Grows c.args.linker.now.types m.types) (sym c.fit.ensures.rest) c.filled.ensures.grows

pub returns-in-Missing-clause-grows : goal.returns-in-Missing-clause-grows
returns-in-Missing-clause-grows c = subst (λ (m : Linker). Grows c.args.linker.now.types m.types) (sym c.fit.ensures.rest) c.filled.ensures.grows

pub returns-in-Differs-clause-grows : goal.returns-in-Differs-clause-grows
returns-in-Differs-clause-grows c = subst (λ (m : Linker). Grows c.args.linker.now.types m.types) (sym c.fit.ensures.rest) c.filled.ensures.grows

use Rattle.std.proofs.Common.{◌∙◌, [], refl, sym, subst, Some}
use Rattle.comp_graph.specs.Closed.{Extern}
use Rattle.link_spec.specs.Brought.{moved_extern, found_for}
use Rattle.link_types.specs.Table.{Table, IsExtern, Grows}
use Rattle.link_types.proofs.TypesGrow.{grows_refl}
use Rattle.link_instances.proofs.Growing.{stands_stays}
use Rattle.link_state.specs.State.{world_of}
use Rattle.link_state.proofs.Filling.{as_it_is, filled_some, empty_list, some_list}
use Rattle.link_state.proofs.States.{same_world, types_grow}
use Rattle.link_state.proofs.linker.Linker.filled.Goals as goal

pub returns-then-is_empty-clause-ok : goal.returns-then-is_empty-clause-ok
returns-then-is_empty-clause-ok c = λ bases l d x state stands asks.
    let k = c.args.self.now in
    let found = c.as_slice-given.ensures.value ∙ c.in_ok-found.ensures.ok (world_of bases k) d x state.instances stands asks in
    let none = empty_list c.as_slice-given.result.now (sym c.is_empty.ensures ∙ c.if-is_empty.true) in
    subst (λ (y : Extern). IsExtern c.found_for.new.types c.args.asked y) (sym (as_it_is (found_for (Some d) [] x) x (sym found ∙ none))) (rw c.found_for.ensures.same asks)

pub returns-clause-ok : goal.returns-clause-ok
returns-clause-ok c = λ bases l d x state stands asks.
    let k = c.args.self.now in
    let found = c.as_slice-given.ensures.value ∙ c.in_ok-found.ensures.ok (world_of bases k) d x state.instances stands asks in
    let some = some_list c.as_slice-given.result.now (sym c.is_empty.ensures ∙ c.if-is_empty.false) in
    subst (λ (y : Extern). IsExtern c.moved_extern.new.types c.in_ok-moved_extern.field-0 y) (sym (filled_some c.as_slice-given.result.now (found_for (Some d) [] x) x found some))
    (c.in_ok-moved_extern.ensures.ok x (rw c.found_for.ensures.same asks))

pub returns-clause-state : goal.returns-clause-state
returns-clause-state c = λ bases l h.
    let k = c.args.self.now in
    let types = c.moved_extern.new.types in
    types_grow bases k (record k { types = types }) l (subst (λ (t : Table). Grows t types) c.found_for.ensures.same c.moved_extern.ensures.grows) refl h

pub returns-in_err-moved_extern-clause-state : goal.returns-in_err-moved_extern-clause-state
returns-in_err-moved_extern-clause-state c = λ bases l h.
    let k = c.args.self.now in
    let types = c.moved_extern.new.types in
    types_grow bases k (record k { types = types }) l (subst (λ (t : Table). Grows t types) c.found_for.ensures.same c.moved_extern.ensures.grows) refl h

pub returns-clause-stay : goal.returns-clause-stay
returns-clause-stay c = λ bases d h.
    let k = c.args.self.now in
    let types = c.moved_extern.new.types in
    stands_stays k.types types (world_of bases k) (world_of bases k) (subst (λ (t : Table). Grows t types) c.found_for.ensures.same c.moved_extern.ensures.grows) (same_world (world_of bases k)) c.args.given d h

pub returns-in_err-moved_extern-clause-stay : goal.returns-in_err-moved_extern-clause-stay
returns-in_err-moved_extern-clause-stay c = λ bases d h.
    let k = c.args.self.now in
    let types = c.moved_extern.new.types in
    stands_stays k.types types (world_of bases k) (world_of bases k) (subst (λ (t : Table). Grows t types) c.found_for.ensures.same c.moved_extern.ensures.grows) (same_world (world_of bases k)) c.args.given d h

pub returns-clause-grows : goal.returns-clause-grows
returns-clause-grows c = subst (λ (t : Table). Grows t c.moved_extern.new.types) c.found_for.ensures.same c.moved_extern.ensures.grows

pub returns-in_err-moved_extern-clause-grows : goal.returns-in_err-moved_extern-clause-grows
returns-in_err-moved_extern-clause-grows c = subst (λ (t : Table). Grows t c.moved_extern.new.types) c.found_for.ensures.same c.moved_extern.ensures.grows

pub returns-then-is_empty-clause-grows : goal.returns-then-is_empty-clause-grows
returns-then-is_empty-clause-grows c = rw c.found_for.ensures.same (grows_refl c.args.self.now.types)

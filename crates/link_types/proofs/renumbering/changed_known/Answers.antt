use Rattle.std.proofs.Common.{ℕ, map}
use Rattle.std.specs.Option.{option_map}
use Rattle.link_values.specs.Resources.{renumbered, renumbered_param, renumbered_func}
use Rattle.link_types.specs.Changes.{change_of}
use Rattle.link_types.proofs.Renumbered.{payload_there}
use Rattle.link_types.proofs.RenumberedMade.{have_types}
use Rattle.link_types.proofs.ValuesStay.{labelled_stay}
use Rattle.link_types.proofs.renumbering.changed_known.Goals as goal

pub func_type-requires : goal.func_type-requires
func_type-requires c =
    let f : ℕ → ℕ = change_of c.args.how.change c.args.how.depth in
    let old = c.changed_params.new.types in
    let new = c.changed_part.new.types in
    let all = map (renumbered_param f) c.args.known.now.params in
    let made = labelled_stay old new c.changed_part.ensures.grows c.in_ok-params.params.items all (rw c.as_slice.ensures at c.in_ok-params.ensures.ok) in (
      rw c.deref.ensures.value (have_types f new.values c.in_ok-params.params.items all made),
      payload_there f new.values c.in_ok-returned.returned (option_map (renumbered f) c.args.known.now.result) c.in_ok-returned.ensures.ok,
    )

pub returns-clause-ok : goal.returns-clause-ok
returns-clause-ok c =
    let f : ℕ → ℕ = change_of c.args.how.change c.args.how.depth in
    let old = c.changed_params.new.types in
    let new = c.changed_part.new.types in
    let all = map (renumbered_param f) c.args.known.now.params in
    let made = labelled_stay old new c.changed_part.ensures.grows c.in_ok-params.params.items all (rw c.as_slice.ensures at c.in_ok-params.ensures.ok) in
    c.in_ok-func_type.ensures.ok (renumbered_func f c.args.known.now) (rw c.deref.ensures.value made, c.in_ok-returned.ensures.ok)

-- The number of a type tells it, where no type stands twice.
use Rattle.std.proofs.Common.{◌∙◌, ap, Bool}
use Rattle.std.specs.Prelude.{nat_eq}
use Rattle.res_handles.specs.Calls.{view_at}
use Rattle.res_handles.specs.Ends.{end_in, end_type_at}
use Rattle.value_lift.proofs.Lends.{numbers_tell, told_by_number}
use Rattle.value_lift.proofs.indices.numbered_end.Goals as goal

pub returns-clause-value : goal.returns-clause-value
returns-clause-value g c =
    c.lift_end.ensures.told nat_eq numbers_tell
    ∙ ap (λ (b : Bool). end_in (view_at g.E.Entry.view c.args.handles.now.slots c.args.index) b)
    (told_by_number c.args.t.now.types c.number-number.result c.args.t.now.val_type (end_type_at g.E.Entry.end_type c.args.handles.now.slots c.args.index) c.requires c.number-number.ensures.there)

use Rattle.value_lower.specs.Tables.{IsEntry}
use Rattle.copy_engine.specs.Hosted.{hosted_rooms}
use Rattle.lowering_laws.proofs.Followed.{followed_over}
use Rattle.value_laws.proofs.Arrived.{stored_arrive, lists_arrive, placed_arrive, lowered_arrive}
use Rattle.value_laws.proofs.Tables.{store_has}
use Rattle.value_laws.proofs.laws.elements_arrive.Goals as goal

pub returns-clause-over : goal.returns-clause-over
returns-clause-over g c = λ to task types. followed_over (hosted_rooms g.E.Entry.view (IsEntry g.E.Entry.made g.E.Entry.made_end task types) to)

pub returns-clause-stored : goal.returns-clause-stored
returns-clause-stored g c = λ to task types home.
    stored_arrive (hosted_rooms g.E.Entry.view (IsEntry g.E.Entry.made g.E.Entry.made_end task types) to) (λ p. p.slots) (IsEntry g.E.Entry.made g.E.Entry.made_end task types)
    (store_has g.E.Entry.view (IsEntry g.E.Entry.made g.E.Entry.made_end task types) to) home

pub returns-clause-lists : goal.returns-clause-lists
returns-clause-lists g c = λ to task types home.
    lists_arrive (hosted_rooms g.E.Entry.view (IsEntry g.E.Entry.made g.E.Entry.made_end task types) to) (λ p. p.slots) (IsEntry g.E.Entry.made g.E.Entry.made_end task types)
    (store_has g.E.Entry.view (IsEntry g.E.Entry.made g.E.Entry.made_end task types) to) home

pub returns-clause-placed : goal.returns-clause-placed
returns-clause-placed g c = λ to task types home.
    placed_arrive (hosted_rooms g.E.Entry.view (IsEntry g.E.Entry.made g.E.Entry.made_end task types) to) (λ p. p.slots) (IsEntry g.E.Entry.made g.E.Entry.made_end task types)
    (store_has g.E.Entry.view (IsEntry g.E.Entry.made g.E.Entry.made_end task types) to) home

pub returns-clause-flat : goal.returns-clause-flat
returns-clause-flat g c = λ to task types home.
    lowered_arrive (hosted_rooms g.E.Entry.view (IsEntry g.E.Entry.made g.E.Entry.made_end task types) to) (λ p. p.slots) (IsEntry g.E.Entry.made g.E.Entry.made_end task types)
    (store_has g.E.Entry.view (IsEntry g.E.Entry.made g.E.Entry.made_end task types) to) home

use Rattle.value_lower.specs.Tables.{tabled, IsEntry}
use Rattle.lowering_laws.proofs.Followed.{followed_over}
use Rattle.value_laws.proofs.Arrived.{stored_arrive, lists_arrive, placed_arrive, lowered_arrive}
use Rattle.value_laws.proofs.Tables.{room_has}
use Rattle.value_laws.proofs.laws.entered_values_arrive.Goals as goal

pub returns-clause-over : goal.returns-clause-over
returns-clause-over g c = λ task types. followed_over (tabled g.R.Room.memory g.R.Room.answers g.R.Room.wrote (IsEntry g.E.Entry.made g.E.Entry.made_end task types))

pub returns-clause-stored : goal.returns-clause-stored
returns-clause-stored g c = λ task types home.
    stored_arrive (tabled g.R.Room.memory g.R.Room.answers g.R.Room.wrote (IsEntry g.E.Entry.made g.E.Entry.made_end task types)) (λ p. p.1) (IsEntry g.E.Entry.made g.E.Entry.made_end task types)
    (room_has g.R.Room.memory g.R.Room.answers g.R.Room.wrote (IsEntry g.E.Entry.made g.E.Entry.made_end task types)) home

pub returns-clause-lists : goal.returns-clause-lists
returns-clause-lists g c = λ task types home.
    lists_arrive (tabled g.R.Room.memory g.R.Room.answers g.R.Room.wrote (IsEntry g.E.Entry.made g.E.Entry.made_end task types)) (λ p. p.1) (IsEntry g.E.Entry.made g.E.Entry.made_end task types)
    (room_has g.R.Room.memory g.R.Room.answers g.R.Room.wrote (IsEntry g.E.Entry.made g.E.Entry.made_end task types)) home

pub returns-clause-placed : goal.returns-clause-placed
returns-clause-placed g c = λ task types home.
    placed_arrive (tabled g.R.Room.memory g.R.Room.answers g.R.Room.wrote (IsEntry g.E.Entry.made g.E.Entry.made_end task types)) (λ p. p.1) (IsEntry g.E.Entry.made g.E.Entry.made_end task types)
    (room_has g.R.Room.memory g.R.Room.answers g.R.Room.wrote (IsEntry g.E.Entry.made g.E.Entry.made_end task types)) home

pub returns-clause-flat : goal.returns-clause-flat
returns-clause-flat g c = λ task types home.
    lowered_arrive (tabled g.R.Room.memory g.R.Room.answers g.R.Room.wrote (IsEntry g.E.Entry.made g.E.Entry.made_end task types)) (λ p. p.1) (IsEntry g.E.Entry.made g.E.Entry.made_end task types)
    (room_has g.R.Room.memory g.R.Room.answers g.R.Room.wrote (IsEntry g.E.Entry.made g.E.Entry.made_end task types)) home

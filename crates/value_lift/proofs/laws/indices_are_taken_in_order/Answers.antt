use Rattle.value_lift.proofs.TakenInOrder.{loads_come_to, lists_come_to, words_come_to}
use Rattle.value_lift.proofs.laws.indices_are_taken_in_order.Goals as goal

pub returns-clause-loads : goal.returns-clause-loads
returns-clause-loads g c = λ types. loads_come_to g.E.Entry.view g.E.Entry.made g.E.Entry.end_type types g.met.E.Entry.made_is_seen

pub returns-clause-lists : goal.returns-clause-lists
returns-clause-lists g c = λ types. lists_come_to g.E.Entry.view g.E.Entry.made g.E.Entry.end_type types g.met.E.Entry.made_is_seen

pub returns-clause-words : goal.returns-clause-words
returns-clause-words g c = λ types. words_come_to g.E.Entry.view g.E.Entry.made g.E.Entry.end_type types g.met.E.Entry.made_is_seen

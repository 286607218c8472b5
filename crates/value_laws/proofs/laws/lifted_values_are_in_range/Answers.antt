use Rattle.value_laws.proofs.InRange.{loads_in_range, lists_in_range, words_in_range}
use Rattle.value_laws.proofs.laws.lifted_values_are_in_range.Goals as goal

pub returns-clause-loads : goal.returns-clause-loads
returns-clause-loads g c = λ types. loads_in_range g.E.Entry.view g.E.Entry.made g.E.Entry.end_type types g.met.E.Entry.made_is_seen

pub returns-clause-lists : goal.returns-clause-lists
returns-clause-lists g c = λ types. lists_in_range g.E.Entry.view g.E.Entry.made g.E.Entry.end_type types g.met.E.Entry.made_is_seen

pub returns-clause-words : goal.returns-clause-words
returns-clause-words g c = λ types. words_in_range g.E.Entry.view g.E.Entry.made g.E.Entry.end_type types g.met.E.Entry.made_is_seen

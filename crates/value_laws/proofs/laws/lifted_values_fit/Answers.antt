use Rattle.value_laws.proofs.Lifted.{loads_fit, lists_fit, words_fit}
use Rattle.value_laws.proofs.laws.lifted_values_fit.Goals as goal

pub returns-clause-loads : goal.returns-clause-loads
returns-clause-loads g c = λ types. loads_fit g.E.Entry.view g.E.Entry.made g.E.Entry.end_type types g.met.E.Entry.made_is_seen

pub returns-clause-lists : goal.returns-clause-lists
returns-clause-lists g c = λ types. lists_fit g.E.Entry.view g.E.Entry.made g.E.Entry.end_type types g.met.E.Entry.made_is_seen

pub returns-clause-words : goal.returns-clause-words
returns-clause-words g c = λ types. words_fit g.E.Entry.view g.E.Entry.made g.E.Entry.end_type types g.met.E.Entry.made_is_seen

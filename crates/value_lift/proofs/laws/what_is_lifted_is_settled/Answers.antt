use Rattle.value_lift.proofs.Settling.{load_settled, list_settled, words_settled}
use Rattle.value_lift.proofs.laws.what_is_lifted_is_settled.Goals as goal

pub returns-clause-loads : goal.returns-clause-loads
returns-clause-loads g c = λ types type memory place k. load_settled g.E.Entry.view g.E.Entry.made g.E.Entry.end_type types k g.met.E.Entry.made_is_seen type memory place

pub returns-clause-lists : goal.returns-clause-lists
returns-clause-lists g c = λ types type memory place count k. list_settled g.E.Entry.view g.E.Entry.made g.E.Entry.end_type types k g.met.E.Entry.made_is_seen type memory place count

pub returns-clause-words : goal.returns-clause-words
returns-clause-words g c = λ types type memory words k. words_settled g.E.Entry.view g.E.Entry.made g.E.Entry.end_type types k g.met.E.Entry.made_is_seen type memory words

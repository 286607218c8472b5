use Rattle.std.proofs.Common.{◌∙◌, ℕ, ap, sym, Some}
use Rattle.link_meanings.specs.Levels.{enclosed_types}
use Rattle.link_meanings.proofs.Labelled.{resource_stands}
use Rattle.link_meanings.proofs.values.resource_of.Goals as goal

pub returns-in_ok-graph_number-in-Some : goal.returns-in_ok-graph_number-in-Some
returns-in_ok-graph_number-in-Some c = λ t closed h.
    ap (λ (n : ℕ). Some n) c.in_ok-graph_number-in-Some.ensures ∙ sym c.in-Some.is ∙ c.resource_number.ensures ∙ resource_stands t (enclosed_types c.args.scope.now) closed c.args.index h

pub returns-in-None : goal.returns-in-None
returns-in-None c = λ t closed h. sym c.in-None.is ∙ c.resource_number.ensures ∙ resource_stands t (enclosed_types c.args.scope.now) closed c.args.index h

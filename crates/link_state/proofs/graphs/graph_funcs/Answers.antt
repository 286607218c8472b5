use Rattle.std.proofs.Common.{◌≡◌, ℕ, List, map, sym, subst}
use Rattle.link_spec.specs.Definitions.{Exports}
use Rattle.link_spec.specs.Linked.{callables, export_of, lift_of}
use Rattle.link_instances.specs.declared.references.DefinitionRef.{DefinitionRef}
use Rattle.link_instances.specs.References.{IsListing}
use Rattle.link_state.proofs.Calling.{root_called}
use Rattle.link_state.proofs.graphs.graph_funcs.Goals as goal

pub returns-clause-exports : goal.returns-clause-exports
returns-clause-exports c = λ l stands.
    root_called c.args.linker.now l (λ (given : Exports). c.in_ok-funcs.funcs.exports.items ≡ map export_of (callables given)) c.requires.root c.requires.live stands c.scope.result.now c.scope.ensures
    (λ w given are is. c.in_ok-funcs.ensures.exports w given are (subst (λ (es : List (ℕ × DefinitionRef)). IsListing c.args.linker.now.types w es given) (sym c.entries-entries.ensures) is))

pub returns-clause-lifts : goal.returns-clause-lifts
returns-clause-lifts c = λ l stands.
    root_called c.args.linker.now l (λ (given : Exports). c.in_ok-funcs.funcs.lifts.items ≡ map lift_of (callables given)) c.requires.root c.requires.live stands c.scope.result.now c.scope.ensures
    (λ w given are is. c.in_ok-funcs.ensures.lifts w given are (subst (λ (es : List (ℕ × DefinitionRef)). IsListing c.args.linker.now.types w es given) (sym c.entries-entries.ensures) is))

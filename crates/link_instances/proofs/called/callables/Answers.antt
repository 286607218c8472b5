use Rattle.std.proofs.Common.{◌∙◌, List, ap, map, sym, subst}
use Rattle.syntax_trees.specs.declared.exports.Export.{Export}
use Rattle.comp_graph.specs.Passed.{AreExportTypes}
use Rattle.link_spec.specs.Linked.{export_of, lift_of}
use Rattle.link_instances.proofs.Calling.{exports_typed}
use Rattle.link_instances.proofs.called.callables.Goals as goal

pub returns-clause-exports : goal.returns-clause-exports
returns-clause-exports c = λ w given are is. c.in_ok-exports.ensures ∙ ap (map export_of) (c.in_ok-listed.ensures.funcs w given are is)

pub returns-clause-lifts : goal.returns-clause-lifts
returns-clause-lifts c = λ w given are is. c.in_ok-lifts.ensures ∙ ap (map lift_of) (c.deref.ensures.value ∙ c.in_ok-listed.ensures.funcs w given are is)

pub returns-clause-typed : goal.returns-clause-typed
returns-clause-typed c =
    subst (λ (exports : List Export). AreExportTypes c.args.types.now.funcs c.in_ok-listed.listed.types.items exports) (sym c.in_ok-exports.ensures)
    (exports_typed c.args.types.now.funcs c.in_ok-listed.listed.types.items c.in_ok-listed.listed.funcs.items c.in_ok-listed.ensures.typed)

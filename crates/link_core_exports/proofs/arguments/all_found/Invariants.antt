-- What is left of the imports is found behind those that are found.
use Rattle.std.proofs.Common.{◌≡◌, drop}
use Rattle.link_spec.specs.Computed.{all_found}
use Rattle.link_core_exports.proofs.Behind.{behind}
use Rattle.link_core_exports.proofs.arguments.all_found.Given as goal

abbrev pub invariant-loop-import : goal.invariant-loop-import
invariant-loop-import l = all_found l.fn.instances l.fn.arguments l.imports ≡ behind l.items.items (all_found l.fn.instances l.fn.arguments (drop l.import-index l.imports))

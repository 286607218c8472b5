-- What is left of the exports is there behind those that are; these have the names that are read.
use Rattle.std.proofs.Common.{◌≡◌, drop, take, map}
use Rattle.link_spec.specs.Spaces.{Spaces}
use Rattle.link_spec.specs.Computed.{inline_exports}
use Rattle.link_types.specs.Table.{Table}
use Rattle.link_instances.specs.References.{World}
use Rattle.link_core_exports.proofs.Behind.{behind}
use Rattle.link_state.specs.State.{IsScope}
use Rattle.link_state.proofs.core_instances.inline_exports.Given as goal

abbrev pub invariant-loop-export : goal.invariant-loop-export
invariant-loop-export l = record {
  told : (t : Table) (w : World) (s : Spaces) → IsScope t w l.fn.scope s → inline_exports s l.read ≡ behind l.exports.items (inline_exports s (drop l.export-index l.read));
  names : map (λ e. e.name) l.exports.items ≡ map (λ e. e.name) (take l.export-index l.read);
}

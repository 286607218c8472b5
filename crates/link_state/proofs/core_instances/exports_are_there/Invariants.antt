-- What is left of the exports decides.
use Rattle.std.proofs.Common.{◌≡◌, drop, nat_lt}
use Rattle.std.specs.List.{list_all}
use Rattle.comp_tree.specs.declared.core_instances.CoreInlineExport.{CoreInlineExport}
use Rattle.link_spec.specs.Spaces.{Spaces, core_size}
use Rattle.link_types.specs.Table.{Table}
use Rattle.link_instances.specs.References.{World}
use Rattle.link_state.specs.State.{IsScope}
use Rattle.link_state.proofs.core_instances.exports_are_there.Given as goal

abbrev pub invariant-loop-export : goal.invariant-loop-export
invariant-loop-export l = (t : Table) (w : World) (s : Spaces) → IsScope t w l.fn.scope s → list_all (λ (e : CoreInlineExport). nat_lt e.index (core_size s e.sort)) l.read ≡ list_all (λ (e : CoreInlineExport). nat_lt e.index (core_size s e.sort)) (drop l.export-index l.read)

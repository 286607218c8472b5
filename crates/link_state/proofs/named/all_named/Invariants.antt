-- The definitions so far, under their names.
use Rattle.std.proofs.Common.{◌≡◌, List, drop}
use Rattle.link_spec.specs.Definitions.{Exports, EmptyInstance}
use Rattle.link_spec.specs.Spaces.{Spaces, Linking}
use Rattle.link_spec.specs.Computed.{exports_behind}
use Rattle.link_instances.specs.References.{IsListing}
use Rattle.link_state.specs.State.{world_of, IsAt}
use Rattle.link_state.proofs.named.all_named.Given as goal

abbrev pub invariant-loop-definition : goal.invariant-loop-definition
invariant-loop-definition l = (l.linker.scopes ≡ l.fn.linker.scopes) × ((bases : List Exports) (k : Linking) (s : Spaces) → IsAt bases l.fn.linker l.n k s
    → IsAt bases l.linker l.n k s
    × ((before : Exports) × IsListing l.linker.types (world_of bases l.linker) l.listing before × (exports_behind s EmptyInstance l.read ≡ exports_behind s before (drop l.definition-index l.read))))

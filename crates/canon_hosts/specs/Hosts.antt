-- The store of a graph before anything is instantiated (Core 2.0, section 4.2.3; Component Model, CanonicalABI.md, "Canonical Definitions"): it
-- has the core functions that the Canonical ABI makes, each with its number as its address, and nothing else.
use Rattle.std.specs.Prelude.{map}
use Rattle.wasm_store.specs.Store.{Store, Host}
use Rattle.wasm_store.specs.Instantiation.{empty}
use Rattle.comp_graph.specs.Graph.{Graph, canon_type}

abbrev pub first_store : Graph → Store
first_store g = record empty { funcs = map (λ c. Host (canon_type c)) g.canons }

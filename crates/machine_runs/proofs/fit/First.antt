-- The store of a graph before anything is instantiated is typed: it has functions of the host alone.
use Rattle.std.proofs.Common.{List, [], ◌∷◌, map}
use Rattle.std.specs.List.{AllByRecursion}
use Rattle.wasm_store.specs.Store.{Host, Store}
use Rattle.wasm_store.specs.Typed.{StoreTyped, FunctionTyped}
use Rattle.comp_graph.specs.declared.graph.CanonFunc.{CanonFunc}
use Rattle.comp_graph.specs.Graph.{Graph, canon_type}
use Rattle.canon_hosts.specs.Hosts.{first_store}

hosts_typed : (s : Store) (cs : List CanonFunc) → AllByRecursion (FunctionTyped s) (map (λ c. Host (canon_type c)) cs)
hosts_typed s [] = tt
hosts_typed s (c ∷ cs) = (tt, hosts_typed s cs)

pub first_typed : (g : Graph) → StoreTyped (first_store g)
first_typed g = record { funcs = hosts_typed (first_store g) g.canons; tables = tt; memories = tt; globals = tt }

-- Functions of the host of the types of core functions.
use Rattle.std.proofs.Common.{◌≡◌, List, [], ◌∷◌, map, refl, ap, ◌∙◌}
use Rattle.syntax_trees.specs.declared.module_types.FuncType.{FuncType}
use Rattle.wasm_store.specs.Store.{Function, Store, Host}
use Rattle.wasm_store.specs.Instantiation.{empty}
use Rattle.comp_graph.specs.declared.graph.CanonFunc.{CanonFunc}
use Rattle.comp_graph.specs.Graph.{Graph, canon_type}
use Rattle.canon_hosts.specs.Hosts.{first_store}

map_twice : (cs : List CanonFunc) → map Host (map canon_type cs) ≡ map (λ c. Host (canon_type c)) cs
map_twice [] = refl
map_twice (c ∷ cs) = ap (λ (fs : List Function). Host (canon_type c) ∷ fs) (map_twice cs)

pub hosts_are : (g : Graph) (s : Store) (types : List FuncType) → s ≡ record empty { funcs = map Host types } → types ≡ map canon_type g.canons → s ≡ first_store g
hosts_are g s types h e =
    h
    ∙ ap (λ (ts : List FuncType). (let s : Store = record empty { funcs = map Host ts } in s)) e
    ∙ ap (λ (fs : List Function). (let s : Store = record empty { funcs = fs } in s)) (map_twice g.canons)

-- The graph of what is linked: the functions of the root that can be called, and what else it has.
use Rattle.std.proofs.Common.{◌≡◌, ◌<◌, List, length, map, sym, ◌∙◌, ap, subst, Option}
use Rattle.comp_graph.specs.Graph.{Graph}
use Rattle.link_spec.specs.Definitions.{Exports}
use Rattle.link_spec.specs.Spaces.{Spaces, Linking}
use Rattle.link_spec.specs.Linked.{callables, export_of, lift_of, exports_or, exports_at, graph_of}
use Rattle.link_instances.specs.References.{World, IsListing}
use Rattle.link_instances.specs.Instances.{AreInstances}
use Rattle.link_state.specs.declared.scope.Scope.{Scope}
use Rattle.link_state.specs.declared.linker.Linker.{Linker}
use Rattle.link_state.specs.State as state
use Rattle.link_state.specs.State.{world_of, IsScope, IsLive, IsAt}
use Rattle.link_state.proofs.States.{as_many, spaces_at}

pub root_called : (k : Linker) (l : Linking) (P : Exports → Type 0) → 0 < length k.scopes.items → IsLive k 0 → state.Stands k l → (scope : Scope)
    → ((bases : List Exports) (l : Linking) (s : Spaces) → IsAt bases k 0 l s → IsScope k.types (world_of bases k) scope s)
    → ((w : World) (given : Exports) → AreInstances k.types w k.instances → IsListing k.types w scope.exports given → P given)
    → P (exports_at l 0)
root_called k l P root live (bases, h) scope is called =
    let s = spaces_at bases k l 0 h root live in
    let here : exports_at l 0 ≡ s.0.exports = ap (λ (o : Option Spaces). exports_or o) s.1.there in
    subst P (sym here) (called (world_of bases k) s.0.exports h.instances (is bases l s.0 s.1).exports)

pub graph_told : (k : Linker) (l : Linking) (g : Graph) → state.Stands k l → g.plan ≡ k.plan.items → g.instance_count ≡ length k.scopes.items → g.cores ≡ k.cores.makes
    → g.canons ≡ k.canons.items → g.resources ≡ k.resources.items → g.exports ≡ map export_of (callables (exports_at l 0)) → g.lifts ≡ map lift_of (callables (exports_at l 0)) → g.end_types ≡ l.end_types → g ≡ graph_of l
graph_told k l g (bases, h) plan count cores canons resources exports lifts ends =
    let a : g.plan ≡ l.plan = plan ∙ sym h.plan in
    let b : g.instance_count ≡ length l.scopes = count ∙ sym (as_many bases k l h) in
    let c : g.cores ≡ l.cores = cores ∙ sym h.cores in
    let d : g.canons ≡ l.canons = canons ∙ sym h.canons in
    let e : g.resources ≡ l.resources = resources ∙ sym h.resources in
    λ x. (let made : Graph = record { plan = a x; instance_count = b x; cores = c x; canons = d x; resources = e x; exports = exports x; lifts = lifts x; end_types = ends x } in made)

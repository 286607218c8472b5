use Rattle.std.proofs.Common.{◌≡◌, ◌∙◌, ◌+◌, ℕ, suc, List, [], ◌∷◌, ◌++◌, length, sym, ap, arith}
use Rattle.comp_graph.specs.Closed.{Resource}
use Rattle.comp_graph.specs.declared.graph.Resource as defined
use Rattle.link_spec.specs.Definitions.{AType}
use Rattle.link_spec.specs.Spaces.{Linking}
use Rattle.link_state.specs.declared.linker.Linker.{Linker}
use Rattle.link_state.specs.State.{IsState, IsAt}
use Rattle.link_state.proofs.linker.Linker.add_resource.Goals as goal

pub returns-clause-ok : goal.returns-clause-ok
returns-clause-ok c bases l s at =
    let k = c.args.self.now in
    let r : defined.Resource = record { instance = c.args.n; destructor = c.args.destructor } in
    let more : Linking = record l { resources = l.resources ++ r ∷ [] } in
    let grown : Linker = record k { resources = c.push.new.self } in
    let pushed : l.resources ++ r ∷ [] ≡ c.push.new.self.items =
    ap (λ (rs : List defined.Resource). rs ++ r ∷ []) at.state.resources
    ∙ ap (λ (n : ℕ). k.resources.items ++ (let x : defined.Resource = record { instance = n; destructor = c.args.destructor } in x) ∷ []) (sym c.in_ok-instance.ensures)
    ∙ sym c.in_ok-push.ensures.items in
    let state : IsState bases grown more = record {
      instances = at.state.instances;
      scopes = at.state.scopes;
      cores = at.state.cores;
      canons = at.state.canons;
      canon_types = at.state.canon_types;
      resources = pushed;
      plan = at.state.plan;
      ends = at.state.ends;
      room = at.state.room;
    } in
    let here : IsAt bases grown c.args.n more s = record { state = state; there = at.there; live = at.live } in
    let many : c.len-before.result ≡ length l.resources = c.len-before.ensures ∙ k.resources.ok.0 ∙ ap length (sym at.state.resources) in
    let number : c.len-before.result + 1 ≡ suc (length l.resources) = omega (arith, many) in
    c.in_ok-add.ensures.ok bases more s (AType (Resource (suc (length l.resources)))) here number

use Rattle.std.proofs.Common.{◌≡◌, Bool, map, Some, ◌∙◌, ◌∷◌, ◌++◌, [], refl, sym, ap, subst, ℕ, List, None}
use Rattle.std.specs.List.{slice_get, AllZip}
use Rattle.link_spec.specs.Spaces.{new_spaces, Action, Begin}
use Rattle.link_instances.specs.References.{World}
use Rattle.link_core_exports.specs.Cores.{CoreLists}
use Rattle.link_state.specs.declared.scope.Scope.{Scope}
use Rattle.link_state.specs.State.{IsScope, IsKept}
use Rattle.link_state.proofs.Growth.{kept_whole}
use Rattle.link_state.proofs.linker.Linker.new.Goals as goal

pub returns-clause-ok : goal.returns-clause-ok
returns-clause-ok c =
    let w : World = record { components = c.new-6.result.items; bases = []; modules = c.new-7.result.modules } in
    let root : IsScope c.new-4.result w c.new-3.result (new_spaces None []) =
    subst (λ (around : List ℕ). IsScope c.new-4.result w c.new-3.result (new_spaces None around)) (c.in_ok-around.ensures ∙ c.new.ensures) (c.new-3.ensures.begun c.new-4.result w None tt) in
    record {
      instances = c.new-5.ensures c.new-4.result w refl;
      scopes = subst (λ (scopes : List Scope). AllZip (IsKept c.new-4.result w) scopes (new_spaces None [] ∷ []))
          (sym (c.in_ok-push-2.ensures.items ∙ ap (λ (before : List Scope). before ++ c.new-3.result ∷ []) c.new-scopes.ensures.items)) (kept_whole c.new-4.result w c.new-3.result (new_spaces None []) root, tt);
      cores = ap (λ (cs : CoreLists). cs.makes) (sym c.new-7.ensures);
      canons = sym c.new-8.ensures.items;
      canon_types = rw (c.new-9.ensures.items, c.new-8.ensures.items) tt;
      resources = sym c.new-10.ensures.items;
      plan = sym (c.in_ok-push.ensures.items ∙ ap (λ (before : List Action). before ++ Begin 0 ∷ []) c.new-plan.ensures.items);
      ends = rw c.new-11.ensures tt;
      room = refl;
    }

pub returns-clause-live : goal.returns-clause-live
returns-clause-live c =
    let items : c.push-2.new.self.items ≡ c.new-3.result ∷ [] = c.in_ok-push-2.ensures.items ∙ ap (λ (before : List Scope). before ++ c.new-3.result ∷ []) c.new-scopes.ensures.items in
    ap (λ (scopes : List Scope). slice_get (map (λ (scope : Scope). scope.ended) scopes) 0) items ∙ ap (λ (b : Bool). Some b) c.new-3.ensures.ended

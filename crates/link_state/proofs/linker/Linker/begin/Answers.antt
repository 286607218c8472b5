use Rattle.std.proofs.Common.{◌≡◌, ◌∙◌, refl, sym, ap, subst, Bool, ℕ, List, [], ◌∷◌, ◌++◌, length, map, Some}
use Rattle.std.specs.List.{AllZip}
use Rattle.std.proofs.lemmas.List.{map-append}
use Rattle.link_spec.specs.Spaces.{new_spaces}
use Rattle.link_state.specs.declared.scope.Scope.{Scope}
use Rattle.link_state.specs.State.{world_of, IsScope, IsKept, ended}
use Rattle.link_state.proofs.Zips.{zips_more, as_long}
use Rattle.link_state.proofs.Growth.{kept_whole}
use Rattle.link_state.proofs.linker.Linker.begin.Goals as goal

pub returns-clause-ok : goal.returns-clause-ok
returns-clause-ok c bases l closure given h around is =
    let k = c.args.self.now in
    let w = world_of bases k in
    let number : c.in_ok-number.number ≡ length l.scopes = c.in_ok-number.ensures ∙ c.len.ensures ∙ k.scopes.ok.0 ∙ as_long (IsKept k.types w) k.scopes.items l.scopes h.scopes in
    let begun : IsScope k.types w c.new.result (new_spaces (Some given) closure.around) =
    subst (λ (numbers : List ℕ). IsScope k.types w c.new.result (new_spaces (Some given) numbers)) (sym around) (c.new.ensures.begun k.types w (Some given) is) in
    record {
      instances = h.instances;
      scopes = subst (λ (scopes : List Scope). AllZip (IsKept k.types w) scopes (l.scopes ++ new_spaces (Some given) closure.around ∷ [])) (sym {A = List Scope} c.in_ok-push.ensures.items)
          (zips_more (IsKept k.types w) k.scopes.items l.scopes c.new.result (new_spaces (Some given) closure.around) h.scopes (kept_whole k.types w c.new.result (new_spaces (Some given) closure.around) begun));
      cores = h.cores;
      canons = h.canons;
      canon_types = h.canon_types;
      resources = h.resources;
      plan = rw (h.plan, c.in_ok-push-2.ensures.items, number) refl;
      ends = h.ends;
      room = h.room;
    }

pub returns-clause-live : goal.returns-clause-live
returns-clause-live c =
    let k = c.args.self.now in
    let f = λ (scope : Scope). scope.ended in
    ap (map f) c.in_ok-push.ensures.items ∙ map-append f k.scopes.items (c.new.result ∷ []) ∙ ap (λ (b : Bool). ended k ++ b ∷ []) c.new.ensures.ended

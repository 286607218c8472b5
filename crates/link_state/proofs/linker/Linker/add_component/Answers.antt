use Rattle.std.proofs.Common.{◌≡◌, ◌∙◌, ◌∷◌, ◌++◌, [], refl, sym, ap, ℕ, List}
use Rattle.link_spec.specs.Definitions.{Closure, AComponent}
use Rattle.link_state.proofs.Zips.{last_is}
use Rattle.link_state.proofs.States.{scope_is, components_more}
use Rattle.link_state.proofs.linker.Linker.add_component.Goals as goal

pub returns-clause-ok : goal.returns-clause-ok
returns-clause-ok c bases l s at =
    let k = c.args.self.now in
    let scope = scope_is bases k c.args.n l s c.index.result.now c.index.ensures c.requires at in
    let closure : Closure = record { items = c.args.component.now.items; around = c.args.n ∷ s.around } in
    let around : c.in_ok-around-2.around ≡ c.args.n ∷ s.around =
    c.in_ok-around-2.ensures ∙ c.in_ok-around.ensures ∙ ap (λ (numbers : List ℕ). c.args.n ∷ numbers) (c.as_slice.ensures ∙ c.get.ensures ∙ sym scope.around) in
    let pushed : c.push.new.self.items ≡ k.components.items ++ closure ∷ [] =
    c.in_ok-push.ensures.items ∙ ap (λ (x : Closure). k.components.items ++ x ∷ [])
    (c.new-2.ensures ∙ ap (λ (around : List ℕ). (let x : Closure = record { items = c.args.component.now.items; around = around } in x)) around) in
    c.in_ok-add.ensures.ok bases l s (AComponent closure) (components_more bases k (record k { components = c.push.new.self }) c.args.n l s closure refl pushed at)
    (last_is k.components.items c.push.new.self.items closure c.len-number.result pushed (c.len-number.ensures ∙ k.components.ok.0))

use Rattle.std.proofs.Common.{◌∷◌, ℕ, List, refl, sym, subst, ◌∙◌}
use Rattle.std.specs.List.{AllZip}
use Rattle.std.proofs.lemmas.Result.{IfOk-weaker}
use Rattle.link_spec.specs.Definitions.{Closure, Exports}
use Rattle.link_spec.specs.Spaces as spaces
use Rattle.link_spec.specs.Spaces.{Spaces, Linking, levels_at}
use Rattle.link_spec.specs.Types.{meaning_of}
use Rattle.link_values.specs.declared.refs.TypeRef.{TypeRef}
use Rattle.link_types.specs.Table.{IsType}
use Rattle.link_meanings.specs.declared.levels.Level.{Level}
use Rattle.link_values.specs.declared.meant.Meant.{Meant}
use Rattle.link_meanings.specs.Meant.{IsMeaning}
use Rattle.link_meanings.specs.Levels.{AreLevels}
use Rattle.link_state.specs.declared.scope.Scope.{Scope}
use Rattle.link_state.specs.State.{world_of, IsKept, IsAt}
use Rattle.link_state.proofs.States.{types_grow, scope_is}
use Rattle.comp_link.proofs.types.meaning_at.Goals as goal

pub returns-clause-means : goal.returns-clause-means
returns-clause-means c =
    let k = c.args.linker.now in
    IfOk-weaker c.meaning_of.result
    (λ (m : Meant TypeRef). (closures : List Closure) (around : List spaces.Level) → AreLevels k.types closures c.deref-2.result.now around → IsMeaning (IsType c.meaning_of.new.types) m (meaning_of c.args.def_type.now around))
    (λ (m : Meant TypeRef). (bases : List Exports) (l : Linking) (s : Spaces) → IsAt bases k c.args.n l s → IsMeaning (IsType c.meaning_of.new.types) m (meaning_of c.args.def_type.now (levels_at l (c.args.n ∷ s.around))))
    (λ m h bases l s at.
    let w = world_of bases k in
    let zips = subst (λ (scopes : List Scope). AllZip (IsKept k.types w) scopes l.scopes) (sym c.deref.ensures.value) at.state.scopes in
    let around = c.as_slice-around.ensures ∙ c.get.ensures ∙ sym (scope_is bases k c.args.n l s c.index.result.now c.index.ensures c.requires at).around in
    let levels = subst (λ (around : List ℕ). AreLevels k.types w.components c.in_ok-levels.levels.items (levels_at l (c.args.n ∷ around))) around (c.in_ok-levels.ensures k.types w l zips) in
    h w.components (levels_at l (c.args.n ∷ s.around)) (subst (λ (ls : List Level). AreLevels k.types w.components ls (levels_at l (c.args.n ∷ s.around))) (sym c.deref-2.ensures.value) levels))
    c.meaning_of.ensures.ok

pub returns-clause-at : goal.returns-clause-at
returns-clause-at c = λ bases l s at.
    let k = c.args.linker.now in
    let m = record k { types = c.meaning_of.new.types } in
    record { state = types_grow bases k m l c.meaning_of.ensures.grows refl at.state; there = at.there; live = at.live }

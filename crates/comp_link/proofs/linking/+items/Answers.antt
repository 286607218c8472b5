use Rattle.std.proofs.Common.{◌≡◌, ◌<◌, ◌≤◌, List, length, refl, sym, ◌∙◌, ap, subst, false, arith, rules}
use Rattle.std.specs.Prelude.{Result, Ok}
use Rattle.std.proofs.lemmas.Result.{err_from_is_err_and}
use Rattle.std.proofs.lemmas.List.{length-map}
use Rattle.std.proofs.lemmas.Option.{slice_get_within}
use Rattle.faults.specs.declared.memory.MemoryOr.{MemoryOr}
use Rattle.ca_base.specs.declared.placed.Placed.{Placed}
use Rattle.comp_tree.specs.declared.items.Item.{Item}
use Rattle.link_spec.specs.declared.fault.LinkWhy.{LinkWhy}
use Rattle.link_spec.specs.Definitions.{Closure}
use Rattle.link_spec.specs.Spaces.{Linking}
use Rattle.link_spec.specs.Linked.{begun}
use Rattle.link_spec.specs.Computed.{item_outcome}
use Rattle.link_parts.specs.Told.{IsReason, IsTold}
use Rattle.link_state.specs.declared.instances.Next.{Next}
use Rattle.link_state.specs.declared.instances.Next.TheVariants as next
use Rattle.link_state.specs.declared.scope.Scope.{Scope}
use Rattle.link_state.specs.State.{ended, StayLive, Stands}
use Rattle.link_state.specs.Next.{IsNext}
use Rattle.link_state.specs.Running.{inside}
use Rattle.link_state.proofs.States.{as_many}
use Rattle.link_state.proofs.States.{live_same, before_live, last_live}
use Rattle.comp_link.proofs.Passing.{done, placed_begins, nested_told, nested_refused, goes_on, goes_wrong, goes_last, on_ok}
use Rattle.comp_link.proofs.linking.+items.Goals as goal

pub link_nested-returns-in_err-link_inside-clause-told : goal.link_nested-returns-in_err-link_inside-clause-told
link_nested-returns-in_err-link_inside-clause-told t c = λ bases l s given at reached instance.
    let component : Closure = record { items = c.args.component.now.items; around = c.args.around } in
    let state = c.in_ok-begin.ensures.ok bases l component given at.state refl instance in
    let many = as_many bases c.args.linker.now l at.state in
    let same : c.len-instance.result ≡ length l.scopes = c.len-instance.ensures ∙ c.args.linker.now.scopes.ok.0 ∙ sym many in
    let begins = last_live c.args.linker.now c.begin.new.self c.len-instance.result c.in_ok-begin.ensures.live (c.len-instance.ensures ∙ c.args.linker.now.scopes.ok.0) in
    let told : IsReason {A = Linking} c.in_err-link_inside.field-0.0 (inside c.args.depth (begun l component given) c.len-instance.result c.args.component.now.items) =
    subst (λ (items : List (Placed Item)). IsReason {A = Linking} c.in_err-link_inside.field-0.0 (inside c.args.depth (begun l component given) c.len-instance.result items)) c.as_slice.ensures
    (c.in_err-link_inside.ensures.told bases (begun l component given) state begins reached) in
    let p = err_from_is_err_and c.from_residual-in_err-link_inside.result c.from_residual-in_err-link_inside.ensures.1 in
    rw (p.1, p.2) (nested_refused c.args.depth l c.args.n s component given c.link_inside.new.linker c.link_inside.new.linker c.len-instance.result same c.in_err-link_inside.field-0.0 told)

pub link_nested-returns-clause-told : goal.link_nested-returns-clause-told
link_nested-returns-clause-told t c = λ bases l s given at reached instance.
    let component : Closure = record { items = c.args.component.now.items; around = c.args.around } in
    let state = c.in_ok-begin.ensures.ok bases l component given at.state refl instance in
    let many = as_many bases c.args.linker.now l at.state in
    let same : c.len-instance.result ≡ length l.scopes = c.len-instance.ensures ∙ c.args.linker.now.scopes.ok.0 ∙ sym many in
    let begins = last_live c.args.linker.now c.begin.new.self c.len-instance.result c.in_ok-begin.ensures.live (c.len-instance.ensures ∙ c.args.linker.now.scopes.ok.0) in
    let below : c.args.n < length l.scopes = omega (arith, c.requires, many) in
    let told : IsTold (λ _ last. Stands c.link_inside.new.linker last) done (inside c.args.depth (begun l component given) c.len-instance.result c.args.component.now.items) =
    subst (λ (items : List (Placed Item)). IsTold (λ _ last. Stands c.link_inside.new.linker last) done (inside c.args.depth (begun l component given) c.len-instance.result items)) c.as_slice.ensures
    (c.in_ok-link_inside.ensures.told bases (begun l component given) state begins reached) in
    nested_told c.args.depth l c.args.n s component given c.link_inside.new.linker c.end.new.self at.there (c.in_ok-link_inside.ensures.live c.args.n (before_live c.args.linker.now c.begin.new.self c.args.n c.in_ok-begin.ensures.live at.live)) below c.len-instance.result same told
    (λ others last there. c.in_ok-end.ensures.ok others last s there)

pub link_placed-link_nested-requires : goal.link_placed-link_nested-requires
link_placed-link_nested-requires t c =
    let same : length c.link_item.new.linker.scopes.items ≡ length c.args.linker.now.scopes.items = c.in-Ok-Begins.ensures.scopes in
    (search (rules, arith, c.decreases), omega (arith, c.requires, same))

pub link_placed-returns-in-Ok-Begins-clause-told : goal.link_placed-returns-in-Ok-Begins-clause-told
link_placed-returns-in-Ok-Begins-clause-told t c = λ bases l s at reached.
    let told : IsTold (IsNext c.link_item.new.linker l) (Ok (next.Begins c.in-Ok-Begins.component c.in-Ok-Begins.around c.in-Ok-Begins.arguments)) (item_outcome l c.args.n s c.args.placed.now.item) =
    subst (λ (x : Result Next (MemoryOr LinkWhy)). IsTold (IsNext c.link_item.new.linker l) x (item_outcome l c.args.n s c.args.placed.now.item)) (c.in-Ok-Begins.is ∙ ap (λ (x : Next). (let r : Result Next (MemoryOr LinkWhy) = Ok x in r)) c.in-Ok-Begins.field-0-is)
    (c.link_item.ensures.made bases l s at reached) in
    placed_begins (inside c.args.depth) c.link_item.new.linker l c.args.n s c.args.placed.now.place c.link_nested.new.linker c.link_nested.result c.args.placed.now.item c.in-Ok-Begins.component c.in-Ok-Begins.around c.in-Ok-Begins.arguments at.there (live_same c.args.linker.now c.link_item.new.linker c.args.n c.in-Ok-Begins.ensures.live at.live) reached
    (λ others given here begins instance. c.link_nested.ensures.told others l s given here begins instance) told

pub link_items-returns-in_err-link_placed-clause-told : goal.link_items-returns-in_err-link_placed-clause-told
link_items-returns-in_err-link_placed-clause-told t c = λ bases l h live reached.
    let p = err_from_is_err_and c.from_residual.result c.from_residual.ensures.1 in
    rw (p.1, p.2)
    (goes_wrong c.args.depth c.args.n l c.args.items.now c.loop-placed.placed-index c.placed-item.result c.loop-placed-test.true c.placed-item.is c.loop-placed.linker c.loop-placed.invariant.0 (c.loop-placed.invariant.2 c.args.n live) c.in_err-link_placed.field-0.0
    (c.loop-placed.invariant.3 bases l h live reached) (λ others last s at come. c.in_err-link_placed.ensures.told others last s at come))

pub link_items-loop-placed-preserved : goal.link_items-loop-placed-preserved
link_items-loop-placed-preserved t c =
    let longer : length c.loop-placed.linker.scopes.items ≤ length c.link_placed.new.linker.scopes.items = c.in_ok-link_placed.ensures.scopes in (
      omega (arith, longer, c.loop-placed.invariant.0),
      omega (arith, longer, c.loop-placed.invariant.1),
      λ m live. c.in_ok-link_placed.ensures.live m (c.loop-placed.invariant.2 m live),
      λ bases first h live reached.
          goes_on c.args.depth c.args.n first c.args.items.now c.loop-placed.placed-index c.placed-item.result c.loop-placed-test.true c.placed-item.is c.loop-placed.linker c.loop-placed.invariant.0 (c.loop-placed.invariant.2 c.args.n live)
          c.link_placed.new.linker (c.loop-placed.invariant.3 bases first h live reached) (λ others last s at come. c.in_ok-link_placed.ensures.told others last s at come),
    )

pub link_items-returns-clause-told : goal.link_items-returns-clause-told
link_items-returns-clause-told t c = λ bases l h live reached.
    goes_last c.args.depth c.args.n l c.args.items.now c.loop-placed.placed-index c.loop-placed.linker (omega (arith, c.loop-placed-test.false)) (c.loop-placed.invariant.3 bases l h live reached)

pub link_nested-returns-clause-live : goal.link_nested-returns-clause-live
link_nested-returns-clause-live t c = λ m live.
    let k = c.args.linker.now in
    let below = slice_get_within (ended k) m false live in
    let long = length-map k.scopes.items (λ (scope : Scope). scope.ended) in
    let number : c.len-instance.result ≡ length k.scopes.items = c.len-instance.ensures ∙ k.scopes.ok.0 in
    c.in_ok-end.ensures.live m (λ e. omega (arith, e, below, long, number)) (c.in_ok-link_inside.ensures.live m (before_live k c.begin.new.self m c.in_ok-begin.ensures.live live))

pub link_nested-end-requires-clause-apart : goal.link_nested-end-requires-clause-apart
link_nested-end-requires-clause-apart t c = λ e.
    let number : c.len-instance.result ≡ length c.args.linker.now.scopes.items = c.len-instance.ensures ∙ c.args.linker.now.scopes.ok.0 in
    omega (arith, e, number, c.requires)

pub link_nested-end-requires-clause-live : goal.link_nested-end-requires-clause-live
link_nested-end-requires-clause-live t c =
    c.in_ok-link_inside.ensures.live c.len-instance.result
    (last_live c.args.linker.now c.begin.new.self c.len-instance.result c.in_ok-begin.ensures.live (c.len-instance.ensures ∙ c.args.linker.now.scopes.ok.0))

pub link_placed-returns-in-Ok-Made-clause-live : goal.link_placed-returns-in-Ok-Made-clause-live
link_placed-returns-in-Ok-Made-clause-live t c = λ m live. live_same c.args.linker.now c.link_item.new.linker m c.in-Ok-Made.ensures.live live

pub link_placed-returns-in-Ok-Begins-clause-live : goal.link_placed-returns-in-Ok-Begins-clause-live
link_placed-returns-in-Ok-Begins-clause-live t c =
    on_ok c.link_nested.result (λ (stays : StayLive c.link_item.new.linker c.link_nested.new.linker). (λ m live. stays m (live_same c.args.linker.now c.link_item.new.linker m c.in-Ok-Begins.ensures.live live))) c.link_nested.ensures.live

use Rattle.std.proofs.Common.{◌≡◌, ◌<◌, ◌≤◌, ◌∷◌, ◌++◌, [], ℕ, List, Result, Ok, length, sym, subst, ap₂, ◌∙◌, Bor}
use Rattle.std.specs.List.{slice_get}
use Rattle.std.proofs.lemmas.Result.{err_from_is_err_and}
use Rattle.ca_base.specs.declared.placed.Placed.{Placed}
use Rattle.comp_tree.specs.declared.instances.Instance.TheVariants as made
use Rattle.comp_tree.specs.declared.items.Item.{Item}
use Rattle.link_spec.specs.declared.fault.LinkWhy.{LinkWhy}
use Rattle.link_spec.specs.declared.fault.LinkWhy.TheVariants as why
use Rattle.link_spec.specs.Definitions.{Closure, Exports}
use Rattle.link_spec.specs.Computed.{Outcome, named_exports, instance_outcome}
use Rattle.link_instances.specs.declared.references.DefinitionRef.{DefinitionRef}
use Rattle.link_instances.specs.References.{IsListing}
use Rattle.link_parts.specs.Told.{IsTold}
use Rattle.link_state.specs.declared.instances.Next.TheVariants as next
use Rattle.link_state.specs.State.{world_of}
use Rattle.link_state.specs.Next.{IsNext}
use Rattle.link_state.proofs.Steps.{some_found, told_ok, reason_of, outcome_err}
use Rattle.link_state.proofs.Loops.{lt_true, lt_false}
use Rattle.link_state.proofs.NamedSteps.{arguments_first, instance_limited, instance_begins}
use Rattle.link_state.proofs.instances.instantiated.Goals as goal

pub returns-in_err-given-clause-made : goal.returns-in_err-given-clause-made
returns-in_err-given-clause-made c = λ bases l s at.
    let one = some_found (λ (b : Bor Closure) (x : Closure). b.now ≡ x) c.standing.result c.in-Some.standing (slice_get s.components c.args.component) c.in-Some.is (c.standing.ensures bases l s at) in
    let k = c.named_exports.new.linker in
    let read = c.args.arguments.now in
    let e = c.in_err-given.field-0.0 in
    let first = reason_of (λ (listing : List (ℕ × DefinitionRef)) (exports : Exports). IsListing k.types (world_of bases k) listing exports) c.named_exports.result e (named_exports s read) c.in_err-given.was (c.named_exports.ensures.named bases l s at) in
    let p = err_from_is_err_and c.from_residual-in_err-given.result c.from_residual-in_err-given.ensures.1 in
    rw (p.1, p.2) (arguments_first l c.args.n s c.args.component read one.0 one.1 e first)

pub returns-then-instance_count-ge-INSTANCE_LIMIT-clause-made : goal.returns-then-instance_count-ge-INSTANCE_LIMIT-clause-made
returns-then-instance_count-ge-INSTANCE_LIMIT-clause-made c = λ bases l s at.
    let one = some_found (λ (b : Bor Closure) (x : Closure). b.now ≡ x) c.standing.result c.in-Some.standing (slice_get s.components c.args.component) c.in-Some.is (c.standing.ensures bases l s at) in
    let k = c.named_exports.new.linker in
    let read = c.args.arguments.now in
    let ok = told_ok (λ (listing : List (ℕ × DefinitionRef)) (exports : Exports). IsListing k.types (world_of bases k) listing exports) c.named_exports.result c.in_ok-given.given (named_exports s read) c.in_ok-given.was (c.named_exports.ensures.named bases l s at) in
    let before = (c.named_exports.ensures.at bases l s at).state in
    let count = c.instance_count.ensures bases l before in
    let many = lt_false (length l.scopes) 256 (subst (λ (m : ℕ). 256 ≤ m) count c.if-instance_count-ge-INSTANCE_LIMIT.true) in
    outcome_err why.Limit (instance_outcome l c.args.n s (made.Instantiate c.args.component read)) (instance_limited l c.args.n s c.args.component read one.0 one.1 ok.0 ok.1 many)

pub returns-clause-made : goal.returns-clause-made
returns-clause-made c = λ bases l s at.
    let one = some_found (λ (b : Bor Closure) (x : Closure). b.now ≡ x) c.standing.result c.in-Some.standing (slice_get s.components c.args.component) c.in-Some.is (c.standing.ensures bases l s at) in
    let k = c.named_exports.new.linker in
    let read = c.args.arguments.now in
    let ok = told_ok (λ (listing : List (ℕ × DefinitionRef)) (exports : Exports). IsListing k.types (world_of bases k) listing exports) c.named_exports.result c.in_ok-given.given (named_exports s read) c.in_ok-given.was (c.named_exports.ensures.named bases l s at) in
    let before = (c.named_exports.ensures.at bases l s at).state in
    let count = c.instance_count.ensures bases l before in
    let few = lt_true (length l.scopes) 256 (subst (λ (m : ℕ). m < 256) count c.if-instance_count-ge-INSTANCE_LIMIT.false) in
    let is : one.0 ≡ record { items = c.component-component.result.now.items; around = c.in_ok-around.around } =
    sym one.2 ∙ ap₂ (λ (items : List (Placed Item)) (around : List ℕ). (let x : Closure = record { items = items; around = around } in x)) (sym c.component-component.ensures) (sym (c.in_ok-around.ensures ∙ c.around.ensures)) in
    subst (λ (r : Result Outcome LinkWhy). IsTold (IsNext c.instance.new.self l) (Ok (next.Begins c.component-component.result c.in_ok-around.around c.in_ok-arguments.arguments)) r)
    (sym (instance_begins l c.args.n s c.args.component read one.0 one.1 ok.0 ok.1 few))
    (is, (bases ++ ok.0 ∷ [], c.in_ok-arguments.ensures.state bases l ok.0 before ok.2, c.in_ok-arguments.ensures.made bases l ok.0 before ok.2))

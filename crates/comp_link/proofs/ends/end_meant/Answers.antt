use Rattle.std.proofs.Common.{◌≡◌, ◌∙◌, sym, ap, subst, Option, Some}
use Rattle.std.specs.List.{slice_get}
use Rattle.std.specs.Option.{option_and_then}
use Rattle.syntax_trees.specs.declared.types.ValType.{ValType}
use Rattle.link_spec.specs.Canons.{given_by}
use Rattle.link_spec.specs.Builtins.{elements_of, end_meaning}
use Rattle.canon_types.specs.Built.{IsBuiltinMeaning}
use Rattle.canon_types.proofs.ElementsRead.{ends_made}
use Rattle.comp_link.proofs.ends.end_meant.Goals as goal

pub returns-in_default : goal.returns-in_default
returns-in_default c = λ w s type scope h.
    let none = rw c.in_default.is at h in
    rw none (c.no_builtin.ensures c.args.types.now.values)

pub returns-in_default-value : goal.returns-in_default-value
returns-in_default-value c = λ w s type scope h.
    let found = rw c.in-Some.is at h in
    let none = sym found.2 ∙ sym c.value.ensures ∙ c.in_default-value.is in
    absurd cc

pub returns-in_default-elements_of : goal.returns-in_default-elements_of
returns-in_default-elements_of c = λ w s type scope h.
    let found = rw c.in-Some.is at h in
    let is : type ≡ Some c.in-Some-value.ends = found.1 ∙ sym found.2 ∙ sym c.value.ensures ∙ c.in-Some-value.is in
    let none = ap (option_and_then (elements_of c.args.kind)) is ∙ sym c.elements_of.ensures ∙ c.in_default-elements_of.is in
    subst (λ (o : Option (Option ValType)). IsBuiltinMeaning c.args.types.now.values c.no_builtin-in_default-elements_of.result (end_meaning c.args.is_there c.args.kind o (given_by s) c.args.op.now)) (sym none)
    (c.no_builtin-in_default-elements_of.ensures c.args.types.now.values)

pub returns : goal.returns
returns c = λ w s type scope h.
    let found = rw c.in-Some.is at h in
    let ends = c.in-Some-value.ends in
    let there : slice_get c.args.types.now.values c.in-Some.number ≡ Some ends = sym c.value.ensures ∙ c.in-Some-value.is in
    let is : type ≡ Some ends = found.1 ∙ sym found.2 ∙ there in
    ends_made c.args.types.now.values c.args.is_there c.args.kind (given_by s) c.args.op.now c.in-Some.number ends c.in-Some-elements_of.element c.end_serves-serves.result c.in_ok-made.made c.in_ok-made_op.made_op type
    is (sym c.elements_of.ensures ∙ c.in-Some-elements_of.is) there (c.end_serves-serves.ensures c.args.types.now w s scope) (c.in_ok-made_op.ensures c.args.types.now w s scope)
    c.in_ok-made.ensures.kind c.in_ok-made.ensures.typed c.in_ok-made.ensures.passed

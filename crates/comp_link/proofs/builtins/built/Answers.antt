use Rattle.std.proofs.Common.{◌≡◌, ◌∙◌, refl, sym, ap, subst, Option}
use Rattle.std.specs.Prelude.{IfSome}
use Rattle.std.specs.Option.{option_map}
use Rattle.link_spec.specs.declared.fault.LinkWhy.TheVariants as why
use Rattle.link_spec.specs.Builtins.{builtin_meaning}
use Rattle.link_spec.specs.Items.{builtin_made}
use Rattle.link_spec.specs.Computed.{Outcome, Makes, builtin_outcome}
use Rattle.canon_types.specs.declared.builtins.Built.{Built}
use Rattle.canon_types.specs.Built.{IsBuilt}
use Rattle.link_parts.proofs.Told.{reason_is, told_value}
use Rattle.comp_link.proofs.CanonParts.{not_there, none_such, not_served, is_made}
use Rattle.comp_link.proofs.builtins.built.Goals as goal

pub returns-then-not-is_there-clause-told : goal.returns-then-not-is_there-clause-told
returns-then-not-is_there-clause-told c = λ bases l s at.
    let meaning = builtin_meaning l c.args.n s c.args.builtin.now in
    let m = c.in_ok-meant.ensures.means bases l s at in
    reason_is why.Index (builtin_outcome l c.args.n s meaning) (not_there l c.args.n s meaning (sym m.is_there ∙ c.if-not-is_there.true))

pub returns-in_default-clause-told : goal.returns-in_default-clause-told
returns-in_default-clause-told c = λ bases l s at.
    let meaning = builtin_meaning l c.args.n s c.args.builtin.now in
    let m = c.in_ok-meant.ensures.means bases l s at in
    reason_is why.Typing (builtin_outcome l c.args.n s meaning)
    (none_such l c.args.n s meaning (sym m.is_there ∙ c.if-not-is_there.false) (sym m.means ∙ ap (option_map (λ (b : Built). b.kind)) c.in_default.is))

pub returns-then-not-serves-clause-told : goal.returns-then-not-serves-clause-told
returns-then-not-serves-clause-told c = λ bases l s at.
    let meaning = builtin_meaning l c.args.n s c.args.builtin.now in
    let m = c.in_ok-meant.ensures.means bases l s at in
    reason_is why.Canon (builtin_outcome l c.args.n s meaning)
    (not_served l c.args.n s meaning c.in-Some.made.kind (sym m.is_there ∙ c.if-not-is_there.false) (sym m.means ∙ ap (option_map (λ (b : Built). b.kind)) c.in-Some.is) (sym m.serves ∙ c.if-not-serves.true))

pub returns-clause-told : goal.returns-clause-told
returns-clause-told c = λ bases l s at.
    let meaning = builtin_meaning l c.args.n s c.args.builtin.now in
    let values = c.meaning_at.new.linker.types.values in
    let m = c.in_ok-meant.ensures.means bases l s at in
    let is : IsBuilt values c.in-Some.made = subst (λ (o : Option Built). IfSome o (IsBuilt values)) c.in-Some.is m.built in
    told_value (λ (b : Built) (outcome : Outcome). IsBuilt values b × (outcome ≡ Makes (builtin_made l c.args.n s b.kind))) c.in-Some.made (Makes (builtin_made l c.args.n s c.in-Some.made.kind))
    (builtin_outcome l c.args.n s meaning)
    (is_made l c.args.n s meaning c.in-Some.made.kind (sym m.is_there ∙ c.if-not-is_there.false) (sym m.means ∙ ap (option_map (λ (b : Built). b.kind)) c.in-Some.is) (sym m.serves ∙ c.if-not-serves.false)) (is, refl)

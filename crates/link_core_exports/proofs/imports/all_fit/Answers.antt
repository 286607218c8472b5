use Rattle.std.proofs.Common.{◌≡◌, ◌∙◌, List, true, false, refl, subst}
use Rattle.std.proofs.lemmas.Option.{slice_get_past, slice_get_read}
use Rattle.syntax_trees.specs.declared.module.Import.{Import}
use Rattle.link_spec.specs.Tests.{all_fit}
use Rattle.link_core_exports.proofs.Fit.{Known, all_past, item_less, one_past, not_one}
use Rattle.link_core_exports.proofs.imports.all_fit.Goals as goal

pub returns-in_default-clause-fit : goal.returns-in_default-clause-fit
returns-in_default-clause-fit c =
    let P : List Import → Type 0 = λ imports. Known c.args.made.now c.args.number c.args.tree.now c.args.items.now (false ≡ all_fit c.args.tree.now imports c.args.items.now) in
    subst P c.as_slice-imports.ensures
    (item_less c.args.made.now c.args.number c.args.tree.now c.as_slice-imports.result.now c.args.items.now c.loop-at.at c.loop-at.invariant.left c.loop-at-test.true
    (slice_get_past c.args.items.now c.loop-at.at c.in_default.ensures.lookup.3))

pub returns-then-not-branch-clause-fit : goal.returns-then-not-branch-clause-fit
returns-then-not-branch-clause-fit c =
    let P : List Import → Type 0 = λ imports. Known c.args.made.now c.args.number c.args.tree.now c.args.items.now (false ≡ all_fit c.args.tree.now imports c.args.items.now) in
    let h = c.in-Some.ensures.lookup in
    subst P c.as_slice-imports.ensures
    (not_one c.args.made.now c.args.number c.args.tree.now c.as_slice-imports.result.now c.args.items.now c.loop-at.at c.loop-at.invariant.left c.index-imports-at.result c.in-Some.item.now c.in_ok-fits.field-0 c.loop-at-test.true
    (slice_get_read c.args.items.now _ c.loop-at.at c.in-Some.item.now refl h.3.0 h.1)
    (λ cores canons of there here. c.in_ok-fits.ensures.fits cores canons (rw c.loop-at.invariant.same of) (rw c.loop-at.invariant.same there) here) c.if-not-branch.true)

pub loop-at-preserved : goal.loop-at-preserved
loop-at-preserved c =
    let h = c.in-Some.ensures.lookup in
    record {
      same = c.in_ok-fits.ensures.same ∙ c.loop-at.invariant.same;
      left =
          one_past c.args.made.now c.args.number c.args.tree.now c.as_slice-imports.result.now c.args.items.now c.loop-at.at c.loop-at.invariant.left c.index-imports-at.result c.in-Some.item.now c.in_ok-fits.field-0 c.loop-at-test.true
          (slice_get_read c.args.items.now _ c.loop-at.at c.in-Some.item.now refl h.3.0 h.1)
          (λ cores canons of there here. c.in_ok-fits.ensures.fits cores canons (rw c.loop-at.invariant.same of) (rw c.loop-at.invariant.same there) here) c.if-not-branch.false;
    }

pub returns-clause-fit : goal.returns-clause-fit
returns-clause-fit c =
    let P : List Import → Type 0 = λ imports. Known c.args.made.now c.args.number c.args.tree.now c.args.items.now (true ≡ all_fit c.args.tree.now imports c.args.items.now) in
    subst P c.as_slice-imports.ensures
    (all_past c.args.made.now c.args.number c.args.tree.now c.as_slice-imports.result.now c.args.items.now c.loop-at.at c.loop-at.invariant.left c.loop-at-test.false)

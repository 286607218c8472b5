-- The core function is a lower, whose number is that of the type of the function which it calls.
use Rattle.std.proofs.Common.{◌≡◌, ◌<◌, ◌∙◌, ℕ, List, length, Option, Some, sym, subst}
use Rattle.std.proofs.lemmas.Option.{slice_get_within}
use Rattle.comp_graph.specs.Graph.{Graph}
use Rattle.comp_graph.specs.Passed.{AreCanonTypes}
use Rattle.comp_graph.proofs.FuncsPassed.{lowers_at, lower_number, lower_passed}
use Rattle.comp_graph.proofs.graph.Graph.canon_types.Goals as goal

pub number_at-requires : goal.number_at-requires
number_at-requires c =
    let types = c.self.inside.types.types in
    let are : AreCanonTypes types c.self.inside.types.canons c.args.self.now.canons = subst (λ (g : Graph). AreCanonTypes types c.self.inside.types.canons g.canons) c.self.view_is c.self.invariant.3 in
    let h = lowers_at types c.self.inside.types.canons c.args.self.now.canons c.args.number are c.requires in
    subst (λ (numbers : List (Option ℕ)). c.args.number < length numbers) (sym c.as_slice.ensures) (slice_get_within c.self.inside.types.canons c.args.number (Some h.number) h.numbered)

pub passed-requires : goal.passed-requires
passed-requires c =
    let types = c.self.inside.types.types in
    let are : AreCanonTypes types c.self.inside.types.canons c.args.self.now.canons = subst (λ (g : Graph). AreCanonTypes types c.self.inside.types.canons g.canons) c.self.view_is c.self.invariant.3 in
    let h = lowers_at types c.self.inside.types.canons c.args.self.now.canons c.args.number are c.requires in
    let found = lower_number types c.self.inside.types.canons c.as_slice.result.now c.args.self.now.canons c.args.number c.number_at.result h c.as_slice.ensures c.number_at.ensures in
    let same : h.number ≡ c.in-Some.func = (let both : ◌≡◌ {A = Option ℕ} (Some h.number) (Some c.in-Some.func) = sym found ∙ c.in-Some.is in cc) in
    subst (λ (n : ℕ). n < length types.funcs) same (slice_get_within types.funcs h.number h.lower.func_type h.typed)

pub unreachable-requires : goal.unreachable-requires
unreachable-requires c =
    let types = c.self.inside.types.types in
    let are : AreCanonTypes types c.self.inside.types.canons c.args.self.now.canons = subst (λ (g : Graph). AreCanonTypes types c.self.inside.types.canons g.canons) c.self.view_is c.self.invariant.3 in
    let h = lowers_at types c.self.inside.types.canons c.args.self.now.canons c.args.number are c.requires in
    let found = lower_number types c.self.inside.types.canons c.as_slice.result.now c.args.self.now.canons c.args.number c.number_at.result h c.as_slice.ensures c.number_at.ensures in
    cc (found, c.in-None.is)

pub returns : goal.returns
returns c =
    let types = c.self.inside.types.types in
    let are : AreCanonTypes types c.self.inside.types.canons c.args.self.now.canons = subst (λ (g : Graph). AreCanonTypes types c.self.inside.types.canons g.canons) c.self.view_is c.self.invariant.3 in
    let h = lowers_at types c.self.inside.types.canons c.args.self.now.canons c.args.number are c.requires in
    let found = lower_number types c.self.inside.types.canons c.as_slice.result.now c.args.self.now.canons c.args.number c.number_at.result h c.as_slice.ensures c.number_at.ensures in
    let same : c.in-Some.func ≡ h.number = (let both : ◌≡◌ {A = Option ℕ} (Some c.in-Some.func) (Some h.number) = sym c.in-Some.is ∙ found in cc) in
    lower_passed types c.self.inside.types.canons c.args.self.now.canons c.args.number c.in-Some.func c.passed.result h same c.passed.ensures

-- The number of a built-in is that of the type of its result or of the ends that it is of.
use Rattle.std.proofs.Common.{◌≡◌, ◌<◌, ◌∙◌, ℕ, List, length, Option, Some, sym, ap, subst}
use Rattle.std.specs.List.{slice_get}
use Rattle.comp_graph.specs.Graph.{Graph, numbered_value}
use Rattle.comp_graph.specs.Passed.{AreCanonTypes, HasCanonType}
use Rattle.comp_graph.proofs.FuncsPassed.{number_within, built_at, may_be_read}
use Rattle.comp_graph.proofs.graph.Graph.numbered.Goals as goal

pub number_at-number-requires : goal.number_at-number-requires
number_at-number-requires c =
    let types = c.self.inside.types.types in
    let are : AreCanonTypes types c.self.inside.types.canons c.args.self.now.canons = subst (λ (g : Graph). AreCanonTypes types c.self.inside.types.canons g.canons) c.self.view_is c.self.invariant.3 in
    subst (λ (numbers : List (Option ℕ)). c.args.number < length numbers) (sym c.as_slice.ensures) (number_within (HasCanonType types) c.self.inside.types.canons c.args.self.now.canons are c.args.number c.requires)

pub returns : goal.returns
returns c = λ b there.
    let types = c.self.inside.types.types in
    let are : AreCanonTypes types c.self.inside.types.canons c.args.self.now.canons = subst (λ (g : Graph). AreCanonTypes types c.self.inside.types.canons g.canons) c.self.view_is c.self.invariant.3 in
    let at : slice_get c.self.inside.types.canons c.args.number ≡ Some c.number_at-number.result = ap (λ (ns : List (Option ℕ)). slice_get ns c.args.number) (sym c.as_slice.ensures) ∙ c.number_at-number.ensures in
    c.value.ensures ∙ may_be_read types.values c.number_at-number.result (numbered_value b.kind) (built_at types c.self.inside.types.canons c.args.self.now.canons c.args.number c.number_at-number.result b are at there)

use Rattle.std.proofs.Common.{◌≡◌, ◌<◌, ℕ, List, length, Some, sym, subst}
use Rattle.std.specs.List.{slice_get}
use Rattle.syntax_trees.specs.declared.exports.Export.{Export}
use Rattle.comp_graph.specs.Graph.{Graph}
use Rattle.comp_graph.specs.Passed.{AreExportTypes, HaveNumbers}
use Rattle.comp_graph.proofs.FuncsPassed.{number_within, beside_number, passed_by}
use Rattle.comp_graph.proofs.graph.Graph.export_types.Goals as goal

pub passed_at-requires-clause-there : goal.passed_at-requires-clause-there
passed_at-requires-clause-there c =
    let types = c.self.inside.types.types.funcs in
    let are : AreExportTypes types c.self.inside.types.exports c.args.self.now.exports =
    subst (λ (g : Graph). AreExportTypes types c.self.inside.types.exports g.exports) c.self.view_is c.self.invariant.4 in
    subst (λ (numbers : List ℕ). c.args.number < length numbers) (sym c.as_slice.ensures)
    (number_within (λ (n : ℕ) (e : Export). slice_get types n ≡ Some e.func_type) c.self.inside.types.exports c.args.self.now.exports are c.args.number c.requires)

pub passed_at-requires-clause-are : goal.passed_at-requires-clause-are
passed_at-requires-clause-are c =
    subst (λ (numbers : List ℕ). HaveNumbers c.self.inside.types.types.funcs numbers) (sym c.as_slice.ensures)
    (beside_number c.self.inside.types.types.funcs (λ (e : Export). e.func_type) c.self.inside.types.exports c.self.inside.exports c.self.invariant.4)

pub returns : goal.returns
returns c =
    let types = c.self.inside.types.types.funcs in
    let are : AreExportTypes types c.as_slice.result.now c.args.self.now.exports =
    subst (λ (numbers : List ℕ). AreExportTypes types numbers c.args.self.now.exports) (sym c.as_slice.ensures)
    (subst (λ (g : Graph). AreExportTypes types c.self.inside.types.exports g.exports) c.self.view_is c.self.invariant.4) in
    passed_by types (λ (e : Export). e.func_type) c.as_slice.result.now c.args.self.now.exports c.args.number c.passed_at.result are c.passed_at.ensures

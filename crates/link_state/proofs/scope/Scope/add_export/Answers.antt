use Rattle.std.proofs.Common.{refl}
use Rattle.link_spec.specs.Definitions.{WithExport}
use Rattle.link_state.proofs.Scopes.{export_named}
use Rattle.link_state.proofs.scope.Scope.add_export.Goals as goal

pub returns-clause-adds : goal.returns-clause-adds
returns-clause-adds c t w s d h named stands =
    let name = c.args.name.now in
    c.in_ok-add-2.ensures.adds t w (record s { exports = WithExport s.exports name d }) d
    (export_named t w c.args.self.now (record c.args.self.now { exports = c.push.new.self; export_names = c.add.new.self }) s h name c.args.number c.args.definition d refl c.in_ok-push.ensures.ok c.in_ok-add.ensures.ok named stands) stands

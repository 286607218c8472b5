use Rattle.std.proofs.Common.{refl, [], ◌∷◌, ◌++◌}
use Rattle.link_state.proofs.Scopes.{import_named}
use Rattle.link_state.proofs.scope.Scope.add_import.Goals as goal

pub returns-clause-adds : goal.returns-clause-adds
returns-clause-adds c t w s d h stands =
    let name = c.args.name.now in
    c.in_ok-add-2.ensures.adds t w (record s { imports = s.imports ++ name ∷ [] }) d
    (import_named t w c.args.self.now (record c.args.self.now { imports = c.add.new.self }) s h name refl c.in_ok-add.ensures.ok) stands

use Rattle.std.proofs.Common.{◌≡◌, ◌∙◌, ◌≤◌, ◌+◌, ℕ, List, refl, ap, ap₂, sym, subst}
use Rattle.std.specs.Prelude.{◌||◌, not}
use Rattle.std.specs.Str.{bytes_eq}
use Rattle.syntax_trees.specs.Names.{has}
use Rattle.comp_tree.specs.declared.instances.Sort.{Sort}
use Rattle.link_values.specs.Resources.{resource_room}
use Rattle.link_spec.specs.Types.{described, brings, declared_as, sort_of}
use Rattle.link_types.specs.Table.{Table, IsName, IsExtern}
use Rattle.link_instance_types.specs.declared.declaring.Declared.{Declared}
use Rattle.link_meanings.specs.Meant.{IsFoundAs}
use Rattle.link_instance_types.specs.Declaring.{IsDeclared}
use Rattle.link_instance_types.proofs.Growing.{declared_stays}
use Rattle.link_instance_types.proofs.Declares.{resources_same, counted, export_declared, export_same}
use Rattle.link_instance_types.proofs.declaring.Declared.add_export.Goals as goal

pub returns-clause-ok : goal.returns-clause-ok
returns-clause-ok c = λ closures d h.
    let named = c.name.new.self in
    let types = c.export_described.new.types in
    let grown = c.extend.new.types in
    let mid = c.declare.new.self in
    let name = c.args.name.now in
    let extern = described d c.args.desc in
    let sort = sort_of c.args.desc in
    let count = d.resources + brings d c.args.desc in
    let j = declared_stays c.args.types.now named c.in_ok-number.ensures.grows closures c.args.self.now d h in
    let meant = c.in_ok-meant.ensures.ok d (rw c.own_level.ensures.types j.types) j.resources in
    let k = declared_stays named types c.in_ok-meant.ensures.grows closures c.args.self.now d j in
    let known : IsDeclared types closures mid (declared_as d sort extern) =
    subst (λ (s : Sort). IsDeclared types closures mid (declared_as d s extern)) c.sort_of.ensures (c.in_ok-declare.ensures types closures d extern k meant) in
    let brought : brings d c.args.desc ≡ c.in_ok-brought.brought = c.in_ok-brought.ensures.ok d (rw c.own_level-2.ensures.types k.types) in
    let number = subst (λ (q : List ℕ). IsName types c.in_ok-number.number q) c.as_str.ensures (c.in_ok-meant.ensures.grows.texts c.in_ok-number.number c.as_str.result.now c.in_ok-number.ensures.ok) in
    let all : (q : List ℕ) → has c.adds.new.seen q ≡ (bytes_eq name q || has mid.names q) = λ q. c.in_ok-is_new.ensures.all q ∙ ap (λ (n : List ℕ). bytes_eq n q || has mid.names q) c.as_str-2.ensures in
    let after = c.export_brings.new.types in
    let same = sym c.in_ok-brought.ensures.same in
    let declared : IsDeclared after closures mid (declared_as d sort extern) = subst (λ (t : Table). IsDeclared t closures mid (declared_as d sort extern)) same known in
    let kept = subst (λ (t : Table). IsName t c.in_ok-number.number name) same number in
    let found = subst (λ (t : Table). IsFoundAs (IsExtern t) c.in_ok-meant.meant.means extern.means) same meant.means in
    let counts : c.in_ok-resources.resources ≡ count = c.in_ok-resources.ensures.0 ∙ ap₂ (λ n m. n + m) (known.resources ∙ resources_same d sort extern.means) (sym brought) in
    let more : Declared = record { types = mid.types; components = mid.components; instances = mid.instances; names = mid.names; resources = count; so_far = mid.so_far } in
    let new : Declared = record { types = mid.types; components = mid.components; instances = mid.instances; names = c.adds.new.seen; resources = c.in_ok-resources.resources; so_far = c.extend.new.self } in
    export_declared grown closures more new (record (declared_as d sort extern) { resources = count }) d.so_far.means name extern.means c.in_ok-is_new.is_new
    (declared_stays after grown c.in_ok-extend.ensures.grows closures more (record (declared_as d sort extern) { resources = count }) (counted after closures mid (declared_as d sort extern) count declared)) (export_same d sort extern name)
    (c.in_ok-is_new.ensures.new ∙ ap (λ (n : List ℕ). not (has mid.names n)) c.as_str-2.ensures) all
    (c.in_ok-extend.ensures.ok name extern.means (declared_as d sort extern).so_far.means declared.so_far.means kept found)
    c.in_ok-extend.ensures.is_there c.in_ok-extend.ensures.missing c.in_ok-extend.ensures.deep refl refl refl counts (subst (λ n. n ≤ resource_room) counts c.in_ok-resources.ensures.1)

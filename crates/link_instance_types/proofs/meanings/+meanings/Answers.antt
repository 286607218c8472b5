use Rattle.std.proofs.Common.{◌∷◌, map, take, subst, List}
use Rattle.std.specs.List.{AllZip}
use Rattle.std.proofs.lemmas.List.{take_all}
use Rattle.comp_tree.specs.declared.types.InstanceDecl.{InstanceDecl}
use Rattle.link_spec.specs.Types.{own_level, types_around, meaning_of, declared_by, nothing_declared}
use Rattle.link_types.proofs.TypesGrow.{grows_trans}
use Rattle.link_meanings.specs.Levels.{IsEnclosing, AreTypes}
use Rattle.link_instance_types.specs.Declaring.{IsDeclared, decl_makes}
use Rattle.link_instance_types.proofs.Growing.{declared_stays, enclosing_stay}
use Rattle.link_instance_types.proofs.Enclosed.{one_inside, innermost_types}
use Rattle.link_instance_types.proofs.Folded.{type_makes, export_makes, meaning_of_value, meaning_of_func, one_more}
use Rattle.link_instance_types.proofs.meanings.+meanings.Goals as goal

pub declare-returns-in_ok-add_type-in-Type-clause-ok : goal.declare-returns-in_ok-add_type-in-Type-clause-ok
declare-returns-in_ok-add_type-in-Type-clause-ok t c = λ closures levels d a h.
    let types = c.args.types.now in
    let old = c.args.declared.now in
    let all = own_level d ∷ levels in
    let inside = one_inside types closures c.own_level.result c.args.around.now levels old d c.own_level.ensures.types c.own_level.ensures.components h a in
    let around : AllZip (IsEnclosing types closures) c.deref.result.now all = rw (c.deref.ensures.value, c.in_ok-levels-in-Type.ensures) inside in
    rw (c.in-Type.is, type_makes c.in-Type.def_type levels d)
    (c.in_ok-add_type-in-Type.ensures c.meaning.new.types closures d (meaning_of c.in-Type.def_type all) (declared_stays types c.meaning.new.types c.in_ok-meant-in-Type.ensures.grows closures old d h)
    (c.in_ok-meant-in-Type.ensures.ok closures all around))

pub declare-returns-in_ok-add_export-in-Export-clause-ok : goal.declare-returns-in_ok-add_export-in-Export-clause-ok
declare-returns-in_ok-add_export-in-Export-clause-ok t c = λ closures levels d a h.
    rw (c.in-Export.is, export_makes c.in-Export.name c.in-Export.desc levels d) (c.in_ok-add_export-in-Export.ensures.ok closures d h)

pub meaning-returns-in_ok-func_meaning-in-Func-clause-ok : goal.meaning-returns-in_ok-func_meaning-in-Func-clause-ok
meaning-returns-in_ok-func_meaning-in-Func-clause-ok t c = λ closures levels a.
    let known : AreTypes c.args.types.now _ (types_around levels) = rw c.innermost-in-Func.ensures (innermost_types c.args.types.now closures c.args.around.now levels a) in
    rw (c.in-Func.is, meaning_of_func c.in-Func.func_type levels) (c.in_ok-func_meaning-in-Func.ensures.ok (types_around levels) known)

pub meaning-returns-in_ok-value_meaning-in-Value-clause-ok : goal.meaning-returns-in_ok-value_meaning-in-Value-clause-ok
meaning-returns-in_ok-value_meaning-in-Value-clause-ok t c = λ closures levels a.
    let known : AreTypes c.args.types.now _ (types_around levels) = rw c.innermost.ensures (innermost_types c.args.types.now closures c.args.around.now levels a) in
    rw (c.in-Value.is, meaning_of_value c.in-Value.val_type levels) (c.in_ok-value_meaning-in-Value.ensures.ok (types_around levels) known)

pub instance_meaning-loop-decl-init : goal.instance_meaning-loop-decl-init
instance_meaning-loop-decl-init t c = (c.in_ok-declared.ensures.grows, λ closures levels a. c.in_ok-declared.ensures.ok closures)

pub instance_meaning-loop-decl-preserved : goal.instance_meaning-loop-decl-preserved
instance_meaning-loop-decl-preserved t c =
    let first = c.args.types.now in
    let types = c.loop-decl.types in
    let kept = c.loop-decl.invariant in
    let decls = c.args.decls.now in (
      grows_trans first types c.declare.new.types kept.0 c.in_ok-declare.ensures.grows,
      λ closures levels a. (let so_far = declared_by levels nothing_declared (map decl_makes (take c.loop-decl.decl-index decls)) in
          rw (one_more levels decls c.loop-decl.decl-index c.decl-item.result c.loop-decl-test.true c.decl-item.is)
          (c.in_ok-declare.ensures.ok closures levels so_far (enclosing_stay first types kept.0 closures c.args.around.now levels a) (kept.1 closures levels a))),
    )

pub instance_meaning-returns-clause-ok : goal.instance_meaning-returns-clause-ok
instance_meaning-returns-clause-ok t c = λ closures levels a.
    let whole = subst (λ (decls : List InstanceDecl). IsDeclared c.loop-decl.types closures c.loop-decl.declared (declared_by levels nothing_declared (map decl_makes decls)))
    (take_all c.loop-decl.decl-index c.args.decls.now c.loop-decl-test.false) (c.loop-decl.invariant.1 closures levels a) in
    c.in_ok-finish.ensures.ok closures (declared_by levels nothing_declared (map decl_makes c.args.decls.now)) whole

-- A graph whose functions give no borrowed handle, and whose built-ins pass none, passes none.
use Rattle.std.proofs.Common.{◌≡◌, inl, inr, Bool, true, false, Option, Some, None, refl, ◌∙◌, ap}
use Rattle.std.specs.List.{slice_get, AllByRecursion}
use Rattle.syntax_trees.specs.Names.{first_named}
use Rattle.syntax_trees.specs.declared.types.FuncType.{FuncType}
use Rattle.syntax_trees.specs.declared.exports.Export.{Export}
use Rattle.laid_types.specs.Handles.{held_borrow}
use Rattle.comp_graph.specs.declared.graph.Lift.{Lift}
use Rattle.comp_graph.specs.declared.graph.CanonFunc.{CanonFunc}
use Rattle.comp_graph.specs.declared.graph.CanonFunc.TheVariants as canon_func
use Rattle.comp_graph.specs.Graph as graph
use Rattle.comp_graph.specs.Graph.{Graph, Lifted, lifted_as, names}
use Rattle.link_spec.specs.Lending as lending
use Rattle.link_spec.specs.Lending.{GivesNoBorrow}
use Rattle.link_spec.specs.Laws.{NoBorrowIsPassed}
use Rattle.link_spec.proofs.Holding.{all_at, holds_at}
use Rattle.abi_machine.specs.Canons.{canon_at}
use Rattle.abi_machine.specs.sound.Premises.{passed_type}
use Rattle.abi_machine.specs.sound.PassedTypes.{PassesNoBorrow}
use Rattle.async_graph_laws.specs.Laws.{LinkedGraphsPassNoBorrow}
use Rattle.async_graph_laws.proofs.ScriptsFor.{then_some}

not_both : (b : Bool) → b ≡ false → b ≡ true → ⊥
not_both b h k = cc

canon_passes : (f : CanonFunc) → lending.PassesNoBorrow f → held_borrow (passed_type f) ≡ true → ⊥
canon_passes (canon_func.Lower l) h k = not_both (held_borrow l.func_type.result) h k
canon_passes (canon_func.Builtin b) h k = not_both (held_borrow (passed_type (canon_func.Builtin b))) h k

-- the export of a function that can be called
lifted_export : (o : Option Export) (c : Option Lift) (f : Lifted) → lifted_as o c ≡ Some f → (e : Export) × (o ≡ Some e) × (e.func_type ≡ f.func_type)
lifted_export None c f h = cc
lifted_export (Some e) None f h = cc
lifted_export (Some e) (Some lift) f h =
    let made : Lifted = record { instance = lift.instance; core = lift.core; options = lift.options; func_type = e.func_type } in
    let same : made ≡ f = cc in
    (e, refl, ap (λ (x : Lifted). x.func_type) same)

passes_none : (g : Graph) → AllByRecursion (λ (e : Export). GivesNoBorrow e.func_type) g.exports × AllByRecursion lending.PassesNoBorrow g.canons → PassesNoBorrow g
passes_none g h (inl (number, c, there, borrows)) = canon_passes c (holds_at lending.PassesNoBorrow (canon_at g number) c (all_at lending.PassesNoBorrow g.canons number h.1) there) borrows
passes_none g h (inr (name, f, named, borrows)) =
    let number = then_some (graph.func_at g) (first_named name (names g.exports)) f named in
    let e = lifted_export (slice_get g.exports number.0) (slice_get g.lifts number.0) f number.2 in
    let gives : held_borrow e.0.func_type.result ≡ false = holds_at (λ (e : Export). GivesNoBorrow e.func_type) (slice_get g.exports number.0) e.0 (all_at (λ (e : Export). GivesNoBorrow e.func_type) g.exports number.0 h.0) e.1 in
    not_both (held_borrow e.0.func_type.result) gives (ap (λ (type : FuncType). held_borrow type.result) e.2 ∙ borrows)

pub linked_graphs_pass_no_borrow : NoBorrowIsPassed → LinkedGraphsPassNoBorrow
linked_graphs_pass_no_borrow passed c g linked = passes_none g (passed c g linked)

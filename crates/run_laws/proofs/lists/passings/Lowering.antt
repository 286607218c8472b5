-- Values that are lowered: lists of tasks stay as they follow from the tasks.
use Rattle.std.proofs.Common.{ℕ, List, sym, subst}
use Rattle.syntax_trees.specs.declared.types.ValType.{ValType}
use Rattle.syntax_trees.specs.declared.value.Value.{Value}
use Rattle.syntax_trees.specs.Fits.{fits}
use Rattle.laid_types.specs.Known.{Numbered}
use Rattle.value_lower.specs.Plan.{Plan}
use Rattle.copy_engine.specs.declared.lower_values.Target.{Target}
use Rattle.copy_engine.specs.Copying.{all_fit}
use Rattle.copy_engine.specs.Hosted.{plan_to, plan_all}
use Rattle.comp_graph.specs.Graph.{Graph}
use Rattle.programs.specs.declared.program.Program.{Program}
use Rattle.world_parts.specs.Held.{Held, Done}
use Rattle.value_moves.specs.declared.lowering.Destination.{Destination}
use Rattle.value_moves.specs.Lowering.{Site, site_found, finished, left_at, LowersAt, LowersInto, LowersAll}
use Rattle.run_laws.proofs.lists.Same.{ListsBy, lists_behind}
use Rattle.run_laws.proofs.lists.passings.Coming.{comes_lists}
use Rattle.run_laws.proofs.lists.passings.Sites.{site_found_lists, finished_lists}

lowers_lists : (g : Graph) (to : Destination) (types : List ValType) (plan : Plan) (site : Site) (h : Held) (d : Done (List ℕ)) → LowersAt g to types plan site h d → ListsBy h d
lowers_lists g to types plan site h d (came, placed, follows, is) =
    subst (ListsBy h) (sym is)
    (lists_behind h (left_at to site placed h) (finished g to.task placed.room.acts came (left_at to site placed h)) (λ s l. l)
    (finished_lists g to.task placed.room.acts came (left_at to site placed h)))

pub lowers_into_lists : (p : Program) (to : Destination) (t : Numbered) (v : Value) (target : Target) (h : Held) (d : Done (List ℕ)) → LowersInto p to t v target h d → ListsBy h d
lowers_into_lists p to t v target h d b =
    comes_lists h (site_found p to (fits v t.val_type) h) (λ site k e. LowersAt p.graph.now to t.types (plan_to target t.val_type v site.resources) site k e) d
    (site_found_lists p to (fits v t.val_type) h) (λ site k is. lowers_lists p.graph.now to t.types (plan_to target t.val_type v site.resources) site k d is) b

pub lowers_all_lists : (p : Program) (to : Destination) (t : Numbered) (values : List Value) (place : ℕ) (h : Held) (d : Done (List ℕ)) → LowersAll p to t values place h d → ListsBy h d
lowers_all_lists p to t values place h d b =
    comes_lists h (site_found p to (all_fit t.val_type values) h) (λ site k e. LowersAt p.graph.now to t.types (plan_all t.val_type values place site.resources) site k e) d
    (site_found_lists p to (all_fit t.val_type values) h) (λ site k is. lowers_lists p.graph.now to t.types (plan_all t.val_type values place site.resources) site k d is) b

-- Values are lowered: what is kept well stays so.
use Rattle.std.proofs.Common.{refl, ℕ, List}
use Rattle.syntax_trees.specs.declared.types.ValType.{ValType}
use Rattle.syntax_trees.specs.declared.value.Value.{Value}
use Rattle.syntax_trees.specs.Fits.{fits}
use Rattle.laid_types.specs.Known.{Numbered}
use Rattle.value_lower.specs.Plan.{Plan}
use Rattle.comp_graph.specs.Graph.{Graph}
use Rattle.copy_engine.specs.declared.lower_values.Target.{Target}
use Rattle.copy_engine.specs.Copying.{all_fit}
use Rattle.copy_engine.specs.Hosted.{plan_to, plan_all}
use Rattle.programs.specs.declared.program.Program.{Program}
use Rattle.world_parts.specs.Held.{Held, Done}
use Rattle.value_moves.specs.declared.lowering.Destination.{Destination}
use Rattle.value_moves.specs.Lowering.{Site, site_found, finished, left_at, LowersAt, LowersInto, LowersAll}
use Rattle.run_laws.specs.keeping.Well.{KeepsWell}
use Rattle.run_laws.proofs.well.Behind.{well_all, well_behind}
use Rattle.run_laws.proofs.well.Coming.{well_as, well_coming}
use Rattle.run_laws.proofs.well.Sites.{site_found_well, finished_well}

lowers_well : (g : Graph) (to : Destination) (types : List ValType) (plan : Plan) (s : Site) (h : Held) (d : Done (List ℕ)) → LowersAt g to types plan s h d → KeepsWell h d
lowers_well g to types plan s h d b =
    well_as h d (finished g to.task b.1.room.acts b.0 (left_at to s b.1 h))
    (well_behind h (left_at to s b.1 h) (finished g to.task b.1.room.acts b.0 (left_at to s b.1 h)) (well_all h (left_at to s b.1 h) refl) (finished_well g to.task b.1.room.acts b.0 (left_at to s b.1 h))) b.3

pub lowers_into_well : (p : Program) (to : Destination) (t : Numbered) (v : Value) (target : Target) (h : Held) (d : Done (List ℕ)) → LowersInto p to t v target h d → KeepsWell h d
lowers_into_well p to t v target h d b =
    well_coming h (site_found p to (fits v t.val_type) h) (λ s k e. LowersAt p.graph.now to t.types (plan_to target t.val_type v s.resources) s k e) d
    (site_found_well p to (fits v t.val_type) h) (λ s k is. lowers_well p.graph.now to t.types (plan_to target t.val_type v s.resources) s k d is) b

pub lowers_all_well : (p : Program) (to : Destination) (t : Numbered) (values : List Value) (place : ℕ) (h : Held) (d : Done (List ℕ)) → LowersAll p to t values place h d → KeepsWell h d
lowers_all_well p to t values place h d b =
    well_coming h (site_found p to (all_fit t.val_type values) h) (λ s k e. LowersAt p.graph.now to t.types (plan_all t.val_type values place s.resources) s k e) d
    (site_found_well p to (all_fit t.val_type values) h) (λ s k is. lowers_well p.graph.now to t.types (plan_all t.val_type values place s.resources) s k d is) b

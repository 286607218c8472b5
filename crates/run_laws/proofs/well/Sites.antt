-- Lowering begins and ends: what is kept well stays so.
use Rattle.std.specs.Prelude.{ℕ, Bool, if◌then◌else◌, List, [], ◌∷◌, Option, Some, None}
use Rattle.std.specs.List.{slice_get}
use Rattle.comp_graph.specs.Graph.{Graph}
use Rattle.graph_views.specs.Canons.{canon_at}
use Rattle.graph_views.specs.Names.{builtin_of}
use Rattle.copy_engine.specs.declared.acts.Act.{Act}
use Rattle.copy_engine.specs.declared.acts.Acts.{Acts}
use Rattle.copy_engine.specs.declared.answering.CallRefusal.{CallRefusal}
use Rattle.copy_engine.specs.declared.answering.CallRefusal.TheVariants as refusal
use Rattle.copy_engine.specs.declared.hosted.HostedTrap.{HostedTrap}
use Rattle.copy_engine.specs.declared.hosted.HostedTrap.TheVariants as hosted
use Rattle.copy_engine.specs.declared.lower_values.Lowered.{Lowered}
use Rattle.copy_engine.specs.declared.lower_values.Lowered.TheVariants as lowered
use Rattle.programs.specs.declared.program.Program.{Program}
use Rattle.programs.specs.Program.{resources_of}
use Rattle.trace_labels.specs.declared.label.Label.TheVariants as line
use Rattle.world_parts.specs.Held.{Held, Gives, Stuck, after, given}
use Rattle.world_parts.specs.Feed.{told}
use Rattle.world_parts.specs.Slots.{context_set}
use Rattle.value_moves.specs.declared.lowering.Destination.{Destination}
use Rattle.value_moves.specs.Lowering.{act_told, all_told, call_refused, code_trapped, finished, got_told, lowered_by, site_found}
use Rattle.run_laws.specs.keeping.Well.{KeepsWell}
use Rattle.run_laws.proofs.well.Behind.{well_after, well_given, well_if, well_same}
use Rattle.run_laws.proofs.well.Feed.{told_well}
use Rattle.run_laws.proofs.well.Slots.{context_set_well}

pub site_found_well : (p : Program) (to : Destination) (is_fit : Bool) (h : Held) → KeepsWell h (site_found p to is_fit h)
site_found_well p to is_fit h =
    well_given h (slice_get h.instances to.instance) (λ i. given (slice_get h.tasks to.task) (λ slot. given (resources_of p to.instance) (λ resources. if is_fit then Gives (record { instance = i; context = slot.context; resources = resources }) h else Stuck))) (λ i is. well_given h (slice_get h.tasks to.task) (λ slot. given (resources_of p to.instance) (λ resources. if is_fit then Gives (record { instance = i; context = slot.context; resources = resources }) h else Stuck)) (λ slot is. well_given h (resources_of p to.instance) (λ resources. if is_fit then Gives (record { instance = i; context = slot.context; resources = resources }) h else Stuck) (λ resources is. well_if h (is_fit) (Gives (record { instance = i; context = slot.context; resources = resources }) h) (Stuck) (well_same h) tt)))

pub got_told_well : (t : ℕ) (o : Option (List ℕ)) (h : Held) → KeepsWell h (got_told t o h)
got_told_well t None h =
    well_same h
got_told_well t (Some words) h =
    told_well (line.Got t words) h

pub act_told_well : (g : Graph) (t : ℕ) (act : Act) (h : Held) → KeepsWell h (act_told g t act h)
act_told_well g t act h =
    well_given h (canon_at g act.canon) (λ c. after (told (line.Do t (builtin_of c) act.words) h) (λ done k. got_told t act.got k)) (λ c is. well_after h (told (line.Do t (builtin_of c) act.words) h) (λ done k. got_told t act.got k) (told_well (line.Do t (builtin_of c) act.words) h) (λ done k. got_told_well t act.got k))

pub all_told_well : (g : Graph) (t : ℕ) (x : List Act) (h : Held) → KeepsWell h (all_told g t x h)
all_told_well g t [] h =
    well_same h
all_told_well g t (act ∷ acts) h =
    well_after h (act_told g t act h) (λ done k. all_told g t acts k) (act_told_well g t act h) (λ done k. all_told_well g t acts k)

pub call_refused_well : (x : CallRefusal) (h : Held) → KeepsWell h (call_refused x h)
call_refused_well refusal.CannotLeave h =
    tt
call_refused_well (refusal.Refused why) h =
    tt
call_refused_well refusal.NoRule h =
    tt

pub code_trapped_well : (x : HostedTrap) (h : Held) → KeepsWell h (code_trapped x h)
code_trapped_well (hosted.Core why) h =
    tt
code_trapped_well (hosted.Call why) h =
    call_refused_well why h
code_trapped_well hosted.NoRealloc h =
    tt

pub lowered_by_well : (x : Lowered) (h : Held) → KeepsWell h (lowered_by x h)
lowered_by_well (lowered.Words words) h =
    well_same h
lowered_by_well (lowered.Failed why) h =
    tt
lowered_by_well (lowered.Trapped why) h =
    code_trapped_well why h
lowered_by_well lowered.NoFuel h =
    tt

pub finished_well : (g : Graph) (t : ℕ) (acts : Acts) (came : Lowered) (h : Held) → KeepsWell h (finished g t acts came h)
unfolding finished
finished_well g t acts came h =
    well_after h (context_set t 0 acts.context.0 h) (λ done k. after (context_set t 1 acts.context.1 k) (λ done l. after (all_told g t acts.calls l) (λ done m. lowered_by came m))) (context_set_well t 0 acts.context.0 h) (λ done k. well_after k (context_set t 1 acts.context.1 k) (λ done l. after (all_told g t acts.calls l) (λ done m. lowered_by came m)) (context_set_well t 1 acts.context.1 k) (λ done l. well_after l (all_told g t acts.calls l) (λ done m. lowered_by came m) (all_told_well g t acts.calls l) (λ done m. lowered_by_well came m)))

-- What a lowering begins with, and what is told behind it, keep memories, core instances and ends as they are kept.
use Rattle.std.specs.Prelude.{ℕ, Bool, if◌then◌else◌, List, [], ◌∷◌, Option, Some, None}
use Rattle.std.specs.List.{slice_get}
use Rattle.comp_graph.specs.Graph.{Graph}
use Rattle.graph_views.specs.Canons.{canon_at}
use Rattle.graph_views.specs.Names.{builtin_of}
use Rattle.copy_engine.specs.declared.acts.Act.{Act}
use Rattle.copy_engine.specs.declared.acts.Acts.{Acts}
use Rattle.copy_engine.specs.declared.answering.CallRefusal.{CallRefusal}
use Rattle.copy_engine.specs.declared.answering.CallRefusal.TheVariants as refusal
use Rattle.copy_engine.specs.declared.hosted.HostedTrap.{HostedTrap}
use Rattle.copy_engine.specs.declared.hosted.HostedTrap.TheVariants as hosted
use Rattle.copy_engine.specs.declared.lower_values.Lowered.{Lowered}
use Rattle.copy_engine.specs.declared.lower_values.Lowered.TheVariants as lowered
use Rattle.programs.specs.declared.program.Program.{Program}
use Rattle.programs.specs.Program.{resources_of}
use Rattle.trace_labels.specs.declared.label.Label.TheVariants as line
use Rattle.world_parts.specs.Held.{Held, Gives, Stuck, after, given}
use Rattle.world_parts.specs.Feed.{told}
use Rattle.world_parts.specs.Slots.{context_set}
use Rattle.value_moves.specs.declared.lowering.Destination.{Destination}
use Rattle.value_moves.specs.Lowering.{act_told, all_told, call_refused, code_trapped, finished, got_told, lowered_by, site_found}
use Rattle.run_laws.proofs.keeping.still.Still.{no_kinds, StillBy, still_after, still_given, still_if, still_same, bare_ends}
use Rattle.run_laws.proofs.keeping.still.Feed.{told_still}
use Rattle.run_laws.proofs.keeping.still.Slots.{context_set_still}

pub site_found_still : (p : Program) (to : Destination) (is_fit : Bool) (h : Held) → StillBy no_kinds h (site_found p to is_fit h)
site_found_still p to is_fit h =
    still_given no_kinds h (slice_get h.instances to.instance) (λ i. given (slice_get h.tasks to.task) (λ slot. given (resources_of p to.instance) (λ resources. if is_fit then Gives (record { instance = i; context = slot.context; resources = resources }) h else Stuck))) (λ i is. still_given no_kinds h (slice_get h.tasks to.task) (λ slot. given (resources_of p to.instance) (λ resources. if is_fit then Gives (record { instance = i; context = slot.context; resources = resources }) h else Stuck)) (λ slot is. still_given no_kinds h (resources_of p to.instance) (λ resources. if is_fit then Gives (record { instance = i; context = slot.context; resources = resources }) h else Stuck) (λ resources is. still_if no_kinds h (is_fit) (Gives (record { instance = i; context = slot.context; resources = resources }) h) (Stuck) (still_same no_kinds h) tt)))

pub got_told_still : (t : ℕ) (o : Option (List ℕ)) (h : Held) → StillBy no_kinds h (got_told t o h)
got_told_still t None h =
    still_same no_kinds h
got_told_still t (Some words) h =
    told_still no_kinds (line.Got t words) h

pub act_told_still : (g : Graph) (t : ℕ) (act : Act) (h : Held) → StillBy no_kinds h (act_told g t act h)
act_told_still g t act h =
    still_given no_kinds h (canon_at g act.canon) (λ c. after (told (line.Do t (builtin_of c) act.words) h) (λ done k. got_told t act.got k)) (λ c is. still_after no_kinds h (told (line.Do t (builtin_of c) act.words) h) (λ done k. got_told t act.got k) (told_still no_kinds (line.Do t (builtin_of c) act.words) h) (λ done k. got_told_still t act.got k))

pub all_told_still : (g : Graph) (t : ℕ) (x : List Act) (h : Held) → StillBy no_kinds h (all_told g t x h)
all_told_still g t [] h =
    still_same no_kinds h
all_told_still g t (act ∷ acts) h =
    still_after no_kinds h (act_told g t act h) (λ done k. all_told g t acts k) (act_told_still g t act h) (λ done k. all_told_still g t acts k)

pub call_refused_still : (x : CallRefusal) (h : Held) → StillBy no_kinds h (call_refused x h)
call_refused_still refusal.CannotLeave h =
    bare_ends h h
call_refused_still (refusal.Refused why) h =
    bare_ends h h
call_refused_still refusal.NoRule h =
    tt

pub code_trapped_still : (x : HostedTrap) (h : Held) → StillBy no_kinds h (code_trapped x h)
code_trapped_still (hosted.Core why) h =
    bare_ends h h
code_trapped_still (hosted.Call why) h =
    call_refused_still why h
code_trapped_still hosted.NoRealloc h =
    tt

pub lowered_by_still : (x : Lowered) (h : Held) → StillBy no_kinds h (lowered_by x h)
lowered_by_still (lowered.Words words) h =
    still_same no_kinds h
lowered_by_still (lowered.Failed why) h =
    bare_ends h h
lowered_by_still (lowered.Trapped why) h =
    code_trapped_still why h
lowered_by_still lowered.NoFuel h =
    tt

pub finished_still : (g : Graph) (t : ℕ) (acts : Acts) (came : Lowered) (h : Held) → StillBy no_kinds h (finished g t acts came h)
unfolding finished
finished_still g t acts came h =
    still_after no_kinds h (context_set t 0 acts.context.0 h) (λ done k. after (context_set t 1 acts.context.1 k) (λ done l. after (all_told g t acts.calls l) (λ done m. lowered_by came m))) (context_set_still no_kinds t 0 acts.context.0 h) (λ done k. still_after no_kinds k (context_set t 1 acts.context.1 k) (λ done l. after (all_told g t acts.calls l) (λ done m. lowered_by came m)) (context_set_still no_kinds t 1 acts.context.1 k) (λ done l. still_after no_kinds l (all_told g t acts.calls l) (λ done m. lowered_by came m) (all_told_still g t acts.calls l) (λ done m. lowered_by_still came m)))

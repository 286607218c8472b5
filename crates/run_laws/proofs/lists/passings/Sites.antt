-- What a lowering begins with, and what is told behind it: lists of tasks stay as they follow from the tasks.
use Rattle.std.specs.Prelude.{ℕ, Bool, if◌then◌else◌, List, [], ◌∷◌, Option, Some, None}
use Rattle.std.specs.List.{slice_get}
use Rattle.comp_graph.specs.Graph.{Graph}
use Rattle.graph_views.specs.Canons.{canon_at}
use Rattle.graph_views.specs.Names.{builtin_of}
use Rattle.copy_engine.specs.declared.acts.Act.{Act}
use Rattle.copy_engine.specs.declared.acts.Acts.{Acts}
use Rattle.copy_engine.specs.declared.answering.CallRefusal.{CallRefusal}
use Rattle.copy_engine.specs.declared.answering.CallRefusal.TheVariants as refusal
use Rattle.copy_engine.specs.declared.hosted.HostedTrap.{HostedTrap}
use Rattle.copy_engine.specs.declared.hosted.HostedTrap.TheVariants as hosted
use Rattle.copy_engine.specs.declared.lower_values.Lowered.{Lowered}
use Rattle.copy_engine.specs.declared.lower_values.Lowered.TheVariants as lowered
use Rattle.programs.specs.declared.program.Program.{Program}
use Rattle.programs.specs.Program.{resources_of}
use Rattle.trace_labels.specs.declared.label.Label.TheVariants as line
use Rattle.world_parts.specs.Held.{Held, Gives, Stuck, after, given}
use Rattle.world_parts.specs.Feed.{told}
use Rattle.world_parts.specs.Slots.{context_set}
use Rattle.value_moves.specs.declared.lowering.Destination.{Destination}
use Rattle.value_moves.specs.Lowering.{act_told, all_told, call_refused, code_trapped, finished, got_told, lowered_by, site_found}
use Rattle.run_laws.proofs.lists.Feed.{told_lists}
use Rattle.run_laws.proofs.lists.Slots.{context_set_lists}
use Rattle.run_laws.proofs.lists.Same.{ListsBy, lists_after, lists_given, lists_if, lists_same}

pub site_found_lists : (p : Program) (to : Destination) (is_fit : Bool) (h : Held) → ListsBy h (site_found p to is_fit h)
site_found_lists p to is_fit h =
    lists_given h (slice_get h.instances to.instance) (λ i. given (slice_get h.tasks to.task) (λ slot. given (resources_of p to.instance) (λ resources. if is_fit then Gives (record { instance = i; context = slot.context; resources = resources }) h else Stuck))) (λ i is. lists_given h (slice_get h.tasks to.task) (λ slot. given (resources_of p to.instance) (λ resources. if is_fit then Gives (record { instance = i; context = slot.context; resources = resources }) h else Stuck)) (λ slot is. lists_given h (resources_of p to.instance) (λ resources. if is_fit then Gives (record { instance = i; context = slot.context; resources = resources }) h else Stuck) (λ resources is. lists_if h (is_fit) (Gives (record { instance = i; context = slot.context; resources = resources }) h) (Stuck) (lists_same h) tt)))

pub got_told_lists : (t : ℕ) (o : Option (List ℕ)) (h : Held) → ListsBy h (got_told t o h)
got_told_lists t None h =
    lists_same h
got_told_lists t (Some words) h =
    told_lists (line.Got t words) h

pub act_told_lists : (g : Graph) (t : ℕ) (act : Act) (h : Held) → ListsBy h (act_told g t act h)
act_told_lists g t act h =
    lists_given h (canon_at g act.canon) (λ c. after (told (line.Do t (builtin_of c) act.words) h) (λ done k. got_told t act.got k)) (λ c is. lists_after h (told (line.Do t (builtin_of c) act.words) h) (λ done k. got_told t act.got k) (told_lists (line.Do t (builtin_of c) act.words) h) (λ done k. got_told_lists t act.got k))

pub all_told_lists : (g : Graph) (t : ℕ) (x : List Act) (h : Held) → ListsBy h (all_told g t x h)
all_told_lists g t [] h =
    lists_same h
all_told_lists g t (act ∷ acts) h =
    lists_after h (act_told g t act h) (λ done k. all_told g t acts k) (act_told_lists g t act h) (λ done k. all_told_lists g t acts k)

pub call_refused_lists : (x : CallRefusal) (h : Held) → ListsBy h (call_refused x h)
call_refused_lists refusal.CannotLeave h =
    tt
call_refused_lists (refusal.Refused why) h =
    tt
call_refused_lists refusal.NoRule h =
    tt

pub code_trapped_lists : (x : HostedTrap) (h : Held) → ListsBy h (code_trapped x h)
code_trapped_lists (hosted.Core why) h =
    tt
code_trapped_lists (hosted.Call why) h =
    call_refused_lists why h
code_trapped_lists hosted.NoRealloc h =
    tt

pub lowered_by_lists : (x : Lowered) (h : Held) → ListsBy h (lowered_by x h)
lowered_by_lists (lowered.Words words) h =
    lists_same h
lowered_by_lists (lowered.Failed why) h =
    tt
lowered_by_lists (lowered.Trapped why) h =
    code_trapped_lists why h
lowered_by_lists lowered.NoFuel h =
    tt

pub finished_lists : (g : Graph) (t : ℕ) (acts : Acts) (came : Lowered) (h : Held) → ListsBy h (finished g t acts came h)
unfolding finished
finished_lists g t acts came h =
    lists_after h (context_set t 0 acts.context.0 h) (λ done k. after (context_set t 1 acts.context.1 k) (λ done l. after (all_told g t acts.calls l) (λ done m. lowered_by came m))) (context_set_lists t 0 acts.context.0 h) (λ done k. lists_after k (context_set t 1 acts.context.1 k) (λ done l. after (all_told g t acts.calls l) (λ done m. lowered_by came m)) (context_set_lists t 1 acts.context.1 k) (λ done l. lists_after l (all_told g t acts.calls l) (λ done m. lowered_by came m) (all_told_lists g t acts.calls l) (λ done m. lowered_by_lists came m)))

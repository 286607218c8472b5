-- Lowering begins and ends: who runs, and how many tasks there are, stay.
use Rattle.std.specs.Prelude.{ℕ, Bool, if◌then◌else◌, List, [], ◌∷◌, Option, Some, None}
use Rattle.std.specs.List.{slice_get}
use Rattle.comp_graph.specs.Graph.{Graph}
use Rattle.graph_views.specs.Canons.{canon_at}
use Rattle.graph_views.specs.Names.{builtin_of}
use Rattle.copy_engine.specs.declared.acts.Act.{Act}
use Rattle.copy_engine.specs.declared.acts.Acts.{Acts}
use Rattle.copy_engine.specs.declared.answering.CallRefusal.{CallRefusal}
use Rattle.copy_engine.specs.declared.answering.CallRefusal.TheVariants as refusal
use Rattle.copy_engine.specs.declared.hosted.HostedTrap.{HostedTrap}
use Rattle.copy_engine.specs.declared.hosted.HostedTrap.TheVariants as hosted
use Rattle.copy_engine.specs.declared.lower_values.Lowered.{Lowered}
use Rattle.copy_engine.specs.declared.lower_values.Lowered.TheVariants as lowered
use Rattle.programs.specs.declared.program.Program.{Program}
use Rattle.programs.specs.Program.{resources_of}
use Rattle.trace_labels.specs.declared.label.Label.TheVariants as line
use Rattle.world_parts.specs.Held.{Held, Gives, Stuck, after, given}
use Rattle.world_parts.specs.Feed.{told}
use Rattle.world_parts.specs.Slots.{context_set}
use Rattle.value_moves.specs.declared.lowering.Destination.{Destination}
use Rattle.value_moves.specs.Lowering.{act_told, all_told, call_refused, code_trapped, finished, got_told, lowered_by, site_found}
use Rattle.run_laws.proofs.chains.Parts.{context_set_chain, told_chain}
use Rattle.run_laws.proofs.chains.By.{ChainBy, chain_after, chain_given, chain_if, chain_same}

pub site_found_chain : (p : Program) (to : Destination) (is_fit : Bool) (h : Held) → ChainBy h (site_found p to is_fit h)
site_found_chain p to is_fit h =
    chain_given h (slice_get h.instances to.instance) (λ i. given (slice_get h.tasks to.task) (λ slot. given (resources_of p to.instance) (λ resources. if is_fit then Gives (record { instance = i; context = slot.context; resources = resources }) h else Stuck))) (λ i is. chain_given h (slice_get h.tasks to.task) (λ slot. given (resources_of p to.instance) (λ resources. if is_fit then Gives (record { instance = i; context = slot.context; resources = resources }) h else Stuck)) (λ slot is. chain_given h (resources_of p to.instance) (λ resources. if is_fit then Gives (record { instance = i; context = slot.context; resources = resources }) h else Stuck) (λ resources is. chain_if h (is_fit) (Gives (record { instance = i; context = slot.context; resources = resources }) h) (Stuck) (chain_same h) tt)))

pub got_told_chain : (t : ℕ) (o : Option (List ℕ)) (h : Held) → ChainBy h (got_told t o h)
got_told_chain t None h =
    chain_same h
got_told_chain t (Some words) h =
    told_chain (line.Got t words) h

pub act_told_chain : (g : Graph) (t : ℕ) (act : Act) (h : Held) → ChainBy h (act_told g t act h)
act_told_chain g t act h =
    chain_given h (canon_at g act.canon) (λ c. after (told (line.Do t (builtin_of c) act.words) h) (λ done k. got_told t act.got k)) (λ c is. chain_after h (told (line.Do t (builtin_of c) act.words) h) (λ done k. got_told t act.got k) (told_chain (line.Do t (builtin_of c) act.words) h) (λ done k. got_told_chain t act.got k))

pub all_told_chain : (g : Graph) (t : ℕ) (x : List Act) (h : Held) → ChainBy h (all_told g t x h)
all_told_chain g t [] h =
    chain_same h
all_told_chain g t (act ∷ acts) h =
    chain_after h (act_told g t act h) (λ done k. all_told g t acts k) (act_told_chain g t act h) (λ done k. all_told_chain g t acts k)

pub call_refused_chain : (x : CallRefusal) (h : Held) → ChainBy h (call_refused x h)
call_refused_chain refusal.CannotLeave h =
    tt
call_refused_chain (refusal.Refused why) h =
    tt
call_refused_chain refusal.NoRule h =
    tt

pub code_trapped_chain : (x : HostedTrap) (h : Held) → ChainBy h (code_trapped x h)
code_trapped_chain (hosted.Core why) h =
    tt
code_trapped_chain (hosted.Call why) h =
    call_refused_chain why h
code_trapped_chain hosted.NoRealloc h =
    tt

pub lowered_by_chain : (x : Lowered) (h : Held) → ChainBy h (lowered_by x h)
lowered_by_chain (lowered.Words words) h =
    chain_same h
lowered_by_chain (lowered.Failed why) h =
    tt
lowered_by_chain (lowered.Trapped why) h =
    code_trapped_chain why h
lowered_by_chain lowered.NoFuel h =
    tt

pub finished_chain : (g : Graph) (t : ℕ) (acts : Acts) (came : Lowered) (h : Held) → ChainBy h (finished g t acts came h)
unfolding finished
finished_chain g t acts came h =
    chain_after h (context_set t 0 acts.context.0 h) (λ done k. after (context_set t 1 acts.context.1 k) (λ done l. after (all_told g t acts.calls l) (λ done m. lowered_by came m))) (context_set_chain t 0 acts.context.0 h) (λ done k. chain_after k (context_set t 1 acts.context.1 k) (λ done l. after (all_told g t acts.calls l) (λ done m. lowered_by came m)) (context_set_chain t 1 acts.context.1 k) (λ done l. chain_after l (all_told g t acts.calls l) (λ done m. lowered_by came m) (all_told_chain g t acts.calls l) (λ done m. lowered_by_chain came m)))

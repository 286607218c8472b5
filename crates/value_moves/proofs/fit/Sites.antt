-- What a lowering begins with, and what is told behind it, leave the store alone, and no handle is lent more often.
use Rattle.std.proofs.Common.{◌≡◌, refl}
use Rattle.std.specs.Prelude.{◌≡◌, ℕ, Bool, if◌then◌else◌, List, [], ◌∷◌, length, Option, Some, None}
use Rattle.std.specs.List.{slice_get}
use Rattle.syntax_trees.specs.declared.types.ValType.{ValType}
use Rattle.syntax_trees.specs.declared.value.Value.{Value}
use Rattle.syntax_trees.specs.Fits.{fits}
use Rattle.laid_types.specs.Known.{Numbered}
use Rattle.value_lower.specs.declared.ends.LowerWhy.{LowerWhy}
use Rattle.value_lower.specs.declared.ends.LowerWhy.TheVariants as lower_why
use Rattle.value_lower.specs.Plan.{Plan}
use Rattle.value_lower.specs.Tables.{IsEntry}
use Rattle.wasm_store.specs.Store.{Store}
use Rattle.comp_graph.specs.declared.graph.Options.{Options}
use Rattle.comp_graph.specs.Graph.{Graph}
use Rattle.graph_views.specs.Canons.{canon_at}
use Rattle.graph_views.specs.Names.{builtin_of}
use Rattle.copy_engine.specs.declared.acts.Act.{Act}
use Rattle.copy_engine.specs.declared.acts.Acts.{Acts}
use Rattle.copy_engine.specs.declared.answering.CallRefusal.{CallRefusal}
use Rattle.copy_engine.specs.declared.answering.CallRefusal.TheVariants as refusal
use Rattle.copy_engine.specs.declared.hosted.HostedRoom.{HostedRoom}
use Rattle.copy_engine.specs.declared.hosted.HostedTrap.{HostedTrap}
use Rattle.copy_engine.specs.declared.hosted.HostedTrap.TheVariants as hosted
use Rattle.copy_engine.specs.declared.lower_values.Lowered.{Lowered}
use Rattle.copy_engine.specs.declared.lower_values.Lowered.TheVariants as lowered
use Rattle.copy_engine.specs.declared.lower_values.Target.{Target}
use Rattle.copy_engine.specs.Answering.{Setting}
use Rattle.copy_engine.specs.Copying.{all_fit}
use Rattle.copy_engine.specs.Hosted.{Placed, plan_to, plan_all, PlanComesTo}
use Rattle.instances.specs.declared.entry.WorldEntry.{WorldEntry}
use Rattle.instances.specs.Entries.{seen_as, of_handle, of_end}
use Rattle.instances.specs.Instances.{InstanceView, with_slots}
use Rattle.programs.specs.declared.program.Program.{Program}
use Rattle.programs.specs.Program.{resources_of}
use Rattle.trace_labels.specs.declared.label.Label.TheVariants as line
use Rattle.trace_labels.specs.declared.trap.TrapName.{TrapName}
use Rattle.trace_labels.specs.declared.trap.TrapName.TheVariants as trap
use Rattle.world_parts.specs.Held.{Held, Done, Gives, Traps, Spent, Stuck, after, given}
use Rattle.world_parts.specs.Entries.{with_instance}
use Rattle.world_parts.specs.Feed.{told}
use Rattle.world_parts.specs.Names.{refusal_name}
use Rattle.world_parts.specs.Places.{memory_of}
use Rattle.world_parts.specs.Slots.{context_set}
use Rattle.world_stacks.specs.Addresses.{realloc_of}
use Rattle.world_stacks.specs.Names.{core_name}
use Rattle.value_moves.specs.declared.lowering.Destination.{Destination}
use Rattle.value_parts.specs.Coming.{Behind}
use Rattle.value_moves.specs.Lowering.{LowersAll, LowersAt, LowersInto, act_told, address_or_none, all_told, begun_at, call_refused, code_trapped, destination_at, destination_of, finished, got_told, left_at, lower_name, lowered_by, setting_in, site_found, with_room}
use Rattle.value_parts.proofs.fit.Keeps.{Keeps, KeepsBy, keeps_after, keeps_given, keeps_if, keeps_same, keeps_all, keeps_from}
use Rattle.value_parts.proofs.fit.Feed.{told_keeps}
use Rattle.value_parts.proofs.fit.Slots.{context_set_keeps}

pub site_found_keeps : (p : Program) (to : Destination) (is_fit : Bool) (h : Held) → KeepsBy h (site_found p to is_fit h)
site_found_keeps p to is_fit h =
    keeps_given h (slice_get h.instances to.instance) (λ i. given (slice_get h.tasks to.task) (λ slot. given (resources_of p to.instance) (λ resources. if is_fit then Gives (record { instance = i; context = slot.context; resources = resources }) h else Stuck))) (λ i is. keeps_given h (slice_get h.tasks to.task) (λ slot. given (resources_of p to.instance) (λ resources. if is_fit then Gives (record { instance = i; context = slot.context; resources = resources }) h else Stuck)) (λ slot is. keeps_given h (resources_of p to.instance) (λ resources. if is_fit then Gives (record { instance = i; context = slot.context; resources = resources }) h else Stuck) (λ resources is. keeps_if h (is_fit) (Gives (record { instance = i; context = slot.context; resources = resources }) h) (Stuck) (keeps_same h) tt)))

pub got_told_keeps : (t : ℕ) (o : Option (List ℕ)) (h : Held) → KeepsBy h (got_told t o h)
got_told_keeps t None h =
    keeps_same h
got_told_keeps t (Some words) h =
    told_keeps (line.Got t words) h

pub act_told_keeps : (g : Graph) (t : ℕ) (act : Act) (h : Held) → KeepsBy h (act_told g t act h)
act_told_keeps g t act h =
    keeps_given h (canon_at g act.canon) (λ c. after (told (line.Do t (builtin_of c) act.words) h) (λ done k. got_told t act.got k)) (λ c is. keeps_after h (told (line.Do t (builtin_of c) act.words) h) (λ done k. got_told t act.got k) (told_keeps (line.Do t (builtin_of c) act.words) h) (λ done k. got_told_keeps t act.got k))

pub all_told_keeps : (g : Graph) (t : ℕ) (x : List Act) (h : Held) → KeepsBy h (all_told g t x h)
all_told_keeps g t [] h =
    keeps_same h
all_told_keeps g t (act ∷ acts) h =
    keeps_after h (act_told g t act h) (λ done k. all_told g t acts k) (act_told_keeps g t act h) (λ done k. all_told_keeps g t acts k)

pub call_refused_keeps : (x : CallRefusal) (h : Held) → KeepsBy h (call_refused x h)
call_refused_keeps refusal.CannotLeave h =
    tt
call_refused_keeps (refusal.Refused why) h =
    tt
call_refused_keeps refusal.NoRule h =
    tt

pub code_trapped_keeps : (x : HostedTrap) (h : Held) → KeepsBy h (code_trapped x h)
code_trapped_keeps (hosted.Core why) h =
    tt
code_trapped_keeps (hosted.Call why) h =
    call_refused_keeps why h
code_trapped_keeps hosted.NoRealloc h =
    tt

pub lowered_by_keeps : (x : Lowered) (h : Held) → KeepsBy h (lowered_by x h)
lowered_by_keeps (lowered.Words words) h =
    keeps_same h
lowered_by_keeps (lowered.Failed why) h =
    tt
lowered_by_keeps (lowered.Trapped why) h =
    code_trapped_keeps why h
lowered_by_keeps lowered.NoFuel h =
    tt

pub finished_keeps : (g : Graph) (t : ℕ) (acts : Acts) (came : Lowered) (h : Held) → KeepsBy h (finished g t acts came h)
unfolding finished
finished_keeps g t acts came h =
    keeps_after h (context_set t 0 acts.context.0 h) (λ done k. after (context_set t 1 acts.context.1 k) (λ done l. after (all_told g t acts.calls l) (λ done m. lowered_by came m))) (context_set_keeps t 0 acts.context.0 h) (λ done k. keeps_after k (context_set t 1 acts.context.1 k) (λ done l. after (all_told g t acts.calls l) (λ done m. lowered_by came m)) (context_set_keeps t 1 acts.context.1 k) (λ done l. keeps_after l (all_told g t acts.calls l) (λ done m. lowered_by came m) (all_told_keeps g t acts.calls l) (λ done m. lowered_by_keeps came m)))

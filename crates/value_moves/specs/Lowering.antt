-- Values that are lowered over what is kept (Component Model, CanonicalABI.md, "Storing", "Flat Lowering", "Lifting and Lowering Context"): into the
-- memory and the table of an instance, whose own code gives out places. That code acts for a task, whose words of context it has, and its calls
-- of canonical functions are told as calls of that task.
use Rattle.std.specs.Prelude.{◌≡◌, ℕ, Bool, if◌then◌else◌, List, [], ◌∷◌, length, Option, Some, None}
use Rattle.std.specs.List.{slice_get}
use Rattle.syntax_trees.specs.declared.types.ValType.{ValType}
use Rattle.syntax_trees.specs.declared.value.Value.{Value}
use Rattle.syntax_trees.specs.Fits.{fits}
use Rattle.laid_types.specs.Known.{Numbered}
use Rattle.value_lower.specs.declared.ends.LowerWhy.{LowerWhy}
use Rattle.value_lower.specs.declared.ends.LowerWhy.TheVariants as lower_why
use Rattle.value_lower.specs.Plan.{Plan}
use Rattle.value_lower.specs.Tables.{IsEntry}
use Rattle.wasm_store.specs.Store.{Store}
use Rattle.comp_graph.specs.declared.graph.Options.{Options}
use Rattle.comp_graph.specs.Graph.{Graph}
use Rattle.graph_views.specs.Canons.{canon_at}
use Rattle.graph_views.specs.Names.{builtin_of}
use Rattle.copy_engine.specs.declared.acts.Act.{Act}
use Rattle.copy_engine.specs.declared.acts.Acts.{Acts}
use Rattle.copy_engine.specs.declared.answering.CallRefusal.{CallRefusal}
use Rattle.copy_engine.specs.declared.answering.CallRefusal.TheVariants as refusal
use Rattle.copy_engine.specs.declared.hosted.HostedRoom.{HostedRoom}
use Rattle.copy_engine.specs.declared.hosted.HostedTrap.{HostedTrap}
use Rattle.copy_engine.specs.declared.hosted.HostedTrap.TheVariants as hosted
use Rattle.copy_engine.specs.declared.lower_values.Lowered.{Lowered}
use Rattle.copy_engine.specs.declared.lower_values.Lowered.TheVariants as lowered
use Rattle.copy_engine.specs.declared.lower_values.Target.{Target}
use Rattle.copy_engine.specs.Answering.{Setting}
use Rattle.copy_engine.specs.Copying.{all_fit}
use Rattle.copy_engine.specs.Hosted.{Placed, plan_to, plan_all, PlanComesTo}
use Rattle.instances.specs.declared.entry.WorldEntry.{WorldEntry}
use Rattle.instances.specs.Entries.{seen_as, of_handle, of_end}
use Rattle.instances.specs.Instances.{InstanceView, with_slots}
use Rattle.programs.specs.declared.program.Program.{Program}
use Rattle.programs.specs.Program.{resources_of}
use Rattle.trace_labels.specs.declared.label.Label.TheVariants as line
use Rattle.trace_labels.specs.declared.trap.TrapName.{TrapName}
use Rattle.trace_labels.specs.declared.trap.TrapName.TheVariants as trap
use Rattle.world_parts.specs.Held.{Held, Done, Gives, Traps, Spent, Stuck, after, given}
use Rattle.world_parts.specs.Entries.{with_instance}
use Rattle.world_parts.specs.Feed.{told}
use Rattle.world_parts.specs.Names.{refusal_name}
use Rattle.world_parts.specs.Places.{memory_of}
use Rattle.world_parts.specs.Slots.{context_set}
use Rattle.world_stacks.specs.Addresses.{realloc_of}
use Rattle.world_stacks.specs.Names.{core_name}
use Rattle.value_moves.specs.declared.lowering.Destination.{Destination}
use Rattle.value_parts.specs.Coming.{Behind}

-- Where values go: an instance, for a task. Where options have no memory its address is one at which no memory is.
abbrev pub address_or_none : Option ℕ → Store → ℕ
address_or_none (Some address) s = address
address_or_none None s = length s.memories

abbrev pub destination_at : ℕ → ℕ → Option ℕ → Options → Store → Destination
destination_at instance t memory options s =
    record { instance = instance; task = t; options = record { memory = address_or_none memory s; realloc = realloc_of s options } }

abbrev pub destination_of : ℕ → ℕ → Options → Held → Destination
destination_of instance t options h = destination_at instance t (memory_of options h) options h.store

-- What a lowering begins with: the instance as it is, the words of context of the task, and the resources that the instance defines. Values that
-- are not of their type are not lowered.
pub record Site : Type 0 where
  pub instance : InstanceView
  pub context : ℕ × ℕ
  pub resources : List ℕ

abbrev pub site_found : Program → Destination → Bool → Held → Done Site
site_found p to is_fit h =
    given (slice_get h.instances to.instance) (λ i. given (slice_get h.tasks to.task) (λ slot. given (resources_of p to.instance) (λ resources.
    if is_fit then Gives (record { instance = i; context = slot.context; resources = resources }) h else Stuck)))

-- A call by code that gives out places is told, and its answer, if it has one.
abbrev pub got_told : ℕ → Option (List ℕ) → Held → Done (Unit {0})
got_told t None h = Gives tt h
got_told t (Some words) h = told (line.Got t words) h

abbrev pub act_told : Graph → ℕ → Act → Held → Done (Unit {0})
act_told g t act h =
    given (canon_at g act.canon) (λ c. after (told (line.Do t (builtin_of c) act.words) h) (λ done k. got_told t act.got k))

abbrev pub all_told : Graph → ℕ → List Act → Held → Done (Unit {0})
all_told g t [] h = Gives tt h
all_told g t (act ∷ acts) h = after (act_told g t act h) (λ done k. all_told g t acts k)

-- What the lowering comes to: core values, or a trap.
abbrev pub lower_name : LowerWhy → TrapName
lower_name lower_why.Misaligned = trap.Misaligned
lower_name lower_why.Bounds = trap.Bounds
lower_name lower_why.TableFull = trap.TableFull

abbrev pub call_refused : CallRefusal → Held → Done (List ℕ)
call_refused refusal.CannotLeave h = Traps trap.CannotLeave h
call_refused (refusal.Refused why) h = Traps (refusal_name why) h
call_refused refusal.NoRule h = Stuck

abbrev pub code_trapped : HostedTrap → Held → Done (List ℕ)
code_trapped (hosted.Core why) h = Traps (core_name why) h
code_trapped (hosted.Call why) h = call_refused why h
code_trapped hosted.NoRealloc h = Stuck

abbrev pub lowered_by : Lowered → Held → Done (List ℕ)
lowered_by (lowered.Words words) h = Gives words h
lowered_by (lowered.Failed why) h = Traps (lower_name why) h
lowered_by (lowered.Trapped why) h = code_trapped why h
lowered_by lowered.NoFuel h = Spent h

-- Behind it the task has the words of context as the code left them, and the calls are told.
unfoldable pub finished : Graph → ℕ → Acts → Lowered → Held → Done (List ℕ)
finished g t acts came h =
    after (context_set t 0 acts.context.0 h) (λ done k. after (context_set t 1 acts.context.1 k) (λ done l.
    after (all_told g t acts.calls l) (λ done m. lowered_by came m)))

-- A lowering, by its plan, where types are told by their numbers among these.
abbrev pub setting_in : Graph → Destination → Setting
setting_in g to = record { options = to.options; canons = g.canons; instance = to.instance }

abbrev pub begun_at : Site → Held → Placed WorldEntry
begun_at s h = record { room = record { store = h.store; fuel = h.left; acts = record { context = s.context; calls = [] } }; slots = s.instance.slots }

abbrev pub with_room : HostedRoom → Held → Held
with_room room h = record h { store = room.store; left = room.fuel }

abbrev pub left_at : Destination → Site → Placed WorldEntry → Held → Held
left_at to s placed h = with_room placed.room (with_instance to.instance (with_slots placed.slots s.instance) h)

abbrev pub LowersAt : Graph → Destination → List ValType → Plan → Site → Held → Done (List ℕ) → Type 0
LowersAt g to types plan s h d =
    (came : Lowered) × (placed : Placed WorldEntry)
    × PlanComesTo seen_as (IsEntry of_handle of_end to.task types) (setting_in g to) plan (begun_at s h) came placed
    × (d ≡ finished g to.task placed.room.acts came (left_at to s placed h))

-- A value goes to a target;
abbrev pub LowersInto : Program → Destination → Numbered → Value → Target → Held → Done (List ℕ) → Type 0
LowersInto p to t v target h d =
    Behind (site_found p to (fits v t.val_type) h) (λ s k e. LowersAt p.graph.now to t.types (plan_to target t.val_type v s.resources) s k e) d

-- or values go to a place, one after the other.
abbrev pub LowersAll : Program → Destination → Numbered → List Value → ℕ → Held → Done (List ℕ) → Type 0
LowersAll p to t values place h d =
    Behind (site_found p to (all_fit t.val_type values) h) (λ s k e. LowersAt p.graph.now to t.types (plan_all t.val_type values place s.resources) s k e) d

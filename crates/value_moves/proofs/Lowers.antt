-- What a lowering over what is kept may come to.
use Rattle.std.proofs.Common.{◌≡◌, ℕ, Bool, true, List, [], refl, subst, Some, Result}
use Rattle.std.specs.List.{slice_get}
use Rattle.laid_types.specs.Known.{Numbered}
use Rattle.value_lower.specs.Plan.{Plan}
use Rattle.value_lower.specs.Tables.{IsEntry}
use Rattle.comp_graph.specs.declared.graph.CanonFunc.{CanonFunc}
use Rattle.copy_engine.specs.declared.acts.Act.{Act}
use Rattle.copy_engine.specs.declared.hosted.HostedRoom.{HostedRoom}
use Rattle.copy_engine.specs.declared.lower_values.Lowered.{Lowered}
use Rattle.copy_engine.specs.Hosted.{Placed, PlanComesTo}
use Rattle.instances.specs.declared.entry.WorldEntry.{WorldEntry}
use Rattle.instances.specs.Entries.{seen_as, of_handle, of_end}
use Rattle.instances.specs.Instances.{InstanceView, with_slots}
use Rattle.task_table.specs.declared.slot.TaskSlot.{TaskSlot}
use Rattle.programs.specs.declared.program.Program.{Program}
use Rattle.programs.specs.Program.{resources_of}
use Rattle.world_parts.specs.declared.parts.Parts.{Parts}
use Rattle.world_parts.specs.declared.parts.Stop.{Stop}
use Rattle.world_parts.specs.Held.{Held, Gives}
use Rattle.world_parts.specs.Entries.{with_instance}
use Rattle.value_parts.specs.Coming.{Comes}
use Rattle.value_moves.specs.declared.lowering.Destination.{Destination}
use Rattle.value_parts.specs.Coming.{May, Behind}
use Rattle.value_moves.specs.Lowering.{Site, site_found, finished, setting_in, begun_at, with_room, LowersAt}
use Rattle.value_parts.proofs.Chains.{may_so, may_behind}

site_is : (p : Program) (to : Destination) (is_fit : Bool) (h : Held) (i : InstanceView) (slot : TaskSlot) (resources : List ℕ)
    → slice_get h.instances to.instance ≡ Some i → slice_get h.tasks to.task ≡ Some slot → resources_of p to.instance ≡ Some resources → is_fit ≡ true
    → site_found p to is_fit h ≡ Gives (record { instance = i; context = slot.context; resources = resources }) h
site_is p to is_fit h i slot resources e f g fit = rw (e, f, g, fit) refl

-- The lowering began with no calls, and with the canonical functions of the graph.
pub lowered_so : (p : Program) (to : Destination) (t : Numbered) (plan : List ℕ → Plan) (is_fit : Bool) (h : Held) (i j : InstanceView) (slot : TaskSlot) (resources : List ℕ)
    (canons : List CanonFunc) (first : List Act) (came : Lowered) (room : HostedRoom) (result : Result (List ℕ) Stop) (new : Parts)
    → slice_get h.instances to.instance ≡ Some i → slice_get h.tasks to.task ≡ Some slot → resources_of p to.instance ≡ Some resources → is_fit ≡ true
    → first ≡ [] → canons ≡ p.graph.now.canons
    → PlanComesTo seen_as (IsEntry of_handle of_end to.task t.types) (record { options = to.options; canons = canons; instance = to.instance }) (plan resources)
    (record { room = record { store = h.store; fuel = h.left; acts = record { context = slot.context; calls = first } }; slots = i.slots }) came (record { room = room; slots = j.slots })
    → j ≡ with_slots j.slots i
    → Comes (finished p.graph.now to.task room.acts came (with_room room (with_instance to.instance j h))) result new
    → May (Behind (site_found p to is_fit h) (λ s k e. LowersAt p.graph.now to t.types (plan s.resources) s k e)) result new
lowered_so p to t plan is_fit h i j slot resources canons first came room result new e f g fit none same comes rest ends =
    let s : Site = record { instance = i; context = slot.context; resources = resources } in
    let after : Placed WorldEntry = record { room = room; slots = j.slots } in
    let begun : PlanComesTo seen_as (IsEntry of_handle of_end to.task t.types) (setting_in p.graph.now to) (plan resources)
    (record { room = record { store = h.store; fuel = h.left; acts = record { context = slot.context; calls = first } }; slots = i.slots }) came after =
    subst (λ (cs : List CanonFunc). PlanComesTo seen_as (IsEntry of_handle of_end to.task t.types) (record { options = to.options; canons = cs; instance = to.instance }) (plan resources)
    (record { room = record { store = h.store; fuel = h.left; acts = record { context = slot.context; calls = first } }; slots = i.slots }) came after) same comes in
    let led : PlanComesTo seen_as (IsEntry of_handle of_end to.task t.types) (setting_in p.graph.now to) (plan resources) (begun_at s h) came after =
    subst (λ (acts : List Act). PlanComesTo seen_as (IsEntry of_handle of_end to.task t.types) (setting_in p.graph.now to) (plan resources)
    (record { room = record { store = h.store; fuel = h.left; acts = record { context = slot.context; calls = acts } }; slots = i.slots }) came after) none begun in
    may_behind (site_found p to is_fit h) s h (λ s k e. LowersAt p.graph.now to t.types (plan s.resources) s k e) result new (site_is p to is_fit h i slot resources e f g fit)
    (may_so (LowersAt p.graph.now to t.types (plan resources) s h) (finished p.graph.now to.task room.acts came (with_room room (with_instance to.instance (with_slots j.slots i) h))) result new
    (came, after, led, refl)
    (subst (λ (k : InstanceView). Comes (finished p.graph.now to.task room.acts came (with_room room (with_instance to.instance k h))) result new) rest ends))

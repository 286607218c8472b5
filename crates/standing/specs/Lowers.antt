-- What a lowering is in a run of components (Component Model, CanonicalABI.md, "Lifting and Lowering Context", "Storing", "Flat Lowering",
-- `lower_own`, `lower_borrow`, `lower_stream` and `lower_future`): where the steps lead that follow its plan, realloc by realloc, over the memory
-- and the table of an instance. Code that gives out places acts for a task, whose words of context it has, and its calls are lines.
use Rattle.std.specs.Prelude.{◌≡◌, ◌≤◌, ◌+◌, ℕ, List, [], ◌∷◌, ◌++◌, length, slice_set, Option, Some, None}
use Rattle.std.specs.List.{slice_get}
use Rattle.wasm_store.specs.Store.{Store}
use Rattle.wasm_store.specs.Stack.{Stack}
use Rattle.syntax_trees.specs.declared.types.ValType.{ValType}
use Rattle.handle_table.specs.History.{Event}
use Rattle.handle_table.specs.Slots.{Slots}
use Rattle.handle_table.specs.Alike.{StandsBy}
use Rattle.builtin_kinds.specs.declared.EndKind.{EndKind}
use Rattle.value_lower.specs.declared.ends.LowerWhy.{LowerWhy}
use Rattle.value_lower.specs.declared.ends.LowerWhy.TheVariants as lower_why
use Rattle.value_lower.specs.declared.ends.RoomEnd.TheVariants.{Trapped, NoFuel, Memory}
use Rattle.value_lower.specs.Plan as lower
use Rattle.value_lower.specs.Following.{Came, Words, Failed, Ended}
use Rattle.value_lower.specs.Tables.{IsEntry}
use Rattle.copy_engine.specs.declared.acts.Act.{Act}
use Rattle.copy_engine.specs.declared.answering.CallRefusal.TheVariants as refusal
use Rattle.copy_engine.specs.declared.hosted.HostedRoom.{HostedRoom}
use Rattle.copy_engine.specs.declared.hosted.HostedTrap.{HostedTrap}
use Rattle.copy_engine.specs.declared.hosted.HostedTrap.TheVariants as hosted
use Rattle.copy_engine.specs.declared.lower_values.Lowered.{Lowered}
use Rattle.copy_engine.specs.Answering.{Setting}
use Rattle.copy_engine.specs.Hosted.{Placed, as_plan, PlanComesTo}
use Rattle.comp_graph.specs.declared.graph.CanonFunc.{CanonFunc}
use Rattle.comp_graph.specs.Graph.{Graph, ends_type}
use Rattle.script_reader.specs.Script.{Script}
use Rattle.trace_labels.specs.declared.label.Label.{Label}
use Rattle.trace_labels.specs.declared.label.Label.TheVariants as line
use Rattle.trace_labels.specs.declared.trap.TrapName.TheVariants as trap
use Rattle.instances.specs.declared.entry.WorldEntry.{WorldEntry}
use Rattle.instances.specs.Entries.{seen_as, of_handle, of_end}
use Rattle.instances.specs.Instances.{InstanceView, with_slots}
use Rattle.task_table.specs.declared.slot.TaskSlot.{TaskSlot}
use Rattle.world_parts.specs.Held.{Held}
use Rattle.abi_machine.specs.declared.run_end.RunEnd.TheVariants.{Fuel}
use Rattle.abi_machine.specs.LoweringOver as machine
use Rattle.abi_machine.specs.Traps.{core_name, lower_name, refusal_name}
use Rattle.abi_machine.specs.Control.{Control, Free, Lowering, Lowers, Doomed}
use Rattle.abi_machine.specs.World.{Entry, Inst, Task, World}
use Rattle.abi_machine.specs.Edits.{changed_at}
use Rattle.abi_machine.specs.Canons.{builtin_of, canon_at}
use Rattle.abi_machine.specs.Lowering.{lowered}
use Rattle.abi_machine.specs.Run.{RunsFrom}
use Rattle.standing.specs.Instances.{EntryStands}
use Rattle.standing.specs.Stands.{Stands}
use Rattle.standing.specs.Reaching.{GoesTo, Meets}

-- Plans of code and plans of the machine. An end is told there by its kind, and here by its type.
abbrev pub why_as : LowerWhy → machine.Why
why_as lower_why.Misaligned = machine.Misaligned
why_as lower_why.Bounds = machine.Bounds
why_as lower_why.TableFull = machine.TableFull

abbrev pub NewAgrees : lower.New → machine.New → Type 0
NewAgrees (lower.NewOwn resource rep) m = m ≡ machine.NewOwn resource rep
NewAgrees (lower.NewBorrow resource rep) m = m ≡ machine.NewBorrow resource rep
NewAgrees (lower.NewEnd type number) m = (kind : EndKind) × (element : Option ValType) × (m ≡ machine.NewEnd kind number) × (type ≡ ends_type kind element)

abbrev pub PlanAgrees : lower.Plan → machine.Plan → Type 0
PlanAgrees (lower.Gives words) m = m ≡ machine.Gives words
PlanAgrees (lower.Fails why) m = m ≡ machine.Fails (why_as why)
PlanAgrees (lower.Asks ask k) m = (l : ℕ → machine.Plan) × (m ≡ machine.Asks ask l) × ((place : ℕ) → PlanAgrees (k place) (l place))
PlanAgrees (lower.Size k) m = (l : ℕ → machine.Plan) × (m ≡ machine.Size l) × ((size : ℕ) → PlanAgrees (k size) (l size))
PlanAgrees (lower.Put place bytes k) m = (l : machine.Plan) × (m ≡ machine.Put place bytes l) × PlanAgrees k l
PlanAgrees (lower.Adds entry k) m =
    (new : machine.New) × (l : Option ℕ → machine.Plan) × (m ≡ machine.Adds new l) × NewAgrees entry new × ((index : Option ℕ) → PlanAgrees (k index) (l index))

-- The lines of calls by code that gives out places.
abbrev pub got_lines : ℕ → Option (List ℕ) → List Label
got_lines t None = []
got_lines t (Some words) = line.Got t words ∷ []

abbrev pub act_lines : ℕ → Act → Option CanonFunc → List Label
act_lines t act None = []
act_lines t act (Some c) = line.Do t (builtin_of c) act.words ∷ got_lines t act.got

abbrev pub all_lines : Graph → ℕ → List Act → List Label
all_lines g t [] = []
all_lines g t (act ∷ acts) = act_lines t act (canon_at g act.canon) ++ all_lines g t acts

-- A world in which the store, the used units, the words of context of the task for which places are given, and the table are these.
abbrev pub room_at : World → Lowering → HostedRoom → ℕ → List (Event Entry) → Control → World
room_at w l r units table control = record w {
  store = r.store;
  units = units;
  control = control;
  insts = changed_at l.inst (λ inst. record inst { table = table }) w.insts;
  tasks = changed_at l.acts_for (λ task. record task { context = r.acts.context }) w.tasks;
}

-- The address of the memory, where a lowering has one; else an address at which none is.
abbrev pub IsMemory : Option ℕ → ℕ → Store → Type 0
IsMemory None address s = length s.memories ≤ address
IsMemory (Some there) address s = there ≡ address

-- What a lowering works on is what its world has.
pub record IsPlacedIn (g : Graph) (values : List ValType) (s : Script) (w : World) (l : Lowering) (to : Setting) (task : Task) (inst : Inst) (p : Placed WorldEntry) : Type 0 where
  pub memory : IsMemory l.memory to.options.memory w.store
  pub realloc : to.options.realloc ≡ l.realloc
  pub canons : to.canons ≡ g.canons
  pub instance : to.instance ≡ l.inst
  pub store : p.room.store ≡ w.store
  pub units : w.units + p.room.fuel ≡ s.fuel
  pub untold : p.room.acts.calls ≡ []
  pub task_there : slice_get w.tasks l.acts_for ≡ Some task
  pub context : p.room.acts.context ≡ task.context
  pub inst_there : slice_get w.insts l.inst ≡ Some inst
  pub table : StandsBy (EntryStands values) inst.table p.slots

-- Where a lowering leads, by what its plan comes to, with the room that is left, the used units and the table then. Where code finds no rule,
-- and where the program is short of memory, nothing is said.
abbrev pub LoweringLeads : Graph → Script → World → Lowering → Came HostedTrap → HostedRoom → List (Event Entry) → ℕ → Type 0
LoweringLeads g s w l (Words words) r table used = Meets g s w (all_lines g l.acts_for r.acts.calls) (lowered l.next words (room_at w l r used table Free))
LoweringLeads g s w l (Failed why) r table used =
    GoesTo g s w (all_lines g l.acts_for r.acts.calls) (room_at w l r used table (Doomed l.blame (lower_name (why_as why))))
LoweringLeads g s w l (Ended (Trapped (hosted.Core why))) r table used =
    GoesTo g s w (all_lines g l.acts_for r.acts.calls) (room_at w l r used table (Doomed l.blame (core_name why)))
LoweringLeads g s w l (Ended (Trapped (hosted.Call refusal.CannotLeave))) r table used =
    GoesTo g s w (all_lines g l.acts_for r.acts.calls) (room_at w l r used table (Doomed l.blame trap.CannotLeave))
LoweringLeads g s w l (Ended (Trapped (hosted.Call (refusal.Refused why)))) r table used =
    GoesTo g s w (all_lines g l.acts_for r.acts.calls) (room_at w l r used table (Doomed l.blame (refusal_name why)))
LoweringLeads g s w l (Ended (Trapped (hosted.Call refusal.NoRule))) r table used = Unit {0}
LoweringLeads g s w l (Ended (Trapped hosted.NoRealloc)) r table used = Unit {0}
LoweringLeads g s w l (Ended NoFuel) r table used = (control : Control) × RunsFrom g s w (all_lines g l.acts_for r.acts.calls) (room_at w l r used table control) Fuel
LoweringLeads g s w l (Ended Memory) r table used = Unit {0}

-- It leads there with a table for which the slots that are left stand.
pub record LowersTo (g : Graph) (values : List ValType) (s : Script) (w : World) (l : Lowering) (came : Came HostedTrap) (p : Placed WorldEntry) : Type 0 where
  pub used : ℕ
  pub units : used + p.room.fuel ≡ s.fuel
  pub table : List (Event Entry)
  pub stands : StandsBy (EntryStands values) table p.slots
  pub leads : LoweringLeads g s w l came p.room table used

abbrev pub LoweringsLead : Type 0
LoweringsLead =
    (g : Graph) (values : List ValType) (s : Script) (w : World) (l : Lowering) (to : Setting) (task : Task) (inst : Inst) (plan : lower.Plan) (m : machine.Plan)
    (before after : Placed WorldEntry) (came : Lowered)
    → w.control ≡ Lowers l m → PlanAgrees plan m → IsPlacedIn g values s w l to task inst before
    → PlanComesTo seen_as (IsEntry of_handle of_end l.acts_for values) to plan before came after
    → LowersTo g values s w l (as_plan came) after

-- What is kept behind it, with the store, the fuel, the slots of the table and the words of context that are left, stands for that world.
abbrev pub lowered_held : Lowering → HostedRoom → Slots WorldEntry → InstanceView → TaskSlot → Held → Held
lowered_held l r slots x slot h = record h {
  store = r.store;
  left = r.fuel;
  instances = slice_set h.instances l.inst (with_slots slots x);
  tasks = slice_set h.tasks l.acts_for (record slot { context = r.acts.context });
}

abbrev pub RoomStands : Type 0
RoomStands =
    (g : Graph) (values : List ValType) (s : Script) (h : Held) (stacks : List (List Stack)) (w : World) (l : Lowering) (r : HostedRoom) (slots : Slots WorldEntry)
    (table : List (Event Entry)) (used : ℕ) (c : Control) (x : InstanceView) (slot : TaskSlot)
    → slice_get h.instances l.inst ≡ Some x → slice_get h.tasks l.acts_for ≡ Some slot → StandsBy (EntryStands values) table slots → used + r.fuel ≡ s.fuel
    → Stands g values s h stacks w → Stands g values s (lowered_held l r slots x slot h) stacks (room_at w l r used table c)

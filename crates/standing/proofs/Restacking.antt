-- What is kept stands for a world whose store, units and stacks are others.
use Rattle.std.proofs.Common.{◌≡◌, ◌+◌, ℕ, zero, suc, Bool, List, [], ◌∷◌, map, slice_set, refl, sym, ap, ◌∙◌, arith, Option, Some, None}
use Rattle.std.specs.List.{slice_get, AllZip}
use Rattle.wasm_store.specs.Store.{Store}
use Rattle.wasm_store.specs.Stack.{Stack}
use Rattle.syntax_trees.specs.declared.types.ValType.{ValType}
use Rattle.tasks.specs.declared.phase.Phase.TheVariants as phase
use Rattle.comp_graph.specs.Graph.{Graph}
use Rattle.script_reader.specs.Script.{Script}
use Rattle.instances.specs.Instances.{with_slots}
use Rattle.task_table.specs.declared.slot.TaskSlot.{TaskSlot}
use Rattle.task_table.specs.Slots.{at_call}
use Rattle.world_parts.specs.Held.{Held}
use Rattle.world_parts.specs.Slots as slots
use Rattle.abi_machine.specs.Control.{Control}
use Rattle.abi_machine.specs.World.{Wait, TaskState, New, Acting, AfterCall, AfterCancel, Begins, WaitsToEnter, InLoop, InBuiltin, Exited, Task, World}
use Rattle.abi_machine.specs.Canons.{flag_at}
use Rattle.abi_machine.specs.Counting.{phase_of}
use Rattle.abi_machine.specs.Edits.{changed_at, with_task}
use Rattle.abi_machine.proofs.sound.Found.{some_same}
use Rattle.standing.specs.Instances.{InstStands}
use Rattle.standing.specs.Tasks.{IsPlaced, TaskStands}
use Rattle.standing.specs.Stands.{Stands}
use Rattle.standing.specs.Reaching.{with_room}
use Rattle.standing.specs.Lowers.{RoomStands}
use Rattle.standing.proofs.Lists.{both_changed, left_changed, map_changed, map_kept}
use Rattle.standing.proofs.Changes.{all_restacked}

-- The two parts of the fuel, the other way round.
pub other_way : (a b c : ℕ) → a + b ≡ c → b + a ≡ c
other_way a b c e = omega (arith, e)

pub room_stands : (g : Graph) (values : List ValType) (s : Script) (h : Held) (stacks : List (List Stack)) (w : World) (store : Store) (left used : ℕ) (c : Control)
    → left + used ≡ s.fuel → Stands g values s h stacks w → Stands g values s (record h { store = store; left = left }) stacks (with_room w store used c)
room_stands g values s h stacks w store left used c sum st = record {
  same_store = refl;
  are_instances = st.are_instances;
  are_tasks = st.are_tasks;
  are_streams = st.are_streams;
  are_futures = st.are_futures;
  same_chain = st.same_chain;
  fuel = sum;
  drawn = st.drawn;
  as_taken = st.as_taken;
  same_stacks = st.same_stacks;
}

pub stacks_stand : (g : Graph) (values : List ValType) (s : Script) (h : Held) (stacks : List (List Stack)) (w : World) (t : ℕ) (f : List Stack → List Stack)
    → Stands g values s h stacks w → Stands g values s h (changed_at t f stacks) (with_task t (λ task. record task { stacks = f task.stacks }) w)
stacks_stand g values s h stacks w t f st = record {
  same_store = st.same_store;
  are_instances = st.are_instances;
  are_tasks = all_restacked g s h.tasks w.tasks t f st.are_tasks;
  are_streams = st.are_streams;
  are_futures = st.are_futures;
  same_chain = st.same_chain;
  fuel = st.fuel;
  drawn = st.drawn;
  as_taken = st.as_taken;
  same_stacks =
      ap (changed_at t f) st.same_stacks
      ∙ sym (map_changed (λ (task : Task). task.stacks) t (λ task. record task { stacks = f task.stacks }) f w.tasks (λ x. refl));
}

-- Of a task only what is not said changes.
pub tasks_stay : (g : Graph) (values : List ValType) (s : Script) (h : Held) (stacks : List (List Stack)) (w : World) (t : ℕ) (x y : TaskSlot)
    → slice_get h.tasks t ≡ Some x → ((a : Task) → TaskStands g s x a → TaskStands g s y a) → Stands g values s h stacks w
    → Stands g values s (slots.with_task t y h) stacks w
tasks_stay g values s h stacks w t x y is keeps st = record {
  same_store = st.same_store;
  are_instances = st.are_instances;
  are_tasks = left_changed (TaskStands g s) h.tasks w.tasks t x y is keeps st.are_tasks;
  are_streams = st.are_streams;
  are_futures = st.are_futures;
  same_chain = st.same_chain;
  fuel = st.fuel;
  drawn = st.drawn;
  as_taken = st.as_taken;
  same_stacks = st.same_stacks;
}

acts_placed : (flag : ℕ → Bool) (kept : List ℕ) (state : TaskState) → phase.Acting ≡ phase_of flag state → IsPlaced kept state
acts_placed flag kept New e = tt
acts_placed flag kept Acting e = tt
acts_placed flag kept (AfterCall callee number words) e = tt
acts_placed flag kept (AfterCancel callee number words) e = tt
acts_placed flag kept (Begins n) e = tt
acts_placed flag kept WaitsToEnter e = tt
acts_placed flag kept (InLoop word) e = tt
acts_placed flag kept (InBuiltin number words wait) e = absurd (cc)
acts_placed flag kept Exited e = tt

pub call_stays : (g : Graph) (s : Script) (x : TaskSlot) (a : Task) (words : List ℕ) → x.task.phase ≡ phase.Acting → TaskStands g s x a → TaskStands g s (at_call words x) a
call_stays g s x a words acts st = record {
  does = st.does;
  place = st.place;
  lifted = st.lifted;
  called = st.called;
  seen = st.seen;
  far = st.far;
  at = st.at;
  resolved = st.resolved;
  cancelled = st.cancelled;
  words = st.words;
  placed = acts_placed (flag_at g) words a.state (sym acts ∙ st.far);
}

-- What is changed at a place is another one there.
pub set_changed : {A : Type 0} (xs : List A) (n : ℕ) (x y : A) (f : A → A) → slice_get xs n ≡ Some x → f x ≡ y → changed_at n f xs ≡ slice_set xs n y
set_changed [] n x y f e is = refl
set_changed (a ∷ xs) zero x y f e is = ap (λ b. b ∷ xs) (ap f (some_same e) ∙ is)
set_changed (a ∷ xs) (suc n) x y f e is = ap (λ bs. a ∷ bs) (set_changed xs n x y f e is)

-- What stands at a place of what is seen of items.
pub at_mapped : {A B : Type 0} (f : A → B) (xs : List A) (n : ℕ) (y : B) → slice_get (map f xs) n ≡ Some y → (x : A) × (slice_get xs n ≡ Some x) × (f x ≡ y)
at_mapped f [] n y e = absurd (cc)
at_mapped f (x ∷ xs) zero y e = (x, refl, some_same e)
at_mapped f (x ∷ xs) (suc n) y e = at_mapped f xs n y e

-- Behind a lowering.
context_stands : (g : Graph) (s : Script) (x : TaskSlot) (a : Task) (context : ℕ × ℕ) → TaskStands g s x a → TaskStands g s (record x { context = context }) (record a { context = context })
context_stands g s x a context st = record {
  does = st.does;
  place = st.place;
  lifted = st.lifted;
  called = st.called;
  seen = st.seen;
  far = st.far;
  at = st.at;
  resolved = st.resolved;
  cancelled = st.cancelled;
  words = refl;
  placed = st.placed;
}

pub lowered_stands : RoomStands
lowered_stands g values s h stacks w l r slots table used c x slot at_inst at_task table_stands sum st = record {
  same_store = refl;
  are_instances = both_changed (InstStands values) h.instances w.insts l.inst x (with_slots slots x) (λ inst. record inst { table = table }) at_inst
      (λ a there now. record { table = table_stands; sets = now.sets; pressure = now.pressure }) st.are_instances;
  are_tasks = both_changed (TaskStands g s) h.tasks w.tasks l.acts_for slot (record slot { context = r.acts.context }) (λ task. record task { context = r.acts.context }) at_task
      (λ a there now. context_stands g s slot a r.acts.context now) st.are_tasks;
  are_streams = st.are_streams;
  are_futures = st.are_futures;
  same_chain = st.same_chain;
  fuel = other_way used r.fuel s.fuel sum;
  drawn = st.drawn;
  as_taken = st.as_taken;
  same_stacks = st.same_stacks ∙ sym (map_kept (λ (task : Task). task.stacks) l.acts_for (λ task. record task { context = r.acts.context }) w.tasks (λ a. refl));
}

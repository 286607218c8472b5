-- What is changed of what is kept is changed of the world for which it stands.
use Rattle.std.proofs.Common.{◌≡◌, ◌≤◌, ℕ, zero, suc, ◌-◌, ◌+◌, Bool, true, false, if◌then◌else◌, List, [], ◌∷◌, ◌++◌, length, take, drop, refl, sym, ap, ◌∙◌, subst, arith}
use Rattle.std.specs.List.{slice_get, AllZip}
use Rattle.syntax_trees.specs.declared.types.ValType.{ValType}
use Rattle.wasm_store.specs.Stack.{Stack}
use Rattle.choices.specs.Choosing as picks
use Rattle.choices.specs.Drawing.{Drawn, StandsFor, uses_one, drawn}
use Rattle.choices.proofs.Turns.{drawn_stands}
use Rattle.comp_graph.specs.Graph.{Graph}
use Rattle.script_reader.specs.Script.{Script}
use Rattle.instances.specs.Instances.{InstanceView, new_instance}
use Rattle.task_table.specs.declared.slot.TaskSlot.{TaskSlot}
use Rattle.world_parts.specs.Held.{Held}
use Rattle.abi_machine.specs.World.{Task, World, new_inst, first_world}
use Rattle.abi_machine.specs.Edits.{changed_at, answered_stacks}
use Rattle.abi_machine.specs.Choosing.{picks_of}
use Rattle.standing.specs.Instances.{InstStands}
use Rattle.standing.specs.Tasks.{TaskStands}
use Rattle.standing.specs.Stands.{backwards, Stands}
use Rattle.standing.specs.First.{first_slot, FirstStands}
use Rattle.standing.specs.Edits.{InstancesChange, InstancesStay, RefusalsChangeNothing, InstancesBegin, TasksChange, TasksAreMade, StacksAreAnswered, TasksComeToTheChain, TasksLeaveTheChain, ActingIsAlike, FuelIsAlike, UnitsAreSpent, ItemsAreTaken, PicksAreAlike, PicksAreUsed, StoresChange}
use Rattle.standing.proofs.Lists.{both_changed, left_changed, both_more, set_same, map_kept, map_changed, map_more}
use Rattle.standing.proofs.Tables.{new_stands}
use Rattle.standing.proofs.Feeds.{last_acts, without_last, left_alike, one_spent, picked_alike}

-- the first world
first_task : (g : Graph) (s : Script) (instance : ℕ) → AllZip (TaskStands g s) (first_slot instance ∷ []) (first_world g).tasks
first_task g s instance = (
  record {
    does = refl;
    place = tt;
    lifted = refl;
    called = tt;
    seen = refl;
    far = refl;
    at = refl;
    resolved = refl;
    cancelled = refl;
    words = refl;
    placed = tt;
  },
  tt,
)

pub first_stands : FirstStands
first_stands g values s instance = record {
  same_store = refl;
  are_instances = tt;
  are_tasks = first_task g s instance;
  are_streams = tt;
  are_futures = tt;
  same_chain = refl;
  fuel = omega arith;
  drawn = record { used = omega arith; left = refl };
  as_taken = refl;
  same_stacks = refl;
}

-- Component instances.
pub instances_change : InstancesChange
instances_change g values s h stacks w at x y f is keeps st = record {
  same_store = st.same_store;
  are_instances = both_changed (InstStands values) h.instances w.insts at x y f is keeps st.are_instances;
  are_tasks = st.are_tasks;
  are_streams = st.are_streams;
  are_futures = st.are_futures;
  same_chain = st.same_chain;
  fuel = st.fuel;
  drawn = st.drawn;
  as_taken = st.as_taken;
  same_stacks = st.same_stacks;
}

pub instances_stay : InstancesStay
instances_stay g values s h stacks w at x y is keeps st = record {
  same_store = st.same_store;
  are_instances = left_changed (InstStands values) h.instances w.insts at x y is keeps st.are_instances;
  are_tasks = st.are_tasks;
  are_streams = st.are_streams;
  are_futures = st.are_futures;
  same_chain = st.same_chain;
  fuel = st.fuel;
  drawn = st.drawn;
  as_taken = st.as_taken;
  same_stacks = st.same_stacks;
}

pub refusals_change_nothing : RefusalsChangeNothing
refusals_change_nothing g values s h stacks w at x is st = record {
  same_store = st.same_store;
  are_instances = subst (λ (xs : List InstanceView). AllZip (InstStands values) xs w.insts) (sym (set_same h.instances at x is)) st.are_instances;
  are_tasks = st.are_tasks;
  are_streams = st.are_streams;
  are_futures = st.are_futures;
  same_chain = st.same_chain;
  fuel = st.fuel;
  drawn = st.drawn;
  as_taken = st.as_taken;
  same_stacks = st.same_stacks;
}

pub instances_begin : InstancesBegin
instances_begin g values s h stacks w st = record {
  same_store = st.same_store;
  are_instances = both_more (InstStands values) h.instances w.insts new_instance new_inst st.are_instances (new_stands values);
  are_tasks = st.are_tasks;
  are_streams = st.are_streams;
  are_futures = st.are_futures;
  same_chain = st.same_chain;
  fuel = st.fuel;
  drawn = st.drawn;
  as_taken = st.as_taken;
  same_stacks = st.same_stacks;
}

-- Tasks.
pub tasks_change : TasksChange
tasks_change g values s h stacks w t x y f is keeps same st = record {
  same_store = st.same_store;
  are_instances = st.are_instances;
  are_tasks = both_changed (TaskStands g s) h.tasks w.tasks t x y f is keeps st.are_tasks;
  are_streams = st.are_streams;
  are_futures = st.are_futures;
  same_chain = st.same_chain;
  fuel = st.fuel;
  drawn = st.drawn;
  as_taken = st.as_taken;
  same_stacks = st.same_stacks ∙ sym (map_kept (λ (task : Task). task.stacks) t f w.tasks same);
}

pub tasks_are_made : TasksAreMade
tasks_are_made g values s h stacks w slot new stands st = record {
  same_store = st.same_store;
  are_instances = st.are_instances;
  are_tasks = both_more (TaskStands g s) h.tasks w.tasks slot new st.are_tasks stands;
  are_streams = st.are_streams;
  are_futures = st.are_futures;
  same_chain = st.same_chain;
  fuel = st.fuel;
  drawn = st.drawn;
  as_taken = st.as_taken;
  same_stacks = ap (λ (xs : List (List Stack)). xs ++ new.stacks ∷ []) st.same_stacks ∙ sym (map_more (λ (task : Task). task.stacks) w.tasks new);
}

with_stacks : List Stack → Task → Task
with_stacks stacks task = record task { stacks = stacks }

restacked : (g : Graph) (s : Script) (k : TaskSlot) (a : Task) (stacks : List Stack) → TaskStands g s k a → TaskStands g s k (with_stacks stacks a)
unfolding with_stacks
restacked g s k a stacks st = record {
  does = st.does;
  place = st.place;
  lifted = st.lifted;
  called = st.called;
  seen = st.seen;
  far = st.far;
  at = st.at;
  resolved = st.resolved;
  cancelled = st.cancelled;
  words = st.words;
  placed = st.placed;
}

pub all_restacked : (g : Graph) (s : Script) (ks : List TaskSlot) (tasks : List Task) (t : ℕ) (f : List Stack → List Stack) → AllZip (TaskStands g s) ks tasks
    → AllZip (TaskStands g s) ks (changed_at t (λ task. record task { stacks = f task.stacks }) tasks)
unfolding with_stacks
all_restacked g s [] [] t f h = tt
all_restacked g s [] (a ∷ tasks) t f h = absurd h
all_restacked g s (k ∷ ks) [] t f h = absurd h
all_restacked g s (k ∷ ks) (a ∷ tasks) zero f h = (restacked g s k a (f a.stacks) h.0, h.1)
all_restacked g s (k ∷ ks) (a ∷ tasks) (suc t) f h = (h.0, all_restacked g s ks tasks t f h.1)

pub stacks_are_answered : StacksAreAnswered
stacks_are_answered g values s h stacks w t words st = record {
  same_store = st.same_store;
  are_instances = st.are_instances;
  are_tasks = all_restacked g s h.tasks w.tasks t (answered_stacks words) st.are_tasks;
  are_streams = st.are_streams;
  are_futures = st.are_futures;
  same_chain = st.same_chain;
  fuel = st.fuel;
  drawn = st.drawn;
  as_taken = st.as_taken;
  same_stacks =
      ap (changed_at t (answered_stacks words)) st.same_stacks
      ∙ sym (map_changed (λ (task : Task). task.stacks) t (λ task. record task { stacks = answered_stacks words task.stacks }) (answered_stacks words) w.tasks (λ x. refl));
}

-- The chain.
chain_is : (g : Graph) (values : List ValType) (s : Script) (h : Held) (stacks : List (List Stack)) (w : World) (kept chain : List ℕ) → kept ≡ backwards chain → Stands g values s h stacks w
    → Stands g values s (record h { chain = kept }) stacks (record w { chain = chain })
chain_is g values s h stacks w kept chain same st = record {
  same_store = st.same_store;
  are_instances = st.are_instances;
  are_tasks = st.are_tasks;
  are_streams = st.are_streams;
  are_futures = st.are_futures;
  same_chain = same;
  fuel = st.fuel;
  drawn = st.drawn;
  as_taken = st.as_taken;
  same_stacks = st.same_stacks;
}

pub tasks_come_to_the_chain : TasksComeToTheChain
tasks_come_to_the_chain g values s h stacks w t st =
    chain_is g values s h stacks w (h.chain ++ t ∷ []) (t ∷ w.chain) (ap (λ (chain : List ℕ). chain ++ t ∷ []) st.same_chain) st

pub tasks_leave_the_chain : TasksLeaveTheChain
tasks_leave_the_chain g values s h stacks w st =
    chain_is g values s h stacks w (take (length h.chain - 1) h.chain) (drop 1 w.chain)
    (ap (λ (chain : List ℕ). take (length chain - 1) chain) st.same_chain ∙ without_last w.chain) st

pub acting_is_alike : ActingIsAlike
acting_is_alike g values s h stacks w st = ap (λ (chain : List ℕ). slice_get chain (length chain - 1)) st.same_chain ∙ last_acts w.chain

-- What a script gives.
pub fuel_is_alike : FuelIsAlike
fuel_is_alike g values s h stacks w st = left_alike h.left w.units s.fuel st.fuel

pub units_are_spent : UnitsAreSpent
units_are_spent g values s h stacks w more st = record {
  same_store = st.same_store;
  are_instances = st.are_instances;
  are_tasks = st.are_tasks;
  are_streams = st.are_streams;
  are_futures = st.are_futures;
  same_chain = st.same_chain;
  fuel = one_spent h.left w.units s.fuel more st.fuel;
  drawn = st.drawn;
  as_taken = st.as_taken;
  same_stacks = st.same_stacks;
}

pub items_are_taken : ItemsAreTaken
items_are_taken g values s h stacks w st = record {
  same_store = st.same_store;
  are_instances = st.are_instances;
  are_tasks = st.are_tasks;
  are_streams = st.are_streams;
  are_futures = st.are_futures;
  same_chain = st.same_chain;
  fuel = st.fuel;
  drawn = st.drawn;
  as_taken = ap (λ (n : ℕ). n + 1) st.as_taken;
  same_stacks = st.same_stacks;
}

pub picks_are_alike : PicksAreAlike
picks_are_alike g values s h stacks w count st = picked_alike count (picks_of s w) h.picks st.drawn

given_same : (b : Bool) (d : Drawn) → (if b then record { given = d.given; used = d.used + 1 } else d).given ≡ d.given
given_same true d = refl
given_same false d = refl

used_by : (d e : Drawn) (later : List ℕ) → e.given ≡ d.given → StandsFor e later → StandsFor (record { given = d.given; used = e.used }) later
used_by d e later same st =
    record { used = subst (λ (xs : List ℕ). e.used ≤ length xs) same st.used; left = st.left ∙ ap (λ (xs : List ℕ). drop e.used xs) same }

pub picks_are_used : PicksAreUsed
picks_are_used g values s h stacks w count st = record {
  same_store = st.same_store;
  are_instances = st.are_instances;
  are_tasks = st.are_tasks;
  are_streams = st.are_streams;
  are_futures = st.are_futures;
  same_chain = st.same_chain;
  fuel = st.fuel;
  drawn = used_by (picks_of s w) (drawn count (picks_of s w)) (picks.left count h.picks) (given_same (uses_one count (picks_of s w)) (picks_of s w))
      (drawn_stands count h.picks (picks.left count h.picks) refl (picks_of s w) st.drawn);
  as_taken = st.as_taken;
  same_stacks = st.same_stacks;
}

pub stores_change : StoresChange
stores_change g values s h stacks w store st = record {
  same_store = refl;
  are_instances = st.are_instances;
  are_tasks = st.are_tasks;
  are_streams = st.are_streams;
  are_futures = st.are_futures;
  same_chain = st.same_chain;
  fuel = st.fuel;
  drawn = st.drawn;
  as_taken = st.as_taken;
  same_stacks = st.same_stacks;
}

-- What is kept of a world, field by field, and what a part of a step comes to (Component Model, Concurrency.md, "Summary").
use Rattle.std.specs.Prelude.{◌≡◌, ℕ, Bool, if◌then◌else◌, List, Option, Some, None, Result, Ok, Err}
use Rattle.wasm_store.specs.Store.{Store}
use Rattle.instances.specs.Instances.{InstanceView}
use Rattle.task_table.specs.declared.slot.TaskSlot.{TaskSlot}
use Rattle.task_table.specs.Tasks.{Watched}
use Rattle.channels.specs.declared.channel.Channel.{Channel}
use Rattle.trace_labels.specs.declared.label.Label.{Label}
use Rattle.trace_labels.specs.declared.trap.TrapName.{TrapName}
use Rattle.world_parts.specs.declared.parts.Rest.{Rest}
use Rattle.world_parts.specs.declared.parts.Parts.{Parts}
use Rattle.world_parts.specs.declared.parts.Stop.{Stop}
use Rattle.world_parts.specs.declared.parts.Stop.TheVariants as stop

-- The fields of what is kept, in the order of what is kept: of the tasks by their numbers those that have not exited, and of these those that
-- are watched, rising; and the tasks that the script's calls made. The acting task stands last in the chain.
pub record Held : Type 0 where
  pub store : Store
  pub memories : List (Option ℕ)
  pub instances : List InstanceView
  pub tasks : List TaskSlot
  pub live : List ℕ
  pub watched : Watched
  pub calls : List ℕ
  pub streams : List Channel
  pub futures : List Channel
  pub chain : List ℕ
  pub rest : Rest
  pub left : ℕ
  pub picks : List ℕ
  pub taken : ℕ
  pub moves : ℕ
  pub labels : List Label

abbrev pub held : Parts → Held
held p = record {
  store = p.store;
  memories = p.memories.items;
  instances = p.instances.items;
  tasks = p.tasks.slots.items;
  live = p.tasks.live.keys;
  watched = record { all = p.tasks.watched.keys; awake = p.tasks.awake.keys };
  calls = p.tasks.calls.items;
  streams = p.streams.items;
  futures = p.futures.items;
  chain = p.chain.items;
  rest = p.rest;
  left = p.feed.left;
  picks = p.feed.picks;
  taken = p.feed.taken;
  moves = p.feed.moves;
  labels = p.feed.labels;
}

-- What a part comes to: an answer, a trap with all that was done before it, a step that costs a unit where none is left; or no rule applies.
pub data Done (A : Type 0) : Type 0 where
  Gives : A → Held → Done A
  Traps : TrapName → Held → Done A
  Spent : Held → Done A
  Stuck : Done A

-- a part behind a part
abbrev pub after : {A B : Type 0} → Done A → (A → Held → Done B) → Done B
after (Gives x h) f = f x h
after (Traps why h) f = Traps why h
after (Spent h) f = Spent h
after Stuck f = Stuck

-- What comes of something that is looked up. Where nothing is there no rule applies.
abbrev pub given : {A B : Type 0} → Option A → (A → Done B) → Done B
given None f = Stuck
given (Some x) f = f x

-- The code comes to what the part does. Of want of memory nothing is said: what was told in that step is not handed on.
abbrev pub Does : {A : Type 0} → (Held → Done A) → Parts → Result A Stop → Parts → Type 0
Does f old (Ok x) new = f (held old) ≡ Gives x (held new)
Does f old (Err (stop.Trap why)) new = f (held old) ≡ Traps why (held new)
Does f old (Err stop.NoFuel) new = f (held old) ≡ Spent (held new)
Does f old (Err stop.Stuck) new = f (held old) ≡ Stuck
Does f old (Err stop.Memory) new = Unit {0}

-- The same of code that changes nothing and takes no memory.
abbrev pub Tells : {A : Type 0} → (Held → Done A) → Parts → Result A Stop → Type 0
Tells f now (Ok x) = f (held now) ≡ Gives x (held now)
Tells f now (Err (stop.Trap why)) = f (held now) ≡ Traps why (held now)
Tells f now (Err stop.NoFuel) = f (held now) ≡ Spent (held now)
Tells f now (Err stop.Stuck) = f (held now) ≡ Stuck
Tells f now (Err stop.Memory) = ⊥

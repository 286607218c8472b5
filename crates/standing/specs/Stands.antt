-- What is kept of a world stands for a world (Component Model, CanonicalABI.md; Concurrency.md, "Summary"): field by field, so that a change
-- of one field says nothing of the others. Of what was written to streams and futures, and of what was removed from tables, nothing is kept;
-- which tasks are live or set apart, the calls that were taken and the memories that were made are kept, and are not said here.
use Rattle.std.specs.Prelude.{◌≡◌, ℕ, ◌+◌, List, [], ◌∷◌, ◌++◌, map, Some}
use Rattle.std.specs.List.{slice_get, AllZip}
use Rattle.syntax_trees.specs.declared.types.ValType.{ValType}
use Rattle.wasm_store.specs.Store.{Store}
use Rattle.wasm_store.specs.Stack.{Stack}
use Rattle.builtin_kinds.specs.declared.EndKind.{EndKind}
use Rattle.builtin_kinds.specs.declared.EndKind.TheVariants.{Stream, Future}
use Rattle.choices.specs.Drawing as choices
use Rattle.comp_graph.specs.Graph.{Graph, ends_type}
use Rattle.script_reader.specs.Script.{Script}
use Rattle.channels.specs.declared.channel.Channel as kept
use Rattle.channels.specs.Channels.{kind_of, view_of}
use Rattle.instances.specs.Instances.{InstanceView}
use Rattle.task_table.specs.declared.slot.TaskSlot.{TaskSlot}
use Rattle.world_parts.specs.Held.{Held}
use Rattle.abi_machine.specs.World.{Inst, Task, Channel, World}
use Rattle.standing.specs.Instances.{InstStands}
use Rattle.standing.specs.Tasks.{TaskStands}

-- A stream or a future: the number of its type, among the types of values, is kept.
pub record ChannelStands (values : List ValType) (kind : EndKind) (c : kept.Channel) (a : Channel) : Type 0 where
  pub of : kind_of c.ends ≡ kind
  pub typed : slice_get values c.end_type ≡ Some (ends_type kind a.element)
  pub ends : view_of c.ends ≡ a.ends.view

-- The chain is kept with the acting task last.
abbrev pub backwards : List ℕ → List ℕ
backwards [] = []
backwards (t ∷ chain) = backwards chain ++ t ∷ []

-- the stacks of each task
abbrev pub stacks_of : List Task → List (List Stack)
stacks_of tasks = map (λ (task : Task). task.stacks) tasks

-- Each field, on the left as it is kept.
pub record FieldsStand
    (g : Graph) (values : List ValType) (s : Script) (k_store : Store) (k_instances : List InstanceView) (k_tasks : List TaskSlot) (k_streams k_futures : List kept.Channel)
    (k_chain : List ℕ) (k_left : ℕ) (k_picks : List ℕ) (k_taken : ℕ) (k_stacks : List (List Stack))
    (store : Store) (insts : List Inst) (tasks : List Task) (streams futures : List Channel) (chain : List ℕ) (units picks taken : ℕ) : Type 0 where
  pub same_store : k_store ≡ store
  pub are_instances : AllZip (InstStands values) k_instances insts
  pub are_tasks : AllZip (TaskStands g s) k_tasks tasks
  pub are_streams : AllZip (ChannelStands values Stream) k_streams streams
  pub are_futures : AllZip (ChannelStands values Future) k_futures futures
  pub same_chain : k_chain ≡ backwards chain
  pub fuel : k_left + units ≡ s.fuel
  pub drawn : choices.StandsFor (record { given = s.picks; used = picks }) k_picks
  pub as_taken : k_taken ≡ taken
  pub same_stacks : k_stacks ≡ stacks_of tasks

-- What is kept, with the stacks of each task, stands for a world. Of control nothing is said.
abbrev pub Stands : Graph → List ValType → Script → Held → List (List Stack) → World → Type 0
Stands g values s h stacks w =
    FieldsStand g values s h.store h.instances h.tasks h.streams h.futures h.chain h.left h.picks h.taken stacks w.store w.insts w.tasks w.streams
    w.futures w.chain w.units w.picks w.taken

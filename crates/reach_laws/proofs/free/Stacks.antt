-- Stacks that wait are at no function of the host that runs alone. So it is of all stacks of all tasks, but for one that has just begun; and a
-- task that runs a start function goes on with an action behind some number.
use Rattle.std.proofs.Common.{◌≡◌, ◌<◌, ◌≤◌, ◌++◌, ℕ, zero, suc, ◌+◌, List, [], ◌∷◌, arith, Option}
use Rattle.std.specs.List.{AllByRecursion}
use Rattle.wasm_store.specs.Stack.{Stack}
use Rattle.wasm_store.proofs.Lists.{all_drop}
use Rattle.lowering_laws.proofs.Holding.{IsHeld, resume_holds}
use Rattle.syntax_trees.specs.declared.types.ValType.{ValType}
use Rattle.builtin_kinds.specs.declared.EndKind.{EndKind}
use Rattle.comp_graph.specs.Graph.{Graph}
use Rattle.script_reader.specs.Script.{Script}
use Rattle.abi_machine.specs.Control.{HostedState, Going, AtCall, Control, Quiet}
use Rattle.abi_machine.specs.World.{Callee, Subtask, Caller, New, Acting, AfterCall, AfterCancel, Begins, WaitsToEnter, InLoop, InBuiltin, Exited, TaskState, Channel, Task, World, new_task}
use Rattle.abi_machine.specs.Edits.{changed_at, with_task, in_state, stacked, with_stack, unstacked, answered, answered_stacks, with_subtask, with_channel, channel_made}
use Rattle.abi_machine.proofs.sound.Aside.{channel_kept, made_kept}
use Rattle.abi_machine.proofs.sound.Lists.{all_changed, all_more, all_as}
use Rattle.reach_laws.proofs.free.Steps.{IsReached, ComesOn}

abbrev pub AreHeld : List Stack → Type 0
AreHeld stacks = AllByRecursion IsHeld stacks

-- A start function goes on with an action of this number or a later one.
abbrev pub StartsBehind : ℕ → TaskState → Type 0
StartsBehind from (Begins n) = from ≤ n
StartsBehind from state = Unit {0}

abbrev pub IsHolding : ℕ → Task → Type 0
IsHolding from task = AreHeld task.stacks × StartsBehind from task.state

abbrev pub AreHolding : ℕ → List Task → Type 0
AreHolding from tasks = AllByRecursion (IsHolding from) tasks

-- So it is of nested code that waits at a call.
abbrev pub HostedHolds : HostedState → Type 0
HostedHolds (Going k) = Unit {0}
HostedHolds (AtCall number words k) = IsHeld k

abbrev pub ControlHolds : Control → Type 0
ControlHolds (Quiet n b) = HostedHolds n.state
ControlHolds control = Unit {0}

from_any : (from : ℕ) (state : TaskState) → StartsBehind from state → StartsBehind 0 state
from_any from (Begins n) h = (let least : 0 ≤ n = omega arith in least)
from_any from New h = tt
from_any from Acting h = tt
from_any from (AfterCall callee number words) h = tt
from_any from (AfterCancel callee number words) h = tt
from_any from WaitsToEnter h = tt
from_any from (InLoop word) h = tt
from_any from (InBuiltin number words wait) h = tt
from_any from Exited h = tt

pub hold_any : (from : ℕ) (tasks : List Task) → AreHolding from tasks → AreHolding 0 tasks
hold_any from tasks h = all_as (IsHolding from) (IsHolding 0) (λ task k. (k.0, from_any from task.state k.1)) tasks h

pub hold_task : (from t : ℕ) (f : Task → Task) (tasks : List Task) → ((x : Task) → IsHolding from x → IsHolding from (f x)) → AreHolding from tasks → AreHolding from (changed_at t f tasks)
hold_task from t f tasks keeps h = all_changed (IsHolding from) t f tasks (λ x e k. keeps x k) h

pub answered_hold : (words : List ℕ) (stacks : List Stack) → AreHeld stacks → AreHeld (answered_stacks words stacks)
answered_hold words [] h = tt
answered_hold words (k ∷ under) h = (resume_holds words k h.0, h.1)

module _ (g : Graph) (s : Script) where
  -- Each world with one unit more comes on.
  abbrev pub Later : ℕ → Type 0
  Later units = (v : World) → v.units ≡ units + 1 → units < s.fuel → AreHolding 0 v.tasks → ControlHolds v.control → IsReached g s v → ComesOn g s v

  abbrev pub IsReady : World → Type 0
  IsReady w = Later w.units × AreHolding 0 w.tasks

  module _ (from : ℕ) (chain : List ℕ) where
    -- a world with this chain
    abbrev pub At : World → Type 0
    At w = (w.chain ≡ chain) × Later w.units × AreHolding from w.tasks

    pub at_ready : (w : World) → At w → IsReady w
    at_ready w h = (h.1, hold_any from w.tasks h.2)

    pub at_task : (t : ℕ) (f : Task → Task) (w : World) → ((x : Task) → IsHolding from x → IsHolding from (f x)) → At w → At (with_task t f w)
    at_task t f w keeps h = (h.0, h.1, hold_task from t f w.tasks keeps h.2)

    pub at_state : (t : ℕ) (state : TaskState) (w : World) → StartsBehind from state → At w → At (in_state t state w)
    at_state t state w starts h = at_task t _ w (λ x k. (k.0, starts)) h

    pub at_answered : (t : ℕ) (words : List ℕ) (w : World) → At w → At (answered t words w)
    at_answered t words w h = at_task t _ w (λ x k. (answered_hold words x.stacks k.0, k.1)) h

    pub at_unstacked : (t : ℕ) (w : World) → At w → At (unstacked t w)
    at_unstacked t w h = at_task t _ w (λ x k. (all_drop IsHeld 1 x.stacks k.0, k.1)) h

    pub at_stack : (t : ℕ) (k : Stack) (w : World) → IsHeld k → At w → At (with_stack t k w)
    at_stack t k w held h = at_task t _ w (λ x j. ((held, all_drop IsHeld 1 x.stacks j.0), j.1)) h

    -- A stack that is held is put on others.
    pub at_stacked : (t : ℕ) (k : Stack) (w : World) → IsHeld k → At w → At (stacked t k w)
    at_stacked t k w held h = at_task t _ w (λ x j. ((held, j.0), j.1)) h

    pub at_subtask : (t : ℕ) (f : Subtask → Subtask) (w : World) → At w → At (with_subtask t f w)
    at_subtask t f w h = at_task t _ w (λ x k. k) h

    pub at_channel : (kind : EndKind) (number : ℕ) (f : Channel → Channel) (w : World) → At w → At (with_channel kind number f w)
    at_channel kind number f w h = channel_kept At (λ v x k. k) (λ v x k. k) kind number f w h

    pub at_made : (kind : EndKind) (element : Option ValType) (w : World) → At w → At (channel_made kind element w)
    at_made kind element w h = made_kept At (λ v x k. k) (λ v x k. k) kind element w h

-- One more task is made.
pub hold_more : (from : ℕ) (tasks : List Task) (callee : Callee) (caller : Caller) → AreHolding from tasks → AreHolding from (tasks ++ new_task callee caller New ∷ [])
hold_more from tasks callee caller h = all_more (IsHolding from) tasks (new_task callee caller New) h (tt, tt)

-- A task is changed twice.
pub hold_twice : (from t : ℕ) (f k : Task → Task) → ((x : Task) → IsHolding from x → IsHolding from (f (k x))) → (tasks : List Task) → AreHolding from tasks → AreHolding from (changed_at t f (changed_at t k tasks))
hold_twice from t f k keeps [] h = tt
hold_twice from zero f k keeps (x ∷ tasks) h = (keeps x h.0, h.1)
hold_twice from (suc t) f k keeps (x ∷ tasks) h = (h.0, hold_twice from t f k keeps tasks h.1)

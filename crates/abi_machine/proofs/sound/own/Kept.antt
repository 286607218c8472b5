-- Each change keeps that component instances use what is their own alone.
use Rattle.std.proofs.Common.{◌≡◌, ℕ, List, ◌∷◌, length, drop, Some}
use Rattle.std.specs.List.{slice_get, AllByRecursion}
use Rattle.tasks.specs.declared.phase.Resolution.TheVariants.{Cancelled}
use Rattle.wasm_store.specs.Stack.{Stack}
use Rattle.wasm_store.proofs.Lists.{all_drop}
use Rattle.comp_graph.specs.Graph.{Graph}
use Rattle.script_reader.specs.Script.{Script}
use Rattle.abi_machine.specs.World.{Init, Nobody, Host, Guest, TaskState, New, Acting, AfterCall, AfterCancel, WaitsToEnter, InLoop, InBuiltin, Exited, Task, World, first_world, new_task}
use Rattle.abi_machine.specs.World as world
use Rattle.abi_machine.specs.Edits.{changed_at, answered_stacks}
use Rattle.abi_machine.specs.Reading.{func_of}
use Rattle.abi_machine.specs.sound.Changes.{Change, GoesTo, HasStore, SpendsUnit, UsesPicks, TakesItem, BeginsInstance, AddsEntry, MakesSet, RemovesEntry, RemovesWaitable, LeavesSet, JoinsSet, HasBackpressure, IsCalled, Calls, ComesBack, Acts, Begins, Cancels, Blocks, Exits, IsRemoved, Resolves, IsCancelled, HasWord, HasNewStack, HasStack, LosesStack, IsAnswered, IsTold, IsLent, HasResult, MakesChannel, Offers, Transfers, Concludes, DropsEnd, after, IsBlocked, MayCome}
use Rattle.abi_machine.specs.sound.Acting.{Outline, outline_of}
use Rattle.abi_machine.specs.sound.Owners.{IsOwnStack, CallsOwn, IsStateOwn, IsTaskOwn, AreOwn, IsOwnWorld}
use Rattle.abi_machine.proofs.sound.Lists.{all_changed, all_more}
use Rattle.abi_machine.proofs.sound.Aside.{channel_kept, made_kept}
use Rattle.abi_machine.proofs.sound.Outlines.{outline_there, is_what}
use Rattle.abi_machine.proofs.sound.own.Tasks.{answered_own}
use Rattle.abi_machine.proofs.sound.known.Keeping.{CallsItsOwn, HasOwnStack, BlocksOwn, Owns}

-- the tasks, where one is changed
each_own : (g : Graph) (w : World) (t : ℕ) (f : Task → Task)
    → ((x : Task) → slice_get w.tasks t ≡ Some x → IsTaskOwn g (length w.store.instances) x → IsTaskOwn g (length w.store.instances) (f x)) → IsOwnWorld g w → AreOwn g w.store (changed_at t f w.tasks)
each_own g w t f keeps h = record { canons = h.canons; owned = h.owned; each = all_changed (IsTaskOwn g (length w.store.instances)) t f w.tasks keeps h.each }

state_own : (g : Graph) (w : World) (t : ℕ) (state : TaskState) → ((x : Task) → slice_get w.tasks t ≡ Some x → IsStateOwn g (length w.store.instances) (func_of x.callee) state) → IsOwnWorld g w
    → AreOwn g w.store (changed_at t (λ task. record task { state = state }) w.tasks)
state_own g w t state says h = each_own g w t (λ task. record task { state = state }) (λ x e p. record { lifted = p.lifted; code = p.code; waits = says x e }) h

stacks_own : (g : Graph) (w : World) (t : ℕ) (F : List Stack → List Stack)
    → ((x : Task) → slice_get w.tasks t ≡ Some x → AllByRecursion (IsOwnStack g (func_of x.callee)) x.stacks → AllByRecursion (IsOwnStack g (func_of x.callee)) (F x.stacks)) → IsOwnWorld g w
    → AreOwn g w.store (changed_at t (λ task. record task { stacks = F task.stacks }) w.tasks)
stacks_own g w t F keeps h = each_own g w t (λ task. record task { stacks = F task.stacks }) (λ x e p. record { lifted = p.lifted; code = keeps x e p.code; waits = p.waits }) h

-- what is known of the acting task
own_canon : (g : Graph) (w : World) (t number : ℕ) (x : Task) → slice_get w.tasks t ≡ Some x → CallsItsOwn g number t w → CallsOwn g (func_of x.callee) number
own_canon g w t number x e a = is_what (λ (o : Outline). CallsOwn g (func_of o.callee) number) t w (outline_of x) a (outline_there w.tasks t x e)

own_stack : (g : Graph) (w : World) (t : ℕ) (k : Stack) (x : Task) → slice_get w.tasks t ≡ Some x → HasOwnStack g t k w → IsOwnStack g (func_of x.callee) k
own_stack g w t k x e a = is_what (λ (o : Outline). IsOwnStack g (func_of o.callee) k) t w (outline_of x) a (outline_there w.tasks t x e)

blocks_own : (g : Graph) (w : World) (t : ℕ) (state : TaskState) → IsBlocked state → BlocksOwn g t state w → (x : Task) → slice_get w.tasks t ≡ Some x → IsStateOwn g (length w.store.instances) (func_of x.callee) state
blocks_own g w t New is b x e = tt
blocks_own g w t Acting is b x e = tt
blocks_own g w t (AfterCall callee number words) is b x e = absurd is
blocks_own g w t (AfterCancel callee number words) is b x e = absurd is
blocks_own g w t (world.Begins n) is b x e = absurd is
blocks_own g w t WaitsToEnter is b x e = tt
blocks_own g w t (InLoop word) is b x e = tt
blocks_own g w t (InBuiltin number words wait) is b x e = own_canon g w t number x e b
blocks_own g w t Exited is b x e = tt

pub own_kept : (g : Graph) (s : Script) (c : Change) (w : World) → MayCome g s c w → Owns g c w → IsOwnWorld g w → IsOwnWorld g (after c w)
own_kept g s (HasStore store) w may b h = record { canons = b.0; owned = b.1; each = b.2 }
own_kept g s (IsCalled callee call values) w may b h = record {
  canons = h.canons;
  owned = h.owned;
  each = all_more (IsTaskOwn g (length w.store.instances)) w.tasks (new_task callee (Host call values) New) h.each (record { lifted = b; code = tt; waits = tt });
}
own_kept g s (Calls number callee subtask words) w may b h =
    let state : TaskState = AfterCall (length w.tasks) number words in
    let k : AreOwn g w.store (changed_at subtask.by (λ task. record task { state = state }) w.tasks) = state_own g w subtask.by state (λ x e. own_canon g w subtask.by number x e b.1) h in
    record {
      canons = k.canons;
      owned = k.owned;
      each = all_more (IsTaskOwn g (length w.store.instances)) (changed_at subtask.by (λ task. record task { state = state }) w.tasks) (new_task callee (Guest subtask) New) k.each
          (record { lifted = b.0; code = tt; waits = tt });
    }
own_kept g s (ComesBack t) w may b h = h
own_kept g s (Acts t) w may b h = state_own g w t Acting (λ x e. tt) h
own_kept g s (Begins n) w may b h = state_own g w 0 (world.Begins n) (λ x e. b) h
own_kept g s (Cancels t callee number words) w may b h = state_own g w t (AfterCancel callee number words) (λ x e. own_canon g w t number x e b) h
own_kept g s (Blocks t state) w may b h = state_own g w t state (blocks_own g w t state may.1 b) h
own_kept g s (Exits t) w may b h = state_own g w t Exited (λ x e. tt) h
own_kept g s (IsRemoved t) w may b h = state_own g (after (Resolves t Cancelled) w) t Exited (λ x e. tt) (each_own g w t _ (λ x e p. p) h)
own_kept g s (HasNewStack t k) w may b h = stacks_own g w t (λ stacks. k ∷ stacks) (λ x e p. (own_stack g w t k x e b, p)) h
own_kept g s (HasStack t k) w may b h = stacks_own g w t (λ stacks. k ∷ drop 1 stacks) (λ x e p. (own_stack g w t k x e b, all_drop (IsOwnStack g (func_of x.callee)) 1 x.stacks p)) h
own_kept g s (LosesStack t) w may b h = stacks_own g w t (λ stacks. drop 1 stacks) (λ x e p. all_drop (IsOwnStack g (func_of x.callee)) 1 x.stacks p) h
own_kept g s (IsAnswered t words) w may b h = stacks_own g w t (answered_stacks words) (λ x e p. answered_own g (func_of x.callee) words x.stacks p) h
own_kept g s (Resolves t resolution) w may b h = each_own g w t _ (λ x e p. p) h
own_kept g s (IsCancelled t cancellation) w may b h = each_own g w t _ (λ x e p. p) h
own_kept g s (HasWord t slot word) w may b h = each_own g w t _ (λ x e p. p) h
own_kept g s (IsTold t state) w may b h = each_own g w t _ (λ x e p. p) h
own_kept g s (IsLent t handle) w may b h = each_own g w t _ (λ x e p. p) h
own_kept g s (HasResult t words) w may b h = each_own g w t _ (λ x e p. p) h
own_kept g s (MakesChannel kind element) w may b h = made_kept (IsOwnWorld g) (λ v x k. k) (λ v x k. k) kind element w h
own_kept g s (Offers e call) w may b h = channel_kept (IsOwnWorld g) (λ v x k. k) (λ v x k. k) e.kind e.number _ w h
own_kept g s (Transfers e size values) w may b h = channel_kept (IsOwnWorld g) (λ v x k. k) (λ v x k. k) e.kind e.number _ _ (channel_kept (IsOwnWorld g) (λ v x k. k) (λ v x k. k) e.kind e.number _ w h)
own_kept g s (Concludes e) w may b h = channel_kept (IsOwnWorld g) (λ v x k. k) (λ v x k. k) e.kind e.number _ w h
own_kept g s (DropsEnd e) w may b h = channel_kept (IsOwnWorld g) (λ v x k. k) (λ v x k. k) e.kind e.number _ w h
own_kept g s (GoesTo control) w may b h = h
own_kept g s SpendsUnit w may b h = h
own_kept g s (UsesPicks picks) w may b h = h
own_kept g s TakesItem w may b h = h
own_kept g s BeginsInstance w may b h = h
own_kept g s (AddsEntry i entry) w may b h = h
own_kept g s (MakesSet i set) w may b h = h
own_kept g s (RemovesEntry i index) w may b h = h
own_kept g s (RemovesWaitable i index) w may b h = h
own_kept g s (LeavesSet i index) w may b h = h
own_kept g s (JoinsSet i index set) w may b h = h
own_kept g s (HasBackpressure i backpressure) w may b h = h

pub own_removed : (g : Graph) (t : ℕ) (w : World) → IsOwnWorld g w → IsOwnWorld g (after (IsRemoved t) w)
own_removed g t w h = state_own g (after (Resolves t Cancelled) w) t Exited (λ x e. tt) (each_own g w t _ (λ x e p. p) h)

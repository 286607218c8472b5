-- Calls of functions, destructors, results that are returned, and tasks that are cancelled: typed worlds are left.
use Rattle.std.proofs.Common.{◌≡◌, ◌∙◌, ◌<◌, inl, inr, ◌^◌, ℕ, Bool, true, false, not, if◌then◌else◌, List, [], ◌∷◌, length, refl, sym, subst, Option, Some, None, Result, Ok, Err}
use Rattle.std.specs.Prelude.{slice_index, nat_eq, ◌&&◌}
use Rattle.std.specs.List.{slice_get}
use Rattle.syntax_trees.specs.declared.module_types.ValType as core_val
use Rattle.wasm_numbers.specs.Types.{AreWords}
use Rattle.wasm_store.specs.Store.{Store, found_at}
use Rattle.wasm_store.specs.Stack.{Stack}
use Rattle.wasm_store.specs.Step.{start}
use Rattle.wasm_store.specs.Typed.{StackTyped}
use Rattle.syntax_trees.specs.declared.types.ValType.{ValType}
use Rattle.res_handles.specs.declared.handle.Handle.{Handle}
use Rattle.res_handles.specs.declared.handle.Ownership.{Ownership}
use Rattle.res_handles.specs.declared.handle.Ownership.TheVariants.{Own, Borrow}
use Rattle.res_handles.specs.declared.refusal.Refusal.{Refusal}
use Rattle.res_handles.specs.Refusals.{dropped_in}
use Rattle.tasks.specs.declared.phase.Cancellation.{Cancellation}
use Rattle.tasks.specs.declared.phase.Cancellation.TheVariants.{NotAsked, Asked, Delivered}
use Rattle.tasks.specs.declared.phase.Resolution.TheVariants.{Cancelled}
use Rattle.tasks.specs.declared.event.TaskTrap.{TaskTrap}
use Rattle.tasks.specs.declared.event.TaskTrap.TheVariants.{SyncTask, NotAsked as NeverTold}
use Rattle.tasks.specs.Views.{TaskView}
use Rattle.tasks.specs.Tasks.{asking_fault, cancel_fault, resolving_fault, is_told, is_sync, is_unasked}
use Rattle.tasks.specs.Subtasks.{is_over}
use Rattle.comp_graph.specs.declared.graph.FuncRef.{FuncRef}
use Rattle.comp_graph.specs.declared.graph.Options.{Options}
use Rattle.comp_graph.specs.declared.graph.Resource.{Resource}
use Rattle.comp_graph.specs.declared.graph.CanonFunc.{CanonFunc}
use Rattle.comp_graph.specs.Needs.{flat_param_limit, destructor_type}
use Rattle.comp_graph.specs.Graph.{Graph, Lifted, canon_type}
use Rattle.trace_labels.specs.declared.label.Label.TheVariants as line
use Rattle.trace_labels.specs.declared.trap.TrapName.TheVariants as trap
use Rattle.abi_machine.specs.Control.{Replies, Back}
use Rattle.abi_machine.specs.World.{Callee, Destroys, Subtask, Caller, Nobody, Host, Guest, Acting, AfterCall, AfterCancel, Task, World}
use Rattle.abi_machine.specs.Edits.{entry_removed, in_state, resolved}
use Rattle.abi_machine.specs.Canons.{canon_at, func_address, memory_of, options_at, resource_at, destructor_of}
use Rattle.abi_machine.specs.Reading.{func_of, is_reentrant, subtask_of}
use Rattle.abi_machine.specs.Counting.{task_view, has_resolved, view_at}
use Rattle.abi_machine.specs.SameTypes.{same_held}
use Rattle.abi_machine.specs.Finding.{subtask_at}
use Rattle.abi_machine.specs.Traps.{task_name, refusal_name, renamed}
use Rattle.abi_machine.specs.Turn.{Turn, behind, replied, unless_fault}
use Rattle.abi_machine.specs.Calling.{called_by, call_begun}
use Rattle.abi_machine.specs.Returning.{result_passed}
use Rattle.abi_machine.specs.replies.Resources.{destroyed_here, destroyed, dropped, resource_drop_turn}
use Rattle.abi_machine.specs.replies.Subtasks.{cancel_asked, subtask_cancel_turn}
use Rattle.abi_machine.specs.replies.Tasks.{same_address, return_checked, return_turn, task_cancel_turn}
use Rattle.std.specs.Option.{IfSome}
use Rattle.abi_machine.specs.sound.Firsts.{TaskIs}
use Rattle.abi_machine.specs.sound.GraphFuncs.{IsOfGraph}
use Rattle.abi_machine.specs.sound.Callees.{IsUsedGraph, CoreThere}
use Rattle.abi_machine.specs.sound.Fitting.{FitsCall}
use Rattle.abi_machine.specs.sound.Subtasks.{IsAsync, AreSubtasks}
use Rattle.abi_machine.specs.sound.TypedStacks.{IsWaiting, TopIs, WaitsTyped, RunsTyped}
use Rattle.abi_machine.specs.sound.TypedPlans.{IsResultOf}
use Rattle.abi_machine.specs.sound.TypedWorlds.{GivesWord, GuestIs, IsSync, HasResult}
use Rattle.abi_machine.proofs.sound.Found.{some_same}
use Rattle.abi_machine.proofs.sound.Acted.{still_is, now_is, is_as}
use Rattle.abi_machine.proofs.sound.Callees.{destructors_are_there}
use Rattle.abi_machine.proofs.sound.known.Handles.{subtask_there}
use Rattle.abi_machine.proofs.sound.places.Givers.{held_same}
use Rattle.abi_machine.proofs.sound.planned.Lifted.{IsLifting, Gives, result_comes, dropped_low}
use Rattle.abi_machine.proofs.sound.worlds.Grounds.{NotSync, guest_map, ground_state, ground_stacks, ground_resolved, ground_more}
use Rattle.abi_machine.proofs.sound.worlds.Turns.{IsGround, Good, behind_good, given_good, either_good, unless_good, fault_good, refused_good, subtask_good, IsAt, At, replied_good}
use Rattle.abi_machine.proofs.sound.worlds.Passing.{Beside, beside_lifts, starts_there, canon_of, Resolving, resolving_lifts}
use Rattle.abi_machine.proofs.sound.worlds.Results.{resolves_good}
use Rattle.abi_machine.proofs.sound.worlds.Resuming.{cancelled_good}

-- The acting task waits for words of these types.
abbrev pub WaitsAs : List core_val.ValType → Store → Task → Type 0
WaitsAs types s x = (x.state ≡ Acting) × TopIs (IsWaiting s types) s x.callee x.stacks

pub of_task : (tasks : List Task) (n : ℕ) (Q : Task → Type 0) (x : Task) → slice_get tasks n ≡ Some x → TaskIs tasks n Q → Q x
of_task tasks n Q x there k = subst Q (some_same (sym k.1 ∙ there)) k.2

renamed_ok : (r : Result Handle Refusal) (x : Handle) → renamed refusal_name r ≡ Ok x → r ≡ Ok x
renamed_ok (Ok y) x h = cc
renamed_ok (Err why) x h = cc

if_some : {A : Type 0} (Q : A → Type 0) (o : Option A) (x : A) → o ≡ Some x → IfSome o Q → Q x
if_some Q None x e h = cc
if_some Q (Some y) x e h = subst Q (some_same e) h

not_false : (b : Bool) → not b ≡ false → b ≡ true
not_false true h = refl
not_false false h = cc

-- a task that may cancel was told so
no_cancel : (b c : Bool) (o : Option TaskTrap) → (if b then Some SyncTask else (if c then o else Some NeverTold)) ≡ None → c ≡ true
no_cancel true c o h = cc
no_cancel false true o h = refl
no_cancel false false o h = cc

told_not : (c : Cancellation) → is_told c ≡ true → c ≡ NotAsked → ⊥
told_not NotAsked e f = cc
told_not Asked e f = cc
told_not Delivered e f = cc

-- a task whose caller does not wait
apart_of : (g : Graph) (c : Caller) (subtask : Subtask) → subtask_of c ≡ Some subtask → IsAsync g subtask → GuestIs (λ x. IsSync g x → ⊥) c
apart_of g Nobody subtask e async = tt
apart_of g (Host call values) subtask e async = tt
apart_of g (Guest x) subtask e async = λ sync. (let same : (options_at g x.canon).is_async ≡ true = subst (λ (y : Subtask). IsAsync g y) (sym (some_same e)) async in both (options_at g x.canon).is_async same sync)
  where
    both : (b : Bool) → b ≡ true → b ≡ false → ⊥
    both b h k = cc

over : (callee : Callee) (stacks : List Stack) (s : Store) (k : Stack) → TopIs (IsWaiting s []) s callee stacks → StackTyped s [] k → TopIs (StackTyped s) s callee (k ∷ stacks)
over callee [] s k h typed = absurd h
over callee (x ∷ under) s k h typed = (typed, h)

module _ (g : Graph) (P : List ℕ → Type 0) where
  pub at_of : (w : World) (t : ℕ) (types : List core_val.ValType) → ((words : List ℕ) → P words → AreWords types words) → Beside g t (WaitsAs types) w → At g P w t
  at_of w t types takes h = record { ground = h.ground; first = h.first; is = is_as w.tasks t (WaitsAs types w.store) (IsAt g P w.store) (λ x k. (k.0, record { asked = types; top = k.1; takes = takes })) h.is }

  pub waits_of : (w : World) (t number : ℕ) (c : CanonFunc) → canon_at g number ≡ Some c → Beside g t (WaitsAs (canon_type c).results) w → TaskIs w.tasks t (λ x. WaitsTyped g w.store number x)
  waits_of w t number c at h = is_as w.tasks t (WaitsAs (canon_type c).results w.store) (λ x. WaitsTyped g w.store number x) (λ x k. (c, at, k.1)) h.is

  pub calls_good : (t number : ℕ) (c : CanonFunc) (words : List ℕ) (callee : Callee) (f : Lifted) (passed : List ℕ) (w : World) → canon_at g number ≡ Some c → Beside g t (WaitsAs (canon_type c).results) w → Good g P (call_begun t number words callee f passed w)
  unfolding call_begun
  calls_good t number c words callee f passed w at h =
      unless_good g P t (is_reentrant w f.instance t) trap.Reentrant w _ (λ e. λ a inside. inr (record {
        ground = ground_more g w.store callee (Guest (called_by t number passed)) (in_state t (AfterCall (length w.tasks) number words) w).tasks w.insts None refl tt
            (ground_state g w.store t (AfterCall (length w.tasks) number words) w.tasks w.insts None (λ x there. of_task w.tasks t (λ y. WaitsTyped g w.store number y) x there (waits_of w t number c at h)) tt h.ground);
        acts = tt;
      }))

  module _ (used : IsUsedGraph g) where
    destroyed_good : (t i number : ℕ) (c : CanonFunc) (words : List ℕ) (resource : ℕ) (r : Resource) (o : Option FuncRef) (rep : ℕ) (w : World) → canon_at g number ≡ Some c → (canon_type c).results ≡ [] → ((passed : List ℕ) → P passed → AreWords [] passed)
        → r.destructor ≡ o → resource_at g resource ≡ Some r → rep < 2 ^ 32 → Beside g t (WaitsAs (canon_type c).results) w → Good g P (destroyed t i number words resource r o rep w)
    unfolding destroyed destroyed_here
    destroyed_good t i number c words resource r None rep w at none takes own there low h =
        unless_good g P t (not (nat_eq r.instance i) && is_reentrant w r.instance t) trap.Reentrant w _ (λ e. replied_good g P t [] w (at_of w t [] takes (subst (λ ts. Beside g t (WaitsAs ts) w) none h)))
    destroyed_good t i number c words resource r (Some ref) rep w at none takes own there low h =
        either_good g P (nat_eq r.instance i) _ _
        (λ here. given_good g P (found_at w.store.funcs (func_address w.store ref)) _ (λ function k.
        let core : CoreThere w.store ref destructor_type = if_some (λ (f : FuncRef). CoreThere w.store f destructor_type) r.destructor ref own (destructors_are_there g w.store resource r used h.ground.canons h.ground.made there) in
        let typed : StackTyped w.store [] (start function.1 function.0 (rep ∷ [])) = starts_there w.store ref destructor_type function (rep ∷ []) h.ground.store core k (low, tt) in
        let now : Beside g t (WaitsAs []) w = subst (λ ts. Beside g t (WaitsAs ts) w) none h in
        λ a inside. inr (record {
          ground = ground_stacks g w.store t (λ ks. start function.1 function.0 (rep ∷ []) ∷ ks) w.tasks w.insts None (is_as w.tasks t (WaitsAs [] w.store) (λ x. x.state ≡ Acting) (λ x k. k.0) now.is) h.ground;
          acts = (t, h.first, now_is w.tasks t (λ x. record x { stacks = start function.1 function.0 (rep ∷ []) ∷ x.stacks }) (WaitsAs [] w.store) (RunsTyped w.store) (λ x k. over x.callee x.stacks w.store _ k.1 typed) now.is);
        })))
        (λ away. calls_good t number c words (Destroys resource (destructor_of r.instance ref)) (destructor_of r.instance ref) (rep ∷ []) w at h)

    dropped_good : (t i number : ℕ) (c : CanonFunc) (words : List ℕ) (x : Handle) (o : Ownership) (w : World) → canon_at g number ≡ Some c → (canon_type c).results ≡ [] → ((passed : List ℕ) → P passed → AreWords [] passed) → x.rep < 2 ^ 32
        → Beside g t (WaitsAs (canon_type c).results) w → Good g P (dropped g t i number words x o w)
    unfolding dropped
    dropped_good t i number c words x (Borrow task) w at none takes low h = replied_good g P t [] w (at_of w t [] takes (subst (λ ts. Beside g t (WaitsAs ts) w) none h))
    dropped_good t i number c words x Own w at none takes low h = given_good g P (resource_at g x.resource) _ (λ (r : Resource) e. destroyed_good t i number c words x.resource r r.destructor x.rep w at none takes refl e low h)

    pub resource_drop_good : (t i number : ℕ) (c : CanonFunc) (resource : ℕ) (words : List ℕ) (w : World) → canon_at g number ≡ Some c → (canon_type c).results ≡ [] → ((passed : List ℕ) → P passed → AreWords [] passed)
        → Beside g t (WaitsAs (canon_type c).results) w → Good g P (resource_drop_turn g t i number resource words w)
    unfolding resource_drop_turn
    resource_drop_good t i number c resource words w at none takes h =
        let types : List core_val.ValType = (canon_type c).results in
        let lifts : IsLifting (Beside g t (WaitsAs types)) = beside_lifts g t (WaitsAs types) (λ s x F same k. k) in
        refused_good g P t (renamed refusal_name (dropped_in (view_at w i (slice_index words 0)) resource)) w (λ x. dropped g t i number words x x.ownership (entry_removed i (slice_index words 0) w))
        (λ x e. dropped_good t i number c words x x.ownership (entry_removed i (slice_index words 0) w) at none takes
        (dropped_low w i (slice_index words 0) resource x h.ground.reps (renamed_ok (dropped_in (view_at w i (slice_index words 0)) resource) x e)) (lifts.removed i (slice_index words 0) w h))

    -- `task.return`
    pub returning_good : (t : ℕ) (task : Task) (i : ℕ) (result : Option ValType) (options : Options) (words : List ℕ) (w : World) → ((passed : List ℕ) → P passed → AreWords [] passed) → slice_get w.tasks t ≡ Some task → IsOfGraph g task.callee
        → FitsCall g task.callee task.caller → Beside g t (WaitsAs []) w → Good g P (return_turn g t task i result options words w)
    unfolding return_turn return_checked
    returning_good t task i result options words w takes there of_graph fits h =
        fault_good g P t task_name (asking_fault (task_view g w t task)) w _ (given_good g P (func_of task.callee) _ (λ f runs.
        unless_good g P t (not (same_held result f.func_type.result)) trap.WrongResult w _ (λ same.
        unless_good g P t (not (same_address (memory_of w.store options) (memory_of w.store f.options))) trap.WrongOptions w _ (λ memory.
        resolves_good g P used t task f Replies (result_passed i t flat_param_limit result options words w) i takes of_graph runs fits (comes f runs (held_same result f.func_type.result (not_false (same_held result f.func_type.result) same)))))))
      where
        comes : (f : Lifted) → func_of task.callee ≡ Some f → result ≡ f.func_type.result
            → Gives (Beside g t (Resolving g task.callee f Replies (canon_of task.caller) task.resolution)) (resolving_lifts g t task.callee f Replies (canon_of task.caller) task.resolution) i t (IsResultOf f.func_type.result) (result_passed i t flat_param_limit result options words w)
        comes f runs same =
            let R : World → Type 0 = Beside g t (Resolving g task.callee f Replies (canon_of task.caller) task.resolution) in
            let keeps : IsLifting R = resolving_lifts g t task.callee f Replies (canon_of task.caller) task.resolution in
            let own : WaitsAs [] w.store task = of_task w.tasks t (WaitsAs [] w.store) task there h.is in
            subst (λ (o : Option ValType). Gives R keeps i t (IsResultOf o) (result_passed i t flat_param_limit result options words w)) same
            (result_comes R keeps i t flat_param_limit result options words w h.ground.bytes (record { ground = h.ground; first = h.first; is = (task, there, (own.0, runs, of_graph, own.1, refl, refl)) }))

    -- `task.cancel`
    pub task_cancel_good : (t : ℕ) (task : Task) (w : World) → ((passed : List ℕ) → P passed → AreWords [] passed) → slice_get w.tasks t ≡ Some task → Beside g t (WaitsAs []) w → Good g P (task_cancel_turn g t task w)
    unfolding task_cancel_turn
    task_cancel_good t task w takes there h =
        fault_so (task_view g w t task) (λ none.
        let apart : NotSync g task = guest_map _ _ task.caller (λ subtask own sync. told_not task.cancellation (no_cancel (is_sync (task_view g w t task).kind) (is_told task.cancellation) (resolving_fault (task_view g w t task)) none) (own.0 sync)) (h.ground.tasks_are t task there).fair in
        behind_good g P (line.Cancelled t ∷ []) (replied t [] (resolved t Cancelled w)) (replied_good g P t [] (resolved t Cancelled w) (at_of (resolved t Cancelled w) t [] takes (record {
          ground = ground_resolved g w.store t Cancelled w.tasks w.insts None (λ x now fair. (let same : task ≡ x = some_same (sym there ∙ now) in subst (λ (y : Task). HasResult g (record y { resolution = Some Cancelled })) same (guest_map _ _ task.caller (λ subtask not some sync. absurd (not sync)) apart))) h.ground;
          first = h.first;
          is = now_is w.tasks t (λ x. record x { resolution = Some Cancelled }) (WaitsAs [] w.store) (WaitsAs [] w.store) (λ x k. k) h.is;
        }))))
      where
        more : Turn
        more = behind (line.Cancelled t ∷ []) (replied t [] (resolved t Cancelled w))

        fault_so : (v : TaskView) → (cancel_fault v ≡ None → Good g P more) → Good g P (unless_fault t task_name (cancel_fault v) w more)
        fault_so v k = by (cancel_fault v) refl
          where
            by : (o : Option TaskTrap) → cancel_fault v ≡ o → Good g P (unless_fault t task_name o w more)
            by None e = k e
            by (Some fault) e = λ a inside. inl tt

    -- `subtask.cancel`
    pub subtask_cancel_good : (t i number : ℕ) (c : CanonFunc) (words : List ℕ) (w : World) → canon_at g number ≡ Some c → GivesWord g number → AreSubtasks g w.tasks w.insts → Beside g t (WaitsAs (canon_type c).results) w
        → Good g P (subtask_cancel_turn g t i number words w)
    unfolding subtask_cancel_turn cancel_asked
    subtask_cancel_good t i number c words w at gives subtasks h =
        refused_good g P t (subtask_at w i (slice_index words 0)) w _ (λ callee e. subtask_good g P w callee _ (λ task subtask k j.
        unless_good g P t (is_over subtask.told) trap.Delivered w _ (λ early. unless_good g P t (not (is_unasked task.cancellation)) trap.Asked w _ (λ unasked.
        let u : World = in_state t (AfterCancel callee number words) w in
        let ground : IsGround g u = ground_state g w.store t (AfterCancel callee number words) w.tasks w.insts None (λ x there. of_task w.tasks t (λ y. WaitsTyped g w.store number y) x there (waits_of w t number c at h)) gives h.ground in
        let called = subtasks.async i (slice_index words 0) callee (subtask_there w i (slice_index words 0) callee e) in
        let apart : TaskIs u.tasks callee (NotSync g) = still_is w.tasks t callee (λ x. record x { state = AfterCancel callee number words }) (NotSync g) (λ x k. k) (called.0, called.1, apart_of g called.0.caller called.2.0 called.2.1 called.2.2) in
        either_good g P (has_resolved task) _ _ (λ done. λ a inside. inr (record { ground = ground; acts = tt }))
        (λ still. cancelled_good g P callee task Back u ground (λ x there. of_task u.tasks callee (NotSync g) x there apart) (λ v own. record { ground = own; acts = tt }))))))

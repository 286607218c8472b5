-- Typed worlds stay typed.
use Rattle.std.proofs.Common.{◌≡◌, ◌∙◌, ◌≤◌, ℕ, Bool, true, false, if◌then◌else◌, arith, List, [], ◌∷◌, refl, sym, ap, subst, Option, Some}
use Rattle.std.specs.List.{slice_get, find, AllByRecursion}
use Rattle.wasm_store.proofs.Lists.{all_at}
use Rattle.comp_graph.specs.Graph.{Graph}
use Rattle.abi_machine.specs.Control.{Control, Instantiates}
use Rattle.abi_machine.specs.World.{Caller, Nobody, Host, Guest, TaskState, New, Acting, AfterCall, AfterCancel, Begins, WaitsToEnter, InLoop, InBuiltin, Exited, Task, World}
use Rattle.abi_machine.specs.Control as control
use Rattle.abi_machine.specs.Edits.{with_control}
use Rattle.abi_machine.specs.Reading.{acting, has_exited, is_instantiated, with_numbers}
use Rattle.abi_machine.specs.Scheduling.{is_call_of}
use Rattle.abi_machine.specs.sound.Controls.{Says}
use Rattle.abi_machine.specs.sound.Initial.{IsInitial}
use Rattle.abi_machine.specs.sound.Answers.{IsAnswered}
use Rattle.abi_machine.specs.sound.Fitting.{FitsCall}
use Rattle.abi_machine.specs.sound.GraphFuncs.{IsOfGraph}
use Rattle.abi_machine.specs.sound.TypedWorlds.{GuestIs, IsSync}
use Rattle.abi_machine.specs.sound.TypedSteps.{TypedWorldsStay}
use Rattle.abi_machine.proofs.sound.Found.{some_same, call_is}
use Rattle.abi_machine.proofs.sound.worlds.Grounds.{NotSync}
use Rattle.abi_machine.proofs.sound.worlds.Turns.{Good}
use Rattle.abi_machine.proofs.sound.worlds.Scheduling.{IsHosts}
use Rattle.abi_machine.proofs.sound.worlds.Stepping.{each_good}
use Rattle.abi_machine.proofs.sound.worlds.Standing.{ordered_at}

-- What the script called no task waits for.
found_holds : {A : Type 0} (test : A → Bool) (xs : List A) (x : A) → find test xs ≡ Some x → test x ≡ true
found_holds test [] x h = cc
found_holds {A} test (y ∷ xs) x h = by (test y) refl h (found_holds test xs x)
  where
    by : (b : Bool) → test y ≡ b → (let o : Option A = if b then Some y else find test xs in o) ≡ Some x → (find test xs ≡ Some x → test x ≡ true) → test x ≡ true
    by true e k rest = subst (λ (z : A). test z ≡ true) (some_same k) e
    by false e k rest = rest k

host_apart : (g : Graph) (call : ℕ) (c : Caller) → is_call_of call c ≡ true → GuestIs (λ subtask. IsSync g subtask → ⊥) c
host_apart g call Nobody h = tt
host_apart g call (Host number values) h = tt
host_apart g call (Guest subtask) h = cc

hosts_apart : (g : Graph) (w : World) → IsHosts g w
hosts_apart g w call found e x there =
    let same : found.1 ≡ x = some_same (sym (call_is call w found e) ∙ there) in
    subst (NotSync g) same (host_apart g call found.1.caller (found_holds (λ (y : ℕ × Task). is_call_of call y.1.caller) (with_numbers 0 w.tasks) found e))

-- Once all is instantiated nothing more is.
first_exited : (tasks : List Task) (task : Task) → slice_get tasks 0 ≡ Some task → is_instantiated tasks ≡ true → has_exited task.state ≡ true
first_exited [] task there h = cc
first_exited (x ∷ tasks) task there h = ap has_exited (ap (λ (y : Task). y.state) (sym (some_same there))) ∙ h

not_first : (state : TaskState) (chain : List ℕ) → has_exited state ≡ true → chain ≡ 0 ∷ [] → IsInitial state chain → ⊥
not_first Exited chain done e h = (let late : 1 ≤ 0 = (subst (λ (c : List ℕ). AllByRecursion (λ t. 1 ≤ t) c) e h).0 in omega (arith, late))
not_first New chain done e h = cc
not_first Acting chain done e h = cc
not_first (AfterCall callee number words) chain done e h = cc
not_first (AfterCancel callee number words) chain done e h = cc
not_first (Begins n) chain done e h = cc
not_first WaitsToEnter chain done e h = cc
not_first (InLoop word) chain done e h = cc
not_first (InBuiltin number words wait) chain done e h = cc

pub typed_worlds_stay : TypedWorldsStay
typed_worlds_stay g s w v labels used passes alone done order history copied subtasks callees calls copies loops typed e =
    subst (Good g (IsAnswered g w.control (acting w))) e
    (each_good g used s w.control (with_control control.Free w) (λ n is. not_first alone.0.init.state w.chain (first_exited w.tasks alone.0.init alone.0.there done) (subst (λ (c : Control). Says c w.chain) is alone.1) alone.0.alone) (record {
      history = history;
      copied = copied;
      subtasks = subtasks;
      copies = copies;
      callees = λ t x there. (all_at (λ (y : Task). IsOfGraph g y.callee) w.tasks t x callees there, all_at (λ (y : Task). FitsCall g y.callee y.caller) w.tasks t x calls there);
      ordered = ordered_at (with_control control.Free w) alone.0 done order.1 loops w.control order.2;
      passes = λ i there. passes w.taken i there;
      hosts = hosts_apart g (with_control control.Free w);
    }) typed.ground typed.acts)

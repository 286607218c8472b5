-- Tasks that run code of the component instance of their function alone, and call what it made: each change keeps it.
use Rattle.std.proofs.Common.{◌≡◌, ◌⊎◌, inl, inr, ℕ, zero, suc, List, [], ◌∷◌, length, drop, sym, ap, ◌∙◌, subst, Option, Some}
use Rattle.std.specs.List.{slice_get, AllByRecursion}
use Rattle.wasm_store.specs.Store.{Store}
use Rattle.wasm_store.specs.Stack.{Stack}
use Rattle.wasm_store.proofs.Lists.{all_at}
use Rattle.comp_graph.specs.Graph.{Graph, Lifted}
use Rattle.abi_machine.specs.Control.{Calls}
use Rattle.abi_machine.specs.World.{Callee, TaskState, Acting, AfterCall, AfterCancel, Task, World}
use Rattle.abi_machine.specs.Edits.{in_state, with_stack, answered_stacks}
use Rattle.abi_machine.specs.Reading.{acting, func_of}
use Rattle.abi_machine.specs.sound.Changes.{IsFirst}
use Rattle.abi_machine.specs.sound.Initial.{StartsNothing}
use Rattle.abi_machine.specs.sound.Acting.{Outline, outline_of, outlines_of, IsStarting, OneActs}
use Rattle.abi_machine.specs.sound.Owners.{HasCanons, AreOwned, IsStackOf, IsLiftedApart, IsOwnStack, CallsOwn, IsStateOwn, IsTaskOwn, IsControlOwn, IsOwnWorld}
use Rattle.abi_machine.proofs.sound.Found.{some_same, acting_first, acting_is}
use Rattle.abi_machine.proofs.sound.Alone.{Alone}
use Rattle.abi_machine.proofs.sound.Outlines.{outline_there, outline_back, Is, as_is, state_first, stacks_first}
use Rattle.abi_machine.proofs.sound.acts.Keeping.{IsIn, is_first}
use Rattle.abi_machine.proofs.sound.known.Unawaited.{in_this_state}
use Rattle.abi_machine.proofs.sound.own.Moved.{IsOnward}
use Rattle.abi_machine.proofs.sound.own.Belonging.{resumed_own, onward_canons, onward_owned, tasks_recount, IsMore}

-- the task of a number
pub own_task : (g : Graph) (w : World) (t : ℕ) (x : Task) → IsOwnWorld g w → slice_get w.tasks t ≡ Some x → IsTaskOwn g (length w.store.instances) x
own_task g w t x own e = all_at (IsTaskOwn g (length w.store.instances)) w.tasks t x own.each e

-- What the acting task calls its component instance made: behind a call or a cancellation, and as control says.
abbrev Calling : Graph → ℕ → Outline → Type 0
Calling g number o = CallsOwn g (func_of o.callee) number

waits_own : (g : Graph) (w : World) (t number : ℕ) (state : TaskState) → ((o : Option Lifted) → IsStateOwn g (length w.store.instances) o state → CallsOwn g o number) → IsOwnWorld g w → Is (IsIn state) t w
    → Is (Calling g number) t w
waits_own g w t number state says own a =
    let x = in_this_state w t state a in (
      a.0,
      (
        outline_of x.0,
        outline_there w.tasks t x.0 x.1,
        says (func_of x.0.callee) (subst (IsStateOwn g (length w.store.instances) (func_of x.0.callee)) x.2 (own_task g w t x.0 own x.1).waits),
      ),
    )

pub after_calls_own : (g : Graph) (w : World) (t callee number : ℕ) (words : List ℕ) → IsOwnWorld g w → Is (IsIn (AfterCall callee number words)) t w → Is (λ (o : Outline). CallsOwn g (func_of o.callee) number) t w
after_calls_own g w t callee number words own a = waits_own g w t number (AfterCall callee number words) (λ o h. h) own a

pub after_cancel_own : (g : Graph) (w : World) (t callee number : ℕ) (words : List ℕ) → IsOwnWorld g w → Is (IsIn (AfterCancel callee number words)) t w
    → Is (λ (o : Outline). CallsOwn g (func_of o.callee) number) t (in_state t Acting w)
after_cancel_own g w t callee number words own a =
    state_first (Calling g number) (Calling g number) w t Acting (λ o h. h) (waits_own g w t number (AfterCancel callee number words) (λ o h. h) own a)

pub control_own : (g : Graph) (w : World) (t number : ℕ) (words : List ℕ) → Is (λ (o : Outline). CallsOwn g (func_of o.callee) number) t w → IsControlOwn g (Calls number words) w
control_own g w t number words a u task first there =
    let at : t ≡ u = some_same (sym a.0 ∙ first) in
    let same : a.1.0 ≡ outline_of task =
    some_same (sym (subst (λ (n : ℕ). slice_get (outlines_of w.tasks) n ≡ Some a.1.0) at a.1.1) ∙ outline_there w.tasks u task there) in
    subst (Calling g number) same a.1.2

pub calls_here : (g : Graph) (w : World) (a : ℕ × Task) (number : ℕ) (words : List ℕ) → acting w ≡ Some a → IsControlOwn g (Calls number words) w → Is (λ (o : Outline). CallsOwn g (func_of o.callee) number) a.0 w
calls_here g w a number words e c =
    (acting_first w a e, (outline_of a.1, outline_there w.tasks a.0 a.1 (acting_is w a e), c a.0 a.1 (acting_first w a e) (acting_is w a e)))

-- A store that comes of a move, or of other bytes in a memory, has the same code; and while task 0 acts there may be more.
abbrev pub HasSameCode : Store → Store → Type 0
HasSameCode s t = (t.funcs ≡ s.funcs) × (t.instances ≡ s.instances)

abbrev pub IsOwnStore : Graph → World → Store → Type 0
IsOwnStore g w store = HasCanons g store × AreOwned g store × AllByRecursion (IsTaskOwn g (length store.instances)) w.tasks × (HasSameCode w.store store ⊎ IsFirst 0 w.chain)

pub store_own : (g : Graph) (w : World) (store : Store) → IsOnward w.store store → IsOwnWorld g w → IsOwnStore g w store
store_own g w store x own = (
  onward_canons g w.store store x own.canons,
  onward_owned g w.store store x own.owned,
  subst (λ (n : ℕ). AllByRecursion (IsTaskOwn g n) w.tasks) (sym (ap length x.1)) own.each,
  inl (x.0, x.1),
)

-- the answered stacks
pub answered_own : (g : Graph) (f : Option Lifted) (words : List ℕ) (stacks : List Stack) → AllByRecursion (IsOwnStack g f) stacks → AllByRecursion (IsOwnStack g f) (answered_stacks words stacks)
answered_own g f words [] h = tt
answered_own g f words (k ∷ under) h = (resumed_own g f words k h.0, h.1)

-- The function of a task, and what the graph says of it.
abbrev pub IsOfFunc : Lifted → Outline → Type 0
IsOfFunc f o = func_of o.callee ≡ Some f

pub mine_is : (w : World) (a : ℕ × Task) (f : Lifted) → acting w ≡ Some a → func_of a.1.callee ≡ Some f → Is (IsOfFunc f) a.0 w
mine_is w a f e i = (acting_first w a e, (outline_of a.1, outline_there w.tasks a.0 a.1 (acting_is w a e), i))

pub lifted_by : (g : Graph) (w : World) (t : ℕ) (f : Lifted) → IsOwnWorld g w → Is (IsOfFunc f) t w → IsLiftedApart g (Some f)
lifted_by g w t f own a =
    let x = outline_back w.tasks t a.1.0 a.1.1 in
    let is : func_of x.0.callee ≡ Some f = ap (λ (o : Outline). func_of o.callee) x.2 ∙ a.1.2 in
    subst (IsLiftedApart g) is (own_task g w t x.0 own x.1).lifted

-- a stack of the function's component instance, and one that starts with a function that the options give
pub stack_own : (g : Graph) (w : World) (t : ℕ) (f : Lifted) (k : Stack) → IsStackOf g f.instance k → Is (IsOfFunc f) t w → Is (λ (o : Outline). IsOwnStack g (func_of o.callee) k) t w
stack_own g w t f k h a = as_is (IsOfFunc f) (λ (o : Outline). IsOwnStack g (func_of o.callee) k) t w (λ o e. subst (λ (x : Option Lifted). IsOwnStack g x k) (sym e) h) a

pub stack_by : (g : Graph) (w : World) (t : ℕ) (task : Task) (k : Stack) → IsOwnStack g (func_of task.callee) k → Is (λ (o : Outline). o ≡ outline_of task) t w
    → Is (λ (o : Outline). IsOwnStack g (func_of o.callee) k) t w
stack_by g w t task k h a =
    as_is (λ (o : Outline). o ≡ outline_of task) (λ (o : Outline). IsOwnStack g (func_of o.callee) k) t w (λ o e. subst (λ (x : Outline). IsOwnStack g (func_of x.callee) k) (sym e) h) a

-- it goes on with another stack, and calls what is its own
pub calls_by : (g : Graph) (w : World) (t : ℕ) (task : Task) (k : Stack) (number : ℕ) → CallsOwn g (func_of task.callee) number → Is (λ (o : Outline). o ≡ outline_of task) t w
    → Is (λ (o : Outline). CallsOwn g (func_of o.callee) number) t (with_stack t k w)
calls_by g w t task k number h a =
    stacks_first (λ (o : Outline). CallsOwn g (func_of o.callee) number) (λ (o : Outline). o ≡ outline_of task) w t (λ stacks. k ∷ drop 1 stacks)
    (λ o e. subst (λ (x : Outline). CallsOwn g (func_of x.callee) number) (sym e) h) a

-- Task 0.
pub init_own : (g : Graph) (w : World) (k : Stack) → Alone w → IsFirst 0 w.chain → Is (λ (o : Outline). IsOwnStack g (func_of o.callee) k) 0 w
init_own g w k h first = (first, (outline_of h.init, outline_there w.tasks 0 h.init h.there, subst (λ (c : Callee). IsOwnStack g (func_of c) k) (sym h.instantiates) tt))

nothing_starts : (w : World) → Alone w → IsFirst 0 w.chain → OneActs IsStarting (outlines_of w.tasks) w.chain → (n : ℕ) (task : Task) → slice_get w.tasks n ≡ Some task → StartsNothing task.state
nothing_starts w h first o zero task e =
    let a : Is IsStarting 0 w = is_first IsStarting w 0 first o in
    let same : a.1.0 ≡ outline_of task = some_same (sym a.1.1 ∙ outline_there w.tasks 0 task e) in
    subst StartsNothing (sym (ap (λ (x : Outline). x.state) (sym same) ∙ a.1.2.0)) tt
nothing_starts w h first o (suc n) task e = h.others n task e

pub more_own : (g : Graph) (w : World) (store : Store) → IsMore g w.store store → IsOwnWorld g w → Alone w → IsFirst 0 w.chain → OneActs IsStarting (outlines_of w.tasks) w.chain
    → IsOwnStore g w store
more_own g w store more own h first o =
    (more.canons, more.owned, tasks_recount g (length w.store.instances) (length store.instances) w.tasks (nothing_starts w h first o) own.each, inr first)

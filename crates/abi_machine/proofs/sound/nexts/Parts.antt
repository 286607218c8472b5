-- A step or an end comes next: where something is looked up that is there, behind lines, by tests, and for the acting task.
use Rattle.std.proofs.Common.{◌≡◌, ◌∙◌, ℕ, zero, suc, ◌+◌, Bool, true, false, List, refl, sym, ap, subst, Option, Some, None, Result, Ok, Err, if◌then◌else◌}
use Rattle.std.specs.Prelude.{IsSome, IfSome, nat_lt}
use Rattle.std.specs.Option.{option_map}
use Rattle.std.specs.List.{slice_get}
use Rattle.wasm_store.specs.Store.{Store, found_at}
use Rattle.wasm_memory.specs.Memories.{MemoryState}
use Rattle.handle_table.specs.History.{live_count, most_live, next_index}
use Rattle.comp_graph.specs.declared.graph.FuncRef.{FuncRef}
use Rattle.comp_graph.specs.Graph.{Graph, Lifted}
use Rattle.script_reader.specs.Script.{Script}
use Rattle.trace_labels.specs.declared.label.Label.{Label}
use Rattle.trace_labels.specs.declared.trap.TrapName.{TrapName}
use Rattle.trace_labels.specs.declared.trap.TrapName.TheVariants as trap
use Rattle.abi_machine.specs.declared.run_end.RunEnd.TheVariants.{Fuel}
use Rattle.abi_machine.specs.Control.{Control}
use Rattle.abi_machine.specs.World.{Entry, Callee, Init, Subtask, Caller, Nobody, Host, Guest, Task, World}
use Rattle.abi_machine.specs.Edits.{rewritten, entry_added, unit_spent}
use Rattle.abi_machine.specs.Canons.{canon_at}
use Rattle.abi_machine.specs.Reading.{table_of, acting, func_of, task_at, subtask_of}
use Rattle.abi_machine.specs.Lifting.{Came, once_lifted}
use Rattle.abi_machine.specs.Choosing.{chosen}
use Rattle.abi_machine.specs.Calling.{with_subtask_of}
use Rattle.abi_machine.specs.Turn.{Turn, Steps, Ends, Stuck, doomed, behind, given, unless_refused, unless, unless_fault, with_func, charged, with_entry}
use Rattle.abi_machine.specs.sound.Changes.{IsFirst, IsGuest}
use Rattle.abi_machine.specs.sound.Callers.{IsByCanon}
use Rattle.abi_machine.specs.sound.Numbers.{IsCallerBefore, IsCalledAs}
use Rattle.abi_machine.specs.sound.Acting.{Outline, outline_of, outlines_of, OneActs}
use Rattle.abi_machine.specs.sound.GoingOn.{HasNext, IsFuncThere}
use Rattle.abi_machine.proofs.sound.Outlines.{outline_back}

-- Something is looked up.
pub given_next : {A : Type 0} (o : Option A) (f : A → Turn) → IsSome o → ((x : A) → o ≡ Some x → HasNext (f x)) → HasNext (given o f)
given_next None f h more = cc
given_next (Some x) f h more = more x refl

pub found_next : {A : Type 0} (o : Option A) (x : A) (f : A → Turn) → o ≡ Some x → HasNext (f x) → HasNext (given o f)
found_next o x f e h = subst (λ (p : Option _). HasNext (given p f)) (sym e) h

pub behind_next : (lines : List Label) (t : Turn) → HasNext t → HasNext (behind lines t)
behind_next lines (Steps labels v) h = tt
behind_next lines (Ends end) h = tt
behind_next lines Stuck h = h

-- Tests.
pub either_next : (b : Bool) (t u : Turn) → (b ≡ true → HasNext t) → (b ≡ false → HasNext u) → HasNext (if b then t else u)
either_next true t u h k = h refl
either_next false t u h k = k refl

pub unless_next : (t : ℕ) (b : Bool) (why : TrapName) (w : World) (more : Turn) → (b ≡ false → HasNext more) → HasNext (unless t b why w more)
unless_next t true why w more h = tt
unless_next t false why w more h = h refl

pub refused_next : {A : Type 0} (t : ℕ) (r : Result A TrapName) (w : World) (f : A → Turn) → ((x : A) → r ≡ Ok x → HasNext (f x)) → HasNext (unless_refused t r w f)
refused_next t (Err why) w f more = tt
refused_next t (Ok x) w f more = more x refl

pub fault_next : {F : Type 0} (t : ℕ) (name : F → TrapName) (o : Option F) (w : World) (more : Turn) → HasNext more → HasNext (unless_fault t name o w more)
fault_next t name None w more h = h
fault_next t name (Some fault) w more h = tt

pub charged_next : (costs : Bool) (s : Script) (w : World) (f : World → Turn) → ((units : ℕ) → HasNext (f (record w { units = units }))) → HasNext (charged costs s w f)
charged_next false s w f more = more w.units
charged_next true s w f more = either_next (nat_lt w.units s.fuel) (f (unit_spent w)) (Ends Fuel) (λ e. more (w.units + 1)) (λ e. tt)

pub entry_next : (t i : ℕ) (entry : Entry) (w : World) (more : ℕ → World → Turn) → HasNext (more (next_index (table_of w i)) (entry_added i entry w)) → HasNext (with_entry t i entry w more)
entry_next t i entry w more h =
    either_next (nat_lt (live_count (table_of w i)) most_live) (more (next_index (table_of w i)) (entry_added i entry w)) (doomed t trap.TableFull w) (λ e. h) (λ e. tt)

pub chosen_next : (s : Script) (count : ℕ) (c : ℕ → Control) (w : World) → HasNext (chosen s count c w)
unfolding chosen
chosen_next s count c w = tt

pub came_next : {A : Type 0} (t : ℕ) (came : Came A) (more : A → World → Turn) → ((x : A) (v : World) → HasNext (more x v)) → HasNext (once_lifted t came more)
came_next t (Ok x) more h = behind_next x.1.lines (more x.0 x.1.world) (h x.0 x.1.world)
came_next t (Err stop) more h = tt

-- The acting task.
pub acts_found : (P : Outline → Type 0) (w : World) → OneActs P (outlines_of w.tasks) w.chain → (t : ℕ) × (task : Task) × IsFirst t w.chain × (slice_get w.tasks t ≡ Some task) × P (outline_of task)
acts_found P w h = let x = outline_back w.tasks h.0 h.1.1.0 h.1.1.1 in (h.0, x.0, h.1.0, x.1, subst P (sym x.2) h.1.1.2)

pub found_by : {A : Type 0} (xs : List A) (o : Option ℕ) (n : ℕ) (x : A) → o ≡ Some n → slice_get xs n ≡ Some x → found_at xs o ≡ Some (n, x)
found_by {A} xs o n x e there = ap (λ (k : Option ℕ). found_at xs k) e ∙ ap (option_map (λ (y : A). (n, y))) there

pub acting_next : (P : Outline → Type 0) (w : World) (more : ℕ × Task → Turn) → OneActs P (outlines_of w.tasks) w.chain
    → ((t : ℕ) (task : Task) → IsFirst t w.chain → slice_get w.tasks t ≡ Some task → P (outline_of task) → HasNext (more (t, task))) → HasNext (given (acting w) more)
acting_next P w more h k =
    let x = acts_found P w h in
    found_next (acting w) (x.0, x.1) more (found_by w.tasks (slice_get w.chain 0) x.0 x.1 x.2 x.3) (k x.0 x.1 x.2 x.3 x.4)

pub func_next : (P : Outline → Type 0) (w : World) (more : ℕ → Task → Lifted → Turn) → OneActs P (outlines_of w.tasks) w.chain
    → ((t : ℕ) (task : Task) → slice_get w.tasks t ≡ Some task → P (outline_of task) → IsSome (func_of task.callee))
    → ((t : ℕ) (task : Task) (f : Lifted) → IsFirst t w.chain → slice_get w.tasks t ≡ Some task → P (outline_of task) → func_of task.callee ≡ Some f → HasNext (more t task f))
    → HasNext (with_func w more)
func_next P w more h runs k =
    acting_next P w _ h (λ t task first there p. given_next (func_of task.callee) (λ f. more t task f) (runs t task there p) (λ f e. k t task f first there p e))

-- A task that another one called.
pub subtask_next : (w : World) (callee : ℕ) (more : Task → Subtask → Turn) → IsGuest w.tasks callee
    → ((task : Task) (subtask : Subtask) → slice_get w.tasks callee ≡ Some task → subtask_of task.caller ≡ Some subtask → HasNext (more task subtask)) → HasNext (with_subtask_of w callee more)
subtask_next w callee more h k =
    found_next (task_at w callee) h.0 (λ task. given (subtask_of task.caller) (λ subtask. more task subtask)) h.1
    (given_next (subtask_of h.0.caller) (λ subtask. more h.0 subtask) h.2 (λ subtask e. k h.0 subtask h.1 e))

-- what a task that runs a function has as its caller: the script, or a canonical function
abbrev pub HasCaller : Graph → Caller → Type 0
HasCaller g Nobody = ⊥
HasCaller g (Host call values) = Unit {0}
HasCaller g (Guest subtask) = IsSome (canon_at g subtask.canon)

pub has_caller : (g : Graph) (n : ℕ) (task : Task) → IsCalledAs n task → IsSome (func_of task.callee) → IsByCanon g task.caller → HasCaller g task.caller
has_caller g zero task h runs by = let none : IsSome (func_of Init) = subst (λ (c : Callee). IsSome (func_of c)) h.0 runs in cc
has_caller g (suc n) task h runs by = of_caller task.caller h.1 by
  where
    of_caller : (c : Caller) → IsCallerBefore (suc n) c → IsByCanon g c → HasCaller g c
    of_caller Nobody h by = absurd h
    of_caller (Host call values) h by = tt
    of_caller (Guest subtask) h by = by

-- Functions of a store of which memories are written.
pub there_rewritten : (m : Option (ℕ × MemoryState)) (bytes : List ℕ) (s : Store) (f : FuncRef) → IsFuncThere s f → IsFuncThere (rewritten m bytes s) f
there_rewritten None bytes s f h = h
there_rewritten (Some m) bytes s f h = h

pub if_there_rewritten : (m : Option (ℕ × MemoryState)) (bytes : List ℕ) (s : Store) (o : Option FuncRef) → IfSome o (IsFuncThere s) → IfSome o (IsFuncThere (rewritten m bytes s))
if_there_rewritten m bytes s None h = tt
if_there_rewritten m bytes s (Some f) h = there_rewritten m bytes s f h

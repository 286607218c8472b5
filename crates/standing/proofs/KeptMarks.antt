-- Marks of what is kept are what the machine computes of the world for which it stands.
use Rattle.std.proofs.Common.{◌≡◌, ℕ, zero, suc, ◌+◌, Bool, true, false, ◌&&◌, ◌||◌, nat_eq, is_some, if◌then◌else◌, List, [], ◌∷◌, map, filter, refl, sym, ap, ◌∙◌, subst, Option, Some, None, Result, Ok, Err}
use Rattle.std.specs.Prelude.{IsSome}
use Rattle.std.specs.List.{slice_get, AllZip, list_any, count_by, sum_by}
use Rattle.std.specs.Option.{option_map}
use Rattle.std.proofs.lemmas.List.Sums.{sum_by-cons}
use Rattle.syntax_trees.specs.declared.types.ValType.{ValType}
use Rattle.wasm_store.specs.Stack.{Stack}
use Rattle.handle_table.specs.Alike.{SlotAlike, SlotsAlike}
use Rattle.handle_table.specs.History.{slots_of}
use Rattle.waitables.specs.Sets.{set_at}
use Rattle.entry_gate.specs.Gates.{GateView}
use Rattle.entry_gate.specs.Stays.{Place, Inside, Stay, waits, holder_of}
use Rattle.entry_gate.specs.Callbacks.{callback_of}
use Rattle.entry_gate.specs.declared.callback.BadCode.{BadCode}
use Rattle.entry_gate.specs.declared.callback.Next.{Next}
use Rattle.entry_gate.specs.declared.callback.Next.TheVariants as next
use Rattle.entry_gate.specs.declared.kind.Kind.{Kind}
use Rattle.tasks.specs.Tasks.{state_of}
use Rattle.res_handles.specs.declared.handle.Ownership.{Ownership}
use Rattle.res_handles.specs.declared.handle.Ownership.TheVariants.{Own, Borrow}
use Rattle.comp_graph.specs.declared.graph.CanonFunc.{CanonFunc}
use Rattle.comp_graph.specs.declared.graph.CanonFunc.TheVariants as canon
use Rattle.comp_graph.specs.declared.graph.FuncRef.{FuncRef}
use Rattle.comp_graph.specs.declared.graph.Resource.{Resource}
use Rattle.comp_graph.specs.Graph.{Graph, Lifted, func_at}
use Rattle.script_reader.specs.Script.{Script}
use Rattle.instances.specs.declared.entry.WorldEntry.{WorldEntry}
use Rattle.instances.specs.declared.entry.WorldEntry.TheVariants as entry
use Rattle.instances.specs.Instances.{InstanceView}
use Rattle.task_table.specs.declared.caller.Caller as kept_caller
use Rattle.task_table.specs.declared.caller.Caller.TheVariants as caller
use Rattle.task_table.specs.declared.errand.Callee as runs
use Rattle.task_table.specs.declared.errand.Callee.TheVariants as callee
use Rattle.task_table.specs.declared.slot.TaskSlot.{TaskSlot}
use Rattle.task_table.specs.Callers.{called_of}
use Rattle.task_table.specs.Slots as slots
use Rattle.world_parts.specs.Held.{Held}
use Rattle.abi_machine.specs.World.{Entry, Func, Inst, Callee, Caller, Nobody, Host, Guest, Wait, ForYield, ForSet, ForCall, ForCopy, ForCancel, TaskState, New, Acting, AfterCall, AfterCancel, Begins, WaitsToEnter, InLoop, InBuiltin, Exited, Task, World}
use Rattle.abi_machine.specs.Canons.{canon_at, flag_at, resource_at}
use Rattle.abi_machine.specs.Gate.{place_of, stay_of, stays_of, gate_of}
use Rattle.abi_machine.specs.Reading.{backpressure_in, backpressure_of, func_of, kind_of_func, subtask_of, is_in, runs_in, with_numbers, task_at}
use Rattle.abi_machine.specs.Counting as machine
use Rattle.abi_machine.specs.Counting.{passes, phase_of, blocked_at_of, lends_for, borrows_for, waits_at}
use Rattle.abi_machine.proofs.sound.Acted.{in_front, stays_from, front_is}
use Rattle.abi_machine.proofs.sound.Found.{some_same}
use Rattle.standing.specs.Instances.{owned_as, EntryStands, InstStands}
use Rattle.standing.specs.Tasks.{lowered_in, destroyed_by, destroyed_in, callee_of, RunsIn, CallerStands, TaskStands}
use Rattle.standing.specs.Stands.{Stands}
use Rattle.standing.specs.Marks.{CallerMarked}
use Rattle.standing.specs.KeptMarks.{runs_func, runs_at, place_blocked, place_in, stay_in, stays_at, GateMarked, lends_by, is_task_at, borrows_by, is_borrow_of, TasksMarked, FirstIsMarked, GatesAreKept, WaitersAreCounted, LendsAreCounted, BorrowsAreCounted, WhoWaitsIsKept}
use Rattle.standing.proofs.Begun.{in_instance}
use Rattle.standing.proofs.Lists.{BothAt, at_both, IsFound, found_left}

-- Lists that stand for one another give the same sums, and the same answer to whether one passes.
sums_alike : {A B : Type 0} (R : A → B → Type 0) (f : A → ℕ) (g : B → ℕ) → ((x : A) (y : B) → R x y → f x ≡ g y) → (xs : List A) (ys : List B) → AllZip R xs ys → sum_by f xs ≡ sum_by g ys
sums_alike R f g same [] [] h = refl
sums_alike R f g same [] (y ∷ ys) h = absurd h
sums_alike R f g same (x ∷ xs) [] h = absurd h
sums_alike R f g same (x ∷ xs) (y ∷ ys) h =
    sum_by-cons f x xs ∙ ap (λ (n : ℕ). n + sum_by f xs) (same x y h.0) ∙ ap (λ (n : ℕ). g y + n) (sums_alike R f g same xs ys h.1) ∙ sym (sum_by-cons g y ys)

counts_alike : {A B : Type 0} (R : A → B → Type 0) (p : A → Bool) (q : B → Bool) → ((x : A) (y : B) → R x y → p x ≡ q y) → (xs : List A) (ys : List B) → AllZip R xs ys
    → count_by p xs ≡ count_by q ys
counts_alike R p q same xs ys h =
    sums_alike R (λ x. if p x then 1 else 0) (λ y. if q y then 1 else 0) (λ x y r. ap (λ (b : Bool). if b then 1 else 0) (same x y r)) xs ys h

one_alike : {A B : Type 0} (R : A → B → Type 0) (p : A → Bool) (q : B → Bool) → ((x : A) (y : B) → R x y → p x ≡ q y) → (xs : List A) (ys : List B) → AllZip R xs ys
    → list_any p xs ≡ list_any q ys
one_alike R p q same [] [] h = refl
one_alike R p q same [] (y ∷ ys) h = absurd h
one_alike R p q same (x ∷ xs) [] h = absurd h
one_alike R p q same (x ∷ xs) (y ∷ ys) h =
    ap (λ (b : Bool). b || list_any p xs) (same x y h.0) ∙ ap (λ (b : Bool). q y || b) (one_alike R p q same xs ys h.1)

-- Which tasks run a function of an instance.
func_there : (c a : Callee) → c ≡ a → IsSome (func_of c) → IsSome (func_of a)
func_there c a same h = subst (λ (x : Callee). IsSome (func_of x)) same h

by_export : (o : Option Lifted) (a : Callee) → option_map Func o ≡ Some a → IsSome (func_of a)
by_export None a e = absurd (cc)
by_export (Some f) a e = func_there (Func f) a (some_same e) refl

by_lower : (o : Option CanonFunc) (a : Callee) → lowered_in o ≡ Some a → IsSome (func_of a)
by_lower None a e = absurd (cc)
by_lower (Some (canon.Lower l)) a e = func_there _ a (some_same e) refl
by_lower (Some (canon.Builtin b)) a e = absurd (cc)

by_core : (resource instance : ℕ) (o : Option FuncRef) (a : Callee) → destroyed_by resource instance o ≡ Some a → IsSome (func_of a)
by_core resource instance None a e = absurd (cc)
by_core resource instance (Some core) a e = func_there _ a (some_same e) refl

by_resource : (resource : ℕ) (o : Option Resource) (a : Callee) → destroyed_in resource o ≡ Some a → IsSome (func_of a)
by_resource resource None a e = absurd (cc)
by_resource resource (Some r) a e = by_core resource r.instance r.destructor a e

func_alike : (g : Graph) (c : runs.Callee) (a : Callee) (instance at : ℕ) → callee_of g c ≡ Some a → RunsIn instance (func_of a) → (runs_func c && nat_eq instance at) ≡ is_in at (func_of a)
func_alike g callee.Init a instance at e place = ap (λ (x : Callee). is_in at (func_of x)) (some_same e)
func_alike g (callee.Export number) a instance at e place = in_instance at instance (func_of a) (by_export (func_at g number) a e) place
func_alike g (callee.Lowered number) a instance at e place = in_instance at instance (func_of a) (by_lower (canon_at g number) a e) place
func_alike g (callee.Destroys resource) a instance at e place = in_instance at instance (func_of a) (by_resource resource (resource_at g resource) a e) place

pub runs_alike : (g : Graph) (s : Script) (at : ℕ) (k : TaskSlot) (a : Task) → TaskStands g s k a → runs_at at k ≡ runs_in at a
runs_alike g s at k a st = func_alike g k.callee a.callee k.instance at st.does st.place

-- Where tasks are.
wait_inside : (wait : Wait) → place_blocked (blocked_at_of wait) ≡ Inside
wait_inside ForYield = refl
wait_inside (ForSet index) = refl
wait_inside (ForCall callee) = refl
wait_inside (ForCopy index) = refl
wait_inside (ForCancel index) = refl

place_same : (flag : ℕ → Bool) (state : TaskState) → place_in (phase_of flag state) ≡ place_of state
place_same flag New = refl
place_same flag Acting = refl
place_same flag (AfterCall callee number words) = refl
place_same flag (AfterCancel callee number words) = refl
place_same flag (Begins n) = refl
place_same flag WaitsToEnter = refl
place_same flag (InLoop word) = refl
place_same flag (InBuiltin number words wait) = wait_inside wait
place_same flag Exited = refl

pub place_alike : (g : Graph) (s : Script) (k : TaskSlot) (a : Task) → TaskStands g s k a → place_in k.task.phase ≡ place_of a.state
place_alike g s k a st = ap place_in st.far ∙ place_same (flag_at g) a.state

-- The stays at an instance.
stay_same : (x y : Stay) → x.task ≡ y.task → x.kind ≡ y.kind → x.place ≡ y.place → x ≡ y
stay_same x y t k p =
    ap (λ (n : ℕ). (let s : Stay = record { task = n; kind = x.kind; place = x.place } in s)) t
    ∙ ap (λ (kind : Kind). (let s : Stay = record { task = y.task; kind = kind; place = x.place } in s)) k
    ∙ ap (λ (place : Place). (let s : Stay = record { task = y.task; kind = y.kind; place = place } in s)) p

mapped_if : (b : Bool) (x : ℕ × TaskSlot) (xs : List (ℕ × TaskSlot)) → map stay_in (if b then x ∷ xs else xs) ≡ (if b then stay_in x ∷ map stay_in xs else map stay_in xs)
mapped_if true x xs = refl
mapped_if false x xs = refl

front_same : (b c : Bool) (x y : Stay) (xs ys : List Stay) → b ≡ c → x ≡ y → xs ≡ ys → (if b then x ∷ xs else xs) ≡ (if c then y ∷ ys else ys)
front_same b c x y xs ys e f h =
    ap (λ (d : Bool). if d then x ∷ xs else xs) e ∙ ap (λ (z : Stay). if c then z ∷ xs else xs) f ∙ ap (λ (zs : List Stay). if c then y ∷ zs else zs) h

abbrev pub kept_from : ℕ → ℕ → List TaskSlot → List Stay
kept_from at number tasks = map stay_in (filter (λ (x : ℕ × TaskSlot). runs_at at x.1) (with_numbers number tasks))

pub kept_front : (at number : ℕ) (k : TaskSlot) (ks : List TaskSlot)
    → kept_from at number (k ∷ ks) ≡ (if runs_at at k then stay_in (number, k) ∷ kept_from at (number + 1) ks else kept_from at (number + 1) ks)
kept_front at number k ks = mapped_if (runs_at at k) (number, k) (filter (λ (x : ℕ × TaskSlot). runs_at at x.1) (with_numbers (number + 1) ks))

stays_alike : (g : Graph) (s : Script) (at number : ℕ) (ks : List TaskSlot) (tasks : List Task) → AllZip (TaskStands g s) ks tasks → kept_from at number ks ≡ stays_from at number tasks
stays_alike g s at number [] [] h = refl
stays_alike g s at number [] (a ∷ tasks) h = absurd h
stays_alike g s at number (k ∷ ks) [] h = absurd h
stays_alike g s at number (k ∷ ks) (a ∷ tasks) h =
    kept_front at number k ks
    ∙ front_same (runs_at at k) (runs_in at a) (stay_in (number, k)) (stay_of (number, a)) (kept_from at (number + 1) ks) (stays_from at (number + 1) tasks)
    (runs_alike g s at k a h.0) (stay_same (stay_in (number, k)) (stay_of (number, a)) refl h.0.lifted (place_alike g s k a h.0))
    (stays_alike g s at (number + 1) ks tasks h.1)
    ∙ sym (front_is at number a tasks)

gate_same : (v : GateView) (p : ℕ) (o : Option ℕ) (n : ℕ) → v.pressure ≡ p → v.holder ≡ o → v.waiting ≡ n → v ≡ (let u : GateView = record { pressure = p; holder = o; waiting = n } in u)
gate_same v p o n e f h =
    ap (λ (x : ℕ). (let u : GateView = record { pressure = x; holder = v.holder; waiting = v.waiting } in u)) e
    ∙ ap (λ (x : Option ℕ). (let u : GateView = record { pressure = p; holder = x; waiting = v.waiting } in u)) f
    ∙ ap (λ (x : ℕ). (let u : GateView = record { pressure = p; holder = o; waiting = x } in u)) h

pub gates_are_kept : GatesAreKept
gates_are_kept g values s h stacks w at st marks i here =
    let one : IsFound (InstStands values) (slice_get h.instances at) (slice_get w.insts at) = found_left (InstStands values) h.instances w.insts at i st.are_instances here in
    let same : one.left ≡ i = some_same (sym one.is_left ∙ here) in
    let marked : GateMarked h.tasks at i.gate = marks.gates at i here in
    let stays : stays_at at h.tasks ≡ stays_of w at = stays_alike g s at 0 h.tasks w.tasks st.are_tasks in
    gate_same i.gate (backpressure_of w at) (holder_of (stays_of w at)) (count_by waits (stays_of w at))
    (ap (λ (x : InstanceView). x.gate.pressure) (sym same) ∙ one.alike.pressure ∙ ap backpressure_in (sym one.is_right)) (marked.holder ∙ ap holder_of stays)
    (marked.waiting ∙ ap (count_by waits) stays)

-- Tasks that wait on a set.
next_same : (index : ℕ) (r : Result Next BadCode) → slots.next_waits_on index r ≡ machine.word_waits_on index r
next_same index (Ok next.Exit) = refl
next_same index (Ok next.Yield) = refl
next_same index (Ok (next.Wait set)) = refl
next_same index (Ok (next.Poll set)) = refl
next_same index (Err why) = refl

set_wait_same : (flag : ℕ → Bool) (index number : ℕ) (words : List ℕ) (wait : Wait)
    → slots.waits_on index (phase_of flag (InBuiltin number words wait)) ≡ machine.waits_on index (InBuiltin number words wait)
set_wait_same flag index number words ForYield = refl
set_wait_same flag index number words (ForSet set) = refl
set_wait_same flag index number words (ForCall callee) = refl
set_wait_same flag index number words (ForCopy end) = refl
set_wait_same flag index number words (ForCancel subtask) = refl

waits_same : (flag : ℕ → Bool) (index : ℕ) (state : TaskState) → slots.waits_on index (phase_of flag state) ≡ machine.waits_on index state
waits_same flag index New = refl
waits_same flag index Acting = refl
waits_same flag index (AfterCall callee number words) = refl
waits_same flag index (AfterCancel callee number words) = refl
waits_same flag index (Begins n) = refl
waits_same flag index WaitsToEnter = refl
waits_same flag index (InLoop word) = next_same index (callback_of word)
waits_same flag index (InBuiltin number words wait) = set_wait_same flag index number words wait
waits_same flag index Exited = refl

both_same : (a b c d : Bool) → a ≡ b → c ≡ d → (a && c) ≡ (b && d)
both_same a b c d e f = ap (λ (x : Bool). x && c) e ∙ ap (λ (x : Bool). b && x) f

pub waiters_are_counted : WaitersAreCounted
waiters_are_counted g values s h stacks w at i st marks here index set there =
    marks.waiters at index set i here there
    ∙ counts_alike (TaskStands g s) (λ (slot : TaskSlot). runs_at at slot && slots.waits_on index slot.task.phase) (λ (task : Task). runs_in at task && machine.waits_on index task.state)
    (λ k a alike. both_same (runs_at at k) (runs_in at a) (slots.waits_on index k.task.phase) (machine.waits_on index a.state) (runs_alike g s at k a alike)
    (ap (slots.waits_on index) alike.far ∙ waits_same (flag_at g) index a.state))
    h.tasks w.tasks st.are_tasks

-- Tasks that wait for a copy or a cancelled subtask.
direct_wait_same : (flag : ℕ → Bool) (index number : ℕ) (words : List ℕ) (wait : Wait)
    → slots.waits_directly_at index (phase_of flag (InBuiltin number words wait)) ≡ waits_at index (InBuiltin number words wait)
direct_wait_same flag index number words ForYield = refl
direct_wait_same flag index number words (ForSet set) = refl
direct_wait_same flag index number words (ForCall callee) = refl
direct_wait_same flag index number words (ForCopy end) = refl
direct_wait_same flag index number words (ForCancel subtask) = refl

direct_same : (flag : ℕ → Bool) (index : ℕ) (state : TaskState) → slots.waits_directly_at index (phase_of flag state) ≡ waits_at index state
direct_same flag index New = refl
direct_same flag index Acting = refl
direct_same flag index (AfterCall callee number words) = refl
direct_same flag index (AfterCancel callee number words) = refl
direct_same flag index (Begins n) = refl
direct_same flag index WaitsToEnter = refl
direct_same flag index (InLoop word) = refl
direct_same flag index (InBuiltin number words wait) = direct_wait_same flag index number words wait
direct_same flag index Exited = refl

pub who_waits_is_kept : WhoWaitsIsKept
who_waits_is_kept g values s h stacks w at st marks index callee i slot called here stood there guest = (
  (subst (CallerMarked callee (state_of slot.task)) guest (marks.states callee slot there)).seen,
  marks.awaited at index callee i slot called here stood there guest
      ∙ one_alike (TaskStands g s) (λ (x : TaskSlot). runs_at at x && slots.waits_directly_at index x.task.phase) (λ (task : Task). runs_in at task && waits_at index task.state)
      (λ k a alike. both_same (runs_at at k) (runs_in at a) (slots.waits_directly_at index k.task.phase) (waits_at index a.state) (runs_alike g s at k a alike)
      (ap (slots.waits_directly_at index) alike.far ∙ direct_same (flag_at g) index a.state))
      h.tasks w.tasks st.are_tasks,
)

-- Handles that are lent.
task_there : (g : Graph) (s : Script) (at : ℕ) (o : Option TaskSlot) (p : Option Task) → BothAt (TaskStands g s) o p → passes (runs_at at) o ≡ passes (runs_in at) p
task_there g s at None None b = refl
task_there g s at None (Some a) b = absurd b
task_there g s at (Some k) None b = absurd b
task_there g s at (Some k) (Some a) b = runs_alike g s at k a b

lent_same : (g : Graph) (values : List ValType) (s : Script) (h : Held) (stacks : List (List Stack)) (w : World) (at index : ℕ) (c : kept_caller.Caller) (d : Caller)
    → Stands g values s h stacks w → CallerStands s c d
    → lends_by (is_task_at h.tasks at) index (called_of c) ≡ lends_for (λ t. passes (runs_in at) (task_at w t)) index (subtask_of d)
lent_same g values s h stacks w at index caller.Nobody Nobody st c = refl
lent_same g values s h stacks w at index caller.Nobody (Host call vs) st c = absurd c
lent_same g values s h stacks w at index caller.Nobody (Guest subtask) st c = absurd c
lent_same g values s h stacks w at index (caller.Host number) Nobody st c = absurd c
lent_same g values s h stacks w at index (caller.Host number) (Host call vs) st c = refl
lent_same g values s h stacks w at index (caller.Host number) (Guest subtask) st c = absurd c
lent_same g values s h stacks w at index (caller.Guest called) Nobody st c = absurd c
lent_same g values s h stacks w at index (caller.Guest called) (Host call vs) st c = absurd c
lent_same g values s h stacks w at index (caller.Guest called) (Guest subtask) st c =
    ap (λ (t : ℕ). count_by (λ handle. is_task_at h.tasks at t && nat_eq handle index) called.subtask.lends) c.caller
    ∙ ap (λ (b : Bool). count_by (λ handle. b && nat_eq handle index) called.subtask.lends)
    (task_there g s at (slice_get h.tasks subtask.by) (slice_get w.tasks subtask.by) (at_both (TaskStands g s) h.tasks w.tasks subtask.by st.are_tasks))
    ∙ ap (λ (lends : List ℕ). count_by (λ handle. passes (runs_in at) (task_at w subtask.by) && nat_eq handle index) lends) c.lent

pub lends_are_counted : LendsAreCounted
lends_are_counted g values s h stacks w at index i x st marks here there =
    marks.lends at index i x here there
    ∙ sums_alike (TaskStands g s) (λ (slot : TaskSlot). lends_by (is_task_at h.tasks at) index (called_of slot.caller))
    (λ (task : Task). lends_for (λ t. passes (runs_in at) (task_at w t)) index (subtask_of task.caller))
    (λ k a alike. lent_same g values s h stacks w at index k.caller a.caller st alike.called) h.tasks w.tasks st.are_tasks

-- Borrow handles.
owned_same : (t resource rep : ℕ) (o : Ownership) → borrows_by t o ≡ borrows_for t (Some (owned_as resource rep o))
owned_same t resource rep Own = refl
owned_same t resource rep (Borrow task) = refl

borrow_same : (values : List ValType) (t : ℕ) (o : Option WorldEntry) (p : Option Entry) → SlotAlike (EntryStands values) o p → is_borrow_of t o ≡ borrows_for t p
borrow_same values t None None h = refl
borrow_same values t None (Some a) h = absurd h
borrow_same values t (Some e) None h = absurd h
borrow_same values t (Some (entry.Handle x)) (Some a) h = owned_same t x.resource x.rep x.ownership ∙ ap (λ (b : Entry). borrows_for t (Some b)) (sym h)
borrow_same values t (Some (entry.Subtask callee)) (Some a) h = ap (λ (b : Entry). borrows_for t (Some b)) (sym h)
borrow_same values t (Some (entry.Set set)) (Some a) h = ap (λ (b : Entry). borrows_for t (Some b)) (sym h)
borrow_same values t (Some (entry.End e)) (Some a) h = ap (λ (b : Entry). borrows_for t (Some b)) (sym h.2)

slots_same : (values : List ValType) (t : ℕ) (xs : List (Option WorldEntry)) (ys : List (Option Entry)) → SlotsAlike (EntryStands values) xs ys
    → count_by (is_borrow_of t) xs ≡ count_by (borrows_for t) ys
slots_same values t [] [] h = refl
slots_same values t [] (y ∷ ys) h = absurd h
slots_same values t (x ∷ xs) [] h = absurd h
slots_same values t (x ∷ xs) (y ∷ ys) h =
    sum_by-cons (λ (o : Option WorldEntry). if is_borrow_of t o then 1 else 0) x xs
    ∙ ap (λ (b : Bool). (if b then 1 else 0) + count_by (is_borrow_of t) xs) (borrow_same values t x y h.0)
    ∙ ap (λ (n : ℕ). (if borrows_for t y then 1 else 0) + n) (slots_same values t xs ys h.1)
    ∙ sym (sum_by-cons (λ (o : Option Entry). if borrows_for t o then 1 else 0) y ys)

pub borrows_are_counted : BorrowsAreCounted
borrows_are_counted g values s h stacks w t st marks slot there =
    marks.borrows t slot there
    ∙ sums_alike (InstStands values) (λ (i : InstanceView). count_by (is_borrow_of t) i.slots.entries) (λ (inst : Inst). count_by (borrows_for t) (slots_of inst.table))
    (λ i a alike. slots_same values t i.slots.entries (slots_of a.table) alike.table.alike.slots) h.instances w.insts st.are_instances

-- Before a graph is instantiated.
first_borrows : (slot : TaskSlot) (t : ℕ) (x : TaskSlot) → slot.task.borrows ≡ 0 → slice_get (slot ∷ []) t ≡ Some x → x.task.borrows ≡ 0
first_borrows slot zero x none e = ap (λ (y : TaskSlot). y.task.borrows) (sym (some_same e)) ∙ none
first_borrows slot (suc t) x none e = absurd (cc)

first_states : (slot : TaskSlot) (t : ℕ) (x : TaskSlot) → slot.caller ≡ caller.Nobody → slice_get (slot ∷ []) t ≡ Some x → CallerMarked t (state_of x.task) x.caller
first_states slot zero x nobody e = subst (CallerMarked 0 (state_of x.task)) (sym nobody ∙ ap (λ (y : TaskSlot). y.caller) (some_same e)) tt
first_states slot (suc t) x nobody e = absurd (cc)

pub first_is_marked : FirstIsMarked
first_is_marked slot none nobody = record {
  gates = λ at i e. absurd (cc);
  waiters = λ at index set i e there. absurd (cc);
  lends = λ at index i x e there. absurd (cc);
  borrows = λ t x e. first_borrows slot t x none e;
  awaited = λ at index callee i x called e stood there guest. absurd (cc);
  states = λ t x e. first_states slot t x nobody e;
}

-- What is known of what a step has looked up.
use Rattle.std.proofs.Common.{◌≡◌, ◌≤◌, ◌⊎◌, inl, inr, ℕ, zero, suc, ◌+◌, ◌-◌, Bool, true, false, nat_eq, nat_le, List, [], ◌∷◌, refl, sym, ap, ◌∙◌, subst, arith, Option, Some, None, Result, Ok, Err, if◌then◌else◌}
use Rattle.std.proofs.lemmas.Bool.Decides.{nat_tests}
use Rattle.std.specs.Prelude.{IsSome}
use Rattle.std.specs.Option.{option_map}
use Rattle.std.specs.List.{slice_get, find}
use Rattle.wasm_store.proofs.Lists.{found_there}
use Rattle.handle_table.specs.History.{Event}
use Rattle.syntax_trees.specs.declared.types.ValType.{ValType}
use Rattle.builtin_kinds.specs.declared.EndKind.{EndKind}
use Rattle.builtin_kinds.specs.declared.EndKind.TheVariants.{Stream, Future}
use Rattle.res_handles.specs.declared.handle.Handle.{Handle}
use Rattle.res_handles.specs.declared.handle.Ownership.{Ownership}
use Rattle.res_handles.specs.declared.handle.Ownership.TheVariants.{Own, Borrow}
use Rattle.res_handles.specs.declared.refusal.Refusal.{Refusal}
use Rattle.res_handles.specs.declared.refusal.Refusal.TheVariants.{OtherType, Lent}
use Rattle.res_handles.specs.Refusals.{of_resource, handle_in, own_in, dropped_in, that_is, owned, owned_by, unlent}
use Rattle.waitables.specs.Sets.{SetView, drop_answer}
use Rattle.stream_ends.specs.declared.side.Side.{Side}
use Rattle.stream_ends.specs.declared.side.Side.TheVariants.{Reader, Writer}
use Rattle.comp_graph.specs.Graph.{Lifted}
use Rattle.stream_ends.specs.declared.open_copy.OpenCopy.{OpenCopy}
use Rattle.trace_labels.specs.declared.trap.TrapName.{TrapName}
use Rattle.abi_machine.specs.Traps.{renamed}
use Rattle.abi_machine.specs.LoweringOver.{New, NewOwn, NewBorrow, NewEnd}
use Rattle.abi_machine.specs.Control.{EndRef}
use Rattle.abi_machine.specs.World.{Entry, OwnHandle, BorrowHandle, OfSubtask, OfSet, OfEnd, Inst, Callee, AfterCancel, Task, World}
use Rattle.abi_machine.specs.Edits.{changed_at, with_table, added, entry_added, with_channel, offered_by, offered, control_behind}
use Rattle.abi_machine.specs.Reading.{table_in, table_of, entry_at, acting, func_of, task_at, subtask_of, may_leave, with_numbers}
use Rattle.abi_machine.specs.Counting.{lends_of, entry_view, view_at, end_view}
use Rattle.abi_machine.specs.Finding.{subtask_in, subtask_at, set_in, set_at, waitable_in, waitable_at, end_in, end_at}
use Rattle.abi_machine.specs.Lifting as lifting
use Rattle.abi_machine.specs.Pausing.{entry_of}
use Rattle.abi_machine.specs.Scheduling.{task_of_call, is_call_of}
use Rattle.entry_gate.specs.Gates.{set_pressure}
use Rattle.abi_machine.specs.replies.Pressure.{most_backpressure}
use Rattle.abi_machine.specs.sound.Changes.{IsWaitable, Stands, IsLeft, IsGuest, IsAdded, IsFirst, HasFunc, IsCancelling, FirstCancels}
use Rattle.abi_machine.specs.sound.Premises.{IsHandle, IsFree}
use Rattle.abi_machine.specs.sound.Controls.{Says}

pub ok_same : {A E : Type 0} {x y : A} → (let r : Result A E = Ok x in r) ≡ Ok y → x ≡ y
ok_same e = cc

pub some_same : {A : Type 0} {x y : A} → Some x ≡ Some y → x ≡ y
some_same e = cc

pub renamed_ok : {A E : Type 0} (name : E → TrapName) (r : Result A E) (x : A) → renamed name r ≡ Ok x → r ≡ Ok x
renamed_ok name (Ok y) x e = let same : y ≡ x = cc in ap (λ (z : _). Ok z) same
renamed_ok name (Err why) x e = cc

-- Lists in which an item is changed.

pub changed_kept : {A : Type 0} (t : ℕ) (f : A → A) (xs : List A) (n : ℕ) (x : A) → slice_get xs n ≡ Some x
    → (slice_get (changed_at t f xs) n ≡ Some x) ⊎ (slice_get (changed_at t f xs) n ≡ Some (f x))
changed_kept t f [] n x e = cc
changed_kept zero f (y ∷ xs) zero x e = let same : y ≡ x = cc in inr (ap (λ z. Some (f z)) same)
changed_kept zero f (y ∷ xs) (suc n) x e = inl e
changed_kept (suc t) f (y ∷ xs) zero x e = inl e
changed_kept (suc t) f (y ∷ xs) (suc n) x e = changed_kept t f xs n x e

pub there_changed : {A : Type 0} (xs : List A) (t n : ℕ) (f : A → A) → IsSome (slice_get xs n) → IsSome (slice_get (changed_at t f xs) n)
there_changed [] t n f h = h
there_changed (x ∷ xs) zero zero f h = refl
there_changed (x ∷ xs) zero (suc n) f h = h
there_changed (x ∷ xs) (suc t) zero f h = refl
there_changed (x ∷ xs) (suc t) (suc n) f h = there_changed xs t n f h

pub guest_changed : (tasks : List Task) (t n : ℕ) (f : Task → Task) → ((x : Task) → IsSome (subtask_of x.caller) → IsSome (subtask_of (f x).caller)) → IsGuest tasks n → IsGuest (changed_at t f tasks) n
guest_changed tasks t n f keeps h = elim (changed_kept t f tasks n h.0 h.1) [
  | inl e ↦ (h.0, e, h.2)
  | inr e ↦ (f h.0, e, keeps h.0 h.2)
]

pub acting_there : (w : World) (a : ℕ × Task) → acting w ≡ Some a → IsSome (task_at w a.0)
acting_there w a e = subst (λ (o : Option Task). IsSome o) (sym (found_there w.tasks (slice_get w.chain 0) a e).1) refl

-- The acting task.

pub acting_first : (w : World) (a : ℕ × Task) → acting w ≡ Some a → IsFirst a.0 w.chain
acting_first w a e = (found_there w.tasks (slice_get w.chain 0) a e).0

pub acting_is : (w : World) (a : ℕ × Task) → acting w ≡ Some a → slice_get w.tasks a.0 ≡ Some a.1
acting_is w a e = (found_there w.tasks (slice_get w.chain 0) a e).1

pub acting_func : (w : World) (a : ℕ × Task) (f : Lifted) → acting w ≡ Some a → func_of a.1.callee ≡ Some f → HasFunc w.tasks a.0
acting_func w a f e i = (a.1, acting_is w a e, subst (λ (o : Option Lifted). IsSome o) (sym i) refl)

pub func_changed : (tasks : List Task) (t n : ℕ) (f : Task → Task) → ((x : Task) → (f x).callee ≡ x.callee) → HasFunc tasks n → HasFunc (changed_at t f tasks) n
func_changed tasks t n f same h = elim (changed_kept t f tasks n h.0 h.1) [
  | inl e ↦ (h.0, e, h.2)
  | inr e ↦ (f h.0, e, subst (λ (c : Callee). IsSome (func_of c)) (sym (same h.0)) h.2)
]

pub cancels_changed : (tasks : List Task) (chain : List ℕ) (t : ℕ) (f : Task → Task) → ((x : Task) → (f x).state ≡ x.state) → (chain ≡ []) ⊎ FirstCancels tasks chain
    → (chain ≡ []) ⊎ FirstCancels (changed_at t f tasks) chain
cancels_changed tasks chain t f same (inl idle) = inl idle
cancels_changed tasks chain t f same (inr c) = inr (
  c.0,
  c.1,
  elim (changed_kept t f tasks c.0 c.2.0 c.2.1) [
    | inl e ↦ (c.2.0, e, c.2.2)
    | inr e ↦ (f c.2.0, e, subst IsCancelling (sym (same c.2.0)) c.2.2)
  ],
)

pub some_there : {A : Type 0} (o : Option A) → IsSome o → (x : A) × (o ≡ Some x)
some_there None h = cc
some_there (Some x) h = (x, refl)

pub changed_there : {A : Type 0} (n : ℕ) (f : A → A) (xs : List A) (x : A) → slice_get xs n ≡ Some x → slice_get (changed_at n f xs) n ≡ Some (f x)
changed_there n f [] x h = cc
changed_there zero f (y ∷ xs) x h = let same : y ≡ x = cc in ap (λ z. Some (f z)) same
changed_there (suc n) f (y ∷ xs) x h = changed_there n f xs x h

pub now_cancels : (w : World) (t callee number : ℕ) (words : List ℕ) → IsFirst t w.chain → IsSome (task_at w t) → FirstCancels (changed_at t (λ task. record task { state = AfterCancel callee number words }) w.tasks) w.chain
now_cancels w t callee number words first own =
    let x = some_there (task_at w t) own in
    (t, first, (record x.0 { state = AfterCancel callee number words }, changed_there t (λ task. record task { state = AfterCancel callee number words }) w.tasks x.0 x.1, tt))

pub behind_says : (chain : List ℕ) → Says (control_behind chain) chain
behind_says [] = refl
behind_says (t ∷ below) = tt

-- A read or write leaves tasks and the chain alone.
pub first_offered : (e : EndRef) (call : OpenCopy) (w : World) (t : ℕ) → IsFirst t w.chain → IsFirst t (offered e call w).chain
first_offered e call w t h = by e.kind
  where
    by : (k : EndKind) → IsFirst t (with_channel k e.number (λ c. record c { ends = offered_by e.kind e.side call c.ends }) w).chain
    by Stream = h
    by Future = h

pub free_offered : (e : EndRef) (call : OpenCopy) (w : World) → may_leave w ≡ true → may_leave (offered e call w) ≡ true
free_offered e call w h = by e.kind
  where
    by : (k : EndKind) → may_leave (with_channel k e.number (λ c. record c { ends = offered_by e.kind e.side call c.ends }) w) ≡ true
    by Stream = h
    by Future = h

-- Tables that are set anew.

module _ (table : List (Event Entry)) where
  set_twice : (i : ℕ) (f : List (Event Entry) → List (Event Entry)) (insts : List Inst)
      → changed_at i (λ inst. record inst { table = table }) (changed_at i (λ inst. record inst { table = f inst.table }) insts) ≡ changed_at i (λ inst. record inst { table = table }) insts
  set_twice i f [] = refl
  set_twice zero f (x ∷ insts) = refl
  set_twice (suc i) f (x ∷ insts) = ap (λ (l : List Inst). x ∷ l) (set_twice i f insts)

  set_nowhere : (i : ℕ) (insts : List Inst) → slice_get insts i ≡ None → changed_at i (λ inst. record inst { table = table }) insts ≡ insts
  set_nowhere i [] e = refl
  set_nowhere zero (x ∷ insts) e = cc
  set_nowhere (suc i) (x ∷ insts) e = ap (λ (l : List Inst). x ∷ l) (set_nowhere i insts e)

set_same : (i : ℕ) (insts : List Inst) → changed_at i (λ inst. record inst { table = table_in (slice_get insts i) }) insts ≡ insts
set_same i [] = refl
set_same zero (x ∷ insts) = refl
set_same (suc i) (x ∷ insts) = ap (λ (l : List Inst). x ∷ l) (set_same i insts)

pub table_kept : (i : ℕ) (w : World) → with_table i (λ before. table_of w i) w ≡ w
table_kept i w = ap (λ (l : List Inst). record w { insts = l }) (set_same i w.insts)

table_changed : (i : ℕ) (f : List (Event Entry) → List (Event Entry)) (insts : List Inst) (x : Inst) → slice_get insts i ≡ Some x
    → table_in (slice_get (changed_at i (λ inst. record inst { table = f inst.table }) insts) i) ≡ f (table_in (slice_get insts i))
table_changed i f [] x e = cc
table_changed zero f (y ∷ insts) x e = refl
table_changed (suc i) f (y ∷ insts) x e = table_changed i f insts x e

-- An entry that is added, and then all that a table becomes.
pub added_once : (i : ℕ) (entry : Entry) (F : List (Event Entry) → List (Event Entry)) (K : World → Type 0) (w : World)
    → ((table : List (Event Entry)) → table_of (entry_added i entry w) i ≡ table → K (with_table i (λ before. F table) (entry_added i entry w)))
    → K (with_table i (λ before. F (added entry (table_of w i))) w)
added_once i entry F K w more = by (slice_get w.insts i) refl
  where
    v : World
    v = entry_added i entry w

    twice : (table : List (Event Entry)) → with_table i (λ before. table) (entry_added i entry w) ≡ with_table i (λ before. table) w
    twice table = ap (λ (l : List Inst). record w { insts = l }) (set_twice table i (added entry) w.insts)

    nowhere : (table : List (Event Entry)) → slice_get w.insts i ≡ None → with_table i (λ before. table) w ≡ w
    nowhere table e = ap (λ (l : List Inst). record w { insts = l }) (set_nowhere table i w.insts e)

    by : (o : Option Inst) → slice_get w.insts i ≡ o → K (with_table i (λ before. F (added entry (table_of w i))) w)
    by (Some x) e =
        subst K (twice (F (added entry (table_of w i)))) (more (added entry (table_of w i)) (table_changed i (added entry) w.insts x e))
    by None e =
        let now : table_of (entry_added i entry w) i ≡ table_of (entry_added i entry w) i = refl in
        let was : K w = subst K (twice (F (table_of (entry_added i entry w) i)) ∙ nowhere (F (table_of (entry_added i entry w) i)) e) (more (table_of (entry_added i entry w) i) now) in
        subst K (sym (nowhere (F (added entry (table_of w i))) e)) was

pub entry_is_added : (tasks : List Task) (t : ℕ) (entry : New) → IsAdded tasks (entry_of t entry)
entry_is_added tasks t (NewOwn resource rep) = tt
entry_is_added tasks t (NewBorrow resource rep) = tt
entry_is_added tasks t (NewEnd kind number) = tt

-- What stands where a handle, an end, a subtask, a waitable or a set was found.

end_is_no_handle : (w : World) (e : EndRef) (side : Side) (resource : ℕ) (x : Handle) → handle_in (Some (end_view w e side)) resource ≡ Ok x → ⊥
end_is_no_handle w e Reader resource x h = cc
end_is_no_handle w e Writer resource x h = cc

that_ok : (test : Handle → Result Handle Refusal) (r : Result Handle Refusal) (x : Handle) → that_is test r ≡ Ok x → (y : Handle) × (r ≡ Ok y) × (test y ≡ Ok x)
that_ok test (Ok y) x h = (y, refl, h)
that_ok test (Err why) x h = cc

pub handle_stands : (w : World) (i index resource : ℕ) (x : Handle) → handle_in (view_at w i index) resource ≡ Ok x → Stands w i index IsHandle
handle_stands w i index resource x h = by (entry_at w i index) refl h
  where
    by : (o : Option Entry) → entry_at w i index ≡ o → handle_in (option_map (entry_view w i index) o) resource ≡ Ok x → Stands w i index IsHandle
    by None e k = cc
    by (Some (OwnHandle of_type rep)) e k = (OwnHandle of_type rep, e, tt)
    by (Some (BorrowHandle of_type rep task)) e k = (BorrowHandle of_type rep task, e, tt)
    by (Some (OfSubtask callee)) e k = cc
    by (Some (OfSet set)) e k = cc
    by (Some (OfEnd r)) e k = absurd (end_is_no_handle w r r.side resource x k)

-- A handle that is dropped, or lifted as own: nothing is lent of it.
of_resource_is : (b : Bool) (x y : Handle) → (let r : Result Handle Refusal = if b then Ok x else Err OtherType in r) ≡ Ok y → x ≡ y
of_resource_is true x y e = ok_same e
of_resource_is false x y e = cc

unlent_if : (b : Bool) (x y : Handle) → (let r : Result Handle Refusal = if b then Ok x else Err Lent in r) ≡ Ok y → b ≡ true
unlent_if true x y e = refl
unlent_if false x y e = cc

none_lent : (x y : Handle) → unlent x ≡ Ok y → x.lends ≡ 0
none_lent x y e = (let none : nat_eq x.lends 0 ≡ true = unlent_if (nat_eq x.lends 0) x y e in grind (arith, nat_tests))

none_owned : (o : Ownership) (x y : Handle) → owned_by o x ≡ Ok y → x.lends ≡ 0
none_owned Own x y e = none_lent x y e
none_owned (Borrow task) x y e = cc

handle_free : (w : World) (i index resource : ℕ) (x : Handle) → handle_in (view_at w i index) resource ≡ Ok x → x.lends ≡ 0 → Stands w i index (IsFree w i index)
handle_free w i index resource x h none = by (entry_at w i index) refl h
  where
    seen_as : ℕ → ℕ → Ownership → Handle
    seen_as of_type rep o = record { resource = of_type; rep = rep; lends = lends_of w i index; ownership = o }

    no_lends : (of_type rep : ℕ) (o : Ownership) → of_resource resource (seen_as of_type rep o) ≡ Ok x → lends_of w i index ≡ 0
    no_lends of_type rep o k = ap (λ (y : Handle). y.lends) (of_resource_is (nat_eq of_type resource) (seen_as of_type rep o) x k) ∙ none

    by : (o : Option Entry) → entry_at w i index ≡ o → handle_in (option_map (entry_view w i index) o) resource ≡ Ok x → Stands w i index (IsFree w i index)
    by None e k = cc
    by (Some (OwnHandle of_type rep)) e k = (OwnHandle of_type rep, e, (tt, no_lends of_type rep Own k))
    by (Some (BorrowHandle of_type rep task)) e k = (BorrowHandle of_type rep task, e, (tt, no_lends of_type rep (Borrow task) k))
    by (Some (OfSubtask callee)) e k = cc
    by (Some (OfSet set)) e k = cc
    by (Some (OfEnd r)) e k = absurd (end_is_no_handle w r r.side resource x k)

pub own_free : (w : World) (i index resource : ℕ) (x : Handle) → own_in (view_at w i index) resource ≡ Ok x → Stands w i index (IsFree w i index)
own_free w i index resource x h =
    let y = that_ok owned (handle_in (view_at w i index) resource) x h in handle_free w i index resource y.0 y.1 (none_owned y.0.ownership y.0 x y.2)

pub dropped_free : (w : World) (i index resource : ℕ) (x : Handle) → dropped_in (view_at w i index) resource ≡ Ok x → Stands w i index (IsFree w i index)
dropped_free w i index resource x h =
    let y = that_ok unlent (handle_in (view_at w i index) resource) x h in handle_free w i index resource y.0 y.1 (none_lent y.0 x y.2)

-- what is free may leave
pub left_where_free : (w : World) (i index : ℕ) → Stands w i index (IsFree w i index) → Stands w i index (IsLeft w i)
left_where_free w i index h = (h.0, h.1, h.2.0)

pub lifted_end_stands : (w : World) (i index : ℕ) (kind : EndKind) (element : Option ValType) (x : ℕ) → lifting.end_seen (view_at w i index) kind element w i index ≡ Ok x
    → Stands w i index IsWaitable
lifted_end_stands w i index kind element x h = by (entry_at w i index) refl h
  where
    by : (o : Option Entry) → entry_at w i index ≡ o → lifting.end_seen (option_map (entry_view w i index) o) kind element w i index ≡ Ok x → Stands w i index IsWaitable
    by None e k = cc
    by (Some (OwnHandle of_type rep)) e k = cc
    by (Some (BorrowHandle of_type rep task)) e k = cc
    by (Some (OfSubtask callee)) e k = cc
    by (Some (OfSet set)) e k = cc
    by (Some (OfEnd r)) e k = (OfEnd r, e, tt)

pub waitable_stands : (w : World) (i index : ℕ) (x : Unit {0}) → waitable_at w i index ≡ Ok x → Stands w i index IsWaitable
waitable_stands w i index x h = by (entry_at w i index) refl h
  where
    by : (o : Option Entry) → entry_at w i index ≡ o → waitable_in o ≡ Ok x → Stands w i index IsWaitable
    by None e k = cc
    by (Some (OwnHandle of_type rep)) e k = cc
    by (Some (BorrowHandle of_type rep task)) e k = cc
    by (Some (OfSubtask callee)) e k = (OfSubtask callee, e, tt)
    by (Some (OfSet set)) e k = cc
    by (Some (OfEnd r)) e k = (OfEnd r, e, tt)

pub subtask_stands : (w : World) (i index callee : ℕ) → subtask_at w i index ≡ Ok callee → Stands w i index IsWaitable
subtask_stands w i index callee h = by (entry_at w i index) refl h
  where
    by : (o : Option Entry) → entry_at w i index ≡ o → subtask_in o ≡ Ok callee → Stands w i index IsWaitable
    by None e k = cc
    by (Some (OwnHandle of_type rep)) e k = cc
    by (Some (BorrowHandle of_type rep task)) e k = cc
    by (Some (OfSubtask other)) e k = (OfSubtask other, e, tt)
    by (Some (OfSet set)) e k = cc
    by (Some (OfEnd r)) e k = cc

pub end_stands : (w : World) (i : ℕ) (kind : EndKind) (side : Side) (element : Option ValType) (index : ℕ) (x : EndRef) → end_at w kind side element i index ≡ Ok x
    → Stands w i index IsWaitable
end_stands w i kind side element index x h = by (entry_at w i index) refl h
  where
    by : (o : Option Entry) → entry_at w i index ≡ o → end_in w kind side element o ≡ Ok x → Stands w i index IsWaitable
    by None e k = cc
    by (Some (OwnHandle of_type rep)) e k = cc
    by (Some (BorrowHandle of_type rep task)) e k = cc
    by (Some (OfSubtask callee)) e k = cc
    by (Some (OfSet set)) e k = cc
    by (Some (OfEnd r)) e k = (OfEnd r, e, tt)

pub set_stands : (w : World) (i index set : ℕ) → set_at w i index ≡ Ok set → entry_at w i index ≡ Some (OfSet set)
set_stands w i index set h = by (entry_at w i index) refl h
  where
    by : (o : Option Entry) → entry_at w i index ≡ o → set_in o ≡ Ok set → entry_at w i index ≡ Some (OfSet set)
    by None e k = cc
    by (Some (OwnHandle of_type rep)) e k = cc
    by (Some (BorrowHandle of_type rep task)) e k = cc
    by (Some (OfSubtask callee)) e k = cc
    by (Some (OfSet other)) e k = let same : other ≡ set = cc in e ∙ ap (λ (n : ℕ). Some (OfSet n)) same
    by (Some (OfEnd r)) e k = cc

none_left : (members : List ℕ) (waiters : ℕ) (x : Unit {0}) → drop_answer (record { members = members; waiters = waiters }) ≡ Ok x → members ≡ []
none_left [] waiters x h = refl
none_left (m ∷ members) waiters x h = cc

pub set_empty : (v : SetView) (x : Unit {0}) → drop_answer v ≡ Ok x → v.members ≡ []
set_empty v x h = none_left v.members v.waiters x h

-- The task that the script called.

found_either : (P : ℕ × Task → Type 0) (b : Bool) (x : ℕ × Task) (others : Option (ℕ × Task)) (found : ℕ × Task) → P x → (others ≡ Some found → P found)
    → (if b then Some x else others) ≡ Some found → P found
found_either P true x others found h rest e = subst P (some_same e) h
found_either P false x others found h rest e = rest e

called_is : (test : ℕ × Task → Bool) (P : ℕ × Task → Type 0) (n : ℕ) (tasks : List Task) (found : ℕ × Task) → ((m : ℕ) (task : Task) → slice_get tasks m ≡ Some task → P (n + m, task))
    → find test (with_numbers n tasks) ≡ Some found → P found
called_is test P n [] found h e = cc
called_is test P n (task ∷ tasks) found h e =
    let first : n + 0 ≡ n = omega arith in
    found_either P (test (n, task)) (n, task) (find test (with_numbers (n + 1) tasks)) found (subst (λ (k : ℕ). P (k, task)) first (h 0 task refl))
    (λ k.
    called_is test P (n + 1) tasks found (λ m x there. let next : n + suc m ≡ n + 1 + m = omega arith in subst (λ (k : ℕ). P (k, x)) next (h (suc m) x there)) k) e

pub call_is : (call : ℕ) (w : World) (found : ℕ × Task) → task_of_call call w ≡ Some found → slice_get w.tasks found.0 ≡ Some found.1
call_is call w found e =
    called_is (λ (x : ℕ × Task). is_call_of call x.1.caller) (λ (x : ℕ × Task). slice_get w.tasks x.0 ≡ Some x.1) 0 w.tasks found
    (λ m task there. let same : m ≡ 0 + m = omega arith in subst (λ (k : ℕ). slice_get w.tasks k ≡ Some task) same there) e

pub set_few : (enabled : ℕ) → set_pressure enabled ≤ most_backpressure
set_few enabled = by (nat_eq enabled 0)
  where
    by : (b : Bool) → (if b then 0 else 1) ≤ 65535
    by true = omega arith
    by false = omega arith

pub inc_few : (pressure : ℕ) → nat_le most_backpressure pressure ≡ false → pressure + 1 ≤ most_backpressure
inc_few pressure e = grind (arith, nat_tests)

pub dec_few : (pressure : ℕ) → pressure - 1 ≤ pressure
dec_few pressure = omega arith

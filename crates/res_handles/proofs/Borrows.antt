-- How the live borrow handles of a task change.
use Rattle.std.proofs.Common.{◌≡◌, ℕ, zero, suc, ◌+◌, ◌-◌, ◌≤◌, ap, arith, List, [], ◌∷◌, ◌++◌, length, Option, Some, None}
use Rattle.std.specs.List.{count_by, sum_by}
use Rattle.std.proofs.lemmas.List.Sums.{sum_by-append, sum_by-cons, sum_by-set}
use Rattle.handle_table.specs.Slots.{Slots, slot_at, with_slot, filled, added, removed, with_entry, entry_at}
use Rattle.handle_table.specs.Sound.{AreFree, IsSound}
use Rattle.handle_table.proofs.Places.{full_within}
use Rattle.res_handles.specs.declared.handle.Handle.{Handle}
use Rattle.res_handles.specs.declared.entry.EntryView.{EntryView}
use Rattle.res_handles.specs.declared.entry.EntryView.TheVariants as seen
use Rattle.res_handles.specs.Calls.{own_handle, borrow_handle, with_lends, relent_by, view_at}
use Rattle.res_handles.specs.Runs.{Call, LowersOwn, LowersBorrow, LiftsOwn, LiftsBorrow, Drops, EndsLend, AddsOther, RemovesOther, WritesOther, Passes, after, slots_after, IsRun, is_for, is_borrow_of, borrows_of, risen, fallen, one_if}
use Rattle.res_handles.proofs.Found.{IsFound, IsKept, handle_found, own_kept, dropped_kept, own_is_own, IsOtherFound, other_found}
use Rattle.res_handles.proofs.Sound.{lent_found, relent_is, run_sound}

counts : ℕ → Option EntryView → ℕ
counts task x = one_if (is_borrow_of task x)

set_counts : (task : ℕ) (entries : List (Option EntryView)) (index : ℕ) (slot : Option EntryView) → 1 ≤ index → index ≤ length entries
    → count_by (is_borrow_of task) (with_slot entries index slot) + one_if (is_borrow_of task (slot_at entries index)) ≡ count_by (is_borrow_of task) entries + one_if (is_borrow_of task slot)
set_counts task entries zero slot h l = absurd (omega arith)
set_counts task entries (suc place) slot h l = sum_by-set (λ (x : Option EntryView). one_if (is_borrow_of task x)) entries place slot None (omega arith)

push_counts : (task : ℕ) (entries : List (Option EntryView)) (slot : Option EntryView) → count_by (is_borrow_of task) (entries ++ slot ∷ []) ≡ count_by (is_borrow_of task) entries + one_if (is_borrow_of task slot)
push_counts task entries slot =
    let p : Option EntryView → ℕ = λ (x : Option EntryView). one_if (is_borrow_of task x) in
    let e : sum_by p (entries ++ slot ∷ []) ≡ sum_by p entries + sum_by p (slot ∷ []) = sum_by-append p entries (slot ∷ []) in
    let f : sum_by p (slot ∷ []) ≡ one_if (is_borrow_of task slot) + 0 = sum_by-cons p slot [] in
    omega (arith, e, f)

-- an add, a removal and a write
filled_counts : (task : ℕ) (entries : List (Option EntryView)) (free : List ℕ) (entry : EntryView) → AreFree entries free
    → count_by (is_borrow_of task) (filled entries free entry) ≡ count_by (is_borrow_of task) entries + one_if (is_borrow_of task (Some entry))
filled_counts task entries [] entry f = push_counts task entries (Some entry)
filled_counts task entries (index ∷ free) entry f =
    let empty : one_if (is_borrow_of task (slot_at entries index)) ≡ 0 = ap (λ (x : Option EntryView). one_if (is_borrow_of task x)) f.0.empty in
    omega (arith, empty, set_counts task entries index (Some entry) f.0.given f.0.within)

added_counts : (task : ℕ) (s : Slots EntryView) (entry : EntryView) → IsSound s → borrows_of task (added entry s) ≡ borrows_of task s + one_if (is_borrow_of task (Some entry))
added_counts task s entry sound = filled_counts task s.entries s.freed entry sound.free

removed_counts : (task : ℕ) (s : Slots EntryView) (index : ℕ) (entry : EntryView) → entry_at s index ≡ Some entry → borrows_of task (removed index s) + one_if (is_borrow_of task (entry_at s index)) ≡ borrows_of task s
removed_counts task s index entry e =
    let w : (1 ≤ index) × (index ≤ length s.entries) = full_within s.entries index entry e in
    omega (arith, set_counts task s.entries index None w.0 w.1)

relent_counts : (task : ℕ) (s : Slots EntryView) (f : ℕ → ℕ) (index : ℕ) → IsFound (entry_at s index) → borrows_of task (relent_by (view_at (λ e. e) s index) seen.Handle f index s) ≡ borrows_of task s
relent_counts task s f index found =
    let x : Handle = found.handle in
    let y : Handle = with_lends (f x.lends) x in
    let w : (1 ≤ index) × (index ≤ length s.entries) = full_within s.entries index (seen.Handle x) found.is in
    let is : borrows_of task (relent_by (view_at (λ e. e) s index) seen.Handle f index s) ≡ borrows_of task (with_entry index (seen.Handle y) s) = ap (λ (t : Slots EntryView). borrows_of task t) (relent_is s f index x found.is) in
    let here : one_if (is_borrow_of task (slot_at s.entries index)) ≡ one_if (is_for task x.ownership) = ap (λ (o : Option EntryView). one_if (is_borrow_of task o)) found.is in
    let set : borrows_of task (with_entry index (seen.Handle y) s) + one_if (is_borrow_of task (slot_at s.entries index)) ≡ borrows_of task s + one_if (is_for task x.ownership) = set_counts task s.entries index (Some (seen.Handle y)) w.0 w.1 in
    omega (arith, is, here, set)

-- what each call changes
call_borrows : (task : ℕ) (call : Call) (s : Slots EntryView) → Passes call s → IsSound s → borrows_of task (after call s) + fallen task call s ≡ borrows_of task s + risen task call
call_borrows task (LowersOwn resource rep) s p sound = omega (arith, added_counts task s (seen.Handle (own_handle resource rep)) sound)
call_borrows task (LowersBorrow resource rep t) s p sound = omega (arith, added_counts task s (seen.Handle (borrow_handle resource rep t)) sound)
call_borrows task (LiftsOwn index resource) s p sound =
    let k : IsKept (entry_at s index) = own_kept (entry_at s index) resource p in
    let own : one_if (is_borrow_of task (entry_at s index)) ≡ 0 = ap one_if (own_is_own task (entry_at s index) resource p) in
    omega (arith, own, removed_counts task s index (seen.Handle k.found.handle) k.found.is)
call_borrows task (LiftsBorrow index resource) s p sound = omega (arith, relent_counts task s (λ n. n + 1) index (handle_found (entry_at s index) resource p))
call_borrows task (Drops index resource) s p sound =
    let k : IsKept (entry_at s index) = dropped_kept (entry_at s index) resource p in
    omega (arith, removed_counts task s index (seen.Handle k.found.handle) k.found.is)
call_borrows task (EndsLend index) s p sound = omega (arith, relent_counts task s (λ n. n - 1) index (lent_found (entry_at s index) p))
call_borrows task (AddsOther entry) s p sound =
    let none : one_if (is_borrow_of task (Some entry)) ≡ 0 = ap one_if ((other_found (Some entry) p.0).for_none task) in
    omega (arith, none, added_counts task s entry sound)
call_borrows task (RemovesOther index) s p sound =
    let o : IsOtherFound (entry_at s index) = other_found (entry_at s index) p in
    let none : one_if (is_borrow_of task (entry_at s index)) ≡ 0 = ap one_if (o.for_none task) in
    omega (arith, none, removed_counts task s index o.other o.is)
call_borrows task (WritesOther index entry) s p sound =
    let o : IsOtherFound (entry_at s index) = other_found (entry_at s index) p.1 in
    let before : one_if (is_borrow_of task (slot_at s.entries index)) ≡ 0 = ap one_if (o.for_none task) in
    let now : one_if (is_borrow_of task (Some entry)) ≡ 0 = ap one_if ((other_found (Some entry) p.0).for_none task) in
    let w : (1 ≤ index) × (index ≤ length s.entries) = full_within s.entries index o.other o.is in
    omega (arith, before, now, set_counts task s.entries index (Some entry) w.0 w.1)

pub borrows_change : (r : List Call) (call : Call) (task : ℕ) → IsRun (call ∷ r) → borrows_of task (slots_after (call ∷ r)) + fallen task call (slots_after r) ≡ borrows_of task (slots_after r) + risen task call
borrows_change r call task p = call_borrows task call (slots_after r) p.1 (run_sound r p.0)

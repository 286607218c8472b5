-- Tasks that go on where none runs, and the script's items: lists of tasks stay as they follow from the tasks.
use Rattle.std.proofs.Common.{◌≡◌, ◌⊎◌, inl, inr, ℕ, zero, suc, ◌+◌, ◌-◌, Bool, true, false, nat_lt, if◌then◌else◌, List, [], ◌∷◌, ◌++◌, length, take, count_by, refl, sym, ap, ◌∙◌, arith, Option, Some, None}
use Rattle.std.specs.List.{slice_get}
use Rattle.std.proofs.lemmas.Bool.{ne_eqb}
use Rattle.std.proofs.lemmas.List.Sums.{sum_by-cons}
use Rattle.tasks.specs.Tasks.{may_cancel}
use Rattle.script_reader.specs.declared.script.Item.{Item}
use Rattle.script_reader.specs.declared.script.Item.TheVariants as item
use Rattle.script_reader.specs.Script.{Script}
use Rattle.task_table.specs.declared.caller.Caller.TheVariants.{Host}
use Rattle.task_table.specs.declared.errand.Callee.TheVariants as callee
use Rattle.task_table.specs.declared.slot.TaskSlot.{TaskSlot}
use Rattle.task_table.specs.Slots.{new_slot}
use Rattle.task_table.specs.Tasks.{with_number, watching}
use Rattle.trace_labels.specs.declared.label.Label.TheVariants as line
use Rattle.world_parts.specs.declared.parts.Flow.TheVariants as flow
use Rattle.world_parts.specs.declared.parts.Rest.TheVariants as rest
use Rattle.world_parts.specs.declared.parts.Turned.TheVariants as turned
use Rattle.world_parts.specs.Held.{Held, Done, Gives, Traps, Spent, Stuck, after, given}
use Rattle.world_parts.specs.Channels.{at_place, numbered}
use Rattle.world_parts.specs.Feed.{told, at_rest, chained, spent}
use Rattle.world_parts.specs.Slots.{cancellable}
use Rattle.world_parts.specs.Subtasks.{cancelled}
use Rattle.world_parts.specs.Turning.{gone, goes, call_taken, call_cancelled}
use Rattle.abi_machine.specs.Scheduling.{is_call}
use Rattle.abi_machine.proofs.sound.Found.{some_same}
use Rattle.run_laws.specs.TaskLists.{call_of, called_at, CallsMarked, HasLists}
use Rattle.run_laws.specs.keeping.Lists.{KeepsLists, NextCallKeepsLists, CancelKeepsLists}
use Rattle.run_laws.proofs.lists.Feed.{spent_lists}
use Rattle.run_laws.proofs.lists.Made.{opens_more}
use Rattle.run_laws.proofs.lists.Same.{ListsBy, lists_after, lists_look}
use Rattle.run_laws.proofs.lists.Subtasks.{cancelled_lists}

-- For one script.
pub of_script : {A : Type 0} (s : Script) (h : Held) (d : Done A) → ListsBy h d → KeepsLists s h d
of_script s h (Gives x k) p = p s
of_script s h (Traps why k) p = tt
of_script s h (Spent k) p = tt
of_script s h Stuck p = tt

through : {A : Type 0} (s : Script) (h k : Held) (d : Done A) → (HasLists s h → HasLists s k) → ListsBy k d → KeepsLists s h d
through s h k (Gives x l) p q = λ lists. q s (p lists)
through s h k (Traps why l) p q = tt
through s h k (Spent l) p q = tt
through s h k Stuck p q = tt

-- A task goes on.
pub gone_lists : (t : ℕ) (h : Held) → ListsBy h (gone t h)
unfolding gone
gone_lists t h =
    lists_after h (spent h) (λ done k. after (told (line.Go t) k) (λ done l. after (chained t l) (λ done m. Gives turned.GoesOn (at_rest rest.Resumes m)))) (spent_lists h) (λ done k s l. l)

pub goes_lists : (h : Held) → ListsBy h (goes h)
unfolding goes
goes_lists h =
    lists_look h (slice_get h.chain (length h.chain - 1)) (λ t. Gives t h)
    (λ t k. after (spent k) (λ done l. after (told (line.Go t) l) (λ done m. Gives (tt {0}) (at_rest rest.Resumes m))))
    (λ t acts. lists_after h (spent h) (λ done l. after (told (line.Go t) l) (λ done m. Gives (tt {0}) (at_rest rest.Resumes m))) (spent_lists h) (λ done k s l. l))

-- How many calls are taken.
abbrev count : Item → ℕ
count i = if is_call i then 1 else 0

count_next : (items : List Item) (n : ℕ) (i : Item) → slice_get items n ≡ Some i → count_by is_call (take (suc n) items) ≡ count_by is_call (take n items) + count i
count_next [] n i e = absurd (cc)
count_next (x ∷ items) zero i e =
    let one : count_by is_call (x ∷ []) ≡ count x + 0 = sum_by-cons count x [] in
    let same : count x ≡ count i = ap count (some_same e) in
    let sum : count x + 0 ≡ 0 + count i = omega (arith, same) in
    one ∙ sum
count_next (x ∷ items) (suc n) i e =
    let more : count_by is_call (take (suc n) items) ≡ count_by is_call (take n items) + count i = count_next items n i e in
    let long : count_by is_call (x ∷ take (suc n) items) ≡ count x + count_by is_call (take (suc n) items) = sum_by-cons count x (take (suc n) items) in
    let short : count_by is_call (x ∷ take n items) ≡ count x + count_by is_call (take n items) = sum_by-cons count x (take n items) in
    omega (arith, more, long, short)

taken_next : (s : Script) (n calls : ℕ) (i : Item) → slice_get s.items n ≡ Some i → calls ≡ count_by is_call (take n s.items) → calls + count i ≡ count_by is_call (take (n + 1) s.items)
taken_next s n calls i e counted =
    let next : suc n ≡ n + 1 = omega arith in
    ap (λ (m : ℕ). m + count i) counted ∙ sym (count_next s.items n i e) ∙ ap (λ (m : ℕ). count_by is_call (take m s.items)) next

-- The task of the next call.
pub numbered_suc : (xs : List ℕ) (place : ℕ) → numbered xs (suc place) ≡ slice_get xs place
numbered_suc xs place =
    let less : suc place - 1 ≡ place = omega arith in
    ap (λ (b : Bool). at_place xs (if b then None else Some (suc place - 1))) (ne_eqb (suc place) 0 (λ (e : suc place ≡ 0). omega (arith, e)))
    ∙ ap (λ (n : ℕ). slice_get xs n) less

get_front : (xs : List ℕ) (y n t : ℕ) → slice_get xs n ≡ Some t → slice_get (xs ++ y ∷ []) n ≡ Some t
get_front [] y n t e = absurd (cc)
get_front (x ∷ xs) y zero t e = e
get_front (x ∷ xs) y (suc n) t e = get_front xs y n t e

get_last : (xs : List ℕ) (y : ℕ) → slice_get (xs ++ y ∷ []) (length xs) ≡ Some y
get_last [] y = refl
get_last (x ∷ xs) y = get_last xs y

get_either : (xs : List ℕ) (y n t : ℕ) → slice_get (xs ++ y ∷ []) n ≡ Some t → (slice_get xs n ≡ Some t) ⊎ ((n ≡ length xs) × (y ≡ t))
get_either [] y zero t e = inr (refl, some_same e)
get_either [] y (suc n) t e = absurd (cc)
get_either (x ∷ xs) y zero t e = inl e
get_either (x ∷ xs) y (suc n) t e = later (get_either xs y n t e)
  where
    later : (slice_get xs n ≡ Some t) ⊎ ((n ≡ length xs) × (y ≡ t)) → (slice_get xs n ≡ Some t) ⊎ ((suc n ≡ suc (length xs)) × (y ≡ t))
    later (inl h) = inl h
    later (inr h) = inr (ap suc h.0, h.1)

called_front : (tasks : List TaskSlot) (slot : TaskSlot) (t call : ℕ) → called_at tasks t ≡ Some call → called_at (tasks ++ slot ∷ []) t ≡ Some call
called_front [] slot t call e = absurd (cc)
called_front (x ∷ tasks) slot zero call e = e
called_front (x ∷ tasks) slot (suc t) call e = called_front tasks slot t call e

called_last : (tasks : List TaskSlot) (slot : TaskSlot) → called_at (tasks ++ slot ∷ []) (length tasks) ≡ call_of slot.caller
called_last [] slot = refl
called_last (x ∷ tasks) slot = called_last tasks slot

called_either : (tasks : List TaskSlot) (slot : TaskSlot) (t call : ℕ) → called_at (tasks ++ slot ∷ []) t ≡ Some call
    → (called_at tasks t ≡ Some call) ⊎ ((t ≡ length tasks) × (call_of slot.caller ≡ Some call))
called_either [] slot zero call e = inr (refl, e)
called_either [] slot (suc t) call e = absurd (cc)
called_either (x ∷ tasks) slot zero call e = inl e
called_either (x ∷ tasks) slot (suc t) call e = later (called_either tasks slot t call e)
  where
    later : (called_at tasks t ≡ Some call) ⊎ ((t ≡ length tasks) × (call_of slot.caller ≡ Some call))
        → (called_at tasks t ≡ Some call) ⊎ ((suc t ≡ suc (length tasks)) × (call_of slot.caller ≡ Some call))
    later (inl h) = inl h
    later (inr h) = inr (ap suc h.0, h.1)

calls_made : (calls : List ℕ) (tasks : List TaskSlot) (slot : TaskSlot) → call_of slot.caller ≡ Some (length calls + 1) → CallsMarked calls tasks
    → CallsMarked (calls ++ length tasks ∷ []) (tasks ++ slot ∷ [])
calls_made calls tasks slot host marked = record { made = made; kept = kept }
  where
    by_place : (place t : ℕ) → (slice_get calls place ≡ Some t) ⊎ ((place ≡ length calls) × (length tasks ≡ t)) → called_at (tasks ++ slot ∷ []) t ≡ Some (suc place)
    by_place place t (inl h) = called_front tasks slot t (suc place) (marked.made (suc place) t (numbered_suc calls place ∙ h))
    by_place place t (inr h) =
        let next : length calls + 1 ≡ suc place = (let same : place ≡ length calls = h.0 in omega (arith, same)) in
        ap (λ (n : ℕ). called_at (tasks ++ slot ∷ []) n) (sym h.1) ∙ called_last tasks slot ∙ host ∙ ap (λ (n : ℕ). Some n) next

    made : (call t : ℕ) → numbered (calls ++ length tasks ∷ []) call ≡ Some t → called_at (tasks ++ slot ∷ []) t ≡ Some call
    made zero t e = absurd (cc)
    made (suc place) t e = by_place place t (get_either calls (length tasks) place t (sym (numbered_suc (calls ++ length tasks ∷ []) place) ∙ e))

    at_front : (call t : ℕ) → numbered calls call ≡ Some t → numbered (calls ++ length tasks ∷ []) call ≡ Some t
    at_front zero t e = absurd (cc)
    at_front (suc place) t e = numbered_suc (calls ++ length tasks ∷ []) place ∙ get_front calls (length tasks) place t (sym (numbered_suc calls place) ∙ e)

    by_task : (call t : ℕ) → (called_at tasks t ≡ Some call) ⊎ ((t ≡ length tasks) × (call_of slot.caller ≡ Some call)) → numbered (calls ++ length tasks ∷ []) call ≡ Some t
    by_task call t (inl h) = at_front call t (marked.kept call t h)
    by_task call t (inr h) =
        let same : length calls + 1 ≡ call = some_same (sym host ∙ h.1) in
        let next : call ≡ suc (length calls) = omega (arith, same) in
        ap (λ (n : ℕ). numbered (calls ++ length tasks ∷ []) n) next ∙ numbered_suc (calls ++ length tasks ∷ []) (length calls) ∙ get_last calls (length tasks) ∙ ap (λ (n : ℕ). Some n) (sym h.0)

    kept : (call t : ℕ) → called_at (tasks ++ slot ∷ []) t ≡ Some call → numbered (calls ++ length tasks ∷ []) call ≡ Some t
    kept call t e = by_task call t (called_either tasks slot t call e)

-- A unit is spent, where one is left.
spent_then : {A : Type 0} (s : Script) (h : Held) (c : Unit {0} → Held → Done A) → KeepsLists s h (c tt (record h { left = h.left - 1 })) → KeepsLists s h (after (spent h) c)
spent_then s h c p = by_bool (nat_lt 0 h.left) s h c p
  where
    by_bool : {A : Type 0} (b : Bool) (s : Script) (h : Held) (c : Unit {0} → Held → Done A) → KeepsLists s h (c tt (record h { left = h.left - 1 }))
        → KeepsLists s h (after (if b then Gives tt (record h { left = h.left - 1 }) else Spent (record h { left = h.left - 1 })) c)
    by_bool true s h c p = p
    by_bool false s h c p = tt

one_longer : (xs : List ℕ) (x : ℕ) → length (xs ++ x ∷ []) ≡ length xs + 1
one_longer [] x = refl
one_longer (y ∷ xs) x = let more : length (xs ++ x ∷ []) ≡ length xs + 1 = one_longer xs x in omega (arith, more)

pub next_call_keeps_lists : NextCallKeepsLists
unfolding call_taken
next_call_keeps_lists s call export instance kind name args h is =
    let slot : TaskSlot = new_slot instance kind (callee.Export export) (Host (length h.calls + 1)) in
    spent_then s h
    (λ done k. after (Gives (tt {0}) (record k { taken = k.taken + 1 })) (λ done l. after (Gives (length l.tasks) l) (λ t m.
    after (told (line.Take (length m.calls + 1) t name args) m) (λ done n.
    after (Gives (length n.tasks) (record n { tasks = n.tasks ++ new_slot instance kind (callee.Export export) (Host (length m.calls + 1)) ∷ []; live = with_number (length n.tasks) n.live; watched = watching (length n.tasks) n.watched })) (λ made o.
    after (Gives (tt {0}) (record o { calls = o.calls ++ t ∷ [] })) (λ done p. after (chained t p) (λ done q. Gives flow.Rests (at_rest rest.Arrives q))))))))
    (λ l. record {
      opens = opens_more h.live h.watched h.tasks slot refl refl refl l.opens;
      calls = calls_made h.calls h.tasks slot refl l.calls;
      taken = one_longer h.calls (length h.tasks) ∙ taken_next s h.taken (length h.calls) (item.Call call) is l.taken;
    })

-- A call is cancelled.
none_more : (n : ℕ) → n ≡ n + 0
none_more n = omega arith

cancel_taken : (s : Script) (call : ℕ) (h : Held) → slice_get s.items h.taken ≡ Some (item.Cancel call) → HasLists s h
    → length h.calls ≡ count_by is_call (take (h.taken + 1) s.items)
cancel_taken s call h is l = none_more (length h.calls) ∙ taken_next s h.taken (length h.calls) (item.Cancel call) is l.taken

by_number : (s : Script) (call : ℕ) (h : Held) (o : Option ℕ) → slice_get s.items h.taken ≡ Some (item.Cancel call)
    → KeepsLists s h (given o (λ t. after (told (line.Cancel call) (record h { left = h.left - 1; taken = h.taken + 1 }))
    (λ done m. after (cancellable t m) (λ may n. if may then cancelled t rest.Free n else Gives flow.Rests (at_rest rest.Free n)))))
by_number s call h None is = tt
by_number s call h (Some t) is =
    let m : Held = record h { left = h.left - 1; taken = h.taken + 1; labels = h.labels ++ line.Cancel call ∷ [] } in
    through s h m (after (cancellable t m) (λ may n. if may then cancelled t rest.Free n else Gives flow.Rests (at_rest rest.Free n)))
    (λ l. record { opens = l.opens; calls = l.calls; taken = cancel_taken s call h is l })
    (lists_look m (slice_get m.tasks t) (λ slot. Gives (may_cancel slot.task) m) (λ may n. if may then cancelled t rest.Free n else Gives flow.Rests (at_rest rest.Free n))
    (λ x there. by_test (may_cancel x.task) t m))
  where
    by_test : (b : Bool) (t : ℕ) (m : Held) → ListsBy m (if b then cancelled t rest.Free m else Gives flow.Rests (at_rest rest.Free m))
    by_test true t m = cancelled_lists t rest.Free m
    by_test false t m = λ s l. l

pub cancel_keeps_lists : CancelKeepsLists
unfolding call_cancelled
cancel_keeps_lists s call h is =
    spent_then s h
    (λ done k. after (Gives (tt {0}) (record k { taken = k.taken + 1 })) (λ done l. given (numbered l.calls call) (λ t.
    after (told (line.Cancel call) l) (λ done m. after (cancellable t m) (λ may n. if may then cancelled t rest.Free n else Gives flow.Rests (at_rest rest.Free n))))))
    (by_number s call h (numbered h.calls call) is)

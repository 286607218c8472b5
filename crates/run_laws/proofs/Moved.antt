-- What lifting moved in the table of an instance, over what is kept: the slots of the table are of no account to it, and what moved last comes last.
use Rattle.std.proofs.Common.{◌≡◌, ◌+◌, ℕ, zero, suc, Bool, true, false, if◌then◌else◌, List, [], ◌∷◌, ◌++◌, map, slice_set, refl, sym, ap, ◌∙◌, Option, Some, None}
use Rattle.std.specs.List.{slice_get, AllZip}
use Rattle.handle_table.specs.Slots.{Slots}
use Rattle.trace_labels.specs.declared.label.Label.TheVariants as line
use Rattle.value_lift.specs.declared.moved.Moved.{Moved}
use Rattle.value_lift.specs.declared.moved.Moved.TheVariants.{Lent, Taken}
use Rattle.waitables.specs.Sets.{left}
use Rattle.instances.specs.declared.entry.WorldEntry.{WorldEntry}
use Rattle.instances.specs.Instances.{InstanceView, with_slots, with_sets}
use Rattle.task_table.specs.declared.slot.TaskSlot.{TaskSlot}
use Rattle.world_parts.specs.Held.{Held, Done, Gives, Traps, Spent, Stuck, after, given}
use Rattle.world_parts.specs.Entries.{with_instance, set_left}
use Rattle.world_parts.specs.Feed.{told}
use Rattle.world_parts.specs.Slots.{with_task}
use Rattle.value_parts.specs.Loans.{may_lend, lent_slot, lend_kept, lent, one_moved, all_moved}
use Rattle.abi_machine.specs.Edits.{changed_at}
use Rattle.abi_machine.proofs.sound.Found.{some_same}

-- An item that is there is another one.
pub set_is_change : {A : Type 0} (f : A → A) (xs : List A) (n : ℕ) (x : A) → slice_get xs n ≡ Some x → slice_set xs n (f x) ≡ changed_at n f xs
set_is_change f [] n x is = refl
set_is_change {A} f (y ∷ xs) zero x is = ap (λ (z : A). f z ∷ xs) (let same : x ≡ y = cc in same)
set_is_change {A} f (y ∷ xs) (suc n) x is = ap (λ (ys : List A). y ∷ ys) (set_is_change f xs n x is)

pub get_changed : {A : Type 0} (f : A → A) (xs : List A) (n : ℕ) (x : A) → slice_get xs n ≡ Some x → slice_get (changed_at n f xs) n ≡ Some (f x)
get_changed f [] n x is = absurd (cc)
get_changed f (y ∷ xs) zero x is = ap (λ z. Some (f z)) (let same : y ≡ x = cc in same)
get_changed f (y ∷ xs) (suc n) x is = get_changed f xs n x is

pub get_changed_none : {A : Type 0} (f : A → A) (xs : List A) (n : ℕ) → slice_get xs n ≡ None → slice_get (changed_at n f xs) n ≡ None
get_changed_none f [] n is = refl
get_changed_none f (y ∷ xs) zero is = absurd (cc)
get_changed_none f (y ∷ xs) (suc n) is = get_changed_none f xs n is

-- What is written over a change, and a change of what was written.
pub set_on_change : {A : Type 0} (f : A → A) (xs : List A) (n : ℕ) (y : A) → slice_set (changed_at n f xs) n y ≡ slice_set xs n y
set_on_change f [] n y = refl
set_on_change f (x ∷ xs) zero y = refl
set_on_change {A} f (x ∷ xs) (suc n) y = ap (λ (ys : List A). x ∷ ys) (set_on_change f xs n y)

pub change_on_set : {A : Type 0} (f : A → A) (xs : List A) (n : ℕ) (y : A) → changed_at n f (slice_set xs n y) ≡ slice_set xs n (f y)
change_on_set f [] n y = refl
change_on_set f (x ∷ xs) zero y = refl
change_on_set {A} f (x ∷ xs) (suc n) y = ap (λ (ys : List A). x ∷ ys) (change_on_set f xs n y)

-- What is seen of items, where one is written that looks like the one before.
pub seen_set : {A B : Type 0} (see : A → B) (xs : List A) (n : ℕ) (x y : A) → slice_get xs n ≡ Some x → see y ≡ see x → map see (slice_set xs n y) ≡ map see xs
seen_set see [] n x y there same = refl
seen_set see (z ∷ xs) zero x y there same = ap (λ v. v ∷ map see xs) (same ∙ ap see (sym (some_same there)))
seen_set see (z ∷ xs) (suc n) x y there same = ap (λ vs. see z ∷ vs) (seen_set see xs n x y there same)

-- Each item stands for itself, and for the other one that is changed.
pub all_same : {A : Type 0} (R : A → A → Type 0) (xs : List A) → ((x : A) → R x x) → AllZip R xs xs
all_same R [] same = tt
all_same R (x ∷ xs) same = (same x, all_same R xs same)

pub right_changed : {A B : Type 0} (R : A → B → Type 0) (xs : List A) (ys : List B) (n : ℕ) (f : B → B) → ((x : A) (y : B) → R x y → R x (f y)) → AllZip R xs ys → AllZip R xs (changed_at n f ys)
right_changed R [] [] n f keeps all = tt
right_changed R [] (y ∷ ys) n f keeps all = absurd all
right_changed R (x ∷ xs) [] n f keeps all = absurd all
right_changed R (x ∷ xs) (y ∷ ys) zero f keeps all = (keeps x y all.0, all.1)
right_changed R (x ∷ xs) (y ∷ ys) (suc n) f keeps all = (all.0, right_changed R xs ys n f keeps all.1)

-- What is kept with these slots in the table of an instance.
abbrev pub slotted : ℕ → Slots WorldEntry → Held → Held
slotted at slots h = record h { instances = changed_at at (with_slots slots) h.instances }

pub slotted_is : (at : ℕ) (slots : Slots WorldEntry) (h : Held) (i : InstanceView) → slice_get h.instances at ≡ Some i → with_instance at (with_slots slots i) h ≡ slotted at slots h
slotted_is at slots h i is = ap (λ (all : List InstanceView). record h { instances = all }) (set_is_change (with_slots slots) h.instances at i is)

abbrev pub over : ℕ → Slots WorldEntry → Done (Unit {0}) → Done (Unit {0})
over at slots (Gives x k) = Gives x (slotted at slots k)
over at slots (Traps why k) = Traps why (slotted at slots k)
over at slots (Spent k) = Spent (slotted at slots k)
over at slots Stuck = Stuck

over_after : (at : ℕ) (slots : Slots WorldEntry) (d : Done (Unit {0})) (f : Held → Done (Unit {0})) → ((k : Held) → f (slotted at slots k) ≡ over at slots (f k))
    → after (over at slots d) (λ done k. f k) ≡ over at slots (after d (λ done k. f k))
over_after at slots (Gives x k) f same = same k
over_after at slots (Traps why k) f same = refl
over_after at slots (Spent k) f same = refl
over_after at slots Stuck f same = refl

lend_by : (at callee handle : ℕ) (slots : Slots WorldEntry) (h : Held) (o : Option TaskSlot)
    → given o (λ slot. if may_lend slot.caller then Gives (tt {0}) (with_task callee (lent_slot handle slot) (slotted at slots h)) else Stuck)
    ≡ over at slots (given o (λ slot. if may_lend slot.caller then Gives (tt {0}) (with_task callee (lent_slot handle slot) h) else Stuck))
lend_by at callee handle slots h None = refl
lend_by at callee handle slots h (Some slot) = by (may_lend slot.caller)
  where
    by : (b : Bool)
        → (if b then Gives (tt {0}) (with_task callee (lent_slot handle slot) (slotted at slots h)) else Stuck)
        ≡ over at slots (if b then Gives (tt {0}) (with_task callee (lent_slot handle slot) h) else Stuck)
    by true = refl
    by false = refl

lent_over : (at callee handle : ℕ) (slots : Slots WorldEntry) (h : Held) → lent at callee handle (slotted at slots h) ≡ over at slots (lent at callee handle h)
lent_over at callee handle slots h =
    ap (λ (d : Done (Unit {0})). after d (λ done k. told (line.Lend (at + 1) handle callee) k)) (lend_by at callee handle slots h (slice_get h.tasks callee))
    ∙ over_after at slots (lend_kept callee handle h) (λ k. told (line.Lend (at + 1) handle callee) k) (λ k. refl)

left_over : (at index : ℕ) (slots : Slots WorldEntry) (h : Held) (o : Option InstanceView) → slice_get h.instances at ≡ o
    → set_left at index (slotted at slots h) ≡ over at slots (given o (λ i. Gives tt (with_instance at (with_sets (left index i.sets) i) h)))
left_over at index slots h None is =
    ap (λ (o : Option InstanceView). given o (λ i. Gives (tt {0}) (with_instance at (with_sets (left index i.sets) i) (slotted at slots h)))) (get_changed_none (with_slots slots) h.instances at is)
left_over at index slots h (Some i) is =
    ap (λ (o : Option InstanceView). given o (λ i. Gives (tt {0}) (with_instance at (with_sets (left index i.sets) i) (slotted at slots h)))) (get_changed (with_slots slots) h.instances at i is)
    ∙ ap (λ (all : List InstanceView). Gives (tt {0}) (record h { instances = all }))
    (set_on_change (with_slots slots) h.instances at (with_slots slots (with_sets (left index i.sets) i))
    ∙ sym (change_on_set (with_slots slots) h.instances at (with_sets (left index i.sets) i)))

one_over : (at callee : ℕ) (slots : Slots WorldEntry) (one : Moved) (h : Held) → one_moved at callee one (slotted at slots h) ≡ over at slots (one_moved at callee one h)
one_over at callee slots (Lent handle) h = lent_over at callee handle slots h
one_over at callee slots (Taken index) h = left_over at index slots h (slice_get h.instances at) refl

pub moved_over : (at callee : ℕ) (slots : Slots WorldEntry) (moved : List Moved) (h : Held) → all_moved at callee moved (slotted at slots h) ≡ over at slots (all_moved at callee moved h)
moved_over at callee slots [] h = refl
moved_over at callee slots (one ∷ moved) h =
    ap (λ (d : Done (Unit {0})). after d (λ done k. all_moved at callee moved k)) (one_over at callee slots one h)
    ∙ over_after at slots (one_moved at callee one h) (λ k. all_moved at callee moved k) (λ k. moved_over at callee slots moved k)

-- One more has moved.
after_twice : {A B C : Type 0} (d : Done A) (f : A → Held → Done B) (g : B → Held → Done C) → after (after d f) g ≡ after d (λ x k. after (f x k) g)
after_twice (Gives x k) f g = refl
after_twice (Traps why k) f g = refl
after_twice (Spent k) f g = refl
after_twice Stuck f g = refl

after_same : {A B : Type 0} (d : Done A) (f g : A → Held → Done B) → ((x : A) (k : Held) → f x k ≡ g x k) → after d f ≡ after d g
after_same (Gives x k) f g same = same x k
after_same (Traps why k) f g same = refl
after_same (Spent k) f g same = refl
after_same Stuck f g same = refl

after_done : (d : Done (Unit {0})) → after d (λ (done : Unit {0}) k. Gives tt k) ≡ d
after_done (Gives tt k) = refl
after_done (Traps why k) = refl
after_done (Spent k) = refl
after_done Stuck = refl

pub moved_more : (at callee : ℕ) (moved : List Moved) (one : Moved) (h : Held)
    → all_moved at callee (moved ++ one ∷ []) h ≡ after (all_moved at callee moved h) (λ (done : Unit {0}) k. one_moved at callee one k)
moved_more at callee [] one h = after_done (one_moved at callee one h)
moved_more at callee (first ∷ moved) one h =
    after_same (one_moved at callee first h) (λ (done : Unit {0}) k. all_moved at callee (moved ++ one ∷ []) k)
    (λ (done : Unit {0}) k. after (all_moved at callee moved k) (λ (done : Unit {0}) k. one_moved at callee one k)) (λ done k. moved_more at callee moved one k)
    ∙ sym (after_twice (one_moved at callee first h) (λ (done : Unit {0}) k. all_moved at callee moved k) (λ (done : Unit {0}) k. one_moved at callee one k))

-- Behind what came to no rule there is none.
pub moved_stuck : (at callee : ℕ) (moved : List Moved) (one : Moved) (h : Held) → all_moved at callee moved h ≡ Stuck → all_moved at callee (moved ++ one ∷ []) h ≡ Stuck
moved_stuck at callee moved one h stuck =
    moved_more at callee moved one h ∙ ap (λ (d : Done (Unit {0})). after d (λ (done : Unit {0}) k. one_moved at callee one k)) stuck

-- It goes on where it came to.
pub moved_to : (at callee : ℕ) (moved : List Moved) (one : Moved) (h k : Held) → all_moved at callee moved h ≡ Gives tt k → all_moved at callee (moved ++ one ∷ []) h ≡ one_moved at callee one k
moved_to at callee moved one h k is =
    moved_more at callee moved one h ∙ ap (λ (d : Done (Unit {0})). after d (λ (done : Unit {0}) k. one_moved at callee one k)) is

-- What is told of a handle that is lent, and of an end that left.
pub lent_to : (at callee handle : ℕ) (h : Held) (slot : TaskSlot) → slice_get h.tasks callee ≡ Some slot → may_lend slot.caller ≡ true
    → one_moved at callee (Lent handle) h
    ≡ Gives tt (record (with_task callee (lent_slot handle slot) h) { labels = h.labels ++ line.Lend (at + 1) handle callee ∷ [] })
lent_to at callee handle h slot there may =
    ap (λ (o : Option TaskSlot). after (given o (λ slot. if may_lend slot.caller then Gives (tt {0}) (with_task callee (lent_slot handle slot) h) else Stuck))
    (λ (done : Unit {0}) k. told (line.Lend (at + 1) handle callee) k)) there
    ∙ ap (λ (b : Bool). after (if b then Gives (tt {0}) (with_task callee (lent_slot handle slot) h) else Stuck) (λ (done : Unit {0}) k. told (line.Lend (at + 1) handle callee) k)) may

pub not_lent : (at callee handle : ℕ) (h : Held) (o : Option TaskSlot) → slice_get h.tasks callee ≡ o → ((slot : TaskSlot) → o ≡ Some slot → may_lend slot.caller ≡ false)
    → one_moved at callee (Lent handle) h ≡ Stuck
not_lent at callee handle h None there may =
    ap (λ (o : Option TaskSlot). after (given o (λ slot. if may_lend slot.caller then Gives (tt {0}) (with_task callee (lent_slot handle slot) h) else Stuck))
    (λ (done : Unit {0}) k. told (line.Lend (at + 1) handle callee) k)) there
not_lent at callee handle h (Some slot) there may =
    ap (λ (o : Option TaskSlot). after (given o (λ slot. if may_lend slot.caller then Gives (tt {0}) (with_task callee (lent_slot handle slot) h) else Stuck))
    (λ (done : Unit {0}) k. told (line.Lend (at + 1) handle callee) k)) there
    ∙ ap (λ (b : Bool). after (if b then Gives (tt {0}) (with_task callee (lent_slot handle slot) h) else Stuck) (λ (done : Unit {0}) k. told (line.Lend (at + 1) handle callee) k)) (may slot refl)

pub taken_to : (at callee index : ℕ) (h : Held) (i : InstanceView) → slice_get h.instances at ≡ Some i
    → one_moved at callee (Taken index) h ≡ Gives tt (with_instance at (with_sets (left index i.sets) i) h)
taken_to at callee index h i there = ap (λ (o : Option InstanceView). given o (λ i. Gives (tt {0}) (with_instance at (with_sets (left index i.sets) i) h))) there

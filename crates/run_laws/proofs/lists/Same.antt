-- Lists of tasks stay as they follow from the tasks: where neither they nor the tasks change, behind parts, what follows something that is looked up, and both
-- ways of a test; and where a task is another one that is alike.
use Rattle.std.proofs.Common.{◌≡◌, ℕ, zero, suc, ◌+◌, Bool, true, false, not, ◌&&◌, if◌then◌else◌, List, [], ◌∷◌, slice_set, refl, sym, ap, ◌∙◌, subst, arith, Option, Some, None}
use Rattle.std.specs.List.{slice_get}
use Rattle.script_reader.specs.Script.{Script}
use Rattle.instances.specs.Instances.{InstanceView}
use Rattle.entry_gate.specs.Kinds.{needs_entry}
use Rattle.tasks.specs.Tasks.{waits_to_enter}
use Rattle.task_table.specs.declared.caller.Caller.{Caller}
use Rattle.task_table.specs.declared.caller.Caller.TheVariants.{Nobody, Host, Guest}
use Rattle.task_table.specs.declared.caller.Called.{Called}
use Rattle.task_table.specs.declared.slot.TaskSlot.{TaskSlot}
use Rattle.task_table.specs.Callers.{changed}
use Rattle.task_table.specs.Slots.{has_exited}
use Rattle.task_table.specs.Tasks.{with_number, without, Watched, watching, unwatched, asleep}
use Rattle.world_parts.specs.Held.{Held, Done, Gives, Traps, Spent, Stuck, after, given}
use Rattle.world_parts.specs.Entries.{with_instance}
use Rattle.world_parts.specs.Slots.{with_task}
use Rattle.abi_machine.proofs.sound.Found.{some_same}
use Rattle.run_laws.specs.TaskLists.{numbers_in, is_open, waits_apart, is_watched, is_awake, call_of, called_at, CallsMarked, ListsMarked, HasLists}
use Rattle.run_laws.proofs.lists.Numbers.{numbers_same, numbers_out, numbers_in_one}

-- They stay, whatever the script is.
abbrev pub Same : Held → Held → Type 0
Same h k = (s : Script) → HasLists s h → HasLists s k

abbrev pub ListsBy : {A : Type 0} → Held → Done A → Type 0
ListsBy h (Gives x k) = Same h k
ListsBy h (Traps why k) = Unit {0}
ListsBy h (Spent k) = Unit {0}
ListsBy h Stuck = Unit {0}

pub same_further : (h k l : Held) → Same h k → Same k l → Same h l
same_further h k l p q s lists = q s (p s lists)

pub lists_behind : {A : Type 0} (h k : Held) (d : Done A) → Same h k → ListsBy k d → ListsBy h d
lists_behind h k (Gives x l) p q = same_further h k l p q
lists_behind h k (Traps why l) p q = tt
lists_behind h k (Spent l) p q = tt
lists_behind h k Stuck p q = tt

pub lists_after : {A B : Type 0} (h : Held) (d : Done A) (f : A → Held → Done B) → ListsBy h d → ((x : A) (k : Held) → ListsBy k (f x k)) → ListsBy h (after d f)
lists_after h (Gives x k) f p q = lists_behind h k (f x k) p (q x k)
lists_after h (Traps why k) f p q = tt
lists_after h (Spent k) f p q = tt
lists_after h Stuck f p q = tt

pub lists_given : {A B : Type 0} (h : Held) (o : Option A) (f : A → Done B) → ((x : A) → o ≡ Some x → ListsBy h (f x)) → ListsBy h (given o f)
lists_given h None f p = tt
lists_given h (Some x) f p = p x refl

-- What follows a look changes nothing of what it looks at.
pub lists_look : {A B C : Type 0} (h : Held) (o : Option A) (f : A → Done B) (c : B → Held → Done C) → ((x : A) → o ≡ Some x → ListsBy h (after (f x) c)) → ListsBy h (after (given o f) c)
lists_look h None f c p = tt
lists_look h (Some x) f c p = p x refl

-- The same behind two parts, and behind a test.
pub further_lists : {A B C D : Type 0} (h : Held) (o : Option A) (f : A → Done B) (c : B → Held → Done C) (d : C → Held → Done D)
    → ((x : A) → o ≡ Some x → ListsBy h (after (after (f x) c) d)) → ListsBy h (after (after (given o f) c) d)
further_lists h None f c d p = tt
further_lists h (Some x) f c d p = p x refl

pub tested_lists : {A B : Type 0} (h : Held) (b : Bool) (e : Done A) (c : A → Held → Done B) → ListsBy h (after e c) → ListsBy h (after (if b then e else Stuck) c)
tested_lists h true e c p = p
tested_lists h false e c p = tt

pub further_tested : {A B C : Type 0} (h : Held) (b : Bool) (e : Done A) (c : A → Held → Done B) (d : B → Held → Done C) → ListsBy h (after (after e c) d)
    → ListsBy h (after (after (if b then e else Stuck) c) d)
further_tested h true e c d p = p
further_tested h false e c d p = tt

pub lists_if : {A : Type 0} (h : Held) (b : Bool) (d e : Done A) → ListsBy h d → ListsBy h e → ListsBy h (if b then d else e)
lists_if h true d e p q = p
lists_if h false d e p q = q

-- By what is given.
pub lists_all : (h k : Held) → k.tasks ≡ h.tasks → k.live ≡ h.live → k.watched ≡ h.watched → k.calls ≡ h.calls → k.taken ≡ h.taken → Same h k
lists_all h k tasks live watched calls taken s l =
    subst (λ (n : ℕ). ListsMarked s k.live k.watched k.calls n k.tasks) (sym taken)
    (subst (λ (xs : List ℕ). ListsMarked s k.live k.watched xs h.taken k.tasks) (sym calls)
    (subst (λ (xs : Watched). ListsMarked s k.live xs h.calls h.taken k.tasks) (sym watched)
    (subst (λ (xs : List ℕ). ListsMarked s xs h.watched h.calls h.taken k.tasks) (sym live)
    (subst (λ (xs : List TaskSlot). ListsMarked s h.live h.watched h.calls h.taken xs) (sym tasks) l))))

pub lists_same : (h : Held) → Same h h
lists_same h s l = l

pub lists_instance : (h : Held) (at : ℕ) (i : InstanceView) → Same h (with_instance at i h)
lists_instance h at i s l = l

pub lists_from : {A : Type 0} (h k : Held) (d : Done A) → k.tasks ≡ h.tasks → k.live ≡ h.live → k.watched ≡ h.watched → k.calls ≡ h.calls → k.taken ≡ h.taken → ListsBy k d → ListsBy h d
lists_from h k d tasks live watched calls taken p = lists_behind h k d (lists_all h k tasks live watched calls taken) p

-- The calls whose tasks are in a list, where one of these is another one of the same call.
calls_set : (tasks : List TaskSlot) (t n : ℕ) (x y : TaskSlot) → slice_get tasks t ≡ Some x → call_of y.caller ≡ call_of x.caller → called_at (slice_set tasks t y) n ≡ called_at tasks n
calls_set [] t n x y is same = absurd (cc)
calls_set (slot ∷ tasks) zero zero x y is same = same ∙ ap (λ (z : TaskSlot). call_of z.caller) (sym (some_same is))
calls_set (slot ∷ tasks) zero (suc n) x y is same = refl
calls_set (slot ∷ tasks) (suc t) zero x y is same = refl
calls_set (slot ∷ tasks) (suc t) (suc n) x y is same = calls_set tasks t n x y is same

pub calls_stay : (calls : List ℕ) (tasks : List TaskSlot) (t : ℕ) (x y : TaskSlot) → slice_get tasks t ≡ Some x → call_of y.caller ≡ call_of x.caller → CallsMarked calls tasks
    → CallsMarked calls (slice_set tasks t y)
calls_stay calls tasks t x y is same marked = record {
  made = λ call n at. calls_set tasks t n x y is same ∙ marked.made call n at;
  kept = λ call n at. marked.kept call n (sym (calls_set tasks t n x y is same) ∙ at);
}

pub call_kept : (f : Called → Called) (c : Caller) → call_of (changed f c) ≡ call_of c
call_kept f Nobody = refl
call_kept f (Host call) = refl
call_kept f (Guest called) = refl

-- A task is alike to the lists.
pub record SlotSame (x y : TaskSlot) : Type 0 where
  pub exited : has_exited y.task.phase ≡ has_exited x.task.phase
  pub waits : waits_to_enter y.task.phase ≡ waits_to_enter x.task.phase
  pub needs : needs_entry y.task.kind ≡ needs_entry x.task.kind
  pub call : call_of y.caller ≡ call_of x.caller

open_same : (x y : TaskSlot) → SlotSame x y → is_open y ≡ is_open x
open_same x y same = ap not same.exited

apart_same : (x y : TaskSlot) → SlotSame x y → waits_apart y ≡ waits_apart x
apart_same x y same = ap (λ (b : Bool). b && needs_entry y.task.kind) same.waits ∙ ap (λ (b : Bool). waits_to_enter x.task.phase && b) same.needs

watched_same : (x y : TaskSlot) → SlotSame x y → is_watched y ≡ is_watched x
watched_same x y same = ap (λ (b : Bool). b && not (waits_apart y)) (open_same x y same) ∙ ap (λ (b : Bool). is_open x && not b) (apart_same x y same)

awake_same : (x y : TaskSlot) → SlotSame x y → is_awake y ≡ is_awake x
awake_same x y same = ap (λ (b : Bool). b && not (waits_to_enter y.task.phase)) (open_same x y same) ∙ ap (λ (b : Bool). is_open x && not b) same.waits

pub lists_task : (h : Held) (t : ℕ) (x y : TaskSlot) → slice_get h.tasks t ≡ Some x → SlotSame x y → Same h (with_task t y h)
lists_task h t x y is same s l = record {
  opens = record {
    open_ones = l.opens.open_ones ∙ sym (numbers_same is_open 0 t h.tasks x y is (open_same x y same));
    watched_ones = l.opens.watched_ones ∙ sym (numbers_same is_watched 0 t h.tasks x y is (watched_same x y same));
    awake_ones = l.opens.awake_ones ∙ sym (numbers_same is_awake 0 t h.tasks x y is (awake_same x y same));
  };
  calls = calls_stay h.calls h.tasks t x y is same.call l.calls;
  taken = l.taken;
}

-- A task that is open no more is in neither list.
pub lists_close : (h k : Held) (t : ℕ) (x y : TaskSlot) → slice_get h.tasks t ≡ Some x → is_open y ≡ false → call_of y.caller ≡ call_of x.caller → k.tasks ≡ slice_set h.tasks t y
    → k.live ≡ without t h.live → k.watched ≡ unwatched t h.watched → k.calls ≡ h.calls → k.taken ≡ h.taken → Same h k
lists_close h k t x y is closed call tasks live watched calls taken s l =
    let same : 0 + t ≡ t = omega arith in
    let now : Held = record (with_task t y h) { live = without t h.live; watched = unwatched t h.watched } in
    lists_all now k tasks live watched calls taken s
    (record {
      opens = record {
        open_ones = ap (λ (xs : List ℕ). without t xs) l.opens.open_ones ∙ ap (λ (n : ℕ). without n (numbers_in is_open h.tasks)) (sym same) ∙ sym (numbers_out is_open 0 t h.tasks x y is closed);
        watched_ones = ap (λ (xs : List ℕ). without t xs) l.opens.watched_ones ∙ ap (λ (n : ℕ). without n (numbers_in is_watched h.tasks)) (sym same)
            ∙ sym (numbers_out is_watched 0 t h.tasks x y is (ap (λ (b : Bool). b && not (waits_apart y)) closed));
        awake_ones = ap (λ (xs : List ℕ). without t xs) l.opens.awake_ones ∙ ap (λ (n : ℕ). without n (numbers_in is_awake h.tasks)) (sym same)
            ∙ sym (numbers_out is_awake 0 t h.tasks x y is (ap (λ (b : Bool). b && not (waits_to_enter y.task.phase)) closed));
      };
      calls = calls_stay h.calls h.tasks t x y is call l.calls;
      taken = l.taken;
    })

-- One that waits for exclusive entry is not watched; one that waits to enter otherwise is not awake; and one that does so no more is both.
pub lists_park : (h k : Held) (t : ℕ) (x y : TaskSlot) → slice_get h.tasks t ≡ Some x → is_open y ≡ is_open x → is_watched y ≡ false → is_awake y ≡ false
    → call_of y.caller ≡ call_of x.caller → k.tasks ≡ slice_set h.tasks t y → k.live ≡ h.live → k.watched ≡ unwatched t h.watched → k.calls ≡ h.calls → k.taken ≡ h.taken
    → Same h k
lists_park h k t x y is opens apart sleeps call tasks live watched calls taken s l =
    let same : 0 + t ≡ t = omega arith in
    let now : Held = record (with_task t y h) { watched = unwatched t h.watched } in
    lists_all now k tasks live watched calls taken s
    (record {
      opens = record {
        open_ones = l.opens.open_ones ∙ sym (numbers_same is_open 0 t h.tasks x y is opens);
        watched_ones = ap (λ (xs : List ℕ). without t xs) l.opens.watched_ones ∙ ap (λ (n : ℕ). without n (numbers_in is_watched h.tasks)) (sym same)
            ∙ sym (numbers_out is_watched 0 t h.tasks x y is apart);
        awake_ones = ap (λ (xs : List ℕ). without t xs) l.opens.awake_ones ∙ ap (λ (n : ℕ). without n (numbers_in is_awake h.tasks)) (sym same)
            ∙ sym (numbers_out is_awake 0 t h.tasks x y is sleeps);
      };
      calls = calls_stay h.calls h.tasks t x y is call l.calls;
      taken = l.taken;
    })

pub lists_queue : (h k : Held) (t : ℕ) (x y : TaskSlot) → slice_get h.tasks t ≡ Some x → is_open y ≡ is_open x → is_watched y ≡ is_watched x → is_awake y ≡ false
    → call_of y.caller ≡ call_of x.caller → k.tasks ≡ slice_set h.tasks t y → k.live ≡ h.live → k.watched ≡ asleep t h.watched → k.calls ≡ h.calls → k.taken ≡ h.taken
    → Same h k
lists_queue h k t x y is opens watches sleeps call tasks live watched calls taken s l =
    let same : 0 + t ≡ t = omega arith in
    let now : Held = record (with_task t y h) { watched = asleep t h.watched } in
    lists_all now k tasks live watched calls taken s
    (record {
      opens = record {
        open_ones = l.opens.open_ones ∙ sym (numbers_same is_open 0 t h.tasks x y is opens);
        watched_ones = l.opens.watched_ones ∙ sym (numbers_same is_watched 0 t h.tasks x y is watches);
        awake_ones = ap (λ (xs : List ℕ). without t xs) l.opens.awake_ones ∙ ap (λ (n : ℕ). without n (numbers_in is_awake h.tasks)) (sym same)
            ∙ sym (numbers_out is_awake 0 t h.tasks x y is sleeps);
      };
      calls = calls_stay h.calls h.tasks t x y is call l.calls;
      taken = l.taken;
    })

pub lists_unpark : (h k : Held) (t : ℕ) (x y : TaskSlot) → slice_get h.tasks t ≡ Some x → is_open y ≡ is_open x → is_watched y ≡ true → is_awake y ≡ true
    → call_of y.caller ≡ call_of x.caller → k.tasks ≡ slice_set h.tasks t y → k.live ≡ h.live → k.watched ≡ watching t h.watched → k.calls ≡ h.calls → k.taken ≡ h.taken
    → Same h k
lists_unpark h k t x y is opens watches wakes call tasks live watched calls taken s l =
    let same : 0 + t ≡ t = omega arith in
    let now : Held = record (with_task t y h) { watched = watching t h.watched } in
    lists_all now k tasks live watched calls taken s
    (record {
      opens = record {
        open_ones = l.opens.open_ones ∙ sym (numbers_same is_open 0 t h.tasks x y is opens);
        watched_ones = ap (λ (xs : List ℕ). with_number t xs) l.opens.watched_ones ∙ ap (λ (n : ℕ). with_number n (numbers_in is_watched h.tasks)) (sym same)
            ∙ sym (numbers_in_one is_watched 0 t h.tasks x y is watches);
        awake_ones = ap (λ (xs : List ℕ). with_number t xs) l.opens.awake_ones ∙ ap (λ (n : ℕ). with_number n (numbers_in is_awake h.tasks)) (sym same)
            ∙ sym (numbers_in_one is_awake 0 t h.tasks x y is wakes);
      };
      calls = calls_stay h.calls h.tasks t x y is call l.calls;
      taken = l.taken;
    })

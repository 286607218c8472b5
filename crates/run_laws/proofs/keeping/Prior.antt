-- What is told of tasks stays where they are others that run what they ran, where they ran, for the same callers; and where, beside this, for calls is lent what was, and tables,
-- streams and futures are as they were, what is asked of tables stays.
use Rattle.std.proofs.Common.{◌≡◌, ◌∙◌, inl, inr, ℕ, Bool, true, false, if◌then◌else◌, List, Option, Some, None, refl, sym, ap, subst}
use Rattle.std.specs.List.{slice_get}
use Rattle.std.proofs.lemmas.Bool.{cases_eq}
use Rattle.handle_table.specs.Slots.{Slots, entry_at}
use Rattle.handle_table.specs.Sound.{IsSound}
use Rattle.channels.specs.declared.channel.Channel.{Channel}
use Rattle.instances.specs.declared.entry.WorldEntry.{WorldEntry}
use Rattle.instances.specs.Instances.{InstanceView}
use Rattle.task_table.specs.declared.caller.Called.{Called}
use Rattle.task_table.specs.declared.caller.Caller.{Caller}
use Rattle.task_table.specs.declared.caller.Caller.TheVariants.{Nobody, Host, Guest}
use Rattle.task_table.specs.declared.slot.TaskSlot.{TaskSlot}
use Rattle.task_table.specs.Callers.{called_of}
use Rattle.world_parts.specs.Held.{Held, Done, Gives, Traps, Spent, Stuck, after, given}
use Rattle.world_parts.specs.Entries.{with_instance}
use Rattle.world_parts.specs.Slots.{with_task}
use Rattle.abi_machine.proofs.sound.Found.{some_same}
use Rattle.standing.specs.Channels.{EndsMarked, HasMarkedEnds}
use Rattle.standing.specs.KeptMarks.{runs_at, lends_by, is_task_at, lends_at}
use Rattle.standing.proofs.marks.Tables.{put_same, put_other}
use Rattle.run_laws.specs.keeping.Kept.{CalledFrom}
use Rattle.run_laws.specs.keeping.Tables.{TablesWell}
use Rattle.run_laws.proofs.keeping.Sums.{set_either}
use Rattle.run_laws.proofs.keeping.Changes.{here_same, lends_same}

-- A task, and the one before it at its number.
pub record SlotPrior (x y : TaskSlot) : Type 0 where
  pub instance : y.instance ≡ x.instance
  pub callee : y.callee ≡ x.callee
  pub calls : (called : Called) → y.caller ≡ Guest called → (prior : Called) × (x.caller ≡ Guest prior) × (called.by ≡ prior.by) × (called.canon ≡ prior.canon) × (called.words ≡ prior.words)

pub record Before (tasks : List TaskSlot) (m : ℕ) (y : TaskSlot) : Type 0 where
  pub slot : TaskSlot
  pub is : slice_get tasks m ≡ Some slot
  pub prior : SlotPrior slot y

pub record PriorTasks (old new : List TaskSlot) : Type 0 where
  pub before : (m : ℕ) (y : TaskSlot) → slice_get new m ≡ Some y → Before old m y
  pub here : (at m : ℕ) → is_task_at new at m ≡ is_task_at old at m

abbrev pub Prior : Held → Held → Type 0
Prior h k = PriorTasks h.tasks k.tasks

pub prior_slot : (x : TaskSlot) → SlotPrior x x
prior_slot x = record { instance = refl; callee = refl; calls = λ called e. (called, e, refl, refl, refl) }

slot_further : (x y z : TaskSlot) → SlotPrior x y → SlotPrior y z → SlotPrior x z
slot_further x y z p q = record {
  instance = q.instance ∙ p.instance;
  callee = q.callee ∙ p.callee;
  calls = λ called e.
      let b = q.calls called e in
      let a = p.calls b.0 b.1 in
      (a.0, a.1, b.2 ∙ a.2, b.3 ∙ a.3, b.4 ∙ a.4);
}

pub prior_all : (h k : Held) → k.tasks ≡ h.tasks → Prior h k
prior_all h k same = record {
  before = λ m y found. record { slot = y; is = ap (λ (ts : List TaskSlot). slice_get ts m) (sym same) ∙ found; prior = prior_slot y };
  here = λ at m. ap (λ (ts : List TaskSlot). is_task_at ts at m) same;
}

pub prior_further : (h k l : Held) → Prior h k → Prior k l → Prior h l
prior_further h k l p q = record {
  before = λ m y found.
      let b : Before k.tasks m y = q.before m y found in
      let a : Before h.tasks m b.slot = p.before m b.slot b.is in
      record { slot = a.slot; is = a.is; prior = slot_further a.slot b.slot y a.prior b.prior };
  here = λ at m. q.here at m ∙ p.here at m;
}

pub prior_task : (h : Held) (m : ℕ) (x y : TaskSlot) → slice_get h.tasks m ≡ Some x → ((n : ℕ) → runs_at n y ≡ runs_at n x) → SlotPrior x y → Prior h (with_task m y h)
prior_task h m x y is runs prior = record {
  before = λ k z found. elim (set_either h.tasks m y k z found) [
    | inl new ↦ record {
      slot = x;
      is = ap (λ (j : ℕ). slice_get h.tasks j) new.0 ∙ is;
      prior = subst (λ (s : TaskSlot). SlotPrior x s) (sym new.1) prior;
    }
    | inr old ↦ record { slot = z; is = old; prior = prior_slot z }
  ];
  here = λ at k. here_same h.tasks m x y at k is (runs at);
}

-- A caller runs where it ran.
pub called_behind : (h k : Held) (at callee : ℕ) → Prior h k → CalledFrom h at callee → CalledFrom k at callee
called_behind h k at callee p from slot called found by =
    let b : Before h.tasks callee slot = p.before callee slot found in
    let g : slot.caller ≡ Guest called = guest_of slot.caller called by in
    let c = b.prior.calls called g in
    p.here at called.by ∙ ap (is_task_at h.tasks at) c.2 ∙ from b.slot c.0 b.is (ap called_of c.1)
  where
    guest_of : (c : Caller) (called : Called) → called_of c ≡ Some called → c ≡ Guest called
    guest_of Nobody called e = absurd (cc)
    guest_of (Host call) called e = absurd (cc)
    guest_of (Guest x) called e = ap (λ (y : Called). Guest y) (some_same e)

-- Beside this, what is lent for calls, tables, streams and futures are as they were.
pub record TableBefore (instances : List InstanceView) (at : ℕ) (i : InstanceView) : Type 0 where
  pub inst : InstanceView
  pub is : slice_get instances at ≡ Some inst
  pub slots : i.slots ≡ inst.slots

pub record Quiet (h k : Held) : Type 0 where
  pub prior : Prior h k
  pub lends : (at index : ℕ) → lends_at k.tasks at index ≡ lends_at h.tasks at index
  pub tables : (at : ℕ) (i : InstanceView) → slice_get k.instances at ≡ Some i → TableBefore h.instances at i
  pub streams : k.streams ≡ h.streams
  pub futures : k.futures ≡ h.futures

pub quiet_all : (h k : Held) → k.tasks ≡ h.tasks → k.instances ≡ h.instances → k.streams ≡ h.streams → k.futures ≡ h.futures → Quiet h k
quiet_all h k tasks instances streams futures = record {
  prior = prior_all h k tasks;
  lends = λ at index. ap (λ (ts : List TaskSlot). lends_at ts at index) tasks;
  tables = λ at i here. record { inst = i; is = ap (λ (all : List InstanceView). slice_get all at) (sym instances) ∙ here; slots = refl };
  streams = streams;
  futures = futures;
}

pub quiet_same : (h : Held) → Quiet h h
quiet_same h = quiet_all h h refl refl refl refl

pub quiet_further : (h k l : Held) → Quiet h k → Quiet k l → Quiet h l
quiet_further h k l p q = record {
  prior = prior_further h k l p.prior q.prior;
  lends = λ at index. q.lends at index ∙ p.lends at index;
  tables = λ at i here.
      let b : TableBefore k.instances at i = q.tables at i here in
      let a : TableBefore h.instances at b.inst = p.tables at b.inst b.is in
      record { inst = a.inst; is = a.is; slots = b.slots ∙ a.slots };
  streams = q.streams ∙ p.streams;
  futures = q.futures ∙ p.futures;
}

pub quiet_task : (h : Held) (m : ℕ) (x y : TaskSlot) → slice_get h.tasks m ≡ Some x → ((n : ℕ) → runs_at n y ≡ runs_at n x)
    → ((p : ℕ → Bool) (index : ℕ) → lends_by p index (called_of y.caller) ≡ lends_by p index (called_of x.caller)) → SlotPrior x y → Quiet h (with_task m y h)
quiet_task h m x y is runs lends prior = record {
  prior = prior_task h m x y is runs prior;
  lends = λ at index. lends_same h.tasks m x y at index is (runs at) (lends (is_task_at h.tasks at) index);
  tables = λ at i here. record { inst = i; is = here; slots = refl };
  streams = refl;
  futures = refl;
}

pub quiet_instance : (h : Held) (at : ℕ) (x y : InstanceView) → slice_get h.instances at ≡ Some x → y.slots ≡ x.slots → Quiet h (with_instance at y h)
quiet_instance h at x y is same = record {
  prior = prior_all h (with_instance at y h) refl;
  lends = λ n index. refl;
  tables = λ n i here. elim (cases_eq n at) [
    | inl e ↦ record {
      inst = x;
      is = ap (λ (k : ℕ). slice_get h.instances k) e ∙ is;
      slots = ap (λ (j : InstanceView). j.slots) (put_same h.instances at n x y i is here e) ∙ same;
    }
    | inr other ↦ record { inst = i; is = put_other h.instances at n y i here other; slots = refl }
  ];
  streams = refl;
  futures = refl;
}

-- What is asked of tables stays, and marks of ends do.
pub tables_behind : (h k : Held) → Quiet h k → TablesWell h → TablesWell k
tables_behind h k q well = record {
  sound = λ at i here.
      let b : TableBefore h.instances at i = q.tables at i here in
      subst (λ (s : Slots WorldEntry). IsSound s) (sym b.slots) (well.sound at b.inst b.is);
  lent = λ at index i here none.
      let b : TableBefore h.instances at i = q.tables at i here in
      q.lends at index ∙ well.lent at index b.inst b.is (λ x stood. none x (ap (λ (s : Slots WorldEntry). entry_at s index) b.slots ∙ stood));
}

pub ends_behind : (h k : Held) → Quiet h k → HasMarkedEnds h → HasMarkedEnds k
ends_behind h k q ends =
    subst (λ (all : List Channel). EndsMarked k.instances k.streams all) (sym q.futures)
    (subst (λ (all : List Channel). EndsMarked k.instances all h.futures) (sym q.streams)
    (λ at index i e here stood.
    let b : TableBefore h.instances at i = q.tables at i here in
    ends at index b.inst e b.is (ap (λ (s : Slots WorldEntry). entry_at s index) (sym b.slots) ∙ stood)))

-- So it is of what a part gives.
abbrev pub QuietBy : {A : Type 0} → Held → Done A → Type 0
QuietBy h (Gives x k) = Quiet h k
QuietBy h (Traps why k) = Quiet h k
QuietBy h (Spent k) = Unit {0}
QuietBy h Stuck = Unit {0}

pub quiet_through : {A : Type 0} (h k : Held) (d : Done A) → Quiet h k → QuietBy k d → QuietBy h d
quiet_through h k (Gives x l) p q = quiet_further h k l p q
quiet_through h k (Traps why l) p q = quiet_further h k l p q
quiet_through h k (Spent l) p q = tt
quiet_through h k Stuck p q = tt

pub quiet_after : {A B : Type 0} (h : Held) (d : Done A) (f : A → Held → Done B) → QuietBy h d → ((x : A) (k : Held) → QuietBy k (f x k)) → QuietBy h (after d f)
quiet_after h (Gives x k) f p q = quiet_through h k (f x k) p (q x k)
quiet_after h (Traps why k) f p q = p
quiet_after h (Spent k) f p q = tt
quiet_after h Stuck f p q = tt

pub quiet_given : {A B : Type 0} (h : Held) (o : Option A) (f : A → Done B) → ((x : A) → o ≡ Some x → QuietBy h (f x)) → QuietBy h (given o f)
quiet_given h None f p = tt
quiet_given h (Some x) f p = p x refl

pub quiet_if : {A : Type 0} (h : Held) (b : Bool) (d e : Done A) → QuietBy h d → QuietBy h e → QuietBy h (if b then d else e)
quiet_if h true d e p q = p
quiet_if h false d e p q = q

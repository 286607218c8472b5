-- Numbers name what is there, and stay so.
use Rattle.std.proofs.Common.{◌≡◌, ◌<◌, ◌≤◌, ◌⊎◌, inl, inr, ℕ, zero, suc, Bool, true, false, nat_eq, List, [], ◌∷◌, ◌++◌, length, drop, refl, sym, ap, ◌∙◌, subst, arith, Option, Some, None, if◌then◌else◌}
use Rattle.std.specs.Prelude.{IsSome}
use Rattle.std.specs.List.{slice_get, AllByRecursion}
use Rattle.handle_table.specs.History.{Remove, live, next_index}
use Rattle.comp_graph.specs.Graph.{Graph}
use Rattle.script_reader.specs.Script.{Script}
use Rattle.waitables.specs.Sets as sets
use Rattle.abi_machine.specs.World.{Entry, OwnHandle, BorrowHandle, OfSubtask, OfSet, OfEnd, Inst, Callee, Init, Subtask, Caller, Nobody, Host, Guest, New, Acting, AfterCall, Task, World, new_inst, new_task}
use Rattle.abi_machine.specs.Edits.{changed_at, added, by_views, caller_changed}
use Rattle.abi_machine.specs.Reading.{sets_in, func_of, subtask_of}
use Rattle.abi_machine.specs.sound.Changes.{Change, GoesTo, HasStore, SpendsUnit, UsesPicks, TakesItem, BeginsInstance, AddsEntry, MakesSet, RemovesEntry, RemovesWaitable, LeavesSet, JoinsSet, HasBackpressure, IsCalled, Calls, ComesBack, Acts, Begins, Cancels, Blocks, Exits, IsRemoved, Resolves, IsCancelled, HasWord, HasNewStack, HasStack, LosesStack, IsAnswered, IsTold, IsLent, HasResult, MakesChannel, Offers, Transfers, Concludes, DropsEnd, after, IsGuest, IsAdded, MayCome}
use Rattle.abi_machine.specs.sound.Numbers.{IsCallerBefore, IsCalledAs, IsNamed, NamesWhatIsThere, AreNumbered, IsNumbered, FirstNumbered, StaysNumbered}
use Rattle.abi_machine.proofs.sound.Lists.{all_changed, all_more, all_as, changed_either, more_either, get_front, there_front, there_last, within, length_changed, length_more}
use Rattle.abi_machine.proofs.sound.Found.{there_changed, guest_changed}
use Rattle.abi_machine.proofs.sound.Sets.{left_sets, left_is, joined_is}
use Rattle.abi_machine.proofs.sound.Alone.{kept_alone}
use Rattle.abi_machine.proofs.sound.Aside.{channel_kept, made_kept}

-- Tasks that are called alike.

abbrev CallersAlike : Caller → Caller → Type 0
CallersAlike Nobody other = other ≡ Nobody
CallersAlike (Host call values) other = other ≡ Host call values
CallersAlike (Guest subtask) other = (later : Subtask) × (other ≡ Guest later) × (later.by ≡ subtask.by)

record Alike (x y : Task) : Type 0 where
  callee : y.callee ≡ x.callee
  caller : CallersAlike x.caller y.caller

callers_same : (c : Caller) → CallersAlike c c
callers_same Nobody = refl
callers_same (Host call values) = refl
callers_same (Guest subtask) = (subtask, refl, refl)

callers_changed : (f : Subtask → Subtask) → ((subtask : Subtask) → (f subtask).by ≡ subtask.by) → (c : Caller) → CallersAlike c (caller_changed f c)
callers_changed f same Nobody = refl
callers_changed f same (Host call values) = refl
callers_changed f same (Guest subtask) = (f subtask, refl, same subtask)

before_alike : (n : ℕ) (c d : Caller) → CallersAlike c d → IsCallerBefore n c → IsCallerBefore n d
before_alike n Nobody d a h = absurd h
before_alike n (Host call values) d a h = subst (IsCallerBefore n) (sym a) tt
before_alike n (Guest subtask) d a h = subst (IsCallerBefore n) (sym a.1) (subst (λ (k : ℕ). k < n) (sym a.2) h)

guest_alike : (c d : Caller) → CallersAlike c d → IsSome (subtask_of c) → IsSome (subtask_of d)
guest_alike Nobody d a h = cc
guest_alike (Host call values) d a h = cc
guest_alike (Guest subtask) d a h = subst (λ (e : Caller). IsSome (subtask_of e)) (sym a.1) refl

called_alike : (n : ℕ) (x y : Task) → Alike x y → IsCalledAs n x → IsCalledAs n y
called_alike zero x y a h = (a.callee ∙ h.0, subst (λ (c : Caller). CallersAlike c y.caller) h.1 a.caller)
called_alike (suc n) x y a h = (subst (λ (c : Callee). IsSome (func_of c)) (sym a.callee) h.0, before_alike (suc n) x.caller y.caller a.caller h.1)

named_alike : (tasks others : List Task) (count : ℕ) (entry : Entry) → ((n : ℕ) → IsGuest tasks n → IsGuest others n) → IsNamed tasks count entry → IsNamed others count entry
named_alike tasks others count (OwnHandle resource rep) keeps h = tt
named_alike tasks others count (BorrowHandle resource rep task) keeps h = tt
named_alike tasks others count (OfSubtask callee) keeps h = keeps callee h
named_alike tasks others count (OfSet set) keeps h = h
named_alike tasks others count (OfEnd e) keeps h = tt

tasks_changed : (tasks : List Task) (insts : List Inst) (chain : List ℕ) (t : ℕ) (f : Task → Task) → ((x : Task) → Alike x (f x)) → AreNumbered tasks insts chain → AreNumbered (changed_at t f tasks) insts chain
tasks_changed tasks insts chain t f keeps h = record {
  instantiates = there_changed tasks t 0 f h.instantiates;
  called = λ n task e. elim (changed_either t f tasks n task e) [
    | inl o ↦ subst (IsCalledAs n) (sym o.2) (called_alike n o.0 (f o.0) (keeps o.0) (h.called n o.0 o.1))
    | inr old ↦ h.called n task old
  ];
  running = all_as (λ (u : ℕ). IsSome (slice_get tasks u)) (λ (u : ℕ). IsSome (slice_get (changed_at t f tasks) u)) (λ u k. there_changed tasks t u f k) chain h.running;
  entries =
      all_as (NamesWhatIsThere tasks) (NamesWhatIsThere (changed_at t f tasks))
      (λ inst names index entry e.
      named_alike tasks (changed_at t f tasks) (length inst.sets) entry (λ n guest. guest_changed tasks t n f (λ x k. guest_alike x.caller (f x).caller (keeps x).caller k) guest)
      (names index entry e)) insts h.entries;
}

-- an edit that leaves the callee and the caller alone, and one of the caller's side
aside : (x y : Task) → y.callee ≡ x.callee → y.caller ≡ x.caller → Alike x y
aside x y callee caller = record { callee = callee; caller = subst (CallersAlike x.caller) (sym caller) (callers_same x.caller) }

of_subtask : (x : Task) (f : Subtask → Subtask) → ((subtask : Subtask) → (f subtask).by ≡ subtask.by) → Alike x (record x { caller = caller_changed f x.caller })
of_subtask x f same = record { callee = refl; caller = callers_changed f same x.caller }

-- One more task.

called_last : (tasks : List Task) (new : Task) → IsSome (slice_get tasks 0) → IsSome (func_of new.callee) → IsCallerBefore (length tasks) new.caller → IsCalledAs (length tasks) new
called_last [] new there callee caller = cc
called_last (x ∷ tasks) new there callee caller = (callee, caller)

tasks_more : (tasks : List Task) (insts : List Inst) (chain : List ℕ) (new : Task) → IsSome (func_of new.callee) → IsCallerBefore (length tasks) new.caller → AreNumbered tasks insts chain
    → AreNumbered (tasks ++ new ∷ []) insts (length tasks ∷ chain)
tasks_more tasks insts chain new callee caller h = record {
  instantiates = there_front tasks new 0 h.instantiates;
  called = λ n task e. elim (more_either tasks new n task e) [
    | inl old ↦ h.called n task old
    | inr last ↦ subst (IsCalledAs n) (sym last.1) (subst (λ (k : ℕ). IsCalledAs k new) (sym last.0) (called_last tasks new h.instantiates callee caller))
  ];
  running = (
    there_last tasks new,
    all_as (λ (u : ℕ). IsSome (slice_get tasks u)) (λ (u : ℕ). IsSome (slice_get (tasks ++ new ∷ []) u)) (λ u k. there_front tasks new u k) chain h.running,
  );
  entries =
      all_as (NamesWhatIsThere tasks) (NamesWhatIsThere (tasks ++ new ∷ []))
      (λ inst names index entry e.
      named_alike tasks (tasks ++ new ∷ []) (length inst.sets) entry (λ n guest. (guest.0, get_front tasks new n guest.0 guest.1, guest.2)) (names index entry e)) insts h.entries;
}

-- Entries.

with_entries : (tasks : List Task) (insts others : List Inst) (chain : List ℕ) → AreNumbered tasks insts chain → AllByRecursion (NamesWhatIsThere tasks) others → AreNumbered tasks others chain
with_entries tasks insts others chain h entries = record { instantiates = h.instantiates; called = h.called; running = h.running; entries = entries }

with_chain : (tasks : List Task) (insts : List Inst) (chain others : List ℕ) → AreNumbered tasks insts chain → AllByRecursion (λ t. IsSome (slice_get tasks t)) others → AreNumbered tasks insts others
with_chain tasks insts chain others h running = record { instantiates = h.instantiates; called = h.called; running = running; entries = h.entries }

named_added : (tasks : List Task) (count : ℕ) (entry : Entry) → IsAdded tasks entry → IsNamed tasks count entry
named_added tasks count (OwnHandle resource rep) h = tt
named_added tasks count (BorrowHandle resource rep task) h = tt
named_added tasks count (OfSubtask callee) h = h
named_added tasks count (OfSet set) h = absurd h
named_added tasks count (OfEnd e) h = tt

named_longer : (tasks : List Task) (count more : ℕ) (entry : Entry) → count ≤ more → IsNamed tasks count entry → IsNamed tasks more entry
named_longer tasks count more (OwnHandle resource rep) less h = tt
named_longer tasks count more (BorrowHandle resource rep task) less h = tt
named_longer tasks count more (OfSubtask callee) less h = h
named_longer tasks count more (OfSet set) less h = (let low : set < count = h in omega (arith, low, less))
named_longer tasks count more (OfEnd e) less h = tt

pub added_either : {A : Type 0} (b : Bool) (x y : A) (o : Option A) → (if b then Some x else o) ≡ Some y → (x ≡ y) ⊎ (o ≡ Some y)
added_either true x y o h = inl cc
added_either false x y o h = inr h

pub removed_before : {A : Type 0} (b : Bool) (y : A) (o : Option A) → (if b then None else o) ≡ Some y → o ≡ Some y
removed_before true y o h = cc
removed_before false y o h = h

names_added : (tasks : List Task) (entry : Entry) (x : Inst) → IsAdded tasks entry → NamesWhatIsThere tasks x → NamesWhatIsThere tasks (record x { table = added entry x.table })
names_added tasks entry x may names index other e = elim (added_either (nat_eq (next_index x.table) index) entry other (live x.table index) e) [
  | inl same ↦ subst (IsNamed tasks (length x.sets)) same (named_added tasks (length x.sets) entry may)
  | inr old ↦ names index other old
]

names_set : (tasks : List Task) (set : ℕ) (x : Inst) → set ≡ length x.sets → NamesWhatIsThere tasks x → NamesWhatIsThere tasks (record x { table = added (OfSet set) x.table; sets = x.sets ++ [] ∷ [] })
names_set tasks set x is names index other e =
    let longer : length (x.sets ++ [] ∷ []) ≡ suc (length x.sets) = length_more x.sets [] in
    elim (added_either (nat_eq (next_index x.table) index) (OfSet set) other (live x.table index) e) [
      | inl same ↦ subst (IsNamed tasks (length (x.sets ++ [] ∷ []))) same (let low : set < length (x.sets ++ [] ∷ []) = omega (arith, longer, is) in low)
      | inr old ↦ named_longer tasks (length x.sets) (length (x.sets ++ [] ∷ [])) other (omega (arith, longer)) (names index other old)
    ]

names_removed : (tasks : List Task) (gone : ℕ) (x : Inst) → NamesWhatIsThere tasks x → NamesWhatIsThere tasks (record x { table = Remove gone ∷ x.table })
names_removed tasks gone x names index other e = names index other (removed_before (nat_eq gone index) other (live x.table index) e)

names_sets : (tasks : List Task) (x : Inst) (sets : List (List ℕ)) → length sets ≡ length x.sets → NamesWhatIsThere tasks x → NamesWhatIsThere tasks (record x { sets = sets })
names_sets tasks x sets same names index other e = subst (λ (n : ℕ). IsNamed tasks n other) (sym same) (names index other e)

-- two changes at the same place
pub changed_twice : {A : Type 0} (n : ℕ) (f h : A → A) (xs : List A) → changed_at n h (changed_at n f xs) ≡ changed_at n (λ x. h (f x)) xs
changed_twice n f h [] = refl
changed_twice zero f h (x ∷ xs) = refl
changed_twice (suc n) f h (x ∷ xs) = ap (λ (l : List _). x ∷ l) (changed_twice n f h xs)

left_length : (index : ℕ) (all : List (List ℕ)) → length (left_sets index all) ≡ length all
left_length index [] = refl
left_length index (members ∷ all) = ap suc (left_length index all)

left_long : (index : ℕ) (all : List (List ℕ)) → length (by_views (sets.left index) all) ≡ length all
left_long index all = ap length (left_is index all) ∙ left_length index all

joined_long : (index set : ℕ) (all : List (List ℕ)) → length (by_views (sets.joined index set) all) ≡ length all
joined_long index set all = ap length (joined_is index set all) ∙ (length_changed set (λ members. members ++ index ∷ []) (left_sets index all) ∙ left_length index all)

drop_running : (tasks : List Task) (chain : List ℕ) → AllByRecursion (λ t. IsSome (slice_get tasks t)) chain → AllByRecursion (λ t. IsSome (slice_get tasks t)) (drop 1 chain)
drop_running tasks [] h = tt
drop_running tasks (t ∷ chain) h = h.1

insts_changed : (tasks : List Task) (i : ℕ) (f : Inst → Inst) (insts : List Inst) → ((x : Inst) → NamesWhatIsThere tasks x → NamesWhatIsThere tasks (f x)) → AllByRecursion (NamesWhatIsThere tasks) insts
    → AllByRecursion (NamesWhatIsThere tasks) (changed_at i f insts)
insts_changed tasks i f insts keeps h = all_changed (NamesWhatIsThere tasks) i f insts (λ x e p. keeps x p) h

leaves_chain : (tasks : List Task) (insts : List Inst) (chain : List ℕ) → AreNumbered tasks insts chain → AreNumbered tasks insts (drop 1 chain)
leaves_chain tasks insts chain h = with_chain tasks insts chain (drop 1 chain) h (drop_running tasks chain h.running)

pub numbered : (g : Graph) (s : Script) (c : Change) (w : World) → MayCome g s c w → IsNumbered w → IsNumbered (after c w)
numbered g s BeginsInstance w may h =
    with_entries w.tasks w.insts _ w.chain h (all_more (NamesWhatIsThere w.tasks) w.insts new_inst h.entries (λ index entry e. cc))
numbered g s (AddsEntry i entry) w may h =
    with_entries w.tasks w.insts _ w.chain h (insts_changed w.tasks i _ w.insts (λ x p. names_added w.tasks entry x may.1 p) h.entries)
numbered g s (MakesSet i set) w may h =
    with_entries w.tasks w.insts _ w.chain h
    (subst (AllByRecursion (NamesWhatIsThere w.tasks))
    (sym (changed_twice i (λ (inst : Inst). record inst { table = added (OfSet set) inst.table }) (λ (inst : Inst). record inst { sets = inst.sets ++ [] ∷ [] }) w.insts))
    (all_changed (NamesWhatIsThere w.tasks) i (λ inst. record inst { table = added (OfSet set) inst.table; sets = inst.sets ++ [] ∷ [] }) w.insts
    (λ x e p. names_set w.tasks set x (subst (λ (o : Option Inst). set ≡ length (sets_in o)) e may.1) p) h.entries))
numbered g s (RemovesEntry i index) w may h =
    with_entries w.tasks w.insts _ w.chain h (insts_changed w.tasks i _ w.insts (λ x p. names_removed w.tasks index x p) h.entries)
numbered g s (RemovesWaitable i index) w may h =
    with_entries w.tasks w.insts _ w.chain h
    (insts_changed w.tasks i _ _ (λ x p. names_sets w.tasks x (by_views (sets.left index) x.sets) (left_long index x.sets) p)
    (insts_changed w.tasks i _ w.insts (λ x p. names_removed w.tasks index x p) h.entries))
numbered g s (LeavesSet i index) w may h =
    with_entries w.tasks w.insts _ w.chain h (insts_changed w.tasks i _ w.insts (λ x p. names_sets w.tasks x (by_views (sets.left index) x.sets) (left_long index x.sets) p) h.entries)
numbered g s (JoinsSet i index set) w may h =
    with_entries w.tasks w.insts _ w.chain h
    (insts_changed w.tasks i _ w.insts
    (λ x p. names_sets w.tasks x (by_views (sets.joined index set) x.sets) (joined_long index set x.sets) p) h.entries)
numbered g s (HasBackpressure i pressure) w may h = with_entries w.tasks w.insts _ w.chain h (insts_changed w.tasks i _ w.insts (λ x p. p) h.entries)
numbered g s (IsCalled callee call values) w may h = tasks_more w.tasks w.insts w.chain (new_task callee (Host call values) New) may.0 tt h
numbered g s (Calls number callee subtask words) w may h =
    let f : Task → Task = λ task. record task { state = AfterCall (length w.tasks) number words } in
    tasks_more (changed_at subtask.by f w.tasks) w.insts w.chain (new_task callee (Guest subtask) New) may.0
    (within (changed_at subtask.by f w.tasks) subtask.by (there_changed w.tasks subtask.by subtask.by f may.1))
    (tasks_changed w.tasks w.insts w.chain subtask.by f (λ x. aside x (f x) refl refl) h)
numbered g s (ComesBack t) w may h = with_chain w.tasks w.insts w.chain (t ∷ w.chain) h (subst (λ (o : Option Task). IsSome o) (sym may.0.1) refl, h.running)
numbered g s (Acts t) w may h = tasks_changed w.tasks w.insts w.chain t _ (λ x. aside x _ refl refl) h
numbered g s (Begins n) w may h = tasks_changed w.tasks w.insts w.chain 0 _ (λ x. aside x _ refl refl) h
numbered g s (Cancels t callee number words) w may h = tasks_changed w.tasks w.insts w.chain t _ (λ x. aside x _ refl refl) h
numbered g s (Blocks t state) w may h = leaves_chain _ w.insts w.chain (tasks_changed w.tasks w.insts w.chain t _ (λ x. aside x _ refl refl) h)
numbered g s (Exits t) w may h = leaves_chain _ w.insts w.chain (tasks_changed w.tasks w.insts w.chain t _ (λ x. aside x _ refl refl) h)
numbered g s (IsRemoved t) w may h =
    tasks_changed _ w.insts w.chain t _ (λ x. aside x _ refl refl) (tasks_changed w.tasks w.insts w.chain t _ (λ x. aside x _ refl refl) h)
numbered g s (Resolves t resolution) w may h = tasks_changed w.tasks w.insts w.chain t _ (λ x. aside x _ refl refl) h
numbered g s (IsCancelled t cancellation) w may h = tasks_changed w.tasks w.insts w.chain t _ (λ x. aside x _ refl refl) h
numbered g s (HasWord t slot word) w may h = tasks_changed w.tasks w.insts w.chain t _ (λ x. aside x _ refl refl) h
numbered g s (HasNewStack t k) w may h = tasks_changed w.tasks w.insts w.chain t _ (λ x. aside x _ refl refl) h
numbered g s (HasStack t k) w may h = tasks_changed w.tasks w.insts w.chain t _ (λ x. aside x _ refl refl) h
numbered g s (LosesStack t) w may h = tasks_changed w.tasks w.insts w.chain t _ (λ x. aside x _ refl refl) h
numbered g s (IsAnswered t words) w may h = tasks_changed w.tasks w.insts w.chain t _ (λ x. aside x _ refl refl) h
numbered g s (IsTold t state) w may h = tasks_changed w.tasks w.insts w.chain t _ (λ x. of_subtask x _ (λ subtask. refl)) h
numbered g s (IsLent t handle) w may h = tasks_changed w.tasks w.insts w.chain t _ (λ x. of_subtask x _ (λ subtask. refl)) h
numbered g s (HasResult t words) w may h = tasks_changed w.tasks w.insts w.chain t _ (λ x. of_subtask x _ (λ subtask. refl)) h
numbered g s (MakesChannel kind element) w may h = made_kept IsNumbered (λ v x k. k) (λ v x k. k) kind element w h
numbered g s (Offers e call) w may h = channel_kept IsNumbered (λ v x k. k) (λ v x k. k) e.kind e.number _ w h
numbered g s (Transfers e size values) w may h =
    channel_kept IsNumbered (λ v x k. k) (λ v x k. k) e.kind e.number _ _ (channel_kept IsNumbered (λ v x k. k) (λ v x k. k) e.kind e.number _ w h)
numbered g s (Concludes e) w may h = channel_kept IsNumbered (λ v x k. k) (λ v x k. k) e.kind e.number _ w h
numbered g s (DropsEnd e) w may h = channel_kept IsNumbered (λ v x k. k) (λ v x k. k) e.kind e.number _ w h
numbered g s (GoesTo control) w may h = h
numbered g s (HasStore store) w may h = h
numbered g s SpendsUnit w may h = h
numbered g s (UsesPicks picks) w may h = h
numbered g s TakesItem w may h = h

first_called : (n : ℕ) (task : Task) → slice_get (new_task Init Nobody Acting ∷ []) n ≡ Some task → IsCalledAs n task
first_called zero task e = let same : new_task Init Nobody Acting ≡ task = cc in subst (IsCalledAs 0) same (refl, refl)
first_called (suc n) task e = cc

pub first_numbered : FirstNumbered
first_numbered g = record { instantiates = refl; called = first_called; running = (refl, tt); entries = tt }

pub stays_numbered : StaysNumbered
stays_numbered g s w v labels alone h e = kept_alone g s IsNumbered (numbered g s) w v labels alone h e

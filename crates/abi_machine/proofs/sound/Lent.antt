-- What is lent for a call stands in the table of the instance that calls, and so it stays.
use Rattle.std.proofs.Common.{◌≡◌, ◌≢◌, inl, inr, ℕ, zero, suc, ◌+◌, Bool, true, false, cond, nat_eq, ◌&&◌, fold, count_by, List, [], ◌∷◌, ◌++◌, length, refl, sym, ap, ◌∙◌, subst, arith, Option, Some, None, if◌then◌else◌}
use Rattle.std.proofs.lemmas.Bool.Decides.{nat_tests}
use Rattle.std.specs.Prelude.{IsSome}
use Rattle.std.specs.List.{slice_get, AllByRecursion}
use Rattle.std.specs.Option.{option_map}
use Rattle.wasm_store.proofs.Lists.{all_at}
use Rattle.syntax_trees.specs.declared.types.ValType.{ValType}
use Rattle.handle_table.specs.History.{Event, Remove, IsHistory, live}
use Rattle.builtin_kinds.specs.declared.EndKind.{EndKind}
use Rattle.builtin_kinds.specs.declared.EndKind.TheVariants.{Stream, Future}
use Rattle.tasks.specs.declared.phase.Resolution.TheVariants.{Cancelled}
use Rattle.tasks.specs.declared.subtask_state.SubtaskState.{SubtaskState}
use Rattle.tasks.specs.Subtasks.{is_over, delivered, with_lend}
use Rattle.comp_graph.specs.declared.graph.CanonFunc.{CanonFunc}
use Rattle.comp_graph.specs.Graph.{Graph}
use Rattle.script_reader.specs.Script.{Script}
use Rattle.abi_machine.specs.World.{Entry, OwnHandle, BorrowHandle, OfSubtask, OfSet, OfEnd, Inst, Callee, Subtask, Caller, Nobody, Host, Guest, New, Exited, AfterCall, Task, Channel, World, new_inst, new_task}
use Rattle.abi_machine.specs.Edits.{changed_at, with_channel, channel_made, caller_changed, by_view}
use Rattle.abi_machine.specs.Canons.{inst_of_canon, canon_at}
use Rattle.abi_machine.specs.Reading.{table_in, task_at, func_of, is_in, runs_in, subtask_of}
use Rattle.abi_machine.specs.Counting.{passes, lends_for, lends_of}
use Rattle.abi_machine.specs.sound.Changes.{Change, GoesTo, HasStore, SpendsUnit, UsesPicks, TakesItem, BeginsInstance, AddsEntry, MakesSet, RemovesEntry, RemovesWaitable, LeavesSet, JoinsSet, HasBackpressure, IsCalled, Calls, ComesBack, Acts, Begins, Cancels, Blocks, Exits, IsRemoved, Resolves, IsCancelled, HasWord, HasNewStack, HasStack, LosesStack, IsAnswered, IsTold, IsLent, HasResult, MakesChannel, Offers, Transfers, Concludes, DropsEnd, after, IsWaitable, Stands}
use Rattle.abi_machine.specs.sound.Premises.{IsHandle, IsFree, IsOpenCall, IsOpenOf, PassBorrow, MayBeLent, Comes}
use Rattle.abi_machine.specs.sound.Tables.{HaveHistories}
use Rattle.abi_machine.specs.sound.Loans.{HoldsHandle, table_of_canon, AreLoans, LoansOf, HoldLoans, FirstHoldsLoans, LoansStay}
use Rattle.abi_machine.specs.sound.PassedTypes.{PassesNoBorrow, HoldsNoBorrow}
use Rattle.abi_machine.specs.sound.OwnCallers.{MadeByOwn, IsByOwn, AreByOwn}
use Rattle.abi_machine.proofs.sound.Lists.{all_changed, all_more, all_as, get_front, there_front}
use Rattle.abi_machine.proofs.sound.Found.{some_same, some_there, there_changed, changed_kept}
use Rattle.abi_machine.proofs.sound.Acted.{one_task}
use Rattle.abi_machine.proofs.sound.Histories.{histories_kept}
use Rattle.abi_machine.proofs.sound.Joined.{live_added, live_removed}
use Rattle.abi_machine.proofs.sound.Holding.{live_changed}
use Rattle.abi_machine.proofs.sound.Unborrowed.{holds_kept}
use Rattle.abi_machine.proofs.sound.Alone.{comes_may, kept_so}
use Rattle.abi_machine.proofs.sound.Looping.{runs_here}
use Rattle.abi_machine.proofs.sound.OwnCalling.{by_own_stay}

-- A task calls by canonical functions of its own instance.
abbrev pub CallsByOwn : Graph → List Task → Task → Type 0
CallsByOwn g tasks task =
    (subtask : Subtask) (c : CanonFunc) (caller : Task) → subtask_of task.caller ≡ Some subtask → canon_at g subtask.canon ≡ Some c → slice_get tasks subtask.by ≡ Some caller
    → runs_in (inst_of_canon c) caller ≡ true

abbrev pub CallByOwn : Graph → List Task → Type 0
CallByOwn g tasks = AllByRecursion (CallsByOwn g tasks) tasks

calls_own : (g : Graph) (tasks : List Task) (by : Caller) (subtask : Subtask) (c : CanonFunc) (caller : Task) → subtask_of by ≡ Some subtask → canon_at g subtask.canon ≡ Some c
    → slice_get tasks subtask.by ≡ Some caller → IsByOwn g tasks by → runs_in (inst_of_canon c) caller ≡ true
calls_own g tasks Nobody subtask c caller e i there h = cc
calls_own g tasks (Host call values) subtask c caller e i there h = cc
calls_own g tasks (Guest y) subtask c caller e i there h =
    let same : y ≡ subtask = some_same e in
    let made : MadeByOwn g y.canon caller = one_task tasks y.by (MadeByOwn g y.canon) caller (ap (λ (z : Subtask). slice_get tasks z.by) same ∙ there) h in
    let made_it : option_map inst_of_canon (canon_at g y.canon) ≡ Some (inst_of_canon c) = ap (option_map inst_of_canon) (ap (λ (z : Subtask). canon_at g z.canon) same ∙ i) in
    runs_here (inst_of_canon c) 0 (func_of caller.callee) made.0 made.1 (some_same (sym made.2 ∙ made_it))

pub call_own : (g : Graph) (tasks : List Task) → AreByOwn g tasks → CallByOwn g tasks
call_own g tasks h =
    all_as (λ (x : Task). IsByOwn g tasks x.caller) (CallsByOwn g tasks) (λ x k subtask c caller e i there. calls_own g tasks x.caller subtask c caller e i there k) tasks h

-- That tasks call by canonical functions of their instances was so before each change.

all_back : {A : Type 0} (P Q : A → Type 0) (n : ℕ) (f : A → A) (xs : List A) → ((x : A) → Q x → P x) → ((x : A) → Q (f x) → P x) → AllByRecursion Q (changed_at n f xs) → AllByRecursion P xs
all_back P Q n f [] keeps back h = tt
all_back P Q zero f (x ∷ xs) keeps back h = (back x h.0, all_as Q P keeps xs h.1)
all_back P Q (suc n) f (x ∷ xs) keeps back h = (keeps x h.0, all_back P Q n f xs keeps back h.1)

all_front : {A : Type 0} (P : A → Type 0) (xs : List A) (x : A) → AllByRecursion P (xs ++ x ∷ []) → AllByRecursion P xs
all_front P [] x h = tt
all_front P (y ∷ xs) x h = (h.0, all_front P xs x h.1)

-- An edit of a task leaves what it runs, who calls it and by which canonical function.
abbrev CallsAlike : (Task → Task) → Type 0
CallsAlike f =
    (x : Task) (subtask : Subtask) → subtask_of x.caller ≡ Some subtask
    → (later : Subtask) × (subtask_of (f x).caller ≡ Some later) × (later.by ≡ subtask.by) × (later.canon ≡ subtask.canon)

same_calls : (f : Task → Task) → ((x : Task) → (f x).caller ≡ x.caller) → CallsAlike f
same_calls f same x subtask e = (subtask, ap subtask_of (same x) ∙ e, refl, refl)

changed_calls : (edit : Subtask → Subtask) → ((y : Subtask) → (edit y).by ≡ y.by) → ((y : Subtask) → (edit y).canon ≡ y.canon) → CallsAlike (λ task. record task { caller = caller_changed edit task.caller })
changed_calls edit by_same canon_same x subtask e = by x.caller e
  where
    by : (c : Caller) → subtask_of c ≡ Some subtask → (later : Subtask) × (subtask_of (caller_changed edit c) ≡ Some later) × (later.by ≡ subtask.by) × (later.canon ≡ subtask.canon)
    by Nobody k = cc
    by (Host call values) k = cc
    by (Guest y) k = (edit y, refl, by_same y ∙ ap (λ (z : Subtask). z.by) (some_same k), canon_same y ∙ ap (λ (z : Subtask). z.canon) (some_same k))

module _ (g : Graph) (tasks : List Task) where
  own_back : (t : ℕ) (f : Task → Task) → ((x : Task) → (f x).callee ≡ x.callee) → (x : Task) → CallsByOwn g (changed_at t f tasks) x → CallsByOwn g tasks x
  own_back t f callee x h subtask c caller e i there = elim (changed_kept t f tasks subtask.by caller there) [
    | inl old ↦ h subtask c caller e i old
    | inr new ↦ subst (λ (k : Callee). is_in (inst_of_canon c) (func_of k) ≡ true) (callee caller) (h subtask c (f caller) e i new)
  ]

  own_changed : (t : ℕ) (f : Task → Task) → ((x : Task) → (f x).callee ≡ x.callee) → CallsAlike f → (x : Task) → CallsByOwn g (changed_at t f tasks) (f x) → CallsByOwn g tasks x
  own_changed t f callee alike x h =
      own_back t f callee x (λ subtask c caller e i there.
      let later = alike x subtask e in
      h later.0 c caller later.1 (ap (canon_at g) later.3 ∙ i) (ap (slice_get (changed_at t f tasks)) later.2 ∙ there))

  task_own : (t : ℕ) (f : Task → Task) → ((x : Task) → (f x).callee ≡ x.callee) → CallsAlike f → CallByOwn g (changed_at t f tasks) → CallByOwn g tasks
  task_own t f callee alike h = all_back (CallsByOwn g tasks) (CallsByOwn g (changed_at t f tasks)) t f tasks (own_back t f callee) (own_changed t f callee alike) h

  own_edit : (t : ℕ) (f : Task → Task) → CallByOwn g (changed_at t f tasks) → ((x : Task) → (f x).callee ≡ x.callee) → ((x : Task) → (f x).caller ≡ x.caller) → CallByOwn g tasks
  own_edit t f h callee caller = task_own t f callee (same_calls f caller) h

  more_own : (new : Task) → CallByOwn g (tasks ++ new ∷ []) → CallByOwn g tasks
  more_own new h =
      all_as (CallsByOwn g (tasks ++ new ∷ [])) (CallsByOwn g tasks) (λ x k subtask c caller e i there. k subtask c caller e i (get_front tasks new subtask.by caller there)) tasks
      (all_front (CallsByOwn g (tasks ++ new ∷ [])) tasks new h)

-- streams and futures that are changed
abbrev Own : Graph → World → Type 0
Own g w = CallByOwn g w.tasks

channel_own : (g : Graph) (kind : EndKind) (number : ℕ) (f : Channel → Channel) (w : World) → Own g (with_channel kind number f w) → Own g w
channel_own g Stream number f w h = h
channel_own g Future number f w h = h

made_own : (g : Graph) (kind : EndKind) (element : Option ValType) (w : World) → Own g (channel_made kind element w) → Own g w
made_own g Stream element w h = h
made_own g Future element w h = h

pub own_before : (g : Graph) (c : Change) (w : World) → Own g (after c w) → Own g w
own_before g (IsCalled callee call values) w h = more_own g w.tasks (new_task callee (Host call values) New) h
own_before g (Calls number callee subtask words) w h =
    let f : Task → Task = λ task. record task { state = AfterCall (length w.tasks) number words } in
    task_own g w.tasks subtask.by f (λ x. refl) (same_calls f (λ x. refl)) (more_own g (changed_at subtask.by f w.tasks) (new_task callee (Guest subtask) New) h)
own_before g (Acts t) w h = own_edit g w.tasks t _ h (λ x. refl) (λ x. refl)
own_before g (Begins n) w h = own_edit g w.tasks 0 _ h (λ x. refl) (λ x. refl)
own_before g (Cancels t callee number words) w h = own_edit g w.tasks t _ h (λ x. refl) (λ x. refl)
own_before g (Blocks t state) w h = own_edit g w.tasks t _ h (λ x. refl) (λ x. refl)
own_before g (Exits t) w h = own_edit g w.tasks t _ h (λ x. refl) (λ x. refl)
own_before g (IsRemoved t) w h =
    own_edit g w.tasks t (λ task. record task { resolution = Some Cancelled }) (own_edit g _ t (λ task. record task { state = Exited }) h (λ x. refl) (λ x. refl)) (λ x. refl) (λ x. refl)
own_before g (Resolves t resolution) w h = own_edit g w.tasks t _ h (λ x. refl) (λ x. refl)
own_before g (IsCancelled t cancellation) w h = own_edit g w.tasks t _ h (λ x. refl) (λ x. refl)
own_before g (HasWord t slot word) w h = own_edit g w.tasks t _ h (λ x. refl) (λ x. refl)
own_before g (HasNewStack t k) w h = own_edit g w.tasks t _ h (λ x. refl) (λ x. refl)
own_before g (HasStack t k) w h = own_edit g w.tasks t _ h (λ x. refl) (λ x. refl)
own_before g (LosesStack t) w h = own_edit g w.tasks t _ h (λ x. refl) (λ x. refl)
own_before g (IsAnswered t words) w h = own_edit g w.tasks t _ h (λ x. refl) (λ x. refl)
own_before g (IsTold t state) w h = task_own g w.tasks t _ (λ x. refl) (changed_calls (by_view delivered t state) (λ y. refl) (λ y. refl)) h
own_before g (IsLent t handle) w h = task_own g w.tasks t _ (λ x. refl) (changed_calls (λ y. by_view (with_lend handle) t y.told y) (λ y. refl) (λ y. refl)) h
own_before g (HasResult t words) w h = task_own g w.tasks t _ (λ x. refl) (changed_calls (λ y. record y { result = words }) (λ y. refl) (λ y. refl)) h
own_before g (MakesChannel kind element) w h = made_own g kind element w h
own_before g (Offers e call) w h = channel_own g e.kind e.number _ w h
own_before g (Transfers e size values) w h = channel_own g e.kind e.number _ w (channel_own g e.kind e.number _ _ h)
own_before g (Concludes e) w h = channel_own g e.kind e.number _ w h
own_before g (DropsEnd e) w h = channel_own g e.kind e.number _ w h
own_before g (GoesTo control) w h = h
own_before g (HasStore store) w h = h
own_before g SpendsUnit w h = h
own_before g (UsesPicks picks) w h = h
own_before g TakesItem w h = h
own_before g BeginsInstance w h = h
own_before g (AddsEntry i entry) w h = h
own_before g (MakesSet i set) w h = h
own_before g (RemovesEntry i index) w h = h
own_before g (RemovesWaitable i index) w h = h
own_before g (LeavesSet i index) w h = h
own_before g (JoinsSet i index set) w h = h
own_before g (HasBackpressure i pressure) w h = h
own_before g (ComesBack t) w h = h

-- Tasks that are changed, and one more.

of_others : (g : Graph) (tasks others : List Task) (insts : List Inst) → ((n : ℕ) → IsSome (slice_get tasks n) → IsSome (slice_get others n)) → (c : Caller) → LoansOf g tasks insts c → LoansOf g others insts c
of_others g tasks others insts more Nobody h = tt
of_others g tasks others insts more (Host call values) h = tt
of_others g tasks others insts more (Guest subtask) h = record { caller = more subtask.by h.caller; stand = h.stand; given_back = h.given_back }

task_loans : (g : Graph) (insts : List Inst) (t : ℕ) (f : Task → Task) (tasks : List Task) → ((x : Task) → slice_get tasks t ≡ Some x → LoansOf g tasks insts x.caller → LoansOf g tasks insts (f x).caller)
    → HoldLoans g tasks insts → HoldLoans g (changed_at t f tasks) insts
task_loans g insts t f tasks keeps h =
    all_as (λ (x : Task). LoansOf g tasks insts x.caller) (λ (x : Task). LoansOf g (changed_at t f tasks) insts x.caller)
    (λ x k. of_others g tasks (changed_at t f tasks) insts (λ n there. there_changed tasks t n f there) x.caller k) (changed_at t f tasks)
    (all_changed (λ (x : Task). LoansOf g tasks insts x.caller) t f tasks keeps h)

more_loans : (g : Graph) (insts : List Inst) (tasks : List Task) (new : Task) → LoansOf g (tasks ++ new ∷ []) insts new.caller → HoldLoans g tasks insts → HoldLoans g (tasks ++ new ∷ []) insts
more_loans g insts tasks new last h =
    all_more (λ (x : Task). LoansOf g (tasks ++ new ∷ []) insts x.caller) tasks new
    (all_as (λ (x : Task). LoansOf g tasks insts x.caller) (λ (x : Task). LoansOf g (tasks ++ new ∷ []) insts x.caller)
    (λ x k. of_others g tasks (tasks ++ new ∷ []) insts (λ n there. there_front tasks new n there) x.caller k) tasks h) last

-- a call with these loans in place of others
with_loans : (g : Graph) (tasks : List Task) (insts : List Inst) (old : Subtask) (new : Subtask) → new.by ≡ old.by
    → ((c : CanonFunc) → canon_at g new.canon ≡ Some c → AllByRecursion (HoldsHandle (table_of_canon insts c)) new.lends) → (is_over new.told ≡ true → new.lends ≡ [])
    → AreLoans g tasks insts old → AreLoans g tasks insts new
with_loans g tasks insts old new same stand back h = record { caller = subst (λ (n : ℕ). IsSome (slice_get tasks n)) (sym same) h.caller; stand = stand; given_back = back }

left_over : (P : ℕ → Type 0) (b : Bool) (lends : List ℕ) → AllByRecursion P lends → AllByRecursion P (if b then [] else lends)
left_over P true lends h = tt
left_over P false lends h = h

none_over : (b : Bool) (lends : List ℕ) → b ≡ true → (if b then [] else lends) ≡ []
none_over true lends e = refl
none_over false lends e = cc

told_loans : (g : Graph) (tasks : List Task) (insts : List Inst) (t : ℕ) (state : SubtaskState) (c : Caller) → LoansOf g tasks insts c → LoansOf g tasks insts (caller_changed (by_view delivered t state) c)
told_loans g tasks insts t state Nobody h = tt
told_loans g tasks insts t state (Host call values) h = tt
told_loans g tasks insts t state (Guest subtask) h =
    with_loans g tasks insts subtask (by_view delivered t state subtask) refl (λ c e. left_over (HoldsHandle (table_of_canon insts c)) (is_over state) subtask.lends (h.stand c e))
    (λ over. none_over (is_over state) subtask.lends over) h

kept_loans : (g : Graph) (tasks : List Task) (insts : List Inst) (words : List ℕ) (c : Caller) → LoansOf g tasks insts c → LoansOf g tasks insts (caller_changed (λ subtask. record subtask { result = words }) c)
kept_loans g tasks insts words Nobody h = tt
kept_loans g tasks insts words (Host call values) h = tt
kept_loans g tasks insts words (Guest subtask) h = with_loans g tasks insts subtask (record subtask { result = words }) refl h.stand h.given_back h

-- A handle is lent for an open call.
lent_loans : (g : Graph) (w : World) (t handle i number : ℕ) (c : CanonFunc) (caller : Caller) → canon_at g number ≡ Some c → inst_of_canon c ≡ i → Stands w i handle IsHandle → IsOpenCall number caller
    → LoansOf g w.tasks w.insts caller → LoansOf g w.tasks w.insts (caller_changed (λ subtask. by_view (with_lend handle) t subtask.told subtask) caller)
lent_loans g w t handle i number c Nobody is at there call h = tt
lent_loans g w t handle i number c (Host n values) is at there call h = tt
lent_loans g w t handle i number c (Guest subtask) is at there call h =
    with_loans g w.tasks w.insts subtask (by_view (with_lend handle) t subtask.told subtask) refl
    (λ d e.
    let same : c ≡ d = some_same (sym is ∙ (ap (canon_at g) (sym call.0) ∙ e)) in
    let here : HoldsHandle (table_of_canon w.insts d) handle =
    subst (λ (x : CanonFunc). HoldsHandle (table_of_canon w.insts x) handle) same (subst (λ (n : ℕ). HoldsHandle (table_in (slice_get w.insts n)) handle) (sym at) there) in
    all_more (HoldsHandle (table_of_canon w.insts d)) subtask.lends handle (h.stand d e) here)
    (λ over. (let clash : true ≡ false = sym over ∙ call.1 in cc)) h

no_borrow : (g : Graph) (w : World) → PassesNoBorrow g → HoldsNoBorrow w → PassBorrow g w → ⊥
no_borrow g w none holds (inl b) = none b
no_borrow g w none holds (inr (inl b)) = holds.results b
no_borrow g w none holds (inr (inr b)) = holds.elements b

lent_kept : (g : Graph) (w : World) (t handle : ℕ) → MayBeLent g w t handle → PassesNoBorrow g → HoldsNoBorrow w → (x : Task) → slice_get w.tasks t ≡ Some x → LoansOf g w.tasks w.insts x.caller
    → LoansOf g w.tasks w.insts (caller_changed (λ subtask. by_view (with_lend handle) t subtask.told subtask) x.caller)
lent_kept g w t handle may none holds x there h = elim may.2 [
  | inl a ↦ lent_loans g w t handle may.0 a.0 a.1 x.caller a.2 a.3 may.1 (one_task w.tasks t (IsOpenOf a.0) x there a.4) h
  | inr b ↦ absurd (no_borrow g w none holds b)
]

-- Tables that are changed.

-- what is not lent does not stand among what is
pub none_of_sum : {A : Type 0} (f : A → ℕ) (xs : List A) (n : ℕ) → fold (λ a x. a + f x) n xs ≡ 0 → (n ≡ 0) × AllByRecursion (λ x. f x ≡ 0) xs
none_of_sum f [] n e = (e, tt)
none_of_sum f (x ∷ xs) n e =
    let rest = none_of_sum f xs (n + f x) e in
    let none : n + f x ≡ 0 = rest.0 in
    ((omega (arith, none)), ((omega (arith, none)), rest.1))

counted_not : (b : Bool) → (let n : ℕ = cond b 1 0 in n) ≡ 0 → b ≡ false
counted_not true e = cc
counted_not false e = refl

apart_from : (gone handle : ℕ) → (let n : ℕ = cond (nat_eq handle gone) 1 0 in n) ≡ 0 → gone ≢ handle
apart_from gone handle e same =
    let here : nat_eq handle gone ≡ true = grind (arith, nat_tests, same) in
    let clash : true ≡ false = sym here ∙ counted_not (nat_eq handle gone) e in cc

not_among : (here : Bool) (gone : ℕ) (lends : List ℕ) → here ≡ true → count_by (λ (handle : ℕ). here && nat_eq handle gone) lends ≡ 0 → AllByRecursion (λ handle. gone ≢ handle) lends
not_among true gone lends e none = all_as _ _ (λ handle k. apart_from gone handle k) lends (none_of_sum _ lends 0 none).1
not_among false gone lends e none = cc

later_all : {A B : Type 0} (P : B → Type 0) (xs : List B) → (A → AllByRecursion P xs) → AllByRecursion (λ x. A → P x) xs
later_all P [] h = tt
later_all P (x ∷ xs) h = (λ a. (h a).0, later_all P xs (λ a. (h a).1))

all_both : {A : Type 0} (P Q : A → Type 0) (xs : List A) → AllByRecursion P xs → AllByRecursion Q xs → AllByRecursion (λ x. P x × Q x) xs
all_both P Q [] h k = tt
all_both P Q (x ∷ xs) h k = ((h.0, k.0), all_both P Q xs h.1 k.1)

-- Where a task calls by canonical functions of its instance, a handle of which nothing is lent is not among its loans.
pub unlent_apart : (g : Graph) (w : World) (i gone : ℕ) (x : Task) (subtask : Subtask) (c : CanonFunc) → subtask_of x.caller ≡ Some subtask → canon_at g subtask.canon ≡ Some c → CallsByOwn g w.tasks x
    → IsSome (slice_get w.tasks subtask.by) → lends_for (λ t. passes (runs_in i) (task_at w t)) gone (subtask_of x.caller) ≡ 0 → inst_of_canon c ≡ i → AllByRecursion (λ handle. gone ≢ handle) subtask.lends
unlent_apart g w i gone x subtask c e is own there none at =
    let caller = some_there (slice_get w.tasks subtask.by) there in
    let runs : runs_in i caller.0 ≡ true = subst (λ (n : ℕ). runs_in n caller.0 ≡ true) at (own subtask c caller.0 e is caller.1) in
    let here : passes (runs_in i) (task_at w subtask.by) ≡ true = ap (passes (runs_in i)) caller.1 ∙ runs in
    not_among (passes (runs_in i) (task_at w subtask.by)) gone subtask.lends here (subst (λ (o : Option Subtask). lends_for (λ t. passes (runs_in i) (task_at w t)) gone o ≡ 0) e none)

-- the loans of a call, in tables that are changed
abbrev KeepsHandles : List Inst → List Inst → ℕ → ℕ → Type 0
KeepsHandles insts others j index = HoldsHandle (table_in (slice_get insts j)) index → HoldsHandle (table_in (slice_get others j)) index

insts_loans : (g : Graph) (tasks : List Task) (insts others : List Inst) → ((j index : ℕ) → KeepsHandles insts others j index) → HoldLoans g tasks insts → HoldLoans g tasks others
insts_loans g tasks insts others keeps h = all_as (λ (x : Task). LoansOf g tasks insts x.caller) (λ (x : Task). LoansOf g tasks others x.caller) (λ x k. by x.caller k) tasks h
  where
    by : (c : Caller) → LoansOf g tasks insts c → LoansOf g tasks others c
    by Nobody k = tt
    by (Host call values) k = tt
    by (Guest subtask) k = record {
      caller = k.caller;
      stand = λ c e. all_as (HoldsHandle (table_of_canon insts c)) (HoldsHandle (table_of_canon others c)) (λ index l. keeps (inst_of_canon c) index l) subtask.lends (k.stand c e);
      given_back = k.given_back;
    }

handle_kept : (insts : List Inst) (i : ℕ) (f : Inst → Inst) (j index : ℕ)
    → ((entry : Entry) (inst : Inst) → IsHandle entry → j ≡ i → slice_get insts i ≡ Some inst → live inst.table index ≡ Some entry → live (f inst).table index ≡ Some entry)
    → KeepsHandles insts (changed_at i f insts) j index
handle_kept insts i f j index keeps h = (h.0, live_changed insts i f j index h.0 (λ inst at found k. keeps h.0 inst h.2 at found k) h.1, h.2)

table_same : (insts : List Inst) (i : ℕ) (f : Inst → Inst) → ((x : Inst) → (f x).table ≡ x.table) → (j index : ℕ) → KeepsHandles insts (changed_at i f insts) j index
table_same insts i f same j index =
    handle_kept insts i f j index (λ entry inst is at found k. subst (λ (t : List (Event Entry)). live t index ≡ Some entry) (sym (same inst)) k)

add_keeps : (w : World) (i : ℕ) (entry : Entry) → HaveHistories w.insts → (j index : ℕ) → KeepsHandles w.insts (after (AddsEntry i entry) w).insts j index
add_keeps w i entry history j index =
    handle_kept w.insts i _ j index
    (λ old inst is at found k. live_added inst.table entry old index (all_at (λ (x : Inst). IsHistory x.table) w.insts i inst history found) k)

pub waitable_is_no_handle : (entry : Entry) → IsWaitable entry → IsHandle entry → ⊥
waitable_is_no_handle (OwnHandle resource rep) waits is = waits
waitable_is_no_handle (BorrowHandle resource rep task) waits is = waits
waitable_is_no_handle (OfSubtask callee) waits is = is
waitable_is_no_handle (OfSet set) waits is = waits
waitable_is_no_handle (OfEnd e) waits is = is

take_keeps : (w : World) (i gone : ℕ) (entry : Entry) → live (table_in (slice_get w.insts i)) gone ≡ Some entry → IsWaitable entry → (j index : ℕ)
    → KeepsHandles w.insts (after (RemovesEntry i gone) w).insts j index
take_keeps w i gone entry there waits j index =
    handle_kept w.insts i _ j index
    (λ old inst is at found k.
    live_removed inst.table gone index old
    (λ same.
    let both : entry ≡ old = some_same (sym (subst (λ (o : Option Inst). live (table_in o) gone ≡ Some entry) found there) ∙ (ap (live inst.table) same ∙ k)) in
    waitable_is_no_handle entry waits (subst IsHandle (sym both) is)) k)

begun_keeps : (insts : List Inst) (j index : ℕ) → KeepsHandles insts (insts ++ new_inst ∷ []) j index
begun_keeps insts j index h = (h.0, by (slice_get insts j) refl h.1, h.2)
  where
    by : (o : Option Inst) → slice_get insts j ≡ o → live (table_in o) index ≡ Some h.0 → live (table_in (slice_get (insts ++ new_inst ∷ []) j)) index ≡ Some h.0
    by None e k = cc
    by (Some inst) e k = subst (λ (o : Option Inst). live (table_in o) index ≡ Some h.0) (sym (get_front insts new_inst j inst e)) k

-- A handle of which nothing is lent, or a set, leaves its table.
abbrev IsRemovedFrom : ℕ → ℕ → List Inst → List Inst
IsRemovedFrom i gone insts = changed_at i (λ inst. record inst { table = Remove gone ∷ inst.table }) insts

gone_apart : (g : Graph) (w : World) (i gone : ℕ) → (j index : ℕ) → (j ≡ i → gone ≢ index) → KeepsHandles w.insts (IsRemovedFrom i gone w.insts) j index
gone_apart g w i gone j index apart = handle_kept w.insts i _ j index (λ old inst is at found k. live_removed inst.table gone index old (apart at) k)

-- what is known of a task where nothing is lent of the handle that leaves
abbrev IsKnown : Graph → World → ℕ → ℕ → Task → Type 0
IsKnown g w i gone x = CallsByOwn g w.tasks x × (lends_for (λ t. passes (runs_in i) (task_at w t)) gone (subtask_of x.caller) ≡ 0)

unlent_gone : (g : Graph) (w : World) (i gone : ℕ) → CallByOwn g w.tasks → lends_of w i gone ≡ 0 → HoldLoans g w.tasks w.insts → HoldLoans g w.tasks (IsRemovedFrom i gone w.insts)
unlent_gone g w i gone own none h =
    all_as (λ (x : Task). IsKnown g w i gone x × LoansOf g w.tasks w.insts x.caller) (λ (x : Task). LoansOf g w.tasks (IsRemovedFrom i gone w.insts) x.caller) (λ x k. by x x.caller refl k.0 k.1) w.tasks
    (all_both (IsKnown g w i gone) (λ (x : Task). LoansOf g w.tasks w.insts x.caller) w.tasks
    (all_both (CallsByOwn g w.tasks) (λ (x : Task). lends_for (λ t. passes (runs_in i) (task_at w t)) gone (subtask_of x.caller) ≡ 0) w.tasks own (none_of_sum _ w.tasks 0 none).1) h)
  where
    stands : (x : Task) (subtask : Subtask) → subtask_of x.caller ≡ Some subtask → IsKnown g w i gone x → AreLoans g w.tasks w.insts subtask → (c : CanonFunc) → canon_at g subtask.canon ≡ Some c
        → AllByRecursion (HoldsHandle (table_of_canon (IsRemovedFrom i gone w.insts) c)) subtask.lends
    stands x subtask e known k c is =
        all_as (λ (index : ℕ). HoldsHandle (table_of_canon w.insts c) index × (inst_of_canon c ≡ i → gone ≢ index)) (HoldsHandle (table_of_canon (IsRemovedFrom i gone w.insts) c))
        (λ index l. gone_apart g w i gone (inst_of_canon c) index l.1 l.0) subtask.lends
        (all_both (HoldsHandle (table_of_canon w.insts c)) (λ (index : ℕ). inst_of_canon c ≡ i → gone ≢ index) subtask.lends (k.stand c is)
        (later_all (λ (index : ℕ). gone ≢ index) subtask.lends (λ at. unlent_apart g w i gone x subtask c e is known.0 k.caller known.1 at)))

    by : (x : Task) (c : Caller) → x.caller ≡ c → IsKnown g w i gone x → LoansOf g w.tasks w.insts c → LoansOf g w.tasks (IsRemovedFrom i gone w.insts) c
    by x Nobody e known k = tt
    by x (Host call values) e known k = tt
    by x (Guest subtask) e known k = record { caller = k.caller; stand = stands x subtask (ap subtask_of e) known k; given_back = k.given_back }

set_is_no_handle : (set : ℕ) (entry : Entry) → entry ≡ OfSet set → IsHandle entry → ⊥
set_is_no_handle set entry e is = subst IsHandle e is

free_gone : (g : Graph) (w : World) (i gone : ℕ) (entry : Entry) → live (table_in (slice_get w.insts i)) gone ≡ Some entry → IsFree w i gone entry → CallByOwn g w.tasks → HoldLoans g w.tasks w.insts
    → HoldLoans g w.tasks (IsRemovedFrom i gone w.insts)
free_gone g w i gone (OwnHandle resource rep) there free own h = unlent_gone g w i gone own free.1 h
free_gone g w i gone (BorrowHandle resource rep task) there free own h = unlent_gone g w i gone own free.1 h
free_gone g w i gone (OfSubtask callee) there free own h = absurd free.0
free_gone g w i gone (OfEnd e) there free own h = absurd free.0
free_gone g w i gone (OfSet set) there free own h =
    insts_loans g w.tasks w.insts _
    (λ j index.
    handle_kept w.insts i _ j index
    (λ old inst is at found k.
    live_removed inst.table gone index old
    (λ same.
    let both : OfSet set ≡ old = some_same (sym (subst (λ (o : Option Inst). live (table_in o) gone ≡ Some (OfSet set)) found there) ∙ (ap (live inst.table) same ∙ k)) in
    set_is_no_handle set old (sym both) is) k)) h

-- Every change.

abbrev Has : Graph → World → Type 0
Has g w = HoldLoans g w.tasks w.insts

-- An edit of streams and futures leaves tasks and instances alone.
beside : (g : Graph) (kind : EndKind) (number : ℕ) (f : Channel → Channel) (w : World) → Has g w → Has g (with_channel kind number f w)
beside g Stream number f w h = h
beside g Future number f w h = h

beside_made : (g : Graph) (kind : EndKind) (element : Option ValType) (w : World) → Has g w → Has g (channel_made kind element w)
beside_made g Stream element w h = h
beside_made g Future element w h = h

-- what is known of a world beside its loans
pub record IsKnownOf (g : Graph) (w : World) : Type 0 where
  pub history : HaveHistories w.insts
  pub none : PassesNoBorrow g
  pub holds : HoldsNoBorrow w
  pub own : CallByOwn g w.tasks

pub loans_kept : (g : Graph) (s : Script) (c : Change) (w : World) → Comes g s c w → IsKnownOf g w → Has g w → Has g (after c w)
loans_kept g s BeginsInstance w may known h = insts_loans g w.tasks w.insts _ (begun_keeps w.insts) h
loans_kept g s (AddsEntry i entry) w may known h = insts_loans g w.tasks w.insts _ (add_keeps w i entry known.history) h
loans_kept g s (MakesSet i set) w may known h =
    insts_loans g w.tasks _ _ (table_same (after (AddsEntry i (OfSet set)) w).insts i _ (λ x. refl)) (insts_loans g w.tasks w.insts _ (add_keeps w i (OfSet set) known.history) h)
loans_kept g s (RemovesEntry i index) w may known h = free_gone g w i index may.0 may.1 may.2 known.own h
loans_kept g s (RemovesWaitable i index) w may known h =
    insts_loans g w.tasks _ _ (table_same (after (RemovesEntry i index) w).insts i _ (λ x. refl)) (insts_loans g w.tasks w.insts _ (take_keeps w i index may.0 may.1 may.2.0) h)
loans_kept g s (LeavesSet i index) w may known h = insts_loans g w.tasks w.insts _ (table_same w.insts i _ (λ x. refl)) h
loans_kept g s (JoinsSet i index set) w may known h = insts_loans g w.tasks w.insts _ (table_same w.insts i _ (λ x. refl)) h
loans_kept g s (HasBackpressure i pressure) w may known h = insts_loans g w.tasks w.insts _ (table_same w.insts i _ (λ x. refl)) h
loans_kept g s (IsCalled callee call values) w may known h = more_loans g w.insts w.tasks (new_task callee (Host call values) New) tt h
loans_kept g s (Calls number callee subtask words) w may known h =
    let f : Task → Task = λ task. record task { state = AfterCall (length w.tasks) number words } in
    let new : Task = new_task callee (Guest subtask) New in
    more_loans g w.insts (changed_at subtask.by f w.tasks) new
    (record {
      caller = there_front (changed_at subtask.by f w.tasks) new subtask.by (there_changed w.tasks subtask.by subtask.by f may.1);
      stand = λ c e. subst (AllByRecursion (HoldsHandle (table_of_canon w.insts c))) (sym may.5.1) tt;
      given_back = λ over. may.5.1;
    }) (task_loans g w.insts subtask.by f w.tasks (λ x e k. k) h)
loans_kept g s (Acts t) w may known h = task_loans g w.insts t _ w.tasks (λ x e k. k) h
loans_kept g s (Begins n) w may known h = task_loans g w.insts 0 _ w.tasks (λ x e k. k) h
loans_kept g s (Cancels t callee number words) w may known h = task_loans g w.insts t _ w.tasks (λ x e k. k) h
loans_kept g s (Blocks t state) w may known h = task_loans g w.insts t _ w.tasks (λ x e k. k) h
loans_kept g s (Exits t) w may known h = task_loans g w.insts t _ w.tasks (λ x e k. k) h
loans_kept g s (IsRemoved t) w may known h = task_loans g w.insts t _ _ (λ x e k. k) (task_loans g w.insts t (λ task. record task { resolution = Some Cancelled }) w.tasks (λ x e k. k) h)
loans_kept g s (Resolves t resolution) w may known h = task_loans g w.insts t _ w.tasks (λ x e k. k) h
loans_kept g s (IsCancelled t cancellation) w may known h = task_loans g w.insts t _ w.tasks (λ x e k. k) h
loans_kept g s (HasWord t slot word) w may known h = task_loans g w.insts t _ w.tasks (λ x e k. k) h
loans_kept g s (HasNewStack t k) w may known h = task_loans g w.insts t _ w.tasks (λ x e l. l) h
loans_kept g s (HasStack t k) w may known h = task_loans g w.insts t _ w.tasks (λ x e l. l) h
loans_kept g s (LosesStack t) w may known h = task_loans g w.insts t _ w.tasks (λ x e l. l) h
loans_kept g s (IsAnswered t words) w may known h = task_loans g w.insts t _ w.tasks (λ x e l. l) h
loans_kept g s (IsTold t state) w may known h = task_loans g w.insts t _ w.tasks (λ x e k. told_loans g w.tasks w.insts t state x.caller k) h
loans_kept g s (IsLent t handle) w may known h = task_loans g w.insts t _ w.tasks (λ x e k. lent_kept g w t handle may known.none known.holds x e k) h
loans_kept g s (HasResult t words) w may known h = task_loans g w.insts t _ w.tasks (λ x e k. kept_loans g w.tasks w.insts words x.caller k) h
loans_kept g s (MakesChannel kind element) w may known h = beside_made g kind element w h
loans_kept g s (Offers e call) w may known h = beside g e.kind e.number _ w h
loans_kept g s (Transfers e size values) w may known h = beside g e.kind e.number _ _ (beside g e.kind e.number _ w h)
loans_kept g s (Concludes e) w may known h = beside g e.kind e.number _ w h
loans_kept g s (DropsEnd e) w may known h = beside g e.kind e.number _ w h
loans_kept g s (GoesTo control) w may known h = h
loans_kept g s (HasStore store) w may known h = h
loans_kept g s SpendsUnit w may known h = h
loans_kept g s (UsesPicks picks) w may known h = h
loans_kept g s TakesItem w may known h = h
loans_kept g s (ComesBack t) w may known h = h

abbrev Kept : Graph → World → Type 0
Kept g w = HaveHistories w.insts × HoldsNoBorrow w × (CallByOwn g w.tasks → Has g w)

keeps_loans : (g : Graph) (s : Script) (none : PassesNoBorrow g) (c : Change) (w : World) → Comes g s c w → Kept g w → Kept g (after c w)
keeps_loans g s none c w may k = (
  histories_kept g s c w (comes_may g s c w may) k.0,
  holds_kept g s none c w may k.1,
  λ own.
      let before : CallByOwn g w.tasks = own_before g c w own in
      loans_kept g s c w may (record { history = k.0; none = none; holds = k.1; own = before }) (k.2 before),
)

pub first_holds_loans : FirstHoldsLoans
first_holds_loans g = (tt, tt)

pub loans_stay : LoansStay
loans_stay g s w v labels apart none alone o history holds own says called h e =
    (kept_so g s (Kept g) (keeps_loans g s none) w v labels alone (history, holds, λ l. h) e).2 (call_own g v.tasks (by_own_stay g s w v labels apart alone o own says called e))

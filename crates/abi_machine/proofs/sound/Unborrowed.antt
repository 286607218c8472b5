-- Neither the result of a task nor an element holds a borrow, and so it stays.
use Rattle.std.proofs.Common.{◌≡◌, inl, inr, ℕ, zero, suc, true, List, [], ◌∷◌, ◌++◌, length, refl, sym, ap, ◌∙◌, subst, Option, Some, None}
use Rattle.std.specs.List.{slice_get}
use Rattle.syntax_trees.specs.declared.types.ValType.{ValType}
use Rattle.laid_types.specs.Handles.{held_borrow}
use Rattle.builtin_kinds.specs.declared.EndKind.{EndKind}
use Rattle.builtin_kinds.specs.declared.EndKind.TheVariants.{Stream, Future}
use Rattle.tasks.specs.declared.phase.Resolution.TheVariants.{Cancelled}
use Rattle.comp_graph.specs.Graph.{Graph}
use Rattle.script_reader.specs.Script.{Script}
use Rattle.abi_machine.specs.World.{Init, Nobody, Host, Guest, New, Acting, AfterCall, Task, Channel, World, first_world, new_task, new_channel}
use Rattle.abi_machine.specs.Edits.{changed_at, changed_number, with_channel, channel_made}
use Rattle.abi_machine.specs.Reading.{numbered}
use Rattle.abi_machine.specs.sound.Changes.{Change, GoesTo, HasStore, SpendsUnit, UsesPicks, TakesItem, BeginsInstance, AddsEntry, MakesSet, RemovesEntry, RemovesWaitable, LeavesSet, JoinsSet, HasBackpressure, IsCalled, Calls, ComesBack, Acts, Begins, Cancels, Blocks, Exits, IsRemoved, Resolves, IsCancelled, HasWord, HasNewStack, HasStack, LosesStack, IsAnswered, IsTold, IsLent, HasResult, MakesChannel, Offers, Transfers, Concludes, DropsEnd, after}
use Rattle.abi_machine.specs.sound.Premises.{GraphPassesBorrow, ReturnsBorrow, HasBorrowResult, HaveBorrowResult, HaveBorrowElement, Comes}
use Rattle.abi_machine.specs.sound.Firsts.{TaskIs}
use Rattle.abi_machine.specs.sound.Agreeing.{channel_in}
use Rattle.abi_machine.specs.sound.PassedTypes.{PassesNoBorrow, PassNoBorrow, HoldsNoBorrow, FirstHoldsNoBorrow, NoBorrowStays}
use Rattle.abi_machine.proofs.sound.Lists.{changed_either, more_either}
use Rattle.abi_machine.proofs.sound.Found.{some_same}
use Rattle.abi_machine.proofs.sound.Alone.{kept_so}

results_more : (tasks : List Task) (new : Task) → (ReturnsBorrow new.callee → ⊥) → (HaveBorrowResult tasks → ⊥) → HaveBorrowResult (tasks ++ new ∷ []) → ⊥
results_more tasks new none h b = elim (more_either tasks new b.0 b.1.0 b.1.1) [
  | inl old ↦ h (b.0, (b.1.0, old, b.1.2))
  | inr last ↦ none (subst HasBorrowResult last.1 b.1.2)
]

results_changed : (tasks : List Task) (t : ℕ) (f : Task → Task) → ((x : Task) → (f x).callee ≡ x.callee) → (HaveBorrowResult tasks → ⊥) → HaveBorrowResult (changed_at t f tasks) → ⊥
results_changed tasks t f same h b = elim (changed_either t f tasks b.0 b.1.0 b.1.1) [
  | inl new ↦ h (b.0, (new.0, new.1, subst ReturnsBorrow (same new.0) (subst HasBorrowResult new.2 b.1.2)))
  | inr old ↦ h (b.0, (b.1.0, old, b.1.2))
]

task_holds : (w : World) (t : ℕ) (f : Task → Task) → ((x : Task) → (f x).callee ≡ x.callee) → HoldsNoBorrow w → PassNoBorrow (changed_at t f w.tasks) w.streams w.futures
task_holds w t f same h = record { results = results_changed w.tasks t f same h.results; elements = h.elements }

more_holds : (g : Graph) (tasks : List Task) (streams futures : List Channel) (new : Task) → PassesNoBorrow g → (ReturnsBorrow new.callee → GraphPassesBorrow g) → PassNoBorrow tasks streams futures
    → PassNoBorrow (tasks ++ new ∷ []) streams futures
more_holds g tasks streams futures new none may h = record { results = results_more tasks new (λ b. none (may b)) h.results; elements = h.elements }

-- streams and futures, each kind by itself
abbrev HasBorrowIn : List Channel → Type 0
HasBorrowIn all = (n : ℕ) × (c : Channel) × (numbered all n ≡ Some c) × (held_borrow c.element ≡ true)

of_kinds : (streams futures : List Channel) → (HasBorrowIn streams → ⊥) → (HasBorrowIn futures → ⊥) → HaveBorrowElement streams futures → ⊥
of_kinds streams futures one other b = by b.0 b.3
  where
    by : (kind : EndKind) → channel_in kind b.1 streams futures ≡ Some b.2 → ⊥
    by Stream there = one (b.1, b.2, there, b.4)
    by Future there = other (b.1, b.2, there, b.4)

in_streams : (streams futures : List Channel) → (HaveBorrowElement streams futures → ⊥) → HasBorrowIn streams → ⊥
in_streams streams futures h b = h (Stream, b.0, b.1, b.2, b.3)

in_futures : (streams futures : List Channel) → (HaveBorrowElement streams futures → ⊥) → HasBorrowIn futures → ⊥
in_futures streams futures h b = h (Future, b.0, b.1, b.2, b.3)

element_before : (number n : ℕ) (f : Channel → Channel) (all : List Channel) (c : Channel) → ((x : Channel) → (f x).element ≡ x.element) → numbered (changed_number number f all) n ≡ Some c
    → (d : Channel) × (numbered all n ≡ Some d) × (c.element ≡ d.element)
element_before zero n f all c same there = (c, there, refl)
element_before (suc place) zero f all c same there = cc
element_before (suc place) (suc n) f all c same there = elim (changed_either place f all n c there) [
  | inl new ↦ (new.0, new.1, ap (λ (x : Channel). x.element) new.2 ∙ same new.0)
  | inr old ↦ (c, old, refl)
]

in_changed : (number : ℕ) (f : Channel → Channel) (all : List Channel) → ((x : Channel) → (f x).element ≡ x.element) → (HasBorrowIn all → ⊥) → HasBorrowIn (changed_number number f all) → ⊥
in_changed number f all same h b = (let d = element_before number b.0 f all b.1 same b.2 in h (b.0, d.0, d.1, ap held_borrow (sym d.2) ∙ b.3))

in_more : (new : Channel) (all : List Channel) → (held_borrow new.element ≡ true → ⊥) → (HasBorrowIn all → ⊥) → HasBorrowIn (all ++ new ∷ []) → ⊥
in_more new all none h b = by b.0 b.2
  where
    by : (n : ℕ) → numbered (all ++ new ∷ []) n ≡ Some b.1 → ⊥
    by zero there = cc
    by (suc n) there = elim (more_either all new n b.1 there) [
      | inl old ↦ h (suc n, b.1, old, b.3)
      | inr last ↦ none (subst (λ (x : Channel). held_borrow x.element ≡ true) last.1 b.3)
    ]

channel_holds : (kind : EndKind) (number : ℕ) (f : Channel → Channel) (w : World) → ((x : Channel) → (f x).element ≡ x.element) → HoldsNoBorrow w → HoldsNoBorrow (with_channel kind number f w)
channel_holds Stream number f w same h =
    record { results = h.results; elements = of_kinds _ w.futures (in_changed number f w.streams same (in_streams w.streams w.futures h.elements)) (in_futures w.streams w.futures h.elements) }
channel_holds Future number f w same h =
    record { results = h.results; elements = of_kinds w.streams _ (in_streams w.streams w.futures h.elements) (in_changed number f w.futures same (in_futures w.streams w.futures h.elements)) }

made_holds : (kind : EndKind) (element : Option ValType) (w : World) → (held_borrow element ≡ true → ⊥) → HoldsNoBorrow w → HoldsNoBorrow (channel_made kind element w)
made_holds Stream element w none h =
    record { results = h.results; elements = of_kinds _ w.futures (in_more (new_channel element) w.streams none (in_streams w.streams w.futures h.elements)) (in_futures w.streams w.futures h.elements) }
made_holds Future element w none h =
    record { results = h.results; elements = of_kinds w.streams _ (in_streams w.streams w.futures h.elements) (in_more (new_channel element) w.futures none (in_futures w.streams w.futures h.elements)) }

pub holds_kept : (g : Graph) (s : Script) (none : PassesNoBorrow g) (c : Change) (w : World) → Comes g s c w → HoldsNoBorrow w → HoldsNoBorrow (after c w)
holds_kept g s none (IsCalled callee call values) w may h = more_holds g w.tasks w.streams w.futures (new_task callee (Host call values) New) none may.2 h
holds_kept g s none (Calls number callee subtask words) w may h =
    more_holds g _ w.streams w.futures (new_task callee (Guest subtask) New) none may.6 (task_holds w subtask.by (λ task. record task { state = AfterCall (length w.tasks) number words }) (λ x. refl) h)
holds_kept g s none (Acts t) w may h = task_holds w t _ (λ x. refl) h
holds_kept g s none (Begins n) w may h = task_holds w 0 _ (λ x. refl) h
holds_kept g s none (Cancels t callee number words) w may h = task_holds w t _ (λ x. refl) h
holds_kept g s none (Blocks t state) w may h = task_holds w t _ (λ x. refl) h
holds_kept g s none (Exits t) w may h = task_holds w t _ (λ x. refl) h
holds_kept g s none (Resolves t resolution) w may h = task_holds w t _ (λ x. refl) h
holds_kept g s none (IsCancelled t cancellation) w may h = task_holds w t _ (λ x. refl) h
holds_kept g s none (HasWord t slot word) w may h = task_holds w t _ (λ x. refl) h
holds_kept g s none (HasNewStack t k) w may h = task_holds w t _ (λ x. refl) h
holds_kept g s none (HasStack t k) w may h = task_holds w t _ (λ x. refl) h
holds_kept g s none (LosesStack t) w may h = task_holds w t _ (λ x. refl) h
holds_kept g s none (IsAnswered t words) w may h = task_holds w t _ (λ x. refl) h
holds_kept g s none (IsTold t state) w may h = task_holds w t _ (λ x. refl) h
holds_kept g s none (IsLent t handle) w may h = task_holds w t _ (λ x. refl) h
holds_kept g s none (HasResult t words) w may h = task_holds w t _ (λ x. refl) h
holds_kept g s none (IsRemoved t) w may h = task_holds (after (Resolves t Cancelled) w) t _ (λ x. refl) (task_holds w t (λ task. record task { resolution = Some Cancelled }) (λ x. refl) h)
holds_kept g s none (MakesChannel kind element) w may h = made_holds kind element w (λ b. none (may b)) h
holds_kept g s none (Offers e call) w may h = channel_holds e.kind e.number _ w (λ x. refl) h
holds_kept g s none (Transfers e size values) w may h = channel_holds e.kind e.number _ _ (λ x. refl) (channel_holds e.kind e.number _ w (λ x. refl) h)
holds_kept g s none (Concludes e) w may h = channel_holds e.kind e.number _ w (λ x. refl) h
holds_kept g s none (DropsEnd e) w may h = channel_holds e.kind e.number _ w (λ x. refl) h
holds_kept g s none (GoesTo control) w may h = h
holds_kept g s none (HasStore store) w may h = h
holds_kept g s none SpendsUnit w may h = h
holds_kept g s none (UsesPicks picks) w may h = h
holds_kept g s none TakesItem w may h = h
holds_kept g s none BeginsInstance w may h = h
holds_kept g s none (AddsEntry i entry) w may h = h
holds_kept g s none (MakesSet i set) w may h = h
holds_kept g s none (RemovesEntry i index) w may h = h
holds_kept g s none (RemovesWaitable i index) w may h = h
holds_kept g s none (LeavesSet i index) w may h = h
holds_kept g s none (JoinsSet i index set) w may h = h
holds_kept g s none (HasBackpressure i pressure) w may h = h
holds_kept g s none (ComesBack t) w may h = h

no_results : (task : Task) (n : ℕ) (x : Task) → slice_get (task ∷ []) n ≡ Some x → task ≡ x
no_results task zero x e = some_same e
no_results task (suc n) x e = cc

pub first_holds_no_borrow : FirstHoldsNoBorrow
first_holds_no_borrow g = record { results = λ b. none b.0 b.1; elements = of_kinds [] [] (λ b. nothing b.0 b.1 b.2) (λ b. nothing b.0 b.1 b.2) }
  where
    nothing : (n : ℕ) (c : Channel) → numbered [] n ≡ Some c → ⊥
    nothing zero c there = cc
    nothing (suc n) c there = cc

    of_init : ReturnsBorrow Init → ⊥
    of_init b = (let none : None ≡ Some b.0 = b.1 in cc)

    none : (n : ℕ) → TaskIs (first_world g).tasks n HasBorrowResult → ⊥
    none n b = of_init (subst HasBorrowResult (sym (no_results (new_task Init Nobody Acting) n b.0 b.1)) b.2)

pub no_borrow_stays : NoBorrowStays
no_borrow_stays g s w v labels none alone h e = kept_so g s HoldsNoBorrow (holds_kept g s none) w v labels alone h e

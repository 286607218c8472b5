-- Where all is instantiated, it stays so in every step.
use Rattle.std.proofs.Common.{◌≡◌, ℕ, zero, suc, Bool, true, false, List, [], ◌∷◌, ◌++◌, length, refl, sym, subst, ◌∙◌, Some}
use Rattle.tasks.specs.declared.phase.Resolution.TheVariants.{Cancelled}
use Rattle.comp_graph.specs.Graph.{Graph}
use Rattle.script_reader.specs.Script.{Script}
use Rattle.trace_labels.specs.declared.label.Label.{Label}
use Rattle.abi_machine.specs.World.{Host, Guest, TaskState, New, AfterCall, Task, World, new_task}
use Rattle.abi_machine.specs.Edits.{changed_at}
use Rattle.abi_machine.specs.Reading.{has_exited, is_instantiated}
use Rattle.abi_machine.specs.Turn.{Steps}
use Rattle.abi_machine.specs.Next.{next}
use Rattle.abi_machine.specs.sound.Changes.{Change, GoesTo, HasStore, SpendsUnit, UsesPicks, TakesItem, BeginsInstance, AddsEntry, MakesSet, RemovesEntry, RemovesWaitable, LeavesSet, JoinsSet, HasBackpressure, IsCalled, Calls, ComesBack, Acts, Begins, Cancels, Blocks, Exits, IsRemoved, Resolves, IsCancelled, HasWord, HasNewStack, HasStack, LosesStack, IsAnswered, IsTold, IsLent, HasResult, MakesChannel, Offers, Transfers, Concludes, DropsEnd, after, MayCome}
use Rattle.abi_machine.specs.sound.Initial.{RunsAlone}
use Rattle.abi_machine.proofs.sound.Aside.{channel_kept, made_kept}
use Rattle.abi_machine.proofs.sound.Alone.{free_changed, runs_later, acts_later, Alone, stands_alone, kept_alone}

-- One more task, and one that is changed but for its state.
more_started : (tasks : List Task) (new : Task) → is_instantiated tasks ≡ true → is_instantiated (tasks ++ new ∷ []) ≡ true
more_started [] new e = cc
more_started (x ∷ tasks) new e = e

same_started : (t : ℕ) (f : Task → Task) (tasks : List Task) → ((x : Task) → (f x).state ≡ x.state) → is_instantiated tasks ≡ true → is_instantiated (changed_at t f tasks) ≡ true
same_started t f [] same e = e
same_started zero f (x ∷ tasks) same e = subst (λ (state : TaskState). has_exited state ≡ true) (sym (same x)) e
same_started (suc t) f (x ∷ tasks) same e = e

abbrev Has : World → Type 0
Has w = is_instantiated w.tasks ≡ true

pub started_kept : (g : Graph) (s : Script) (c : Change) (w : World) → MayCome g s c w → Alone w → Has w → Has (after c w)
started_kept g s (IsCalled callee call values) w may alone h = more_started w.tasks (new_task callee (Host call values) New) h
started_kept g s (Calls number callee subtask words) w may alone h =
    more_started _ (new_task callee (Guest subtask) New)
    (free_changed w.tasks subtask.by (λ x. record x { state = AfterCall (length w.tasks) number words }) (acts_later w.tasks w.chain alone subtask.by may.2 h) h)
started_kept g s (Acts t) w may alone h = free_changed w.tasks t _ (acts_later w.tasks w.chain alone t may h) h
started_kept g s (Begins n) w may alone h = free_changed w.tasks 0 _ (acts_later w.tasks w.chain alone 0 may h) h
started_kept g s (Cancels t callee number words) w may alone h = free_changed w.tasks t _ (acts_later w.tasks w.chain alone t may.0 h) h
started_kept g s (Blocks t state) w may alone h = free_changed w.tasks t _ (acts_later w.tasks w.chain alone t may.0 h) h
started_kept g s (Exits t) w may alone h = free_changed w.tasks t _ (acts_later w.tasks w.chain alone t may h) h
started_kept g s (IsRemoved t) w may alone h =
    free_changed _ t _ (runs_later w.tasks w.chain alone t may) (same_started t (λ x. record x { resolution = Some Cancelled }) w.tasks (λ x. refl) h)
started_kept g s (Resolves t resolution) w may alone h = same_started t _ w.tasks (λ x. refl) h
started_kept g s (IsCancelled t cancellation) w may alone h = same_started t _ w.tasks (λ x. refl) h
started_kept g s (HasWord t slot word) w may alone h = same_started t _ w.tasks (λ x. refl) h
started_kept g s (HasNewStack t k) w may alone h = same_started t _ w.tasks (λ x. refl) h
started_kept g s (HasStack t k) w may alone h = same_started t _ w.tasks (λ x. refl) h
started_kept g s (LosesStack t) w may alone h = same_started t _ w.tasks (λ x. refl) h
started_kept g s (IsAnswered t words) w may alone h = same_started t _ w.tasks (λ x. refl) h
started_kept g s (IsTold t state) w may alone h = same_started t _ w.tasks (λ x. refl) h
started_kept g s (IsLent t handle) w may alone h = same_started t _ w.tasks (λ x. refl) h
started_kept g s (HasResult t words) w may alone h = same_started t _ w.tasks (λ x. refl) h
started_kept g s (MakesChannel kind element) w may alone h = made_kept Has (λ v x k. k) (λ v x k. k) kind element w h
started_kept g s (Offers e call) w may alone h = channel_kept Has (λ v x k. k) (λ v x k. k) e.kind e.number _ w h
started_kept g s (Transfers e size values) w may alone h = channel_kept Has (λ v x k. k) (λ v x k. k) e.kind e.number _ _ (channel_kept Has (λ v x k. k) (λ v x k. k) e.kind e.number _ w h)
started_kept g s (Concludes e) w may alone h = channel_kept Has (λ v x k. k) (λ v x k. k) e.kind e.number _ w h
started_kept g s (DropsEnd e) w may alone h = channel_kept Has (λ v x k. k) (λ v x k. k) e.kind e.number _ w h
started_kept g s (GoesTo control) w may alone h = h
started_kept g s (HasStore store) w may alone h = h
started_kept g s SpendsUnit w may alone h = h
started_kept g s (UsesPicks picks) w may alone h = h
started_kept g s TakesItem w may alone h = h
started_kept g s BeginsInstance w may alone h = h
started_kept g s (AddsEntry i entry) w may alone h = h
started_kept g s (MakesSet i set) w may alone h = h
started_kept g s (RemovesEntry i index) w may alone h = h
started_kept g s (RemovesWaitable i index) w may alone h = h
started_kept g s (LeavesSet i index) w may alone h = h
started_kept g s (JoinsSet i index set) w may alone h = h
started_kept g s (HasBackpressure i backpressure) w may alone h = h
started_kept g s (ComesBack t) w may alone h = h

pub stays_started : (g : Graph) (s : Script) (w v : World) (labels : List Label) → RunsAlone w → is_instantiated w.tasks ≡ true → next g s w ≡ Steps labels v → is_instantiated v.tasks ≡ true
stays_started g s w v labels alone h e = (kept_alone g s (λ u. Alone u × Has u) (λ c u may k. (stands_alone g s c u may k.0, started_kept g s c u may k.0 k.1)) w v labels alone (alone.0, h) e).1

-- so that what is not yet instantiated was not before
pub yet_before : (g : Graph) (s : Script) (w v : World) (labels : List Label) → RunsAlone w → next g s w ≡ Steps labels v → is_instantiated v.tasks ≡ false → is_instantiated w.tasks ≡ false
yet_before g s w v labels alone e yet = by (is_instantiated w.tasks) refl
  where
    by : (b : Bool) → is_instantiated w.tasks ≡ b → is_instantiated w.tasks ≡ false
    by true h = let clash : true ≡ false = sym (stays_started g s w v labels alone h e) ∙ yet in cc
    by false h = h

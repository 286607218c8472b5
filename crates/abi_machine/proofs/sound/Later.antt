-- Where all is instantiated, the code of the store stays as it is in every step.
use Rattle.std.proofs.Common.{◌≡◌, ◌≤◌, ◌⊎◌, inl, inr, ℕ, true, List, refl, ◌∙◌, arith}
use Rattle.wasm_store.specs.Store.{Store}
use Rattle.comp_graph.specs.Graph.{Graph}
use Rattle.script_reader.specs.Script.{Script}
use Rattle.trace_labels.specs.declared.label.Label.{Label}
use Rattle.abi_machine.specs.World.{World}
use Rattle.abi_machine.specs.Edits.{with_store}
use Rattle.abi_machine.specs.Reading.{is_instantiated}
use Rattle.abi_machine.specs.Turn.{Steps}
use Rattle.abi_machine.specs.Next.{next}
use Rattle.abi_machine.specs.sound.Changes.{Change, GoesTo, HasStore, SpendsUnit, UsesPicks, TakesItem, BeginsInstance, AddsEntry, MakesSet, RemovesEntry, RemovesWaitable, LeavesSet, JoinsSet, HasBackpressure, IsCalled, Calls, ComesBack, Acts, Begins, Cancels, Blocks, Exits, IsRemoved, Resolves, IsCancelled, HasWord, HasNewStack, HasStack, LosesStack, IsAnswered, IsTold, IsLent, HasResult, MakesChannel, Offers, Transfers, Concludes, DropsEnd, after, IsFirst, MayCome}
use Rattle.abi_machine.specs.sound.Initial.{RunsAlone}
use Rattle.abi_machine.specs.sound.Acting.{IsOrdered}
use Rattle.abi_machine.specs.sound.Owners.{IsApart, IsOwnWorld, IsControlOwn}
use Rattle.abi_machine.proofs.sound.Aside.{channel_kept, made_kept}
use Rattle.abi_machine.proofs.sound.Alone.{acts_later, Alone, stands_alone}
use Rattle.abi_machine.proofs.sound.Started.{started_kept}
use Rattle.abi_machine.proofs.sound.Ordered.{in_order}
use Rattle.abi_machine.proofs.sound.own.Tasks.{HasSameCode}
use Rattle.abi_machine.proofs.sound.own.Kept.{own_kept, own_removed}
use Rattle.abi_machine.proofs.sound.known.Keeping.{Owns}
use Rattle.abi_machine.proofs.sound.known.Beside.{beside}
use Rattle.abi_machine.proofs.sound.known.Turning.{step_known}

-- The store has the code that it had.
abbrev Same : Store → World → Type 0
Same s w = HasSameCode s w.store

abbrev Done : World → Type 0
Done w = is_instantiated w.tasks ≡ true

store_kept : (s : Store) (w : World) (store : Store) → Alone w → Done w → HasSameCode w.store store ⊎ IsFirst 0 w.chain → Same s w → Same s (with_store store w)
store_kept s w store alone done (inl same) h = (same.0 ∙ h.0, same.1 ∙ h.1)
store_kept s w store alone done (inr first) h = absurd (let late : 1 ≤ 0 = acts_later w.tasks w.chain alone 0 first done in omega (arith, late))

code_kept : (g : Graph) (s : Store) (c : Change) (w : World) → Owns g c w → Alone w → Done w → Same s w → Same s (after c w)
code_kept g s (HasStore store) w own alone done h = store_kept s w store alone done own.3 h
code_kept g s (MakesChannel kind element) w own alone done h = made_kept (Same s) (λ v x k. k) (λ v x k. k) kind element w h
code_kept g s (Offers e call) w own alone done h = channel_kept (Same s) (λ v x k. k) (λ v x k. k) e.kind e.number _ w h
code_kept g s (Transfers e size values) w own alone done h = channel_kept (Same s) (λ v x k. k) (λ v x k. k) e.kind e.number _ _ (channel_kept (Same s) (λ v x k. k) (λ v x k. k) e.kind e.number _ w h)
code_kept g s (Concludes e) w own alone done h = channel_kept (Same s) (λ v x k. k) (λ v x k. k) e.kind e.number _ w h
code_kept g s (DropsEnd e) w own alone done h = channel_kept (Same s) (λ v x k. k) (λ v x k. k) e.kind e.number _ w h
code_kept g s (GoesTo control) w own alone done h = h
code_kept g s SpendsUnit w own alone done h = h
code_kept g s (UsesPicks picks) w own alone done h = h
code_kept g s TakesItem w own alone done h = h
code_kept g s BeginsInstance w own alone done h = h
code_kept g s (AddsEntry i entry) w own alone done h = h
code_kept g s (MakesSet i set) w own alone done h = h
code_kept g s (RemovesEntry i index) w own alone done h = h
code_kept g s (RemovesWaitable i index) w own alone done h = h
code_kept g s (LeavesSet i index) w own alone done h = h
code_kept g s (JoinsSet i index set) w own alone done h = h
code_kept g s (HasBackpressure i backpressure) w own alone done h = h
code_kept g s (IsCalled callee call values) w own alone done h = h
code_kept g s (Calls number callee subtask words) w own alone done h = h
code_kept g s (ComesBack t) w own alone done h = h
code_kept g s (Acts t) w own alone done h = h
code_kept g s (Begins n) w own alone done h = h
code_kept g s (Cancels t callee number words) w own alone done h = h
code_kept g s (Blocks t state) w own alone done h = h
code_kept g s (Exits t) w own alone done h = h
code_kept g s (IsRemoved t) w own alone done h = h
code_kept g s (Resolves t resolution) w own alone done h = h
code_kept g s (IsCancelled t cancellation) w own alone done h = h
code_kept g s (HasWord t slot word) w own alone done h = h
code_kept g s (HasNewStack t k) w own alone done h = h
code_kept g s (HasStack t k) w own alone done h = h
code_kept g s (LosesStack t) w own alone done h = h
code_kept g s (IsAnswered t words) w own alone done h = h
code_kept g s (IsTold t state) w own alone done h = h
code_kept g s (IsLent t handle) w own alone done h = h
code_kept g s (HasResult t words) w own alone done h = h

-- what each change keeps
record Code (g : Graph) (s : Store) (w : World) : Type 0 where
  alone : Alone w
  done : Done w
  own : IsOwnWorld g w
  same : Same s w

kept : (g : Graph) (script : Script) (s : Store) (c : Change) (w : World) → MayCome g script c w → Owns g c w → Code g s w → Code g s (after c w)
kept g script s c w may own h = record {
  alone = stands_alone g script c w may h.alone;
  done = started_kept g script c w may h.alone h.done;
  own = own_kept g script c w may own h.own;
  same = code_kept g s c w own h.alone h.done h.same;
}

removed : (g : Graph) (script : Script) (s : Store) (t : ℕ) (w : World) → MayCome g script (IsRemoved t) w → Code g s w → Code g s (after (IsRemoved t) w)
removed g script s t w may h = record {
  alone = stands_alone g script (IsRemoved t) w may h.alone;
  done = started_kept g script (IsRemoved t) w may h.alone h.done;
  own = own_removed g t w h.own;
  same = h.same;
}

back : (g : Graph) (script : Script) (s : Store) (t : ℕ) (w : World) → MayCome g script (ComesBack t) w → Code g s w → Code g s (after (ComesBack t) w)
back g script s t w may h = record { alone = stands_alone g script (ComesBack t) w may h.alone; done = h.done; own = h.own; same = h.same }

pub code_stays : (g : Graph) (s : Script) (w v : World) (labels : List Label) → IsApart g → RunsAlone w → IsOrdered w → IsOwnWorld g w → IsControlOwn g w.control w → is_instantiated w.tasks ≡ true → next g s w ≡ Steps labels v
    → HasSameCode w.store v.store
unfolding beside in_order
code_stays g s w v labels apart alone o own says done e =
    (step_known
    (beside g s (in_order g s) ⊥ (Unit {0}) ⊥ ⊥ (Code g w.store) (λ a. apart) (λ event. absurd event) (λ a u k. k.own) (λ c u may b belongs k. kept g s w.store c u may (belongs tt) k) (λ t u may k. back g s w.store t u may k)
    (λ t u may k. removed g s w.store t u may k))
    w v labels (λ none. absurd none) (λ asks. absurd asks) (λ copies. absurd copies) (λ a. says) (λ event. absurd event) alone.1 o.2 ((alone.0, o.0, o.1), record { alone = alone.0; done = done; own = own; same = (refl, refl) }) e).0.1.same

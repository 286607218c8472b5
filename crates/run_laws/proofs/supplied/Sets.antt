-- Each set stands at one index of the table of its instance, and so it stays in every step. So sets stand apart in what is kept.
use Rattle.std.proofs.Common.{◌≡◌, ◌<◌, ◌⊎◌, inl, inr, ℕ, suc, ◌+◌, Bool, true, false, nat_eq, if◌then◌else◌, List, [], ◌∷◌, ◌++◌, length, refl, sym, ap, ◌∙◌, subst, arith, Option, Some, None}
use Rattle.std.specs.List.{slice_get, AllByRecursion}
use Rattle.std.proofs.lemmas.Bool.{eqb-true}
use Rattle.syntax_trees.specs.declared.types.ValType.{ValType}
use Rattle.wasm_store.specs.Stack.{Stack}
use Rattle.wasm_store.proofs.Lists.{all_at}
use Rattle.handle_table.specs.History.{Event, Add, Remove, live, next_index}
use Rattle.waitables.specs.Sets as sets
use Rattle.comp_graph.specs.Graph.{Graph}
use Rattle.script_reader.specs.Script.{Script}
use Rattle.trace_labels.specs.declared.label.Label.{Label}
use Rattle.instances.specs.declared.entry.WorldEntry.TheVariants as entry
use Rattle.instances.specs.Instances.{InstanceView, entry_of}
use Rattle.world_parts.specs.Held.{Held}
use Rattle.abi_machine.specs.World.{Entry, OwnHandle, BorrowHandle, OfSubtask, OfSet, OfEnd, Inst, Task, World, new_inst, first_world}
use Rattle.abi_machine.specs.Edits.{added, by_views, changed_at}
use Rattle.abi_machine.specs.Reading.{table_in, sets_in}
use Rattle.abi_machine.specs.Run.{Reaches}
use Rattle.abi_machine.specs.sound.Changes.{Change, GoesTo, HasStore, SpendsUnit, UsesPicks, TakesItem, BeginsInstance, AddsEntry, MakesSet, RemovesEntry, RemovesWaitable, LeavesSet, JoinsSet, HasBackpressure, IsCalled, Calls, ComesBack, Acts, Begins, Cancels, Blocks, Exits, IsRemoved, Resolves, IsCancelled, HasWord, HasNewStack, HasStack, LosesStack, IsAnswered, IsTold, IsLent, HasResult, MakesChannel, Offers, Transfers, Concludes, DropsEnd, after, IsAdded}
use Rattle.abi_machine.specs.sound.GoingOn.{IsStanding}
use Rattle.abi_machine.specs.sound.Owners.{IsApart}
use Rattle.abi_machine.specs.sound.Premises.{Comes}
use Rattle.abi_machine.proofs.sound.Alone.{kept_so}
use Rattle.abi_machine.proofs.sound.Aside.{made_kept, channel_kept}
use Rattle.abi_machine.proofs.sound.Found.{some_same}
use Rattle.abi_machine.proofs.sound.Lists.{all_changed, all_more, length_changed, length_more}
use Rattle.abi_machine.proofs.sound.Numbered.{removed_before, changed_twice}
use Rattle.abi_machine.proofs.sound.Sets.{left_is, joined_is, left_sets}
use Rattle.abi_machine.proofs.sound.Reached.{first_stands, standing_stays}
use Rattle.standing.specs.MarksKept.{StandOnce}
use Rattle.run_laws.specs.KeptMarks.{SetsApart}
use Rattle.run_laws.specs.Reached.{StandsReached}
use Rattle.run_laws.specs.keeping.Supplied.{SetsAreApart}
use Rattle.run_laws.proofs.supplied.Found.{inst_of, entry_shown}
use Rattle.run_laws.proofs.supplied.Kept.{no_set_is_waited_on_next}

-- The sets in a table were made, and each stands there once.
record SetsOnce (inst : Inst) : Type 0 where
  made : (index set : ℕ) → live inst.table index ≡ Some (OfSet set) → set < length inst.sets
  once : (index other set : ℕ) → live inst.table index ≡ Some (OfSet set) → live inst.table other ≡ Some (OfSet set) → index ≡ other

abbrev Once : List Inst → Type 0
Once insts = AllByRecursion SetsOnce insts

added_at : (x y : Entry) (next index : ℕ) (o : Option Entry) → (if nat_eq next index then Some x else o) ≡ Some y → ((next ≡ index) × (x ≡ y)) ⊎ (o ≡ Some y)
added_at x y next index o e = by (nat_eq next index) refl e
  where
    by : (b : Bool) → nat_eq next index ≡ b → (if b then Some x else o) ≡ Some y → ((next ≡ index) × (x ≡ y)) ⊎ (o ≡ Some y)
    by true is k = inl (eqb-true next index is, some_same k)
    by false is k = inr k

no_set : (tasks : List Task) (x : Entry) (set : ℕ) → IsAdded tasks x → x ≡ OfSet set → ⊥
no_set tasks x set may e = subst (IsAdded tasks) e may

once_added : (tasks : List Task) (x : Entry) (inst : Inst) → IsAdded tasks x → SetsOnce inst → SetsOnce (record inst { table = added x inst.table })
once_added tasks x inst may h =
    let old : (index set : ℕ) → live (added x inst.table) index ≡ Some (OfSet set) → live inst.table index ≡ Some (OfSet set) =
    λ index set e. elim (added_at x (OfSet set) (next_index inst.table) index (live inst.table index) e) [
      | inl new ↦ absurd (no_set tasks x set may new.1)
      | inr o ↦ o
    ] in
    record { made = λ index set e. h.made index set (old index set e); once = λ index other set e f. h.once index other set (old index set e) (old other set f) }

left_length : (index : ℕ) (all : List (List ℕ)) → length (left_sets index all) ≡ length all
left_length index [] = refl
left_length index (members ∷ all) = ap suc (left_length index all)

left_long : (index : ℕ) (all : List (List ℕ)) → length (by_views (sets.left index) all) ≡ length all
left_long index all = ap (λ (l : List (List ℕ)). length l) (left_is index all) ∙ left_length index all

joined_long : (index set : ℕ) (all : List (List ℕ)) → length (by_views (sets.joined index set) all) ≡ length all
joined_long index set all =
    ap (λ (l : List (List ℕ)). length l) (joined_is index set all) ∙ (length_changed set (λ (members : List ℕ). members ++ index ∷ []) (left_sets index all) ∙ left_length index all)

set_same : (a b : ℕ) → OfSet a ≡ OfSet b → a ≡ b
set_same a b e = cc

once_set : (set : ℕ) (inst : Inst) → set ≡ length inst.sets → SetsOnce inst → SetsOnce (record inst { table = added (OfSet set) inst.table; sets = inst.sets ++ [] ∷ [] })
once_set set inst is h =
    let longer : length (inst.sets ++ [] ∷ []) ≡ suc (length inst.sets) = length_more inst.sets [] in
    let next : ℕ = next_index inst.table in
    record {
      made = λ index n e. elim (added_at (OfSet set) (OfSet n) next index (live inst.table index) e) [
        | inl new ↦ (let same : set ≡ n = set_same set n new.1 in omega (arith, same, is, longer))
        | inr old ↦ (let low : n < length inst.sets = h.made index n old in omega (arith, low, longer))
      ];
      once = λ index other n e f. elim (added_at (OfSet set) (OfSet n) next index (live inst.table index) e) [
        | inl new ↦ elim (added_at (OfSet set) (OfSet n) next other (live inst.table other) f) [
          | inl too ↦ sym new.0 ∙ too.0
          | inr old ↦ (let low : n < length inst.sets = h.made other n old in let same : set ≡ n = set_same set n new.1 in absurd (omega (arith, low, same, is)))
        ]
        | inr was ↦ elim (added_at (OfSet set) (OfSet n) next other (live inst.table other) f) [
          | inl new ↦ (let low : n < length inst.sets = h.made index n was in let same : set ≡ n = set_same set n new.1 in absurd (omega (arith, low, same, is)))
          | inr old ↦ h.once index other n was old
        ]
      ];
    }

once_removed : (gone : ℕ) (inst : Inst) → SetsOnce inst → SetsOnce (record inst { table = Remove gone ∷ inst.table })
once_removed gone inst h =
    let old : (index set : ℕ) → live (Remove gone ∷ inst.table) index ≡ Some (OfSet set) → live inst.table index ≡ Some (OfSet set) =
    λ index set e. removed_before (nat_eq gone index) (OfSet set) (live inst.table index) e in
    record { made = λ index set e. h.made index set (old index set e); once = λ index other set e f. h.once index other set (old index set e) (old other set f) }

once_sets : (inst : Inst) (all : List (List ℕ)) → length all ≡ length inst.sets → SetsOnce inst → SetsOnce (record inst { sets = all })
once_sets inst all same h = record { made = λ index set e. (let low : set < length inst.sets = h.made index set e in omega (arith, low, same)); once = h.once }

once_pressure : (inst : Inst) (n : ℕ) → SetsOnce inst → SetsOnce (record inst { backpressure = n })
once_pressure inst n h = record { made = h.made; once = h.once }

no_sets : SetsOnce new_inst
no_sets = record { made = λ index set e. absurd (cc); once = λ index other set e f. absurd (cc) }

changed : (i : ℕ) (f : Inst → Inst) (insts : List Inst) → ((x : Inst) → SetsOnce x → SetsOnce (f x)) → Once insts → Once (changed_at i f insts)
changed i f insts keeps h = all_changed SetsOnce i f insts (λ x e p. keeps x p) h

abbrev Has : World → Type 0
Has w = Once w.insts

sets_kept : (g : Graph) (s : Script) (c : Change) (w : World) → Comes g s c w → Has w → Has (after c w)
sets_kept g s BeginsInstance w may h = all_more SetsOnce w.insts new_inst h no_sets
sets_kept g s (AddsEntry i x) w may h = changed i _ w.insts (λ inst p. once_added w.tasks x inst may.1 p) h
sets_kept g s (MakesSet i set) w may h =
    subst Once (sym (changed_twice i (λ (inst : Inst). record inst { table = added (OfSet set) inst.table }) (λ (inst : Inst). record inst { sets = inst.sets ++ [] ∷ [] }) w.insts))
    (all_changed SetsOnce i (λ inst. record inst { table = added (OfSet set) inst.table; sets = inst.sets ++ [] ∷ [] }) w.insts
    (λ inst e p. once_set set inst (subst (λ (o : Option Inst). set ≡ length (sets_in o)) e may.1) p) h)
sets_kept g s (RemovesEntry i index) w may h = changed i _ w.insts (λ inst p. once_removed index inst p) h
sets_kept g s (RemovesWaitable i index) w may h =
    changed i _ _ (λ inst p. once_sets inst (by_views (sets.left index) inst.sets) (left_long index inst.sets) p) (changed i _ w.insts (λ inst p. once_removed index inst p) h)
sets_kept g s (LeavesSet i index) w may h = changed i _ w.insts (λ inst p. once_sets inst (by_views (sets.left index) inst.sets) (left_long index inst.sets) p) h
sets_kept g s (JoinsSet i index set) w may h = changed i _ w.insts (λ inst p. once_sets inst (by_views (sets.joined index set) inst.sets) (joined_long index set inst.sets) p) h
sets_kept g s (HasBackpressure i n) w may h = changed i _ w.insts (λ inst p. once_pressure inst n p) h
sets_kept g s (IsCalled callee call values) w may h = h
sets_kept g s (Calls number callee subtask words) w may h = h
sets_kept g s (ComesBack t) w may h = h
sets_kept g s (Acts t) w may h = h
sets_kept g s (Begins n) w may h = h
sets_kept g s (Cancels t callee number words) w may h = h
sets_kept g s (Blocks t state) w may h = h
sets_kept g s (Exits t) w may h = h
sets_kept g s (IsRemoved t) w may h = h
sets_kept g s (Resolves t resolution) w may h = h
sets_kept g s (IsCancelled t cancellation) w may h = h
sets_kept g s (HasWord t slot word) w may h = h
sets_kept g s (HasNewStack t k) w may h = h
sets_kept g s (HasStack t k) w may h = h
sets_kept g s (LosesStack t) w may h = h
sets_kept g s (IsAnswered t words) w may h = h
sets_kept g s (IsTold t state) w may h = h
sets_kept g s (IsLent t handle) w may h = h
sets_kept g s (HasResult t words) w may h = h
sets_kept g s (MakesChannel kind element) w may h = made_kept Has (λ v x k. k) (λ v x k. k) kind element w h
sets_kept g s (Offers e call) w may h = channel_kept Has (λ v x k. k) (λ v x k. k) e.kind e.number _ w h
sets_kept g s (Transfers e size values) w may h = channel_kept Has (λ v x k. k) (λ v x k. k) e.kind e.number _ _ (channel_kept Has (λ v x k. k) (λ v x k. k) e.kind e.number _ w h)
sets_kept g s (Concludes e) w may h = channel_kept Has (λ v x k. k) (λ v x k. k) e.kind e.number _ w h
sets_kept g s (DropsEnd e) w may h = channel_kept Has (λ v x k. k) (λ v x k. k) e.kind e.number _ w h
sets_kept g s (GoesTo control) w may h = h
sets_kept g s (HasStore store) w may h = h
sets_kept g s SpendsUnit w may h = h
sets_kept g s (UsesPicks picks) w may h = h
sets_kept g s TakesItem w may h = h

once_from : (g : Graph) (s : Script) (steps : List (List Label)) (w v : World) → IsApart g → IsStanding g s w → Has w → Reaches g s w steps v → Has v
once_from g s [] w v apart k h r = subst Has (sym r) h
once_from g s (labels ∷ steps) w v apart k h r =
    once_from g s steps r.0 v apart (standing_stays g s w r.0 labels apart k r.1) (kept_so g s Has (sets_kept g s) w r.0 labels k.alone h r.1) r.2

pub sets_are_apart : SetsAreApart
sets_are_apart g values s h stacks w at r = record {
  once = λ i here index other set e f. (
      let all : Has w = once_from g s r.steps (first_world g) w r.apart (first_stands g s r.apart) tt r.reached in
      let a = inst_of g values s h stacks w r.stands at i here in
      let own : SetsOnce a.0 = all_at SetsOnce w.insts at a.0 all a.1 in
      let in_table : (n : ℕ) → entry_of i n ≡ Some (entry.Set set) → live a.0.table n ≡ Some (OfSet set) =
      λ n stood. (
      let x = entry_shown g values s h stacks w r.stands at n i (entry.Set set) here stood in
      sym (ap (λ (o : Option Inst). live (table_in o) n) a.1) ∙ x.1 ∙ ap (λ (y : Entry). Some y) x.2
      ) in
      own.once index other set (in_table index e) (in_table other f)
      );
  next = λ i here. no_set_is_waited_on_next g values s h stacks w at i r here;
}

-- Where what is kept stands for a world, tables are sound.
use Rattle.std.proofs.Common.{◌≡◌, ◌≤◌, ℕ, suc, ◌+◌, List, [], ◌∷◌, length, refl, sym, ap, ◌∙◌, subst, arith, Option, Some, None, is_some}
use Rattle.std.specs.List.{slice_get, count_by}
use Rattle.handle_table.specs.Alike.{SlotAlike, SlotsAlike, StandsBy}
use Rattle.handle_table.specs.History.{Event, live, slots_of, freed}
use Rattle.handle_table.specs.Slots.{Slots, entry_at, slots_after}
use Rattle.handle_table.specs.Sound.{AreFree, IsSound}
use Rattle.handle_table.proofs.Alike.{slot_shown, count_shown}
use Rattle.handle_table.proofs.Histories.{slots_seen, left_by}
use Rattle.instances.specs.Instances.{InstanceView}
use Rattle.abi_machine.proofs.sound.Found.{some_same}
use Rattle.standing.specs.Instances.{EntryStands, InstStands}
use Rattle.standing.proofs.Lists.{IsFound, found_left}
use Rattle.run_laws.specs.keeping.Supplied.{TablesAreSound}

same_length : {E A : Type 0} (R : E → A → Type 0) (xs : List (Option E)) (ys : List (Option A)) → SlotsAlike R xs ys → length xs ≡ length ys
same_length R [] [] h = refl
same_length R [] (y ∷ ys) h = absurd h
same_length R (x ∷ xs) [] h = absurd h
same_length R (x ∷ xs) (y ∷ ys) h = ap (λ (n : ℕ). suc n) (same_length R xs ys h.1)

none_alike : {E A : Type 0} (R : E → A → Type 0) (o : Option E) (p : Option A) → SlotAlike R o p → p ≡ None → o ≡ None
none_alike R None p h e = refl
none_alike R (Some x) None h e = absurd h
none_alike R (Some x) (Some y) h e = absurd (cc)

free_alike : {E A : Type 0} (R : E → A → Type 0) (h : List (Event A)) (s : Slots E) (free : List ℕ) → StandsBy R h s → AreFree (slots_of h) free → AreFree s.entries free
free_alike R h s [] st f = tt
free_alike R h s (i ∷ free) st f = (
  record {
    given = f.0.given;
    within = (let within : i ≤ length (slots_of h) = f.0.within in let same : length s.entries ≡ length (slots_of h) = same_length R s.entries (slots_of h) st.alike.slots in omega (arith, within, same));
    empty = none_alike R (entry_at s i) (live h i) (slot_shown R h s i st) (sym (slots_seen h i f.0.given) ∙ f.0.empty);
  },
  f.1,
  free_alike R h s free st f.2,
)

sound_alike : {E A : Type 0} (R : E → A → Type 0) (h : List (Event A)) (s : Slots E) → StandsBy R h s → IsSound s
sound_alike R h s st =
    let sound : IsSound (slots_after h) = (left_by h st.history).sound in
    let lengths : length s.entries ≡ length (slots_of h) = same_length R s.entries (slots_of h) st.alike.slots in
    let counts : count_by is_some s.entries ≡ count_by is_some (slots_of h) = count_shown R h s st in
    let frees : length s.freed ≡ length (freed h) = ap length st.alike.freed in
    record {
      free = subst (λ (free : List ℕ). AreFree s.entries free) (sym st.alike.freed) (free_alike R h s (freed h) st sound.free);
      all = (let all : length (slots_of h) ≡ count_by is_some (slots_of h) + length (freed h) = sound.all in omega (arith, all, lengths, counts, frees));
      small = (let small : length (slots_of h) ≤ 65535 = sound.small in omega (arith, small, lengths));
    }

pub tables_are_sound : TablesAreSound
tables_are_sound g values s h stacks w at st i here =
    let one : IsFound (InstStands values) (slice_get h.instances at) (slice_get w.insts at) = found_left (InstStands values) h.instances w.insts at i st.are_instances here in
    subst (λ (j : InstanceView). IsSound j.slots) (some_same (sym one.is_left ∙ here)) (sound_alike (EntryStands values) one.right.table one.left.slots one.alike.table)

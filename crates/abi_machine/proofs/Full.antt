-- A table that is full: sets that are made one after the other.
use Rattle.std.proofs.Common.{◌≡◌, ◌∙◌, ℕ, zero, suc, ◌+◌, max, Bool, true, false, List, [], ◌∷◌, ◌++◌, length, length-append, Option, Some, is_some, refl, ap, arith}
use Rattle.std.specs.Prelude.{nat_lt, count_by, if◌then◌else◌}
use Rattle.handle_table.specs.History.{Add, without, next_in, live, greatest, freed, next_index, slots_up_to, live_count, most_live}
use Rattle.handle_table.proofs.Histories.{same_slots, event_same, event_other}
use Rattle.handle_table.proofs.Places.{count_push}
use Rattle.trace_labels.specs.declared.trap.TrapName.TheVariants as trap
use Rattle.abi_machine.specs.World.{Entry, OfSet, World}
use Rattle.abi_machine.specs.Turn.{replied, doomed}
use Rattle.abi_machine.specs.replies.Waiting.{set_new_turn}
use Rattle.abi_machine.specs.examples.Sets.{sets_added, sets_made, filled}

none_freed : (n : ℕ) → freed (sets_added n) ≡ []
unfolding sets_added
none_freed zero = refl
none_freed (suc n) = ap (without (suc n)) (none_freed n)

up_to : (n : ℕ) → greatest (sets_added n) ≡ n
unfolding sets_added
up_to zero = refl
up_to (suc n) = ap (λ (k : ℕ). max (suc n) k) (up_to n) ∙ omega arith

next_made : (n : ℕ) → next_index (sets_added n) ≡ suc n
next_made n =
    ap (λ (free : List ℕ). next_in free (greatest (sets_added n))) (none_freed n) ∙ ap (λ (k : ℕ). k + 1) (up_to n) ∙ omega arith

slots_made : (n : ℕ) → count_by is_some (slots_up_to (sets_added n) n) ≡ n
unfolding sets_added
slots_made zero = refl
slots_made (suc n) =
    ap (λ (xs : List (Option Entry)). count_by is_some (xs ++ live (sets_added (suc n)) (suc n) ∷ []))
    (same_slots (sets_added n) (sets_added (suc n)) n
    (λ k l. event_other (suc n) (suc k) (Some (OfSet n)) (live (sets_added n) (suc k)) (λ same. omega arith)))
    ∙ ap (λ (x : Option Entry). count_by is_some (slots_up_to (sets_added n) n ++ x ∷ [])) (event_same (suc n) (Some (OfSet n)) (live (sets_added n) (suc n)))
    ∙ count_push (slots_up_to (sets_added n) n) (Some (OfSet n)) ∙ omega (arith, slots_made n)

counted : (n : ℕ) → live_count (sets_added n) ≡ n
counted n = ap (λ (k : ℕ). count_by is_some (slots_up_to (sets_added n) k)) (up_to n) ∙ slots_made n

made_length : (n : ℕ) → length (sets_made n) ≡ n
unfolding sets_made
made_length zero = refl
made_length (suc n) = length-append (sets_made n) ([] ∷ []) ∙ omega (arith, made_length n)

-- one more, with this index and this number
abbrev one_more : ℕ → World → ℕ → ℕ → World
one_more n w index number =
    record w { insts = record { table = Add index (OfSet number) ∷ sets_added n; sets = sets_made n ++ [] ∷ []; backpressure = 0 } ∷ [] }

pub made_one : (n : ℕ) (w : World) → nat_lt n most_live ≡ true → set_new_turn 1 0 (filled n w) ≡ replied 1 (suc n ∷ []) (filled (suc n) w)
unfolding set_new_turn sets_added sets_made
made_one n w few =
    ap (λ (c : ℕ). if nat_lt c most_live then replied 1 (next_index (sets_added n) ∷ []) (one_more n w (next_index (sets_added n)) (length (sets_made n)))
    else doomed 1 trap.TableFull (filled n w)) (counted n)
    ∙ ap (λ (b : Bool). if b then replied 1 (next_index (sets_added n) ∷ []) (one_more n w (next_index (sets_added n)) (length (sets_made n)))
    else doomed 1 trap.TableFull (filled n w)) few
    ∙ ap (λ (k : ℕ). replied 1 (k ∷ []) (one_more n w k (length (sets_made n)))) (next_made n)
    ∙ ap (λ (k : ℕ). replied 1 (suc n ∷ []) (one_more n w (suc n) k)) (made_length n)

pub none_more : (n : ℕ) (w : World) → nat_lt n most_live ≡ false → set_new_turn 1 0 (filled n w) ≡ doomed 1 trap.TableFull (filled n w)
unfolding set_new_turn
none_more n w full =
    ap (λ (c : ℕ). if nat_lt c most_live then replied 1 (next_index (sets_added n) ∷ []) (one_more n w (next_index (sets_added n)) (length (sets_made n)))
    else doomed 1 trap.TableFull (filled n w)) (counted n)
    ∙ ap (λ (b : Bool). if b then replied 1 (next_index (sets_added n) ∷ []) (one_more n w (next_index (sets_added n)) (length (sets_made n)))
    else doomed 1 trap.TableFull (filled n w)) full

-- What is told, and who acts: what is kept well stays so.
use Rattle.std.proofs.Common.{refl}
use Rattle.std.specs.Prelude.{ℕ, ◌+◌, ◌-◌, nat_lt, List, [], ◌∷◌, ◌++◌, length, take}
use Rattle.std.specs.List.{slice_get}
use Rattle.choices.specs.Choosing.{picked, left}
use Rattle.trace_labels.specs.declared.label.Label.{Label}
use Rattle.trace_labels.specs.declared.label.Label.TheVariants as line
use Rattle.world_parts.specs.declared.parts.Rest.TheVariants as rest
use Rattle.world_parts.specs.declared.parts.Flow.TheVariants as flow
use Rattle.world_parts.specs.Held.{Held, Gives, Spent, Stuck}
use Rattle.world_parts.specs.Feed.{acting, at_rest, chained, choice, chosen, got, left_chain, item_taken, rest_behind, spent, told, unchained}
use Rattle.run_laws.specs.keeping.Well.{KeepsWell}
use Rattle.run_laws.proofs.well.Behind.{well_after, well_given, well_if, well_same, well_all, well_from}

pub told_well : (label : Label) (h : Held) → KeepsWell h (told label h)
told_well label h =
    well_all h (record h { labels = h.labels ++ label ∷ [] }) refl

pub chosen_well : (count : ℕ) (h : Held) → KeepsWell h (chosen count h)
chosen_well count h =
    well_after h (told (line.Choose count (picked count h.picks)) (record h { picks = left count h.picks })) (λ done k. Gives (picked count h.picks) k) (well_from h (record h { picks = left count h.picks }) (told (line.Choose count (picked count h.picks)) (record h { picks = left count h.picks })) refl (told_well (line.Choose count (picked count h.picks)) (record h { picks = left count h.picks }))) (λ done k. well_same k)

pub choice_well : (count : ℕ) (h : Held) → KeepsWell h (choice count h)
choice_well count h =
    well_if h (nat_lt 1 count) (chosen count h) (Gives 0 h) (chosen_well count h) (well_same h)

pub acting_well : (h : Held) → KeepsWell h (acting h)
acting_well h =
    well_given h (slice_get h.chain (length h.chain - 1)) (λ t. Gives t h) (λ t is. well_same h)

pub left_chain_well : (h : Held) → KeepsWell h (left_chain h)
left_chain_well h =
    well_if h (nat_lt 0 (length h.chain)) (Gives flow.Rests (at_rest (rest_behind (take (length h.chain - 1) h.chain)) (unchained h))) Stuck
    (well_all h (at_rest (rest_behind (take (length h.chain - 1) h.chain)) (unchained h)) refl) tt

pub got_well : (t : ℕ) (words : List ℕ) (h : Held) → KeepsWell h (got t words h)
got_well t words h =
    well_after h (told (line.Got t words) h) (λ done k. Gives (flow.Now words) (at_rest rest.Runs k)) (told_well (line.Got t words) h) (λ done k. well_all k (at_rest rest.Runs k) refl)

pub chained_well : (t : ℕ) (h : Held) → KeepsWell h (chained t h)
chained_well t h =
    well_all h (record h { chain = h.chain ++ t ∷ [] }) refl

-- A unit is spent, where one is left.
pub spent_well : (h : Held) → KeepsWell h (spent h)
spent_well h =
    well_if h (nat_lt 0 h.left) (Gives (tt {0}) (record h { left = h.left - 1 })) (Spent (record h { left = h.left - 1 })) (well_all h (record h { left = h.left - 1 }) refl) tt

pub item_taken_well : (h : Held) → KeepsWell h (item_taken h)
item_taken_well h =
    well_all h (record h { taken = h.taken + 1 }) refl

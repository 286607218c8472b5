-- What is told, and who acts: lists of tasks stay as they follow from the tasks.
use Rattle.std.proofs.Common.{refl}
use Rattle.std.specs.Prelude.{ℕ, ◌-◌, nat_lt, List, [], ◌∷◌, ◌++◌, length, take}
use Rattle.std.specs.List.{slice_get}
use Rattle.choices.specs.Choosing.{picked, left}
use Rattle.trace_labels.specs.declared.label.Label.{Label}
use Rattle.trace_labels.specs.declared.label.Label.TheVariants as line
use Rattle.world_parts.specs.declared.parts.Rest.TheVariants as rest
use Rattle.world_parts.specs.declared.parts.Flow.TheVariants as flow
use Rattle.world_parts.specs.Held.{Held, Gives, Spent, Stuck}
use Rattle.world_parts.specs.Feed.{acting, at_rest, choice, chosen, got, left_chain, rest_behind, told, unchained, spent}
use Rattle.run_laws.proofs.lists.Same.{ListsBy, lists_after, lists_given, lists_if, lists_same, lists_all, lists_from}

pub told_lists : (label : Label) (h : Held) → ListsBy h (told label h)
told_lists label h =
    lists_all h (record h { labels = h.labels ++ label ∷ [] }) refl refl refl refl refl

pub spent_lists : (h : Held) → ListsBy h (spent h)
spent_lists h =
    lists_if h (nat_lt 0 h.left) (Gives (tt {0}) (record h { left = h.left - 1 })) (Spent (record h { left = h.left - 1 })) (λ s l. l) tt

pub chosen_lists : (count : ℕ) (h : Held) → ListsBy h (chosen count h)
chosen_lists count h =
    lists_after h (told (line.Choose count (picked count h.picks)) (record h { picks = left count h.picks })) (λ done k. Gives (picked count h.picks) k) (lists_from h (record h { picks = left count h.picks }) (told (line.Choose count (picked count h.picks)) (record h { picks = left count h.picks })) refl refl refl refl refl (told_lists (line.Choose count (picked count h.picks)) (record h { picks = left count h.picks }))) (λ done k. lists_same k)

pub choice_lists : (count : ℕ) (h : Held) → ListsBy h (choice count h)
choice_lists count h =
    lists_if h (nat_lt 1 count) (chosen count h) (Gives 0 h) (chosen_lists count h) (lists_same h)

pub acting_lists : (h : Held) → ListsBy h (acting h)
acting_lists h =
    lists_given h (slice_get h.chain (length h.chain - 1)) (λ t. Gives t h) (λ t is. lists_same h)

pub left_chain_lists : (h : Held) → ListsBy h (left_chain h)
left_chain_lists h =
    lists_if h (nat_lt 0 (length h.chain)) (Gives flow.Rests (at_rest (rest_behind (take (length h.chain - 1) h.chain)) (unchained h))) (Stuck) (lists_all h (at_rest (rest_behind (take (length h.chain - 1) h.chain)) (unchained h)) refl refl refl refl refl) tt

pub got_lists : (t : ℕ) (words : List ℕ) (h : Held) → ListsBy h (got t words h)
got_lists t words h =
    lists_after h (told (line.Got t words) h) (λ done k. Gives (flow.Now words) (at_rest rest.Runs k)) (told_lists (line.Got t words) h) (λ done k. lists_all k (at_rest rest.Runs k) refl refl refl refl refl)

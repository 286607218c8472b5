-- What a script gives, lines and the chain leave the marks of gates and of sets as they are.
use Rattle.std.proofs.Common.{◌≡◌, refl}
use Rattle.std.specs.Prelude.{ℕ, ◌+◌, ◌-◌, nat_lt, if◌then◌else◌, List, [], ◌∷◌, ◌++◌, length, take}
use Rattle.std.specs.List.{slice_get}
use Rattle.choices.specs.Choosing.{picked, left}
use Rattle.trace_labels.specs.declared.label.Label.{Label}
use Rattle.trace_labels.specs.declared.label.Label.TheVariants as line
use Rattle.world_parts.specs.declared.parts.Rest.TheVariants as rest
use Rattle.world_parts.specs.declared.parts.Flow.TheVariants as flow
use Rattle.world_parts.specs.Held.{Held, Gives, Spent, Stuck}
use Rattle.world_parts.specs.Feed.{acting, at_rest, chained, choice, chosen, got, item_taken, left_chain, moved, rest_behind, spent, told, unchained}
use Rattle.standing.specs.MarksKept.{StayBy}
use Rattle.standing.proofs.marks.Stays.{stays_after, stays_given, stays_if, stays_same, stays_all, stays_from}

pub told_stays : (label : Label) (h : Held) → StayBy h (told label h)
told_stays label h =
    stays_all h (record h { labels = h.labels ++ label ∷ [] }) refl refl

pub spent_stays : (h : Held) → StayBy h (spent h)
spent_stays h =
    stays_if h (nat_lt 0 h.left) (Gives (tt {0}) (record h { left = h.left - 1 })) (Spent (record h { left = h.left - 1 })) (stays_all h (record h { left = h.left - 1 }) refl refl) tt

pub moved_stays : (h : Held) → StayBy h (moved h)
moved_stays h =
    stays_all h (record h { moves = h.moves + 1 }) refl refl

pub item_taken_stays : (h : Held) → StayBy h (item_taken h)
item_taken_stays h =
    stays_all h (record h { taken = h.taken + 1 }) refl refl

pub chosen_stays : (count : ℕ) (h : Held) → StayBy h (chosen count h)
chosen_stays count h =
    stays_after h (told (line.Choose count (picked count h.picks)) (record h { picks = left count h.picks })) (λ done k. Gives (picked count h.picks) k) (stays_from h (record h { picks = left count h.picks }) (told (line.Choose count (picked count h.picks)) (record h { picks = left count h.picks })) refl refl (told_stays (line.Choose count (picked count h.picks)) (record h { picks = left count h.picks }))) (λ done k. stays_same k)

pub choice_stays : (count : ℕ) (h : Held) → StayBy h (choice count h)
choice_stays count h =
    stays_if h (nat_lt 1 count) (chosen count h) (Gives 0 h) (chosen_stays count h) (stays_same h)

pub acting_stays : (h : Held) → StayBy h (acting h)
acting_stays h =
    stays_given h (slice_get h.chain (length h.chain - 1)) (λ t. Gives t h) (λ t is. stays_same h)

pub chained_stays : (t : ℕ) (h : Held) → StayBy h (chained t h)
chained_stays t h =
    stays_all h (record h { chain = h.chain ++ t ∷ [] }) refl refl

pub left_chain_stays : (h : Held) → StayBy h (left_chain h)
left_chain_stays h =
    stays_if h (nat_lt 0 (length h.chain)) (Gives flow.Rests (at_rest (rest_behind (take (length h.chain - 1) h.chain)) (unchained h))) (Stuck) (stays_all h (at_rest (rest_behind (take (length h.chain - 1) h.chain)) (unchained h)) refl refl) tt

pub got_stays : (t : ℕ) (words : List ℕ) (h : Held) → StayBy h (got t words h)
got_stays t words h =
    stays_after h (told (line.Got t words) h) (λ done k. Gives (flow.Now words) (at_rest rest.Runs k)) (told_stays (line.Got t words) h) (λ done k. stays_all k (at_rest rest.Runs k) refl refl)

-- What a script gives, lines and the chain change neither memories nor core instances, nor ends.
use Rattle.std.proofs.Common.{refl}
use Rattle.std.specs.Prelude.{ℕ, ◌+◌, ◌-◌, nat_lt, List, [], ◌∷◌, ◌++◌, length, take}
use Rattle.std.specs.List.{slice_get}
use Rattle.choices.specs.Choosing.{picked, left}
use Rattle.trace_labels.specs.declared.label.Label.{Label}
use Rattle.trace_labels.specs.declared.label.Label.TheVariants as line
use Rattle.world_parts.specs.declared.parts.Rest.TheVariants as rest
use Rattle.world_parts.specs.declared.parts.Flow.TheVariants as flow
use Rattle.world_parts.specs.Held.{Held, Gives, Spent, Stuck}
use Rattle.world_parts.specs.Feed.{acting, at_rest, chained, choice, chosen, got, item_taken, left_chain, moved, rest_behind, spent, told, unchained}
use Rattle.run_laws.proofs.keeping.still.Still.{Kinds, StillBy, still_after, still_given, still_if, still_same, still_all, still_from}

pub told_still : (W : Kinds) → (label : Label) (h : Held) → StillBy W h (told label h)
told_still W label h =
    still_all W h (record h { labels = h.labels ++ label ∷ [] }) refl refl refl refl refl

pub spent_still : (W : Kinds) → (h : Held) → StillBy W h (spent h)
spent_still W h =
    still_if W h (nat_lt 0 h.left) (Gives (tt {0}) (record h { left = h.left - 1 })) (Spent (record h { left = h.left - 1 })) (still_all W h (record h { left = h.left - 1 }) refl refl refl refl refl) tt

pub moved_still : (W : Kinds) → (h : Held) → StillBy W h (moved h)
moved_still W h =
    still_all W h (record h { moves = h.moves + 1 }) refl refl refl refl refl

pub item_taken_still : (W : Kinds) → (h : Held) → StillBy W h (item_taken h)
item_taken_still W h =
    still_all W h (record h { taken = h.taken + 1 }) refl refl refl refl refl

pub chosen_still : (W : Kinds) → (count : ℕ) (h : Held) → StillBy W h (chosen count h)
chosen_still W count h =
    still_after W h (told (line.Choose count (picked count h.picks)) (record h { picks = left count h.picks })) (λ done k. Gives (picked count h.picks) k) (still_from W h (record h { picks = left count h.picks }) (told (line.Choose count (picked count h.picks)) (record h { picks = left count h.picks })) refl refl refl refl refl (told_still W (line.Choose count (picked count h.picks)) (record h { picks = left count h.picks }))) (λ done k. still_same W k)

pub choice_still : (W : Kinds) → (count : ℕ) (h : Held) → StillBy W h (choice count h)
choice_still W count h =
    still_if W h (nat_lt 1 count) (chosen count h) (Gives 0 h) (chosen_still W count h) (still_same W h)

pub acting_still : (W : Kinds) → (h : Held) → StillBy W h (acting h)
acting_still W h =
    still_given W h (slice_get h.chain (length h.chain - 1)) (λ t. Gives t h) (λ t is. still_same W h)

pub chained_still : (W : Kinds) → (t : ℕ) (h : Held) → StillBy W h (chained t h)
chained_still W t h =
    still_all W h (record h { chain = h.chain ++ t ∷ [] }) refl refl refl refl refl

pub left_chain_still : (W : Kinds) → (h : Held) → StillBy W h (left_chain h)
left_chain_still W h =
    still_if W h (nat_lt 0 (length h.chain)) (Gives flow.Rests (at_rest (rest_behind (take (length h.chain - 1) h.chain)) (unchained h))) (Stuck) (still_all W h (at_rest (rest_behind (take (length h.chain - 1) h.chain)) (unchained h)) refl refl refl refl refl) tt

pub got_still : (W : Kinds) → (t : ℕ) (words : List ℕ) (h : Held) → StillBy W h (got t words h)
got_still W t words h =
    still_after W h (told (line.Got t words) h) (λ done k. Gives (flow.Now words) (at_rest rest.Runs k)) (told_still W (line.Got t words) h) (λ done k. still_all W k (at_rest rest.Runs k) refl refl refl refl refl)

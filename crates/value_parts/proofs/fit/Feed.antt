-- What a script gives, lines and the chain change neither the store nor a table.
use Rattle.std.proofs.Common.{◌≡◌, refl, Some}
use Rattle.std.specs.Prelude.{ℕ, ◌+◌, ◌-◌, nat_lt, nat_eq, if◌then◌else◌, List, [], ◌∷◌, ◌++◌, length, take}
use Rattle.std.specs.List.{slice_get}
use Rattle.choices.specs.Choosing.{picked, left}
use Rattle.trace_labels.specs.declared.label.Label.{Label}
use Rattle.trace_labels.specs.declared.label.Label.TheVariants as line
use Rattle.world_parts.specs.declared.parts.Rest.{Rest}
use Rattle.world_parts.specs.declared.parts.Rest.TheVariants as rest
use Rattle.world_parts.specs.declared.parts.Flow.{Flow}
use Rattle.world_parts.specs.declared.parts.Flow.TheVariants as flow
use Rattle.world_parts.specs.Held.{Held, Done, Gives, Spent, Stuck, after, given}
use Rattle.world_parts.specs.Feed.{acting, at_rest, chained, choice, chosen, got, item_taken, left_chain, moved, rest_behind, spent, told, unchained}
use Rattle.value_parts.proofs.fit.Keeps.{Keeps, KeepsBy, keeps_after, keeps_given, keeps_if, keeps_same, keeps_all, keeps_from, keeps_instance}

pub told_keeps : (label : Label) (h : Held) → KeepsBy h (told label h)
told_keeps label h =
    keeps_all h (record h { labels = h.labels ++ label ∷ [] }) refl refl

pub spent_keeps : (h : Held) → KeepsBy h (spent h)
spent_keeps h =
    keeps_if h (nat_lt 0 h.left) (Gives (tt {0}) (record h { left = h.left - 1 })) (Spent (record h { left = h.left - 1 })) (keeps_all h (record h { left = h.left - 1 }) refl refl) tt

pub moved_keeps : (h : Held) → KeepsBy h (moved h)
moved_keeps h =
    keeps_all h (record h { moves = h.moves + 1 }) refl refl

pub item_taken_keeps : (h : Held) → KeepsBy h (item_taken h)
item_taken_keeps h =
    keeps_all h (record h { taken = h.taken + 1 }) refl refl

pub chosen_keeps : (count : ℕ) (h : Held) → KeepsBy h (chosen count h)
chosen_keeps count h =
    keeps_after h (told (line.Choose count (picked count h.picks)) (record h { picks = left count h.picks })) (λ done k. Gives (picked count h.picks) k) (keeps_from h (record h { picks = left count h.picks }) (told (line.Choose count (picked count h.picks)) (record h { picks = left count h.picks })) refl refl (told_keeps (line.Choose count (picked count h.picks)) (record h { picks = left count h.picks }))) (λ done k. keeps_same k)

pub choice_keeps : (count : ℕ) (h : Held) → KeepsBy h (choice count h)
choice_keeps count h =
    keeps_if h (nat_lt 1 count) (chosen count h) (Gives 0 h) (chosen_keeps count h) (keeps_same h)

pub acting_keeps : (h : Held) → KeepsBy h (acting h)
acting_keeps h =
    keeps_given h (slice_get h.chain (length h.chain - 1)) (λ t. Gives t h) (λ t is. keeps_same h)

pub chained_keeps : (t : ℕ) (h : Held) → KeepsBy h (chained t h)
chained_keeps t h =
    keeps_all h (record h { chain = h.chain ++ t ∷ [] }) refl refl

pub left_chain_keeps : (h : Held) → KeepsBy h (left_chain h)
left_chain_keeps h =
    keeps_if h (nat_lt 0 (length h.chain)) (Gives flow.Rests (at_rest (rest_behind (take (length h.chain - 1) h.chain)) (unchained h))) (Stuck) (keeps_all h (at_rest (rest_behind (take (length h.chain - 1) h.chain)) (unchained h)) refl refl) tt

pub got_keeps : (t : ℕ) (words : List ℕ) (h : Held) → KeepsBy h (got t words h)
got_keeps t words h =
    keeps_after h (told (line.Got t words) h) (λ done k. Gives (flow.Now words) (at_rest rest.Runs k)) (told_keeps (line.Got t words) h) (λ done k. keeps_all k (at_rest rest.Runs k) refl refl)

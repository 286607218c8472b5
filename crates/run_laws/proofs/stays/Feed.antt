-- What is told, and who acts: the chain and the number of tasks stay, but where a part rests.
use Rattle.std.proofs.Common.{inl, refl}
use Rattle.std.specs.Prelude.{ℕ, ◌-◌, nat_lt, List, [], ◌∷◌, ◌++◌, length, take}
use Rattle.std.specs.List.{slice_get}
use Rattle.choices.specs.Choosing.{picked, left}
use Rattle.trace_labels.specs.declared.label.Label.{Label}
use Rattle.trace_labels.specs.declared.label.Label.TheVariants as line
use Rattle.world_parts.specs.declared.parts.Rest.TheVariants as rest
use Rattle.world_parts.specs.declared.parts.Flow.TheVariants as flow
use Rattle.world_parts.specs.Held.{Held, Gives, Stuck}
use Rattle.world_parts.specs.Feed.{acting, at_rest, choice, chosen, got, left_chain, rest_behind, told, unchained}
use Rattle.run_laws.proofs.stays.Same.{StaysBy, FlowsBy, stays_after, stays_given, stays_if, stays_same, stays_all, stays_from, flows_after, flows_if, flows_all}

pub told_stays : (label : Label) (h : Held) → StaysBy h (told label h)
told_stays label h =
    stays_all h (record h { labels = h.labels ++ label ∷ [] }) refl refl

pub chosen_stays : (count : ℕ) (h : Held) → StaysBy h (chosen count h)
chosen_stays count h =
    stays_after h (told (line.Choose count (picked count h.picks)) (record h { picks = left count h.picks })) (λ done k. Gives (picked count h.picks) k) (stays_from h (record h { picks = left count h.picks }) (told (line.Choose count (picked count h.picks)) (record h { picks = left count h.picks })) refl refl (told_stays (line.Choose count (picked count h.picks)) (record h { picks = left count h.picks }))) (λ done k. stays_same k)

pub choice_stays : (count : ℕ) (h : Held) → StaysBy h (choice count h)
choice_stays count h =
    stays_if h (nat_lt 1 count) (chosen count h) (Gives 0 h) (chosen_stays count h) (stays_same h)

pub acting_stays : (h : Held) → StaysBy h (acting h)
acting_stays h =
    stays_given h (slice_get h.chain (length h.chain - 1)) (λ t. Gives t h) (λ t is. stays_same h)

pub left_chain_stays : (h : Held) → FlowsBy h (left_chain h)
left_chain_stays h =
    flows_if h (nat_lt 0 (length h.chain)) (Gives flow.Rests (at_rest (rest_behind (take (length h.chain - 1) h.chain)) (unchained h))) (Stuck) (inl refl) tt

pub got_stays : (t : ℕ) (words : List ℕ) (h : Held) → FlowsBy h (got t words h)
got_stays t words h =
    flows_after h (told (line.Got t words) h) (λ done k. Gives (flow.Now words) (at_rest rest.Runs k)) (told_stays (line.Got t words) h) (λ done k. flows_all k (at_rest rest.Runs k) refl refl)

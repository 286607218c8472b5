-- What is told, and who acts: what is given is words, a rest, or a core function that starts.
use Rattle.std.specs.Prelude.{ℕ, ◌-◌, nat_lt, List, length, take}
use Rattle.trace_labels.specs.declared.label.Label.TheVariants as line
use Rattle.world_parts.specs.declared.parts.Rest.TheVariants as rest
use Rattle.world_parts.specs.declared.parts.Flow.TheVariants as flow
use Rattle.world_parts.specs.Held.{Held, Gives, Stuck}
use Rattle.world_parts.specs.Feed.{at_rest, got, left_chain, rest_behind, told, unchained}
use Rattle.run_laws.proofs.plain.Only.{PlainBy, plain_after, plain_if}

pub left_chain_plain : (h : Held) → PlainBy (left_chain h)
left_chain_plain h =
    plain_if (nat_lt 0 (length h.chain)) (Gives flow.Rests (at_rest (rest_behind (take (length h.chain - 1) h.chain)) (unchained h))) (Stuck) tt tt

pub got_plain : (t : ℕ) (words : List ℕ) (h : Held) → PlainBy (got t words h)
got_plain t words h =
    plain_after (told (line.Got t words) h) (λ done k. Gives (flow.Now words) (at_rest rest.Runs k)) (λ done k. tt)

-- Calls by nested code that are answered keep memories, core instances and ends as they are kept.
use Rattle.std.specs.Prelude.{ℕ, List, Option, Some, None}
use Rattle.wasm_execution.specs.Waiting.{Waiting}
use Rattle.comp_graph.specs.declared.graph.CanonFunc.{CanonFunc}
use Rattle.comp_graph.specs.Graph.{Graph}
use Rattle.graph_views.specs.Canons.{canon_at, is_made_in}
use Rattle.graph_views.specs.Names.{builtin_of}
use Rattle.trace_labels.specs.declared.label.Label.TheVariants as line
use Rattle.world_parts.specs.Held.{Held, Gives, Stuck, after, given}
use Rattle.world_parts.specs.Feed.{told}
use Rattle.world_stacks.specs.Piles.{resumed}
use Rattle.world_stacks.specs.Starting.{gives_words}
use Rattle.world_stacks.specs.Exempt.{exempt_answer}
use Rattle.world_stacks.specs.PostReturns.{answer_or_trap, answered, answered_by, answered_in_place, goes_on_with}
use Rattle.run_laws.proofs.keeping.still.Still.{no_kinds, StillBy, still_after, still_given, still_if, still_same, bare_ends}
use Rattle.run_laws.proofs.keeping.still.Exempt.{exempt_answer_still}
use Rattle.run_laws.proofs.keeping.still.Feed.{told_still}

pub answer_or_trap_still : (o : Option (List ℕ)) (h : Held) → StillBy no_kinds h (answer_or_trap o h)
answer_or_trap_still None h =
    bare_ends h h
answer_or_trap_still (Some answer) h =
    still_same no_kinds h

pub answered_by_still : (t : ℕ) (words : List ℕ) (c : CanonFunc) (h : Held) → StillBy no_kinds h (answered_by t words c h)
answered_by_still t words c h =
    still_after no_kinds h (told (line.Do t (builtin_of c) words) h) (λ done k. after (exempt_answer t words c k) (λ answer l. answer_or_trap answer l)) (told_still no_kinds (line.Do t (builtin_of c) words) h) (λ done k. still_after no_kinds k (exempt_answer t words c k) (λ answer l. answer_or_trap answer l) (exempt_answer_still no_kinds t words c k) (λ answer l. answer_or_trap_still answer l))

pub answered_still : (g : Graph) (t : ℕ) (at : ℕ) (number : ℕ) (words : List ℕ) (h : Held) → StillBy no_kinds h (answered g t at number words h)
answered_still g t at number words h =
    still_if no_kinds h (is_made_in g number at) (given (canon_at g number) (λ c. answered_by t words c h)) (Stuck) (still_given no_kinds h (canon_at g number) (λ c. answered_by t words c h) (λ c is. answered_by_still t words c h)) tt

pub goes_on_with_still : (t : ℕ) (number : ℕ) (answer : List ℕ) (w : Waiting) (h : Held) → StillBy no_kinds h (goes_on_with t number answer w h)
goes_on_with_still t number answer w h =
    still_if no_kinds h (gives_words h.store number answer) (given (resumed answer w) (λ k. after (told (line.Got t answer) h) (λ done l. Gives k l))) (Stuck) (still_given no_kinds h (resumed answer w) (λ k. after (told (line.Got t answer) h) (λ done l. Gives k l)) (λ k is. still_after no_kinds h (told (line.Got t answer) h) (λ done l. Gives k l) (told_still no_kinds (line.Got t answer) h) (λ done l. still_same no_kinds l))) tt

pub answered_in_place_still : (g : Graph) (t : ℕ) (at : ℕ) (number : ℕ) (words : List ℕ) (w : Waiting) (h : Held) → StillBy no_kinds h (answered_in_place g t at number words w h)
answered_in_place_still g t at number words w h =
    still_after no_kinds h (answered g t at number words h) (λ answer k. goes_on_with t number answer w k) (answered_still g t at number words h) (λ answer k. goes_on_with_still t number answer w k)

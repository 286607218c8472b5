-- Calls by nested code that are answered: lists of tasks stay as they follow from the tasks.
use Rattle.std.specs.Prelude.{ℕ, List, Option, Some, None}
use Rattle.wasm_execution.specs.Waiting.{Waiting}
use Rattle.comp_graph.specs.declared.graph.CanonFunc.{CanonFunc}
use Rattle.comp_graph.specs.Graph.{Graph}
use Rattle.graph_views.specs.Canons.{canon_at, is_made_in}
use Rattle.graph_views.specs.Names.{builtin_of}
use Rattle.trace_labels.specs.declared.label.Label.TheVariants as line
use Rattle.world_parts.specs.Held.{Held, Gives, Stuck, after, given}
use Rattle.world_parts.specs.Feed.{told}
use Rattle.world_stacks.specs.Piles.{resumed}
use Rattle.world_stacks.specs.Starting.{gives_words}
use Rattle.world_stacks.specs.Exempt.{exempt_answer}
use Rattle.world_stacks.specs.PostReturns.{answer_or_trap, answered, answered_by, answered_in_place, goes_on_with}
use Rattle.run_laws.proofs.lists.Exempt.{exempt_answer_lists}
use Rattle.run_laws.proofs.lists.Feed.{told_lists}
use Rattle.run_laws.proofs.lists.Same.{ListsBy, lists_after, lists_given, lists_if, lists_same}

pub answer_or_trap_lists : (o : Option (List ℕ)) (h : Held) → ListsBy h (answer_or_trap o h)
answer_or_trap_lists None h =
    tt
answer_or_trap_lists (Some answer) h =
    lists_same h

pub answered_by_lists : (t : ℕ) (words : List ℕ) (c : CanonFunc) (h : Held) → ListsBy h (answered_by t words c h)
answered_by_lists t words c h =
    lists_after h (told (line.Do t (builtin_of c) words) h) (λ done k. after (exempt_answer t words c k) (λ answer l. answer_or_trap answer l)) (told_lists (line.Do t (builtin_of c) words) h) (λ done k. lists_after k (exempt_answer t words c k) (λ answer l. answer_or_trap answer l) (exempt_answer_lists t words c k) (λ answer l. answer_or_trap_lists answer l))

pub answered_lists : (g : Graph) (t : ℕ) (at : ℕ) (number : ℕ) (words : List ℕ) (h : Held) → ListsBy h (answered g t at number words h)
answered_lists g t at number words h =
    lists_if h (is_made_in g number at) (given (canon_at g number) (λ c. answered_by t words c h)) (Stuck) (lists_given h (canon_at g number) (λ c. answered_by t words c h) (λ c is. answered_by_lists t words c h)) tt

pub goes_on_with_lists : (t : ℕ) (number : ℕ) (answer : List ℕ) (w : Waiting) (h : Held) → ListsBy h (goes_on_with t number answer w h)
goes_on_with_lists t number answer w h =
    lists_if h (gives_words h.store number answer) (given (resumed answer w) (λ k. after (told (line.Got t answer) h) (λ done l. Gives k l))) (Stuck) (lists_given h (resumed answer w) (λ k. after (told (line.Got t answer) h) (λ done l. Gives k l)) (λ k is. lists_after h (told (line.Got t answer) h) (λ done l. Gives k l) (told_lists (line.Got t answer) h) (λ done l. lists_same l))) tt

pub answered_in_place_lists : (g : Graph) (t : ℕ) (at : ℕ) (number : ℕ) (words : List ℕ) (w : Waiting) (h : Held) → ListsBy h (answered_in_place g t at number words w h)
answered_in_place_lists g t at number words w h =
    lists_after h (answered g t at number words h) (λ answer k. goes_on_with t number answer w k) (answered_lists g t at number words h) (λ answer k. goes_on_with_lists t number answer w k)

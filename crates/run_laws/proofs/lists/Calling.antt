-- Calls of canonical functions: lists of tasks stay as they follow from the tasks.
use Rattle.std.specs.Prelude.{ℕ, List, Option, Some, None}
use Rattle.comp_graph.specs.declared.graph.BuiltinKind.{BuiltinKind}
use Rattle.comp_graph.specs.declared.graph.BuiltinKind.TheVariants as kind
use Rattle.comp_graph.specs.declared.graph.CanonFunc.{CanonFunc}
use Rattle.comp_graph.specs.declared.graph.CanonFunc.TheVariants as canon
use Rattle.comp_graph.specs.Graph.{Graph}
use Rattle.graph_views.specs.Canons.{canon_at}
use Rattle.trace_labels.specs.declared.trap.TrapName.TheVariants as trap
use Rattle.world_parts.specs.Held.{Held, Traps, after, given}
use Rattle.world_parts.specs.Feed.{acting}
use Rattle.world_parts.specs.Slots.{words_of}
use Rattle.world_stacks.specs.Exempt.{exempt_answer}
use Rattle.replies.specs.Seen.{seen}
use Rattle.replies.specs.Replies.{may_leave, begun}
use Rattle.machine_runs.specs.Calling.{allowed, allowed_by, calls, canon_answered, kind_answered}
use Rattle.run_laws.proofs.lists.EndReplies.{end_reply_lists}
use Rattle.run_laws.proofs.lists.Exempt.{exempt_answer_lists}
use Rattle.run_laws.proofs.lists.Replying.{answered_lists, begun_lists}
use Rattle.run_laws.proofs.lists.Feed.{acting_lists, got_lists}
use Rattle.run_laws.proofs.lists.Slots.{words_of_lists}
use Rattle.run_laws.proofs.lists.Waits.{set_wait_lists}
use Rattle.run_laws.proofs.lists.Same.{ListsBy, lists_after, lists_given, lists_if}

pub kind_answered_lists : (g : Graph) (types : List (Option ℕ)) (t : ℕ) (number : ℕ) (c : CanonFunc) (at : ℕ) (x : BuiltinKind) (words : List ℕ) (h : Held) → ListsBy h (kind_answered g types t number c at x words h)
kind_answered_lists g types t number c at (kind.Resource op resource) words h =
    answered_lists g t number c words h
kind_answered_lists g types t number c at (kind.TaskReturn result options) words h =
    answered_lists g t number c words h
kind_answered_lists g types t number c at (kind.Plain op) words h =
    answered_lists g t number c words h
kind_answered_lists g types t number c at (kind.Context op slot) words h =
    answered_lists g t number c words h
kind_answered_lists g types t number c at (kind.Wait op cancellable memory) words h =
    set_wait_lists (seen g) t at number op words h
kind_answered_lists g types t number c at (kind.End of_what element op) words h =
    end_reply_lists g types t number words h

pub canon_answered_lists : (g : Graph) (types : List (Option ℕ)) (t : ℕ) (number : ℕ) (x : CanonFunc) (words : List ℕ) (h : Held) → ListsBy h (canon_answered g types t number x words h)
canon_answered_lists g types t number (canon.Lower l) words h =
    answered_lists g t number (canon.Lower l) words h
canon_answered_lists g types t number (canon.Builtin b) words h =
    kind_answered_lists g types t number (canon.Builtin b) b.instance b.kind words h

pub allowed_by_lists : (g : Graph) (types : List (Option ℕ)) (t : ℕ) (number : ℕ) (c : CanonFunc) (words : List ℕ) (o : Option (List ℕ)) (h : Held) → ListsBy h (allowed_by g types t number c words o h)
allowed_by_lists g types t number c words (Some answer) h =
    got_lists t answer h
allowed_by_lists g types t number c words None h =
    lists_if h (may_leave h) (canon_answered g types t number c words h) (Traps trap.CannotLeave h) (canon_answered_lists g types t number c words h) tt

pub allowed_lists : (g : Graph) (types : List (Option ℕ)) (t : ℕ) (number : ℕ) (c : CanonFunc) (words : List ℕ) (h : Held) → ListsBy h (allowed g types t number c words h)
unfolding allowed
allowed_lists g types t number c words h =
    lists_after h (exempt_answer t words c h) (λ answer k. allowed_by g types t number c words answer k) (exempt_answer_lists t words c h) (λ answer k. allowed_by_lists g types t number c words answer k)

pub calls_lists : (g : Graph) (types : List (Option ℕ)) (number : ℕ) (h : Held) → ListsBy h (calls g types number h)
unfolding calls
calls_lists g types number h =
    lists_after h (acting h) (λ t k. given (canon_at g number) (λ c. after (words_of t k) (λ words l. after (begun t c words l) (λ done m. allowed g types t number c words m)))) (acting_lists h) (λ t k. lists_given k (canon_at g number) (λ c. after (words_of t k) (λ words l. after (begun t c words l) (λ done m. allowed g types t number c words m))) (λ c is. lists_after k (words_of t k) (λ words l. after (begun t c words l) (λ done m. allowed g types t number c words m)) (words_of_lists t k) (λ words l. lists_after l (begun t c words l) (λ done m. allowed g types t number c words m) (begun_lists t c words l) (λ done m. allowed_lists g types t number c words m))))

-- Calls of canonical functions: the chain and the number of tasks stay, but where a part rests.
use Rattle.std.specs.Prelude.{ℕ, List, Option, Some, None}
use Rattle.comp_graph.specs.declared.graph.BuiltinKind.{BuiltinKind}
use Rattle.comp_graph.specs.declared.graph.BuiltinKind.TheVariants as kind
use Rattle.comp_graph.specs.declared.graph.CanonFunc.{CanonFunc}
use Rattle.comp_graph.specs.declared.graph.CanonFunc.TheVariants as canon
use Rattle.comp_graph.specs.Graph.{Graph}
use Rattle.graph_views.specs.Canons.{canon_at}
use Rattle.trace_labels.specs.declared.trap.TrapName.TheVariants as trap
use Rattle.world_parts.specs.Held.{Held, Traps, after, given}
use Rattle.world_parts.specs.Feed.{acting}
use Rattle.world_parts.specs.Slots.{words_of}
use Rattle.world_stacks.specs.Exempt.{exempt_answer}
use Rattle.replies.specs.Seen.{seen}
use Rattle.replies.specs.Replies.{may_leave, begun}
use Rattle.machine_runs.specs.Calling.{allowed, allowed_by, calls, canon_answered, kind_answered}
use Rattle.run_laws.proofs.stays.EndReplies.{end_reply_stays}
use Rattle.run_laws.proofs.stays.Exempt.{exempt_answer_stays}
use Rattle.run_laws.proofs.stays.Replying.{answered_stays, begun_stays}
use Rattle.run_laws.proofs.stays.Feed.{acting_stays, got_stays}
use Rattle.run_laws.proofs.stays.Slots.{words_of_stays}
use Rattle.run_laws.proofs.stays.Waits.{set_wait_stays}
use Rattle.run_laws.proofs.stays.Same.{FlowsBy, flows_after, flows_given, flows_if}

pub kind_answered_stays : (g : Graph) (types : List (Option ℕ)) (t : ℕ) (number : ℕ) (c : CanonFunc) (at : ℕ) (x : BuiltinKind) (words : List ℕ) (h : Held) → FlowsBy h (kind_answered g types t number c at x words h)
kind_answered_stays g types t number c at (kind.Resource op resource) words h =
    answered_stays g t number c words h
kind_answered_stays g types t number c at (kind.TaskReturn result options) words h =
    answered_stays g t number c words h
kind_answered_stays g types t number c at (kind.Plain op) words h =
    answered_stays g t number c words h
kind_answered_stays g types t number c at (kind.Context op slot) words h =
    answered_stays g t number c words h
kind_answered_stays g types t number c at (kind.Wait op cancellable memory) words h =
    set_wait_stays (seen g) t at number op words h
kind_answered_stays g types t number c at (kind.End of_what element op) words h =
    end_reply_stays g types t number words h

pub canon_answered_stays : (g : Graph) (types : List (Option ℕ)) (t : ℕ) (number : ℕ) (x : CanonFunc) (words : List ℕ) (h : Held) → FlowsBy h (canon_answered g types t number x words h)
canon_answered_stays g types t number (canon.Lower l) words h =
    answered_stays g t number (canon.Lower l) words h
canon_answered_stays g types t number (canon.Builtin b) words h =
    kind_answered_stays g types t number (canon.Builtin b) b.instance b.kind words h

pub allowed_by_stays : (g : Graph) (types : List (Option ℕ)) (t : ℕ) (number : ℕ) (c : CanonFunc) (words : List ℕ) (o : Option (List ℕ)) (h : Held) → FlowsBy h (allowed_by g types t number c words o h)
allowed_by_stays g types t number c words (Some answer) h =
    got_stays t answer h
allowed_by_stays g types t number c words None h =
    flows_if h (may_leave h) (canon_answered g types t number c words h) (Traps trap.CannotLeave h) (canon_answered_stays g types t number c words h) tt

pub allowed_stays : (g : Graph) (types : List (Option ℕ)) (t : ℕ) (number : ℕ) (c : CanonFunc) (words : List ℕ) (h : Held) → FlowsBy h (allowed g types t number c words h)
unfolding allowed
allowed_stays g types t number c words h =
    flows_after h (exempt_answer t words c h) (λ answer k. allowed_by g types t number c words answer k) (exempt_answer_stays t words c h) (λ answer k. allowed_by_stays g types t number c words answer k)

pub calls_stays : (g : Graph) (types : List (Option ℕ)) (number : ℕ) (h : Held) → FlowsBy h (calls g types number h)
unfolding calls
calls_stays g types number h =
    flows_after h (acting h) (λ t k. given (canon_at g number) (λ c. after (words_of t k) (λ words l. after (begun t c words l) (λ done m. allowed g types t number c words m)))) (acting_stays h) (λ t k. flows_given k (canon_at g number) (λ c. after (words_of t k) (λ words l. after (begun t c words l) (λ done m. allowed g types t number c words m))) (λ c is. flows_after k (words_of t k) (λ words l. after (begun t c words l) (λ done m. allowed g types t number c words m)) (words_of_stays t k) (λ words l. flows_after l (begun t c words l) (λ done m. allowed g types t number c words m) (begun_stays t c words l) (λ done m. allowed_stays g types t number c words m))))

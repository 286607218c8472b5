-- Calls of canonical functions keep the store typed, and no handle is lent more often.
use Rattle.std.proofs.Common.{◌≡◌, refl}
use Rattle.std.specs.Prelude.{ℕ, if◌then◌else◌, List, Option, Some, None}
use Rattle.comp_graph.specs.declared.graph.BuiltinKind.{BuiltinKind}
use Rattle.comp_graph.specs.declared.graph.BuiltinKind.TheVariants as kind
use Rattle.comp_graph.specs.declared.graph.CanonFunc.{CanonFunc}
use Rattle.comp_graph.specs.declared.graph.CanonFunc.TheVariants as canon
use Rattle.comp_graph.specs.Graph.{Graph}
use Rattle.graph_views.specs.Canons.{canon_at}
use Rattle.trace_labels.specs.declared.trap.TrapName.TheVariants as trap
use Rattle.world_parts.specs.declared.parts.Flow.{Flow}
use Rattle.world_parts.specs.Held.{Held, Done, Traps, after, given}
use Rattle.world_parts.specs.Feed.{acting, got}
use Rattle.world_parts.specs.Slots.{words_of}
use Rattle.world_parts.specs.Waits.{set_wait}
use Rattle.world_stacks.specs.Exempt.{exempt_answer}
use Rattle.replies.specs.Seen.{seen}
use Rattle.replies.specs.Replies.{may_leave, begun, answered}
use Rattle.copy_replies.specs.Replies.{end_reply}
use Rattle.machine_runs.specs.Calling.{allowed, allowed_by, calls, canon_answered, kind_answered}
use Rattle.value_parts.proofs.fit.Keeps.{KeepsBy, keeps_after, keeps_given, keeps_if, keeps_same, keeps_all, keeps_from}
use Rattle.machine_runs.proofs.fit.EndReplies.{end_reply_keeps}
use Rattle.machine_runs.proofs.fit.Exempt.{exempt_answer_keeps}
use Rattle.machine_runs.proofs.fit.Replying.{answered_keeps, begun_keeps}
use Rattle.value_parts.proofs.fit.Feed.{acting_keeps, got_keeps}
use Rattle.value_parts.proofs.fit.Slots.{words_of_keeps}
use Rattle.value_parts.proofs.fit.Waits.{set_wait_keeps}

pub kind_answered_keeps : (g : Graph) (types : List (Option ℕ)) (t : ℕ) (number : ℕ) (c : CanonFunc) (at : ℕ) (x : BuiltinKind) (words : List ℕ) (h : Held) → KeepsBy h (kind_answered g types t number c at x words h)
kind_answered_keeps g types t number c at (kind.Resource op resource) words h =
    answered_keeps g t number c words h
kind_answered_keeps g types t number c at (kind.TaskReturn result options) words h =
    answered_keeps g t number c words h
kind_answered_keeps g types t number c at (kind.Plain op) words h =
    answered_keeps g t number c words h
kind_answered_keeps g types t number c at (kind.Context op slot) words h =
    answered_keeps g t number c words h
kind_answered_keeps g types t number c at (kind.Wait op cancellable memory) words h =
    set_wait_keeps (seen g) t at number op words h
kind_answered_keeps g types t number c at (kind.End of_what element op) words h =
    end_reply_keeps g types t number words h

pub canon_answered_keeps : (g : Graph) (types : List (Option ℕ)) (t : ℕ) (number : ℕ) (x : CanonFunc) (words : List ℕ) (h : Held) → KeepsBy h (canon_answered g types t number x words h)
canon_answered_keeps g types t number (canon.Lower l) words h =
    answered_keeps g t number (canon.Lower l) words h
canon_answered_keeps g types t number (canon.Builtin b) words h =
    kind_answered_keeps g types t number (canon.Builtin b) b.instance b.kind words h

pub allowed_by_keeps : (g : Graph) (types : List (Option ℕ)) (t : ℕ) (number : ℕ) (c : CanonFunc) (words : List ℕ) (o : Option (List ℕ)) (h : Held) → KeepsBy h (allowed_by g types t number c words o h)
allowed_by_keeps g types t number c words (Some answer) h =
    got_keeps t answer h
allowed_by_keeps g types t number c words None h =
    keeps_if h (may_leave h) (canon_answered g types t number c words h) (Traps trap.CannotLeave h) (canon_answered_keeps g types t number c words h) tt

pub allowed_keeps : (g : Graph) (types : List (Option ℕ)) (t : ℕ) (number : ℕ) (c : CanonFunc) (words : List ℕ) (h : Held) → KeepsBy h (allowed g types t number c words h)
unfolding allowed
allowed_keeps g types t number c words h =
    keeps_after h (exempt_answer t words c h) (λ answer k. allowed_by g types t number c words answer k) (exempt_answer_keeps t words c h) (λ answer k. allowed_by_keeps g types t number c words answer k)

pub calls_keeps : (g : Graph) (types : List (Option ℕ)) (number : ℕ) (h : Held) → KeepsBy h (calls g types number h)
unfolding calls
calls_keeps g types number h =
    keeps_after h (acting h) (λ t k. given (canon_at g number) (λ c. after (words_of t k) (λ words l. after (begun t c words l) (λ done m. allowed g types t number c words m)))) (acting_keeps h) (λ t k. keeps_given k (canon_at g number) (λ c. after (words_of t k) (λ words l. after (begun t c words l) (λ done m. allowed g types t number c words m))) (λ c is. keeps_after k (words_of t k) (λ words l. after (begun t c words l) (λ done m. allowed g types t number c words m)) (words_of_keeps t k) (λ words l. keeps_after l (begun t c words l) (λ done m. allowed g types t number c words m) (begun_keeps t c words l) (λ done m. allowed_keeps g types t number c words m))))

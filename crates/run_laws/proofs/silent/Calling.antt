-- Calls of canonical functions: no event is to come next.
use Rattle.std.specs.Prelude.{ℕ, List, Option, Some, None}
use Rattle.comp_graph.specs.declared.graph.BuiltinKind.{BuiltinKind}
use Rattle.comp_graph.specs.declared.graph.BuiltinKind.TheVariants as kind
use Rattle.comp_graph.specs.declared.graph.CanonFunc.{CanonFunc}
use Rattle.comp_graph.specs.declared.graph.CanonFunc.TheVariants as canon
use Rattle.comp_graph.specs.Graph.{Graph}
use Rattle.graph_views.specs.Canons.{canon_at}
use Rattle.trace_labels.specs.declared.trap.TrapName.TheVariants as trap
use Rattle.world_parts.specs.Held.{Held, Traps, after, given}
use Rattle.world_parts.specs.Feed.{acting}
use Rattle.world_parts.specs.Slots.{words_of}
use Rattle.world_stacks.specs.Exempt.{exempt_answer}
use Rattle.replies.specs.Seen.{seen}
use Rattle.replies.specs.Replies.{may_leave, begun}
use Rattle.machine_runs.specs.Calling.{allowed, allowed_by, calls, canon_answered, kind_answered}
use Rattle.run_laws.proofs.silent.EndReplies.{end_reply_silent}
use Rattle.run_laws.proofs.silent.Replying.{answered_silent}
use Rattle.run_laws.proofs.silent.Feed.{got_silent}
use Rattle.run_laws.proofs.silent.Waits.{set_wait_silent}
use Rattle.run_laws.proofs.silent.Silent.{SilentBy, silent_after, silent_given, silent_if}

pub kind_answered_silent : (g : Graph) (types : List (Option ℕ)) (t : ℕ) (number : ℕ) (c : CanonFunc) (at : ℕ) (x : BuiltinKind) (words : List ℕ) (h : Held) → SilentBy (kind_answered g types t number c at x words h)
kind_answered_silent g types t number c at (kind.Resource op resource) words h =
    answered_silent g t number c words h
kind_answered_silent g types t number c at (kind.TaskReturn result options) words h =
    answered_silent g t number c words h
kind_answered_silent g types t number c at (kind.Plain op) words h =
    answered_silent g t number c words h
kind_answered_silent g types t number c at (kind.Context op slot) words h =
    answered_silent g t number c words h
kind_answered_silent g types t number c at (kind.Wait op cancellable memory) words h =
    set_wait_silent (seen g) t at number op words h
kind_answered_silent g types t number c at (kind.End of_what element op) words h =
    end_reply_silent g types t number words h

pub canon_answered_silent : (g : Graph) (types : List (Option ℕ)) (t : ℕ) (number : ℕ) (x : CanonFunc) (words : List ℕ) (h : Held) → SilentBy (canon_answered g types t number x words h)
canon_answered_silent g types t number (canon.Lower l) words h =
    answered_silent g t number (canon.Lower l) words h
canon_answered_silent g types t number (canon.Builtin b) words h =
    kind_answered_silent g types t number (canon.Builtin b) b.instance b.kind words h

pub allowed_by_silent : (g : Graph) (types : List (Option ℕ)) (t : ℕ) (number : ℕ) (c : CanonFunc) (words : List ℕ) (o : Option (List ℕ)) (h : Held) → SilentBy (allowed_by g types t number c words o h)
allowed_by_silent g types t number c words (Some answer) h =
    got_silent t answer h
allowed_by_silent g types t number c words None h =
    silent_if (may_leave h) (canon_answered g types t number c words h) (Traps trap.CannotLeave h) (canon_answered_silent g types t number c words h) tt

pub allowed_silent : (g : Graph) (types : List (Option ℕ)) (t : ℕ) (number : ℕ) (c : CanonFunc) (words : List ℕ) (h : Held) → SilentBy (allowed g types t number c words h)
unfolding allowed
allowed_silent g types t number c words h =
    silent_after (exempt_answer t words c h) (λ answer k. allowed_by g types t number c words answer k) (λ answer k. allowed_by_silent g types t number c words answer k)

pub calls_silent : (g : Graph) (types : List (Option ℕ)) (number : ℕ) (h : Held) → SilentBy (calls g types number h)
unfolding calls
calls_silent g types number h =
    silent_after (acting h) (λ t k. given (canon_at g number) (λ c. after (words_of t k) (λ words l. after (begun t c words l) (λ done m. allowed g types t number c words m)))) (λ t k. silent_given (canon_at g number) (λ c. after (words_of t k) (λ words l. after (begun t c words l) (λ done m. allowed g types t number c words m))) (λ c is. silent_after (words_of t k) (λ words l. after (begun t c words l) (λ done m. allowed g types t number c words m)) (λ words l. silent_after (begun t c words l) (λ done m. allowed g types t number c words m) (λ done m. allowed_silent g types t number c words m))))

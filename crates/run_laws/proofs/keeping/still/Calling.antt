-- Calls of canonical functions keep memories, core instances and ends as they are kept.
use Rattle.std.proofs.Common.{◌≡◌}
use Rattle.std.specs.Prelude.{ℕ, List, Option, Some, None}
use Rattle.comp_graph.specs.declared.graph.BuiltinKind.{BuiltinKind}
use Rattle.comp_graph.specs.declared.graph.BuiltinKind.TheVariants as kind
use Rattle.comp_graph.specs.declared.graph.CanonFunc.{CanonFunc}
use Rattle.comp_graph.specs.declared.graph.CanonFunc.TheVariants as canon
use Rattle.comp_graph.specs.Graph.{Graph}
use Rattle.graph_views.specs.Canons.{canon_at}
use Rattle.trace_labels.specs.declared.trap.TrapName.TheVariants as trap
use Rattle.world_parts.specs.Held.{Held, Traps, after, given}
use Rattle.world_parts.specs.Feed.{acting}
use Rattle.world_parts.specs.Slots.{words_of}
use Rattle.world_stacks.specs.Exempt.{exempt_answer}
use Rattle.replies.specs.Seen.{seen}
use Rattle.replies.specs.Replies.{may_leave, begun}
use Rattle.machine_runs.specs.Calling.{allowed, allowed_by, calls, canon_answered, kind_answered}
use Rattle.builtin_kinds.specs.declared.EndKind.{EndKind}
use Rattle.run_laws.specs.keeping.Still.{TypesFit}
use Rattle.run_laws.proofs.keeping.still.Still.{Kinds, StillBy, still_after, still_given, still_if, ends_same}
use Rattle.run_laws.proofs.keeping.still.EndReplies.{end_reply_still}
use Rattle.run_laws.proofs.keeping.still.Exempt.{exempt_answer_still}
use Rattle.run_laws.proofs.keeping.still.Replying.{answered_still, begun_still}
use Rattle.run_laws.proofs.keeping.still.Feed.{acting_still, got_still}
use Rattle.run_laws.proofs.keeping.still.Slots.{words_of_still}
use Rattle.run_laws.proofs.keeping.still.Waits.{set_wait_still}

pub kind_answered_still : (W : Kinds) → (g : Graph) (types : List (Option ℕ)) (t : ℕ) (number : ℕ) (c : CanonFunc) (at : ℕ) (x : BuiltinKind) (words : List ℕ) (h : Held) → ((K : ℕ → EndKind) → W ≡ Some K → TypesFit g types K) → StillBy W h (kind_answered g types t number c at x words h)
kind_answered_still W g types t number c at (kind.Resource op resource) words h fit =
    answered_still W g t number c words h
kind_answered_still W g types t number c at (kind.TaskReturn result options) words h fit =
    answered_still W g t number c words h
kind_answered_still W g types t number c at (kind.Plain op) words h fit =
    answered_still W g t number c words h
kind_answered_still W g types t number c at (kind.Context op slot) words h fit =
    answered_still W g t number c words h
kind_answered_still W g types t number c at (kind.Wait op cancellable memory) words h fit =
    set_wait_still W (seen g) t at number op words h
kind_answered_still W g types t number c at (kind.End of_what element op) words h fit =
    end_reply_still W g types t number words h fit

pub canon_answered_still : (W : Kinds) → (g : Graph) (types : List (Option ℕ)) (t : ℕ) (number : ℕ) (x : CanonFunc) (words : List ℕ) (h : Held) → ((K : ℕ → EndKind) → W ≡ Some K → TypesFit g types K) → StillBy W h (canon_answered g types t number x words h)
canon_answered_still W g types t number (canon.Lower l) words h fit =
    answered_still W g t number (canon.Lower l) words h
canon_answered_still W g types t number (canon.Builtin b) words h fit =
    kind_answered_still W g types t number (canon.Builtin b) b.instance b.kind words h fit

pub allowed_by_still : (W : Kinds) → (g : Graph) (types : List (Option ℕ)) (t : ℕ) (number : ℕ) (c : CanonFunc) (words : List ℕ) (o : Option (List ℕ)) (h : Held) → ((K : ℕ → EndKind) → W ≡ Some K → TypesFit g types K) → StillBy W h (allowed_by g types t number c words o h)
allowed_by_still W g types t number c words (Some answer) h fit =
    got_still W t answer h
allowed_by_still W g types t number c words None h fit =
    still_if W h (may_leave h) (canon_answered g types t number c words h) (Traps trap.CannotLeave h) (canon_answered_still W g types t number c words h fit) (ends_same W h)

pub allowed_still : (W : Kinds) → (g : Graph) (types : List (Option ℕ)) (t : ℕ) (number : ℕ) (c : CanonFunc) (words : List ℕ) (h : Held) → ((K : ℕ → EndKind) → W ≡ Some K → TypesFit g types K) → StillBy W h (allowed g types t number c words h)
unfolding allowed
allowed_still W g types t number c words h fit =
    still_after W h (exempt_answer t words c h) (λ answer k. allowed_by g types t number c words answer k) (exempt_answer_still W t words c h) (λ answer k. allowed_by_still W g types t number c words answer k fit)

pub calls_still : (W : Kinds) → (g : Graph) (types : List (Option ℕ)) (number : ℕ) (h : Held) → ((K : ℕ → EndKind) → W ≡ Some K → TypesFit g types K) → StillBy W h (calls g types number h)
unfolding calls
calls_still W g types number h fit =
    still_after W h (acting h) (λ t k. given (canon_at g number) (λ c. after (words_of t k) (λ words l. after (begun t c words l) (λ done m. allowed g types t number c words m)))) (acting_still W h) (λ t k. still_given W k (canon_at g number) (λ c. after (words_of t k) (λ words l. after (begun t c words l) (λ done m. allowed g types t number c words m))) (λ c is. still_after W k (words_of t k) (λ words l. after (begun t c words l) (λ done m. allowed g types t number c words m)) (words_of_still W t k) (λ words l. still_after W l (begun t c words l) (λ done m. allowed g types t number c words m) (begun_still W t c words l) (λ done m. allowed_still W g types t number c words m fit))))

-- Calls of canonical functions (Component Model, CanonicalABI.md, "Canonical Definitions"; "Component Instance State": `may_leave`): the line
-- comes first. But for words of context and representations none may be called before all is instantiated. Of each canonical function the
-- number of the type of its ends is said, where it has ends, as a graph has it.
use Rattle.std.specs.Prelude.{ℕ, if◌then◌else◌, List, Option, Some, None}
use Rattle.comp_graph.specs.declared.graph.BuiltinKind.{BuiltinKind}
use Rattle.comp_graph.specs.declared.graph.BuiltinKind.TheVariants as kind
use Rattle.comp_graph.specs.declared.graph.CanonFunc.{CanonFunc}
use Rattle.comp_graph.specs.declared.graph.CanonFunc.TheVariants as canon
use Rattle.comp_graph.specs.Graph.{Graph}
use Rattle.graph_views.specs.Canons.{canon_at}
use Rattle.trace_labels.specs.declared.trap.TrapName.TheVariants as trap
use Rattle.world_parts.specs.declared.parts.Flow.{Flow}
use Rattle.world_parts.specs.Held.{Held, Done, Traps, after, given}
use Rattle.world_parts.specs.Feed.{acting, got}
use Rattle.world_parts.specs.Slots.{words_of}
use Rattle.world_parts.specs.Waits.{set_wait}
use Rattle.world_stacks.specs.Exempt.{exempt_answer}
use Rattle.replies.specs.Seen.{seen}
use Rattle.replies.specs.Replies.{may_leave, begun, answered}
use Rattle.copy_replies.specs.Replies.{end_reply}

-- What a canonical function answers a task: a built-in that an instance made, or a function that is lowered.
abbrev pub kind_answered : Graph → List (Option ℕ) → ℕ → ℕ → CanonFunc → ℕ → BuiltinKind → List ℕ → Held → Done Flow
kind_answered g types t number c at (kind.Resource op resource) words h = answered g t number c words h
kind_answered g types t number c at (kind.TaskReturn result options) words h = answered g t number c words h
kind_answered g types t number c at (kind.Plain op) words h = answered g t number c words h
kind_answered g types t number c at (kind.Context op slot) words h = answered g t number c words h
kind_answered g types t number c at (kind.Wait op cancellable memory) words h = set_wait (seen g) t at number op words h
kind_answered g types t number c at (kind.End of_what element op) words h = end_reply g types t number words h

abbrev pub canon_answered : Graph → List (Option ℕ) → ℕ → ℕ → CanonFunc → List ℕ → Held → Done Flow
canon_answered g types t number (canon.Lower l) words h = answered g t number (canon.Lower l) words h
canon_answered g types t number (canon.Builtin b) words h = kind_answered g types t number (canon.Builtin b) b.instance b.kind words h

-- Words of context and representations are answered also where the instance may not be left, and no other function is.
abbrev pub allowed_by : Graph → List (Option ℕ) → ℕ → ℕ → CanonFunc → List ℕ → Option (List ℕ) → Held → Done Flow
allowed_by g types t number c words (Some answer) h = got t answer h
allowed_by g types t number c words None h = if may_leave h then canon_answered g types t number c words h else Traps trap.CannotLeave h

unfoldable pub allowed : Graph → List (Option ℕ) → ℕ → ℕ → CanonFunc → List ℕ → Held → Done Flow
allowed g types t number c words h = after (exempt_answer t words c h) (λ answer k. allowed_by g types t number c words answer k)

-- The acting task calls the canonical function of a number, with the words that it keeps.
unfoldable pub calls : Graph → List (Option ℕ) → ℕ → Held → Done Flow
calls g types number h =
    after (acting h) (λ t k. given (canon_at g number) (λ c. after (words_of t k) (λ words l. after (begun t c words l) (λ done m.
    allowed g types t number c words m))))

-- Words of context and representations that are answered keep memories, core instances and ends as they are kept.
use Rattle.std.specs.Prelude.{ℕ, List, [], ◌∷◌, Some}
use Rattle.builtin_kinds.specs.declared.ContextOp.{ContextOp}
use Rattle.builtin_kinds.specs.declared.ContextOp.TheVariants as context_op
use Rattle.builtin_kinds.specs.declared.ResourceOp.{ResourceOp}
use Rattle.builtin_kinds.specs.declared.ResourceOp.TheVariants as resource_op
use Rattle.comp_graph.specs.declared.graph.BuiltinKind.{BuiltinKind}
use Rattle.comp_graph.specs.declared.graph.BuiltinKind.TheVariants as kind
use Rattle.comp_graph.specs.declared.graph.CanonFunc.{CanonFunc}
use Rattle.comp_graph.specs.declared.graph.CanonFunc.TheVariants as canon
use Rattle.world_parts.specs.Held.{Held, Gives, after}
use Rattle.world_parts.specs.Slots.{context_of, context_set}
use Rattle.world_parts.specs.Entries.{rep_found}
use Rattle.world_stacks.specs.Exempt.{builtin_answer, context_answer, exempt_answer, first_word, resource_answer}
use Rattle.run_laws.proofs.keeping.still.Still.{Kinds, StillBy, still_after, still_given, still_same}
use Rattle.run_laws.proofs.keeping.still.Entries.{rep_found_still}
use Rattle.run_laws.proofs.keeping.still.Slots.{context_of_still, context_set_still}

pub context_answer_still : (W : Kinds) → (t : ℕ) (words : List ℕ) (x : ContextOp) (slot : ℕ) (h : Held) → StillBy W h (context_answer t words x slot h)
context_answer_still W t words context_op.Get slot h =
    still_after W h (context_of t slot h) (λ word k. Gives (Some (word ∷ [])) k) (context_of_still W t slot h) (λ word k. still_same W k)
context_answer_still W t words context_op.Set slot h =
    still_given W h (first_word words) (λ word. after (context_set t slot word h) (λ done k. Gives (Some []) k)) (λ word is. still_after W h (context_set t slot word h) (λ done k. Gives (Some []) k) (context_set_still W t slot word h) (λ done k. still_same W k))

pub resource_answer_still : (W : Kinds) → (at : ℕ) (words : List ℕ) (x : ResourceOp) (resource : ℕ) (h : Held) → StillBy W h (resource_answer at words x resource h)
resource_answer_still W at words resource_op.New resource h =
    still_same W h
resource_answer_still W at words resource_op.Drop resource h =
    still_same W h
resource_answer_still W at words resource_op.Rep resource h =
    still_given W h (first_word words) (λ index. after (rep_found at index resource h) (λ rep k. Gives (Some (rep ∷ [])) k)) (λ index is. still_after W h (rep_found at index resource h) (λ rep k. Gives (Some (rep ∷ [])) k) (rep_found_still W at index resource h) (λ rep k. still_same W k))

pub builtin_answer_still : (W : Kinds) → (t : ℕ) (words : List ℕ) (at : ℕ) (x : BuiltinKind) (h : Held) → StillBy W h (builtin_answer t words at x h)
builtin_answer_still W t words at (kind.Resource op resource) h =
    resource_answer_still W at words op resource h
builtin_answer_still W t words at (kind.TaskReturn result options) h =
    still_same W h
builtin_answer_still W t words at (kind.Plain op) h =
    still_same W h
builtin_answer_still W t words at (kind.Context op slot) h =
    context_answer_still W t words op slot h
builtin_answer_still W t words at (kind.Wait op cancellable memory) h =
    still_same W h
builtin_answer_still W t words at (kind.End of_what element op) h =
    still_same W h

pub exempt_answer_still : (W : Kinds) → (t : ℕ) (words : List ℕ) (x : CanonFunc) (h : Held) → StillBy W h (exempt_answer t words x h)
exempt_answer_still W t words (canon.Lower l) h =
    still_same W h
exempt_answer_still W t words (canon.Builtin b) h =
    builtin_answer_still W t words b.instance b.kind h

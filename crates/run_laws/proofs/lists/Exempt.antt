-- Words of context and representations that are answered: lists of tasks stay as they follow from the tasks.
use Rattle.std.specs.Prelude.{ℕ, List, [], ◌∷◌, Some}
use Rattle.builtin_kinds.specs.declared.ContextOp.{ContextOp}
use Rattle.builtin_kinds.specs.declared.ContextOp.TheVariants as context_op
use Rattle.builtin_kinds.specs.declared.ResourceOp.{ResourceOp}
use Rattle.builtin_kinds.specs.declared.ResourceOp.TheVariants as resource_op
use Rattle.comp_graph.specs.declared.graph.BuiltinKind.{BuiltinKind}
use Rattle.comp_graph.specs.declared.graph.BuiltinKind.TheVariants as kind
use Rattle.comp_graph.specs.declared.graph.CanonFunc.{CanonFunc}
use Rattle.comp_graph.specs.declared.graph.CanonFunc.TheVariants as canon
use Rattle.world_parts.specs.Held.{Held, Gives, after}
use Rattle.world_parts.specs.Slots.{context_of, context_set}
use Rattle.world_parts.specs.Entries.{rep_found}
use Rattle.world_stacks.specs.Exempt.{builtin_answer, context_answer, exempt_answer, first_word, resource_answer}
use Rattle.run_laws.proofs.lists.Entries.{rep_found_lists}
use Rattle.run_laws.proofs.lists.Slots.{context_of_lists, context_set_lists}
use Rattle.run_laws.proofs.lists.Same.{ListsBy, lists_after, lists_given, lists_same}

pub context_answer_lists : (t : ℕ) (words : List ℕ) (x : ContextOp) (slot : ℕ) (h : Held) → ListsBy h (context_answer t words x slot h)
context_answer_lists t words context_op.Get slot h =
    lists_after h (context_of t slot h) (λ word k. Gives (Some (word ∷ [])) k) (context_of_lists t slot h) (λ word k. lists_same k)
context_answer_lists t words context_op.Set slot h =
    lists_given h (first_word words) (λ word. after (context_set t slot word h) (λ done k. Gives (Some []) k)) (λ word is. lists_after h (context_set t slot word h) (λ done k. Gives (Some []) k) (context_set_lists t slot word h) (λ done k. lists_same k))

pub resource_answer_lists : (at : ℕ) (words : List ℕ) (x : ResourceOp) (resource : ℕ) (h : Held) → ListsBy h (resource_answer at words x resource h)
resource_answer_lists at words resource_op.New resource h =
    lists_same h
resource_answer_lists at words resource_op.Drop resource h =
    lists_same h
resource_answer_lists at words resource_op.Rep resource h =
    lists_given h (first_word words) (λ index. after (rep_found at index resource h) (λ rep k. Gives (Some (rep ∷ [])) k)) (λ index is. lists_after h (rep_found at index resource h) (λ rep k. Gives (Some (rep ∷ [])) k) (rep_found_lists at index resource h) (λ rep k. lists_same k))

pub builtin_answer_lists : (t : ℕ) (words : List ℕ) (at : ℕ) (x : BuiltinKind) (h : Held) → ListsBy h (builtin_answer t words at x h)
builtin_answer_lists t words at (kind.Resource op resource) h =
    resource_answer_lists at words op resource h
builtin_answer_lists t words at (kind.TaskReturn result options) h =
    lists_same h
builtin_answer_lists t words at (kind.Plain op) h =
    lists_same h
builtin_answer_lists t words at (kind.Context op slot) h =
    context_answer_lists t words op slot h
builtin_answer_lists t words at (kind.Wait op cancellable memory) h =
    lists_same h
builtin_answer_lists t words at (kind.End of_what element op) h =
    lists_same h

pub exempt_answer_lists : (t : ℕ) (words : List ℕ) (x : CanonFunc) (h : Held) → ListsBy h (exempt_answer t words x h)
exempt_answer_lists t words (canon.Lower l) h =
    lists_same h
exempt_answer_lists t words (canon.Builtin b) h =
    builtin_answer_lists t words b.instance b.kind h
